-- Bytes that are pending while more are put to them, and when they are written.
use Rattle.pl0_tool.proofs.Common.{[], ap, append-nil, append_assoc, AppendsPart, arith, Err, FailsIn, Holds, List, MatchResult, Ok, Output, refl, Result, subst, sym, WritesAll, ℕ, ◌++◌, ◌<◌, ◌∙◌, ◌≡◌}
use Rattle.byte_streams.specs.Streams.{Appends}
use Rattle.byte_streams.proofs.Appending.{appends_none, appends_both}

-- bytes were written, and then others
pub writes_both : (before mid later : Output) (first next : List ℕ) → WritesAll first before mid
    → WritesAll next mid later → WritesAll (first ++ next) before later
writes_both before mid later first next one two =
    (appends_both before.written mid.written later.written first next one.0 two.0, two.1 ∙ one.1)

-- bytes were written, and then a prefix of others
pub writes_and_fails : (before mid later : Output) (first next : List ℕ) → WritesAll first before mid
    → FailsIn next mid later → FailsIn (first ++ next) before later
writes_and_fails before mid later first next one fails =
    let part = fails.0 in
    let rest = part.2 in (
      (
        first ++ part.0,
        appends_both before.written mid.written later.written first part.0 one.0 part.1,
        (rest.0, append_assoc first part.0 rest.0 ∙ ap (λ l. first ++ l) rest.1),
      ),
      (let fewer = fails.1 in let same = one.1 in omega (arith, fewer, same)),
    )

-- what was pending is written
pub holds_flushed : (before now later : Output) (pending left text : List ℕ) → Holds before now pending text
    → WritesAll pending now later → left ≡ [] → Holds before later left text
holds_flushed before now later pending left text held wrote empty = record {
  flushed = text;
  appended = subst (Appends before.written later.written) held.joined
      (appends_both before.written now.written later.written held.flushed pending held.appended wrote.0);
  joined = ap (λ l. text ++ l) empty ∙ append-nil text;
  kept = wrote.1 ∙ held.kept;
}

-- what was pending is written, and more after it
pub holds_written : (before now mid later : Output) (pending left text bytes : List ℕ) → Holds before now pending text
    → WritesAll pending now mid → WritesAll bytes mid later → left ≡ [] → Holds before later left (text ++ bytes)
holds_written before now mid later pending left text bytes held first next empty =
    let flushed = holds_flushed before now mid pending [] text held first refl in record {
      flushed = text ++ bytes;
      appended = appends_both before.written mid.written later.written text bytes
          (subst (Appends before.written mid.written) (sym (append-nil flushed.flushed) ∙ flushed.joined)
          flushed.appended) next.0;
      joined = ap (λ l. (text ++ bytes) ++ l) empty ∙ append-nil (text ++ bytes);
      kept = next.1 ∙ flushed.kept;
    }

-- the output failed while what was pending was written
pub holds_failed : (before now later : Output) (pending text bytes : List ℕ) → Holds before now pending text
    → FailsIn pending now later → FailsIn (text ++ bytes) before later
holds_failed before now later pending text bytes held fails =
    let part = fails.0 in
    let rest = part.2 in (
      (
        held.flushed ++ part.0,
        appends_both before.written now.written later.written held.flushed part.0 held.appended part.1,
        (
          rest.0 ++ bytes,
          append_assoc held.flushed part.0 (rest.0 ++ bytes)
              ∙ ap (λ l. held.flushed ++ l) (sym (append_assoc part.0 rest.0 bytes) ∙ ap (λ l. l ++ bytes) rest.1)
              ∙ sym (append_assoc held.flushed pending bytes)
              ∙ ap (λ l. l ++ bytes) held.joined,
        ),
      ),
      (let fewer = fails.1 in let same = held.kept in omega (arith, fewer, same)),
    )

-- the output failed while more was written
pub holds_failed_later : (before now mid later : Output) (pending text bytes : List ℕ) → Holds before now pending text
    → WritesAll pending now mid → FailsIn bytes mid later → FailsIn (text ++ bytes) before later
holds_failed_later before now mid later pending text bytes held first fails =
    let flushed = holds_flushed before now mid pending [] text held first refl in
    let all : flushed.flushed ≡ text = sym (append-nil flushed.flushed) ∙ flushed.joined in
    let part = fails.0 in
    let rest = part.2 in (
      (
        text ++ part.0,
        appends_both before.written mid.written later.written text part.0
            (subst (Appends before.written mid.written) all flushed.appended) part.1,
        (rest.0, append_assoc text part.0 rest.0 ∙ ap (λ l. text ++ l) rest.1),
      ),
      (let fewer = fails.1 in let same = flushed.kept in omega (arith, fewer, same)),
    )

-- the output failed before more came
pub fails_before : (before later : Output) (text bytes : List ℕ) → FailsIn text before later
    → FailsIn (text ++ bytes) before later
fails_before before later text bytes fails =
    let part = fails.0 in
    let rest = part.2 in (
      (part.0, part.1, (rest.0 ++ bytes, sym (append_assoc part.0 rest.0 bytes) ∙ ap (λ l. l ++ bytes) rest.1)),
      fails.1,
    )

-- the output failed in what was pending
pub holds_failed_last : (before now later : Output) (pending text : List ℕ) → Holds before now pending text
    → FailsIn pending now later → FailsIn text before later
holds_failed_last before now later pending text held fails =
    subst (λ l. FailsIn l before later) (append-nil text) (holds_failed before now later pending text [] held fails)

-- all that is pending is a text of which nothing was written
pub holds_all : (at : Output) (pending text : List ℕ) → pending ≡ text → Holds at at pending text
holds_all at pending text is =
    record { flushed = []; appended = appends_none at.written; joined = is; kept = refl }

-- more is pending
pub holds_more : (before now : Output) (pending left text bytes : List ℕ) → left ≡ pending ++ bytes
    → Holds before now pending text → Holds before now left (text ++ bytes)
holds_more before now pending left text bytes is held = record {
  flushed = held.flushed;
  appended = held.appended;
  joined = ap (λ l. held.flushed ++ l) is ∙ sym (append_assoc held.flushed pending bytes)
      ∙ ap (λ l. l ++ bytes) held.joined;
  kept = held.kept;
}

-- bytes are written after what was pending, or the output fails in them
pub put_last : {E : Type 0} (wrote : Result (Unit {0}) E) (before now mid later : Output)
    (pending left text bytes : List ℕ)
    → Holds before now pending text → WritesAll pending now mid → left ≡ []
    → MatchResult wrote (λ _. Appends mid.written later.written bytes)
    (λ _. AppendsPart mid.written later.written bytes)
    → MatchResult wrote (λ _. later.failures ≡ mid.failures) (λ _. mid.failures < later.failures)
    → MatchResult wrote (λ _. Holds before later left (text ++ bytes)) (λ _. FailsIn (text ++ bytes) before later)
put_last (Ok done) before now mid later pending left text bytes held first empty wrote count =
    holds_written before now mid later pending left text bytes held first (wrote, count) empty
put_last (Err failed) before now mid later pending left text bytes held first empty wrote count =
    holds_failed_later before now mid later pending text bytes held first (wrote, count)

-- what was pending is written, or the output fails in it
pub flushed_or_failed : {E : Type 0} (wrote : Result (Unit {0}) E) (before now later : Output)
    (pending left text : List ℕ)
    → Holds before now pending text
    → MatchResult wrote (λ _. WritesAll pending now later) (λ _. FailsIn pending now later) → left ≡ []
    → MatchResult wrote (λ _. Holds before later left text) (λ _. FailsIn text before later)
flushed_or_failed (Ok done) before now later pending left text held wrote empty =
    holds_flushed before now later pending left text held wrote empty
flushed_or_failed (Err failed) before now later pending left text held fails empty =
    holds_failed_last before now later pending text held fails
