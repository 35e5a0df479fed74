-- Which runs the runner reports, by the number of the run that it took last.
use Rattle.std.proofs.Common.{◌≡◌, ◌⊎◌, inl, inr, ℕ, ◌+◌, ◌<◌, ◌≤◌, List, [], ◌∷◌, ◌++◌, length, Option, None, Some, refl, sym, ap, ◌∙◌, subst, arith}
use Rattle.std.specs.List.{flat_map, filter_map}
use Rattle.std.proofs.lemmas.Grind.{flat_map-append}
use Rattle.dap_history.specs.Readings.{go}
use Rattle.dap_history.proofs.Runs.{AreNumbered}
use Rattle.dbg_runner.specs.declared.outcome.SliceOutcome.TheVariants as out
use Rattle.dbg_runner.specs.Laws.{taken_by, KeepsOn, passing, sending, finding_none, finding_hold, IsCut, by_go, by_quit, by_refusal, later}
use Rattle.dbg_runner.specs.Plain.{Heading, PlainOrder, PlainReport, Go, Hold, Quit}
use Rattle.dbg_runner.specs.Queues.{order_in, sent_in}
use Rattle.dbg_runner.specs.Runner.{Act, Waited, Looked, Passed, Sent, HandedBack, Runner, Idle, Ready, Slicing, Looking, Holding, Ended, Does, DoesAll}
use Rattle.dbg_runner.specs.Runner as runner
use Rattle.adapter.specs.Laws.{IsCutShort}
use Rattle.adapter.specs.Laws as short

-- ---- numbers of the runs that were taken

-- after k runs, how many there are with this order
abbrev next_of : ℕ → Option PlainOrder → ℕ
next_of k None = k
next_of k (Some (Go h)) = k + 1
next_of k (Some (Hold n)) = k
next_of k (Some Quit) = k

abbrev IsNext : ℕ → Option PlainOrder → Type 0
IsNext k None = Unit {0}
IsNext k (Some (Go h)) = h.run ≡ k + 1
IsNext k (Some (Hold n)) = Unit {0}
IsNext k (Some Quit) = Unit {0}

-- the runs that these acts take are numbered on
abbrev pub NumberedFrom : ℕ → List Act → Type 0
NumberedFrom k [] = Unit {0}
NumberedFrom k (act ∷ acts) = IsNext k (taken_by act) × NumberedFrom (next_of k (taken_by act)) acts

abbrev pub last_from : ℕ → List Act → ℕ
last_from k [] = k
last_from k (act ∷ acts) = last_from (next_of k (taken_by act)) acts

pub numbered_acts : (k : ℕ) (acts : List Act) → AreNumbered (k + 1) (filter_map go (flat_map order_in acts))
    → NumberedFrom k acts
numbered_acts k [] are = tt
numbered_acts k (Waited (Go h) ∷ acts) are = (are.0, numbered_acts (k + 1) acts are.1)
numbered_acts k (Waited (Hold n) ∷ acts) are = (tt, numbered_acts k acts are)
numbered_acts k (Waited Quit ∷ acts) are = (tt, numbered_acts k acts are)
numbered_acts k (Looked None ∷ acts) are = (tt, numbered_acts k acts are)
numbered_acts k (Looked (Some (Go h)) ∷ acts) are = (are.0, numbered_acts (k + 1) acts are.1)
numbered_acts k (Looked (Some (Hold n)) ∷ acts) are = (tt, numbered_acts k acts are)
numbered_acts k (Looked (Some Quit) ∷ acts) are = (tt, numbered_acts k acts are)
numbered_acts k (Passed run slice position ∷ acts) are = (tt, numbered_acts k acts are)
numbered_acts k (Sent r ∷ acts) are = (tt, numbered_acts k acts are)
numbered_acts k (HandedBack r ∷ acts) are = (tt, numbered_acts k acts are)

abbrev LastIs : ℕ → List Act → Type 0
LastIs k acts = last_from k acts ≡ k + length (filter_map go (flat_map order_in acts))

one_more : (k last : ℕ) (h : Heading) (hs : List Heading) → last ≡ k + 1 + length hs → last ≡ k + length (h ∷ hs)
one_more k last h hs is = omega (arith, is)

pub last_is : (k : ℕ) (acts : List Act) → LastIs k acts
last_is k [] = omega arith
last_is k (Waited (Go h) ∷ acts) =
    one_more k (last_from (k + 1) acts) h (filter_map go (flat_map order_in acts)) (last_is (k + 1) acts)
last_is k (Waited (Hold n) ∷ acts) = last_is k acts
last_is k (Waited Quit ∷ acts) = last_is k acts
last_is k (Looked None ∷ acts) = last_is k acts
last_is k (Looked (Some (Go h)) ∷ acts) =
    one_more k (last_from (k + 1) acts) h (filter_map go (flat_map order_in acts)) (last_is (k + 1) acts)
last_is k (Looked (Some (Hold n)) ∷ acts) = last_is k acts
last_is k (Looked (Some Quit) ∷ acts) = last_is k acts
last_is k (Passed run slice position ∷ acts) = last_is k acts
last_is k (Sent r ∷ acts) = last_is k acts
last_is k (HandedBack r ∷ acts) = last_is k acts

next_more : (k : ℕ) (o : Option PlainOrder) → k ≤ next_of k o
next_more k None = omega arith
next_more k (Some (Go h)) = omega arith
next_more k (Some (Hold n)) = omega arith
next_more k (Some Quit) = omega arith

last_more : (k : ℕ) (acts : List Act) → k ≤ last_from k acts
last_more k [] = omega arith
last_more k (act ∷ acts) =
    let next = next_more k (taken_by act) in
    let last = last_more (next_of k (taken_by act)) acts in omega (arith, next, last)

numbered_split : (k : ℕ) (xs ys : List Act) → NumberedFrom k (xs ++ ys) → NumberedFrom k xs
    × NumberedFrom (last_from k xs) ys
numbered_split k [] ys are = (tt, are)
numbered_split k (act ∷ xs) ys are =
    let more = numbered_split (next_of k (taken_by act)) xs ys are.1 in ((are.0, more.0), more.1)

last_split : (k : ℕ) (xs ys : List Act) → last_from k (xs ++ ys) ≡ last_from (last_from k xs) ys
last_split k [] ys = refl
last_split k (act ∷ xs) ys = last_split (next_of k (taken_by act)) xs ys

-- ---- reports of these runs

-- the runner's run, if it has one
abbrev OfRun : ℕ → Runner → Type 0
OfRun k Idle = Unit {0}
OfRun k (Ready g) = g.expects.run ≡ k
OfRun k (Slicing g) = g.expects.run ≡ k
OfRun k (Looking g) = g.expects.run ≡ k
OfRun k (Holding g) = g.expects.run ≡ k
OfRun k Ended = Unit {0}

-- reports of runs from one number to another
abbrev Within : ℕ → ℕ → List PlainReport → Type 0
Within low high [] = Unit {0}
Within low high (r ∷ rs) = (low ≤ r.run) × (r.run ≤ high) × Within low high rs

within_both : (low high : ℕ) (xs ys : List PlainReport) → Within low high xs → Within low high ys
    → Within low high (xs ++ ys)
within_both low high [] ys first second = second
within_both low high (r ∷ xs) ys first second = (first.0, first.1, within_both low high xs ys first.2 second)

within_wider : (low lower high higher : ℕ) (rs : List PlainReport) → lower ≤ low → high ≤ higher → Within low high rs
    → Within lower higher rs
within_wider low lower high higher [] down up within = tt
within_wider low lower high higher (r ∷ rs) down up within =
    let first = within.0 in
    let second =
    within.1 in (
      omega (arith, first, down),
      omega (arith, second, up),
      within_wider low lower high higher rs down
          up within.2,
    )

-- what an act leads to, after k runs
abbrev Onward : ℕ → Act → Runner → Type 0
Onward k act next = OfRun (next_of k (taken_by act)) next × Within k k (sent_in act)

at_k : (k : ℕ) (r : PlainReport) → r.run ≡ k → Within k k (r ∷ [])
at_k k r is = (omega (arith, is), omega (arith, is), tt)

does_run : (k : ℕ) {from next : Runner} {act : Act} → Does from act next → OfRun k from → IsNext k (taken_by act)
    → Onward k act next
does_run k runner.takes_go here number = (number, tt)
does_run k runner.has_none_to_hold here number = (tt, tt)
does_run k runner.quits here number = (tt, tt)
does_run k (runner.passes stands) here number = (here, tt)
does_run k (runner.goes_on {r = r} of more) here number =
    (here, at_k k r (ap (λ (h : Heading). h.run) of.of.heading ∙ here))
does_run k (runner.stops {r = r} of no_more) here number =
    (tt, at_k k r (ap (λ (h : Heading). h.run) of.of.heading ∙ here))
does_run k (runner.is_refused of) here number = (tt, tt)
does_run k runner.finds_none here number = (here, tt)
does_run k runner.finds_go here number = (number, tt)
does_run k (runner.finds_hold forward) here number = (here, tt)
does_run k (runner.finds_vain_hold why) here number = (here, tt)
does_run k runner.finds_quit here number = (tt, tt)
does_run k (runner.holds {r = r} of) here number = (tt, at_k k r (ap (λ (h : Heading). h.run) of.of.heading ∙ here))
does_run k (runner.is_refused_held of) here number = (tt, tt)

-- acts report runs from that of their beginning to the last that they take
leads_run : (k : ℕ) (from : Runner) (acts : List Act) (now : Runner) → DoesAll from acts now → OfRun k from
    → NumberedFrom k acts
    → OfRun (last_from k acts) now × Within k (last_from k acts) (flat_map sent_in acts)
leads_run k from [] now leads here numbered = (subst (OfRun k) leads here, tt)
leads_run k from (act ∷ acts) now leads here numbered =
    let step : Onward k act leads.0 = does_run k leads.1 here numbered.0 in
    let onward = leads_run (next_of k (taken_by act)) leads.0 acts now leads.2 step.0 numbered.1 in
    let next = next_more k (taken_by act) in
    let last = last_more (next_of k (taken_by act)) acts in (
      onward.0,
      within_both k (last_from (next_of k (taken_by act)) acts) (sent_in act) (flat_map sent_in acts)
          (within_wider k k k (last_from (next_of k (taken_by act)) acts) (sent_in act) (omega arith)
          (omega (arith, next, last)) step.1)
          (within_wider (next_of k (taken_by act)) k (last_from (next_of k (taken_by act)) acts)
          (last_from (next_of k (taken_by act)) acts) (flat_map sent_in acts) next (omega arith) onward.1),
    )

leads_split : (from now : Runner) (xs ys : List Act) → DoesAll from (xs ++ ys) now → (mid : Runner)
    × DoesAll from xs mid × DoesAll mid ys now
leads_split from now [] ys leads = (from, refl, leads)
leads_split from now (act ∷ xs) ys leads =
    let more = leads_split leads.0 now xs ys leads.2 in (more.0, (leads.0, leads.1, more.1), more.2)

-- ---- a run without a last report

-- each report of run n says that it goes on
abbrev pub NoEnd : ℕ → List PlainReport → Type 0
NoEnd n [] = Unit {0}
NoEnd n (r ∷ rs) = (r.run ≡ n → r.outcome ≡ out.More) × NoEnd n rs

no_end_both : (n : ℕ) (xs ys : List PlainReport) → NoEnd n xs → NoEnd n ys → NoEnd n (xs ++ ys)
no_end_both n [] ys first second = second
no_end_both n (r ∷ xs) ys first second = (first.0, no_end_both n xs ys first.1 second)

pub no_end_front : (n : ℕ) (xs ys : List PlainReport) → NoEnd n (xs ++ ys) → NoEnd n xs
no_end_front n [] ys none = tt
no_end_front n (r ∷ xs) ys none = (none.0, no_end_front n xs ys none.1)

no_end_below : (n low high : ℕ) (rs : List PlainReport) → high < n → Within low high rs → NoEnd n rs
no_end_below n low high [] below within = tt
no_end_below n low high (r ∷ rs) below within =
    let up = within.1 in (λ same. absurd (omega (arith, same, up, below)), no_end_below n low high rs below within.2)

no_end_above : (n low high : ℕ) (rs : List PlainReport) → n < low → Within low high rs → NoEnd n rs
no_end_above n low high [] above within = tt
no_end_above n low high (r ∷ rs) above within =
    let down =
    within.0 in (λ same. absurd (omega (arith, same, down, above)), no_end_above n low high rs above within.2)

-- acts within a run, after which it goes on
abbrev pub AllKeepOn : List Act → Type 0
AllKeepOn [] = Unit {0}
AllKeepOn (act ∷ acts) = KeepsOn act × AllKeepOn acts

keeps_no_end : (n : ℕ) {act : Act} → KeepsOn act → NoEnd n (sent_in act)
keeps_no_end n passing = tt
keeps_no_end n (sending more) = (λ same. more, tt)
keeps_no_end n finding_none = tt
keeps_no_end n finding_hold = tt

all_keep_no_end : (n : ℕ) (acts : List Act) → AllKeepOn acts → NoEnd n (flat_map sent_in acts)
all_keep_no_end n [] keep = tt
all_keep_no_end n (act ∷ acts) keep =
    no_end_both n (sent_in act) (flat_map sent_in acts) (keeps_no_end n keep.0) (all_keep_no_end n acts keep.1)

-- a run is cut by the next one
pub record IsCutByGo (acts : List Act) : Type 0 where
  pub kept : List Act
  pub next : Heading
  pub rest : List Act
  pub acts_are : acts ≡ kept ++ Looked (Some (Go next)) ∷ rest
  pub keep : AllKeepOn kept

pub cut_how : {acts : List Act} → IsCut acts → IsCutShort acts ⊎ IsCutByGo acts
cut_how (by_go {h = h} {acts = acts}) = inr (record { kept = []; next = h; rest = acts; acts_are = refl; keep = tt })
cut_how by_quit = inl short.by_quit
cut_how by_refusal = inl short.by_refusal
cut_how (later {act = act} keeps cut) = onward (cut_how cut)
  where
    onward : {acts : List Act} → IsCutShort acts ⊎ IsCutByGo acts → IsCutShort (act ∷ acts) ⊎ IsCutByGo (act ∷ acts)
    onward (inl is) = inl (short.later keeps is)
    onward (inr is) =
        inr (record {
          kept = act ∷ is.kept;
          next = is.next;
          rest = is.rest;
          acts_are = ap (λ l. act ∷ l) is.acts_are;
          keep = (keeps, is.keep);
        })

-- what takes an order sends nothing
takes_silently : (act : Act) (order : PlainOrder) → taken_by act ≡ Some order → sent_in act ≡ []
takes_silently (Waited o) order is = refl
takes_silently (Looked found) order is = refl
takes_silently (Passed run slice position) order is = refl
takes_silently (Sent r) order is = absurd cc
takes_silently (HandedBack r) order is = refl

-- A run that the next one cuts has no last report at all, and isn't the last one taken.
pub record IsEndless (n : ℕ) (acts : List Act) : Type 0 where
  pub first : 1 ≤ n
  pub not_last : n < last_from 0 acts
  pub none : NoEnd n (flat_map sent_in acts)

module _ (before : List Act) (act : Act) (h : Heading) (now : Runner) (after : List Act)
    (takes : taken_by act ≡ Some (Go h)) (cut : IsCutByGo after) where
  -- how many runs were taken before this one, and up to the next one
  abbrev early : ℕ
  early = last_from 0 before

  abbrev begun : ℕ
  begun = next_of early (taken_by act)

  abbrev kept : ℕ
  kept = last_from begun cut.kept

  abbrev further : List Act
  further = Looked (Some (Go cut.next)) ∷ cut.rest

  pub cut_run : DoesAll Idle (before ++ act ∷ after) now → NumberedFrom 0 (before ++ act ∷ after)
      → IsEndless h.run (before ++ act ∷ after)
  cut_run leads numbered = record {
    first = omega (arith, number);
    not_last = omega (arith, number, whole, kept_more, rest_more);
    none = subst (NoEnd h.run) (sym sent_are)
        (no_end_both h.run (flat_map sent_in before) (flat_map sent_in after)
        (no_end_below h.run 0 early (flat_map sent_in before) (omega (arith, number)) first_runs.1)
        (subst (NoEnd h.run) (sym after_are)
        (no_end_both h.run (flat_map sent_in cut.kept) (flat_map sent_in cut.rest)
        (all_keep_no_end h.run cut.kept cut.keep)
        (no_end_above h.run (kept + 1) (last_from (kept + 1) cut.rest) (flat_map sent_in cut.rest)
        (omega (arith, number, kept_more)) late.1))));
  }
    where
      parts : (mid : Runner) × DoesAll Idle before mid × DoesAll mid (act ∷ after) now
      parts = leads_split Idle now before (act ∷ after) leads

      numbers : NumberedFrom 0 before × NumberedFrom early (act ∷ after)
      numbers = numbered_split 0 before (act ∷ after) numbered

      first_runs : OfRun early parts.0 × Within 0 early (flat_map sent_in before)
      first_runs = leads_run 0 Idle before parts.0 parts.1 tt numbers.0

      number : h.run ≡ early + 1
      number = subst (IsNext early) takes numbers.1.0

      rises : begun ≡ early + 1
      rises = ap (next_of early) takes

      step : Onward early act parts.2.0
      step = does_run early parts.2.1 first_runs.0 numbers.1.0

      inner : (mid : Runner) × DoesAll parts.2.0 cut.kept mid × DoesAll mid further now
      inner = leads_split parts.2.0 now cut.kept further (subst (λ l. DoesAll parts.2.0 l now) cut.acts_are parts.2.2)

      inner_numbers : NumberedFrom begun cut.kept × NumberedFrom kept further
      inner_numbers = numbered_split begun cut.kept further (subst (NumberedFrom begun) cut.acts_are numbers.1.1)

      kept_run : OfRun kept inner.0 × Within begun kept (flat_map sent_in cut.kept)
      kept_run = leads_run begun parts.2.0 cut.kept inner.0 inner.1 step.0 inner_numbers.0

      found : Onward kept (Looked (Some (Go cut.next))) inner.2.0
      found = does_run kept inner.2.1 kept_run.0 inner_numbers.1.0

      late : OfRun (last_from (kept + 1) cut.rest) now × Within (kept + 1) (last_from (kept + 1) cut.rest)
          (flat_map sent_in cut.rest)
      late = leads_run (kept + 1) inner.2.0 cut.rest now inner.2.2 found.0 inner_numbers.1.1

      kept_more : early + 1 ≤ kept
      kept_more = let more = last_more begun cut.kept in omega (arith, more, rises)

      rest_more : kept + 1 ≤ last_from (kept + 1) cut.rest
      rest_more = last_more (kept + 1) cut.rest

      whole : last_from 0 (before ++ act ∷ after) ≡ last_from (kept + 1) cut.rest
      whole = last_split 0 before (act ∷ after) ∙ ap (last_from begun) cut.acts_are ∙ last_split begun cut.kept further

      sent_are : flat_map sent_in (before ++ act ∷ after) ≡ flat_map sent_in before ++ flat_map sent_in after
      sent_are =
          flat_map-append sent_in before (act ∷ after) ∙ ap (λ l. flat_map sent_in before
          ++ (l ++ flat_map sent_in after)) (takes_silently act (Go h) takes)

      after_are : flat_map sent_in after ≡ flat_map sent_in cut.kept ++ flat_map sent_in cut.rest
      after_are = ap (flat_map sent_in) cut.acts_are ∙ flat_map-append sent_in cut.kept further
