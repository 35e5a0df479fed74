-- Texts are told in pieces; for `telling` and `debug_laws`.
use Rattle.std.proofs.Common.{◌≡◌, ◌<◌, ◌≤◌, ◌++◌, ◌∙◌, ℕ, zero, suc, true, false, Option, List, [], ◌∷◌, refl, sym, ap, ap₂, subst, map, take, drop, length, arith, append_assoc, append-nil}
use Rattle.std.specs.Prelude.{All, Result, Ok, Err, OnOk, slice_index, if◌then◌else◌}
use Rattle.std.specs.Fmt.{is_char_start}
use Rattle.std.specs.Fmt.Cut.{floor_char_boundary}
use Rattle.std.specs.List.{concat}
use Rattle.std.proofs.lemmas.List.{length-take, map-append, take-append-drop}
use Rattle.std.proofs.lemmas.List.Elements.{All-cons, All-nil}
use Rattle.dap_bodies.specs.Events.{output}
use Rattle.dap_bodies.specs.Sizes.{fit_of, text_limit}
use Rattle.dap_server.specs.Messages.{PlainEvent}
use Rattle.debuggee.specs.declared.halt.Output.{Output}
use Rattle.debuggee.specs.Plain.{PlainHalt, PlainOutput, plain_output}
use Rattle.dap_debug.specs.Telling.{AddsEvents, AreCut, TellAll, TellOne, TellPieces, Tells, category_of, merged, text_in, told_end}

-- ---- the pieces of a text

-- a text is told up to what is left of it
pub record ToldTo (category text : List ℕ) (old new : List PlainEvent) (rest : List ℕ) : Type 0 where
  pub pieces : List (List ℕ)
  pub added : new ≡ old ++ map (output category) pieces
  pub cut : (later : List (List ℕ)) → AreCut rest later → AreCut text (pieces ++ later)

pub told_none : (category text : List ℕ) (old : List PlainEvent) → ToldTo category text old old text
told_none category text old = record { pieces = []; added = sym (append-nil old); cut = λ later is. is }

-- one piece more
added_to : (category piece : List ℕ) (pieces : List (List ℕ)) (old events new : List PlainEvent)
    → events ≡ old ++ map (output category) pieces → new ≡ events ++ output category piece ∷ []
    → new ≡ old ++ map (output category) (pieces ++ piece ∷ [])
added_to category piece pieces old events new before is =
    is ∙ ap (λ l. l ++ output category piece ∷ []) before ∙ append_assoc old _ _ ∙ ap (λ l. old ++ l) (sym (map-append _
    pieces _))

cut_off : (rest piece left : List ℕ) (later : List (List ℕ)) → text_limit < length rest
    → piece ≡ take (fit_of rest) rest → left ≡ drop (fit_of rest) rest → AreCut left later → AreCut rest (piece ∷ later)
cut_off rest piece left [] long front back is = absurd is
cut_off rest piece left (next ∷ later) long front back is = (long, front, rw (← back) is)

pub told_more : (category text : List ℕ) (old events new : List PlainEvent) (rest piece left : List ℕ)
    → ToldTo category text old events rest → text_limit < length rest → piece ≡ take (fit_of rest) rest
    → left ≡ drop (fit_of rest) rest → new ≡ events ++ output category piece ∷ [] → ToldTo category text old new left
told_more category text old events new rest piece left is long front back more = record {
  pieces = is.pieces ++ piece ∷ [];
  added = added_to category piece is.pieces old events new is.added more;
  cut = λ later are. subst (AreCut text) (sym (append_assoc is.pieces (piece ∷ []) later))
      (is.cut (piece ∷ later) (cut_off rest piece left later long front back are));
}

-- the last piece
last_told : (category text : List ℕ) (old events new : List PlainEvent) (rest : List ℕ)
    → ToldTo category text old events rest → length rest ≤ text_limit → new ≡ events ++ output category rest ∷ []
    → AddsEvents (TellPieces category text) old new
last_told category text old events new rest is short more = (
  map (output category) (is.pieces ++ rest ∷ []),
  (is.pieces ++ rest ∷ [], is.cut (rest ∷ []) (refl, short), refl),
  added_to category rest is.pieces old events new is.added more,
)

pub told_all : {A E : Type 0} (category text : List ℕ) (old events : List PlainEvent) (rest : List ℕ)
    (new : List PlainEvent) (result : Result A E) → ToldTo category text old events rest → length rest ≤ text_limit
    → OnOk result (new ≡ events ++ output category rest ∷ [])
    → OnOk result (AddsEvents (TellPieces category text) old new)
told_all category text old events rest new (Ok a) is short more =
    last_told category text old events new rest is short more
told_all category text old events rest new (Err e) is short more = tt

-- ---- what pieces keep

abbrev IsShort : List ℕ → Type 0
IsShort piece = length piece ≤ text_limit

floor-le : (text : List ℕ) (i : ℕ) → floor_char_boundary text i ≤ i
unfolding floor_char_boundary
floor-le text zero = omega arith
floor-le text (suc i) =
    let below = floor-le text i in
    elim (is_char_start (slice_index text (suc i)))
    as (λ t. (if t then suc i else floor_char_boundary text i) ≤ suc i) [
      | true ↦ omega arith
      | false ↦ omega (arith, below)
    ]

short : (text piece : List ℕ) → piece ≡ take (fit_of text) text → length piece ≤ text_limit
short text piece is =
    let long = ap length is ∙ length-take (fit_of text) text in
    let within = floor-le text text_limit in
    omega (arith, long, within)

pub kept : (text : List ℕ) (pieces : List (List ℕ)) → AreCut text pieces
    → (concat pieces ≡ text) × All (λ piece. length piece ≤ text_limit) pieces
kept text [] are = absurd are
kept text (last ∷ []) are =
    let within : length last ≤ text_limit = subst (λ t. length t ≤ text_limit) (sym are.0) are.1 in
    (append-nil last ∙ are.0, All-cons IsShort last [] within (All-nil IsShort))
kept text (piece ∷ (next ∷ pieces)) are =
    let rest = kept (drop (fit_of text) text) (next ∷ pieces) are.2 in (
      ap₂ (λ a b. a ++ b) are.1 rest.0 ∙ take-append-drop (fit_of text) text,
      All-cons IsShort piece (next ∷ pieces) (short text piece are.1) rest.1,
    )

-- ---- texts, one after another

all_more : (told : List PlainOutput) (one : PlainOutput) (events more : List PlainEvent) → TellAll told events
    → TellOne one more → TellAll (told ++ one ∷ []) (events ++ more)
all_more [] one events more are is = (more, [], is, refl, cc (append-nil more))
all_more (first ∷ told) one events more are is = (
  are.0,
  are.1 ++ more,
  are.2,
  all_more told one are.1 more are.3 is,
  ap (λ l. l ++ more) are.4 ∙ append_assoc are.0 are.1 more,
)

pub one_told : (told : List Output) (one : Output) (events new : List PlainEvent)
    → TellAll (map plain_output told) events
    → AddsEvents (TellOne (plain_output one)) events new → TellAll (map plain_output (told ++ one ∷ [])) new
one_told told one events new are is = rw (map-append plain_output told _) (rw is.2 (all_more _ _ events is.0 are is.1))

-- a text is cut in one way
pub cut_one : (text : List ℕ) (pieces others : List (List ℕ)) → AreCut text pieces → AreCut text others
    → pieces ≡ others
cut_one text [] others cut _ = absurd cut
cut_one text (p ∷ []) [] _ cut = absurd cut
cut_one text (p ∷ (next ∷ more)) [] _ cut = absurd cut
cut_one text (p ∷ []) (q ∷ []) cut other = ap (λ x. x ∷ []) (cut.0 ∙ sym other.0)
cut_one text (p ∷ []) (q ∷ (next ∷ more)) cut other = absurd (omega (arith, cut.1, other.0))
cut_one text (p ∷ (next ∷ more)) (q ∷ []) cut other = absurd (omega (arith, other.1, cut.0))
cut_one text (p ∷ (next ∷ more)) (q ∷ (later ∷ rest)) cut other =
    let same = cut_one (drop (fit_of text) text) (next ∷ more) (later ∷ rest) cut.2 other.2 in
    ap (λ x. x ∷ (next ∷ more)) (cut.1 ∙ sym other.1) ∙ ap (λ l. q ∷ l) same

-- and so each text is told in one way, and all are
pub all_told_one : (told : List PlainOutput) (events others : List PlainEvent) → TellAll told events
    → TellAll told others → events ≡ others
all_told_one [] events others none other = none ∙ sym other
all_told_one (first ∷ more) events others (these, later, (pieces, cut, are), rest, whole)
    (those, after, (parts, cut', are'), rest', whole') =
    let same : these ≡ those =
    are ∙ ap (map (output (category_of first))) (cut_one (text_in first) pieces parts cut cut') ∙ sym are' in
    whole ∙ ap (λ l. l ++ later) same ∙ ap (λ l. those ++ l) (all_told_one more later after rest rest') ∙ sym whole'

pub told_one : (told : List PlainOutput) (halt : Option PlainHalt) (events others : List PlainEvent)
    → Tells told halt events → Tells told halt others → events ≡ others
told_one told halt events others (texts, tell, whole) (texts', tell', whole') =
    whole ∙ ap (λ l. l ++ told_end halt) (all_told_one (merged told) texts texts' tell tell') ∙ sym whole'
