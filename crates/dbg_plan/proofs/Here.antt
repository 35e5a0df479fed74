-- One more position considered: the counts and what is due, over plain variables.
use Rattle.std.proofs.Common.{◌≡◌, ℕ, zero, suc, ◌+◌, ◌<◌, ◌≤◌, Bool, true, false, List, [], ◌∷◌, length, slice_index, Option, Some, None, ap, ◌∙◌, refl, arith, All, add-one}
use Rattle.std.specs.List.{list_any}
use Rattle.std.specs.Prelude.{◌||◌, nat_le, if◌then◌else◌}
use Rattle.std.proofs.lemmas.Bool.Decides.{nat_tests, eqb_tells}
use Rattle.pl0_tree.specs.Tree.{Block}
use Rattle.pl0_machine.specs.Machine.{Standing, program, configuration, frames, top_of, IsNext}
use Rattle.dbg_plan.specs.declared.breakpoint.Breakpoint.{Breakpoint}
use Rattle.dbg_plan.specs.declared.breakpoint.Rule.{Rule}
use Rattle.dbg_plan.specs.declared.breakpoint.Rule.TheVariants.{From, Every}
use Rattle.std.proofs.lemmas.Nat.{mod-mul-add}
use Rattle.std.proofs.lemmas.List.Elements.{All-cons, All-filter}
use Rattle.dbg_plan.specs.Breakpoints.{Breakpoint as PlainBreakpoint, plain_breakpoint, plain_breakpoints}
use Rattle.dbg_plan.specs.Due.{arrives_at, arrivals}
use Rattle.dbg_plan.specs.Plans.{Listed, IsNumbered, AreNumbered, AreAtSteps, IsBoundAt, IsMessageBoundAt, those_of, is_of, IsRule, listed_of}
use Rattle.dbg_plan.specs.Logs.{Log}
use Rattle.dbg_plan.specs.Counting.{holds_now, IsMetHere, counted, those_due, any_stops, logged, AreCounts, CountFrom, CountsOn, reduced}
use Rattle.dbg_plan.proofs.Places.{arrives_here}
use Rattle.dbg_plan.proofs.Tally.{tally, tally_due}
use Rattle.dbg_plan.proofs.Doings.{stops_are, logs_are}
use Rattle.std.proofs.lemmas.Grind.{common_steps}

le_true : (t m : ℕ) → t ≤ m → nat_le t m ≡ true
le_true t m le = grind (arith, nat_tests)

pub any_plain : (hit : PlainBreakpoint → Bool) (bs : List Breakpoint)
    → list_any hit (plain_breakpoints bs) ≡ list_any (λ b. hit (plain_breakpoint b)) bs
any_plain hit [] = refl
any_plain hit (b ∷ bs) = ap (λ v. hit (plain_breakpoint b) || v) (any_plain hit bs)

-- one position further
pub arrivals_rise : (main : Block) (b : PlainBreakpoint) (first m : ℕ) → first ≤ m
    → arrivals main b first (m + 1) ≡ (if arrives_at main b m then arrivals main b first m + 1 else arrivals main b
    first m)
arrivals_rise main b first m le = rw add-one (cc (le_true first m le))

module _ (m : Standing) (p : ℕ) (here : IsNext (program m) (top_of (frames m)) p) (bs : List Breakpoint)
    (numbered : IsNumbered bs) (counts : List ℕ) (room : length counts ≡ 256) where
  pub counts_on : (first : ℕ) → first ≤ m.position → AreCounts (program m) bs first m.position counts
      → CountsOn (program m) bs m.position first (any_stops (those_due (holds_now m) (those_of p bs) counts))
      (logged m (those_due (holds_now m) (those_of p bs) counts)) (counted (holds_now m) (those_of p bs) counts)
  counts_on first le h =
      let main = (program m) in
      let few = numbered.few in
      let a : Breakpoint → Bool = λ b. arrives_at main (plain_breakpoint b) m.position in
      let old : Breakpoint → ℕ = λ b. arrivals main (plain_breakpoint b) first m.position in
      let new : Breakpoint → ℕ = λ b. arrivals main (plain_breakpoint b) first (m.position + 1) in
      let agree = arrives_here main m.unit.tree.in_order (configuration m) p here in
      let rises : (b : Breakpoint) → new b ≡ (if a b then old b + 1 else old b) =
      λ b. arrivals_rise main (plain_breakpoint b) first m.position le in
      let due = tally_due (is_of p) (holds_now m) a old new agree rises bs 0 counts numbered.numbers (omega arith) h in
      record {
        counts = tally (is_of p) (holds_now m) a old new agree rises bs 0 counts numbered.numbers (omega arith) h;
        due_is = ap any_stops due ∙ stops_are m first bs;
        logs_are = ap (logged m) due ∙ logs_are m first bs 0 numbered.numbers;
      }

-- what the code's walk leaves, by what it knows of the plan and its entry
pub goes_on : (m : Standing) (p : ℕ) → IsNext (program m) (top_of (frames m)) p
    → (plan : Option Listed) (listed : Listed) → plan ≡ Some listed → IsNumbered listed.breakpoints
    → (entry : List Breakpoint) → entry ≡ those_of p listed.breakpoints → (counts : List ℕ) → length counts ≡ 256
    → (due : Bool) (logs : List Log) (new : List ℕ) → due ≡ any_stops (those_due (holds_now m) entry counts)
    → logs ≡ logged m (those_due (holds_now m) entry counts) → new ≡ counted (holds_now m) entry counts → (first : ℕ)
    → first ≤ m.position → AreCounts (program m) (listed_of plan) first m.position counts
    → CountsOn (program m) (listed_of plan) m.position first due logs new
goes_on m p here plan listed is numbered entry entry_is counts room due logs new due_is logs_are new_is first le h =
    grind (arith, common_steps, counts_on, counted, logs_are)

-- ---- each number is that of a count

are_below : (bs : List Breakpoint) (n limit : ℕ) → AreNumbered n bs → n + length bs ≤ limit
    → All (λ b. b.number < limit) bs
are_below [] n limit h room = λ k d lt. absurd (omega arith)
are_below (b ∷ bs) n limit h room = grind (arith, common_steps, All-cons, are_below bs (n + 1) limit h.2 (omega arith))

-- a step has at most all of them
pub few_of : (p : ℕ) (bs : List Breakpoint) → length (those_of p bs) ≤ length bs
few_of p [] = omega arith
few_of p (b ∷ bs) = grind (arith, common_steps, is_of, few_of p bs, length, true, false)

pub within : (bs : List Breakpoint) → IsNumbered bs → (p : ℕ) (counts : List ℕ) → length counts ≡ 256
    → All (λ b. b.number < length counts) (those_of p bs)
within bs numbered p counts room =
    let few = numbered.few in
    All-filter (is_of p) (λ b. b.number < length counts) bs
    (are_below bs 0 (length counts) numbered.numbers (omega arith))

met_here : (m : Standing) (p : ℕ) → IsNext (program m) (top_of (frames m)) p → (b : Breakpoint) (bs : List Breakpoint)
    → IsBoundAt (program m) b.step b.condition → IsMessageBoundAt (program m) b.step b.message
    → All (IsMetHere m) (those_of p bs) → All (IsMetHere m) (those_of p (b ∷ bs))
met_here m p next b bs bound message rest = grind (arith, common_steps, eqb_tells, true, false, All, All-cons, frames)

-- the machine stands at the step of each of its breakpoints, whose conditions are bound there
pub are_met : (m : Standing) (p : ℕ) → IsNext (program m) (top_of (frames m)) p → (bs : List Breakpoint)
    → AreAtSteps (program m) bs → All (IsMetHere m) (those_of p bs)
are_met m p next [] bound = λ k d lt. absurd (omega arith)
are_met m p next (b ∷ bs) bound = met_here m p next b bs bound.1 bound.2 (are_met m p next bs bound.3)

-- ---- a new plan

none_yet : (main : Block) (b : PlainBreakpoint) (t m : ℕ) → m ≤ t → arrivals main b t m ≡ 0
none_yet main b t zero le = refl
none_yet main b t (suc m) le =
    let late : nat_le t m ≡ false = grind (arith, nat_tests) in
    cc (none_yet main b t m (omega arith))

reduced_zero : (rule : Option Rule) → IsRule rule → reduced rule 0 ≡ 0
reduced_zero None r = refl
reduced_zero (Some (From k)) r = omega arith
reduced_zero (Some (Every k)) r = grind (arith, common_steps, mod-mul-add)

counts_begin : (main : Block) (bs : List Breakpoint) (t n : ℕ) (counts : List ℕ) → AreNumbered n bs
    → ((k : ℕ) → slice_index counts k ≡ 0) → CountFrom (λ b. arrivals main (plain_breakpoint b) t t) n bs counts
counts_begin main [] t n counts numbered zeros = tt
counts_begin main (b ∷ bs) t n counts numbered zeros =
    let none : arrivals main (plain_breakpoint b) t t ≡ 0 = none_yet main (plain_breakpoint b) t t (omega arith) in
    (cc (zeros n, reduced_zero b.rule numbered.1), counts_begin main bs t (n + 1) counts numbered.2 zeros)

pub begin : (main : Block) (bs : List Breakpoint) (t : ℕ) (counts : List ℕ) → IsNumbered bs
    → ((k : ℕ) → slice_index counts k ≡ 0) → AreCounts main bs t t counts
begin main bs t counts numbered zeros = counts_begin main bs t 0 counts numbered.numbers zeros
