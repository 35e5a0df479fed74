-- Where the machine counts, it counts as the plan does.
use Rattle.std.proofs.Common.{◌≡◌, ℕ, zero, suc, ◌+◌, ◌<◌, ◌≤◌, All, Bool, true, false, cond, get_or, length-set, List, [], ◌∷◌, length, slice_get, filter, Option, Some, None, refl, sym, ap, ◌∙◌, subst, arith}
use Rattle.std.specs.Prelude.{◌&&◌}
use Rattle.std.specs.List.{list_any}
use Rattle.std.proofs.lemmas.Bool.{or_parts}
use Rattle.std.proofs.lemmas.List.{length-map}
use Rattle.std.proofs.lemmas.Option.{same_Some, slice_get-get_or}
use Rattle.pl0_unit.specs.declared.unit.Unit.{Unit as Compiled}
use Rattle.pl0_tree.specs.Steps.{steps}
use Rattle.pl0_meaning.specs.Laws.{FramesAreLinked}
use Rattle.pl0_machine.specs.declared.mark.Counter.{Counter}
use Rattle.pl0_machine.specs.declared.mark.Marks.{Marks}
use Rattle.pl0_machine.specs.declared.mark.Proviso.{Proviso}
use Rattle.pl0_machine.specs.Counting.{counters_of, any_due, passed_at, passed, noted_at, noted, IsCounted}
use Rattle.pl0_machine.specs.Machine.{Standing, program, configuration, frames, top_of, IsNext, BeginsNext}
use Rattle.pl0_machine.specs.Stretches.{answer_in, CanCount, IsTable, ArriveAt, Arrive, AreCounted, AreNoted}
use Rattle.dbg_plan.specs.declared.breakpoint.Breakpoint.{Breakpoint}
use Rattle.dbg_plan.specs.Breakpoints.{plain_breakpoint, plain_breakpoints}
use Rattle.dbg_plan.specs.Counting.{holds_now, IsMetHere, counted as counted_all, due_at, those_due, any_stops, logged, AreCounts, CountsOn, MayBePlanOf}
use Rattle.dbg_plan.specs.Due.{arrives_at, arrivals, accepts}
use Rattle.dbg_plan.specs.Logs.{Log}
use Rattle.dbg_plan.specs.Plans.{Listed, IsPlanOf, IsNumbered, is_of, those_of, marked_addresses, listed_of, breakpoints_of}
use Rattle.dbg_plan.specs.Quiet.{AreMarksIn}
use Rattle.dbg_plan.specs.Running.{has_hit}
use Rattle.dbg_plan.specs.Table.{AreCountersOf, AreMarksOf}
use Rattle.dbg_plan.proofs.Asked.{can_ask, answer_is}
use Rattle.dbg_plan.proofs.Counters.{AreAlike, read_is, same_due, same_passed, same_noted}
use Rattle.dbg_plan.proofs.Here.{any_plain, arrivals_rise, within, are_met, goes_on}
use Rattle.dbg_plan.proofs.Places.{arrives_here}
use Rattle.dbg_plan.proofs.Tally.{tally_hits, tally_due}
use Rattle.dbg_plan.proofs.Unwatched.{fits_of, among_those}
use Rattle.dbg_plan.proofs.Watching.{there, none_of}
use Rattle.std.proofs.lemmas.Grind.{common_steps}

-- ---- by the number of the step that comes next

module _ (m : Standing) (p : ℕ) (here : IsNext (program m) (top_of (frames m)) p) (bs : List Breakpoint)
    (numbered : IsNumbered bs) (counts : List ℕ) (first : ℕ) (le : first ≤ m.position)
    (are : AreCounts (program m) bs first m.position counts) where
  abbrev arrives : Breakpoint → Bool
  arrives b = arrives_at (program m) (plain_breakpoint b) m.position

  abbrev before : Breakpoint → ℕ
  before b = arrivals (program m) (plain_breakpoint b) first m.position

  abbrev after : Breakpoint → ℕ
  after b = arrivals (program m) (plain_breakpoint b) first (m.position + 1)

  -- a breakpoint is met where one of the step's is due
  pub hits_are : has_hit (plain_breakpoints bs) first m ≡ list_any (λ b. due_at (holds_now m) b counts) (those_of p bs)
  hits_are =
      any_plain _ bs ∙ sym (tally_hits (is_of p) (holds_now m) arrives before after (arrives_here (program m)
      m.unit.tree.in_order (configuration m) p here) (λ b. arrivals_rise (program m) (plain_breakpoint b) first
      m.position le) bs 0 counts numbered.numbers are) ∙ among_those p (λ b. due_at (holds_now m) b counts) bs

  none_due : (f : Breakpoint → Bool) (more : List Breakpoint) → list_any f more ≡ false → filter f more ≡ []
  none_due f [] none = refl
  none_due f (b ∷ more) none =
      let both = or_parts _ _ none in
      ap (λ v. cond v (b ∷ filter f more) (filter f more)) both.0 ∙ none_due f more both.1

  -- where none is met, none of the step's is due
  pub none_are_due : length counts ≡ 256 → has_hit (plain_breakpoints bs) first m ≡ false
      → those_due (holds_now m) (those_of p bs) counts ≡ []
  none_are_due room none =
      let few = numbered.few in
      tally_due (is_of p) (holds_now m) arrives before after (arrives_here (program m) m.unit.tree.in_order
      (configuration m) p here) (λ b. arrivals_rise (program m) (plain_breakpoint b) first m.position le) bs 0 counts
      numbered.numbers (omega (arith, few, room)) are ∙ none_due (λ b. arrives b && accepts b.rule (after b)) bs (sym
      (any_plain _ bs) ∙ none)

-- ---- by index

has_at : (bs : List Breakpoint) (k : ℕ) → k < length bs → (b : Breakpoint) × (slice_get bs k ≡ Some b)
has_at [] k lt = absurd (omega (arith, lt))
has_at (b ∷ bs) zero lt = (b, refl)
has_at (b ∷ bs) (suc k) lt = has_at bs k (omega (arith, lt))

at_get : (P : Breakpoint → Type 0) (bs : List Breakpoint) (k : ℕ) (b : Breakpoint) → All P bs → slice_get bs k ≡ Some b
    → P b
at_get P [] k b all is = absurd cc
at_get P (x ∷ bs) zero b all is = subst P (same_Some x b is) (all 0 x (omega arith))
at_get P (x ∷ bs) (suc k) b all is = at_get P bs k b (λ j d lt. all (suc j) d (omega (arith, lt))) is

next_within : (m : Standing) (n : ℕ) → IsNext (program m) (top_of (frames m)) n → n < length (steps (program m))
next_within m n next = grind (arith, common_steps, frames, length, steps)

-- ---- the counters of the machine's step

module _ (laws : FramesAreLinked) (m : Standing) (bs : List Breakpoint) (cs : List Counter) (of : AreCountersOf bs cs)
    (met : All (IsMetHere m) bs) where
  can_count : (room : ℕ) → All (λ b. b.number < room) bs → All (CanCount (frames m) room) cs
  can_count room numbers = λ k d lt.
      let long = of.long in
      let c = get_or cs k d in
      let b = has_at bs k (omega (arith, lt, long)) in
      let is = of.each k b.0 c b.1 (slice_get-get_or cs k d lt) in (
        can_ask laws m b.0 (at_get (λ b. IsMetHere m b) bs k b.0 met b.1) c.proviso is.asks,
        subst (λ n. n < room) (sym is.number) (at_get (λ b. b.number < room) bs k b.0 numbers b.1),
      )

  alike : AreAlike (answer_in (frames m)) (holds_now m) bs cs
  alike = record {
    long = of.long;
    each = λ k b c here there.
        let is = of.each k b c here there in
        record {
          holds = answer_is laws m b (at_get (λ b. IsMetHere m b) bs k b met here) c.proviso is.asks;
          number = is.number;
          rule = is.rule;
          starts_over = is.starts_over;
          stops = is.stops;
        };
  }

due_is : (f : Proviso → Bool) (cs : List Counter) (counts : List ℕ) (due : Bool) (new : List ℕ)
    → IsCounted f cs counts due new → any_due f cs counts ≡ due
due_is f cs counts true new counted = counted.0
due_is f cs counts false new counted = counted.0

module _ (laws : FramesAreLinked) (plan : Option Listed) (counts : List ℕ) (room : length counts ≡ 256) where
  -- the counters of the step that comes next are those of its breakpoints, which are met there
  counters_there : (u : Compiled) (asked : Listed) (marks : Marks) → IsPlanOf u asked → AreMarksOf asked marks
      → (m : Standing) → m.unit ≡ u → (n : ℕ) → IsNext (program m) (top_of (frames m)) n
      → AreCountersOf (those_of n asked.breakpoints) (counters_of marks.counters.items n)
      × All (IsMetHere m) (those_of n asked.breakpoints)
  counters_there u asked marks is are m same n next =
      let here : IsPlanOf m.unit asked = subst (λ v. IsPlanOf v asked) (sym same) is in
      let long = are.counters.long in
      let steps = here.steps in
      let within = next_within m n next in (
        read_is (those_of n asked.breakpoints) marks.counters.items n (omega (arith, long, steps, within))
            (are.counters.each n),
        are_met m n next asked.breakpoints here.bound,
      )

  pub has_table : (u : Compiled) (marks : Option Marks) → MayBePlanOf u plan → AreMarksIn plan marks
      → IsTable u (length counts) marks
  unfolding marked_addresses
  has_table u None fits in_plan = tt
  has_table u (Some marks) fits in_plan =
      let asked = in_plan.0 in
      let are = in_plan.2 in
      let is = fits_of u plan asked in_plan.1 fits in (
        ap length are.marked ∙ ap length is.marked ∙ length-map u.begun_steps.items _,
        λ m n same next.
            let there = counters_there u asked marks is are m same n next in
            can_count laws m _ _ there.0 there.1 (length counts) (within asked.breakpoints are.numbered n counts room),
      )

  module _ (past : Bool) (marks : Marks) (m : Standing) (fits : MayBePlanOf m.unit plan)
      (in_plan : AreMarksIn plan (Some marks)) (due : Bool) (new : List ℕ)
      (counted : Arrive past (Some marks) m counts due new) where
    abbrev asked : Listed
    asked = in_plan.0

    is : IsPlanOf m.unit asked
    is = fits_of m.unit plan asked in_plan.1 fits

    abbrev next : BeginsNext m counted.0
    next = counted.1

    abbrev those : List Breakpoint
    those = those_of next.step asked.breakpoints

    abbrev cs : List Counter
    cs = counters_of marks.counters.items next.step

    marked_is : list_any (is_of next.step) asked.breakpoints ≡ counted.2
    marked_is = grind (arith, common_steps, there, same_Some, slice_get)

    all_alike : AreAlike (answer_in (frames m)) (holds_now m) those cs
    all_alike =
        let there = counters_there m.unit asked marks is in_plan.2 m refl next.step next.next in
        alike laws m those cs there.0 there.1

    -- where all are counted, also those that are due
    pub noted_as : past ≡ true → (due ≡ any_stops (those_due (holds_now m) those counts))
        × (new ≡ counted_all (holds_now m) those counts)
    noted_as now =
        by_mark counted.2 marked_is (subst (λ p. ArriveAt p (frames m) counted.2 cs counts due new) now counted.4)
      where
        by_mark : (marked : Bool) → list_any (is_of next.step) asked.breakpoints ≡ marked
            → ArriveAt true (frames m) marked cs counts due new
            → (due ≡ any_stops (those_due (holds_now m) those counts)) × (new ≡ counted_all (holds_now m) those counts)
        by_mark false e c =
            let none = sym (none_of next.step asked.breakpoints e) in (
              c.0 ∙ ap (λ bs. any_stops (those_due (holds_now m) bs counts)) none,
              c.1 ∙ ap (λ bs. counted_all (holds_now m) bs counts) none,
            )
        by_mark true e c =
            let both = same_noted (answer_in (frames m)) (holds_now m) those cs counts all_alike in
            (c.0 ∙ both.0, c.1 ∙ both.1)

    -- where none is counted if one is due
    module _ (now : past ≡ false) where
      here : ArriveAt false (frames m) counted.2 cs counts due new
      here = subst (λ p. ArriveAt p (frames m) counted.2 cs counts due new) now counted.4

      due_among : list_any (λ b. due_at (holds_now m) b counts) those ≡ due
      due_among = by_mark counted.2 marked_is here
        where
          by_mark : (marked : Bool) → list_any (is_of next.step) asked.breakpoints ≡ marked
              → ArriveAt false (frames m) marked cs counts due new
              → list_any (λ b. due_at (holds_now m) b counts) those ≡ due
          by_mark false e c = cc (none_of next.step asked.breakpoints e, c.0)
          by_mark true e c =
              sym (same_due (answer_in (frames m)) (holds_now m) those cs counts all_alike)
              ∙ due_is (answer_in (frames m)) cs counts due new c

      module _ (first : ℕ) (le : first ≤ m.position)
          (are : AreCounts (program m) (listed_of plan) first m.position counts) where
        are_asked : AreCounts (program m) asked.breakpoints first m.position counts
        are_asked = subst (λ q. AreCounts (program m) (listed_of q) first m.position counts) in_plan.1 are

        met_where_due : has_hit (plain_breakpoints asked.breakpoints) first m ≡ due
        met_where_due = grind (arith, common_steps, hits_are, are_asked, due_among)

        counts_as : due ≡ false → new ≡ counted_all (holds_now m) those counts
        counts_as undue = by_mark counted.2 marked_is (subst (λ b. ArriveAt false (frames m) counted.2 cs counts b new)
            undue here)
          where
            none : those_due (holds_now m) those counts ≡ []
            none =
                none_are_due m next.step next.next asked.breakpoints in_plan.2.numbered counts first le are_asked room
                (met_where_due ∙ undue)

            by_mark : (marked : Bool) → list_any (is_of next.step) asked.breakpoints ≡ marked
                → ArriveAt false (frames m) marked cs counts false new → new ≡ counted_all (holds_now m) those counts
            by_mark false e c = cc (c.1, none_of next.step asked.breakpoints e)
            by_mark true e c = c.1 ∙ same_passed (answer_in (frames m)) _ those cs counts all_alike none

-- ---- the counts stay as many

passed_length : (f : Proviso → Bool) (cs : List Counter) (counts : List ℕ)
    → length (passed f cs counts) ≡ length counts
passed_length f [] counts = refl
passed_length f (c ∷ cs) counts =
    grind (arith, common_steps, passed_length f cs (passed_at f c counts), length, true, length-set, false)

noted_length : (f : Proviso → Bool) (cs : List Counter) (counts : List ℕ)
    → length (noted f cs counts) ≡ length counts
noted_length f [] counts = refl
noted_length f (c ∷ cs) counts =
    grind (arith, common_steps, noted_length f cs (noted_at f c counts), length, true, length-set, false)

pub same_length : (past : Bool) (marks : Option Marks) (m : Standing) (counts : List ℕ) (due : Bool) (new : List ℕ)
    → Arrive past marks m counts due new → length new ≡ length counts
same_length past None m counts due new counted = ap length counted.1
same_length past (Some marks) m counts due new counted = by_mark past counted.2 due counted.4
  where
    by_mark : (p marked hit : Bool)
        → ArriveAt p (frames m) marked (counters_of marks.counters.items counted.1.step) counts hit new
        → length new ≡ length counts
    by_mark p false hit c = ap length c.1
    by_mark false true true c = ap length c.1
    by_mark false true false c = ap length c.1 ∙ passed_length (answer_in (frames m))
        (counters_of marks.counters.items counted.1.step) counts
    by_mark true true hit c = ap length c.1 ∙ noted_length (answer_in (frames m))
        (counters_of marks.counters.items counted.1.step) counts

-- A position where the machine counted is counted under the plan, from whatever position on.
pub record IsCountedOn (m : Standing) (plan : Option Listed) (counts new : List ℕ) : Type 0 where
  pub hit : Bool
  pub logs : List Log
  pub on : (first : ℕ) → first ≤ m.position → AreCounts (program m) (listed_of plan) first m.position counts
      → CountsOn (program m) (listed_of plan) m.position first hit logs new

module _ (laws : FramesAreLinked) (plan : Option Listed) (counts : List ℕ) (room : length counts ≡ 256) (m : Standing)
    (fits : MayBePlanOf m.unit plan) where
  pub hit_is : (marks : Option Marks) → AreMarksIn plan marks → (due : Bool) (new : List ℕ)
      → AreCounted marks m counts due new → (first : ℕ) → first ≤ m.position
      → AreCounts (program m) (listed_of plan) first m.position counts → has_hit (breakpoints_of plan) first m ≡ due
  hit_is None in_plan due new counted first le are = cc counted.0
  hit_is (Some marks) in_plan due new counted first le are =
      cc (in_plan.1, met_where_due laws plan counts room false marks m fits in_plan due new counted refl first le are)

  pub counted_on : (marks : Option Marks) → AreMarksIn plan marks → (new : List ℕ) → AreCounted marks m counts false new
      → IsCountedOn m plan counts new
  counted_on None in_plan new counted = grind (arith, common_steps, false, due_is)
  counted_on (Some marks) in_plan new counted =
      let asked = in_plan.0 in
      let next : BeginsNext m counted.0 = counted.1 in
      let those = those_of next.step asked.breakpoints in
      record {
        hit = any_stops (those_due (holds_now m) those counts);
        logs = logged m (those_due (holds_now m) those counts);
        on = λ first le are.
            goes_on m next.step next.next plan asked in_plan.1 in_plan.2.numbered those refl counts room _ _ new refl
            refl (counts_as laws plan counts room false marks m fits in_plan false new counted refl first le are refl)
            first le
            are;
      }

  -- the same, where all arrivals are counted
  pub noted_on : (marks : Option Marks) → AreMarksIn plan marks → (stops : Bool) (new : List ℕ)
      → AreNoted marks m counts stops new → (logs : List Log) × ((first : ℕ) → first ≤ m.position
      → AreCounts (program m) (listed_of plan) first m.position counts
      → CountsOn (program m) (listed_of plan) m.position first stops logs new)
  noted_on None in_plan stops new noted = grind (arith, common_steps, false)
  noted_on (Some marks) in_plan stops new noted =
      let asked = in_plan.0 in
      let next : BeginsNext m noted.0 = noted.1 in
      let those = those_of next.step asked.breakpoints in
      let both = noted_as laws plan counts room true marks m fits in_plan stops new noted refl in (
        logged m (those_due (holds_now m) those counts),
        λ first le are.
            goes_on m next.step next.next plan asked in_plan.1 in_plan.2.numbered those refl counts room stops _ new
            both.0 refl both.1 first le are,
      )
