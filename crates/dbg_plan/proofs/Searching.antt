-- A debuggee whose machine searched.
use Rattle.std.proofs.Common.{◌≡◌, ℕ, suc, ◌+◌, Bool, true, false, if◌then◌else◌, List, Option, Some, None, is_some, refl, sym, ap, ◌∙◌, subst, arith}
use Rattle.pl0_tree.specs.Tree.{Block}
use Rattle.pl0_meaning.specs.Laws.{FramesAreLinked}
use Rattle.pl0_machine.specs.declared.mark.Marks.{Marks}
use Rattle.pl0_machine.specs.Machine.{Standing, program}
use Rattle.pl0_machine.specs.Stretches.{ahead, found_at, Searched, begins, passes, goes_on}
use Rattle.dbg_plan.specs.declared.debuggee.Debuggee.TheInside.{Inside}
use Rattle.dbg_plan.specs.declared.mode.Mode.TheVariants.{Continue}
use Rattle.dbg_plan.specs.declared.mode.Reason.TheVariants as reason
use Rattle.dbg_plan.specs.Breakpoints.{Breakpoint}
use Rattle.dbg_plan.specs.Counts.{IsCounting, debugged_of, plan_of, next_at, next_of}
use Rattle.dbg_plan.specs.Debugged.{IsConsidered, IsRunning}
use Rattle.dbg_plan.specs.Due.{due}
use Rattle.dbg_plan.specs.Advances.{considered_at}
use Rattle.dbg_plan.specs.Plans.{breakpoints_of}
use Rattle.dbg_plan.specs.Quiet.{AreMarksIn}
use Rattle.dbg_plan.specs.Retreat.{last_due}
use Rattle.dbg_plan.proofs.Counted.{same_length, noted_on}
use Rattle.dbg_plan.proofs.Further.{was_considered, stays_counting, led}
use Rattle.dbg_plan.proofs.QuietCounts.{with_machine, behind_at, hit_at, counts_on}
use Rattle.dbg_plan.proofs.Unwatched.{not_due}

-- the last due position up to p, by whether p is due
last_next : (main : Block) (bs : List Breakpoint) (p : ℕ) → last_due main bs (p + 1)
    ≡ (if is_some (due main bs 0 Continue p) then Some p else last_due main bs p)
last_next main bs p = let e : p + 1 ≡ suc p = omega arith in ap (λ n. last_due main bs n) e

told_by : (stops : Bool) → is_some (if stops then Some reason.Breakpoint else None) ≡ stops
told_by true = refl
told_by false = refl

module _ (laws : FramesAreLinked) (d : Inside) (was : IsCounting d) (behind : next_of d ≡ d.machine.position + 1)
    (alive : IsRunning d.machine) (marks : Option Marks) (in_plan : AreMarksIn (plan_of d) marks)
    (found : Option ℕ) where
  abbrev main : Block
  main = program d.machine

  abbrev bs : List Breakpoint
  bs = breakpoints_of (plan_of d)

  abbrev later : Standing → List ℕ → Inside
  later m counts = with_machine laws d was behind 0 0 marks in_plan m counts

  -- the one found is the last one up to p, if it was so where the search began, with counts from the start
  abbrev pub IsLast : ℕ → Option ℕ → Type 0
  IsLast p last =
      d.counted_from ≡ 0 → found ≡ last_due main bs (d.machine.position + 1) → last ≡ last_due main bs (p + 1)

  -- where the search has come to
  pub record HasCome (m : Standing) (counts : List ℕ) (last : Option ℕ) : Type 0 where
    pub same : m.unit ≡ d.machine.unit
    pub counting : IsCounting (later m counts)
    pub running : IsRunning m
    pub last_is : IsLast m.position last

  -- a position, as its program and the first position that counts are
  here : (m : Standing) → m.unit ≡ d.machine.unit → d.counted_from ≡ 0 → (p : ℕ)
      → due (program m) bs d.counted_from Continue p ≡ due main bs 0 Continue p
  here m same from_start p =
      ap (λ u. due (program (record m { unit = u })) bs d.counted_from Continue p) same
      ∙ ap (λ t. due main bs t Continue p) from_start

  step : (m : Standing) (last : Option ℕ) → last ≡ last_due main bs (m.position + 1) → (stops : Bool)
      → is_some (due main bs 0 Continue (m.position + 1)) ≡ stops
      → found_at stops (m.position + 1) last ≡ last_due main bs (m.position + 1 + 1)
  step m last last_is stops is =
      ap (λ (b : Bool). if b then Some (m.position + 1) else last) (sym is)
      ∙ ap (λ l. if is_some (due main bs 0 Continue (m.position + 1)) then Some (m.position + 1) else l) last_is
      ∙ sym (last_next main bs (m.position + 1))

  pub searched_at : {m : Standing} {counts : List ℕ} {last : Option ℕ}
      → Searched marks d.machine d.counts found m counts last → HasCome m counts last
  searched_at begins = record { same = refl; counting = was; running = alive; last_is = λ from_start is. is }
  searched_at (passes {m} {left} {after} {last} more unseen) =
      let b = searched_at more in
      let none =
      hit_at laws d was behind 0 0 marks in_plan m b.same left b.counting false after unseen.undue in
      record {
        same = b.same;
        counting = counts_on laws d was behind 0 0 marks in_plan m b.same left b.counting after unseen;
        running = unseen.running;
        last_is = λ from_start is. step m last (b.last_is from_start is) false
            (ap is_some (sym (here m b.same from_start (m.position + 1))
            ∙ not_due (debugged_of (later (ahead m 1) after)) none));
      }
  searched_at (goes_on {m} {left} {after} {last} stops more running noted) =
      let b = searched_at more in
      let on =
      noted_on laws (plan_of d) left b.counting.room (ahead m 1) b.counting.fits marks in_plan stops after noted in
      let told =
      led (later m left) b.counting (behind_at laws d was behind 0 0 marks in_plan m left) (ahead m 1) refl running
      after stops on.0 on.1 Continue (if stops then Some reason.Breakpoint else None) refl in
      record {
        same = b.same;
        counting = stays_counting (later m left) b.counting (behind_at laws d was behind 0 0 marks in_plan m left)
            (ahead m 1) refl running after stops on.0 on.1
            (same_length true marks (ahead m 1) left stops after noted ∙ b.counting.room);
        running = running;
        last_is = λ from_start is. step m last (b.last_is from_start is) stops
            (ap is_some (sym (here m b.same from_start (m.position + 1)) ∙ sym told.2) ∙ told_by stops);
      }

  -- the debuggee at the limit
  module _ (m : Standing) (counts : List ℕ) (last : Option ℕ)
      (s : Searched marks d.machine d.counts found m counts last) (limit : ℕ) (there : m.position ≡ limit) where
    pub stays : IsCounting (record d { machine = m; counts = counts })
    stays = (searched_at s).counting

    pub goes_to : debugged_of (record d { machine = m; counts = counts }) ≡ considered_at (debugged_of d) limit
    goes_to =
        let considered = was_considered d.machine.position d.considered behind in
        ap (λ u. debugged_of (record d { machine = record m { unit = u }; counts = counts })) (searched_at s).same
        ∙ ap (λ b. record (debugged_of d) { position = m.position; next = next_at m.position b }) considered
        ∙ ap (λ p. considered_at (debugged_of d) p) there

    pub is_considered : IsConsidered (debugged_of (record d { machine = m; counts = counts }))
    is_considered =
        record { behind = behind_at laws d was behind 0 0 marks in_plan m counts; running = (searched_at s).running }

    pub found_last : IsLast limit last
    found_last = subst (λ p. IsLast p last) there (searched_at s).last_is
