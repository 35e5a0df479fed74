use Rattle.std.proofs.Common.{◌≡◌, ◌<◌, ◌∙◌, true, List, length, map, get_or, ap, sym, subst, arith, ℕ}
use Rattle.std.proofs.lemmas.Grind.{common_steps}
use Rattle.std.proofs.lemmas.List.{get_or-map, length-map}
use Rattle.std.proofs.lemmas.List.Elements.{All-get_or, All-push}
use Rattle.pl0_tree.specs.declared.fault.FaultKind.{FaultKind}
use Rattle.pl0_tree.specs.declared.tree.Place.{Place}
use Rattle.pl0_tree.specs.Faults.{IsNameFault}
use Rattle.pl0_tree.specs.Plain.{plain_block}
use Rattle.pl0_tree.specs.Tree.{Block}
use Rattle.pl0_names.specs.AllFaults.{AreAllFaults, fault_at}
use Rattle.pl0_names.specs.declared.check.NameFault.{NameFault}
use Rattle.pl0_mistakes.specs.Lines.{IsFurther, is_of_names}
use Rattle.pl0_mistakes.proofs.further.mistakes_in.Goals as goal
use Rattle.pl0_mistakes.proofs.further.mistakes_in.Goals.{Joined-ne, then-ne+in_ok-push-2, else-ne}

-- each that is found is a fault
fault_is : (main : Block) (found : List NameFault) (i : ℕ) (f : NameFault) → AreAllFaults main (map fault_at found)
    → i < length found → f ≡ get_or found i f → IsNameFault main f.kind f.name.now.place
fault_is main found i f all inside is =
    subst (λ (m : FaultKind × Place). IsNameFault main m.0 m.1)
    (get_or-map fault_at found i f (fault_at f) inside ∙ ap fault_at (sym is))
    (All-get_or (λ (m : FaultKind × Place). IsNameFault main m.0 m.1) (map fault_at found) i (fault_at f)
    (omega (arith, length-map found fault_at)) all.sound)

further : (c : Joined-ne) → IsFurther (IsNameFault (plain_block c.args.main.now)) (fault_at c.fault-item.result)
further c = (
  named,
  fault_is main c.deref-fault-items.result.now c.loop-fault.fault-index c.fault-item.result
      (subst (λ fs. AreAllFaults main (map fault_at fs)) (sym c.deref-fault-items.ensures.value) c.in_ok-faults.ensures)
      (omega (arith, c.loop-fault-test.true, c.loop-fault.auto.fault-index-end)) c.fault-item.is,
)
  where
    main : Block
    main = plain_block c.args.main.now

    named : is_of_names c.fault-item.result.kind ≡ true
    named = grind (arith, common_steps)

pub loop-fault-preserved : goal.loop-fault-preserved
loop-fault-preserved c =
    let Is = IsFurther (IsNameFault (plain_block c.args.main.now)) in
    elim c.if-ne.branch [
      | then-ne+in_ok-push-2 w ↦ rw w.mistakes-is (rw w.in_ok-push-2.ensures.items
          (All-push Is c.loop-fault.mistakes.items (fault_at c.fault-item.result) c.loop-fault.invariant (further c)))
      | else-ne w ↦ rw w.mistakes-is c.loop-fault.invariant
    ]
