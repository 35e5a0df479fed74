-- A debuggee whose machine took a step.
use Rattle.std.proofs.Common.{◌≡◌, ◌+◌, Bool, true, false, length, Option, ℤ, sym, ◌∙◌, subst, arith}
use Rattle.pl0_meaning.specs.declared.RunFault.{RunFault}
use Rattle.pl0_meaning.specs.Runs.{at}
use Rattle.pl0_meaning.proofs.Linking.{at_next}
use Rattle.pl0_machine.specs.declared.outcome.StepOutcome.{StepOutcome}
use Rattle.pl0_machine.specs.declared.outcome.StepOutcome.TheVariants.{Went, Fault}
use Rattle.pl0_machine.specs.Machine.{Standing, program_of, outcome_of, told, Stepped}
use Rattle.dbg_plan.specs.declared.debuggee.Debuggee.TheInside.{Inside}
use Rattle.dbg_plan.specs.Debugged.{IsRunning}
use Rattle.dbg_plan.specs.Counting.{MayBePlanOf}
use Rattle.dbg_plan.specs.Counts.{IsCounting, plan_of, next_at, next_of, StandsBy}
use Rattle.std.proofs.lemmas.Grind.{common_steps}

module _ (old new : Standing) (result : StepOutcome) (stepped : Stepped (outcome_of old) old result new) where
  -- the program is the same
  pub same_unit : new.unit ≡ old.unit
  same_unit = grind (arith, common_steps)

  -- where the step led on, the program runs
  pub went_on : (written : Option ℤ) → result ≡ Went written → (new ≡ record old { position = old.position + 1 })
      × IsRunning new
  went_on written is = grind (arith, common_steps, at, at_next, length, Fault)

  -- where it faults, all is as before
  pub stays_there : (fault : RunFault) → result ≡ Fault fault → new ≡ old
  stays_there fault is = grind (arith, common_steps, told)

  -- where it does not fault, the position is the next one
  pub goes_on : ((fault : RunFault) → result ≡ Fault fault → ⊥) → new.position ≡ old.position + 1
  goes_on other = grind (arith, common_steps)

module _ (d : Inside) (was : IsCounting d) (machine : Standing) (result : StepOutcome)
    (stepped : Stepped (outcome_of d.machine) d.machine result machine) (behind : next_of d ≡ d.machine.position + 1)
  where
    fits_still : MayBePlanOf machine.unit (plan_of d)
    fits_still = subst (λ u. MayBePlanOf u (plan_of d)) (sym (same_unit d.machine machine result stepped)) was.fits

    -- the counts are those of the positions before the next to be considered
    module _ (considered : Bool) (next : next_at machine.position considered ≡ next_of d)
        (stands : StandsBy machine considered) where
      pub counting_still : IsCounting (record d { machine = machine; considered = considered })
      counting_still = grind (arith, common_steps, fits_still, program_of, same_unit)

    pub after_fault : (fault : RunFault) → result ≡ Fault fault → IsRunning d.machine
        → IsCounting (record d { machine = machine; considered = true })
    after_fault fault is running = grind (arith, common_steps, stays_there, counting_still, true)

    pub after_step : machine.position ≡ d.machine.position + 1 → IsCounting
        (record d { machine = machine; considered = false })
    after_step on = counting_still false (on ∙ sym behind) tt

    pub not_fault : ((fault : RunFault) → result ≡ Fault fault → ⊥)
        → IsCounting (record d { machine = machine; considered = false })
    not_fault other = after_step (goes_on d.machine machine result stepped other)
