-- What an evaluation returns, in the terms of the meaning.
use Rattle.std.specs.Prelude.{Result, Ok, Err}
use Rattle.pl0_meaning.specs.declared.RunFault.{RunFault}
use Rattle.pl0_meaning.specs.declared.RunFault.TheVariants as run_fault
use Rattle.dbg_plan.specs.declared.evaluation.EvalFault.{EvalFault}
use Rattle.dbg_plan.specs.declared.evaluation.EvalFault.TheVariants.{Overflow, DivideByZero}

-- the fault of a run that an evaluation has
abbrev pub fault_of : EvalFault → RunFault
fault_of Overflow = run_fault.Overflow
fault_of DivideByZero = run_fault.DivideByZero

-- a value, or the run's fault in place of that of an evaluation
abbrev pub answered : {A : Type 0} → Result A EvalFault → Result A RunFault
answered (Ok result) = Ok result
answered (Err fault) = Err (fault_of fault)
