-- Which faults an operation of arithmetic may have.
use Rattle.std.specs.Prelude.{Result, Ok, Err, ℤ}
use Rattle.pl0_meaning.specs.declared.RunFault.{RunFault}
use Rattle.pl0_meaning.specs.declared.RunFault.TheVariants.{Overflow, DivideByZero, Depth, StepLimit}

-- a number that doesn't fit, or a divisor that is 0, and no other fault
abbrev pub IsArithmetic : Result ℤ RunFault → Type 0
IsArithmetic (Ok v) = Unit {0}
IsArithmetic (Err Overflow) = Unit {0}
IsArithmetic (Err DivideByZero) = Unit {0}
IsArithmetic (Err Depth) = ⊥
IsArithmetic (Err StepLimit) = ⊥
