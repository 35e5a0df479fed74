use Rattle.dap_frame.proofs.Common.{AllDigits, digits_value, take, ◌≡◌}
use Rattle.dap_frame.proofs.field.length_of.Given as goal

-- so far there are digits alone, and n is their number
abbrev pub invariant-loop-x : goal.invariant-loop-x
invariant-loop-x l =
    record { digits : AllDigits 10 (take l.x-index l.value); number : l.n ≡ digits_value 10 (take l.x-index l.value) }
