use Rattle.std.proofs.Common.{◌≡◌, ◌++◌, string_bytes, drop}
use Rattle.adapter.specs.Listing.{lines_from, step_line}
use Rattle.adapter.proofs.listing.write_steps.Given as goal

abbrev pub invariant-loop-number : goal.invariant-loop-number
invariant-loop-number l =
    string_bytes l.text ++ lines_from (λ n s. step_line n s.kind s.place) l.number (drop l.number l.steps)
    ≡ string_bytes l.fn.text ++ lines_from (λ n s. step_line n s.kind s.place) 0 l.steps
