use Rattle.std.proofs.Common.{◌≡◌, ◌++◌, string_bytes, drop, slice_get}
use Rattle.adapter.specs.Listing.{lines_from, instruction_line, begun_by}
use Rattle.adapter.proofs.listing.write_code.Given as goal

abbrev pub invariant-loop-number : goal.invariant-loop-number
invariant-loop-number l =
    string_bytes l.text ++ lines_from (λ n i. instruction_line n i (begun_by (slice_get l.begun n))) l.number
    (drop l.number l.code)
    ≡ string_bytes l.fn.text ++ lines_from (λ n i. instruction_line n i (begun_by (slice_get l.begun n))) 0 l.code
