-- What an act did at each of three ports.
use Rattle.std.specs.Prelude.{ℕ, List, [], ◌∷◌}
use Rattle.std.specs.Option.{option_to_list}
use Rattle.dbg_runner.specs.Plain.{PlainOrder, PlainReport}
use Rattle.dbg_runner.specs.Runner.{Act, Waited, Looked, Passed, Sent, HandedBack}

-- the order that it took
abbrev pub order_in : Act → List PlainOrder
order_in (Waited order) = order ∷ []
order_in (Looked found) = option_to_list found
order_in _ = []

-- the report that it sent
abbrev pub sent_in : Act → List PlainReport
sent_in (Sent r) = r ∷ []
sent_in _ = []

-- the report that was handed back
abbrev pub handed_back_in : Act → List PlainReport
handed_back_in (HandedBack r) = r ∷ []
handed_back_in _ = []

-- the slice that passed, by the number of its run and its own
abbrev pub passed_in : Act → List (ℕ × ℕ)
passed_in (Passed run slice position) = (run, slice) ∷ []
passed_in _ = []
