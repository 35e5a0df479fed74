-- Defines what a full queue of orders tells of the whole run.
use Rattle.std.specs.Prelude.{◌≤◌, List, length}
use Rattle.dbg_runner.specs.Plain.{PlainOrder}
use Rattle.dap_wires.specs.Rooms.{orders_room}

-- At least as many orders were pushed as the queue has room for. A Quit that was pushed after the queue was full counts
-- too, and some of them may have been taken meanwhile.
abbrev pub EnoughWerePushed : List PlainOrder → Type 0
EnoughWerePushed pushed = orders_room ≤ length pushed
