use Rattle.std.proofs.Common.{length, map}
use Rattle.std.specs.Str.{IsUtf8}
use Rattle.dap_server.specs.Messages.{plain_event}
use Rattle.dap_debug.proofs.Pieces.{ToldTo}
use Rattle.dap_debug.proofs.telling.tell_pieces.Given as goal

abbrev pub invariant-loop-piece : goal.invariant-loop-piece
invariant-loop-piece l =
    ToldTo l.category l.text (map plain_event l.initial.events.items) (map plain_event l.events.items) l.rest
    × IsUtf8 l.rest

abbrev pub decreases-loop-piece : goal.decreases-loop-piece
decreases-loop-piece l = length l.rest
