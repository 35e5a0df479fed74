use Rattle.std.proofs.Common.{map, rules}
use Rattle.std.specs.Str.{IsUtf8}
use Rattle.dap_server.specs.Messages.{plain_event}
use Rattle.dap_debug.proofs.Pieces.{told_all, told_more, told_none}
use Rattle.dap_debug.proofs.telling.tell_pieces.Goals as goal

pub loop-piece-init : goal.loop-piece-init
loop-piece-init c = (
  told_none c.args.category.now c.args.text.now (map plain_event c.args.events.now.items),
  (let is : IsUtf8 c.args.text.now = search rules in is),
)

pub loop-piece-preserved : goal.loop-piece-preserved
loop-piece-preserved c = (
  told_more c.args.category.now c.args.text.now _ _ _ c.loop-piece.rest.now c.in-Some.piece.now c.in-Some.left.now
      c.loop-piece.invariant.0 c.in-Some.ensures.long c.in-Some.ensures.front c.in-Some.ensures.left
      c.in_ok-tell_piece.ensures,
  (let is : IsUtf8 c.in-Some.left.now = search rules in is),
)

pub returns : goal.returns
returns c =
    told_all c.args.category.now c.args.text.now _ _ c.loop-piece.rest.now _ _ c.loop-piece.invariant.0
    c.in_default.ensures.none c.tell_piece-2.ensures
