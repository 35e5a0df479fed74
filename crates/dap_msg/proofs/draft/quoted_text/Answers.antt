use Rattle.dap_msg.proofs.Common.{append-nil}
use Rattle.json.specs.Print.{quoted, print_from}
use Rattle.dap_msg.proofs.draft.quoted_text.Goals as goal

pub returns : goal.returns
unfolding print_from
returns c =
    rw (
      c.in-Ok.ensures.ok,
      c.into_inner.ensures.items,
      c.in_ok-string.ensures.room.0,
      c.new-out.ensures.before,
      c.new.ensures.items,
      c.in_ok-string.ensures.ok,
      c.new-out.ensures.tokens,
    ) (append-nil (quoted c.args.text.now))
