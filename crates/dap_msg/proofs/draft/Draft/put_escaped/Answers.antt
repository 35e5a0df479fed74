use Rattle.dap_msg.proofs.Common.{ap, on_ok_weaker, sym, ◌++◌, ◌∙◌}
use Rattle.dap_msg.proofs.Pieces.{escape_plain}
use Rattle.dap_msg.proofs.draft.Draft.put_escaped.Goals as goal

pub returns-then-is_plain : goal.returns-then-is_plain
returns-then-is_plain c =
    on_ok_weaker c.put.result
    (λ e. e ∙ ap (λ t. c.args.self.now ++ t)
    (sym (escape_plain c.args.text.now (sym c.is_plain.ensures ∙ c.if-is_plain.true)))) c.put.ensures
