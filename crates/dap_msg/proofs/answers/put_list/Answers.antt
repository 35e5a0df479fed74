use Rattle.dap_msg.proofs.Common.{ap, map, on_ok_weaker, PutsValue, subst, ◌++◌, ◌∙◌}
use Rattle.dap_msg.proofs.Pieces.{item_put, each_put, list_put}
use Rattle.dap_msg.proofs.answers.put_list.Goals as goal

pub loop-one-preserved : goal.loop-one-preserved
loop-one-preserved g c =
    item_put g.T.Written.value c.args.all.now c.loop-one.one-index c.one-item.result c.loop-one.is_later _
    c.loop-one.text _ _ c.loop-one-test.true c.loop-one.invariant c.in_ok-put_comma_if.ensures
    (subst (λ x. PutsValue (g.T.Written.value x) c.put_comma_if.new.self c.put_to.new.text) c.one-item.is
    c.in_ok-put_to.ensures)

pub returns : goal.returns
returns g c key is =
    on_ok_weaker c.put-2.result
    (list_put key (map g.T.Written.value c.args.all.now) _ _ _ _
    (c.in_ok-put.ensures ∙ ap (λ t. c.args.text.now ++ t) is)
    (each_put g.T.Written.value c.args.all.now c.loop-one.one-index c.loop-one.is_later _ _ c.loop-one-test.false
    c.loop-one.invariant)) c.put-2.ensures
