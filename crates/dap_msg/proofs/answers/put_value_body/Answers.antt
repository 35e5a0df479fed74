use Rattle.dap_msg.proofs.Common.{on_ok_weaker, rules, SFits, to_z-of_z, w64}
use Rattle.dap_msg.proofs.Pieces.{value_put}
use Rattle.dap_msg.proofs.answers.put_value_body.Goals as goal

pub returns : goal.returns
returns c =
    let fits : SFits w64 c.args.value = search rules in
    on_ok_weaker c.put-2.result
    (value_put c.args.value _ _ _ _ c.in_ok-put.ensures
    (rw (to_z-of_z w64 c.args.value fits) at c.in_ok-put_signed.ensures)) c.put-2.ensures
