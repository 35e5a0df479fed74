use Rattle.dap_msg.proofs.Common.{on_ok_weaker, ReferenceFits, rules}
use Rattle.dap_msg.proofs.Pieces.{scope_put}
use Rattle.dap_msg.proofs.answers.ScopeWritten.put_to.Goals as goal

pub returns : goal.returns
returns c =
    let fits : ReferenceFits c.args.self.now = search rules in
    on_ok_weaker c.put-3.result
    (scope_put c.args.self.now _ _ _ _ _ _ fits c.in_ok-put.ensures
    (rw c.as_str.ensures at c.in_ok-put_escaped.ensures) c.in_ok-put-2.ensures c.in_ok-put_whole.ensures)
    c.put-3.ensures
