use Rattle.std.proofs.lemmas.Bool.Decides.{not_from_Decides}
use Rattle.dap_debug.proofs.Further.{on_ok, set_own, refuse_other}
use Rattle.dap_debug.proofs.breakpoints.set_in.Goals as goal

pub returns-in_ok-set : goal.returns-in_ok-set
returns-in_ok-set g c =
    on_ok _ _ c.reply_with.result c.reply_with.ensures (λ reply is. set_own g.L.Language.shows c.args.less _
    c.args.program.now c.args.path.now _ _ _ _ _ c.list-asked.ensures (c.is_source.ensures.0 c.if-is_source.true)
    c.in_ok-set.ensures is)

pub returns-in_ok-answers : goal.returns-in_ok-answers
returns-in_ok-answers g c =
    on_ok _ _ c.reply_with-else-is_source.result c.reply_with-else-is_source.ensures (λ reply is. refuse_other
    g.L.Language.shows c.args.less _ c.args.program.now c.args.path.now _ _ _ _ c.list-asked.ensures
    (not_from_Decides _ c.is_source.ensures c.if-is_source.false) c.in_ok-answers.ensures is)
