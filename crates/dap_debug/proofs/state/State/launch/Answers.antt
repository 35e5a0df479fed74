use Rattle.std.proofs.Common.{◌∙◌, ap, refl, sym}
use Rattle.std.specs.Prelude.{Ok, Err}
use Rattle.dap_server.specs.Messages.{plain_reply}
use Rattle.dap_debug.specs.Running.{refusal}
use Rattle.dap_debug.specs.Standings.{standing}
use Rattle.dap_debug.proofs.Further.{on_ok}
use Rattle.dap_debug.proofs.Loaded.{launched}
use Rattle.dap_debug.proofs.state.State.launch.Goals as goal

pub returns-in-Ok : goal.returns-in-Ok
returns-in-Ok g c =
    on_ok _ _ c.load.result c.load.ensures (λ reply is. launched g.L.Language.shows.reads_as _ _ c.in-Some.path.now
    (Ok c.in-Ok.bytes.items) (standing c.args.self.now) _ c.args.files.now _
    (plain_reply reply) c.in_default.not-Running
    (sym c.in-Some.ensures) c.in-Ok.ensures.read is)

pub returns-in-Err : goal.returns-in-Err
returns-in-Err g c =
    on_ok _ _ c.refused-in-Err.result c.refused-in-Err.ensures (λ reply is. launched g.L.Language.shows.reads_as _ _
    c.in-Some.path.now (Err c.in-Err.why) (standing c.args.self.now) _ c.args.files.now _ (plain_reply reply)
    c.in_default.not-Running (sym c.in-Some.ensures) c.in-Err.ensures.read
    (is ∙ ap refusal c.unread_text.ensures, refl))
