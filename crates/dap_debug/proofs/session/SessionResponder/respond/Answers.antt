use Rattle.std.proofs.Common.{◌∙◌, ap}
use Rattle.std.specs.Prelude.{option_map}
use Rattle.serde_json.specs.View.{view}
use Rattle.dap_server.specs.Messages.{plain_reply}
use Rattle.dap_debug.specs.Commands.{checked}
use Rattle.dap_debug.specs.Loading.{reads_by, situation}
use Rattle.dap_debug.specs.Replies.{Answers, known_of}
use Rattle.dap_debug.specs.Serving.{FilesFor}
use Rattle.dap_debug.specs.Standings.{standing}
use Rattle.dap_debug.proofs.Loaded.{both_ok}
use Rattle.dap_debug.proofs.session.SessionResponder.respond.Goals as goal

pub returns-clause-replied : goal.returns-clause-replied
returns-clause-replied g c =
    both_ok
    (λ command reply. Answers (known_of g.L.Debuggee.takes g.L.Debuggee.sees g.L.Language.shows) command
    (option_map (λ v. view v.now) c.args.arguments) (standing c.args.self.now.state) (plain_reply reply)
    (standing c.reply_to.new.self.state))
    (λ command reply. FilesFor (known_of g.L.Debuggee.takes g.L.Debuggee.sees g.L.Language.shows)
    (reads_by g.F.Opener.opens g.F.Opener.closes g.F.File.Source.supply) command
    (option_map (λ v. view v.now) c.args.arguments)
    (situation (standing c.args.self.now.state) c.args.self.now.files.now) (plain_reply reply)
    (situation (standing c.reply_to.new.self.state) c.reply_to.new.self.files.now))
    _ _ c.reply_to.result
    (c.checked.ensures ∙ ap (λ command. checked command (option_map (λ v. view v.now) c.args.arguments))
    c.command_of.ensures)
    c.reply_to.ensures.replied c.reply_to.ensures.files
