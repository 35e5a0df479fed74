use Rattle.std.proofs.Common.{rules}
use Rattle.dap_debug.specs.Loading.{reads_by, situation}
use Rattle.dap_debug.specs.Replies.{known_of}
use Rattle.dap_debug.specs.Standings.{standing}
use Rattle.dap_debug.proofs.Loaded.{situated}
use Rattle.dap_debug.proofs.Seeing.{debugged_from}
use Rattle.dap_debug.proofs.serving.serve_language.Goals as goal

pub returns-in-Ok-Ok : goal.returns-in-Ok-Ok
returns-in-Ok-Ok g c =
    debugged_from (λ session. situation (standing session.state) session.files.now)
    (known_of g.L.Debuggee.takes g.L.Debuggee.sees g.L.Language.shows)
    (reads_by g.F.Opener.opens g.F.Opener.closes g.F.File.Source.supply) _ _ _ _ _ _ _ _ _ _
    (situated _ _ _ _ c.new-session.ensures.unused c.new-session.ensures.files)
    (search rules) c.serve_worker_input-served.ensures.served (search (rules, c.in-Ok-Ok.is, c.in-Ok-Ok.field-0-is))

pub returns-in-Ok-Err : goal.returns-in-Ok-Err
returns-in-Ok-Err g c =
    debugged_from (λ session. situation (standing session.state) session.files.now)
    (known_of g.L.Debuggee.takes g.L.Debuggee.sees g.L.Language.shows)
    (reads_by g.F.Opener.opens g.F.Opener.closes g.F.File.Source.supply) _ _ _ _ _ _ _ _ _ _
    (situated _ _ _ _ c.new-session.ensures.unused c.new-session.ensures.files)
    (search rules) c.serve_worker_input-served.ensures.served (search (rules, c.in-Ok-Err.is, c.in-Ok-Err.field-0-is))
