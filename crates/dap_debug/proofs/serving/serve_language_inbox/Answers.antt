use Rattle.std.proofs.Common.{rules}
use Rattle.dap_debug.specs.Loading.{reads_by, situation}
use Rattle.dap_debug.specs.Replies.{known_of}
use Rattle.dap_debug.specs.Standings.{standing}
use Rattle.dap_debug.proofs.Loaded.{situated}
use Rattle.dap_debug.proofs.Seeing.{debugged, owes, owes_idle}
use Rattle.dap_debug.proofs.serving.serve_language_inbox.Goals as goal

pub returns-clause-served : goal.returns-clause-served
returns-clause-served g c =
    debugged (λ session. situation (standing session.state) session.files.now)
    (known_of g.L.Debuggee.takes g.L.Debuggee.sees g.L.Language.shows)
    (reads_by g.F.Opener.opens g.F.Opener.closes g.F.File.Source.supply) _ _ _ _ _ _ _ _ _ _ _
    (situated _ _ _ _ c.new-session.ensures.unused c.new-session.ensures.files)
    (search rules) c.serve_worker-ended.ensures.served

pub serve_worker-ended-requires-clause-waits : goal.serve_worker-ended-requires-clause-waits
serve_worker-ended-requires-clause-waits g c i o is =
    c.requires.waits i o (owes_idle (λ session. situation (standing session.state) session.files.now) _ _ _ _ _ _ _ _ _
    _ (situated _ _ _ _ c.new-session.ensures.unused c.new-session.ensures.files) is)

pub serve_worker-ended-requires-clause-looks : goal.serve_worker-ended-requires-clause-looks
serve_worker-ended-requires-clause-looks g c i o is =
    c.requires.looks i o (owes (λ session. situation (standing session.state) session.files.now) _ _ _ _ _ _ _ _ _ _
    (situated _ _ _ _ c.new-session.ensures.unused c.new-session.ensures.files) is)
