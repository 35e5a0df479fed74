use Rattle.dap_debug.proofs.Sums.{each_ends_once}
use Rattle.dap_debug.specs.Loading.{reads_by}
use Rattle.dap_debug.specs.Replies.{known_of}
use Rattle.dap_debug.proofs.laws.conversation_laws.Goals as goal

pub returns : goal.returns
returns g c = λ a b inbox left rest texts course.
    each_ends_once (known_of g.L.Debuggee.takes g.L.Debuggee.sees g.L.Language.shows)
    (reads_by g.F.Opener.opens g.F.Opener.closes g.F.File.Source.supply) g.I.Inbox.gives g.I.Polled.polls a inbox b
    rest left texts course
