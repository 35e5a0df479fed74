use Rattle.dap_debug.proofs.Balance.{work_balanced, replies_balanced}
use Rattle.dap_debug.proofs.Merging.{all_bytes_kept, alternate}
use Rattle.dap_debug.proofs.Pieces.{kept, told_one}
use Rattle.dap_debug.specs.Replies.{known_of}
use Rattle.dap_debug.proofs.laws.debug_laws.Goals as goal

pub returns-clause-work : goal.returns-clause-work
returns-clause-work g c = work_balanced g.L.Debuggee.takes g.L.Debuggee.sees

pub returns-clause-replies : goal.returns-clause-replies
returns-clause-replies g c =
    replies_balanced (known_of g.L.Debuggee.takes g.L.Debuggee.sees g.L.Language.shows)

pub returns-clause-texts : goal.returns-clause-texts
returns-clause-texts g c = λ told. (all_bytes_kept told, alternate told)

pub returns-clause-pieces : goal.returns-clause-pieces
returns-clause-pieces g c = kept

pub returns-clause-one : goal.returns-clause-one
returns-clause-one g c = told_one
