use Rattle.std.proofs.Common.{refl}
use Rattle.dap_inspection.specs.Questions.{subject_of}
use Rattle.dap_inspection.proofs.asking.ask.Goals as goal

pub returns-in-Scopes-clause-replies : goal.returns-in-Scopes-clause-replies
returns-in-Scopes-clause-replies c =
    let of = subject_of c.args.debuggee.now c.args.path.now c.args.settings in
    rw c.in-Scopes.is (c.scopes.ensures.replies of refl)

pub returns-in-Variables-clause-replies : goal.returns-in-Variables-clause-replies
returns-in-Variables-clause-replies c =
    let of = subject_of c.args.debuggee.now c.args.path.now c.args.settings in
    rw c.in-Variables.is (c.variables.ensures.replies of refl)

pub returns-in-Evaluate-clause-replies : goal.returns-in-Evaluate-clause-replies
returns-in-Evaluate-clause-replies c =
    let of = subject_of c.args.debuggee.now c.args.path.now c.args.settings in
    rw c.in-Evaluate.is (c.evaluate.ensures.replies of refl)
