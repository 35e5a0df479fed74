use Rattle.dbg_runner.proofs.Common.{ap, arith, Bool, false, if◌then◌else◌, None, refl, Some, Standing, sym, true, ℕ, ◌∙◌, ◌≡◌}
use Rattle.std.specs.Bool.{then_some}
use Rattle.dbg_plan.specs.declared.mode.Reason.TheVariants as reason
use Rattle.dbg_runner.proofs.Returning.{on_return, on_search, search_leads, runs_through}
use Rattle.dbg_runner.proofs.retreat.begin.Goals as goal

then_is : (b d : Bool) → b ≡ d → then_some {T = ℕ} b 0 ≡ (if d then Some 0 else None)
then_is true d is = let e : d ≡ true = sym is in rw e refl
then_is false d is = let e : d ≡ false = sym is in rw e refl

pub returns-in-StepBack-clause-on : goal.returns-in-StepBack-clause-on
returns-in-StepBack-clause-on c =
    let old = c.args.debuggee.now in
    let at = c.position-start.ensures.position ∙ ap (λ (m : Standing). m.position) c.machine.ensures in
    let is = c.saturating_sub-previous.ensures in
    on_return old.position old c.go_back.new.debuggee c.saturating_sub-previous.result reason.Step 0
    c.go_back.ensures.gone (omega (arith, is, at)) (omega arith)

pub returns-then-start-eq0-clause-on : goal.returns-then-start-eq0-clause-on
returns-then-start-eq0-clause-on c =
    let old = c.args.debuggee.now in
    on_return old.position old _ 0 reason.Entry 0 c.go_back-due.ensures.gone (omega arith) (omega arith)

pub returns-clause-on : goal.returns-clause-on
returns-clause-on c =
    let old = c.args.debuggee.now in
    let at = c.position-start.ensures.position ∙ ap (λ (m : Standing). m.position) c.machine.ensures in
    let some = c.if-start-eq0.false in
    on_search old.position old c.go_back-due.new.debuggee c.then_some.result (omega (arith, at, some))
    c.go_back-due.ensures.gone (c.then_some.ensures ∙ then_is c.go_back-due.result _ c.go_back-due.ensures.due)

pub returns-clause-leads : goal.returns-clause-leads
returns-clause-leads c =
    let old = c.args.debuggee.now in
    search_leads c.args.mode old.position old c.go_back-due.new.debuggee c.then_some.result c.in_default.not-StepBack
    c.requires.back c.go_back-due.ensures.gone

pub returns-clause-counted : goal.returns-clause-counted
returns-clause-counted c = sym (runs_through _ _ _ _ c.in_default.not-StepBack c.requires.back)
