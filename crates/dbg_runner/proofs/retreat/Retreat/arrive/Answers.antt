use Rattle.dbg_runner.proofs.Common.{ap, Debugged, goal_of, Retreating, Some, Standing, subst, summary_back, sym, ◌∙◌, ◌≡◌}
use Rattle.pl0_machine.specs.Machine.{program_of}
use Rattle.dbg_runner.specs.declared.outcome.SliceOutcome.TheVariants as out
use Rattle.dbg_runner.proofs.Retreats.{arrives}
use Rattle.dbg_runner.proofs.retreat.Retreat.arrive.Goals as goal

pub silent-requires : goal.silent-requires
silent-requires c =
    let end = c.position-end.result in
    let is = c.summary-summary.ensures ∙ ap (λ (b : Retreating). summary_back c.args.run b end (out.Due c.args.reason))
    (sym c.self.view_is) in
    let come =
    subst (λ (b : Retreating). goal_of (program_of b.unit) b.breakpoints b.mode b.start ≡ Some
    (record { position = b.position; reason = c.args.reason })) (sym c.self.view_is) c.requires.come in
    let there =
    c.position-end.ensures.position ∙ ap (λ (m : Standing). m.position) c.machine.ensures
    ∙ ap (λ (d : Debugged). d.position) c.deref.ensures in
    let counted =
    c.recount.ensures ∙ ap (λ (d : Debugged). record d { counted_from = d.next }) c.deref_mut.ensures.value in
    rw is (arrives c.self.inside c.self.invariant c.args.run end c.args.reason _ counted there come)
