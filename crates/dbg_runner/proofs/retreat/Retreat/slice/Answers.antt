use Rattle.dbg_runner.proofs.Common.{ap, arith, refl, Retreating, Room, summary_back, sym, ◌∙◌}
use Rattle.dbg_runner.specs.declared.outcome.SliceOutcome.TheVariants as out
use Rattle.dbg_runner.proofs.Retreats.{goes_on}
use Rattle.dbg_runner.proofs.retreat.Retreat.slice.Goals as goal

pub silent-requires : goal.silent-requires
silent-requires c =
    let is = c.summary-summary.ensures ∙ ap (λ (b : Retreating). summary_back c.args.run b c.self.inside.start out.More)
    (sym c.self.view_is) in
    let now = sym c.in-None.ensures.ran ∙ sym c.self.view_is in
    let unit =
    c.finish-shared.ensures.unit ∙ ap (λ (o : Room). o.unit) c.run_again-arrival.ensures.room ∙ c.requires.unit
    ∙ ap (λ (b : Retreating). b.unit) now in
    let plan =
    c.finish-shared.ensures.breakpoints ∙ ap (λ (o : Room). o.breakpoints) c.run_again-arrival.ensures.room
    ∙ c.requires.breakpoints ∙ ap (λ (b : Retreating). b.breakpoints) now in
    let again = ap (λ (b : Retreating). b.steps_rerun) (c.self.view_is ∙ c.in-None.ensures.ran) in
    rw is (goes_on c.self.inside c.self.invariant c.args.run c.self.inside.start c.finish-shared.result.2 unit plan
    c.finish-shared.ensures.shared refl (omega (arith, again)))
