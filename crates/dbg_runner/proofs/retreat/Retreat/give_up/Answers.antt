use Rattle.dbg_runner.proofs.Common.{ap, refl, Retreating, summary_back, sym, ◌∙◌}
use Rattle.dbg_runner.specs.declared.outcome.SliceOutcome.TheVariants as out
use Rattle.dbg_runner.proofs.Retreats.{gives_up}
use Rattle.dbg_runner.proofs.retreat.Retreat.give_up.Goals as goal

pub silent-requires : goal.silent-requires
silent-requires c =
    let is = c.summary-summary.ensures ∙ ap (λ (b : Retreating). summary_back c.args.run b c.self.inside.start
    out.NoMemory) (sym c.self.view_is) in
    rw is (gives_up c.self.inside c.self.invariant c.args.run c.self.inside.start refl)
