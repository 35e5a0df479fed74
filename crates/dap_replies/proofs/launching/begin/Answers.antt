use Rattle.std.proofs.Common.{◌∙◌, ap, refl}
use Rattle.dap_replies.specs.declared.phase.Phase.TheVariants as phase
use Rattle.dap_replies.specs.Launched.{target_of, unstarted}
use Rattle.dap_replies.proofs.launching.begin.Goals as goal

pub returns : goal.returns
returns c = record {
  unit = c.in-Ok.unit;
  tree_is = c.in-Ok.ensures.tree;
  result_is = refl;
  events_are = c.new-3.ensures ∙ c.in_ok-events.ensures.items;
  no_order = refl;
  phase_is =
      ap (λ d. phase.Configuring (target_of c.args.settings c.args.arguments) d)
      (c.in_ok-debuggee.ensures ∙ ap unstarted c.in_ok-unit-in-Ok.ensures.ok);
}
