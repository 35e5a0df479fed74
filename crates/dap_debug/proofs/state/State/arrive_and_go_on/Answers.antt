use Rattle.std.proofs.Common.{arith, refl}
use Rattle.std.proofs.lemmas.Grind.{common_steps}
use Rattle.dap_debug.proofs.state.State.arrive_and_go_on.Goals as goal

pub returns : goal.returns
returns g c = record {
  there = _;
  more = _;
  goes = c.in_ok-go_on.ensures;
  first = _;
  arrives = c.in_ok-ran.ensures;
  path_is = refl;
  counting_is = refl;
  events_are = grind (arith, common_steps);
}
