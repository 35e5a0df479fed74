-- The acts that a port noted.
use Rattle.std.specs.Prelude.{List, map, option_map}
use Rattle.dbg_runner.specs.declared.noted_act.NotedAct.{NotedAct}
use Rattle.dbg_runner.specs.declared.noted_act.NotedAct.TheVariants as noted
use Rattle.dbg_runner.specs.Reported.{plain_report}
use Rattle.dbg_runner.specs.Orders.{plain_order}
use Rattle.dbg_runner.specs.Runner.{Act, Waited, Looked, Passed, Sent, HandedBack}

abbrev pub act_of : NotedAct → Act
act_of (noted.Waited order) = Waited (plain_order order.value)
act_of (noted.Looked found) = Looked (option_map plain_order found.value)
act_of (noted.Passed run slice d) = Passed run slice d.value.position
act_of (noted.Sent report) = Sent (plain_report report.value)
act_of (noted.HandedBack report) = HandedBack (plain_report report.value)

abbrev pub acts_of : List NotedAct → List Act
acts_of acts = map act_of acts
