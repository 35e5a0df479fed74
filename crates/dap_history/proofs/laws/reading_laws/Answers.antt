use Rattle.dap_history.proofs.Readings.{messages_of-snoc, orders_of-snoc, next_seq-snoc, situation-snoc, settings-snoc, launched-snoc, last_run-snoc, runs-snoc, position-snoc, numbers_told-snoc, plan-snoc, waiting_plan-snoc, waiting_pause-snoc, is_held-snoc, ending_of-snoc}
use Rattle.dap_history.proofs.laws.reading_laws.Goals as goal

pub returns : goal.returns
returns c = record {
  messages_are = messages_of-snoc;
  orders_are = orders_of-snoc;
  next_seq_is = next_seq-snoc;
  situation_is = situation-snoc;
  settings_are = settings-snoc;
  launched_is = launched-snoc;
  last_run_is = last_run-snoc;
  runs_are = runs-snoc;
  position_is = position-snoc;
  numbers_told_is = numbers_told-snoc;
  plan_is = plan-snoc;
  waiting_plan_is = waiting_plan-snoc;
  waiting_pause_is = waiting_pause-snoc;
  held_is = is_held-snoc;
  ending_is = ending_of-snoc;
}
