use Rattle.dap_debug.proofs.Merging.{after_last}
use Rattle.dap_debug.proofs.telling.add.Goals as goal

pub returns : goal.returns
returns c = after_last c.pop.new.self.items _ _ _ c.args.one c.in-Some.ensures.items c.in_ok-push_both.ensures
