use Rattle.pl0_tool.proofs.Common.{ap, frame_of, number_of, sym, ◌-◌, ◌∙◌}
use Rattle.pl0_tool.proofs.instructions.load.Goals as goal

pub returns-in-Some : goal.returns-in-Some
returns-in-Some c =
    c.number_in.ensures
    ∙ ap (number_of (frame_of c.args.machine.now c.in-Some.frame)) c.saturating_sub.ensures
    ∙ sym (c.in-Some.ensures.1 (c.args.address - 3))

pub returns-in-None : goal.returns-in-None
returns-in-None c = sym (c.in-None.ensures (c.args.address - 3))
