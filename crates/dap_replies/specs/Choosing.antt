-- Defines, for private contracts, what a reaction is in a phase, and what it is to carry it out.
use Rattle.std.specs.Prelude.{◌≡◌, Option, None, Some, IsSome, IsSomeAnd, IfSome}
use Rattle.dap_msg.specs.declared.command.Command.{Command}
use Rattle.dap_msg.specs.declared.command.Command.TheVariants as command
use Rattle.dap_msg.specs.declared.outgoing.Body.TheVariants as body
use Rattle.pl0_unit.specs.declared.unit.Unit.{Unit as Compiled}
use Rattle.pl0_machine.specs.Machine.{program_of}
use Rattle.dbg_plan.specs.Breakpoints.{plain_breakpoints}
use Rattle.dbg_plan.specs.Plans.{IsPlanOf}
use Rattle.dbg_runner.specs.Reported.{text_of}
use Rattle.dap_history.specs.History.{Launched, History}
use Rattle.dap_history.specs.Readings.{settings_of}
use Rattle.dap_history.specs.Reactions.{Reaction, Refuse, Answer, SetBreakpoints, Start, Resume, End, Retreat, Interrupt, Close, Reacts}
use Rattle.dap_replies.specs.declared.phase.Phase.{Phase}
use Rattle.dap_replies.specs.declared.phase.Phase.TheVariants as phase
use Rattle.dap_replies.specs.declared.phase.Target.{Target}
use Rattle.dap_replies.specs.Phases.{IsPhase, situation_of}
use Rattle.dap_replies.specs.declared.choosing.Reaction.{Reaction as Chosen}
use Rattle.dap_replies.specs.declared.choosing.Reaction.TheVariants as chosen
use Rattle.dap_replies.specs.declared.effect.Reply.{Reply as Given}
use Rattle.dap_replies.specs.Answering.{Leaves}
use Rattle.dap_replies.specs.Lines.{program_in}
use Rattle.dap_replies.specs.Replied.{Replies}

-- what the phase keeps of the launch
abbrev pub launched_as : Target → Compiled → Launched
launched_as t u = record { path = t.path; stop_on_entry = t.stop_on_entry; text = text_of u; program = program_of u }

-- the reaction of the table in this phase, if it can be carried out there
abbrev pub in_phase : Chosen → Phase → Option Reaction
in_phase (chosen.Refuse why) p = Some (Refuse why)
in_phase (chosen.Answer body) p = Some (Answer body)
in_phase (chosen.SetBreakpoints answers plan) p =
    Some (SetBreakpoints answers (plain_breakpoints plan.breakpoints))
in_phase (chosen.Begin asked) phase.Fresh = Some (Answer body.Capabilities)
in_phase chosen.Start (phase.Configuring t d) = Some (Start (launched_as t d.unit))
in_phase (chosen.Resume kind) (phase.Stopped t d) = Some (Resume (launched_as t d.unit) kind)
in_phase (chosen.End kind) (phase.Faulted t d) = Some (End kind)
in_phase (chosen.Retreat kind) (phase.Stopped t d) = Some (Retreat (launched_as t d.unit) kind)
in_phase (chosen.Retreat kind) (phase.Faulted t d) = Some (Retreat (launched_as t d.unit) kind)
in_phase chosen.Interrupt (phase.Running t run) = Some Interrupt
in_phase chosen.Close p = Some Close
in_phase _ _ = None

-- the reaction can be carried out in the phase: a plan is one of its program
abbrev pub FitsIn : Phase → Chosen → Type 0
FitsIn p (chosen.SetBreakpoints answers plan) = IsSomeAnd (program_in p) (λ k. IsPlanOf k.1 plan)
FitsIn p reaction = IsSome (in_phase reaction p)

-- the command is one that this reaction to it leads on from: the readings go by the command's name too
abbrev pub Suits : Chosen → Phase → Command → Type 0
Suits (chosen.Refuse why) p c = Unit {0}
Suits (chosen.Answer body) p c = Leaves p c
Suits (chosen.SetBreakpoints answers plan) p (command.SetBreakpoints asked) = Unit {0}
Suits (chosen.SetBreakpoints answers plan) p _ = ⊥
Suits (chosen.Begin asked) p c = c ≡ command.Initialize asked
Suits chosen.Interrupt p (command.Pause asked) = Unit {0}
Suits chosen.Interrupt p _ = ⊥
Suits chosen.Close p c = c ≡ command.Disconnect
Suits _ p c = settings_of c ≡ None

-- the table has the reaction to the command, for every history that the phase represents
pub record Chooses (command : Command) (p : Phase) (reaction : Chosen) : Type 0 where
  pub fits : FitsIn p reaction
  pub reacts : IfSome (in_phase reaction p)
      (λ r. (past : History) → IsPhase p past → Reacts (situation_of p) past command r)
  pub suits : Suits reaction p command

-- the reply carries the reaction out, whatever command it was chosen for
abbrev pub Carries : Phase → Chosen → Given → Type 0
Carries p reaction given = (command : Command) → Chooses command p reaction → Replies command p given

-- nothing is to be made
abbrev pub MakesNothing : Chosen → Type 0
MakesNothing (chosen.SetBreakpoints answers plan) = ⊥
MakesNothing chosen.Start = ⊥
MakesNothing (chosen.Resume kind) = ⊥
MakesNothing (chosen.End kind) = ⊥
MakesNothing (chosen.Retreat kind) = ⊥
MakesNothing _ = Unit {0}
