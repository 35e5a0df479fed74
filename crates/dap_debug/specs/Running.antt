-- Defines how a program is started, goes on, is paused and ended, by the steps that its language takes.
use Rattle.std.specs.Prelude.{◌≡◌, ℕ, Bool, true, false, List, [], ◌∷◌, ◌++◌, codes, Option, None, Some, Ok, Err}
use Rattle.serde_json.specs.Data.{Data, boolean, object, no_members, member}
use Rattle.dap_server.specs.Messages.{PlainEvent, PlainReply}
use Rattle.dap_bodies.specs.Events.{stopped, terminated}
use Rattle.debuggee.specs.Plain.{PlainBreakpoint, PlainFault, PlainHalt, AtEnd, AtFault, PlainOutput}
use Rattle.debuggee.specs.Due.{Sight}
use Rattle.debuggee.specs.Runs.{Meaning, Runs, Arrives, slice_limit}
use Rattle.debuggee.specs.declared.mode.Mode.{Mode}
use Rattle.debuggee.specs.declared.mode.Mode.TheVariants as mode
use Rattle.dap_debug.specs.declared.command.Resume.{Resume}
use Rattle.dap_debug.specs.declared.command.Resume.TheVariants as resume
use Rattle.dap_debug.specs.declared.state.Counting.{Counting}
use Rattle.dap_debug.specs.declared.state.Phase.{Phase}
use Rattle.dap_debug.specs.declared.state.Phase.TheVariants as phase
use Rattle.dap_debug.specs.Standings.{Standing, program_in}
use Rattle.dap_debug.specs.Telling.{Tells}

-- In what follows `stood` says how the session stood before, and `stands` how it does after.

-- the same session, whose program has come so far
abbrev pub with_phase : {S : Type 0} → Standing S → Phase S → Standing S
with_phase stood now = record stood { phase = now }

-- ---- the program's work

-- how far a program has come after a run that halted, or that goes on
abbrev pub phase_after : {S : Type 0} → Option PlainHalt → S → Mode → Phase S
phase_after None program how = phase.Running program how
phase_after (Some (AtEnd status)) program how = phase.Ended program
phase_after (Some _) program how = phase.Stopped program

-- why a run can't go on, where it halted at a fault
abbrev pub fault_of : Option PlainHalt → Option PlainFault
fault_of (Some (AtFault fault)) = Some fault
fault_of _ = None

-- A slice of a run: it goes by the language's own steps, at most `slice_limit` of them, to the first state in which the
-- program is due, to its end or into its fault, or halts at none of these; and the events are all that is told of it.
abbrev pub Slice : {S : Type 0} → Meaning S → Sight S → S → Mode → List PlainBreakpoint → List PlainEvent → Phase S
    → Option PlainFault → List PlainBreakpoint → Type 0
Slice {S} takes sees program how old events now fault new =
    (halt : Option PlainHalt) × (there : S) × (told : List PlainOutput)
    × Runs takes sees slice_limit how program old halt there new [] told
    × Tells told halt events × (now ≡ phase_after halt there how) × (fault ≡ fault_of halt)

-- the same of the program of a session
abbrev pub Goes : {S : Type 0} → Meaning S → Sight S → S → Mode → Standing S → List PlainEvent → Standing S → Type 0
Goes takes sees program how stood events stands =
    Slice takes sees program how stood.breakpoints events stands.phase stands.fault stands.breakpoints
    × (stands.path ≡ stood.path) × (stands.counting ≡ stood.counting)

-- the same of a program that runs; another takes no step
abbrev pub GoesFrom : {S : Type 0} → Meaning S → Sight S → Phase S → Standing S → List PlainEvent → Standing S
    → Type 0
GoesFrom takes sees (phase.Running program how) stood events stands = Goes takes sees program how stood events stands
GoesFrom takes sees _ stood events stands = (events ≡ []) × (stands ≡ stood)

-- the program's work: a slice, where it runs
abbrev pub WorksOn : {S : Type 0} → Meaning S → Sight S → Standing S → List PlainEvent → Standing S → Type 0
WorksOn takes sees stood events stands = GoesFrom takes sees stood.phase stood events stands

-- ---- replies

abbrev pub success : Option Data → List PlainEvent → PlainReply
success body events = record { outcome = Ok body; events = events }

abbrev pub refusal : List ℕ → PlainReply
refusal message = record { outcome = Err message; events = [] }

-- the reply is this one, and the session stands as before
abbrev pub IsQuiet : {S : Type 0} → PlainReply → Standing S → PlainReply → Standing S → Type 0
IsQuiet says stood reply stands = (reply ≡ says) × (stands ≡ stood)

-- the reply is a refusal, whatever its message
abbrev pub Refuses : PlainReply → Type 0
Refuses reply = (message : List ℕ) × (reply ≡ refusal message)

-- a refusal, after which the session stands as before
abbrev pub IsRefused : {S : Type 0} → Standing S → PlainReply → Standing S → Type 0
IsRefused stood reply stands = Refuses reply × (stands ≡ stood)

-- The program arrives where it begins: breakpoints count and speak there, and one may stop it.
abbrev pub Arrival : {S : Type 0} → Sight S → S → List PlainBreakpoint → List PlainEvent → Phase S
    → Option PlainFault → List PlainBreakpoint → Type 0
Arrival sees program old events now fault new =
    (halt : Option PlainHalt) × (told : List PlainOutput) × Arrives sees mode.Continue program old halt new [] told
    × Tells told halt events × (now ≡ phase_after halt program mode.Continue) × (fault ≡ fault_of halt)

-- a program that still runs stops where it begins
abbrev pub EntersFrom : {S : Type 0} → Phase S → Standing S → List PlainEvent → Standing S → Type 0
EntersFrom (phase.Running program how) stood events stands =
    (events ≡ stopped (codes "entry") None ∷ []) × (stands ≡ with_phase stood (phase.Stopped program))
EntersFrom _ stood events stands = (events ≡ []) × (stands ≡ stood)

-- a program that has arrived where it begins, and still runs, stops there, if that was asked for, and else goes on
abbrev pub GoesOn : {S : Type 0} → Meaning S → Sight S → Bool → Standing S → List PlainEvent → Standing S → Type 0
GoesOn takes sees true stood events stands = EntersFrom stood.phase stood events stands
GoesOn takes sees false stood events stands = WorksOn takes sees stood events stands

-- First it arrives. What is told of its entry, or of its first slice, follows.
pub record ArrivesAndGoesOn {S : Type 0} (takes : Meaning S) (sees : Sight S) (stop_on_entry : Bool) (program : S)
    (old : List PlainBreakpoint) (path : List ℕ) (counting : Counting) (events : List PlainEvent) (stands : Standing S)
    : Type 0 where
  pub there : Standing S
  pub more : List PlainEvent
  pub goes : GoesOn takes sees stop_on_entry there more stands
  pub first : List PlainEvent
  pub arrives : Arrival sees program old first there.phase there.fault there.breakpoints
  pub path_is : there.path ≡ path
  pub counting_is : there.counting ≡ counting
  pub events_are : events ≡ first ++ more

-- a program that waits is started
abbrev pub StartsFrom : {S : Type 0} → Meaning S → Sight S → Phase S → Standing S → PlainReply → Standing S → Type 0
StartsFrom takes sees (phase.Configuring program stop_on_entry) stood reply stands =
    (events : List PlainEvent)
    × ArrivesAndGoesOn takes sees stop_on_entry program stood.breakpoints stood.path stood.counting events stands
    × (reply ≡ success None events)
StartsFrom takes sees _ stood reply stands = IsRefused stood reply stands

abbrev pub Starts : {S : Type 0} → Meaning S → Sight S → Standing S → PlainReply → Standing S → Type 0
Starts takes sees stood reply stands = StartsFrom takes sees stood.phase stood reply stands

-- the mode of a run that begins where so many frames are alive
abbrev pub mode_of : Resume → ℕ → Mode
mode_of resume.Continue depth = mode.Continue
mode_of resume.Next depth = mode.Over depth
mode_of resume.StepIn depth = mode.In
mode_of resume.StepOut depth = mode.Out depth

-- the body of the reply to a request that lets the program go on
abbrev pub resumed : Resume → Option Data
resumed resume.Continue = Some (object (member (codes "allThreadsContinued") (boolean true) no_members))
resumed _ = None

-- a program that is stopped goes on, and what is told of its first slice comes with the reply
abbrev pub ResumesFrom : {S : Type 0} → Meaning S → Sight S → Phase S → Resume → Standing S → PlainReply → Standing S
    → Type 0
ResumesFrom takes sees (phase.Stopped program) how stood reply stands =
    (reply.outcome ≡ Ok (resumed how))
    × Goes takes sees program (mode_of how (sees.depth_of program)) stood reply.events stands
ResumesFrom takes sees _ how stood reply stands = IsRefused stood reply stands

abbrev pub Resumes : {S : Type 0} → Meaning S → Sight S → Resume → Standing S → PlainReply → Standing S → Type 0
Resumes takes sees how stood reply stands = ResumesFrom takes sees stood.phase how stood reply stands

-- a program that runs is stopped at once
abbrev pub PausesFrom : {S : Type 0} → Phase S → Standing S → PlainReply → Standing S → Type 0
PausesFrom (phase.Running program how) stood reply stands =
    (reply ≡ success None (stopped (codes "pause") None ∷ [])) × (stands ≡ with_phase stood (phase.Stopped program))
PausesFrom _ stood reply stands = IsRefused stood reply stands

abbrev pub Pauses : {S : Type 0} → Standing S → PlainReply → Standing S → Type 0
Pauses stood reply stands = PausesFrom stood.phase stood reply stands

-- A program that there is, and hasn't ended, ends. It returns no status, so none is told.
abbrev pub TerminatesFrom : {S : Type 0} → Option S → List PlainEvent → Standing S → PlainReply → Standing S → Type 0
TerminatesFrom None events stood reply stands = IsQuiet (success None []) stood reply stands
TerminatesFrom (Some program) events stood reply stands =
    (reply ≡ success None events) × (stands ≡ with_phase stood (phase.Ended program))

abbrev pub ended : {S : Type 0} → Phase S → List PlainEvent
ended phase.NoProgram = []
ended (phase.Ended program) = []
ended _ = terminated ∷ []

abbrev pub Terminates : {S : Type 0} → Standing S → PlainReply → Standing S → Type 0
Terminates stood reply stands =
    TerminatesFrom (program_in stood.phase) (ended stood.phase) stood reply stands
