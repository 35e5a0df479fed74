-- Defines what a session does about a command: one of nine reactions, chosen by the table of the protocol's page, and
-- the reply of each.
use Rattle.std.specs.Prelude.{◌≡◌, Bool, true, false, if◌then◌else◌, List, [], ◌∷◌, map, Result, Ok, Err}
use Rattle.dap_msg.specs.declared.command.Command.{Command}
use Rattle.dap_msg.specs.declared.command.Command.TheVariants as command
use Rattle.dap_msg.specs.declared.question.Question.{Question}
use Rattle.dap_msg.specs.declared.question.Shown.{Shown}
use Rattle.dap_msg.specs.declared.requests.resume.ResumeKind.{ResumeKind}
use Rattle.dap_msg.specs.declared.requests.resume.RetreatKind.{RetreatKind}
use Rattle.dap_msg.specs.declared.requests.resume.ThreadArguments.{ThreadArguments}
use Rattle.dap_msg.specs.declared.requests.set_breakpoints.SetBreakpointsArguments.{SetBreakpointsArguments}
use Rattle.dap_msg.specs.declared.requests.set_breakpoints.SourceBreakpoint.{SourceBreakpoint}
use Rattle.dap_msg.specs.declared.outgoing.Body.{Body}
use Rattle.dap_msg.specs.declared.outgoing.Body.TheVariants as body
use Rattle.dap_msg.specs.declared.outgoing.Refusal.{Refusal}
use Rattle.dap_msg.specs.declared.outgoing.Refusal.TheVariants as refusal
use Rattle.dap_msg.specs.declared.outgoing.BreakpointAnswer.{BreakpointAnswer}
use Rattle.dap_msg.specs.declared.outgoing.BreakpointAnswer.TheVariants as answer
use Rattle.dap_msg.specs.declared.outgoing.BreakpointRefusal.TheVariants as why
use Rattle.pl0_meaning.specs.Runs.{at}
use Rattle.dbg_plan.specs.Breakpoints.{Breakpoint}
use Rattle.dbg_plan.specs.Due.{depth_at}
use Rattle.dbg_plan.specs.declared.resolving.Resolution.{Resolution}
use Rattle.dbg_runner.specs.Plain.{Quit}
use Rattle.dap_history.specs.declared.situation.Situation.{Situation}
use Rattle.dap_history.specs.declared.situation.Situation.TheVariants.{Fresh, Ready, Configuring, Running, Stopped, Faulted, Ended}
use Rattle.dap_history.specs.History.{Launched, History}
use Rattle.dap_history.specs.Readings.{situation, launched, position}
use Rattle.dap_history.specs.Replies.{Reply, only_events, only_orders, answered, refused, reply_with, OfProgram, exited_events, is_main_thread}
use Rattle.dap_history.specs.Breakpoints.{IsResolved, answer_to_line, line_offset, is_same_path, hold_once, effect_in}
use Rattle.dap_history.specs.Running.{resumes, due_first, enters, mode_of, body_of, retreat_mode}
use Rattle.dap_history.specs.Inspection.{RepliesAt, subject_in}

-- What a session does about a command: it refuses it; answers it, and no more; answers its lines, and sets breakpoints;
-- starts the launched program; resumes it; ends it, where it stands before a fault; goes back; interrupts the run; or
-- closes.
pub data Reaction : Type 0 where
  Refuse : Refusal → Reaction
  Answer : Body → Reaction
  SetBreakpoints : List BreakpointAnswer → List Breakpoint → Reaction
  Start : Launched → Reaction
  Resume : Launched → ResumeKind → Reaction
  End : ResumeKind → Reaction
  Retreat : Launched → RetreatKind → Reaction
  Interrupt : Reaction
  Close : Reaction

-- ---- the reply of each

-- what the request is answered by a reaction, and what that causes
abbrev pub reply_of : History → Reaction → Reply
reply_of past (Refuse why) = refused why
reply_of past (Answer body) = answered body
reply_of past (SetBreakpoints answers breakpoints) =
    reply_with (body.Breakpoints answers) (effect_in (situation past) past breakpoints)
reply_of past (Start l) = reply_with body.None (enters past l (due_first past l))
reply_of past (Resume l kind) =
    reply_with (body_of kind) (only_orders (resumes past l (mode_of kind (depth_at l.program (position past)))))
reply_of past (End kind) = reply_with (body_of kind) (only_events (exited_events 1))
reply_of past (Retreat l kind) = reply_with body.None (only_orders (resumes past l (retreat_mode kind)))
reply_of past Interrupt = reply_with body.None (only_orders (hold_once past))
reply_of past Close = reply_with body.None (only_orders (Quit ∷ []))

-- ---- the cells of the table: which reactions a command may have in a situation

-- this one alone
abbrev pub Only : Reaction → Reaction → Type 0
Only this reaction = reaction ≡ this

-- `wrongPhase`
abbrev pub WrongPhase : Reaction → Type 0
WrongPhase = Only (Refuse refusal.WrongPhase)

-- `notStopped`
abbrev pub NotStopped : Reaction → Type 0
NotStopped = Only (Refuse refusal.NotStopped)

-- the reaction, if the thread is the only one; otherwise a refusal
abbrev pub for_thread : ThreadArguments → Reaction → Reaction
for_thread asked reaction = if is_main_thread asked.thread_id then reaction else Refuse refusal.UnknownThread

-- the lines are those of the launched source, and are resolved
pub record Resolves (past : History) (l : Launched) (lines : List SourceBreakpoint) (reaction : Reaction) : Type 0
  where
    pub answers : List Resolution
    pub breakpoints : List Breakpoint
    pub resolved : IsResolved l.program (line_offset past) lines answers breakpoints
    pub reaction_is : reaction ≡ SetBreakpoints (map (answer_to_line l.program (line_offset past)) answers) breakpoints

-- the answers to lines of another source
abbrev pub other_source : List SourceBreakpoint → List BreakpointAnswer
other_source lines = map (λ b. answer.Unverified why.OtherSource) lines

-- lines are set, by whether their source is the launched one; those of another set nothing
abbrev pub SetsOf : Bool → History → Launched → List SourceBreakpoint → Reaction → Type 0
SetsOf true past l lines reaction = Resolves past l lines reaction
SetsOf false past l lines reaction = reaction ≡ Answer (body.Breakpoints (other_source lines))

-- lines are set in the program that is launched
abbrev pub Sets : History → SetBreakpointsArguments → Reaction → Type 0
Sets past asked reaction =
    OfProgram (launched past) (λ l. SetsOf (is_same_path asked.path l.path) past l asked.breakpoints reaction)

-- the program is started
abbrev pub Starts : History → Reaction → Type 0
Starts past reaction = OfProgram (launched past) (λ l. reaction ≡ Start l)

-- it is resumed
abbrev pub Resumes : History → ResumeKind → ThreadArguments → Reaction → Type 0
Resumes past kind asked reaction = OfProgram (launched past) (λ l. reaction ≡ for_thread asked (Resume l kind))

-- it ends. Profile: however it is resumed, a program that stopped before a fault ends.
abbrev pub Ends : ResumeKind → ThreadArguments → Reaction → Type 0
Ends kind asked = Only (for_thread asked (End kind))

-- it goes back
abbrev pub Retreats : History → RetreatKind → ThreadArguments → Reaction → Type 0
Retreats past kind asked reaction = OfProgram (launched past) (λ l. reaction ≡ for_thread asked (Retreat l kind))

-- its run is interrupted
abbrev pub Interrupts : ThreadArguments → Reaction → Type 0
Interrupts asked = Only (for_thread asked Interrupt)

-- it is interrupted where it stands
abbrev pub Stays : ThreadArguments → Reaction → Type 0
Stays asked = Only (for_thread asked (Answer body.None))

-- the answer to a question is what the program shows where it stands
abbrev pub InspectsAs : History → Question → Result Shown Refusal → Type 0
InspectsAs past question answer =
    OfProgram (launched past) (λ l. RepliesAt (subject_in past l) (at l.program (position past)) question answer)

-- it is inspected there: a question is answered or refused
abbrev pub Inspects : History → Question → Reaction → Type 0
Inspects past question (Answer (body.Shown b)) = InspectsAs past question (Ok b)
Inspects past question (Refuse why) = InspectsAs past question (Err why)
Inspects past question _ = ⊥

-- ---- the table

-- the cell in the column of the situation
abbrev pub cell : Situation → (fresh ready configuring running stopped faulted ended : Reaction → Type 0)
    → Reaction → Type 0
cell Fresh fresh ready configuring running stopped faulted ended = fresh
cell Ready fresh ready configuring running stopped faulted ended = ready
cell Configuring fresh ready configuring running stopped faulted ended = configuring
cell Running fresh ready configuring running stopped faulted ended = running
cell Stopped fresh ready configuring running stopped faulted ended = stopped
cell Faulted fresh ready configuring running stopped faulted ended = faulted
cell Ended fresh ready configuring running stopped faulted ended = ended

-- A row for each command; its columns are Fresh, Ready, Configuring, Running, Stopped, Faulted, Ended. No `launch`
-- comes here in Ready: it waits for its file, and `Launches` has its reply. Profile: a session is initialized once.
abbrev pub Reacts : Situation → History → Command → Reaction → Type 0
Reacts s past (command.Initialize a) =
    cell s (Only (Answer body.Capabilities)) WrongPhase WrongPhase WrongPhase WrongPhase WrongPhase WrongPhase
Reacts s past (command.Launch a) = WrongPhase
Reacts s past (command.SetBreakpoints a) =
    let sets = Sets past a in cell s WrongPhase WrongPhase sets sets sets sets sets
Reacts s past command.ConfigurationDone =
    cell s WrongPhase WrongPhase (Starts past) WrongPhase WrongPhase WrongPhase WrongPhase
Reacts s past command.Threads = let yes = Only (Answer body.Threads) in cell s WrongPhase yes yes yes yes yes yes
Reacts s past (command.Resume k a) =
    cell s WrongPhase WrongPhase WrongPhase NotStopped (Resumes past k a) (Ends k a) WrongPhase
Reacts s past (command.Retreat k a) =
    cell s WrongPhase WrongPhase WrongPhase NotStopped (Retreats past k a) (Retreats past k a) WrongPhase
Reacts s past (command.Pause a) = cell s WrongPhase WrongPhase WrongPhase (Interrupts a) (Stays a) (Stays a) WrongPhase
Reacts s past (command.Inspect q) =
    cell s WrongPhase WrongPhase WrongPhase NotStopped (Inspects past q) (Inspects past q) WrongPhase
Reacts s past command.Disconnect = Only Close
Reacts s past (command.Unsupported text) = Only (Refuse refusal.Unsupported)
Reacts s past (command.BadArguments k) = Only (Refuse refusal.BadArguments)
