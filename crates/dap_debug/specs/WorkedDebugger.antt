-- Worked examples: commands, modes, what is told of a run, hit conditions, messages, identifiers and references,
-- computed.
use Rattle.std.specs.Prelude.{◌≡◌, ℕ, Bool, true, false, List, [], ◌∷◌, ◌++◌, codes, map, Option, None, Some}
use Rattle.serde_json.specs.Written.{compact_text}
use Rattle.dap_bodies.specs.Arguments.{truth_at}
use Rattle.dap_server.specs.Messages.{PlainEvent, PlainReply, events_from}
use Rattle.debuggee.specs.Due.{Sight}
use Rattle.debuggee.specs.Plain.{NoValue, AtBreakpoint, AtStep, AtEnd, AtFault, Printed, Logged, Text, Expression}
use Rattle.debuggee.specs.Runs.{Meaning}
use Rattle.debuggee.specs.declared.breakpoint.Rule.{Rule}
use Rattle.debuggee.specs.declared.breakpoint.Rule.TheVariants.{From, Exactly, Every}
use Rattle.debuggee.specs.declared.mode.Mode.TheVariants as mode
use Rattle.dap_debug.specs.declared.command.Command.{Command}
use Rattle.dap_debug.specs.declared.command.Command.TheVariants as command
use Rattle.dap_debug.specs.declared.command.Question.TheVariants as question
use Rattle.dap_debug.specs.declared.command.Refusal.TheVariants as refusal
use Rattle.dap_debug.specs.declared.command.Resume.TheVariants as resume
use Rattle.dap_debug.specs.declared.state.Phase.{Phase}
use Rattle.dap_debug.specs.declared.state.Phase.TheVariants as phase
use Rattle.dap_debug.specs.Breakpoints.{AreParts, IsMessage, IsRule}
use Rattle.dap_debug.specs.Commands.{command_of}
use Rattle.dap_debug.specs.Inspecting.{frame_of_reference, frame_with, index_of_reference, number_of_reference, reference_inside, shown_frame, shown_scope}
use Rattle.dap_debug.specs.Replies.{capabilities}
use Rattle.dap_debug.specs.Running.{GoesOn, PausesFrom, ended, mode_of, success}
use Rattle.dap_debug.specs.Standings.{Standing, from_one}
use Rattle.dap_debug.specs.Telling.{Tells, told_end}

abbrev pub CommandsAreNamed : Type 0
CommandsAreNamed =
    map command_of (codes "initialize" ∷ codes "launch" ∷ codes "setBreakpoints" ∷ codes "configurationDone"
    ∷ codes "threads" ∷ codes "continue" ∷ codes "next" ∷ codes "stepIn" ∷ codes "stepOut" ∷ codes "pause"
    ∷ codes "terminate" ∷ codes "stackTrace" ∷ codes "scopes" ∷ codes "variables" ∷ codes "evaluate"
    ∷ codes "exceptionInfo" ∷ codes "disconnect" ∷ codes "attach" ∷ [])
    ≡ command.Initialize ∷ command.Launch ∷ command.SetBreakpoints ∷ command.ConfigurationDone ∷ command.Threads
    ∷ command.Resume resume.Continue ∷ command.Resume resume.Next ∷ command.Resume resume.StepIn
    ∷ command.Resume resume.StepOut ∷ command.Pause ∷ command.Terminate ∷ command.Inspect question.StackTrace
    ∷ command.Inspect question.Scopes ∷ command.Inspect question.Variables ∷ command.Inspect question.Evaluate
    ∷ command.ExceptionInfo ∷ command.Disconnect ∷ command.Refused refusal.Unsupported ∷ []

-- three frames are alive
abbrev pub ModesFollow : Type 0
ModesFollow =
    map (λ how. mode_of how 3) (resume.Continue ∷ resume.Next ∷ resume.StepIn ∷ resume.StepOut ∷ [])
    ≡ mode.Continue ∷ mode.Over 3 ∷ mode.In ∷ mode.Out 3 ∷ []

-- the texts of events
abbrev pub texts : List PlainEvent → List (List ℕ)
texts events = map compact_text (events_from 1 events)

-- two texts that were printed, and one that a breakpoint says
abbrev pub TextsAreTold : Type 0
TextsAreTold =
    (events : List PlainEvent)
    × Tells (Printed (codes "1") ∷ (Printed (codes "2") ∷ (Logged (codes "n") ∷ []))) None events
    × (texts events
    ≡ codes "{\"body\":{\"category\":\"stdout\",\"output\":\"12\"},\"event\":\"output\",\"seq\":1,\"type\":\"event\"}"
    ∷ codes "{\"body\":{\"category\":\"console\",\"output\":\"n\"},\"event\":\"output\",\"seq\":2,\"type\":\"event\"}"
    ∷ [])

-- a stop for this reason, and perhaps with a text
abbrev pub a_stop : List ℕ → List ℕ → List ℕ
a_stop reason text =
    codes "{\"body\":{\"allThreadsStopped\":true,\"reason\":\"" ++ (reason ++ (codes "\"," ++ (text
    ++ codes "\"threadId\":1},\"event\":\"stopped\",\"seq\":1,\"type\":\"event\"}")))

abbrev pub HaltsAreTold : Type 0
HaltsAreTold =
    map (λ halt. texts (told_end halt)) (Some AtBreakpoint ∷ Some AtStep
    ∷ Some (AtFault (record { name = codes "No"; text = codes "no" })) ∷ Some (AtEnd 3) ∷ None ∷ [])
    ≡ (a_stop (codes "breakpoint") [] ∷ []) ∷ (a_stop (codes "step") [] ∷ [])
    ∷ (a_stop (codes "exception") (codes "\"text\":\"no\",") ∷ [])
    ∷ (codes "{\"body\":{\"exitCode\":3},\"event\":\"exited\",\"seq\":1,\"type\":\"event\"}"
    ∷ codes "{\"event\":\"terminated\",\"seq\":2,\"type\":\"event\"}" ∷ [])
    ∷ [] ∷ []

-- ---- a program that takes no step

abbrev pub never : Meaning (Unit {0})
never s step t = ⊥

abbrev pub nowhere : Sight (Unit {0})
nowhere = record {
  place_of = λ s. None;
  depth_of = λ s. 0;
  value_of = λ s frame expression. NoValue [];
}

abbrev pub stood : Phase (Unit {0}) → Standing (Unit {0})
stood now = record { phase = now; path = []; fault = None; breakpoints = []; counting = from_one }

-- an event that tells a stop for this reason
abbrev pub stop_event : List ℕ → PlainEvent → Type 0
stop_event reason event = texts (event ∷ []) ≡ a_stop reason [] ∷ []

-- It stops where it begins if that is asked for: so, and in no other way.
abbrev pub EntryIsTold : Type 0
EntryIsTold =
    ((event : PlainEvent) × stop_event (codes "entry") event
    × GoesOn never nowhere true (stood (phase.Running (tt {0}) mode.Continue)) (event ∷ [])
    (stood (phase.Stopped (tt {0}))))
    × ((events : List PlainEvent) (stands : Standing (Unit {0}))
    → GoesOn never nowhere true (stood (phase.Running (tt {0}) mode.Continue)) events stands
    → (texts events ≡ a_stop (codes "entry") [] ∷ []) × (stands ≡ stood (phase.Stopped (tt {0}))))

-- It is paused while it runs: so, and in no other way.
abbrev pub PauseIsTold : Type 0
PauseIsTold =
    ((event : PlainEvent) × stop_event (codes "pause") event
    × PausesFrom (phase.Running (tt {0}) mode.In) (stood (phase.Running (tt {0}) mode.In))
    (success None (event ∷ [])) (stood (phase.Stopped (tt {0}))))
    × ((reply : PlainReply) (stands : Standing (Unit {0}))
    → PausesFrom (phase.Running (tt {0}) mode.In) (stood (phase.Running (tt {0}) mode.In)) reply stands
    → (texts reply.events ≡ a_stop (codes "pause") [] ∷ []) × (stands ≡ stood (phase.Stopped (tt {0}))))

-- One that is ended tells so; one that has ended, or that there isn't, tells nothing.
abbrev pub EndIsTold : Type 0
EndIsTold =
    map (λ now. texts (ended now)) (phase.Stopped (tt {0}) ∷ phase.Ended (tt {0}) ∷ phase.NoProgram ∷ [])
    ≡ (codes "{\"event\":\"terminated\",\"seq\":1,\"type\":\"event\"}" ∷ []) ∷ [] ∷ [] ∷ []

-- what `initialize` is answered with
abbrev pub CapabilitiesAre : Type 0
CapabilitiesAre =
    compact_text capabilities
    ≡ codes "{\"supportsConditionalBreakpoints\":true,\"supportsConfigurationDoneRequest\":true,"
    ++ (codes "\"supportsEvaluateForHovers\":true,\"supportsExceptionInfoRequest\":true,"
    ++ codes "\"supportsHitConditionalBreakpoints\":true,\"supportsLogPoints\":true,\"supportsTerminateRequest\":true}")

-- the protocol's requests that an adapter may leave out, each after the capability that announces it
abbrev pub optional_requests : List (List ℕ × List ℕ)
optional_requests =
    (codes "supportsConfigurationDoneRequest", codes "configurationDone")
    ∷ (codes "supportsExceptionInfoRequest", codes "exceptionInfo")
    ∷ (codes "supportsTerminateRequest", codes "terminate") ∷ (codes "supportsCancelRequest", codes "cancel")
    ∷ (codes "supportsRestartRequest", codes "restart") ∷ (codes "supportsModulesRequest", codes "modules")
    ∷ (codes "supportsLoadedSourcesRequest", codes "loadedSources")
    ∷ (codes "supportsTerminateThreadsRequest", codes "terminateThreads")
    ∷ (codes "supportsStepBack", codes "stepBack") ∷ (codes "supportsStepBack", codes "reverseContinue")
    ∷ (codes "supportsRestartFrame", codes "restartFrame") ∷ (codes "supportsGotoTargetsRequest", codes "gotoTargets")
    ∷ (codes "supportsStepInTargetsRequest", codes "stepInTargets")
    ∷ (codes "supportsSetVariable", codes "setVariable") ∷ (codes "supportsSetExpression", codes "setExpression")
    ∷ (codes "supportsCompletionsRequest", codes "completions")
    ∷ (codes "supportsFunctionBreakpoints", codes "setFunctionBreakpoints")
    ∷ (codes "supportsDataBreakpoints", codes "setDataBreakpoints")
    ∷ (codes "supportsInstructionBreakpoints", codes "setInstructionBreakpoints")
    ∷ (codes "supportsBreakpointLocationsRequest", codes "breakpointLocations")
    ∷ (codes "supportsReadMemoryRequest", codes "readMemory")
    ∷ (codes "supportsWriteMemoryRequest", codes "writeMemory")
    ∷ (codes "supportsDisassembleRequest", codes "disassemble") ∷ []

-- a command is served unless it is refused whatever its arguments are
abbrev pub is_served : Command → Bool
is_served (command.Refused why) = false
is_served _ = true

-- Just those of them are served that are announced.
abbrev pub AnnouncedAreServed : Type 0
AnnouncedAreServed =
    map (λ request. is_served (command_of request.1)) optional_requests
    ≡ map (λ request. truth_at request.0 (Some capabilities)) optional_requests

-- `03` is no rule
abbrev pub RulesAreRead : Type 0
RulesAreRead =
    IsRule [] None × IsRule (codes "3") (Some (From 3)) × IsRule (codes "=3") (Some (Exactly 3))
    × IsRule (codes "%3") (Some (Every 3)) × ((rule : Option Rule) → ¬ IsRule (codes "03") rule)

-- the first `{` has the next `}`, and the second has none; an empty text is no message
abbrev pub MessagesAreRead : Type 0
MessagesAreRead =
    AreParts (codes "a{n}{m")
    (Text (codes "a") ∷ (Expression (codes "n") ∷ (Text (codes "{m") ∷ (Text (codes "\n") ∷ []))))
    × IsMessage [] None

-- the newest frame has the identifier 1, and its first scope the reference 1; those of the next scope, and of the next
-- frame, follow; those of what is inside variables come after all of them
abbrev pub ShownAreNumbered : Type 0
ShownAreNumbered =
    ((shown_frame from_one [] 0 (record { name = []; line = 4; column = 1 })).id ≡ 1)
    × ((shown_scope 0 0 []).reference ≡ 1)
    × ((shown_scope 1 2 []).reference ≡ 19)
    × (map reference_inside (None ∷ Some 0 ∷ Some 5 ∷ Some 1073741823 ∷ []) ≡ 0 ∷ 1073741825 ∷ 1073741830 ∷ 0 ∷ [])

-- two frames are alive
abbrev pub NumbersAreFound : Type 0
NumbersAreFound =
    (map (frame_with 2) (0 ∷ 1 ∷ 2 ∷ 3 ∷ []) ≡ None ∷ Some 0 ∷ Some 1 ∷ None ∷ [])
    × (map (frame_of_reference 2) (0 ∷ 1 ∷ 19 ∷ 33 ∷ []) ≡ None ∷ Some 0 ∷ Some 1 ∷ None ∷ [])
    × (index_of_reference 19 ≡ 2)
    × (map number_of_reference (19 ∷ 1073741824 ∷ 1073741825 ∷ 1073741830 ∷ []) ≡ None ∷ None ∷ Some 0 ∷ Some 5 ∷ [])
