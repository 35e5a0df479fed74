-- States what holds of each session: each run ends once; each byte that is printed or said is told, in order; and the
-- identifiers and references that are shown lead back to what they were shown of.
use Rattle.std.specs.Prelude.{◌≡◌, ◌<◌, ◌≤◌, ◌+◌, All, length, ◌||◌, ℕ, Bool, true, false, List, [], ◌∷◌, map, codes, Option, None, Some, if◌then◌else◌}
use Rattle.std.specs.List.{concat, flat_map}
use Rattle.std.specs.Str.{bytes_eq}
use Rattle.serde_json.specs.Data.{Data}
use Rattle.dap_bodies.specs.Sizes.{text_limit}
use Rattle.dap_server.specs.Messages.{PlainEvent, PlainReply}
use Rattle.debuggee.specs.Due.{Sight}
use Rattle.debuggee.specs.Plain.{PlainHalt, PlainOutput, Printed, Logged}
use Rattle.debuggee.specs.Runs.{Meaning}
use Rattle.dap_debug.specs.declared.command.Command.{Command}
use Rattle.dap_debug.specs.declared.command.Command.TheVariants as command
use Rattle.dap_debug.specs.declared.state.Counting.{Counting}
use Rattle.dap_debug.specs.declared.state.Phase.{Phase}
use Rattle.dap_debug.specs.declared.state.Phase.TheVariants as phase
use Rattle.dap_debug.specs.Commands.{checked}
use Rattle.dap_debug.specs.Inspecting.{frame_limit, frame_of_reference, frame_with, index_of_reference, number_limit, number_of_reference, reference_inside, scope_limit, shown_frame, shown_scope}
use Rattle.dap_debug.specs.Replies.{Known, RepliesTo}
use Rattle.dap_debug.specs.Running.{WorksOn}
use Rattle.debuggee.specs.Shown.{PlainFrame}
use Rattle.dap_debug.specs.Standings.{Standing}
use Rattle.dap_debug.specs.Telling.{AreCut, Tells, merged}

-- the event tells that the program has stopped, or that it is gone
abbrev pub is_end : PlainEvent → Bool
is_end event = bytes_eq event.name (codes "stopped") || bytes_eq event.name (codes "terminated")

-- how many of the events do
abbrev pub ends_told : List PlainEvent → ℕ
ends_told [] = 0
ends_told (event ∷ events) = (if is_end event then 1 else 0) + ends_told events

-- how many ends are still to be told: one while the program runs
abbrev pub owed : {S : Type 0} → Phase S → ℕ
owed (phase.Running program how) = 1
owed _ = 0

-- how many ends a command asks for that isn't refused for its arguments: one where a program is started, goes on, or is
-- ended that doesn't run
abbrev pub asks : {S : Type 0} → Command → Phase S → ℕ
asks command.ConfigurationDone (phase.Configuring program stop_on_entry) = 1
asks (command.Resume how) (phase.Stopped program) = 1
asks command.Terminate (phase.Configuring program stop_on_entry) = 1
asks command.Terminate (phase.Stopped program) = 1
asks _ _ = 0

-- what is told of work, and what is owed after it, is what was owed
abbrev pub WorkIsBalanced : {S : Type 0} → Meaning S → Sight S → Type 0
WorkIsBalanced {S} takes sees =
    (stood stands : Standing S) (events : List PlainEvent) → WorksOn takes sees stood events stands
    → owed stands.phase + ends_told events ≡ owed stood.phase

-- and with a reply it is what was owed and what the request asks for
abbrev pub RepliesAreBalanced : {S : Type 0} → Known S → Type 0
RepliesAreBalanced {S} known =
    (asked : Command) (arguments : Option Data) (stood stands : Standing S) (reply : PlainReply)
    → RepliesTo known asked arguments stood reply stands
    → owed stands.phase + ends_told reply.events ≡ owed stood.phase + asks (checked asked arguments) stood.phase

-- ---- texts

-- the bytes of a text, each with whether the program printed it
abbrev pub bytes_of : PlainOutput → List (Bool × ℕ)
bytes_of (Printed text) = map (λ byte. (true, byte)) text
bytes_of (Logged text) = map (λ byte. (false, byte)) text

-- the first of them, if there is one, is of another kind
abbrev pub Differs : PlainOutput → List PlainOutput → Type 0
Differs (Printed text) (Printed next ∷ others) = ⊥
Differs (Logged text) (Logged next ∷ others) = ⊥
Differs first others = Unit {0}

-- no two that follow each other are of one kind
abbrev pub Alternates : List PlainOutput → Type 0
Alternates [] = Unit {0}
Alternates (first ∷ others) = Differs first others × Alternates others

-- What is told of texts are all their bytes, in order, each of its kind; and no two that follow each other are of one.
abbrev pub TextsAreKept : Type 0
TextsAreKept =
    (told : List PlainOutput) → (flat_map bytes_of (merged told) ≡ flat_map bytes_of told) × Alternates (merged told)

-- The pieces in which a text is told are that text, and each has at most 65,536 bytes.
abbrev pub PiecesAreKept : Type 0
PiecesAreKept =
    (text : List ℕ) (pieces : List (List ℕ)) → AreCut text pieces
    → (concat pieces ≡ text) × All (λ piece. length piece ≤ text_limit) pieces

-- A run is told in one way.
abbrev pub TellingIsOne : Type 0
TellingIsOne =
    (told : List PlainOutput) (halt : Option PlainHalt) (events others : List PlainEvent) → Tells told halt events
    → Tells told halt others → events ≡ others

-- ---- identifiers and references

-- the identifier that is shown of a frame is that frame's
abbrev pub FramesAreFound : Type 0
FramesAreFound =
    (counting : Counting) (path : List ℕ) (many index : ℕ) (frame : PlainFrame) → index < many
    → frame_with many (shown_frame counting path index frame).id ≡ Some index

-- the reference that is shown of a scope is that of its frame and its index, and of nothing else
abbrev pub ScopesAreFound : Type 0
ScopesAreFound =
    (many frame index : ℕ) (name : List ℕ) → frame < many → frame < frame_limit → index < scope_limit
    → (number_of_reference (shown_scope frame index name).reference ≡ None)
    × (frame_of_reference many (shown_scope frame index name).reference ≡ Some frame)
    × (index_of_reference (shown_scope frame index name).reference ≡ index)

-- the reference that is shown of what is inside a variable is that of its number
abbrev pub VariablesAreFound : Type 0
VariablesAreFound =
    (number : ℕ) → number < number_limit → number_of_reference (reference_inside (Some number)) ≡ Some number
