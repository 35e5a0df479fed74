-- Defines the events that tell of a run.
use Rattle.std.specs.Prelude.{◌≡◌, ◌≤◌, ◌<◌, ℕ, List, [], ◌∷◌, ◌++◌, map, length, take, drop, codes, Option, None, Some}
use Rattle.dap_server.specs.Messages.{PlainEvent}
use Rattle.dap_bodies.specs.Events.{output, stopped, exited, terminated}
use Rattle.dap_bodies.specs.Sizes.{fit_of, text_limit}
use Rattle.debuggee.specs.Plain.{PlainHalt, AtBreakpoint, AtStep, AtEnd, AtFault, PlainOutput, Printed, Logged}

-- which category a text has: the program has printed it, or a breakpoint says it
abbrev pub category_of : PlainOutput → List ℕ
category_of (Printed text) = codes "stdout"
category_of (Logged text) = codes "console"

abbrev pub text_in : PlainOutput → List ℕ
text_in (Printed text) = text
text_in (Logged text) = text

-- A text is told in pieces, in order: the characters that fit into one, and so on; the last has what is left.
abbrev pub AreCut : List ℕ → List (List ℕ) → Type 0
AreCut text [] = ⊥
AreCut text (last ∷ []) = (last ≡ text) × (length text ≤ text_limit)
AreCut text (piece ∷ (next ∷ pieces)) =
    (text_limit < length text) × (piece ≡ take (fit_of text) text) × AreCut (drop (fit_of text) text) (next ∷ pieces)

-- the events tell a text of this category, one each of its pieces
abbrev pub TellPieces : List ℕ → List ℕ → List PlainEvent → Type 0
TellPieces category text events =
    (pieces : List (List ℕ)) × AreCut text pieces × (events ≡ map (output category) pieces)

abbrev pub TellOne : PlainOutput → List PlainEvent → Type 0
TellOne told events = TellPieces (category_of told) (text_in told) events

-- the events tell texts, one after another
abbrev pub TellAll : List PlainOutput → List PlainEvent → Type 0
TellAll [] events = events ≡ []
TellAll (first ∷ others) events =
    (events_of_first : List PlainEvent) × (more : List PlainEvent) × TellOne first events_of_first
    × TellAll others more × (events ≡ events_of_first ++ more)

-- why a run halted, if it did: that the program has stopped, once, or that it has ended
abbrev pub told_end : Option PlainHalt → List PlainEvent
told_end None = []
told_end (Some AtBreakpoint) = stopped (codes "breakpoint") None ∷ []
told_end (Some AtStep) = stopped (codes "step") None ∷ []
told_end (Some (AtFault fault)) = stopped (codes "exception") (Some fault.text) ∷ []
told_end (Some (AtEnd status)) = exited status ∷ (terminated ∷ [])

-- a text is told with the one that follows it, where both are of one kind
abbrev pub merge : PlainOutput → List PlainOutput → List PlainOutput
merge (Printed text) (Printed next ∷ others) = Printed (text ++ next) ∷ others
merge (Logged text) (Logged next ∷ others) = Logged (text ++ next) ∷ others
merge first others = first ∷ others

-- texts of one kind that follow each other are one
abbrev pub merged : List PlainOutput → List PlainOutput
merged [] = []
merged (first ∷ others) = merge first (merged others)

-- All that is told of a run: what was printed and said, in as few events as there can be with so few bytes each, and
-- then, once, why it halted, if it did.
abbrev pub Tells : List PlainOutput → Option PlainHalt → List PlainEvent → Type 0
Tells told halt events =
    (texts : List PlainEvent) × TellAll (merged told) texts × (events ≡ texts ++ told_end halt)

-- ---- for private contracts

-- a text more, at the end: it is told with the last one, where both are of one kind
abbrev pub end_from : PlainOutput → List PlainOutput → PlainOutput → List PlainOutput
end_from first [] one = merge first (one ∷ [])
end_from first (next ∷ others) one = first ∷ end_from next others one

abbrev pub end_with : List PlainOutput → PlainOutput → List PlainOutput
end_with [] one = one ∷ []
end_with (first ∷ others) one = end_from first others one

abbrev pub AddsEvents : (List PlainEvent → Type 0) → List PlainEvent → List PlainEvent → Type 0
AddsEvents tell old new = (more : List PlainEvent) × tell more × (new ≡ old ++ more)
