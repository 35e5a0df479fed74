-- Defines which frames are among messages to a writer, and whether `End` is.
use Rattle.std.specs.Prelude.{ℕ, Bool, true, false, List, [], ◌∷◌, ◌++◌, map, Option, None, Some}
use Rattle.dap_wires.specs.declared.writer_message.WriterMessage.{WriterMessage}
use Rattle.dap_wires.specs.declared.writer_message.WriterMessage.TheVariants.{Frames, End}
use Rattle.dap_wires.specs.declared.bundle.Bundle.{Bundle}

-- the frames of a bundle
abbrev pub bundled : Bundle → List (List ℕ)
bundled b = map (λ frame. frame.items) b.frames.entries

-- the message that a bundle is, if there is one
abbrev pub kept_in : Option Bundle → List WriterMessage
kept_in None = []
kept_in (Some b) = Frames b ∷ []

-- the frames among these
abbrev pub frames_in : List WriterMessage → List (List ℕ)
frames_in [] = []
frames_in (Frames b ∷ messages) = bundled b ++ frames_in messages
frames_in (End ∷ messages) = frames_in messages

-- whether `End` is among these
abbrev pub has_end : List WriterMessage → Bool
has_end [] = false
has_end (Frames b ∷ messages) = has_end messages
has_end (End ∷ messages) = true

-- frames, and then `End`
abbrev pub AreEnded : List WriterMessage → Type 0
AreEnded [] = ⊥
AreEnded (Frames b ∷ messages) = AreEnded messages
AreEnded (End ∷ []) = Unit {0}
AreEnded (End ∷ p ∷ messages) = ⊥
