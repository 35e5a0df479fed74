-- Defines the frames of the messages of a session.
use Rattle.std.specs.Prelude.{ℕ, ◌+◌, List, [], ◌∷◌}
use Rattle.dap_frame.specs.Frame.{frame_of}
use Rattle.dap_msg.specs.declared.outgoing.Outgoing.{Outgoing}
use Rattle.dap_msg.specs.Outgoing.{text_of}

-- the frames of messages, numbered from n on
abbrev pub frames_from : ℕ → List Outgoing → List (List ℕ)
frames_from n [] = []
frames_from n (message ∷ messages) = frame_of (text_of message n) ∷ frames_from (n + 1) messages
