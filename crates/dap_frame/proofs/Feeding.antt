-- What was read of a rest stays read when more of it comes.
use Rattle.dap_frame.proofs.Common.{[], ap, append_assoc, Frames, IsFrameInFront, List, refl, ℕ, ◌++◌, ◌∷◌}
use Rattle.dap_frame.proofs.Frames.{frames_join}
use Rattle.std.proofs.Common.{arith}
use Rattle.std.proofs.lemmas.Grind.{common_steps}

-- one frame more
pub frames_one_more : (stream rest more content : List ℕ) (contents : List (List ℕ)) → Frames stream contents rest
    → IsFrameInFront rest content more → Frames stream (contents ++ content ∷ []) more
frames_one_more stream rest more content contents h f = frames_join stream rest more contents _ h (more, f, refl)

pub frame_longer : (bytes content rest piece : List ℕ) → IsFrameInFront bytes content rest
    → IsFrameInFront (bytes ++ piece) content (rest ++ piece)
frame_longer bytes content rest piece f = grind (arith, common_steps, append_assoc)

-- the stream and its rest, each longer by one piece
pub frames_longer : (stream rest piece : List ℕ) (contents : List (List ℕ)) → Frames stream contents rest
    → Frames (stream ++ piece) contents (rest ++ piece)
frames_longer stream rest piece [] h = ap (λ b. b ++ piece) h
frames_longer stream rest piece (content ∷ contents) h =
    (h.0 ++ piece, frame_longer stream content h.0 piece h.1, frames_longer h.0 rest piece contents h.2)
