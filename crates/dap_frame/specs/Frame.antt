-- Defines the frames of a stream, by the base protocol of the Debug Adapter Protocol, however it was cut into pieces.
use Rattle.std.specs.Prelude.{◌≡◌, ℕ, ◌-◌, ◌≤◌, List, [], ◌∷◌, ◌++◌, length, take, drop, codes, decimal}
use Rattle.dap_frame.specs.Header.{line_end, IsHeader, FaultAt}
use Rattle.dap_frame.specs.declared.fault.FramingFault.{FramingFault}
use Rattle.dap_frame.specs.declared.front.Front.{Front}

-- a whole frame stands at the front: a lawful header part, and a content of the length that the header part gives
pub record IsFrameInFront (bytes content rest : List ℕ) : Type 0 where
  pub header : List ℕ
  pub lawful : IsHeader header (length content)
  pub spelled : bytes ≡ header ++ (content ++ rest)

-- the content of a frame that lies so: the bytes from `start` to `end`
abbrev pub content_at : Front → List ℕ → List ℕ
content_at front bytes = take (front.end - front.start) (drop front.start bytes)

-- a whole frame stands at the front, and its content lies there
pub record IsFront (front : Front) (bytes : List ℕ) : Type 0 where
  pub in_order : front.start ≤ front.end
  pub there : front.end ≤ length bytes
  pub frame : IsFrameInFront bytes (content_at front bytes) (drop front.end bytes)

-- the bytes are the frames of these contents, one after the other, and then the rest
abbrev pub Frames : List ℕ → List (List ℕ) → List ℕ → Type 0
Frames bytes [] rest = bytes ≡ rest
Frames bytes (content ∷ contents) rest = (more : List ℕ) × IsFrameInFront bytes content more × Frames more contents rest

-- neither a whole frame nor a fault stands at the front
pub record IsOpen (bytes : List ℕ) : Type 0 where
  pub no_frame : (content rest : List ℕ) → ¬ IsFrameInFront bytes content rest
  pub no_fault : (fault : FramingFault) → ¬ FaultAt bytes fault

-- the frame that is written for a content: the field `Content-Length` alone, the empty line and the content
abbrev pub frame_of : List ℕ → List ℕ
frame_of content = codes "Content-Length: " ++ (decimal (length content) ++ (line_end ++ (line_end ++ content)))
