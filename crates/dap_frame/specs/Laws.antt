-- States what holds of the frames and faults of every stream.
use Rattle.std.specs.Prelude.{◌≡◌, ◌⊎◌, ◌++◌, ◌≤◌, ℕ, List, length}
use Rattle.dap_frame.specs.declared.fault.FramingFault.{FramingFault}
use Rattle.dap_frame.specs.Header.{FaultAt, content_limit}
use Rattle.dap_frame.specs.Frame.{IsFrameInFront, Frames, IsOpen, frame_of}

-- at most one frame stands at the front: its content and the rest after it are determined
abbrev pub FramesAreUnique : Type 0
FramesAreUnique = (bytes c d x y : List ℕ) → IsFrameInFront bytes c x → IsFrameInFront bytes d y → (c ≡ d) × (x ≡ y)

-- at most one fault stands at the front
abbrev pub FaultsAreUnique : Type 0
FaultsAreUnique = (bytes : List ℕ) (j k : FramingFault) → FaultAt bytes j → FaultAt bytes k → j ≡ k

-- a frame and a fault never both stand at the front
abbrev pub NeverBoth : Type 0
NeverBoth =
    (bytes content rest : List ℕ) (fault : FramingFault) → IsFrameInFront bytes content rest → FaultAt bytes fault → ⊥

-- a frame stands at the front, or a fault does, or more bytes have to come
abbrev pub IsOneOfThree : List ℕ → Type 0
IsOneOfThree bytes =
    ((content : List ℕ) × (rest : List ℕ) × IsFrameInFront bytes content rest)
    ⊎ (((fault : FramingFault) × FaultAt bytes fault) ⊎ IsOpen bytes)

-- one of the three holds of each rest
abbrev pub OneOfThree : Type 0
OneOfThree = (bytes : List ℕ) → IsOneOfThree bytes

-- what is written for a content of an allowed length is read again, whatever follows it
abbrev pub IsReadAgain : Type 0
IsReadAgain =
    (content after : List ℕ) → length content ≤ content_limit → IsFrameInFront (frame_of content ++ after) content after

-- the frames of a stream and those of its rest are the frames of the whole
abbrev pub FramesJoin : Type 0
FramesJoin = (a b c : List ℕ) (cs ds : List (List ℕ)) → Frames a cs b → Frames b ds c → Frames a (cs ++ ds) c
