-- What is drawn of a machine: its registers, and the first cells of its frames.
use Rattle.std.specs.Prelude.{◌≡◌, ℕ, zero, suc, ◌+◌, ◌-◌, Bool, true, false, nat_eq, List, length, slice_get, position, Option, Some, None}
use Rattle.std.specs.Option.{option_map_or}
use Rattle.pl0_unit.specs.declared.unit.Unit.{Unit as Compiled}
use Rattle.pl0_machine.specs.Frames.{size, base_of}
use Rattle.pl0_machine.specs.Machine.{Standing, program, frames, frame_of, depth_of, parent_of, IsNext, BeginsNext}
use Rattle.pl0_tool.specs.declared.drawing.FrameHead.{FrameHead}
use Rattle.pl0_tool.specs.declared.drawing.Drawing.{Drawing}

abbrev pub is_begun : ℕ → Option ℕ → Bool
is_begun n None = false
is_begun n (Some step) = nat_eq step n

-- the address of the instruction after the one that begins step n
abbrev pub behind : Compiled → ℕ → ℕ
behind u n = option_map_or (λ a. a + 1) (position (is_begun n) u.begun_steps.items) 0

-- The address at which the code goes on after the call that made frame i. The frame below is in that call.
abbrev pub IsReturn : Standing → ℕ → ℕ → Type 0
IsReturn m zero address = address ≡ 0
IsReturn m (suc caller) address =
    (call : ℕ) × IsNext (program m) (frame_of m caller) call × (address ≡ behind m.unit call)

-- Cells 0, 1 and 2 of frame i: where the frame begins that it is linked to, where its caller's frame begins, and where
-- the code goes on. Those of the main block's frame are 0.
pub record IsHead (m : Standing) (i : ℕ) (head : FrameHead) : Type 0 where
  pub base : head.base ≡ base_of (frames m) i
  pub static_link : head.static_link ≡ option_map_or (base_of (frames m)) (parent_of i (frame_of m i)) 0
  pub dynamic_link : head.dynamic_link ≡ base_of (frames m) (i - 1)
  pub return_address : IsReturn m i head.return_address

-- heads are those of the frames from one on up to the newest
pub record AreHeads (m : Standing) (hidden : ℕ) (heads : List FrameHead) : Type 0 where
  pub all : hidden + length heads ≡ depth_of m
  pub each : (i : ℕ) (head : FrameHead) → slice_get heads i ≡ Some head → IsHead m (hidden + i) head

-- P is the address of the next instruction, B the first cell of the newest frame, and T its last cell.
pub record IsDrawing (m : Standing) (hidden : ℕ) (drawing : Drawing) : Type 0 where
  pub address : BeginsNext m drawing.address
  pub base : drawing.base ≡ base_of (frames m) (depth_of m - 1)
  pub top : drawing.top + 1 ≡ size (frames m)
  pub heads : AreHeads m hidden drawing.heads.items

-- a machine is drawn, or it isn't
abbrev pub IsDrawn : Bool → Standing → ℕ → Option Drawing → Type 0
IsDrawn true m hidden (Some drawing) = IsDrawing m hidden drawing
IsDrawn true m hidden None = ⊥
IsDrawn false m hidden drawing = drawing ≡ None
