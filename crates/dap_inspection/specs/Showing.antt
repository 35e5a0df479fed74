-- Defines what a client is shown of one frame.
use Rattle.std.specs.Prelude.{◌≡◌, ℕ, zero, suc, min, Option, Some, None}
use Rattle.dap_msg.specs.declared.outgoing.StackFrame.{StackFrame}
use Rattle.dap_msg.specs.declared.outgoing.Scope.{Scope}
use Rattle.pl0_tree.specs.Tree.{Block}
use Rattle.pl0_tree.specs.Blocks.{frame_name}
use Rattle.pl0_meaning.specs.Values.{Frame}
use Rattle.dap_history.specs.Frames.{Counting, shown_frame}

-- how many of the frames that are left are asked for: at most this many, or all where it is 0
abbrev pub count_shown : ℕ → ℕ → ℕ
count_shown zero left = left
count_shown (suc n) left = min (suc n) left

-- what is shown of the frame with an id
abbrev pub IsShownAs : Block → Counting → Option Frame → ℕ → StackFrame → Type 0
IsShownAs main counting None id shown = ⊥
IsShownAs main counting (Some f) id shown = shown ≡ shown_frame main counting f id

-- the scope of the frame with an id
abbrev pub IsScopeOf : Block → Option Frame → ℕ → Scope → Type 0
IsScopeOf main None id scope = ⊥
IsScopeOf main (Some f) id scope = scope ≡ record { name = frame_name main f.block; reference = id }
