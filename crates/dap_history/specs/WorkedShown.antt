-- What a client is shown of a text with nested procedures, at a stop in its innermost one, computed from the
-- definitions.
use Rattle.std.specs.Prelude.{◌≡◌, ℕ, List, [], ◌∷◌, Option, Some, None, pos, refl, map, codes, option_map}
use Rattle.pl0_tree.specs.Tree.{Block}
use Rattle.pl0_meaning.specs.Values.{Configuration}
use Rattle.pl0_meaning.specs.Runs.{at}
use Rattle.dbg_plan.specs.WorkedText.{nested}
use Rattle.dap_msg.specs.declared.outgoing.StackFrame.{StackFrame}
use Rattle.dap_msg.specs.declared.outgoing.Scope.{Scope}
use Rattle.dap_msg.specs.declared.outgoing.Variable.{Variable as ShownVariable}
use Rattle.dap_history.specs.Frames.{Counting, frames_asked, scopes_from, variables_of, frame_by_id}

abbrev or_none : Option Configuration → Configuration
or_none None = []
or_none (Some c) = c

abbrev shown : ℕ → List ℕ → ℕ → ℕ → StackFrame
shown id name line column = record { id = id; name = name; line = line; column = column }

abbrev scope : List ℕ → ℕ → Scope
scope name reference = record { name = name; reference = reference }

abbrev variable : List ℕ → ℕ → ShownVariable
variable name v = record { name = name; value = pos v }

-- the text with nested procedures of the examples of breakpoints
abbrev pub main : Block
main = nested

abbrev from_one : Counting
from_one = record { lines = 0; columns = 0 }

abbrev here : Configuration
here = or_none (at main 10)

-- a stop at position 10 shows these frames, from the top down
frames_at_ten : frames_asked main from_one (record { thread_id = 1; start_frame = 0; levels = 0 }) here ≡
    shown 4 (codes "q") 5 1 ∷ shown 3 (codes "p") 10 1 ∷ shown 2 (codes "p") 9 15 ∷ shown 1 (codes "main") 13 15 ∷ []
frames_at_ten = refl

-- two of them from the second on, by a client that counts from 0
some_frames : frames_asked main (record { lines = 1; columns = 1 })
    (record { thread_id = 1; start_frame = 1; levels = 2 }) here ≡
    shown 3 (codes "p") 9 0 ∷ shown 2 (codes "p") 8 14 ∷ []
some_frames = refl

no_frames : frames_asked main from_one (record { thread_id = 1; start_frame = 9; levels = 0 }) here ≡ []
no_frames = refl

scopes_of_four : scopes_from main here 3 ≡ scope (codes "q") 4 ∷ scope (codes "p") 3 ∷ scope (codes "main") 1 ∷ []
scopes_of_four = refl

scopes_of_three : scopes_from main here 2 ≡ scope (codes "p") 3 ∷ scope (codes "main") 1 ∷ []
scopes_of_three = refl

variables_of_each : map (λ id. option_map (variables_of main) (frame_by_id here id)) (0 ∷ 1 ∷ 2 ∷ 3 ∷ 4 ∷ 5 ∷ []) ≡
    None ∷ Some (variable (codes "n") 0 ∷ []) ∷ Some (variable (codes "k") 2 ∷ []) ∷ Some (variable (codes "k") 1 ∷ [])
    ∷ Some [] ∷ None ∷ []
variables_of_each = refl
