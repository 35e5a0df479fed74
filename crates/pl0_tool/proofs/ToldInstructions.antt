-- What is told of a step's instructions, one by one.
use Rattle.pl0_tool.proofs.Common.{[], ap, append-nil, arith, Bool, Configuration, false, Frame, frame_at, frames, get_or, length, List, None, number_of, Option, option_and_then, option_map_or, parent_of, refl, Some, Standing, suc, sym, true, variables_of, ℕ, ℤ, ◌++◌, ◌+◌, ◌-◌, ◌<◌, ◌∙◌, ◌∷◌, ◌≡◌, ◌≤◌}
use Rattle.std.specs.Prelude.{drop}
use Rattle.std.proofs.lemmas.List.{drop_more}
use Rattle.std.proofs.lemmas.Option.{slice_get_past}
use Rattle.pl0_unit.specs.declared.unit.Unit.{Unit as Compiled}
use Rattle.pl0_unit.specs.declared.instruction.Instruction.{Instruction}
use Rattle.pl0_machine.specs.Machine.{number_up}
use Rattle.pl0_machine.specs.declared.outcome.StepOutcome.{StepOutcome}
use Rattle.pl0_lessons.specs.Interpreter.{after, first_lines, instruction_line, led, onward_lines, step_led, step_lines}
use Rattle.pl0_lessons.specs.Taken.{IsTaken}
use Rattle.pl0_tool.specs.Instructing.{AreInstructions, IsBegun, finished}
use Rattle.pl0_tool.specs.declared.instructions.Begun.{Begun}

-- ---- the whole of a step

-- what was told before a step, and what is passed behind it
pub told_whole : (told : Bool) (m : Standing) (outcome : StepOutcome) (begun : Option Begun) (u : Compiled)
    (lines : List ℕ) → u ≡ m.unit → IsBegun told m begun → lines ≡ finished u.code.items outcome begun
    → AreInstructions told m outcome lines
told_whole true m outcome (Some begun) u lines same has is = record {
  address = has.address;
  begins = has.begins;
  back = has.back;
  returns = has.returns;
  are = is
      ∙ ap (λ (v : Compiled). begun.lines.items ++ onward_lines v.code.items outcome begun.to) same
      ∙ ap (λ t. t ++ onward_lines m.unit.code.items outcome begun.to) has.lines
      ∙ ap (λ to. (first_lines m.unit.code.items m.position
      ++ step_lines (frames m) (drop has.address m.unit.code.items) has.address [])
      ++ onward_lines m.unit.code.items outcome to) has.to;
}
told_whole true m outcome None u lines same has is = absurd has
told_whole false m outcome begun u lines same has is = is ∙ ap (finished u.code.items outcome) has

-- ---- the last instruction

module _ (c : Configuration) (code : List Instruction) (at : ℕ) (d : Instruction) (stack next shown : List ℤ)
    (done : Bool) (lt : at < length code) (last : done ≡ false)
    (taken : IsTaken (after c (get_or code at d) stack) stack next done) where
  here : drop at code ≡ get_or code at d ∷ drop (at + 1) code
  here = drop_more code at d lt

  -- no operands come after it
  ends : (o : Option (List ℤ)) → IsTaken o stack next done → (o ≡ None) × (next ≡ stack)
  ends (Some new) t = let other = t.0 in let is = last in cc
  ends None t = (refl, t.1)

  pub last_line : (before page all : List ℕ) → page ≡ before ++ instruction_line at (get_or code at d) shown
      → shown ≡ stack → before ++ step_lines c (drop at code) at stack ≡ all → page ≡ all
  last_line before page all put same is =
      let i = get_or code at d in
      put ∙ ap (λ s. before ++ instruction_line at i s) same
      ∙ ap (λ l. before ++ l) (sym (append-nil (instruction_line at i stack)))
      ∙ ap (λ o. before ++ (instruction_line at i stack
      ++ option_map_or (step_lines c (drop (at + 1) code) (at + 1)) o []))
      (sym (ends (after c i stack) taken).0)
      ∙ ap (λ l. before ++ step_lines c l at stack) (sym here) ∙ is

  pub last_led : (back : ℕ) (r all : Option ℕ) → r ≡ led back (get_or code at d) at shown → shown ≡ next
      → step_led c back (drop at code) at stack ≡ all → r ≡ all
  last_led back r all put same is =
      let i = get_or code at d in
      put ∙ ap (led back i at) (same ∙ (ends (after c i stack) taken).1)
      ∙ ap (λ o. option_map_or (step_led c back (drop (at + 1) code) (at + 1)) o (led back i at stack))
      (sym (ends (after c i stack) taken).0)
      ∙ ap (λ l. step_led c back l at stack) (sym here) ∙ is

-- ---- static links

-- the number of a variable is looked up from a frame, so many links away
abbrev pub LooksUp : Configuration → ℕ → ℕ → ℕ → ℕ → Type 0
LooksUp c level from left frame = (k : ℕ) → number_up c level k from ≡ number_up c left k frame

up_one : (c : Configuration) (l k i : ℕ) (o : Option ℕ) → parent_of i (frame_at c i) ≡ o
    → number_up c (suc l) k i ≡ option_and_then (number_up c l k) o
up_one c l k i o e = ap (option_and_then (number_up c l k)) e

pub link_up : (c : Configuration) (level from followed frame parent : ℕ) → followed < level
    → LooksUp c level from (level - followed) frame → Some parent ≡ parent_of frame (frame_at c frame)
    → LooksUp c level from (level - (followed + 1)) parent
link_up c level from followed frame parent lt looks is k =
    let left : level - followed ≡ suc (level - (followed + 1)) = omega (arith, lt) in
    looks k ∙ ap (λ n. number_up c n k frame) left ∙ up_one c (level - (followed + 1)) k frame (Some parent) (sym is)

pub no_link : (c : Configuration) (level from followed frame : ℕ) → followed < level
    → LooksUp c level from (level - followed) frame → None ≡ parent_of frame (frame_at c frame)
    → (k : ℕ) → number_up c level k from ≡ None
no_link c level from followed frame lt looks is k =
    let left : level - followed ≡ suc (level - (followed + 1)) = omega (arith, lt) in
    looks k ∙ ap (λ n. number_up c n k frame) left ∙ up_one c (level - (followed + 1)) k frame None (sym is)

-- a frame has no number past its variables
pub no_variable : (o : Option Frame) (k : ℕ) → variables_of o ≤ k → number_of o k ≡ None
no_variable None k le = refl
no_variable (Some f) k le = slice_get_past f.numbers k le
