-- Lines that are answered are resolved to steps of the program.
use Rattle.std.proofs.Common.{◌≡◌, ℕ, zero, suc, ◌<◌, List, [], ◌∷◌, length, get_or, slice_get, ap, ◌∙◌, arith, All, nat_le}
use Rattle.std.specs.Option.{option_map_or}
use Rattle.std.proofs.Math.Logic.{∥∥₁_elim}
use Rattle.std.proofs.Math.Nat.{ℕ_set}
use Rattle.std.proofs.lemmas.List.Elements.{All-cons, All-nil}
use Rattle.std.proofs.lemmas.List.Quantifiers.{position-Some}
use Rattle.pl0_tree.specs.Tree.{Block}
use Rattle.pl0_tree.specs.declared.tree.Place.{Place}
use Rattle.pl0_tree.specs.declared.step.Step.{Step}
use Rattle.pl0_tree.specs.declared.step.StepKind.TheVariants.{Return}
use Rattle.pl0_tree.specs.Steps.{StepAt, AreSteps, steps}
use Rattle.pl0_unit.specs.declared.unit.Unit.{Unit as Compiled}
use Rattle.pl0_machine.specs.Machine.{program_of}
use Rattle.dbg_plan.specs.Breakpoints.{Breakpoint}
use Rattle.dbg_plan.specs.declared.resolving.Resolution.{Resolution}
use Rattle.dbg_plan.specs.declared.resolving.Resolution.TheVariants.{At, NoStep, BadCondition, BadHitCondition, BadLogMessage}
use Rattle.dbg_plan.specs.Resolutions.{AskedLine, IsResolvedTo, AreResolved}
use Rattle.dbg_plan.proofs.StepLines.{unit_length}
use Rattle.dap_history.specs.Breakpoints.{step_line}
use Rattle.dap_replies.specs.Lines.{IsAtStep}

some_step : StepAt
some_step = record { kind = Return; place = record { line = 1; column = 1 }; path = [] }

at_step : (main : Block) (asked : AskedLine) (a : Resolution) (bs : List Breakpoint) → IsResolvedTo main asked a bs
    → IsAtStep main a
at_step main asked (At n) bs is = (position-Some (λ s. nat_le asked.line s.place.line) (steps main) n some_step is.0).0
at_step main asked NoStep bs is = tt
at_step main asked BadCondition bs is = tt
at_step main asked BadHitCondition bs is = tt
at_step main asked BadLogMessage bs is = tt

-- a line that is resolved to a step is resolved to one of the program
pub at_steps : (main : Block) (asked : List AskedLine) (answers : List Resolution) (bs : List Breakpoint)
    → AreResolved main asked answers bs → All (IsAtStep main) answers
at_steps main [] [] bs are = All-nil (IsAtStep main)
at_steps main [] (a ∷ answers) bs are = absurd are
at_steps main (x ∷ asked) [] bs are = absurd are
at_steps main (x ∷ asked) (a ∷ answers) bs are =
    All-cons (IsAtStep main) a answers (at_step main x a are.0 are.3) (at_steps main asked answers are.1 are.4)

same_line : (main : Block) (ss : List Step) (ts : List StepAt) (n : ℕ) (d : Step) → AreSteps main ss ts → n < length ss
    → (get_or ss n d).place.line ≡ option_map_or (λ (t : StepAt). t.place.line) (slice_get ts n) 0
same_line main [] ts n d are lt = absurd (omega arith)
same_line main (s ∷ ss) [] n d are lt = absurd are
same_line main (s ∷ ss) (t ∷ ts) zero d are lt = ap (λ (p : Place). p.line) are.0.place
same_line main (s ∷ ss) (t ∷ ts) (suc n) d are lt = same_line main ss ts n d are.1 (omega arith)

pub unit_line : (u : Compiled) (n : ℕ) (s : Step) → n < length (steps (program_of u)) → s ≡ get_or u.steps.items n s
    → s.place.line ≡ step_line (program_of u) n
unit_line u n s lt is =
    ap (λ (x : Step). x.place.line) is
    ∙ ∥∥₁_elim u.compiled (ℕ_set _ _) (λ h. same_line (program_of u) u.steps.items (steps (program_of u)) n s h.steps
    (omega (arith, unit_length u)))
