-- Conditions that an editor asks for.
use Rattle.std.proofs.Common.{◌≢◌, ℕ, List, [], Option, Some, None}
use Rattle.pl0_tree.specs.Tree.{Block}
use Rattle.pl0_tree.specs.declared.fault.SyntaxFault.{SyntaxFault}
use Rattle.pl0_tree.specs.declared.fault.SyntaxFault.TheVariants.{InText, NoMemory}
use Rattle.pl0_tree.specs.Steps.{step_path}
use Rattle.pl0_tree.specs.Faults.{IsFirstConditionFault, FaultIs}
use Rattle.pl0_syntax.specs.Laws.{FaultExcludesConditions}
use Rattle.dbg_plan.specs.Breakpoints.{TextCondition}
use Rattle.dbg_plan.specs.Resolutions.{ReadsConditionAt, HasConditionAt}

-- a text with a fault is no condition's
pub no_condition : FaultExcludesConditions → (main : Block) (n : ℕ) (text : List ℕ) → text ≢ [] → (fault : SyntaxFault)
    → FaultIs (IsFirstConditionFault main (step_path main n) text) fault
    → FaultIs (λ kind place. ¬ HasConditionAt main n text) fault
no_condition excludes main n text some (InText kind place) is = λ has. by_condition has.condition has.reads
  where
    by_condition : (o : Option TextCondition) → ReadsConditionAt main n text o → ⊥
    by_condition None empty = some empty
    by_condition (Some c) reads = excludes main (step_path main n) text kind place c.condition is reads.2
no_condition excludes main n text some NoMemory is = tt
