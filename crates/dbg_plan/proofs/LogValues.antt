-- The expressions of a message, in the newest frame.
use Rattle.std.proofs.Common.{◌≡◌, ℕ, zero, suc, ◌+◌, ◌-◌, ◌<◌, ◌≤◌, List, [], ◌∷◌, ◌++◌, length, map, take, get_or, Some, Result, ℤ, All, sym, ap, subst, arith, length-append}
use Rattle.std.proofs.Math.Logic.{∥∥₁_elim}
use Rattle.std.specs.Coded.{Coded, Coded-set, coded_ℤ, coded_result, ×_prop, Unit-prop}
use Rattle.std.proofs.lemmas.List.{take_more, map-append, length-map}
use Rattle.std.proofs.lemmas.List.Elements.{All-cons}
use Rattle.pl0_tree.specs.Tree.{Block, Expression}
use Rattle.pl0_tree.specs.Steps.{step_path}
use Rattle.pl0_meaning.specs.contracts.RunFault as run_fault
use Rattle.pl0_meaning.specs.declared.RunFault.{RunFault}
use Rattle.pl0_meaning.specs.Values.{Configuration, value}
use Rattle.pl0_meaning.specs.Frames.{AreLinked}
use Rattle.pl0_meaning.proofs.Linking.{frame_at-top}
use Rattle.pl0_machine.specs.Machine.{Standing, program, configuration, frames, top_of, IsNext}
use Rattle.pl0_machine.specs.declared.located.LocatedExpression.{LocatedExpression}
use Rattle.dbg_plan.specs.declared.message.Part.{Part}
use Rattle.dbg_plan.specs.declared.message.Part.TheVariants as part
use Rattle.dbg_plan.specs.declared.message.LogMessage.{LogMessage}
use Rattle.dbg_plan.specs.declared.breakpoint.Breakpoint.{Breakpoint}
use Rattle.dbg_plan.specs.Bound.{IsExpressionBound, ArePartsBound}
use Rattle.dbg_plan.specs.Messages.{expressions, expression_limit, plain_part, plain_parts}
use Rattle.dbg_plan.specs.Logs.{Log}
use Rattle.dbg_plan.specs.Counting.{log_now}
use Rattle.pl0_machine.specs.LocatedValues.{located_value, CanRead}
use Rattle.dbg_plan.specs.Reads.{ReadsPart}
use Rattle.dbg_plan.proofs.ValuesBound.{expression_reads}
use Rattle.dbg_plan.proofs.ValuesMet.{stands_in, CanRead-prop}
use Rattle.dbg_plan.proofs.MessageParts.{expressions-append}
use Rattle.std.proofs.lemmas.Grind.{common_steps}

coded_value : Coded (Result ℤ RunFault)
coded_value = coded_result coded_ℤ run_fault.the_row.coded

-- ---- each part can be read

part_prop : (main : Block) (c : Configuration) (i : ℕ) (p : Part) → IsProp (ReadsPart main c i p)
part_prop main c i (part.Text text) = Unit-prop
part_prop main c i (part.Value e) = ×_prop (CanRead-prop c i e.located) (Coded-set coded_value _ _)

part_read : (main : Block) (c : Configuration) (n top : ℕ) (e : Expression) (b : LocatedExpression) → AreLinked main c
    → IsNext main (top_of c) n → IsExpressionBound main (step_path main n) e b → top ≡ length c - 1 → CanRead c top b
    × (located_value c top b ≡ value main c top e)
part_read main [] n top e b linked next is at = absurd next
part_read main (f ∷ below) n top e b linked next is at =
    let here : length below ≡ length (f ∷ below) - 1 = omega arith in
    let bound = subst (λ q. IsExpressionBound main q e b) (sym (stands_in main f n next)) is in
    rw at (expression_reads main (f ∷ below) (length (f ∷ below) - 1) f linked (frame_at-top f below (length (f ∷ below)
    - 1) here) e b bound)

parts_read : (main : Block) (c : Configuration) (n top : ℕ) → AreLinked main c → IsNext main (top_of c) n
    → top ≡ length c - 1 → (ps : List Part) → ArePartsBound main (step_path main n) ps → All (ReadsPart main c top) ps
parts_read main c n top linked next at [] bound = λ k d lt. absurd (omega arith)
parts_read main c n top linked next at (part.Text text ∷ ps) bound =
    All-cons (ReadsPart main c top) (part.Text text) ps tt (parts_read main c n top linked next at ps bound)
parts_read main c n top linked next at (part.Value e ∷ ps) bound =
    All-cons (ReadsPart main c top) (part.Value e) ps (part_read main c n top _ e.located linked next bound.0 at)
    (parts_read main c n top linked next at ps bound.1)

pub reads_part : (main : Block) (c : Configuration) (n top : ℕ) → ∥ AreLinked main c ∥₁ → IsNext main (top_of c) n
    → top ≡ length c - 1 → (ps : List Part) → ArePartsBound main (step_path main n) ps → (i : ℕ) (p : Part)
    → i < length ps → p ≡ get_or ps i p → ReadsPart main c top p
reads_part main c n top linked next at ps bound i p lt is =
    ∥∥₁_elim linked (part_prop main c top p) (λ l. rw is (parts_read main c n top l next at ps bound i p lt))

-- ---- one part after another

module _ (main : Block) (c : Configuration) (top : ℕ) (ps : List Part) where
  -- the values of the first i parts
  abbrev pub values_to : ℕ → List (Result ℤ RunFault)
  values_to i = map (value main c top) (expressions (plain_parts (take i ps)))

  next_parts : (i : ℕ) (p : Part) → i < length ps → p ≡ get_or ps i p
      → expressions (plain_parts (take (i + 1) ps)) ≡ expressions (plain_parts (take i ps))
      ++ expressions (plain_part p ∷ [])
  next_parts i p lt is = grind (arith, common_steps, take_more, take, map-append, expressions-append)

  pub values_more : (i : ℕ) (p : Part) → i < length ps → p ≡ get_or ps i p → values_to (i + 1) ≡ values_to i
      ++ map (value main c top) (expressions (plain_part p ∷ []))
  values_more i p lt is =
      cc (next_parts i p lt is, map-append (value main c top) (expressions (plain_parts (take i ps))) _)

-- of fewer parts there are no more expressions
fewer : (ps : List Part) (k : ℕ) → length (expressions (plain_parts (take k ps))) ≤ length
    (expressions (plain_parts ps))
fewer [] zero = omega arith
fewer [] (suc k) = omega arith
fewer (p ∷ ps) zero = omega arith
fewer (part.Text text ∷ ps) (suc k) = fewer ps k
fewer (part.Value e ∷ ps) (suc k) = omega (arith, fewer ps k)

pub room_for : (main : Block) (c : Configuration) (top : ℕ) (ps : List Part) (i : ℕ) (p : Part) → i < length ps
    → p ≡ get_or ps i p → length (expressions (plain_parts ps)) ≤ expression_limit →
    length (values_to main c top ps i) + length (expressions (plain_part p ∷ [])) ≤ expression_limit
room_for main c top ps i p lt is few =
    let all = ap length (next_parts main c top ps i p lt is) in
    grind (arith, common_steps, length-append, take, length-map, value, fewer)

-- ---- the log

abbrev pub numbered_log : ℕ → List (Result ℤ RunFault) → Log
numbered_log n vs = record { number = n; values = vs }

pub one_more_value : (log : Log) (n : ℕ) (vs more new : List (Result ℤ RunFault)) → log ≡ numbered_log n vs → new ≡ vs
    ++ more → ◌≡◌ {A = Log} (record log { values = log.values ++ more }) (numbered_log n new)
one_more_value log n vs more new is all = cc

pub log_is : (m : Standing) (b : Breakpoint) (message : LogMessage) (top : ℕ) (log : Log)
    → configuration m ≡ Some (frames m) → b.message ≡ Some message → top ≡ length (frames m) - 1 →
    log ≡ numbered_log b.number (map (value (program m) (frames m) top) (expressions (plain_parts message.parts.items)))
    → Some log ≡ log_now m b
log_is m b message top log there is at log_as = cc
