-- Lines answered one after another.
use Rattle.std.proofs.Common.{◌≡◌, ℕ, ◌+◌, ◌<◌, ◌≤◌, List, [], ◌∷◌, ◌++◌, length, take, get_or, Option, refl, ap, sym, ◌∙◌, subst, arith, append_assoc, append-nil, All}
use Rattle.std.proofs.lemmas.List.{take_more, length-append, length-map, map-append}
use Rattle.std.proofs.lemmas.List.Elements.{All-cons}
use Rattle.pl0_tree.specs.Tree.{Block}
use Rattle.pl0_machine.specs.Machine.{program_of}
use Rattle.dbg_plan.specs.declared.breakpoint.Rule.{Rule}
use Rattle.dbg_plan.specs.declared.breakpoint.Breakpoint.{Breakpoint}
use Rattle.dbg_plan.specs.declared.resolving.SourceBreakpoint.{SourceBreakpoint}
use Rattle.dbg_plan.specs.declared.breakpoint.BoundCondition.{BoundCondition}
use Rattle.dbg_plan.specs.declared.resolving.Resolution.{Resolution}
use Rattle.dbg_plan.specs.declared.resolving.Resolution.TheVariants.{BadCondition, BadHitCondition, BadLogMessage}
use Rattle.pl0_tree.specs.declared.tree.Place.{Place}
use Rattle.pl0_tree.specs.declared.fault.FaultKind.{FaultKind}
use Rattle.pl0_tree.specs.declared.fault.SyntaxFault.{SyntaxFault}
use Rattle.pl0_tree.specs.declared.fault.SyntaxFault.TheVariants.{InText}
use Rattle.pl0_tree.specs.Faults.{FaultIs}
use Rattle.std.specs.Prelude.{Some, map, option_map}
use Rattle.pl0_tree.specs.Steps.{steps}
use Rattle.pl0_unit.specs.declared.unit.Unit.{Unit as Compiled}
use Rattle.dbg_plan.specs.Breakpoints.{Breakpoint as PlainBreakpoint, text_condition, plain_breakpoint, plain_breakpoints}
use Rattle.dbg_plan.specs.Plans.{Listed, IsRule, AreNumbered, AreAtSteps, IsPlanOf, AreBreakpointsOf, breakpoint_limit, marked_addresses}
use Rattle.dbg_plan.specs.Resolutions.{AskedLine, plain_line, step_from, ReadsRule, HasConditionAt, HasRule, HasMessageAt, IsResolvedTo, AreResolved}
use Rattle.dbg_plan.specs.Resolving.{IsBoundConditionOf, ResolvesLine}
use Rattle.std.proofs.lemmas.Grind.{common_steps}

-- the first i lines are answered
pub record Resolved (main : Block) (asked : List SourceBreakpoint) (i : ℕ) (answers : List Resolution)
    (bs : List Breakpoint) : Type 0 where
  pub few : length bs ≤ i
  pub answered : AreResolved main (map plain_line (take i asked)) answers (plain_breakpoints bs)
  pub numbered : AreNumbered 0 bs
  pub placed : AreAtSteps main bs

pub none : (main : Block) (asked : List SourceBreakpoint) (answers : List Resolution) (bs : List Breakpoint)
    → answers ≡ [] → bs ≡ [] → Resolved main asked 0 answers bs
none main asked answers bs no_answer no_breakpoint =
    let nothing : Resolved main asked 0 [] [] =
    record { few = omega arith; answered = refl; numbered = tt; placed = tt } in
    subst (λ l. Resolved main asked 0 l bs) (sym no_answer)
    (subst (λ l. Resolved main asked 0 [] l) (sym no_breakpoint) nothing)

more_numbered : (n m : ℕ) (bs mine : List Breakpoint) → m ≡ n + length bs → AreNumbered n bs → AreNumbered m mine
    → AreNumbered n (bs ++ mine)
more_numbered n m [] mine e old new = subst (λ k. AreNumbered k mine) (let f : m ≡ n = omega arith in f) new
more_numbered n m (b ∷ bs) mine e old new = (old.0, old.1, more_numbered (n + 1) m bs mine (omega arith) old.2 new)

more_placed : (main : Block) (bs mine : List Breakpoint) → AreAtSteps main bs → AreAtSteps main mine
    → AreAtSteps main (bs ++ mine)
more_placed main [] mine old new = new
more_placed main (b ∷ bs) mine old new = (old.0, old.1, old.2, more_placed main bs mine old.3 new)

more_answered : (main : Block) (lines : List AskedLine) (answers : List Resolution)
    (bs mine : List PlainBreakpoint) (line : AskedLine) (answer : Resolution) →
    AreResolved main lines answers bs → IsResolvedTo main line answer mine
    → AreResolved main (lines ++ line ∷ []) (answers ++ answer ∷ []) (bs ++ mine)
more_answered main [] [] bs mine line answer old new = (mine, [], cc (append-nil mine), new, refl)
more_answered main [] (a ∷ answers) bs mine line answer old new = absurd old
more_answered main (x ∷ lines) [] bs mine line answer old new = absurd old
more_answered main (x ∷ lines) (a ∷ answers) bs mine line answer old new =
    grind (arith, common_steps, append_assoc, more_answered main lines answers old.1 mine line answer old.4 new)

pub one_more : (main : Block) (asked : List SourceBreakpoint) (i : ℕ) (line : SourceBreakpoint)
    (answers all : List Resolution) (bs new : List Breakpoint) (answer : Resolution) → i < length asked
    → Resolved main asked i answers bs → ResolvesLine main (plain_line (get_or asked i line)) bs new answer
    → all ≡ answers ++ answer ∷ [] → Resolved main asked (i + 1) all new
one_more main asked i line answers all bs new answer lt old more all_is =
    let few = old.few in
    let one = more.few in
    let before = map plain_line (take i asked) in
    let this = plain_line (get_or asked i line) in
    let now : Resolved main asked (i + 1) (answers ++ answer ∷ []) (bs ++ more.mine) = record {
      few =
          omega (arith, length-append bs more.mine);
      answered = rw (ap (map plain_line) (take_more asked i line lt) ∙
          map-append plain_line (take i asked) (get_or asked i line ∷ []))
          (rw (map-append plain_breakpoint bs more.mine)
          (more_answered main before answers (plain_breakpoints bs) (plain_breakpoints more.mine) this answer
          old.answered
          more.resolved));
      numbered = more_numbered 0 (length bs) bs more.mine (omega arith) old.numbered more.numbered;
      placed = more_placed main bs more.mine old.placed more.placed;
    } in
    rw all_is (rw more.after now)

pub plan_is : (u : Compiled) (n : ℕ) (bs : List Breakpoint) (begun_steps : List (Option ℕ)) (plan : Listed)
    → plan ≡ record { steps = n; breakpoints = bs; marked = marked_addresses bs begun_steps }
    → begun_steps ≡ u.begun_steps.items → n ≡ length (steps (program_of u)) → AreAtSteps (program_of u) bs
    → IsPlanOf u plan
plan_is u n bs begun_steps plan is beside all placed = grind (arith, common_steps, steps)

-- ---- the breakpoints as data

all_at_steps : (main : Block) (bs : List Breakpoint) → AreAtSteps main bs
    → All (λ b. b.step < length (steps main)) (plain_breakpoints bs)
all_at_steps main [] placed = λ k d lt. absurd (omega arith)
all_at_steps main (b ∷ bs) placed =
    All-cons (λ b. b.step < length (steps main)) _ _ placed.0 (all_at_steps main bs placed.3)

all_rules : (n : ℕ) (bs : List Breakpoint) → AreNumbered n bs → All (λ b. IsRule b.rule) (plain_breakpoints bs)
all_rules n [] numbered = λ k d lt. absurd (omega arith)
all_rules n (b ∷ bs) numbered = grind (arith, common_steps, All-cons, all_rules (n + 1) bs numbered.2)

pub breakpoints_are : (main : Block) (asked : List SourceBreakpoint) (i : ℕ) (answers : List Resolution)
    (bs : List Breakpoint) (plan : Listed) → Resolved main asked i answers bs → i ≤ breakpoint_limit
    → plan.breakpoints ≡ bs → AreBreakpointsOf main (plain_breakpoints plan.breakpoints)
breakpoints_are main asked i answers bs plan old le same =
    grind (arith, common_steps, length-map, all_at_steps, all_rules)

-- ---- lines without a breakpoint

refused : (main : Block) (asked : AskedLine) (old : List Breakpoint) (answer : Resolution)
    → IsResolvedTo main asked answer [] → ResolvesLine main asked old old answer
refused main asked old answer is =
    record { mine = []; few = omega arith; after = sym (append-nil old); resolved = is; numbered = tt; placed = tt }

pub bad_condition : (main : Block) (asked : AskedLine) (old : List Breakpoint) (n : ℕ) (fault : SyntaxFault)
    (kind : FaultKind) (place : Place) → step_from main asked.line ≡ Some n
    → FaultIs (λ kind place. ¬ HasConditionAt main n asked.condition) fault → fault ≡ InText kind place
    → ResolvesLine main asked old old BadCondition
bad_condition main asked old n fault kind place there is e = grind (arith, common_steps, refused)

has_condition : (main : Block) (n : ℕ) (text : List ℕ) (condition : Option BoundCondition)
    → IsBoundConditionOf main n text condition → HasConditionAt main n text
has_condition main n text condition is = record { condition = option_map text_condition condition; reads = is.reads }

pub bad_hit_condition : (main : Block) (asked : AskedLine) (old : List Breakpoint) (n : ℕ)
    (condition : Option BoundCondition) → step_from main asked.line ≡ Some n
    → IsBoundConditionOf main n asked.condition condition → ¬ HasRule asked.hit_condition
    → ResolvesLine main asked old old BadHitCondition
bad_hit_condition main asked old n condition there is none = grind (arith, common_steps, refused, none, has_condition)

pub bad_log_message : (main : Block) (asked : AskedLine) (old : List Breakpoint) (n : ℕ)
    (condition : Option BoundCondition) (rule : Option Rule) → step_from main asked.line ≡ Some n
    → IsBoundConditionOf main n asked.condition condition → ReadsRule asked.hit_condition rule
    → ¬ HasMessageAt main n asked.log_message → ResolvesLine main asked old old BadLogMessage
bad_log_message main asked old n condition rule there is read none =
    grind (arith, common_steps, refused, has_condition, none)
