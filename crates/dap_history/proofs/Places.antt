-- The steps of a text's program stand within as many lines and columns as a text may have bytes.
use Rattle.dap_history.proofs.Common.{Block, Configuration, Expression, Frame, IsTreeOf, Name, None, Option, Path, RunFault, Some, StepAt, [], arith, at, cond, length, next_step, option_map_or, slice_get, steps, subst, suc, zero, ℕ, ∥∥₁_elim, ◌++◌, ◌+◌, ◌∷◌, ◌≡◌, ◌≤◌}
use Rattle.std.proofs.Common.{Bool, true, false, nat_eq, List, drop, Result, ℤ, pred}
use Rattle.std.specs.Prelude.{option_map, option_and_then}
use Rattle.std.proofs.Math.Bridge.{le_prop}
use Rattle.pl0_tree.specs.declared.tree.Place.{Place}
use Rattle.pl0_tree.specs.Tokens.{Token, behind, front_piece, tokens_from, tokens_of, start_place}
use Rattle.pl0_tree.specs.Tree.{Condition, Statement, Empty, Then, Assign, Call, Write, If, While, Constant, ABlock, Procedures, NoMore, AProcedure, Procedure, procedure_list, body, end}
use Rattle.pl0_tree.specs.Reading.{ReadsExpression, unsigned, positive, negative, ReadsMoreTerms, no_term, one_term, ReadsTerm, factors, ReadsMoreFactors, no_factor, one_factor, ReadsFactor, name, number, nested, ReadsCondition, ReadsStatement, empty, assignment, call, write, sequence, choice, loop, ReadsStatements, last_statement, one_statement, ReadsConstants, last_constant, one_constant, ReadsConstantPart, no_constants, constants, ReadsVariables, last_variable, one_variable, ReadsVariablePart, no_variables, variables, ReadsBlock, block, ReadsProcedures, no_procedure, one_procedure, ReadsProgram, program}
use Rattle.pl0_tree.specs.Scope.{block_at, procedure_at, Meaning, Home}
use Rattle.pl0_tree.specs.Steps.{statement_steps, block_steps, procedures_steps}
use Rattle.pl0_tree.specs.Faults.{limit}
use Rattle.pl0_meaning.specs.Values.{return_of, first_step}
use Rattle.pl0_meaning.specs.Runs.{opened, Outcome, Goes, Faults, Stuck, on_value, with_number, assigned, new_frame, callee, entered, called, returned, statement_step, frame_step, led_to, last_position, step_at, target}
use Rattle.pl0_meaning.specs.Runs.{step as run_step}
use Rattle.std.proofs.lemmas.Grind.{common_steps}

abbrev pub most : ℕ
most = 65537

abbrev pub IsNear : Place → Type 0
IsNear p = (p.line ≤ most) × (p.column ≤ most)

-- ---- tokens

abbrev pub TokensNear : List Token → Type 0
TokensNear [] = Unit {0}
TokensNear (t ∷ ts) = IsNear t.place × TokensNear ts

-- this many bytes more stay near
abbrev HasRoom : Place → ℕ → Type 0
HasRoom p n = (p.line + n ≤ most) × (p.column + n ≤ most)

behind_room : (v : Bool) (p : Place) (n : ℕ) → HasRoom p (suc n)
    → HasRoom (cond v (record { line = p.line + 1; column = 1 }) (record { line = p.line; column = p.column + 1 })) n
behind_room v p n room = grind (arith, common_steps) steps 200000

abbrev next_tokens : Bool → Place → ℕ → List ℕ → List Token
next_tokens space p b bytes = cond space (tokens_from (behind p b) zero bytes)
    (record { symbol = (front_piece b (b ∷ bytes)).0; place = p }
    ∷ tokens_from (behind p b) (pred (front_piece b (b ∷ bytes)).1) bytes)

next_near : (space : Bool) (p : Place) (b : ℕ) (bytes : List ℕ) → IsNear p
    → ((taken : ℕ) → TokensNear (tokens_from (behind p b) taken bytes)) → TokensNear (next_tokens space p b bytes)
next_near true p b bytes near rest = rest zero
next_near false p b bytes near rest = (near, rest (pred (front_piece b (b ∷ bytes)).1))

near_by_room : (p : Place) (n : ℕ) → HasRoom p n → IsNear p
near_by_room p n room = (omega (arith, room.0), omega (arith, room.1))

tokens_near_from : (bytes : List ℕ) (p : Place) (taken : ℕ) → HasRoom p (length bytes)
    → TokensNear (tokens_from p taken bytes)
tokens_near_from [] p taken room = (near_by_room p 0 room, tt)
tokens_near_from (b ∷ bytes) p (suc taken) room = tokens_near_from bytes _ taken (behind_room _ p _ room)
tokens_near_from (b ∷ bytes) p zero room =
    next_near _ p b bytes (near_by_room p _ room) (λ taken. tokens_near_from bytes _ taken (behind_room _ p _ room))

tokens_near : (text : List ℕ) → length text ≤ limit → TokensNear (tokens_of text)
tokens_near text short = tokens_near_from text start_place 0 (omega (arith, short), omega (arith, short))

-- ---- trees

abbrev pub StatementNear : Statement → Type 0
StatementNear Empty = Unit {0}
StatementNear (Then x y) = StatementNear x × StatementNear y
StatementNear (Assign x e) = IsNear x.place
StatementNear (Call p x) = IsNear p
StatementNear (Write p e) = IsNear p
StatementNear (If p c inner) = IsNear p × StatementNear inner
StatementNear (While p c inner) = IsNear p × StatementNear inner

abbrev mutual
  pub BlockNear : Block → Type 0
  BlockNear (ABlock cs xs ps statement ending) = ProceduresNear ps × StatementNear statement × IsNear ending

  pub ProceduresNear : Procedures → Type 0
  ProceduresNear NoMore = Unit {0}
  ProceduresNear (AProcedure x b more) = BlockNear b × ProceduresNear more

mutual
  expression_left : {n : ℕ} {s : List Token} {e : Expression} {rest : List Token} → ReadsExpression n s e rest
      → TokensNear s → TokensNear rest
  expression_left (unsigned term more) near = more_terms_left more (term_left term near)
  expression_left (positive term more) near = more_terms_left more (term_left term near.1)
  expression_left (negative term more) near = more_terms_left more (term_left term near.1)

  more_terms_left : {n : ℕ} {s : List Token} {first e : Expression} {rest : List Token}
      → ReadsMoreTerms n s first e rest → TokensNear s → TokensNear rest
  more_terms_left no_term near = near
  more_terms_left (one_term adding term more) near = more_terms_left more (term_left term near.1)

  term_left : {n : ℕ} {s : List Token} {e : Expression} {rest : List Token} → ReadsTerm n s e rest → TokensNear s
      → TokensNear rest
  term_left (factors factor more) near = more_factors_left more (factor_left factor near)

  more_factors_left : {n : ℕ} {s : List Token} {first e : Expression} {rest : List Token}
      → ReadsMoreFactors n s first e rest → TokensNear s → TokensNear rest
  more_factors_left no_factor near = near
  more_factors_left (one_factor multiplying factor more) near = more_factors_left more (factor_left factor near.1)

  factor_left : {n : ℕ} {s : List Token} {e : Expression} {rest : List Token} → ReadsFactor n s e rest → TokensNear s
      → TokensNear rest
  factor_left name near = near.1
  factor_left number near = near.1
  factor_left (nested inner) near = (expression_left inner near.1).1

condition_left : {n : ℕ} {s : List Token} {c : Condition} {rest : List Token} → ReadsCondition n s c rest → TokensNear s
    → TokensNear rest
condition_left is near = grind (arith, common_steps, expression_left) steps 200000

mutual
  statement_near : {n : ℕ} {s : List Token} {x : Statement} {rest : List Token} → ReadsStatement n s x rest
      → TokensNear s → StatementNear x × TokensNear rest
  statement_near empty near = (tt, near)
  statement_near (assignment expression) near = (near.0, expression_left expression near.1.1)
  statement_near call near = (near.0, near.1.1)
  statement_near (write expression) near = (near.0, expression_left expression near.1)
  statement_near (sequence statements) near = statements_near statements near.1
  statement_near (choice condition statement) near =
      let inner = statement_near statement (condition_left condition near.1).1 in ((near.0, inner.0), inner.1)
  statement_near (loop condition statement) near =
      let inner = statement_near statement (condition_left condition near.1).1 in ((near.0, inner.0), inner.1)

  statements_near : {n : ℕ} {s : List Token} {x : Statement} {rest : List Token} → ReadsStatements n s x rest
      → TokensNear s → StatementNear x × TokensNear rest
  statements_near (last_statement statement) near = let a = statement_near statement near in ((a.0, tt), a.1.1)
  statements_near (one_statement statement statements) near =
      let a = statement_near statement near in
      let b = statements_near statements a.1.1 in ((a.0, b.0), b.1)

constants_left : {s : List Token} {cs : List Constant} {rest : List Token} → ReadsConstants s cs rest → TokensNear s
    → TokensNear rest
constants_left last_constant near = near.1.1.1.1
constants_left (one_constant more) near = constants_left more near.1.1.1.1

constant_part_left : {s : List Token} {cs : List Constant} {rest : List Token} → ReadsConstantPart s cs rest
    → TokensNear s → TokensNear rest
constant_part_left no_constants near = near
constant_part_left (constants more) near = constants_left more near.1

variables_left : {s : List Token} {xs : List Name} {rest : List Token} → ReadsVariables s xs rest → TokensNear s
    → TokensNear rest
variables_left last_variable near = near.1.1
variables_left (one_variable more) near = variables_left more near.1.1

variable_part_left : {s : List Token} {xs : List Name} {rest : List Token} → ReadsVariablePart s xs rest → TokensNear s
    → TokensNear rest
variable_part_left no_variables near = near
variable_part_left (variables more) near = variables_left more near.1

mutual
  block_near : {n : ℕ} {s : List Token} {b : Block} {rest : List Token} → ReadsBlock n s b rest → TokensNear s
      → BlockNear b × TokensNear rest
  block_near (block constant_part variable_part rows statement) near =
      let p = procedures_near rows (variable_part_left variable_part (constant_part_left constant_part near)) in
      let b = statement_near statement p.1 in ((p.0, b.0, b.1.0), b.1)

  procedures_near : {n : ℕ} {s : List Token} {ps : Procedures} {rest : List Token} → ReadsProcedures n s ps rest
      → TokensNear s → ProceduresNear ps × TokensNear rest
  procedures_near no_procedure near = (tt, near)
  procedures_near (one_procedure read more) near =
      let b = block_near read near.1.1.1 in
      let m = procedures_near more b.1.1 in ((b.0, m.0), m.1)

program_near : {n : ℕ} {tokens : List Token} {main : Block} → ReadsProgram n tokens main → TokensNear tokens
    → BlockNear main
program_near (program read) near = (block_near read near).0

tree_near : (text : List ℕ) (main : Block) → IsTreeOf text main → BlockNear main
tree_near text main is = program_near is.reads (tokens_near text is.short)

-- ---- nearness is a proposition

statement_near_prop : (x : Statement) → IsProp (StatementNear x)
statement_near_prop Empty = hlevel
statement_near_prop (Then x y) = hlevel (statement_near_prop x, statement_near_prop y)
statement_near_prop (If p c inner) = hlevel (le_prop, statement_near_prop inner)
statement_near_prop (While p c inner) = hlevel (le_prop, statement_near_prop inner)
statement_near_prop _ = hlevel le_prop

mutual
  block_near_prop : (b : Block) → IsProp (BlockNear b)
  block_near_prop (ABlock cs xs ps statement ending) =
      hlevel (le_prop, procedures_near_prop ps, statement_near_prop statement)

  procedures_near_prop : (ps : Procedures) → IsProp (ProceduresNear ps)
  procedures_near_prop NoMore = hlevel
  procedures_near_prop (AProcedure x b more) = hlevel (block_near_prop b, procedures_near_prop more)

pub read_near : (text : List ℕ) (main : Block) → ∥ IsTreeOf text main ∥₁ → BlockNear main
read_near text main is = ∥∥₁_elim is (block_near_prop main) (tree_near text main)

-- ---- steps

abbrev StepsNear : List StepAt → Type 0
StepsNear [] = Unit {0}
StepsNear (s ∷ ss) = IsNear s.place × StepsNear ss

steps_near-append : (ss ts : List StepAt) → StepsNear ss → StepsNear ts → StepsNear (ss ++ ts)
steps_near-append [] ts a b = b
steps_near-append (s ∷ ss) ts a b = (a.0, steps_near-append ss ts a.1 b)

statement_steps_near : (x : Statement) (q : Path) → StatementNear x → StepsNear (statement_steps x q)
statement_steps_near (Then x y) q near =
    steps_near-append _ _ (statement_steps_near x q near.0) (statement_steps_near y q near.1)
statement_steps_near (If p c inner) q near = (near.0, statement_steps_near inner q near.1)
statement_steps_near (While p c inner) q near = (near.0, statement_steps_near inner q near.1)
statement_steps_near x q near = grind (arith, common_steps) steps 200000

mutual
  block_steps_near : (b : Block) (q : Path) → BlockNear b → StepsNear (block_steps b q)
  block_steps_near (ABlock cs xs ps statement ending) q near =
      steps_near-append _ _ (procedures_steps_near ps 0 q near.0) (steps_near-append _ _ (statement_steps_near statement
      q near.1) (near.2, tt))

  procedures_steps_near : (ps : Procedures) (i : ℕ) (q : Path) → ProceduresNear ps → StepsNear (procedures_steps ps i q)
  procedures_steps_near NoMore i q near = tt
  procedures_steps_near (AProcedure x b more) i q near =
      steps_near-append _ _ (block_steps_near b _ near.0) (procedures_steps_near more _ q near.1)

abbrev pub MayBeNear : Option StepAt → Type 0
MayBeNear None = Unit {0}
MayBeNear (Some s) = IsNear s.place

step_near : (ss : List StepAt) (n : ℕ) → StepsNear ss → MayBeNear (slice_get ss n)
step_near (s ∷ ss) (suc n) near = step_near ss n near.1
step_near ss n near = grind (arith, common_steps) steps 200000

-- each step of a program is near
pub program_step_near : (main : Block) (n : ℕ) → BlockNear main → MayBeNear (slice_get (steps main) n)
program_step_near main n near = step_near (steps main) n (block_steps_near main [] near)

-- ---- blocks at paths

abbrev BlockMayBeNear : Option Block → Type 0
BlockMayBeNear None = Unit {0}
BlockMayBeNear (Some b) = BlockNear b

procedure_near : (ps : Procedures) (i : ℕ) → ProceduresNear ps
    → BlockMayBeNear (option_map (λ (p : Procedure). p.block) (slice_get (procedure_list ps) i))
procedure_near (AProcedure x b more) (suc i) near = procedure_near more i near.1
procedure_near ps i near = grind (arith, common_steps) steps 200000

inner_near : (i : ℕ) (o : Option Block) → BlockMayBeNear o → BlockMayBeNear (option_and_then (procedure_at i) o)
inner_near i o near = grind (arith, common_steps, procedure_near) steps 200000

block_at_near : (main : Block) (q : Path) → BlockNear main → BlockMayBeNear (block_at main q)
block_at_near main [] near = near
block_at_near main (i ∷ q) near = inner_near i (block_at main q) (block_at_near main q near)

body_near : (b : Block) → BlockNear b → StatementNear (body b)
body_near (ABlock cs xs ps statement ending) near = near.1

end_near : (b : Block) → BlockNear b → IsNear (end b)
end_near (ABlock cs xs ps statement ending) near = near.2

-- ---- what frames have still to do

abbrev pub TodoNear : List Statement → Type 0
TodoNear [] = Unit {0}
TodoNear (s ∷ rest) = StatementNear s × TodoNear rest

todo_near-append : (ss ts : List Statement) → TodoNear ss → TodoNear ts → TodoNear (ss ++ ts)
todo_near-append [] ts a b = b
todo_near-append (s ∷ ss) ts a b = (a.0, todo_near-append ss ts a.1 b)

opened_near : (s : Statement) → StatementNear s → TodoNear (opened s)
opened_near (Then s t) near = todo_near-append (opened s) (opened t) (opened_near s near.0) (opened_near t near.1)
opened_near s near = grind (arith, common_steps) steps 200000

abbrev pub FramesNear : Configuration → Type 0
FramesNear [] = Unit {0}
FramesNear (f ∷ below) = TodoNear f.todo × FramesNear below

abbrev OutcomeNear : Outcome → Type 0
OutcomeNear (Goes w c) = FramesNear c
OutcomeNear (Faults fault) = Unit {0}
OutcomeNear Over = Unit {0}

on_value_near : {A : Type 0} (r : Result A RunFault) (go : A → Outcome) → ((a : A) → OutcomeNear (go a))
    → OutcomeNear (on_value r go)
on_value_near r go near = grind (arith, common_steps) steps 200000

either_near : (b : Bool) (some other : Configuration) → FramesNear some → FramesNear other
    → FramesNear (cond b some other)
either_near b some other near far = grind (arith, common_steps) steps 200000

either_outcome : (b : Bool) (some other : Outcome) → OutcomeNear some → OutcomeNear other
    → OutcomeNear (cond b some other)
either_outcome b some other near far = grind (arith, common_steps) steps 200000

with_number_near : (c : Configuration) (i k : ℕ) (v : ℤ) → FramesNear c → FramesNear (with_number c i k v)
with_number_near [] i k v near = tt
with_number_near (f ∷ below) i k v near =
    either_near (nat_eq (length below) i) _ _ near (near.0, with_number_near below i k v near.1)

number_near : (c : Configuration) (o : Option (ℕ × ℕ)) (v : ℤ) → FramesNear c
    → FramesNear (option_map_or (λ (i, k). with_number c i k v) o c)
number_near c o v near = grind (arith, common_steps, with_number_near) steps 200000

assigned_near : (c : Configuration) (o : Option Home) (v : ℤ) → FramesNear c → FramesNear (assigned c o v)
assigned_near c o v near =
    number_near c (option_and_then (λ (h : Home). target c h.path h.declaration.meaning) o) v near

abbrev EntersNear : Configuration → Option Frame → Type 0
EntersNear c o = OutcomeNear (option_map_or (entered c) o Stuck)

new_frame_near : (o : Option Block) (q : Path) (link : ℕ) (c : Configuration) → BlockMayBeNear o → FramesNear c
    → EntersNear c (option_map (λ b. new_frame b q link) o)
new_frame_near o q link c near frames = grind (arith, common_steps, either_outcome, opened_near, body_near) steps 200000

module _ (main : Block) (near : BlockNear main) where
  linked_near : (c : Configuration) (q : Path) (k : ℕ) (o : Option ℕ) → FramesNear c
      → EntersNear c (option_and_then (λ link. option_map (λ b. new_frame b (k ∷ q) link) (block_at main (k ∷ q))) o)
  linked_near c q k None frames = tt
  linked_near c q k (Some link) frames =
      new_frame_near (block_at main (k ∷ q)) (k ∷ q) link c (block_at_near main (k ∷ q) near) frames

  callee_near : (c : Configuration) (q : Path) (m : Meaning) → FramesNear c → EntersNear c (callee main c q m)
  callee_near c q m frames = grind (arith, common_steps, linked_near) steps 200000

  called_near : (c : Configuration) (o : Option Home) → FramesNear c → OutcomeNear (called main c o)
  called_near c o frames = grind (arith, common_steps, callee_near) steps 200000

  chosen_near : (f : Frame) (below : Configuration) (b : Bool) (some other : List Statement) → TodoNear some
      → TodoNear other → FramesNear below → FramesNear (record f { todo = cond b some other } ∷ below)
  chosen_near f below b some other a is frames = grind (arith, common_steps) steps 200000

  statement_step_near : (f : Frame) (below : Configuration) (s : Statement) (rest : List Statement)
      → FramesNear (f ∷ below) → StatementNear s → TodoNear rest → OutcomeNear (statement_step main f below s rest)
  statement_step_near f below s rest frames here more =
      grind (arith, common_steps, on_value_near, assigned_near, chosen_near, todo_near-append, opened_near, called_near)
      steps 200000

  rest_near : (todo : List Statement) → TodoNear todo → TodoNear (drop 1 todo)
  rest_near todo near = grind (arith, common_steps) steps 200000

  returned_near : (below : Configuration) → FramesNear below → FramesNear (returned below)
  returned_near below frames = grind (arith, common_steps, rest_near) steps 200000

  frame_step_near : (f : Frame) (below : Configuration) (todo : List Statement) → FramesNear (f ∷ below) → TodoNear todo
      → OutcomeNear (frame_step main f below todo)
  frame_step_near f below todo frames near =
      grind (arith, common_steps, returned_near, statement_step_near) steps 200000

  run_step_near : (c : Configuration) → FramesNear c → OutcomeNear (run_step main c)
  run_step_near c frames = grind (arith, common_steps, frame_step_near) steps 200000

  step_at_near : (n : ℕ) (c : Configuration) → FramesNear c → OutcomeNear (step_at main n c)
  step_at_near n c frames = either_outcome (nat_eq n last_position) _ _ tt (run_step_near c frames)

  abbrev MayBeFramesNear : Option Configuration → Type 0
  MayBeFramesNear None = Unit {0}
  MayBeFramesNear (Some c) = FramesNear c

  next_near_of : (o : Outcome) → OutcomeNear o → MayBeFramesNear (led_to o)
  next_near_of o frames = grind (arith, common_steps) steps 200000

  after_step_near : (n : ℕ) (o : Option Configuration) → MayBeFramesNear o
      → MayBeFramesNear (option_and_then (λ c. led_to (step_at main n c)) o)
  after_step_near n o frames = grind (arith, common_steps, next_near_of, step_at_near) steps 200000

  at_near : (n : ℕ) → MayBeFramesNear (at main n)
  at_near zero = (opened_near (body main) (body_near main near), tt)
  at_near (suc n) = after_step_near n (at main n) (at_near n)

  return_near : (o : Option Block) (q : Path) → BlockMayBeNear o → MayBeNear (return_of o q)
  return_near o q there = grind (arith, common_steps, end_near) steps 200000

  first_near : (q : Path) (todo : List Statement) → TodoNear todo → MayBeNear (first_step main q todo)
  first_near q [] todo = return_near (block_at main q) q (block_at_near main q near)
  first_near q (s ∷ rest) todo = step_near (statement_steps s q) 0 (statement_steps_near s q todo.0)

  -- each frame of a run has its next step near
  pub frames_near : (n : ℕ) (c : Configuration) → at main n ≡ Some c → FramesNear c
  frames_near n c is = subst MayBeFramesNear is (at_near n)

  pub next_step_near : (f : Frame) → TodoNear f.todo → MayBeNear (next_step main f)
  next_step_near f todo = first_near f.block f.todo todo
