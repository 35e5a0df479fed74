-- The code of a program has no more instructions than the program has tokens, and one.
use Rattle.pl0_tree.proofs.SharedLemmas.{constant_part_shorter}
use Rattle.pl0_code.proofs.Common.{ABlock, arith, Binary, Block, block_length, Condition, condition_length, Expression, expression_length, length, List, Name, Negate, NoMore, Procedures, procedures_length, Statement, statement_length, Token, ℕ, ◌+◌, ◌∷◌, ◌≤◌}
use Rattle.pl0_tree.specs.Tree.{AProcedure}
use Rattle.pl0_tree.specs.Reading.{ReadsExpression, unsigned, positive, negative, ReadsMoreTerms, no_term, one_term, ReadsTerm, factors, ReadsMoreFactors, no_factor, one_factor, ReadsFactor, nested, ReadsCondition, odd, comparison, ReadsStatement, empty, assignment, call, write, sequence, choice, loop, ReadsStatements, last_statement, one_statement, ReadsVariables, last_variable, one_variable, ReadsVariablePart, no_variables, variables, ReadsBlock, block, ReadsProcedures, no_procedure, one_procedure, ReadsProgram, program}

abbrev mutual
  -- how many variables a block declares, with those of the blocks in it
  pub variable_count : Block → ℕ
  variable_count (ABlock cs xs ps s end) = length xs + variables_count ps

  pub variables_count : Procedures → ℕ
  variables_count NoMore = 0
  variables_count (AProcedure x b more) = variable_count b + variables_count more

mutual
  expression_fits : {n : ℕ} (s : List Token) (e : Expression) (rest : List Token) → ReadsExpression n s e rest
      → expression_length e + length rest ≤ length s
  expression_fits s e rest (unsigned {t = t} {first = first} term more) =
      let a = term_fits s first t term in let b = more_terms_fits t first e rest more in omega (arith, a, b)
  expression_fits _ e rest (positive {s = s} {t = t} {first = first} term more) =
      let a = term_fits s first t term in let b = more_terms_fits t first e rest more in omega (arith, a, b)
  expression_fits _ e rest (negative {s = s} {t = t} {first = first} term more) =
      let a = term_fits s first t term in let b = more_terms_fits t (Negate first) e rest more in omega (arith, a, b)

  more_terms_fits : {n : ℕ} (t : List Token) (first e : Expression) (rest : List Token)
      → ReadsMoreTerms n t first e rest → expression_length e + length rest ≤ expression_length first + length t
  more_terms_fits t first e rest no_term = omega arith
  more_terms_fits _ first e rest (one_term {o = o} {s = s} {t = t} {right = right} adding term more) =
      let a = term_fits s right t term in let b = more_terms_fits t (Binary o first right) e rest more in omega
      (arith, a, b)

  term_fits : {n : ℕ} (s : List Token) (e : Expression) (rest : List Token) → ReadsTerm n s e rest
      → expression_length e + length rest ≤ length s
  term_fits s e rest (factors {t = t} {first = first} factor more) =
      let a = factor_fits s first t factor in let b = more_factors_fits t first e rest more in omega (arith, a, b)

  more_factors_fits : {n : ℕ} (t : List Token) (first e : Expression) (rest : List Token)
      → ReadsMoreFactors n t first e rest → expression_length e + length rest ≤ expression_length first + length t
  more_factors_fits t first e rest no_factor = omega arith
  more_factors_fits _ first e rest (one_factor {o = o} {s = s} {t = t} {right = right} multiplying factor more) =
      let a = factor_fits s right t factor in let b = more_factors_fits t (Binary o first right) e rest more in omega
      (arith, a, b)

  factor_fits : {n : ℕ} (s : List Token) (e : Expression) (rest : List Token) → ReadsFactor n s e rest
      → expression_length e + length rest ≤ length s
  factor_fits _ e rest (nested {s = s} inner) = let a = expression_fits s e _ inner in omega (arith, a)
  factor_fits _ _ rest _ = omega arith

condition_fits : {n : ℕ} (s : List Token) (c : Condition) (rest : List Token) → ReadsCondition n s c rest
    → condition_length c + length rest ≤ length s
condition_fits _ _ rest (odd {s = s} {e = e} expression) =
    let a = expression_fits s e rest expression in omega (arith, a)
condition_fits s _ rest (comparison {t = t} {left = left} {right = right} first comparing second) =
    let a = expression_fits s left _ first in let b = expression_fits t right rest second in omega (arith, a, b)

mutual
  statement_fits : {n : ℕ} (s : List Token) (x : Statement) (rest : List Token) → ReadsStatement n s x rest
      → statement_length x + length rest ≤ length s
  statement_fits s _ _ empty = omega arith
  statement_fits _ _ rest (assignment {s = s} {e = e} expression) =
      let a = expression_fits s e rest expression in omega (arith, a)
  statement_fits _ _ rest call = omega arith
  statement_fits _ _ rest (write {s = s} {e = e} expression) =
      let a = expression_fits s e rest expression in omega (arith, a)
  statement_fits _ _ rest (sequence {s = s} {x = x} statements) =
      let a = statements_fits s x rest statements in omega (arith, a)
  statement_fits _ _ rest (choice {s = s} {t = t} {c = c} {body = body} condition statement) =
      let a = condition_fits s c _ condition in let b = statement_fits t body rest statement in omega (arith, a, b)
  statement_fits _ _ rest (loop {s = s} {t = t} {c = c} {body = body} condition statement) =
      let a = condition_fits s c _ condition in let b = statement_fits t body rest statement in omega (arith, a, b)

  statements_fits : {n : ℕ} (s : List Token) (x : Statement) (rest : List Token) → ReadsStatements n s x rest
      → statement_length x + length rest ≤ length s
  statements_fits s _ rest (last_statement {x = x} statement) =
      let a = statement_fits s x _ statement in omega (arith, a)
  statements_fits s _ rest (one_statement {t = t} {x = x} {more = more} statement statements) =
      let a = statement_fits s x _ statement in let b = statements_fits t more rest statements in omega (arith, a, b)

variables_fits : (s : List Token) (xs : List Name) (rest : List Token) → ReadsVariables s xs rest
    → length xs + length rest ≤ length s
variables_fits _ _ rest last_variable = omega arith
variables_fits _ _ rest (one_variable {xs = xs} {s = s} more) =
    let a = variables_fits s xs rest more in omega (arith, a)

variable_part_fits : (s : List Token) (xs : List Name) (rest : List Token) → ReadsVariablePart s xs rest
    → length xs + length rest ≤ length s
variable_part_fits s _ _ no_variables = omega arith
variable_part_fits _ xs rest (variables {s = s} more) = let a = variables_fits s xs rest more in omega (arith, a)

mutual
  block_fits : {n : ℕ} (s : List Token) (x : Block) (rest : List Token) → ReadsBlock n s x rest
      → block_length x + variable_count x + length rest ≤ length s + 3
  block_fits s _ _ (block {t = t} {u = u} {v = v} {rest = rest} {ending = ending} {constants = cs} {variables = xs}
      {procedures = ps} {body = body} constant_part variable_part procedures statement) =
      let a = constant_part_shorter s cs t constant_part in
      let b = variable_part_fits t xs u variable_part in
      let c = procedures_fits u ps v procedures in
      let d = statement_fits v body (ending ∷ rest) statement in
      omega (arith, a, b, c, d)

  procedures_fits : {n : ℕ} (s : List Token) (ps : Procedures) (rest : List Token) → ReadsProcedures n s ps rest
      → procedures_length ps + variables_count ps + length rest ≤ length s
  procedures_fits s _ _ no_procedure = omega arith
  procedures_fits _ _ rest (one_procedure {b = inner} {more = others} {s = s} {t = t} read more) =
      let a = block_fits s inner _ read in let b = procedures_fits t others rest more in omega (arith, a, b)

pub code_few : {n : ℕ} (tokens : List Token) (main : Block) → ReadsProgram n tokens main
    → block_length main + variable_count main ≤ length tokens + 1
code_few tokens main (program read) = let a = block_fits tokens main _ read in omega (arith, a)
