-- The grammar by symbols alone is the one by which tokens are read: symbols are such a text exactly where some tokens
-- with them are read as a tree.
use Rattle.pl0_parser.proofs.Common.{[], ABlock, ap, token_at, Binary, Block, Condition, Constant, Expression, List, Mark, Marked, Name, Named, Negate, Numeral, Operator, Procedures, ReadsBlock, ReadsCondition, ReadsConstantPart, ReadsConstants, ReadsExpression, ReadsFactor, ReadsMoreFactors, ReadsMoreTerms, ReadsProcedures, ReadsStatement, ReadsStatements, ReadsTerm, ReadsVariablePart, ReadsVariables, refl, Statement, Symbol, symbols, Token, ℕ, ℤ, ◌∷◌, ◌≡◌, Place, length}
use Rattle.pl0_tree.specs.declared.tree.Operator.TheVariants as operator
use Rattle.pl0_tree.specs.declared.tree.Relation.{Relation}
use Rattle.pl0_tree.specs.declared.token.Mark.TheVariants as mark
use Rattle.pl0_tree.specs.Tree as tree
use Rattle.pl0_tree.specs.Reading as reading
use Rattle.pl0_parser.proofs.Grammar as grammar
use Rattle.pl0_parser.proofs.Grammar.{IsExpression, AreMoreTerms, IsTerm, AreMoreFactors, IsFactor, IsCondition, IsStatement, AreMoreStatements, AreConstants, AreMoreConstants, AreVariables, AreMoreVariables, IsBlock, AreProcedures}

-- ---- from tokens that are read to their symbols

adding : {m : Mark} {o : Operator} → reading.IsAdding m o → grammar.IsAdding m
adding reading.plus = grammar.plus
adding reading.minus = grammar.minus

multiplying : {m : Mark} {o : Operator} → reading.IsMultiplying m o → grammar.IsMultiplying m
multiplying reading.times = grammar.times
multiplying reading.slash = grammar.slash

comparing : {m : Mark} {r : Relation} → reading.IsComparing m r → grammar.IsComparing m
comparing reading.equal = grammar.equal
comparing reading.unequal = grammar.unequal
comparing reading.less = grammar.less
comparing reading.at_most = grammar.at_most
comparing reading.greater = grammar.greater
comparing reading.at_least = grammar.at_least

mutual
  pub expression_symbols : {n : ℕ} {s rest : List Token} {e : Expression} → ReadsExpression n s e rest
      → IsExpression n (symbols s) (symbols rest)
  expression_symbols (reading.unsigned first more) = grammar.unsigned (term_symbols first) (more_terms_symbols more)
  expression_symbols (reading.positive first more) =
      grammar.signed grammar.plus (term_symbols first) (more_terms_symbols more)
  expression_symbols (reading.negative first more) =
      grammar.signed grammar.minus (term_symbols first) (more_terms_symbols more)

  more_terms_symbols : {n : ℕ} {s rest : List Token} {first e : Expression} → ReadsMoreTerms n s first e rest
      → AreMoreTerms n (symbols s) (symbols rest)
  more_terms_symbols reading.no_term = grammar.no_term
  more_terms_symbols (reading.one_term sign next more) =
      grammar.one_term (adding sign) (term_symbols next) (more_terms_symbols more)

  term_symbols : {n : ℕ} {s rest : List Token} {e : Expression} → ReadsTerm n s e rest
      → IsTerm n (symbols s) (symbols rest)
  term_symbols (reading.factors first more) = grammar.factors (factor_symbols first) (more_factors_symbols more)

  more_factors_symbols : {n : ℕ} {s rest : List Token} {first e : Expression} → ReadsMoreFactors n s first e rest
      → AreMoreFactors n (symbols s) (symbols rest)
  more_factors_symbols reading.no_factor = grammar.no_factor
  more_factors_symbols (reading.one_factor sign next more) =
      grammar.one_factor (multiplying sign) (factor_symbols next) (more_factors_symbols more)

  factor_symbols : {n : ℕ} {s rest : List Token} {e : Expression} → ReadsFactor n s e rest
      → IsFactor n (symbols s) (symbols rest)
  factor_symbols reading.name = grammar.name
  factor_symbols reading.number = grammar.number
  factor_symbols (reading.nested inner) = grammar.nested (expression_symbols inner)

pub condition_symbols : {n : ℕ} {s rest : List Token} {c : Condition} → ReadsCondition n s c rest
    → IsCondition n (symbols s) (symbols rest)
condition_symbols (reading.odd value) = grammar.odd (expression_symbols value)
condition_symbols (reading.comparison left sign right) =
    grammar.comparison (expression_symbols left) (comparing sign) (expression_symbols right)

mutual
  statement_symbols : {n : ℕ} {s rest : List Token} {x : Statement} → ReadsStatement n s x rest
      → IsStatement n (symbols s) (symbols rest)
  statement_symbols reading.empty = grammar.empty
  statement_symbols (reading.assignment value) = grammar.assignment (expression_symbols value)
  statement_symbols reading.call = grammar.call
  statement_symbols (reading.write value) = grammar.write (expression_symbols value)
  statement_symbols (reading.sequence inner) =
      let (t, first, more) = statements_symbols inner in grammar.sequence first more
  statement_symbols (reading.choice test body) = grammar.choice (condition_symbols test) (statement_symbols body)
  statement_symbols (reading.loop test body) = grammar.loop (condition_symbols test) (statement_symbols body)

  statements_symbols : {n : ℕ} {s rest : List Token} {x : Statement} → ReadsStatements n s x rest →
      (t : List Symbol) × IsStatement n (symbols s) t × AreMoreStatements n t (Marked mark.End ∷ symbols rest)
  statements_symbols (reading.last_statement first) = (_, statement_symbols first, grammar.no_statement)
  statements_symbols (reading.one_statement first others) =
      let (t, next, more) = statements_symbols others in
      (_, statement_symbols first, grammar.one_statement next more)

more_constants_symbols : {s rest : List Token} {cs : List Constant} → ReadsConstants s cs rest
    → AreMoreConstants (Marked mark.Comma ∷ symbols s) (Marked mark.Semicolon ∷ symbols rest)
more_constants_symbols reading.last_constant = grammar.one_constant grammar.no_constant
more_constants_symbols (reading.one_constant more) = grammar.one_constant (more_constants_symbols more)

constants_symbols : {s rest : List Token} {cs : List Constant} → ReadsConstants s cs rest
    → AreConstants (Marked mark.Const ∷ symbols s) (symbols rest)
constants_symbols reading.last_constant = grammar.constants grammar.no_constant
constants_symbols (reading.one_constant more) = grammar.constants (more_constants_symbols more)

constant_part_symbols : {s rest : List Token} {cs : List Constant} → ReadsConstantPart s cs rest
    → AreConstants (symbols s) (symbols rest)
constant_part_symbols reading.no_constants = grammar.no_constants
constant_part_symbols (reading.constants more) = constants_symbols more

more_variables_symbols : {s rest : List Token} {xs : List Name} → ReadsVariables s xs rest
    → AreMoreVariables (Marked mark.Comma ∷ symbols s) (Marked mark.Semicolon ∷ symbols rest)
more_variables_symbols reading.last_variable = grammar.one_variable grammar.no_variable
more_variables_symbols (reading.one_variable more) = grammar.one_variable (more_variables_symbols more)

variables_symbols : {s rest : List Token} {xs : List Name} → ReadsVariables s xs rest
    → AreVariables (Marked mark.Var ∷ symbols s) (symbols rest)
variables_symbols reading.last_variable = grammar.variables grammar.no_variable
variables_symbols (reading.one_variable more) = grammar.variables (more_variables_symbols more)

variable_part_symbols : {s rest : List Token} {xs : List Name} → ReadsVariablePart s xs rest
    → AreVariables (symbols s) (symbols rest)
variable_part_symbols reading.no_variables = grammar.no_variables
variable_part_symbols (reading.variables more) = variables_symbols more

mutual
  pub block_symbols : {n : ℕ} {s rest : List Token} {b : Block} → ReadsBlock n s b rest
      → IsBlock n (symbols s) (symbols rest)
  block_symbols (reading.block cs xs ps body) =
      grammar.block (constant_part_symbols cs) (variable_part_symbols xs) (procedures_symbols ps)
      (statement_symbols body)

  procedures_symbols : {n : ℕ} {s rest : List Token} {ps : Procedures} → ReadsProcedures n s ps rest
      → AreProcedures n (symbols s) (symbols rest)
  procedures_symbols reading.no_procedure = grammar.no_procedure
  procedures_symbols (reading.one_procedure inner more) =
      grammar.one_procedure (block_symbols inner) (procedures_symbols more)

-- ---- from symbols to tokens that are read: the place of each is given by how many symbols come after it

module _ (at : ℕ → Place) where
  abbrev pub placed : List Symbol → List Token
  placed [] = []
  placed (x ∷ s) = token_at x (at (length s)) ∷ placed s

  pub placed_symbols : (s : List Symbol) → symbols (placed s) ≡ s
  placed_symbols [] = refl
  placed_symbols (x ∷ s) = ap (λ t. x ∷ t) (placed_symbols s)

  mutual
    pub expression_read : {n : ℕ} {s rest : List Symbol} → IsExpression n s rest → (e : Expression)
        × ReadsExpression n (placed s) e (placed rest)
    expression_read (grammar.unsigned first more) =
        let (a, reads) = term_read first in
        let (e, further) = more_terms_read a more in
        (e, reading.unsigned reads further)
    expression_read (grammar.signed grammar.plus first more) =
        let (a, reads) = term_read first in
        let (e, further) = more_terms_read a more in
        (e, reading.positive reads further)
    expression_read (grammar.signed grammar.minus first more) =
        let (a, reads) = term_read first in
        let (e, further) = more_terms_read (Negate a) more in
        (e, reading.negative reads further)

    more_terms_read : {n : ℕ} {s rest : List Symbol} (left : Expression) → AreMoreTerms n s rest → (e : Expression)
        × ReadsMoreTerms n (placed s) left e (placed rest)
    more_terms_read left grammar.no_term = (left, reading.no_term)
    more_terms_read left (grammar.one_term grammar.plus next more) =
        let (a, reads) = term_read next in
        let (e, further) = more_terms_read (Binary operator.Add left a) more in
        (e, reading.one_term reading.plus reads further)
    more_terms_read left (grammar.one_term grammar.minus next more) =
        let (a, reads) = term_read next in
        let (e, further) = more_terms_read (Binary operator.Subtract left a) more in
        (e, reading.one_term reading.minus reads further)

    term_read : {n : ℕ} {s rest : List Symbol} → IsTerm n s rest → (e : Expression)
        × ReadsTerm n (placed s) e (placed rest)
    term_read (grammar.factors first more) =
        let (a, reads) = factor_read first in
        let (e, further) = more_factors_read a more in
        (e, reading.factors reads further)

    more_factors_read : {n : ℕ} {s rest : List Symbol} (left : Expression) → AreMoreFactors n s rest → (e : Expression)
        × ReadsMoreFactors n (placed s) left e (placed rest)
    more_factors_read left grammar.no_factor = (left, reading.no_factor)
    more_factors_read left (grammar.one_factor grammar.times next more) =
        let (a, reads) = factor_read next in
        let (e, further) = more_factors_read (Binary operator.Multiply left a) more in
        (e, reading.one_factor reading.times reads further)
    more_factors_read left (grammar.one_factor grammar.slash next more) =
        let (a, reads) = factor_read next in
        let (e, further) = more_factors_read (Binary operator.Divide left a) more in
        (e, reading.one_factor reading.slash reads further)

    factor_read : {n : ℕ} {s rest : List Symbol} → IsFactor n s rest → (e : Expression)
        × ReadsFactor n (placed s) e (placed rest)
    factor_read grammar.name = (_, reading.name)
    factor_read grammar.number = (_, reading.number)
    factor_read (grammar.nested inner) = let (e, reads) = expression_read inner in (e, reading.nested reads)

  -- the relation that a sign of comparison stands for
  related : {m : Mark} → grammar.IsComparing m → (r : Relation) × reading.IsComparing m r
  related grammar.equal = (_, reading.equal)
  related grammar.unequal = (_, reading.unequal)
  related grammar.less = (_, reading.less)
  related grammar.at_most = (_, reading.at_most)
  related grammar.greater = (_, reading.greater)
  related grammar.at_least = (_, reading.at_least)

  pub condition_read : {n : ℕ} {s rest : List Symbol} → IsCondition n s rest → (c : Condition)
      × ReadsCondition n (placed s) c (placed rest)
  condition_read (grammar.odd value) = let (e, reads) = expression_read value in (tree.Odd e, reading.odd reads)
  condition_read (grammar.comparison left sign right) =
      let (r, compares) = related sign in
      let (a, first) = expression_read left in
      let (b, second) = expression_read right in
      (tree.Compare r a b, reading.comparison first compares second)

  mutual
    statement_read : {n : ℕ} {s rest : List Symbol} → IsStatement n s rest → (x : Statement)
        × ReadsStatement n (placed s) x (placed rest)
    statement_read grammar.empty = (_, reading.empty)
    statement_read (grammar.assignment value) = let (e, reads) = expression_read value in (_, reading.assignment reads)
    statement_read grammar.call = (_, reading.call)
    statement_read (grammar.write value) = let (e, reads) = expression_read value in (_, reading.write reads)
    statement_read (grammar.sequence first more) =
        let (x, reads) = statement_read first in
        let (y, further) = statements_read x more reads in
        (y, reading.sequence further)
    statement_read (grammar.choice test body) =
        let (c, tests) = condition_read test in
        let (x, reads) = statement_read body in
        (_, reading.choice tests reads)
    statement_read (grammar.loop test body) =
        let (c, tests) = condition_read test in
        let (x, reads) = statement_read body in
        (_, reading.loop tests reads)

    -- a statement that was read, and more up to `end`
    statements_read : {n : ℕ} {s : List Token} {t rest : List Symbol} (x : Statement)
        → AreMoreStatements n t (Marked mark.End ∷ rest) → ReadsStatement n s x (placed t) →
        (y : Statement) × ReadsStatements n s y (placed rest)
    statements_read x grammar.no_statement first = (_, reading.last_statement first)
    statements_read x (grammar.one_statement next more) first =
        let (y, reads) = statement_read next in
        let (z, further) = statements_read y more reads in
        (_, reading.one_statement first further)

  more_constants_read : {word : List ℕ} {v : ℤ} {s rest : List Symbol}
      → AreMoreConstants s (Marked mark.Semicolon ∷ rest) →
      (cs : List Constant) × ReadsConstants (placed (Named word ∷ Marked mark.Equal ∷ Numeral v ∷ s)) cs (placed rest)
  more_constants_read grammar.no_constant = (_, reading.last_constant)
  more_constants_read (grammar.one_constant more) =
      let (cs, reads) = more_constants_read more in (_, reading.one_constant reads)

  constants_read : {s rest : List Symbol} → AreConstants s rest → (cs : List Constant)
      × ReadsConstantPart (placed s) cs (placed rest)
  constants_read grammar.no_constants = (_, reading.no_constants)
  constants_read (grammar.constants more) = let (cs, reads) = more_constants_read more in (_, reading.constants reads)

  more_variables_read : {word : List ℕ} {s rest : List Symbol} → AreMoreVariables s (Marked mark.Semicolon ∷ rest) →
      (xs : List Name) × ReadsVariables (placed (Named word ∷ s)) xs (placed rest)
  more_variables_read grammar.no_variable = (_, reading.last_variable)
  more_variables_read (grammar.one_variable more) =
      let (xs, reads) = more_variables_read more in (_, reading.one_variable reads)

  variables_read : {s rest : List Symbol} → AreVariables s rest → (xs : List Name)
      × ReadsVariablePart (placed s) xs (placed rest)
  variables_read grammar.no_variables = (_, reading.no_variables)
  variables_read (grammar.variables more) = let (xs, reads) = more_variables_read more in (_, reading.variables reads)

  mutual
    pub block_read : {n : ℕ} {s rest : List Symbol} {ending : Symbol} → IsBlock n s (ending ∷ rest) → (b : Block)
        × ReadsBlock n (placed s) b (placed (ending ∷ rest))
    block_read {rest = behind} (grammar.block constant_part variable_part procedures body) =
        let (cs, first) = constants_read constant_part in
        let (xs, second) = variables_read variable_part in
        let (ps, third) = procedures_read procedures in
        let (x, last) = statement_read body in
        (ABlock cs xs ps x (at (length behind)), reading.block first second third last)

    procedures_read : {n : ℕ} {s rest : List Symbol} → AreProcedures n s rest → (ps : Procedures)
        × ReadsProcedures n (placed s) ps (placed rest)
    procedures_read grammar.no_procedure = (_, reading.no_procedure)
    procedures_read (grammar.one_procedure inner more) =
        let (b, reads) = block_read inner in
        let (ps, further) = procedures_read more in
        (_, reading.one_procedure reads further)
