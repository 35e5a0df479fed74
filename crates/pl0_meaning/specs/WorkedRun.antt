-- A worked example: the run of a text with nested procedures, computed from the definitions of `Values` and `Runs`.
-- Each line that ends in `refl` was checked by computing both of its sides; `reads_as_main` derives by the grammar that
-- the bytes of the text read as the tree.
use Rattle.std.specs.Prelude.{◌≡◌, ℕ, zero, suc, ◌+◌, ◌++◌, List, [], ◌∷◌, length, Option, Some, None, ℤ, pos, refl, map, codes}
use Rattle.pl0_tree.specs.declared.tree.Place.{Place}
use Rattle.pl0_tree.specs.declared.tree.Operator.{Operator}
use Rattle.pl0_tree.specs.declared.tree.Operator.TheVariants.{Add, Subtract}
use Rattle.pl0_tree.specs.declared.tree.Relation.TheVariants.{Greater}
use Rattle.pl0_tree.specs.declared.token.Mark.{Mark}
use Rattle.pl0_tree.specs.Tree.{Name, Expression, Variable, Number, Binary, Compare, Empty, Then, Assign, Call, Write, If, Block, ABlock, NoMore, AProcedure}
use Rattle.pl0_tree.specs.Steps.{StepAt}
use Rattle.pl0_tree.specs.Tokens.{Token, Named, Numeral, Marked, tokens_of}
use Rattle.pl0_tree.specs.Faults.{level_limit}
use Rattle.pl0_tree.specs.Reading.{token_at, name_at, IsAdding, plus, minus, greater, ReadsTerm, ReadsExpression, unsigned, no_term, one_term, factors, no_factor, name, number, comparison, assignment, call, write, sequence, choice, last_statement, one_statement, no_constants, variables, no_variables, last_variable, block, no_procedure, one_procedure, ReadsProgram, program}
use Rattle.pl0_meaning.specs.Values.{Configuration, next_step}
use Rattle.pl0_meaning.specs.Runs.{at, written}

abbrev pub line_and_column : Option StepAt → ℕ × ℕ
line_and_column None = (0, 0)
line_and_column (Some s) = (s.place.line, s.place.column)

-- the text; below, places are line and column in it
abbrev text : List ℕ
text =
    codes "var n;\n"
    ++ codes "procedure p;\n"
    ++ codes "var k;\n"
    ++ codes "procedure q;\n"
    ++ codes "k := k + n;\n"
    ++ codes "begin\n"
    ++ codes "k := n;\n"
    ++ codes "n := n - 1;\n"
    ++ codes "if n > 0 then call p;\n"
    ++ codes "call q;\n"
    ++ codes "! k\n"
    ++ codes "end;\n"
    ++ codes "begin n := 2; call p end."

-- a row of the table of a run: the depth, and where the next step stands
abbrev row : Block → Option Configuration → List (ℕ × (ℕ × ℕ))
row main None = []
row main (Some []) = []
row main (Some (f ∷ below)) = (suc (length below), line_and_column (next_step main f)) ∷ []

abbrev pub table : Block → ℕ → ℕ → List (ℕ × (ℕ × ℕ))
table main n zero = []
table main n (suc count) = row main (at main n) ++ table main (n + 1) count

-- the frames' links, the newest frame's first
abbrev pub links : Option Configuration → List ℕ
links None = []
links (Some c) = map (λ f. f.link) c

abbrev pub numbers : Option Configuration → List (List ℤ)
numbers None = []
numbers (Some c) = map (λ f. f.numbers) c

abbrev pub place : ℕ → ℕ → Place
place l c = record { line = l; column = c }

abbrev pub called : List ℕ → ℕ → ℕ → Name
called word l c = record { word = word; place = place l c }

abbrev k : ℕ → ℕ → Name
k l c = called (codes "k") l c

abbrev n : ℕ → ℕ → Name
n l c = called (codes "n") l c

abbrev p : ℕ → ℕ → Name
p l c = called (codes "p") l c

abbrev q : ℕ → ℕ → Name
q l c = called (codes "q") l c

abbrev inner : Block
inner = ABlock [] [] NoMore (Assign (k 5 1) (Binary Add (Variable (k 5 6)) (Variable (n 5 10)))) (place 5 11)

abbrev outer : Block
outer = ABlock [] (k 3 5 ∷ []) (AProcedure (q 4 11) inner NoMore)
    (Then (Assign (k 7 1) (Variable (n 7 6)))
    (Then (Assign (n 8 1) (Binary Subtract (Variable (n 8 6)) (Number (pos 1))))
    (Then (If (place 9 1) (Compare Greater (Variable (n 9 4)) (Number (pos 0))) (Call (place 9 15) (p 9 20)))
    (Then (Call (place 10 1) (q 10 6))
    (Then (Write (place 11 1) (Variable (k 11 3))) Empty)))))
    (place 12 4)

-- the text as a tree; its two procedures are `outer` and `inner` above
abbrev pub main : Block
main = ABlock [] (n 1 5 ∷ []) (AProcedure (p 2 11) outer NoMore)
    (Then (Assign (n 13 7) (Number (pos 2))) (Then (Call (place 13 15) (p 13 20)) Empty)) (place 13 25)

-- a name or a number by itself is an expression
pub a_name : {n : ℕ} {word : List ℕ} {p : Place} {rest : List Token} →
    ReadsExpression n (token_at (Named word) p ∷ rest) (Variable (name_at word p)) rest
a_name = unsigned (factors name no_factor) no_term

pub a_number : {n : ℕ} {v : ℤ} {p : Place} {rest : List Token} →
    ReadsExpression n (token_at (Numeral v) p ∷ rest) (Number v) rest
a_number = unsigned (factors number no_factor) no_term

-- a name, a sign and a term
pub two_terms : {n : ℕ} {word : List ℕ} {p q : Place} {m : Mark} {o : Operator} {s rest : List Token}
    {right : Expression} → IsAdding m o → ReadsTerm n s right rest →
    ReadsExpression n (token_at (Named word) p ∷ token_at (Marked m) q ∷ s)
    (Binary o (Variable (name_at word p)) right) rest
two_terms sign term = unsigned (factors name no_factor) (one_term sign term no_term)

-- the bytes of the text read as the tree
reads_as_main : ReadsProgram level_limit (tokens_of text) main
reads_as_main =
    program (block no_constants (variables last_variable)
    (one_procedure
    (block no_constants (variables last_variable)
    (one_procedure
    (block no_constants no_variables no_procedure
    (assignment (two_terms plus (factors name no_factor))))
    no_procedure)
    (sequence
    (one_statement (assignment a_name)
    (one_statement (assignment (two_terms minus (factors number no_factor)))
    (one_statement (choice (comparison a_name greater a_number) call)
    (one_statement call
    (last_statement (write a_name))))))))
    no_procedure)
    (sequence (one_statement (assignment a_number) (last_statement call))))

-- The run has 20 steps. Each row has the number of frames alive before a step, and its line and column.
first_half : table main 0 10 ≡
    (1, (13, 7)) ∷ (1, (13, 15)) ∷ (2, (7, 1)) ∷ (2, (8, 1)) ∷ (2, (9, 1)) ∷ (2, (9, 15)) ∷ (3, (7, 1)) ∷ (3, (8, 1))
    ∷ (3, (9, 1)) ∷ (3, (10, 1)) ∷ []
first_half = refl

second_half : table main 10 10 ≡
    (4, (5, 1)) ∷ (4, (5, 11)) ∷ (3, (11, 1)) ∷ (3, (12, 4)) ∷ (2, (10, 1)) ∷ (3, (5, 1)) ∷ (3, (5, 11)) ∷ (2, (11, 1))
    ∷ (2, (12, 4)) ∷ (1, (13, 25)) ∷ []
second_half = refl

ends_at_twenty : at main 20 ≡ Some []
ends_at_twenty = refl

-- a variable is 0 until it is assigned: n of the main block, and k once p is called
numbers_at_start : numbers (at main 0) ≡ (pos 0 ∷ []) ∷ []
numbers_at_start = refl

numbers_at_call : numbers (at main 2) ≡ (pos 0 ∷ []) ∷ (pos 2 ∷ []) ∷ []
numbers_at_call = refl

-- At position 10 four frames are alive: of q, p, p and the main block. The frame of q is linked to that of the p which
-- called it, and both frames of p to the main block's, though one p was called by the other.
links_at_ten : links (at main 10) ≡ 2 ∷ 0 ∷ 0 ∷ 0 ∷ []
links_at_ten = refl

-- the variables of these frames: none, k, k and n
numbers_at_ten : numbers (at main 10) ≡ [] ∷ (pos 1 ∷ []) ∷ (pos 2 ∷ []) ∷ (pos 0 ∷ []) ∷ []
numbers_at_ten = refl

-- it writes two numbers
all_written : written main 0 20 ≡ pos 1 ∷ pos 2 ∷ []
all_written = refl
