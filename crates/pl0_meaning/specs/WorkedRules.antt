-- Worked examples of what the text of `WorkedRun` doesn't have: constants, one of them hidden by another, two
-- variables, two procedures side by side, a loop with statements behind it, `begin` in `begin`, and faults.
use Rattle.std.specs.Prelude.{◌≡◌, ℕ, ◌++◌, List, [], ◌∷◌, Some, None, Err, ℤ, pos, negsuc, refl, map, codes}
use Rattle.pl0_tree.specs.Tree.{Name, Expression, Variable, Number, Negate, Binary, Odd, Compare, Statement, Empty, Then, Assign, Call, Write, If, While, Constant, Block, ABlock, NoMore, AProcedure}
use Rattle.pl0_tree.specs.declared.tree.Operator.TheVariants.{Add, Subtract, Divide}
use Rattle.pl0_tree.specs.declared.tree.Relation.TheVariants.{Equal, Less}
use Rattle.pl0_tree.specs.Tokens.{tokens_of}
use Rattle.pl0_tree.specs.Faults.{level_limit}
use Rattle.pl0_tree.specs.Reading.{plus, minus, slash, less, negative, no_term, factors, no_factor, one_factor, name, number, nested, odd, comparison, assignment, call, write, sequence, choice, loop, last_statement, one_statement, last_constant, one_constant, no_constants, constants, last_variable, one_variable, no_variables, variables, block, no_procedure, one_procedure, ReadsProgram, program}
use Rattle.pl0_tree.specs.Steps.{steps}
use Rattle.pl0_meaning.specs.declared.RunFault.TheVariants.{Overflow, DivideByZero, Depth, StepLimit}
use Rattle.pl0_meaning.specs.Values.{Configuration, value, truth}
use Rattle.pl0_meaning.specs.Runs.{Faults, step, step_at, at, outcome, written}
use Rattle.pl0_meaning.specs.WorkedRun.{line_and_column, table, links, numbers, place, called, a_name, two_terms}

-- ---- a run with constants, a loop, and two procedures side by side

abbrev text : List ℕ
text =
    codes "const a = 7, b = 2;\n"
    ++ codes "var x, y;\n"
    ++ codes "procedure p;\n"
    ++ codes "const a = 5;\n"
    ++ codes "x := a;\n"
    ++ codes "procedure q;\n"
    ++ codes "begin call p; y := y + x end;\n"
    ++ codes "begin\n"
    ++ codes "while x < b do begin\n"
    ++ codes "x := x + 1;\n"
    ++ codes "! x\n"
    ++ codes "end;\n"
    ++ codes "begin y := - a / b;\n"
    ++ codes "if odd y then begin\n"
    ++ codes "! y;\n"
    ++ codes "! b - (x - 1)\n"
    ++ codes "end end;\n"
    ++ codes "call q;\n"
    ++ codes "! y\n"
    ++ codes "end."

abbrev a : ℕ → ℕ → Name
a l c = called (codes "a") l c

abbrev b : ℕ → ℕ → Name
b l c = called (codes "b") l c

abbrev x : ℕ → ℕ → Name
x l c = called (codes "x") l c

abbrev y : ℕ → ℕ → Name
y l c = called (codes "y") l c

abbrev p : ℕ → ℕ → Name
p l c = called (codes "p") l c

abbrev q : ℕ → ℕ → Name
q l c = called (codes "q") l c

abbrev constant : Name → ℤ → Constant
constant x v = record { name = x; value = v }

abbrev first : Block
first = ABlock (constant (a 4 7) (pos 5) ∷ []) [] NoMore (Assign (x 5 1) (Variable (a 5 6))) (place 5 7)

abbrev second : Block
second = ABlock [] [] NoMore
    (Then (Call (place 7 7) (p 7 12))
    (Then (Assign (y 7 15) (Binary Add (Variable (y 7 20)) (Variable (x 7 24)))) Empty))
    (place 7 29)

abbrev counting : Statement
counting = While (place 9 1) (Compare Less (Variable (x 9 7)) (Variable (b 9 11)))
    (Then (Assign (x 10 1) (Binary Add (Variable (x 10 6)) (Number (pos 1))))
    (Then (Write (place 11 1) (Variable (x 11 3))) Empty))

abbrev choosing : Statement
choosing = If (place 14 1) (Odd (Variable (y 14 8)))
    (Then (Write (place 15 1) (Variable (y 15 3)))
    (Then (Write (place 16 1)
    (Binary Subtract (Variable (b 16 3)) (Binary Subtract (Variable (x 16 8)) (Number (pos 1))))) Empty))

-- the text as a tree; its procedures are `first` and `second` above
abbrev main : Block
main = ABlock (constant (a 1 7) (pos 7) ∷ constant (b 1 14) (pos 2) ∷ []) (x 2 5 ∷ y 2 8 ∷ [])
    (AProcedure (p 3 11) first (AProcedure (q 6 11) second NoMore))
    (Then counting
    (Then
    (Then (Assign (y 13 7) (Negate (Binary Divide (Variable (a 13 14)) (Variable (b 13 18))))) (Then choosing Empty))
    (Then (Call (place 18 1) (q 18 6))
    (Then (Write (place 19 1) (Variable (y 19 3))) Empty))))
    (place 20 4)

-- the bytes of the text read as the tree
reads_as_main : ReadsProgram level_limit (tokens_of text) main
reads_as_main =
    program (block (constants (one_constant last_constant)) (variables (one_variable last_variable))
    (one_procedure (block (constants last_constant) no_variables no_procedure (assignment a_name))
    (one_procedure
    (block no_constants no_variables no_procedure
    (sequence
    (one_statement call
    (last_statement (assignment (two_terms plus (factors name no_factor)))))))
    no_procedure))
    (sequence
    (one_statement
    (loop (comparison a_name less a_name)
    (sequence
    (one_statement (assignment (two_terms plus (factors number no_factor)))
    (last_statement (write a_name)))))
    (one_statement
    (sequence
    (one_statement (assignment (negative (factors name (one_factor slash name no_factor)) no_term))
    (last_statement
    (choice (odd a_name)
    (sequence
    (one_statement (write a_name)
    (last_statement
    (write (two_terms minus (factors (nested (two_terms minus (factors number no_factor))) no_factor))))))))))
    (one_statement call
    (last_statement (write a_name)))))))

-- the steps of the procedures come first, and that of a loop before those of its statement
steps_of_main : map (λ s. line_and_column (Some s)) (steps main) ≡
    (5, 1) ∷ (5, 7) ∷ (7, 7) ∷ (7, 15) ∷ (7, 29) ∷ (9, 1) ∷ (10, 1) ∷ (11, 1) ∷ (13, 7) ∷ (14, 1) ∷ (15, 1) ∷ (16, 1)
    ∷ (18, 1) ∷ (19, 1) ∷ (20, 4) ∷ []
steps_of_main = refl

-- The run has 19 steps. The loop is tested at positions 0, 3 and 6, and what stands behind it comes last.
first_half : table main 0 10 ≡
    (1, (9, 1)) ∷ (1, (10, 1)) ∷ (1, (11, 1)) ∷ (1, (9, 1)) ∷ (1, (10, 1)) ∷ (1, (11, 1)) ∷ (1, (9, 1)) ∷ (1, (13, 7))
    ∷ (1, (14, 1)) ∷ (1, (15, 1)) ∷ []
first_half = refl

second_half : table main 10 9 ≡
    (1, (16, 1)) ∷ (1, (18, 1)) ∷ (2, (7, 7)) ∷ (3, (5, 1)) ∷ (3, (5, 7)) ∷ (2, (7, 15)) ∷ (2, (7, 29)) ∷ (1, (19, 1))
    ∷ (1, (20, 4)) ∷ []
second_half = refl

ends_at_nineteen : at main 19 ≡ Some []
ends_at_nineteen = refl

-- x and y: - 7 / 2 is -3, and the a of p hides that of the main block
numbers_at_eight : numbers (at main 8) ≡ (pos 2 ∷ negsuc 2 ∷ []) ∷ []
numbers_at_eight = refl

numbers_at_fourteen : numbers (at main 14) ≡ [] ∷ [] ∷ (pos 5 ∷ negsuc 2 ∷ []) ∷ []
numbers_at_fourteen = refl

-- p, which q called, is linked to the main block's frame, as q is
links_at_fourteen : links (at main 14) ≡ 0 ∷ 0 ∷ 0 ∷ []
links_at_fourteen = refl

all_written : written main 0 19 ≡ pos 1 ∷ pos 2 ∷ negsuc 2 ∷ pos 1 ∷ pos 2 ∷ []
all_written = refl

-- ---- faults

-- `var x; begin x := 3; ! x; x := x / (x - 3); ! x end.`
abbrev failing : Block
failing = ABlock [] (x 1 5 ∷ []) NoMore
    (Then (Assign (x 1 14) (Number (pos 3)))
    (Then (Write (place 1 22) (Variable (x 1 24)))
    (Then (Assign (x 1 27)
    (Binary Divide (Variable (x 1 32)) (Binary Subtract (Variable (x 1 37)) (Number (pos 3)))))
    (Then (Write (place 1 45) (Variable (x 1 47))) Empty))))
    (place 1 52)

-- A fault ends a run: its position is the last one, where x is as before, and nothing more is written.
faults_at_two : outcome failing 2 ≡ Faults DivideByZero
faults_at_two = refl

numbers_at_two : numbers (at failing 2) ≡ (pos 3 ∷ []) ∷ []
numbers_at_two = refl

nothing_at_three : at failing 3 ≡ None
nothing_at_three = refl

written_before : written failing 0 4 ≡ pos 3 ∷ []
written_before = refl

-- `procedure p; call p; call p.`
abbrev endless : Block
endless = ABlock [] [] (AProcedure (p 1 11) (ABlock [] [] NoMore (Call (place 1 14) (p 1 19)) (place 1 20)) NoMore)
    (Call (place 1 22) (p 1 27)) (place 1 28)

-- A frame more than 1,024 is a fault.
faults_when_deep : outcome endless 1023 ≡ Faults Depth
faults_when_deep = refl

-- At the last position each step is a fault, and not before.
faults_at_last : (c : Configuration) → step_at failing 9007199254740991 c ≡ Faults StepLimit
faults_at_last c = refl

goes_before_last : (c : Configuration) → step_at failing 9007199254740990 c ≡ step failing c
goes_before_last c = refl

-- two expressions that fault
abbrev by_zero : Expression
by_zero = Binary Divide (Number (pos 1)) (Number (pos 0))

abbrev too_large : Expression
too_large = Binary Add (Number (pos 9223372036854775807)) (Number (pos 1))

-- If both sides fault, the left one's fault counts, and a side's before the operation's own.
left_first : map (truth failing [] 0)
    (Compare Equal by_zero too_large ∷ Compare Equal too_large by_zero ∷ Compare Less (Number (pos 0)) by_zero
    ∷ Odd too_large ∷ [])
    ≡ Err DivideByZero ∷ Err Overflow ∷ Err DivideByZero ∷ Err Overflow ∷ []
left_first = refl

sides_first : map (value failing [] 0)
    (Binary Add by_zero too_large ∷ Binary Add too_large by_zero ∷ Binary Divide too_large (Number (pos 0))
    ∷ Binary Divide (Number (pos 0)) by_zero ∷ Negate too_large ∷ [])
    ≡ Err DivideByZero ∷ Err Overflow ∷ Err Overflow ∷ Err DivideByZero ∷ Err Overflow ∷ []
sides_first = refl
