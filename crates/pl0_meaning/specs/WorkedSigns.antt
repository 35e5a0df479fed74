-- Worked examples of what the texts of `WorkedRun` and `WorkedRules` don't have: each sign between expressions, how
-- operators group, and statements that are empty.
use Rattle.std.specs.Prelude.{ℕ, pos, codes, []}
use Rattle.pl0_tree.specs.Tree.{Expression, Number, Negate, Binary, Odd, Compare, Empty, Then, ABlock, NoMore}
use Rattle.pl0_tree.specs.declared.tree.Operator.TheVariants.{Add, Subtract, Multiply, Divide}
use Rattle.pl0_tree.specs.declared.tree.Relation.TheVariants.{Equal, Unequal, Less, AtMost, Greater, AtLeast}
use Rattle.pl0_tree.specs.Tokens.{tokens_of}
use Rattle.pl0_tree.specs.Faults.{level_limit}
use Rattle.pl0_tree.specs.Reading.{plus, minus, times, slash, equal, unequal, less, at_most, greater, at_least, unsigned, positive, negative, no_term, one_term, factors, no_factor, one_factor, number, nested, odd, comparison, empty, sequence, last_statement, one_statement, no_constants, no_variables, no_procedure, block, program, ReadsExpressionText, ReadsConditionText, ReadsProgram}
use Rattle.pl0_meaning.specs.WorkedRun.{a_number, place}

abbrev n : ℕ → Expression
n v = Number (pos v)

-- operators of one rank group to the left: 10 - 4 - 3 + 2 is 5, and 24 / 4 / 2 * 3 is 9
terms_group : ReadsExpressionText level_limit (tokens_of (codes "10 - 4 - 3 + 2"))
    (Binary Add (Binary Subtract (Binary Subtract (n 10) (n 4)) (n 3)) (n 2))
terms_group = (
  _,
  unsigned (factors number no_factor)
      (one_term minus (factors number no_factor)
      (one_term minus (factors number no_factor)
      (one_term plus (factors number no_factor) no_term))),
)

factors_group : ReadsExpressionText level_limit (tokens_of (codes "24 / 4 / 2 * 3"))
    (Binary Multiply (Binary Divide (Binary Divide (n 24) (n 4)) (n 2)) (n 3))
factors_group = (
  _,
  unsigned (factors number (one_factor slash number (one_factor slash number (one_factor times number no_factor))))
      no_term,
)

-- `*` and `/` come before `+` and `-`, unless there are parentheses
factors_first : ReadsExpressionText level_limit (tokens_of (codes "1 + 2 * 3"))
    (Binary Add (n 1) (Binary Multiply (n 2) (n 3)))
factors_first = (
  _,
  unsigned (factors number no_factor) (one_term plus (factors number (one_factor times number no_factor)) no_term),
)

parentheses_first : ReadsExpressionText level_limit (tokens_of (codes "(1 + 2) * 3"))
    (Binary Multiply (Binary Add (n 1) (n 2)) (n 3))
parentheses_first = (
  _,
  unsigned
      (factors (nested (unsigned (factors number no_factor) (one_term plus (factors number no_factor) no_term)))
      (one_factor times number no_factor))
      no_term,
)

-- a sign in front negates the first term alone, or nothing
first_term : ReadsExpressionText level_limit (tokens_of (codes "- 2 * 3 + 4"))
    (Binary Add (Negate (Binary Multiply (n 2) (n 3))) (n 4))
first_term = (
  _,
  negative (factors number (one_factor times number no_factor)) (one_term plus (factors number no_factor) no_term),
)

no_sign : ReadsExpressionText level_limit (tokens_of (codes "+ 2 - 3")) (Binary Subtract (n 2) (n 3))
no_sign = (_, positive (factors number no_factor) (one_term minus (factors number no_factor) no_term))

-- ---- the signs of conditions

is_equal : ReadsConditionText level_limit (tokens_of (codes "1 = 2")) (Compare Equal (n 1) (n 2))
is_equal = (_, comparison a_number equal a_number)

is_unequal : ReadsConditionText level_limit (tokens_of (codes "1 # 2")) (Compare Unequal (n 1) (n 2))
is_unequal = (_, comparison a_number unequal a_number)

is_less : ReadsConditionText level_limit (tokens_of (codes "1 < 2")) (Compare Less (n 1) (n 2))
is_less = (_, comparison a_number less a_number)

is_at_most : ReadsConditionText level_limit (tokens_of (codes "1 <= 2")) (Compare AtMost (n 1) (n 2))
is_at_most = (_, comparison a_number at_most a_number)

is_greater : ReadsConditionText level_limit (tokens_of (codes "1 > 2")) (Compare Greater (n 1) (n 2))
is_greater = (_, comparison a_number greater a_number)

is_at_least : ReadsConditionText level_limit (tokens_of (codes "1 >= 2")) (Compare AtLeast (n 1) (n 2))
is_at_least = (_, comparison a_number at_least a_number)

is_odd : ReadsConditionText level_limit (tokens_of (codes "odd 1 + 2")) (Odd (Binary Add (n 1) (n 2)))
is_odd = (_, odd (unsigned (factors number no_factor) (one_term plus (factors number no_factor) no_term)))

-- ---- statements that are empty

nothing : ReadsProgram level_limit (tokens_of (codes ".")) (ABlock [] [] NoMore Empty (place 1 1))
nothing = program (block no_constants no_variables no_procedure empty)

nothing_twice : ReadsProgram level_limit (tokens_of (codes "begin ; end."))
    (ABlock [] [] NoMore (Then Empty (Then Empty Empty)) (place 1 12))
nothing_twice =
    program (block no_constants no_variables no_procedure (sequence (one_statement empty (last_statement empty))))
