use Rattle.std.specs.Prelude.{refl, ◌<◌, length, List, ℕ, [], ◌∷◌, codes, pos, negsuc, None, Some}
use Rattle.std.specs.Char.{is_whitespace}
use Rattle.std.specs.Str.{NoCharPasses}
use Rattle.std.proofs.Common.{rules}
use Rattle.stack_language.specs.declared.program.Instruction.TheVariants.{Nothing, Jump}
use Rattle.stack_language.specs.Text.{HasWord, IsBlank, IsOperand}
use Rattle.stack_language.specs.Text.IsLine.{Blank, Comment, Alone, Operated, TooLong}
use Rattle.stack_language.proofs.laws.worked_texts.Goals as goal

pub returns-clause-alone : goal.returns-clause-alone
returns-clause-alone c = refl

pub returns-clause-operated : goal.returns-clause-operated
returns-clause-operated c = refl

blank : IsBlank []
blank = ([], refl, tt)

only : (word : List ℕ) → 0 < length word → NoCharPasses is_whitespace word → HasWord word word []
only word some within = ([], search rules, some, blank, within, ([], search rules))

three : IsOperand (codes "3") record { number = Some (pos 3); variable = None; line = Some 2 }
three = record { number_is = search rules; variable_is = refl; line_is = search rules }

space : IsBlank (codes " ")
unfolding lib.Utf8.encode
space = (codes " ", refl, (refl, tt))

minus_five : IsOperand (codes "-5") record { number = Some (negsuc 4); variable = None; line = None }
minus_five = record { number_is = search rules; variable_is = refl; line_is = search rules }

pub returns-clause-instructions : goal.returns-clause-instructions
unfolding lib.Utf8.encode
returns-clause-instructions c = (
  (
    Comment _ _ comment refl,
    (
      Operated (codes "push") _ _ _ _ push (search rules) operand space minus_five,
      (Alone (codes "add") _ add (search rules) blank, tt),
    ),
  ),
  TooLong (codes "push") _ _ _ _ _ long (search rules) one two,
)
  where
    four : NoCharPasses is_whitespace (codes "push")
    four = (codes "push", refl, (refl, (refl, (refl, (refl, tt)))))

    comment : HasWord (codes "; a") (codes ";") (codes " a")
    comment =
        ([], refl, search rules, blank, (codes ";", refl, (refl, tt)), (codes "a", λ _. (32, refl, refl, search rules)))

    push : HasWord (codes " push -5 ") (codes "push") (codes " -5 ")
    push = (codes " ", refl, search rules, space, four, (codes "-5 ", λ _. (32, refl, refl, search rules)))

    operand : HasWord (codes " -5 ") (codes "-5") (codes " ")
    operand = (
      codes " ",
      refl,
      search rules,
      space,
      (codes "-5", refl, (refl, (refl, tt))),
      ([], λ _. (32, refl, refl, search rules)),
    )

    add : HasWord (codes "add") (codes "add") []
    add = only _ (search rules) (codes "add", refl, (refl, (refl, (refl, tt))))

    long : HasWord (codes "push 1 2") (codes "push") (codes " 1 2")
    long = ([], refl, search rules, blank, four, (codes "1 2", λ _. (32, refl, refl, search rules)))

    one : HasWord (codes " 1 2") (codes "1") (codes " 2")
    one = (
      codes " ",
      refl,
      search rules,
      space,
      (codes "1", refl, (refl, tt)),
      (codes "2", λ _. (32, refl, refl, search rules)),
    )

    two : HasWord (codes " 2") (codes "2") []
    two = (codes " ", refl, search rules, space, (codes "2", refl, (refl, tt)), ([], search rules))

pub returns-clause-lines : goal.returns-clause-lines
unfolding lib.Utf8.encode
returns-clause-lines c = (
  [] ∷ codes ";a" ∷ codes " jump 3" ∷ [],
  Nothing ∷ Nothing ∷ Jump 2 ∷ [],
  codes "pop",
  codes "dup" ∷ [],
  refl,
  (Blank blank, (Comment _ _ comment refl, (Operated (codes "jump") _ _ _ _ jump (search rules) word blank three, tt))),
  Alone (codes "pop") _ pop (search rules) blank,
  refl,
)
  where
    comment : HasWord (codes ";a") (codes ";a") []
    comment = only _ (search rules) (codes ";a", refl, (refl, (refl, tt)))

    jump : HasWord (codes " jump 3") (codes "jump") (codes " 3")
    jump = (
      codes " ",
      refl,
      search rules,
      space,
      (codes "jump", refl, (refl, (refl, (refl, (refl, tt))))),
      (codes "3", λ _. (32, refl, refl, search rules)),
    )

    word : HasWord (codes " 3") (codes "3") []
    word = (codes " ", refl, search rules, space, (codes "3", refl, (refl, tt)), ([], search rules))

    pop : HasWord (codes "pop") (codes "pop") []
    pop = only _ (search rules) (codes "pop", refl, (refl, (refl, (refl, tt))))
