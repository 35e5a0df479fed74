-- A sentence for each mistake of a text, and for each fault of a run.
use Rattle.std.specs.Prelude.{ℕ, ◌≡◌, ◌⊎◌, ◌==◌, ◌||◌, not, Bool, true, if◌then◌else◌, List, [], ◌∷◌, ◌++◌, length, codes}
use Rattle.std.specs.List.{list_any, list_all}
use Rattle.std.specs.Str.{bytes_eq}
use Rattle.pl0_tree.specs.declared.fault.FaultKind.{FaultKind}
use Rattle.pl0_tree.specs.declared.fault.FaultKind.TheVariants.{TooLong, NotAscii, BadCharacter, NumberTooLarge, NameTooLong, Expected, TooDeep, TooManyNames, Twice, Unknown, TooEarly, WrongKind}
use Rattle.pl0_meaning.specs.declared.RunFault.{RunFault}
use Rattle.pl0_meaning.specs.declared.RunFault.TheVariants.{Overflow, DivideByZero, Depth, StepLimit}

-- what is said of a token, which stands in front, between quotes
abbrev pub quoted : List ℕ → List ℕ → List ℕ
quoted token said = codes "`" ++ (token ++ (codes "`" ++ said))

-- a token is one of these
abbrev pub one_of : List ℕ → List (List ℕ) → Bool
one_of token tokens = list_any (λ t. bytes_eq token t) tokens

-- bytes stand in one line
abbrev pub in_line : List ℕ → Bool
in_line bytes = list_all (λ b. not (b == 10)) bytes

-- A hint is nothing, or stands behind `; ` in the same line. Which hint is told, and when, is tested.
abbrev pub IsHint : List ℕ → Type 0
IsHint hint = (hint ≡ []) ⊎ ((said : List ℕ) × (in_line said ≡ true) × (hint ≡ codes "; " ++ said))

-- behind this token, or none, a statement begins
abbrev pub opens_statement : List ℕ → Bool
opens_statement token =
    (length token == 0) || one_of token (codes ";" ∷ codes "begin" ∷ codes "then" ∷ codes "do" ∷ [])

-- What may be said behind a name that can't be used as it is, by the token before it: it is called, assigned or read.
-- Whether it is a constant is tested.
abbrev pub misuses : List ℕ → List (List ℕ)
misuses before =
    if bytes_eq before (codes "call")
    then codes "` is a constant and can't be called" ∷ codes "` is a variable and can't be called" ∷ []
    else (if opens_statement before
    then codes "` is a constant and can't be assigned" ∷ codes "` is a procedure and can't be assigned" ∷ []
    else codes "` is a procedure, which has no value" ∷ [])

-- what is said of a token that can't stand where it does; of the end of the text, where there is none
abbrev pub unexpected : List ℕ → List ℕ → List ℕ
unexpected token hint =
    if length token == 0 then codes "the text ends before the program does" ++ hint
    else quoted token (codes " can't stand here" ++ hint)

-- a sentence tells a mistake at a token, with this one before it
abbrev pub IsMistakeSentence : List ℕ → List ℕ → FaultKind → List ℕ → Type 0
IsMistakeSentence token before TooLong s = s ≡ codes "the text has more than 65,536 bytes"
IsMistakeSentence token before NotAscii s =
    (hint : List ℕ) × IsHint hint × (s ≡ codes "only ASCII characters can stand in a program" ++ hint)
IsMistakeSentence token before BadCharacter s =
    (hint : List ℕ) × IsHint hint × (s ≡ codes "no word, number or sign begins with this character" ++ hint)
IsMistakeSentence token before NumberTooLarge s = s ≡ codes "the number is larger than 9223372036854775807"
IsMistakeSentence token before NameTooLong s = s ≡ codes "the name has more than 64 characters"
IsMistakeSentence token before Expected s = (hint : List ℕ) × IsHint hint × (s ≡ unexpected token hint)
IsMistakeSentence token before TooDeep s = s ≡ codes "nested more than 64 deep here"
IsMistakeSentence token before TooManyNames s = s ≡ codes "the block declares more than 1,024 names"
IsMistakeSentence token before Twice s = s ≡ quoted token (codes " is declared twice in this block")
IsMistakeSentence token before Unknown s =
    (hint : List ℕ) × IsHint hint × (s ≡ quoted token (codes " is not declared" ++ hint))
IsMistakeSentence token before TooEarly s = s ≡ quoted token (codes " is used before its declaration")
IsMistakeSentence token before WrongKind s =
    (misuse : List ℕ) × (one_of misuse (misuses before) ≡ true) × (s ≡ codes "`" ++ (token ++ misuse))

-- a fault of a run
abbrev pub fault_sentence : RunFault → List ℕ
fault_sentence Overflow = codes "a result does not fit into 64 bits"
fault_sentence DivideByZero = codes "division by zero"
fault_sentence Depth = codes "more than 1,024 frames would be alive"
fault_sentence StepLimit = codes "no step can be taken any more"
