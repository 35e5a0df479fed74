-- The line in which a mistake of a text, or a fault of its run, is told: where it is, and a sentence.
use Rattle.std.specs.Prelude.{ℕ, ◌≡◌, Bool, true, false, List, ◌++◌, codes, decimal}
use Rattle.pl0_tree.specs.declared.tree.Place.{Place}
use Rattle.pl0_tree.specs.declared.fault.FaultKind.{FaultKind}
use Rattle.pl0_tree.specs.declared.fault.FaultKind.TheVariants.{Twice, Unknown, TooEarly, WrongKind}
use Rattle.pl0_tree.specs.Faults.{IsNameFault, level_limit}
use Rattle.pl0_tree.specs.Reading.{ReadsProgram}
use Rattle.pl0_tree.specs.Tokens.{tokens_of}
use Rattle.pl0_tree.specs.Tree.{Block}
use Rattle.pl0_meaning.specs.declared.RunFault.{RunFault}
use Rattle.pl0_mistakes.specs.Found.{token_at, token_before}
use Rattle.pl0_mistakes.specs.Sentences.{IsMistakeSentence, fault_sentence}

-- a line: the file's name, the place, what kind of message it is, and the message
abbrev pub message_line : List ℕ → Place → List ℕ → List ℕ → List ℕ
message_line file place kind message =
    file ++ (codes ":" ++ (decimal place.line ++ (codes ":"
    ++ (decimal place.column ++ (kind ++ (message ++ codes "\n"))))))

-- a line tells a mistake in a file with this text
abbrev pub IsMistakeLine : List ℕ → List ℕ → FaultKind → Place → List ℕ → Type 0
IsMistakeLine file text kind place line =
    (sentence : List ℕ) × IsMistakeSentence (token_at place text) (token_before place text) kind sentence
    × (line ≡ message_line file place (codes ": error: ") sentence)

-- a mistake of a name
abbrev pub is_of_names : FaultKind → Bool
is_of_names Twice = true
is_of_names Unknown = true
is_of_names TooEarly = true
is_of_names WrongKind = true
is_of_names _ = false

-- a fault of the names in the program that a text is read as
abbrev pub IsNameFaultIn : List ℕ → FaultKind → Place → Type 0
IsNameFaultIn text kind place =
    (main : Block) × ReadsProgram level_limit (tokens_of text) main × IsNameFault main kind place

-- a mistake that may be told behind the first one, with its place
abbrev pub IsFurther : (FaultKind → Place → Type 0) → FaultKind × Place → Type 0
IsFurther Fault mistake = (is_of_names mistake.0 ≡ true) × Fault mistake.0 mistake.1

-- Lines tell mistakes in a file with this text: the first, and if that is one of a name, further ones of names. Which
-- of these are told, in which order, and each but once, is tested; so is that 20 are told at most.
pub data AreMistakeLines (file text : List ℕ) (kind : FaultKind) (place : Place) : List ℕ → Type 0 where
  first_line : {line : List ℕ} → IsMistakeLine file text kind place line → AreMistakeLines file text kind place line
  further_line : {lines line : List ℕ} (other : FaultKind) (behind : Place) → is_of_names kind ≡ true →
      IsFurther (IsNameFaultIn text) (other, behind) → AreMistakeLines file text kind place lines →
      IsMistakeLine file text other behind line → AreMistakeLines file text kind place (lines ++ line)

-- the line of a fault at a step of a file's program
abbrev pub fault_line : List ℕ → RunFault → Place → List ℕ
fault_line file fault place = message_line file place (codes ": fault: ") (fault_sentence fault)
