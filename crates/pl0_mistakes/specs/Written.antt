-- What is written of a sentence that was chosen.
use Rattle.std.specs.Prelude.{ℕ, List, [], ◌++◌, codes, Option, Some, None}
use Rattle.pl0_mistakes.specs.declared.hint.Hint.{Hint}
use Rattle.pl0_mistakes.specs.declared.sentences.Sentence.{Sentence}

-- what is written of a hint
abbrev pub hinted : Option Hint → List ℕ
hinted None = []
hinted (Some hint) = codes "; " ++ (hint.front.now ++ (hint.word.now ++ hint.back.now))

abbrev pub bytes_of : Sentence → List ℕ
bytes_of s = s.front.now ++ (s.token.now ++ (s.said.now ++ hinted s.hint))
