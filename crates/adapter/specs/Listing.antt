-- Defines the text of a listing: a line for each step of a program, an empty line, and a line for each instruction.
use Rattle.std.specs.Prelude.{ℕ, ◌+◌, List, [], ◌∷◌, ◌++◌, codes, decimal, Option, Some, None, slice_get}
use Rattle.pl0_tree.specs.declared.tree.Place.{Place}
use Rattle.pl0_tree.specs.declared.step.StepKind.{StepKind}
use Rattle.pl0_tree.specs.declared.step.StepKind.TheVariants as kind
use Rattle.pl0_tree.specs.Steps.{StepAt}
use Rattle.pl0_unit.specs.declared.instruction.Instruction.{Instruction}
use Rattle.pl0_unit.specs.Mnemonics.{instruction_text}

abbrev pub line_feed : List ℕ
line_feed = 10 ∷ []

-- the lines of items, which are numbered from n on
abbrev pub lines_from : {A : Type 0} (line : ℕ → A → List ℕ) (n : ℕ) → List A → List ℕ
lines_from line n [] = []
lines_from line n (x ∷ xs) = line n x ++ lines_from line (n + 1) xs

-- the name of a kind of step
abbrev pub kind_name : StepKind → List ℕ
kind_name kind.Assign = codes "assign"
kind_name kind.Call = codes "call"
kind_name kind.Write = codes "write"
kind_name kind.If = codes "if"
kind_name kind.While = codes "while"
kind_name kind.Return = codes "return"

-- a step: its number, line, column and kind
abbrev pub step_line : ℕ → StepKind → Place → List ℕ
step_line n kind place =
    decimal n ++ (codes " " ++ (decimal place.line ++ (codes " "
    ++ (decimal place.column ++ (codes " " ++ (kind_name kind ++ line_feed))))))

-- the step that an instruction begins, by what stands beside it, if anything does
abbrev pub begun_by : Option (Option ℕ) → Option ℕ
begun_by (Some begun) = begun
begun_by None = None

-- the mark of the step that an instruction begins
abbrev pub begun_text : Option ℕ → List ℕ
begun_text (Some n) = codes " @" ++ decimal n
begun_text None = []

-- an instruction: its number, name, level and address, and the step that it begins
abbrev pub instruction_line : ℕ → Instruction → Option ℕ → List ℕ
instruction_line n instruction begun =
    decimal n ++ (codes " " ++ (instruction_text instruction ++ (begun_text begun ++ line_feed)))

-- the listing of these steps and instructions, where beside each instruction stands the step that it begins
abbrev pub listing_text : List StepAt → List Instruction → List (Option ℕ) → List ℕ
listing_text steps code begun =
    lines_from (λ n s. step_line n s.kind s.place) 0 steps
    ++ (line_feed ++ lines_from (λ n i. instruction_line n i (begun_by (slice_get begun n))) 0 code)
