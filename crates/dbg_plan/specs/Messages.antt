-- The messages of log points: texts with expressions in braces.
use Rattle.std.specs.Prelude.{◌≡◌, ◌≢◌, ℕ, ◌≤◌, All, List, [], ◌∷◌, ◌++◌, length, map, codes, string_bytes}
use Rattle.pl0_tree.specs.Tree.{Block, Expression}
use Rattle.pl0_tree.specs.Tokens.{tokens_of}
use Rattle.pl0_tree.specs.Reading.{ReadsExpressionText}
use Rattle.pl0_tree.specs.Scope.{Path}
use Rattle.pl0_tree.specs.Faults.{level_limit, IsExpressionOf}
use Rattle.pl0_tree.specs.Plain.{plain_expression}
use Rattle.dbg_plan.specs.declared.message.Part.{Part as DeclaredPart}
use Rattle.dbg_plan.specs.declared.message.Part.TheVariants as declared

-- bytes that stand for themselves, or an expression
pub data Part : Type 0 where
  Text : List ℕ → Part
  Value : Expression → Part

-- the parts that the code keeps, as data
abbrev pub plain_part : DeclaredPart → Part
plain_part (declared.Text text) = Text (string_bytes text)
plain_part (declared.Value e) = Value (plain_expression e.expression)

abbrev pub plain_parts : List DeclaredPart → List Part
plain_parts parts = map plain_part parts

-- a text, and the parts that it reads as
pub record Message : Type 0 where
  pub text : List ℕ
  pub parts : List Part

-- the expressions of a message, in order
abbrev pub expressions : List Part → List Expression
expressions [] = []
expressions (Text bytes ∷ parts) = expressions parts
expressions (Value e ∷ parts) = e ∷ expressions parts

-- the most expressions of a message
abbrev pub expression_limit : ℕ
expression_limit = 8

-- the byte doesn't stand in the text
abbrev pub Lacks : ℕ → List ℕ → Type 0
Lacks byte text = All (λ b. b ≢ byte) text

-- an expression's text in braces, and what follows
abbrev pub braced : List ℕ → List ℕ → List ℕ
braced inner rest = codes "{" ++ (inner ++ (codes "}" ++ rest))

-- A text is read from the left, where `Is` says which expression a text is. A text without `{` stands for itself. In
-- any other what is before the first `{` stands for itself. Then comes an expression, up to the next `}`, and what
-- follows is read in the same way.
abbrev pub ReadsParts : (List ℕ → Expression → Type 0) → List ℕ → List Part → Type 0
ReadsParts Is text (Text bytes ∷ []) = (bytes ≡ text) × Lacks 123 text
ReadsParts Is text (Text before ∷ Value e ∷ parts) =
    (inner : List ℕ) × (rest : List ℕ) × (text ≡ before ++ braced inner rest) × Lacks 123 before × Lacks 125 inner
    × Is inner e × ReadsParts Is rest parts
ReadsParts Is text parts = ⊥

-- the text reads as these parts, at most 8 of them expressions, each read in the block q
pub record IsMessageOf (main : Block) (q : Path) (text : List ℕ) (parts : List Part) : Type 0 where
  pub few : length (expressions parts) ≤ expression_limit
  pub reads : ReadsParts (IsExpressionOf main q) text parts

-- ---- whatever names mean

abbrev pub ReadsAsExpression : List ℕ → Expression → Type 0
ReadsAsExpression text e = ReadsExpressionText level_limit (tokens_of text) e

abbrev pub ReadsAsParts : List ℕ → List Part → Type 0
ReadsAsParts = ReadsParts ReadsAsExpression
