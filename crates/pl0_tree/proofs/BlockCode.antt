-- A code of blocks as statements, by which a proof tells blocks apart.
use Rattle.std.proofs.Common.{◌≡◌, List, [], ◌∷◌, refl, ap}
use Rattle.std.specs.Prelude.{pos, ℤ}
use Rattle.std.specs.Coded.{Coded, code_by}
use Rattle.pl0_tree.specs.declared.tree.Place.{Place}
use Rattle.pl0_tree.specs.Tree.{Name, Expression, Variable, Number, Condition, Odd, Statement, Empty, Then, Assign, Call, If, Constant, Block, ABlock, Procedures, NoMore, AProcedure}
use Rattle.pl0_tree.specs.TreeCode.{statement_code}

abbrev nowhere : Place
nowhere = record { line = 0; column = 0 }

abbrev nobody : Name
nobody = record { word = []; place = nowhere }

-- ---- constants and names as statements

abbrev constants_as : List Constant → Statement
constants_as [] = Empty
constants_as (c ∷ cs) = Then (Assign c.name (Number c.value)) (constants_as cs)

abbrev value_of : Expression → ℤ
value_of (Number v) = v
value_of _ = pos 0

abbrev constant_of : Statement → Constant
constant_of (Assign x e) = record { name = x; value = value_of e }
constant_of _ = record { name = nobody; value = pos 0 }

abbrev constants_of : Statement → List Constant
constants_of (Then s t) = constant_of s ∷ constants_of t
constants_of _ = []

constants_back : (cs : List Constant) → constants_of (constants_as cs) ≡ cs
constants_back [] = refl
constants_back (c ∷ cs) = ap (λ l. c ∷ l) (constants_back cs)

abbrev names_as : List Name → Statement
names_as [] = Empty
names_as (x ∷ xs) = Then (Call nowhere x) (names_as xs)

abbrev name_of : Statement → Name
name_of (Call p x) = x
name_of _ = nobody

abbrev names_of : Statement → List Name
names_of (Then s t) = name_of s ∷ names_of t
names_of _ = []

names_back : (xs : List Name) → names_of (names_as xs) ≡ xs
names_back [] = refl
names_back (x ∷ xs) = ap (λ l. x ∷ l) (names_back xs)

-- ---- a block and procedures as a statement

abbrev head_as : List Constant → List Name → Statement → Place → Statement
head_as cs xs s p = Then (constants_as cs) (Then (names_as xs) (Then s (Call p nobody)))

abbrev place_of : Statement → Place
place_of (Call p x) = p
place_of _ = nowhere

abbrev first_of : Statement → Statement
first_of (Then s t) = s
first_of _ = Empty

abbrev second_of : Statement → Statement
second_of (Then s t) = t
second_of _ = Empty

abbrev block_from : Procedures → Statement → Block
block_from ps s =
    ABlock (constants_of (first_of s)) (names_of (first_of (second_of s))) ps (first_of (second_of (second_of s)))
    (place_of (second_of (second_of (second_of s))))

head_back : (ps : Procedures) (cs : List Constant) (xs : List Name) (s : Statement) (p : Place)
    → block_from ps (head_as cs xs s p) ≡ ABlock cs xs ps s p
head_back ps cs xs s p = cc (constants_back cs, names_back xs)

abbrev mutual
  block_as : Block → Statement
  block_as (ABlock cs xs ps s p) = Then (procedures_as ps) (head_as cs xs s p)

  procedures_as : Procedures → Statement
  procedures_as NoMore = Empty
  procedures_as (AProcedure x b more) = Then (If nowhere (Odd (Variable x)) (block_as b)) (procedures_as more)

-- what a statement says: a block, procedures, or the name of one
record Said : Type 0 where
  block : Block
  procedures : Procedures
  name : Name

abbrev condition_name : Condition → Name
condition_name (Odd (Variable x)) = x
condition_name _ = nobody

abbrev nothing_said : Said
nothing_said = record { block = ABlock [] [] NoMore Empty nowhere; procedures = NoMore; name = nobody }

abbrev said : Statement → Said
said (Then s t) =
    record {
      block = block_from (said s).procedures t;
      procedures = AProcedure (said s).name (said s).block
          (said t).procedures;
      name = nobody;
    }
said (If p c s) = record { block = (said s).block; procedures = NoMore; name = condition_name c }
said _ = nothing_said

mutual
  block_back : (b : Block) → (said (block_as b)).block ≡ b
  block_back (ABlock cs xs ps s p) = cc (procedures_back ps, head_back ps cs xs s p)

  procedures_back : (ps : Procedures) → (said (procedures_as ps)).procedures ≡ ps
  procedures_back NoMore = refl
  procedures_back (AProcedure x b more) = cc (block_back b, procedures_back more)

abbrev block_of : Statement → Block
block_of s = (said s).block

pub block_code : Coded Block
block_code = code_by Statement statement_code block_as block_of block_back
