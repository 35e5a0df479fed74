-- Worked rows on limits: of a text, of a block's names, of levels.
use Rattle.std.proofs.Common.{◌≡◌, ◌≢◌, ℕ, ◌<◌, ◌≤◌, List, [], ◌∷◌, ◌++◌, length, Some, refl, arith}
use Rattle.std.specs.Prelude.{codes, replicate, slice_get}
use Rattle.pl0_tree.specs.declared.tree.Place.{Place}
use Rattle.pl0_tree.specs.declared.fault.FaultKind.{FaultKind}
use Rattle.pl0_tree.specs.declared.fault.FaultKind.TheVariants.{TooLong, TooDeep, TooManyNames}
use Rattle.pl0_tree.specs.declared.token.Mark.TheVariants as mark
use Rattle.pl0_tree.specs.Tokens.{Symbol, Named, Marked, Token, start_place, tokens_of}
use Rattle.pl0_tree.specs.Tree.{Expression, Statement, Empty, Constant, Block, ABlock, Procedures, NoMore, AProcedure}
use Rattle.pl0_tree.specs.Reading.{token_at, name_at, Reading, ReadsFactor, ReadsStatement, empty, ReadsConstants, no_constants, no_variables, block, ReadsProcedures, no_procedure, one_procedure, ReadsProgram, program}
use Rattle.pl0_tree.specs.Scope.{Declaration, declarations, DeclaresWell}
use Rattle.pl0_tree.specs.Faults.{Grammar, IsRefused, too_deep, IsNameFault, too_many_names, IsFirstIn, too_long, IsReadAs}

-- a text may have 65,536 bytes, and no more
full_text : {T : Type 0} {Reads : Reading T} {IsRight : T → Type 0} {text : List ℕ} {tree : T}
    → length text ≡ 65536 → Reads 64 (tokens_of text) tree → IsRight tree → IsReadAs Reads IsRight text tree
full_text full reads lawful = record { short = omega arith; reads = reads; lawful = lawful }

longer_text : {T : Type 0} {Reads : Reading T} {IsWrong : T → FaultKind → Place → Type 0} {text : List ℕ}
    → length text ≡ 65537 → IsFirstIn Reads IsWrong text TooLong start_place
longer_text more = too_long (omega arith)

-- a block may declare 1,024 names, and the next one is at fault
full_block : {b : Block} → length (declarations b) ≡ 1024
    → ((i j : ℕ) (d e : Declaration) → i < j → slice_get (declarations b) i ≡ Some d
    → slice_get (declarations b) j ≡ Some e → d.name.word ≢ e.name.word)
    → DeclaresWell b
full_block full once = record { few = omega arith; once = once }

next_name : {main : Block} {d : Declaration} → slice_get (declarations main) 1024 ≡ Some d
    → IsNameFault main TooManyNames d.name.place
next_name {main} {d} at = too_many_names [] main d refl at

-- `procedure`, `begin`, `if`, `while` and `(` open a level
procedures_open : {p : Place} {s rest : List Token} {ps : Procedures}
    → ReadsProcedures 0 (token_at (Marked mark.Procedure) p ∷ s) ps rest → ps ≡ NoMore
procedures_open no_procedure = refl

sequences_open : {p : Place} {s rest : List Token} {x : Statement}
    → ReadsStatement 0 (token_at (Marked mark.Begin) p ∷ s) x rest → x ≡ Empty
sequences_open empty = refl

choices_open : {p : Place} {s rest : List Token} {x : Statement}
    → ReadsStatement 0 (token_at (Marked mark.If) p ∷ s) x rest → x ≡ Empty
choices_open empty = refl

loops_open : {p : Place} {s rest : List Token} {x : Statement}
    → ReadsStatement 0 (token_at (Marked mark.While) p ∷ s) x rest → x ≡ Empty
loops_open empty = refl

parentheses_open : {p : Place} {s rest : List Token} {e : Expression}
    → ReadsFactor 0 (token_at (Marked mark.Open) p ∷ s) e rest → ⊥
parentheses_open = elim [ ]

-- a procedure's level is closed after it
abbrev place : ℕ → ℕ → Place
place l c = record { line = l; column = c }

abbrev nothing : Place → Block
nothing end = ABlock [] [] NoMore Empty end

one_level : ReadsProgram 1 (tokens_of (codes "procedure p; ; procedure q; ; ."))
    (ABlock [] [] (AProcedure (name_at (codes "p") (place 1 11)) (nothing (place 1 14))
    (AProcedure (name_at (codes "q") (place 1 26)) (nothing (place 1 29)) NoMore)) Empty (place 1 31))
one_level =
    program (block no_constants no_variables
    (one_procedure (block no_constants no_variables no_procedure empty)
    (one_procedure (block no_constants no_variables no_procedure empty) no_procedure)) empty)

-- of symbols of which each opens a level, the 65th is too deep
abbrev counted : Grammar
counted n text = length text ≤ n

more_than_64 : (rest : List Symbol) → ¬ counted 64 ((replicate 64 (Marked mark.Open) ++ Marked mark.Open ∷ []) ++ rest)
more_than_64 rest fits = omega arith

told_too_deep : IsRefused counted (replicate 64 (Marked mark.Open)) (Marked mark.Open) TooDeep
told_too_deep = too_deep 65 ([], omega arith) (λ begun. more_than_64 begun.0 begun.1)

-- a constant has no sign
no_sign : {word : List ℕ} {p q r : Place} {s rest : List Token} {cs : List Constant}
    → ReadsConstants (token_at (Named word) p ∷ token_at (Marked mark.Equal) q ∷ token_at (Marked mark.Minus) r ∷ s) cs
    rest
    → ⊥
no_sign = elim [ ]
