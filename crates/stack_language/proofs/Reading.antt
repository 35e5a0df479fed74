-- Lines that are read one after another.
use Rattle.std.proofs.Common.{◌<◌, ◌+◌, zero, suc, ℕ, List, [], ◌∷◌, ◌++◌, ◌∙◌, sym, ap, subst, take, drop, get_or, length, arith}
use Rattle.std.specs.Prelude.{map, Some, None}
use Rattle.std.proofs.Math.ListN.{get_or-map}
use Rattle.std.proofs.lemmas.List.{drop_more, length-map, length-take-le, take-append-drop}
use denote.Ref.{Bor}
use Rattle.stack_language.specs.declared.program.Instruction.{Instruction}
use Rattle.stack_language.specs.Text.{AreRead, IsFirstMistake, IsLine}

abbrev pub texts : List (Bor (List ℕ)) → List (List ℕ)
texts lines = map (λ line. line.now) lines

-- one line more
pub one_more : (lines : List (Bor (List ℕ))) (i : ℕ) (d : Bor (List ℕ)) (program : List Instruction)
    (instruction : Instruction) → i < length lines → AreRead (take i (texts lines)) program
    → IsLine (get_or lines i d).now (Some instruction)
    → AreRead (take (suc i) (texts lines)) (program ++ instruction ∷ [])
one_more [] i d program instruction within are is = absurd (omega (arith, within))
one_more (x ∷ lines) zero d [] instruction within are is = (is, tt)
one_more (x ∷ lines) zero d (y ∷ program) instruction within are is = absurd are
one_more (x ∷ lines) (suc i) d [] instruction within are is = absurd are
one_more (x ∷ lines) (suc i) d (y ∷ program) instruction within are is =
    (are.0, one_more lines i d program instruction (omega (arith, within)) are.1 is)

-- the first line that is no instruction
pub one_mistake : (lines : List (Bor (List ℕ))) (i : ℕ) (d : Bor (List ℕ)) (program : List Instruction)
    → i < length lines → AreRead (take i (texts lines)) program → IsLine (get_or lines i d).now None
    → IsFirstMistake (texts lines) (i + 1)
one_mistake lines i d program within are is =
    let all = texts lines in
    let inside = subst (λ n. i < n) (sym (length-map lines (λ line. line.now))) within in (
      take i all,
      program,
      get_or all i d.now,
      drop (i + 1) all,
      sym (take-append-drop i all) ∙ ap (λ l. take i all ++ l) (drop_more all i d.now inside),
      are,
      subst (λ l. IsLine l None) (sym (get_or-map (λ line. line.now) lines i d)) is,
      ap (λ n. n + 1) (sym (length-take-le i all (omega (arith, inside)))),
    )
