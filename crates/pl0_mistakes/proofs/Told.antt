-- A hint that is written keeps to its form, and so does what is said of a token or of the end.
use Rattle.std.proofs.Common.{◌≡◌, ◌==◌, ◌++◌, true, false, List, ℕ, length, codes, Option, Some, None, inl, inr, ap, sym, subst, refl, if◌then◌else◌}
use Rattle.pl0_tree.specs.declared.fault.FaultKind.{FaultKind}
use Rattle.pl0_mistakes.specs.declared.hint.Hint.{Hint}
use Rattle.pl0_mistakes.specs.Sentences.{IsHint, IsMistakeSentence, quoted, unexpected}
use Rattle.pl0_mistakes.specs.Written.{hinted}

pub told : (hint : Option Hint) → IsHint (hinted hint)
told None = inl refl
told (Some hint) = inr (hint.front.now ++ (hint.word.now ++ hint.back.now), hint.in_line, refl)

pub of_end : (token hint : List ℕ) → true ≡ (length token == 0)
    → codes "the text ends before the program does" ++ hint ≡ unexpected token hint
of_end token hint is =
    ap (λ v. if v then codes "the text ends before the program does" ++ hint
    else quoted token (codes " can't stand here" ++ hint)) is

pub of_token : (token hint : List ℕ) → false ≡ (length token == 0)
    → quoted token (codes " can't stand here" ++ hint) ≡ unexpected token hint
of_token token hint is =
    ap (λ v. if v then codes "the text ends before the program does" ++ hint
    else quoted token (codes " can't stand here" ++ hint)) is

pub of_kind : (token before s : List ℕ) (kind known : FaultKind) → kind ≡ known
    → IsMistakeSentence token before known s → IsMistakeSentence token before kind s
of_kind token before s kind known is told = subst (λ k. IsMistakeSentence token before k s) (sym is) told

pub at_place : (found there last before s : List ℕ) (kind : FaultKind) → found ≡ there → last ≡ before
    → IsMistakeSentence found last kind s → IsMistakeSentence there before kind s
at_place found there last before s kind same same_before told =
    subst (λ b. IsMistakeSentence there b kind s) same_before
    (subst (λ t. IsMistakeSentence t last kind s) same told)
