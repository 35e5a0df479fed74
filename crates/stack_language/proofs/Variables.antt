-- Variables that are listed one after another.
use Rattle.std.proofs.Common.{◌≡◌, ◌+◌, ℕ, List, [], ◌∷◌, ◌++◌, ◌∙◌, sym, ap, arith, append_assoc}
use Rattle.std.specs.Prelude.{map}
use Rattle.std.proofs.lemmas.List.{map-append}
use Rattle.std.proofs.lemmas.List.FromFn.{map-range_with_len_more}
use Rattle.std.specs.List.{range_with_len}
use Rattle.debuggee.specs.Shown.{PlainVariable, plain_variable}
use Rattle.debuggee.specs.declared.language.Variable.{Variable}

pub one_more : (before : List PlainVariable) (all new : List Variable) (one : Variable) (f : ℕ → PlainVariable) (n : ℕ)
    → new ≡ all ++ one ∷ [] → map plain_variable all ≡ before ++ map f (range_with_len 0 n) → plain_variable one ≡ f n
    → map plain_variable new ≡ before ++ map f (range_with_len 0 (n + 1))
one_more before all new one f n grown are is =
    ap (map plain_variable) grown ∙ map-append plain_variable all (one ∷ [])
    ∙ ap (λ l. l ++ plain_variable one ∷ []) are
    ∙ append_assoc before (map f (range_with_len 0 n)) (plain_variable one ∷ [])
    ∙ ap (λ v. before ++ (map f (range_with_len 0 n) ++ v ∷ [])) is
    ∙ ap (λ l. before ++ l) (sym (map-range_with_len_more f 0 n n (omega arith)))
