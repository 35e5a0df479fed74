-- What holds since a step: how a history with one more step splits at one of its steps.
use Rattle.dap_history.proofs.Common.{All, All-append, All-cons, All-nil, History, Some, Step, [], ap, inl, inr, refl, sym, ◌++◌, ◌∙◌, ◌∷◌, ◌≡◌, ◌⊎◌}
use Rattle.std.proofs.Common.{append_assoc, arith}
use Rattle.std.proofs.lemmas.List.Elements.{All-pop}
use Rattle.dap_history.proofs.Each.{none_first}
use Rattle.std.proofs.lemmas.Grind.{common_steps}

abbrev head_or : Step → History → Step
head_or first [] = first
head_or first (x ∷ xs) = x

abbrev tail_of : History → History
tail_of [] = []
tail_of (x ∷ xs) = xs

-- a history with one more step splits at that step, or before it
abbrev pub SplitsAt : History → Step → History → Step → History → Type 0
SplitsAt past s front step more =
    ((past ≡ front) × (s ≡ step) × (more ≡ []))
    ⊎ ((rest : History) × (past ≡ front ++ step ∷ rest) × (more ≡ rest ++ s ∷ []))

pub splits_last : (past : History) (s : Step) (front : History) (step : Step) (more : History)
    → past ++ s ∷ [] ≡ front ++ step ∷ more → SplitsAt past s front step more
splits_last [] s [] step more is = inl (refl, ap (λ xs. head_or s xs) is, sym (ap tail_of is))
splits_last [] s (x ∷ front) step more is = absurd (none_first front step more (ap tail_of is))
splits_last (p ∷ past) s [] step more is = inr (past, cc, sym (ap tail_of is))
splits_last (p ∷ past) s (x ∷ front) step more is =
    grind (arith, common_steps, splits_last past s front step more (ap tail_of is)) steps 200000

-- one more step after those since a step
pub longer : (past early : History) (step : Step) (later : History) (s : Step) → past ≡ early ++ step ∷ later
    → past ++ s ∷ [] ≡ early ++ step ∷ (later ++ s ∷ [])
longer past early step later s is = ap (λ h. h ++ s ∷ []) is ∙ append_assoc early (step ∷ later) (s ∷ [])

module _ (P : Step → Type 0) where
  pub none_since : All P []
  none_since = All-nil P

  pub one_more_since : (later : History) (s : Step) → All P later → P s → All P (later ++ s ∷ [])
  one_more_since later s all is = All-append P later (s ∷ []) all (All-cons P s [] is (All-nil P))

  pub one_less_since : (later : History) (s : Step) → All P (later ++ s ∷ []) → All P later × P s
  one_less_since later s all = All-pop P (later ++ s ∷ []) later (Some s) refl all
