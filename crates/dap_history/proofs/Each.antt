-- Each step of a history was caused by its item, after the steps before it.
use Rattle.dap_history.proofs.Common.{Causes, History, Incoming, IsAfter, IsTaking, Item, Step, [], ap, inl, inr, refl, sym, ◌++◌, ◌∙◌, ◌∷◌, ◌≡◌, ◌⊎◌}
use Rattle.dap_history.proofs.Along.{IsTaken, IsKept}
use Rattle.std.proofs.Common.{arith}
use Rattle.std.proofs.lemmas.Grind.{common_steps}

abbrev head_of : (xs : History) (first : Step) → Step
head_of [] first = first
head_of (x ∷ xs) first = x

abbrev tail_of : History → History
tail_of [] = []
tail_of (x ∷ xs) = xs

pub none_first : (front : History) (step : Step) (more : History) → ¬ ([] ≡ front ++ step ∷ more)
none_first [] step more e = absurd cc
none_first (x ∷ xs) step more e = absurd cc

-- a list with one more element splits before that element, or at it
pub splits : (past : History) (s : Step) (front : History) (step : Step) (more : History) → past ++ s ∷ [] ≡ front
    ++ step ∷ more
    → ((past ≡ front) × (s ≡ step) × (more ≡ [])) ⊎ ((rest : History) × (past ≡ front ++ step ∷ rest))
splits [] s [] step more is = inl (refl, ap (λ xs. head_of xs s) is, sym (ap tail_of is))
splits [] s (x ∷ front) step more is = absurd (none_first front step more (ap tail_of is))
splits (p ∷ past) s [] step more is = inr (past, ap (λ x. x ∷ past) (ap (λ xs. head_of xs s) is))
splits (p ∷ past) s (x ∷ front) step more is =
    grind (arith, common_steps, splits past s front step more (ap tail_of is)) steps 200000

-- the step was taken after these
pub record WasTaken (Q : Incoming → Type 0) (P : History → Type 0) (front : History) (step : Step) : Type 0 where
  pub taking : IsTaking front
  pub held : P front
  pub taken : IsTaken Q front step.item
  pub causes : Causes front step.item step

pub record EachTaken (Q : Incoming → Type 0) (P : History → Type 0) (past : History) : Type 0 where
  pub now : P past
  pub each : (front : History) (step : Step) (more : History) → past ≡ front ++ step ∷ more → WasTaken Q P front step

-- What is kept is so of each step of a history too.
pub each_kept : (Q : Incoming → Type 0) (P : History → Type 0) → IsKept Q P → IsKept Q (EachTaken Q P)
each_kept Q P kept = record {
  step = λ past item new taking taken after here. record {
    now = kept.step past item new taking taken after here.now;
    each = λ front step more is. one_of past item new taking taken after here front step more
        (splits past after.step front step more (sym after.new_is ∙ is));
  };
}
  where
    one_of : (past : History) (item : Item) (new : History) → IsTaking past → IsTaken Q past item
        → (after : IsAfter past item new) → EachTaken Q P past → (front : History) (step : Step) (more : History)
        → (((past ≡ front) × (after.step ≡ step) × (more ≡ [])) ⊎ ((rest : History) × (past ≡ front ++ step ∷ rest)))
        → WasTaken Q P front step
    one_of past item new taking taken after here front step more (inr e) = here.each front step e.0 e.1
    one_of past item new taking taken after here front step more (inl e) = grind (arith, common_steps) steps 200000

pub each_first : (Q : Incoming → Type 0) (P : History → Type 0) → P [] → EachTaken Q P []
each_first Q P first = record { now = first; each = λ front step more is. absurd (none_first front step more is) }
