-- Where going back leads.
use Rattle.std.proofs.Common.{◌≡◌, ℕ, zero, suc, List, None, arith, ⊎_elim}
use Rattle.std.specs.Prelude.{is_some}
use Rattle.std.proofs.lemmas.Bool.{cases_eq}
use Rattle.pl0_tree.specs.Tree.{Block}
use Rattle.dbg_plan.specs.declared.mode.Mode.TheVariants.{Continue}
use Rattle.dbg_plan.specs.Breakpoints.{Breakpoint}
use Rattle.dbg_plan.specs.Due.{due}
use Rattle.dbg_plan.specs.Retreat.{last_due, NoneIsDue, LeadsBack, LastDueIsLast}
use Rattle.std.proofs.lemmas.Grind.{common_steps}

module _ (main : Block) (breakpoints : List Breakpoint) where
  none_more : (m n : ℕ) → due main breakpoints 0 Continue n ≡ None → NoneIsDue main breakpoints m n
      → NoneIsDue main breakpoints m (suc n)
  none_more m n here below k le lt = ⊎_elim (λ same. rw same here) (λ other. below k le (omega arith)) (cases_eq k n)

  leads_back : (n : ℕ) → LeadsBack main breakpoints n (last_due main breakpoints n)
  leads_back zero = λ k le lt. absurd (omega arith)
  leads_back (suc n) = grind (arith, common_steps, leads_back n, none_more, is_some)

pub last_due_is_last : LastDueIsLast
last_due_is_last main breakpoints n = leads_back main breakpoints n
