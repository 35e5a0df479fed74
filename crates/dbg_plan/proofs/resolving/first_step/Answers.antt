use Rattle.std.proofs.Common.{◌≡◌, ℕ, Bool, true, false, nat_lt, length, ap, sym, ◌∙◌, subst, arith, rules}
use Rattle.std.specs.Bool.{then_some}
use Rattle.std.specs.List.Sorted.{IsNonDecreasingBy, IsPartitionPoint}
use Rattle.std.proofs.lemmas.List.Sorted.{IsPartitionPoint-from_clause, IsPartitionedBy-ltb}
use Rattle.pl0_tree.specs.declared.step.Step.{Step}
use Rattle.dbg_plan.proofs.StepLines.{unit_rises, step_is}
use Rattle.dbg_plan.proofs.resolving.first_step.Goals as goal

abbrev is_before : ℕ → Step → Bool
is_before line s = nat_lt s.place.line line

pub returns : goal.returns
returns c =
    let u = c.args.unit.now in
    let line = c.args.line in
    let first = c.partition_point-first.result in
    let rises : IsNonDecreasingBy (λ (s : Step). s.place.line) c.deref.result.now =
    subst (λ l. IsNonDecreasingBy (λ (s : Step). s.place.line) l) (sym c.deref.ensures.value) (unit_rises u) in
    let point =
    IsPartitionPoint-from_clause (is_before line) c.deref.result.now first
    c.partition_point-first.ensures.partitioned
    (IsPartitionedBy-ltb (λ (s : Step). s.place.line) c.deref.result.now line rises) (λ a r f k. search rules) in
    let is = step_is u line first (let le = c.partition_point-first.ensures.bound in omega
    (arith, ap length c.deref.ensures.value))
    (subst (λ l. IsPartitionPoint (λ (s : Step). is_before line s ≡ true) (λ (s : Step). is_before line s ≡ false) l
    first) c.deref.ensures.value point) in
    c.then_some.ensures ∙ ap (λ k. then_some (nat_lt first k) first)
    (c.len.ensures ∙ sym c.deref.ensures.len ∙ ap length c.deref.ensures.value) ∙ is
