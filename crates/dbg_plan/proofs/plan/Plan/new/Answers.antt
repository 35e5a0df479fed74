use Rattle.std.proofs.Common.{◌≡◌, ◌-◌, ◌<◌, ℕ, length, map, ap, ◌∙◌, sym, subst, arith, rules}
use Rattle.std.specs.List.Sorted.{IsNonDecreasingBy}
use Rattle.std.proofs.lemmas.List.Sorted.{IsNonDecreasingBy-from_sort_by_key, answers_always}
use Rattle.dbg_plan.specs.declared.breakpoint.Breakpoint.{Breakpoint}
use Rattle.dbg_plan.specs.Plans.{IsNumbered, those_of}
use Rattle.dbg_plan.specs.Table.{by_number, AreCounters, IsPart, has_part}
use Rattle.dbg_plan.proofs.ByNumber.{stays_in_order, by_number_is, part_is, listed_is}
use Rattle.dbg_plan.proofs.Watching.{marked_is}
use Rattle.dbg_plan.proofs.plan.Plan.new.Goals as goal

pub starts_of-requires-clause-ordered : goal.starts_of-requires-clause-ordered
starts_of-requires-clause-ordered c =
    subst (λ l. IsNonDecreasingBy (λ (b : Breakpoint). b.step) l) (sym c.deref.ensures.value)
    (IsNonDecreasingBy-from_sort_by_key (λ (b : Breakpoint). b.step) c.sort_by_key.new.self.items
    c.in_ok-sort_by_key.ensures.sorted (λ a r q k. search rules))

pub invariant_of-result : goal.invariant_of-result
invariant_of-result c =
    let bs = c.args.breakpoints.items in
    let ordered = c.sort_by_key.new.self.items in
    let long = c.in_ok-starts.ensures.long in
    let is : by_number ordered 0 (length ordered) ≡ bs =
    by_number_is bs ordered c.requires.numbered.numbers c.in_ok-sort_by_key.ensures.permutation in
    let stable =
    c.in_ok-sort_by_key.ensures.stable (λ (b : Breakpoint). b.step)
    (answers_always _ _ _ (λ f a r q k. search rules)) in
    record {
      numbered = subst (λ l. IsNumbered l) (sym is) c.requires.numbered;
      parts = λ s lt. let below : s < c.args.steps = omega arith in
          part_is bs ordered c.deref.result.now c.in_ok-starts.starts.items s c.deref.ensures.value is
          (stays_in_order bs ordered stable s) (c.in_ok-starts.ensures.parts s below);
      sorted = IsNonDecreasingBy-from_sort_by_key (λ (b : Breakpoint). b.step) ordered
          c.in_ok-sort_by_key.ensures.sorted (λ a r q k. search rules);
      whole = λ s. stays_in_order bs ordered stable s ∙ ap (λ l. those_of s l) (sym is);
      counters = let steps_are : c.args.steps ≡ length c.in_ok-starts.starts.items - 1 = omega (arith, long) in
          subst (λ n. AreCounters ordered n c.in_ok-counters.counters.items) steps_are
          (subst (λ l. AreCounters l c.args.steps c.in_ok-counters.counters.items) c.deref-3.ensures.value
          c.in_ok-counters.ensures);
    }

pub marked_of-requires : goal.marked_of-requires
marked_of-requires c = omega (arith, ap length c.deref-2.ensures.value, c.in_ok-starts.ensures.long)

pub returns : goal.returns
returns c =
    let bs = c.args.breakpoints.items in
    let ordered = c.sort_by_key.new.self.items in
    let starts = c.in_ok-starts.starts.items in
    let long = c.in_ok-starts.ensures.long in
    let parts : (s : ℕ) → s < c.args.steps → IsPart ordered starts s (those_of s ordered) =
    λ s lt. subst (λ l. IsPart l starts s (those_of s l)) c.deref.ensures.value (c.in_ok-starts.ensures.parts s lt) in
    listed_is _ _ _ _ _ _ (omega (arith, long))
    (by_number_is bs ordered c.requires.numbered.numbers c.in_ok-sort_by_key.ensures.permutation)
    (c.in_ok-marked.ensures ∙ ap (λ l. map (has_part l) c.args.begun_steps.now) c.deref-2.ensures.value
    ∙ marked_is ordered bs starts c.args.steps long c.in_ok-sort_by_key.ensures.permutation c.requires.within parts
    c.args.begun_steps.now)
