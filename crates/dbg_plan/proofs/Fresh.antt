-- A debuggee with a new plan.
use Rattle.pl0_machine.specs.Machine.{program}
use Rattle.std.proofs.Common.{◌≡◌, ℕ, false, [], None, option_map, length, replicate, slice_index, refl, arith, subst, sym, zero, suc, ap}
use Rattle.std.specs.Arc.{arc_value}
use Rattle.dbg_plan.specs.declared.debuggee.Debuggee.TheInside.{Inside}
use Rattle.dbg_plan.specs.Plans.{IsNumbered, listed_of}
use Rattle.dbg_plan.specs.Counting.{AreCounts, MayBePlanOf}
use Rattle.dbg_plan.specs.Counts.{IsCounting, StandsBy, plan_of, next_at, next_of}
use Rattle.dbg_plan.specs.Kept.{AreOf}
use Rattle.dbg_plan.proofs.Here.{begin}

pub zeros : (n k : ℕ) → slice_index (replicate n 0) k ≡ 0
zeros zero k = refl
zeros (suc n) zero = refl
zeros (suc n) (suc k) = zeros n k

pub fresh : (d : Inside) → IsCounting d → (new : Inside) → new.machine ≡ d.machine → new.considered ≡ d.considered
    → new.counted_from ≡ next_of d → new.counts ≡ replicate 256 0 → IsNumbered (listed_of (plan_of new))
    → MayBePlanOf d.machine.unit (plan_of new) → new.trail ≡ d.trail → IsCounting new
fresh d was new machine considered first counts numbered fits trail =
    let next : next_of new ≡ next_of d = cc in
    record {
      numbered = numbered;
      fits = rw machine fits;
      room = ap length counts;
      counts = rw (first, next) (begin
          (program new.machine) _ (next_of d) _ numbered (λ k. cc (zeros 256 k)));
      begun = omega arith;
      stands =
          rw (considered, machine) was.stands;
      trail = rw (machine, trail) was.trail;
    }

-- a debuggee over a machine, with no plan
pub begun : (new : Inside) → new.plan ≡ None → new.considered ≡ false → new.counted_from ≡ new.machine.position
    → length new.counts ≡ 256 → new.trail.checkpoints ≡ [] → IsCounting new
begun new plan considered first room trail =
    let next : next_of new ≡ new.machine.position = ap (λ b. next_at new.machine.position b) considered in
    let none : plan_of new ≡ None = ap (λ o. option_map arc_value o) plan in
    record {
      numbered = subst (λ o. IsNumbered (listed_of o)) (sym none) (record { few = omega arith; numbers = tt });
      fits = subst (λ o. MayBePlanOf new.machine.unit o) (sym none) tt;
      room = room;
      counts = subst (λ o. AreCounts (program new.machine) (listed_of o) new.counted_from (next_of new) new.counts)
          (sym none) tt;
      begun = omega (arith, first, next);
      stands = subst (λ b. StandsBy new.machine b) (sym considered) tt;
      trail = subst (λ l. AreOf new.machine.unit l) (sym trail) tt;
    }
