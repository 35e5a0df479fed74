-- A debuggee that went back.
use Rattle.std.proofs.Common.{◌≡◌, ℕ, ◌+◌, ◌<◌, ◌≤◌, false, [], ◌∷◌, length, replicate, slice_index, Option, Some, None, IsSome, refl, sym, ap, ◌∙◌, subst, arith, ⊎_elim}
use Rattle.std.proofs.lemmas.Bool.{cases_eq}
use Rattle.pl0_tree.specs.Tree.{Block}
use Rattle.pl0_meaning.specs.Values.{Configuration}
use Rattle.pl0_meaning.specs.Runs.{at}
use Rattle.pl0_meaning.specs.Laws.{RunsHaveNoGaps, NothingFollowsTheEnd}
use Rattle.pl0_machine.specs.Machine.{Standing, program, frames_of}
use Rattle.dbg_plan.specs.declared.debuggee.Debuggee.TheInside.{Inside}
use Rattle.dbg_plan.specs.Counts.{IsCounting, StandsBy, next_at, next_of}
use Rattle.dbg_plan.specs.Debugged.{IsRunning}
use Rattle.dbg_plan.proofs.Fresh.{zeros}
use Rattle.dbg_plan.proofs.Here.{begin}

-- ---- where a program runs, it ran before

module _ (no_gaps : RunsHaveNoGaps) (last : NothingFollowsTheEnd) (main : Block) where
  ran_before : (m n : ℕ) → m ≤ n → 0 < length (frames_of (at main n)) → 0 < length (frames_of (at main m))
  ran_before m n le running =
      ⊎_elim
      (λ same. subst (λ k. 0 < length (frames_of (at main k))) (sym same) running)
      (λ other. by_frames (at main m) refl (no_gaps main (m + 1) n (omega arith) (there n running)))
      (cases_eq m n)
    where
      there : (n : ℕ) → 0 < length (frames_of (at main n)) → IsSome (at main n)
      there n lt = by_at (at main n) lt
        where
          by_at : (o : Option Configuration) → 0 < length (frames_of o) → IsSome o
          by_at None lt = absurd (omega arith)
          by_at (Some c) lt = refl

      none_there : (o : Option Configuration) → o ≡ None → IsSome o → ⊥
      none_there None e h = cc
      none_there (Some c) e h = cc

      by_frames : (o : Option Configuration) → at main m ≡ o → IsSome (at main (m + 1)) → 0 < length (frames_of o)
      by_frames None e next =
          let here = no_gaps main m (m + 1) (omega arith) next in absurd (none_there (at main m) e here)
      by_frames (Some []) e next = absurd (none_there (at main (m + 1)) (last main m e) next)
      by_frames (Some (f ∷ below)) e next = omega arith

pub runs_there : RunsHaveNoGaps → NothingFollowsTheEnd → (old new : Standing) → new.unit ≡ old.unit
    → new.position ≤ old.position → IsRunning old → IsRunning new
runs_there no_gaps last old new unit le running =
    rw unit (ran_before no_gaps last (program old) new.position old.position le running)

-- ---- the counts begin anew

pub gone_back : (d : Inside) → IsCounting d → (new : Inside) (position : ℕ)
    → new.machine ≡ record d.machine { position = position } → new.plan ≡ d.plan → new.trail ≡ d.trail
    → new.considered ≡ false → new.counted_from ≡ position → new.counts ≡ replicate 256 0 → IsCounting new
gone_back d was new position machine plan trail considered first counts =
    let next : next_of new ≡ position =
    ap (λ b. next_at new.machine.position b) considered ∙ ap (λ (m : Standing). m.position) machine in
    record {
      numbered = rw (plan) was.numbered;
      fits = rw (machine, plan) was.fits;
      room = ap length counts;
      counts = rw (first, next) (begin (program new.machine) _ position _ (rw (plan) was.numbered)
          (λ k. ap (λ cs. slice_index cs k) counts ∙ zeros 256 k));
      begun = omega arith;
      stands = subst (λ b. StandsBy new.machine b) (sym considered) tt;
      trail = rw (machine, trail) was.trail;
    }
