use Rattle.std.proofs.Common.{◌≡◌, ℕ, zero, suc, ◌<◌, ◌≤◌, true, nat_lt, length, slice_get, slice_index_or, List, [], ◌∷◌, Option, Some, false, sym, ap, ◌∙◌, arith}
use Rattle.std.specs.declared.alloc.Global.{Global}
use Rattle.std.specs.declared.vec.Vec.{Vec}
use Rattle.std.proofs.lemmas.Bool.Decides.{nat_tests}
use Rattle.std.proofs.lemmas.Option.{slice_get_past}
use Rattle.pl0_machine.specs.declared.mark.Counter.{Counter}
use Rattle.pl0_machine.specs.Counting.{counters_of}
use Rattle.pl0_machine.proofs.Counting.{none_arrive}
use Rattle.pl0_machine.proofs.mark.arrive_at_step.Goals as goal
use Rattle.pl0_machine.proofs.mark.arrive_at_step.Goals.{After-deref}
use Rattle.std.proofs.lemmas.Grind.{common_steps}

some_at : (xs : List (Vec Counter Global)) (k : ℕ) (x : Vec Counter Global) → k < length xs
    → x ≡ slice_index_or xs k x → slice_get xs k ≡ Some x
some_at [] k x lt is = absurd (omega (arith, lt))
some_at (y ∷ ys) zero x lt is = ap Some (sym is)
some_at (y ∷ ys) (suc k) x lt is = some_at ys k x (omega (arith, lt)) is

is_below : (k n : ℕ) → true ≡ nat_lt k n → k < n
is_below k n e = grind (arith, nat_tests)

is_past : (k n : ℕ) → false ≡ nat_lt k n → n ≤ k
is_past k n e = grind (arith, nat_tests)

items : (c : After-deref) → counters_of c.args.counters.now c.begun_step-step.result ≡ c.deref.result.now
items c = grind (arith, common_steps, some_at, is_below)

same_step : (m n : ℕ) → ◌≡◌ {A = Option (Option ℕ)} (Some (Some m)) (Some (Some n)) → m ≡ n
same_step m n e = cc

pub arrive_at-requires-clause-fits : goal.arrive_at-requires-clause-fits
arrive_at-requires-clause-fits c =
    let here = goal.at.arrive_at-requires-clause-fits c in
    rw (← (items here.After-deref)) (c.requires.fits c.begun_step-step.result c.begun_step-step.ensures)

pub returns-in-Some : goal.returns-in-Some
returns-in-Some c =
    λ n e.
    let here = goal.at.returns-in-Some c in
    let same = same_step c.begun_step-step.result n (sym c.begun_step-step.ensures ∙ e) in
    rw (← (sym (items here.After-deref) ∙ ap (λ k. counters_of c.args.counters.now k) same)) c.arrive_at.ensures

pub returns-in-None : goal.returns-in-None
returns-in-None c = grind (arith, common_steps, same_step, slice_get_past, is_past, none_arrive)
