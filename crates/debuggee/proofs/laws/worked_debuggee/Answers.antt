use Rattle.std.proofs.Common.{arith, ◌<◌}
use Rattle.std.specs.Prelude.{refl, [], ◌∷◌, codes, None, Some}
use Rattle.debuggee.specs.declared.breakpoint.Rule.TheVariants.{Exactly}
use Rattle.debuggee.specs.Plain.{Printed, Logged}
use Rattle.debuggee.specs.Runs.{Silently, Printing, Stays, Then}
use Rattle.debuggee.specs.WorkedRuns.{at_place, saying}
use Rattle.debuggee.proofs.laws.worked_debuggee.Goals as goal

pub returns-clause-run : goal.returns-clause-run
returns-clause-run c =
    let old = at_place 1 None (Some (Exactly 2)) 0 ∷ saying (at_place 0 None None 0) ∷ [] in
    let mid = at_place 1 None (Some (Exactly 2)) 1 ∷ saying (at_place 0 None None 0) ∷ [] in
    let late = at_place 1 None (Some (Exactly 2)) 1 ∷ saying (at_place 0 None None 1) ∷ [] in
    let zero = Printed (codes "0") ∷ [] in
    let log = Logged (codes "n is 2?") ∷ [] in (
      2,
      omega arith,
      2,
      late,
      Printed (codes "0") ∷ Logged (codes "n is 2?") ∷ [],
      Printed (codes "2") ∷ [],
      Then 1 1 2 mid late zero log
          (Then 0 0 1 old mid [] zero Stays (zero, Printing (codes "0") (refl, refl), refl, refl, refl))
          ([], Silently (refl, refl), refl, refl, refl),
      (Printed (codes "2") ∷ [], Printing (codes "2") (refl, refl), refl, refl, refl),
      refl,
    )

pub returns-clause-ends : goal.returns-clause-ends
returns-clause-ends c = (
  (
    1,
    omega arith,
    5,
    [],
    Printed (codes "4") ∷ [],
    [],
    Then 0 4 5 [] [] [] (Printed (codes "4") ∷ []) Stays
        (Printed (codes "4") ∷ [], Printing (codes "4") (refl, refl), refl, refl, refl),
    ((refl, refl), refl, refl),
    refl,
  ),
  (0, omega arith, 6, [], [], [], Stays, ((refl, refl), refl, refl), refl),
  (
    1,
    omega arith,
    1,
    [],
    Printed (codes "0") ∷ [],
    [],
    Then 0 0 1 [] [] [] (Printed (codes "0") ∷ []) Stays
        (Printed (codes "0") ∷ [], Printing (codes "0") (refl, refl), refl, refl, refl),
    ([], Silently (refl, refl), refl, refl, refl),
    refl,
  ),
  λ none. let few : none.0 < 0 = none.1 in absurd (omega arith),
)
