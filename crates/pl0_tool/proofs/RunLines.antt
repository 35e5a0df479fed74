-- What a run of a machine writes, up to a step that writes a number, faults or ends the program.
use Rattle.pl0_tool.proofs.Common.{[], ahead, ap, append-nil, append_assoc, arith, Assign, at_next, Block, Bool, Call, cond, Configuration, depth_of, Done, Err, FailsIn, false, Fault, Frame, frames_of, HasRun, Holds, home, If, IsLast, length, lines_between, List, nat_eq, nat_lt, None, number_lines, Ok, Option, option_and_then, option_map_or, option_to_list, outcome_of, Output, program, Ran, refl, Result, signed_decimal, Some, Standing, Statement, Stepped, subst, sym, told, told_numbers, true, truth, value, Went, While, Write, WritesAll, ℕ, ℤ, ◌++◌, ◌+◌, ◌<◌, ◌∙◌, ◌∷◌, ◌≡◌, ◌≤◌}
use Rattle.pl0_machine.specs.Machine.{configuration}
use Rattle.pl0_meaning.proofs.SharedLemmas.{written-next}
use Rattle.pl0_meaning.specs.declared.RunFault.{RunFault}
use Rattle.pl0_meaning.specs.declared.RunFault.TheVariants.{Depth, StepLimit}
use Rattle.pl0_meaning.specs.Runs.{Outcome, Goes, Faults, Stuck, at, led_to, step_at, step, frame_step, statement_step, on_value, entered, callee, assigned, doing, opened, frame_limit, last_position, written, written_by}
use Rattle.pl0_machine.specs.declared.outcome.StepOutcome.{StepOutcome}
use Rattle.pl0_tool.specs.declared.running.RunEnd.TheVariants.{Ended, Faulted, FaultedUnwritten, StoppedAt, WriteFailed}
use Rattle.pl0_tool.specs.declared.running.RunEnd.{RunEnd}
use Rattle.pl0_tool.specs.Running.{HasRunSlice, IsWithin, RanToNumber}
use Rattle.std.proofs.Common.{◌⊎◌, inl, inr}
use Rattle.pl0_meaning.specs.Laws.{WrittenJoins}
use Rattle.pl0_tool.proofs.PendingBytes.{writes_both, writes_and_fails}

-- ---- lines

pub lines-append : (xs ys : List ℤ) → number_lines (xs ++ ys) ≡ number_lines xs ++ number_lines ys
lines-append [] ys = refl
lines-append (x ∷ xs) ys =
    ap (λ l. signed_decimal x ++ (10 ∷ l)) (lines-append xs ys)
    ∙ sym (append_assoc (signed_decimal x) (10 ∷ number_lines xs) (number_lines ys))

-- ---- numbers

-- over steps that write nothing, what was written from any earlier position on stays as it was
abbrev Silent : Standing → ℕ → Type 0
Silent old n =
    (a : ℕ) → a ≤ old.position
    → written (program old) a (old.position + n) ≡ written (program old) a old.position

silent : WrittenJoins → (old mid : Standing) (n : ℕ) → mid ≡ ahead old n
    → written (program old) old.position mid.position ≡ [] → Silent old n
silent joins old mid n led none a le =
    let main = program old in
    let there : mid.position ≡ old.position + n = ap (λ (m : Standing). m.position) led in
    sym (joins main a old.position (old.position + n) le (omega arith))
    ∙ ap (λ l. written main a old.position ++ l) (ap (λ p. written main old.position p) (sym there) ∙ none)
    ∙ append-nil (written main a old.position)

-- ---- a step that leads to no frames writes nothing

abbrev WritesFirst : Outcome → Type 0
WritesFirst (Goes (Some v) []) = ⊥
WritesFirst _ = Unit {0}

on_some : (r : Result ℤ RunFault) (f : Frame) (below : Configuration)
    → WritesFirst (on_value r (λ v. Goes (Some v) (f ∷ below)))
on_some (Err fault) f below = tt
on_some (Ok v) f below = tt

on_none : {A : Type 0} (r : Result A RunFault) (g : A → Configuration)
    → WritesFirst (on_value r (λ v. Goes None (g v)))
on_none (Err fault) g = tt
on_none (Ok v) g = tt

enters : (b : Bool) (c : Configuration) → WritesFirst (cond b (Goes None c) (Faults Depth))
enters true c = tt
enters false c = tt

calls : (o : Option Frame) (c : Configuration) → WritesFirst (option_map_or (entered c) o Stuck)
calls None c = tt
calls (Some f) c = enters (nat_lt (length c) frame_limit) (f ∷ c)

of_statement : (main : Block) (f : Frame) (below : Configuration) (s : Statement) (rest : List Statement)
    → WritesFirst (statement_step main f below s rest)
of_statement main f below (Assign x e) rest =
    on_none (value main (f ∷ below) (length below) e)
    (λ v. assigned (doing f rest ∷ below) (home main f.block x.word) v)
of_statement main f below (Write p e) rest = on_some (value main (f ∷ below) (length below) e) (doing f rest) below
of_statement main f below (If p test s) rest =
    on_none (truth main (f ∷ below) (length below) test)
    (λ holds. doing f (cond holds (opened s ++ rest) rest) ∷ below)
of_statement main f below (While p test s) rest =
    on_none (truth main (f ∷ below) (length below) test)
    (λ holds. doing f (cond holds (opened s ++ (While p test s ∷ rest)) rest) ∷ below)
of_statement main f below (Call p x) rest =
    calls (option_and_then (λ h. callee main (f ∷ below) h.path h.declaration.meaning) (home main f.block x.word))
    (f ∷ below)
of_statement main f below _ rest = tt

of_frame : (main : Block) (f : Frame) (below : Configuration) (todo : List Statement)
    → WritesFirst (frame_step main f below todo)
of_frame main f below [] = tt
of_frame main f below (s ∷ rest) = of_statement main f below s rest

of_step : (main : Block) (c : Configuration) → WritesFirst (step main c)
of_step main [] = tt
of_step main (f ∷ below) = of_frame main f below f.todo

of_position : (main : Block) (b : Bool) (c : Configuration) → WritesFirst (cond b (Faults StepLimit) (step main c))
of_position main true c = tt
of_position main false c = of_step main c

of_outcome : (main : Block) (n : ℕ) (o : Option Configuration) → WritesFirst (option_map_or (step_at main n) o Stuck)
of_outcome main n None = tt
of_outcome main n (Some c) = of_position main (nat_eq n last_position) c

-- ---- what a step tells, and what it wrote

wrote_last : (number : Option ℤ) → WritesFirst (Goes number []) → option_to_list number ≡ []
wrote_last None first = refl
wrote_last (Some v) first = absurd first

step_wrote : (a : ℕ) (last new : Standing) (told : StepOutcome) → a ≤ last.position
    → Stepped (outcome_of last) last told new
    → written (program last) a new.position ≡ written (program last) a last.position ++ told_numbers told
step_wrote a last new told le stepped = by_outcome (outcome_of last) refl stepped
  where
    main : Block
    main = program last

    onward : (number : Option ℤ) (c : Configuration) → outcome_of last ≡ Goes number c
        → new ≡ record last { position = last.position + 1 }
        → written (program last) a new.position ≡ written (program last) a last.position ++ option_to_list number
    onward number c is led =
        ap (λ (m : Standing). written (program last) a m.position) led
        ∙ written-next (program last) a last.position le
        ∙ ap (λ o. written (program last) a last.position ++ written_by o) is

    by_outcome : (o : Outcome) → outcome_of last ≡ o → Stepped o last told new
        → written (program last) a new.position ≡ written (program last) a last.position ++ told_numbers told
    by_outcome (Goes number []) is s =
        let first = subst WritesFirst is (of_outcome (program last) last.position (at (program last) last.position)) in
        onward number [] is s.1
        ∙ ap (λ l. written (program last) a last.position ++ l) (wrote_last number first)
        ∙ ap (λ t. written (program last) a last.position ++ told_numbers t) (sym s.0)
    by_outcome (Goes number (f ∷ below)) is s =
        onward number (f ∷ below) is s.1
        ∙ ap (λ t. written (program last) a last.position ++ told_numbers t) (sym s.0)
    by_outcome (Faults fault) is s =
        ap (λ (m : Standing). written (program last) a m.position) s.1
        ∙ sym (append-nil (written (program last) a last.position))
        ∙ ap (λ t. written (program last) a last.position ++ told_numbers t) (sym s.0)
    by_outcome Stuck is s = absurd s

step_ahead : (last new : Standing) (told : StepOutcome) → Stepped (outcome_of last) last told new
    → (n : ℕ) × (new ≡ ahead last n)
step_ahead last new told stepped = by_outcome (outcome_of last) stepped
  where
    by_outcome : (o : Outcome) → Stepped o last told new → (n : ℕ) × (new ≡ ahead last n)
    by_outcome (Goes number c) s = (1, s.1)
    by_outcome (Faults fault) s =
        let e : last.position ≡ last.position + 0 = omega arith in
        (0, s.1 ∙ ap (λ p. record last { position = p }) e)
    by_outcome Stuck s = absurd s

-- ---- many steps

pub ahead-ahead : (m : Standing) (i j : ℕ) → ahead (ahead m i) j ≡ ahead m (i + j)
ahead-ahead m i j =
    let e : m.position + i + j ≡ m.position + (i + j) = omega arith in ap (λ p. record m { position = p }) e

-- steps that write nothing, and one more
ran_after : (old new : Standing) (told : StepOutcome) (n : ℕ) → Silent old n
    → Stepped (outcome_of (ahead old n)) (ahead old n) told new → Ran old new told
ran_after old new told n silent stepped =
    let more = step_ahead (ahead old n) new told stepped in record {
      wrote = λ a le.
          let further : a ≤ old.position + n = omega arith in
          step_wrote a (ahead old n) new told further stepped
          ∙ ap (λ l. l ++ told_numbers told) (silent a le);
      before = n;
      last = stepped;
      steps = n + more.0;
      led = more.1 ∙ ahead-ahead old n more.0;
    }

-- a run that ended before its limit
pub ran_on : WrittenJoins → (limit : ℕ) (old new : Standing) (told : StepOutcome)
    → RanToNumber limit old (Some told) new → Ran old new told
ran_on joins limit old new told r =
    let passed = r.ran.1 in
    ran_after old new told passed.steps (silent joins old r.ran.0 passed.steps passed.led (sym r.ran.5))
    (subst (λ (m : Standing). Stepped (outcome_of m) m told new) passed.led r.ran.3)

-- ---- the last step

done_is : (last new : Standing) → Stepped (outcome_of last) last Done new → IsLast last × (new ≡ ahead last 1)
done_is last new stepped = by_outcome (outcome_of last) refl stepped
  where
    by_outcome : (o : Outcome) → outcome_of last ≡ o → Stepped o last Done new → IsLast last × (new ≡ ahead last 1)
    by_outcome (Goes number []) is s = ((number, is), s.1)
    by_outcome (Goes number (f ∷ below)) is s = let other : Done ≡ Went number = s.0 in cc
    by_outcome (Faults fault) is s = let other : Done ≡ Fault fault = s.0 in cc
    by_outcome Stuck is s = absurd s

pub fault_is : (last new : Standing) (fault : RunFault) → Stepped (outcome_of last) last (Fault fault) new
    → outcome_of new ≡ Faults fault
fault_is last new fault stepped = by_outcome (outcome_of last) refl stepped
  where
    by_outcome : (o : Outcome) → outcome_of last ≡ o → Stepped o last (Fault fault) new → outcome_of new ≡ Faults fault
    by_outcome (Goes number []) is s = let other : Fault fault ≡ Done = s.0 in cc
    by_outcome (Goes number (f ∷ below)) is s = let other : Fault fault ≡ Went number = s.0 in cc
    by_outcome (Faults other) is s =
        let same : other ≡ fault = let e : Fault fault ≡ Fault other = s.0 in cc in
        ap (λ (m : Standing). outcome_of m) s.1 ∙ is ∙ ap Faults same
    by_outcome Stuck is s = absurd s

-- behind the step with which it is done, the program has ended
pub ended_behind : (last new : Standing) → Stepped (outcome_of last) last Done new
    → (new ≡ ahead last 1) × (configuration new ≡ Some [])
ended_behind last new stepped =
    let is = done_is last new stepped in (
      is.1,
      ap (λ (m : Standing). configuration m) is.1
          ∙ at_next (program last) last.position
          ∙ ap led_to is.0.1,
    )

-- after a step that goes on the program runs
pub runs_on : (last new : Standing) (number : Option ℤ) → Stepped (outcome_of last) last (Went number) new
    → 0 < depth_of new
runs_on last new number stepped = by_outcome (outcome_of last) refl stepped
  where
    by_outcome : (o : Outcome) → outcome_of last ≡ o → Stepped o last (Went number) new → 0 < depth_of new
    by_outcome (Goes number' []) is s = let other : Went number ≡ Done = s.0 in cc
    by_outcome (Goes number' (f ∷ below)) is s =
        let there : at (program last) (last.position + 1) ≡ Some (f ∷ below) =
        at_next (program last) last.position ∙ ap led_to is in
        let some : 0 < length (f ∷ below) = omega arith in
        subst (λ (m : Standing). 0 < depth_of m) (sym s.1) (subst (λ o. 0 < length (frames_of o)) (sym there) some)
    by_outcome (Faults fault) is s = let other : Went number ≡ Fault fault = s.0 in cc
    by_outcome Stuck is s = absurd s

-- ---- a run up to now, and on

abbrev pub Came : Standing → Standing → Type 0
Came start now = (steps : ℕ) × (now ≡ ahead start steps)

pub came_none : (start : Standing) → Came start start
came_none start =
    let e : start.position ≡ start.position + 0 = omega arith in (0, ap (λ p. record start { position = p }) e)

abbrev CameOn : Standing → Standing → StepOutcome → Standing → Type 0
CameOn start new told m = Ran m new told → Came start new

pub came_on : (start now new : Standing) (told : StepOutcome) → Came start now → Ran now new told → Came start new
came_on start now new told came r = subst (CameOn start new told) (sym came.1) at r
  where
    at : CameOn start new told (ahead start came.0)
    at ran = (came.0 + ran.steps, ran.led ∙ ahead-ahead start came.0 ran.steps)

abbrev WroteOn : Standing → Standing → StepOutcome → Standing → Type 0
WroteOn start new told m =
    Ran m new told → lines_between start new ≡ lines_between start m ++ number_lines (told_numbers told)

pub wrote_on : (start now new : Standing) (told : StepOutcome) → Came start now → Ran now new told
    → lines_between start new ≡ lines_between start now ++ number_lines (told_numbers told)
wrote_on start now new told came r = subst (WroteOn start new told) (sym came.1) at r
  where
    at : WroteOn start new told (ahead start came.0)
    at ran =
        let le : start.position ≤ start.position + came.0 = omega arith in
        ap number_lines (ran.wrote start.position le)
        ∙ lines-append (written (program start) start.position (start.position + came.0)) (told_numbers told)

abbrev EndsSo : Standing → Standing → Output → Output → Standing → Type 0
EndsSo start new before after m = Ran m new Done → HasRun Ended start new before after

pub ended_so : (start now new : Standing) (before after : Output) → Came start now → Ran now new Done
    → WritesAll (lines_between start new) before after → HasRun Ended start new before after
ended_so start now new before after came r wrote = subst (EndsSo start new before after) (sym came.1) at r
  where
    at : EndsSo start new before after (ahead start came.0)
    at ran =
        let is = done_is (ahead (ahead start came.0) ran.before) new ran.last in (
          ahead (ahead start came.0) ran.before,
          came.0 + ran.before,
          ahead-ahead start came.0 ran.before,
          is.0,
          is.1,
          wrote,
        )

pub faulted_so : (start now new : Standing) (fault : RunFault) (before after : Output) → Came start now
    → Ran now new (Fault fault) → WritesAll (lines_between start new) before after
    → HasRun (Faulted fault) start new before after
faulted_so start now new fault before after came r wrote =
    let more = came_on start now new (Fault fault) came r in (
      more.0,
      more.1,
      fault_is (ahead now r.before) new fault r.last,
      wrote,
    )

pub faulted_unwritten_so : (start now new : Standing) (fault : RunFault) (before after : Output) → Came start now
    → Ran now new (Fault fault) → FailsIn (lines_between start new) before after
    → HasRun (FaultedUnwritten fault) start new before after
faulted_unwritten_so start now new fault before after came r failed =
    let more = came_on start now new (Fault fault) came r in (
      more.0,
      more.1,
      fault_is (ahead now r.before) new fault r.last,
      failed,
    )

pub failed_so : (start now new : Standing) (told : StepOutcome) (before after : Output) → Came start now
    → Ran now new told → FailsIn (lines_between start new) before after → HasRun WriteFailed start new before after
failed_so start now new told before after came r failed =
    let more = came_on start now new told came r in (more.0, more.1, failed)

-- after a number the program runs
pub running_on : (now new : Standing) (number : Option ℤ) → Ran now new (Went number) → 0 < depth_of new
running_on now new number r = runs_on (ahead now r.before) new number r.last

-- a run that goes on or ends before a limit is no further
pub before_limit : (limit : ℕ) (old new : Standing) (told : StepOutcome) → RanToNumber limit old (Some told) new
    → new.position ≤ limit
before_limit limit old new told r = by_outcome (outcome_of r.ran.0) r.ran.3
  where
    by_outcome : (o : Outcome) → Stepped o r.ran.0 told new → new.position ≤ limit
    by_outcome (Goes number c) s =
        let led = ap (λ (m : Standing). m.position) s.1 in let lt = r.ran.2 in omega (arith, led, lt)
    by_outcome (Faults fault) s =
        let led = ap (λ (m : Standing). m.position) s.1 in let lt = r.ran.2 in omega (arith, led, lt)
    by_outcome Stuck s = absurd s

-- ---- slices

-- a run to its limit leaves all as it was
abbrev StretchesOn : Standing → Standing → ℕ → Standing → Type 0
StretchesOn start new limit m =
    RanToNumber limit m None new → Came start new × (lines_between start new ≡ lines_between start m)

stretched_on : WrittenJoins → (limit : ℕ) (start now new : Standing) → Came start now
    → RanToNumber limit now None new → Came start new × (lines_between start new ≡ lines_between start now)
stretched_on joins limit start now new came r = subst (StretchesOn start new limit) (sym came.1) at r
  where
    at : StretchesOn start new limit (ahead start came.0)
    at r =
        let s = r.ran.0 in
        let here = ahead start came.0 in (
          (came.0 + s.steps, s.led ∙ ahead-ahead start came.0 s.steps),
          ap (λ (m : Standing). lines_between start m) s.led
              ∙ ap number_lines (silent joins here new s.steps s.led (sym r.ran.2) start.position (omega arith)),
        )

-- what is pending stays so over it
pub held_still : WrittenJoins → (limit : ℕ) (start now new : Standing) (before out : Output) (pending : List ℕ)
    → Came start now → RanToNumber limit now None new → Holds before out pending (lines_between start now)
    → Holds before out pending (lines_between start new)
held_still joins limit start now new before out pending came r held =
    subst (Holds before out pending) (sym (stretched_on joins limit start now new came r).1) held

-- a slice of a run is over, and all was written, or the output failed in it
pub slice_over : WrittenJoins → (limit : ℕ) (start now new : Standing) (result : Option RunEnd)
    (before after : Output) → Came start now → RanToNumber limit now None new
    → ((result ≡ None) × WritesAll (lines_between start new) before after)
    ⊎ ((result ≡ Some WriteFailed) × FailsIn (lines_between start new) before after)
    → HasRunSlice limit result start new before after
slice_over joins limit start now new result before after came r (inl (is, wrote)) =
    let came_here = (stretched_on joins limit start now new came r).0 in
    subst (λ r. HasRunSlice limit r start new before after) (sym is)
    ((came_here.0, came_here.1, r.ran.0.running, wrote), r.ran.1)
slice_over joins limit start now new result before after came r (inr (is, failed)) =
    let came_here = (stretched_on joins limit start now new came r).0 in
    let there : new.position ≡ limit = r.ran.1 in
    subst (λ r. HasRunSlice limit r start new before after) (sym is)
    ((came_here.0, came_here.1, failed), (omega (arith, there)))

-- the program ended in a slice
pub slice_ended : (limit : ℕ) (start now new : Standing) (result : Option RunEnd) (before after : Output)
    → Came start now → Ran now new Done → new.position ≤ limit
    → ((result ≡ Some Ended) × WritesAll (lines_between start new) before after)
    ⊎ ((result ≡ Some WriteFailed) × FailsIn (lines_between start new) before after)
    → HasRunSlice limit result start new before after
slice_ended limit start now new result before after came ran within (inl (is, wrote)) =
    subst (λ r. HasRunSlice limit r start new before after) (sym is)
    (ended_so start now new before after came ran wrote, within)
slice_ended limit start now new result before after came ran within (inr (is, failed)) =
    subst (λ r. HasRunSlice limit r start new before after) (sym is)
    (failed_so start now new Done before after came ran failed, within)

-- the next step of a slice faults
pub slice_faulted : (limit : ℕ) (start now new : Standing) (fault : RunFault) (result : Option RunEnd)
    (before after : Output)
    → Came start now → Ran now new (Fault fault) → new.position ≤ limit
    → ((result ≡ Some (Faulted fault)) × WritesAll (lines_between start new) before after)
    ⊎ ((result ≡ Some (FaultedUnwritten fault)) × FailsIn (lines_between start new) before after)
    → HasRunSlice limit result start new before after
slice_faulted limit start now new fault result before after came ran within (inl (is, wrote)) =
    subst (λ r. HasRunSlice limit r start new before after) (sym is)
    (faulted_so start now new fault before after came ran wrote, within)
slice_faulted limit start now new fault result before after came ran within (inr (is, failed)) =
    subst (λ r. HasRunSlice limit r start new before after) (sym is)
    (faulted_unwritten_so start now new fault before after came ran failed, within)

-- the lines of two parts of a run are those of the whole
lines_join : WrittenJoins → (start mid new : Standing) (i j : ℕ) → mid ≡ ahead start i → new ≡ ahead mid j
    → lines_between start mid ++ lines_between mid new ≡ lines_between start new
lines_join joins start mid new i j to_mid to_new =
    subst (λ (m : Standing). lines_between start m ++ lines_between m new ≡ lines_between start new) (sym to_mid)
    (subst (λ (m : Standing). lines_between start (ahead start i) ++ lines_between (ahead start i) m
    ≡ lines_between start m) (sym (to_new ∙ ap (λ (m : Standing). ahead m j) to_mid)) at)
  where
    at : lines_between start (ahead start i) ++ lines_between (ahead start i) (ahead (ahead start i) j)
        ≡ lines_between start (ahead (ahead start i) j)
    at =
        let first : start.position ≤ start.position + i = omega arith in
        let next : start.position + i ≤ start.position + i + j = omega arith in
        sym (lines-append (written (program start) start.position (start.position + i))
        (written (program start) (start.position + i) (start.position + i + j)))
        ∙ ap number_lines
        (joins (program start) start.position (start.position + i) (start.position + i + j) first next)

-- what was written first, and then all
pub written_join : WrittenJoins → (start mid new : Standing) (i j : ℕ) (before between after : Output)
    → mid ≡ ahead start i → new ≡ ahead mid j → WritesAll (lines_between start mid) before between
    → WritesAll (lines_between mid new) between after → WritesAll (lines_between start new) before after
written_join joins start mid new i j before between after to_mid to_new first next =
    subst (λ l. WritesAll l before after) (lines_join joins start mid new i j to_mid to_new)
    (writes_both before between after (lines_between start mid) (lines_between mid new) first next)

-- what was written first, and then a part
failed_join : WrittenJoins → (start mid new : Standing) (i j : ℕ) (before between after : Output)
    → mid ≡ ahead start i → new ≡ ahead mid j → WritesAll (lines_between start mid) before between
    → FailsIn (lines_between mid new) between after → FailsIn (lines_between start new) before after
failed_join joins start mid new i j before between after to_mid to_new first next =
    subst (λ l. FailsIn l before after) (lines_join joins start mid new i j to_mid to_new)
    (writes_and_fails before between after (lines_between start mid) (lines_between mid new) first next)

pub came_both : (start mid new : Standing) (i j : ℕ) → mid ≡ ahead start i → new ≡ ahead mid j
    → new ≡ ahead start (i + j)
came_both start mid new i j to_mid to_new =
    to_new ∙ ap (λ (m : Standing). ahead m j) to_mid ∙ ahead-ahead start i j

-- a run that began before ends as its last part
pub run_join : WrittenJoins → (end : RunEnd) (start mid new : Standing) (i : ℕ) (before between after : Output)
    → mid ≡ ahead start i → WritesAll (lines_between start mid) before between → HasRun end mid new between after
    → HasRun end start new before after
run_join joins Ended start mid new i before between after to_mid first (last, steps, to_last, is, to_new, wrote) = (
  last,
  i + steps,
  came_both start mid last i steps to_mid to_last,
  is,
  to_new,
  written_join joins start mid new i (steps + 1) before between after to_mid
      (to_new ∙ ap (λ (m : Standing). ahead m 1) to_last ∙ ahead-ahead mid steps 1) first wrote,
)
run_join joins (Faulted fault) start mid new i before between after to_mid first (steps, to_new, is, wrote) = (
  i + steps,
  came_both start mid new i steps to_mid to_new,
  is,
  written_join joins start mid new i steps before between after to_mid to_new first wrote,
)
run_join joins (FaultedUnwritten fault) start mid new i before between after to_mid first (n, to_new, is, failed) = (
  i + n,
  came_both start mid new i n to_mid to_new,
  is,
  failed_join joins start mid new i n before between after to_mid to_new first failed,
)
run_join joins StoppedAt start mid new i before between after to_mid first (steps, to_new, running, wrote) = (
  i + steps,
  came_both start mid new i steps to_mid to_new,
  running,
  written_join joins start mid new i steps before between after to_mid to_new first wrote,
)
run_join joins WriteFailed start mid new i before between after to_mid first (steps, to_new, failed) = (
  i + steps,
  came_both start mid new i steps to_mid to_new,
  failed_join joins start mid new i steps before between after to_mid to_new first failed,
)

-- a run ends with a slice
pub slice_joined : WrittenJoins → (end : RunEnd) (start mid new : Standing) (i until limit : ℕ)
    (before between after : Output)
    → mid ≡ ahead start i → WritesAll (lines_between start mid) before between → until ≤ limit
    → HasRunSlice until (Some end) mid new between after → HasRun end start new before after × IsWithin limit end new
slice_joined joins StoppedAt start mid new i until limit before between after to_mid first short ran = absurd ran
slice_joined joins Ended start mid new i until limit before between after to_mid first short (ran, within) =
    (run_join joins Ended start mid new i before between after to_mid first ran, (omega (arith, within, short)))
slice_joined joins (Faulted f) start mid new i until limit before between after to_mid first short (ran, within) =
    (run_join joins (Faulted f) start mid new i before between after to_mid first ran, (omega (arith, within, short)))
slice_joined joins (FaultedUnwritten f) start mid new i until limit before between after to_mid first short
    (ran, within) = (
      run_join joins (FaultedUnwritten f) start mid new i before between after to_mid first ran,
      (omega (arith, within, short)),
    )
slice_joined joins WriteFailed start mid new i until limit before between after to_mid first short (ran, within) =
    (run_join joins WriteFailed start mid new i before between after to_mid first ran, (omega (arith, within, short)))

-- what is pending stays so over steps that tell no number
pub held_on : (start now new : Standing) (told : StepOutcome) (before out : Output) (pending : List ℕ)
    → told_numbers told ≡ [] → Came start now → Ran now new told → Holds before out pending (lines_between start now)
    → Holds before out pending (lines_between start new)
held_on start now new told before out pending none came r held =
    subst (Holds before out pending)
    (sym (wrote_on start now new told came r
    ∙ ap (λ l. lines_between start now ++ number_lines l) none
    ∙ append-nil (lines_between start now))) held
