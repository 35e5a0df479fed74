-- What a trace tells: frames and rows that are added one by one, and positions to which a run doesn't come.
use Rattle.pl0_tool.proofs.Common.{[], add-one, ahead, ap, arith, at_position, depth_of, Done, Fault, Frame, frame_of, IsFrameRow, IsTold, length, List, None, number_of, numbers_in, Option, outcome_of, Output, program, refl, same_Some, slice_get, Some, Standing, Stepped, Stretches, subst, suc, sym, take, take_all, variables_of, Went, zero, ℕ, ℤ, ◌++◌, ◌+◌, ◌-◌, ◌<◌, ◌∙◌, ◌∷◌, ◌≡◌, ◌≤◌}
use Rattle.pl0_meaning.specs.declared.RunFault.{RunFault}
use Rattle.pl0_meaning.specs.Runs.{Outcome, Goes, Faults, Stuck}
use Rattle.pl0_machine.specs.declared.outcome.StepOutcome.{StepOutcome}
use Rattle.pl0_tool.specs.declared.tracing.FrameRow.{FrameRow}
use Rattle.pl0_tool.specs.declared.tracing.TraceEnd.{TraceEnd}
use Rattle.pl0_tool.specs.declared.tracing.TraceEnd.TheVariants.{GoesOn, Ended, EndedBefore, Faulted, WriteFailed}
use Rattle.pl0_tool.proofs.RunLines.{Came, ahead-ahead, ended_behind, fault_is, runs_on}
use Rattle.pl0_tool.proofs.PendingBytes.{holds_all}
use Rattle.pl0_tool.specs.Running.{RanToNumber}
use Rattle.pl0_tool.specs.Traced.{FailsInPart, HasPart, HasTable, HasTraced, IsRowOf, IsTable, PutsRow, StopsBefore}

-- ---- lists that grow

-- what holds of each element of a list and of one more
pub each-push : {A : Type 0} (P : ℕ → A → Type 0) (xs : List A) (v : A)
    → ((i : ℕ) (x : A) → slice_get xs i ≡ Some x → P i x) → P (length xs) v → (i : ℕ) (x : A)
    → slice_get (xs ++ v ∷ []) i ≡ Some x → P i x
each-push P [] v h here zero x e = subst (P zero) (same_Some v x e) here
each-push P [] v h here (suc i) x e = cc
each-push P (y ∷ xs) v h here zero x e = h zero x e
each-push P (y ∷ xs) v h here (suc i) x e = each-push (λ k z. P (suc k) z) xs v (λ k z e. h (suc k) z e) here i x e

-- rows tell frames, from one on
abbrev pub TellFrames : Standing → ℕ → List FrameRow → Type 0
TellFrames m hidden rows =
    (i : ℕ) (row : FrameRow) → slice_get rows i ≡ Some row → IsFrameRow (program m) (frame_of m (hidden + i)) row

-- ---- the numbers of a frame

take_next : (xs : List ℤ) (k : ℕ) (v : ℤ) → slice_get xs k ≡ Some v → take (suc k) xs ≡ take k xs ++ v ∷ []
take_next [] k v at = cc
take_next (x ∷ xs) zero v at = let same : x ≡ v = cc in ap (λ y. y ∷ []) same
take_next (x ∷ xs) (suc k) v at = ap (λ l. x ∷ l) (take_next xs k v at)

number_in : (o : Option Frame) (k : ℕ) (v : ℤ) → number_of o k ≡ Some v → slice_get (numbers_in o) k ≡ Some v
number_in None k v is = cc
number_in (Some f) k v is = is

-- one number more is read
pub number_more : (o : Option Frame) (k : ℕ) (v number : ℤ) (numbers : List ℤ) → number_of o k ≡ Some v → number ≡ v
    → numbers ≡ take k (numbers_in o) → numbers ++ number ∷ [] ≡ take (k + 1) (numbers_in o)
number_more o k v number numbers at same read =
    let more : suc k ≡ k + 1 = omega arith in
    ap (λ n. numbers ++ n ∷ []) same
    ∙ ap (λ l. l ++ v ∷ []) read
    ∙ sym (take_next (numbers_in o) k v (number_in o k v at))
    ∙ ap (λ n. take n (numbers_in o)) more

-- all numbers of a frame are read
pub all_numbers : (o : Option Frame) (n : ℕ) → n ≡ variables_of o → take n (numbers_in o) ≡ numbers_in o
all_numbers None n is = take_all n [] (omega (arith, is))
all_numbers (Some f) n is = take_all n f.numbers (omega (arith, is))

-- ---- one step

pub told_so : (m new : Standing) (outcome : StepOutcome) → Stepped (outcome_of m) m outcome new
    → IsTold (outcome_of m) outcome
told_so m new outcome stepped = by_outcome (outcome_of m) stepped
  where
    by_outcome : (o : Outcome) → Stepped o m outcome new → IsTold o outcome
    by_outcome Stuck s = absurd s
    by_outcome _ s = s.0

-- a step that goes on leads to the next position
pub went_on : (m new : Standing) (number : Option ℤ) → Stepped (outcome_of m) m (Went number) new
    → new ≡ at_position m (m.position + 1)
went_on m new number stepped = by_outcome (outcome_of m) stepped
  where
    by_outcome : (o : Outcome) → Stepped o m (Went number) new → new ≡ at_position m (m.position + 1)
    by_outcome (Goes other c) s = s.1
    by_outcome (Faults fault) s = let other : Went number ≡ Fault fault = s.0 in cc
    by_outcome Stuck s = absurd s

-- ---- going to a position

came_same : (start now : Standing) (q : ℕ) → Came start now → at_position now q ≡ at_position start q
came_same start now q came = ap (λ (m : Standing). at_position m q) came.1

-- a machine that came to a position
pub came_to : (start now new : Standing) (position : ℕ) → Came start now → RanToNumber position now None new
    → (0 < depth_of new) × (new ≡ at_position start position)
came_to start now new position came r =
    let more : at_position new position ≡ at_position now position =
    ap (λ (m : Standing). at_position m position) r.ran.0.led in (
      r.ran.0.running,
      ap (λ p. at_position new p) r.ran.1 ∙ more ∙ came_same start now position came,
    )

-- after a number the run goes on, and is no further
pub goes_further : {number : Option ℤ} (start now new : Standing) (position : ℕ) (outcome : StepOutcome)
    → outcome ≡ Went number → Came start now → RanToNumber position now (Some outcome) new
    → (0 < depth_of new) × (new.position ≤ position) × Came start new
goes_further {number} start now new position outcome is came r =
    let stepped = subst (λ o. Stepped (outcome_of r.ran.0) r.ran.0 o new) is r.ran.3 in
    let led = ap (λ (m : Standing). m.position) (went_on r.ran.0 new number stepped) in
    let lt = r.ran.2 in (
      runs_on r.ran.0 new number stepped,
      omega (arith, led, lt),
      (
        came.0 + (r.ran.1.steps + 1),
        went_on r.ran.0 new number stepped ∙ ap (λ m. ahead m 1) r.ran.1.led ∙ ahead-ahead now r.ran.1.steps 1
            ∙ ap (λ m. ahead m (r.ran.1.steps + 1)) came.1 ∙ ahead-ahead start came.0 (r.ran.1.steps + 1),
      ),
    )

-- where a step faults, all stays
same_place : (m new : Standing) (fault : RunFault) → Stepped (outcome_of m) m (Fault fault) new → new ≡ m
same_place m new fault stepped = by_outcome (outcome_of m) stepped
  where
    by_outcome : (o : Outcome) → Stepped o m (Fault fault) new → new ≡ m
    by_outcome (Goes number []) s = let other : Fault fault ≡ Done = s.0 in cc
    by_outcome (Goes number (f ∷ below)) s = let other : Fault fault ≡ Went number = s.0 in cc
    by_outcome (Faults other) s = s.1
    by_outcome Stuck s = absurd s

-- the machine is where it came to
came_there : {counts after : List ℕ} (start now last : Standing) (position : ℕ) → Came start now
    → Stretches 0 None now last counts after
    → at_position last position ≡ at_position start position
came_there {counts} {after} start now last position came passed =
    ap (λ (m : Standing). at_position m position) passed.led ∙ came_same start now position came

-- a run that is done before a position has ended there
pub ends_before : (start now new : Standing) (position : ℕ) → Came start now
    → RanToNumber position now (Some Done) new → StopsBefore EndedBefore start position new
ends_before start now new position came r =
    let behind = ended_behind r.ran.0 new r.ran.3 in
    let led : new.position ≡ r.ran.0.position + 1 = ap (λ (m : Standing). m.position) behind.0 in
    let lt = r.ran.2 in (
      behind.0
          ∙ came_there start now r.ran.0 (r.ran.0.position + 1) came r.ran.1
          ∙ ap (λ p. at_position start p) (sym led),
      omega (arith, led, lt),
      behind.1,
    )

-- a run that faults before a position stands there
pub faults_before : (start now new : Standing) (position : ℕ) (fault : RunFault) → Came start now
    → RanToNumber position now (Some (Fault fault)) new → StopsBefore (Faulted fault) start position new
faults_before start now new position fault came r =
    let stays = same_place r.ran.0 new fault r.ran.3 in
    let same : new.position ≡ r.ran.0.position = ap (λ (m : Standing). m.position) stays in
    let lt = r.ran.2 in (
      stays
          ∙ came_there start now r.ran.0 r.ran.0.position came r.ran.1
          ∙ ap (λ p. at_position start p) (sym same),
      omega (arith, same, lt),
      fault_is r.ran.0 new fault r.ran.3,
    )

pub same_unit : (m new : Standing) (told : StepOutcome) → Stepped (outcome_of m) m told new → new.unit ≡ m.unit
same_unit m new told stepped = by_outcome (outcome_of m) stepped
  where
    by_outcome : (o : Outcome) → Stepped o m told new → new.unit ≡ m.unit
    by_outcome (Goes number c) s = ap (λ (m : Standing). m.unit) s.1
    by_outcome (Faults fault) s = ap (λ (m : Standing). m.unit) s.1
    by_outcome Stuck s = absurd s

-- ---- the rows of a table

-- a table of no rows is its head, which is pending
pub table_none : (head : List ℕ) (from : ℕ) (out : Output) → HasTable head from 0 out out head
table_none head from out = (head, refl, holds_all out head head refl)

-- a table of a row more
table_more : (head : List ℕ) (from n position : ℕ) (table row : List ℕ) → position ≡ from + n
    → IsTable head from n table → IsRowOf position row → IsTable head from (n + 1) (table ++ row)
table_more head from n position table row there is of =
    let more : IsTable head from (suc n) (table ++ row) =
    (table, row, is, subst (λ p. IsRowOf p row) there of, refl) in
    rw add-one more

-- where a machine stands
position_of : (mid now : Standing) (p : ℕ) → now ≡ at_position mid p → now.position ≡ p
position_of mid now p is = ap (λ (m : Standing). m.position) is

-- a row more was told
row_more : (mid now new : Standing) (from n : ℕ) (outcome : StepOutcome) (head pending left : List ℕ)
    (before at after : Output)
    → now ≡ at_position mid (from + n) → HasTable head from n before at pending
    → PutsRow (Some outcome) now new pending left at after → HasTable head from (n + 1) before after left
row_more mid now new from n outcome head pending left before at after here (table, is, held) (row, of, stepped, puts) =
    let there = position_of mid now (from + n) here in
    (table ++ row, table_more head from n now.position table row there is of, puts before table held)

-- ---- a trace from a position to which a machine was taken

-- where it is taken to, it stands
pub stands : (start m : Standing) (from : ℕ) → m ≡ at_position start from → m ≡ at_position m (from + 0)
stands start m from is =
    let there : m.position ≡ from = ap (λ (m : Standing). m.position) is in
    let same : m.position ≡ from + 0 = omega (arith, there) in
    ap (λ p. at_position m p) same

-- a position of either is one of the other
pub position_there : (start m : Standing) (from p : ℕ) → m ≡ at_position start from
    → at_position m p ≡ at_position start p
position_there start m from p is = ap (λ (m : Standing). at_position m p) is

-- no position was told, since the run is over before the first
pub traced_nowhere : (end : TraceEnd) (start new : Standing) (from count : ℕ) (head : List ℕ) (out : Output)
    → StopsBefore end start from new → HasTraced end start from count new head out out head
traced_nowhere EndedBefore start new from count head out stops = (stops, refl, refl)
traced_nowhere (Faulted fault) start new from count head out (there, before, faults) =
    let none : 0 ≡ new.position + 1 - from = omega (arith, before) in (
      (there, (omega (arith, before)), faults),
      subst (λ k. HasTable head from k out out head) none (table_none head from out),
    )
traced_nowhere GoesOn start new from count head out stops = absurd stops
traced_nowhere Ended start new from count head out stops = absurd stops
traced_nowhere WriteFailed start new from count head out stops = absurd stops

-- a position more was told, and the run goes on
pub told_on : (mid now new : Standing) (from n : ℕ) (told : Option StepOutcome) (number : Option ℤ)
    (head pending left : List ℕ) (before at after : Output)
    → told ≡ Some (Went number) → now ≡ at_position mid (from + n) → HasTable head from n before at pending
    → PutsRow told now new pending left at after
    → (0 < depth_of new) × (new ≡ at_position mid (from + (n + 1))) × HasTable head from (n + 1) before after left
told_on mid now new from n told number head pending left before at after is here table puts =
    let row = subst (λ t. PutsRow t now new pending left at after) is puts in
    let next : from + n + 1 ≡ from + (n + 1) = omega arith in (
      runs_on now new number row.2,
      went_on now new number row.2
          ∙ ap (λ (m : Standing). at_position m (m.position + 1)) here
          ∙ ap (λ p. at_position mid p) next,
      row_more mid now new from n (Went number) head pending left before at after here table row,
    )

-- the output failed in a row
pub told_failed : (mid now new : Standing) (from n count : ℕ) (told : Option StepOutcome)
    (head pending left : List ℕ) (before at after : Output)
    → told ≡ None → n < count → now ≡ at_position mid (from + n) → HasTable head from n before at pending
    → PutsRow told now new pending left at after → FailsInPart head from count before after
told_failed mid now new from n count told head pending left before at after is lt here (table, rows, held) puts =
    let failed = subst (λ t. PutsRow t now new pending left at after) is puts in (
      n + 1,
      table ++ failed.0,
      omega (arith, lt),
      table_more head from n now.position table failed.0 (position_of mid now (from + n) here) rows failed.1,
      failed.2 before table held,
    )

-- memory ran out in a row
pub told_part : (from n count : ℕ) (head pending : List ℕ) (before at after : Output)
    → n < count → after ≡ at → HasTable head from n before at pending → HasPart head from count before after
told_part from n count head pending before at after lt same table =
    (n, pending, omega (arith, lt), subst (λ o. HasTable head from n before o pending) (sym same) table)

-- the run ends with a position that was told
pub traced_end : (start mid now new : Standing) (from n count : ℕ) (told : Option StepOutcome)
    (head pending left : List ℕ) (before at after : Output)
    → told ≡ Some Done → n < count → mid ≡ at_position start from → now ≡ at_position mid (from + n)
    → HasTable head from n before at pending → PutsRow told now new pending left at after
    → HasTraced Ended start from count new head before after left
traced_end start mid now new from n count told head pending left before at after is lt to_mid here table puts =
    let row = subst (λ t. PutsRow t now new pending left at after) is puts in
    let behind = ended_behind now new row.2 in
    let there : new ≡ at_position start (from + n + 1) =
    behind.0
    ∙ ap (λ (m : Standing). at_position m (m.position + 1)) here
    ∙ position_there start mid from (from + n + 1) to_mid in
    let position = position_of start new (from + n + 1) there in
    let many : n + 1 ≡ new.position - from = omega (arith, position) in (
      omega (arith, position),
      (there ∙ ap (λ p. at_position start p) (sym position), (omega (arith, position, lt)), behind.1),
      subst (λ k. HasTable head from k before after left) many
          (row_more mid now new from n Done head pending left before at after here table row),
    )

-- the step of a position that was told faults
pub traced_fault : (start mid now new : Standing) (fault : RunFault) (from n count : ℕ) (told : Option StepOutcome)
    (head pending left : List ℕ) (before at after : Output)
    → told ≡ Some (Fault fault) → n < count → mid ≡ at_position start from → now ≡ at_position mid (from + n)
    → HasTable head from n before at pending → PutsRow told now new pending left at after
    → HasTraced (Faulted fault) start from count new head before after left
traced_fault start mid now new fault from n count told head pending left before at after is lt to_mid here table puts =
    let row = subst (λ t. PutsRow t now new pending left at after) is puts in
    let there : new ≡ at_position start (from + n) =
    same_place now new fault row.2 ∙ here ∙ position_there start mid from (from + n) to_mid in
    let position = position_of start new (from + n) there in
    let many : n + 1 ≡ new.position + 1 - from = omega (arith, position) in (
      (
        there ∙ ap (λ p. at_position start p) (sym position),
        (omega (arith, position, lt)),
        fault_is now new fault row.2,
      ),
      subst (λ k. HasTable head from k before after left) many
          (row_more mid now new from n (Fault fault) head pending left before at after here table row),
    )
