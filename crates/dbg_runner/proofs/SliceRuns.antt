-- What the steps of a slice leave: one by one, or by runs of the debuggee.
use Rattle.dbg_runner.proofs.Common.{[], Advance, Advanced, ap, append-nil, append_assoc, arith, Closes, considered_at, Debugged, Done, ending, ending_by, false, Fault, goes_back, IsOfSlice, IsWritten, List, Log, Mode, None, Option, option_and_then, RanFurther, refl, Room, slice_limit, sliced, SliceOutcome, Some, StandsAtEnd, stopped, subst, suc, sym, To, TookSteps, written, written_before, outcome, zero, ℕ, ℤ, ◌+◌, ◌-◌, ◌<◌, ◌∙◌, ◌∷◌, ◌≡◌, ◌≤◌}
use Rattle.pl0_meaning.proofs.SharedLemmas.{written-next}
use Rattle.dbg_plan.specs.Running.{IsUndueAbove, with_written}
use Rattle.dbg_plan.proofs.Unwatched.{not_due_above, nothing_logged}
use Rattle.dbg_runner.specs.declared.outcome.SliceOutcome.TheVariants as out
use Rattle.dbg_runner.proofs.SliceSteps.{Underway, is_empty, goes, ended, spent}
use Rattle.std.proofs.lemmas.Grind.{common_steps}

-- a step ends no slice as one that was held, or had no memory
by_logs_of_slice : (logged : List Log) (outcome : SliceOutcome) → ending_by logged ≡ Some outcome → IsOfSlice outcome
by_logs_of_slice [] outcome is = absurd cc
by_logs_of_slice (log ∷ logs) outcome is = (λ held. cc, λ lacking. cc)

is_of_slice : (a : Advance) (logged : List Log) (outcome : SliceOutcome) → ending a logged ≡ Some outcome
    → IsOfSlice outcome
is_of_slice (To None) logged outcome is = by_logs_of_slice logged outcome is
is_of_slice _ logged outcome is = (λ held. cc, λ lacking. cc)

-- ---- what steps keep

-- all but the position, and what was considered
record Keeps (old new : Debugged) : Type 0 where
  unit : new.unit ≡ old.unit
  breakpoints : new.breakpoints ≡ old.breakpoints
  counted_from : new.counted_from ≡ old.counted_from
  trail : new.trail ≡ old.trail

-- the debuggee, by what a report of the slice has of it
as_reported : (mode : Mode) → goes_back mode ≡ false → (run start before : ℕ) (room : Room) (d : Debugged)
    (outcome : SliceOutcome) → d.unit ≡ room.unit → d.breakpoints ≡ room.breakpoints → d.next ≡ d.position + 1
    → d ≡ stopped (sliced run mode start before room d outcome) d.trail
as_reported mode forward run start before room d outcome unit breakpoints next =
    grind (arith, common_steps, goes_back)

module _ (mode : Mode) (start d : Debugged) (room : Room) (s : Underway mode start d room) where
  kept_so_far : Keeps start d
  kept_so_far = record { unit = cc s.d_is; breakpoints = cc s.d_is; counted_from = cc s.d_is; trail = cc s.d_is }

  behind : d.next ≡ d.position + 1
  behind = ap (λ (e : Debugged). e.next) s.d_is ∙ sym (ap (λ (e : Debugged). e.position + 1) s.d_is)

  kept_by : (a : Advance) (new : Debugged) (logged : List Log) → Advanced mode d a new logged → Keeps start new
  kept_by (To due) new logged led = grind (arith, common_steps, kept_so_far)
  kept_by _ new logged led = grind (arith, common_steps, kept_so_far)

-- ---- single steps

-- a step that ends no slice leads further
pub further : (mode : Mode) (d new : Debugged) (logged : List Log) (a : Advance) → Advanced mode d a new logged
    → ending a logged ≡ None → new.position ≡ d.position + 1
further mode d new logged (To due) led is = ap (λ (e : Debugged). e.position) led.0
further mode d new logged _ led is = absurd cc

module _ (mode : Mode) (forward : goes_back mode ≡ false) (start d : Debugged) (room : Room)
    (s : Underway mode start d room) where
  -- all steps of the slice were taken
  pub all_taken : start.position + slice_limit ≤ d.position → TookSteps mode start out.More d room
  all_taken all =
      let k = kept_so_far mode start d room s in
      let unit : room.unit ≡ start.unit = ap (λ (r : Room). r.unit) s.room_is in
      let breakpoints : room.breakpoints ≡ start.breakpoints = ap (λ (r : Room). r.breakpoints) s.room_is in
      record {
        lawful = λ run. spent mode forward start d room s all run;
        stands = λ run.
            as_reported mode forward run start.position (written_before start) room d out.More (k.unit ∙ sym unit)
            (k.breakpoints ∙ sym breakpoints) (behind mode start d room s);
        outcome_is = (λ held. cc, λ lacking. cc);
        unit = unit;
        breakpoints = breakpoints;
        counted_from = k.counted_from;
        trail = k.trail;
      }

  -- a step was taken
  module _ (lt : d.position < start.position + slice_limit) (new : Debugged) (more : Room)
      (wrote : IsWritten d room more.logs more) (a : Advance) (led : Advanced mode d a new more.logs) where
    unit_is : more.unit ≡ start.unit
    unit_is = ap (λ (r : Room). r.unit) wrote ∙ ap (λ (r : Room). r.unit) s.room_is

    breakpoints_are : more.breakpoints ≡ start.breakpoints
    breakpoints_are = ap (λ (r : Room). r.breakpoints) wrote ∙ ap (λ (r : Room). r.breakpoints) s.room_is

    abbrev Stands : SliceOutcome → Type 0
    Stands outcome =
        (run : ℕ)
        → StandsAtEnd (sliced run mode start.position (written_before start) more new outcome) new outcome

    reported : new.next ≡ new.position + 1 → (outcome : SliceOutcome) (run : ℕ)
        → new ≡ stopped (sliced run mode start.position (written_before start) more new outcome) new.trail
    reported next outcome run = grind (arith, common_steps, kept_by, as_reported, unit_is, breakpoints_are)

    stands_logging : new.next ≡ new.position + 1 → (ls : List Log) (outcome : SliceOutcome)
        → ending_by ls ≡ Some outcome → Stands outcome
    stands_logging next [] outcome is = absurd cc
    stands_logging next (l ∷ ls) outcome is = grind (arith, common_steps, reported)

    stands : (b : Advance) → Advanced mode d b new more.logs → (outcome : SliceOutcome)
        → ending b more.logs ≡ Some outcome → Stands outcome
    stands (To None) led outcome is = stands_logging led.1.behind more.logs outcome is
    stands (To (Some reason)) led outcome is = grind (arith, common_steps, reported)
    stands Done led outcome is = grind (arith, common_steps)
    stands (Fault fault) led outcome is = grind (arith, common_steps, out.Fault, behind, reported)

    pub took : (outcome : SliceOutcome) → ending a more.logs ≡ Some outcome → TookSteps mode start outcome new more
    took outcome is =
        let k = kept_by mode start d room s a new more.logs led in
        record {
          lawful = λ run. ended mode forward start d room s lt new more.logs more wrote run a led outcome is;
          stands = stands a led outcome is;
          outcome_is = is_of_slice a more.logs outcome is;
          unit = unit_is;
          breakpoints = breakpoints_are;
          counted_from = k.counted_from;
          trail = k.trail;
        }

-- ---- runs of the debuggee

module _ (mode : Mode) (forward : goes_back mode ≡ false) (outer : ℕ) (undue : IsUndueAbove mode outer)
    (start d : Debugged) (room : Room) (s : Underway mode start d room)
    (lt : d.position < start.position + slice_limit) (result : Option SliceOutcome) (new : Debugged) (more : Room)
    (f : RanFurther (start.position + slice_limit) outer mode d room result new more) where
  -- where the quiet steps led
  abbrev last : Debugged
  last = considered_at d (d.position + f.ran.steps)

  empty : room.logs ≡ []
  empty = is_empty mode start d room s

  -- the room after k quiet steps
  abbrev left : ℕ → Room
  left k = record room { numbers = with_written d k room.numbers }

  left_none : room ≡ left 0
  left_none =
      let e : d.position + 0 - d.position ≡ 0 = omega arith in
      cc (append-nil room.numbers)

  -- a quiet step writes as any other
  left_next : (k : ℕ) → IsWritten (considered_at d (d.position + k)) (left k) [] (left (suc k))
  left_next k =
      let e : d.position + suc k ≡ d.position + k + 1 = omega arith in
      grind (arith, common_steps, written, written-next, append_assoc, empty)

  underway : (k : ℕ) → k ≤ f.ran.steps → Underway mode start (considered_at d (d.position + k)) (left k)
  underway zero le = grind (arith, common_steps, left_none, behind)
  underway (suc k) le =
      let e : d.position + k + 1 ≡ d.position + suc k = omega arith in
      let w = f.ran.within in
      let q = f.ran.quiet k (omega (arith, le)) in
      let next = considered_at d (d.position + k + 1) in
      subst (λ (p : ℕ). Underway mode start (record d { position = p; next = p + 1 }) (left (suc k))) e
      (goes mode forward start (considered_at d (d.position + k)) (left k) (underway k (omega (arith, le)))
      (omega (arith, le, w)) next [] (left (suc k)) (left_next k) (To None) (
        refl,
        record { behind = refl; running = (let more = q.running in omega (arith, more)) },
        sym (not_due_above mode outer undue next q.unmet q.running),
        sym (nothing_logged next q.unmet),
      ) refl)

  abbrev ClosesBy : Option Advance → Type 0
  ClosesBy answer =
      Closes (start.position + slice_limit) outer mode last (left f.ran.steps).numbers answer new more.numbers more.logs

  abbrev end_by : Option Advance → Option SliceOutcome
  end_by answer = option_and_then (λ a. ending a more.logs) answer

  wrote : (a : Advance) → ClosesBy (Some a) → IsWritten last (left f.ran.steps) more.logs more
  wrote a closes = f.kept ∙ ap (λ (ns : List ℤ). record room { numbers = ns; logs = more.logs }) closes.3

  -- at the limit the room is as the quiet steps left it
  as_left : ClosesBy None → left f.ran.steps ≡ more
  as_left closes = grind (arith, common_steps, empty)

  pub on_its_way : result ≡ None → Underway mode start new more
  on_its_way is = by_answer f.advance f.ran.ends (sym f.ends ∙ is)
    where
      by_answer : (o : Option Advance) → ClosesBy o → end_by o ≡ None → Underway mode start new more
      by_answer None closes is = rw closes.0 (rw (← as_left closes) (underway f.ran.steps (omega arith)))
      by_answer (Some a) closes is =
          goes mode forward start last _ (underway _ (omega arith)) closes.0 new more.logs more (wrote a closes) a
          closes.2 is

  pub came_further : result ≡ None → d.position < new.position
  came_further is = grind (arith, common_steps, further)

  pub ran_took : (outcome : SliceOutcome) → result ≡ Some outcome → TookSteps mode start outcome new more
  ran_took outcome is = by_answer f.advance f.ran.ends (sym f.ends ∙ is)
    where
      by_answer : (o : Option Advance) → ClosesBy o → end_by o ≡ Some outcome
          → TookSteps mode start outcome new more
      by_answer None closes is = absurd cc
      by_answer (Some a) closes is =
          took mode forward start last (left f.ran.steps) (underway f.ran.steps (omega arith)) closes.0 new more
          (wrote a closes) a
          closes.2 outcome is
