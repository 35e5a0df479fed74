-- Each stop of a run is as the command asks by which the program goes, and none is passed.
use Rattle.dap_history.proofs.Common.{Accepted, Body, Causes, Command, Content, Effect, Err, Grants, Heading, History, IsRetreatsStop, IsRightStop, IsRunsStop, IsSome, IsStopOf, Item, Launched, Loaded, Mode, None, NoneDueBefore, NoneDueUpTo, Ok, Option, Reason, Refusal, Request, RetreatKind, SliceOutcome, Some, Step, Stop, StopReason, ThreadArguments, WrittenJoins, [], ap, depth_at, due_in_run, go, goes_back, held_mode, if◌then◌else◌, is_some, last_run, last_such, launched, mode_asked, mode_by, name_of, or_else, reason_of, refl, run_in, situation, subst, sym, told_reason, ℕ, ◌++◌, ◌<◌, ◌∙◌, ◌∷◌, ◌≡◌, ◌≤◌}
use Rattle.std.proofs.Common.{Bool, true, false, ◌&&◌, Result}
use Rattle.std.specs.Prelude.{option_map}
use Rattle.dap_msg.specs.declared.command.Command.TheVariants as command
use Rattle.dap_msg.specs.declared.requests.resume.RetreatKind.TheVariants as retreat
use Rattle.dap_msg.specs.declared.outgoing.Outgoing.TheVariants.{Answer}
use Rattle.dap_msg.specs.declared.outgoing.StopReason.TheVariants as stop
use Rattle.dbg_plan.specs.Retreat.{NoneIsDue, LastDueIsLast}
use Rattle.dbg_plan.specs.declared.mode.Mode.TheVariants as mode
use Rattle.dbg_plan.specs.declared.mode.Reason.TheVariants as reason
use Rattle.dbg_runner.specs.declared.outcome.SliceOutcome.TheVariants as slice
use Rattle.dap_history.specs.Readings.{position}
use Rattle.pl0_meaning.specs.Laws.{RunsHaveNoGaps, NothingFollowsTheEnd}
use Rattle.dap_history.specs.Moves.{IsAlive, is_request_item, sets_going, GoesBy, is_done, is_met, reason_at, NowhereBefore, StopsForward, NoneMet, StopsBack, StopsAsAsked, EachStopIsAsAsked, NoStopIsPassed}
use Rattle.dap_history.proofs.Readings.{launched-snoc, last_run-snoc, position-snoc}
use Rattle.dap_history.proofs.Texts.{OneProgram}
use Rattle.dap_history.proofs.Along.{IsTaken, IsKept, IsLawfulEvent, lawful_events, along}
use Rattle.dap_history.proofs.Each.{WasTaken, each_kept, each_first}
use Rattle.dap_history.proofs.Early.{IsEarly}
use Rattle.dap_history.proofs.Silent.{all_silent}
use Rattle.dap_history.proofs.Outputs.{report_launches}
use Rattle.dap_history.proofs.Passing.{Ran, IsRunning, loaded_orders}
use Rattle.dap_history.proofs.Stopping.{ran_more, ran_first, each_stop_right}
use Rattle.dap_history.proofs.Asked.{item_mode}
use Rattle.dap_history.proofs.Alive.{stop_alive}
use Rattle.dap_history.proofs.Once.{stopped_last}
use Rattle.dap_history.proofs.Judged.{refused_step}
use Rattle.dap_history.proofs.Since.{longer, none_since, one_more_since}
use Rattle.std.proofs.Common.{arith}
use Rattle.std.proofs.lemmas.Grind.{common_steps}

-- ---- the command by which the program goes

-- the last run is in the mode that the command asks for by which the program goes
pub record WentBy (past : History) (l : Launched) (run : Heading) : Type 0 where
  pub asked : Command
  pub from : ℕ
  pub goes : GoesBy past asked from
  pub mode_is : mode_by (depth_at l.program from) asked ≡ Some run.mode

abbrev IsGoing : History → Type 0
IsGoing past = (l : Launched) (run : Heading) → launched past ≡ Some l → last_run past ≡ Some run → WentBy past l run

step_keeps_asked : (past : History) (step : Step) (asked : Command) (from : ℕ) → sets_going step ≡ false
    → GoesBy past asked from → GoesBy (past ++ step ∷ []) asked from
step_keeps_asked past step asked from stays by = record {
  early = by.early;
  step = by.step;
  later = by.later ++ step ∷ [];
  past_is = longer past by.early by.step by.later step by.past_is;
  request = by.request;
  granted = by.granted;
  asked_is = by.asked_is;
  from_is = by.from_is;
  goes = by.goes;
  last = one_more_since (λ (s : Step). sets_going s ≡ false) by.later step by.last stays;
}

-- a request that orders a run is granted
granted_by : (past : History) (step : Step) (request : Request) (run : Heading) → step.item ≡ Content (Some request)
    → Causes past (Content (Some request)) step → run_in step ≡ Some run → Grants step request
granted_by past step request run item_is is goes = by_result is.0.result refl
  where
    by_result : (r : Result Body Refusal) → is.0.result ≡ r → Grants step request
    by_result (Ok b) same = record {
      item_is = item_is;
      body = b;
      answer_is = is.2.answer_is ∙ ap (λ x. Some (Answer request.seq (name_of request.body) x)) same;
    }
    by_result (Err why) same = grind (arith, common_steps, refused_step, go) steps 200000

module _ (one : OneProgram) (joins : WrittenJoins) where
  module _ (past : History) (step : Step) (taken : IsTaken IsLawfulEvent past step.item)
      (causes : Causes past step.item step) (ran : Ran one joins past) (going : IsGoing past) where
    -- a step launches a program only where none ran
    launched_before : (l : Launched) (run : Heading) (item : Item) → step.item ≡ item → Causes past item step
        → IsTaken IsLawfulEvent past item → launched (past ++ step ∷ []) ≡ Some l
        → last_run (past ++ step ∷ []) ≡ Some run → launched past ≡ Some l
    launched_before l run item item_is is taken_ there run_is =
        cc (launches_none item is taken_ run_is, launched-snoc past step)
      where
        launches_none : (item : Item) → Causes past item step → IsTaken IsLawfulEvent past item
            → last_run (past ++ step ∷ []) ≡ Some run → step.effect.launched ≡ None
        launches_none (Content (Some request)) is taken_ run_is =
            cc (is.2.effect_is, (all_silent (situation past) past request.body is.0 is.1).no_launch)
        launches_none (Loaded launch file) is ready run_is =
            let none = last_run-snoc past step
            ∙ ap (λ o. or_else o (last_run past)) (ap (λ (e : Effect). last_such go e.orders) is.2.effect_is
            ∙ loaded_orders launch file is.0 is.1)
            ∙ (ran.so_far.progress None (ran.so_far.early (subst IsEarly (sym ready) tt))).1 in
            let e = sym none ∙ run_is in absurd cc
        launches_none (Accepted r) is taken_ run_is = cc (is.effect_is, report_launches past r r.outcome)
        launches_none _ is taken_ run_is = ap (λ (e : Effect). e.launched) is.effect_is

    -- where a run is ordered, the program goes by the request, or as before
    newly : (l : Launched) (run : Heading) (item : Item) → step.item ≡ item → Causes past item step
        → launched past ≡ Some l → run_in step ≡ Some run
        → mode_asked past l.program item ≡ Some run.mode → WentBy (past ++ step ∷ []) l run
    newly l run (Content (Some request)) item_is is there goes mode_is =
        record {
          asked = request.body;
          from = position past;
          goes = record {
            early = past;
            step = step;
            later = [];
            past_is = refl;
            request = request;
            granted = granted_by past step request run item_is is goes;
            asked_is = refl;
            from_is = refl;
            goes = cc;
            last = none_since (λ (s : Step). sets_going s ≡ false);
          };
          mode_is = mode_is;
        }
    newly l run (Accepted r) item_is is there goes mode_is = by_last (last_run past) refl r.outcome mode_is
      where
        by_last : (o : Option Heading) → last_run past ≡ o → (e : SliceOutcome) → held_mode e o ≡ Some run.mode
            → WentBy (past ++ step ∷ []) l run
        by_last (Some old) old_is slice.Held mode_is =
            let was = going l old there old_is in record {
              asked = was.asked;
              from = was.from;
              goes = step_keeps_asked past step was.asked was.from
                  (ap (λ o. is_some o && is_request_item step.item) goes ∙ ap is_request_item item_is) was.goes;
              mode_is = was.mode_is ∙ mode_is;
            }
        by_last None old_is slice.Held mode_is = absurd cc
        by_last o old_is _ mode_is = absurd cc
    newly l run _ item_is is there goes mode_is = absurd cc

    going_more : IsGoing (past ++ step ∷ [])
    going_more l run there run_is = by_run (run_in step) refl
      where
        before : launched past ≡ Some l
        before = launched_before l run step.item refl causes taken there run_is

        by_run : (o : Option Heading) → run_in step ≡ o → WentBy (past ++ step ∷ []) l run
        by_run None none =
            let old_is = ap (λ o. or_else o (last_run past)) (sym none) ∙ sym (last_run-snoc past step) ∙ run_is in
            let was = going l run before old_is in record {
              asked = was.asked;
              from = was.from;
              goes =
                  step_keeps_asked past step was.asked was.from (ap (λ o. is_some o && is_request_item step.item) none)
                  was.goes;
              mode_is = was.mode_is;
            }
        by_run (Some new) goes =
            let same : new ≡ run =
            let e = sym (ap (λ o. or_else o (last_run past)) goes) ∙ sym (last_run-snoc past step) ∙ run_is in cc in
            let asks = item_mode one joins past step.item step taken causes ran new goes in
            let same_l : asks.0 ≡ l = let e = sym asks.1 ∙ before in cc in
            newly l run step.item refl causes before (goes ∙ ap Some same)
            (ap (λ (p : Launched). mode_asked past p.program step.item) (sym same_l) ∙ asks.2
            ∙ ap (λ (h : Heading). Some h.mode) same)

  abbrev pub Kept : History → Type 0
  Kept past = Ran one joins past × IsGoing past

  pub kept_kept : IsKept IsLawfulEvent Kept
  kept_kept =
      record {
        step = λ past item new taking taken after here.
            let taken_now = subst (IsTaken IsLawfulEvent past) (sym after.item_is) taken in
            let causes_now = subst (λ i. Causes past i after.step) (sym after.item_is) after.causes in
            rw after.new_is (
              ran_more one joins past after.step taken_now causes_now here.0,
              going_more past after.step
                  taken_now causes_now here.0 here.1,
            );
      }

  pub kept_first : Kept []
  kept_first = (ran_first one joins, λ l run there run_is. absurd cc)

-- ---- a run forward

-- the reason that the mode gives, by whether the command is done
abbrev done_reason : Bool → Option Reason
done_reason true = Some reason.Step
done_reason false = None

-- a command that lets the program run forward
abbrev pub GoesForward : Command → Type 0
GoesForward (command.Retreat kind a) = ⊥
GoesForward _ = Unit {0}

-- a command by which a run goes forward
pub forward_by : (asked : Command) (d : ℕ) (run : Heading) → mode_by d asked ≡ Some run.mode
    → goes_back run.mode ≡ false → GoesForward asked
forward_by asked d run mode_is on = grind (arith, common_steps) steps 200000

mode_done : (asked : Command) (m : Mode) (d n : ℕ) → GoesForward asked → mode_by d asked ≡ Some m
    → (reason_of m n ≡ done_reason (is_done asked d n)) × (goes_back m ≡ false)
mode_done asked m d n forward is = grind (arith, common_steps) steps 200000

-- what the two tests say, as the client is told
told_by : (met done : Bool)
    → option_map told_reason (if met then Some reason.Breakpoint else done_reason done)
    ≡ (if met then Some stop.Breakpoint else (if done then Some stop.Step else None))
told_by met done = grind (arith, common_steps) steps 200000

module _ (l : Launched) (run : Heading) (asked : Command) (from : ℕ) (forward : GoesForward asked)
    (mode_is : mode_by (depth_at l.program from) asked ≡ Some run.mode) where
  reason_is : (m : ℕ) → option_map told_reason (due_in_run l run m) ≡ reason_at l run asked from m
  reason_is m = grind (arith, common_steps, mode_done, told_by, is_done) steps 1500000

  pub nowhere : (k : ℕ) → due_in_run l run k ≡ None → reason_at l run asked from k ≡ None
  nowhere k none = sym (reason_is k) ∙ ap (option_map told_reason) none

  first_so : (r : Reason) (s : StopReason) (m : ℕ) → s ≡ told_reason r → (due_in_run l run m ≡ Some r) × (run.start < m)
      × NoneDueBefore l run m
      → (reason_at l run asked from m ≡ Some s) × (run.start < m) × NowhereBefore l run asked from m
  first_so r s m told is = grind (arith, common_steps, reason_is, nowhere) steps 1500000

  runs_so : (s : StopReason) (m : ℕ) → IsRunsStop l run s m → StopsForward l run asked from s m
  runs_so stop.Breakpoint m is = first_so is.0 stop.Breakpoint m is.1 (is.2, is.3, is.4)
  runs_so stop.Step m is = first_so is.0 stop.Step m is.1 (is.2, is.3, is.4)
  runs_so stop.Entry m is = first_so is.0 stop.Entry m is.1 (is.2, is.3, is.4)
  runs_so s m is = grind (arith, common_steps, nowhere) steps 200000

  forward_so : (s : StopReason) (m : ℕ) → IsStopOf (goes_back run.mode) l run s m → StopsForward l run asked from s m
  forward_so s m is = grind (arith, common_steps, runs_so, mode_done) steps 1500000

-- ---- a run back

-- nothing is due in the mode Continue just where no breakpoint stops the program
met_not : (met : Bool) → (if met then Some reason.Breakpoint else None) ≡ None → met ≡ false
met_not met is = grind (arith, common_steps) steps 200000

met_so : (met : Bool) → IsSome (if met then Some reason.Breakpoint else None) → met ≡ true
met_so met is = grind (arith, common_steps) steps 200000

module _ (last : LastDueIsLast) (l : Launched) (run : Heading) where
  none_met : (m : ℕ) → NoneIsDue l.program run.plan m run.start → NoneMet l run m
  none_met m none k from below = met_not (is_met l run 0 k) (none k from below)

  -- the stop that is told is that position and reason
  steps_so : (s : StopReason) (m : ℕ) → IsRetreatsStop l run s m → run.mode ≡ mode.StepBack
      → StopsBack l run retreat.StepBack s m
  steps_so s m is mode_is = grind (arith, common_steps, Stop) steps 1500000

  reverses_so : (s : StopReason) (m : ℕ) → IsRetreatsStop l run s m → run.mode ≡ mode.Reverse
      → StopsBack l run retreat.ReverseContinue s m
  reverses_so s m is mode_is = grind (arith, common_steps, Stop, none_met, met_so) steps 1500000

  back_so : (kind : RetreatKind) (a : ThreadArguments) (d : ℕ) (s : StopReason) (m : ℕ)
      → mode_by d (command.Retreat kind a) ≡ Some run.mode → IsStopOf (goes_back run.mode) l run s m
      → StopsBack l run kind s m
  back_so kind a d s m mode_is is = grind (arith, common_steps, steps_so, reverses_so) steps 200000

  -- ---- either

  as_asked : (asked : Command) (from : ℕ) (s : StopReason) (m : ℕ)
      → mode_by (depth_at l.program from) asked ≡ Some run.mode → IsStopOf (goes_back run.mode) l run s m
      → StopsAsAsked l run asked from s m
  as_asked asked from s m mode_is is = grind (arith, common_steps, back_so, forward_so) steps 200000

pub stops_as_asked : OneProgram → WrittenJoins → RunsHaveNoGaps → NothingFollowsTheEnd → LastDueIsLast
    → EachStopIsAsAsked
stops_as_asked one joins no_gaps ends last f events past rest lawful history before s m stops_at run run_is = (
  right.0,
  by.asked,
  by.from,
  right.1,
  by.goes,
  as_asked last right.0 run by.asked by.from s m by.mode_is
      (subst (λ o. IsRightStop right.0 before o s m) run_is right.2),
  alive,
)
  where
    right : (l : Launched) × (launched before ≡ Some l) × IsRightStop l before (last_run before) s m
    right = each_stop_right one joins f events past rest lawful history before s m stops_at

    was : WasTaken IsLawfulEvent (Kept one joins) before stops_at.step
    was =
        (along _ _ (each_kept _ _ (kept_kept one joins)) (each_first _ _ (kept_first one joins)) f events past rest
        (lawful_events events lawful) history).each before stops_at.step stops_at.after stops_at.past_is

    by : WentBy before right.0 run
    by = was.held.1 right.0 run right.1 run_is

    alive : IsAlive right.0 m
    alive =
        subst (IsAlive right.0) (sym (stops_at.position_is
        ∙ position-snoc before _)) (stop_alive one joins no_gaps ends before _ _ was.taken was.causes was.held.0 _
        right.1 run run_is s (stopped_last before _ s _ _ was.causes stops_at.events_are))

pub none_passed : OneProgram → WrittenJoins → NoStopIsPassed
none_passed one joins f events past rest lawful history running run run_is forward = (
  there.0,
  by.asked,
  by.from,
  there.1,
  by.goes,
  ran.0,
  λ k above up_to.
      nowhere there.0 run by.asked by.from
      (forward_by by.asked (depth_at there.0.program by.from) run by.mode_is forward) by.mode_is k
      (ran.1 k above up_to),
)
  where
    was : Kept one joins past
    was = along IsLawfulEvent (Kept one joins) (kept_kept one joins) (kept_first one joins) f events past rest
        (lawful_events events lawful) history

    launched_then : (o : Option Launched) → launched past ≡ o → (l : Launched) × (launched past ≡ Some l)
    launched_then (Some l) is = (l, is)
    launched_then None is = let e = sym (was.0.so_far.progress None is).1 ∙ run_is in absurd cc

    there : (l : Launched) × (launched past ≡ Some l)
    there = launched_then (launched past) refl

    by : WentBy past there.0 run
    by = was.1 there.0 run there.1 run_is

    ran : (run.start ≤ position past) × NoneDueUpTo there.0 run (position past)
    ran = was.0.running (subst IsRunning (sym running) tt) there.0 there.1 run run_is
