-- Each stop is where it has to be.
use Rattle.dap_history.proofs.Common.{Accepted, Accepts, Causes, Content, Effect, EndsBy, GoesBackBy, Heading, History, IsLawfulReport, IsPassed, IsRetreatsStop, IsRightStop, IsRunsStop, IsStopOf, Item, Launch, Launched, Launches, Loaded, None, NoneDueBefore, NoneDueUpTo, Option, PlainReport, Ready, Reason, Reply, SliceOutcome, Some, Step, StopReason, Went, WentOn, WrittenJoins, [], ap, arith, due_in_run, end_of, exception_of, faults, go, goal_of, goes_back, has_come, held_effect, inl, inr, is_due, last_run, last_such, launched, or_else, order_mark, refl, report_effect, situation, step_mark, stop_in, stop_of, stop_of_event, stopped_events, subst, sym, unwrap_or, waiting_pause, ℕ, ◌++◌, ◌<◌, ◌∙◌, ◌∷◌, ◌≡◌, ◌≤◌, ◌⊎◌, back_if}
use Rattle.std.proofs.Common.{List, Bool, true, false}
use Rattle.dap_msg.specs.declared.outgoing.StopReason.TheVariants as stop
use Rattle.pl0_meaning.specs.Runs.{outcome}
use Rattle.dbg_runner.specs.Lawful.{is_held}
use Rattle.dbg_runner.specs.declared.outcome.SliceOutcome.TheVariants as slice
use Rattle.dap_history.specs.Readings.{position}
use Rattle.dap_history.proofs.Texts.{OneProgram}
use Rattle.dap_history.specs.Stops.{EachStopIsRight}
use Rattle.dap_history.proofs.Readings.{situation-snoc, position-snoc, launched-snoc, last_run-snoc}
use Rattle.dap_history.proofs.Along.{IsTaken, IsKept, IsLawfulEvent, lawful_events, along}
use Rattle.dap_history.proofs.Each.{WasTaken, EachTaken, each_kept, each_first}
use Rattle.dap_history.proofs.Told.{reason_told, fault_told}
use Rattle.dap_history.proofs.Silent.{StopsBy, no_stop, at_first, all_silent}
use Rattle.dap_history.proofs.Outputs.{outputs_stop, outputs_stop_not}
use Rattle.dap_history.proofs.Standing.{MarkIs, mark_unwrap, answers_only}
use Rattle.dap_history.proofs.Progress.{Progress, progress_more, progress_first, report_program}
use Rattle.dap_history.proofs.Early.{IsEarly}
use Rattle.dap_history.proofs.Once.{stopped_last}
use Rattle.dap_history.proofs.Passing.{IsConfiguring, IsRunning, IsLoaded, BeginsAt, begins_at, item_begins, launches_not, loaded_there, loaded_orders, runs_not, none_left, no_mark_no_go, mark_of_effect, mark_of, NotDueAtEnd, undue_end, stays_end, Ran, same_due, starts_here, begun_there, still, begun_before, none_before, none_up_to}
use Rattle.std.proofs.lemmas.Grind.{common_steps}

module _ (one : OneProgram) (joins : WrittenJoins) where
  -- ---- what is kept

  -- before a launch nothing ran
  not_begun : (past : History) → Progress past → situation past ≡ Ready → (last_run past ≡ None) × (position past ≡ 0)
  not_begun past so_far ready =
      let progress = so_far.progress None (so_far.early (subst IsEarly (sym ready) tt)) in (progress.1, progress.2)

  configuring_more : (past : History) (step : Step) → IsTaken IsLawfulEvent past step.item → Causes past step.item step
      → Ran one joins past → IsConfiguring (situation (past ++ step ∷ []))
      → (last_run (past ++ step ∷ []) ≡ None) × (position (past ++ step ∷ []) ≡ 0)
  configuring_more past step taken causes ran is = by_mark (mark_unwrap _ _ _ (rw (← (situation-snoc past step)) is))
    where
      keeps : last_such go step.effect.orders ≡ None → end_of step.item ≡ None → (last_run past ≡ None)
          × (position past ≡ 0)
          → (last_run (past ++ step ∷ []) ≡ None) × (position (past ++ step ∷ []) ≡ 0)
      keeps no_run stays before = (cc (last_run-snoc past step, before.0), cc (position-snoc past step, before.1))

      by_load : (item : Item) → IsLoaded item → IsTaken IsLawfulEvent past item → Causes past item step
          → (last_such go step.effect.orders ≡ None) × (end_of item ≡ None) × (situation past ≡ Ready)
      by_load (Loaded launch file) loaded ready is = grind (arith, common_steps, go, loaded_orders) steps 200000
      by_load _ loaded taken is = absurd loaded

      stays_there : (item : Item) → IsTaken IsLawfulEvent past item → IsConfiguring (situation past)
          → end_of item ≡ None
      stays_there (Accepted r) taken is = absurd (subst IsConfiguring taken.0.running is)
      stays_there _ taken is = refl

      by_mark : (MarkIs IsConfiguring (step_mark step) ⊎ ((step_mark step ≡ None) × IsConfiguring (situation past)))
          → (last_run (past ++ step ∷ []) ≡ None) × (position (past ++ step ∷ []) ≡ 0)
      by_mark (inl mark) =
          let load = by_load step.item (loaded_there past step.item step causes mark) taken causes in
          keeps load.0 load.1 (not_begun past ran.so_far load.2)
      by_mark (inr is) =
          keeps (no_mark_no_go step.effect.orders (none_left (last_such order_mark step.effect.orders) _ is.0).0)
          (stays_there step.item taken is.1) (ran.configuring is.1)

  -- the run that goes on passed nothing that is due
  running_passes_nothing_due : (past : History) (item : Item) (step : Step) → step.item ≡ item
      → IsTaken IsLawfulEvent past item → Causes past item step → Ran one joins past → IsRunning (situation past)
      → step_mark step ≡ None
      → (l : Launched) → launched past ≡ Some l → (run : Heading) → last_run past ≡ Some run → (n : ℕ)
      → n ≡ unwrap_or (end_of item) (position past) → (run.start ≤ n) × NoneDueUpTo l run n
  running_passes_nothing_due past (Accepted r) step item_is taken causes ran running none l is run run_is n n_is =
      let same : taken.0.run ≡ run = let e = sym taken.0.run_is ∙ run_is in cc in
      subst (λ m. (run.start ≤ m) × NoneDueUpTo l run m) (sym n_is)
      (subst (λ (run : Heading). (run.start ≤ r.end) × NoneDueUpTo l run r.end) same
      (by_went (goes_back r.mode) taken.1.lawful.went))
    where
      nowhere : mark_of_effect (report_effect past r r.outcome) ≡ None
      nowhere = sym (mark_of (report_effect past r r.outcome) step causes) ∙ none

      by_went : (b : Bool) → Went taken.1.program r (back_if b) → (taken.0.run.start ≤ r.end)
          × NoneDueUpTo l taken.0.run r.end
      by_went false went =
          let at_end = undue_end taken.1.program past r went nowhere in (
            begun_before one joins past r taken.0 taken.1 ran l is went,
            none_up_to one joins past r taken.0 taken.1 ran
                l is went at_end,
          )
      by_went true went =
          still one joins past r taken.0 taken.1 ran l is (stays_end taken.1.program past r went nowhere)
  running_passes_nothing_due past (Content request) step item_is taken causes ran running none l is run run_is n n_is =
      subst (λ m. (run.start ≤ m) × NoneDueUpTo l run m) (sym n_is) (ran.running running l is run run_is)
  running_passes_nothing_due past _ step item_is taken causes ran running none l is run run_is n n_is =
      subst (λ m. (run.start ≤ m) × NoneDueUpTo l run m) (sym n_is) (ran.running running l is run run_is)

  running_more : (past : History) (step : Step) → IsTaken IsLawfulEvent past step.item → Causes past step.item step
      → Ran one joins past → IsRunning (situation (past ++ step ∷ []))
      → (l : Launched) → launched (past ++ step ∷ []) ≡ Some l → (run : Heading)
      → last_run (past ++ step ∷ []) ≡ Some run
      → (run.start ≤ position (past ++ step ∷ [])) × NoneDueUpTo l run (position (past ++ step ∷ []))
  running_more past step taken causes ran running l is run run_is = by_run _ refl (item_begins past _ step causes)
    where
      by_mark : last_such go step.effect.orders ≡ None → (MarkIs IsRunning (step_mark step)
          ⊎ ((step_mark step ≡ None) × IsRunning (situation past)))
          → (run.start ≤ position (past ++ step ∷ [])) × NoneDueUpTo l run (position (past ++ step ∷ []))
      by_mark none (inl mark) = absurd (runs_not step (answers_only past step.item step causes) none mark)
      by_mark none (inr was) =
          running_passes_nothing_due past step.item step refl taken causes ran was.1 was.0 l
          (cc (launches_not IsLawfulEvent past step.item step taken causes was.1, launched-snoc past step)) run
          (cc (last_run-snoc past step)) (position (past ++ step ∷ [])) (position-snoc past step)

      by_run : (o : Option Heading) → last_such go step.effect.orders ≡ o
          → BeginsAt (unwrap_or (end_of step.item) (position past)) (last_such go step.effect.orders)
          → (run.start ≤ position (past ++ step ∷ [])) × NoneDueUpTo l run (position (past ++ step ∷ []))
      by_run None none begins = by_mark none (mark_unwrap IsRunning _ _ (rw (← (situation-snoc past step)) running))
      by_run (Some new) goes begins = here (subst (BeginsAt (unwrap_or (end_of step.item) (position past))) goes begins)
        where
          same : new ≡ run
          same = let e = sym (ap (λ o. or_else o (last_run past)) goes) ∙ sym (last_run-snoc past step) ∙ run_is in cc

          from : BeginsAt (unwrap_or (end_of step.item) (position past)) (Some new)
              → new.start ≡ unwrap_or (end_of step.item) (position past)
          from (begins_at run' is) = is

          here : BeginsAt (unwrap_or (end_of step.item) (position past)) (Some new)
              → (run.start ≤ position (past ++ step ∷ [])) × NoneDueUpTo l run (position (past ++ step ∷ []))
          here begins =
              let there : run.start ≡ position (past ++ step ∷ []) =
              ap (λ (r : Heading). r.start) (sym same) ∙ from begins ∙ sym (position-snoc past step) in
              (omega (arith, there), λ k above up_to. absurd (omega (arith, there, above, up_to)))

  -- a run that goes back stays where it began, while it runs
  stays_on : (past : History) (item : Item) (step : Step) → IsTaken IsLawfulEvent past item → Causes past item step
      → Ran one joins past → step_mark step ≡ None
      → (run : Heading) → last_run past ≡ Some run → goes_back run.mode ≡ true → position past ≡ run.start
      → unwrap_or (end_of item) (position past) ≡ run.start
  stays_on past item step taken causes ran none run run_is back was =
      grind (arith, common_steps, stays_end, mark_of) steps 200000

  back_more : (past : History) (step : Step) → IsTaken IsLawfulEvent past step.item → Causes past step.item step
      → Ran one joins past → IsRunning (situation (past ++ step ∷ []))
      → (run : Heading) → last_run (past ++ step ∷ []) ≡ Some run → goes_back run.mode ≡ true
      → position (past ++ step ∷ []) ≡ run.start
  back_more past step taken causes ran running run run_is back =
      position-snoc past step ∙ by_run (last_such go step.effect.orders) refl (item_begins past step.item step causes)
    where
      by_mark : last_such go step.effect.orders ≡ None → (MarkIs IsRunning (step_mark step)
          ⊎ ((step_mark step ≡ None) × IsRunning (situation past)))
          → unwrap_or (end_of step.item) (position past) ≡ run.start
      by_mark none (inl mark) = absurd (runs_not step (answers_only past step.item step causes) none mark)
      by_mark none (inr was) = grind (arith, common_steps, last_run-snoc, stays_on) steps 200000

      by_run : (o : Option Heading) → last_such go step.effect.orders ≡ o
          → BeginsAt (unwrap_or (end_of step.item) (position past)) (last_such go step.effect.orders)
          → unwrap_or (end_of step.item) (position past) ≡ run.start
      by_run None none begins = by_mark none (mark_unwrap IsRunning _ _ (rw (← (situation-snoc past step)) running))
      by_run (Some new) goes begins = here (subst (BeginsAt (unwrap_or (end_of step.item) (position past))) goes begins)
        where
          same : new ≡ run
          same = let e = sym (ap (λ o. or_else o (last_run past)) goes) ∙ sym (last_run-snoc past step) ∙ run_is in cc

          here : BeginsAt (unwrap_or (end_of step.item) (position past)) (Some new)
              → unwrap_or (end_of step.item) (position past) ≡ run.start
          here (begins_at run' is) = sym is ∙ ap (λ (r : Heading). r.start) same

  pub ran_more : (past : History) (step : Step) → IsTaken IsLawfulEvent past step.item → Causes past step.item step
      → Ran one joins past → Ran one joins (past ++ step ∷ [])
  ran_more past step taken causes ran = record {
    so_far = progress_more one joins past step.item step refl taken causes ran.so_far;
    configuring = configuring_more past step taken causes ran;
    running = running_more past step taken causes ran;
    back = back_more past step taken causes ran;
  }

  pub ran_kept : IsKept IsLawfulEvent (Ran one joins)
  ran_kept = record {
    step = λ past item new taken_ taken after here.
        subst (Ran one joins) (sym after.new_is)
        (ran_more past after.step (subst (IsTaken IsLawfulEvent past) (sym after.item_is) taken)
        (subst (λ i. Causes past i after.step) (sym after.item_is) after.causes) here);
  }

  pub ran_first : Ran one joins []
  ran_first =
      record {
        so_far = progress_first one joins;
        configuring = λ is. absurd is;
        running = λ is. absurd is;
        back = λ is.
            absurd is;
      }

  -- ---- the stop of a step

  abbrev RightStop : History → StopReason → ℕ → Type 0
  RightStop before reason m =
      (l : Launched) × (launched before ≡ Some l) × IsRightStop l before (last_run before) reason m

  due_stop : (l : Launched) (run : Heading) (m : ℕ) (r : Reason) → (due_in_run l run m ≡ Some r) × (run.start < m)
      × NoneDueBefore l run m → IsRunsStop l run (stop_of r) m
  due_stop l run m r is = grind (arith, common_steps) steps 200000

  -- a report stops its run where it has to
  module _ (past : History) (r : PlainReport) (accepts : Accepts past r) (lawful : IsLawfulReport r)
      (ran : Ran one joins past) (l : Launched) (is : launched past ≡ Some l) where
    abbrev run : Heading
    run = accepts.run

    stops_on : WentOn lawful.program r → (e : SliceOutcome) → EndsBy lawful.program r e → (s : StopReason)
        → last_such stop_of_event (report_effect past r e).events ≡ Some s → IsRunsStop l run s r.end
    stops_on went (slice.Due why) (is_due on due_there runs) s so_far =
        let same : stop_of why ≡ s = let e = sym (outputs_stop past r (stopped_events (stop_of why))) ∙ so_far in cc in
        let from = begun_there one joins past r accepts lawful ran l is in
        subst (λ s. IsRunsStop l run s r.end) same
        (due_stop l run r.end why (
          same_due one joins past r accepts lawful ran l is r.end
              ∙ due_there,
          omega (arith, from, on),
          none_before one joins past r accepts lawful ran l is went,
        ))
    stops_on went slice.Held (is_held stays runs) s so_far = by_pause (waiting_pause past) so_far
      where
        by_pause : (pauses : Bool) → last_such stop_of_event (held_effect past r pauses).events ≡ Some s
            → IsRunsStop l run s r.end
        by_pause true so_far =
            let same : stop.Pause ≡ s = let e = sym (outputs_stop past r (stopped_events stop.Pause)) ∙ so_far in cc in
            subst (λ s. IsRunsStop l run s r.end) same (still one joins past r accepts lawful ran l is stays)
        by_pause false so_far = let e = sym (outputs_stop_not past r) ∙ so_far in absurd cc
    stops_on went (slice.Fault fault) (faults early passed fails runs) s so_far =
        let same : stop.Exception (exception_of fault) ≡ s =
        let e = sym (outputs_stop past r (stopped_events (stop.Exception (exception_of fault)))) ∙ so_far in
        cc in
        let fails_there = ap (λ p. outcome p r.end) (sym (report_program one joins past r lawful l accepts
        (ran.so_far.progress (Some l) is))) ∙ fails in
        rw (← same) (
          fault,
          fault_told fault,
          fails_there,
          begun_before one joins past r accepts lawful ran l is went,
          none_up_to one joins past r accepts lawful ran l is went (by_end passed),
        )
      where
        by_end : (r.end ≡ r.start) ⊎ IsPassed lawful.program r r.end → NotDueAtEnd lawful.program r
        by_end (inl stays) = inl stays
        by_end (inr is) = inr is.undue
    stops_on went e ends_by s so_far = grind (arith, common_steps, outputs_stop_not, outputs_stop) steps 200000

    -- a run that goes back stops where it leads
    leads_there : (why : Reason) → goes_back r.mode ≡ true → goal_of lawful.program r.plan r.mode r.start ≡ Some
        (record { position = r.end; reason = why }) → IsRetreatsStop l run (stop_of why) r.end
    leads_there why back comes =
        let begun : run.start ≡ r.start = cc (
          ran.back (subst IsRunning (sym accepts.running) tt) run accepts.run_is
              (sym (ap (λ (h : Heading). goes_back h.mode) accepts.expected)
              ∙ back),
          starts_here one joins past r accepts lawful ran l is,
        ) in
        let goal : goal_of l.program run.plan run.mode run.start ≡ Some (record { position = r.end; reason = why }) =
        cc (accepts.expected, report_program one joins past r lawful l accepts (ran.so_far.progress (Some l) is)) in
        (record { position = r.end; reason = why }, goal, refl, reason_told why)

    stops_back : goes_back r.mode ≡ true → (e : SliceOutcome) → GoesBackBy lawful.program r e → (s : StopReason)
        → last_such stop_of_event (report_effect past r e).events ≡ Some s → IsRetreatsStop l run s r.end
    stops_back back slice.More ends_by s so_far = let e = sym (outputs_stop_not past r) ∙ so_far in absurd cc
    stops_back back (slice.Due why) (has_come comes) s so_far =
        let same : stop_of why ≡ s = let e = sym (outputs_stop past r (stopped_events (stop_of why))) ∙ so_far in cc in
        subst (λ s. IsRetreatsStop l run s r.end) same (leads_there why back comes)
    stops_back back slice.NoMemory ends_by s so_far = absurd cc
    stops_back back _ is s so_far = elim is [ ]

    stops_run : (s : StopReason) → last_such stop_of_event (report_effect past r r.outcome).events ≡ Some s
        → IsStopOf (goes_back run.mode) l run s r.end
    stops_run s so_far =
        rw (← (ap (λ (h : Heading). goes_back h.mode) accepts.expected)) (by_went _ refl lawful.lawful.went)
      where
        by_went : (b : Bool) → goes_back r.mode ≡ b → Went lawful.program r (back_if b) → IsStopOf b l run s r.end
        by_went false mode went = stops_on went r.outcome went.outcome s so_far
        by_went true mode went = stops_back mode r.outcome went.outcome s so_far

  report_stops : (past : History) (r : PlainReport) → Accepts past r → IsLawfulReport r → Ran one joins past
      → (s : StopReason) → last_such stop_of_event (report_effect past r r.outcome).events ≡ Some s
      → (l : Option Launched) → launched past ≡ l → RightStop past s r.end
  report_stops past r accepts lawful ran s so_far None is =
      let e = sym (ran.so_far.progress None is).1 ∙ accepts.run_is in absurd cc
  report_stops past r accepts lawful ran s so_far (Some l) is = grind (arith, common_steps, stops_run) steps 200000

  -- a reply stops the program at position 0
  reply_stops : (past : History) (o : Option StopReason) → StopsBy (situation past) past o → Ran one joins past
      → (s : StopReason) → o ≡ Some s → RightStop past s (position past)
  reply_stops past None no_stop ran s is = absurd cc
  reply_stops past (Some other) (at_first l r configuring launch due_is) ran s is =
      grind (arith, common_steps, position, reason_told) steps 200000

  pub launch_stops_not : (launch : Launch) (file : Option (List ℕ)) (reply : Reply)
      → Launches launch.arguments file reply
      → last_such stop_of_event reply.effect.events ≡ None
  launch_stops_not launch file reply is = grind (arith, common_steps) steps 200000

  pub stop_of_effect : (step : Step) (effect : Effect) → step.effect ≡ effect
      → stop_in step ≡ last_such stop_of_event effect.events
  stop_of_effect step effect is = ap (λ (e : Effect). last_such stop_of_event e.events) is

  step_stops : (past : History) (item : Item) (step : Step) → IsTaken IsLawfulEvent past item → Causes past item step
      → Ran one joins past → (s : StopReason) → stop_in step ≡ Some s
      → RightStop past s (unwrap_or (end_of item) (position past))
  step_stops past (Content (Some request)) step taken is ran s stop_is =
      reply_stops past _ (all_silent _ past request.body is.0 is.1).stops ran s (sym (stop_of_effect step _
      is.2.effect_is) ∙ stop_is)
  step_stops past (Accepted r) step taken is ran s stop_is =
      report_stops past r taken.0 taken.1 ran s (sym (stop_of_effect step _ is.effect_is) ∙ stop_is) _ refl
  step_stops past item step taken is ran s stop_is =
      grind (arith, common_steps, launch_stops_not, stop_of_effect) steps 200000

  pub each_stop_right : EachStopIsRight
  each_stop_right f events past rest lawful history before reason m stops_at =
      subst (RightStop before reason) (sym (stops_at.position_is ∙ position-snoc before _)) (step_stops before _ _
      was.taken was.causes was.held reason (stopped_last before _ reason _ _ was.causes stops_at.events_are))
    where
      each : EachTaken IsLawfulEvent (Ran one joins) past
      each =
          along IsLawfulEvent _ (each_kept IsLawfulEvent _ ran_kept) (each_first IsLawfulEvent _ ran_first) f events
          past rest (lawful_events events lawful) history

      was : WasTaken IsLawfulEvent (Ran one joins) before stops_at.step
      was = each.each before stops_at.step stops_at.after stops_at.past_is
