-- A program is told to have exited where it has ended, and only there.
use Rattle.dap_history.proofs.Common.{Dialect, Accepted, Accepts, All, Causes, Command, Content, EndsBy, EventBody, Faulted, GoesBackBy, Heading, History, Incoming, IsHistoryOf, IsLawfulReport, IsOutput, Item, Launched, Loaded, None, Ok, Option, Outgoing, PlainReport, Rest, Running, Situation, SliceOutcome, Some, Step, StopReason, Went, WentOn, WrittenJoins, [], ap, arith, at, back_if, depth_at, end_of, faults, filter_map, filter_map-append, goes_back, inl, inr, is_due, item_leads, lacks_memory, launched, or_else, refl, situation, stop_in, subst, sym, takes_all, unwrap_or, ℕ, ◌++◌, ◌<◌, ◌∙◌, ◌∷◌, ◌≡◌, AreLawful, Block, Effect, Launch, Launches, Reply}
use Rattle.std.proofs.Common.{List, Bool, true, false}
use Rattle.std.proofs.lemmas.List.Elements.{All-head, All-tail}
use Rattle.dap_msg.specs.declared.command.Command.TheVariants as command
use Rattle.dap_msg.specs.declared.outgoing.Outgoing.TheVariants.{Answer}
use Rattle.dap_msg.specs.declared.outgoing.EventBody.TheVariants as event
use Rattle.pl0_meaning.specs.declared.RunFault.{RunFault}
use Rattle.pl0_meaning.specs.Runs.{outcome, Faults}
use Rattle.pl0_meaning.specs.Laws.{RunsHaveNoGaps, NothingFollowsTheEnd}
use Rattle.dbg_runner.specs.Lawful.{is_over, is_held, IsSpent}
use Rattle.dbg_runner.specs.declared.outcome.SliceOutcome.TheVariants as slice
use Rattle.dap_history.specs.Readings.{position}
use Rattle.dap_history.specs.Stops.{tells, TellsFirst, TellsEnd, TellsBy}
use Rattle.dap_history.specs.Transitions.{command_leads, launch_leads, report_leads, if_granted}
use Rattle.dap_history.specs.Ends.{ExitsAt, HasEnded, EndsWith, EachEndIsTheEnd, ComesFurther, EachEndIsTold}
use Rattle.dap_history.proofs.Readings.{position-snoc, launched-snoc}
use Rattle.dap_history.proofs.Texts.{OneProgram}
use Rattle.dap_history.proofs.Along.{IsTaken, IsKept, IsLawfulEvent, lawful_events, along}
use Rattle.dap_history.proofs.Each.{WasTaken, EachTaken, each_kept, each_first}
use Rattle.dap_history.proofs.Silent.{all_silent}
use Rattle.dap_history.proofs.Outputs.{report_launches}
use Rattle.dap_history.proofs.Telling.{each_report_told}
use Rattle.dap_history.proofs.Granted.{each_reply_told}
use Rattle.dap_history.proofs.Transitions.{step_leads}
use Rattle.dap_history.proofs.Progress.{report_program}
use Rattle.dap_history.proofs.Passing.{Ran, starts_here, begun_there, none_before}
use Rattle.dap_history.proofs.AsAsked.{WentBy, Kept, kept_kept, kept_first, nowhere, forward_by}
use Rattle.dap_history.proofs.Alive.{report_lives}
use Rattle.std.proofs.lemmas.Grind.{common_steps}

-- ---- exits among events

abbrev exit_of : EventBody → Option ℕ
exit_of (event.Exited code) = Some code
exit_of _ = None

abbrev exits : List EventBody → List ℕ
exits events = filter_map exit_of events

outputs_exit_not : (es : List EventBody) → All IsOutput es → exits es ≡ []
outputs_exit_not (event.Output v ∷ es) all = outputs_exit_not es (All-tail IsOutput _ es all)
outputs_exit_not (event.Log text ∷ es) all = outputs_exit_not es (All-tail IsOutput _ es all)
outputs_exit_not es all = grind (arith, common_steps, All-head) steps 200000

-- the codes of all exits of some events, of which one is this
exits_with : (front back : List EventBody) (code : ℕ) (events : List EventBody)
    → events ≡ front ++ event.Exited code ∷ back → exits events ≡ exits front ++ code ∷ exits back
exits_with front back code events is = ap exits is ∙ filter_map-append exit_of front (event.Exited code ∷ back)

not_none : (front back : List ℕ) (code : ℕ) → ¬ ([] ≡ front ++ code ∷ back)
not_none [] back code is = absurd cc
not_none (c ∷ front) back code is = absurd cc

only_one : (front back : List ℕ) (code other : ℕ) → other ∷ [] ≡ front ++ code ∷ back → other ≡ code
only_one [] back code other is = cc
only_one (c ∷ []) back code other is = absurd cc
only_one (c ∷ d ∷ front) back code other is = absurd cc

-- events that are outputs and then these
after_outputs : (outputs last events : List EventBody) → All IsOutput outputs → events ≡ outputs ++ last
    → exits events ≡ exits last
after_outputs outputs last events all is = cc (filter_map-append exit_of outputs last, outputs_exit_not outputs all)

-- a report exits where it is done
report_exits : (before : History) (e : SliceOutcome) (front back : List ℕ) (code : ℕ)
    → exits (tells before e) ≡ front ++ code ∷ back → (e ≡ slice.Done) × (code ≡ 0)
report_exits before e front back code is = grind (arith, common_steps, only_one, not_none) steps 200000

-- a request exits before a fault
ends_exit : (s : Situation) (events : List EventBody) (front back : List ℕ) (code : ℕ) → TellsEnd s events
    → exits events ≡ front ++ code ∷ back → (s ≡ Faulted) × (code ≡ 1)
ends_exit s events front back code here is = grind (arith, common_steps, not_none, only_one) steps 200000

first_exits_not : (events : List EventBody) (front back : List ℕ) (code : ℕ) → TellsFirst events
    → ¬ (exits events ≡ front ++ code ∷ back)
first_exits_not events front back code (outputs, all, inl same) is =
    not_none front back code (sym (ap exits same ∙ outputs_exit_not outputs all) ∙ is)
first_exits_not events front back code (outputs, all, inr stops) is =
    not_none front back code (sym (after_outputs outputs _ events all stops.1) ∙ is)

reply_exits : (s : Situation) (asked : Command) (events : List EventBody) (front back : List ℕ) (code : ℕ)
    → TellsBy s asked events → exits events ≡ front ++ code ∷ back → (s ≡ Faulted) × (code ≡ 1)
reply_exits s (command.Resume kind a) events front back code told is = ends_exit s events front back code told is
reply_exits s asked events front back code told is = grind (arith, common_steps, first_exits_not, not_none) steps 200000

launch_exits_not : (launch : Launch) (file : Option (List ℕ)) (reply : Reply) → Launches launch.arguments file reply
    → exits reply.effect.events ≡ []
launch_exits_not launch file reply is = grind (arith, common_steps) steps 200000

-- ---- before a fault

-- the launched program stands before a step that faults
abbrev FaultAt : History → Type 0
FaultAt past =
    (l : Launched) × (fault : RunFault) × (launched past ≡ Some l)
    × (outcome l.program (position past) ≡ Faults fault)

abbrev FaultsThere : History → Type 0
FaultsThere past = situation past ≡ Faulted → FaultAt past

-- only a step that faults leads there
command_keeps : (asked : Command) (s : Situation) (o : Option StopReason) → command_leads asked s o ≡ Faulted
    → s ≡ Faulted
command_keeps asked s o is = grind (arith, common_steps) steps 200000

granted_keeps : (answer : Option Outgoing) (there s : Situation) → (there ≡ Faulted → s ≡ Faulted)
    → if_granted answer there s ≡ Faulted → s ≡ Faulted
granted_keeps (Some (Answer seq name (Ok b))) there s keeps is = keeps is
granted_keeps _ there s keeps is = is

launch_keeps : (s : Situation) → launch_leads s ≡ Faulted → s ≡ Faulted
launch_keeps s is = grind (arith, common_steps) steps 200000

fault_by : (e : SliceOutcome) (o : Option StopReason) → report_leads e Running o ≡ Faulted
    → (fault : RunFault) × (e ≡ slice.Fault fault)
fault_by e o is = grind (arith, common_steps) steps 200000

abbrev Any : Incoming → Type 0
Any e = Unit {0}

any_taken : (past : History) (item : Item) → IsTaken IsLawfulEvent past item → IsTaken Any past item
any_taken past item taken = grind (arith, common_steps) steps 200000

module _ (one : OneProgram) (joins : WrittenJoins) where
  -- the fault of a report is that of its next step
  faults_on : (main : Block) (r : PlainReport) (b : Bool) → Went main r (back_if b) → (e : SliceOutcome)
      → r.outcome ≡ e → (fault : RunFault) → e ≡ slice.Fault fault → outcome main r.end ≡ Faults fault
  faults_on main r false went e e_is fault is =
      by_outcome r.outcome went.outcome (e_is ∙ is)
    where
      by_outcome : (o : SliceOutcome) → EndsBy main r o → o ≡ slice.Fault fault → outcome main r.end ≡ Faults fault
      by_outcome (slice.Fault other) (faults early passed fails runs) same =
          let f : other ≡ fault = cc in fails ∙ ap Faults f
      by_outcome slice.More by same = absurd cc
      by_outcome (slice.Due why) by same = absurd cc
      by_outcome slice.Held by same = absurd cc
      by_outcome slice.Done by same = absurd cc
      by_outcome slice.NoMemory by same = absurd cc
  faults_on main r true went e e_is fault is =
      by_outcome r.outcome went.outcome (e_is ∙ is)
    where
      by_outcome : (o : SliceOutcome) → GoesBackBy main r o → o ≡ slice.Fault fault
          → outcome main r.end ≡ Faults fault
      by_outcome (slice.Fault other) by same = elim by [ ]
      by_outcome slice.More by same = absurd cc
      by_outcome (slice.Due why) by same = absurd cc
      by_outcome slice.Held by same = absurd cc
      by_outcome slice.Done by same = absurd cc
      by_outcome slice.NoMemory by same = absurd cc

  -- the launched program, of which a report is accepted
  launched_then : (past : History) (r : PlainReport) → Accepts past r → Ran one joins past
      → (l : Launched) × (launched past ≡ Some l)
  launched_then past r accepts ran = by_launched (launched past) refl
    where
      by_launched : (o : Option Launched) → launched past ≡ o → (l : Launched) × (launched past ≡ Some l)
      by_launched (Some l) is = (l, is)
      by_launched None is = let e = sym (ran.so_far.progress None is).1 ∙ accepts.run_is in absurd cc

  module _ (past : History) (step : Step) (ran : Ran one joins past) (there : FaultsThere past) where
    stays_there : (item : Item) → step.item ≡ item → step.effect.launched ≡ None → end_of item ≡ None
        → situation past ≡ Faulted → FaultAt (past ++ step ∷ [])
    stays_there item item_is none stays faulted =
        let was = there faulted in
        (was.0, was.1, cc (launched-snoc past step, was.2), cc (position-snoc past step, was.3))

    fault_more : (item : Item) → step.item ≡ item → IsTaken IsLawfulEvent past item → Causes past item step
        → item_leads item step.answer (stop_in step) (situation past) ≡ Faulted → FaultAt (past ++ step ∷ [])
    fault_more (Content None) item_is taken is faulted = stays_there _ item_is (cc is.effect_is) refl faulted
    fault_more (Content (Some request)) item_is taken is faulted =
        stays_there _ item_is (ap (λ (e : Effect). e.launched) is.2.effect_is ∙ (all_silent _ past request.body is.0
        is.1).no_launch) refl (granted_keeps step.answer _ _ (command_keeps request.body _ _) faulted)
    fault_more (Loaded launch file) item_is taken is faulted =
        grind (arith, common_steps, granted_keeps, launch_keeps) steps 200000
    fault_more (Accepted r) item_is taken is faulted =
        let by = fault_by r.outcome (stop_in step)
        (ap (λ s. report_leads r.outcome s (stop_in step)) (sym taken.0.running) ∙ faulted) in
        let l = launched_then past r taken.0 ran in (
          l.0,
          by.0,
          launched-snoc past step
              ∙ ap (λ o. or_else o (launched past))
              (ap (λ (e : Effect). e.launched) is.effect_is ∙ report_launches past r r.outcome) ∙ l.1,
          ap (outcome l.0.program) (position-snoc past step
              ∙ ap (λ i. unwrap_or (end_of i) (position past)) item_is)
              ∙ ap (λ p. outcome p r.end)
              (sym (report_program one joins past r taken.1 l.0 taken.0 (ran.so_far.progress (Some l.0) l.1)))
              ∙ faults_on taken.1.program r (goes_back r.mode) taken.1.lawful.went r.outcome refl by.0 by.1,
        )
    fault_more item item_is taken is faulted = stays_there item item_is (cc is.effect_is) refl faulted

  -- ---- along a history

  abbrev Both : History → Type 0
  Both past = Kept one joins past × FaultsThere past

  both_kept : IsKept IsLawfulEvent Both
  both_kept = record {
    step = λ past item new taking taken after here.
        let taken_now = subst (IsTaken IsLawfulEvent past) (sym after.item_is) taken in
        let causes_now = subst (λ i. Causes past i after.step) (sym after.item_is) after.causes in (
          (kept_kept one joins).step past item new taking taken after here.0,
          subst FaultsThere (sym after.new_is)
              (λ faulted. fault_more past after.step here.0.0 here.1 after.step.item refl taken_now causes_now
              (sym (step_leads past after.step (any_taken past after.step.item taken_now) causes_now) ∙ faulted)),
        );
  }

  both_first : Both []
  both_first = (kept_first one joins, λ is. absurd cc)

  both_at : (f : Dialect) (events : List Incoming) (past : History) (rest : Rest) → AreLawful events
      → IsHistoryOf f events past rest
      → EachTaken IsLawfulEvent Both past
  both_at f events past rest lawful history =
      along IsLawfulEvent (EachTaken IsLawfulEvent Both) (each_kept IsLawfulEvent Both both_kept)
      (each_first IsLawfulEvent Both both_first) f events past rest (lawful_events events lawful) history

  -- ---- the end of a run

  done_on : (main : Block) (r : PlainReport) (e : SliceOutcome) → EndsBy main r e → e ≡ slice.Done
      → (r.start < r.end) × (at main r.end ≡ Some [])
  done_on main r slice.Done (is_over on over) is = (on, over)
  done_on main r _ by is = absurd cc

  done_back : (main : Block) (r : PlainReport) (e : SliceOutcome) → GoesBackBy main r e → ¬ (e ≡ slice.Done)
  done_back main r e by is = grind (arith, common_steps) steps 200000

  module _ (past : History) (r : PlainReport) (accepts : Accepts past r) (lawful : IsLawfulReport r)
      (kept : Kept one joins past) (done : r.outcome ≡ slice.Done) (l : Launched) (there : launched past ≡ Some l)
    where
      abbrev run : Heading
      run = accepts.run

      abbrev by : WentBy past l run
      by = kept.1 l run there accepts.run_is

      ended_on : goes_back r.mode ≡ false → WentOn lawful.program r → HasEnded past r.end
      ended_on on went =
          let over = done_on lawful.program r r.outcome went.outcome done in
          let from = begun_there one joins past r accepts lawful kept.0 l there in
          let forward = sym (ap (λ (h : Heading). goes_back h.mode) accepts.expected) ∙ on in
          record {
            l = l;
            launched_is = there;
            run = run;
            run_is = accepts.run_is;
            forward = forward;
            asked = by.asked;
            from = by.from;
            goes = by.goes;
            over = ap (λ p. at p r.end)
                (sym (report_program one joins past r lawful l accepts (kept.0.so_far.progress (Some l) there)))
                ∙ over.1;
            on = omega (arith, from, over.0);
            nowhere = λ k above below.
                nowhere l run by.asked by.from
                (forward_by by.asked (depth_at l.program by.from) run by.mode_is forward) by.mode_is k
                (none_before one joins past r accepts lawful kept.0 l there went k above below);
          }

      has_ended : HasEnded past r.end
      has_ended = by_went (goes_back r.mode) refl lawful.lawful.went
        where
          by_went : (b : Bool) → goes_back r.mode ≡ b → Went lawful.program r (back_if b) → HasEnded past r.end
          by_went false on went = ended_on on went
          by_went true on went = absurd (done_back lawful.program r r.outcome went.outcome done)

  -- ---- only where it has ended

  module _ (f : Dialect) (events : List Incoming) (past : History) (rest : Rest) (lawful : AreLawful events)
      (history : IsHistoryOf f events past rest) (before : History) (code m : ℕ) (there : ExitsAt past before code m)
    where
      was : WasTaken IsLawfulEvent Both before there.step
      was = (both_at f events past rest lawful history).each before there.step there.after there.past_is

      codes_are : exits there.step.effect.events ≡ exits there.front ++ code ∷ exits there.back
      codes_are = exits_with there.front there.back code there.step.effect.events there.events_are

      silent : exits there.step.effect.events ≡ [] → EndsWith before code m
      silent none = absurd (not_none (exits there.front) (exits there.back) code (sym none ∙ codes_are))

      m_is : (item : Item) → there.step.item ≡ item → m ≡ unwrap_or (end_of item) (position before)
      m_is item item_is =
          there.position_is ∙ position-snoc before there.step
          ∙ ap (λ i. unwrap_or (end_of i) (position before)) item_is

      end_by : (item : Item) → there.step.item ≡ item → IsTaken IsLawfulEvent before item
          → Causes before item there.step → EndsWith before code m
      end_by (Content (Some request)) item_is taken is =
          let told = reply_exits (situation before) request.body there.step.effect.events (exits there.front)
          (exits there.back) code
          (each_reply_told f events past rest history before there.step there.after there.past_is request item_is)
          codes_are in
          let fault = was.held.1 told.0 in
          subst (λ c. EndsWith before c m) (sym told.1) (record {
            l = fault.0;
            launched_is = fault.2;
            faulted = told.0;
            fault = fault.1;
            faults = ap (outcome fault.0.program) (m_is (Content (Some request)) item_is) ∙ fault.3;
          })
      end_by (Accepted r) item_is taken is =
          let told = each_report_told f events past rest history before there.step there.after there.past_is r item_is
          in
          let done = report_exits before r.outcome (exits there.front) (exits there.back) code
          (sym (after_outputs told.1.0 (tells before r.outcome) there.step.effect.events told.1.1 told.1.2)
          ∙ codes_are) in
          subst (λ c. EndsWith before c m) (sym done.1)
          (subst (HasEnded before) (sym (m_is (Accepted r) item_is))
          (has_ended before r taken.0 taken.1 was.held.0 done.0 (launched_then before r taken.0 was.held.0.0).0
          (launched_then before r taken.0 was.held.0.0).1))
      end_by (Loaded launch file) item_is taken is =
          silent (ap (λ (e : Effect). exits e.events) is.2.effect_is ∙ launch_exits_not launch file is.0 is.1)
      end_by item item_is taken is = silent (ap (λ (e : Effect). exits e.events) is.effect_is)

  pub each_end : EachEndIsTheEnd
  each_end f events past rest lawful history before code m there =
      end_by f events past rest lawful history before code m there there.step.item refl
      (was f events past rest lawful history before code m there).taken
      (was f events past rest lawful history before code m there).causes

  -- ---- where it has to be told

  further_on : (main : Block) (l : Launched) (r : PlainReport) (start : ℕ) → main ≡ l.program → r.start ≡ start
      → (e : SliceOutcome) → EndsBy main r e → ComesFurther l start r.end e
  further_on main l r start same from slice.More (takes_all spent undue runs) = by_spent spent
    where
      by_spent : IsSpent main r → start < r.end
      by_spent (inl all) = omega (arith, all, from)
      by_spent (inr some) = let on = some.0 in omega (arith, on, from)
  further_on main l r start same from (slice.Due why) (is_due on there runs) = omega (arith, on, from)
  further_on main l r start same from slice.Done (is_over on over) = omega (arith, on, from)
  further_on main l r start same from (slice.Fault fault) (faults early passed fails runs) = cc
  further_on main l r start same from slice.Held (is_held stays runs) = stays ∙ from
  further_on main l r start same from slice.NoMemory (lacks_memory stays runs) = stays ∙ from

  pub each_told : RunsHaveNoGaps → NothingFollowsTheEnd → EachEndIsTold
  each_told no_gaps ends f events past rest lawful history before step after past_is r item_is =
      (l.0, l.1, report_lives one joins no_gaps ends before r taken.0 taken.1 was.held.0.0 l.0 l.1, further)
    where
      was : WasTaken IsLawfulEvent Both before step
      was = (both_at f events past rest lawful history).each before step after past_is

      taken : IsTaken IsLawfulEvent before (Accepted r)
      taken = subst (IsTaken IsLawfulEvent before) item_is was.taken

      l : (l : Launched) × (launched before ≡ Some l)
      l = launched_then before r taken.0 was.held.0.0

      further : goes_back r.mode ≡ false → ComesFurther l.0 (position before) r.end r.outcome
      further on = by_went (goes_back r.mode) on taken.1.lawful.went
        where
          by_went : (b : Bool) → b ≡ false → Went taken.1.program r (back_if b)
              → ComesFurther l.0 (position before) r.end r.outcome
          by_went false is went =
              further_on taken.1.program l.0 r (position before)
              (report_program one joins before r taken.1 l.0 taken.0 (was.held.0.0.so_far.progress (Some l.0) l.1))
              (starts_here one joins before r taken.0 taken.1 was.held.0.0 l.0 l.1) r.outcome went.outcome
          by_went true is went = absurd cc
