-- What `setBreakpoints` is replied, and the phase afterwards.
use Rattle.std.proofs.Common.{◌≡◌, ℕ, ◌+◌, Bool, true, false, ◌||◌, List, [], ◌∷◌, ◌++◌, map, Option, None, Some, Ok, refl, sym, ◌∙◌, ap, subst}
use Rattle.std.specs.Prelude.{IsSomeAnd, not, unwrap_or, option_map, if◌then◌else◌}
use Rattle.std.specs.Option.{option_to_list, option_map_or}
use Rattle.std.specs.List.{filter_map}
use Rattle.std.specs.declared.sync.Arc.{Arc}
use Rattle.std.specs.declared.alloc.Global.{Global}
use Rattle.pl0_unit.specs.declared.unit.Unit.{Unit as Compiled}
use Rattle.pl0_machine.specs.Machine.{program_of}
use Rattle.dap_msg.specs.declared.requests.initialize.InitializeArguments.{InitializeArguments}
use Rattle.dap_msg.specs.declared.requests.set_breakpoints.SetBreakpointsArguments.{SetBreakpointsArguments}
use Rattle.dap_msg.specs.declared.command.Command.TheVariants as command
use Rattle.dap_msg.specs.declared.outgoing.Body.TheVariants as body
use Rattle.dap_msg.specs.declared.outgoing.BreakpointAnswer.{BreakpointAnswer}
use Rattle.dbg_plan.specs.Breakpoints.{Breakpoint, plain_breakpoints}
use Rattle.dbg_plan.specs.Plans.{Listed, IsPlanOf}
use Rattle.dbg_plan.specs.Debugged.{Debugged}
use Rattle.dbg_runner.specs.Plain.{Heading, PlainOrder, Hold, goes_back}
use Rattle.dbg_runner.specs.Orders.{plain_order}
use Rattle.dbg_runner.specs.declared.order.Order.{Order}
use Rattle.dap_history.specs.Last.{or_else, last_such}
use Rattle.dap_history.specs.Plans.{Plan}
use Rattle.dap_history.specs.declared.situation.Situation.TheVariants.{Running}
use Rattle.dap_history.specs.History.{Step, History}
use Rattle.dap_history.specs.ReadingLaws.{ReadingsGoOn}
use Rattle.dap_history.specs.Readings.{order_mark, situation, go, runs, is_back, position, waiting_plan, hold_mark, is_held}
use Rattle.dap_history.specs.Replies.{Reply, nothing, OfProgram, reply_with}
use Rattle.dap_history.specs.Breakpoints.{offset, IsResolved, answer_to_line, effect_in, is_same_path}
use Rattle.dap_history.specs.Reactions.{Reaction, Answer, SetBreakpoints, other_source, SetsOf, Sets, Reacts}
use Rattle.dap_history.specs.Emission.{RepliesIn}
use Rattle.dap_replies.specs.declared.phase.Phase.{Phase}
use Rattle.dap_replies.specs.declared.phase.Phase.TheVariants as phase
use Rattle.dap_replies.specs.declared.phase.Target.{Target}
use Rattle.dap_replies.specs.Runs.{OrderedRun, heading_in, ordered_to_hold}
use Rattle.dap_replies.specs.Phases.{situation_of, IsTarget, IsDebuggee, IsRun, IsPhase}
use Rattle.dap_replies.specs.Replied.{HasReplied, request_step}
use Rattle.dap_replies.specs.Answering.{without_events}
use Rattle.dap_replies.specs.Lines.{AreAnswered, program_in}
use Rattle.dap_replies.specs.Choosing.{launched_as, Chooses, Carries}
use Rattle.dap_replies.specs.declared.choosing.Reaction.TheVariants as chosen
use Rattle.dap_replies.proofs.Situations.{replies_by, StandsAt, Stop, Fault, phase_at}
use Rattle.dap_replies.proofs.Unmoved.{unmoved, leaves_phase}
use Rattle.dap_replies.proofs.Stays.{situation_stays, target_stays, position_stays, plan_stays, last_run_stays, runs_stay, waiting_pause_stays, no_last}

-- ---- the reaction

sets : (past : History) (t : Target) (u : Compiled) (asked : SetBreakpointsArguments) (reaction : Reaction)
    → IsTarget t u past
    → SetsOf (is_same_path asked.path t.path) past (launched_as t u) asked.breakpoints reaction
    → Sets past asked reaction
sets past t u asked reaction target of =
    subst (λ o. OfProgram o (λ l. SetsOf (is_same_path asked.path l.path) past l asked.breakpoints reaction))
    (sym target.launched_is) of

-- lines are set in this program, where it is the launched one
abbrev SetsAt : History → SetBreakpointsArguments → Reaction → Target × Compiled → Type 0
SetsAt past asked reaction k =
    IsTarget k.0 k.1 past
    → SetsOf (is_same_path asked.path k.0.path) past (launched_as k.0 k.1) asked.breakpoints reaction

sets_in : (p : Phase) (past : History) (asked : SetBreakpointsArguments) (reaction : Reaction) → IsPhase p past
    → IsSomeAnd (program_in p) (SetsAt past asked reaction)
    → Reacts (situation_of p) past (command.SetBreakpoints asked) reaction
sets_in phase.Fresh past asked reaction is at = absurd at
sets_in (phase.Ready s) past asked reaction is at = absurd at
sets_in (phase.Launching s launch) past asked reaction is at = absurd at
sets_in (phase.Configuring t d) past asked reaction is at =
    sets past t d.unit asked reaction is.keeps.0 (at is.keeps.0)
sets_in (phase.Running t run) past asked reaction is at =
    sets past t run.unit asked reaction is.keeps.0 (at is.keeps.0)
sets_in (phase.Stopped t d) past asked reaction is at =
    sets past t d.unit asked reaction is.keeps.0 (at is.keeps.0)
sets_in (phase.Faulted t d) past asked reaction is at =
    sets past t d.unit asked reaction is.keeps.0 (at is.keeps.0)
sets_in (phase.Ended t u) past asked reaction is at = sets past t u.value asked reaction is.keeps (at is.keeps)

-- what is chosen in the phase of a launched program
module _ (p : Phase) (t : Target) (u : Compiled) (asked : SetBreakpointsArguments)
    (at : program_in p ≡ Some (t, u)) where
  abbrev says_of : History → Reaction → Bool → Type 0
  says_of past reaction same = SetsOf same past (launched_as t u) asked.breakpoints reaction

  -- lines of another source are answered alone
  pub answers_other : is_same_path asked.path t.path ≡ false
      → Chooses (command.SetBreakpoints asked) p (chosen.Answer (body.Breakpoints (other_source asked.breakpoints)))
  answers_other other =
      let reaction = Answer (body.Breakpoints (other_source asked.breakpoints)) in record {
        fits = refl;
        reacts = λ past is. sets_in p past asked reaction is
            (subst (λ o. IsSomeAnd o (SetsAt past asked reaction)) (sym at)
            (λ target. subst (says_of past reaction) (sym other) refl));
        suits = tt;
      }

  -- lines of its source are resolved
  pub sets_lines : (answers : List BreakpointAnswer) (plan : Listed)
      → is_same_path asked.path t.path ≡ true
      → AreAnswered (program_of u) (offset t.settings.lines_start_at_1) asked.breakpoints answers
      (plain_breakpoints plan.breakpoints)
      → IsPlanOf u plan
      → Chooses (command.SetBreakpoints asked) p (chosen.SetBreakpoints answers plan)
  sets_lines answers plan same answered of_unit =
      let main = program_of u in
      let found = answered.resolutions in
      let bs = plain_breakpoints plan.breakpoints in record {
        fits = subst (λ o. IsSomeAnd o (λ (k : Target × Compiled). IsPlanOf k.1 plan)) (sym at) of_unit;
        reacts = λ past is. sets_in p past asked (SetBreakpoints answers bs) is
            (subst (λ o. IsSomeAnd o (SetsAt past asked (SetBreakpoints answers bs))) (sym at)
            (λ target. subst (says_of past (SetBreakpoints answers bs)) (sym same) (record {
              answers = found;
              breakpoints = bs;
              resolved =
                  subst
                  (λ (i : InitializeArguments). IsResolved main (offset i.lines_start_at_1) asked.breakpoints found bs)
                  target.settings_are answered.resolved;
              reaction_is =
                  ap (λ l. SetBreakpoints l bs)
                  (answered.answers_are ∙ ap (λ (i : InitializeArguments). map
                  (answer_to_line main (offset i.lines_start_at_1))
                  found) target.settings_are);
            })));
        suits = tt;
      }

-- where the table has this reaction, its reply is that of the phase
set_replies : (p : Phase) (past : History) (asked : SetBreakpointsArguments) (answers : List BreakpointAnswer)
    (bs : List Breakpoint) → IsPhase p past
    → Reacts (situation_of p) past (command.SetBreakpoints asked) (SetBreakpoints answers bs)
    → RepliesIn (situation past) past (command.SetBreakpoints asked)
    (reply_with (body.Breakpoints answers) (effect_in (situation_of p) past bs))
set_replies p past asked answers bs is reacts =
    replies_by p past is (command.SetBreakpoints asked) (SetBreakpoints answers bs) reacts
    (reply_with (body.Breakpoints answers) (effect_in (situation_of p) past bs))
    (ap (λ s. reply_with (body.Breakpoints answers) (effect_in s past bs)) (sym is.situation_is))

-- ---- a plan that is put in

-- the step of such a request
abbrev set_step : ℕ → SetBreakpointsArguments → Reply → Step
set_step seq asked reply = request_step (record { seq = seq; body = command.SetBreakpoints asked }) reply

abbrev with_plan : Debugged → List Breakpoint → ℕ → Debugged
with_plan d bs n = record d { breakpoints = bs; counted_from = n }

-- the answers, and then a plan that is put in and counts from position n
abbrev puts : List BreakpointAnswer → List Breakpoint → ℕ → Reply
puts answers bs n =
    reply_with (body.Breakpoints answers) (record nothing
    { put_in = Some (record { breakpoints = bs; counted_from = n }) })

-- what a phase keeps where the session holds the debuggee
abbrev Holds : Target → Debugged → History → Type 0
Holds t d past = IsTarget t d.unit past × IsDebuggee d past

holds_after : ReadingsGoOn → (t : Target) (d : Debugged) (bs : List Breakpoint) (n : ℕ)
    (asked : SetBreakpointsArguments) (answers : List BreakpointAnswer) (past : History) (seq : ℕ) → Holds t d past
    → Holds t (with_plan d bs n) (past ++ set_step seq asked (puts answers bs n) ∷ [])
holds_after laws t d bs n asked answers past seq is =
    let step = set_step seq asked (puts answers bs n) in (
      target_stays laws past step refl refl refl refl t d.unit is.0,
      record {
        position_is = is.1.position_is ∙ sym (position_stays laws past step refl);
        breakpoints_are = ap (λ (p : Plan). p.breakpoints) (sym (laws.plan_is past step));
        counted_from_is = ap (λ (p : Plan). p.counted_from) (sym (laws.plan_is past step));
      },
    )

-- The phase now is one of every history in which the debuggee stands so under the new plan, in the same situation.
put_in : ReadingsGoOn → (t : Target) (d : Debugged) (bs : List Breakpoint) (n : ℕ) (asked : SetBreakpointsArguments)
    (answers : List BreakpointAnswer) (past : History) (old now : Phase) → IsPhase old past → Holds t d past
    → RepliesIn (situation past) past (command.SetBreakpoints asked) (puts answers bs n)
    → ((new : History) → situation new ≡ situation_of old → Holds t (with_plan d bs n) new → IsPhase now new)
    → HasReplied (command.SetBreakpoints asked) past (without_events (Ok (body.Breakpoints answers)) None now)
put_in laws t d bs n asked answers past old now is holds replies is_now = record {
  reply = puts answers bs n;
  replies = replies;
  gives = record { result_is = refl; effect_is = record { events_are = refl; orders_are = refl } };
  phase_is = λ seq. let step = set_step seq asked (puts answers bs n) in
      is_now (past ++ step ∷ []) (situation_stays laws past step refl ∙ is.situation_is)
      (holds_after laws t d bs n asked answers past seq holds);
}

pub put_in_before_start : ReadingsGoOn → (t : Target) (d now : Debugged) (answers : List BreakpointAnswer)
    (plan : Listed) → d.next ≡ d.position
    → now ≡ with_plan d (plain_breakpoints plan.breakpoints) d.next
    → Carries (phase.Configuring t d) (chosen.SetBreakpoints answers plan)
    (without_events (Ok (body.Breakpoints answers)) None (phase.Configuring t now))
put_in_before_start laws t d now answers plan next now_is (command.SetBreakpoints asked) choice past is =
    let bs = plain_breakpoints plan.breakpoints in
    put_in laws t d bs 0 asked answers past (phase.Configuring t d) (phase.Configuring t now) is
    (is.keeps.0, is.keeps.1)
    (set_replies (phase.Configuring t d) past asked answers bs is (choice.reacts past is))
    (λ new at holds. subst (λ x. IsPhase (phase.Configuring t x) new)
    (sym (now_is ∙ ap (λ n. with_plan d bs n) (next ∙ is.keeps.2)))
    (record { situation_is = at; keeps = (holds.0, holds.1, is.keeps.2) }))
put_in_before_start laws t d now answers plan next now_is _ choice past is = absurd choice.suits

-- the same where the program stands
put_in_there : ReadingsGoOn → (t : Target) (d now : Debugged) (bs : List Breakpoint) (asked : SetBreakpointsArguments)
    (answers : List BreakpointAnswer) (past : History) (make : Debugged → Phase) → IsPhase (make d) past
    → Holds t d past
    → RepliesIn (situation past) past (command.SetBreakpoints asked) (puts answers bs (position past + 1))
    → now ≡ with_plan d bs (d.position + 1)
    → ((x : Debugged) (new : History) → situation new ≡ situation_of (make d) → Holds t x new → IsPhase (make x) new)
    → HasReplied (command.SetBreakpoints asked) past (without_events (Ok (body.Breakpoints answers)) None (make now))
put_in_there laws t d now bs asked answers past make is holds replies now_is is_then =
    put_in laws t d bs (position past + 1) asked answers past (make d) (make now) is holds replies
    (λ new at after. subst (λ x. IsPhase (make x) new)
    (sym (now_is ∙ ap (λ n. with_plan d bs (n + 1)) holds.1.position_is))
    (is_then (with_plan d bs (position past + 1)) new at after))

pub put_in_standing : ReadingsGoOn → (s : StandsAt) (t : Target) (d now : Debugged) (answers : List BreakpointAnswer)
    (plan : Listed) → now ≡ with_plan d (plain_breakpoints plan.breakpoints) (d.position + 1)
    → Carries (phase_at s t d) (chosen.SetBreakpoints answers plan)
    (without_events (Ok (body.Breakpoints answers)) None (phase_at s t now))
put_in_standing laws Stop t d now answers plan now_is (command.SetBreakpoints asked) choice past is =
    let bs = plain_breakpoints plan.breakpoints in
    put_in_there laws t d now bs asked answers past (phase.Stopped t) is is.keeps
    (set_replies (phase.Stopped t d) past asked answers bs is (choice.reacts past is)) now_is
    (λ x new at holds. record { situation_is = at; keeps = holds })
put_in_standing laws Fault t d now answers plan now_is (command.SetBreakpoints asked) choice past is =
    let bs = plain_breakpoints plan.breakpoints in
    put_in_there laws t d now bs asked answers past (phase.Faulted t) is is.keeps
    (set_replies (phase.Faulted t d) past asked answers bs is (choice.reacts past is)) now_is
    (λ x new at holds. record { situation_is = at; keeps = holds })
put_in_standing laws s t d now answers plan now_is _ choice past is = absurd choice.suits

-- ---- a plan that is not kept

pub answers_after_end : ReadingsGoOn → (t : Target) (u : Arc Compiled Global) (answers : List BreakpointAnswer)
    (plan : Listed) → Carries (phase.Ended t u) (chosen.SetBreakpoints answers plan)
    (without_events (Ok (body.Breakpoints answers)) None (phase.Ended t u))
answers_after_end laws t u answers plan (command.SetBreakpoints asked) choice past is =
    unmoved (phase.Ended t u) (Ok (body.Breakpoints answers)) (command.SetBreakpoints asked) past is
    (record {
      reaction = SetBreakpoints answers (plain_breakpoints plan.breakpoints);
      reacts = choice.reacts past is;
      reply_is =
          ap (λ s. reply_with (body.Breakpoints answers) (effect_in s past (plain_breakpoints plan.breakpoints)))
          (sym is.situation_is);
    })
    (leaves_phase laws (phase.Ended t u) (command.SetBreakpoints asked) (body.Breakpoints answers) tt past is)
answers_after_end laws t u answers plan _ choice past is = absurd choice.suits

-- ---- a plan that waits

-- what an order of Hold, or none, is asked for
abbrev pub once : Bool → ℕ → List PlainOrder
once held number = if held then [] else Hold number ∷ []

pub once_no_mark : (held : Bool) (n : ℕ) → last_such order_mark (once held n) ≡ None
once_no_mark true n = refl
once_no_mark false n = refl

pub once_no_go : (held : Bool) (n : ℕ) → filter_map go (once held n) ≡ []
once_no_go true n = refl
once_no_go false n = refl

-- a run that goes back isn't held
once_held : (held back : Bool) (n : ℕ) → unwrap_or (last_such hold_mark (once (held || back) n)) held ≡ held || not back
once_held true true n = refl
once_held true false n = refl
once_held false true n = refl
once_held false false n = refl

-- the last run goes back where its mode does
pub back_as : (past : History) (run : OrderedRun) → IsRun run past → is_back past ≡ goes_back run.mode
back_as past run is =
    ap (λ (o : Option Heading). option_map_or (λ (h : Heading). goes_back h.mode) o false) is.ordered
    ∙ ap (λ (h : Heading). goes_back h.mode) is.goes_on

-- the order is asked for as the definitions say
pub once_as : (past : History) (run : OrderedRun) → IsRun run past → run.held || goes_back run.mode ≡ is_held past
    || is_back past
once_as past run is =
    ap (λ h. h || goes_back run.mode) is.held_is ∙ ap (λ b. is_held past || b) (sym (back_as past run is))

pub held_after : ReadingsGoOn → (past : History) (step : Step) (run : OrderedRun) → IsRun run past
    → step.effect.orders ≡ once (is_held past || is_back past) (runs past)
    → (ordered_to_hold run).held ≡ is_held (past ++ step ∷ [])
held_after laws past step run is orders_are =
    ap (λ h. h || not (goes_back run.mode)) is.held_is
    ∙ ap (λ b. is_held past || not b) (sym (back_as past run is))
    ∙ sym (once_held (is_held past) (is_back past) (runs past))
    ∙ ap (λ os. unwrap_or (last_such hold_mark os) (is_held past)) (sym orders_are)
    ∙ sym (laws.held_is past step)

run_waits : ReadingsGoOn → (past : History) (run : OrderedRun) (bs : List Breakpoint) (seq : ℕ)
    (asked : SetBreakpointsArguments) (answers : List BreakpointAnswer) → IsRun run past
    → IsRun (ordered_to_hold (record run { waiting_plan = Some bs }))
    (past ++ set_step seq asked (reply_with (body.Breakpoints answers) (effect_in Running past bs)) ∷ [])
run_waits laws past run bs seq asked answers is =
    let step = set_step seq asked (reply_with (body.Breakpoints answers) (effect_in Running past bs)) in
    let no_go = once_no_go (is_held past || is_back past) (runs past) in record {
      first = is.first;
      ordered = last_run_stays laws past step no_go ∙ is.ordered;
      goes_on =
          ap (λ n. record is.first { start = n }) (position_stays laws past step refl) ∙ is.goes_on
          ∙ ap (λ n. heading_in n run) (sym (runs_stay laws past step no_go));
      breakpoints_are = is.breakpoints_are ∙ ap (λ (p : Plan). p.breakpoints) (sym (plan_stays laws past step refl));
      counted_from_is = is.counted_from_is ∙ ap (λ (p : Plan). p.counted_from) (sym (plan_stays laws past step refl));
      waiting_plan_is =
          sym (laws.waiting_plan_is past step ∙ ap (λ o. unwrap_or
          (or_else (option_map (λ run. None) o) (Some (Some bs))) (waiting_plan past))
          (no_last go step.effect.orders no_go));
      waiting_pause_is = is.waiting_pause_is ∙ sym (waiting_pause_stays laws past step no_go refl);
      held_is = held_after laws past step run is refl;
    }

pub waits_in_run : ReadingsGoOn → (t : Target) (run now : OrderedRun) (answers : List BreakpointAnswer)
    (plan : Listed) (order : Option Order)
    → option_to_list (option_map plain_order order) ≡ once (run.held || goes_back run.mode) t.runs
    → now ≡ ordered_to_hold (record run { waiting_plan = Some (plain_breakpoints plan.breakpoints) })
    → Carries (phase.Running t run) (chosen.SetBreakpoints answers plan)
    (without_events (Ok (body.Breakpoints answers)) order (phase.Running t now))
waits_in_run laws t run now answers plan order order_is now_is (command.SetBreakpoints asked) choice past is =
    let bs = plain_breakpoints plan.breakpoints in
    let reply = reply_with (body.Breakpoints answers) (effect_in Running past bs) in record {
      reply = reply;
      replies = set_replies (phase.Running t run) past asked answers bs is (choice.reacts past is);
      gives = record {
        result_is = refl;
        effect_is = record {
          events_are = refl;
          orders_are =
              order_is ∙ ap (λ b. once b t.runs) (once_as past run is.keeps.1)
              ∙ ap (λ n. once (is_held past || is_back past) n) is.keeps.0.runs_are;
        };
      };
      phase_is = λ seq. let step = set_step seq asked reply in
          subst (λ x. IsPhase (phase.Running t x) (past ++ step ∷ [])) (sym now_is) (record {
            situation_is =
                situation_stays laws past step
                (ap (λ o. or_else o None) (once_no_mark (is_held past || is_back past) (runs past))) ∙ is.situation_is;
            keeps = (
              target_stays laws past step refl (once_no_go (is_held past || is_back past) (runs past)) refl refl
                  t run.unit is.keeps.0,
              run_waits laws past run bs seq asked answers is.keeps.1,
            );
          });
    }
waits_in_run laws t run now answers plan order order_is now_is _ choice past is = absurd choice.suits
