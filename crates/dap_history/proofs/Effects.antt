-- No item leads nowhere: what its texts read as, or that they don't, gives it an answer.
use Rattle.dap_history.proofs.Common.{Accepted, AreResolved, At, BadCondition, Block, Breakpoint, Command, Configuration, Configuring, Content, Ended, Err, EvalFault, EvaluatesIn, Expression, Fault, Faulted, Frame, Fresh, HasConditionAt, HasRule, History, InputEnd, Inspects, IsResolvedTo, IsSome, Item, Launch, Launched, Loaded, MemoryFailure, NoStep, None, OfProgram, Ok, Option, Reaction, Reacts, ReadFailure, Refuse, Ready, RepliesAt, Request, Resolution, RunFault, Running, SetsOf, Situation, Some, Stopped, WrittenJoins, [], asked_as, at, inl, inr, is_same_path, launched, launches, line_offset, refl, refused, reply_of, reply_with, situation, step_from, subject_in, subst, sym, value, ℕ, ◌++◌, ◌-◌, ◌∷◌, ◌≡◌}
use Rattle.std.proofs.Common.{List, map, Bool, true, false, ℤ, Result}
use Rattle.dap_msg.specs.declared.question.Question.TheVariants as question
use Rattle.dap_msg.specs.declared.question.Shown.{Shown}
use Rattle.dap_msg.specs.declared.outgoing.Refusal.{Refusal}
use Rattle.dap_msg.specs.declared.requests.evaluate.EvaluateArguments.{EvaluateArguments}
use Rattle.dap_msg.specs.declared.requests.set_breakpoints.SetBreakpointsArguments.{SetBreakpointsArguments}
use Rattle.dap_msg.specs.declared.command.Command.TheVariants as command
use Rattle.dap_msg.specs.declared.command.CommandName.TheVariants as name
use Rattle.dap_msg.specs.declared.command.Supported.TheVariants as supported
use Rattle.dap_msg.specs.declared.outgoing.Body.TheVariants as body
use Rattle.dap_msg.specs.declared.outgoing.Outgoing.TheVariants.{Answer}
use Rattle.dap_msg.specs.declared.outgoing.Refusal.TheVariants as refusal
use Rattle.pl0_tree.specs.Faults.{IsExpressionOf}
use Rattle.pl0_syntax.specs.Laws.{TextsHaveOne}
use Rattle.pl0_meaning.specs.declared.RunFault.TheVariants as run_fault
use Rattle.pl0_meaning.specs.Arithmetic.{IsArithmetic}
use Rattle.pl0_meaning.specs.Laws.{RunsHaveNoGaps}
use Rattle.dbg_plan.specs.Values.{answered as evaluated}
use Rattle.dbg_plan.specs.Logs.{ValuesAreArithmetic}
use Rattle.dbg_plan.specs.Resolutions.{AskedLine, HasMessageAt}
use Rattle.dbg_plan.specs.declared.evaluation.EvalFault.TheVariants.{Overflow, DivideByZero}
use Rattle.dbg_plan.specs.declared.resolving.Resolution.TheVariants.{BadHitCondition, BadLogMessage}
use Rattle.dap_history.specs.Readings.{position}
use Rattle.dap_history.specs.Inspection.{result_answer}
use Rattle.dap_history.specs.Launching.{syntax}
use Rattle.dap_history.specs.Laws.{NoItemLeadsNowhere}
use Rattle.dap_history.proofs.Texts.{OneProgram}
use Rattle.dap_history.proofs.Along.{IsLawfulEvent, lawful_events, along}
use Rattle.dap_history.proofs.Early.{IsEarly}
use Rattle.dap_history.proofs.Questions.{reaction_there, reaction_with}
use Rattle.dap_history.proofs.Leading.{IsLaunched, Leading, leading_kept, leading_first, of_program, is_late, LeadsOn, by_step, leads_on}

-- ---- lines

-- it isn't so that a line has no resolution
one_resolved : (main : Block) (asked : AskedLine)
    → ¬ ((a : Resolution) (mine : List Breakpoint) → ¬ IsResolvedTo main asked a mine)
one_resolved main asked none = by_step_from (step_from main asked.line) refl
  where
    by_step_from : (o : Option ℕ) → step_from main asked.line ≡ o → ⊥
    by_step_from None is = none NoStep [] (is, refl)
    by_step_from (Some n) is =
        none BadCondition [] (
          refl,
          (
            n,
            is,
            λ (c : HasConditionAt main n asked.condition).
                none BadHitCondition [] (
                  refl,
                  (λ (r : HasRule asked.hit_condition).
                      none BadLogMessage [] (
                        refl,
                        r,
                        (
                          n,
                          is,
                          c,
                          λ (m : HasMessageAt main n asked.log_message).
                              none (At n)
                              (record { step = n; condition = c.condition; rule = r.rule; message = m.message } ∷ []) (
                                is,
                                (
                                  record { step = n; condition = c.condition; rule = r.rule; message = m.message },
                                  refl,
                                  record { step = refl; condition = c.reads; rule = r.reads; message = m.reads },
                                ),
                              ),
                        ),
                      )),
                  (n, is, c),
                ),
          ),
        )

all_resolved : (main : Block) (asked : List AskedLine)
    → ¬ ((answers : List Resolution) (bs : List Breakpoint) → ¬ AreResolved main asked answers bs)
all_resolved main [] none = none [] [] refl
all_resolved main (asked ∷ more) none =
    one_resolved main asked (λ a mine is.
    all_resolved main more (λ answers rest are.
    none (a ∷ answers) (mine ++ rest) (mine, rest, refl, is, are)))

-- ---- expressions

evaluated_so : (r : Result ℤ RunFault) → IsArithmetic r → (result : Result ℤ EvalFault) × (r ≡ evaluated result)
evaluated_so (Ok v) is = (Ok v, refl)
evaluated_so (Err run_fault.Overflow) is = (Err Overflow, refl)
evaluated_so (Err run_fault.DivideByZero) is = (Err DivideByZero, refl)
evaluated_so _ is = absurd is

evaluates : ValuesAreArithmetic → (main : Block) (c : Configuration) (id : ℕ) (o : Option Frame) (text : List ℕ)
    → ¬ ((answer : Result Shown Refusal) → ¬ EvaluatesIn main c id o text answer)
evaluates arithmetic main c id None text none = none (Err refusal.UnknownFrame) refl
evaluates arithmetic main c id (Some f) text none =
    none (Err refusal.BadExpression) (inr (record { none = no_expression; answer_is = refl }))
  where
    no_expression : (e : Expression) → ¬ IsExpressionOf main f.block text e
    no_expression e reads =
        let result = evaluated_so (value main c (id - 1) e) (arithmetic main c (id - 1) e) in
        none (result_answer result.0)
        (inl (record { expression = e; reads = reads; result = result.0; result_is = result.1; answer_is = refl }))

module _ (one : OneProgram) (joins : WrittenJoins) (no_gaps : RunsHaveNoGaps) (texts : TextsHaveOne)
    (arithmetic : ValuesAreArithmetic) (past : History) (here : Leading one joins no_gaps past) where
  abbrev Leads : Item → Type 0
  Leads item = LeadsOn one joins no_gaps past here item

  -- ---- a launch with its text

  launch_leads : (launch : Launch) (text : List ℕ) → ¬ (¬ Leads (Loaded launch (Some text)))
  launch_leads launch text none = texts text (
    λ main is. none (by_step one joins no_gaps past here (Loaded launch (Some text)) (Some
        (Answer launch.seq (name.Supported supported.Launch) (Ok body.None))) (launches launch.arguments text main) (
          reply_with body.None (launches launch.arguments text main),
          inr (record { program = main; reads = ∣ is ∣₁; reply_is = refl }),
          record { answer_is = refl; effect_is = refl },
        )),
    λ kind place first. none (by_step one joins no_gaps past here (Loaded launch (Some text)) (Some
        (Answer launch.seq (name.Supported supported.Launch) (Err (syntax kind place))))
        (refused (syntax kind place)).effect (
          refused (syntax kind place),
          inl (record { kind = kind; place = place; first = first; reply_is = refl }),
          record { answer_is = refl; effect_is = refl },
        )),
  )

  -- ---- requests

  module _ (request : Request) where
    by_reacting : (s : Situation) → situation past ≡ s → (reaction : Reaction) → Reacts s past request.body reaction
        → Leads (Content (Some request))
    by_reacting s is reaction reacts =
        by_step one joins no_gaps past here _ _ (reply_of past reaction).effect (
          reply_of past reaction,
          record {
            reaction = reaction;
            reacts = subst (λ t. Reacts t past request.body reaction) (sym is) reacts;
            reply_is = refl;
          },
          record { answer_is = refl; effect_is = refl },
        )

  late : (s : Situation) → situation past ≡ s → ¬ IsEarly s → IsLaunched past
  late s is not = is_late one joins no_gaps past here s is not

  sets : (l : Launched) (a : SetBreakpointsArguments) (same : Bool)
      → ¬ ((reaction : Reaction) → ¬ SetsOf same past l a.breakpoints reaction)
  sets l a false none = none _ refl
  sets l a true none =
      all_resolved l.program (map (asked_as (line_offset past)) a.breakpoints) (λ answers bs are.
      none _ (record { answers = answers; breakpoints = bs; resolved = are; reaction_is = refl }))

  -- lines are set in the launched program
  sets_lead : (s : Situation) → situation past ≡ s → ¬ IsEarly s → (request : Request) (a : SetBreakpointsArguments)
      → request.body ≡ command.SetBreakpoints a
      → ((reaction : Reaction) → OfProgram (launched past)
      (λ l. SetsOf (is_same_path a.path l.path) past l a.breakpoints reaction)
      → Reacts s past (command.SetBreakpoints a) reaction)
      → ¬ (¬ Leads (Content (Some request)))
  sets_lead s is not request a asks row none =
      let there = late s is not in
      sets there.0 a (is_same_path a.path there.0.path) (λ reaction sets_so. none (by_reacting request s is reaction (rw
      asks (row reaction (of_program one joins no_gaps past here there.0 there.1 (λ l. SetsOf (is_same_path a.path
      l.path) past l a.breakpoints reaction) sets_so)))))

  -- an expression is read where the program stands
  evaluate_leads : (s : Situation) → situation past ≡ s → ¬ IsEarly s → (request : Request) (q : EvaluateArguments)
      → request.body ≡ command.Inspect (question.Evaluate q)
      → ((reaction : Reaction) → Inspects past (question.Evaluate q) reaction
      → Reacts s past (command.Inspect (question.Evaluate q)) reaction)
      → ¬ (¬ Leads (Content (Some request)))
  evaluate_leads s is not request q asks row none = at_some _ refl (here.alive there.0 there.1)
    where
      there : IsLaunched past
      there = late s is not

      with_answer : (answer : Result Shown Refusal) → RepliesAt (subject_in past there.0)
          (at there.0.program (position past)) (question.Evaluate q) answer → ⊥
      with_answer answer replies =
          let inspects = reaction_there past _ answer (of_program one joins no_gaps past here there.0 there.1 (λ l.
          RepliesAt (subject_in past l) (at l.program (position past)) (question.Evaluate q) answer) replies) in
          let made = reaction_with answer in
          none (by_reacting request s is made (subst (λ c. Reacts s past c made) (sym asks) (row made inspects)))

      at_some : (o : Option Configuration) → at there.0.program (position past) ≡ o
          → IsSome (at there.0.program (position past)) → ⊥
      at_some (Some c) c_is some =
          evaluates arithmetic _ c _ _ _ (λ answer evaluates_so. with_answer answer (rw c_is evaluates_so))
      at_some None c_is some = let e = subst IsSome c_is some in absurd cc

  request_leads : (request : Request) (asked : Command) → request.body ≡ asked → (s : Situation) → situation past ≡ s
      → ¬ (¬ Leads (Content (Some request)))
  request_leads request (command.SetBreakpoints a) asks Fresh is none =
      none (by_reacting request Fresh is (Refuse refusal.WrongPhase) (rw asks refl))
  request_leads request (command.SetBreakpoints a) asks Ready is none =
      none (by_reacting request Ready is (Refuse refusal.WrongPhase) (rw asks refl))
  request_leads request (command.SetBreakpoints a) asks Configuring is none =
      sets_lead Configuring is (λ x. x) request a asks (λ reaction row. row) none
  request_leads request (command.SetBreakpoints a) asks Running is none =
      sets_lead Running is (λ x. x) request a asks (λ reaction row. row) none
  request_leads request (command.SetBreakpoints a) asks Stopped is none =
      sets_lead Stopped is (λ x. x) request a asks (λ reaction row. row) none
  request_leads request (command.SetBreakpoints a) asks Faulted is none =
      sets_lead Faulted is (λ x. x) request a asks (λ reaction row. row) none
  request_leads request (command.SetBreakpoints a) asks Ended is none =
      sets_lead Ended is (λ x. x) request a asks (λ reaction row. row) none
  request_leads request (command.Inspect (question.Evaluate q)) asks Stopped is none =
      evaluate_leads Stopped is (λ x. x) request q asks (λ reaction row. row) none
  request_leads request (command.Inspect (question.Evaluate q)) asks Faulted is none =
      evaluate_leads Faulted is (λ x. x) request q asks (λ reaction row. row) none
  request_leads request (command.Inspect (question.Evaluate q)) asks Fresh is none =
      none (by_reacting request Fresh is (Refuse refusal.WrongPhase) (rw asks refl))
  request_leads request (command.Inspect (question.Evaluate q)) asks Ready is none =
      none (by_reacting request Ready is (Refuse refusal.WrongPhase) (rw asks refl))
  request_leads request (command.Inspect (question.Evaluate q)) asks Configuring is none =
      none (by_reacting request Configuring is (Refuse refusal.WrongPhase) (rw asks refl))
  request_leads request (command.Inspect (question.Evaluate q)) asks Running is none =
      none (by_reacting request Running is (Refuse refusal.NotStopped) (rw asks refl))
  request_leads request (command.Inspect (question.Evaluate q)) asks Ended is none =
      none (by_reacting request Ended is (Refuse refusal.WrongPhase) (rw asks refl))
  request_leads request asked asks s is none = none (leads_on one joins no_gaps past here _ (rw asks tt))

  item_leads : (item : Item) → ¬ (¬ Leads item)
  item_leads (Content None) none = none (leads_on one joins no_gaps past here (Content None) tt)
  item_leads (Content (Some request)) none = request_leads request request.body refl (situation past) refl none
  item_leads (Loaded launch None) none = none (leads_on one joins no_gaps past here (Loaded launch None) tt)
  item_leads (Loaded launch (Some text)) none = launch_leads launch text none
  item_leads (Accepted r) none = none (leads_on one joins no_gaps past here (Accepted r) tt)
  item_leads (Fault k) none = none (leads_on one joins no_gaps past here (Fault k) tt)
  item_leads InputEnd none = none (leads_on one joins no_gaps past here InputEnd tt)
  item_leads ReadFailure none = none (leads_on one joins no_gaps past here ReadFailure tt)
  item_leads MemoryFailure none = none (leads_on one joins no_gaps past here MemoryFailure tt)

pub none_nowhere : OneProgram → WrittenJoins → RunsHaveNoGaps → TextsHaveOne → ValuesAreArithmetic
    → NoItemLeadsNowhere
none_nowhere one joins no_gaps texts arithmetic f events past rest lawful history item nowhere =
    item_leads one joins no_gaps texts arithmetic past (along IsLawfulEvent _ (leading_kept one joins no_gaps)
    (leading_first one joins no_gaps) f events past rest (lawful_events events lawful) history) item (λ leads. nowhere
    leads.0 leads.1)
