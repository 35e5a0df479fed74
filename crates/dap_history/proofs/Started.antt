-- The program is started once, in Configuring.
use Rattle.dap_history.proofs.Common.{Answers, Body, Causes, Command, CommandName, Configuring, Content, Fresh, History, Incoming, Item, Launched, Loaded, None, Ok, Option, Reaction, Ready, Reason, Refusal, RepliesIn, Reply, Running, Situation, Some, Step, Stopped, [], ap, before_start, due_first, enters, if◌then◌else◌, inl, inr, launched, name_of, or_else, plan, refl, reply_of, situation, starts_by, step_mark, stop_of, stopped_events, subst, sym, ℕ, ◌++◌, ◌∙◌, ◌∷◌, ◌≡◌, ◌⊎◌}
use Rattle.std.proofs.Common.{Bool, true, false, Result, arith}
use Rattle.std.specs.Prelude.{option_map}
use Rattle.dap_msg.specs.declared.command.CommandName.TheVariants as name
use Rattle.dap_msg.specs.declared.command.Supported.TheVariants as supported
use Rattle.dap_msg.specs.declared.outgoing.Outgoing.TheVariants.{Answer}
use Rattle.dbg_plan.specs.Logs.{logs as position_logs}
use Rattle.dap_history.proofs.Readings.{situation-snoc}
use Rattle.dap_history.proofs.Along.{IsTaken}
use Rattle.dap_history.proofs.Early.{IsEarlyMark, unanswered_late, answered_late, result_late, early_reply}
use Rattle.dap_history.proofs.Told.{mark_of_logs, stop_marks}
use Rattle.dap_history.proofs.Reacted.{IsCalm, Reacted, by_answering, by_starting, by_reaction}
use Rattle.dap_history.proofs.Standing.{MarkIs, mark_unwrap}
use Rattle.dap_history.proofs.Passing.{IsConfiguring, IsLoaded, loaded_there, mark_of_effect}
use Rattle.dap_history.proofs.Progress.{decided}
use Rattle.std.proofs.lemmas.Grind.{common_steps}

-- ---- with one more step

abbrev pub here_if : Bool → History → Option History
here_if starts past = if starts then Some past else None

pub before_start-snoc : (past : History) (step : Step) → before_start (past ++ step ∷ []) ≡ or_else (before_start past)
    (here_if (starts_by step.answer) past)
before_start-snoc [] step = refl
before_start-snoc (s ∷ past) step = cc (before_start-snoc past step, by_test _ _ _)
  where
    by_test : (b : Bool) (o : Option History) (c : Bool)
        → (if b then Some [] else option_map (λ before. s ∷ before) (or_else o (here_if c past))) ≡ or_else
        (if b then Some [] else option_map (λ before. s ∷ before) o) (here_if c (s ∷ past))
    by_test true o c = refl
    by_test false None true = refl
    by_test false None false = refl
    by_test false (Some x) c = refl

-- ---- before the program is started

abbrev pub IsYoung : Situation → Type 0
IsYoung Fresh = Unit {0}
IsYoung Ready = Unit {0}
IsYoung Configuring = Unit {0}
IsYoung _ = ⊥

young_mark : (o : Option Situation) → MarkIs IsYoung o → IsEarlyMark o ⊎ MarkIs IsConfiguring o
young_mark o is = grind (arith, common_steps) steps 200000

early_there : (past : History) (item : Item) (step : Step) → Causes past item step → IsEarlyMark (step_mark step)
    → IsYoung (situation past)
early_there past (Content (Some request)) step is mark =
    rw (early_reply _ past request.body is.0 is.1 (decided _ (λ late. answered_late _ _ is.0 step is.2 late mark))) tt
early_there past item step is mark =
    grind (arith, common_steps, unanswered_late, answered_late, result_late) steps 200000

loaded_ready : (Q : Incoming → Type 0) (past : History) (item : Item) → IsLoaded item → IsTaken Q past item
    → IsYoung (situation past)
loaded_ready is past item loaded ready = grind (arith, common_steps) steps 200000

-- it was not started before
pub was_young : (Q : Incoming → Type 0) (past : History) (step : Step) → IsTaken Q past step.item
    → Causes past step.item step → IsYoung (situation (past ++ step ∷ [])) → IsYoung (situation past)
was_young Q past step taken causes young = by_mark (mark_unwrap IsYoung _ _ (rw (← (situation-snoc past step)) young))
  where
    by_kind : IsEarlyMark (step_mark step) ⊎ MarkIs IsConfiguring (step_mark step) → IsYoung (situation past)
    by_kind (inl early) = early_there past step.item step causes early
    by_kind (inr configuring) =
        loaded_ready Q past step.item (loaded_there past step.item step causes configuring) taken

    by_mark : MarkIs IsYoung (step_mark step) ⊎ ((step_mark step ≡ None) × IsYoung (situation past))
        → IsYoung (situation past)
    by_mark (inl mark) = by_kind (young_mark (step_mark step) mark)
    by_mark (inr is) = is.1

-- ---- a step that starts it

-- a step leads to where the program was started
abbrev LeadsOn : Option Situation → Type 0
LeadsOn mark = (s : Situation) × (mark ≡ Some s) × (¬ IsYoung s)

enters_late : (past : History) (l : Launched) (why : Option Reason) → LeadsOn (mark_of_effect (enters past l why))
enters_late past l None = (Running, refl, λ x. x)
enters_late past l (Some r) = (
  Stopped,
  mark_of_logs (plan past).breakpoints
      (position_logs l.program (plan past).breakpoints (plan past).counted_from 0) (stopped_events (stop_of r))
      ∙ stop_marks r,
  λ x. x,
)

-- a reply that starts the program, and where it leads
abbrev Starts : Situation → History → Reply → Type 0
Starts s past reply =
    (s ≡ Configuring) × ((l : Launched) × (launched past ≡ Some l) × (reply.effect ≡ enters past l (due_first past l)))

calm_never : (past : History) (s : Situation) (asked : Command) (b : Body) → IsCalm past s asked b
    → ¬ (starts_by (Some (Answer 0 (name_of asked) (Ok b))) ≡ true)
calm_never past s asked b calm starts = grind (arith, common_steps) steps 200000

reaction_starts : (past : History) {s : Situation} {asked : Command} {reaction : Reaction}
    → Reacted past s asked reaction
    → starts_by (Some (Answer 0 (name_of asked) (reply_of past reaction).result)) ≡ true
    → Starts s past (reply_of past reaction)
reaction_starts past (by_starting l there) started = (refl, (l, there, refl))
reaction_starts past (by_answering s asked b calm) started = absurd (calm_never past s asked b calm started)
reaction_starts past _ started = absurd cc

starts_so : (s : Situation) (past : History) (asked : Command) (reply : Reply) → RepliesIn s past asked reply
    → starts_by (Some (Answer 0 (name_of asked) reply.result)) ≡ true → Starts s past reply
starts_so s past asked reply is =
    by_reaction (λ (r : Reply). starts_by (Some (Answer 0 (name_of asked) r.result)) ≡ true → Starts s past r)
    (λ reaction. reaction_starts past) is

-- an answer leads nowhere where what follows it does
mark_through : (orders events answer : Option Situation) (s : Situation) → or_else orders events ≡ Some s
    → or_else orders (or_else events answer) ≡ Some s
mark_through orders events answer s is = grind (arith, common_steps) steps 200000

late_after : (past : History) (step : Step) (seq : ℕ) (command : CommandName) (reply : Reply)
    → Answers seq command reply step
    → (l : Launched) → reply.effect ≡ enters past l (due_first past l) → LeadsOn (step_mark step)
late_after past step seq command reply answers l is =
    let leads = enters_late past l (due_first past l) in (
      leads.0,
      cc (answers.answer_is, mark_through _ _ _ leads.0 (ap mark_of_effect (answers.effect_is ∙ is) ∙ leads.1)),
      leads.2,
    )

-- ---- whether a step starts it

pub data StartsBy (past : History) (step : Step) : Bool → Type 0 where
  starts_not : StartsBy past step false
  starts_here : (l : Launched) → situation past ≡ Configuring → launched past ≡ Some l
      → step.effect ≡ enters past l (due_first past l) → LeadsOn (step_mark step) → StartsBy past step true

by_result : (past : History) (step : Step) (seq : ℕ) (asked : Command) (reply : Reply)
    → RepliesIn (situation past) past asked reply → Answers seq (name_of asked) reply step
    → (b : Bool) → starts_by (Some (Answer 0 (name_of asked) reply.result)) ≡ b → StartsBy past step b
by_result past step seq asked reply is answers false starts = starts_not
by_result past step seq asked reply is answers true starts =
    let so = starts_so _ past asked reply is starts in
    starts_here so.1.0 so.0 so.1.1 (answers.effect_is ∙ so.1.2) (late_after past step seq _ reply answers so.1.0 so.1.2)

unanswered : (past : History) (step : Step) → step.answer ≡ None → StartsBy past step (starts_by step.answer)
unanswered past step none = subst (λ a. StartsBy past step (starts_by a)) (sym none) starts_not

loaded_not : (result : Result Body Refusal) → starts_by
    (Some (Answer 0 (name.Supported supported.Launch) result)) ≡ false
loaded_not result = grind (arith, common_steps) steps 200000

pub whether_starts : (past : History) (item : Item) (step : Step) → Causes past item step
    → StartsBy past step (starts_by step.answer)
whether_starts past (Content (Some request)) step is =
    subst (λ a. StartsBy past step (starts_by a)) (sym is.2.answer_is)
    (by_result past step request.seq request.body is.0 is.1 is.2 _ refl)
whether_starts past (Loaded launch file) step is = rw is.2.answer_is (rw (loaded_not is.0.result) starts_not)
whether_starts past _ step is = unanswered past step is.answer_is

-- ---- along a history

-- before it is started there is no such step
abbrev pub Unstarted : History → Type 0
Unstarted past = IsYoung (situation past) → before_start past ≡ None

pub unstarted_more : (Q : Incoming → Type 0) (past : History) (step : Step) → IsTaken Q past step.item
    → Causes past step.item step → Unstarted past → Unstarted (past ++ step ∷ [])
unstarted_more Q past step taken causes so_far young =
    cc (before_start-snoc past step, so_far before, by_start _ (whether_starts past _ step causes))
  where
    before : IsYoung (situation past)
    before = was_young Q past step taken causes young

    by_start : (b : Bool) → StartsBy past step b → here_if b past ≡ None
    by_start false starts_not = refl
    by_start true (starts_here l configuring is effect_is late) =
        grind (arith, common_steps, mark_unwrap, situation-snoc) steps 200000
