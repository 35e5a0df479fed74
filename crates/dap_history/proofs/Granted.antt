-- What a request tells besides its answer, and that a run that is granted is ordered.
use Rattle.dap_history.proofs.Common.{Accepted, All-nil, Body, Causes, Command, Configuring, Content, Effect, EventBody, History, IsSome, Launched, None, Ok, Option, PlainReport, Reaction, Reason, Reply, Situation, SliceOutcome, Some, [], ap, due_first, enters, first_logs, go, held_effect, inl, inr, is_some, last_such, mode_by, plan, refl, reply_of, report_effect, situation, subst, sym, unwrap_or, waiting_pause, ◌∙◌, ◌≡◌, ◌⊎◌}
use Rattle.std.proofs.Common.{List, Bool, false, arith}
use Rattle.dap_msg.specs.declared.command.Command.TheVariants as command
use Rattle.dbg_runner.specs.declared.outcome.SliceOutcome.TheVariants as slice
use Rattle.dap_history.specs.Stops.{TellsFirst, TellsBy, EachReplyIsTold}
use Rattle.dap_history.specs.Runs.{IsExcused, GrantedRunsAreOrdered, HeldRunsGoOn}
use Rattle.dap_history.proofs.Told.{stop_of_logs}
use Rattle.dap_history.proofs.Silent.{first_at}
use Rattle.dap_history.proofs.Reacted.{IsCalm, Reacted, by_answering, by_starting, by_resuming, by_ending, by_retreating, by_reaction}
use Rattle.dap_history.proofs.Judged.{was_taken}
use Rattle.dap_history.proofs.Once.{quiet_in}
use Rattle.dap_history.proofs.Telling.{logs_output}
use Rattle.dap_history.proofs.Holding.{result_of}
use Rattle.std.proofs.lemmas.Grind.{common_steps}

-- ---- what a reply tells

-- no events are told by any command
tells_nothing : (s : Situation) (asked : Command) (events : List EventBody) → events ≡ [] → TellsBy s asked events
tells_nothing s asked events is = grind (arith, common_steps, All-nil) steps 200000

enters_tells : (past : History) (l : Launched) (why : Option Reason) (events : List EventBody)
    → events ≡ (enters past l why).events → TellsFirst events
enters_tells past l None events is = (first_logs past l, logs_output (plan past).breakpoints (first_at past l), inl is)
enters_tells past l (Some r) events is = (first_logs past l, logs_output _ _, inr (_, is))

module _ (past : History) where
  reaction_tells : {s : Situation} {asked : Command} {reaction : Reaction} → Reacted past s asked reaction
      → TellsBy s asked (reply_of past reaction).effect.events
  reaction_tells (by_starting l there) = enters_tells past l (due_first past l) _ refl
  reaction_tells is = grind (arith, common_steps, tells_nothing, quiet_in) steps 200000

-- ---- a run that is granted

-- a command that asks for a run has an effect where it is granted
calm_asks_none : (past : History) (s : Situation) (asked : Command) (b : Body) → IsCalm past s asked b
    → ¬ IsSome (mode_by 0 asked)
calm_asks_none past s asked b calm asks = grind (arith, common_steps) steps 200000

-- the reply orders a run, or needn't
abbrev IsDone : Situation → Command → Effect → Type 0
IsDone s asked effect = IsSome (last_such go effect.orders) ⊎ IsExcused s asked effect.events

begins_done : (past : History) (s : Situation) (l : Launched) (why : Option Reason)
    → IsDone s command.ConfigurationDone (enters past l why)
begins_done past s l why = grind (arith, common_steps, is_some, stop_of_logs) steps 200000

reaction_done : (past : History) {s : Situation} {asked : Command} {reaction : Reaction} → Reacted past s asked reaction
    → (b : Body) → (reply_of past reaction).result ≡ Ok b → IsSome (mode_by 0 asked)
    → IsDone s asked (reply_of past reaction).effect
reaction_done past (by_answering s asked body calm) b granted asks = absurd (calm_asks_none past s asked body calm asks)
reaction_done past (by_starting l there) b granted asks = begins_done past Configuring l (due_first past l)
reaction_done past (by_resuming kind a l there) b granted asks = inl refl
reaction_done past (by_ending kind a) b granted asks = inr (refl, refl)
reaction_done past (by_retreating s kind a l stands there) b granted asks = inl refl
reaction_done past _ b granted asks = absurd cc

held_run : (past : History) (r : PlainReport) (pauses : Bool) → pauses ≡ false
    → IsSome (last_such go (held_effect past r pauses).orders)
held_run past r pauses is = grind (arith, common_steps) steps 200000

report_run : (past : History) (r : PlainReport) (e : SliceOutcome) → e ≡ slice.Held → waiting_pause past ≡ false
    → IsSome (last_such go (report_effect past r e).orders)
report_run past r e is none = grind (arith, common_steps, held_run) steps 200000

-- ---- the laws

pub each_reply_told : EachReplyIsTold
each_reply_told f events past rest history before step after past_is request item_is =
    rw is.2.effect_is (by_reaction (λ (r : Reply). TellsBy (situation before) request.body r.effect.events) (λ reaction.
    reaction_tells before) is.1)
  where
    is : Causes before (Content (Some request)) step
    is =
        subst (λ i. Causes before i step) item_is
        (was_taken f events past rest history before step after past_is).causes

pub granted_ordered : GrantedRunsAreOrdered
granted_ordered f events past rest history before step after past_is request grants asks =
    rw is.2.effect_is (by_reaction (λ (r : Reply). r.result ≡ Ok grants.body → IsDone (situation before) request.body
    r.effect) (λ reaction reacted granted. reaction_done before reacted grants.body granted asks) is.1 granted)
  where
    is : Causes before (Content (Some request)) step
    is =
        subst (λ i. Causes before i step) grants.item_is
        (was_taken f events past rest history before step after past_is).causes

    granted : is.0.result ≡ Ok grants.body
    granted = ap (λ a. unwrap_or (result_of a) (Ok grants.body)) (sym is.2.answer_is ∙ grants.answer_is)

pub held_go_on : HeldRunsGoOn
held_go_on f events past rest history before step after past_is r item_is held_is none =
    rw is.effect_is (report_run before r r.outcome held_is none)
  where
    is : Causes before (Accepted r) step
    is =
        subst (λ i. Causes before i step) item_is
        (was_taken f events past rest history before step after past_is).causes
