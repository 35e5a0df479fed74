-- A granted `configurationDone` stops the program at position 0 where it has to, and otherwise lets it run.
use Rattle.dap_history.proofs.Common.{Body, Causes, Command, Configuring, Content, Effect, History, Launched, None, Ok, Option, Reaction, Reason, Reply, Situation, Some, WrittenJoins, [], ap, append-nil, due_first, enters, go, if◌then◌else◌, is_some, last_such, launched, plan, reason_of, refl, reply_of, run_in, situation, stop_in, stop_of, stop_of_event, subst, sym, unwrap_or, ℕ, ◌∙◌, ◌≡◌}
use Rattle.std.proofs.Common.{Bool, arith}
use Rattle.std.specs.Prelude.{option_map, is_none}
use Rattle.std.specs.List.{list_any}
use Rattle.dap_msg.specs.declared.outgoing.StopReason.TheVariants as stop
use Rattle.dbg_plan.specs.Due.{stops as met}
use Rattle.dbg_plan.specs.declared.mode.Mode.TheVariants as mode
use Rattle.dbg_plan.specs.declared.mode.Reason.TheVariants as reason
use Rattle.dap_history.specs.Moves.{first_stop, PositionZeroIsConsidered}
use Rattle.dap_history.proofs.Texts.{OneProgram}
use Rattle.dap_history.proofs.Told.{stop_of_logs}
use Rattle.dap_history.proofs.Silent.{first_at}
use Rattle.dap_history.proofs.Reacted.{IsCalm, Reacted, by_answering, by_starting, by_reaction}
use Rattle.dap_history.proofs.Holding.{result_of}
use Rattle.dap_history.proofs.Judged.{was_taken}
use Rattle.dap_history.proofs.Lines.{first_counts}
use Rattle.dap_msg.specs.declared.command.Command.TheVariants as command
use Rattle.std.proofs.lemmas.Grind.{common_steps}

-- where `configurationDone` is granted, the program enters
record Enters (past : History) (s : Situation) (effect : Effect) : Type 0 where
  l : Launched
  there : launched past ≡ Some l
  configuring : s ≡ Configuring
  effect_is : effect ≡ enters past l (due_first past l)

granted_enters : (past : History) {s : Situation} {asked : Command} {reaction : Reaction}
    → Reacted past s asked reaction
    → asked ≡ command.ConfigurationDone → (b : Body) → (reply_of past reaction).result ≡ Ok b
    → Enters past s (reply_of past reaction).effect
granted_enters past (by_starting l there) asks b granted =
    record { l = l; there = there; configuring = refl; effect_is = refl }
granted_enters past (by_answering s asked body calm) asks b granted =
    absurd (subst (λ c. IsCalm past s c body) asks calm)
granted_enters past _ asks b granted = absurd cc

-- why the program stops at position 0, by whether a breakpoint stops it there and by `stopOnEntry`
first_reason : (met_there entry : Bool) (depth : ℕ)
    → option_map stop_of (if met_there then Some reason.Breakpoint
    else reason_of (if entry then mode.Entry else mode.Continue) depth)
    ≡ (if met_there then Some stop.Breakpoint else (if entry then Some stop.Entry else None))
first_reason met_there entry depth = grind (arith, common_steps) steps 200000

first_due : (past : History) (l : Launched) → (plan past).counted_from ≡ 0
    → option_map stop_of (due_first past l) ≡ first_stop l (plan past).breakpoints
first_due past l counts = cc (first_reason (list_any (met l.program 0 0) (plan past).breakpoints) l.stop_on_entry _)

-- the stop, and whether a run is ordered
enters_stops : (past : History) (l : Launched) (why : Option Reason)
    → (last_such stop_of_event (enters past l why).events ≡ option_map stop_of why)
    × (is_some (last_such go (enters past l why).orders) ≡ is_none (option_map stop_of why))
enters_stops past l None = (cc (append-nil _, stop_of_logs (plan past).breakpoints (first_at past l) []), refl)
enters_stops past l (Some r) = (stop_of_logs (plan past).breakpoints (first_at past l) _, refl)

module _ (one : OneProgram) (joins : WrittenJoins) where
  pub zero_considered : PositionZeroIsConsidered
  zero_considered f events past rest lawful history before step after past_is request grants asked_is =
      (there.l, there.there, stop_is, runs_is)
    where
      is : Causes before (Content (Some request)) step
      is = subst (λ i. Causes before i step) grants.item_is
          (was_taken f events past rest history before step after past_is).causes

      granted : is.0.result ≡ Ok grants.body
      granted = ap (λ a. unwrap_or (result_of a) (Ok grants.body)) (sym is.2.answer_is ∙ grants.answer_is)

      there : Enters before (situation before) is.0.effect
      there =
          by_reaction (λ (r : Reply). r.result ≡ Ok grants.body → Enters before (situation before) r.effect)
          (λ reaction reacted granted. granted_enters before reacted asked_is grants.body granted) is.1 granted

      effect_is : step.effect ≡ enters before there.l (due_first before there.l)
      effect_is = is.2.effect_is ∙ there.effect_is

      counts : (plan before).counted_from ≡ 0
      counts = first_counts one joins f events past rest lawful history before step after past_is there.l there.there
          there.configuring

      due_is : option_map stop_of (due_first before there.l) ≡ first_stop there.l (plan before).breakpoints
      due_is = first_due before there.l counts

      enters_so : (last_such stop_of_event (enters before there.l (due_first before there.l)).events
          ≡ option_map stop_of (due_first before there.l))
          × (is_some (last_such go (enters before there.l (due_first before there.l)).orders)
          ≡ is_none (option_map stop_of (due_first before there.l)))
      enters_so = enters_stops before there.l (due_first before there.l)

      stop_is : stop_in step ≡ first_stop there.l (plan before).breakpoints
      stop_is = ap (λ (e : Effect). last_such stop_of_event e.events) effect_is ∙ enters_so.0 ∙ due_is

      runs_is : is_some (run_in step) ≡ is_none (stop_in step)
      runs_is =
          ap (λ (e : Effect). is_some (last_such go e.orders)) effect_is ∙ enters_so.1 ∙ ap is_none due_is
          ∙ ap is_none (sym stop_is)
