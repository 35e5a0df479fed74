-- Which run a reply orders, which plan it puts in, and that it holds none that goes back.
use Rattle.dap_history.proofs.Common.{Body, Breakpoint, Command, Configuring, Effect, Ended, Faulted, Fresh, Heading, History, Hold, IsSome, IsStopped, Launched, Mode, None, Ok, Option, Plan, Reaction, Ready, Reason, RepliesIn, Reply, ResumeKind, RetreatKind, Running, Situation, Some, Stopped, ThreadArguments, [], ap, back_by, back_of, depth_at, effect_in, enters, go, goes_back, held_by, if◌then◌else◌, inl, inr, is_back, last_such, mode_of, nothing, plan, refl, reply_of, retreat_mode, runs, situation, sym, ℕ, ◌+◌, ◌||◌, ◌∷◌, ◌≡◌, ◌⊎◌}
use Rattle.std.proofs.Common.{List, Bool, true, false, arith}
use Rattle.dap_msg.specs.declared.command.Command.TheVariants as command
use Rattle.dap_history.specs.Readings.{is_held, position}
use Rattle.dap_history.proofs.Reacted.{Reacted, by_setting, by_resuming, by_ending, by_retreating, by_closing, by_reaction}
use Rattle.std.proofs.lemmas.Grind.{common_steps}

-- where a reply may order a run
abbrev pub CanRun : Situation → Type 0
CanRun Configuring = Unit {0}
CanRun Stopped = Unit {0}
CanRun Faulted = Unit {0}
CanRun _ = ⊥

-- the run that a reply orders goes back as asked, from where the program stands, under the plan in force
pub data RunsAs (s : Situation) (past : History) (back : Option Mode) (put : Option Plan) : Option Heading
    → Type 0 where
  runs_none : RunsAs s past back put None
  runs_one : (run : Heading) → back_of run ≡ back → run.plan ≡ (plan past).breakpoints
      → run.counted_from ≡ (plan past).counted_from → run.start ≡ position past → put ≡ None → CanRun s
      → RunsAs s past back put (Some run)

-- a plan that a reply puts in counts from the position after the one where the program stands, but in Configuring
abbrev pub PutsIn : Situation → History → Option Plan → Type 0
PutsIn s past None = Unit {0}
PutsIn s past (Some p) = (s ≡ Configuring) ⊎ (p.counted_from ≡ position past + 1)

pub record OrdersAs (back : Option Mode) (s : Situation) (past : History) (effect : Effect) : Type 0 where
  pub run : RunsAs s past back effect.put_in (last_such go effect.orders)
  pub put : PutsIn s past effect.put_in
  pub hold : is_back past ≡ true → last_such held_by effect.orders ≡ None

-- ---- replies that order nothing

orders_nothing : (back : Option Mode) (s : Situation) (past : History) → OrdersAs back s past nothing
orders_nothing back s past = record { run = runs_none; put = tt; hold = λ goes. refl }

-- ---- by reaction

hold_runs : {back : Option Mode} (s : Situation) (past : History) (put : Option Plan) (held : Bool)
    → RunsAs s past back put (last_such go (if held then [] else Hold (runs past) ∷ []))
hold_runs s past put true = runs_none
hold_runs s past put false = runs_none

holds_none : (past : History) (held back : Bool) → back ≡ true
    → last_such held_by (if held || back then [] else Hold (runs past) ∷ []) ≡ None
holds_none past held back is = grind (arith, common_steps) steps 200000

effect_orders : {back : Option Mode} (s : Situation) (past : History) (bs : List Breakpoint)
    → OrdersAs back s past (effect_in s past bs)
effect_orders Configuring past bs = record { run = runs_none; put = inl refl; hold = λ goes. refl }
effect_orders Stopped past bs = record { run = runs_none; put = inr refl; hold = λ goes. refl }
effect_orders Faulted past bs = record { run = runs_none; put = inr refl; hold = λ goes. refl }
effect_orders Running past bs =
    record {
      run = hold_runs Running past None (is_held past || is_back past);
      put = tt;
      hold = holds_none past
          (is_held past) (is_back past);
    }
effect_orders {back = back} Ended past bs = orders_nothing back Ended past
effect_orders {back = back} Fresh past bs = orders_nothing back Fresh past
effect_orders {back = back} Ready past bs = orders_nothing back Ready past

enters_orders : (past : History) (l : Launched) (why : Option Reason)
    → OrdersAs None Configuring past (enters past l why)
enters_orders past l None = record { run = runs_one _ refl refl refl refl refl tt; put = tt; hold = λ goes. refl }
enters_orders past l (Some r) = record { run = runs_none; put = tt; hold = λ goes. refl }

forward : (resume_kind : ResumeKind) (depth : ℕ) → goes_back (mode_of resume_kind depth) ≡ false
forward resume_kind depth = grind (arith, common_steps) steps 200000

can_stand : (s : Situation) → IsStopped s → CanRun s
can_stand s stands = grind (arith, common_steps) steps 200000

back_as : (kind : RetreatKind) (a : ThreadArguments)
    → back_by (command.Retreat kind a) ≡ (if goes_back (retreat_mode kind) then Some (retreat_mode kind) else None)
back_as kind a = grind (arith, common_steps) steps 200000

module _ (past : History) where
  reaction_orders : {s : Situation} {asked : Command} {reaction : Reaction} → Reacted past s asked reaction
      → s ≡ situation past → OrdersAs (back_by asked) s past (reply_of past reaction).effect
  reaction_orders (by_setting s a l found bs there path_is resolved) here = rw here (effect_orders _ past bs)
  reaction_orders (by_resuming kind a l there) here =
      let m = mode_of kind (depth_at l.program (position past)) in
      let none : (if goes_back m then Some m else None) ≡ None =
      ap (λ b. if b then Some m else None) (forward kind (depth_at l.program (position past))) in
      record { run = runs_one _ none refl refl refl refl tt; put = tt; hold = λ goes. refl }
  reaction_orders (by_ending kind a) here = record { run = runs_none; put = tt; hold = λ goes. refl }
  reaction_orders (by_retreating s kind a l stands there) here = record {
    run = runs_one _ (sym (back_as kind a)) refl refl refl refl (can_stand s stands);
    put = tt;
    hold = λ goes. refl;
  }
  reaction_orders (by_closing s) here = record { run = runs_none; put = tt; hold = λ goes. refl }
  reaction_orders is here =
      grind (arith, common_steps, orders_nothing, back_by, enters_orders, hold_runs, holds_none) steps 200000

  -- where going back is granted, a run is ordered
  granted_run : {s : Situation} {asked : Command} {reaction : Reaction} → Reacted past s asked reaction
      → (m : Mode) (b : Body) → back_by asked ≡ Some m → (reply_of past reaction).result ≡ Ok b
      → IsSome (last_such go (reply_of past reaction).effect.orders)
  granted_run is m b asks granted = grind (arith, common_steps, back_by) steps 200000

pub granted_back : (s : Situation) (past : History) (asked : Command) (reply : Reply) (m : Mode) (b : Body)
    → RepliesIn s past asked reply → back_by asked ≡ Some m → reply.result ≡ Ok b
    → IsSome (last_such go reply.effect.orders)
granted_back s past asked reply m b is asks granted =
    by_reaction (λ (r : Reply). r.result ≡ Ok b → IsSome (last_such go r.effect.orders))
    (λ reaction reacted granted. granted_run past reacted m b asks granted) is granted

pub all_orders : (s : Situation) (past : History) (asked : Command) (reply : Reply) → s ≡ situation past
    → RepliesIn s past asked reply → OrdersAs (back_by asked) s past reply.effect
all_orders s past asked reply here is =
    by_reaction (λ (r : Reply). OrdersAs (back_by asked) s past r.effect)
    (λ reaction reacted. reaction_orders past reacted here) is
