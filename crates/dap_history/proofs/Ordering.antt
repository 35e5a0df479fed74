-- Which run an item orders, and under which plan.
use Rattle.dap_history.proofs.Common.{Accepted, Accepts, Block, Causes, Content, Effect, GoesBackBy, Heading, History, Item, Launch, Launches, Loaded, Mode, None, Option, PlainReport, Plan, Reply, SliceOutcome, Some, Step, Went, ap, back_by, back_in, back_of, go, goes_back, held_by, held_effect, if◌then◌else◌, inl, inr, is_back, last_such, plan, refl, report_effect, situation, subst, sym, unwrap_or, waiting_pause, ℕ, ◌∙◌, ◌≡◌, ◌⊎◌, direction}
use Rattle.std.proofs.Common.{List, Bool, true, false}
use Rattle.dbg_runner.specs.declared.outcome.SliceOutcome.TheVariants as slice
use Rattle.dap_history.specs.Readings.{position}
use Rattle.dap_history.proofs.Along.{IsTaken, IsLawfulEvent}
use Rattle.dap_history.proofs.Passing.{loaded_orders}
use Rattle.dap_history.proofs.Ordered.{CanRun, RunsAs, runs_none, runs_one, all_orders}
use Rattle.std.proofs.Common.{arith}
use Rattle.std.proofs.lemmas.Grind.{common_steps}

-- the run is ordered where the program stands or is started, under the plan that is in force there
abbrev pub IsResumed : History → Heading → Type 0
IsResumed past run =
    CanRun (situation past) × (run.counted_from ≡ (plan past).counted_from) × (run.start ≡ position past)

-- the run that a step orders goes back as asked, under the plan in force after it
pub data Ordered (past : History) (back : Option Mode) (put : Option Plan) : Option Heading → Type 0 where
  ordered_none : Ordered past back put None
  ordered_one : (run : Heading) → back_of run ≡ back → run.plan ≡ (unwrap_or put (plan past)).breakpoints
      → run.counted_from ≡ (unwrap_or put (plan past)).counted_from
      → IsResumed past run ⊎ (is_back past ≡ false) → Ordered past back put (Some run)

abbrev pub OrderedBy : History → Option Mode → Effect → Type 0
OrderedBy past back effect = Ordered past back effect.put_in (last_such go effect.orders)

by_reply : (past : History) (back : Option Mode) (put : Option Plan) (o : Option Heading)
    → RunsAs (situation past) past back put o → Ordered past back put o
by_reply past back put None runs_none = ordered_none
by_reply past back put (Some run) (runs_one run' goes under counted starts none can) =
    ordered_one run goes (cc) (cc) (inl (can, counted, starts))

-- ---- reports

-- the run goes back where its report does
pub is_back_is : (past : History) (r : PlainReport) → Accepts past r → is_back past ≡ goes_back r.mode
is_back_is past r accepts = grind (arith, common_steps, goes_back, false) steps 1500000

-- a run that goes back is never held
no_rule : (main : Block) (r : PlainReport) → GoesBackBy main r slice.Held → ⊥
no_rule main r by = elim by [ ]

never_held : (main : Block) (r : PlainReport) → goes_back r.mode ≡ true → Went main r (direction r.mode)
    → r.outcome ≡ slice.Held → ⊥
never_held main r back went is = grind (arith, common_steps, no_rule) steps 1500000

report_ordered : (past : History) (r : PlainReport) (e : SliceOutcome) → Accepts past r
    → (goes_back r.mode ≡ true → e ≡ slice.Held → ⊥) → OrderedBy past None (report_effect past r e)
report_ordered past r slice.More accepts not = ordered_none
report_ordered past r (slice.Due reason) accepts not = ordered_none
report_ordered past r slice.Done accepts not = ordered_none
report_ordered past r (slice.Fault fault) accepts not = ordered_none
report_ordered past r slice.NoMemory accepts not = ordered_none
report_ordered past r slice.Held accepts not = by_pause (waiting_pause past)
  where
    forward : goes_back r.mode ≡ false
    forward = grind (arith, common_steps) steps 200000

    onward : (if goes_back r.mode then Some r.mode else None) ≡ None
    onward = ap (λ b. if b then Some r.mode else None) forward

    by_pause : (pauses : Bool) → OrderedBy past None (held_effect past r pauses)
    by_pause true = ordered_none
    by_pause false = ordered_one _ onward refl refl (inr (is_back_is past r accepts ∙ forward))

-- ---- items

pub item_ordered : (past : History) (item : Item) (step : Step) → IsTaken IsLawfulEvent past item
    → Causes past item step → OrderedBy past (back_in item) step.effect
item_ordered past (Content (Some request)) step taken is =
    grind (arith, common_steps, back_by, by_reply, go, all_orders) steps 1500000
item_ordered past (Loaded launch file) step taken is =
    rw is.2.effect_is (rw (loaded_orders launch file is.0 is.1) ordered_none)
item_ordered past (Accepted r) step taken is =
    rw is.effect_is (report_ordered past r r.outcome taken.0 (λ back is_held. never_held taken.1.program r back
    taken.1.lawful.went is_held))
item_ordered past _ step taken is = subst (OrderedBy past None) (sym is.effect_is) ordered_none

-- ---- the run that is ordered

pub ordered_back : (past : History) (back : Option Mode) (put : Option Plan) (o : Option Heading)
    → Ordered past back put o → (run : Heading) → o ≡ Some run → back_of run ≡ back
ordered_back past back put None ordered_none run is = absurd cc
ordered_back past back put (Some other) (ordered_one other' goes under counted from) run is =
    let same : other ≡ run = cc in ap back_of (sym same) ∙ goes

pub ordered_under : (past : History) (back : Option Mode) (put : Option Plan) (o : Option Heading)
    → Ordered past back put o → (run : Heading) → o ≡ Some run
    → (run.plan ≡ (unwrap_or put (plan past)).breakpoints) × (run.counted_from ≡ (unwrap_or put
    (plan past)).counted_from)
ordered_under past back put None ordered_none run is = absurd cc
ordered_under past back put (Some other) (ordered_one other' goes under counted from) run is =
    grind (arith, common_steps) steps 1500000

pub ordered_from : (past : History) (back : Option Mode) (put : Option Plan) (o : Option Heading)
    → Ordered past back put o → (run : Heading) → o ≡ Some run → IsResumed past run ⊎ (is_back past ≡ false)
ordered_from past back put None ordered_none run is = absurd cc
ordered_from past back put (Some other) (ordered_one other' goes under counted from) run is =
    let same : other ≡ run = cc in subst (λ (h : Heading). IsResumed past h ⊎ (is_back past ≡ false)) same from

-- ---- holding

report_holds : (past : History) (r : PlainReport) (e : SliceOutcome)
    → last_such held_by (report_effect past r e).orders ≡ None
report_holds past r e = grind (arith, common_steps) steps 200000

loaded_holds : (launch : Launch) (file : Option (List ℕ)) (reply : Reply) → Launches launch.arguments file reply
    → last_such held_by reply.effect.orders ≡ None
loaded_holds launch file reply is = grind (arith, common_steps) steps 200000

-- no run that goes back is ordered to hold
pub item_holds : (past : History) (item : Item) (step : Step) → Causes past item step → is_back past ≡ true
    → last_such held_by step.effect.orders ≡ None
item_holds past (Content (Some request)) step is back =
    cc (is.2.effect_is, (all_orders (situation past) past request.body is.0 refl is.1).hold back)
item_holds past item step is back = grind (arith, common_steps, loaded_holds, report_holds) steps 200000
