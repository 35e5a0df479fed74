-- Defines which positions were considered in a session so far, and what they log.
use Rattle.std.specs.Prelude.{ℕ, ◌+◌, ◌-◌, nat_eq, if◌then◌else◌, Bool, true, false, List, [], ◌∷◌, ◌++◌, flat_map, Option, None, Some, unwrap_or, option_map, Ok}
use Rattle.std.specs.List.{filter_map, range_with_len}
use Rattle.dap_msg.specs.declared.command.CommandName.{CommandName}
use Rattle.dap_msg.specs.declared.command.CommandName.TheVariants as name
use Rattle.dap_msg.specs.declared.command.Supported.TheVariants as supported
use Rattle.dap_msg.specs.declared.outgoing.Outgoing.{Outgoing}
use Rattle.dap_msg.specs.declared.outgoing.Outgoing.TheVariants.{Answer}
use Rattle.dbg_plan.specs.Breakpoints.{Breakpoint}
use Rattle.dbg_plan.specs.Logs.{said}
use Rattle.dbg_runner.specs.Plain.{Heading, goes_back}
use Rattle.dap_history.specs.Last.{last_such}
use Rattle.dap_history.specs.History.{Launched, Item, Accepted, History, orders_of}
use Rattle.dap_history.specs.Readings.{go, plan}

-- ---- runs

-- the runs that were ordered, the oldest first
abbrev pub all_runs : History → List Heading
all_runs past = filter_map go (orders_of past)

-- the position at which an accepted report of the run with this number ends
abbrev pub end_in : ℕ → Item → Option ℕ
end_in number (Accepted r) = if nat_eq r.run number then Some r.end else None
end_in number _ = None

-- how far a run has come: to where its last report ended
abbrev pub run_end : History → Heading → ℕ
run_end past run = unwrap_or (last_such (λ step. end_in run.run step.item) past) run.start

-- The positions that a run considered: those after its beginning, up to where it has come. A run that goes back
-- considers no position again.
abbrev pub considered : History → Heading → List ℕ
considered past run = if goes_back run.mode then [] else range_with_len (run.start + 1) (run_end past run - run.start)

-- ---- position 0

-- whether the command is `configurationDone`
abbrev pub is_start : CommandName → Bool
is_start (name.Supported supported.ConfigurationDone) = true
is_start _ = false

-- whether the answer is that `configurationDone` succeeded
abbrev pub starts_by : Option Outgoing → Bool
starts_by (Some (Answer seq command (Ok body))) = is_start command
starts_by _ = false

-- the steps before the one that started the program, if one did
abbrev pub before_start : History → Option History
before_start [] = None
before_start (step ∷ past) =
    if starts_by step.answer then Some [] else option_map (λ before. step ∷ before) (before_start past)

-- ---- logs

-- the texts that position m logs under breakpoints that count from position t
abbrev pub texts_at : Launched → List Breakpoint → ℕ → ℕ → List (List ℕ)
texts_at l breakpoints t m = said l.program breakpoints t m

-- the texts that position 0 logs when the program is started
abbrev pub first_texts : Launched → Option History → List (List ℕ)
first_texts l None = []
first_texts l (Some before) = texts_at l (plan before).breakpoints (plan before).counted_from 0

-- the texts that the positions log that a run considered
abbrev pub run_texts : Launched → History → Heading → List (List ℕ)
run_texts l past run = flat_map (texts_at l run.plan run.counted_from) (considered past run)

-- What the positions considered so far log: position 0 once, and each position once for each run that considered it.
abbrev pub logged : Launched → History → List (List ℕ)
logged l past = first_texts l (before_start past) ++ flat_map (run_texts l past) (all_runs past)
