-- A step, and what is found where it leads.
use Rattle.std.specs.Prelude.{◌≡◌, ℕ, ◌+◌, List, [], Some}
use Rattle.pl0_meaning.specs.Runs.{at, Faults}
use Rattle.pl0_machine.specs.Machine.{outcome_of}
use Rattle.dbg_plan.specs.declared.mode.Mode.{Mode}
use Rattle.dbg_plan.specs.declared.debuggee.Advance.{Advance}
use Rattle.dbg_plan.specs.declared.debuggee.Advance.TheVariants.{To, Done, Fault}
use Rattle.dbg_plan.specs.Logs.{Log}
use Rattle.dbg_plan.specs.Debugged.{Debugged, machine_of, debugged_program, IsConsidered, due_now, logs_now}

-- the debuggee at this position, considered there
abbrev pub considered_at : Debugged → ℕ → Debugged
considered_at d position = record d { position = position; next = position + 1 }

-- The step led to a position, which was considered, with what it logs; to the program's end; or nowhere, since it
-- faults.
abbrev pub Advanced : Mode → Debugged → Advance → Debugged → List Log → Type 0
Advanced mode old (To due) new logged =
    (new ≡ considered_at old (old.position + 1)) × IsConsidered new × (due ≡ due_now new mode) × (logged ≡ logs_now new)
Advanced mode old Done new logged =
    (new ≡ record old { position = old.position + 1 }) × (at (debugged_program old) (old.position + 1) ≡ Some [])
    × (logged ≡ [])
Advanced mode old (Fault fault) new logged = (new ≡ old) × (outcome_of (machine_of old) ≡ Faults fault) × (logged ≡ [])
