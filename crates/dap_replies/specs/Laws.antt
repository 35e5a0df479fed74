-- States the law of phases, and that of quiet reports.
use Rattle.std.specs.Prelude.{◌≡◌, ◌++◌, ◌∷◌, [], None}
use Rattle.dbg_runner.specs.Plain.{PlainReport}
use Rattle.dbg_runner.specs.declared.outcome.SliceOutcome.TheVariants as slice
use Rattle.dap_history.specs.History.{Content, Step, History}
use Rattle.dap_history.specs.Replies.{nothing}
use Rattle.dap_replies.specs.declared.phase.Phase.{Phase}
use Rattle.dap_replies.specs.Phases.{IsPhase}
use Rattle.dap_replies.specs.Replied.{step_of, IsQuiet}

-- the step of a content that is no request
abbrev pub skipped : Step
skipped = step_of (Content None) None nothing

-- A content that is no request leaves a phase as it is.
abbrev pub SkippingKeepsThePhase : Type 0
SkippingKeepsThePhase = (past : History) (phase : Phase) → IsPhase phase past → IsPhase phase (past ++ skipped ∷ [])

-- Each report that has nothing to tell a client is quiet.
abbrev pub SilentReportsAreQuiet : Type 0
SilentReportsAreQuiet = (r : PlainReport) → r.outcome ≡ slice.More → r.numbers ≡ [] → r.logs ≡ [] → IsQuiet r
