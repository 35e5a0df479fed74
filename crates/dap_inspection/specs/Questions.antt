-- Defines what a question about a debuggee is asked of.
use Rattle.std.specs.Prelude.{◌≡◌, ◌≢◌, List, ℕ, None}
use Rattle.dap_msg.specs.declared.question.Question.{Question}
use Rattle.dap_msg.specs.declared.question.Question.TheVariants as question
use Rattle.dap_msg.specs.declared.requests.initialize.InitializeArguments.{InitializeArguments}
use Rattle.pl0_meaning.specs.Values.{Configuration}
use Rattle.dbg_plan.specs.Debugged.{Debugged, debugged_program}
use Rattle.dap_history.specs.Breakpoints.{offset}
use Rattle.dap_history.specs.Frames.{Counting, frame_by_id}
use Rattle.dap_history.specs.Inspection.{Subject}

-- how a client with these settings counts
abbrev pub counting_of : InitializeArguments → Counting
counting_of settings = record { lines = offset settings.lines_start_at_1; columns = offset settings.columns_start_at_1 }

-- the debuggee's program, its path, and how a client with these settings counts
abbrev pub subject_of : Debugged → List ℕ → InitializeArguments → Subject
subject_of d path settings =
    record { program = debugged_program d; path = path; counting = counting_of settings }

-- The question names a thread, a frame or a reference that there isn't. Its refusal takes no memory.
abbrev pub NamesNothingLive : Configuration → Question → Type 0
NamesNothingLive c (question.StackTrace asked) = asked.thread_id ≢ 1
NamesNothingLive c (question.Scopes asked) = frame_by_id c asked.frame_id ≡ None
NamesNothingLive c (question.Variables asked) = frame_by_id c asked.variables_reference ≡ None
NamesNothingLive c (question.Evaluate asked) = frame_by_id c asked.frame_id ≡ None
