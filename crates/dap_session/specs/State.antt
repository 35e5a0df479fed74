-- Defines what a session keeps, and which lists of events it represents.
use Rattle.std.specs.Prelude.{◌≡◌, ℕ, List, String, string_bytes, Option, None, Some, Result, Ok, Err}
use Rattle.std.specs.declared.alloc.Global.{Global}
use Rattle.dap_frame.specs.declared.fault.FramingFault.{FramingFault}
use Rattle.dap_msg.specs.declared.request.Dialect.{Dialect}
use Rattle.dap_history.specs.declared.launch.Launch.{Launch}
use Rattle.dap_history.specs.declared.ending.Ending.{Ending}
use Rattle.dap_history.specs.declared.ending.Ending.TheVariants as ending
use Rattle.dap_history.specs.declared.fault.SessionFault.{SessionFault}
use Rattle.dap_history.specs.History.{History, next_seq}
use Rattle.dap_history.specs.Readings.{ending_of}
use Rattle.dap_history.specs.Events.{Incoming, Rest, IsTaking, IsHistoryOf}
use Rattle.dap_replies.specs.declared.phase.Phase.{Phase}
use Rattle.dap_replies.specs.Phases.{IsPhase, launch_of}
use Rattle.dap_session.specs.declared.want.Want.{Want}
use Rattle.dap_session.specs.declared.want.Want.TheVariants as want_is

-- what a session reads: the client's dialect, the bytes that aren't taken yet, and the framing fault at which it gave
-- up
pub record Inflow : Type 0 where
  pub dialect : Dialect
  pub rest : List ℕ
  pub fault : Option FramingFault

-- the fields of a session, as contracts see them
pub record State : Type 0 where
  pub stream : Inflow
  pub phase : Phase
  pub ending : Option Ending
  pub next_seq : ℕ

-- the phase and the seq are the readings of the history
pub record Knows (session : State) (past : History) : Type 0 where
  pub phase_is : IsPhase session.phase past
  pub seq_is : session.next_seq ≡ next_seq past

-- the same, of a session that goes on; what isn't taken yet is kept in its phase and its decoder
pub record GoesOn (dialect : Dialect) (session : State) (past : History) (rest : Rest) : Type 0 where
  pub knows : Knows session past
  pub launch_is : launch_of session.phase ≡ rest.launch
  pub stream_is : session.stream ≡ record { dialect = dialect; rest = rest.bytes; fault = None }

-- The session represents the events, whose history is `past`.
pub record Represents (dialect : Dialect) (session : State) (events : List Incoming) (past : History) : Type 0 where
  pub rest : Rest
  pub history : IsHistoryOf dialect events past rest
  pub ending_is : session.ending ≡ ending_of past
  pub goes_on : IsTaking past → GoesOn dialect session past rest

-- ---- what the session asks for next

-- the file of a launch that waits, or the next event
abbrev pub WantsHere : Want → Option Launch → Type 0
WantsHere want None = want ≡ want_is.Event
WantsHere want (Some launch) =
    (path : String Global) × (want ≡ want_is.File path) × (string_bytes path ≡ launch.arguments.program)

-- what the session asks for next, by its ending
abbrev pub Wants : Want → State → Option Ending → Type 0
Wants want session None = WantsHere want (launch_of session.phase)
Wants want session (Some (ending.Closed by)) = want ≡ want_is.Closed
Wants want session (Some (ending.Fault fault)) = ⊥

-- what a session returns once it has ended
abbrev pub want_at_end : Ending → Result Want SessionFault
want_at_end (ending.Closed by) = Ok want_is.Closed
want_at_end (ending.Fault fault) = Err fault

-- the session wasn't closed: it goes on, or gave up
abbrev pub IsOpenEnded : Option Ending → Type 0
IsOpenEnded None = Unit {0}
IsOpenEnded (Some (ending.Closed by)) = ⊥
IsOpenEnded (Some (ending.Fault fault)) = Unit {0}
