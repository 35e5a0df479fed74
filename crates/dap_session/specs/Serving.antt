-- Defines what a whole session sends.
use Rattle.std.specs.Prelude.{◌≡◌, ◌≤◌, ◌^◌, ◌++◌, ◌∷◌, [], ℕ, List, Option, None, Some, option_map, Result, Ok, Err}
use Rattle.dap_frame.specs.declared.fault.FramingFault.{FramingFault}
use Rattle.dap_msg.specs.declared.request.Dialect.{Dialect}
use Rattle.dap_history.specs.declared.fault.SessionFault.{SessionFault}
use Rattle.dap_history.specs.declared.fault.SessionFault.TheVariants.{Frame, NoMemory, SeqExhausted, OrdersFull, RunnerGone, WriterGone}
use Rattle.dap_history.specs.declared.ending.Closed.{Closed}
use Rattle.dap_history.specs.declared.ending.Ending.{Ending}
use Rattle.dap_history.specs.declared.ending.Ending.TheVariants as ending
use Rattle.dap_history.specs.History.{History, messages_of, orders_of, next_seq}
use Rattle.dap_history.specs.Readings.{ending_of}
use Rattle.dap_history.specs.Reports.{Accepts}
use Rattle.dap_history.specs.Events.{Incoming, Rest, IsTaking, AreLawful, IsHistoryOf}
use Rattle.dap_history.specs.Output.{frames_from}
use Rattle.dap_history.specs.Interleaving.{Load, Interleaves}
use Rattle.dap_session.specs.Ports.{Ports}
use Rattle.dap_session.specs.Coming.{Sources}
use Rattle.dap_session.specs.Sending.{Sends, RefusesNothing, TriesQuit}
use Rattle.dap_session.specs.Taking.{NeedsNoMemory, EventGivesUp}

-- The events have a last one. Those before it give this history, after which the session takes items, and this rest.
pub record ReachesLast (dialect : Dialect) (events : List Incoming) : Type 0 where
  pub before : List Incoming
  pub last : Incoming
  pub events_are : events ≡ before ++ last ∷ []
  pub past : History
  pub rest : Rest
  pub history : IsHistoryOf dialect before past rest
  pub taking : IsTaking past

-- The events were taken until the session had this ending, none of them after it, and everything that they cause was
-- sent: the frames of the messages, numbered 1, 2, 3 and so on, none of them 2^53 or more, and the orders.
pub record Serves (dialect : Dialect) (events : List Incoming) (ending : Ending) (old later : Ports) : Type 0 where
  pub past : History
  pub rest : Rest
  pub history : IsHistoryOf dialect events past rest
  pub ending_is : ending_of past ≡ Some ending
  pub reaches : ReachesLast dialect events
  pub frames_are : later.frames ≡ old.frames ++ frames_from 1 (messages_of past)
  pub orders_are : later.orders ≡ old.orders ++ orders_of past
  pub seqs_fit : next_seq past ≤ 2 ^ 53
  pub refuses_nothing : RefusesNothing old later

-- A framing fault ended the session. Everything that the events cause was sent, and then one Quit was pushed or
-- refused.
pub record ServesUntilFault (dialect : Dialect) (events : List Incoming) (fault : FramingFault)
    (old later : Ports) : Type 0
  where
    pub mid : Ports
    pub serves : Serves dialect events (ending.Fault (Frame fault)) old mid
    pub quit : TriesQuit mid later

-- The session gave up at the last event, and hadn't ended before it. What the others cause was sent, then a prefix of
-- what the last one causes, and then one Quit was pushed or refused. `NoMemory` occurs only at an event that needs
-- memory.
pub record StopsShort (dialect : Dialect) (events : List Incoming) (fault : SessionFault)
    (old later : Ports) : Type 0 where
  pub reaches : ReachesLast dialect events
  pub needs : fault ≡ NoMemory → ¬ NeedsNoMemory reaches.rest.launch (Accepts reaches.past) reaches.last
  pub mid : Ports
  pub sent : Sends [] reaches.past old mid
  pub refuses_nothing : RefusesNothing old mid
  pub stopped : Ports
  pub fails : EventGivesUp dialect fault reaches.past reaches.rest reaches.last mid stopped
  pub quit : TriesQuit stopped later

-- The faults at which what an event causes can't be sent: no seq is left, the queue of orders is full, or nobody takes
-- orders or frames any more.
pub data CannotSend : SessionFault → Type 0 where
  no_seq_is_left : CannotSend SeqExhausted
  orders_are_full : CannotSend OrdersFull
  runner_is_gone : CannotSend RunnerGone
  writer_is_gone : CannotSend WriterGone

-- What the events that an inbox and a loader returned lead to, and the result.
pub data SessionOutcome (dialect : Dialect) (events given : List Incoming) (loads : List Load)
    (old later : Ports) : Result Closed SessionFault
    → Type 0 where
  -- the session was closed
  closes : {by : Closed} → Interleaves dialect [] events given loads
      → Serves dialect events (ending.Closed by) old later → SessionOutcome dialect events given loads old later (Ok by)
  -- a framing fault ended it
  ends_at_fault : {fault : FramingFault} → Interleaves dialect [] events given loads
      → ServesUntilFault dialect events fault old later
      → SessionOutcome dialect events given loads old later (Err (Frame fault))
  -- it ran out of memory
  runs_out_of_memory : Interleaves dialect [] events given loads → StopsShort dialect events NoMemory old later
      → SessionOutcome dialect events given loads old later (Err NoMemory)
  -- it couldn't send what the last event gives
  gives_up : {fault : SessionFault} → CannotSend fault → Interleaves dialect [] events given loads
      → StopsShort dialect events fault old later
      → SessionOutcome dialect events given loads old later (Err fault)

-- an inbox and a loader returned these events and answers, and this is what they led to
pub record Driven (dialect : Dialect) (result : Result Closed SessionFault) (given_before given_after : List Incoming)
    (loaded_before loaded_after : List Load) (old later : Ports) : Type 0 where
  pub events : List Incoming
  pub given : List Incoming
  pub loads : List Load
  pub given_are : given_after ≡ given_before ++ given
  pub loads_are : loaded_after ≡ loaded_before ++ loads
  pub lawful : AreLawful events
  pub drives : SessionOutcome dialect events given loads old later result

-- A session that goes on owes nothing but this: where a path is given, the launch of the file at it, and the contents
-- behind that launch. All other events that an inbox and a loader returned were taken, everything that they cause was
-- sent, the ports refused nothing, and no content that came whole is left.
pub record OwesOnly (dialect : Dialect) (path : Option (List ℕ)) (begin now : Sources) (old later : Ports)
    : Type 0 where
  pub events : List Incoming
  pub given : List Incoming
  pub loads : List Load
  pub given_are : now.given ≡ begin.given ++ given
  pub loads_are : now.loaded ≡ begin.loaded ++ loads
  pub interleaves : Interleaves dialect [] events given loads
  pub past : History
  pub rest : Rest
  pub history : IsHistoryOf dialect events past rest
  pub lawful : AreLawful events
  pub taking : IsTaking past
  pub waits : path ≡ option_map (λ launch. launch.arguments.program) rest.launch
  pub frames_are : later.frames ≡ old.frames ++ frames_from 1 (messages_of past)
  pub orders_are : later.orders ≡ old.orders ++ orders_of past
  pub refuses_nothing : RefusesNothing old later

-- A session that goes on owes nothing: it has answered all that came whole.
abbrev pub OwesNothing : Dialect → Sources → Sources → Ports → Ports → Type 0
OwesNothing dialect begin now old later = OwesOnly dialect None begin now old later
