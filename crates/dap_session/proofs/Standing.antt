-- One event more for a session that represents some.
use Rattle.std.proofs.Common.{◌≡◌, ◌≢◌, ◌⊎◌, inl, inr, ℕ, List, [], ◌∷◌, ◌++◌, Option, None, Some, Result, Ok, Err, refl, sym, ◌∙◌, ap, subst, arith}
use Rattle.std.specs.Prelude.{IfOk, IfErr, String, string_bytes}
use Rattle.std.specs.declared.alloc.Global.{Global}
use Rattle.dap_msg.specs.declared.requests.initialize.InitializeArguments.{InitializeArguments}
use Rattle.dap_msg.specs.declared.request.Dialect.{Dialect}
use Rattle.dap_history.specs.declared.fault.LoadFault.{LoadFault}
use Rattle.dap_history.specs.declared.fault.LoadFault.TheVariants as load_fault
use Rattle.dap_history.specs.declared.fault.SessionFault.{SessionFault}
use Rattle.dap_history.specs.declared.fault.SessionFault.TheVariants.{Frame, NoMemory, SeqExhausted, OrdersFull, RunnerGone, WriterGone}
use Rattle.dap_history.specs.declared.launch.Launch.{Launch}
use Rattle.dap_history.specs.History.{MemoryFailure, Fault, History}
use Rattle.dap_history.specs.Events as event
use Rattle.dap_history.specs.Events.{Incoming, Rest, only_bytes, IsTaking, Rests, closed, open_ended, faulty, waits, Takes, Loads, LeadsByPiece, LeadsByFile, LeadsByEvent, LeadsByEvents}
use Rattle.dap_replies.specs.declared.phase.Phase.TheVariants as phase
use Rattle.dap_replies.specs.Phases.{launch_of}
use Rattle.dap_session.specs.declared.want.Want.{Want}
use Rattle.dap_session.specs.declared.want.Want.TheVariants as want_is
use Rattle.dap_session.specs.Ports.{Ports}
use Rattle.dap_session.specs.State.{State, Represents, Wants}
use Rattle.dap_session.specs.Taking.{TowardByPiece, LoadsToward, file_of, Toward, EventGivesUp, Comes, TakesEvent}
use Rattle.dap_session.specs.Handling.{Arrives, StopsOnTheWay, Handles, NeededNoMemory, HandlesEvent}
use Rattle.dap_history.proofs.Along.{closes_for_good}
use Rattle.std.proofs.lemmas.Grind.{common_steps}

-- one event after others
pub leads_one_more : (f : Dialect) (past : History) (rest : Rest) (events : List Incoming) (mid : History)
    (between : Rest)
    (event : Incoming) (new : History) (left : Rest)
    → LeadsByEvents f past rest events mid between → LeadsByEvent f mid between event new left
    → LeadsByEvents f past rest (events ++ event ∷ []) new left
leads_one_more f past rest [] mid between event new left all leads = (
  new,
  left,
  subst (λ h. LeadsByEvent f h rest event new left) all.0
      (subst (λ b. LeadsByEvent f mid b event new left) all.1 leads),
  (refl, refl),
)
leads_one_more f past rest (e ∷ events) mid between event new left all leads =
    (all.0, all.1, all.2, leads_one_more f all.0 all.1 events mid between event new left all.3 leads)

-- ---- where a session goes on after an event, only items that it takes were taken

-- no further item is taken where it still takes any
none_after : {f : Dialect} {past new : History} {bytes : List ℕ} {rest : Rest}
    → Rests f past bytes new rest
    → IsTaking new → past ≡ new
none_after (closed not) still = refl
none_after (open_ended taking is) still = refl
none_after {past = past} (faulty k new taking is after) still =
    absurd (closes_for_good past (Fault k) new _ refl after still)
none_after (waits request launch more taking front wanted) still = refl

toward_by_contents : (f : Dialect) (past new : History) (bytes : List ℕ) (rest : Rest)
    → Takes f past bytes new rest
    → IsTaking new → TowardByPiece f past None bytes new
toward_by_contents f past new bytes rest taken still = (taken.1, rw (← (none_after taken.3 still)) taken.2)

toward_by_piece : (f : Dialect) (past : History) (launch : Option Launch) (bytes : List ℕ)
    (new : History)
    (left : Rest) → LeadsByPiece f past launch bytes new left → IsTaking new → TowardByPiece f past launch bytes new
toward_by_piece f past None bytes new left leads still = toward_by_contents f past new bytes left leads still
toward_by_piece f past (Some launch) bytes new left leads still = leads.0

toward_by_loads : (f : Dialect) (past : History) (rest : Rest) (launch : Launch) (answer : Result (List ℕ) LoadFault)
    (file : Option (List ℕ)) (new : History) (left : Rest) → rest.launch ≡ Some launch → file_of answer ≡ Some file
    → Loads f past launch file rest.bytes new left → IsTaking new → LoadsToward f past rest answer new
toward_by_loads f past rest launch answer file new left is file_is loads still =
    let taken = toward_by_contents f loads.mid new rest.bytes left loads.after still in
    record {
      launch = launch;
      waits = is;
      file = file;
      file_is = file_is;
      mid = loads.mid;
      loaded = loads.loaded;
      left = taken.0;
      taken = taken.1;
    }

toward_by_file : (f : Dialect) (past : History) (rest : Rest) (launch : Option Launch)
    (answer : Result (List ℕ) LoadFault) (new : History) (left : Rest) → rest.launch ≡ launch → IsTaking past
    → LeadsByFile f past rest launch answer new left → IsTaking new
    → (new ≡ past) ⊎ LoadsToward f past rest answer new
toward_by_file f past rest None answer new left is taking leads still = inl leads.0
toward_by_file f past rest (Some launch) (Ok file) new left is taking (inl not) still = inl not.1
toward_by_file f past rest (Some launch) (Ok file) new left is taking (inr loads) still =
    inr (toward_by_loads f past rest launch (Ok file) (Some file) new left is refl loads still)
toward_by_file f past rest (Some launch) (Err load_fault.CannotRead) new left is taking (inl not) still = inl not.1
toward_by_file f past rest (Some launch) (Err load_fault.CannotRead) new left is taking (inr loads) still =
    inr (toward_by_loads f past rest launch (Err load_fault.CannotRead) None new left is refl loads still)
toward_by_file f past rest (Some launch) (Err load_fault.NoMemory) new left is taking leads still =
    elim leads.0 [
      | inl not ↦ inl not.1
      | inr after ↦ absurd (closes_for_good past MemoryFailure new _ refl after.1 still)
    ]

leads_toward : (f : Dialect) (past : History) (rest : Rest) (e : Incoming) (new : History) (left : Rest)
    → IsTaking past → LeadsByEvent f past rest e new left → IsTaking new → Toward f past rest e new
leads_toward f past rest (event.Piece piece) new left taking leads still =
    toward_by_piece f past rest.launch (rest.bytes ++ piece) new left leads still
leads_toward f past rest event.End new left taking leads still = grind (arith, common_steps)
leads_toward f past rest event.ReadFailed new left taking leads still = grind (arith, common_steps)
leads_toward f past rest event.NoMemory new left taking leads still =
    elim leads.0 [
      | inl not ↦ not.1
      | inr after ↦ absurd (closes_for_good past MemoryFailure new _ refl after.1 still)
    ]
leads_toward f past rest (event.File answer) new left taking leads still =
    toward_by_file f past rest rest.launch answer new left refl taking leads still
leads_toward f past rest (event.Report r) new left taking leads still = grind (arith, common_steps)

-- ---- what comes of the event

fails_at : (f : Dialect) (fault : SessionFault) (past : History) (rest : Rest) (e : Incoming) (old later : Ports)
    → StopsOnTheWay (Toward f past rest e) past fault old later → EventGivesUp f fault past rest e old later
fails_at f fault past rest e old later stops =
    record {
      mid = stops.mid;
      toward = stops.way;
      between = stops.between;
      sent = stops.sent;
      refuses_nothing = stops.refuses_nothing;
      next = stops.next;
      next_is = stops.next_is;
      breaks = stops.breaks;
    }

-- a fault that is none of framing
comes_of_stop : (f : Dialect) (fault : SessionFault) (events : List Incoming) (past : History) (rest : Rest)
    (e : Incoming)
    (session : State) (old later : Ports) → StopsOnTheWay (Toward f past rest e) past fault old later
    → Comes f (Err fault) events past rest e session old later
comes_of_stop f (Frame k) events past rest e session old later stops = absurd stops.breaks
comes_of_stop f NoMemory events past rest e session old later stops = fails_at f NoMemory past rest e old later stops
comes_of_stop f SeqExhausted events past rest e session old later stops =
    fails_at f SeqExhausted past rest e old later stops
comes_of_stop f OrdersFull events past rest e session old later stops = fails_at f OrdersFull past rest e old later
    stops
comes_of_stop f RunnerGone events past rest e session old later stops = fails_at f RunnerGone past rest e old later
    stops
comes_of_stop f WriterGone events past rest e session old later stops = fails_at f WriterGone past rest e old later
    stops

-- the session gave up
comes_of_fault : (f : Dialect) (fault : SessionFault) (events : List Incoming) (past : History) (e : Incoming)
    (start session last : State) (old later : Ports) (stands : Represents f start events past)
    → Handles f (Err fault) past stands.rest e session old later
    → Comes f (Err fault) events past stands.rest e last old later
comes_of_fault f fault events past e start session last old later stands (inl stops) =
    comes_of_stop f fault events past stands.rest e last old later stops
comes_of_fault f fault events past e start session last old later stands (inr ends) =
    rw ends.1 (record {
      new = ends.2.new;
      rest = ends.2.rest;
      history = leads_one_more f [] (only_bytes []) events past stands.rest e ends.2.new ends.2.rest stands.history
          ends.2.way;
      ending_is = ends.2.ending_is;
      sends = ends.2.sends;
      refuses_nothing = ends.2.refuses_nothing;
    })

-- The session came through the event. It asks for something next, or there was no memory to ask.
comes_of_want : (f : Dialect) (result : Result Want SessionFault) (events : List Incoming)
    (past : History)
    (e : Incoming) (start session last : State) (old later : Ports) (stands : Represents f start events past)
    → IsTaking past
    → Arrives f (LeadsByEvent f past stands.rest e) past session old later
    → IfOk result (λ want. Wants want session session.ending)
    → IfErr result (λ fault. (fault ≡ NoMemory) × (session.ending ≡ None))
    → ((want : Want) → result ≡ Ok want → last ≡ session)
    → Comes f result events past stands.rest e last old later
comes_of_want f (Ok want) events past e start session last old later stands taking came wants lost same =
    rw (same want refl) (record {
      new = came.new;
      stands = record {
        rest = came.rest;
        history = leads_one_more f [] (only_bytes []) events past stands.rest e came.new came.rest stands.history
            came.way;
        ending_is = came.ending_is;
        goes_on = came.goes_on;
      };
      sends = came.sends;
      refuses_nothing = came.refuses_nothing;
      wants = wants;
    })
comes_of_want f (Err fault) events past e start session last old later stands taking came wants lost same =
    grind (arith, common_steps, leads_toward)

-- a launch waits for the file at the path
pub wants_file : (session : State) (path : String Global) (settings : InitializeArguments) (launch : Launch)
    → session.ending ≡ None → session.phase ≡ phase.Launching settings launch
    → string_bytes path ≡ launch.arguments.program
    → Wants (want_is.File path) session session.ending
wants_file session path settings launch open_ launching spelled = rw open_ (rw launching (path, refl, spelled))

-- where no launch waits, nothing has to be made to ask for what comes next
want_needs_none : (result : Result Want SessionFault) (session : State)
    → (session.ending ≡ None → launch_of session.phase ≡ None)
    → IfErr result (λ fault. (fault ≡ NoMemory) × (session.ending ≡ None))
    → IfErr result (λ fault. launch_of session.phase ≢ None)
    → result ≢ Err NoMemory
want_needs_none (Ok want) session free lost waits_ = λ e. absurd cc
want_needs_none (Err fault) session free lost waits_ = λ e. absurd (waits_ (free lost.1))

-- ---- the event is taken

-- the same, of the history of the events that it represents
handled_from : (start session : State) (e : Incoming) (taken : Result (Unit {0}) SessionFault) (old later : Ports)
    → start.ending ≡ None → HandlesEvent start e taken session old later
    → (f : Dialect) (events : List Incoming) (past : History)
    (stands : Represents f start events past) → Handles f taken past stands.rest e session old later
handled_from start session e taken old later open_ handled f events past stands =
    grind (arith, common_steps)

-- with the result under another name
pub takes_as : (start last : State) (e : Incoming) (result same : Result Want SessionFault) (old later : Ports)
    → result ≡ same → TakesEvent start e result last old later → TakesEvent start e same last old later
takes_as start last e result same old later is takes = subst (λ r. TakesEvent start e r last old later) is takes

-- it gave up at the event
pub takes_of_fault : (start session last : State) (e : Incoming) (taken : Result (Unit {0}) SessionFault)
    (fault : SessionFault) (old later : Ports) → start.ending ≡ None → HandlesEvent start e taken session old later
    → taken ≡ Err fault → TakesEvent start e (Err fault) last old later
takes_of_fault start session last e taken fault old later open_ handled is = record {
  comes = λ f events past stands. comes_of_fault f fault events past e start session last old later stands
      (subst (λ t. Handles f t past stands.rest e session old later) is
      (handled_from start session e taken old later open_ handled f events past stands));
  no_memory = λ lacks.
      let lost = sym is ∙ handled.no_memory lacks in
      let same : fault ≡ NoMemory = cc in ap Err same;
  enough = λ needs lost. (subst (λ t. NeededNoMemory t session) is (handled.enough needs)) cc;
}

-- it came through the event
pub takes_of_want : (start session last : State) (e : Incoming) (taken : Result (Unit {0}) SessionFault)
    (result : Result Want SessionFault) (old later : Ports) → start.ending ≡ None
    → HandlesEvent start e taken session old later → taken ≡ Ok tt
    → IfOk result (λ want. Wants want session session.ending)
    → IfErr result (λ fault. (fault ≡ NoMemory) × (session.ending ≡ None))
    → IfErr result (λ fault. launch_of session.phase ≢ None)
    → ((want : Want) → result ≡ Ok want → last ≡ session)
    → TakesEvent start e result last old later
takes_of_want start session last e taken result old later open_ handled is wants lost waits_ same = record {
  comes = λ f events past stands. comes_of_want f result events past e start session last old later stands
      (sym stands.ending_is ∙ open_)
      (subst (λ t. Handles f t past stands.rest e session old later) is
      (handled_from start session e taken old later open_ handled f events past stands))
      wants lost same;
  no_memory = λ lacks. absurd (let never = sym is ∙ handled.no_memory lacks in cc);
  enough = λ needs. want_needs_none result session (subst (λ t. NeededNoMemory t session) is (handled.enough needs))
      lost waits_;
}
