-- A report that a session takes.
use Rattle.std.proofs.Common.{◌≡◌, inl, inr, None, Some, Result, Ok, Err, refl, sym, ◌∙◌, ap, subst, arith}
use Rattle.std.specs.Prelude.{OnOk}
use Rattle.dbg_runner.specs.declared.outcome.SliceOutcome.{SliceOutcome}
use Rattle.dbg_runner.specs.declared.outcome.SliceOutcome.TheVariants as slice
use Rattle.dbg_runner.specs.Plain.{PlainReport, Heading}
use Rattle.dap_msg.specs.declared.request.Dialect.{Dialect}
use Rattle.dap_history.specs.declared.fault.SessionFault.{SessionFault}
use Rattle.dap_history.specs.declared.fault.SessionFault.TheVariants.{NoMemory}
use Rattle.dap_history.specs.History.{Accepted, History}
use Rattle.dap_history.specs.Readings.{closing_report, last_run, position}
use Rattle.dap_history.specs.Reports.{Accepts}
use Rattle.dap_history.specs.Events.{Rest, Report, IsTaking, LeadsByEvent}
use Rattle.dap_replies.specs.declared.phase.Phase.{Phase}
use Rattle.dap_replies.specs.declared.phase.Phase.TheVariants as phase
use Rattle.dap_replies.specs.declared.phase.Target.{Target}
use Rattle.dap_replies.specs.Runs.{OrderedRun, heading_in}
use Rattle.dap_replies.specs.Phases.{launch_of, IsPhase}
use Rattle.dap_session.specs.Ports.{Ports}
use Rattle.dap_session.specs.State.{State, GoesOn}
use Rattle.dap_session.specs.Taking.{Expects}
use Rattle.dap_session.specs.Handling.{NeededNoMemory, HandlesItem, Handles}
use Rattle.dap_session.proofs.Going.{stops_at_item, arrives_at_once}
use Rattle.std.proofs.lemmas.Grind.{common_steps}

-- only a report of a failed allocation ends the session
pub ends_nothing : (outcome : SliceOutcome) → ¬ (outcome ≡ slice.NoMemory) → closing_report outcome ≡ None
ends_nothing slice.NoMemory other = absurd (other refl)
ends_nothing _ other = refl

-- no memory was needed where sending needed none
pub needed_none : (result : Result (Unit {0}) SessionFault) (session : State)
    → OnOk result (launch_of session.phase ≡ None) → ¬ (result ≡ Err NoMemory) → NeededNoMemory result session
needed_none (Ok u) session free enough = λ open_. free
needed_none (Err fault) session free enough = λ lost. enough (ap Err lost)

-- ---- a report that is passed over

passed : (f : Dialect) (past : History) (rest : Rest) (r : PlainReport) (session : State) (old : Ports)
    → ¬ Accepts past r
    → session.ending ≡ None → IsTaking past → GoesOn f session past rest
    → Handles f (Ok tt) past rest (Report r) session old old
passed f past rest r session old not open_ taking on =
    arrives_at_once f (LeadsByEvent f past rest (Report r)) past rest session old
    (inl ((λ both. not both.1), refl), refl)
    open_ taking on

-- what the next report begins with, by the history
heading_is : (past : History) (t : Target) (run : OrderedRun) → IsPhase (phase.Running t run) past → (first : Heading)
    → last_run past ≡ Some first → record first { start = position past } ≡ heading_in t.runs run
heading_is past t run is first ordered = grind (arith, common_steps)

-- what the history accepts, the phase expects
expects : (p : Phase) (past : History) (r : PlainReport) → IsPhase p past → Accepts past r → Expects p r
expects (phase.Running t run) past r is accepts = accepts.expected ∙ heading_is past t run is accepts.run accepts.run_is
expects phase.Fresh past r is accepts = let e = sym accepts.running ∙ is.situation_is in absurd cc
expects (phase.Ready settings) past r is accepts = let e = sym accepts.running ∙ is.situation_is in absurd cc
expects (phase.Launching settings launch) past r is accepts = let e = sym accepts.running ∙ is.situation_is in absurd cc
expects (phase.Configuring t d) past r is accepts = let e = sym accepts.running ∙ is.situation_is in absurd cc
expects (phase.Stopped t d) past r is accepts = let e = sym accepts.running ∙ is.situation_is in absurd cc
expects (phase.Faulted t d) past r is accepts = let e = sym accepts.running ∙ is.situation_is in absurd cc
expects (phase.Ended t u) past r is accepts = let e = sym accepts.running ∙ is.situation_is in absurd cc

pub report_passed : (f : Dialect) (past : History) (rest : Rest) (r : PlainReport) (session last : State) (old : Ports)
    → last ≡ session → ¬ Expects session.phase r → session.ending ≡ None → IsTaking past → GoesOn f session past rest
    → Handles f (Ok tt) past rest (Report r) last old old
report_passed f past rest r session last old same other open_ taking on =
    rw same (passed f past rest r session old (λ accepts. other (expects session.phase past r on.knows.phase_is
    accepts)) open_ taking on)

-- ---- a report that is accepted

pub accepts_report : (past : History) (t : Target) (run : OrderedRun) (r : PlainReport)
    → IsPhase (phase.Running t run) past → r.heading ≡ heading_in t.runs run → Accepts past r
accepts_report past t run r is expected =
    record {
      running = is.situation_is;
      run = is.keeps.1.first;
      run_is = is.keeps.1.ordered;
      expected = expected ∙ sym (heading_is past t run is is.keeps.1.first is.keeps.1.ordered);
    }

-- what the phase expects, the history accepts
pub accepts_expected : (p : Phase) (past : History) (r : PlainReport) → IsPhase p past → Expects p r → Accepts past r
accepts_expected (phase.Running t run) past r is expected = accepts_report past t run r is expected
accepts_expected phase.Fresh past r is expected = absurd expected
accepts_expected (phase.Ready settings) past r is expected = absurd expected
accepts_expected (phase.Launching settings launch) past r is expected = absurd expected
accepts_expected (phase.Configuring t d) past r is expected = absurd expected
accepts_expected (phase.Stopped t d) past r is expected = absurd expected
accepts_expected (phase.Faulted t d) past r is expected = absurd expected
accepts_expected (phase.Ended t u) past r is expected = absurd expected

-- the session that had the run
pub record HadRun (session : State) (t : Target) (run : OrderedRun) (r : PlainReport) : Type 0 where
  pub phase_was : session.phase ≡ phase.Running t run
  pub expected : r.heading ≡ heading_in t.runs run

pub report_taken : (f : Dialect) (result : Result (Unit {0}) SessionFault) (past : History) (rest : Rest) (t : Target)
    (run : OrderedRun)
    (r : PlainReport) (session last : State) (old later : Ports) → HadRun session t run r → last.stream ≡ session.stream
    → IsTaking past → GoesOn f session past rest
    → HandlesItem result past (Accepted r) last old later → Handles f result past rest (Report r) last old later
report_taken f (Ok u) past rest t run r session last old later had same taking on item =
    grind (arith, common_steps, accepts_report)
report_taken f (Err fault) past rest t run r session last old later had same taking on item =
    let is = subst (λ p. IsPhase p past) had.phase_was on.knows.phase_is in
    let accepts = accepts_report past t run r is had.expected in
    inl (stops_at_item _ fault past _ old later (inl refl) (λ new after. inr (accepts, after)) item)
