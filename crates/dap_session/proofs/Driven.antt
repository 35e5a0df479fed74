-- A session that is driven.
use Rattle.std.proofs.Common.{◌≡◌, inl, inr, ℕ, List, [], ◌∷◌, ◌++◌, Option, None, Some, option_map, IfSome, Result, Ok, Err, refl, sym, ◌∙◌, ap, subst, append_assoc, append-nil, arith}
use Rattle.std.specs.Prelude.{string_bytes}
use Rattle.dap_msg.specs.declared.request.Dialect.{Dialect}
use Rattle.dap_history.specs.declared.ending.Closed.{Closed}
use Rattle.dap_history.specs.declared.ending.Ending.{Ending}
use Rattle.dap_history.specs.declared.ending.Ending.TheVariants as ending
use Rattle.dap_history.specs.declared.fault.LoadFault.{LoadFault}
use Rattle.dap_history.specs.declared.fault.SessionFault.{SessionFault}
use Rattle.dap_history.specs.declared.fault.SessionFault.TheVariants as faults
use Rattle.dap_history.specs.declared.launch.Launch.{Launch}
use Rattle.dap_history.specs.History.{History}
use Rattle.dap_history.specs.Readings.{ending_of}
use Rattle.dap_history.specs.Events.{Incoming, Piece, End, ReadFailed, File, Report, Rest, IsTaking, AreLawful, IsHistoryOf}
use Rattle.dap_history.specs.Events.{NoMemory as NoMemoryCame}
use Rattle.dap_history.specs.Reports.{Accepts}
use Rattle.dap_history.specs.Interleaving.{Load, Awaits, AwaitsNone, Interleaves}
use Rattle.dap_replies.specs.declared.phase.Phase.{Phase}
use Rattle.dap_replies.specs.Phases.{launch_of}
use Rattle.dap_session.specs.declared.want.Want.{Want}
use Rattle.dap_session.specs.declared.want.Want.TheVariants as want_is
use Rattle.dap_session.specs.Ports.{Ports, load_of}
use Rattle.dap_session.specs.Sending.{Sends, RefusesNothing, TriesQuit}
use Rattle.dap_session.specs.State.{State, Represents, Wants, WantsHere, IsOpenEnded}
use Rattle.dap_session.specs.Taking.{Expects, NeedsNoMemory, EventGivesUp, Comes, TakesEvent}
use Rattle.dap_session.specs.Serving.{ReachesLast, Serves, StopsShort, no_seq_is_left, orders_are_full, runner_is_gone, writer_is_gone, SessionOutcome, closes, ends_at_fault, runs_out_of_memory, gives_up, Driven, OwesOnly}
use Rattle.dap_session.specs.Coming.{Sources, ComesFrom}
use Rattle.dap_session.proofs.Reports.{accepts_expected}
use Rattle.dap_session.proofs.Joining.{sends_both, refuses_both, sends_nothing}
use Rattle.std.proofs.lemmas.Grind.{common_steps}

-- ---- interleavings, one after another

interleaves_both : (f : Dialect) (before xs ys : List Incoming) (given more : List Incoming) (loads rest : List Load)
    → Interleaves f before xs given loads → Interleaves f (before ++ xs) ys more rest
    → Interleaves f before (xs ++ ys) (given ++ more) (loads ++ rest)
interleaves_both f before [] ys given more loads rest first next = rw (first.1, first.0, ← (append-nil before)) next
interleaves_both f before (e ∷ xs) ys given more loads rest (inl first) next =
    inl (
      first.0,
      first.1 ++ rest,
      ap (λ l. l ++ rest) first.2,
      first.3,
      interleaves_both f (before ++ e ∷ []) xs ys given more first.1 rest first.4
          (subst (λ b. Interleaves f b ys more rest) (sym (append_assoc before (e ∷ []) xs)) next),
    )
interleaves_both f before (e ∷ xs) ys given more loads rest (inr first) next =
    inr (
      first.0 ++ more,
      ap (λ g. g ++ more) first.1,
      first.2,
      interleaves_both f (before ++ e ∷ []) xs ys first.0 more loads rest first.3
          (subst (λ b. Interleaves f b ys more rest) (sym (append_assoc before (e ∷ []) xs)) next),
    )

pub lawful_both : (xs ys : List Incoming) → AreLawful xs → AreLawful ys → AreLawful (xs ++ ys)
lawful_both [] ys first next = next
lawful_both (Report r ∷ xs) ys first next = (first.0, lawful_both xs ys first.1 next)
lawful_both (Piece p ∷ xs) ys first next = lawful_both xs ys first next
lawful_both (End ∷ xs) ys first next = lawful_both xs ys first next
lawful_both (ReadFailed ∷ xs) ys first next = lawful_both xs ys first next
lawful_both (NoMemoryCame ∷ xs) ys first next = lawful_both xs ys first next
lawful_both (File f ∷ xs) ys first next = lawful_both xs ys first next

pub lawful_apart : (xs ys : List Incoming) → AreLawful (xs ++ ys) → AreLawful xs × AreLawful ys
lawful_apart [] ys both = (tt, both)
lawful_apart (Report r ∷ xs) ys both = let apart = lawful_apart xs ys both.1 in ((both.0, apart.0), apart.1)
lawful_apart (Piece p ∷ xs) ys both = lawful_apart xs ys both
lawful_apart (End ∷ xs) ys both = lawful_apart xs ys both
lawful_apart (ReadFailed ∷ xs) ys both = lawful_apart xs ys both
lawful_apart (NoMemoryCame ∷ xs) ys both = lawful_apart xs ys both
lawful_apart (File f ∷ xs) ys both = lawful_apart xs ys both

-- ---- a session on its way

-- the path of the launch that waits
abbrev pub path_of : Phase → Option (List ℕ)
path_of phase = option_map (λ launch. launch.arguments.program) (launch_of phase)

-- These events were taken, and all that they give was sent.
pub record Way (f : Dialect) (session : State) (wanted : Option (List ℕ)) (begin now : Sources)
    (old later : Ports) : Type 0 where
  pub events : List Incoming
  pub past : History
  pub given : List Incoming
  pub loads : List Load
  pub given_are : now.given ≡ begin.given ++ given
  pub loads_are : now.loaded ≡ begin.loaded ++ loads
  pub lawful : AreLawful events
  pub interleaves : Interleaves f [] events given loads
  pub stands : Represents f session events past
  pub sent : Sends [] past old later
  pub sure : RefusesNothing old later
  pub open_ended : session.ending ≡ None
  pub wanted_is : wanted ≡ path_of session.phase

-- the way begins with a session that has taken no event
pub way_begins : (f : Dialect) (session : State) (begin : Sources) (old : Ports) → Represents f session [] []
    → Way f session None begin begin old old
way_begins f session begin old stands = grind (arith, common_steps, append-nil, sends_nothing)

-- ---- the next event

-- what the next event adds to what was given and loaded
record Adds (f : Dialect) (events : List Incoming) (event : Incoming) (now next : Sources) : Type 0 where
  given : List Incoming
  loads : List Load
  given_are : next.given ≡ now.given ++ given
  loads_are : next.loaded ≡ now.loaded ++ loads
  one : Interleaves f events (event ∷ []) given loads

awaits : (f : Dialect) (session : State) (events : List Incoming) (past : History) (launch : Launch) (path : List ℕ)
    → Represents f session events past → session.ending ≡ None
    → launch_of session.phase ≡ Some launch → path ≡ launch.arguments.program → Awaits f events path
awaits f session events past launch path stands open_ is same =
    let taking : IsTaking past = sym stands.ending_is ∙ open_ in record {
      past = past;
      rest = stands.rest;
      history = stands.history;
      taking = taking;
      launch = launch;
      waits = sym (stands.goes_on taking).launch_is ∙ is;
      path_is = same;
    }

awaits_none : (f : Dialect) (session : State) (events : List Incoming) (past : History)
    → Represents f session events past
    → session.ending ≡ None
    → launch_of session.phase ≡ None → AwaitsNone f events
awaits_none f session events past stands open_ is = grind (arith, common_steps)

adds_file : (f : Dialect) (events : List Incoming) (path : List ℕ) (answer : Result (List ℕ) LoadFault)
    (now next : Sources)
    → Awaits f events path
    → next.given ≡ now.given → next.loaded ≡ now.loaded ++ load_of path answer ∷ []
    → Adds f events (File answer) now next
adds_file f events path answer now next awaited given loaded = record {
  given = [];
  loads = load_of path answer ∷ [];
  given_are = given ∙ sym (append-nil now.given);
  loads_are = loaded;
  one = inl (load_of path answer, [], refl, (refl, awaited), (refl, refl));
}

adds_event : (f : Dialect) (session : State) (events : List Incoming) (past : History) (wanted : Option (List ℕ))
    (launch : Option Launch) (event : Incoming) (now next : Sources)
    → Represents f session events past → session.ending ≡ None → launch_of session.phase ≡ launch
    → wanted ≡ option_map (λ l. l.arguments.program) launch
    → ComesFrom wanted event now next
    → Adds f events event now next
adds_event f session events past None None event now next stands open_ is same from =
    record {
      given = event ∷ [];
      loads = [];
      given_are = from.0;
      loads_are = from.1 ∙ sym (append-nil now.loaded);
      one = inr ([], refl, awaits_none f session events past stands open_ is, (refl, refl));
    }
adds_event f session events past None (Some launch) event now next stands open_ is same from = absurd cc
adds_event f session events past (Some path) None event now next stands open_ is same from = absurd cc
adds_event f session events past (Some path) (Some launch) (File answer) now next stands open_ is same from =
    adds_file f events path answer now next (awaits f session events past launch path stands open_ is cc) from.0 from.1
adds_event f session events past (Some path) (Some launch) (Piece p) now next stands open_ is same from = absurd from
adds_event f session events past (Some path) (Some launch) End now next stands open_ is same from = absurd from
adds_event f session events past (Some path) (Some launch) ReadFailed now next stands open_ is same from = absurd from
adds_event f session events past (Some path) (Some launch) NoMemoryCame now next stands open_ is same from = absurd from
adds_event f session events past (Some path) (Some launch) (Report r) now next stands open_ is same from = absurd from

-- ---- an event is taken

-- what the result wants
abbrev wanted_by : Want → Option (List ℕ)
wanted_by want_is.Event = None
wanted_by (want_is.File path) = Some (string_bytes path)
wanted_by want_is.Closed = None

wants_here : (want : Want) (launch : Option Launch) → WantsHere want launch
    → wanted_by want ≡ option_map (λ l. l.arguments.program) launch
wants_here want None is = ap wanted_by is
wants_here want (Some launch) is = ap wanted_by is.1 ∙ ap Some is.2

goes_on : (want : Want) (session : State) (e : Option Ending) → session.ending ≡ e → Wants want session e
    → (want ≡ want_is.Closed → ⊥)
    → (session.ending ≡ None) × (wanted_by want ≡ path_of session.phase)
goes_on want session None is wants not = (is, wants_here want (launch_of session.phase) wants)
goes_on want session (Some (ending.Closed by)) is wants not = absurd (not wants)
goes_on want session (Some (ending.Fault fault)) is wants not = absurd wants

-- what the history says of an event that needs no memory, the session says too
needs_none : (f : Dialect) (session : State) (events : List Incoming) (past : History)
    (stands : Represents f session events past)
    → session.ending ≡ None → (event : Incoming)
    → NeedsNoMemory stands.rest.launch (Accepts past) event → NeedsNoMemory (launch_of session.phase)
    (Expects session.phase) event
needs_none f session events past stands open_ End needs = tt
needs_none f session events past stands open_ ReadFailed needs = tt
needs_none f session events past stands open_ (File answer) needs = grind (arith, common_steps)
needs_none f session events past stands open_ (Report r) needs =
    grind (arith, common_steps, accepts_expected)
needs_none f session events past stands open_ (Piece piece) needs = absurd needs
needs_none f session events past stands open_ NoMemoryCame needs = absurd needs

-- where the session ran out of memory, the event needs some
needs_some : (f : Dialect) (session after : State) (fault : SessionFault) (event : Incoming) (mid later : Ports)
    (events : List Incoming) (past : History) (stands : Represents f session events past) → session.ending ≡ None
    → TakesEvent session event (Err fault) after mid later
    → fault ≡ faults.NoMemory → ¬ NeedsNoMemory stands.rest.launch (Accepts past) event
needs_some f session after fault event mid later events past stands open_ step lost needs =
    step.enough (needs_none f session events past stands open_ event needs) (ap Err lost)

-- the way goes on where the event went well
pub way_goes_on : (f : Dialect) (session after : State) (wanted : Option (List ℕ)) (want : Want) (event : Incoming)
    (begin now next : Sources) (old mid later : Ports)
    → Way f session wanted begin now old mid → ComesFrom wanted event now next → AreLawful (event ∷ [])
    → TakesEvent session event (Ok want) after mid later
    → (want ≡ want_is.Closed → ⊥)
    → Way f after (wanted_by want) begin next old later
way_goes_on f session after wanted want event begin now next old mid later way from law step not =
    let adds = adds_event f session way.events way.past wanted (launch_of session.phase) event now next way.stands
    way.open_ended refl way.wanted_is from in
    let well = step.comes f way.events way.past way.stands in
    let on = goes_on want after after.ending refl well.wants not in record {
      events = way.events ++ event ∷ [];
      past = well.new;
      given = way.given ++ adds.given;
      loads = way.loads ++ adds.loads;
      given_are =
          adds.given_are ∙ ap (λ l. l ++ adds.given) way.given_are ∙ append_assoc begin.given way.given adds.given;
      loads_are =
          adds.loads_are ∙ ap (λ l. l ++ adds.loads) way.loads_are ∙ append_assoc begin.loaded way.loads adds.loads;
      lawful = lawful_both way.events (event ∷ []) way.lawful law;
      interleaves =
          interleaves_both f [] way.events (event ∷ []) way.given adds.given way.loads adds.loads way.interleaves
          adds.one;
      stands = well.stands;
      sent = sends_both [] way.past well.new old mid later way.sent well.sends;
      sure = refuses_both old mid later way.sure well.refuses_nothing;
      open_ended = on.0;
      wanted_is = on.1;
    }

-- ---- the end

abbrev reaches_last : (f : Dialect) (events : List Incoming) (past : History) (rest : Rest) (event : Incoming)
    → IsHistoryOf f events past rest → IsTaking past → ReachesLast f (events ++ event ∷ [])
reaches_last f events past rest event history taking = record {
  before = events;
  last = event;
  events_are = refl;
  past = past;
  rest = rest;
  history = history;
  taking = taking;
}

serves : (f : Dialect) (events : List Incoming) (past : History) (rest : Rest) (by : Ending) (old later : Ports)
    → IsHistoryOf f events past rest → ending_of past ≡ Some by → ReachesLast f events
    → Sends [] past old later → RefusesNothing old later
    → Serves f events by old later
serves f events past rest by old later history is reaches sent sure = grind (arith, common_steps)

stops_short : (f : Dialect) (events : List Incoming) (past : History) (rest : Rest) (event : Incoming)
    (old mid later last : Ports)
    (fault : SessionFault)
    → IsHistoryOf f events past rest → IsTaking
    past → (fault ≡ faults.NoMemory → ¬ NeedsNoMemory rest.launch (Accepts past) event) → Sends [] past old mid
    → RefusesNothing old mid → EventGivesUp f fault past rest event mid later → TriesQuit later last
    → StopsShort f (events ++ event ∷ []) fault old last
stops_short f events past rest event old mid later last fault history taking needs sent sure fails quit = record {
  reaches = reaches_last f events past rest event history taking;
  needs = needs;
  mid = mid;
  sent = sent;
  refuses_nothing = sure;
  stopped = later;
  fails = fails;
  quit = quit;
}

-- the result is as the way and its last event lead to
ends : (f : Dialect) (events : List Incoming) (past : History) (rest : Rest) (event : Incoming) (after : State)
    (old mid later last : Ports) (given : List Incoming) (loads : List Load) (fault : SessionFault)
    → IsHistoryOf f events past rest → IsTaking
    past → (fault ≡ faults.NoMemory → ¬ NeedsNoMemory rest.launch (Accepts past) event) → Sends [] past old mid
    → RefusesNothing old mid → TriesQuit later last
    → Comes f (Err fault) events past rest event after mid later → Interleaves f [] (events ++ event ∷ []) given loads
    → SessionOutcome f (events ++ event ∷ []) given loads old last (Err fault)
ends f events past rest event after old mid later last given loads (faults.Frame k) history taking needs sent sure
    quit comes from =
    ends_at_fault from (record {
      mid = later;
      serves = serves f _ _ _ _ old later comes.history comes.ending_is
          (reaches_last f events past rest event history taking) (sends_both [] past _ old mid later sent comes.sends)
          (refuses_both old mid later sure comes.refuses_nothing);
      quit = quit;
    })
ends f events past rest event after old mid later last given loads faults.NoMemory history taking needs sent sure
    quit
    comes from =
    runs_out_of_memory from (stops_short f events past rest event old mid later last faults.NoMemory
    history taking
    needs sent sure comes quit)
ends f events past rest event after old mid later last given loads faults.SeqExhausted history taking needs sent
    sure quit
    comes from =
    gives_up no_seq_is_left from (stops_short f events past rest event old mid later last faults.SeqExhausted
    history
    taking needs sent sure comes quit)
ends f events past rest event after old mid later last given loads faults.OrdersFull history taking needs sent
    sure quit
    comes from =
    gives_up orders_are_full from (stops_short f events past rest event old mid later last faults.OrdersFull
    history
    taking needs sent sure comes quit)
ends f events past rest event after old mid later last given loads faults.RunnerGone history taking needs sent
    sure quit
    comes from =
    gives_up runner_is_gone from (stops_short f events past rest event old mid later last faults.RunnerGone
    history taking
    needs sent sure comes quit)
ends f events past rest event after old mid later last given loads faults.WriterGone history taking needs sent
    sure quit
    comes from =
    gives_up writer_is_gone from (stops_short f events past rest event old mid later last faults.WriterGone
    history taking
    needs sent sure comes quit)

-- the session was closed
pub way_closes : (f : Dialect) (session after : State) (wanted : Option (List ℕ)) (want : Want) (event : Incoming)
    (begin now next : Sources) (old mid later : Ports) (by : Closed)
    → Way f session wanted begin now old mid → ComesFrom wanted event now next → AreLawful (event ∷ [])
    → TakesEvent session event (Ok want) after mid later
    → after.ending ≡ Some (ending.Closed by)
    → Driven f (Ok by) begin.given next.given begin.loaded next.loaded old later
way_closes f session after wanted want event begin now next old mid later by way from law step is =
    let adds = adds_event f session way.events way.past wanted _ event now next way.stands way.open_ended refl
    way.wanted_is from in
    let well = step.comes f way.events way.past way.stands in
    record {
      events = way.events ++ event ∷ [];
      given = way.given ++ adds.given;
      loads = way.loads ++ adds.loads;
      given_are = cc (adds.given_are, way.given_are, append_assoc begin.given way.given adds.given);
      loads_are =
          cc (adds.loads_are, way.loads_are, append_assoc begin.loaded way.loads adds.loads);
      lawful = lawful_both way.events
          _ way.lawful law;
      drives = closes (interleaves_both f [] way.events _ way.given adds.given way.loads adds.loads
          way.interleaves adds.one) (serves f _ well.new well.stands.rest _ old later well.stands.history (sym
          well.stands.ending_is
          ∙ is) (reaches_last f way.events way.past way.stands.rest event way.stands.history (sym way.stands.ending_is ∙
          way.open_ended)) (sends_both [] way.past well.new old mid later way.sent well.sends) (refuses_both old mid
          later
          way.sure well.refuses_nothing));
    }

-- it gave up
pub way_fails : (f : Dialect) (session after : State) (wanted : Option (List ℕ)) (fault : SessionFault)
    (event : Incoming)
    (begin now next : Sources) (old mid later last : Ports)
    → Way f session wanted begin now old mid → ComesFrom wanted event now next → AreLawful (event ∷ [])
    → TakesEvent session event (Err fault) after mid later
    → TriesQuit later last
    → Driven f (Err fault) begin.given next.given begin.loaded next.loaded old last
way_fails f session after wanted fault event begin now next old mid later last way from law step quit =
    let needs = needs_some f session after fault event mid later way.events way.past way.stands way.open_ended step in
    let adds = adds_event f session way.events way.past wanted _ event now next way.stands way.open_ended refl
    way.wanted_is from in
    record {
      events = way.events ++ event ∷ [];
      given = way.given ++ adds.given;
      loads = way.loads ++ adds.loads;
      given_are = cc (adds.given_are, way.given_are, append_assoc begin.given way.given adds.given);
      loads_are =
          cc (adds.loads_are, way.loads_are, append_assoc begin.loaded way.loads adds.loads);
      lawful = lawful_both way.events
          (event ∷ []) way.lawful law;
      drives = ends f way.events way.past way.stands.rest event after old mid later last _ _
          fault way.stands.history (sym way.stands.ending_is
          ∙ way.open_ended) needs way.sent way.sure quit (step.comes f way.events way.past way.stands)
          (interleaves_both f []
          way.events (event ∷ []) way.given adds.given way.loads adds.loads way.interleaves adds.one);
    }

-- a session that says it is closed was closed by something
pub not_open_ended : (session : State) (e : Option Ending) (want : Want) → session.ending ≡ e → want ≡ want_is.Closed
    → Wants want session e → IsOpenEnded e → ⊥
not_open_ended session None want is closed wants open_ = grind (arith, common_steps)
not_open_ended session (Some (ending.Closed by)) want is closed wants open_ = open_
not_open_ended session (Some (ending.Fault fault)) want is closed wants open_ = wants

-- ---- between two events

-- on its way a session owes nothing but the launch of the file that it wants
pub way_owes : {f : Dialect} {session : State} {wanted : Option (List ℕ)} {begin now : Sources} {old later : Ports}
    → Way f session wanted begin now old later → OwesOnly f wanted begin now old later
way_owes {old = old} way = grind (arith, common_steps)

-- what holds of each path that is wanted holds of this one
pub of_wanted : {A : Type 0} (bytes : A → List ℕ) (P : List ℕ → Type 0) (wanted : Option A)
    → ((file : List ℕ) → option_map bytes wanted ≡ Some file → P file) → IfSome wanted (λ path. P (bytes path))
of_wanted bytes P None known = tt
of_wanted bytes P (Some path) known = known (bytes path) refl
