-- A history that a session reached is that of some events: each content in a piece of its own.
use Rattle.std.proofs.Common.{◌≡◌, ◌⊎◌, inl, inr, ℕ, List, [], ◌∷◌, ◌++◌, Option, None, Some, Result, Ok, Err, refl, sym, ◌∙◌, ap, subst}
use Rattle.dap_msg.specs.declared.request.Request.{Request}
use Rattle.dbg_runner.specs.Lawful.{IsLawfulReport}
use Rattle.dbg_runner.specs.Plain.{PlainReport}
use Rattle.dap_msg.specs.declared.request.Dialect.{Dialect}
use Rattle.dap_history.specs.declared.ending.Ending.{Ending}
use Rattle.dap_history.specs.declared.fault.LoadFault.{LoadFault}
use Rattle.dap_history.specs.declared.fault.LoadFault.TheVariants as load_fault
use Rattle.dap_history.specs.declared.launch.Launch.{Launch}
use Rattle.dap_history.specs.History.{Item, Content, Loaded, Accepted, Fault, InputEnd, ReadFailure, MemoryFailure, History}
use Rattle.dap_history.specs.Readings.{situation, ending_of}
use Rattle.dap_history.specs.Launching.{wanted_in}
use Rattle.dap_history.specs.Reports.{Accepts}
use Rattle.dap_history.specs.Emission.{IsAfter}
use Rattle.dap_history.specs.Events.{Incoming, Piece, End, ReadFailed, File, Report, AreLawful, Rest, only_bytes, IsTaking, IsInFront, TakesSome, no_content, one_content, Rests, closed, open_ended, faulty, waits, Takes, MayTake, LeadsByPiece, LeadsByFile, LeadsByReport, LeadsByEvent, LeadsByEvents, IsHistoryOf}
use Rattle.dap_history.specs.Events.{NoMemory as NoMemoryCame}
use Rattle.dap_session.specs.Taking.{TowardByPiece, LoadsToward, Toward}
use Rattle.dap_session.proofs.Driven.{lawful_both, lawful_apart}
use Rattle.dap_session.proofs.Standing.{leads_one_more}
use Rattle.dap_history.proofs.Along.{closes_for_good}
use Rattle.dap_history.proofs.Cuts.{at_once}
use Rattle.dap_history.proofs.Unread.{open_first}

-- a launch that waits, with no bytes after it
abbrev pub only_launch : Option Launch → Rest
only_launch launch = record { launch = launch; bytes = [] }

-- lawful events give the history; nothing is left unread of them while items are taken
pub record Retaken (f : Dialect) (past : History) (launch : Option Launch) : Type 0 where
  pub events : List Incoming
  pub rest : Rest
  pub lawful : AreLawful events
  pub history : IsHistoryOf f events past rest
  pub rest_is : IsTaking past → rest ≡ only_launch launch

-- with whatever launch waits then
abbrev pub IsRetaken : Dialect → History → Type 0
IsRetaken f past = (launch : Option Launch) × Retaken f past launch

-- ---- nothing is taken of no bytes

nothing_by : {f : Dialect} (past : History) (ending : Option Ending) → ending_of past ≡ ending
    → Rests f past [] past (only_bytes [])
nothing_by past None is = open_ended is open_first
nothing_by past (Some by) is = closed (λ taking. let e = sym taking ∙ is in cc)

takes_nothing : {f : Dialect} (past : History) → Rests f past [] past (only_bytes [])
takes_nothing past = nothing_by past (ending_of past) refl

-- ---- one event more

one_event : {f : Dialect} {past : History} {launch : Option Launch} → Retaken f past launch
    → (event : Incoming) (new : History) (left : Rest) (other : Option Launch) → AreLawful (event ∷ []) → IsTaking past
    → LeadsByEvent f past (only_launch launch) event new left → (IsTaking new → left ≡ only_launch other)
    → Retaken f new other
one_event {f = f} {past = past} {launch = launch} retaken event new left other law taking leads left_is = record {
  events = retaken.events ++ event ∷ [];
  rest = left;
  lawful = lawful_both retaken.events (event ∷ []) retaken.lawful law;
  history = leads_one_more f [] (only_bytes []) retaken.events past retaken.rest event new left retaken.history
      (subst (λ rest. LeadsByEvent f past rest event new left) (sym (retaken.rest_is taking)) leads);
  rest_is = left_is;
}

-- a content without the bytes after it
alone : (f : Dialect) (bytes : List ℕ) (request : Option Request) (more : List ℕ) → IsInFront f bytes request more
    → (frame : List ℕ)
    × IsInFront f frame request []
alone f bytes request more front = (
  front.framed.header ++ (front.content ++ []),
  record {
    content = front.content;
    framed = record { header = front.framed.header; lawful = front.framed.lawful; spelled = refl };
    read = front.read;
  },
)

content_given : {f : Dialect} {past : History} → Retaken f past None
    → (request : Option Request) (bytes more : List ℕ) (new : History)
    → IsTaking past → IsInFront f bytes request more → wanted_in (situation past) request ≡ None
    → IsAfter past (Content request) new
    → Retaken f new None
content_given {f = f} retaken request bytes more new taking front unwanted after =
    let frame = alone f bytes request more front in
    one_event retaken (Piece frame.0) new (only_bytes []) None tt taking
    (new, [], one_content request taking frame.1 unwanted after no_content, takes_nothing new)
    (λ still. refl)

launch_given : {f : Dialect} {past : History} → Retaken f past None
    → (request : Option Request) (launch : Launch) (bytes more : List ℕ)
    → IsTaking past → IsInFront f bytes request more → wanted_in (situation past) request ≡ Some launch
    → Retaken f past (Some launch)
launch_given {f = f} {past = past} retaken request launch bytes more taking front wanted =
    let frame = alone f bytes request more front in
    one_event retaken (Piece frame.0) past _ (Some launch) tt taking (at_once (waits request launch [] taking frame.1
    wanted)) (λ still. refl)

load_given : {f : Dialect} {past : History} {launch : Launch} → Retaken f past (Some launch)
    → (file : Option (List ℕ)) (new : History)
    → IsTaking past → IsAfter past (Loaded launch file) new → Retaken f new None
load_given {f = f} retaken (Some bytes) new taking after =
    one_event retaken (File (Ok bytes)) new (only_bytes []) None tt taking
    (inr (record { taking = taking; mid = new; loaded = after; after = at_once (takes_nothing new) })) (λ still. refl)
load_given {f = f} retaken None new taking after =
    one_event retaken (File (Err load_fault.CannotRead)) new (only_bytes []) None tt taking
    (inr (record { taking = taking; mid = new; loaded = after; after = at_once (takes_nothing new) })) (λ still. refl)

report_given : {f : Dialect} {past : History} {launch : Option Launch} → Retaken f past launch
    → (r : PlainReport) (new : History)
    → IsLawfulReport r → IsTaking past → Accepts past r → IsAfter past (Accepted r) new → Retaken f new launch
report_given {f = f} {launch = launch} retaken r new law taking accepts after =
    one_event retaken (Report r) new (only_launch launch) launch (law, tt) taking (inr (taking, accepts, after), refl)
    (λ still. refl)

-- an item that an event is of itself
item_given : {f : Dialect} {past : History} {launch : Option Launch} → Retaken f past launch
    → (item : Item) (event : Incoming) (new : History) → AreLawful (event ∷ [])
    → (MayTake past item new → LeadsByEvent f past (only_launch launch) event new (only_launch launch))
    → MayTake past item new → Retaken f new launch
item_given {f = f} {launch = launch} retaken item event new law leads (inl not) = rw not.1 retaken
item_given {f = f} {launch = launch} retaken item event new law leads (inr is) =
    one_event retaken event new (only_launch launch) launch law is.0 (leads (inr is)) (λ still. refl)

-- ---- events

some_given : {f : Dialect} {past new : History} {bytes left : List ℕ} → TakesSome f past bytes new left
    → Retaken f past None
    → Retaken f new None
some_given no_content retaken = retaken
some_given (one_content {mid = mid} {bytes = bytes} {more = more} request taking front unwanted after some)
    retaken =
    some_given some (content_given retaken request bytes more mid taking front unwanted after)

rests_given : {f : Dialect} {past new : History} {bytes : List ℕ} {rest : Rest} → Rests f past bytes new rest
    → Retaken f past None
    → Retaken f new rest.launch
rests_given (closed not) retaken = retaken
rests_given (open_ended taking is) retaken = retaken
rests_given {f = f} {past = past} {bytes = bytes} (faulty k new taking fault after) retaken =
    one_event retaken (Piece bytes) new (only_bytes bytes) None tt taking
    (at_once (faulty k new taking fault after))
    (λ still. absurd (closes_for_good past (Fault k) new _ refl after still))
rests_given {bytes = bytes} (waits request launch more taking front wanted) retaken =
    launch_given retaken request launch bytes more taking front wanted

takes_given : (f : Dialect) (past new : History) (bytes : List ℕ) (rest : Rest) → Takes f past bytes new rest
    → Retaken f past None
    → Retaken f new rest.launch
takes_given f past new bytes rest taken retaken = rests_given taken.3 (some_given taken.2 retaken)

piece_given : (f : Dialect) (past : History) (launch : Option Launch) (bytes : List ℕ) (new : History) (left : Rest)
    → LeadsByPiece f past launch bytes new left → Retaken f past launch → Retaken f new left.launch
piece_given f past None bytes new left leads retaken = takes_given f past new bytes left leads retaken
piece_given f past (Some launch) bytes new left leads retaken = rw leads.0 (rw leads.1 retaken)

-- nothing comes of the event
passed_over : {f : Dialect} (past : History) (rest : Rest) (launch : Option Launch) (new : History) (left : Rest)
    → rest.launch ≡ launch → new ≡ past → left ≡ rest → Retaken f past launch → Retaken f new left.launch
passed_over {f = f} past rest launch new left is same left_is retaken =
    rw same (rw (← (sym is ∙ ap (λ (r : Rest). r.launch) (sym left_is))) retaken)

file_given : (f : Dialect) (past : History) (rest : Rest) (launch : Option Launch) (answer : Result (List ℕ) LoadFault)
    (new : History) (left : Rest) → rest.launch ≡ launch → LeadsByFile f past rest launch answer new left
    → Retaken f past launch → Retaken f new left.launch
file_given f past rest None answer new left is leads retaken =
    passed_over past rest None new left is leads.0 leads.1 retaken
file_given f past rest (Some launch) (Ok bytes) new left is (inl not) retaken =
    passed_over past rest (Some launch) new left is not.1 not.2 retaken
file_given f past rest (Some launch) (Ok bytes) new left is (inr loads) retaken =
    takes_given f _ new _ left loads.after (load_given retaken _ _ loads.taking loads.loaded)
file_given f past rest (Some launch) (Err load_fault.CannotRead) new left is (inl not) retaken =
    passed_over past rest (Some launch) new left is not.1 not.2 retaken
file_given f past rest (Some launch) (Err load_fault.CannotRead) new left is (inr loads) retaken =
    takes_given f _ new _ left loads.after (load_given retaken None _ loads.taking loads.loaded)
file_given f past rest (Some launch) (Err load_fault.NoMemory) new left is leads retaken =
    passed_over new rest (Some launch) new left is refl leads.1
    (item_given retaken MemoryFailure NoMemoryCame new tt (λ may. (may, refl)) leads.0)

event_given : (f : Dialect) (past : History) (rest : Rest) (event : Incoming) (new : History) (left : Rest)
    → AreLawful (event ∷ [])
    → LeadsByEvent f past rest event new left → Retaken f past rest.launch → Retaken f new left.launch
event_given f past rest (Piece piece) new left law leads retaken = piece_given f past rest.launch _ new left
    leads retaken
event_given f past rest End new left law leads retaken =
    passed_over new rest rest.launch new left refl refl leads.1
    (item_given retaken InputEnd End new tt (λ may. (may, refl)) leads.0)
event_given f past rest ReadFailed new left law leads retaken =
    passed_over new rest rest.launch new left refl refl leads.1
    (item_given retaken ReadFailure ReadFailed new tt (λ may. (may, refl)) leads.0)
event_given f past rest NoMemoryCame new left law leads retaken =
    passed_over new rest rest.launch new left refl refl leads.1
    (item_given retaken MemoryFailure NoMemoryCame new tt (λ may. (may, refl)) leads.0)
event_given f past rest (File answer) new left law leads retaken =
    file_given f past rest rest.launch answer new left refl leads retaken
event_given f past rest (Report r) new left law leads retaken =
    passed_over new rest rest.launch new left refl refl leads.1 (by leads.0)
  where
    by : LeadsByReport past r new → Retaken f new rest.launch
    by (inl not) = subst (λ h. Retaken f h rest.launch) (sym not.1) retaken
    by (inr is) = report_given retaken r new law.0 is.0 is.1 is.2

events_given : (f : Dialect) (past : History) (rest : Rest) (events : List Incoming) (new : History) (left : Rest)
    → AreLawful events → LeadsByEvents f past rest events new left → Retaken f past rest.launch
    → Retaken f new left.launch
events_given f past rest [] new left lawful all retaken =
    passed_over past rest rest.launch new left refl all.0 all.1 retaken
events_given f past rest (e ∷ events) new left lawful all retaken =
    let apart = lawful_apart (e ∷ []) events lawful in
    events_given f all.0 all.1 events new left apart.1 all.3
    (event_given f past rest e all.0 all.1 apart.0 all.2 retaken)

pub retaken : (f : Dialect) (events : List Incoming) (past : History) (rest : Rest) → AreLawful events
    → IsHistoryOf f events past rest → Retaken f past rest.launch
retaken f events past rest lawful history =
    events_given f [] (only_bytes []) events past rest lawful history
    (record {
      events = [];
      rest = only_bytes [];
      lawful = tt;
      history = (refl, refl);
      rest_is = λ taking. refl;
    })

-- ---- some items of one event more

toward_piece : (f : Dialect) (past : History) (launch : Option Launch) (bytes : List ℕ) (new : History)
    → TowardByPiece f past launch bytes new → Retaken f past launch → Retaken f new launch
toward_piece f past None bytes new toward here = some_given toward.1 here
toward_piece f past (Some launch) bytes new toward here = subst (λ h. Retaken f h (Some launch)) (sym toward) here

toward_item : {f : Dialect} (past : History) (launch : Option Launch) (item : Item) (event : Incoming)
    (new : History)
    → AreLawful (event ∷ []) → IsTaking
    past → (MayTake past item new → LeadsByEvent f past (only_launch launch) event new (only_launch launch))
    → (new ≡ past) ⊎ IsAfter past item new → Retaken f past launch → IsRetaken f new
toward_item {f = f} past launch item event new law taking leads (inl same) here = (launch, rw same here)
toward_item {f = f} past launch item event new law taking leads (inr after) here =
    (launch, item_given here item event new law leads (inr (taking, after)))

toward_file : (f : Dialect) (past : History) (rest : Rest) (answer : Result (List ℕ) LoadFault) (new : History)
    → IsTaking past
    → (new ≡ past) ⊎ LoadsToward f past rest answer new → Retaken f past rest.launch → IsRetaken f new
toward_file f past rest answer new taking (inl same) here = (rest.launch, rw same here)
toward_file f past rest answer new taking (inr loads) here = (
  None,
  some_given loads.taken (load_given (subst (Retaken f past) loads.waits here) loads.file loads.mid taking
      loads.loaded),
)

pub retaken_toward : (f : Dialect) (past : History) (rest : Rest) (event : Incoming) (new : History)
    → AreLawful (event ∷ [])
    → IsTaking past → Toward f past rest event new → Retaken f past rest.launch → IsRetaken f new
retaken_toward f past rest (Piece piece) new law taking toward here =
    (rest.launch, toward_piece f past rest.launch _ new toward here)
retaken_toward f past rest End new law taking toward here =
    toward_item past rest.launch InputEnd End new tt taking (λ may. (may, refl)) toward here
retaken_toward f past rest ReadFailed new law taking toward here =
    toward_item past rest.launch ReadFailure ReadFailed new tt taking (λ may. (may, refl)) toward here
retaken_toward f past rest NoMemoryCame new law taking toward here = (rest.launch, rw toward here)
retaken_toward f past rest (File answer) new law taking toward here =
    toward_file f past rest answer new taking toward here
retaken_toward f past rest (Report r) new law taking (inl same) here = (rest.launch, rw same here)
retaken_toward f past rest (Report r) new law taking (inr is) here =
    (rest.launch, report_given here r new law.0 taking is.0 is.1)
