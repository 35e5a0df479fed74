-- A framing fault that ended a session stands in front of what the session has not taken, however much comes after it.
use Rattle.std.proofs.Common.{◌≡◌, inl, inr, ℕ, List, [], ◌∷◌, ◌++◌, Option, None, Some, Result, Ok, Err, refl, sym, ap, ◌∙◌, subst}
use Rattle.dap_frame.specs.Header.{FaultAt}
use Rattle.dap_frame.specs.declared.fault.FramingFault.{FramingFault}
use Rattle.dap_msg.specs.declared.command.Command.{Command}
use Rattle.dap_msg.specs.declared.command.Command.TheVariants as command
use Rattle.dap_msg.specs.declared.request.Dialect.{Dialect}
use Rattle.dbg_runner.specs.Plain.{PlainReport}
use Rattle.dbg_runner.specs.declared.outcome.SliceOutcome.{SliceOutcome}
use Rattle.dbg_runner.specs.declared.outcome.SliceOutcome.TheVariants as slice
use Rattle.dap_history.specs.declared.ending.Ending.TheVariants as ending
use Rattle.dap_history.specs.declared.fault.LoadFault.{LoadFault}
use Rattle.dap_history.specs.declared.fault.LoadFault.TheVariants as load_fault
use Rattle.dap_history.specs.declared.fault.SessionFault.TheVariants.{Frame}
use Rattle.dap_history.specs.declared.launch.Launch.{Launch}
use Rattle.dap_history.specs.History.{Item, Content, Loaded, Accepted, Fault, InputEnd, ReadFailure, MemoryFailure, History}
use Rattle.dap_history.specs.Readings.{closing_command, closing_report, closing, ending_of}
use Rattle.dap_history.specs.Emission.{IsAfter}
use Rattle.dap_history.specs.Events.{Incoming, Piece, End, ReadFailed, File, Report, Rest, only_bytes, IsTaking, TakesSome, no_content, one_content, Rests, closed, open_ended, faulty, waits, Takes, MayTake, LeadsByPiece, LeadsByFile, LeadsByReport, LeadsByEvent, LeadsByEvents, IsHistoryOf}
use Rattle.dap_history.specs.Events.{NoMemory as NoMemoryCame}
use Rattle.dap_history.proofs.Closings.{ends_by}
use Rattle.dap_history.proofs.Cuts.{fault_more}

-- ---- which item ends a session so

abbrev IsNoFault : Item → Type 0
IsNoFault (Fault k) = ⊥
IsNoFault _ = Unit {0}

command_not : (c : Command) (k : FramingFault) → ¬ (closing_command c ≡ Some (ending.Fault (Frame k)))
command_not command.Disconnect k is = absurd cc
command_not _ k is = absurd cc

report_not : (outcome : SliceOutcome) (k : FramingFault) → ¬ (closing_report outcome ≡ Some (ending.Fault (Frame k)))
report_not slice.NoMemory k is = absurd cc
report_not _ k is = absurd cc

item_not : (item : Item) (k : FramingFault) → IsNoFault item → ¬ (closing item ≡ Some (ending.Fault (Frame k)))
item_not (Content None) k other is = absurd cc
item_not (Content (Some request)) k other is = command_not request.body k is
item_not (Loaded launch file) k other is = absurd cc
item_not (Accepted r) k other is = report_not r.outcome k is
item_not (Fault j) k other is = other
item_not InputEnd k other is = absurd cc
item_not ReadFailure k other is = absurd cc
item_not MemoryFailure k other is = absurd cc

-- ---- along the events

-- the fault that ended the session stands in front of the rest, and no launch waits
abbrev pub FaultStands : History → Rest → Type 0
FaultStands past rest =
    (k : FramingFault) → ending_of past ≡ Some (ending.Fault (Frame k)) → (rest.launch ≡ None) × FaultAt rest.bytes k

none_ended : (past : History) (rest : Rest) → IsTaking past → FaultStands past rest
none_ended past rest taking k is = let e = sym taking ∙ is in absurd cc

other_item : (past : History) (item : Item) (new : History) (rest : Rest) → IsTaking past → IsAfter past item new
    → IsNoFault item → FaultStands new rest
other_item past item new rest taking after other k is =
    absurd (item_not item k other (sym (ends_by past item new taking after) ∙ is))

same_there : (past new : History) (rest left : Rest) → new ≡ past → left ≡ rest → FaultStands past rest
    → FaultStands new left
same_there past new rest left same_past same_rest here =
    subst (λ h. FaultStands h left) (sym same_past) (subst (FaultStands past) (sym same_rest) here)

some_stand : {dialect : Dialect} {past new : History} {bytes left : List ℕ} → TakesSome dialect past bytes new left
    → FaultStands past (only_bytes bytes) → FaultStands new (only_bytes left)
some_stand no_content here = here
some_stand {dialect = dialect} {past = past}
    (one_content {mid = mid} {more = more} request taking front unwanted after some) here =
    some_stand some (other_item past (Content request) mid (only_bytes more) taking after tt)

rests_stand : {dialect : Dialect} {past : History} {bytes : List ℕ} {new : History} {rest : Rest}
    → Rests dialect past bytes new rest → FaultStands past (only_bytes bytes) → FaultStands new rest
rests_stand (closed not) here = here
rests_stand (open_ended taking is) here = here
rests_stand {past = past} {bytes = bytes} (faulty k new taking fault after) here = λ j is.
    let e : Some (ending.Fault (Frame k)) ≡ Some (ending.Fault (Frame j)) =
    sym (ends_by past (Fault k) new taking after) ∙ is in
    let same : k ≡ j = cc in
    (refl, subst (FaultAt bytes) same fault)
rests_stand (waits request launch more taking front wanted) here = λ k is. let e = sym taking ∙ is in absurd cc

takes_stand : (dialect : Dialect) (past : History) (bytes : List ℕ) (new : History) (rest : Rest)
    → Takes dialect past bytes new rest → FaultStands past (only_bytes bytes) → FaultStands new rest
takes_stand dialect past bytes new rest taken here = rests_stand taken.3 (some_stand taken.2 here)

may_stand : (past : History) (item : Item) (new : History) (rest : Rest) → IsNoFault item → MayTake past item new
    → FaultStands past rest → FaultStands new rest
may_stand past item new rest other (inl over) here = same_there past new rest rest over.1 refl here
may_stand past item new rest other (inr is) here = other_item past item new rest is.0 is.1 other

piece_stands : (f : Dialect) (past : History) (rest : Rest) (launch : Option Launch) (piece : List ℕ) (new : History)
    (left : Rest)
    → rest.launch ≡ launch → LeadsByPiece f past launch (rest.bytes ++ piece) new left → FaultStands past rest
    → FaultStands new left
piece_stands f past rest None piece new left same leads here =
    takes_stand f past (rest.bytes ++ piece) new left leads
    (λ k is. (refl, fault_more rest.bytes piece k (here k is).1))
piece_stands f past rest (Some launch) piece new left same leads here = λ k is.
    let e = sym same ∙ (here k (sym (ap ending_of leads.0) ∙ is)).0 in absurd cc

file_stands : (f : Dialect) (past : History) (rest : Rest) (launch : Option Launch) (file : Result (List ℕ) LoadFault)
    (new : History) (left : Rest) → LeadsByFile f past rest launch file new left → FaultStands past rest
    → FaultStands new left
file_stands f past rest None file new left leads here = same_there past new rest left leads.0 leads.1 here
file_stands f past rest (Some launch) (Ok file) new left (inl over) here =
    same_there past new rest left over.1 over.2 here
file_stands f past rest (Some launch) (Ok file) new left (inr loads) here =
    takes_stand f loads.mid rest.bytes new left loads.after
    (other_item past (Loaded launch (Some file)) loads.mid (only_bytes rest.bytes) loads.taking loads.loaded
    tt)
file_stands f past rest (Some launch) (Err load_fault.CannotRead) new left (inl over) here =
    same_there past new rest left over.1 over.2 here
file_stands f past rest (Some launch) (Err load_fault.CannotRead) new left (inr loads) here =
    takes_stand f loads.mid rest.bytes new left loads.after
    (other_item past (Loaded launch None) loads.mid (only_bytes rest.bytes) loads.taking loads.loaded tt)
file_stands f past rest (Some launch) (Err load_fault.NoMemory) new left leads here =
    subst (FaultStands new) (sym leads.1) (may_stand past MemoryFailure new rest tt leads.0 here)

report_stands : (past : History) (rest : Rest) (r : PlainReport) (new : History) → LeadsByReport past r new
    → FaultStands past rest → FaultStands new rest
report_stands past rest r new (inl over) here = same_there past new rest rest over.1 refl here
report_stands past rest r new (inr is) here = other_item past (Accepted r) new rest is.0 is.2 tt

event_stands : (f : Dialect) (past : History) (rest : Rest) (e : Incoming) (new : History) (left : Rest)
    → LeadsByEvent f past rest e new left → FaultStands past rest → FaultStands new left
event_stands f past rest (Piece piece) new left leads here =
    piece_stands f past rest rest.launch piece new left refl leads here
event_stands f past rest End new left leads here =
    subst (FaultStands new) (sym leads.1) (may_stand past InputEnd new rest tt leads.0 here)
event_stands f past rest ReadFailed new left leads here =
    subst (FaultStands new) (sym leads.1) (may_stand past ReadFailure new rest tt leads.0 here)
event_stands f past rest NoMemoryCame new left leads here =
    subst (FaultStands new) (sym leads.1) (may_stand past MemoryFailure new rest tt leads.0 here)
event_stands f past rest (File file) new left leads here = file_stands f past rest rest.launch file new left leads here
event_stands f past rest (Report r) new left leads here =
    subst (FaultStands new) (sym leads.1) (report_stands past rest r new leads.0 here)

events_stand : (f : Dialect) (past : History) (rest : Rest) (events : List Incoming) (new : History) (left : Rest)
    → LeadsByEvents f past rest events new left → FaultStands past rest → FaultStands new left
events_stand f past rest [] new left all here = same_there past new rest left all.0 all.1 here
events_stand f past rest (e ∷ events) new left all here =
    events_stand f all.0 all.1 events new left all.3 (event_stands f past rest e all.0 all.1 all.2 here)

pub fault_stands : (f : Dialect) (events : List Incoming) (past : History) (rest : Rest)
    → IsHistoryOf f events past rest
    → FaultStands past rest
fault_stands f events past rest history =
    events_stand f [] (only_bytes []) events past rest history
    (none_ended [] (only_bytes []) refl)
