-- While a session takes items, nothing whole is left unread.
use Rattle.dap_history.proofs.Common.{Dialect, Ending, Err, Fault, FaultAt, File, FramingFault, HasFaultyLine, History, Incoming, IsTaking, Item, Launch, LeadsByEvent, LeadsByEvents, LeadsByFile, LeadsByPiece, LeadsByReport, LoadFault, MayTake, None, Ok, Option, PlainReport, Rest, Some, Rests, [], ap, arith, closed, closing, faulty, inl, length, length-append, line_of, lines_of, open_ended, refl, waits, ℕ, ◌++◌, ◌∷◌, ◌≡◌}
use Rattle.std.proofs.Common.{List, Result}
use Rattle.dap_frame.specs.Header.{line_end}
use Rattle.dap_frame.specs.Frame.{IsFrameInFront, IsOpen}
use Rattle.dap_history.specs.declared.fault.LoadFault.TheVariants as load_fault
use Rattle.dap_history.specs.Laws.{RestIsOpen}
use Rattle.dap_history.proofs.Along.{closes_for_good, any_events, along_waits}
use Rattle.dap_history.proofs.GoingBack.{Anything, anything_kept}
use Rattle.std.proofs.lemmas.Grind.{common_steps}

-- ---- no bytes are neither a frame nor a fault

no_line : (fault : FramingFault) → ¬ HasFaultyLine [] fault
no_line fault is =
    let whole = ap length is.spelled in
    let parts = length-append (lines_of is.fields) (line_of is.line ++ is.after) in
    let more = length-append (line_of is.line) is.after in
    let line = length-append is.line line_end in
    omega (arith, whole, parts, more, line)

no_frame_first : (content rest : List ℕ) → ¬ IsFrameInFront [] content rest
no_frame_first content rest is =
    let whole = ap length is.spelled in
    let parts = length-append is.header (content ++ rest) in
    let header = ap length is.lawful.spelled in
    let lines = length-append (lines_of is.lawful.fields) line_end in
    omega (arith, whole, parts, header, lines)

no_fault_first : (fault : FramingFault) → ¬ FaultAt [] fault
no_fault_first fault is = grind (arith, common_steps, no_line) steps 200000

-- no bytes are open
pub open_first : IsOpen []
open_first = record { no_frame = no_frame_first; no_fault = no_fault_first }

-- ---- one event after another

abbrev Unread : History → Rest → Type 0
Unread past rest = IsTaking past → rest.launch ≡ None → IsOpen rest.bytes

unread_same : (past : History) (rest : Rest) (new : History) (left : Rest) → new ≡ past → left ≡ rest → Unread past rest
    → Unread new left
unread_same past rest new left same there here = grind (arith, common_steps) steps 1500000

unread_rests : {dialect : Dialect} {past : History} {bytes : List ℕ} {new : History} {rest : Rest}
    → Rests dialect past bytes new rest
    → Unread new rest
unread_rests (closed not) taking none = absurd (not taking)
unread_rests (open_ended taking_ is) taking none = is
unread_rests {past = past} (faulty k new taking_ is after) taking none =
    absurd (closes_for_good past (Fault k) new _ refl after taking)
unread_rests (waits request launch more taking_ front wanted) taking none = absurd cc

unread_may : (past : History) (rest left : Rest) (item : Item) (new : History) (by : Ending) → closing item ≡ Some by
    → MayTake past item new × (left ≡ rest) → Unread past rest → Unread new left
unread_may past rest left item new by closes is here = grind (arith, common_steps) steps 200000

unread_piece : (dialect : Dialect) (past : History) (launch : Option Launch) (bytes : List ℕ) (new : History)
    (left : Rest)
    → LeadsByPiece dialect past launch bytes new left → Unread new left
unread_piece dialect past launch bytes new left all = grind (arith, common_steps, unread_rests) steps 200000

unread_file : (f : Dialect) (past : History) (rest : Rest) (launch : Option Launch)
    (file : Result (List ℕ) LoadFault) (new : History)
    (left : Rest) → LeadsByFile f past rest launch file new left → Unread past rest → Unread new left
unread_file f past rest None file new left is here = unread_same past rest new left is.0 is.1 here
unread_file f past rest (Some launch) (Ok file) new left (inl is) here = unread_same past rest new left is.1 is.2 here
unread_file f past rest (Some launch) (Err load_fault.CannotRead) new left (inl is) here =
    unread_same past rest new left is.1 is.2 here
unread_file f past rest launch file new left is here =
    grind (arith, common_steps, unread_rests, unread_may) steps 200000

unread_report : (past : History) (rest : Rest) (r : PlainReport) (new : History) (left : Rest)
    → LeadsByReport past r new → left ≡ rest → Unread past rest → Unread new left
unread_report past rest r new left is same here = grind (arith, common_steps) steps 200000

unread_event : (f : Dialect) (past : History) (rest : Rest) (event : Incoming) (new : History) (left : Rest)
    → LeadsByEvent f past rest event new left → Unread past rest → Unread new left
unread_event f past rest (File file) new left leads here = unread_file f past rest rest.launch file new left leads here
unread_event f past rest event new left leads here =
    grind (arith, common_steps, unread_piece, unread_may, unread_report) steps 200000

unread_from : (f : Dialect) (past : History) (rest : Rest) (events : List Incoming) (new : History) (left : Rest)
    → LeadsByEvents f past rest events new left → Unread past rest → Unread new left
unread_from f past rest [] new left all here = unread_same past rest new left all.0 all.1 here
unread_from f past rest (e ∷ events) new left all here =
    unread_from f all.0 all.1 events new left all.3 (unread_event f past rest e all.0 all.1 all.2 here)

pub rest_is_open : RestIsOpen
rest_is_open f events past rest history taking = (
  unread_from f [] _ events past rest history (λ taking none. open_first) taking,
  along_waits (λ e. Unit {0})
      (Anything (λ e. Unit {0})) (anything_kept (λ e. Unit {0})) tt f events past rest (any_events events) history
      taking,
)
