-- Each event that is an item is taken, and nothing is taken that isn't.
use Rattle.dap_history.proofs.Common.{Command, Dialect, Err, File, History, Incoming, IsAfter, IsTaking, Item, Launch, LeadsByEvent, LeadsByEvents, LeadsByFile, LeadsByPiece, LeadsByReport, LoadFault, Loaded, Loads, MayTake, MemoryFailure, None, Ok, Option, Piece, PlainReport, Report, Rest, SliceOutcome, Some, Step, Rests, Takes, TakesSome, [], ap, append-nil, closed, closing, closing_command, closing_report, faulty, inl, inr, no_content, one_content, open_ended, refl, sym, waits, ℕ, ◌++◌, ◌∙◌, ◌∷◌, ◌≡◌, subst}
use Rattle.std.proofs.Common.{List, Result, append_assoc, arith}
use Rattle.dap_history.specs.declared.fault.LoadFault.TheVariants as load_fault
use Rattle.dap_history.specs.Laws.{HistoryIsOne}
use Rattle.dap_history.specs.Taken.{file_item, AreOfBytes, AddsSteps, EventsAreTaken, closes_by, fails_by, ends_by, EachItemEndsOrNot, BeginWithItem, MayFollow, IsOfBytes}
use Rattle.dap_history.proofs.Readings.{or_else-none, ending_of-snoc}
use Rattle.dap_history.proofs.Each.{WasTaken}
use Rattle.dap_history.proofs.GoingBack.{Anything}
use Rattle.dap_history.proofs.Judged.{Any, was_taken}
use Rattle.dap_history.proofs.Cuts.{takes_not}
use Rattle.std.proofs.lemmas.Grind.{common_steps}

-- ---- the last event

pub leads_last : (dialect : Dialect) (past : History) (rest : Rest) (events : List Incoming) (e : Incoming)
    (new : History) (left : Rest)
    → LeadsByEvents dialect past rest (events ++ e ∷ []) new left
    → (mid : History) × (between : Rest) × LeadsByEvents dialect past rest events mid between
    × LeadsByEvent dialect mid between e new left
leads_last dialect past rest [] e new left all = (past, rest, (refl, refl), rw all.3.0 (rw all.3.1 all.2))
leads_last dialect past rest (x ∷ events) e new left all =
    let more = leads_last dialect all.0 all.1 events e new left all.3 in
    (more.0, more.1, (all.0, all.1, all.2, more.2), more.3)

-- ---- bytes

-- contents and a framing fault are all that bytes give
abbrev AddsBytes : History → History → Type 0
AddsBytes past new = (steps : History) × (new ≡ past ++ steps) × AreOfBytes steps

adds_none : (past : History) → AddsBytes past past
adds_none past = ([], sym (append-nil past), tt)

some_bytes : {dialect : Dialect} {past mid new : History} {bytes left : List ℕ} → TakesSome dialect past bytes mid left
    → AddsBytes mid new
    → AddsBytes past new
some_bytes no_content others = others
some_bytes {past = past} (one_content request taking front unwanted after some) others =
    let later = some_bytes some others in (
      after.step ∷ later.0,
      later.1 ∙ ap (λ h. h ++ later.0) after.new_is ∙ append_assoc past (after.step ∷ []) later.0,
      (subst IsOfBytes (sym after.item_is) tt, later.2),
    )

rests_bytes : {dialect : Dialect} {past new : History} {bytes : List ℕ} {rest : Rest}
    → Rests dialect past bytes new rest → AddsBytes past new
rests_bytes {past = past} (closed not) = adds_none past
rests_bytes {past = past} (open_ended taking is) = adds_none past
rests_bytes (faulty k new taking is after) = (after.step ∷ [], after.new_is, (rw after.item_is tt, tt))
rests_bytes {past = past} (waits request launch more taking front wanted) = adds_none past

takes_bytes : (dialect : Dialect) (past new : History) (bytes : List ℕ) (rest : Rest)
    → Takes dialect past bytes new rest → AddsBytes past new
takes_bytes dialect past new bytes rest taken = some_bytes taken.2 (rests_bytes taken.3)

-- ---- by event

-- the step of an event's one item, which no other follows
one_step : (e : Incoming) {item : Item} (step : Step) → step.item ≡ item → MayFollow e []
    → BeginWithItem e item (step ∷ [])
one_step e step item_is follow = record { step = step; more = []; steps_are = refl; item_is = item_is; follow = follow }

module _ (dialect : Dialect) (past new : History) (rest : Rest) where
  abbrev AddsBy : Incoming → Type 0
  AddsBy e = (steps : History) × (new ≡ past ++ steps) × AddsSteps past rest e steps

  -- the one item of an event that no bytes follow
  adds_one : (e : Incoming) (item : Item) → IsAfter past item new
      → ((step : Step) → step.item ≡ item → AddsSteps past rest e (step ∷ [])) → AddsBy e
  adds_one e item after adds = (after.step ∷ [], after.new_is, adds after.step after.item_is)

  by_may : (e : Incoming) (item : Item) → IsTaking past → MayTake past item new
      → ((step : Step) → step.item ≡ item → AddsSteps past rest e (step ∷ [])) → AddsBy e
  by_may e item taking is adds = grind (arith, common_steps, adds_one) steps 200000

  by_piece : (launch : Option Launch) (bytes piece : List ℕ) (left : Rest)
      → LeadsByPiece dialect past launch bytes new left → AddsBy (Piece piece)
  by_piece None bytes piece left leads = takes_bytes dialect past new bytes left leads
  by_piece (Some launch) bytes piece left is = ([], is.0 ∙ sym (append-nil past), tt)

  by_loads : (file : Result (List ℕ) LoadFault) (launch : Launch) (bytes : Option (List ℕ)) (left : Rest)
      → rest.launch ≡ Some launch → Loaded launch bytes ≡ file_item launch file
      → Loads dialect past launch bytes rest.bytes new left → AddsBy (File file)
  by_loads file launch bytes left waits_ same loads =
      let later = takes_bytes dialect loads.mid new rest.bytes left loads.after in (
        loads.loaded.step ∷ later.0,
        later.1 ∙ ap (λ h. h ++ later.0) loads.loaded.new_is ∙ append_assoc past (loads.loaded.step ∷ []) later.0,
        inl (
          file_item launch file,
          (launch, waits_, refl),
          record {
            step = loads.loaded.step;
            more = later.0;
            steps_are = refl;
            item_is = loads.loaded.item_is ∙ same;
            follow = later.2;
          },
        ),
      )

  by_file : (launch : Option Launch) (file : Result (List ℕ) LoadFault) (left : Rest) → IsTaking past
      → rest.launch ≡ launch → LeadsByFile dialect past rest launch file new left → AddsBy (File file)
  by_file None file left taking same is =
      ([], is.0 ∙ sym (append-nil past), inr (λ item its. let e = sym same ∙ its.1 in absurd cc, refl))
  by_file (Some launch) (Ok file) left taking same (inr loads) = by_loads _ launch _ left same refl loads
  by_file (Some launch) (Err load_fault.CannotRead) left taking same (inr loads) =
      by_loads (Err load_fault.CannotRead) launch None left same refl loads
  by_file (Some launch) (Err load_fault.NoMemory) left taking same is =
      by_may (File (Err load_fault.NoMemory)) MemoryFailure taking is.0
      (λ step item_is.
      inl (MemoryFailure, (launch, same, refl), one_step (File (Err load_fault.NoMemory)) step item_is tt))
  by_file (Some launch) _ left taking same (inl is) = absurd (is.0 taking)

  by_report : (r : PlainReport) → IsTaking past → LeadsByReport past r new → AddsBy (Report r)
  by_report r taking is = grind (arith, common_steps) steps 200000

  by_event : (e : Incoming) (left : Rest) → IsTaking past → LeadsByEvent dialect past rest e new left → AddsBy e
  by_event (Piece piece) left taking leads = by_piece rest.launch _ piece left leads
  by_event e left taking leads =
      grind (arith, common_steps, by_piece, by_may, one_step, by_file, by_report) steps 200000

  -- a closed session takes nothing
  may_not : (item : Item) → ¬ IsTaking past → MayTake past item new → new ≡ past
  may_not item not is = grind (arith, common_steps) steps 200000

  piece_not : (launch : Option Launch) (bytes : List ℕ) (left : Rest) → ¬ IsTaking past
      → LeadsByPiece dialect past launch bytes new left → new ≡ past
  piece_not launch bytes left not leads = grind (arith, common_steps, takes_not) steps 200000

  file_not : (launch : Option Launch) (file : Result (List ℕ) LoadFault) (left : Rest) → ¬ IsTaking past
      → LeadsByFile dialect past rest launch file new left → new ≡ past
  file_not launch file left not is = grind (arith, common_steps, may_not) steps 200000

  report_not : (r : PlainReport) → ¬ IsTaking past → LeadsByReport past r new → new ≡ past
  report_not r not is = grind (arith, common_steps) steps 200000

  event_not : (e : Incoming) (left : Rest) → ¬ IsTaking past → LeadsByEvent dialect past rest e new left → new ≡ past
  event_not e left not leads = grind (arith, common_steps, piece_not, may_not, file_not, report_not) steps 200000

-- ---- the law

pub events_taken : HistoryIsOne → EventsAreTaken
events_taken one dialect events e past new rest left history more =
    grind (arith, common_steps, by_event, event_not, leads_last) steps 200000

-- ---- the end of a session

command_ends : (c : Command) → closing_command c ≡ closes_by c
command_ends _ = refl

report_ends : (e : SliceOutcome) → closing_report e ≡ fails_by e
report_ends _ = refl

item_ends : (item : Item) → closing item ≡ ends_by item
item_ends item = grind (arith, common_steps, command_ends, report_ends) steps 200000

pub items_end : EachItemEndsOrNot
items_end f events past rest history before step after past_is =
    (was.taking, cc (ending_of-snoc before step, was.taking, or_else-none (closing step.item), item_ends step.item))
  where
    was : WasTaken Any (Anything Any) before step
    was = was_taken f events past rest history before step after past_is
