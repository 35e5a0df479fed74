-- What holds along a history: what holds at first and is kept by each item that is taken.
use Rattle.dap_history.proofs.Common.{Accepted, Accepts, AreLawful, Content, Dialect, Ending, Err, Fault, File, History, Incoming, InputEnd, IsAfter, IsHistoryOf, IsLawfulReport, IsTaking, Item, Launch, LeadsByEvent, LeadsByEvents, LeadsByFile, LeadsByPiece, LeadsByReport, LoadFault, Loaded, Loads, MayTake, MemoryFailure, NoMemory, None, Ok, Option, Piece, PlainReport, ReadFailed, ReadFailure, Ready, Report, Request, Rest, Situation, Some, Rests, Takes, TakesSome, [], closed, closing, faulty, inl, inr, no_content, one_content, open_ended, refl, situation, subst, sym, waits, wanted_in, ℕ, ◌∙◌, ◌∷◌, ◌≡◌}
use Rattle.std.proofs.Common.{List, Result, arith}
use Rattle.dap_history.specs.declared.fault.LoadFault.TheVariants as load_fault
use Rattle.dap_history.proofs.Readings.{ending_of-snoc}
use Rattle.dap_history.specs.Events.{End}
use Rattle.std.proofs.lemmas.Grind.{common_steps}

-- an item is taken only so: a content that wants no file, a launch in Ready, a report that is accepted; and what an
-- event brings is as Q says of it
abbrev pub IsTaken : (Incoming → Type 0) → History → Item → Type 0
IsTaken Q past (Content request) = wanted_in (situation past) request ≡ None
IsTaken Q past (Loaded launch file) = situation past ≡ Ready
IsTaken Q past (Accepted r) = Accepts past r × Q (Report r)
IsTaken Q past InputEnd = Q End
IsTaken Q past ReadFailure = Q ReadFailed
IsTaken Q past _ = Unit {0}

-- what one more item keeps, while the session takes any
pub record IsKept (Q : Incoming → Type 0) (P : History → Type 0) : Type 0 where
  pub step : (past : History) (item : Item) (new : History) → IsTaking past → IsTaken Q past item
      → IsAfter past item new → P past → P new

-- each of the events is as Q says
abbrev pub AllEvents : (Incoming → Type 0) → List Incoming → Type 0
AllEvents Q [] = Unit {0}
AllEvents Q (e ∷ events) = Q e × AllEvents Q events

pub any_events : (events : List Incoming) → AllEvents (λ e. Unit {0}) events
any_events [] = tt
any_events (e ∷ events) = (tt, any_events events)

abbrev pub IsLawfulEvent : Incoming → Type 0
IsLawfulEvent (Report r) = IsLawfulReport r
IsLawfulEvent _ = Unit {0}

pub lawful_events : (events : List Incoming) → AreLawful events → AllEvents IsLawfulEvent events
lawful_events [] are = tt
lawful_events (Report r ∷ events) are = (are.0, lawful_events events are.1)
lawful_events (Piece p ∷ events) are = (tt, lawful_events events are)
lawful_events (End ∷ events) are = (tt, lawful_events events are)
lawful_events (ReadFailed ∷ events) are = (tt, lawful_events events are)
lawful_events (NoMemory ∷ events) are = (tt, lawful_events events are)
lawful_events (File f ∷ events) are = (tt, lawful_events events are)

-- a launch waits only in Ready
abbrev pub WaitsWell : History → Rest → Type 0
WaitsWell past rest = IsTaking past → (launch : Launch) → rest.launch ≡ Some launch → situation past ≡ Ready

-- a launch that is wanted is wanted in Ready
wanted_ready : (s : Situation) (request : Option Request) (launch : Launch) → wanted_in s request ≡ Some launch
    → s ≡ Ready
wanted_ready s request launch is = grind (arith, common_steps) steps 200000

-- no item is taken after one that closes
pub closes_for_good : (past : History) (item : Item) (new : History) (by : Ending) → closing item ≡ Some by
    → IsAfter past item new → ¬ IsTaking new
closes_for_good past item new by is after taking = grind (arith, common_steps, ending_of-snoc) steps 200000

module _ (Q : Incoming → Type 0) (P : History → Type 0) (kept : IsKept Q P) where
  -- what holds of a history, with its rest
  abbrev Holds : History → Rest → Type 0
  Holds past rest = P past × WaitsWell past rest

  along_some : {dialect : Dialect} {past new : History} {bytes left : List ℕ} → TakesSome dialect past bytes new left
      → P past
      → P new
  along_some no_content here = here
  along_some (one_content {past = past} {mid = mid} request taking front unwanted after some) here =
      along_some some (kept.step past (Content request) mid taking unwanted after here)

  along_rests : {dialect : Dialect} {past new : History} {bytes : List ℕ} {rest : Rest}
      → Rests dialect past bytes new rest → P past → Holds new rest
  along_rests (closed not) here = (here, λ taking launch is. absurd (not taking))
  along_rests (open_ended taking is) here = (here, λ taking launch is. absurd cc)
  along_rests {past = past} (faulty k new taking is after) here =
      (kept.step past (Fault k) new taking tt after here, λ taking launch is. absurd cc)
  along_rests {past = past} (waits request launch more taking front wanted) here =
      (here, λ taking launch is. wanted_ready (situation past) request _ wanted)

  along_takes : (dialect : Dialect) (past : History) (bytes : List ℕ) (new : History) (rest : Rest)
      → Takes dialect past bytes new rest → P past → Holds new rest
  along_takes dialect past bytes new rest taken here = along_rests taken.3 (along_some taken.2 here)

  along_may : (past : History) (rest : Rest) (item : Item) (new : History) (by : Ending) → IsTaken Q past item
      → closing item ≡ Some by → MayTake past item new → Holds past rest → Holds new rest
  along_may past rest item new by may closes (inl closed_) here = subst (λ h. Holds h rest) (sym closed_.1) here
  along_may past rest item new by may closes (inr is) here = (
    kept.step past item new is.0 may is.1 here.0,
    λ taking launch waits_. absurd
        (closes_for_good past item new by closes is.1 taking),
  )

  along_piece : (dialect : Dialect) (past : History) (rest : Rest) (launch : Option Launch) (bytes : List ℕ)
      (new : History) (left : Rest)
      → rest.launch ≡ launch → LeadsByPiece dialect past launch bytes new left → Holds past rest → Holds new left
  along_piece dialect past rest None bytes new left same all here = along_takes dialect past bytes new left all here.0
  along_piece dialect past rest (Some launch) bytes new left same is here = grind (arith, common_steps) steps 200000

  along_loads : (dialect : Dialect) (past : History) (launch : Launch) (file : Option (List ℕ)) (bytes : List ℕ)
      (new : History)
      (left : Rest) → situation past ≡ Ready → Loads dialect past launch file bytes new left → P past → Holds new left
  along_loads dialect past launch file bytes new left ready loads here =
      along_takes dialect loads.mid bytes new left loads.after
      (kept.step past (Loaded launch file) loads.mid loads.taking ready loads.loaded here)

  along_file : (f : Dialect) (past : History) (rest : Rest) (launch : Option Launch) (file : Result (List ℕ) LoadFault)
      (new : History) (left : Rest) → rest.launch ≡ launch → LeadsByFile f past rest launch file new left
      → Holds past rest → Holds new left
  along_file f past rest None file new left same is here = rw is.0 (rw is.1 here)
  along_file f past rest (Some launch) (Ok file) new left same (inr loads) here =
      along_loads f past launch (Some file) rest.bytes new left (here.1 loads.taking launch same) loads here.0
  along_file f past rest (Some launch) (Err load_fault.CannotRead) new left same (inr loads) here =
      along_loads f past launch None rest.bytes new left (here.1 loads.taking launch same) loads here.0
  along_file f past rest (Some launch) (Err load_fault.NoMemory) new left same is here =
      subst (λ r. Holds new r) (sym is.1) (along_may past rest MemoryFailure new _ tt refl is.0 here)
  along_file f past rest (Some launch) _ new left same (inl is) here = rw is.1 (rw is.2 here)

  along_report : (past : History) (rest : Rest) (r : PlainReport) (new : History) → Q (Report r)
      → LeadsByReport past r new → Holds past rest → Holds new rest
  along_report past rest r new good (inl is) here = subst (λ h. Holds h rest) (sym is.1) here
  along_report past rest r new good (inr is) here = (
    kept.step past (Accepted r) new is.0 (is.1, good) is.2 here.0,
    λ taking launch waits_. let e = sym is.1.running ∙ here.1 is.0 launch waits_ in absurd cc,
  )

  along_event : (f : Dialect) (past : History) (rest : Rest) (event : Incoming) (new : History) (left : Rest) → Q event
      → LeadsByEvent f past rest event new left → Holds past rest → Holds new left
  along_event f past rest (Piece piece) new left good leads here = along_piece f past rest _ _ new left refl leads here
  along_event f past rest End new left good leads here =
      subst (λ r. Holds new r) (sym leads.1) (along_may past rest InputEnd new _ good refl leads.0 here)
  along_event f past rest ReadFailed new left good leads here =
      subst (λ r. Holds new r) (sym leads.1) (along_may past rest ReadFailure new _ good refl leads.0 here)
  along_event f past rest NoMemory new left good leads here =
      subst (λ r. Holds new r) (sym leads.1) (along_may past rest MemoryFailure new _ tt refl leads.0 here)
  along_event f past rest (File file) new left good leads here =
      along_file f past rest rest.launch file new left refl leads here
  along_event f past rest (Report r) new left good leads here =
      subst (λ l. Holds new l) (sym leads.1) (along_report past rest r new good leads.0 here)

  along_from : (f : Dialect) (past : History) (rest : Rest) (events : List Incoming) (new : History) (left : Rest)
      → AllEvents Q events → LeadsByEvents f past rest events new left → Holds past rest → Holds new left
  along_from f past rest [] new left good all here = rw all.0 (rw all.1 here)
  along_from f past rest (e ∷ events) new left good all here =
      along_from f all.0 all.1 events new left good.1 all.3 (along_event f past rest e all.0 all.1 good.0 all.2 here)

  -- What holds of no steps, and is kept, holds of each history.
  pub along : P [] → (f : Dialect) (events : List Incoming) (past : History) (rest : Rest) → AllEvents Q events
      → IsHistoryOf f events past rest → P past
  along first f events past rest good history = grind (arith, common_steps, along_from) steps 200000

  -- a launch waits in Ready alone
  pub along_waits : P [] → (f : Dialect) (events : List Incoming) (past : History) (rest : Rest) → AllEvents Q events
      → IsHistoryOf f events past rest → WaitsWell past rest
  along_waits first f events past rest good history = grind (arith, common_steps, along_from) steps 200000
