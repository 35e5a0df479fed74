-- The file of a launch.
use Rattle.std.proofs.Common.{◌≡◌, inl, inr, ℕ, List, Option, None, Some, Result, Ok, Err, refl, sym, ◌∙◌, ap, subst, arith}
use Rattle.std.specs.Prelude.{Vec}
use Rattle.std.specs.declared.alloc.Global.{Global}
use Rattle.dap_msg.specs.declared.request.Dialect.{Dialect}
use Rattle.dap_history.specs.declared.fault.LoadFault.{LoadFault}
use Rattle.dap_history.specs.declared.fault.LoadFault.TheVariants as load_fault
use Rattle.dap_history.specs.declared.fault.SessionFault.{SessionFault}
use Rattle.dap_history.specs.declared.fault.SessionFault.TheVariants.{NoMemory}
use Rattle.dap_history.specs.declared.launch.Launch.{Launch}
use Rattle.dap_history.specs.History.{Loaded, History}
use Rattle.dap_history.specs.Emission.{IsAfter}
use Rattle.dap_history.specs.Events.{Rest, File, IsTaking, no_content, Loads, LeadsByFile, LeadsByEvent}
use Rattle.dap_replies.specs.Phases.{launch_of}
use Rattle.dap_session.specs.declared.ports.Event.TheVariants as event
use Rattle.dap_session.specs.Incoming.{incoming_of}
use Rattle.dap_session.specs.Ports.{Ports}
use Rattle.dap_session.specs.State.{State, GoesOn}
use Rattle.dap_session.specs.Taking.{TowardByPiece, file_of, Toward, LacksMemory}
use Rattle.dap_session.specs.Handling.{HasHistory, TakesItem, FailsAtItem, HandlesContents, Handles}
use Rattle.dap_session.specs.Ports.{plain_file}
use Rattle.dap_session.proofs.Going.{goes_after, stops_at_once, stops_at_item, arrives_at_once}
use Rattle.std.proofs.lemmas.Grind.{common_steps}

pub incoming_file : (file : Result (Vec ℕ Global) LoadFault) → incoming_of (event.File file) ≡ File (plain_file file)
incoming_file (Ok file) = refl
incoming_file (Err fault) = refl

-- ---- a launch that is made

-- the launch that waits, and the file that was given for it
pub record IsGiven (rest : Rest) (launch : Launch) (answer : Result (List ℕ) LoadFault) (file : Option (List ℕ)) : Type
    0 where
  pub waits : rest.launch ≡ Some launch
  pub file_is : file_of answer ≡ Some file

leads_by_answer : (f : Dialect) (past : History) (rest : Rest) (launch : Launch) (answer : Result (List ℕ) LoadFault)
    (file : Option (List ℕ)) (new : History) (left : Rest) → file_of answer ≡ Some file
    → Loads f past launch file rest.bytes new left → LeadsByFile f past rest (Some launch) answer new left
leads_by_answer f past rest launch (Ok bytes) file new left is loads = grind (arith, common_steps)
leads_by_answer f past rest launch (Err load_fault.CannotRead) file new left is loads =
    let e : None ≡ file = cc in inr (subst (λ b. Loads f past launch b rest.bytes new left) (sym e) loads)
leads_by_answer f past rest launch (Err load_fault.NoMemory) file new left is loads = absurd cc

leads_by_load : (f : Dialect) (past : History) (rest : Rest) (launch : Launch) (answer : Result (List ℕ) LoadFault)
    (file : Option (List ℕ)) → IsGiven rest launch answer file → (new : History) (left : Rest)
    → Loads f past launch file rest.bytes new left → LeadsByEvent f past rest (File answer) new left
leads_by_load f past rest launch answer file is new left loads =
    grind (arith, common_steps, leads_by_answer)

toward_by_load : (f : Dialect) (past : History) (rest : Rest) (launch : Launch) (answer : Result (List ℕ) LoadFault)
    (file : Option (List ℕ)) → IsGiven rest launch answer file → (mid : History) → IsAfter past (Loaded launch file) mid
    → (new : History) → TowardByPiece f mid None rest.bytes new → Toward f past rest (File answer) new
toward_by_load f past rest launch answer file is mid after new taken =
    inr (record {
      launch = launch;
      waits = is.waits;
      file = file;
      file_is = is.file_is;
      mid = mid;
      loaded = after;
      left = taken.0;
      taken = taken.1;
    })

-- the contents after it are taken as well
pub file_taken : (f : Dialect) (result : Result (Unit {0}) SessionFault) (past : History) (rest : Rest)
    (launch : Launch)
    (answer : Result (List ℕ) LoadFault) (file : Option (List ℕ)) (loaded last : State) (old between later : Ports)
    → IsTaking past → IsGiven rest launch answer file
    → loaded.stream ≡ record { dialect = f; rest = rest.bytes; fault = None }
    → TakesItem past (Loaded launch file) loaded old between
    → ((h : History) → loaded.stream.fault ≡ None → launch_of loaded.phase ≡ None → HasHistory loaded h
    → HandlesContents loaded.stream.dialect result h loaded.stream.rest last between later)
    → Handles f result past rest (File answer) last old later
file_taken f result past rest launch answer file loaded last old between later taking is stream_is item taken =
    let mid = item.new in
    let contents = subst (λ b. HandlesContents f result mid b last between later) (ap (λ s. s.rest) stream_is) (subst (λ
    g. HandlesContents g result mid loaded.stream.rest last between later) (ap (λ s. s.dialect) stream_is) (taken mid
    (ap (λ s. s.fault) stream_is) item.free item.is_at)) in
    goes_after f result _ _ _ _ past mid last old between later item.sends item.refuses_nothing (λ new left all.
    leads_by_load f past rest launch answer file is new left (record {
      taking = taking;
      mid = mid;
      loaded = item.after;
      after = all;
    })) (toward_by_load f past rest launch answer file is mid item.after) contents

-- ---- a launch that is not made

pub file_lost : (f : Dialect) (past : History) (rest : Rest) (answer : Result (List ℕ) LoadFault) (last : State)
    (old : Ports)
    → Handles f (Err NoMemory) past rest (File answer) last old old
file_lost f past rest answer last old = inl (stops_at_once (Toward f past rest (File answer)) past old (inl refl))

pub load_fails : (f : Dialect) (fault : SessionFault) (past : History) (rest : Rest) (launch : Launch)
    (answer : Result (List ℕ) LoadFault) (file : Option (List ℕ)) (last : State) (old later : Ports)
    → IsGiven rest launch answer file
    → FailsAtItem fault past (Loaded launch file) old later
    → Handles f (Err fault) past rest (File answer) last old later
load_fails f fault past rest launch answer file last old later is fails =
    inl (stops_at_item (Toward f past rest (File answer)) fault past (Loaded launch file) old later (inl refl)
    (λ new after. toward_by_load f past rest launch answer file is new after new (rest.bytes, no_content)) fails)

-- ---- a file that no launch waits for

pub file_passed : (f : Dialect) (past : History) (rest : Rest) (answer : Result (List ℕ) LoadFault)
    (session last : State)
    (old : Ports) → last ≡ session → session.ending ≡ None → launch_of session.phase ≡ None → IsTaking past
    → GoesOn f session past rest
    → Handles f (Ok tt) past rest (File answer) last old old
file_passed f past rest answer session last old same open_ free taking on =
    rw same (arrives_at_once f _ past rest session old (rw (← (sym free ∙ on.launch_is)) (refl, refl)) open_ taking on)

-- ---- no memory for a file

pub lacking : (answer : Result (List ℕ) LoadFault) (launch : Option Launch) → LacksMemory (File answer) launch
    → (answer ≡ Err load_fault.NoMemory) × (¬ (launch ≡ None))
lacking (Err load_fault.NoMemory) (Some launch) lacks = (refl, λ e. absurd cc)
lacking (Err load_fault.NoMemory) None lacks = absurd lacks
lacking (Err load_fault.CannotRead) launch lacks = absurd lacks
lacking (Ok file) launch lacks = absurd lacks

-- such a file isn't read
pub not_lacking : (answer : Result (List ℕ) LoadFault) (launch : Option Launch) (file : Option (List ℕ))
    → file_of answer ≡ Some file → ¬ LacksMemory (File answer) launch
not_lacking answer launch file is lacks = grind (arith, common_steps, lacking)
