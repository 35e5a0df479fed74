-- The contents taken are those of the joined stream.
use Rattle.dap_history.proofs.Common.{Accepted, AreReadAs, Command, Content, ContentsAreOfTheStream, Dialect, Err, Fault, File, History, Incoming, InputEnd, IsAfter, IsInFront, Item, Launch, LeadsByEvents, LeadsByFile, LeadsByPiece, LeadsByReport, LoadFault, Loaded, Loads, MayTake, MemoryFailure, NoMemory, None, Ok, Option, Piece, PlainReport, ReadFailed, ReadFailure, Report, Request, Rest, Situation, Some, Step, Rests, Takes, TakesSome, [], ap, append-nil, closed, faulty, filter_map, filter_map-append, inl, inr, launch_request, map-append, no_content, one_content, only_bytes, open_ended, read_as, refl, situation, sym, waits, wanted_in, ℕ, ◌++◌, ◌∙◌, ◌∷◌, ◌≡◌}
use Rattle.std.proofs.Common.{List, Result}
use Rattle.std.specs.Prelude.{map}
use Rattle.std.proofs.lemmas.List.{append_assoc}
use Rattle.dap_frame.specs.Frame.{Frames}
use Rattle.dap_frame.specs.Laws.{FramesJoin}
use Rattle.dap_frame.proofs.Feeding.{frames_longer}
use Rattle.dap_history.specs.declared.fault.LoadFault.TheVariants as load_fault
use Rattle.dap_history.specs.Launching.{wanted_by}
use Rattle.dap_history.specs.Events.{End}
use Rattle.dap_history.specs.Laws.{stream_of, contents_read}
use Rattle.std.proofs.Common.{arith}
use Rattle.std.proofs.lemmas.Grind.{common_steps}

-- ---- what is read

read-append : (f : Dialect) (cs ds : List (List ℕ)) (rs ss : List (Option Request)) → AreReadAs f cs rs
    → AreReadAs f ds ss
    → AreReadAs f (cs ++ ds) (rs ++ ss)
read-append f (c ∷ cs) ds (r ∷ rs) ss a b = (a.0, read-append f cs ds rs ss a.1 b)
read-append f cs ds rs ss a b = grind (arith, common_steps) steps 200000

abbrev reads : History → List (Option Request)
reads past = filter_map read_as (map (λ (step : Step). step.item) past)

reads_after : (past : History) (item : Item) (new : History) → IsAfter past item new → reads new ≡ reads past
    ++ filter_map read_as (item ∷ [])
reads_after past item new after =
    grind (arith, common_steps, filter_map, read_as, map-append, filter_map-append, map) steps 1500000

-- ---- what bytes give

-- the bytes are the frames of contents that are read as these, up to what is left
record Gives (f : Dialect) (bytes left : List ℕ) (requests : List (Option Request)) : Type 0 where
  contents : List (List ℕ)
  framed : Frames bytes contents left
  read : AreReadAs f contents requests

gives_nothing : (f : Dialect) (bytes : List ℕ) → Gives f bytes bytes []
gives_nothing f bytes = record { contents = []; framed = refl; read = tt }

gives_one : (f : Dialect) (bytes : List ℕ) (request : Option Request) (more : List ℕ)
    → IsInFront f bytes request more → Gives f bytes more (request ∷ [])
gives_one f bytes request more front =
    record { contents = front.content ∷ []; framed = (more, front.framed, refl); read = (front.read, tt) }

gives_more : (f : Dialect) (bytes left : List ℕ) (requests : List (Option Request)) (more : List ℕ)
    → Gives f bytes left requests → Gives f (bytes ++ more) (left ++ more) requests
gives_more f bytes left requests more is = grind (arith, common_steps, frames_longer) steps 1500000

module _ (join : FramesJoin) (f : Dialect) where
  gives_both : (bytes mid left : List ℕ) (rs ss : List (Option Request)) → Gives f bytes mid rs
      → Gives f mid left ss → Gives f bytes left (rs ++ ss)
  gives_both bytes mid left rs ss a b = grind (arith, common_steps, read-append) steps 1500000

  -- what is taken from bytes, up to what is left
  abbrev Gains : History → List ℕ → History → List ℕ → Option Launch → Type 0
  Gains past bytes new left launch =
      (rs : List (Option Request)) × Gives f bytes left rs × (contents_read new launch ≡ reads past ++ rs)

  wanted_is : (seq : ℕ) (body : Command) (launch : Launch) → wanted_by seq body ≡ Some launch
      → ◌≡◌ {A = Request} (record { seq = seq; body = body }) (launch_request launch)
  wanted_is seq body launch is = grind (arith, common_steps) steps 200000

  request_is : (s : Situation) (request : Option Request) (launch : Launch) → wanted_in s request ≡ Some launch
      → request ≡ Some (launch_request launch)
  request_is s request launch is = grind (arith, common_steps, wanted_is) steps 200000

  some_gain : {past mid : History} {bytes left : List ℕ} (new : History) (end : List ℕ) (launch : Option Launch)
      → TakesSome f past bytes mid left → Gains mid left new end launch → Gains past bytes new end launch
  some_gain new end launch no_content others = others
  some_gain {past = past} {bytes = bytes} new end launch (one_content {mid = mid} {more = more} request taking front
      unwanted after some) others =
      let next = some_gain new end launch some others in (
        request ∷ next.0,
        gives_both bytes more end (request ∷ []) next.0 (gives_one f bytes request more front) next.1,
        cc (next.2, reads_after past (Content request) mid after, append_assoc (reads past) (request ∷ []) next.0),
      )

  rests_gain : {past new : History} {bytes : List ℕ} {rest : Rest} → Rests f past bytes new rest
      → Gains past bytes new rest.bytes rest.launch
  rests_gain {bytes = bytes} (closed not) = ([], gives_nothing f bytes, refl)
  rests_gain {bytes = bytes} (open_ended taking is) = ([], gives_nothing f bytes, refl)
  rests_gain {past = past} {bytes = bytes} (faulty k new taking fault after) =
      ([], gives_nothing f bytes, ap (λ rs. rs ++ []) (reads_after past (Fault k) new after ∙ append-nil (reads past)))
  rests_gain {past = past} {bytes = bytes} (waits request launch more taking front wanted) =
      (request ∷ [], gives_one f bytes request more front, cc (request_is (situation past) request launch wanted))

  takes_gain : (past new : History) (bytes : List ℕ) (rest : Rest) → Takes f past bytes new rest
      → Gains past bytes new rest.bytes rest.launch
  takes_gain past new bytes rest taken = some_gain new rest.bytes rest.launch taken.2 (rests_gain taken.3)

  -- ---- what events give

  -- what was taken is what the stream gives
  abbrev Holds : List ℕ → History → Rest → Type 0
  Holds stream past rest = Gives f stream rest.bytes (contents_read past rest.launch)

  -- with nothing waiting, what more is taken of the bytes is what the stream gives further
  taking_gives_further : (stream : List ℕ) (past : History) (bytes : List ℕ) (new : History) (rest : Rest)
      → Gives f stream bytes (reads past) → Gains past bytes new rest.bytes rest.launch → Holds stream new rest
  taking_gives_further stream past bytes new rest here gains = grind (arith, common_steps, gives_both) steps 1500000

  piece_holds : (stream piece : List ℕ) (past : History) (before : Rest) (launch : Option Launch) (new : History)
      (rest : Rest) → before.launch ≡ launch → LeadsByPiece f past launch (before.bytes ++ piece) new rest
      → Holds stream past before → Holds (stream ++ piece) new rest
  piece_holds stream piece past before None new rest is leads here =
      taking_gives_further _ past _ new rest (rw (← (ap (contents_read past) is ∙ append-nil _)) (gives_more f stream
      before.bytes _ piece here)) (takes_gain past new _ rest leads)
  piece_holds stream piece past before (Some launch) new rest is leads here =
      grind (arith, common_steps, gives_more) steps 1500000

  loads_hold : (stream : List ℕ) (past : History) (before : Rest) (launch : Launch) (file : Option (List ℕ))
      (new : History) (rest : Rest) → before.launch ≡ Some launch → Loads f past launch file before.bytes new rest
      → Holds stream past before → Holds stream new rest
  loads_hold stream past before launch file new rest is loads here =
      taking_gives_further stream loads.mid before.bytes new rest (rw (← (ap (contents_read past) is ∙ sym (reads_after
      past (Loaded launch file) loads.mid loads.loaded))) here) (takes_gain loads.mid new before.bytes rest loads.after)

  -- an item that is no content changes nothing here
  same_holds : (stream : List ℕ) (past : History) (before : Rest) (new : History) (rest : Rest) → reads new ≡ reads past
      → rest ≡ before → Holds stream past before → Holds stream new rest
  same_holds stream past before new rest same rest_is here = grind (arith, common_steps) steps 1500000

  abbrev NoContent : Item → Type 0
  NoContent item = read_as item ≡ None

  after_same : (past : History) (item : Item) (new : History) → NoContent item → IsAfter past item new
      → reads new ≡ reads past
  after_same past item new is after = cc (reads_after past item new after, none_read is, append-nil (reads past))
    where
      first : Option (Option Request) → List (Option Request)
      first None = []
      first (Some r) = r ∷ []

      none_read : read_as item ≡ None → filter_map read_as (item ∷ []) ≡ []
      none_read is = by_item item is
        where
          by_item : (item : Item) → read_as item ≡ None → filter_map read_as (item ∷ []) ≡ []
          by_item (Content request) is = absurd cc
          by_item (Loaded launch file) is = absurd cc
          by_item _ is = refl

  may_same : (past : History) (item : Item) (new : History) → NoContent item → MayTake past item new
      → reads new ≡ reads past
  may_same past item new is (inl not) = ap reads not.1
  may_same past item new is (inr taken) = after_same past item new is taken.1

  file_holds : (stream : List ℕ) (past : History) (before : Rest) (launch : Option Launch)
      (file : Result (List ℕ) LoadFault) (new : History) (rest : Rest) → before.launch ≡ launch
      → LeadsByFile f past before launch file new rest
      → Holds stream past before → Holds stream new rest
  file_holds stream past before None file new rest is leads here = grind (arith, common_steps, same_holds) steps 1500000
  file_holds stream past before (Some launch) (Ok file) new rest is (inr leads) here =
      loads_hold stream past before launch (Some file) new rest is leads here
  file_holds stream past before (Some launch) (Err load_fault.CannotRead) new rest is (inr leads) here =
      loads_hold stream past before launch None new rest is leads here
  file_holds stream past before (Some launch) (Err load_fault.NoMemory) new rest is leads here =
      same_holds stream past before new rest (may_same past MemoryFailure new refl leads.0) leads.1 here
  file_holds stream past before (Some launch) _ new rest is (inl leads) here =
      same_holds stream past before new rest (ap reads leads.1) leads.2 here

  report_same : (past : History) (r : PlainReport) (new : History) → LeadsByReport past r new → reads new ≡ reads past
  report_same past r new (inl not) = ap reads not.1
  report_same past r new (inr is) = after_same past (Accepted r) new refl is.2

  events_hold : (stream : List ℕ) (past : History) (before : Rest) (events : List Incoming) (new : History)
      (rest : Rest) → LeadsByEvents f past before events new rest → Holds stream past before
      → Holds (stream ++ stream_of events) new rest
  events_hold stream past before [] new rest all here =
      grind (arith, common_steps, append-nil, same_holds) steps 1500000
  events_hold stream past before (Piece piece ∷ events) new rest all here =
      rw (← (append_assoc stream piece (stream_of events))) (events_hold (stream ++ piece) all.0 all.1 events new rest
      all.3 (piece_holds stream piece past before before.launch all.0 all.1 refl all.2 here))
  events_hold stream past before (End ∷ events) new rest all here =
      events_hold stream all.0 all.1 events new rest all.3
      (same_holds stream past before all.0 all.1 (may_same past InputEnd all.0 refl all.2.0) all.2.1 here)
  events_hold stream past before (ReadFailed ∷ events) new rest all here =
      events_hold stream all.0 all.1 events new rest all.3
      (same_holds stream past before all.0 all.1 (may_same past ReadFailure all.0 refl all.2.0) all.2.1 here)
  events_hold stream past before (NoMemory ∷ events) new rest all here =
      events_hold stream all.0 all.1 events new rest all.3
      (same_holds stream past before all.0 all.1 (may_same past MemoryFailure all.0 refl all.2.0) all.2.1 here)
  events_hold stream past before (File file ∷ events) new rest all here =
      events_hold stream _ _ events new rest all.3 (file_holds stream past before _ file _ _ refl all.2 here)
  events_hold stream past before (Report r ∷ events) new rest all here =
      events_hold stream all.0 all.1 events new rest all.3
      (same_holds stream past before all.0 all.1 (report_same past r all.0 all.2.0) all.2.1 here)

pub contents_of_stream : FramesJoin → ContentsAreOfTheStream
contents_of_stream join f events past rest history =
    let holds = events_hold join f [] [] (only_bytes []) events past rest history (gives_nothing f []) in
    (holds.contents, holds.framed, holds.read)
