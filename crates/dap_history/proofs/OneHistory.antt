-- A list of events has one history, where an item has one effect.
use Rattle.dap_history.proofs.Common.{Content, Dialect, Err, Fault, History, Incoming, IsAfter, IsInFront, IsTaking, Item, Launch, LeadsByEvent, LeadsByEvents, LeadsByFile, LeadsByPiece, LeadsByReport, LoadFault, Loaded, Loads, MayTake, None, Ok, Option, PlainReport, Request, Rest, Some, Rests, Takes, TakesSome, [], ap, closed, faulty, inl, inr, no_content, one_content, open_ended, refl, situation, sym, waits, wanted_in, ℕ, ◌∙◌, ◌∷◌, ◌≡◌, ◌⊎◌}
use Rattle.std.proofs.Common.{List, Result}
use Rattle.dap_frame.specs.Laws.{FramesAreUnique, FaultsAreUnique, NeverBoth}
use Rattle.dap_msg.specs.Laws.{OneReading}
use Rattle.dap_history.specs.declared.fault.LoadFault.TheVariants as load_fault
use Rattle.std.proofs.Common.{arith}
use Rattle.std.proofs.lemmas.Grind.{common_steps}

-- bytes have one frame or one fault in front, a content is one request or none, and an item leads to one history
pub record IsReadOnce : Type 0 where
  pub one_frame : FramesAreUnique
  pub one_fault : FaultsAreUnique
  pub not_both : NeverBoth
  pub one_request : OneReading
  pub one_after : (past : History) (item : Item) (a b : History) → IsAfter past item a → IsAfter past item b → a ≡ b

module _ (once : IsReadOnce) where
  -- the request in front, and the bytes after it
  one_front : (dialect : Dialect) (bytes : List ℕ) (a b : Option Request) (x y : List ℕ)
      → IsInFront dialect bytes a x → IsInFront dialect bytes b y → (a ≡ b) × (x ≡ y)
  one_front dialect bytes a b x y here there =
      let same = once.one_frame bytes here.content there.content x y here.framed there.framed in
      (once.one_request dialect here.content a b here.read (rw same.0 there.read), same.1)

  -- where no further content is taken, none that wants no file stands in front
  none_in_front : {dialect : Dialect} {past new : History} {bytes : List ℕ} {rest : Rest}
      → Rests dialect past bytes new rest
      → (request : Option Request) (more : List ℕ) → IsTaking past → IsInFront dialect bytes request more
      → ¬ (wanted_in (situation past) request ≡ None)
  none_in_front (closed not) request more taking front unwanted = not taking
  none_in_front (open_ended taking' is) request more taking front unwanted =
      is.no_frame front.content more front.framed
  none_in_front {bytes = bytes} (faulty k new taking' fault after) request more taking front unwanted =
      once.not_both bytes front.content more k front.framed fault
  none_in_front {dialect = dialect} {past = past} {bytes = bytes} (waits other launch more' taking' there wanted)
      request more taking front unwanted =
      let same = one_front dialect bytes other request more' more there front in
      let e = sym unwanted ∙ ap (wanted_in (situation past)) (sym same.0) ∙ wanted in absurd cc

  -- Some contents that are taken are the first of all that are.
  pub further : {dialect : Dialect} {past mid last new : History} {bytes left more : List ℕ} {rest : Rest}
      → TakesSome dialect past bytes mid left → TakesSome dialect past bytes last more
      → Rests dialect last more new rest → TakesSome dialect mid left last more
  further no_content all rests = all
  further (one_content {more = more} request taking front unwanted after some) no_content rests =
      absurd (none_in_front rests request more taking front unwanted)
  further {dialect = dialect} {past = past} {last = last} {bytes = bytes} {more = more} (one_content {mid = a} {more =
      x} request taking front unwanted after some) (one_content {mid = b} {more = y} request' taking' front' unwanted'
      after' all) rests =
      let same = one_front dialect bytes request' request y x front' front in
      let here : a ≡ b = once.one_after past (Content request) a b after (rw (← same.0) after') in
      further some (rw here (rw (← same.1) all)) rests

  none_further : {dialect : Dialect} {past mid new : History} {bytes left : List ℕ} {rest : Rest}
      → Rests dialect past bytes new rest
      → TakesSome dialect past bytes mid left → (mid ≡ past) × (left ≡ bytes)
  none_further rests no_content = (refl, refl)
  none_further rests (one_content {more = more} request taking front unwanted after some) =
      absurd (none_in_front rests request more taking front unwanted)

  abbrev Same : History → Rest → History → Rest → Type 0
  Same new rest other left = (new ≡ other) × (rest ≡ left)

  one_resting : {dialect : Dialect} {past new other : History} {bytes : List ℕ} {rest left : Rest}
      → Rests dialect past bytes new rest → Rests dialect past bytes other left → Same new rest other left
  one_resting (closed not) (closed not') = (refl, refl)
  one_resting (closed not) (open_ended taking is) = absurd (not taking)
  one_resting (closed not) (faulty k new taking fault after) = absurd (not taking)
  one_resting (closed not) (waits request launch more taking front wanted) = absurd (not taking)
  one_resting (open_ended taking is) (closed not) = absurd (not taking)
  one_resting (open_ended taking is) (open_ended taking' is') = (refl, refl)
  one_resting (open_ended taking is) (faulty k new taking' fault after) = absurd (is.no_fault k fault)
  one_resting (open_ended taking is) (waits request launch more taking' front wanted) =
      absurd (is.no_frame front.content more front.framed)
  one_resting (faulty k new taking fault after) (closed not) = absurd (not taking)
  one_resting (faulty k new taking fault after) (open_ended taking' is) = absurd (is.no_fault k fault)
  one_resting {past = past} {bytes = bytes} (faulty k new taking fault after) (faulty k' new' taking' fault' after') =
      grind (arith, common_steps, Fault) steps 1500000
  one_resting {bytes = bytes} (faulty k new taking fault after) (waits request launch more taking' front wanted) =
      absurd (once.not_both bytes front.content more k front.framed fault)
  one_resting (waits request launch more taking front wanted) (closed not) = absurd (not taking)
  one_resting (waits request launch more taking front wanted) (open_ended taking' is) =
      absurd (is.no_frame front.content more front.framed)
  one_resting {bytes = bytes} (waits request launch more taking front wanted) (faulty k new taking' fault after) =
      absurd (once.not_both bytes front.content more k front.framed fault)
  one_resting {dialect = dialect} {past = past} {bytes = bytes} (waits request launch more taking front wanted) (waits
      request' launch' more' taking' front' wanted') =
      let same = one_front dialect bytes request request' more more' front front' in
      let launches : launch ≡ launch' =
      let e = sym wanted ∙ ap (wanted_in (situation past)) same.0 ∙ wanted' in
      cc in
      (refl, cc same.1)

  one_taking : (dialect : Dialect) (past new other : History) (bytes : List ℕ) (rest left : Rest)
      → Takes dialect past bytes new rest → Takes dialect past bytes other left → Same new rest other left
  one_taking dialect past new other bytes rest left a b =
      grind (arith, common_steps, none_further, further, one_resting) steps 1500000

  one_may : (past : History) (item : Item) (new other : History) → MayTake past item new → MayTake past item other
      → new ≡ other
  one_may past item new other (inl a) (inl b) = a.1 ∙ sym b.1
  one_may past item new other (inl a) (inr b) = absurd (a.0 b.0)
  one_may past item new other (inr a) (inl b) = absurd (b.0 a.0)
  one_may past item new other (inr a) (inr b) = once.one_after past item new other a.1 b.1

  one_piece : (dialect : Dialect) (past : History) (launch : Option Launch) (bytes : List ℕ) (new other : History)
      (rest left : Rest)
      → LeadsByPiece dialect past launch bytes new rest → LeadsByPiece dialect past launch bytes other left
      → Same new rest other left
  one_piece dialect past None bytes new other rest left a b = one_taking dialect past new other bytes rest left a b
  one_piece dialect past (Some launch) bytes new other rest left a b = (a.0 ∙ sym b.0, a.1 ∙ sym b.1)

  one_loads : (dialect : Dialect) (past : History) (launch : Launch) (file : Option (List ℕ)) (bytes : List ℕ)
      (new other : History)
      (rest left : Rest) → Loads dialect past launch file bytes new rest
      → Loads dialect past launch file bytes other left → Same new rest other left
  one_loads dialect past launch file bytes new other rest left a b =
      one_taking dialect a.mid new other bytes rest left a.after (rw (once.one_after past (Loaded launch file) a.mid
      b.mid a.loaded b.loaded) b.after)

  abbrev MayLoad : Dialect → History → Rest → Launch → Option (List ℕ) → History → Rest → Type 0
  MayLoad dialect past before launch file new rest =
      ((¬ IsTaking past) × (new ≡ past) × (rest ≡ before)) ⊎ Loads dialect past launch file before.bytes new rest

  one_may_load : (dialect : Dialect) (past : History) (before : Rest) (launch : Launch) (file : Option (List ℕ))
      (new other : History)
      (rest left : Rest) → MayLoad dialect past before launch file new rest
      → MayLoad dialect past before launch file other left
      → Same new rest other left
  one_may_load dialect past before launch file new other rest left (inl a) (inl b) = (a.1 ∙ sym b.1, a.2 ∙ sym b.2)
  one_may_load dialect past before launch file new other rest left (inl a) (inr b) = absurd (a.0 b.taking)
  one_may_load dialect past before launch file new other rest left (inr a) (inl b) = absurd (b.0 a.taking)
  one_may_load dialect past before launch file new other rest left (inr a) (inr b) =
      one_loads dialect past launch file before.bytes new other rest left a b

  one_file : (dialect : Dialect) (past : History) (before : Rest) (launch : Option Launch)
      (file : Result (List ℕ) LoadFault)
      (new other : History) (rest left : Rest)
      → LeadsByFile dialect past before launch file new rest → LeadsByFile dialect past before launch file other left
      → Same new rest other left
  one_file dialect past before (Some launch) (Ok file) new other rest left a b =
      one_may_load dialect past before launch (Some file) new other rest left a b
  one_file dialect past before (Some launch) (Err load_fault.CannotRead) new other rest left a b =
      one_may_load dialect past before launch None new other rest left a b
  one_file dialect past before launch file new other rest left a b = grind (arith, common_steps, one_may) steps 200000

  one_report : (past : History) (r : PlainReport) (new other : History) → LeadsByReport past r new
      → LeadsByReport past r other → new ≡ other
  one_report past r new other is here = grind (arith, common_steps) steps 200000

  one_event : (dialect : Dialect) (past : History) (before : Rest) (event : Incoming) (new other : History)
      (rest left : Rest)
      → LeadsByEvent dialect past before event new rest → LeadsByEvent dialect past before event other left
      → Same new rest other left
  one_event dialect past before event new other rest left a b =
      grind (arith, common_steps, one_piece, one_may, one_file, one_report) steps 200000

  pub one_history : (dialect : Dialect) (past : History) (before : Rest) (events : List Incoming) (new other : History)
      (rest left : Rest)
      → LeadsByEvents dialect past before events new rest → LeadsByEvents dialect past before events other left
      → Same new rest other left
  one_history dialect past before [] new other rest left a b = (a.0 ∙ sym b.0, a.1 ∙ sym b.1)
  one_history dialect past before (e ∷ events) new other rest left a b =
      let same = one_event dialect past before e a.0 b.0 a.1 b.1 a.2 b.2 in
      one_history dialect a.0 a.1 events new other rest left a.3 (rw same.0 (rw same.1 b.3))
