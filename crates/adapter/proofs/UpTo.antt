-- What was read up to the first `disconnect`, or up to a framing fault, is answered.
use Rattle.std.proofs.Common.{◌≡◌, ℕ, List, [], ◌∷◌, ◌++◌, Option, None, Some, Ok, Err, refl, sym, ap, ◌∙◌, subst, append-nil}
use Rattle.std.specs.Option.{option_map_or}
use Rattle.std.specs.List.{concat, filter_map, cons_option}
use Rattle.std.proofs.lemmas.List.{map-append}
use Rattle.std.proofs.lemmas.List.Elements.{filter_map-append}
use Rattle.dap_frame.specs.Frame.{Frames}
use Rattle.dap_frame.specs.Header.{FaultAt}
use Rattle.dap_frame.specs.declared.fault.FramingFault.{FramingFault}
use Rattle.dap_frame.proofs.Feeding.{frame_longer}
use Rattle.dap_msg.specs.declared.command.Command.TheVariants as command
use Rattle.dap_msg.specs.declared.request.Dialect.{Dialect}
use Rattle.dap_msg.specs.declared.request.Request.{Request}
use Rattle.dap_history.specs.declared.ending.Closed.TheVariants as closed
use Rattle.dap_history.specs.declared.fault.SessionFault.{SessionFault}
use Rattle.dap_history.specs.declared.fault.SessionFault.TheVariants.{Frame}
use Rattle.dap_history.specs.History.{Item, Content, Loaded, Accepted, Fault, InputEnd, ReadFailure, MemoryFailure, Step, History, messages_of}
use Rattle.dap_history.specs.Events.{Incoming, Rest, IsHistoryOf}
use Rattle.dap_history.proofs.Cuts.{fault_more}
use Rattle.dap_history.specs.Laws.{stream_of, HistoryIsOne, ContentsAreOfTheStream, EachIsAnsweredOnce, DisconnectIsLast, AreReadAs, answered_request, launch_request, read_as, waiting}
use Rattle.dap_session.specs.Serving.{SessionOutcome, closes, ends_at_fault, gives_up, CannotSend, no_seq_is_left, orders_are_full, runner_is_gone, writer_is_gone}
use Rattle.byte_streams.specs.Streams.{WritesAll}
use Rattle.adapter.specs.AllRead.{asked}
use Rattle.adapter.specs.Laws.{AsksToDisconnect, TakesFirstDisconnect}
use Rattle.adapter.specs.Serving.{World, nothing_sent, TasksEnd}
use Rattle.adapter.specs.UpTo.{disconnect, AnswersToDisconnect, AnswersToFault, AnswersRead, DisconnectIsAnswered, AllBeforeFaultIsAnswered}
use Rattle.adapter.proofs.AllRead.{asked_are, items_of}
use Rattle.adapter.proofs.FaultStands.{fault_stands}
use Rattle.adapter.proofs.InputTaken.{begins_read, first_disconnect_closes}
use Rattle.adapter.proofs.SessionFaults.{outcome_is_of_session, ends_at_framing_fault}

-- ---- frames

-- frames stand in front of any further bytes
frames_before_more : (bytes : List ℕ) (contents : List (List ℕ)) (rest more : List ℕ) → Frames bytes contents rest
    → Frames (bytes ++ more) contents (rest ++ more)
frames_before_more bytes [] rest more are = ap (λ l. l ++ more) are
frames_before_more bytes (content ∷ contents) rest more (next, front, are) = (
  next ++ more,
  frame_longer bytes content next more front,
  frames_before_more next contents rest more are,
)

-- the first of the frames, whose contents are read as the first of the requests
record FirstFrames (dialect : Dialect) (bytes : List ℕ) (requests : List (Option Request)) : Type 0 where
  pub contents : List (List ℕ)
  pub rest : List ℕ
  pub frames : Frames bytes contents rest
  pub read : AreReadAs dialect contents requests

first_frames : (dialect : Dialect) (requests others : List (Option Request)) (bytes : List ℕ)
    (contents : List (List ℕ)) (rest : List ℕ) → Frames bytes contents rest
    → AreReadAs dialect contents (requests ++ others) → FirstFrames dialect bytes requests
first_frames dialect [] others bytes contents rest are read =
    record { contents = []; rest = bytes; frames = refl; read = tt }
first_frames dialect (request ∷ requests) others bytes [] rest are read = absurd read
first_frames dialect (request ∷ requests) others bytes (content ∷ contents) rest (next, front, are) (one, read) =
    let more = first_frames dialect requests others next contents rest are read in
    record {
      contents = content ∷ more.contents;
      rest = more.rest;
      frames = (next, front, more.frames);
      read = (one, more.read);
    }

-- ---- requests

-- no request to disconnect is among these
abbrev NoneDisconnects : List (Option Request) → Type 0
NoneDisconnects requests =
    (front back : List (Option Request)) (seq : ℕ) → ¬ (requests ≡ front ++ disconnect seq ∷ back)

one_more_none : (request : Option Request) (requests : List (Option Request))
    → ((seq : ℕ) → ¬ (request ≡ disconnect seq)) → NoneDisconnects requests → NoneDisconnects (request ∷ requests)
one_more_none request requests not none [] back seq is = let same : request ≡ disconnect seq = cc in not seq same
one_more_none request requests not none (x ∷ front) back seq is =
    let later : requests ≡ front ++ disconnect seq ∷ back = cc in none front back seq later

one_goes_on : (item : Item) (requests : List (Option Request)) → ¬ AsksToDisconnect item → NoneDisconnects requests
    → NoneDisconnects (cons_option (read_as item) requests)
one_goes_on (Content request) requests not none =
    one_more_none request requests (λ seq is. not (seq, ap Content is)) none
one_goes_on (Loaded launch file) requests not none =
    one_more_none (Some (launch_request launch)) requests (λ seq is.
    let e : command.Launch launch.arguments ≡ command.Disconnect =
    ap (λ (o : Option Request). option_map_or (λ r. r.body) o command.Disconnect) is in absurd cc) none
one_goes_on (Accepted r) requests not none = none
one_goes_on (Fault k) requests not none = none
one_goes_on InputEnd requests not none = none
one_goes_on ReadFailure requests not none = none
one_goes_on MemoryFailure requests not none = none

all_go_on : (past : History)
    → ((front : History) (other : Step) (back : History) → past ≡ front ++ other ∷ back → ¬ AsksToDisconnect other.item)
    → NoneDisconnects (filter_map read_as (items_of past))
all_go_on [] not [] back seq is = absurd cc
all_go_on [] not (x ∷ front) back seq is = absurd cc
all_go_on (step ∷ past) not front back seq is =
    one_goes_on step.item (filter_map read_as (items_of past)) (not [] step past refl)
    (all_go_on past (λ front other back is. not (step ∷ front) other back (ap (λ l. step ∷ l) is)))
    front back seq is

-- what is read of steps and of one more that asks to disconnect
read_with_last : (past : History) (step : Step) (asks : AsksToDisconnect step.item)
    → filter_map read_as (items_of (past ++ step ∷ []))
    ≡ filter_map read_as (items_of past) ++ disconnect asks.0 ∷ []
read_with_last past step asks =
    ap (filter_map read_as) (map-append (λ (s : Step). s.item) past (step ∷ []))
    ∙ filter_map-append read_as (items_of past) (step.item ∷ [])
    ∙ ap (λ i. filter_map read_as (items_of past) ++ cons_option (read_as i) []) asks.1

-- the answers to what is read of the items
answers_are : EachIsAnsweredOnce → (f : Dialect) (events : List Incoming) (past : History) (rest : Rest)
    → IsHistoryOf f events past rest
    → filter_map answered_request (messages_of past) ≡ filter_map asked (filter_map read_as (items_of past))
answers_are answered f events past rest history =
    answered f events past rest history ∙ sym (asked_are (items_of past))

-- ---- up to a `disconnect`

module _ (one : HistoryIsOne) (contents : ContentsAreOfTheStream) (answered : EachIsAnsweredOnce)
    (last : DisconnectIsLast) (f : Dialect) (before after : World)
    (driven : TasksEnd f (Ok tt) (Ok closed.Disconnected) before after)
    (taken : TakesFirstDisconnect f driven.session.events before.streams.input after.streams.input) where
  abbrev all_taken : History
  all_taken = taken.before ++ taken.step ∷ []

  to_disconnect : AnswersToDisconnect f taken.read (messages_of all_taken)
  to_disconnect = record {
    earlier = earlier;
    seq = taken.asks.0;
    is_first = all_go_on taken.before taken.first;
    rest = first.rest ++ taken.begins.0;
    answers = record {
      contents = first.contents;
      frames = subst (λ bytes. Frames bytes first.contents (first.rest ++ taken.begins.0)) taken.begins.1
          (frames_before_more (stream_of driven.session.events) first.contents first.rest taken.begins.0 first.frames);
      read = first.read;
      answers = answers_are answered f driven.session.events all_taken taken.rest taken.history
          ∙ ap (filter_map asked) read_are;
    };
    before = messages_of taken.before;
    is_last = (last f driven.session.events all_taken taken.rest taken.history taken.before taken.step [] taken.asks.0
        refl taken.asks.1).1;
  }
    where
      earlier : List (Option Request)
      earlier = filter_map read_as (items_of taken.before)

      read_are : filter_map read_as (items_of all_taken) ≡ earlier ++ disconnect taken.asks.0 ∷ []
      read_are = read_with_last taken.before taken.step taken.asks

      told : (contents : List (List ℕ)) × Frames (stream_of driven.session.events) contents taken.rest.bytes
          × AreReadAs f contents (filter_map read_as (items_of all_taken) ++ waiting taken.rest.launch)
      told = contents f driven.session.events all_taken taken.rest taken.history

      first : FirstFrames f (stream_of driven.session.events) (earlier ++ disconnect taken.asks.0 ∷ [])
      first = first_frames f (earlier ++ disconnect taken.asks.0 ∷ []) (waiting taken.rest.launch)
          (stream_of driven.session.events) told.0 taken.rest.bytes told.1
          (subst (λ l. AreReadAs f told.0 (l ++ waiting taken.rest.launch)) read_are told.2)

  disconnected : SessionOutcome f driven.session.events driven.given driven.session.loaded nothing_sent driven.sent
      (Ok closed.Disconnected) → AnswersRead (AnswersToDisconnect f) before after
  disconnected (closes from serves) = record {
    read = taken.read;
    consumed = taken.consumed;
    messages = messages_of serves.past;
    answers = subst (λ h. AnswersToDisconnect f taken.read (messages_of h))
        (one f driven.session.events all_taken serves.past taken.rest serves.rest taken.history serves.history).0
        to_disconnect;
    written = subst (λ frames. WritesAll (concat frames) before.streams.output after.streams.output)
        serves.frames_are driven.writer.written;
  }

pub disconnect_is_answered : HistoryIsOne → ContentsAreOfTheStream → EachIsAnsweredOnce → DisconnectIsLast
    → DisconnectIsAnswered
disconnect_is_answered one contents answered last f before after served =
    let driven = outcome_is_of_session f (Ok _) closed.Disconnected before after served refl in
    let taken = first_disconnect_closes last f (Ok tt) before after driven in
    disconnected one contents answered last f before after driven taken driven.session.drives

-- ---- up to a framing fault

to_fault : ContentsAreOfTheStream → EachIsAnsweredOnce → (k : FramingFault) (f : Dialect) (events : List Incoming)
    (past : History) (rest : Rest)
    → IsHistoryOf f events past rest → (rest.launch ≡ None) → (more : List ℕ)
    → FaultAt (rest.bytes ++ more) k → AnswersToFault k f (stream_of events ++ more) (messages_of past)
to_fault of_stream answered k f events past rest history none_waits more stands = record {
  requests = requests;
  rest = rest.bytes ++ more;
  answers = record {
    contents = told.0;
    frames = frames_before_more (stream_of events) told.0 rest.bytes more told.1;
    read = subst (AreReadAs f told.0) (ap (λ o. requests ++ waiting o) none_waits ∙ append-nil requests) told.2;
    answers = answers_are answered f events past rest history;
  };
  stands = stands;
}
  where
    requests : List (Option Request)
    requests = filter_map read_as (items_of past)

    told : (contents : List (List ℕ)) × Frames (stream_of events) contents rest.bytes
        × AreReadAs f contents (requests ++ waiting rest.launch)
    told = of_stream f events past rest history

no_framing_fault : (fault : SessionFault) (k : FramingFault) → CannotSend fault → ¬ (fault ≡ Frame k)
no_framing_fault fault k no_seq_is_left is = absurd cc
no_framing_fault fault k orders_are_full is = absurd cc
no_framing_fault fault k runner_is_gone is = absurd cc
no_framing_fault fault k writer_is_gone is = absurd cc

at_fault : ContentsAreOfTheStream → EachIsAnsweredOnce → (k : FramingFault) (f : Dialect) (before after : World)
    (driven : TasksEnd f (Ok tt) (Err (Frame k)) before after)
    → SessionOutcome f driven.session.events driven.given driven.session.loaded nothing_sent driven.sent
    (Err (Frame k)) → AnswersRead (AnswersToFault k f) before after
at_fault contents answered k f before after driven (ends_at_fault from serves) =
    let all = begins_read f driven.session.events driven.given driven.reader.client driven.session.loaded
    driven.reader.end before.streams.input after.streams.input from driven.reader.read
    driven.reader.of_whole driven.reader.client_taken in
    let there = fault_stands f driven.session.events serves.serves.past serves.serves.rest serves.serves.history k
    serves.serves.ending_is in
    record {
      read = all.read;
      consumed = all.consumed;
      messages = messages_of serves.serves.past;
      answers = subst (λ bytes. AnswersToFault k f bytes (messages_of serves.serves.past)) all.begins.1
          (to_fault contents answered k f driven.session.events serves.serves.past serves.serves.rest
          serves.serves.history there.0 all.begins.0
          (fault_more serves.serves.rest.bytes all.begins.0 k there.1));
      written = subst (λ frames. WritesAll (concat frames) before.streams.output after.streams.output)
          (serves.quit.frames_are ∙ serves.serves.frames_are) driven.writer.written;
    }
at_fault contents answered k f before after driven (gives_up cannot from stops) =
    absurd (no_framing_fault (Frame k) k cannot refl)

pub all_before_fault_is_answered : ContentsAreOfTheStream → EachIsAnsweredOnce → AllBeforeFaultIsAnswered
all_before_fault_is_answered contents answered f k before after served =
    let driven = ends_at_framing_fault f k before after served in
    at_fault contents answered k f before after driven driven.session.drives
