-- Where all wait and the queues are empty, all that was read is answered and written; for the clause `waiting` of
-- `serving_laws`.
use Rattle.std.proofs.Common.{◌≡◌, inl, inr, ℕ, List, [], ◌∷◌, ◌++◌, Option, None, Some, refl, sym, ap, ◌∙◌, subst, append-nil}
use Rattle.std.specs.Prelude.{map, option_map}
use Rattle.std.specs.List.{concat, filter_map, flat_map}
use Rattle.byte_streams.specs.Streams.{Appends, IsReadOf, WritesAll}
use Rattle.dap_frame.specs.Frame.{Frames, IsOpen}
use Rattle.dap_msg.specs.declared.request.Dialect.{Dialect}
use Rattle.dap_msg.specs.declared.request.Request.{Request}
use Rattle.dap_history.specs.declared.launch.Launch.{Launch}
use Rattle.dap_history.specs.Events.{Incoming, Piece, End, ReadFailed, File, Report, Rest, IsHistoryOf}
use Rattle.dap_history.specs.Events.{NoMemory as NoMemoryCame}
use Rattle.dap_history.specs.History.{History, messages_of, orders_of}
use Rattle.dap_history.specs.Interleaving.{Load, IsLoad, Interleaves}
use Rattle.dap_history.specs.Laws.{stream_of, ContentsAreOfTheStream, EachIsAnsweredOnce, RestIsOpen, AreReadAs, contents_read, read_as, waiting, request_of_item}
use Rattle.dap_history.specs.Output.{frames_from}
use Rattle.dap_session.specs.Coming.{sources}
use Rattle.dap_session.specs.Serving.{OwesOnly}
use Rattle.dap_wires.specs.Senders.{from_client, reports_among}
use Rattle.adapter.specs.AllRead.{AnswersAll}
use Rattle.adapter.specs.Serving.{World, nothing_sent}
use Rattle.adapter.specs.Waiting.{AreWaiting, NothingIsLeft, WaitingOwesNothing}
use Rattle.adapter.proofs.AllRead.{items_of, asked_are}
use Rattle.adapter.proofs.InputTaken.{client_stream, read_stream, inbox_stream}

no_launch : (launch : Option Launch) → None ≡ option_map (λ (l : Launch). l.arguments.program) launch → launch ≡ None
no_launch None is = refl
no_launch (Some launch) is = absurd cc

-- ---- reports come from the inbox alone

load_reports : (f : Dialect) (before : List Incoming) (e : Incoming) (load : Load) (events : List Incoming)
    → IsLoad f before e load → reports_among (e ∷ events) ≡ reports_among events
load_reports f before (File file) load events is = refl
load_reports f before _ load events is = absurd is

reports_more : (e : Incoming) (xs ys : List Incoming) → reports_among xs ≡ reports_among ys
    → reports_among (e ∷ xs) ≡ reports_among (e ∷ ys)
reports_more (Piece p) xs ys same = same
reports_more End xs ys same = same
reports_more ReadFailed xs ys same = same
reports_more NoMemoryCame xs ys same = same
reports_more (File file) xs ys same = same
reports_more (Report r) xs ys same = ap (λ l. r ∷ l) same

inbox_reports : (f : Dialect) (before events given : List Incoming) (loads : List Load)
    → Interleaves f before events given loads → reports_among given ≡ reports_among events
inbox_reports f before [] given loads from = ap reports_among from.0
inbox_reports f before (e ∷ events) given loads (inl from) =
    inbox_reports f (before ++ e ∷ []) events given from.1 from.4
    ∙ sym (load_reports f before e from.0 events from.3)
inbox_reports f before (e ∷ events) given loads (inr from) =
    ap reports_among from.1
    ∙ reports_more e from.0 events (inbox_reports f (before ++ e ∷ []) events from.0 loads from.3)

-- ---- all together

pub record WaitingLaws : Type 0 where
  pub contents : ContentsAreOfTheStream
  pub answered : EachIsAnsweredOnce
  pub unread : RestIsOpen

module _ (laws : WaitingLaws) (f : Dialect) (before now : World) (w : AreWaiting f before now) where
  abbrev s : OwesOnly f None (sources [] before.loads) (sources w.given now.loads) nothing_sent w.sent
  s = w.session

  from : Interleaves f [] s.events w.given s.loads
  from = subst (λ g. Interleaves f [] s.events g s.loads) (sym s.given_are) s.interleaves

  none_waits : s.rest.launch ≡ None
  none_waits = no_launch s.rest.launch s.waits

  stream_is : stream_of s.events ≡ stream_of w.client
  stream_is = sym (inbox_stream f [] s.events w.given s.loads from) ∙ sym (client_stream w.given)
      ∙ ap stream_of w.client_taken

  abbrev requests : List (Option Request)
  requests = filter_map read_as (items_of s.past)

  told : (contents : List (List ℕ)) × Frames (stream_of s.events) contents s.rest.bytes
      × AreReadAs f contents (contents_read s.past s.rest.launch)
  told = laws.contents f s.events s.past s.rest s.history

  answers : AnswersAll f (stream_of s.events) (messages_of s.past)
  answers = record {
    requests = requests;
    rest = s.rest.bytes;
    unfinished = (laws.unread f s.events s.past s.rest s.history s.taking).0 none_waits;
    answers = record {
      contents = told.0;
      frames = told.1;
      read = subst (AreReadAs f told.0) (ap (λ o. requests ++ waiting o) none_waits ∙ append-nil requests) told.2;
      answers = laws.answered f s.events s.past s.rest s.history ∙ sym (asked_are (items_of s.past));
    };
  }

  nothing_is_left : NothingIsLeft f before now
  nothing_is_left = record {
    read = stream_of s.events;
    consumed = record {
      appended = subst (λ l. Appends before.streams.input.read now.streams.input.read l)
          (ap stream_of (sym w.reader.sent_are) ∙ sym stream_is)
          (read_stream (map Piece w.reader.pieces) before.streams.input now.streams.input w.reader.read);
      of_whole = w.of_whole;
    };
    events = s.events;
    pieces = refl;
    past = s.past;
    rest = s.rest;
    history = s.history;
    lawful = s.lawful;
    goes_on = s.taking;
    answers = answers;
    written = subst (λ frames. WritesAll (concat frames) before.streams.output now.streams.output)
        (w.frames_taken ∙ s.frames_are) w.writer;
    acts = w.acts;
    runs = w.runner;
    orders = w.orders_taken ∙ s.orders_are;
    reports = sym (inbox_reports f [] s.events w.given s.loads from) ∙ w.reports_taken;
  }

pub waiting_owes_nothing : WaitingLaws → WaitingOwesNothing
waiting_owes_nothing laws f before now w = nothing_is_left laws f before now w
