-- Where each end waits and the queues are empty, all that was sent was taken; for the clause `ends` of `serving_laws`.
use Rattle.std.proofs.Common.{◌≡◌, ◌≢◌, ◌⊎◌, inl, inr, ℕ, true, List, [], ◌∷◌, ◌++◌, None, refl, sym, ap, ◌∙◌, subst, append-nil}
use Rattle.std.specs.Prelude.{◌&&◌, map}
use Rattle.std.specs.List.{flat_map}
use Rattle.std.proofs.lemmas.Bool.{and_parts}
use Rattle.byte_streams.specs.Streams.{Supply, Output}
use Rattle.dap_history.specs.Events.{Incoming}
use Rattle.dap_history.specs.Interleaving.{Load}
use Rattle.dap_session.specs.Incoming.{incoming_of}
use Rattle.dap_session.specs.Ports.{ports}
use Rattle.dap_session.specs.declared.ports.Event.TheVariants as event
use Rattle.dbg_runner.specs.declared.outcome.SliceOutcome.{SliceOutcome}
use Rattle.dbg_runner.specs.declared.outcome.SliceOutcome.TheVariants as out
use Rattle.dbg_runner.specs.Laws.{HasLast}
use Rattle.dbg_runner.specs.Plain.{PlainReport}
use Rattle.dbg_runner.specs.Queues.{order_in, sent_in}
use Rattle.dbg_runner.specs.Reported.{Reported, plain_report}
use Rattle.dbg_runner.specs.Runner.{Act, Runner, Idle, Ready, Slicing, Looking, Holding, Ended, Does, DoesAll}
use Rattle.dbg_runner.specs.Runner as runner
use Rattle.dap_wires.specs.declared.arrival.Arrival.{Arrival}
use Rattle.dap_wires.specs.Delivery.{of_first, of_second}
use Rattle.dap_wires.specs.Ends.{sender_log, receiver_log}
use Rattle.dap_wires.specs.Inbox.{came, client_events, put_reports, sent_reports, session_events}
use Rattle.dap_wires.specs.Orders.{pushed_orders, taken_orders}
use Rattle.dap_wires.specs.Outbox.{put_frames, end_taken}
use Rattle.dap_wires.specs.Reading.{HasSentAll}
use Rattle.dap_wires.specs.Senders.{events_in, is_by_runner, from_client, reports_among, goes_on, is_none_of, is_quiet, are_quiet}
use Rattle.dap_wires.specs.WriterMessages.{frames_in, kept_in}
use Rattle.dap_wires.proofs.Sending.{client_first, reports_second}
use Rattle.adapter.specs.Serving.{world, streams}
use Rattle.adapter.specs.Waiting.{AreWaiting, NothingIsLeft, WaitingOwesNothing}
use Rattle.adapter.specs.WaitingEnds.{Ends, QueuesAreEmpty, EachWaits, WaitingEndsOweNothing}

-- ---- a runner without a run has sent its last report at once

last_of_more : (r : PlainReport) (rs : List PlainReport) → HasLast rs → HasLast (r ∷ rs)
last_of_more r [] last = absurd last
last_of_more r (s ∷ rs) last = last

-- what was sent on the way to where there is no run: its last says that the run doesn't go on
abbrev Leads : Runner → List PlainReport → Type 0
Leads Idle rs = (rs ≡ []) ⊎ HasLast rs
Leads (Ready g) rs = HasLast rs
Leads (Slicing g) rs = HasLast rs
Leads (Looking g) rs = HasLast rs
Leads (Holding g) rs = HasLast rs
Leads Ended rs = ⊥

then_none : (r : PlainReport) (rs : List PlainReport) → r.outcome ≢ out.More → (rs ≡ []) ⊎ HasLast rs
    → HasLast (r ∷ rs)
then_none r rs no_more (inl none) = subst (λ l. HasLast (r ∷ l)) (sym none) no_more
then_none r rs no_more (inr last) = last_of_more r rs last

by_does : {from next : Runner} {act : Act} → Does from act next → (rs : List PlainReport) → Leads next rs
    → Leads from (sent_in act ++ rs)
by_does runner.takes_go rs leads = inr leads
by_does runner.has_none_to_hold rs leads = leads
by_does runner.quits rs leads = absurd leads
by_does (runner.passes stands) rs leads = leads
by_does (runner.goes_on {r = r} of more) rs leads = last_of_more r rs leads
by_does (runner.stops {r = r} of no_more) rs leads = then_none r rs no_more leads
by_does (runner.is_refused of) rs leads = absurd leads
by_does runner.finds_none rs leads = leads
by_does runner.finds_go rs leads = leads
by_does (runner.finds_hold forward) rs leads = leads
by_does (runner.finds_vain_hold why) rs leads = leads
by_does runner.finds_quit rs leads = absurd leads
by_does (runner.holds {r = r} of) rs leads = then_none r rs (λ more. let e = sym of.held ∙ more in absurd cc) leads
by_does (runner.is_refused_held of) rs leads = absurd leads

leads_idle : (from : Runner) (acts : List Act) → DoesAll from acts Idle → Leads from (flat_map sent_in acts)
leads_idle Idle [] is = inl refl
leads_idle (Ready g) [] is = absurd cc
leads_idle (Slicing g) [] is = absurd cc
leads_idle (Looking g) [] is = absurd cc
leads_idle (Holding g) [] is = absurd cc
leads_idle Ended [] is = absurd cc
leads_idle from (act ∷ acts) does = by_does does.1 (flat_map sent_in acts) (leads_idle does.0 acts does.2)

more_of : (o : SliceOutcome) → goes_on o ≡ true → o ≡ out.More
more_of out.More is = refl
more_of _ is = absurd cc

quiet_more : (r : Reported) → is_quiet r ≡ true → (plain_report r).outcome ≡ out.More
quiet_more r quiet =
    more_of r.outcome (and_parts (goes_on r.outcome) (is_none_of r.numbers)
    (and_parts (goes_on r.outcome && is_none_of r.numbers) (is_none_of r.logs) quiet).0).0

-- the last of quiet reports says that the run goes on
quiet_last : (r : Reported) (rs : List Reported) → are_quiet (r ∷ rs) ≡ true
    → ¬ HasLast (map plain_report (r ∷ rs))
quiet_last r [] quiet last = last (quiet_more r (and_parts (is_quiet r) true quiet).0)
quiet_last r (s ∷ rs) quiet last = quiet_last s rs (and_parts (is_quiet r) (are_quiet (s ∷ rs)) quiet).1 last

last_in : (xs : List PlainReport) (y : PlainReport) (ys : List PlainReport) → HasLast (xs ++ y ∷ ys)
    → HasLast (y ∷ ys)
last_in [] y ys last = last
last_in (x ∷ []) y ys last = last
last_in (x ∷ z ∷ xs) y ys last = last_in (z ∷ xs) y ys last

not_none : (xs : List PlainReport) (y : PlainReport) (ys : List PlainReport) → ¬ (xs ++ y ∷ ys ≡ [])
not_none [] y ys is = absurd cc
not_none (x ∷ xs) y ys is = absurd cc

-- a runner without a run keeps no quiet report
none_kept : (put : List PlainReport) (kept : List Reported) (acts : List Act) → are_quiet kept ≡ true
    → DoesAll Idle acts Idle → put ++ map plain_report kept ≡ flat_map sent_in acts → kept ≡ []
none_kept put [] acts quiet does sent = refl
none_kept put (r ∷ rs) acts quiet does sent = by_last (leads_idle Idle acts does)
  where
    by_last : Leads Idle (flat_map sent_in acts) → r ∷ rs ≡ []
    by_last (inl none) = absurd (not_none put (plain_report r) (map plain_report rs) (sent ∙ none))
    by_last (inr last) =
        absurd (quiet_last r rs quiet (last_in put (plain_report r) (map plain_report rs)
        (subst HasLast (sym sent) last)))

-- ---- all together

module _ {I O L : Type 0} (R : Type 0) (supply_of : I → Supply) (output_of : O → Output) (loaded_of : L → List Load)
    (begin : I) (e : Ends I O L R) (w : EachWaits R supply_of output_of loaded_of begin e)
    (q : QueuesAreEmpty R supply_of output_of loaded_of e) where
  taken_is : came (receiver_log e.inbox.events.end).taken ≡ session_events e.inbox
  taken_is =
      ap (map incoming_of) e.inbox.events.in_order
      ∙ ap (λ rest. map incoming_of (e.inbox.events.given.entries ++ map event.Report rest)) w.given
      ∙ ap (map incoming_of) (append-nil e.inbox.events.given.entries)

  client_taken : from_client (session_events e.inbox) ≡ client_events e.client
  client_taken =
      ap from_client (sym taken_is) ∙ sym (client_first (receiver_log e.inbox.events.end).taken)
      ∙ ap came (sym q.inbox_first)

  put_is : put_reports e.reports ≡ reports_among (session_events e.inbox)
  put_is =
      ap (λ l. reports_among (came l)) q.inbox_second
      ∙ reports_second (receiver_log e.inbox.events.end).taken ∙ ap reports_among taken_is

  kept_is : e.reports.kept.items ≡ []
  kept_is = none_kept (put_reports e.reports) e.reports.kept.items w.acts e.reports.quiet w.runner w.reports

  reports_taken : reports_among (session_events e.inbox) ≡ flat_map sent_in w.acts
  reports_taken =
      sym put_is ∙ sym (append-nil (put_reports e.reports))
      ∙ ap (λ l. put_reports e.reports ++ map plain_report l) (sym kept_is) ∙ w.reports

  frames_taken : frames_in (end_taken e.writer) ≡ (put_frames e.frames).frames
  frames_taken =
      ap frames_in (sym q.outbox ∙ sym (append-nil (sender_log e.frames.end).put_first))
      ∙ ap (λ k. frames_in ((sender_log e.frames.end).put_first ++ kept_in k)) (sym w.passed)

  orders_taken : flat_map order_in w.acts ≡ (pushed_orders e.pushed).orders
  orders_taken = sym w.orders ∙ q.orders

pub waiting_ends_owe_nothing : WaitingOwesNothing → {I O L : Type 0} (R : Type 0) (supply_of : I → Supply)
    (output_of : O → Output) (loaded_of : L → List Load) → WaitingEndsOweNothing R supply_of output_of loaded_of
waiting_ends_owe_nothing law R supply_of output_of loaded_of begin e w q =
    law e.inbox.dialect
    (world (loaded_of e.inbox.loader.value) [] (streams (supply_of begin) (output_of e.writer.first.value)))
    (world (loaded_of e.loader) [] (streams (supply_of e.input) (output_of e.output)))
    (record {
      given = session_events e.inbox;
      sent = ports (put_frames e.frames) (pushed_orders e.pushed);
      session = w.session;
      client = client_events e.client;
      returned = [];
      reader = subst (λ r. HasSentAll [] (client_events e.client) [] r (supply_of begin) (supply_of e.input))
          w.reader.none_back w.reader;
      of_whole = w.of_whole;
      acts = w.acts;
      runner = w.runner;
      messages = end_taken e.writer;
      writer = w.writer;
      client_taken = client_taken R supply_of output_of loaded_of begin e w q;
      reports_taken = reports_taken R supply_of output_of loaded_of begin e w q;
      orders_taken = orders_taken R supply_of output_of loaded_of begin e w q;
      frames_taken = frames_taken R supply_of output_of loaded_of begin e w q;
    })
