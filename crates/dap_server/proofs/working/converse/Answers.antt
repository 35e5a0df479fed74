use Rattle.std.proofs.Common.{◌≡◌, ◌++◌, ◌∙◌, None, true, false, refl, subst, ap, map, inl, inr, arith}
use Rattle.std.proofs.lemmas.Result.{err_from_is_err_and}
use Rattle.std.specs.Prelude.{Ok}
use Rattle.byte_streams.specs.Streams.{Appends}
use Rattle.dap_frame.specs.Stream.{Stream}
use Rattle.dap_server.specs.Messages.{plain_event}
use Rattle.dap_server.specs.Conversation.{state, Progress}
use Rattle.dap_server.specs.Inbox.{Bytes, Event, End, Failed, NoMemory}
use Rattle.dap_server.specs.Working.{Comes}
use Rattle.dap_server.specs.declared.ending.ServeFault.TheVariants as fault
use Rattle.dap_server.proofs.Conversing.{is_done, not_empty}
use Rattle.dap_server.proofs.Taking.{open_first}
use Rattle.dap_server.proofs.Meanwhile.{working_nowhere, working_bytes, working_event, working_part, working_same, worker_ended_by, worker_ended_within, worker_ended_in_work}
use Rattle.dap_server.proofs.working.converse.Goals as goal
use Rattle.std.proofs.lemmas.Grind.{common_steps}

pub loop-init : goal.loop-init
loop-init g c = grind (arith, common_steps, open_first, working_nowhere)

-- the adapter has no memory for a part of its work
pub returns-in_err-events-clause-served : goal.returns-in_err-events-clause-served
returns-in_err-events-clause-served g c =
    let here = state c.loop.responder c.loop.next true in
    let p = err_from_is_err_and c.from_residual.result c.from_residual.ensures.1 in
    rw (p.1, p.2) (worker_ended_in_work _ _ _ _ _ _ _ here _ _ _ _ _ _ _ _ c.loop.invariant.working
    c.in_err-events.ensures.err refl c.loop.invariant.is_open (inl (refl, refl)))

pub loop-preserved-in-Continue-branch-3 : goal.loop-preserved-in-Continue-branch-3
loop-preserved-in-Continue-branch-3 g c =
    let worked : ((g.P.Pace.busy c.loop.responder ≡ true) × g.P.Pace.polls c.loop.inbox None c.next_turn.new.inbox) ×
    g.P.Pace.works c.loop.responder (map plain_event c.in-Tell.events.items) c.next_turn.new.responder = rw c.in-Tell.is
    at c.in_ok-events.ensures.ok in
    record {
      origin = c.next_turn.ensures.origin
          ∙ c.loop.invariant.origin;
      sound = c.loop.invariant.sound;
      is_open = c.loop.invariant.is_open;
      outputs =
          c.in_ok-tell-in-Tell.ensures.count
          ∙ c.loop.invariant.outputs;
      working = working_part _ _ _ _ _ _ _ _ _ _ _ _ _ _ _ _ _ c.loop.invariant.working
          worked.0 refl c.loop.invariant.is_open worked.1 c.in_ok-tell-in-Tell.ensures.ok;
    }

pub returns-in_err-tell-in-Tell-clause-served : goal.returns-in_err-tell-in-Tell-clause-served
returns-in_err-tell-in-Tell-clause-served g c =
    let worked : ((g.P.Pace.busy c.loop.responder ≡ true) × g.P.Pace.polls c.loop.inbox None c.next_turn.new.inbox) ×
    g.P.Pace.works c.loop.responder (map plain_event c.in-Tell.events.items) c.next_turn.new.responder = rw c.in-Tell.is
    at c.in_ok-events.ensures.ok in
    let here = state c.loop.responder c.loop.next true in
    let p = err_from_is_err_and c.from_residual-in_err-tell-in-Tell.result c.from_residual-in_err-tell-in-Tell.ensures.1
    in
    rw (p.1, p.2) (worker_ended_in_work _ _ _ _ _ _ _ here _ _ _ _ _ _ _ _ c.loop.invariant.working worked.0 refl
    c.loop.invariant.is_open (inr (
      map plain_event c.in-Tell.events.items,
      worked.1,
      c.in_err-tell-in-Tell.ensures.err,
    )))

-- the event has no memory
pub returns-in_err-events-in-Take-Event-clause-served : goal.returns-in_err-events-in-Take-Event-clause-served
returns-in_err-events-in-Take-Event-clause-served g c =
    let came : (c.next_turn.new.responder ≡ c.loop.responder) × Comes (g.P.Pace.busy c.next_turn.new.responder)
    g.P.Pace.gives g.P.Pace.polls c.loop.inbox (Event (plain_event c.in-Take-Event.event)) c.next_turn.new.inbox =
    rw (c.in-Take-Event.is, c.in-Take-Event.field-0-is) at c.in_ok-events.ensures.ok in
    let working = working_same _ _ _ _ _ _ _ _ _ _ _ _ _ _ c.loop.invariant.working came.0 in
    let here = state c.next_turn.new.responder c.loop.next true in
    let p = err_from_is_err_and c.from_residual-in_err-events-in-Take-Event.result
    c.from_residual-in_err-events-in-Take-Event.ensures.1 in
    rw (p.1, p.2) (worker_ended_by _ _ _ _ _ _ _ here _ _ _ _ _ _ _ _ _ working came.1 refl c.loop.invariant.is_open
    (fault.NoMemory, refl, refl, refl))

pub loop-preserved-in-Continue-branch-5 : goal.loop-preserved-in-Continue-branch-5
loop-preserved-in-Continue-branch-5 g c =
    let came : (c.next_turn.new.responder ≡ c.loop.responder) × Comes (g.P.Pace.busy c.next_turn.new.responder)
    g.P.Pace.gives g.P.Pace.polls c.loop.inbox (Event (plain_event c.in-Take-Event.event)) c.next_turn.new.inbox =
    rw (c.in-Take-Event.is, c.in-Take-Event.field-0-is) at c.in_ok-events.ensures.ok in
    let working = working_same _ _ _ _ _ _ _ _ _ _ _ _ _ _ c.loop.invariant.working came.0 in
    let only = ap (map plain_event) c.in_ok-events-in-Take-Event.ensures in
    record {
      origin = c.next_turn.ensures.origin
          ∙ c.loop.invariant.origin;
      sound = c.loop.invariant.sound;
      is_open = c.loop.invariant.is_open;
      outputs =
          c.in_ok-tell-in-Take-Event.ensures.count
          ∙ c.loop.invariant.outputs;
      working = working_event _ _ _ _ _ _ _ _ _ _ _ _ _ _ _ _ _ working came.1 refl
          c.loop.invariant.is_open only c.in_ok-tell-in-Take-Event.ensures.ok;
    }

pub returns-in_err-tell-in-Take-Event-clause-served : goal.returns-in_err-tell-in-Take-Event-clause-served
returns-in_err-tell-in-Take-Event-clause-served g c =
    let came : (c.next_turn.new.responder ≡ c.loop.responder) × Comes (g.P.Pace.busy c.next_turn.new.responder)
    g.P.Pace.gives g.P.Pace.polls c.loop.inbox (Event (plain_event c.in-Take-Event.event)) c.next_turn.new.inbox =
    rw (c.in-Take-Event.is, c.in-Take-Event.field-0-is) at c.in_ok-events.ensures.ok in
    let working = working_same _ _ _ _ _ _ _ _ _ _ _ _ _ _ c.loop.invariant.working came.0 in
    let only = ap (map plain_event) c.in_ok-events-in-Take-Event.ensures in
    let here = state c.next_turn.new.responder c.loop.next true in
    let p = err_from_is_err_and c.from_residual-in_err-tell-in-Take-Event.result
    c.from_residual-in_err-tell-in-Take-Event.ensures.1 in
    rw (p.1, p.2) (worker_ended_by _ _ _ _ _ _ _ here _ _ _ _ _ _ _ _ _ working came.1 refl c.loop.invariant.is_open
    (c.in_err-tell-in-Take-Event.field-0.0, refl, refl, rw (← only) c.in_err-tell-in-Take-Event.ensures.err))

pub returns-in-Err-clause-served : goal.returns-in-Err-clause-served
returns-in-Err-clause-served g c =
    let came : (c.next_turn.new.responder ≡ c.loop.responder) × Comes (g.P.Pace.busy c.next_turn.new.responder)
    g.P.Pace.gives g.P.Pace.polls c.loop.inbox (Bytes c.in-Take-Bytes.bytes.items) c.next_turn.new.inbox =
    rw (c.in-Take-Bytes.is, c.in-Take-Bytes.field-0-is) at c.in_ok-events.ensures.ok in
    let working = working_same _ _ _ _ _ _ _ _ _ _ _ _ _ _ c.loop.invariant.working came.0 in
    let here = state c.next_turn.new.responder c.loop.next true in
    worker_ended_by _ _ _ _ _ _ _ here _ _ _ _ _ _ _ _ _ working came.1 refl c.loop.invariant.is_open (
      refl,
      not_empty _ _ _ _ _ c.loop.invariant.sound c.in-Err.ensures.err.1 c.as_slice.ensures.value,
      is_done here _,
    )

pub returns-in_err-client-in-Take-Bytes-clause-served :
    goal.returns-in_err-client-in-Take-Bytes-clause-served
returns-in_err-client-in-Take-Bytes-clause-served g c =
    let came : (c.next_turn.new.responder ≡ c.loop.responder) × Comes (g.P.Pace.busy c.next_turn.new.responder)
    g.P.Pace.gives g.P.Pace.polls c.loop.inbox (Bytes c.in-Take-Bytes.bytes.items) c.next_turn.new.inbox =
    rw (c.in-Take-Bytes.is, c.in-Take-Bytes.field-0-is) at c.in_ok-events.ensures.ok in
    let working = working_same _ _ _ _ _ _ _ _ _ _ _ _ _ _ c.loop.invariant.working came.0 in
    let p = err_from_is_err_and c.from_residual-in_err-client-in-Take-Bytes.result
    c.from_residual-in_err-client-in-Take-Bytes.ensures.1 in
    let stops = c.in_err-client-in-Take-Bytes.ensures.err in
    rw (p.1, p.2) (worker_ended_within _ _ _ _ _ _ _ _ _ _ _ _ _ _ _ (working_bytes _ _ _ _ _ _ _ _ _ _ _ _ _ _ _ _ _
    working came.1 refl c.loop.invariant.is_open (rw (← (ap (λ (s : Stream). s.rest) c.in-Ok.ensures.ok.1
    ∙ ap (λ p. c.loop.decoder.rest ++ p) c.as_slice.ensures.value)) stops.progress)) (stops.there, stops.breaks))

pub returns-in-Left-clause-served : goal.returns-in-Left-clause-served
returns-in-Left-clause-served g c =
    let came : (c.next_turn.new.responder ≡ c.loop.responder) × Comes (g.P.Pace.busy c.next_turn.new.responder)
    g.P.Pace.gives g.P.Pace.polls c.loop.inbox (Bytes c.in-Take-Bytes.bytes.items) c.next_turn.new.inbox =
    rw (c.in-Take-Bytes.is, c.in-Take-Bytes.field-0-is) at c.in_ok-events.ensures.ok in
    let working = working_same _ _ _ _ _ _ _ _ _ _ _ _ _ _ c.loop.invariant.working came.0 in
    let left = state c.answer_all.new.responder c.answer_all.new.next false in
    worker_ended_within _ _ _ _ _ _ _ left _ _ _ _ _ _ _ (working_bytes _ _ _ _ _ _ _ left _ _ _ _ _ _ _ _ _ working
    came.1 refl c.loop.invariant.is_open (subst (λ l. Progress g.R.Responder.replies (state c.next_turn.new.responder
    c.loop.next true) left l c.answer_all.new.decoder.rest (Appends (g.O.Sink.output c.loop.output).written
    (g.O.Sink.output c.answer_all.new.output).written)) (ap (λ (s : Stream). s.rest) c.in-Ok.ensures.ok.1
    ∙ ap (λ p. c.loop.decoder.rest ++ p) c.as_slice.ensures.value) (rw c.in-Left.is at
    c.in_ok-client-in-Take-Bytes.ensures.ok))) (is_done left _, refl)

pub loop-preserved : goal.loop-preserved
loop-preserved g c =
    let came : (c.next_turn.new.responder ≡ c.loop.responder) × Comes (g.P.Pace.busy c.next_turn.new.responder)
    g.P.Pace.gives g.P.Pace.polls c.loop.inbox (Bytes c.in-Take-Bytes.bytes.items) c.next_turn.new.inbox =
    rw (c.in-Take-Bytes.is, c.in-Take-Bytes.field-0-is) at c.in_ok-events.ensures.ok in
    let working = working_same _ _ _ _ _ _ _ _ _ _ _ _ _ _ c.loop.invariant.working came.0 in
    let now = state c.answer_all.new.responder c.answer_all.new.next true in
    record {
      origin = c.answer_all.ensures.origin
          ∙ c.next_turn.ensures.origin
          ∙ c.loop.invariant.origin;
      sound = c.in_ok-client-in-Take-Bytes.ensures.sound;
      is_open = c.in_ok-client-in-Take-Bytes.ensures.open c.in-Stays.is;
      outputs = c.in_ok-client-in-Take-Bytes.ensures.count
          ∙ c.loop.invariant.outputs;
      working = working_bytes _ _ _ _ _ _ _ now _ _ _ _ _ _ _ _ _ working came.1 refl
          c.loop.invariant.is_open (rw (← (ap (λ (s : Stream). s.rest) c.in-Ok.ensures.ok.1 ∙ ap (λ p.
          c.loop.decoder.rest ++
          p) c.as_slice.ensures.value)) (rw c.in-Stays.is at c.in_ok-client-in-Take-Bytes.ensures.ok));
    }

pub returns-in-Take-End-clause-served : goal.returns-in-Take-End-clause-served
returns-in-Take-End-clause-served g c =
    let came : (c.next_turn.new.responder ≡ c.loop.responder) × Comes (g.P.Pace.busy c.next_turn.new.responder)
    g.P.Pace.gives g.P.Pace.polls c.loop.inbox End c.next_turn.new.inbox =
    rw (c.in-Take-End.is, c.in-Take-End.field-0-is) at c.in_ok-events.ensures.ok in
    let working = working_same _ _ _ _ _ _ _ _ _ _ _ _ _ _ c.loop.invariant.working came.0 in
    let here = state c.next_turn.new.responder c.loop.next true in
    worker_ended_by _ _ _ _ _ _ _ here _ _ _ _ End _ _ _ _ working came.1 refl c.loop.invariant.is_open (
      ap Ok c.input_end.ensures,
      is_done here _,
    )

pub returns-in-Take-Failed-clause-served : goal.returns-in-Take-Failed-clause-served
returns-in-Take-Failed-clause-served g c =
    let came : (c.next_turn.new.responder ≡ c.loop.responder) × Comes (g.P.Pace.busy c.next_turn.new.responder)
    g.P.Pace.gives g.P.Pace.polls c.loop.inbox Failed c.next_turn.new.inbox =
    rw (c.in-Take-Failed.is, c.in-Take-Failed.field-0-is) at c.in_ok-events.ensures.ok in
    let working = working_same _ _ _ _ _ _ _ _ _ _ _ _ _ _ c.loop.invariant.working came.0 in
    let here = state c.next_turn.new.responder c.loop.next true in
    worker_ended_by _ _ _ _ _ _ _ here _ _ _ _ Failed _ _ _ _ working came.1 refl c.loop.invariant.is_open (
      refl,
      is_done here _,
    )

pub returns-in-Take-NoMemory-clause-served : goal.returns-in-Take-NoMemory-clause-served
returns-in-Take-NoMemory-clause-served g c =
    let came : (c.next_turn.new.responder ≡ c.loop.responder) × Comes (g.P.Pace.busy c.next_turn.new.responder)
    g.P.Pace.gives g.P.Pace.polls c.loop.inbox NoMemory c.next_turn.new.inbox =
    rw (c.in-Take-NoMemory.is, c.in-Take-NoMemory.field-0-is) at c.in_ok-events.ensures.ok in
    let working = working_same _ _ _ _ _ _ _ _ _ _ _ _ _ _ c.loop.invariant.working came.0 in
    let here = state c.next_turn.new.responder c.loop.next true in
    worker_ended_by _ g.P.Pace.works g.P.Pace.busy g.P.Pace.gives g.P.Pace.polls _ _ here c.loop.decoder.rest
    c.args.inbox.now c.loop.inbox _ NoMemory _ _ _ _ working came.1 refl c.loop.invariant.is_open (refl, is_done here _)

pub next_turn-requires-clause-waits : goal.next_turn-requires-clause-waits
next_turn-requires-clause-waits g c idle =
    c.requires.waits c.loop.inbox c.loop.output (
      record {
        reached = state c.loop.responder c.loop.next true;
        rest = c.loop.decoder.rest;
        working = c.loop.invariant.working;
        there = refl;
        is_open = c.loop.invariant.is_open;
      },
      idle,
    )

pub next_turn-requires-clause-looks : goal.next_turn-requires-clause-looks
next_turn-requires-clause-looks g c busy =
    c.requires.looks c.loop.inbox c.loop.output (record {
      reached = state c.loop.responder c.loop.next true;
      rest = c.loop.decoder.rest;
      working = c.loop.invariant.working;
      there = refl;
      is_open = c.loop.invariant.is_open;
    })
