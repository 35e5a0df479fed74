-- Frames that were added one after another.
use Rattle.std.proofs.Common.{◌≡◌, ℕ, List, [], ◌∷◌, ◌++◌, map, refl, sym, ◌∙◌, ap, arith, append_assoc, append-nil, length-append, Vec, Global}
use Rattle.std.proofs.lemmas.List.{map-append}
use Rattle.dap_msg.specs.declared.outgoing.Outgoing.{Outgoing}
use Rattle.dap_msg.specs.declared.outgoing.Outgoing.TheVariants.{Event}
use Rattle.dap_msg.specs.declared.outgoing.EventBody.{EventBody}
use Rattle.dbg_runner.specs.Plain.{PlainOrder}
use Rattle.dap_history.specs.declared.fault.SessionFault.{SessionFault}
use Rattle.dap_history.specs.declared.fault.SessionFault.TheVariants.{Frame, NoMemory, SeqExhausted, OrdersFull, RunnerGone, WriterGone}
use Rattle.dap_history.specs.History.{Step, History, messages}
use Rattle.dap_history.specs.ReadingLaws.{ReadingsGoOn}
use Rattle.dap_session.specs.Building.{plain_frames, Built, AddsFrames, IsNotPushed}
use Rattle.dap_session.specs.Ports.{Written, PushedOrders, ports}
use Rattle.dap_session.specs.Sending.{IsPrefixOf, AddsToHistory, PushesSome, BreaksOff}
use Rattle.dap_session.proofs.Joining.{frames_from-append}
use Rattle.std.proofs.lemmas.Grind.{common_steps}

pub adds_both : (xs ys : List Outgoing) (a b c : Built) → AddsFrames xs a b → AddsFrames ys b c
    → AddsFrames (xs ++ ys) a c
adds_both xs ys a b c first then_ =
    grind (arith, common_steps, append_assoc, frames_from-append, length-append)

-- one more event
pub adds_event : (done : List EventBody) (event : EventBody) (a b c : Built) → AddsFrames (map Event done) a b
    → AddsFrames (Event event ∷ []) b c → AddsFrames (map Event (done ++ event ∷ [])) a c
adds_event done event a b c first then_ = rw (map-append Event done _) (adds_both _ _ a b c first then_)

-- frames that were put before one that was refused
pub begins_all : (put : List (Vec ℕ Global)) (frame : Vec ℕ Global) (rest all : List (Vec ℕ Global)) → put ++ frame
    ∷ rest ≡ all → IsPrefixOf (plain_frames put ++ frame.items ∷ []) (plain_frames all)
begins_all put frame rest all is = (
  plain_frames rest,
  append_assoc (plain_frames put) (frame.items ∷ []) (plain_frames rest)
      ∙ sym (map-append (λ frame. frame.items) put (frame ∷ rest)) ∙ ap plain_frames is,
)

pub adds_step : ReadingsGoOn → (past : History) (step : Step)
    → AddsToHistory past (past ++ step ∷ []) (messages step) step.effect.orders
adds_step readings past step = grind (arith, common_steps)

-- an order that was refused, seen from its step
pub pushes_none : (past new : History) (ms : List Outgoing) (os : List PlainOrder) (out : Written)
    (old later : PushedOrders)
    → AddsToHistory past new ms os → later.orders ≡ old.orders → PushesSome past new (ports out old) (ports out later)
pushes_none past new ms os out old later adds same =
    record {
      messages = ms;
      orders = os;
      adds = adds;
      frames_are = refl;
      refused_are = refl;
      pushed = [];
      orders_are = same ∙ sym (append-nil old.orders);
      begins = (os, refl);
    }

pub breaks_at_push : (fault : SessionFault) (past new : History) (ms : List Outgoing) (os : List PlainOrder)
    (out : Written) (old later : PushedOrders)
    → AddsToHistory past new ms os → IsNotPushed fault old later → BreaksOff fault past new (ports out old)
    (ports out later)
breaks_at_push (Frame k) past new ms os out old later adds refused = absurd refused
breaks_at_push NoMemory past new ms os out old later adds refused = absurd refused
breaks_at_push SeqExhausted past new ms os out old later adds refused = absurd refused
breaks_at_push OrdersFull past new ms os out old later adds refused =
    (pushes_none past new ms os out old later adds refused.0, refused.1)
breaks_at_push RunnerGone past new ms os out old later adds refused =
    (pushes_none past new ms os out old later adds refused.0, refused.1)
breaks_at_push WriterGone past new ms os out old later adds refused = absurd refused
