-- One item more, for a session at a history.
use Rattle.std.proofs.Common.{◌≡◌, inl, inr, ℕ, [], ◌∷◌, ◌++◌, Option, None, Some, Result, Ok, Err, refl, sym, ◌∙◌, ap, append-nil, add-zero, ◌+◌, length, arith}
use Rattle.std.specs.Prelude.{OnOk}
use Rattle.dap_msg.specs.declared.command.CommandName.{CommandName}
use Rattle.dap_msg.specs.declared.outgoing.Outgoing.{Outgoing}
use Rattle.dap_msg.specs.declared.outgoing.Outgoing.TheVariants.{Answer}
use Rattle.dap_history.specs.declared.fault.SessionFault.{SessionFault}
use Rattle.dap_history.specs.declared.fault.SessionFault.TheVariants.{NoMemory}
use Rattle.dap_history.specs.History.{Item, Content, Step, History, Effect, messages, messages_of, orders_of, next_seq}
use Rattle.dap_history.specs.Readings.{closing, ending_of}
use Rattle.dap_history.specs.Replies.{Reply}
use Rattle.dap_history.specs.ReadingLaws.{ReadingsGoOn}
use Rattle.dap_history.specs.Emission.{Causes}
use Rattle.dap_history.specs.Events.{IsTaking}
use Rattle.dap_history.proofs.Readings.{or_else-none}
use Rattle.dap_replies.specs.declared.phase.Phase.{Phase}
use Rattle.dap_replies.specs.Phases.{IsPhase, launch_of}
use Rattle.dap_replies.specs.declared.effect.Effect.{Effect as Done}
use Rattle.dap_replies.specs.declared.effect.Reply.{Reply as Given}
use Rattle.dap_replies.specs.Replied.{DoesEffect, GivesReply, step_of}
use Rattle.dap_replies.specs.Laws.{skipped, SkippingKeepsThePhase}
use Rattle.dap_session.specs.Ports.{Ports}
use Rattle.dap_session.specs.Sending.{Sends, RefusesNothing, BreaksOff}
use Rattle.dap_session.specs.State.{State, Knows}
use Rattle.dap_session.specs.Steps.{IsStepOf, IsSent}
use Rattle.dap_session.specs.Handling.{TakesItem, FailsAtItem, HandlesItem}
use Rattle.std.proofs.lemmas.Grind.{common_steps}

-- an item that is taken ends the session as it says
pub ending_after : ReadingsGoOn → (past : History) (step : Step) → IsTaking past
    → ending_of (past ++ step ∷ []) ≡ closing step.item
ending_after laws past step taking = cc (laws.ending_is past step, or_else-none (closing step.item))

pub refuses_none : (old : Ports) → RefusesNothing old old
refuses_none old = record { writer = refl; runner = refl; full = refl }

-- the step was sent
pub record WasSent (past : History) (step : Step) (session : State) (old later : Ports) : Type 0 where
  pub sends : Sends past (past ++ step ∷ []) old later
  pub refuses_nothing : RefusesNothing old later
  pub seq_is : session.next_seq ≡ next_seq (past ++ step ∷ [])

-- the session after a step
pub record HasGoneOn (past : History) (step : Step) (session : State) : Type 0 where
  pub ending_is : session.ending ≡ closing step.item
  pub phase_is : IsPhase session.phase (past ++ step ∷ [])
  pub free : launch_of session.phase ≡ None

pub takes_item : ReadingsGoOn → (past : History) (step : Step) (session : State) (old later : Ports) → IsTaking past
    → Causes past step.item step
    → HasGoneOn past step session → WasSent past step session old later
    → TakesItem past step.item session old later
takes_item laws past step session old later taking causes on was = grind (arith, common_steps, ending_after)

pub fails_at_step : (fault : SessionFault) (past : History) (step : Step) (old later : Ports)
    → Causes past step.item step → BreaksOff fault past (past ++ step ∷ []) old later
    → FailsAtItem fault past step.item old later
fails_at_step fault past step old later causes breaks =
    record {
      next = past ++ step ∷ [];
      next_is = inr (record { step = step; item_is = refl; causes = causes; new_is = refl });
      breaks = breaks;
    }

-- an allocation failed before anything was sent
pub fails_before : (past : History) (item : Item) (old : Ports) → FailsAtItem NoMemory past item old old
fails_before past item old = record { next = past; next_is = inl refl; breaks = refl }

-- a step of an item with this answer and this effect is what is sent
pub is_step : (item : Item) (said answer : Option Outgoing) (effect : Effect) (done : Done) → said ≡ answer
    → DoesEffect done effect → IsStepOf said done (step_of item answer effect)
is_step item said answer effect done same does = grind (arith, common_steps)

-- a step that says and orders nothing
pub sends_silent : ReadingsGoOn → (past : History) (step : Step) → messages step ≡ [] → step.effect.orders ≡ []
    → (old : Ports) → Sends past (past ++ step ∷ []) old old
sends_silent laws past step quiet still old = record {
  messages = [];
  orders = [];
  adds = record {
    messages_are = laws.messages_are past step ∙ ap (λ l. messages_of past ++ l) quiet;
    orders_are = laws.orders_are past step ∙ ap (λ l. orders_of past ++ l) still;
  };
  frames_are = sym (append-nil old.frames);
  orders_are = sym (append-nil old.orders);
  seqs_fit =
      λ fits. let next = laws.next_seq_is past step ∙ ap (λ ms. next_seq past + length ms) quiet in omega
      (arith, next, fits);
}

-- ---- a content that is no request

pub skips : ReadingsGoOn → SkippingKeepsThePhase → (past : History) (session : State) (old : Ports) → IsTaking past
    → session.ending ≡ None → launch_of session.phase ≡ None → Knows session past
    → TakesItem past (Content None) session old old
skips laws keeps past session old taking open_ free knows =
    takes_item laws past skipped session old old taking (record { answer_is = refl; effect_is = refl })
    (record { ending_is = open_; phase_is = keeps past session.phase knows.phase_is; free = free })
    (record {
      sends = sends_silent laws past skipped refl refl old;
      refuses_nothing = refuses_none old;
      seq_is = knows.seq_is ∙ sym (laws.next_seq_is past skipped ∙ add-zero (next_seq past));
    })

-- ---- what is sent of a reply

pub is_answer_step : (item : Item) (seq : ℕ) (said name : CommandName) (given : Given) (reply : Reply) → said ≡ name
    → GivesReply given reply
    → IsStepOf (Some (Answer seq said given.result)) given.effect
    (step_of item (Some (Answer seq name reply.result)) reply.effect)
is_answer_step item seq said name given reply named gives = is_step item _ _ _ _ (cc gives.result_is) gives.effect_is

-- a step that ends nothing was sent, or broken off
pub sends_item : ReadingsGoOn → (result : Result (Unit {0}) SessionFault) (past : History) (step : Step)
    (session : State) (phase : Phase) (old later : Ports) → IsTaking past → Causes past step.item step
    → closing step.item ≡ None
    → session.ending ≡ None → IsPhase phase (past ++ step ∷ [])
    → OnOk result ((h : History) → IsPhase phase h → IsPhase session.phase h)
    → OnOk result (launch_of session.phase ≡ None) → IsSent result past step session old later
    → HandlesItem result past step.item session old later
sends_item laws (Ok u) past step session phase old later taking causes on open_ is keeps free sent =
    takes_item laws past step session old later taking causes
    (record {
      ending_is = open_ ∙ sym on;
      phase_is = keeps (past ++ step ∷ []) is;
      free = free;
    })
    (record { sends = sent.0; refuses_nothing = sent.1; seq_is = sent.2 })
sends_item laws (Err fault) past step session phase old later taking causes on open_ is keeps free sent =
    fails_at_step fault past step old later causes sent
