-- A message's value says what it is.
use Rattle.dap_msg.proofs.Common.{[], SaysFrame, SaysScope, SaysShown, SaysVariable, shown_data, append_assoc, body_data, breakpoint, breakpoint_refusal_text, Data, Err, items_of, List, map, name_text, None, Ok, Option, refl, refusal_text, scope, Some, stack_frame, StackFrame, success_value, value_of, Variable, variable, ℕ, ◌∷◌}
use Rattle.dap_msg.specs.Members.{SayEach}
use Rattle.dap_msg.specs.Said.{SaysRefusal, SaysUnset, SaysBreakpoint, SaysBody, Says}
use Rattle.dap_msg.specs.declared.command.CommandName.{CommandName}
use Rattle.dap_msg.specs.declared.outgoing.Outgoing.{Outgoing}
use Rattle.dap_msg.specs.declared.outgoing.Outgoing.TheVariants.{Answer, Event}
use Rattle.dap_msg.specs.declared.outgoing.Body.{Body}
use Rattle.dap_msg.specs.declared.outgoing.Body.TheVariants as body
use Rattle.dap_msg.specs.declared.outgoing.BreakpointAnswer.{BreakpointAnswer}
use Rattle.dap_msg.specs.declared.outgoing.BreakpointAnswer.TheVariants.{At, Unverified}
use Rattle.dap_msg.specs.declared.outgoing.BreakpointRefusal.{BreakpointRefusal}
use Rattle.dap_msg.specs.declared.outgoing.BreakpointRefusal.TheVariants as unset
use Rattle.dap_msg.specs.declared.outgoing.EventBody.TheVariants as event
use Rattle.dap_msg.specs.declared.outgoing.Exception.TheVariants as exception
use Rattle.dap_msg.specs.declared.outgoing.Refusal.{Refusal}
use Rattle.dap_msg.specs.declared.outgoing.Refusal.TheVariants as refusal
use Rattle.dap_msg.specs.declared.outgoing.Scope.{Scope}
use Rattle.dap_msg.specs.declared.outgoing.StopReason.TheVariants as reason
use Rattle.dap_msg.specs.declared.question.Shown.{Shown}
use Rattle.dap_msg.specs.declared.question.Shown.TheVariants as shown
use Rattle.std.proofs.Common.{arith}
use Rattle.std.proofs.lemmas.Grind.{common_steps}

-- ---- texts and lists

-- a line that names a case makes `_` stand for each other case
says_refusal : (why : Refusal) → SaysRefusal why (refusal_text why)
says_refusal (refusal.Syntax fault line column) = simp append_assoc
says_refusal _ = refl

says_unset : (why : BreakpointRefusal) → SaysUnset why (breakpoint_refusal_text why)
says_unset unset.OtherSource = refl
says_unset _ = refl

say_each : {A : Type 0} (f : A → Data) (Says : A → Data → Type 0) → ((x : A) → Says x (f x)) → (xs : List A)
    → SayEach Says xs (items_of (map f xs))
say_each f Says each [] = tt
say_each f Says each (x ∷ xs) = (each x, say_each f Says each xs)

-- ---- responses

says_breakpoint : (b : BreakpointAnswer) → SaysBreakpoint b (breakpoint b)
says_breakpoint (At line) = (refl, refl, refl)
says_breakpoint (Unverified why) = (refl, (breakpoint_refusal_text why, refl, says_unset why), refl)

says_frame : (path : List ℕ) (frame : StackFrame) → SaysFrame path frame (stack_frame path frame)
says_frame path frame = grind (arith, common_steps) steps 1500000

says_scope : (s : Scope) → SaysScope s (scope s)
says_scope s = record { name = refl; reference = refl; cheap = refl; no_more = refl }

says_variable : (v : Variable) → SaysVariable v (variable v)
says_variable v = record { name = refl; value = refl; no_parts = refl; no_more = refl }

says_shown : (b : Shown) → SaysShown b (Some (shown_data b))
says_shown (shown.StackTrace path frames total) =
    ((items_of (map _ frames), refl, say_each _ _ (says_frame path) frames), refl, refl)
says_shown (shown.Scopes scopes) =
    ((items_of (map scope scopes), refl, say_each scope SaysScope says_scope scopes), refl)
says_shown (shown.Variables variables) =
    ((items_of (map variable variables), refl, say_each variable SaysVariable says_variable variables), refl)
says_shown (shown.Value v) = (refl, refl, refl)

says_body : (b : Body) → SaysBody b (body_data b)
says_body body.None = refl
says_body body.Capabilities = grind (arith, common_steps) steps 1500000
says_body (body.Breakpoints answers) =
    ((items_of (map breakpoint answers), refl, say_each breakpoint SaysBreakpoint says_breakpoint answers), refl)
says_body body.Threads = ((_, refl, (refl, refl, refl)), refl)
says_body body.Continued = (refl, refl)
says_body (body.Shown b) = says_shown b

-- with a body or without one
says_success : (b : Body) (o : Option Data) (request_seq : ℕ) (command : CommandName) (seq : ℕ) → SaysBody b o
    → Says (Answer request_seq command (Ok b)) seq (success_value o request_seq (name_text command) seq)
says_success b None request_seq command seq said = (refl, refl, refl, refl, (refl, said, refl, refl))
says_success b (Some d) request_seq command seq said = (refl, refl, refl, refl, (refl, said, refl, refl))

-- ---- messages

pub says : (message : Outgoing) (seq : ℕ) → Says message seq (value_of message seq)
says (Answer request_seq command (Ok b)) seq = says_success b (body_data b) request_seq command seq (says_body b)
says (Answer request_seq command (Err r)) seq =
    (refl, refl, refl, refl, (refl, refl, (refusal_text r, refl, says_refusal r), refl))
says (Event event.Initialized) seq = (refl, refl, (refl, refl), refl)
says (Event (event.Stopped reason.Breakpoint)) seq = (refl, refl, (refl, ((refl, refl), refl, refl)), refl)
says (Event (event.Stopped reason.Step)) seq = (refl, refl, (refl, ((refl, refl), refl, refl)), refl)
says (Event (event.Stopped reason.Entry)) seq = (refl, refl, (refl, ((refl, refl), refl, refl)), refl)
says (Event (event.Stopped reason.Pause)) seq = (refl, refl, (refl, ((refl, refl), refl, refl)), refl)
says (Event (event.Output v)) seq = (refl, refl, (refl, (refl, refl, refl)), refl)
says (Event (event.Log text)) seq = (refl, refl, (refl, (refl, refl, refl)), refl)
says (Event (event.Exited code)) seq = (refl, refl, (refl, refl, refl), refl)
says (Event event.Terminated) seq = (refl, refl, (refl, refl), refl)
says (Event (event.Stopped (reason.Exception exception.Overflow))) seq = grind (arith, common_steps) steps 1500000
says (Event (event.Stopped (reason.Exception _))) seq = (refl, refl, (refl, ((refl, refl, refl), refl, refl)), refl)
