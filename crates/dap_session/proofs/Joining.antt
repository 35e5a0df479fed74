-- Sending, one part after another.
use Rattle.std.proofs.Common.{◌≡◌, ℕ, ◌+◌, List, [], ◌∷◌, ◌++◌, length, sym, ◌∙◌, ap, arith, append_assoc, append-nil, length-append}
use Rattle.dap_msg.specs.declared.outgoing.Outgoing.{Outgoing}
use Rattle.dbg_runner.specs.Plain.{PlainOrder}
use Rattle.dap_history.specs.History.{History, messages_of, orders_of, next_seq}
use Rattle.dap_history.specs.Output.{frames_from}
use Rattle.dap_session.specs.Ports.{Ports}
use Rattle.dap_session.specs.Sending.{AddsToHistory, Sends, RefusesNothing}
use Rattle.std.proofs.lemmas.Grind.{common_steps}

pub frames_from-append : (n : ℕ) (xs ys : List Outgoing) → frames_from n (xs ++ ys) ≡ frames_from n xs
    ++ frames_from (n + length xs) ys
frames_from-append n [] ys = ap (λ k. frames_from k ys) (omega arith)
frames_from-append n (x ∷ xs) ys = grind (arith, common_steps, frames_from-append (n + 1) xs ys)

pub adds_both : (a b c : History) (m n : List Outgoing) (o r : List PlainOrder) → AddsToHistory a b m o
    → AddsToHistory b c n r
    → AddsToHistory a c (m ++ n) (o ++ r)
adds_both a b c m n o r first next = grind (arith, common_steps, append_assoc)

pub next_seq_along : (a b : History) (m : List Outgoing) (o : List PlainOrder) → AddsToHistory a b m o
    → next_seq b ≡ next_seq a + length m
next_seq_along a b m o adds = grind (arith, common_steps, length-append)

pub sends_both : (a b c : History) (p q r : Ports) → Sends a b p q → Sends b c q r → Sends a c p r
sends_both a b c p q r first next =
    record {
      messages = first.messages ++ next.messages;
      orders = first.orders ++ next.orders;
      adds = adds_both a b c first.messages next.messages first.orders next.orders first.adds next.adds;
      frames_are =
          next.frames_are ∙ ap (λ l. l ++ frames_from (next_seq b) next.messages) first.frames_are
          ∙ append_assoc p.frames (frames_from (next_seq a) first.messages) (frames_from (next_seq b) next.messages)
          ∙ ap (λ n. p.frames ++ (frames_from (next_seq a) first.messages ++ frames_from n next.messages))
          (next_seq_along a b first.messages first.orders first.adds)
          ∙ ap (λ l. p.frames ++ l) (sym (frames_from-append (next_seq a) first.messages next.messages));
      orders_are =
          next.orders_are ∙ ap (λ l. l ++ next.orders) first.orders_are
          ∙ append_assoc p.orders first.orders next.orders;
      seqs_fit = λ fits. next.seqs_fit (first.seqs_fit fits);
    }

pub sends_nothing : (past : History) (old : Ports) → Sends past past old old
sends_nothing past old = record {
  messages = [];
  orders = [];
  adds = record { messages_are = sym (append-nil (messages_of past)); orders_are = sym (append-nil (orders_of past)) };
  frames_are = sym (append-nil old.frames);
  orders_are = sym (append-nil old.orders);
  seqs_fit = λ fits. fits;
}

pub refuses_both : (p q r : Ports) → RefusesNothing p q → RefusesNothing q r → RefusesNothing p r
refuses_both p q r first next = grind (arith, common_steps)
