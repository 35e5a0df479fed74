use Rattle.std.proofs.Common.{◌≢◌, refl, inr, ◌∷◌, [], codes, arith}
use Rattle.std.specs.Prelude.{None}
use Rattle.std.specs.Fmt.{digits}
use Rattle.std.specs.Fmt.Cut.{cut_to}
use Rattle.json.specs.Print.{escape_byte}
use Rattle.std.proofs.lemmas.List.Elements.{All-cons, All-nil}
use Rattle.dap_bodies.specs.Events.{output, stopped}
use Rattle.dap_server.specs.Messages.{PlainEvent}
use Rattle.dap_debug.specs.Breakpoints.{Lacks}
use Rattle.dap_debug.proofs.Texts.{zero_in_front}
use Rattle.dap_debug.proofs.laws.worked_debugger.Goals as goal

pub returns-clause-commands : goal.returns-clause-commands
returns-clause-commands c = refl

pub returns-clause-modes : goal.returns-clause-modes
returns-clause-modes c = refl

pub returns-clause-texts : goal.returns-clause-texts
unfolding digits escape_byte cut_to
returns-clause-texts c = (
  printed ∷ logged ∷ [],
  (
    printed ∷ logged ∷ [],
    (
      printed ∷ [],
      logged ∷ [],
      (codes "12" ∷ [], (refl, omega arith), refl),
      (logged ∷ [], [], (codes "n" ∷ [], (refl, omega arith), refl), refl, refl),
      refl,
    ),
    refl,
  ),
  refl,
)
  where
    printed : PlainEvent
    printed = output (codes "stdout") (codes "12")

    logged : PlainEvent
    logged = output (codes "console") (codes "n")

pub returns-clause-halts : goal.returns-clause-halts
unfolding digits escape_byte cut_to
returns-clause-halts c = refl

pub returns-clause-entry : goal.returns-clause-entry
unfolding digits escape_byte
returns-clause-entry c =
    ((stopped (codes "entry") None, refl, (refl, refl)), λ events stands goes. (rw goes.0 refl, goes.1))

pub returns-clause-pause : goal.returns-clause-pause
unfolding digits escape_byte
returns-clause-pause c =
    ((stopped (codes "pause") None, refl, (refl, refl)), λ reply stands paused. (rw paused.0 refl, paused.1))

pub returns-clause-end : goal.returns-clause-end
unfolding digits escape_byte
returns-clause-end c = refl

pub returns-clause-capabilities : goal.returns-clause-capabilities
unfolding digits escape_byte
returns-clause-capabilities c = refl

pub returns-clause-announced : goal.returns-clause-announced
returns-clause-announced c = refl

pub returns-clause-rules : goal.returns-clause-rules
unfolding digits
returns-clause-rules c = (
  refl,
  (refl, (omega arith, omega arith)),
  (refl, (omega arith, omega arith)),
  (refl, (omega arith, omega arith)),
  zero_in_front (51 ∷ []),
)

pub returns-clause-numbered : goal.returns-clause-numbered
returns-clause-numbered c = (refl, refl, refl, refl)

pub returns-clause-found : goal.returns-clause-found
returns-clause-found c = (refl, refl, refl, refl)

pub returns-clause-messages : goal.returns-clause-messages
returns-clause-messages c =
    ((codes "{m", (refl, before, inner), (refl, refl, inr ([], codes "m", refl, All-nil (λ b. b ≢ 123), last))), refl)
  where
    before : Lacks 123 (codes "a")
    before = All-cons (λ b. b ≢ 123) 97 [] (λ is. absurd (omega (arith, is))) (All-nil (λ b. b ≢ 123))

    inner : Lacks 125 (codes "n")
    inner = All-cons (λ b. b ≢ 125) 110 [] (λ is. absurd (omega (arith, is))) (All-nil (λ b. b ≢ 125))

    last : Lacks 125 (codes "m")
    last = All-cons (λ b. b ≢ 125) 109 [] (λ is. absurd (omega (arith, is))) (All-nil (λ b. b ≢ 125))
