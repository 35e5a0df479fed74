-- How a session closes when its input ends.
use Rattle.std.proofs.Common.{◌≡◌, inl, inr, [], ◌∷◌, ◌++◌, None, Some, Result, Ok, Err, refl, sym, ◌∙◌, subst, append-nil, arith}
use Rattle.std.specs.Prelude.{OnOk}
use Rattle.dbg_runner.specs.Plain.{Quit}
use Rattle.dap_msg.specs.declared.request.Dialect.{Dialect}
use Rattle.dap_history.specs.declared.ending.Closed.{Closed}
use Rattle.dap_history.specs.declared.ending.Ending.TheVariants as ending
use Rattle.dap_history.specs.declared.fault.SessionFault.{SessionFault}
use Rattle.dap_history.specs.History.{Item, Step, History}
use Rattle.dap_history.specs.Readings.{closing}
use Rattle.dap_history.specs.ReadingLaws.{ReadingsGoOn}
use Rattle.dap_history.specs.Replies.{only_orders}
use Rattle.dap_history.specs.Emission.{IsAfter}
use Rattle.dap_history.specs.Events.{Incoming, Rest, IsTaking, LeadsByEvent}
use Rattle.dap_session.specs.Ports.{Written, PushedOrders, ports}
use Rattle.dap_session.specs.Building.{IsNotPushed}
use Rattle.dap_session.specs.State.{State}
use Rattle.dap_session.specs.Taking.{Toward}
use Rattle.dap_session.specs.Handling.{PushesQuit, NeededNoMemory, Handles}
use Rattle.dap_session.proofs.Building.{adds_step, breaks_at_push}
use Rattle.dap_session.proofs.Items.{ending_after, refuses_none}
use Rattle.dap_session.proofs.Joining.{sends_nothing}

-- the step of an item that ends the input
abbrev pub closing_step : Item → Step
closing_step item = record { item = item; answer = None; effect = only_orders (Quit ∷ []) }

-- an event that ends the input
pub record EndsInput (f : Dialect) (past : History) (rest : Rest) (event : Incoming) (item : Item) (closed : Closed)
    : Type 0 where
  pub closing_is : closing item ≡ Some (ending.Closed closed)
  pub here : Toward f past rest event past
  pub toward : (new : History) → IsAfter past item new → Toward f past rest event new
  pub leads : (new : History) → IsAfter past item new → LeadsByEvent f past rest event new rest

-- closing fails by the port alone
pub close_needs_none : (result : Result (Unit {0}) SessionFault) (closed : Closed) (last : State)
    (old later : PushedOrders)
    → PushesQuit result old later → OnOk result (last.ending ≡ Some (ending.Closed closed)) → NeededNoMemory result last
close_needs_none (Ok u) closed last old later quits ended = λ open_. absurd (let e = sym ended ∙ open_ in cc)
close_needs_none (Err fault) closed last old later quits ended = λ lost. subst (λ f. IsNotPushed f old later) lost quits

pub closes : ReadingsGoOn → (f : Dialect) (result : Result (Unit {0}) SessionFault) (past : History) (rest : Rest)
    (event : Incoming)
    (item : Item) (closed : Closed) (last : State) (out : Written) (old later : PushedOrders) → IsTaking past
    → EndsInput f past rest event item closed → IsAfter past item (past ++ closing_step item ∷ [])
    → PushesQuit result old later → OnOk result (last.ending ≡ Some (ending.Closed closed))
    → Handles f result past rest event last (ports out old) (ports out later)
closes laws f (Ok u) past rest event item closed last out old later taking ends after quits ended =
    let new = past ++ closing_step item ∷ [] in
    let ending_is = ended ∙ sym ends.closing_is ∙ sym (ending_after laws past (closing_step item) taking) in
    record {
      new = new;
      rest = rest;
      way = ends.leads new after;
      ending_is = ending_is;
      goes_on = λ still. absurd (let e : Some (ending.Closed closed) ≡ None = sym ended ∙ ending_is ∙ still in cc);
      sends = record {
        messages = [];
        orders = Quit ∷ [];
        adds = adds_step laws past (closing_step item);
        frames_are = sym (append-nil out.frames);
        orders_are = quits.0;
        seqs_fit = λ fits. let next = laws.next_seq_is past (closing_step item) in omega (arith, next, fits);
      };
      refuses_nothing = record { writer = refl; runner = quits.2; full = quits.1 };
    }
closes laws f (Err fault) past rest event item closed last out old later taking ends after quits ended =
    let new = past ++ closing_step item ∷ [] in
    inl (record {
      mid = past;
      way = ends.here;
      between = ports out old;
      sent = sends_nothing past (ports out old);
      refuses_nothing = refuses_none (ports out old);
      next = new;
      next_is = inr (ends.toward new after, (item, after));
      breaks = breaks_at_push fault past new [] (Quit ∷ []) out old later (adds_step laws past (closing_step item))
          quits;
    })
