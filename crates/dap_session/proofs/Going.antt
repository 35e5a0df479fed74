-- How far a session came, seen from an earlier history.
use Rattle.std.proofs.Common.{◌≡◌, inl, inr, None, Result, Ok, Err, refl, sym, ◌∙◌}
use Rattle.dap_msg.specs.declared.request.Dialect.{Dialect}
use Rattle.dap_history.specs.declared.fault.SessionFault.{SessionFault}
use Rattle.dap_history.specs.declared.fault.SessionFault.TheVariants.{NoMemory}
use Rattle.dap_history.specs.History.{Item, History}
use Rattle.dap_history.specs.Emission.{IsAfter}
use Rattle.dap_history.specs.Events.{Rest, IsTaking}
use Rattle.dap_session.specs.Ports.{Ports}
use Rattle.dap_session.specs.Sending.{Sends, RefusesNothing}
use Rattle.dap_session.specs.State.{State, GoesOn}
use Rattle.dap_session.specs.Handling.{FailsAtItem, Arrives, StopsOnTheWay, Goes}
use Rattle.dap_session.proofs.Items.{refuses_none}
use Rattle.dap_session.proofs.Joining.{refuses_both, sends_both, sends_nothing}

-- what was sent before is sent as well
pub goes_after : (f : Dialect) (result : Result (Unit {0}) SessionFault) (L M : History → Rest → Type 0)
    (T U : History → Type 0)
    (past mid : History) (session : State) (old between later : Ports)
    → Sends past mid old between → RefusesNothing old between
    → ((new : History) (rest : Rest) → L new rest → M new rest) → ((new : History) → T new → U new)
    → Goes f result L T mid session between later → Goes f result M U past session old later
goes_after f (Ok u) L M T U past mid session old between later sends refuses leads toward goes =
    record {
      new = goes.new;
      rest = goes.rest;
      way = leads goes.new goes.rest goes.way;
      ending_is = goes.ending_is;
      goes_on = goes.goes_on;
      sends = sends_both past mid goes.new old between later sends goes.sends;
      refuses_nothing = refuses_both old between later refuses goes.refuses_nothing;
    }
goes_after f (Err fault) L M T U past mid session old between later sends refuses leads toward (inl stops) =
    inl (record {
      mid = stops.mid;
      way = toward stops.mid stops.way;
      between = stops.between;
      sent = sends_both past mid stops.mid old between stops.between sends stops.sent;
      refuses_nothing = refuses_both old between stops.between refuses stops.refuses_nothing;
      next = stops.next;
      next_is = elim stops.next_is [ inl same ↦ inl same | inr on ↦ inr (toward stops.next on.0, on.1) ];
      breaks = stops.breaks;
    })
goes_after f (Err fault) L M T U past mid session old between later sends refuses leads toward (inr ends) =
    inr (
      ends.0,
      ends.1,
      record {
        new = ends.2.new;
        rest = ends.2.rest;
        way = leads ends.2.new ends.2.rest ends.2.way;
        ending_is = ends.2.ending_is;
        sends = sends_both past mid ends.2.new old between later sends ends.2.sends;
        refuses_nothing = refuses_both old between later refuses ends.2.refuses_nothing;
      },
    )

-- an allocation failed before anything was sent
pub stops_at_once : (T : History → Type 0) (past : History) (old : Ports) → T past
    → StopsOnTheWay T past NoMemory old old
stops_at_once T past old here =
    record {
      mid = past;
      way = here;
      between = old;
      sent = sends_nothing past old;
      refuses_nothing = refuses_none old;
      next = past;
      next_is = inl refl;
      breaks = refl;
    }

-- the session gave up at the first item
pub stops_at_item : (T : History → Type 0) (fault : SessionFault) (past : History) (item : Item) (old later : Ports)
    → T past → ((new : History) → IsAfter past item new → T new)
    → FailsAtItem fault past item old later → StopsOnTheWay T past fault old later
stops_at_item T fault past item old later here toward fails =
    record {
      mid = past;
      way = here;
      between = old;
      sent = sends_nothing past old;
      refuses_nothing = refuses_none old;
      next = fails.next;
      next_is = elim fails.next_is [ inl same ↦ inl same | inr after ↦ inr (toward fails.next after, (item, after)) ];
      breaks = fails.breaks;
    }

-- nothing comes of the event
pub arrives_at_once : (f : Dialect) (L : History → Rest → Type 0) (past : History) (rest : Rest) (session : State)
    (old : Ports)
    → L past rest → session.ending ≡ None → IsTaking past → GoesOn f session past rest
    → Arrives f L past session old old
arrives_at_once f L past rest session old here open_ taking on =
    record {
      new = past;
      rest = rest;
      way = here;
      ending_is = open_ ∙ sym taking;
      goes_on = λ _. on;
      sends = sends_nothing past old;
      refuses_nothing = refuses_none old;
    }
