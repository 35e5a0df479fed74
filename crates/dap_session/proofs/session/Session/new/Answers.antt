use Rattle.std.proofs.Common.{[], refl, ap, rules}
use Rattle.dap_history.specs.Events.{only_bytes}
use Rattle.dap_session.proofs.session.Session.new.Goals as goal

pub returns : goal.returns
returns c = record {
  rest = only_bytes [];
  history = (refl, refl);
  ending_is = refl;
  goes_on = λ taking. record {
    knows = record { phase_is = record { situation_is = refl; keeps = search rules }; seq_is = refl };
    launch_is = refl;
    stream_is = ap (λ d. record { dialect = c.args.dialect; rest = d.rest; fault = d.fault }) c.new.ensures;
  };
}
