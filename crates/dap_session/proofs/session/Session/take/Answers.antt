use Rattle.std.proofs.Common.{sym, ◌∙◌, refl}
use Rattle.dap_session.specs.Incoming.{incoming_of}
use Rattle.dap_session.proofs.Standing.{takes_as, takes_of_fault, takes_of_want}
use Rattle.dap_session.proofs.session.Session.take.Goals.{in-Ok, in-Err}
use Rattle.dap_session.proofs.session.Session.take.Goals as goal

pub returns-in-Err-result-clause-takes : goal.returns-in-Err-result-clause-takes
returns-in-Err-result-clause-takes g c = λ open_.
    elim c.match-take_event.branch [
      | in-Ok w ↦
          let fails = sym w.result-is ∙ c.in-Err-result.is in
          takes_as c.args.self.now _ (incoming_of c.args.event) w.want-result.result _ _ _ fails
          (takes_of_want c.args.self.now c.take_event.new.self _ (incoming_of c.args.event)
          c.take_event.result w.want-result.result _ _ open_ c.take_event.ensures.handles w.in-Ok.is
          w.want-result.ensures.ok w.want-result.ensures.err w.want-result.ensures.waits
          (λ want is. absurd (let e = sym is ∙ fails in cc)))
      | in-Err w ↦
          takes_as c.args.self.now _ (incoming_of c.args.event) _ _ _ _ (sym w.result-is ∙ c.in-Err-result.is)
          (takes_of_fault c.args.self.now c.take_event.new.self _ (incoming_of c.args.event) c.take_event.result
          w.in-Err.fault _ _ open_ c.take_event.ensures.handles w.in-Err.is)
    ]

pub returns-in_default-clause-takes : goal.returns-in_default-clause-takes
returns-in_default-clause-takes g c = λ open_.
    elim c.match-take_event.branch [
      | in-Ok w ↦
          takes_as c.args.self.now _ (incoming_of c.args.event) w.want-result.result _ _ _ (sym w.result-is)
          (takes_of_want c.args.self.now c.take_event.new.self _ (incoming_of c.args.event)
          c.take_event.result w.want-result.result _ _ open_ c.take_event.ensures.handles w.in-Ok.is
          w.want-result.ensures.ok w.want-result.ensures.err w.want-result.ensures.waits (λ want is. refl))
      | in-Err w ↦ absurd (c.in_default.not-Err _ w.result-is)
    ]
