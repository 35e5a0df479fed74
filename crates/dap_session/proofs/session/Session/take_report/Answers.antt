use Rattle.std.proofs.Common.{inl, inr, sym, ◌∙◌, ap, subst}
use Rattle.dbg_runner.specs.Reported.{plain_report}
use Rattle.dap_replies.specs.Phases.{IsPhase, launch_of}
use Rattle.dap_session.specs.Taking.{Expects}
use Rattle.dap_session.proofs.Reports.{report_passed, report_taken}
use Rattle.dap_session.proofs.session.Session.take_report.Goals as goal

pub returns-in_default-clause-comes : goal.returns-in_default-clause-comes
returns-in_default-clause-comes g c = λ f past rest taking on.
    report_passed f past rest (plain_report c.args.report) c.args.self.now c.take_run.new.self _
    c.in_default.ensures.same
    c.in_default.ensures.none c.requires taking on

pub returns-clause-comes : goal.returns-clause-comes
returns-clause-comes g c = λ f past rest taking on.
    let was = c.in-Some.ensures.found.0 in
    let rest_is = c.take_run.ensures.rest in
    report_taken f c.accept.result past rest c.in-Some.target c.in-Some.run' (plain_report c.args.report)
    c.args.self.now
    c.accept.new.self _ _
    (record { phase_was = was; expected = c.in-Some.ensures.found.1 })
    (c.accept.ensures.stream ∙ ap (λ s. s.stream) rest_is) taking on
    (c.accept.ensures.comes past taking (subst (λ p. IsPhase p past) was on.knows.phase_is)
    (ap (λ s. s.next_seq) rest_is ∙ on.knows.seq_is))

pub returns-in_default-clause-enough : goal.returns-in_default-clause-enough
returns-in_default-clause-enough g c = λ free other open_. ap (λ s. launch_of s.phase) c.in_default.ensures.same ∙ free

pub returns-clause-enough : goal.returns-clause-enough
returns-clause-enough g c = λ free other.
    let found = c.in-Some.ensures.found in
    elim other [
      | inl stranger ↦
          absurd (stranger (subst (λ p. Expects p (plain_report c.args.report)) (sym found.0) found.1))
      | inr quiet ↦ c.accept.ensures.enough quiet
    ]
