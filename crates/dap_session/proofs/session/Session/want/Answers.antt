use Rattle.std.proofs.Common.{◌≡◌, None, sym, ◌∙◌, ap, arith}
use Rattle.std.proofs.lemmas.Grind.{common_steps}
use Rattle.dap_session.proofs.Standing.{wants_file}
use Rattle.dap_session.proofs.session.Session.want.Goals as goal

pub returns-in-Ok-clause-ok : goal.returns-in-Ok-clause-ok
returns-in-Ok-clause-ok c =
    let open_ : c.args.self.now.ending ≡ None = grind (arith, common_steps) in
    let launching = sym (ap (λ s. s.phase) c.self.view_is) ∙ c.in-Launching.is in
    wants_file c.args.self.now c.in-Ok.path c.in-Launching.field-0 c.in-Launching.launch open_ launching
    (c.in-Ok.ensures.ok ∙ c.as_str.ensures)
