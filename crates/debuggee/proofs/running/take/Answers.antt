use Rattle.std.proofs.Common.{sym, subst, append-nil, [], ◌∷◌, ap, ◌∙◌, map, string_bytes}
use Rattle.std.proofs.lemmas.List.{map-append}
use Rattle.debuggee.specs.Plain.{Printed, plain_output, plain_step}
use Rattle.debuggee.specs.Runs.{Silently, Printing}
use Rattle.debuggee.proofs.running.take.Goals as goal

pub returns-in-Goes : goal.returns-in-Goes
returns-in-Goes g c = (
  [],
  Silently (subst (λ s. g.D.Debuggee.takes c.args.debuggee.now (plain_step s) c.step.new.self) c.in-Goes.is
      c.in_ok-step.ensures),
  sym (append-nil (map plain_output c.args.told.now.items)),
)

pub returns-in_ok-push-in-Prints : goal.returns-in_ok-push-in-Prints
returns-in_ok-push-in-Prints g c = (
  Printed (string_bytes c.in-Prints.text) ∷ [],
  Printing (string_bytes c.in-Prints.text)
      (subst (λ s. g.D.Debuggee.takes c.args.debuggee.now (plain_step s) c.step.new.self) c.in-Prints.is
      c.in_ok-step.ensures),
  ap (map plain_output) c.in_ok-push-in-Prints.ensures.items ∙ map-append plain_output c.args.told.now.items _,
)
