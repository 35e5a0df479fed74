use Rattle.std.proofs.Common.{arith, refl, ◌∙◌, ap, sym, ◌≡◌, ◌++◌, ◌∷◌}
use Rattle.std.proofs.lemmas.Grind.{common_steps}
use Rattle.dap_session.proofs.Building.{begins_all}
use Rattle.dap_session.specs.Building.{plain_frames}
use Rattle.dap_session.proofs.session.sending.put_front.Goals as goal

pub returns-then-is_err-clause-err : goal.returns-then-is_err-clause-err
returns-then-is_err-clause-err g c = record {
  fault_is = refl;
  put = plain_frames c.loop-frame.yielded;
  frames_are = grind (arith, common_steps);
  frame = c.in-Some.frame.items;
  refused_are = grind (arith, common_steps);
  begins =
      let steps : c.loop-frame.frame-iterator.rest.items ≡ c.in-Some.frame ∷ c.next.new.self.rest.items =
      c.in-Some.ensures.steps.0 in
      begins_all c.loop-frame.yielded c.in-Some.frame c.next.new.self.rest.items c.args.frames.items
      (ap (λ l. c.loop-frame.yielded ++ l) (sym steps) ∙ c.loop-frame.invariant.4);
}
