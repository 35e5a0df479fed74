use Rattle.std.proofs.Common.{◌++◌, ◌∷◌, [], ◌+◌, ◌∙◌, sym, ap, append_assoc}
use Rattle.std.proofs.lemmas.List.{length_push}
use Rattle.std.specs.Prelude.{string_bytes}
use Rattle.dap_debug.specs.Inspecting.{shown_scope}
use Rattle.dap_debug.proofs.Further.{one_scope}
use Rattle.dap_debug.proofs.inspecting.all_scopes.Goals as goal

pub loop-one-preserved : goal.loop-one-preserved
loop-one-preserved c = (
  tt,
  tt,
  one_scope c.args.frame c.loop-one.yielded c.in-Some.one _ _ _ c.in_ok-push.ensures.items c.loop-one.invariant.2
      (c.scope.ensures ∙ ap (λ n. shown_scope c.args.frame n (string_bytes c.in-Some.one)) c.loop-one.invariant.4),
  append_assoc c.loop-one.yielded (c.in-Some.one ∷ []) c.next.new.self.rest.items
      ∙ ap (λ l. c.loop-one.yielded ++ l) (sym c.in-Some.ensures.steps.0)
      ∙ c.loop-one.invariant.3,
  ap (λ n. n + 1) c.loop-one.invariant.4 ∙ sym (length_push c.loop-one.yielded c.in-Some.one),
)
