use Rattle.std.proofs.Common.{[], ◌∷◌, refl, rules, subst, sym, map}
use Rattle.std.specs.Prelude.{codes}
use Rattle.std.specs.Str.{IsUtf8}
use Rattle.debuggee.specs.Plain.{Text, plain_part}
use Rattle.dap_debug.specs.Breakpoints.{AreParts}
use Rattle.dap_debug.proofs.Texts.{read_on}
use Rattle.dap_debug.proofs.breakpoints.parts_of.Goals as goal

pub loop-before-preserved : goal.loop-before-preserved
loop-before-preserved c = (
  read_on c.args.message.now (map plain_part c.loop-before.parts.items) (map plain_part c.push_parts.new.parts.items)
      c.loop-before.rest.now c.in-Some.before.now c.in-Some.inner.now c.in-Some.later.now c.loop-before.invariant.0
      c.in-Some.ensures.some c.in_ok-push_parts.ensures,
  (let is : IsUtf8 c.in-Some.later.now = search rules in is),
)

pub returns : goal.returns
returns c =
    subst (AreParts c.args.message.now) (sym c.in_ok-push_end.ensures)
    (c.loop-before.invariant.0 (Text c.loop-before.rest.now ∷ (Text (codes "\n") ∷ []))
    (refl, refl, c.in_default.ensures.none))
