use Rattle.std.proofs.Common.{◌∙◌, ◌++◌, ◌∷◌, [], ap, arith, rules, Some, None}
use Rattle.std.specs.Str.{IsUtf8}
use Rattle.std.proofs.lemmas.Str.Pattern.{split_parts}
use Rattle.pl0_tree.specs.Plain.{plain_expression}
use Rattle.pl0_tree.specs.Steps.{step_path}
use Rattle.pl0_machine.specs.Machine.{program_of}
use Rattle.dbg_plan.specs.declared.message.Part.TheVariants as part
use Rattle.dbg_plan.specs.Messages.{Text, plain_parts}
use Rattle.dbg_plan.proofs.MessageTexts.{lacks, read_on, read_all, ninth, not_closed, not_read, unless_read, one_appended, bound_one}
use Rattle.dbg_plan.proofs.messages.read_parts.Goals as goal

pub split_once-requires-text-self : goal.split_once-requires-text-self
split_once-requires-text-self c κs = c.loop-before.invariant.is_text

pub from_str-requires-text-s : goal.from_str-requires-text-s
from_str-requires-text-s c κs = c.loop-before.invariant.is_text

pub loop-before-preserved : goal.loop-before-preserved
loop-before-preserved c =
    let main = program_of c.args.unit.now in
    let q = step_path main c.args.step in
    let outer =
    split_parts 123 c.loop-before.rest.now (Some (c.in-Some.before, c.in-Some.after)) c.in-Some.ensures.cases
    (omega arith) in
    let closed =
    split_parts 125 c.in-Some.after.now (Some (c.in-Some-split_once.inner, c.in-Some-split_once.after))
    c.in-Some-split_once.ensures.cases (omega arith) in
    let few = c.loop-before.invariant.few in
    let other = c.if-values-eq-EXPRESSION_LIMIT.false in
    let e = c.in-Ok.expression in
    read_on main q c.args.text.now c.loop-before.values c.loop-before.parts.items c.push_value.new.parts.items
    c.loop-before.rest.now c.in-Some.before.now c.in-Some-split_once.inner.now c.in-Some-split_once.after.now
    c.in-Some.after.now (plain_expression e.expression) c.loop-before.invariant
    (omega (arith, few, other)) outer.0 (lacks 123 c.in-Some.before.now outer.1) closed.0
    (lacks 125 c.in-Some-split_once.inner.now closed.1) c.in-Ok.ensures.expression
    c.in_ok-push_value.ensures.parts (c.in_ok-push_value.ensures.bound main q c.loop-before.invariant.bound
    c.in-Ok.ensures.bound) (let is : IsUtf8 c.in-Some-split_once.after.now = search rules in is)

pub returns-then-values-eq-EXPRESSION_LIMIT-clause-bad : goal.returns-then-values-eq-EXPRESSION_LIMIT-clause-bad
returns-then-values-eq-EXPRESSION_LIMIT-clause-bad c =
    let main = program_of c.args.unit.now in
    let outer =
    split_parts 123 c.loop-before.rest.now (Some (c.in-Some.before, c.in-Some.after)) c.in-Some.ensures.cases
    (omega arith) in
    ninth main (step_path main c.args.step) c.args.text.now c.loop-before.values c.loop-before.parts.items
    c.loop-before.rest.now c.in-Some.before.now c.in-Some.after.now c.loop-before.invariant
    c.if-values-eq-EXPRESSION_LIMIT.true outer.0

pub returns-in_default-split_once-clause-bad : goal.returns-in_default-split_once-clause-bad
returns-in_default-split_once-clause-bad c =
    let main = program_of c.args.unit.now in
    let outer =
    split_parts 123 c.loop-before.rest.now (Some (c.in-Some.before, c.in-Some.after)) c.in-Some.ensures.cases
    (omega arith) in
    let none = split_parts 125 c.in-Some.after.now None c.in_default-split_once.ensures.cases (omega arith) in
    not_closed main (step_path main c.args.step) c.args.text.now c.loop-before.values c.loop-before.parts.items
    c.loop-before.rest.now c.in-Some.before.now c.in-Some.after.now c.loop-before.invariant outer.0
    (lacks 123 c.in-Some.before.now outer.1) (lacks 125 c.in-Some.after.now none)

pub returns-in-Err : goal.returns-in-Err
returns-in-Err c =
    let main = program_of c.args.unit.now in
    let q = step_path main c.args.step in
    let outer =
    split_parts 123 c.loop-before.rest.now (Some (c.in-Some.before, c.in-Some.after)) c.in-Some.ensures.cases
    (omega arith) in
    let closed =
    split_parts 125 c.in-Some.after.now (Some (c.in-Some-split_once.inner, c.in-Some-split_once.after))
    c.in-Some-split_once.ensures.cases (omega arith) in
    record {
      parts = tt;
      bound = tt;
      bad = unless_read c.in-Err.fault c.in-Err.ensures.bad
          (not_read main q c.args.text.now c.loop-before.values c.loop-before.parts.items c.loop-before.rest.now
          c.in-Some.before.now c.in-Some-split_once.inner.now c.in-Some-split_once.after.now c.in-Some.after.now
          c.loop-before.invariant outer.0 (lacks 123 c.in-Some.before.now outer.1) closed.0
          (lacks 125 c.in-Some-split_once.inner.now closed.1));
    }

pub returns-clause-parts : goal.returns-clause-parts
returns-clause-parts c =
    let main = program_of c.args.unit.now in
    let none = split_parts 123 c.loop-before.rest.now None c.in_default.ensures.cases (omega arith) in
    read_all main (step_path main c.args.step) c.args.text.now c.loop-before.values c.loop-before.parts.items
    c.push.new.self.items c.loop-before.rest.now c.loop-before.invariant (lacks 123 c.loop-before.rest.now none)
    (one_appended c.loop-before.parts.items c.push.new.self.items (part.Text c.in_ok-rest.rest)
    c.in_ok-push.ensures.items ∙ ap (λ t. plain_parts c.loop-before.parts.items ++ Text t ∷ [])
    c.in_ok-rest.ensures.ok)

pub returns-clause-bound : goal.returns-clause-bound
returns-clause-bound c =
    let main = program_of c.args.unit.now in
    bound_one main (step_path main c.args.step) c.loop-before.parts.items c.push.new.self.items
    (part.Text c.in_ok-rest.rest) c.in_ok-push.ensures.items c.loop-before.invariant.bound tt
