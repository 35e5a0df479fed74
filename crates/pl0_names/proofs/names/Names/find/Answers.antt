use Rattle.pl0_names.proofs.Common.{AreNestings, arith, blocks, plain_block}
use Rattle.pl0_names.proofs.Outward.{in_table, levels_few, found_here, found_nowhere, walk_on}
use Rattle.pl0_names.proofs.names.Names.find.Goals as goal
use Rattle.pl0_names.proofs.names.Names.find.Goals.{After-declared}
use Rattle.std.proofs.lemmas.Grind.{common_steps}

nested : (c : After-declared) → AreNestings (plain_block c.args.self.now) c.self.inside.nestings.now
    (blocks (plain_block c.args.self.now))
nested c = grind (arith, common_steps)

pub block-block-requires-clause-within : goal.block-block-requires-clause-within
block-block-requires-clause-within c =
    in_table _ c.self.inside.nestings.now (nested (goal.at.block-block-requires-clause-within c).After-declared)
    c.args.word.now c.args.number c.loop-meaning.around c.loop-meaning.level c.requires c.loop-meaning.invariant

pub bounds-self-inside-around : goal.bounds-self-inside-around
bounds-self-inside-around c =
    in_table _ c.self.inside.nestings.now (nested (goal.at.bounds-self-inside-around c).After-declared) c.args.word.now
    c.args.number c.loop-meaning.around c.loop-meaning.level c.requires c.loop-meaning.invariant

pub returns-in-Some : goal.returns-in-Some
returns-in-Some c =
    found_here _ c.self.inside.nestings.now (nested (goal.at.returns-in-Some c).After-declared) c.args.word.now
    c.args.number c.loop-meaning.around c.loop-meaning.level c.requires c.loop-meaning.invariant c.block-block.result
    c.in-Some.meaning (rw (← c.self.view_is) c.block-block.ensures) c.in-Some.ensures

pub returns-in_err-nesting : goal.returns-in_err-nesting
returns-in_err-nesting c =
    λ q begins. rw c.from_residual.ensures (found_nowhere (plain_block c.args.self.now) c.self.inside.nestings.now
    (nested (goal.at.returns-in_err-nesting c).After-declared) c.args.word.now c.args.number c.loop-meaning.around
    c.loop-meaning.level c.requires c.loop-meaning.invariant c.in_default.ensures c.in_err-nesting.was q begins)

pub overflow_add-level : goal.overflow_add-level
overflow_add-level c =
    omega (
      arith,
      levels_few _ c.self.inside.nestings.now (nested (goal.at.overflow_add-level c).After-declared)
          c.args.word.now c.args.number c.loop-meaning.around c.loop-meaning.level c.requires c.loop-meaning.invariant,
    )

pub loop-meaning-smaller : goal.loop-meaning-smaller
loop-meaning-smaller c =
    (walk_on _ c.self.inside.nestings.now (nested (goal.at.loop-meaning-smaller c).After-declared) c.args.word.now
    c.args.number c.loop-meaning.around c.loop-meaning.level c.requires c.loop-meaning.invariant c.in_ok-nesting.nesting
    c.in_default.ensures c.in_ok-nesting.was).1

pub loop-meaning-preserved : goal.loop-meaning-preserved
loop-meaning-preserved c =
    (walk_on _ c.self.inside.nestings.now (nested (goal.at.loop-meaning-preserved c).After-declared) c.args.word.now
    c.args.number c.loop-meaning.around c.loop-meaning.level c.requires c.loop-meaning.invariant c.in_ok-nesting.nesting
    c.in_default.ensures c.in_ok-nesting.was).0
