use Rattle.pl0_names.proofs.Common.{arith, nearest, refl, reverse, sym, ◌-◌, ◌∙◌, ◌≡◌}
use Rattle.std.proofs.lemmas.Result.{on_ok_weaker}
use Rattle.pl0_names.proofs.Logs.{declared_old, declared_new, not_declared}
use Rattle.pl0_names.proofs.open_blocks.OpenBlocks.declare.Goals as goal

pub returns-then-is_at-clause-ok : goal.returns-then-is_at-clause-ok
returns-then-is_at-clause-ok g c =
    let n = c.self.inside.depth in
    let es = reverse c.self.inside.log.items in
    let w = c.args.word.now in
    let kept : nearest n es w ≡ c.copied-hidden.result = cc (
      c.self.invariant.indexed.nearest_of w,
      c.get.ensures.value,
      c.copied-hidden.ensures,
    ) in
    rw (← c.self.view_is) (declared_old n (n - 1) es w c.args.meaning c.copied-hidden.result (omega arith) kept (sym
    c.is_at.ensures ∙ c.if-is_at.true))

pub returns-clause-ok : goal.returns-clause-ok
returns-clause-ok g c =
    let n = c.self.inside.depth in
    let es = reverse c.self.inside.log.items in
    let w = c.args.word.now in
    let kept : nearest n es w ≡ c.copied-hidden.result = cc (
      c.self.invariant.indexed.nearest_of w,
      c.get.ensures.value,
      c.copied-hidden.ensures,
    ) in
    let absent = not_declared n (n - 1) es w c.copied-hidden.result (omega arith) kept (sym c.is_at.ensures
    ∙ c.if-is_at.false) in
    on_ok_weaker c.put.result (λ is. cc (
      declared_new n (n - 1) (record {
        word = c.args.word;
        placed = record { level = n - 1; meaning = c.args.meaning };
        hidden = c.copied-hidden.result;
      }) es (reverse c.put.new.log.items) (omega arith) refl is absent,
      c.self.view_is,
    )) c.put.ensures.ok
