use Rattle.pl0_names.proofs.Common.{false, reverse, true, ◌∙◌}
use Rattle.pl0_names.proofs.Logs.{latest_first}
use Rattle.pl0_names.proofs.Tables.{has_index, cut_indexed, cut_outer, ends_level, ends_read, cut_nested, left_indexed, left_nested}
use Rattle.pl0_names.proofs.log.cut.Goals as goal

pub restore-requires : goal.restore-requires
restore-requires g c =
    let n = c.args.level in
    let e = c.in-Some.entry in
    let es = reverse c.pop.new.self.items in
    let es' = reverse c.loop-log.log.items in
    let is = latest_first _ e _ c.in-Some.ensures.items in
    let ends = ends_read n c.ends_at.result true c.deref.result.now _ c.ends_at.ensures c.deref.ensures.value
    c.loop-log-test.true in
    has_index n c.loop-log.index e es es' c.loop-log.invariant.indexed is (ends_level n e es es' is ends)

pub loop-log-preserved-in-Some : goal.loop-log-preserved-in-Some
loop-log-preserved-in-Some g c =
    let n = c.args.level in
    let e = c.in-Some.entry in
    let es = reverse c.pop.new.self.items in
    let es' = reverse c.loop-log.log.items in
    let is = latest_first _ e _ c.in-Some.ensures.items in
    let ends = ends_read n _ true _ _ c.ends_at.ensures c.deref.ensures.value c.loop-log-test.true in
    record {
      indexed = cut_indexed n _ _ e es es' c.loop-log.invariant.indexed is (ends_level n e es es' is ends)
          c.restore.ensures;
      nested = cut_nested _ e es es' is c.loop-log.invariant.nested;
      outer = cut_outer n e es es' is
          ends
          ∙ c.loop-log.invariant.outer;
    }

pub returns-clause-indexed : goal.returns-clause-indexed
returns-clause-indexed g c =
    let n = c.args.level in
    let es = reverse c.loop-log.log.items in
    let ended = ends_read n _ false _ _ c.ends_at.ensures c.deref.ensures.value c.loop-log-test.false in
    left_indexed n _ es (left_nested n es c.loop-log.invariant.nested ended) c.loop-log.invariant.indexed
