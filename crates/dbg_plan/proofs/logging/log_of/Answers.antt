use Rattle.std.proofs.Common.{◌≡◌, ◌-◌, ◌∙◌, ap, subst, map, length, get_or, arith}
use Rattle.std.proofs.lemmas.List.{take_all}
use Rattle.pl0_machine.specs.Machine.{program, frames}
use Rattle.pl0_meaning.specs.Values.{value}
use Rattle.dbg_plan.specs.Messages.{expressions, plain_parts}
use Rattle.dbg_plan.specs.Plans.{IsMessageBoundAt}
use Rattle.dbg_plan.proofs.LogValues.{reads_part, room_for, values_more, one_more_value, numbered_log, log_is}
use Rattle.dbg_plan.proofs.logging.log_of.Goals as goal

pub log_part-requires-clause-reads : goal.log_part-requires-clause-reads
log_part-requires-clause-reads c =
    let m = c.args.machine.now in
    let step = c.args.breakpoint.now.step in
    let parts = c.deref-part-items.ensures.value in
    let bound = subst (λ o. IsMessageBoundAt (program m) step o) c.requires.message c.requires.here.message in
    reads_part (program m) (frames m) step (c.depth-top.result - 1) c.depth-top.ensures.linked c.requires.here.next
    (ap (λ n. n - 1) c.depth-top.ensures.depth) c.args.message.now.parts.items bound
    c.loop-part.part-index c.part-item.result (omega (arith, c.loop-part-test.true, ap length parts))
    (subst (λ l. c.part-item.result ≡ get_or l c.loop-part.part-index c.part-item.result) parts c.part-item.is)

pub log_part-requires-clause-room : goal.log_part-requires-clause-room
log_part-requires-clause-room c =
    let m = c.args.machine.now in
    let parts = c.deref-part-items.ensures.value in
    let here = c.loop-part.invariant in
    let room =
    room_for (program m) (frames m) (c.depth-top.result - 1) c.args.message.now.parts.items c.loop-part.part-index
    c.part-item.result (omega (arith, c.loop-part-test.true, ap length parts))
    (subst (λ l. c.part-item.result ≡ get_or l c.loop-part.part-index c.part-item.result) parts c.part-item.is)
    c.args.message.now.few in
    omega (arith, ap (λ l. length l.values) here)

pub loop-part-preserved : goal.loop-part-preserved
loop-part-preserved c =
    let m = c.args.machine.now in
    let parts = c.deref-part-items.ensures.value in
    c.log_part.ensures
    ∙ one_more_value c.loop-part.log c.args.breakpoint.now.number _ _ _ c.loop-part.invariant
    (values_more (program m) (frames m) (c.depth-top.result - 1) c.args.message.now.parts.items
    c.loop-part.part-index c.part-item.result (omega (arith, c.loop-part-test.true, ap length parts))
    (subst (λ l. c.part-item.result ≡ get_or l c.loop-part.part-index c.part-item.result) parts c.part-item.is))

pub returns : goal.returns
returns c =
    let m = c.args.machine.now in
    let items = c.args.message.now.parts.items in
    let whole =
    take_all c.loop-part.part-index items
    (omega (arith, c.loop-part-test.false, ap length c.deref-part-items.ensures.value)) in
    log_is m c.args.breakpoint.now c.args.message.now (c.depth-top.result - 1) c.loop-part.log c.depth-top.ensures.there
    c.requires.message (ap (λ n. n - 1) c.depth-top.ensures.depth)
    (c.loop-part.invariant ∙ ap (λ l. numbered_log c.args.breakpoint.now.number
    (map (value (program m) (frames m) (c.depth-top.result - 1)) (expressions (plain_parts l)))) whole)
