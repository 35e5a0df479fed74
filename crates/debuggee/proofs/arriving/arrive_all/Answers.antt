use Rattle.std.proofs.Common.{◌<◌, rules, map, length, get_or, arith}
use Rattle.std.proofs.Math.ListN.{get_or-map}
use Rattle.std.proofs.lemmas.List.{length-map, map-set, get_or_default}
use Rattle.debuggee.specs.Plain.{plain_breakpoint}
use Rattle.debuggee.proofs.Counting.{through_more}
use Rattle.debuggee.proofs.arriving.arrive_all.Goals as goal

pub loop-breakpoint-preserved : goal.loop-breakpoint-preserved
loop-breakpoint-preserved g c =
    let see = g.D.Debuggee.sees in
    let s = c.args.debuggee.now in
    let first = c.deref_mut-breakpoint-items.result.now in
    let items = c.loop-breakpoint.breakpoint-items in
    let xs = map plain_breakpoint first in
    let ys = map plain_breakpoint items in
    let i = c.loop-breakpoint.breakpoint-index in
    let item = get_or items i c.breakpoint-item.result in
    let there : i < length first = search rules in
    let within : i < length items = search rules in
    let inside : i < length xs = omega (arith, length-map first plain_breakpoint, there) in
    rw (map-set plain_breakpoint items i c.arrive_at.new.breakpoint) (through_more see s xs i inside
    c.loop-breakpoint.stops c.in_ok-here.here ys _ _ _ _ _ c.loop-breakpoint.invariant
    (cc (get_or_default items i c.breakpoint-item.result item within, get_or-map plain_breakpoint items i item))
    c.in_ok-here.ensures)
