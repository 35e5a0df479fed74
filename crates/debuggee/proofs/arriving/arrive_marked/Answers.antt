use Rattle.std.proofs.Common.{◌≡◌, ◌<◌, ◌+◌, ◌%◌, ◌||◌, ◌∙◌, rules, refl, sym, map, length, get_or, slice_set, arith, false}
use Rattle.std.proofs.Math.ListN.{get_or-map}
use Rattle.std.proofs.lemmas.List.{length-map, length-set, map-set, get_or_default}
use Rattle.debuggee.specs.Plain.{PlainBreakpoint, plain_breakpoint, plain_output}
use Rattle.debuggee.specs.Marks.{IsNext, mark_count, places_of}
use Rattle.debuggee.proofs.Counting.{Through, through_all, through_more, through_none}
use Rattle.debuggee.proofs.Marking.{reach_next, through_nowhere}
use Rattle.debuggee.proofs.arriving.arrive_marked.Goals as goal

pub returns-in-None : goal.returns-in-None
returns-in-None g c =
    let see = g.D.Debuggee.sees in
    let s = c.args.debuggee.now in
    let old = map plain_breakpoint c.args.breakpoints.now.items in
    let told = map plain_output c.args.told.now.items in
    through_all see s old (length old) false old told told (omega arith)
    (through_nowhere see s (sym c.requires.at ∙ c.in-None.is) old (length old) false old told told (omega arith)
    (through_none see s old told))

pub loop-index-init : goal.loop-index-init
loop-index-init g c =
    let see = g.D.Debuggee.sees in
    let s = c.args.debuggee.now in
    let here = c.in-Some.here in
    let old = map plain_breakpoint c.args.breakpoints.now.items in
    let told = map plain_output c.args.told.now.items in
    record {
      reaches = reach_next see s here (sym c.requires.at ∙ c.in-Some.is) old 0 _ false old told told
          (c.requires.marked.heads (here % mark_count) (omega arith)) (through_none see s old told);
      long = refl;
    }

pub loop-index-preserved : goal.loop-index-preserved
loop-index-preserved g c =
    let see = g.D.Debuggee.sees in
    let s = c.args.debuggee.now in
    let here = c.in-Some.here in
    let first = c.args.breakpoints.now.items in
    let items = c.loop-index.breakpoints.items in
    let old = map plain_breakpoint first in
    let i = c.loop-index.index in
    let stop = c.loop-index.stops || c.in_ok-stops_here.stops_here in
    let told = map plain_output c.args.told.now.items in
    let found = c.index_mut-breakpoint.result.now in
    let new = c.arrive_at.new.breakpoint in
    let reached = c.loop-index.invariant.reaches in
    let there : i < length items = search rules in
    let inside : i < length old = omega (arith, there, c.loop-index.invariant.long, length-map first plain_breakpoint)
    in
    let is : plain_breakpoint found ≡ get_or (map plain_breakpoint items) i (plain_breakpoint found) =
    cc (c.index_mut-breakpoint.ensures.value, get_or-map plain_breakpoint items i found) in
    let more : Through see s old (i + 1) stop (map plain_breakpoint (slice_set items i new)) told (map plain_output
    c.arrive_at.new.told.items) = rw (map-set plain_breakpoint items i new) (through_more see s old i inside _ _ _ _ _
    told _ _ reached.through is c.in_ok-stops_here.ensures) in
    let within : i < length (places_of old) = omega (arith, inside, length-map old (λ (b : PlainBreakpoint). b.place))
    in
    let after = c.args.marks.now.next.items in
    let to : c.index-index.result.now ≡ get_or after i 0 = c.index-index.ensures
    ∙ get_or_default after i c.index-index.result.now 0 (omega (arith, within, c.requires.marked.others_long)) in
    let next : IsNext (places_of old) (here % mark_count) (i + 1) c.index-index.result.now = rw to
    (rw (← reached.there inside) (c.requires.marked.others i within)) in
    record {
      reaches = reach_next see s here (sym c.requires.at ∙ c.in-Some.is) old (i + 1) _ stop _ told _ next more;
      long = length-set items i new
          ∙ c.loop-index.invariant.long;
    }

pub index-index-requires : goal.index-index-requires
index-index-requires g c =
    let first = c.args.breakpoints.now.items in
    let i = c.loop-index.index in
    let there : i < length c.loop-index.breakpoints.items = search rules in
    omega (
      arith,
      there,
      c.loop-index.invariant.long,
      length-map first plain_breakpoint,
      length-map (map plain_breakpoint first) (λ (b : PlainBreakpoint). b.place),
      c.requires.marked.others_long,
    )

pub loop-index-smaller : goal.loop-index-smaller
loop-index-smaller g c =
    let first = c.args.breakpoints.now.items in
    let items = c.loop-index.breakpoints.items in
    let old = map plain_breakpoint first in
    let i = c.loop-index.index in
    let there : i < length items = search rules in
    let within : i < length (places_of old)
    = omega (
      arith,
      there,
      c.loop-index.invariant.long,
      length-map first plain_breakpoint,
      length-map old (λ (b : PlainBreakpoint). b.place),
    ) in
    let after = c.args.marks.now.next.items in
    let to : c.index-index.result.now ≡ get_or after i 0
    = c.index-index.ensures
    ∙ get_or_default after i c.index-index.result.now 0 (omega (arith, within, c.requires.marked.others_long)) in
    let later = (c.requires.marked.others i within).reaches in
    omega (arith, there, later, to, length-set items i c.arrive_at.new.breakpoint)
