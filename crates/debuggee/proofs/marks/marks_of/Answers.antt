use Rattle.std.proofs.Common.{◌≡◌, ◌<◌, ◌+◌, ◌-◌, ◌%◌, ◌∙◌, rules, refl, sym, subst, ap, map, length, get_or, slice_set, arith}
use Rattle.std.proofs.Math.ListN.{get_or-map}
use Rattle.std.proofs.lemmas.List.{length-map, length-set, get_or_default, get_or-replicate}
use Rattle.debuggee.specs.Plain.{PlainBreakpoint, plain_breakpoint}
use Rattle.debuggee.specs.Marks.{IsNext, mark_at, mark_count, places_of}
use Rattle.debuggee.proofs.Marking.{ChainedFrom, nothing_more, one_back}
use Rattle.debuggee.proofs.marks.marks_of.Goals as goal

pub loop-index-init : goal.loop-index-init
loop-index-init c =
    let items = c.args.breakpoints.now in
    let places = places_of (map plain_breakpoint items) in
    let long : length places ≡ length items
    = length-map (map plain_breakpoint items) (λ (b : PlainBreakpoint). b.place) ∙ length-map items plain_breakpoint in
    record {
      within = omega arith;
      firsts = refl;
      nexts = search rules;
      chained = record {
        heads = λ mark lt. subst (IsNext places mark (length items))
            (sym (get_or-replicate mark_count mark (length items) 0 lt)) (nothing_more places mark (length items) long);
        others = λ j low lt. absurd (omega (arith, low, lt, long));
      };
    }

pub loop-index-preserved : goal.loop-index-preserved
loop-index-preserved c =
    let items = c.args.breakpoints.now in
    let plain = map plain_breakpoint items in
    let places = places_of plain in
    let first = c.loop-index.first in
    let next = c.loop-index.next.items in
    let i = c.loop-index.index - 1 in
    let one = c.index-breakpoints-index.result in
    let long : length places ≡ length items
    = length-map plain (λ (b : PlainBreakpoint). b.place) ∙ length-map items plain_breakpoint in
    let before : i + 1 ≡ c.loop-index.index = search rules in
    let inside : i < length places = omega (arith, before, c.loop-index.invariant.within, long) in
    let place : get_or places i 0 ≡ (get_or items i one).place
    = get_or_default places i 0 one.place inside
    ∙ get_or-map (λ (b : PlainBreakpoint). b.place) plain i (plain_breakpoint one)
    ∙ ap (λ (b : PlainBreakpoint). b.place) (get_or-map plain_breakpoint items i one) in
    let mark : mark_at places i ≡ (get_or items i one).place % mark_count = ap (λ p. p % mark_count) place in
    let back = one_back places first next i inside c.loop-index.invariant.firsts
    (c.loop-index.invariant.nexts ∙ sym long) (omega arith)
    (subst (ChainedFrom places first next) (sym before) c.loop-index.invariant.chained) in
    record {
      within = omega (arith, before, c.loop-index.invariant.within);
      firsts = length-set first _ _ ∙ c.loop-index.invariant.firsts;
      nexts = length-set next _ _ ∙ c.loop-index.invariant.nexts;
      chained = subst (λ m. ChainedFrom places (slice_set first m i) (slice_set next i (get_or first m 0)) i) mark back;
    }
