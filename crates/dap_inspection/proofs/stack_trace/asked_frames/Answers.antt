use Rattle.std.proofs.Common.{◌≡◌, ◌-◌, length, take, rules, arith, ap, ◌∙◌}
use Rattle.pl0_machine.specs.Machine.{program, frames}
use Rattle.dap_inspection.specs.Questions.{counting_of}
use Rattle.dap_inspection.specs.Showing.{count_shown}
use Rattle.dap_inspection.proofs.AskedFrames.{rest_of, one_more, all_asked}
use Rattle.dap_inspection.proofs.stack_trace.asked_frames.Goals as goal
use Rattle.dap_inspection.proofs.stack_trace.asked_frames.Goals.{After-count_left-left}

left_is : (c : After-count_left-left) → c.count_left-left.result ≡ length
    (frames c.args.machine.now) - c.args.asked.start_frame
left_is c = omega (arith, c.depth.ensures.depth, c.count_left-left.ensures)

pub loop-index-preserved : goal.loop-index-preserved
loop-index-preserved c =
    let m = c.args.machine.now in
    let left = left_is (goal.at.loop-index-preserved c).After-count_left-left in
    rw c.in_ok-push.ensures.items (one_more _ _ _ c.args.asked.start_frame _ c.loop-index.index _ _ left (search rules)
    c.in_ok-stack_frame.ensures c.loop-index.invariant)

pub returns : goal.returns
returns c =
    let m = c.args.machine.now in
    let counting = counting_of c.args.settings in
    let start = c.args.asked.start_frame in
    let count : c.loop-index.index ≡ count_shown c.args.asked.levels c.count_left-left.result =
    omega (arith, c.count_asked-count.ensures, c.loop-index.auto.index-end, c.loop-index-test.false) in
    c.loop-index.invariant
    ∙ ap (λ n. take n (rest_of (program m) counting (frames m) start)) count
    ∙ all_asked (program m) counting (frames m) start c.args.asked.levels _
    (left_is (goal.at.returns c).After-count_left-left)
