use Rattle.dbg_runner.proofs.Common.{ap, arith, Debugged, gone_back, min-le_left, debugged_program, slice_limit, ◌+◌, ◌-◌, ◌∙◌}
use Rattle.pl0_machine.proofs.Alive.{runs_before}
use Rattle.dbg_runner.proofs.Returning.{floor_below, within_turn, turns}
use Rattle.dbg_runner.proofs.retreat.search_on.Goals as goal
use Rattle.std.proofs.lemmas.Grind.{common_steps}

pub search-found-requires-clause-runs : goal.search-found-requires-clause-runs
search-found-requires-clause-runs c = grind (arith, common_steps, runs_before)

pub go_back-requires-clause-within : goal.go_back-requires-clause-within
go_back-requires-clause-within c =
    within_turn c.args.start c.args.again c.args.debuggee.now c.args.found _ c.min-limit.result c.requires.on
    c.min-limit.ensures c.if-limit-last.false _ c.search-found.ensures.went c.search-found.ensures.found _ _
    c.stop_at-to.ensures

pub go_on-steps-requires-clause-within : goal.go_on-steps-requires-clause-within
go_on-steps-requires-clause-within c = grind (arith, common_steps, floor_below)

pub go_on-steps-requires-clause-runs : goal.go_on-steps-requires-clause-runs
go_on-steps-requires-clause-runs c =
    let least = min-le_left (c.args.start - 1) (c.args.again + slice_limit) in
    let there = ap (λ (d : Debugged). d.position) c.search-found.ensures.went in
    let within = within_turn c.args.start c.args.again c.args.debuggee.now c.args.found c.search-found.result
    c.min-limit.result c.requires.on c.min-limit.ensures c.if-limit-last.false c.search-found.new.debuggee
    c.search-found.ensures.went c.search-found.ensures.found c.stop_at-to.result.0 c.stop_at-to.result.1
    c.stop_at-to.ensures in
    let same = c.go_back.ensures.gone
    ∙ ap (λ (d : Debugged). gone_back d c.stop_at-to.result.0) c.search-found.ensures.went in
    rw same (runs_before (debugged_program c.args.debuggee.now) c.stop_at-to.result.0 c.args.start
    (omega (arith, within, there, c.min-limit.ensures, least)) c.requires.begun)

pub returns-clause-ran : goal.returns-clause-ran
returns-clause-ran c =
    turns _ _ _ _ _ _ c.requires.on c.min-limit.ensures c.if-limit-last.false _ c.search-found.ensures.went
    c.search-found.ensures.found _ _ c.stop_at-to.ensures _ c.go_back.ensures.gone _ c.go_on-steps.ensures.steps _
    c.go_on-steps.ensures.went c.go_on-steps.ensures.considered
