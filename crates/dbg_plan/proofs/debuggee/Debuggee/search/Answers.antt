use Rattle.std.proofs.Common.{◌≡◌, ◌+◌, ◌-◌, ℕ, option_map, sym, ap, ◌∙◌, subst, arith}
use Rattle.dbg_plan.specs.Counts.{debugged_of}
use Rattle.dbg_plan.specs.Debugged.{Debugged, IsRunning, machine_of, debugged_program}
use Rattle.dbg_plan.specs.Advances.{considered_at}
use Rattle.dbg_plan.specs.Retreat.{last_due}
use Rattle.dbg_plan.proofs.Counted.{has_table}
use Rattle.dbg_plan.proofs.Searching.{stays, goes_to, is_considered, found_last}
use Rattle.dbg_plan.proofs.debuggee.Debuggee.search.Goals as goal
use Rattle.dbg_plan.proofs.debuggee.Debuggee.search.Goals.{After-search}

pub search-requires-clause-table : goal.search-requires-clause-table
search-requires-clause-table c =
    has_table c.configuration_laws.ensures.linked _ c.self.inside.counts c.self.invariant.room
    c.self.inside.machine.unit (option_map (λ t. t.now) c.marks_of-marks.result) c.self.invariant.fits
    c.marks_of-marks.ensures

pub search-requires-clause-runs : goal.search-requires-clause-runs
search-requires-clause-runs c =
    let within = c.requires.within in
    let place = ap (λ (d : Debugged). d.position) c.self.view_is in
    let to : c.args.limit ≡ c.self.inside.machine.position + (c.args.limit - c.self.inside.machine.position) =
    omega (arith, within, place) in
    subst (λ (n : ℕ). IsRunning (record c.self.inside.machine { position = n })) to
    (subst (λ (d : Debugged). IsRunning (record (machine_of d) { position = c.args.limit })) (sym c.self.view_is)
    c.requires.runs)

module _ (c : After-search) where
  behind : (debugged_of c.self.inside).next ≡ (debugged_of c.self.inside).position + 1
  behind = subst (λ (d : Debugged). d.next ≡ d.position + 1) (sym c.self.view_is) c.requires.considered.behind

  running : IsRunning c.self.inside.machine
  running = subst (λ (d : Debugged). IsRunning (machine_of d)) (sym c.self.view_is) c.requires.considered.running

pub invariant_of-self : goal.invariant_of-self
invariant_of-self c =
    let here = (goal.at.invariant_of-self c).After-search in
    stays c.configuration_laws.ensures.linked c.self.inside c.self.invariant (behind here) (running here)
    (option_map (λ t. t.now) c.marks_of-marks.result) c.marks_of-marks.ensures c.args.found c.search.new.self
    c.search.new.counts c.search.result c.search.ensures.searched c.args.limit
    c.search.ensures.there

pub returns-clause-went : goal.returns-clause-went
returns-clause-went c =
    let here = (goal.at.returns-clause-went c).After-search in
    goes_to c.configuration_laws.ensures.linked c.self.inside c.self.invariant (behind here) (running here)
    (option_map (λ t. t.now) c.marks_of-marks.result) c.marks_of-marks.ensures c.args.found c.search.new.self
    c.search.new.counts c.search.result c.search.ensures.searched c.args.limit
    c.search.ensures.there ∙ ap (λ d. considered_at d c.args.limit) c.self.view_is

pub returns-clause-considered : goal.returns-clause-considered
returns-clause-considered c =
    let here = (goal.at.returns-clause-considered c).After-search in
    is_considered c.configuration_laws.ensures.linked c.self.inside c.self.invariant (behind here) (running here)
    (option_map (λ t. t.now) c.marks_of-marks.result) c.marks_of-marks.ensures c.args.found c.search.new.self
    c.search.new.counts c.search.result c.search.ensures.searched c.args.limit
    c.search.ensures.there

pub returns-clause-found : goal.returns-clause-found
returns-clause-found c =
    let here = (goal.at.returns-clause-found c).After-search in
    subst (λ (d : Debugged). d.counted_from ≡ 0
    → c.args.found ≡ last_due (debugged_program d) d.breakpoints (d.position + 1)
    → c.search.result ≡ last_due (debugged_program d) d.breakpoints (c.args.limit + 1))
    c.self.view_is
    (found_last c.configuration_laws.ensures.linked c.self.inside c.self.invariant (behind here) (running here)
    (option_map (λ t. t.now) c.marks_of-marks.result) c.marks_of-marks.ensures c.args.found c.search.new.self
    c.search.new.counts c.search.result c.search.ensures.searched c.args.limit c.search.ensures.there)
