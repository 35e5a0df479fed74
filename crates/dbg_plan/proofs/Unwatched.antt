-- Where no breakpoint is met: none is due and none logged.
use Rattle.std.proofs.Common.{◌≡◌, ℕ, ◌+◌, ◌<◌, Bool, true, false, List, [], ◌∷◌, length, Option, Some, None, ap, sym, ◌∙◌, subst, refl, arith}
use Rattle.std.specs.Prelude.{◌&&◌, is_none, unwrap_or, option_map, if◌then◌else◌}
use Rattle.std.specs.List.{list_any, filter_map, enumerate_from, cons_option}
use Rattle.std.proofs.lemmas.Bool.{or_from, or_parts}
use Rattle.pl0_unit.specs.declared.unit.Unit.{Unit as Compiled}
use Rattle.pl0_machine.specs.Machine.{Standing, program, configuration, frames_of, depth_of}
use Rattle.dbg_plan.specs.declared.breakpoint.Breakpoint.{Breakpoint}
use Rattle.dbg_plan.specs.declared.mode.Reason.TheVariants as reason
use Rattle.pl0_meaning.specs.Values.{Configuration}
use Rattle.dbg_plan.specs.declared.mode.Mode.{Mode}
use Rattle.dbg_plan.specs.declared.mode.Mode.TheVariants.{Continue}
use Rattle.dbg_plan.specs.Breakpoints.{Breakpoint as PlainBreakpoint}
use Rattle.dbg_plan.specs.Plans.{Listed, IsPlanOf, is_of, those_of}
use Rattle.dbg_plan.specs.Due.{stops, reason_of, depth_at}
use Rattle.dbg_plan.specs.Logs.{log_in, log_at}
use Rattle.dbg_plan.specs.Counting.{MayBePlanOf}
use Rattle.dbg_plan.specs.Debugged.{Debugged, machine_of, debugged_program, due_now, logs_now}
use Rattle.dbg_plan.specs.Running.{has_hit, IsUndueAbove}
use Rattle.std.proofs.lemmas.Grind.{common_steps}

-- ---- what is known of a plan that is asked

pub fits_of : (u : Compiled) (plan : Option Listed) (asked : Listed) → plan ≡ Some asked → MayBePlanOf u plan
    → IsPlanOf u asked
fits_of u plan asked is may = subst (λ o. MayBePlanOf u o) is may

-- ---- by the number of the step that comes next

pub among_those : (p : ℕ) (f : Breakpoint → Bool) (bs : List Breakpoint)
    → list_any (λ b. is_of p b && f b) bs ≡ list_any f (those_of p bs)
among_those p f [] = refl
among_those p f (b ∷ bs) = grind (arith, common_steps, is_of, among_those p f bs, list_any, true, false)

-- ---- no breakpoint is met there

module _ (m : Standing) (first : ℕ) where
  and_false : (v : Bool) → (v && false) ≡ false
  and_false v = elim v as (λ w. (w && false) ≡ false) [ true ↦ refl | false ↦ refl ]

  none_stops : (bs : List PlainBreakpoint) → has_hit bs first m ≡ false
      → list_any (stops (program m) first m.position) bs ≡ false
  none_stops [] none = refl
  none_stops (b ∷ bs) none =
      let both = or_parts _ _ none in
      or_from _ _ (ap (λ v. is_none b.message && v) both.0 ∙ and_false (is_none b.message)) (none_stops bs both.1)

  none_logged : (bs : List PlainBreakpoint) (n : ℕ) → has_hit bs first m ≡ false
      → filter_map (log_at (program m) first m.position) (enumerate_from n bs) ≡ []
  none_logged [] n none = refl
  none_logged (b ∷ bs) n none =
      let both = or_parts _ _ none in
      ap (λ v. cons_option (if v then log_in (program m) (configuration m) n b.message else None)
      (filter_map (log_at (program m) first m.position) (enumerate_from (n + 1) bs))) both.0
      ∙ none_logged bs (n + 1) both.1

-- in the mode Continue such a position isn't due
pub not_due : (d : Debugged) → has_hit d.breakpoints d.counted_from (machine_of d) ≡ false → due_now d Continue ≡ None
not_due d none = cc (none_stops (machine_of d) d.counted_from d.breakpoints none)

depth_there : (o : Option Configuration) → unwrap_or (option_map length o) 0 ≡ length (frames_of o)
depth_there None = refl
depth_there (Some c) = refl

-- nor is it in a mode that makes none due with so many frames
pub not_due_above : (mode : Mode) (outer : ℕ) → IsUndueAbove mode outer → (d : Debugged)
    → has_hit d.breakpoints d.counted_from (machine_of d) ≡ false → outer < depth_of (machine_of d)
    → due_now d mode ≡ None
not_due_above mode outer undue d none more =
    let depth = depth_there (configuration (machine_of d)) in
    ap (λ hit. if hit then Some reason.Breakpoint else reason_of mode (depth_at (debugged_program d) d.position))
    (none_stops (machine_of d) d.counted_from d.breakpoints none)
    ∙ undue (depth_at (debugged_program d) d.position) (subst (λ n. outer < n) (sym depth) more)

-- and logs nothing
pub nothing_logged : (d : Debugged) → has_hit d.breakpoints d.counted_from (machine_of d) ≡ false → logs_now d ≡ []
nothing_logged d none = none_logged (machine_of d) d.counted_from d.breakpoints 0 none
