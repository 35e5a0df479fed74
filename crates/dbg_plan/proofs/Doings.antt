-- What the breakpoints do that are met: those without a message stop the program, and the others log.
use Rattle.std.proofs.Common.{◌≡◌, ℕ, ◌+◌, Bool, true, false, List, [], ◌∷◌, cond, filter, Option, Some, None, is_none, refl, arith}
use Rattle.std.specs.Prelude.{◌&&◌, ◌||◌, option_map}
use Rattle.std.specs.List.{list_any, filter_map, enumerate_from, cons_option}
use Rattle.pl0_machine.specs.Machine.{Standing, program, configuration}
use Rattle.dbg_plan.specs.declared.message.LogMessage.{LogMessage}
use Rattle.dbg_plan.specs.declared.breakpoint.Breakpoint.{Breakpoint}
use Rattle.dbg_plan.specs.Breakpoints.{plain_message, plain_breakpoint, plain_breakpoints}
use Rattle.dbg_plan.specs.Due.{is_hit, stops}
use Rattle.dbg_plan.specs.Logs.{Log, log_in, log_at}
use Rattle.dbg_plan.specs.Plans.{AreNumbered}
use Rattle.dbg_plan.specs.Counting.{any_stops, logged}
use Rattle.std.proofs.lemmas.Grind.{common_steps}

module _ (m : Standing) (first : ℕ) where
  abbrev hit : Breakpoint → Bool
  hit b = is_hit (program m) first m.position (plain_breakpoint b)

  none_plain : (o : Option LogMessage) → is_none (option_map plain_message o) ≡ is_none o
  none_plain None = refl
  none_plain (Some x) = refl

  stops_one : (v w : Bool) (b : Breakpoint) (bs : List Breakpoint) → any_stops bs ≡ w
      → any_stops (cond v (b ∷ bs) bs) ≡ ((is_none b.message && v) || w)
  stops_one true w b bs e = grind (arith, common_steps, true, false)
  stops_one false w b bs e = grind (arith, common_steps, false, true)

  pub stops_are : (bs : List Breakpoint) → any_stops (filter hit bs) ≡ list_any (stops (program m) first m.position)
      (plain_breakpoints bs)
  stops_are [] = refl
  stops_are (b ∷ bs) = grind (arith, common_steps, stops_one, list_any, stops, filter, stops_are bs, none_plain)

  abbrev log_of : ℕ → Breakpoint → Option Log
  log_of n b = log_in (program m) (configuration m) n (plain_breakpoint b).message

  logs_one : (v : Bool) (b : Breakpoint) (bs : List Breakpoint)
      → logged m (cond v (b ∷ bs) bs) ≡ cons_option (cond v (log_of b.number b) None) (logged m bs)
  logs_one true b bs = refl
  logs_one false b bs = refl

  pub logs_are : (bs : List Breakpoint) (n : ℕ) → AreNumbered n bs
      → logged m (filter hit bs) ≡ filter_map (log_at (program m) first m.position)
      (enumerate_from n (plain_breakpoints bs))
  logs_are [] n numbered = refl
  logs_are (b ∷ bs) n numbered = cc (logs_one (hit b) b (filter hit bs), numbered.0, logs_are bs (n + 1) numbered.2)
