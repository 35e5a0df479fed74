-- States worked examples of breakpoints: where some of them stop the two programs of `WorkedText`, and what they log;
-- and which checkpoints are kept. Each was computed from the definitions.
use Rattle.std.specs.Prelude.{◌≡◌, ℕ, ◌+◌, ◌*◌, Bool, true, false, List, [], ◌∷◌, ◌++◌, Option, Some, None, pos, map, codes, Result, Ok, Err, ℤ}
use Rattle.std.specs.List.{range_with_len}
use Rattle.pl0_tree.specs.declared.tree.Operator.TheVariants.{Add, Subtract, Divide}
use Rattle.pl0_tree.specs.declared.tree.Relation.TheVariants.{Equal}
use Rattle.pl0_tree.specs.Tree.{Variable, Number, Binary, Odd, Compare, Condition, Expression, Block}
use Rattle.pl0_meaning.specs.declared.RunFault.{RunFault}
use Rattle.pl0_meaning.specs.declared.RunFault.TheVariants.{Overflow, DivideByZero}
use Rattle.pl0_meaning.specs.WorkedRun.{called}
use Rattle.dbg_plan.specs.declared.breakpoint.Rule.{Rule}
use Rattle.dbg_plan.specs.declared.breakpoint.Rule.TheVariants.{From, Every}
use Rattle.dbg_plan.specs.declared.mode.Mode.TheVariants.{Entry, Continue, In, Over, Out, StepBack, Reverse}
use Rattle.dbg_plan.specs.declared.mode.Reason.{Reason}
use Rattle.dbg_plan.specs.declared.mode.Reason.TheVariants as reason
use Rattle.dbg_plan.specs.Messages.{Part, Text, Value}
use Rattle.dbg_plan.specs.Breakpoints.{Breakpoint, TextCondition}
use Rattle.dbg_plan.specs.Due.{stops, depth_at, due}
use Rattle.dbg_plan.specs.Logs.{Log, logs, said}
use Rattle.dbg_plan.specs.Resolutions.{step_from}
use Rattle.dbg_plan.specs.Retreat.{Stop, goal_of}
use Rattle.dbg_plan.specs.Trail.{Trail, new_trail, kept_at, floor_of}
use Rattle.dbg_plan.specs.WorkedText.{nested, loop}

-- ---- breakpoints

abbrev pub name : List ℕ → Expression
name word = Variable (called word 1 1)

abbrev condition : Condition → Option TextCondition
condition c = Some (record { text = []; condition = c })

-- x is odd
abbrev odd : Option TextCondition
odd = condition (Odd (name (codes "x")))

-- 1 / (x - 2) = 1: it faults where x is 2
abbrev faulty : Option TextCondition
faulty =
    condition (Compare Equal (Binary Divide (Number (pos 1)) (Binary Subtract (name (codes "x")) (Number (pos 2))))
    (Number (pos 1)))

-- 9223372036854775806 + x = 0: it faults from where x is 2
abbrev overflowing : Option TextCondition
overflowing =
    condition (Compare Equal (Binary Add (Number (pos 9223372036854775806)) (name (codes "x"))) (Number (pos 0)))

-- the name's value is this
abbrev equals : List ℕ → ℕ → Option TextCondition
equals word v = condition (Compare Equal (name word) (Number (pos v)))

abbrev pub at_step : ℕ → Option TextCondition → Option Rule → Breakpoint
at_step n condition rule = record { step = n; condition = condition; rule = rule; message = None }

abbrev pub logging : Breakpoint → List Part → Breakpoint
logging b parts = record b { message = Some (record { text = []; parts = parts }) }

-- "x is {x}"
abbrev says_x : List Part
says_x = Text (codes "x is ") ∷ Value (name (codes "x")) ∷ Text [] ∷ []

-- "{1 / x} {9223372036854775807 + x}", of which one or the other faults
abbrev says_faults : List Part
says_faults =
    Text [] ∷ Value (Binary Divide (Number (pos 1)) (name (codes "x"))) ∷ Text (codes " ")
    ∷ Value (Binary Add (Number (pos 9223372036854775807)) (name (codes "x"))) ∷ Text [] ∷ []

-- "{x - 12}"
abbrev says_less : List Part
says_less = Text [] ∷ Value (Binary Subtract (name (codes "x")) (Number (pos 12))) ∷ Text [] ∷ []

-- whether a breakpoint that counts from position t stops the program at these positions
abbrev pub stops_at : Block → ℕ → List ℕ → Breakpoint → List Bool
stops_at main t positions b = map (λ m. stops main t m b) positions

-- ---- conditions

-- A breakpoint stops the program before its step, at each arrival where its condition is true or faults.
abbrev pub ConditionsStop : Type 0
ConditionsStop =
    map (stops_at loop 0 (1 ∷ 3 ∷ 5 ∷ 7 ∷ 9 ∷ 11 ∷ []))
    (at_step 1 None None ∷ at_step 1 odd None ∷ at_step 1 faulty None ∷ at_step 1 overflowing None ∷ [])
    ≡ (true ∷ true ∷ true ∷ true ∷ true ∷ true ∷ []) ∷ (false ∷ true ∷ false ∷ true ∷ false ∷ true ∷ [])
    ∷ (false ∷ false ∷ true ∷ true ∷ false ∷ false ∷ []) ∷ (false ∷ false ∷ true ∷ true ∷ true ∷ true ∷ []) ∷ []

-- Nor does it stop before another step, or after the end.
abbrev pub OthersDont : Type 0
OthersDont =
    map (stops_at loop 0 (0 ∷ 1 ∷ 2 ∷ 12 ∷ 13 ∷ 14 ∷ 15 ∷ []))
    (at_step 0 None None ∷ at_step 1 None None ∷ at_step 2 None None ∷ [])
    ≡ (true ∷ false ∷ true ∷ true ∷ false ∷ false ∷ false ∷ []) ∷ (false ∷ true ∷ false ∷ false ∷ false ∷ false ∷ false
    ∷ []) ∷ (false ∷ false ∷ false ∷ false ∷ true ∷ false ∷ false ∷ []) ∷ []

-- A condition is read in the newest frame: of two frames of p the one that is there, and in q that of the p around it.
abbrev pub ConditionsReadTheNewest : Type 0
ConditionsReadTheNewest =
    (stops_at nested 0 (2 ∷ 3 ∷ 6 ∷ 7 ∷ []) (at_step 3 (equals (codes "k") 1) None)
    ≡ false ∷ false ∷ false ∷ true ∷ [])
    × (stops_at nested 0 (2 ∷ 3 ∷ 6 ∷ 7 ∷ []) (at_step 3 (equals (codes "k") 2) None)
    ≡ false ∷ true ∷ false ∷ false ∷ [])
    × (stops_at nested 0 (10 ∷ 15 ∷ []) (at_step 0 (equals (codes "k") 1) None) ≡ true ∷ false ∷ [])
    × (stops_at nested 0 (10 ∷ 15 ∷ []) (at_step 0 (equals (codes "k") 2) None) ≡ false ∷ true ∷ [])

-- ---- hit conditions

-- `k` stops at the arrival number k and after it, `%k` at each one whose number k divides.
abbrev pub RulesCount : Type 0
RulesCount =
    map (stops_at loop 0 (1 ∷ 3 ∷ 5 ∷ 7 ∷ 9 ∷ 11 ∷ []))
    (at_step 1 None (Some (From 1)) ∷ at_step 1 None (Some (From 3)) ∷ at_step 1 None (Some (Every 2))
    ∷ at_step 1 None (Some (Every 3)) ∷ [])
    ≡ (true ∷ true ∷ true ∷ true ∷ true ∷ true ∷ []) ∷ (false ∷ false ∷ true ∷ true ∷ true ∷ true ∷ [])
    ∷ (false ∷ true ∷ false ∷ true ∷ false ∷ true ∷ []) ∷ (false ∷ false ∷ true ∷ false ∷ false ∷ true ∷ []) ∷ []

-- Only where the condition is true or faults does an arrival count.
abbrev pub ConditionsCount : Type 0
ConditionsCount =
    map (stops_at loop 0 (1 ∷ 3 ∷ 5 ∷ 7 ∷ 9 ∷ 11 ∷ []))
    (at_step 1 odd (Some (From 2)) ∷ at_step 1 odd (Some (Every 2)) ∷ at_step 1 faulty (Some (From 2)) ∷ [])
    ≡ (false ∷ false ∷ false ∷ true ∷ false ∷ true ∷ []) ∷ (false ∷ false ∷ false ∷ true ∷ false ∷ false ∷ [])
    ∷ (false ∷ false ∷ false ∷ true ∷ false ∷ false ∷ []) ∷ []

-- Counted are the arrivals from a position on, which is one of them: here from 4 and from 5. This is how a run counts
-- after its lines were set, or after it went back.
abbrev pub CountsBegin : Type 0
CountsBegin =
    (map (stops_at loop 4 (5 ∷ 7 ∷ 9 ∷ 11 ∷ [])) (at_step 1 None (Some (From 3)) ∷ at_step 1 None (Some (Every 2)) ∷ [])
    ≡ (false ∷ false ∷ true ∷ true ∷ []) ∷ (false ∷ true ∷ false ∷ true ∷ []) ∷ [])
    × (map (stops_at loop 5 (5 ∷ 7 ∷ [])) (at_step 1 None (Some (From 1)) ∷ at_step 1 None (Some (From 2)) ∷ [])
    ≡ (true ∷ true ∷ []) ∷ (false ∷ true ∷ []) ∷ [])
    × (stops_at loop 6 (7 ∷ 9 ∷ []) (at_step 1 None (Some (From 2))) ≡ false ∷ true ∷ [])

-- ---- why a position is due

-- A breakpoint with a message doesn't stop the program; one without it on the same step does. The reason `breakpoint`
-- comes before that of the mode.
abbrev pub MessagesDontStop : Type 0
MessagesDontStop =
    map (λ (bs, mode). due loop bs 0 mode 3)
    ((at_step 1 None None ∷ [], Continue) ∷ (logging (at_step 1 None None) says_x ∷ [], Continue)
    ∷ (logging (at_step 1 None None) says_x ∷ at_step 1 None None ∷ [], Continue)
    ∷ (logging (at_step 1 None None) says_x ∷ [], In) ∷ (at_step 1 None None ∷ [], In)
    ∷ (at_step 0 None None ∷ at_step 1 odd None ∷ [], Continue)
    ∷ (at_step 1 odd None ∷ at_step 0 None None ∷ [], Continue) ∷ [])
    ≡ Some reason.Breakpoint ∷ None ∷ Some reason.Breakpoint ∷ Some reason.Step ∷ Some reason.Breakpoint
    ∷ Some reason.Breakpoint ∷ Some reason.Breakpoint ∷ []

-- Without breakpoints it is the mode that says so, by the number of frames: at position 3 there are two, at 9 three and
-- at 10 four.
abbrev pub ModesStop : Type 0
ModesStop =
    map (λ mode. map (due nested [] 0 mode) (3 ∷ 9 ∷ 10 ∷ []))
    (Entry ∷ Continue ∷ In ∷ Over 3 ∷ Out 4 ∷ Out 3 ∷ StepBack ∷ Reverse ∷ [])
    ≡ (Some reason.Entry ∷ Some reason.Entry ∷ Some reason.Entry ∷ []) ∷ (None ∷ None ∷ None ∷ [])
    ∷ (Some reason.Step ∷ Some reason.Step ∷ Some reason.Step ∷ [])
    ∷ (Some reason.Step ∷ Some reason.Step ∷ None ∷ []) ∷ (Some reason.Step ∷ Some reason.Step ∷ None ∷ [])
    ∷ (Some reason.Step ∷ None ∷ None ∷ []) ∷ (None ∷ None ∷ None ∷ []) ∷ (None ∷ None ∷ None ∷ []) ∷ []

-- how many frames are alive; none at the end and after it
abbrev pub DepthsAre : Type 0
DepthsAre = map (depth_at nested) (0 ∷ 2 ∷ 6 ∷ 10 ∷ 19 ∷ 20 ∷ 21 ∷ []) ≡ 1 ∷ 2 ∷ 3 ∷ 4 ∷ 1 ∷ 0 ∷ 0 ∷ []

-- ---- logs

abbrev log : ℕ → List (Result ℤ RunFault) → Log
log number values = record { number = number; values = values }

-- Two breakpoints with messages and one without on one step: each of the two logs its values, under its number in the
-- plan, a fault among them.
abbrev pub LogsAre : Type 0
LogsAre =
    map (logs loop (logging (at_step 1 None None) says_x ∷ at_step 1 None None
    ∷ logging (at_step 1 None None) says_faults ∷ []) 0) (1 ∷ 2 ∷ 3 ∷ [])
    ≡ (log 0 (Ok (pos 0) ∷ []) ∷ log 2 (Err DivideByZero ∷ Ok (pos 9223372036854775807) ∷ []) ∷ []) ∷ []
    ∷ (log 0 (Ok (pos 1) ∷ []) ∷ log 2 (Ok (pos 1) ∷ Err Overflow ∷ []) ∷ []) ∷ []

-- What they say, with a third that says a number below 0: each ends with a line feed.
abbrev pub TextsAre : Type 0
TextsAre =
    map (said loop (logging (at_step 1 None None) says_x ∷ at_step 1 None None
    ∷ logging (at_step 1 None None) says_faults ∷ logging (at_step 1 None None) says_less ∷ []) 0) (1 ∷ 2 ∷ 3 ∷ [])
    ≡ ((codes "x is 0" ++ 10 ∷ []) ∷ (codes "divideByZero 9223372036854775807" ++ 10 ∷ []) ∷ (codes "-12" ++ 10 ∷ [])
    ∷ []) ∷ []
    ∷ ((codes "x is 1" ++ 10 ∷ []) ∷ (codes "1 overflow" ++ 10 ∷ []) ∷ (codes "-11" ++ 10 ∷ []) ∷ []) ∷ []

-- A log is due as a stop is: by the condition, and by how many arrivals there were.
abbrev pub LogsCount : Type 0
LogsCount =
    map (said loop (logging (at_step 1 odd (Some (Every 2))) says_x ∷ []) 0) (3 ∷ 5 ∷ 7 ∷ 11 ∷ [])
    ≡ [] ∷ [] ∷ ((codes "x is 3" ++ 10 ∷ []) ∷ []) ∷ [] ∷ []

-- `{k}` is read in the newest frame, where k is the one of that call of p.
abbrev pub LogsReadTheNewest : Type 0
LogsReadTheNewest =
    map (said nested (logging (at_step 3 None None) (Text [] ∷ Value (name (codes "k")) ∷ Text [] ∷ []) ∷ []) 0)
    (2 ∷ 3 ∷ 7 ∷ [])
    ≡ [] ∷ ((codes "2" ++ 10 ∷ []) ∷ []) ∷ ((codes "1" ++ 10 ∷ []) ∷ []) ∷ []

-- ---- lines

-- A line has the first step at it or after it, in source order; a step of a nested procedure too. After the last step
-- there is none.
abbrev pub LinesHaveSteps : Type 0
LinesHaveSteps =
    map (step_from nested) (1 ∷ 5 ∷ 6 ∷ 7 ∷ 8 ∷ 9 ∷ 10 ∷ 12 ∷ 13 ∷ 14 ∷ [])
    ≡ Some 0 ∷ Some 0 ∷ Some 2 ∷ Some 2 ∷ Some 3 ∷ Some 4 ∷ Some 6 ∷ Some 8 ∷ Some 9 ∷ None ∷ []

-- ---- going back

abbrev to : ℕ → Reason → Option Stop
to position why = Some (record { position = position; reason = why })

-- `stepBack` leads one position back, and `reverseContinue` to the last one before where a breakpoint stopped the
-- program, counted from position 0, or to the beginning.
abbrev pub RetreatsLead : Type 0
RetreatsLead =
    map (λ (b, mode, n). goal_of loop (b ∷ []) mode n)
    ((at_step 1 None None, StepBack, 8) ∷ (at_step 1 None None, Reverse, 8) ∷ (at_step 1 None None, Reverse, 7)
    ∷ (at_step 1 None None, Reverse, 1) ∷ (at_step 1 None (Some (Every 2)), Reverse, 11)
    ∷ (logging (at_step 1 None None) says_x, Reverse, 8) ∷ (at_step 1 None None, Continue, 8) ∷ [])
    ≡ to 7 reason.Step ∷ to 7 reason.Breakpoint ∷ to 5 reason.Breakpoint ∷ to 0 reason.Entry ∷ to 7 reason.Breakpoint
    ∷ to 0 reason.Entry ∷ None ∷ []

-- ---- checkpoints

-- the trail after these positions, one after the other
abbrev after : Trail → List ℕ → Trail
after trail [] = trail
after trail (n ∷ ns) = after (kept_at trail n) ns

-- so many positions, one every 4096
abbrev multiples : ℕ → List ℕ
multiples count = map (λ k. 4096 * (k + 1)) (range_with_len 0 count)

-- A checkpoint is kept where the last one, or the beginning, is at least 4096 positions back. Before a 65th one every
-- second is given up, and the next ones are to be twice as far apart.
abbrev pub TrailsKeep : Type 0
TrailsKeep =
    ((after new_trail (4095 ∷ 4096 ∷ 8191 ∷ 8300 ∷ 12395 ∷ 12396 ∷ [])).kept ≡ 4096 ∷ 8300 ∷ 12396 ∷ [])
    × (after new_trail (multiples 64) ≡ record { kept = multiples 64; spacing = 4096 })
    × (after new_trail (multiples 65)
    ≡ record { kept = map (λ k. 4096 * (2 * k + 1)) (range_with_len 0 33); spacing = 8192 })
    × ((after new_trail (multiples 66)).kept ≡ (after new_trail (multiples 65)).kept)

-- A run goes back to the last one at or before a position, or else to the beginning.
abbrev pub FloorsAre : Type 0
FloorsAre =
    map (floor_of (4096 ∷ 8300 ∷ 12396 ∷ [])) (0 ∷ 4095 ∷ 4096 ∷ 12395 ∷ 12396 ∷ 20000 ∷ [])
    ≡ 0 ∷ 0 ∷ 4096 ∷ 8300 ∷ 12396 ∷ 12396 ∷ []
