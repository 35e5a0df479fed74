-- How the readings of a history go on with one more step.
use Rattle.dap_history.proofs.Common.{Fresh, History, None, Option, Step, [], append-nil, arith, closing, end_of, ending_of, filter_map, filter_map-append, flat_map-append, go, hold_mark, last_run, last_such, launched, length, length-append, max, messages, messages_of, no_plan, numbers, numbers_told, or_else, orders_of, output, plan, reached, runs, settings, settings_by, situation, step_mark, sym, unwrap_or, waiting_pause, waiting_plan, waits_by, ◌++◌, ◌+◌, ◌∷◌, ◌≡◌, ◌≤◌}
use Rattle.std.proofs.Common.{List}
use Rattle.std.specs.Prelude.{false}
use Rattle.dap_history.specs.History.{next_seq}
use Rattle.dap_history.specs.Readings.{from_one, position, pauses_by, is_held}
use Rattle.std.proofs.lemmas.Grind.{common_steps}

pub or_else-none : {A : Type 0} (x : Option A) → or_else x None ≡ x
or_else-none x = grind (arith, common_steps) steps 200000

pub or_else_assoc : {A : Type 0} (x y z : Option A) → or_else (or_else x y) z ≡ or_else x (or_else y z)
or_else_assoc x y z = grind (arith, common_steps) steps 200000

pub last_such-append : {A B : Type 0} (f : A → Option B) (xs ys : List A)
    → last_such f (xs ++ ys) ≡ or_else (last_such f ys) (last_such f xs)
last_such-append f [] ys = sym (or_else-none (last_such f ys))
last_such-append f (x ∷ xs) ys = cc (last_such-append f xs ys, or_else_assoc (last_such f ys) (last_such f xs) (f x))

-- the last such, with one more element
pub last_such-snoc : {A B : Type 0} (f : A → Option B) (xs : List A) (x : A)
    → last_such f (xs ++ x ∷ []) ≡ or_else (f x) (last_such f xs)
last_such-snoc f xs x = last_such-append f xs (x ∷ [])

pub messages_of-snoc : (past : History) (step : Step) → messages_of (past ++ step ∷ []) ≡ messages_of past
    ++ messages step
messages_of-snoc past step = cc (flat_map-append messages past (step ∷ []), append-nil (messages step))

pub orders_of-snoc : (past : History) (step : Step) → orders_of (past ++ step ∷ []) ≡ orders_of past
    ++ step.effect.orders
orders_of-snoc past step = cc (flat_map-append (λ (s : Step). s.effect.orders) past _, append-nil step.effect.orders)

pub ending_of-snoc : (past : History) (step : Step) → ending_of (past ++ step ∷ []) ≡ or_else (closing step.item)
    (ending_of past)
ending_of-snoc past step = last_such-snoc (λ (s : Step). closing s.item) past step

-- a reading with a first value
pub unwrap_or-else : {A : Type 0} (a b : Option A) (first : A)
    → unwrap_or (or_else a b) first ≡ unwrap_or a (unwrap_or b first)
unwrap_or-else a b first = grind (arith, common_steps) steps 200000

pub reading-snoc : {A B : Type 0} (f : A → Option B) (xs : List A) (x : A) (first : B)
    → unwrap_or (last_such f (xs ++ x ∷ [])) first ≡ unwrap_or (f x) (unwrap_or (last_such f xs) first)
reading-snoc f xs x first = cc (last_such-snoc f xs x, unwrap_or-else (f x) (last_such f xs) first)

pub situation-snoc : (past : History) (step : Step) → situation (past ++ step ∷ []) ≡ unwrap_or (step_mark step)
    (situation past)
situation-snoc past step = reading-snoc step_mark past step Fresh

pub settings-snoc : (past : History) (step : Step) → settings (past ++ step ∷ []) ≡ unwrap_or
    (settings_by step.item step.answer) (settings past)
settings-snoc past step = reading-snoc (λ (s : Step). settings_by s.item s.answer) past step from_one

pub launched-snoc : (past : History) (step : Step) → launched (past ++ step ∷ []) ≡ or_else step.effect.launched
    (launched past)
launched-snoc past step = last_such-snoc (λ (s : Step). s.effect.launched) past step

pub position-snoc : (past : History) (step : Step) → position (past ++ step ∷ []) ≡ unwrap_or (end_of step.item)
    (position past)
position-snoc past step = reading-snoc (λ (s : Step). end_of s.item) past step 0

pub numbers-snoc : (past : History) (step : Step) → numbers (messages_of (past ++ step ∷ [])) ≡ numbers
    (messages_of past) ++ numbers (messages step)
numbers-snoc past step = cc (messages_of-snoc past step, filter_map-append output _ _)

pub numbers_told-snoc : (past : History) (step : Step) → numbers_told (past ++ step ∷ []) ≡ numbers_told past + length
    (numbers (messages step))
numbers_told-snoc past step = cc (numbers-snoc past step, length-append (numbers _) (numbers _))

pub reached-snoc : (past : History) (step : Step) → reached (past ++ step ∷ []) ≡ max (reached past)
    (unwrap_or (end_of step.item) 0)
reached-snoc [] step = grind arith
reached-snoc (s ∷ past) step = let e = reached-snoc past step in grind (arith, e)

-- where the program stands is no further than it has reached
pub position_reached : (past : History) → position past ≤ reached past
position_reached [] = omega arith
position_reached (step ∷ past) = grind (arith, common_steps, position_reached past, reached) steps 200000

pub plan-snoc : (past : History) (step : Step) → plan (past ++ step ∷ []) ≡ unwrap_or step.effect.put_in (plan past)
plan-snoc past step = reading-snoc (λ (s : Step). s.effect.put_in) past step no_plan

pub last_run-snoc : (past : History) (step : Step) → last_run (past ++ step ∷ []) ≡ or_else
    (last_such go step.effect.orders) (last_run past)
last_run-snoc past step = cc (orders_of-snoc past step, last_such-append go (orders_of past) step.effect.orders)

pub runs-snoc : (past : History) (step : Step) → runs (past ++ step ∷ []) ≡ runs past + length
    (filter_map go step.effect.orders)
runs-snoc past step =
    grind (arith, common_steps, filter_map, go, orders_of-snoc, filter_map-append, length-append) steps 200000

pub waiting_plan-snoc : (past : History) (step : Step) → waiting_plan (past ++ step ∷ []) ≡ unwrap_or (waits_by step)
    (waiting_plan past)
waiting_plan-snoc past step = reading-snoc waits_by past step None

pub waiting_pause-snoc : (past : History) (step : Step) → waiting_pause (past ++ step ∷ []) ≡ unwrap_or (pauses_by step)
    (waiting_pause past)
waiting_pause-snoc past step = reading-snoc pauses_by past step false

pub is_held-snoc : (past : History) (step : Step) → is_held (past ++ step ∷ []) ≡ unwrap_or
    (last_such hold_mark step.effect.orders) (is_held past)
is_held-snoc past step =
    cc (orders_of-snoc past step, last_such-append hold_mark _ step.effect.orders, unwrap_or-else _ _ false)

pub next_seq-snoc : (past : History) (step : Step) → next_seq (past ++ step ∷ []) ≡ next_seq past + length
    (messages step)
next_seq-snoc past step = grind (arith, common_steps, messages_of-snoc, length-append) steps 200000
