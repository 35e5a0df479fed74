-- A session that was closed by the end of its input has taken that event, and Quit is its last order.
use Rattle.dap_history.proofs.Common.{Breakpoint, Causes, Close, Command, Content, Dialect, Ending, File, Go, History, Hold, Incoming, IsAfter, IsHistoryOf, IsTaking, Item, Launch, Launched, Launches, None, Option, PlainOrder, PlainReport, Quit, Reaction, ReadFailed, Reason, RepliesIn, Reply, Rest, Situation, SliceOutcome, Some, Step, [], ap, closing, closing_command, closing_report, effect_in, ending_of, enters, hold_once, inl, inr, orders_of, refl, reply_of, report_effect, runs, situation, subst, sym, ℕ, ◌++◌, ◌∙◌, ◌∷◌, ◌≡◌, ◌⊎◌}
use Rattle.std.proofs.Common.{List, arith}
use Rattle.dap_msg.specs.declared.command.Command.TheVariants as command
use Rattle.dap_history.specs.declared.ending.Closed.{Closed}
use Rattle.dap_history.specs.declared.ending.Closed.TheVariants as closed
use Rattle.dap_history.specs.declared.ending.Ending.TheVariants as ending
use Rattle.dap_history.specs.Interleaving.{Load, IsLoad, Interleaves}
use Rattle.dap_history.specs.Events.{End}
use Rattle.dap_history.specs.Laws.{IsAmong, QuitIsLast, EndsWithQuit, QuitCloses}
use Rattle.dap_history.proofs.Readings.{or_else-none, orders_of-snoc, ending_of-snoc}
use Rattle.dap_history.proofs.Reacted.{Reacted, by_setting, replied, by_reaction}
use Rattle.dap_history.proofs.Along.{IsTaken, IsKept, AllEvents, any_events, along}
use Rattle.std.proofs.lemmas.Grind.{common_steps}

-- a session that took the item goes on only where the item doesn't close
pub ends_by : (past : History) (item : Item) (new : History) → IsTaking past → IsAfter past item new
    → ending_of new ≡ closing item
ends_by past item new taking after = cc (after.new_is, ending_of-snoc past after.step, after.item_is, or_else-none _)

-- ---- the event that closed the session

module _ (own : Incoming) (is_own : (e : Incoming) → (own ≡ e) ⊎ ¬ (own ≡ e)) where
  stands_or_not : (events : List Incoming) → IsAmong own events ⊎ AllEvents (λ e. ¬ (own ≡ e)) events
  stands_or_not [] = inr tt
  stands_or_not (e ∷ events) = onward (is_own e) (stands_or_not events)
    where
      onward : (own ≡ e) ⊎ ¬ (own ≡ e) → IsAmong own events ⊎ AllEvents (λ x. ¬ (own ≡ x)) events
          → IsAmong own (e ∷ events) ⊎ AllEvents (λ x. ¬ (own ≡ x)) (e ∷ events)
      onward (inl same) there = inl ([], events, ap (λ x. x ∷ events) (sym same))
      onward (inr other) (inl there) = inl (e ∷ there.0, there.1, ap (λ l. e ∷ l) there.2)
      onward (inr other) (inr none) = inr (other, none)

  module _ (by : Closed) (asked : ¬ (closed.Disconnected ≡ by)) (at_end : closed.InputEnded ≡ by → own ≡ End)
      (at_failure : closed.ReadFailed ≡ by → own ≡ ReadFailed) where
    abbrev IsNotClosed : History → Type 0
    IsNotClosed past = ¬ (ending_of past ≡ Some (ending.Closed by))

    command_not : (c : Command) → ¬ (closing_command c ≡ Some (ending.Closed by))
    command_not c is = grind (arith, common_steps) steps 200000

    report_not : (outcome : SliceOutcome) → ¬ (closing_report outcome ≡ Some (ending.Closed by))
    report_not outcome is = grind (arith, common_steps) steps 200000

    -- no item closes so that another event brings
    item_not : (past : History) (item : Item) → IsTaken (λ e. ¬ (own ≡ e)) past item
        → ¬ (closing item ≡ Some (ending.Closed by))
    item_not past item taken is = grind (arith, common_steps, command_not, report_not) steps 200000

    not_closed_kept : IsKept (λ e. ¬ (own ≡ e)) IsNotClosed
    not_closed_kept = record {
      step = λ past item new taking taken after here is. item_not past item taken
          (sym (ends_by past item new taking after) ∙ is);
    }

    closed_by : (f : Dialect) (events : List Incoming) (past : History) (rest : Rest) → IsHistoryOf f events past rest
        → ending_of past ≡ Some (ending.Closed by) → IsAmong own events
    closed_by f events past rest history is = found (stands_or_not events)
      where
        found : IsAmong own events ⊎ AllEvents (λ e. ¬ (own ≡ e)) events → IsAmong own events
        found (inl there) = there
        found (inr none) =
            absurd (along (λ e. ¬ (own ≡ e)) IsNotClosed not_closed_kept (λ first. absurd cc) f events past rest none
            history is)

is_end : (e : Incoming) → (End ≡ e) ⊎ ¬ (End ≡ e)
is_end e = grind (arith, common_steps) steps 200000

is_failure : (e : Incoming) → (ReadFailed ≡ e) ⊎ ¬ (ReadFailed ≡ e)
is_failure e = grind (arith, common_steps) steps 200000

-- A session that the input's end closed has taken it.
pub closed_by_end : (f : Dialect) (events : List Incoming) (past : History) (rest : Rest)
    → IsHistoryOf f events past rest
    → ending_of past ≡ Some (ending.Closed closed.InputEnded) → IsAmong End events
closed_by_end = closed_by End is_end closed.InputEnded (λ same. absurd cc) (λ same. refl) (λ same. absurd cc)

-- A session that a failed read closed has taken it.
pub closed_by_failure : (f : Dialect) (events : List Incoming) (past : History) (rest : Rest)
    → IsHistoryOf f events past rest
    → ending_of past ≡ Some (ending.Closed closed.ReadFailed) → IsAmong ReadFailed events
closed_by_failure =
    closed_by ReadFailed is_failure closed.ReadFailed (λ same. absurd cc) (λ same. absurd cc) (λ same. refl)

-- ---- Quit among orders

abbrev NoQuit : List PlainOrder → Type 0
NoQuit [] = Unit {0}
NoQuit (Go run ∷ orders) = NoQuit orders
NoQuit (Hold run ∷ orders) = NoQuit orders
NoQuit (Quit ∷ orders) = ⊥

no_quit-append : (xs ys : List PlainOrder) → NoQuit xs → NoQuit ys → NoQuit (xs ++ ys)
no_quit-append (Go run ∷ xs) ys a b = no_quit-append xs ys a b
no_quit-append (Hold run ∷ xs) ys a b = no_quit-append xs ys a b
no_quit-append xs ys a b = grind (arith, common_steps) steps 200000

abbrev later_orders : List PlainOrder → List PlainOrder
later_orders [] = []
later_orders (order ∷ orders) = orders

no_quit_in : (orders front more : List PlainOrder) → NoQuit orders → ¬ (orders ≡ front ++ Quit ∷ more)
no_quit_in [] [] more quiet is = absurd cc
no_quit_in (Quit ∷ orders) front more quiet is = quiet
no_quit_in (Go run ∷ orders) (x ∷ front) more quiet is = no_quit_in orders front more quiet (ap later_orders is)
no_quit_in (Hold run ∷ orders) (x ∷ front) more quiet is = no_quit_in orders front more quiet (ap later_orders is)
no_quit_in _ _ more quiet is = absurd cc

quit_ends : (orders front more : List PlainOrder) → NoQuit orders → orders ++ Quit ∷ [] ≡ front ++ Quit ∷ more
    → more ≡ []
quit_ends [] [] more quiet is = sym (ap later_orders is)
quit_ends [] (x ∷ []) more quiet is = let e = ap later_orders is in absurd cc
quit_ends [] (x ∷ y ∷ front) more quiet is = let e = ap later_orders is in absurd cc
quit_ends (Quit ∷ orders) front more quiet is = absurd quiet
quit_ends (Go run ∷ orders) (x ∷ front) more quiet is = quit_ends orders front more quiet (ap later_orders is)
quit_ends (Hold run ∷ orders) (x ∷ front) more quiet is = quit_ends orders front more quiet (ap later_orders is)
quit_ends _ [] more quiet is = absurd cc

-- ---- which replies order Quit

abbrev OrdersNoQuit : Reply → Type 0
OrdersNoQuit reply = NoQuit reply.effect.orders

quiet_if : (reply other : Reply) → OrdersNoQuit other → reply ≡ other → OrdersNoQuit reply
quiet_if reply other quiet is = subst OrdersNoQuit (sym is) quiet

hold_quiet : (past : History) → NoQuit (hold_once past)
hold_quiet past = grind (arith, common_steps, runs) steps 200000

effect_quiet : (s : Situation) (past : History) (bs : List Breakpoint) → NoQuit (effect_in s past bs).orders
effect_quiet s past bs = grind (arith, common_steps, hold_quiet) steps 200000

enters_quiet : (past : History) (l : Launched) (why : Option Reason) → NoQuit (enters past l why).orders
enters_quiet past l why = grind (arith, common_steps) steps 200000

-- a Quit alone, where the session is closed by no fault; else orders without a Quit
abbrev QuitsBy : List PlainOrder → Option Ending → Type 0
QuitsBy orders (Some (ending.Closed by)) = orders ≡ Quit ∷ []
QuitsBy orders _ = NoQuit orders

-- the reaction to another command than `disconnect`
reaction_quiet : (past : History) {s : Situation} {asked : Command} {reaction : Reaction}
    → Reacted past s asked reaction
    → ¬ (asked ≡ command.Disconnect) → NoQuit (reply_of past reaction).effect.orders
reaction_quiet past (by_setting s a l found bs there path_is resolved) other = effect_quiet (situation past) past bs
reaction_quiet past is other = grind (arith, common_steps, effect_quiet, enters_quiet, hold_quiet) steps 200000

replies_quit : (s : Situation) (past : History) (asked : Command) (reply : Reply) → RepliesIn s past asked reply
    → QuitsBy reply.effect.orders (closing_command asked)
replies_quit s past command.Disconnect reply is = ap (λ (r : Reply). r.effect.orders) (replied Close is is.reacts)
replies_quit s past asked reply is =
    by_reaction OrdersNoQuit (λ reaction reacted. reaction_quiet past reacted (λ same. absurd cc)) is

launches_quiet : (launch : Launch) (file : Option (List ℕ)) (reply : Reply) → Launches launch.arguments file reply
    → OrdersNoQuit reply
launches_quiet launch file reply is = grind (arith, common_steps, quiet_if) steps 200000

report_quiet : (past : History) (r : PlainReport) (outcome : SliceOutcome)
    → NoQuit (report_effect past r outcome).orders
report_quiet past r outcome = grind (arith, common_steps) steps 200000

-- a report orders none, also where it closes the session
report_quits : (past : History) (outcome : SliceOutcome) (orders : List PlainOrder) → NoQuit orders
    → QuitsBy orders (closing_report outcome)
report_quits past outcome orders quiet = grind (arith, common_steps) steps 200000

-- What an item orders has a Quit just where the item closes the session by no fault.
item_quits : (past : History) (item : Item) (step : Step) → Causes past item step
    → QuitsBy step.effect.orders (closing item)
item_quits past (Content (Some request)) step is = rw is.2.effect_is (replies_quit _ past request.body is.0 is.1)
item_quits past item step is = grind (arith, common_steps, launches_quiet, report_quits, report_quiet) steps 200000

-- ---- Quit is ordered last

-- while the session takes items, none was ordered; and nothing is ordered after one
record Quits (past : History) : Type 0 where
  pub before : IsTaking past → NoQuit (orders_of past)
  pub last : (front more : List PlainOrder) → orders_of past ≡ front ++ Quit ∷ more → more ≡ []
  pub closes : EndsWithQuit (ending_of past) (orders_of past)

-- how the orders so far end with those of one more item
quits_more : (past : History) (item : Item) (new : History) → IsTaking past → IsAfter past item new → Quits past
    → Quits new
quits_more past item new taking after here = by_closing _ refl (item_quits past item after.step after.causes)
  where
    orders_are : orders_of new ≡ orders_of past ++ after.step.effect.orders
    orders_are = ap orders_of after.new_is ∙ orders_of-snoc past after.step

    ends : ending_of new ≡ closing item
    ends = ends_by past item new taking after

    none_ordered : NoQuit after.step.effect.orders → NoQuit (orders_of new)
    none_ordered quiet = grind (arith, common_steps, no_quit-append) steps 200000

    if_quiet : NoQuit after.step.effect.orders → EndsWithQuit (ending_of new) (orders_of new) → Quits new
    if_quiet quiet closes = record {
      before = λ still. none_ordered quiet;
      last = λ front more is. absurd (no_quit_in (orders_of new) front more (none_ordered quiet) is);
      closes = closes;
    }

    by_closing : (closes : Option Ending) → closing item ≡ closes → QuitsBy after.step.effect.orders (closing item)
        → Quits new
    by_closing None is by_quit =
        let quiet : NoQuit after.step.effect.orders = subst (QuitsBy after.step.effect.orders) is by_quit in
        if_quiet quiet (subst (λ e. EndsWithQuit e (orders_of new)) (sym (ends ∙ is))
        (λ front back there. no_quit_in (orders_of new) front back (none_ordered quiet) there))
    by_closing (Some (ending.Fault fault)) is by_quit =
        let quiet : NoQuit after.step.effect.orders = subst (QuitsBy after.step.effect.orders) is by_quit in
        if_quiet quiet (subst (λ e. EndsWithQuit e (orders_of new)) (sym (ends ∙ is))
        (λ front back there. no_quit_in (orders_of new) front back (none_ordered quiet) there))
    by_closing (Some (ending.Closed by)) is by_quit =
        let alone : after.step.effect.orders ≡ Quit ∷ [] = subst (QuitsBy after.step.effect.orders) is by_quit in
        let parts : orders_of new ≡ orders_of past ++ Quit ∷ [] = orders_are ∙ ap (λ l. orders_of past ++ l) alone in
        record {
          before = λ still. let e = sym still ∙ ends ∙ is in absurd cc;
          last = λ front more there. quit_ends (orders_of past) front more (here.before taking) (sym parts ∙ there);
          closes = subst (λ e. EndsWithQuit e (orders_of new)) (sym (ends ∙ is)) (orders_of past, parts);
        }

quits_kept : IsKept (λ e. Unit {0}) Quits
quits_kept = record { step = λ past item new taking taken after here. quits_more past item new taking after here }

quits_first : Quits []
quits_first = record {
  before = λ taking. tt;
  last = λ front more is. absurd (no_quit_in [] front more tt is);
  closes = λ front back is. no_quit_in [] front back tt is;
}

-- Nothing is ordered after a Quit.
pub quit_is_last : QuitIsLast
quit_is_last f events past rest history =
    (along (λ e. Unit {0}) Quits quits_kept quits_first f events past rest (any_events events) history).last

-- A session that was closed by no fault has ordered Quit.
pub quit_closes : QuitCloses
quit_closes f events past rest history =
    (along (λ e. Unit {0}) Quits quits_kept quits_first f events past rest (any_events events) history).closes

-- ---- what an inbox gave

abbrev pub IsFile : Incoming → Type 0
IsFile (File file) = Unit {0}
IsFile _ = ⊥

only_files_load : (dialect : Dialect) (before : List Incoming) (e : Incoming) (load : Load) → ¬ IsFile e
    → ¬ IsLoad dialect before e load
only_files_load f before e load no_file is = grind (arith, common_steps) steps 200000

abbrev pub first_event : Incoming → List Incoming → Incoming
first_event other [] = other
first_event other (e ∷ events) = e

abbrev pub later_events : List Incoming → List Incoming
later_events [] = []
later_events (e ∷ events) = events

-- An event that is no file comes from the inbox.
pub interleaved_event : (dialect : Dialect) (own : Incoming) → ¬ IsFile own
    → (before events given : List Incoming) (loads : List Load)
    → Interleaves dialect before events given loads
    → (front back : List Incoming) → events ≡ front ++ own ∷ back → (f : List Incoming) × (b : List Incoming)
    × (given ≡ f ++ own ∷ b)
interleaved_event f own no_file before [] given loads from [] back is = absurd cc
interleaved_event f own no_file before [] given loads from (x ∷ front) back is = absurd cc
interleaved_event f own no_file before (e ∷ events) given loads (inl from) [] back is =
    absurd (only_files_load f before e from.0 (λ file. no_file (subst IsFile (ap (first_event own) is) file)) from.3)
interleaved_event f own no_file before (e ∷ events) given loads (inl from) (x ∷ front) back is =
    interleaved_event f own no_file (before ++ e ∷ []) events given from.1 from.4 front back (ap later_events is)
interleaved_event f own no_file before (e ∷ events) given loads (inr from) [] back is = ([], from.0, cc from.1)
interleaved_event f own no_file before (e ∷ events) given loads (inr from) (x ∷ front) back is =
    let there = interleaved_event f own no_file _ events from.0 loads from.3 front back (ap later_events is) in
    (e ∷ there.0, there.1, from.1 ∙ ap (λ l. e ∷ l) there.2)

pub interleaved_end : (dialect : Dialect) (events given : List Incoming) (loads : List Load)
    → Interleaves dialect [] events given loads
    → (front back : List Incoming) → events ≡ front ++ End ∷ back
    → (f : List Incoming) × (b : List Incoming) × (given ≡ f ++ End ∷ b)
interleaved_end f events given loads from front back is =
    interleaved_event f End (λ file. file) [] events given loads from front back is

pub interleaved_failure : (dialect : Dialect) (events given : List Incoming) (loads : List Load)
    → Interleaves dialect [] events given loads
    → (front back : List Incoming) → events ≡ front ++ ReadFailed ∷ back
    → (f : List Incoming) × (b : List Incoming) × (given ≡ f ++ ReadFailed ∷ b)
interleaved_failure f events given loads from front back is =
    interleaved_event f ReadFailed (λ file. file) [] events given loads from front back is
