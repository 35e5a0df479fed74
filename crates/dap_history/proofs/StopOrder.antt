-- The numbers reported before a stop or a log are exactly those written up to it, and before a stop so are the logs.
use Rattle.dap_history.proofs.Common.{Body, Breakpoint, Causes, CommandName, Content, Effect, Event, EventBody, HasEffect, History, Item, Launch, Launches, Log, Option, Outgoing, PlainReport, Refusal, Reply, Some, Step, WrittenJoins, [], filter_map, filter_map-append, log_events, log_of, messages, messages_of, output, outputs, refl, situation, subst, sym, ℕ, ◌++◌, ◌∙◌, ◌∷◌, ◌≡◌}
use Rattle.std.proofs.Common.{List, ℤ, arith}
use Rattle.std.specs.Prelude.{map, Bool, true, false, Result}
use Rattle.dap_msg.specs.declared.outgoing.Outgoing.TheVariants.{Answer}
use Rattle.dap_msg.specs.declared.outgoing.EventBody.TheVariants as event
use Rattle.dap_history.proofs.Texts.{OneProgram}
use Rattle.dap_history.specs.Laws.{StopsFollowNumbers, LogsFollowNumbers}
use Rattle.dap_history.proofs.Readings.{messages_of-snoc}
use Rattle.dap_history.proofs.Along.{IsLawfulEvent, IsTaken, lawful_events, along}
use Rattle.dap_history.proofs.Told.{numbers_in, numbers_of_logs}
use Rattle.dap_history.proofs.Silent.{LogsBy, no_logs, logs_first, all_silent}
use Rattle.dap_history.proofs.Outputs.{outputs_apart, following, report_events, following_numbers, following_texts}
use Rattle.dap_history.proofs.Went.{nothing_told}
use Rattle.dap_history.proofs.Progress.{Progress, progress_first, progress_kept, progress_more}
use Rattle.dap_history.proofs.Each.{WasTaken, each_kept, each_first}
use Rattle.dap_history.proofs.AfterStops.{NoneAfter, all_before, none_quiet}
use Rattle.std.proofs.lemmas.Grind.{common_steps}

abbrev pub IsStop : Outgoing → Type 0
IsStop (Event (event.Stopped r)) = Unit {0}
IsStop _ = ⊥

abbrev pub IsLog : Outgoing → Type 0
IsLog (Event (event.Log text)) = Unit {0}
IsLog _ = ⊥

-- ---- numbers and logs, and then other events

module _ (B : Type 0) (P : Outgoing → Type 0) (f : Outgoing → Option B) where
  abbrev QuietEvents : List EventBody → Type 0
  QuietEvents es = NoneAfter Outgoing B P f (map Event es)

  after_numbers : ((v : ℤ) → ¬ P (Event (event.Output v))) → (vs : List ℤ) (es : List EventBody) → QuietEvents es
      → QuietEvents (map event.Output vs ++ es)
  after_numbers not [] es quiet = quiet
  after_numbers not (v ∷ vs) es quiet = ((λ is. absurd (not v is)), after_numbers not vs es quiet)

  after_logs : ((text : List ℕ) → ¬ P (Event (event.Log text)))
      → (bs : List Breakpoint) (ls : List Log) (es : List EventBody) → QuietEvents es
      → QuietEvents (log_events bs ls ++ es)
  after_logs not bs [] es quiet = quiet
  after_logs not bs (l ∷ ls) es quiet = ((λ is. absurd (not _ is)), after_logs not bs ls es quiet)

  after_none : (es : List EventBody) → filter_map f (map Event es) ≡ [] → QuietEvents es
  after_none es none = none_quiet Outgoing B P f (map Event es) none

  -- ---- of steps

  unanswered_quiet : (step : Step) (effect : Effect) → HasEffect effect step → QuietEvents effect.events
      → NoneAfter Outgoing B P f (messages step)
  unanswered_quiet step effect has quiet = rw has.answer_is (rw has.effect_is quiet)

  answered_quiet : ((seq : ℕ) (command : CommandName) (result : Result Body Refusal) → ¬ P (Answer seq command result))
      → (seq : ℕ) (command : CommandName) (result : Result Body Refusal) (step : Step) (effect : Effect)
      → step.answer ≡ Some (Answer seq command result) → step.effect ≡ effect → QuietEvents effect.events
      → NoneAfter Outgoing B P f (messages step)
  answered_quiet not seq command result step effect answer is quiet = grind (arith, common_steps) steps 200000

  module _ (no_answer : (seq : ℕ) (command : CommandName) (result : Result Body Refusal)
      → ¬ P (Answer seq command result)) (of_reply : (past : History) (starts : Bool) (effect : Effect)
      → LogsBy (situation past) past effect.events starts → numbers_in effect.events ≡ [] → QuietEvents effect.events)
      (of_report : (past : History) (r : PlainReport) → QuietEvents (outputs past r ++ following past r.outcome))
      (of_initialized : QuietEvents (event.Initialized ∷ [])) where
    launch_quiet : (launch : Launch) (file : Option (List ℕ)) (reply : Reply) → Launches launch.arguments file reply
        → QuietEvents reply.effect.events
    launch_quiet launch file reply is = grind (arith, common_steps) steps 200000

    pub step_quiet : (past : History) (item : Item) (step : Step) → IsTaken IsLawfulEvent past item
        → Causes past item step → NoneAfter Outgoing B P f (messages step)
    step_quiet past (Content (Some request)) step taken is =
        let silent = all_silent (situation past) past request.body is.0 is.1 in
        answered_quiet no_answer _ _ _ step is.0.effect is.2.answer_is is.2.effect_is
        (of_reply past _ is.0.effect silent.logs silent.no_numbers)
    step_quiet past item step taken is =
        grind (arith, common_steps, answered_quiet, launch_quiet, unanswered_quiet, report_events, nothing_told) steps
        200000

-- ---- no number after a stop or a log, no log after a stop

report_numbers_quiet : (P : Outgoing → Type 0) → ((v : ℤ) → ¬ P (Event (event.Output v)))
    → (past : History) (r : PlainReport) → QuietEvents ℤ P output (outputs past r ++ following past r.outcome)
report_numbers_quiet P not past r =
    let rest = log_events r.plan r.logs ++ following past r.outcome in
    subst (QuietEvents ℤ P output) (sym (outputs_apart past r _)) (after_numbers ℤ P output not _ rest (after_none ℤ P
    output rest (numbers_of_logs r.plan r.logs _ ∙ following_numbers past r.outcome)))

report_texts_quiet : (past : History) (r : PlainReport) → QuietEvents (List ℕ) IsStop log_of
    (outputs past r ++ following past r.outcome)
report_texts_quiet past r =
    let rest = log_events r.plan r.logs ++ following past r.outcome in
    rw (outputs_apart past r _) (after_numbers _ IsStop log_of (λ v no. no) _ rest (after_logs _ IsStop log_of (λ text
    no. no) r.plan r.logs _ (after_none _ IsStop log_of _ (following_texts past r.outcome))))

reply_texts_quiet : (past : History) (starts : Bool) (effect : Effect)
    → LogsBy (situation past) past effect.events starts → numbers_in effect.events ≡ []
    → QuietEvents (List ℕ) IsStop log_of effect.events
reply_texts_quiet past false effect (no_logs none) no_numbers = after_none (List ℕ) IsStop log_of effect.events none
reply_texts_quiet past true effect (logs_first l more configuring there is none) no_numbers =
    rw is (after_logs (List ℕ) IsStop log_of (λ text no. no) _ _ more (after_none (List ℕ) IsStop log_of more none))

numbers_after_stops : (past : History) (step : Step) → IsTaken IsLawfulEvent past step.item → Causes past step.item step
    → NoneAfter Outgoing ℤ IsStop output (messages step)
numbers_after_stops past step =
    step_quiet ℤ IsStop output (λ seq command result no. no)
    (λ past starts effect logs none. after_none ℤ IsStop output effect.events none)
    (report_numbers_quiet IsStop (λ v no. no)) ((λ no. absurd no), tt)
    past step.item step

numbers_after_logs : (past : History) (step : Step) → IsTaken IsLawfulEvent past step.item → Causes past step.item step
    → NoneAfter Outgoing ℤ IsLog output (messages step)
numbers_after_logs past step =
    step_quiet ℤ IsLog output (λ seq command result no. no)
    (λ past starts effect logs none. after_none ℤ IsLog output effect.events none)
    (report_numbers_quiet IsLog (λ v no. no)) ((λ no. absurd no), tt)
    past step.item step

pub logs_after_stops : (past : History) (step : Step) → IsTaken IsLawfulEvent past step.item
    → Causes past step.item step → NoneAfter Outgoing (List ℕ) IsStop log_of (messages step)
logs_after_stops past step =
    step_quiet (List ℕ) IsStop log_of (λ seq command result no. no) reply_texts_quiet report_texts_quiet
    ((λ no. absurd no), tt)
    past step.item step

-- ---- along a history

-- what a message of this kind stands after
pub all_so_far : (B : Type 0) (P : Outgoing → Type 0) (f : Outgoing → Option B) (front : History) (step : Step)
    (before : List Outgoing) (x : Outgoing) (after : List Outgoing)
    → P x → filter_map f (x ∷ []) ≡ [] → NoneAfter Outgoing B P f (messages step) → messages step ≡ before ++ x ∷ after
    → filter_map f (messages_of front ++ before) ≡ filter_map f (messages_of (front ++ step ∷ []))
all_so_far B P f front step before x after kind none quiet split =
    grind (arith, common_steps, filter_map-append, filter_map, all_before, messages_of-snoc) steps 200000

module _ (one : OneProgram) (joins : WrittenJoins) where
  abbrev Was : History → Step → Type 0
  Was front step = WasTaken IsLawfulEvent Progress front step

  now : (front : History) (step : Step) → Was front step → Progress (front ++ step ∷ [])
  now front step was = progress_more one joins front step.item step refl was.taken was.causes was.held

  pub stops_follow : StopsFollowNumbers
  stops_follow f events past rest lawful history front step more past_is l is before reason after split =
      let all = along IsLawfulEvent _ (each_kept IsLawfulEvent Progress (progress_kept one joins)) (each_first
      IsLawfulEvent Progress (progress_first one joins)) f events past rest (lawful_events events lawful) history in
      let was = all.each front step more past_is in
      all_so_far ℤ IsStop output front step before _ after tt refl (numbers_after_stops front step was.taken was.causes)
      split ∙ ((now front step was).progress (Some l) is).0

  pub logs_follow : LogsFollowNumbers
  logs_follow f events past rest lawful history front step more past_is l is before text after split =
      let all = along IsLawfulEvent _ (each_kept IsLawfulEvent Progress (progress_kept one joins)) (each_first
      IsLawfulEvent Progress (progress_first one joins)) f events past rest (lawful_events events lawful) history in
      let was = all.each front step more past_is in
      all_so_far ℤ IsLog output front step before _ after tt refl (numbers_after_logs front step was.taken was.causes)
      split ∙ ((now front step was).progress (Some l) is).0
