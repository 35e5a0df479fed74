-- Each run ends once.
use Rattle.std.specs.Prelude.{slice_get, codes, Result, Ok, Err}
use Rattle.std.proofs.Common.{◌≡◌, ◌+◌, ℕ, Bool, true, false, List, [], ◌∷◌, ◌++◌, ◌∙◌, refl, sym, ap, map, arith, Option, None, Some, inl, inr}
use Rattle.serde_json.specs.Data.{Data}
use Rattle.dap_bodies.specs.Events.{output}
use Rattle.dap_server.specs.Messages.{PlainEvent, PlainReply}
use Rattle.debuggee.specs.Plain.{PlainBreakpoint, PlainEvaluated, PlainFault, Value, NoValue, PlainHalt, AtBreakpoint, AtStep, AtEnd, AtFault, PlainOutput}
use Rattle.debuggee.specs.Due.{Sight}
use Rattle.debuggee.specs.Runs.{Meaning}
use Rattle.debuggee.specs.declared.mode.Mode.{Mode}
use Rattle.debuggee.specs.declared.mode.Mode.TheVariants as mode
use Rattle.dap_debug.specs.declared.command.Command.{Command}
use Rattle.dap_debug.specs.declared.command.Command.TheVariants as command
use Rattle.dap_debug.specs.declared.command.Resume.{Resume}
use Rattle.dap_debug.specs.declared.command.Question.{Question}
use Rattle.dap_debug.specs.declared.command.Question.TheVariants as question
use Rattle.byte_streams.specs.declared.files.FileFault.{FileFault}
use Rattle.dap_debug.specs.declared.state.Counting.{Counting}
use Rattle.dap_debug.specs.declared.state.Phase.{Phase}
use Rattle.dap_debug.specs.declared.state.Phase.TheVariants as phase
use Rattle.dap_debug.specs.Breakpoints.{SetsIn, Own, Other, SetsOnly, SetsFrom}
use Rattle.dap_bodies.specs.Arguments.{text_at}
use Rattle.dap_debug.specs.Inspecting.{AnswersQuestion, ShowsInside, ShowsScopes, ShowsScope, ShowsVariables, Evaluates, ShowsFrom, ExplainsFrom, reply_of}
use Rattle.dap_debug.specs.Loading.{FileRead, LoadsAs, LoadsText, LoadsRead, LoadsAt, LoadsFrom}
use Rattle.debuggee.specs.Shown.{PlainVariable, Shows}
use Rattle.debuggee.specs.declared.language.Page.{Page}
use Rattle.dap_debug.specs.Commands.{checked}
use Rattle.dap_debug.specs.Replies.{Answers, Known, RepliesTo}
use Rattle.dap_debug.specs.Running.{EntersFrom, GoesFrom, GoesOn, WorksOn, StartsFrom, ResumesFrom, PausesFrom, TerminatesFrom, IsRefused, ended, mode_of, phase_after}
use Rattle.dap_debug.specs.Standings.{Standing, program_in}
use Rattle.dap_debug.specs.Telling.{TellAll, Tells, category_of, merged, told_end}
use Rattle.dap_debug.specs.Laws.{ends_told, owed, asks}

ends_append : (xs ys : List PlainEvent) → ends_told (xs ++ ys) ≡ ends_told xs + ends_told ys
ends_append [] ys = omega arith
ends_append (x ∷ xs) ys = let more = ends_append xs ys in omega (arith, more)

none_in_pieces : (category : List ℕ) (pieces : List (List ℕ)) → ends_told (map (output category) pieces) ≡ 0
none_in_pieces category [] = refl
none_in_pieces category (piece ∷ pieces) = let more = none_in_pieces category pieces in omega (arith, more)

none_in_texts : (told : List PlainOutput) (events : List PlainEvent) → TellAll told events → ends_told events ≡ 0
none_in_texts [] events is = ap ends_told is
none_in_texts (text ∷ told) events is =
    let first = ap ends_told is.2.2 ∙ none_in_pieces (category_of text) is.2.0 in
    let more = none_in_texts told is.1 is.3 in
    let both = ends_append is.0 is.1 in
    let all = ap ends_told is.4 in
    omega (arith, first, more, both, all)

one_end : {S : Type 0} (halt : Option PlainHalt) (a : S) (how : Mode)
    → owed (phase_after halt a how) + ends_told (told_end halt) ≡ 1
one_end None a how = refl
one_end (Some AtBreakpoint) a how = refl
one_end (Some AtStep) a how = refl
one_end (Some (AtFault why)) a how = refl
one_end (Some (AtEnd status)) a how = refl

told_once : {S : Type 0} (told : List PlainOutput) (halt : Option PlainHalt) (events : List PlainEvent) (a : S)
    (how : Mode) → Tells told halt events → owed (phase_after halt a how) + ends_told events ≡ 1
told_once told halt events a how is =
    let both = ends_append is.0 (told_end halt) in
    let none = none_in_texts (merged told) is.0 is.1 in
    let one = one_end halt a how in
    let all = ap ends_told is.2 in
    omega (arith, both, none, one, all)

-- nothing is told, and the session stands as before
still : {S : Type 0} (stood stands : Standing S) (events : List PlainEvent) (p : Phase S) → events ≡ [] → stands ≡ stood
    → stood.phase ≡ p → owed stands.phase + ends_told events ≡ owed p
still stood stands events p none so is =
    let told = ap ends_told none in
    let owes = ap (λ (s : Standing _). owed s.phase) so ∙ ap owed is in
    omega (arith, told, owes)

worked : {S : Type 0} (takes : Meaning S) (sees : Sight S) (p : Phase S) (stood stands : Standing S)
    (events : List PlainEvent) → stood.phase ≡ p → GoesFrom takes sees p stood events stands
    → owed stands.phase + ends_told events ≡ owed p
worked takes sees (phase.Running a how) stood stands events at is =
    let once = told_once is.0.2 is.0.0 events is.0.1 how is.0.4 in
    let so = ap owed is.0.5 in
    omega (arith, once, so)
worked takes sees _ stood stands events at is = still stood stands events _ is.0 is.1 at

pub work_balanced : {S : Type 0} (takes : Meaning S) (sees : Sight S) (stood stands : Standing S)
    (events : List PlainEvent) → WorksOn takes sees stood events stands
    → owed stands.phase + ends_told events ≡ owed stood.phase
work_balanced takes sees stood stands events is = worked takes sees stood.phase stood stands events refl is

-- the reply is this one, and the session stands as before
quiet : {S : Type 0} (stood stands : Standing S) (reply says : PlainReply) (p : Phase S) → reply ≡ says
    → says.events ≡ [] → stands ≡ stood → stood.phase ≡ p → owed stands.phase + ends_told reply.events ≡ owed p
quiet stood stands reply says p is none so at = still stood stands reply.events p (cc) so at

refused : {S : Type 0} (stood stands : Standing S) (reply : PlainReply) (p : Phase S) → IsRefused stood reply stands
    → stood.phase ≡ p → owed stands.phase + ends_told reply.events ≡ owed p
refused stood stands reply p is at = quiet stood stands reply _ p is.0.1 refl is.1 at

-- the reply is this one, and the program has come so far
replied : {S : Type 0} (stands : Standing S) (now : Phase S) (reply says : PlainReply) (n : ℕ) → reply ≡ says
    → stands.phase ≡ now → owed now + ends_told says.events ≡ n → owed stands.phase + ends_told reply.events ≡ n
replied stands now reply says n is so sum =
    let told = ap (λ (r : PlainReply). ends_told r.events) is in
    let owes = ap owed so in
    omega (arith, told, owes, sum)

entered : {S : Type 0} (p : Phase S) (stood stands : Standing S) (events : List PlainEvent) → stood.phase ≡ p
    → EntersFrom p stood events stands → owed stands.phase + ends_told events ≡ owed p
entered (phase.Running a how) stood stands events at is =
    let told = ap ends_told is.0 in
    let owes = ap (λ (s : Standing _). owed s.phase) is.1 in
    omega (arith, told, owes)
entered _ stood stands events at is = still stood stands events _ is.0 is.1 at

goes_on : {S : Type 0} (takes : Meaning S) (sees : Sight S) (stop_on_entry : Bool) (stood stands : Standing S)
    (events : List PlainEvent) → GoesOn takes sees stop_on_entry stood events stands
    → owed stands.phase + ends_told events ≡ owed stood.phase
goes_on takes sees true stood stands events is = entered stood.phase stood stands events refl is
goes_on takes sees false stood stands events is = work_balanced takes sees stood stands events is

started : {S : Type 0} (takes : Meaning S) (sees : Sight S) (p : Phase S) (stood stands : Standing S)
    (reply : PlainReply) → stood.phase ≡ p → StartsFrom takes sees p stood reply stands
    → owed stands.phase + ends_told reply.events ≡ owed p + asks command.ConfigurationDone p
started takes sees (phase.Configuring a stop_on_entry) stood stands reply at is =
    let begun = is.1 in
    let once = told_once begun.arrives.1 begun.arrives.0 begun.first a mode.Continue begun.arrives.3 in
    let owes = ap owed begun.arrives.4 in
    let later = goes_on takes sees stop_on_entry begun.there stands begun.more begun.goes in
    let both = ends_append begun.first begun.more in
    let all = ap ends_told begun.events_are in
    let told = ap (λ (r : PlainReply). ends_told r.events) is.2 in
    omega (arith, once, owes, later, both, all, told)
started takes sees _ stood stands reply at is =
    let so = refused stood stands reply _ is at in omega (arith, so)

resumes : {S : Type 0} (takes : Meaning S) (sees : Sight S) (p : Phase S) (how : Resume) (stood stands : Standing S)
    (reply : PlainReply) → stood.phase ≡ p → ResumesFrom takes sees p how stood reply stands
    → owed stands.phase + ends_told reply.events ≡ owed p + asks (command.Resume how) p
resumes takes sees (phase.Stopped a) how stood stands reply at is =
    let once = told_once is.1.0.2 is.1.0.0 reply.events is.1.0.1 (mode_of how (sees.depth_of a)) is.1.0.4 in
    let so = ap owed is.1.0.5 in
    omega (arith, once, so)
resumes takes sees _ how stood stands reply at is =
    let so = refused stood stands reply _ is at in omega (arith, so)

paused : {S : Type 0} (p : Phase S) (stood stands : Standing S) (reply : PlainReply) → stood.phase ≡ p
    → PausesFrom p stood reply stands → owed stands.phase + ends_told reply.events ≡ owed p
paused (phase.Running a how) stood stands reply at is = replied stands (phase.Stopped a) reply _ 1 is.0 (cc is.1) refl
paused _ stood stands reply at is = refused stood stands reply _ is at

terminated : {S : Type 0} (p : Phase S) (stood stands : Standing S) (reply : PlainReply) → stood.phase ≡ p
    → TerminatesFrom (program_in p) (ended p) stood reply stands
    → owed stands.phase + ends_told reply.events ≡ owed p + asks command.Terminate p
terminated (phase.Running a how) stood stands reply at is = replied stands (phase.Ended a) reply _ 1 is.0 (cc is.1) refl
terminated (phase.Configuring a stop_on_entry) stood stands reply at is =
    replied stands (phase.Ended a) reply _ 1 is.0 (ap (λ (s : Standing _). s.phase) is.1) refl
terminated (phase.Stopped a) stood stands reply at is = replied stands (phase.Ended a) reply _ 1 is.0 (cc is.1) refl
terminated (phase.Ended a) stood stands reply at is = replied stands (phase.Ended a) reply _ 0 is.0 (cc is.1) refl
terminated phase.NoProgram stood stands reply at is =
    let so = quiet stood stands reply _ _ is.0 refl is.1 at in omega (arith, so)

loaded_as : {S : Type 0} (arguments : Option Data) (loaded : Result S (List ℕ)) (p : Phase S)
    (stood stands : Standing S) (reply : PlainReply) → stood.phase ≡ p → owed p ≡ 0
    → LoadsAs arguments loaded stood reply stands → owed stands.phase + ends_told reply.events ≡ owed p
loaded_as arguments (Ok program) p stood stands reply at none is =
    replied stands _ reply _ 0 is.0.reply_is is.0.phase_is refl ∙ sym none
loaded_as arguments (Err mistake) p stood stands reply at none is = quiet stood stands reply _ p is.0 refl is.1 at

loaded_text : {S : Type 0} (reads_as : List ℕ → List ℕ → Result S (List ℕ) → Type 0) (arguments : Option Data)
    (bytes : List ℕ) (p : Phase S) (stood stands : Standing S) (reply : PlainReply) → stood.phase ≡ p
    → owed p ≡ 0 → LoadsText reads_as arguments bytes stood reply stands
    → owed stands.phase + ends_told reply.events ≡ owed p
loaded_text reads_as arguments bytes p stood stands reply at none (inl is) =
    loaded_as arguments is.3 p stood stands reply at none is.5
loaded_text reads_as arguments bytes p stood stands reply at none (inr is) =
    quiet stood stands reply _ p is.1.0 refl is.1.1 at

loaded_read : {S : Type 0} (reads_as : List ℕ → List ℕ → Result S (List ℕ) → Type 0) (arguments : Option Data)
    (read : Result (List ℕ) FileFault) (p : Phase S) (stood stands : Standing S) (reply : PlainReply) → stood.phase ≡ p
    → owed p ≡ 0 → LoadsRead reads_as arguments read stood reply stands
    → owed stands.phase + ends_told reply.events ≡ owed p
loaded_read reads_as arguments (Err why) p stood stands reply at none is =
    quiet stood stands reply _ p is.0 refl is.1 at
loaded_read reads_as arguments (Ok bytes) p stood stands reply at none (inl is) =
    quiet stood stands reply _ p is.1.0 refl is.1.1 at
loaded_read reads_as arguments (Ok bytes) p stood stands reply at none (inr is) =
    loaded_text reads_as arguments bytes p stood stands reply at none is.1

loaded_at : {S : Type 0} (reads_as : List ℕ → List ℕ → Result S (List ℕ) → Type 0) (arguments : Option Data)
    (path : Option (List ℕ)) (file : FileRead) (p : Phase S) (stood stands : Standing S) (reply : PlainReply)
    → stood.phase ≡ p → owed p ≡ 0 → LoadsAt reads_as arguments path file stood reply stands
    → owed stands.phase + ends_told reply.events ≡ owed p
loaded_at reads_as arguments None file p stood stands reply at none is =
    quiet stood stands reply _ p is.1.0 refl is.1.1 at
loaded_at reads_as arguments (Some path) file p stood stands reply at none is =
    loaded_read reads_as arguments is.0 p stood stands reply at none is.2

loaded : {S : Type 0} (reads_as : List ℕ → List ℕ → Result S (List ℕ) → Type 0) (p : Phase S) (arguments : Option Data)
    (file : FileRead) (stood stands : Standing S) (reply : PlainReply) → stood.phase ≡ p
    → LoadsFrom reads_as p arguments file stood reply stands
    → owed stands.phase + ends_told reply.events ≡ owed p
loaded reads_as (phase.Running a how) arguments file stood stands reply at is =
    quiet stood stands reply _ _ is.1.0 refl is.1.1 at
loaded reads_as _ arguments file stood stands reply at is =
    loaded_at reads_as arguments (text_at (codes "program") arguments) file _ stood stands reply at refl is

set_in : {S : Type 0} (shows : Shows S) (less : ℕ) (a : S) (arguments : Option Data)
    (path : List ℕ) (old new : List PlainBreakpoint) (reply : PlainReply)
    → SetsIn shows less arguments a path old reply new → ends_told reply.events ≡ 0
set_in shows less a arguments path old new reply (Own source answers are is) = cc
set_in shows less a arguments path old new reply (Other source answers are is same) = cc

set_only : {S : Type 0} (shows : Shows S) (p : Phase S) (a : S)
    (arguments : Option Data) (stood stands : Standing S) (reply : PlainReply) → stood.phase ≡ p
    → SetsOnly shows arguments a stood reply stands → owed stands.phase + ends_told reply.events ≡ owed p
set_only shows p a arguments stood stands reply at is =
    let told = set_in shows _ a arguments _ _ _ reply is.0 in
    let owes = ap (λ (s : Standing _). owed s.phase) is.1 ∙ ap owed at in
    omega (arith, told, owes)

sets : {S : Type 0} (shows : Shows S) (program : Option S) (p : Phase S)
    (arguments : Option Data) (stood stands : Standing S) (reply : PlainReply) → stood.phase ≡ p
    → SetsFrom shows program arguments stood reply stands → owed stands.phase + ends_told reply.events ≡ owed p
sets shows None p arguments stood stands reply at is = refused stood stands reply p is at
sets shows (Some a) p arguments stood stands reply at is =
    set_only shows p a arguments stood stands reply at is

-- ---- questions

no_events : (reply says : PlainReply) → reply ≡ says → says.events ≡ [] → reply.events ≡ []
no_events reply says is none = ap (λ (r : PlainReply). r.events) is ∙ none

scopes_quiet : {S : Type 0} (shows : Shows S) (frame : Option ℕ) (a : S) (reply : PlainReply)
    → ShowsScopes shows frame a reply → reply.events ≡ []
scopes_quiet shows None a reply is = no_events reply _ is.1 refl
scopes_quiet shows (Some frame) a reply is = no_events reply _ is.2 refl

inside_quiet : (are_all : List PlainVariable → Type 0) (page : Page) (reply : PlainReply)
    → ShowsInside are_all page reply → reply.events ≡ []
inside_quiet are_all page reply (inl is) = no_events reply _ is.2 refl
inside_quiet are_all page reply (inr is) = no_events reply _ is.1 refl

scope_quiet : {S : Type 0} (shows : Shows S) (frame index : ℕ) (name : Option (List ℕ)) (page : Page) (a : S)
    (reply : PlainReply) → ShowsScope shows frame index name page a reply → reply.events ≡ []
scope_quiet shows frame index None page a reply is = no_events reply _ is.1 refl
scope_quiet shows frame index (Some name) page a reply is = no_events reply _ is.2 refl

variables_quiet : {S : Type 0} (shows : Shows S) (number frame : Option ℕ) (index : ℕ) (page : Page) (a : S)
    (reply : PlainReply) → ShowsVariables shows number frame index page a reply → reply.events ≡ []
variables_quiet shows (Some number) frame index page a reply is = inside_quiet _ page reply is
variables_quiet shows None None index page a reply is = no_events reply _ is.1 refl
variables_quiet shows None (Some frame) index page a reply is =
    scope_quiet shows frame index (slice_get is.0 index) page a reply is.2

value_quiet : (evaluated : PlainEvaluated) (reply : PlainReply) → reply ≡ reply_of evaluated → reply.events ≡ []
value_quiet (Value text holds) reply is = no_events reply _ is refl
value_quiet (NoValue why) reply is = no_events reply _ is refl

evaluate_quiet : {S : Type 0} (sees : Sight S) (expression : Option (List ℕ)) (frame : Option ℕ) (a : S)
    (reply : PlainReply) → Evaluates sees expression frame a reply → reply.events ≡ []
evaluate_quiet sees (Some expression) (Some frame) a reply is = value_quiet (sees.value_of a frame expression) reply is
evaluate_quiet sees _ frame a reply is = no_events reply _ is.1 refl

question_quiet : {S : Type 0} (sees : Sight S) (shows : Shows S) (asked : Question) (arguments : Option Data)
    (counting : Counting) (path : List ℕ) (a : S) (reply : PlainReply)
    → AnswersQuestion sees shows asked arguments counting path a reply
    → reply.events ≡ []
question_quiet sees shows question.StackTrace arguments counting path a reply is = no_events reply _ is.reply_is refl
question_quiet sees shows question.Scopes arguments counting path a reply is = scopes_quiet shows _ a reply is
question_quiet sees shows question.Variables arguments counting path a reply is =
    variables_quiet shows _ _ _ _ a reply is
question_quiet sees shows question.Evaluate arguments counting path a reply is = evaluate_quiet sees _ _ a reply is

inspects_quiet : {S : Type 0} (sees : Sight S) (shows : Shows S) (p : Phase S) (asked : Question)
    (arguments : Option Data) (counting : Counting) (path : List ℕ) (reply : PlainReply)
    → ShowsFrom sees shows p asked arguments counting path reply
    → reply.events ≡ []
inspects_quiet sees shows (phase.Stopped a) asked arguments counting path reply is =
    question_quiet sees shows asked arguments counting path a reply is
inspects_quiet sees shows _ asked arguments counting path reply is = no_events reply _ is.1 refl

explains_quiet : {S : Type 0} (p : Phase S) (fault : Option PlainFault) (reply : PlainReply)
    → ExplainsFrom p fault reply → reply.events ≡ []
explains_quiet (phase.Stopped a) (Some why) reply is = no_events reply _ is refl
explains_quiet _ fault reply is = no_events reply _ is.1 refl

-- ---- all

answers_balanced : {S : Type 0} (known : Known S) (asked : Command) (arguments : Option Data)
    (stood stands : Standing S) (reply : PlainReply) → Answers known asked arguments stood reply stands
    → owed stands.phase + ends_told reply.events ≡ owed stood.phase + asks asked stood.phase
answers_balanced known command.Initialize arguments stood stands reply is =
    let so = replied stands _ reply _ _ is.0 (ap (λ (s : Standing _). s.phase) is.1) refl in
    omega (arith, so)
answers_balanced known command.Launch arguments stood stands reply is =
    let so = loaded known.shows.reads_as stood.phase arguments is.0 stood stands reply refl is.1 in omega (arith, so)
answers_balanced known command.SetBreakpoints arguments stood stands reply is =
    let so = sets known.shows _ stood.phase arguments stood stands reply refl is in omega (arith, so)
answers_balanced known command.ConfigurationDone arguments stood stands reply is =
    started known.takes known.sees stood.phase stood stands reply refl is
answers_balanced known (command.Resume how) arguments stood stands reply is =
    resumes known.takes known.sees stood.phase how stood stands reply refl is
answers_balanced known command.Pause arguments stood stands reply is =
    let so = paused stood.phase stood stands reply refl is in omega (arith, so)
answers_balanced known command.Terminate arguments stood stands reply is =
    terminated stood.phase stood stands reply refl is
answers_balanced known (command.Inspect asked) arguments stood stands reply is =
    let none = inspects_quiet known.sees known.shows stood.phase asked arguments stood.counting stood.path reply is.0 in
    let so = still stood stands reply.events stood.phase none is.1 refl in
    omega (arith, so)
answers_balanced known command.ExceptionInfo arguments stood stands reply is =
    let none = explains_quiet stood.phase stood.fault reply is.0 in
    let so = still stood stands reply.events stood.phase none is.1 refl in
    omega (arith, so)
answers_balanced known _ arguments stood stands reply is =
    let so = quiet stood stands reply _ stood.phase is.0 refl is.1 refl in omega (arith, so)

pub replies_balanced : {S : Type 0} (known : Known S) (asked : Command) (arguments : Option Data)
    (stood stands : Standing S) (reply : PlainReply) → RepliesTo known asked arguments stood reply stands
    → owed stands.phase + ends_told reply.events ≡ owed stood.phase + asks (checked asked arguments) stood.phase
replies_balanced known asked arguments stood stands reply is =
    answers_balanced known (checked asked arguments) arguments stood stands reply is
