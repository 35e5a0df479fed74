-- Frames, scopes, variables and breakpoints, one after another.
use Rattle.std.proofs.Common.{◌≡◌, ◌<◌, ◌+◌, ℕ, List, [], ◌∷◌, ◌++◌, ◌∙◌, refl, sym, ap, subst, take, get_or, add-one, length, append_assoc, append-nil, arith}
use Rattle.std.specs.Prelude.{◌≢◌, map, codes, Option, Some, Result, Ok, Err, IfOk, String, string_bytes}
use Rattle.std.specs.Option.{option_to_list}
use Rattle.std.proofs.Math.Seq.{take-suc}
use Rattle.std.proofs.lemmas.List.{length_push, length-map, map-append}
use Rattle.serde_json.specs.Data.{Data, Items}
use Rattle.serde_json.specs.View.{view, items_of}
use Rattle.serde_json.specs.declared.value.Value.{Value}
use Rattle.dap_bodies.specs.Bodies.{ShownFrame, ShownBreakpoint, Refused, plain_shown_frame, plain_shown_scope, plain_shown_breakpoint}
use Rattle.dap_bodies.specs.declared.showing.StackFrame.{StackFrame}
use Rattle.dap_bodies.specs.declared.showing.Scope as bodies
use Rattle.dap_bodies.specs.declared.placing.Breakpoint.{Breakpoint as AnswerValue}
use Rattle.dap_server.specs.Messages.{PlainReply}
use Rattle.debuggee.specs.Plain.{PlainBreakpoint}
use Rattle.std.specs.declared.alloc.Global.{Global}
use Rattle.dap_debug.specs.declared.state.Counting.{Counting}
use Rattle.dap_debug.specs.Standings.{Standing, line_offset, program_in}
use Rattle.dap_bodies.specs.Arguments.{list_at}
use Rattle.debuggee.specs.Shown.{PlainFrame, Shows}
use Rattle.dap_debug.specs.Inspecting.{ShowsFrame, ShowFrames, shown_scope, shown_scopes}
use Rattle.dap_debug.specs.Breakpoints.{IsSet, AreSet, AreUnset, SetsIn, Own, Other, SetsOnly, Sets, answers_reply, source_asked}

-- ---- frames

shows_more : {S : Type 0} (frame_of : S → ℕ → PlainFrame → Type 0) (counting : Counting)
    (path : List ℕ) (a : S) (first index : ℕ)
    (shown : List ShownFrame) (one : ShownFrame) → ShowFrames frame_of counting path a first shown
    → length shown + first ≡ index
    → ShowsFrame frame_of counting path a index one → ShowFrames frame_of counting path a first (shown ++ one ∷ [])
shows_more frame_of counting path a first index [] one are at is =
    let e : index ≡ first = omega (arith, at) in (subst (λ n. ShowsFrame frame_of counting path a n one) e is, tt)
shows_more frame_of counting path a first index (x ∷ shown) one are at is =
    (are.0, shows_more frame_of counting path a (first + 1) index shown one are.1 (omega (arith, at)) is)

pub one_frame : {S : Type 0} (frame_of : S → ℕ → PlainFrame → Type 0) (counting : Counting)
    (path : List ℕ) (a : S) (first index : ℕ)
    (values new : List StackFrame) (value : StackFrame) → new ≡ values ++ value ∷ []
    → ShowFrames frame_of counting path a first (map plain_shown_frame values)
    → length (map plain_shown_frame values) + first ≡ index
    → ShowsFrame frame_of counting path a index (plain_shown_frame value)
    → ShowFrames frame_of counting path a first (map plain_shown_frame new)
    × (length (map plain_shown_frame new) + first ≡ index + 1)
one_frame frame_of counting path a first index values new value grown are at is =
    let all = ap (map plain_shown_frame) grown ∙ map-append plain_shown_frame values _ in
    let long = ap length all ∙ length_push _ _ in
    (rw all (shows_more frame_of counting path a first index _ _ are at is), omega (arith, long, at))

-- ---- scopes and variables

scopes_more : (frame index : ℕ) (names : List (List ℕ)) (one : List ℕ)
    → shown_scopes frame index (names ++ one ∷ [])
    ≡ shown_scopes frame index names ++ shown_scope frame (index + length names) one ∷ []
scopes_more frame index [] one =
    let e : index ≡ index + 0 = omega arith in ap (λ n. shown_scope frame n one ∷ []) e
scopes_more frame index (x ∷ names) one =
    let e : (index + 1) + length names ≡ index + length (x ∷ names) = omega arith in
    cc (scopes_more frame (index + 1) names one)

-- one scope more
pub one_scope : (frame : ℕ) (names : List (String Global)) (one : String Global) (values new : List bodies.Scope)
    (value : bodies.Scope) → new ≡ values ++ value ∷ []
    → map plain_shown_scope values ≡ shown_scopes frame 0 (map string_bytes names)
    → plain_shown_scope value ≡ shown_scope frame (length names) (string_bytes one)
    → map plain_shown_scope new ≡ shown_scopes frame 0 (map string_bytes (names ++ one ∷ []))
one_scope frame names one values new value grown are is =
    let same = length-map names string_bytes in
    let many : length names ≡ 0 + length (map string_bytes names) = omega (arith, same) in
    ap (map plain_shown_scope) grown ∙ map-append plain_shown_scope values (value ∷ [])
    ∙ ap (λ l. l ++ plain_shown_scope value ∷ []) are
    ∙ ap (λ d. shown_scopes frame 0 (map string_bytes names) ++ d ∷ [])
    (is ∙ ap (λ n. shown_scope frame n (string_bytes one)) many)
    ∙ sym (scopes_more frame 0 (map string_bytes names) (string_bytes one))
    ∙ ap (shown_scopes frame 0) (sym (map-append string_bytes names (one ∷ [])))

-- ---- breakpoints

-- what holds of a value, if there is one
pub on_ok : {A E : Type 0} (P Q : A → Type 0) (r : Result A E) → IfOk r P → ((a : A) → P a → Q a) → IfOk r Q
on_ok P Q (Ok a) is so = so a is
on_ok P Q (Err e) is so = tt

pub set_own : {S : Type 0} (shows : Shows S) (less : ℕ) (arguments : Option Data) (program : S)
    (path : List ℕ) (old new : List PlainBreakpoint) (reply : PlainReply) (asked : Items)
    (answers : List ShownBreakpoint)
    → asked ≡ list_at (codes "breakpoints") arguments → source_asked arguments ≡ Some path
    → AreSet shows less program asked answers new → reply ≡ answers_reply answers
    → SetsIn shows less arguments program path old reply new
set_own shows less arguments program path old new reply asked answers at own are is = Own own answers (rw (← at) are) is

pub refuse_other : {S : Type 0} (shows : Shows S) (less : ℕ) (arguments : Option Data)
    (program : S) (path : List ℕ) (old : List PlainBreakpoint) (reply : PlainReply) (asked : Items)
    (answers : List ShownBreakpoint)
    → asked ≡ list_at (codes "breakpoints") arguments → source_asked arguments ≢ Some path → AreUnset asked answers
    → reply ≡ answers_reply answers → SetsIn shows less arguments program path old reply old
refuse_other shows less arguments program path old reply asked answers at other are is =
    Other other answers (subst (λ l. AreUnset l answers) at are) is refl

pub set_within : {S : Type 0} (shows : Shows S) (arguments : Option Data) (program : S)
    (path : List ℕ) (less : ℕ) (stood stands : Standing S) (reply : PlainReply) → path ≡ stood.path
    → less ≡ line_offset stood.counting → stands ≡ record stood { breakpoints = stands.breakpoints }
    → SetsIn shows less arguments program path stood.breakpoints reply stands.breakpoints
    → SetsOnly shows arguments program stood reply stands
set_within shows arguments program path less stood stands reply at so only is = (rw (← at) (rw (← so) is), only)

pub sets_from : {S : Type 0} (shows : Shows S) (arguments : Option Data) (program : S)
    (stood stands : Standing S) (reply : PlainReply) → Some program ≡ program_in stood.phase
    → SetsOnly shows arguments program stood reply stands → Sets shows arguments stood reply stands
sets_from shows arguments program stood stands reply at is = rw (← at) is

set_more : {S : Type 0} (shows : Shows S) (less : ℕ) (a : S) (asked : List Data)
    (answers : List ShownBreakpoint) (set : List PlainBreakpoint) (more : Option PlainBreakpoint) (one : Data)
    (answer : ShownBreakpoint)
    → AreSet shows less a (items_of asked) answers set → IsSet shows less a one answer more
    → AreSet shows less a (items_of (asked ++ one ∷ [])) (answers ++ answer ∷ [])
    (set ++ option_to_list more)
set_more shows less a [] [] set more one answer are is = (more, [], cc (append-nil (option_to_list more)), is, refl)
set_more shows less a (x ∷ asked) (y ∷ answers) set more one answer are is = (
  are.0,
  are.1 ++ option_to_list more,
  ap (λ l. l ++ option_to_list more) are.2 ∙ append_assoc (option_to_list are.0) are.1 (option_to_list more),
  are.3,
  set_more shows less a asked answers are.1 more one answer are.4 is,
)
set_more shows less a _ _ set more one answer are is = absurd are

unset_more : (asked : List Data) (answers : List ShownBreakpoint) (one : Data) (answer : ShownBreakpoint)
    → AreUnset (items_of asked) answers → ((why : List ℕ) × (answer ≡ Refused why))
    → AreUnset (items_of (asked ++ one ∷ [])) (answers ++ answer ∷ [])
unset_more [] [] one answer are is = (is, tt)
unset_more (x ∷ asked) (y ∷ answers) one answer are is = (are.0, unset_more asked answers one answer are.1 is)
unset_more _ _ one answer are is = absurd are

-- one more of a slice
taken : (asked : List Value) (i : ℕ) (one : Value) → i < length asked → one ≡ get_or asked i one
    → map view (take (i + 1) asked) ≡ map view (take i asked) ++ view one ∷ []
taken asked i one within here =
    cc (add-one i, take-suc asked i one within, map-append view (take i asked) (get_or asked i one ∷ []))

grown_to : (answers new : List AnswerValue) (answer : AnswerValue) → new ≡ answers ++ answer ∷ []
    → map plain_shown_breakpoint new ≡ map plain_shown_breakpoint answers ++ plain_shown_breakpoint answer ∷ []
grown_to answers new answer grown = cc (map-append plain_shown_breakpoint answers (answer ∷ []))

pub one_set : {S : Type 0} (shows : Shows S) (less : ℕ) (a : S) (asked : List Value) (i : ℕ)
    (one : Value) (answers new : List AnswerValue) (answer : AnswerValue) (set all : List PlainBreakpoint)
    (more : Option PlainBreakpoint) → i < length asked
    → one ≡ get_or asked i one → new ≡ answers ++ answer ∷ [] → all ≡ set ++ option_to_list more
    → AreSet shows less a (items_of (map view (take i asked))) (map plain_shown_breakpoint answers) set
    → IsSet shows less a (view one) (plain_shown_breakpoint answer) more
    → AreSet shows less a (items_of (map view (take (i + 1) asked))) (map plain_shown_breakpoint new) all
one_set shows less a asked i one answers new answer set all more within here grown kept are is =
    rw (taken asked i one within here) (rw (grown_to answers new answer grown) (rw kept (set_more shows less a (map view
    (take i asked)) (map plain_shown_breakpoint answers) set more (view one) (plain_shown_breakpoint answer) are is)))

pub one_unset : (asked : List Value) (i : ℕ) (one : Value) (answers new : List AnswerValue) (answer : AnswerValue)
    (why : List ℕ) → i < length asked → one ≡ get_or asked i one → new ≡ answers ++ answer ∷ []
    → AreUnset (items_of (map view (take i asked))) (map plain_shown_breakpoint answers)
    → plain_shown_breakpoint answer ≡ Refused why
    → AreUnset (items_of (map view (take (i + 1) asked))) (map plain_shown_breakpoint new)
one_unset asked i one answers new answer why within here grown are is =
    rw (taken asked i one within here) (rw (grown_to answers new answer grown) (unset_more _ _ _ _ are (why, is)))
