-- What a request asks is what its content says.
use Rattle.dap_msg.proofs.Common.{[], AsksQuestion, IsQuestionCalled, All, and_from, and_parts, ap, ArgumentsAreMembers, arith, array, as_array, as_bool, as_str, AsksBreakpoint, AsksEvaluate, AsksInitialize, AsksLaunch, AsksScopes, AsksSetBreakpoints, AsksStackTrace, AsksThread, AsksVariables, Bool, boolean, breakpoint_of_object, codes, Command, command_of, command_text, Data, false, fitted_or_bad, from_four, from_three, from_two, get, is_some, IsAsked, IsCalled, IsGiven, IsPrintable, item, Items, last_line, last_whole, le-leb, leb-true, length, List, Members, nat_le, no_items, no_members, None, not-true, number, object, object_or_empty, only_object, Option, option_and_then, option_map, optional, or_default, read_each, refl, required, scopes_arguments, set_breakpoints_arguments, Some, some_text, source_breakpoint, source_breakpoints, source_path, stack_trace_arguments, string, subst, supported_command, sym, text_limit, text_to, true, true≢false, unsigned, unwrap_or, variables_arguments, whole, whole_to, ℕ, ◌∙◌, ◌∷◌, ◌≡◌, ◌≤◌}
use Rattle.std.specs.Option.{option_map_or}
use Rattle.std.proofs.lemmas.Slice.Eq.{bytes_eq-Decides}
use Rattle.dap_msg.specs.Evaluate.{evaluate_arguments}
use Rattle.dap_msg.specs.Initialize.{initialize_arguments}
use Rattle.dap_msg.specs.Launch.{is_path, path, debugs, launch_arguments}
use Rattle.dap_msg.specs.Members.{Has, HasOr, IsObjectOrAbsent, SayEach}
use Rattle.dap_msg.specs.Questions.{kind_of, question_text, question_of}
use Rattle.dap_msg.specs.Resume.{resume_text, retreat_text, thread_arguments}
use Rattle.dap_msg.specs.declared.command.Command.TheVariants as command
use Rattle.dap_msg.specs.declared.command.Supported.{Supported}
use Rattle.dap_msg.specs.declared.command.Supported.TheVariants as supported
use Rattle.dap_msg.specs.declared.question.Question.{Question}
use Rattle.dap_msg.specs.declared.question.Question.TheVariants as question
use Rattle.dap_msg.specs.declared.question.QuestionKind.{QuestionKind}
use Rattle.dap_msg.specs.declared.question.QuestionKind.TheVariants as kind
use Rattle.dap_msg.specs.declared.requests.evaluate.EvaluateArguments.{EvaluateArguments}
use Rattle.dap_msg.specs.declared.requests.initialize.InitializeArguments.{InitializeArguments}
use Rattle.dap_msg.specs.declared.requests.launch.LaunchArguments.{LaunchArguments}
use Rattle.dap_msg.specs.declared.requests.resume.ResumeKind.{ResumeKind}
use Rattle.dap_msg.specs.declared.requests.resume.ResumeKind.TheVariants as resume
use Rattle.dap_msg.specs.declared.requests.resume.RetreatKind.{RetreatKind}
use Rattle.dap_msg.specs.declared.requests.resume.RetreatKind.TheVariants as retreat
use Rattle.dap_msg.specs.declared.requests.resume.ThreadArguments.{ThreadArguments}
use Rattle.dap_msg.specs.declared.requests.scopes.ScopesArguments.{ScopesArguments}
use Rattle.dap_msg.specs.declared.requests.set_breakpoints.SetBreakpointsArguments.{SetBreakpointsArguments}
use Rattle.dap_msg.specs.declared.requests.set_breakpoints.SourceBreakpoint.{SourceBreakpoint}
use Rattle.dap_msg.specs.declared.requests.stack_trace.StackTraceArguments.{StackTraceArguments}
use Rattle.dap_msg.specs.declared.requests.variables.VariablesArguments.{VariablesArguments}
use Rattle.dap_msg.proofs.Ascii.{printable_is, printable_back}
use Rattle.dap_msg.proofs.Names.{names_are_read_back}
use Rattle.dap_msg.proofs.Options.{and_then_is, map_is, filter_is, kept_by, text_is, whole_is}
use Rattle.dap_msg.proofs.WellFormed.{named_is, named_so, parts_of, value_is}
use Rattle.std.proofs.lemmas.Grind.{common_steps}

-- ---- ways of reading a value

-- the values that are read are those that show such a result, and each of these is read
record Reads (A : Type 0) (read : Data → Option A) (shown : A → Data) (P : A → Type 0) : Type 0 where
  turned : (d : Data) (x : A) → read d ≡ Some x → (d ≡ shown x) × P x
  back : (x : A) → P x → read (shown x) ≡ Some x
  same : (x y : A) → shown x ≡ shown y → x ≡ y

bool_is : (d : Data) (b : Bool) → as_bool d ≡ Some b → d ≡ boolean b
bool_is (boolean c) b is = let same : c ≡ b = cc in ap boolean same
bool_is _ b is = absurd (cc)

array_is : (d : Data) (ds : Items) → as_array d ≡ Some ds → d ≡ array ds
array_is (array es) ds is = let same : es ≡ ds = cc in ap array same
array_is _ ds is = absurd (cc)

bools : Reads Bool as_bool boolean (λ b. Unit {0})
bools = grind (arith, common_steps, bool_is) steps 1500000

abbrev as_whole : ℕ → Data
as_whole n = number (unsigned n)

wholes : (limit : ℕ) → Reads ℕ (whole_to limit) as_whole (λ n. n ≤ limit)
wholes limit = grind (arith, common_steps, filter_is, whole, whole_is, leb-true, kept_by, le-leb) steps 1500000

texts : (limit : ℕ) → Reads (List ℕ) (text_to limit) string (λ s. length s ≤ limit)
texts limit = record {
  turned = λ d s is. let kept =
      filter_is (λ t. nat_le (length t) limit) (as_str d) s is in
      (text_is d s kept.0, leb-true (length s) limit kept.1);
  back = λ s le. kept_by (λ t. nat_le (length t) limit) s (le-leb (length s) limit le);
  same = λ s t is. cc;
}

abbrev IsPath : List ℕ → Type 0
IsPath s = (1 ≤ length s) × (length s ≤ 255) × All IsPrintable s

path_is : (s : List ℕ) → is_path s ≡ true → IsPath s
path_is s is = grind (arith, common_steps, and_parts, leb-true, length, printable_is) steps 1500000

path_back : (s : List ℕ) → IsPath s → is_path s ≡ true
path_back s is = grind (arith, common_steps, and_from, le-leb, length, printable_back) steps 1500000

paths : Reads (List ℕ) path string IsPath
paths = grind (arith, common_steps, filter_is, text_is, path_is, kept_by, path_back) steps 1500000

read_false : (b : Bool) → b ≡ false → debugs (boolean b) ≡ Some b
read_false true is = absurd (true≢false is)
read_false false is = refl

no_debugs : Reads Bool debugs boolean (λ b. b ≡ false)
no_debugs = grind (arith, common_steps, filter_is, bool_is, not-true, read_false) steps 1500000

-- ---- members

-- the object whose members the arguments are
record IsObjectOf (given : Option Data) (d : Data) : Type 0 where
  well : IsObjectOrAbsent given
  is : object_or_empty given ≡ Some d
  same : (key : List ℕ) → get key d ≡ option_and_then (get key) given

object_of : (given : Option Data) (d : Data) → object_or_empty given ≡ Some d → IsObjectOf given d
object_of None d is = grind (arith, common_steps, get) steps 1500000
object_of (Some (object ms)) d is = grind (arith, common_steps, get) steps 1500000
object_of _ d is = absurd (cc)

object_given : (given : Option Data) → IsObjectOrAbsent given → (d : Data) × IsObjectOf given d
object_given None well = (object no_members, record { well = tt; is = refl; same = λ key. refl })
object_given (Some (object ms)) well = (object ms, record { well = tt; is = refl; same = λ key. refl })
object_given _ well = absurd well

default_is : {A : Type 0} {read : Data → Option A} {shown : A → Data} {P : A → Type 0} → Reads A read shown P
    → (default : A) → P default → (o : Option Data) (x : A) → or_default default read o ≡ Some x
    → (unwrap_or o (shown default) ≡ shown x) × P x
default_is {shown = shown} {P = P} reads default fits None x is = grind (arith, common_steps) steps 1500000
default_is reads default fits (Some d) x is = reads.turned d x is

default_back : {A : Type 0} {read : Data → Option A} {shown : A → Data} {P : A → Type 0} → Reads A read shown P
    → (default : A) (o : Option Data) (x : A) → unwrap_or o (shown default) ≡ shown x → P x
    → or_default default read o ≡ Some x
default_back reads default None x is fits = ap Some (reads.same default x is)
default_back {read = read} reads default (Some d) x is fits = ap read is ∙ reads.back x fits

has : {A : Type 0} {read : Data → Option A} {shown : A → Data} {P : A → Type 0} {given : Option Data} {d : Data}
    → Reads A read shown P → IsObjectOf given d → (key : List ℕ) (x : A) → required read key d ≡ Some x
    → Has key (shown x) given × P x
has {read = read} {d = d} reads o key x is =
    let found = and_then_is read (get key d) x is in
    let turned = reads.turned found.0 x found.2 in
    (sym (o.same key) ∙ found.1 ∙ ap Some turned.0, turned.1)

has_or : {A : Type 0} {read : Data → Option A} {shown : A → Data} {P : A → Type 0} {given : Option Data} {d : Data}
    → Reads A read shown P → IsObjectOf given d → (key : List ℕ) (default : A) → P default → (x : A)
    → optional read key default d ≡ Some x → HasOr (shown default) key (shown x) given × P x
has_or {shown = shown} {d = d} reads o key default fits x is =
    let found = default_is reads default fits (get key d) x is in
    (ap (λ m. unwrap_or m (shown default)) (sym (o.same key)) ∙ found.0, found.1)

is_read : {A : Type 0} {read : Data → Option A} {shown : A → Data} {P : A → Type 0} {given : Option Data} {d : Data}
    → Reads A read shown P → IsObjectOf given d → (key : List ℕ) (x : A) → Has key (shown x) given → P x
    → required read key d ≡ Some x
is_read {read = read} reads o key x found fits = ap (option_and_then read) (o.same key ∙ found) ∙ reads.back x fits

is_read_or : {A : Type 0} {read : Data → Option A} {shown : A → Data} {P : A → Type 0} {given : Option Data} {d : Data}
    → Reads A read shown P → IsObjectOf given d → (key : List ℕ) (default x : A)
    → HasOr (shown default) key (shown x) given → P x → optional read key default d ≡ Some x
is_read_or {shown = shown} {d = d} reads o key default x found fits =
    default_back reads default (get key d) x (ap (λ m. unwrap_or m (shown default)) (o.same key) ∙ found) fits

-- ---- two and more members

two_is : {A B C : Type 0} (make : A → B → C) (o : Option A) (p : Option B) (z : C) → from_two make o p ≡ Some z
    → (x : A) × (y : B) × (o ≡ Some x) × (p ≡ Some y) × (make x y ≡ z)
two_is make o p z is = grind (arith, common_steps, and_then_is, map_is) steps 1500000

two_back : {A B C : Type 0} (make : A → B → C) (o : Option A) (p : Option B) (x : A) (y : B) → o ≡ Some x → p ≡ Some y
    → from_two make o p ≡ Some (make x y)
two_back make o p x y is so = rw (is, so)

three_is : {A B C D : Type 0} (make : A → B → C → D) (o : Option A) (p : Option B) (q : Option C) (z : D)
    → from_three make o p q ≡ Some z
    → (x : A) × (y : B) × (w : C) × (o ≡ Some x) × (p ≡ Some y) × (q ≡ Some w) × (make x y w ≡ z)
three_is make o p q z is = grind (arith, common_steps, and_then_is, two_is) steps 1500000

three_back : {A B C D : Type 0} (make : A → B → C → D) (o : Option A) (p : Option B) (q : Option C) (x : A) (y : B)
    (w : C) → o ≡ Some x → p ≡ Some y → q ≡ Some w → from_three make o p q ≡ Some (make x y w)
three_back make o p q x y w is so thus = rw (is, so, thus)

four_is : {A B C D E : Type 0} (make : A → B → C → D → E) (o : Option A) (p : Option B) (q : Option C) (r : Option D)
    (z : E) → from_four make o p q r ≡ Some z
    → (x : A) × (y : B) × (w : C) × (v : D) × (o ≡ Some x) × (p ≡ Some y) × (q ≡ Some w) × (r ≡ Some v)
    × (make x y w v ≡ z)
four_is make o p q r z is = grind (arith, common_steps, and_then_is, three_is) steps 1500000

four_back : {A B C D E : Type 0} (make : A → B → C → D → E) (o : Option A) (p : Option B) (q : Option C) (r : Option D)
    (x : A) (y : B) (w : C) (v : D) → o ≡ Some x → p ≡ Some y → q ≡ Some w → r ≡ Some v
    → from_four make o p q r ≡ Some (make x y w v)
four_back make o p q r x y w v is so thus then = rw (is, so, thus, then)

-- ---- the arguments of each command

asks_initialize : (given : Option Data) (d : Data) (x : InitializeArguments) → IsObjectOf given d
    → initialize_arguments d ≡ Some x → AsksInitialize x given
asks_initialize given d x o is = grind (arith, common_steps, two_is, true, has_or, bools) steps 1500000

initialize_read : (given : Option Data) (d : Data) (x : InitializeArguments) → IsObjectOf given d
    → AsksInitialize x given → initialize_arguments d ≡ Some x
initialize_read given d x o asks = grind (arith, common_steps, two_back, is_read_or, bools, true) steps 1500000

asks_launch : (given : Option Data) (d : Data) (x : LaunchArguments) → IsObjectOf given d
    → launch_arguments d ≡ Some x → AsksLaunch x given
asks_launch given d x o is =
    let parts = three_is _ (optional debugs (codes "noDebug") false d) (required path (codes "program") d) (optional
    as_bool (codes "stopOnEntry") false d) x is in
    let no_debug = has_or no_debugs o (codes "noDebug") false refl parts.0 parts.3 in
    let program = has paths o (codes "program") parts.1 parts.4 in
    grind (arith, common_steps, has_or, bools, false) steps 1500000

launch_read : (given : Option Data) (d : Data) (x : LaunchArguments) → IsObjectOf given d → AsksLaunch x given
    → launch_arguments d ≡ Some x
launch_read given d x o asks =
    grind (arith, common_steps, three_back, false, is_read_or, no_debugs, is_read, paths, bools) steps 1500000

asks_thread : (given : Option Data) (d : Data) (x : ThreadArguments) → IsObjectOf given d
    → thread_arguments d ≡ Some x → AsksThread x given
asks_thread given d x o is = grind (arith, common_steps, map_is, has, wholes) steps 1500000

thread_read : (given : Option Data) (d : Data) (x : ThreadArguments) → IsObjectOf given d → AsksThread x given
    → thread_arguments d ≡ Some x
thread_read given d x o asks = cc (is_read (wholes last_whole) o (codes "threadId") x.thread_id asks.thread asks.small)

asks_stack_trace : (given : Option Data) (d : Data) (x : StackTraceArguments) → IsObjectOf given d
    → stack_trace_arguments d ≡ Some x → AsksStackTrace x given
asks_stack_trace given d x o is = grind (arith, common_steps, three_is, has, wholes, has_or) steps 1500000

stack_trace_read : (given : Option Data) (d : Data) (x : StackTraceArguments) → IsObjectOf given d
    → AsksStackTrace x given → stack_trace_arguments d ≡ Some x
stack_trace_read given d x o asks = grind (arith, common_steps, three_back, is_read, wholes, is_read_or) steps 1500000

asks_scopes : (given : Option Data) (d : Data) (x : ScopesArguments) → IsObjectOf given d
    → scopes_arguments d ≡ Some x → AsksScopes x given
asks_scopes given d x o is = grind (arith, common_steps, map_is, has, wholes) steps 1500000

scopes_read : (given : Option Data) (d : Data) (x : ScopesArguments) → IsObjectOf given d → AsksScopes x given
    → scopes_arguments d ≡ Some x
scopes_read given d x o asks = cc (is_read (wholes last_whole) o (codes "frameId") x.frame_id asks.frame asks.small)

asks_variables : (given : Option Data) (d : Data) (x : VariablesArguments) → IsObjectOf given d
    → variables_arguments d ≡ Some x → AsksVariables x given
asks_variables given d x o is = grind (arith, common_steps, map_is, has, wholes) steps 1500000

variables_read : (given : Option Data) (d : Data) (x : VariablesArguments) → IsObjectOf given d
    → AsksVariables x given → variables_arguments d ≡ Some x
variables_read given d x o asks = cc (is_read (wholes last_whole) o _ x.variables_reference asks.reference asks.small)

asks_evaluate : (given : Option Data) (d : Data) (x : EvaluateArguments) → IsObjectOf given d
    → evaluate_arguments d ≡ Some x → AsksEvaluate x given
asks_evaluate given d x o is = grind (arith, common_steps, two_is, has, texts, has_or, wholes) steps 1500000

evaluate_read : (given : Option Data) (d : Data) (x : EvaluateArguments) → IsObjectOf given d → AsksEvaluate x given
    → evaluate_arguments d ≡ Some x
evaluate_read given d x o asks = grind (arith, common_steps, two_back, is_read, texts, is_read_or, wholes) steps 1500000

-- ---- the arguments of `setBreakpoints`

asks_breakpoint_of : (d e : Data) (x : SourceBreakpoint) → IsObjectOf (Some d) e → breakpoint_of_object e ≡ Some x
    → AsksBreakpoint x d
asks_breakpoint_of d e x o is =
    let parts = four_is _ (required (whole_to last_line) (codes "line") e) (optional (text_to text_limit) (codes
    "condition") [] e) (optional (text_to text_limit) (codes "hitCondition") [] e) (optional (text_to text_limit) (codes
    "logMessage") [] e) x is in
    grind (arith, common_steps, has, wholes, last_line, has_or, texts) steps 1500000

-- a value that is an object is the object of its members
object_in : (d e : Data) → only_object d ≡ Some e → IsObjectOf (Some d) e
object_in d e is = object_of (Some d) e is

asks_breakpoint : (x : SourceBreakpoint) (d : Data) → source_breakpoint d ≡ Some x → AsksBreakpoint x d
asks_breakpoint x d is =
    let found = and_then_is breakpoint_of_object (only_object d) x is in
    asks_breakpoint_of d found.0 x (object_in d found.0 found.1) found.2

breakpoint_read_of : (d e : Data) (x : SourceBreakpoint) → IsObjectOf (Some d) e → AsksBreakpoint x d
    → breakpoint_of_object e ≡ Some x
breakpoint_read_of d e x o asks =
    grind (arith, common_steps, four_back, is_read, wholes, last_line, is_read_or, texts) steps 1500000

breakpoint_read : (x : SourceBreakpoint) (d : Data) → AsksBreakpoint x d → source_breakpoint d ≡ Some x
breakpoint_read x d asks = grind (arith, common_steps, object_given, breakpoint_read_of) steps 1500000

each_asks : (ds : Items) (xs : List SourceBreakpoint) → read_each source_breakpoint ds ≡ Some xs
    → SayEach AsksBreakpoint xs ds
each_asks no_items xs is = let same : [] ≡ xs = cc in subst (λ ys. SayEach AsksBreakpoint ys no_items) same tt
each_asks (item d ds) xs is =
    let first = and_then_is _ (source_breakpoint d) xs is in
    let rest = map_is (λ ys. first.0 ∷ ys) (read_each source_breakpoint ds) xs first.2 in
    rw (← rest.2) (asks_breakpoint first.0 d first.1, each_asks ds rest.0 rest.1)

each_read : (ds : Items) (xs : List SourceBreakpoint) → SayEach AsksBreakpoint xs ds
    → read_each source_breakpoint ds ≡ Some xs
each_read no_items [] each = refl
each_read no_items (x ∷ xs) each = absurd each
each_read (item d ds) [] each = absurd each
each_read (item d ds) (x ∷ xs) each = rw (breakpoint_read x d each.0, each_read ds xs each.1)

-- the breakpoints that a member lists
record Lists (m : Option Data) (xs : List SourceBreakpoint) : Type 0 where
  items : Items
  are : unwrap_or m (array no_items) ≡ array items
  each : SayEach AsksBreakpoint xs items
  not_many : length xs ≤ 256

listed : (m : Option Data) (xs : List SourceBreakpoint) → or_default [] source_breakpoints m ≡ Some xs → Lists m xs
listed None xs is =
    let same : [] ≡ xs = cc in
    subst (Lists None) same (record { items = no_items; are = refl; each = tt; not_many = omega arith })
listed (Some d) xs is =
    grind (arith, common_steps, filter_is, and_then_is, array_is, each_asks, leb-true, length) steps 1500000

-- an array of none lists none
none_listed : (xs : List SourceBreakpoint) (items : Items) → array no_items ≡ array items
    → SayEach AsksBreakpoint xs items → [] ≡ xs
none_listed [] items is each = refl
none_listed (x ∷ xs) no_items is each = absurd each
none_listed (x ∷ xs) (item d ds) is each = absurd (cc)

listed_back : (m : Option Data) (xs : List SourceBreakpoint) → Lists m xs → or_default [] source_breakpoints m ≡ Some xs
listed_back None xs lists = ap Some (none_listed xs lists.items lists.are lists.each)
listed_back (Some d) xs lists = grind (arith, common_steps, each_read, kept_by, length, le-leb) steps 1500000

-- the path of a source is its member `path`, if it has one
path_of_member : (m : Option Data) (p : Option (List ℕ)) → or_default None some_text m ≡ Some p
    → m ≡ option_map string p
path_of_member None p is = let same : None ≡ p = cc in ap (option_map string) same
path_of_member (Some d) p is = grind (arith, common_steps, map_is, text_is) steps 1500000

path_back_of : (m : Option Data) (p : Option (List ℕ)) → m ≡ option_map string p → or_default None some_text m ≡ Some p
path_back_of m None is = rw is
path_back_of m (Some s) is = rw is

-- the source is an object, with that path
record IsSource (m : Option Data) (p : Option (List ℕ)) : Type 0 where
  members : Members
  is : m ≡ Some (object members)
  has_path : get (codes "path") (object members) ≡ option_map string p

only_members : (d e : Data) → only_object d ≡ Some e → (ms : Members) × (d ≡ object ms) × (e ≡ object ms)
only_members (object ms) e is = let same : object ms ≡ e = cc in (ms, refl, sym same)
only_members _ e is = absurd (cc)

source_is : (m : Option Data) (p : Option (List ℕ)) → option_and_then source_path m ≡ Some p → IsSource m p
source_is m p is = grind (arith, common_steps, and_then_is, only_members, path_of_member, get) steps 1500000

source_back : (m : Option Data) (p : Option (List ℕ)) (ms : Members) → m ≡ Some (object ms)
    → get (codes "path") (object ms) ≡ option_map string p → option_and_then source_path m ≡ Some p
source_back m p ms is has_path = rw is (path_back_of (get (codes "path") (object ms)) p has_path)

asks_set_breakpoints : (given : Option Data) (d : Data) (x : SetBreakpointsArguments) → IsObjectOf given d
    → set_breakpoints_arguments d ≡ Some x → AsksSetBreakpoints x given
asks_set_breakpoints given d x o is =
    let parts = two_is _ (required source_path (codes "source") d) (optional source_breakpoints (codes "breakpoints") []
    d) x is in
    let source = source_is (get (codes "source") d) parts.0 parts.2 in
    let lists = listed (get (codes "breakpoints") d) parts.1 parts.3 in
    grind (arith, common_steps, path) steps 1500000

set_breakpoints_read : (given : Option Data) (d : Data) (x : SetBreakpointsArguments) → IsObjectOf given d
    → AsksSetBreakpoints x given → set_breakpoints_arguments d ≡ Some x
set_breakpoints_read given d x o asks =
    two_back _ _ _ x.path x.breakpoints
    (source_back (get (codes "source") d) x.path asks.source (o.same (codes "source") ∙ asks.has_source) asks.path)
    (listed_back (get (codes "breakpoints") d) x.breakpoints (record {
      items = asks.breakpoints;
      are = ap (λ m. unwrap_or m (array no_items)) (o.same (codes "breakpoints")) ∙ asks.has_breakpoints;
      each = asks.each;
      not_many = asks.not_many;
    }))

-- ---- commands

-- what is asked of an object is asked of the arguments
asked_of : {A : Type 0} {read : Data → Option A} (Asks : A → Option Data → Type 0) (given : Option Data) (x : A)
    → ((d : Data) → IsObjectOf given d → read d ≡ Some x → Asks x given)
    → option_and_then read (object_or_empty given) ≡ Some x → Asks x given
asked_of {read = read} Asks given x each is = grind (arith, common_steps, and_then_is, object_of) steps 1500000

read_of : {A : Type 0} {read : Data → Option A} (given : Option Data) (x : A) → IsObjectOrAbsent given
    → ((d : Data) → IsObjectOf given d → read d ≡ Some x) → option_and_then read (object_or_empty given) ≡ Some x
read_of {read = read} given x well each = grind (arith, common_steps, object_given) steps 1500000

-- arguments that are read make the command
made : {A : Type 0} (make : A → Command) (k : Supported) (o : Option A) (x : A) → o ≡ Some x
    → unwrap_or (option_map make o) (command.BadArguments k) ≡ make x
made make k o x is = rw is

-- the command of the name that a supported one has
by_name : (k : Supported) (name : List ℕ) (given : Option Data) → name ≡ command_text k
    → command_of name given ≡ fitted_or_bad given k
by_name k name given is = cc (names_are_read_back k)

-- a line that names a kind makes `_` stand for each other kind
resume_named : (kind : ResumeKind) (x : ThreadArguments) (name : List ℕ) → IsCalled (command.Resume kind x) name
    → name ≡ resume_text kind
resume_named resume.Continue x name called = called
resume_named _ x name called = called

resume_called : (kind : ResumeKind) (x : ThreadArguments) (name : List ℕ) → name ≡ resume_text kind
    → IsCalled (command.Resume kind x) name
resume_called resume.Continue x name is = is
resume_called _ x name is = is

retreat_named : (kind : RetreatKind) (x : ThreadArguments) (name : List ℕ) → IsCalled (command.Retreat kind x) name
    → name ≡ retreat_text kind
retreat_named retreat.StepBack x name called = called
retreat_named _ x name called = called

retreat_called : (kind : RetreatKind) (x : ThreadArguments) (name : List ℕ) → name ≡ retreat_text kind
    → IsCalled (command.Retreat kind x) name
retreat_called retreat.StepBack x name is = is
retreat_called _ x name is = is

question_named : (q : Question) (name : List ℕ) → IsQuestionCalled q name → name ≡ question_text (kind_of q)
question_named (question.StackTrace x) name called = called
question_named _ name called = called

question_well : (q : Question) (given : Option Data) → AsksQuestion q given → IsObjectOrAbsent given
question_well (question.StackTrace x) given asks = asks.given_well
question_well (question.Scopes x) given asks = asks.given_well
question_well (question.Variables x) given asks = asks.given_well
question_well (question.Evaluate x) given asks = asks.given_well

question_read : (q : Question) (given : Option Data) (d : Data) → IsObjectOf given d → AsksQuestion q given
    → question_of (kind_of q) d ≡ Some q
question_read (question.StackTrace x) given d o asks = grind (arith, common_steps, stack_trace_read) steps 1500000
question_read (question.Scopes x) given d o asks = ap (option_map question.Scopes) (scopes_read given d x o asks)
question_read (question.Variables x) given d o asks =
    ap (option_map question.Variables) (variables_read given d x o asks)
question_read (question.Evaluate x) given d o asks = ap (option_map question.Evaluate) (evaluate_read given d x o asks)

-- a command that is asked is read
asked_is_read : (c : Command) (name : List ℕ) (given : Option Data) → IsCalled c name → IsGiven c given
    → command_of name given ≡ c
asked_is_read (command.Initialize x) name given called asks =
    grind (arith, common_steps, by_name, made, read_of, initialize_read) steps 1500000
asked_is_read (command.Launch x) name given called asks =
    by_name supported.Launch name given called ∙ made command.Launch supported.Launch _ x
    (read_of given x asks.given_well (λ d o. launch_read given d x o asks))
asked_is_read (command.SetBreakpoints x) name given called asks =
    by_name supported.SetBreakpoints name given called ∙ made command.SetBreakpoints supported.SetBreakpoints _ x
    (read_of given x asks.given_well (λ d o. set_breakpoints_read given d x o asks))
asked_is_read command.ConfigurationDone name given called asks = by_name supported.ConfigurationDone name given called
asked_is_read command.Threads name given called asks = by_name supported.Threads name given called
asked_is_read (command.Resume kind x) name given called asks =
    grind (arith, common_steps, by_name, resume_named, made, read_of, thread_read) steps 1500000
asked_is_read (command.Retreat kind x) name given called asks =
    grind (arith, common_steps, by_name, retreat_named, made, read_of, thread_read) steps 1500000
asked_is_read (command.Pause x) name given called asks =
    grind (arith, common_steps, by_name, made, read_of, thread_read) steps 1500000
asked_is_read (command.Inspect q) name given called asks =
    grind (arith, common_steps, by_name, question_named, made, read_of, question_well, question_read) steps 1500000
asked_is_read command.Disconnect name given called asks = by_name supported.Disconnect name given called
asked_is_read _ name given called asks = absurd called

kind_supported : (k : QuestionKind) → is_some (supported_command (question_text k)) ≡ true
kind_supported kind.StackTrace = refl
kind_supported _ = refl

-- the name of a command is that of a supported one
called_supported : (c : Command) (name : List ℕ) → IsCalled c name → is_some (supported_command name) ≡ true
called_supported (command.Unsupported text) name called = absurd called
called_supported (command.BadArguments k) name called = absurd called
called_supported (command.Resume resume.Continue x) name called = ap (λ t. is_some (supported_command t)) called
called_supported (command.Retreat retreat.StepBack x) name called = ap (λ t. is_some (supported_command t)) called
called_supported (command.Inspect q) name called = cc (question_named q name called, kind_supported (kind_of q))
called_supported _ name called = ap (λ t. is_some (supported_command t)) called

not_called : (c : Command) (name : List ℕ) → supported_command name ≡ None → IsCalled c name → ⊥
not_called c name none called = true≢false (sym (called_supported c name called) ∙ ap is_some none)

-- arguments that can't be read are bad: none of the command are given
bad : (k : Supported) (name : List ℕ) (given : Option Data) → command_of name given ≡ command.BadArguments k
    → (c : Command) → IsCalled c name → IsGiven c given → ⊥
bad k name given is c called asks =
    subst (λ e. IsGiven e given) (sym (asked_is_read c name given called asks) ∙ is) asks

asked_made : {A : Type 0} (make : A → Command) (k : Supported) (o : Option A) (name : List ℕ) (given : Option Data)
    → ((c : Command) × IsCalled c name) → command_of name given ≡ unwrap_or (option_map make o) (command.BadArguments k)
    → ((x : A) → o ≡ Some x → IsAsked (make x) name given)
    → IsAsked (unwrap_or (option_map make o) (command.BadArguments k)) name given
asked_made make k None name given some is each = (some, bad k name given is)
asked_made make k (Some x) name given some is each = each x refl

-- the question that is read has the arguments that are read
question_is : {A : Type 0} (ask : A → Question) (read : Data → Option A) (given : Option Data) (q : Question)
    → option_and_then (λ d. option_map ask (read d)) (object_or_empty given) ≡ Some q
    → (x : A) × (d : Data) × IsObjectOf given d × (read d ≡ Some x) × (ask x ≡ q)
question_is ask read given q is = grind (arith, common_steps, and_then_is, map_is, object_of) steps 1500000

question_asked : (k : QuestionKind) (name : List ℕ) (given : Option Data) → name ≡ question_text k → (q : Question)
    → option_and_then (question_of k) (object_or_empty given) ≡ Some q → IsAsked (command.Inspect q) name given
question_asked kind.StackTrace name given called q is =
    let read = question_is question.StackTrace stack_trace_arguments given q is in
    rw (← read.4) (called, asks_stack_trace given read.1 read.0 read.2 read.3)
question_asked kind.Scopes name given called q is = grind (arith, common_steps, question_is, asks_scopes) steps 1500000
question_asked kind.Variables name given called q is =
    let read = question_is question.Variables variables_arguments given q is in
    rw (← read.4) (called, asks_variables given read.1 read.0 read.2 read.3)
question_asked kind.Evaluate name given called q is =
    let read = question_is question.Evaluate evaluate_arguments given q is in
    rw (← read.4) (called, asks_evaluate given read.1 read.0 read.2 read.3)

-- some question is called so
some_question : (k : QuestionKind) (name : List ℕ) → name ≡ question_text k → (c : Command) × IsCalled c name
some_question kind.StackTrace name is =
    (command.Inspect (question.StackTrace (record { thread_id = 0; start_frame = 0; levels = 0 })), is)
some_question kind.Scopes name is = (command.Inspect (question.Scopes (record { frame_id = 0 })), is)
some_question kind.Variables name is = (command.Inspect (question.Variables (record { variables_reference = 0 })), is)
some_question kind.Evaluate name is =
    (command.Inspect (question.Evaluate (record { expression = []; frame_id = 0 })), is)

abbrev any_thread : ThreadArguments
any_thread = record { thread_id = 0 }

read_is_asked : (k : Supported) (name : List ℕ) (given : Option Data) → name ≡ command_text k
    → command_of name given ≡ fitted_or_bad given k → IsAsked (fitted_or_bad given k) name given
read_is_asked supported.Initialize name given called is =
    asked_made command.Initialize supported.Initialize _ name given
    (command.Initialize (record { lines_start_at_1 = true; columns_start_at_1 = true }), called) is
    (λ x read. (called, asked_of AsksInitialize given x (λ d o. asks_initialize given d x o) read))
read_is_asked supported.Launch name given called is =
    asked_made command.Launch supported.Launch _ name given
    (command.Launch (record { program = []; stop_on_entry = false }), called) is
    (λ x read. (called, asked_of AsksLaunch given x (λ d o. asks_launch given d x o) read))
read_is_asked supported.SetBreakpoints name given called is =
    asked_made command.SetBreakpoints supported.SetBreakpoints _ name given
    (command.SetBreakpoints (record { path = None; breakpoints = [] }), called) is
    (λ x read. (called, asked_of AsksSetBreakpoints given x (λ d o. asks_set_breakpoints given d x o) read))
read_is_asked (supported.Resume kind) name given called is =
    asked_made (command.Resume kind) (supported.Resume kind) _ name given
    (command.Resume kind any_thread, resume_called kind any_thread name called) is
    (λ x read. (resume_called kind x name called, asked_of AsksThread given x (λ d o. asks_thread given d x o) read))
read_is_asked (supported.Retreat kind) name given called is =
    asked_made (command.Retreat kind) (supported.Retreat kind) _ name given
    (command.Retreat kind any_thread, retreat_called kind any_thread name called) is
    (λ x read. (retreat_called kind x name called, asked_of AsksThread given x (λ d o. asks_thread given d x o) read))
read_is_asked supported.Pause name given called is =
    asked_made command.Pause supported.Pause _ name given (command.Pause any_thread, called) is
    (λ x read. (called, asked_of AsksThread given x (λ d o. asks_thread given d x o) read))
read_is_asked (supported.Inspect k) name given called is =
    asked_made command.Inspect _ _ name given (some_question k name called) is (question_asked k name given called)
read_is_asked _ name given called is = (called, tt)

is_asked : (name : List ℕ) (given : Option Data) (o : Option Supported) → supported_command name ≡ o
    → IsAsked (option_map_or (fitted_or_bad given) o (command.Unsupported name)) name given
is_asked name given None none = (refl, λ c. not_called c name none)
is_asked name given (Some k) is =
    let called : name ≡ command_text k = sym ((bytes_eq-Decides _ name).0 (named_so name _ k refl is)) in
    read_is_asked k name given called (by_name k name given called)

pub arguments_are_members : ArgumentsAreMembers
arguments_are_members first content r is =
    let found = value_is first is.value r is.request_is in
    let p = parts_of first found.0 r found.2 in
    grind (arith, common_steps, get, named_is, is_asked) steps 1500000
