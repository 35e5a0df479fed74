-- The text of a message is read back as its value.
use Rattle.dap_msg.proofs.Common.{ShownFits, shown_data, [], All, and_parts, ap, append-nil, arith, array, Bool, breakpoint, compact_text, Data, depth, Err, false, Fits, float, FrameFits, Greater, IsContent, item, Items, items_depth, items_of, items_outline, ItemsFit, LineFits, List, lit≤, map, member, Members, members_depth, members_outline, MembersFit, MessagesAreReadBack, NamesItself, negative, no_items, no_members, number, NumbersFit, object, Ok, Option, option_and_then, option_map, Ordering, outline, put, ReferenceFits, refl, rules, scope, Some, stack_frame, StackFrame, suc, sym, text_of, true, unsigned, value_of, variable, ℕ, ◌&&◌, ◌<◌, ◌^◌, ◌∙◌, ◌∷◌, ◌≡◌, ◌≤◌}
use Rattle.std.specs.Ordering.{nat_cmp, match_ordering}
use Rattle.std.specs.Cmp.Lexicographic.{slice_cmp}
use Rattle.json.specs.Token.{Token}
use Rattle.json.specs.Lex.{tokens}
use Rattle.json.specs.Json as json
use Rattle.json.specs.Tree as tree
use Rattle.json.proofs.Printed.Decimals.{IsNumber-decimal}
use Rattle.json.proofs.Printed.Tokens.{tokens-print}
use Rattle.json.proofs.Printed.Trees.{value-json_tokens, ArePrintable-json_tokens}
use Rattle.serde_json.specs.Read.{of_json, of_items, of_members, max_depth, read}
use Rattle.serde_json.proofs.Numbers.{number_of-decimal}
use Rattle.serde_json.proofs.Texts.{print-outline}
use Rattle.dap_msg.specs.declared.outgoing.BreakpointAnswer.{BreakpointAnswer}
use Rattle.dap_msg.specs.declared.outgoing.BreakpointAnswer.TheVariants.{At, Unverified}
use Rattle.dap_msg.specs.declared.outgoing.Outgoing.{Outgoing}
use Rattle.dap_msg.specs.declared.outgoing.Outgoing.TheVariants.{Answer, Event}
use Rattle.dap_msg.specs.declared.outgoing.Body.TheVariants as body
use Rattle.dap_msg.specs.declared.question.Shown.{Shown}
use Rattle.dap_msg.specs.declared.question.Shown.TheVariants as shown
use Rattle.dap_msg.specs.declared.outgoing.EventBody.TheVariants as event
use Rattle.dap_msg.specs.declared.outgoing.Scope.{Scope}
use Rattle.dap_msg.specs.declared.outgoing.StopReason.TheVariants as reason
use Rattle.dap_msg.proofs.Said.{says}
use Rattle.std.proofs.lemmas.Grind.{common_steps}

-- ---- values with their keys in order

abbrev is_greater : Ordering → Bool
is_greater Greater = true
is_greater _ = false

-- the key comes after those of the members
abbrev is_after : List ℕ → Members → Bool
is_after k no_members = true
is_after k (member l d ms) = is_greater (slice_cmp nat_cmp k l) && is_after k ms

-- the first members, with one more at their end
abbrev then_member : Members → List ℕ → Data → Members
then_member no_members k d = member k d no_members
then_member (member l e ms) k d = member l e (then_member ms k d)

abbrev then_members : Members → Members → Members
then_members found no_members = found
then_members found (member k d ms) = then_members (then_member found k d) ms

abbrev mutual
  is_sorted : Data → Bool
  is_sorted (array ds) = items_are_sorted ds
  is_sorted (object ms) = members_are_sorted ms no_members
  is_sorted _ = true

  items_are_sorted : Items → Bool
  items_are_sorted no_items = true
  items_are_sorted (item d ds) = is_sorted d && items_are_sorted ds

  -- after those found
  members_are_sorted : Members → Members → Bool
  members_are_sorted no_members found = true
  members_are_sorted (member k d ms) found =
      is_after k found && (is_sorted d && members_are_sorted ms (then_member found k d))

-- ---- the members go in one after another

put_step : (k l : List ℕ) (d e : Data) (ms rest : Members) (o : Ordering) → is_greater o ≡ true → rest ≡ put k d ms
    → match_ordering o (member k d (member l e ms)) (member l d ms) (member l e (put k d ms)) ≡ member l e rest
put_step k l d e ms rest Greater is same = ap (member l e) (sym same)
put_step k l d e ms rest _ is same = absurd cc

put_after : (k : List ℕ) (d : Data) (found : Members) → is_after k found ≡ true → put k d found ≡ then_member found k d
put_after k d no_members is = refl
put_after k d (member l e ms) is =
    let both = and_parts (is_greater (slice_cmp nat_cmp k l)) (is_after k ms) is in
    put_step k l d e ms (then_member ms k d) (slice_cmp nat_cmp k l) both.0 (sym (put_after k d ms both.1))

-- one member after another is all of them
then_members_none : (l : List ℕ) (e : Data) (ms found : Members)
    → then_members (member l e found) ms ≡ member l e (then_members found ms)
then_members_none l e no_members found = refl
then_members_none l e (member k d ms) found = then_members_none l e ms (then_member found k d)

all_members : (ms : Members) → then_members no_members ms ≡ ms
all_members no_members = refl
all_members (member k d ms) = then_members_none k d ms no_members ∙ ap (member k d) (all_members ms)

mutual
  read_as : (d : Data) → Fits d → is_sorted d ≡ true → of_json (outline d) ≡ Some d
  read_as (number (unsigned n)) fits sorted = ap (option_map number) (number_of-decimal n fits)
  read_as (number (negative z)) fits sorted = absurd fits
  read_as (number (float x)) fits sorted = absurd fits
  read_as (array ds) fits sorted = ap (option_map array) (items_read ds fits sorted)
  read_as (object ms) fits sorted =
      ap (option_map object) (members_read ms no_members fits sorted ∙ ap Some (all_members ms))
  read_as _ fits sorted = refl

  items_read : (ds : Items) → ItemsFit ds → items_are_sorted ds ≡ true → of_items (items_outline ds) ≡ Some ds
  items_read no_items fits sorted = refl
  items_read (item d ds) fits sorted =
      let both = and_parts (is_sorted d) (items_are_sorted ds) sorted in
      rw (read_as d fits.0 both.0, items_read ds fits.1 both.1)

  members_read : (ms found : Members) → MembersFit ms → members_are_sorted ms found ≡ true
      → of_members (members_outline ms) found ≡ Some (then_members found ms)
  members_read no_members found fits sorted = refl
  members_read (member k d ms) found fits sorted =
      let first = and_parts (is_after k found) _ sorted in
      let next = and_parts (is_sorted d) _ first.1 in
      rw (read_as d fits.0 next.0) (ap (of_members (members_outline ms)) (put_after k d found first.0)
      ∙ members_read ms (then_member found k d) fits.1 next.1)

-- ---- numbers are JSON's, and the depth is the value's

mutual
  has_numbers : (d : Data) → Fits d → tree.HasNumbers (outline d)
  has_numbers (number (unsigned n)) fits = IsNumber-decimal n fits
  has_numbers (number (negative z)) fits = absurd fits
  has_numbers (number (float x)) fits = absurd fits
  has_numbers (array ds) fits = items_have_numbers ds fits
  has_numbers (object ms) fits = members_have_numbers ms fits
  has_numbers _ fits = tt

  items_have_numbers : (ds : Items) → ItemsFit ds → tree.ItemsHaveNumbers (items_outline ds)
  items_have_numbers no_items fits = tt
  items_have_numbers (item d ds) fits = (has_numbers d fits.0, items_have_numbers ds fits.1)

  members_have_numbers : (ms : Members) → MembersFit ms → tree.MembersHaveNumbers (members_outline ms)
  members_have_numbers no_members fits = tt
  members_have_numbers (member k d ms) fits = (has_numbers d fits.0, members_have_numbers ms fits.1)

mutual
  as_deep : (d : Data) → tree.depth (outline d) ≤ depth d
  as_deep (array ds) = omega (arith, items_as_deep ds)
  as_deep (object ms) = omega (arith, members_as_deep ms)
  as_deep _ = omega arith

  items_as_deep : (ds : Items) → tree.items_depth (items_outline ds) ≤ items_depth ds
  items_as_deep no_items = omega arith
  items_as_deep (item d ds) = omega (arith, as_deep d, items_as_deep ds)

  members_as_deep : (ms : Members) → tree.members_depth (members_outline ms) ≤ members_depth ms
  members_as_deep no_members = omega arith
  members_as_deep (member k d ms) = omega (arith, as_deep d, members_as_deep ms)

-- ---- the round trip

abbrev whole : Option (json.Json × List Token) → Option Data
whole o = option_and_then of_json (option_and_then (λ p. json.if_last p.0 p.1) o)

lexed : (d : Data) → Fits d → tokens (compact_text d) ≡ tree.json_tokens (outline d)
lexed d fits =
    ap tokens (sym (print-outline d)) ∙ tokens-print (tree.json_tokens (outline d))
    (ArePrintable-json_tokens (outline d) (has_numbers d fits))

round_trip : (d : Data) → Fits d → is_sorted d ≡ true → depth d ≤ max_depth → read (compact_text d) ≡ Some d
round_trip d fits sorted shallow =
    ap whole (ap (json.value max_depth) (lexed d fits ∙ sym (append-nil _))
    ∙ value-json_tokens (outline d) max_depth [] (omega (arith, as_deep d))) ∙ read_as d fits sorted

-- ---- messages

each_sorted : {A : Type 0} (f : A → Data) → ((x : A) → is_sorted (f x) ≡ true) → (xs : List A)
    → items_are_sorted (items_of (map f xs)) ≡ true
each_sorted f sorted [] = refl
each_sorted f sorted (x ∷ xs) = rw (sorted x) (each_sorted f sorted xs)

breakpoint_sorted : (b : BreakpointAnswer) → is_sorted (breakpoint b) ≡ true
breakpoint_sorted (At line) = refl
breakpoint_sorted (Unverified why) = refl

each_flat : {A : Type 0} (f : A → Data) (n : ℕ) → ((x : A) → depth (f x) ≤ n) → (xs : List A)
    → items_depth (items_of (map f xs)) ≤ n
each_flat f n flat [] = omega arith
each_flat f n flat (x ∷ xs) = omega (arith, flat x, each_flat f n flat xs)

breakpoint_flat : (b : BreakpointAnswer) → depth (breakpoint b) ≤ 2
breakpoint_flat (At line) = lit≤ tt
breakpoint_flat (Unverified why) = lit≤ tt

-- the keys of each object ascend, and it nests no deeper than may be read; `_` stands for each message without a list
regular : (message : Outgoing) (seq : ℕ) → (is_sorted (value_of message seq) ≡ true)
    × (depth (value_of message seq) ≤ max_depth)
regular (Answer request_seq command (Ok (body.Breakpoints answers))) seq =
    let flat = each_flat breakpoint 2 breakpoint_flat answers in
    (rw (each_sorted breakpoint breakpoint_sorted answers) refl, omega (arith, flat))
regular (Answer request_seq command (Ok (body.Shown (shown.StackTrace path frames total)))) seq = (
  rw (each_sorted (stack_frame path) (λ f. refl) frames) refl,
  omega (arith, each_flat (stack_frame path) 2 (λ f. lit≤ tt) frames),
)
regular (Answer request_seq command (Ok (body.Shown (shown.Scopes scopes)))) seq =
    (rw (each_sorted scope (λ s. refl) scopes) refl, omega (arith, each_flat scope 2 (λ s. lit≤ tt) scopes))
regular (Answer request_seq command (Ok (body.Shown (shown.Variables variables)))) seq =
    (rw (each_sorted variable (λ v. refl) variables) refl, omega (arith, each_flat variable 2 (λ v. lit≤ tt) variables))
regular (Event (event.Stopped reason.Step)) seq = (refl, lit≤ tt)
regular _ seq = (refl, lit≤ tt)

pub text_is_read : (message : Outgoing) (seq : ℕ) → Fits (value_of message seq)
    → read (text_of message seq) ≡ Some (value_of message seq)
text_is_read message seq fits = round_trip (value_of message seq) fits (regular message seq).0 (regular message seq).1

each_fits : {A : Type 0} (f : A → Data) (P : A → Type 0) → ((x : A) → P x → Fits (f x)) → (xs : List A) → All P xs
    → ItemsFit (items_of (map f xs))
each_fits f P fits [] all = tt
each_fits f P fits (x ∷ xs) all =
    (fits x (all 0 x (omega arith)), each_fits f P fits xs (λ k d lt. all (suc k) d (omega arith)))

breakpoint_fits : (b : BreakpointAnswer) → LineFits b → Fits (breakpoint b)
breakpoint_fits (At line) fits = (fits, (tt, tt))
breakpoint_fits (Unverified why) fits = (tt, (tt, tt))

frame_fits : (path : List ℕ) (f : StackFrame) → FrameFits f → Fits (stack_frame path f)
frame_fits path f fits = search fits

scope_fits : (s : Scope) → ReferenceFits s → Fits (scope s)
scope_fits s fits = (tt, (tt, (fits, tt)))

small : (n : ℕ) → n ≤ 9 → n < 2 ^ 64
small n is = omega arith

shown_fits : (b : Shown) → ShownFits b → Fits (shown_data b)
shown_fits (shown.StackTrace path frames total) fits =
    (each_fits (stack_frame path) FrameFits (frame_fits path) frames fits.0, (fits.1, tt))
shown_fits (shown.Scopes scopes) fits = (each_fits scope ReferenceFits scope_fits scopes fits, tt)
shown_fits (shown.Variables variables) fits =
    (each_fits variable (λ v. Unit {0}) (λ v is. (tt, (tt, (small _ (lit≤ tt), tt)))) variables (λ k d lt. tt), tt)
shown_fits (shown.Value v) fits = (tt, (small _ (lit≤ tt), tt))

message_fits : (message : Outgoing) (seq : ℕ) → NumbersFit message → seq < 2 ^ 64 → Fits (value_of message seq)
message_fits (Answer request_seq command (Ok body.None)) seq fits below = (tt, (fits.0, (below, (tt, (tt, tt)))))
message_fits (Answer request_seq command (Ok body.Capabilities)) seq fits below =
    (search rules, (tt, (fits.0, (below, (tt, (tt, tt))))))
message_fits (Answer request_seq command (Ok (body.Breakpoints answers))) seq fits below =
    ((each_fits breakpoint LineFits breakpoint_fits answers fits.1, tt), (tt, (fits.0, (below, (tt, (tt, tt))))))
message_fits (Answer request_seq command (Ok body.Threads)) seq fits below =
    ((((small _ (lit≤ tt), (tt, tt)), tt), tt), (tt, (fits.0, (below, (tt, (tt, tt))))))
message_fits (Answer request_seq command (Ok body.Continued)) seq fits below =
    ((tt, tt), (tt, (fits.0, (below, (tt, (tt, tt))))))
message_fits (Answer request_seq command (Ok (body.Shown b))) seq fits below =
    (shown_fits b fits.1, (tt, (fits.0, (below, (tt, (tt, tt))))))
message_fits (Answer request_seq command (Err r)) seq fits below = (tt, (tt, (tt, (fits.0, (below, (tt, (tt, tt)))))))
message_fits (Event event.Initialized) seq fits below = (tt, (below, (tt, tt)))
message_fits (Event (event.Stopped reason.Breakpoint)) seq fits below = grind (arith, common_steps, small) steps 1500000
message_fits (Event (event.Stopped reason.Step)) seq fits below = grind (arith, common_steps, small) steps 1500000
message_fits (Event (event.Stopped reason.Entry)) seq fits below = grind (arith, common_steps, small) steps 1500000
message_fits (Event (event.Stopped reason.Pause)) seq fits below = grind (arith, common_steps, small) steps 1500000
message_fits (Event (event.Stopped (reason.Exception fault))) seq fits below =
    ((tt, (tt, (tt, (small _ (lit≤ tt), tt)))), (tt, (below, (tt, tt))))
message_fits (Event (event.Output v)) seq fits below = ((tt, (tt, tt)), (tt, (below, (tt, tt))))
message_fits (Event (event.Log text)) seq fits below = ((tt, (tt, tt)), (tt, (below, (tt, tt))))
message_fits (Event (event.Exited code)) seq fits below = ((fits, tt), (tt, (below, (tt, tt))))
message_fits (Event event.Terminated) seq fits below = (tt, (below, (tt, tt)))

pub messages_are_read_back : MessagesAreReadBack
messages_are_read_back message seq fits below =
    (text_is_read message seq (message_fits message seq fits below), says message seq)

-- ---- contents

pub content_is_read : (message : Outgoing) (seq : ℕ) (bytes : List ℕ) → IsContent (value_of message seq) bytes
    → read bytes ≡ Some (value_of message seq)
content_is_read message seq bytes is = rw is.text (text_is_read message seq is.fits)

pub content_names : (message : Outgoing) (seq : ℕ) (bytes : List ℕ) → IsContent (value_of message seq) bytes
    → NamesItself message seq bytes
content_names message seq bytes is =
    (value_of message seq, (is.utf8, content_is_read message seq bytes is), says message seq)
