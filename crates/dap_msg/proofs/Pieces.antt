-- What is put together from parts is the value's text.
use Rattle.dap_msg.proofs.Common.{[], agree_below_at, and_from, and_parts, ap, append-nil, append_assoc, arith, Bool, breakpoint, breakpoint_refusal_text, codes, comma_if, compact_text, cond_both, Data, decimal, eqb-false, Err, false, Fits, frame_end, FrameFits, get_or, IfOk, is_plain, is_plain_byte, IsContent, IsUtf8, items_of, items_text, ItemsFit, joined_text, leb-true, length, List, list_opening, map, map-append, member, Members, MembersFit, negsuc, numbers_text, no_members, None, not-true, number, object, Ok, Option, pos, PutsItems, PutsMembers, PutsOpening, PutsValue, ReferenceFits, refl, response_end, Result, scope, Some, stack_frame, stack_trace_body, StackFrame, string, suc, sym, take, take_all, take_more, true, unsigned, variable, Variable, whole, with_body, zero, ℕ, ℤ, ◌%◌, ◌++◌, ◌+◌, ◌/◌, ◌<◌, ◌==◌, ◌^◌, ◌∙◌, ◌∷◌, ◌≡◌, ◌≤◌}
use Rattle.std.specs.Fmt.{signed_decimal, digits, digits_onto, digit_glyph}
use Rattle.std.proofs.lemmas.Grind.{flat_map-append, common_steps}
use Rattle.std.specs.Prelude.{◌≢◌}
use Rattle.std.proofs.lemmas.List.{append_cancel_left, append_cancel_right}
use Rattle.serde_json.specs.Written.{members_text}
use Rattle.dap_msg.specs.Lists.{list_body}
use Rattle.dap_msg.specs.Outgoing.{exception_text, exited_body, number_line, output_body, reason_text, refused_value, stop_end, stopped_body}
use Rattle.dap_msg.specs.StackTrace.{source}
use Rattle.dap_msg.specs.Evaluate.{value_body}
use Rattle.dap_msg.specs.declared.outgoing.BreakpointAnswer.TheVariants.{At, Unverified}
use Rattle.dap_msg.specs.declared.outgoing.BreakpointRefusal.{BreakpointRefusal}
use Rattle.dap_msg.specs.declared.outgoing.Exception.{Exception}
use Rattle.dap_msg.specs.declared.outgoing.Scope.{Scope}
use Rattle.dap_msg.specs.declared.outgoing.StopReason.{StopReason}
use Rattle.dap_msg.specs.declared.outgoing.StopReason.TheVariants as reason
use Rattle.json.specs.Print.{escape, quoted, escape_byte}
use Rattle.json.proofs.Printed.Strings.{escape_byte_plain}

three : (s a b c : List ℕ) → (((s ++ a) ++ b) ++ c) ≡ s ++ (a ++ (b ++ c))
three s a b c = simp append_assoc

four : (s a b c d : List ℕ) → ((((s ++ a) ++ b) ++ c) ++ d) ≡ s ++ (a ++ (b ++ (c ++ d)))
four s a b c d = simp append_assoc

five : (s a b c d e : List ℕ) → (((((s ++ a) ++ b) ++ c) ++ d) ++ e) ≡ s ++ (a ++ (b ++ (c ++ (d ++ e))))
five s a b c d e = simp append_assoc

nine : (s a b c d e f g h i : List ℕ)
    → (((((((((s ++ a) ++ b) ++ c) ++ d) ++ e) ++ f) ++ g) ++ h) ++ i)
    ≡ s ++ (a ++ (b ++ (c ++ (d ++ (e ++ (f ++ (g ++ (h ++ i))))))))
nine s a b c d e f g h i = simp append_assoc

zero_fits : 0 < 2 ^ 64
zero_fits = omega arith

pub one_fits : 1 < 2 ^ 64
one_fits = omega arith

-- ---- texts between quotes

quoted_then : (text rest : List ℕ) → quoted text ++ rest ≡ 34 ∷ (escape text ++ 34 ∷ rest)
quoted_then text rest = ap (λ t. 34 ∷ t) (append_assoc (escape text) (34 ∷ []) rest)

pub after_quote : (text whole begun : List ℕ) → whole ≡ quoted text → whole ≡ 34 ∷ begun
    → begun ≡ escape text ++ 34 ∷ []
after_quote text whole begun is front = append_cancel_left (34 ∷ []) begun (escape text ++ 34 ∷ []) (sym front ∙ is)

pub between_quotes : (text begun escaped : List ℕ) → begun ≡ escape text ++ 34 ∷ [] → begun ≡ escaped ++ 34 ∷ []
    → escaped ≡ escape text
between_quotes text begun escaped is back = append_cancel_right escaped (escape text) (34 ∷ []) (sym back ∙ is)

-- ---- texts that need no escape

byte_stays : (x : ℕ) → is_plain_byte x ≡ true → escape_byte x ≡ x ∷ []
byte_stays x is =
    let parts = and_parts _ _ is in
    let others = and_parts _ _ parts.1 in
    escape_byte_plain x (eqb-false x 34 (not-true _ others.0)) (eqb-false x 92 (not-true _ others.1))
    (leb-true 32 x parts.0)

pub escape_plain : (text : List ℕ) → is_plain text ≡ true → escape text ≡ text
escape_plain [] is = refl
escape_plain (x ∷ text) is =
    let parts = and_parts _ _ is in
    rw (byte_stays x parts.0, escape_plain text parts.1) refl

-- a plain text and a line feed, which has an escape
pub escape_line : (text : List ℕ) → is_plain text ≡ true → escape (text ++ 10 ∷ []) ≡ text ++ codes "\\n"
unfolding escape_byte
escape_line text is = cc (flat_map-append escape_byte text (10 ∷ []), escape_plain text is)

plain_digit : (n : ℕ) → is_plain_byte (digit_glyph false (n % 10)) ≡ true
plain_digit n = agree_below_at (λ d. is_plain_byte (digit_glyph false d)) (λ d. true) 10 (n % 10) refl (omega arith)

plain_onto : (k n : ℕ) (after : List ℕ) → is_plain after ≡ true → is_plain (digits_onto k 10 false n after) ≡ true
plain_onto zero n after is = is
plain_onto (suc k) n after is =
    let more : is_plain (digit_glyph false (n % 10) ∷ after) ≡ true = and_from _ _ (plain_digit n) is in
    cond_both (n / 10 == 0) _ _ (λ ds. is_plain ds ≡ true) (λ e. more) (λ e. plain_onto k (n / 10) _ more)

plain_signed : (z : ℤ) → is_plain (signed_decimal z) ≡ true
unfolding digits
plain_signed (pos n) = plain_onto 64 n [] refl
plain_signed (negsuc n) = plain_onto 64 (suc n) [] refl

escape_signed : (z : ℤ) → escape (signed_decimal z) ≡ signed_decimal z
escape_signed z = escape_plain (signed_decimal z) (plain_signed z)

quoted_signed : (z : ℤ) (rest : List ℕ) → quoted (signed_decimal z) ++ rest ≡ 34 ∷ (signed_decimal z ++ 34 ∷ rest)
quoted_signed z rest = quoted_then (signed_decimal z) rest ∙ ap (λ t. 34 ∷ (t ++ 34 ∷ rest)) (escape_signed z)

-- ---- lists

-- whether something stands before what comes after the values
abbrev pub is_after : Bool → List Data → Bool
is_after later [] = later
is_after later (d ∷ ds) = true

is_after_true : (ds : List Data) → is_after true ds ≡ true
is_after_true [] = refl
is_after_true (d ∷ ds) = refl

is_after_more : (later : Bool) (ds : List Data) (d : Data) → is_after later (ds ++ d ∷ []) ≡ true
is_after_more later [] d = refl
is_after_more later (e ∷ ds) d = refl

regrouped : (a b c d : List ℕ) → a ++ (b ++ (c ++ d)) ≡ (a ++ (b ++ c)) ++ d
regrouped a b c d = simp append_assoc

joined_more : (later : Bool) (ds : List Data) (d : Data)
    → joined_text later (ds ++ d ∷ []) ≡ joined_text later ds ++ (comma_if (is_after later ds) ++ compact_text d)
joined_more later [] d = ap (λ t. comma_if later ++ t) (append-nil (compact_text d))
joined_more later (e ∷ ds) d =
    cc (joined_more true ds d, is_after_true ds, regrouped _ _ (joined_text true ds) (comma_if true ++ compact_text d))

items_closed : (later : Bool) (ds : List Data) → items_text later (items_of ds) ≡ joined_text later ds ++ 93 ∷ []
items_closed later [] = refl
items_closed later (d ∷ ds) = cc (items_closed true ds, regrouped _ _ (joined_text true ds) _)

pub items_more_fit : (ds : List Data) (d : Data) → ItemsFit (items_of ds) → Fits d → ItemsFit (items_of (ds ++ d ∷ []))
items_more_fit [] d all fits = (fits, tt)
items_more_fit (e ∷ ds) d all fits = (all.0, items_more_fit ds d all.1 fits)

-- the first values were appended, and `later` says whether there are any
pub record PutsFront (ds : List Data) (later : Bool) (old new : List ℕ) : Type 0 where
  pub items : PutsItems ds old new
  pub is_later : later ≡ is_after false ds

one_put : (ds : List Data) (d : Data) (later : Bool) (s0 s1 s2 s3 : List ℕ) → PutsFront ds later s0 s1
    → s2 ≡ s1 ++ comma_if later → PutsValue d s2 s3 → PutsFront (ds ++ d ∷ []) true s0 s3
one_put ds d later s0 s1 s2 s3 front comma value =
    grind (arith, common_steps, three, false, joined_more, items_more_fit, is_after_more) steps 1500000

pub item_put : {X : Type 0} (f : X → Data) (xs : List X) (i : ℕ) (d : X) (later : Bool) (s0 s1 s2 s3 : List ℕ)
    → i < length xs → PutsFront (map f (take i xs)) later s0 s1 → s2 ≡ s1 ++ comma_if later
    → PutsValue (f (get_or xs i d)) s2 s3 → PutsFront (map f (take (i + 1) xs)) true s0 s3
item_put f xs i d later s0 s1 s2 s3 lt front comma value =
    rw (take_more xs i d lt, map-append f (take i xs) (get_or xs i d ∷ []))
    (one_put (map f (take i xs)) (f (get_or xs i d)) later s0 s1 s2 s3 front comma value)

pub each_put : {X : Type 0} (f : X → Data) (xs : List X) (i : ℕ) (later : Bool) (s0 s1 : List ℕ) → length xs ≤ i
    → PutsFront (map f (take i xs)) later s0 s1 → PutsItems (map f xs) s0 s1
each_put f xs i later s0 s1 le front = rw (take_all i xs le) at front.items

-- ---- bodies

opening_put : (d : Data) (s0 s1 s2 : List ℕ) → PutsValue d (s0 ++ codes "{\"body\":") s1 → s2 ≡ s1 ++ codes ","
    → PutsOpening (Some d) s0 s2
opening_put d s0 s1 s2 value ended = record { text = rw (ended, value.text) (three s0 _ _ _); fits = value.fits }

-- a body that has nothing but a list
pub list_put : (key : List ℕ) (ds : List Data) (s0 s1 s2 s3 : List ℕ)
    → s1 ≡ s0 ++ list_opening key → PutsItems ds s1 s2 → s3 ≡ s2 ++ codes "]},"
    → PutsOpening (Some (list_body key ds)) s0 s3
list_put key ds s0 s1 s2 s3 opened items ended =
    let d = list_body key ds in
    opening_put d s0 (s2 ++ codes "]}") s3 (record {
      text = rw (items.text, opened)
          (three s0 _ _ _ ∙ ap (λ t. s0 ++ (codes "{\"body\":{" ++ t))
          (append_assoc (quoted key) (codes ":[") _ ∙ ap (λ t. quoted key ++ (codes ":[" ++ t))
          (sym (append_assoc (joined_text false ds) (93 ∷ []) (codes "}"))
          ∙ ap (λ t. t ++ codes "}") (sym (items_closed false ds))))
          ∙ sym (append_assoc s0 (codes "{\"body\":") (compact_text d)));
      fits = (items.fits, tt);
    }) (ended ∙ sym (append_assoc s2 (codes "]}") (codes ",")))

pub frames_put : (path : List ℕ) (frames : List StackFrame) (total : ℕ) (s0 s1 s2 s3 s4 s5 : List ℕ) → total < 2 ^ 64
    → s1 ≡ s0 ++ codes "{\"body\":{\"stackFrames\":[" → PutsItems (map (stack_frame path) frames) s1 s2
    → s3 ≡ s2 ++ codes "],\"totalFrames\":" → s4 ≡ s3 ++ decimal total → s5 ≡ s4 ++ codes "},"
    → PutsOpening (Some (stack_trace_body path frames total)) s0 s5
unfolding escape_byte
frames_put path frames total s0 s1 s2 s3 s4 s5 below opened items closed counted ended =
    let ds = map (stack_frame path) frames in
    let d = stack_trace_body path frames total in
    let rest = codes ",\"totalFrames\":" ++ (decimal total ++ codes "}") in
    opening_put d s0 (s4 ++ codes "}") s5 (record {
      text = rw (counted, closed, items.text, opened)
          (five s0 _ _ _ _ _ ∙ ap (λ t. s0 ++ (codes "{\"body\":{\"stackFrames\":[" ++ t))
          (sym (append_assoc (joined_text false ds) (93 ∷ []) rest)
          ∙ ap (λ t. t ++ rest) (sym (items_closed false ds)))
          ∙ sym (append_assoc s0 (codes "{\"body\":") (compact_text d)));
      fits = (items.fits, (below, tt));
    }) (ended ∙ sym (append_assoc s4 (codes "}") (codes ",")))

pub value_put : (v : ℤ) (s0 s1 s2 s3 : List ℕ) → s1 ≡ s0 ++ codes "{\"body\":{\"result\":\""
    → s2 ≡ s1 ++ signed_decimal v → s3 ≡ s2 ++ codes "\",\"variablesReference\":0},"
    → PutsOpening (Some (value_body v)) s0 s3
unfolding escape_byte digits
value_put v s0 s1 s2 s3 e1 e2 e3 =
    let last = codes ",\"variablesReference\":0}" in
    opening_put (value_body v) s0 (s2 ++ 34 ∷ last) s3 (record {
      text = rw (e2, e1)
          (three s0 _ _ _ ∙ ap (λ t. s0 ++ (codes "{\"body\":{\"result\":" ++ t)) (sym (quoted_signed v last))
          ∙ sym (append_assoc s0 (codes "{\"body\":") (compact_text (value_body v))));
      fits = (tt, (zero_fits, tt));
    }) (e3 ∙ sym (append_assoc s2 (34 ∷ last) (codes ",")))

-- ---- parts of bodies

pub frame_put : (path end : List ℕ) (frame : StackFrame) (s0 s1 s2 s3 s4 s5 s6 s7 s8 s9 : List ℕ) → FrameFits frame
    → end ≡ frame_end path → s1 ≡ s0 ++ codes "{\"column\":" → s2 ≡ s1 ++ decimal frame.column
    → s3 ≡ s2 ++ codes ",\"id\":" → s4 ≡ s3 ++ decimal frame.id → s5 ≡ s4 ++ codes ",\"line\":"
    → s6 ≡ s5 ++ decimal frame.line → s7 ≡ s6 ++ codes ",\"name\":\"" → s8 ≡ s7 ++ escape frame.name → s9 ≡ s8 ++ end
    → PutsValue (stack_frame path frame) s0 s9
unfolding escape_byte
frame_put path end frame s0 s1 s2 s3 s4 s5 s6 s7 s8 s9 fit is e1 e2 e3 e4 e5 e6 e7 e8 e9 = record {
  text = rw (e9, e8, e7, e6, e5, e4, e3, e2, e1, is)
      (nine s0 _ _ _ _ _ _ _ _ _
      ∙ ap (λ t. s0 ++ (codes "{\"column\":" ++ (decimal frame.column ++ (codes ",\"id\":" ++ (decimal frame.id
      ++ (codes ",\"line\":" ++ (decimal frame.line ++ (codes ",\"name\":" ++ t))))))))
      (sym (quoted_then frame.name (codes ",\"source\":" ++ (compact_text (source path) ++ codes "}")))));
  fits = (fit.2, (fit.0, (fit.1, (tt, ((tt, tt), tt)))));
}

pub frame_end_put : (path s0 s1 s2 s3 : List ℕ) → s0 ≡ [] → s1 ≡ s0 ++ codes "\",\"source\":{\"path\":\""
    → s2 ≡ s1 ++ escape path → s3 ≡ s2 ++ codes "\"}}" → s3 ≡ frame_end path
unfolding escape_byte
frame_end_put path s0 s1 s2 s3 e0 e1 e2 e3 =
    rw (e3, e2, e1, e0)
    (three [] (codes "\",\"source\":{\"path\":\"") (escape path) (codes "\"}}")
    ∙ ap (λ t. codes "\",\"source\":{\"path\":\"" ++ t)
    (sym (three (escape path) (codes "\"") (codes "}") (codes "}"))))

pub variable_put : (v : Variable) (s0 s1 s2 s3 s4 s5 : List ℕ) → s1 ≡ s0 ++ codes "{\"name\":\""
    → s2 ≡ s1 ++ escape v.name → s3 ≡ s2 ++ codes "\",\"value\":\"" → s4 ≡ s3 ++ signed_decimal v.value
    → s5 ≡ s4 ++ codes "\",\"variablesReference\":0}" → PutsValue (variable v) s0 s5
unfolding escape_byte digits
variable_put v s0 s1 s2 s3 s4 s5 e1 e2 e3 e4 e5 = record {
  text = rw (e5, e4, e3, e2, e1)
      (five s0 _ _ _ _ _ ∙ ap (λ t. s0 ++ (codes "{\"name\":" ++ t))
      (ap (λ t. 34 ∷ (escape v.name ++ (34 ∷ (codes ",\"value\":" ++ t))))
      (sym (quoted_signed v.value (codes ",\"variablesReference\":0}"))) ∙ sym (quoted_then v.name _)));
  fits = (tt, (tt, (zero_fits, tt)));
}

pub scope_put : (s : Scope) (s0 s1 s2 s3 s4 s5 : List ℕ) → ReferenceFits s
    → s1 ≡ s0 ++ codes "{\"expensive\":false,\"name\":\"" → s2 ≡ s1 ++ escape s.name
    → s3 ≡ s2 ++ codes "\",\"variablesReference\":" → s4 ≡ s3 ++ decimal s.reference → s5 ≡ s4 ++ codes "}"
    → PutsValue (scope s) s0 s5
unfolding escape_byte
scope_put s s0 s1 s2 s3 s4 s5 fits e1 e2 e3 e4 e5 = record {
  text = rw (e5, e4, e3, e2, e1)
      (five s0 _ _ _ _ _ ∙ ap (λ t. s0 ++ (codes "{\"expensive\":false,\"name\":" ++ t)) (sym (quoted_then s.name _)));
  fits = (tt, (tt, (fits, tt)));
}

pub verified_put : (line : ℕ) (s0 s1 s2 s3 : List ℕ) → line < 2 ^ 64 → s1 ≡ s0 ++ codes "{\"line\":"
    → s2 ≡ s1 ++ decimal line → s3 ≡ s2 ++ codes ",\"verified\":true}" → PutsValue (breakpoint (At line)) s0 s3
unfolding escape_byte
verified_put line s0 s1 s2 s3 below e1 e2 e3 = grind (arith, common_steps, three) steps 1500000

pub unverified_put : (why : BreakpointRefusal) (s0 s1 s2 s3 : List ℕ) → s1 ≡ s0 ++ codes "{\"message\":\""
    → s2 ≡ s1 ++ escape (breakpoint_refusal_text why) → s3 ≡ s2 ++ codes "\",\"verified\":false}"
    → PutsValue (breakpoint (Unverified why)) s0 s3
unfolding escape_byte
unverified_put why s0 s1 s2 s3 e1 e2 e3 = record {
  text = rw (e3, e2, e1)
      (three s0 _ _ _
      ∙ ap (λ t. s0 ++ (codes "{\"message\":" ++ t)) (sym (quoted_then (breakpoint_refusal_text why) _)));
  fits = (tt, (tt, tt));
}

-- ---- bodies of events

output_put : (category text : List ℕ) (s0 s1 s2 s3 : List ℕ)
    → s1 ≡ s0 ++ (codes "{\"body\":{\"category\":" ++ (quoted category ++ codes ",\"output\":\""))
    → s2 ≡ s1 ++ escape text → s3 ≡ s2 ++ codes "\"}," → PutsOpening (Some (output_body category text)) s0 s3
unfolding escape_byte
output_put category text s0 s1 s2 s3 e1 e2 e3 =
    let d = output_body category text in
    opening_put d s0 (s2 ++ codes "\"}") s3 (record {
      text = rw (e2, e1)
          (three s0 _ _ _ ∙ ap (λ t. s0 ++ (codes "{\"body\":{\"category\":" ++ t))
          (append_assoc (quoted category) (codes ",\"output\":\"") _
          ∙ ap (λ t. quoted category ++ (codes ",\"output\":" ++ t)) (sym (quoted_then text (codes "}"))))
          ∙ sym (append_assoc s0 (codes "{\"body\":") (compact_text d)));
      fits = (tt, (tt, tt));
    }) (e3 ∙ sym (append_assoc s2 (codes "\"}") (codes ",")))

pub log_put : (text s0 s1 s2 s3 : List ℕ) → s1 ≡ s0 ++ codes "{\"body\":{\"category\":\"console\",\"output\":\""
    → s2 ≡ s1 ++ escape text → s3 ≡ s2 ++ codes "\"}," → PutsOpening (Some (output_body (codes "console") text)) s0 s3
unfolding escape_byte
log_put text s0 s1 s2 s3 e1 e2 e3 = output_put (codes "console") text s0 s1 s2 s3 e1 e2 e3

pub number_put : (v : ℤ) (s0 s1 s2 s3 : List ℕ)
    → s1 ≡ s0 ++ codes "{\"body\":{\"category\":\"stdout\",\"output\":\"" → s2 ≡ s1 ++ signed_decimal v
    → s3 ≡ s2 ++ codes "\\n\"}," → PutsOpening (Some (output_body (codes "stdout") (number_line v))) s0 s3
unfolding escape_byte
number_put v s0 s1 s2 s3 e1 e2 e3 =
    output_put (codes "stdout") (number_line v) s0 s1 (s2 ++ codes "\\n") s3 e1
    (ap (λ t. t ++ codes "\\n") e2 ∙ append_assoc s1 (signed_decimal v) (codes "\\n")
    ∙ ap (λ t. s1 ++ t) (sym (escape_line (signed_decimal v) (plain_signed v))))
    (e3 ∙ sym (append_assoc s2 (codes "\\n") (codes "\"},")))

pub exited_put : (code : ℕ) (s0 s1 s2 s3 : List ℕ) → code < 2 ^ 64 → s1 ≡ s0 ++ codes "{\"body\":{\"exitCode\":"
    → s2 ≡ s1 ++ decimal code → s3 ≡ s2 ++ codes "}," → PutsOpening (Some (exited_body code)) s0 s3
unfolding escape_byte
exited_put code s0 s1 s2 s3 below e1 e2 e3 =
    opening_put (exited_body code) s0 (s2 ++ codes "}") s3 (record {
      text = rw (e2, e1)
          (three s0 _ _ _ ∙ sym (append_assoc s0 (codes "{\"body\":") (compact_text (exited_body code))));
      fits = (below, tt);
    }) (e3 ∙ sym (append_assoc s2 (codes "}") (codes ",")))

stop_end_fits : (r : StopReason) → MembersFit (stop_end r)
stop_end_fits reason.Breakpoint = (one_fits, tt)
stop_end_fits reason.Step = (one_fits, tt)
stop_end_fits reason.Entry = (one_fits, tt)
stop_end_fits reason.Pause = (one_fits, tt)
stop_end_fits (reason.Exception fault) = (tt, (one_fits, tt))

pub stopped_put : (r : StopReason) (s0 s1 s2 s3 : List ℕ)
    → s1 ≡ s0 ++ codes "{\"body\":{\"allThreadsStopped\":true,\"reason\":\"" → s2 ≡ s1 ++ escape (reason_text r)
    → s3 ≡ s2 ++ (codes "\"" ++ (members_text true (stop_end r) ++ codes ","))
    → PutsOpening (Some (stopped_body r)) s0 s3
unfolding escape_byte
stopped_put r s0 s1 s2 s3 e1 e2 e3 =
    let last = members_text true (stop_end r) in
    opening_put (stopped_body r) s0 (s2 ++ 34 ∷ last) s3 (record {
      text = rw (e2, e1)
          (three s0 _ _ _ ∙ ap (λ t. s0 ++ (codes "{\"body\":{\"allThreadsStopped\":true,\"reason\":" ++ t))
          (sym (quoted_then (reason_text r) last))
          ∙ sym (append_assoc s0 (codes "{\"body\":") (compact_text (stopped_body r))));
      fits = (tt, (tt, stop_end_fits r));
    }) (e3 ∙ sym (append_assoc s2 (34 ∷ last) (codes ",")))

pub exception_put : (fault : Exception) (s0 s1 s2 s3 : List ℕ) → s1 ≡ s0 ++ codes "\",\"text\":\""
    → s2 ≡ s1 ++ escape (exception_text fault) → s3 ≡ s2 ++ codes "\",\"threadId\":1},"
    → s3 ≡ s0 ++ (codes "\"" ++ (members_text true (stop_end (reason.Exception fault)) ++ codes ","))
unfolding escape_byte digits
exception_put fault s0 s1 s2 s3 e1 e2 e3 =
    let text = exception_text fault in
    let last = codes ",\"threadId\":1}" in
    rw (e3, e2, e1)
    (three s0 _ _ _ ∙ ap (λ t. s0 ++ (codes "\",\"text\":" ++ t))
    (sym (append_assoc (quoted text) last (codes ",") ∙ quoted_then text (last ++ codes ","))))

pub other_stop : (r : StopReason) → ((x : Exception) → r ≢ reason.Exception x)
    → members_text true (stop_end r) ≡ codes ",\"threadId\":1}"
unfolding escape_byte digits
other_stop reason.Breakpoint other = refl
other_stop reason.Step other = refl
other_stop reason.Entry other = refl
other_stop reason.Pause other = refl
other_stop (reason.Exception fault) other = absurd (other fault refl)

-- ---- ends of messages, and whole ones

-- the two numbers of an answer, as one of its parts
numbers_then : (s a b c d e f g : List ℕ)
    → ((((s ++ a) ++ b) ++ (c ++ (d ++ (e ++ f)))) ++ g) ≡ s ++ (a ++ (b ++ (c ++ (d ++ (e ++ (f ++ g))))))
numbers_then s a b c d e f g = simp append_assoc

pub numbers_put : (request_seq seq : ℕ) (s0 s1 s2 s3 s4 : List ℕ) → s1 ≡ s0 ++ codes "\",\"request_seq\":"
    → s2 ≡ s1 ++ decimal request_seq → s3 ≡ s2 ++ codes ",\"seq\":" → s4 ≡ s3 ++ decimal seq
    → s4 ≡ s0 ++ numbers_text request_seq seq
numbers_put request_seq seq s0 s1 s2 s3 s4 e1 e2 e3 e4 = rw (e4, e3, e2, e1) (four s0 _ _ _ _)

pub end_put : (command : List ℕ) (request_seq seq : ℕ) (s0 s1 s2 s3 s4 : List ℕ) → request_seq < 2 ^ 64 → seq < 2 ^ 64
    → s1 ≡ s0 ++ codes "\"command\":\"" → s2 ≡ s1 ++ escape command → s3 ≡ s2 ++ numbers_text request_seq seq
    → s4 ≡ s3 ++ codes ",\"success\":true,\"type\":\"response\"}"
    → PutsMembers (member (codes "command") (string command) (response_end request_seq seq true)) s0 s4
unfolding escape_byte
end_put command request_seq seq s0 s1 s2 s3 s4 below next_below e1 e2 e3 e4 = record {
  text = rw (e4, e3, e2, e1)
      (numbers_then s0 _ _ (codes "\",\"request_seq\":") (decimal request_seq) (codes ",\"seq\":") (decimal seq) _
      ∙ ap (λ t. s0 ++ (codes "\"command\":" ++ t)) (sym (quoted_then command _)));
  fits = (tt, (below, (next_below, (tt, (tt, tt)))));
}

pub event_end_put : (name : List ℕ) (seq : ℕ) (s0 s1 s2 s3 s4 s5 : List ℕ) → seq < 2 ^ 64
    → s1 ≡ s0 ++ codes "\"event\":\"" → s2 ≡ s1 ++ escape name → s3 ≡ s2 ++ codes "\",\"seq\":"
    → s4 ≡ s3 ++ decimal seq → s5 ≡ s4 ++ codes ",\"type\":\"event\"}"
    → PutsMembers (member (codes "event") (string name) (member (codes "seq") (number (unsigned seq))
    (member (codes "type") (string (codes "event")) no_members))) s0 s5
unfolding escape_byte
event_end_put name seq s0 s1 s2 s3 s4 s5 below e1 e2 e3 e4 e5 =
    grind (arith, common_steps, five, quoted_then) steps 1500000

pub refused_put : (message command : List ℕ) (request_seq seq : ℕ) (s0 s1 s2 s3 s4 s5 s6 : List ℕ)
    → request_seq < 2 ^ 64 → seq < 2 ^ 64 → s1 ≡ s0 ++ codes "{\"body\":{},\"command\":\"" → s2 ≡ s1 ++ escape command
    → s3 ≡ s2 ++ codes "\",\"message\":\"" → s4 ≡ s3 ++ escape message → s5 ≡ s4 ++ numbers_text request_seq seq
    → s6 ≡ s5 ++ codes ",\"success\":false,\"type\":\"response\"}"
    → PutsValue (refused_value message request_seq command seq) s0 s6
unfolding escape_byte
refused_put message command request_seq seq s0 s1 s2 s3 s4 s5 s6 below next_below e1 e2 e3 e4 e5 e6 = record {
  text = rw (e6, e5, e4, e3, e2, e1)
      (numbers_then ((s0 ++ _) ++ escape command) _ _ (codes "\",\"request_seq\":") (decimal request_seq)
      (codes ",\"seq\":") (decimal seq) _
      ∙ three s0 _ _ _ ∙ ap (λ t. s0 ++ (codes "{\"body\":{},\"command\":" ++ t))
      (ap (λ t. 34 ∷ (escape command ++ (34 ∷ (codes ",\"message\":" ++ t)))) (sym (quoted_then message _))
      ∙ sym (quoted_then command _)));
  fits = (tt, (tt, (tt, (below, (next_below, (tt, (tt, tt)))))));
}

pub content_put : (body : Option Data) (k : List ℕ) (d : Data) (ms : Members) (s0 s1 s2 bytes : List ℕ) → s0 ≡ []
    → PutsOpening body s0 s1 → PutsMembers (member k d ms) s1 s2 → bytes ≡ s2 → IsUtf8 bytes
    → IsContent (object (with_body body (member k d ms))) bytes
unfolding escape_byte
content_put None k d ms s0 s1 s2 bytes empty opened others is utf8 = grind (arith, common_steps) steps 1500000
content_put (Some b) k d ms s0 s1 s2 bytes empty opened others is utf8 = record {
  text = rw (is, others.text, opened.text, empty)
      (append_assoc (codes "{\"body\":") (compact_text b ++ codes ",") _
      ∙ ap (λ t. codes "{\"body\":" ++ t) (append_assoc (compact_text b) (codes ",") _));
  utf8 = utf8;
  fits = (opened.fits, others.fits);
}

pub value_is_content : (d : Data) (s0 s1 bytes : List ℕ) → s0 ≡ [] → PutsValue d s0 s1 → bytes ≡ s1 → IsUtf8 bytes
    → IsContent d bytes
value_is_content d s0 s1 bytes empty value is utf8 = grind (arith, common_steps) steps 1500000

pub both_ok : {X E : Type 0} (r : Result X E) (P Q R : X → Type 0) → ((x : X) → P x → Q x → R x) → IfOk r P → IfOk r Q
    → IfOk r R
both_ok (Ok x) P Q R all is so = all x is so
both_ok (Err e) P Q R all is so = tt
