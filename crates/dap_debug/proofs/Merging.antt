-- Texts of one kind that follow each other are one; for `telling` and `debug_laws`.
use Rattle.std.proofs.Common.{◌≡◌, ◌++◌, ◌∙◌, ℕ, true, false, List, [], ◌∷◌, refl, sym, ap, map, append_assoc}
use Rattle.std.specs.List.{flat_map}
use Rattle.std.proofs.lemmas.List.{map-append}
use Rattle.debuggee.specs.declared.halt.Output.{Output}
use Rattle.debuggee.specs.Plain.{PlainOutput, Printed, Logged, plain_output}
use Rattle.dap_debug.specs.Telling.{merge, merged, end_from, end_with}
use Rattle.dap_debug.specs.Laws.{Differs, Alternates, bytes_of}

-- ---- one text more

merge_end : (first : PlainOutput) (texts : List PlainOutput) (one : PlainOutput)
    → merge first (end_with texts one) ≡ end_with (merge first texts) one
merge_end (Printed a) [] (Printed c) = refl
merge_end (Printed a) [] (Logged c) = refl
merge_end (Logged a) [] (Printed c) = refl
merge_end (Logged a) [] (Logged c) = refl
merge_end (Printed a) (Printed b ∷ []) (Printed c) = ap (λ t. Printed t ∷ []) (sym (append_assoc a b c))
merge_end (Printed a) (Printed b ∷ []) (Logged c) = refl
merge_end (Printed a) (Logged b ∷ []) (Printed c) = refl
merge_end (Printed a) (Logged b ∷ []) (Logged c) = refl
merge_end (Logged a) (Printed b ∷ []) (Printed c) = refl
merge_end (Logged a) (Printed b ∷ []) (Logged c) = refl
merge_end (Logged a) (Logged b ∷ []) (Printed c) = refl
merge_end (Logged a) (Logged b ∷ []) (Logged c) = ap (λ t. Logged t ∷ []) (sym (append_assoc a b c))
merge_end (Printed a) (Printed b ∷ (next ∷ others)) one = refl
merge_end (Printed a) (Logged b ∷ (next ∷ others)) one = refl
merge_end (Logged a) (Printed b ∷ (next ∷ others)) one = refl
merge_end (Logged a) (Logged b ∷ (next ∷ others)) one = refl

merged_more : (told : List PlainOutput) (one : PlainOutput) → merged (told ++ one ∷ []) ≡ end_with (merged told) one
merged_more [] (Printed text) = refl
merged_more [] (Logged text) = refl
merged_more (first ∷ told) one = ap (merge first) (merged_more told one) ∙ merge_end first (merged told) one

-- the same of texts that were told, and of those that are kept
pub one_text : (told kept new : List Output) (one : Output)
    → map plain_output kept ≡ merged (map plain_output told)
    → map plain_output new ≡ end_with (map plain_output kept) (plain_output one)
    → map plain_output new ≡ merged (map plain_output (told ++ one ∷ []))
one_text told kept new one are is =
    cc (merged_more (map plain_output told) (plain_output one), map-append plain_output told (one ∷ []))

-- ---- one text more, by the last one

end_from_last : (first : PlainOutput) (before : List PlainOutput) (last one : PlainOutput)
    → end_from first (before ++ last ∷ []) one ≡ first ∷ (before ++ merge last (one ∷ []))
end_from_last first [] last one = refl
end_from_last first (next ∷ before) last one = ap (λ l. first ∷ l) (end_from_last next before last one)

end_at : (before : List PlainOutput) (last one : PlainOutput)
    → end_with (before ++ last ∷ []) one ≡ before ++ merge last (one ∷ [])
end_at [] last one = refl
end_at (first ∷ before) last one = end_from_last first before last one

pub after_last : (before old new : List Output) (last one : Output) → old ≡ before ++ last ∷ []
    → map plain_output new ≡ map plain_output before ++ merge (plain_output last) (plain_output one ∷ [])
    → map plain_output new ≡ end_with (map plain_output old) (plain_output one)
after_last before old new last one popped is = cc (map-append plain_output before (last ∷ []), end_at _ _ _)

-- ---- what merged texts keep

bytes_kept : (first : PlainOutput) (texts : List PlainOutput)
    → flat_map bytes_of (merge first texts) ≡ bytes_of first ++ flat_map bytes_of texts
bytes_kept (Printed a) (Printed b ∷ others) =
    ap (λ l. l ++ flat_map bytes_of others) (map-append (λ byte. (true, byte)) a b)
    ∙ append_assoc (bytes_of (Printed a)) (bytes_of (Printed b)) (flat_map bytes_of others)
bytes_kept (Logged a) (Logged b ∷ others) =
    ap (λ l. l ++ flat_map bytes_of others) (map-append (λ byte. (false, byte)) a b)
    ∙ append_assoc (bytes_of (Logged a)) (bytes_of (Logged b)) (flat_map bytes_of others)
bytes_kept _ _ = refl

pub all_bytes_kept : (told : List PlainOutput) → flat_map bytes_of (merged told) ≡ flat_map bytes_of told
all_bytes_kept [] = refl
all_bytes_kept (first ∷ told) = cc (bytes_kept first (merged told), all_bytes_kept told)

printed_differs : (a b : List ℕ) (others : List PlainOutput) → Differs (Printed b) others → Differs (Printed a) others
printed_differs a b (Printed c ∷ others) is = absurd is
printed_differs a b _ is = tt

logged_differs : (a b : List ℕ) (others : List PlainOutput) → Differs (Logged b) others → Differs (Logged a) others
logged_differs a b (Logged c ∷ others) is = absurd is
logged_differs a b _ is = tt

merge_alternates : (first : PlainOutput) (texts : List PlainOutput) → Alternates texts → Alternates (merge first texts)
merge_alternates (Printed a) [] is = (tt, tt)
merge_alternates (Logged a) [] is = (tt, tt)
merge_alternates (Printed a) (Printed b ∷ others) is = (printed_differs (a ++ b) b others is.0, is.1)
merge_alternates (Logged a) (Logged b ∷ others) is = (logged_differs (a ++ b) b others is.0, is.1)
merge_alternates _ _ is = (tt, is)

pub alternate : (told : List PlainOutput) → Alternates (merged told)
alternate [] = tt
alternate (first ∷ told) = merge_alternates first (merged told) (alternate told)
