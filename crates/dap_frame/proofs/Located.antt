-- Two readings of the same bytes: a line of the one is a line of the other, or stands after it.
use Rattle.dap_frame.proofs.Common.{[], AllByRecursion, append-nil, append_assoc, Field, field_text, HasNoLineEnd, inl, inr, IsField, line_end, line_of, lines_of, List, refl, sym, ℕ, ◌++◌, ◌∙◌, ◌∷◌, ◌≡◌, ◌⊎◌}
use Rattle.dap_frame.proofs.Lines.{same_line, same_field, field_one_line, empty_one_line, text_not_empty}
use Rattle.std.proofs.Common.{arith}
use Rattle.std.proofs.lemmas.Grind.{common_steps}

-- a line after the fields gs, where the bytes are also the fields fs and then part: it is the field of fs after gs, or
-- it stands in part
abbrev pub IsLocated : List Field → List Field → List ℕ → List ℕ → List ℕ → Type 0
IsLocated fs gs part line after =
    ((f : Field) × (more : List Field) × (fs ≡ gs ++ f ∷ more) × (line ≡ field_text f))
    ⊎ ((more : List Field) × AllByRecursion IsField more × (gs ≡ fs ++ more)
    × (part ≡ lines_of more ++ (line_of line ++ after)))

pub line_then : (text more rest : List ℕ) → (line_of text ++ more) ++ rest ≡ text ++ (line_end ++ (more ++ rest))
line_then text more rest = append_assoc (line_of text) more rest ∙ append_assoc text line_end (more ++ rest)

later : (f g : Field) (fs gs : List Field) (part line after : List ℕ) → f ≡ g → IsLocated fs gs part line after
    → IsLocated (f ∷ fs) (g ∷ gs) part line after
later f g fs gs part line after e (inl (h, more, so, is)) = inl (h, more, cc, is)
later f g fs gs part line after e (inr (more, are, so, is)) = inr (more, are, cc, is)

pub located : (fs gs : List Field) (part line after : List ℕ) → AllByRecursion IsField fs → AllByRecursion IsField gs
    → HasNoLineEnd (line ++ 13 ∷ [])
    → lines_of fs ++ part ≡ lines_of gs ++ (line_of line ++ after) → IsLocated fs gs part line after
located [] gs part line after h k one e = inr (gs, k, refl, e)
located (f ∷ fs) [] part line after h k one e =
    grind (arith, common_steps, same_line, field_one_line, line_then, append_assoc)
located (f ∷ fs) (g ∷ gs) part line after h k one e =
    let lines = same_line _ _ _ _ (field_one_line f h.0) (field_one_line g k.0) (sym (line_then _ _ part) ∙ e ∙
    line_then _ _ _) in
    later f g fs gs part line after (same_field f g h.0 k.0 lines.0) (located fs gs part line after h.1 k.1 one lines.1)

-- in what has no end of a line stands no line
pub none_inside : (more : List Field) (part line after : List ℕ) → HasNoLineEnd part → part ≡ lines_of more
    ++ (line_of line ++ after) → ⊥
none_inside more part line after none e =
    none (lines_of more ++ line) after (cc (append_assoc line line_end after, append_assoc _ line _))

-- of fields each one is a field
pub is_field_at : (gs more : List Field) (f : Field) → AllByRecursion IsField (gs ++ f ∷ more) → IsField f
is_field_at [] more f h = h.0
is_field_at (g ∷ gs) more f h = is_field_at gs more f h.1

same_at : (fs gs : List Field) (x y : List ℕ) → AllByRecursion IsField fs → IsLocated fs gs (line_end ++ x) [] y
    → (fs ≡ gs) × (x ≡ y)
same_at fs gs x y h (inl (f, more, so, is)) = absurd (text_not_empty f (is_field_at gs more f (rw (← so) h)) is)
same_at fs gs x y h (inr ([], are, so, is)) = (sym (so ∙ append-nil fs), cc)
same_at fs gs x y h (inr (g ∷ more, are, so, is)) =
    absurd (text_not_empty g are.0 (same_line [] (field_text g) x (lines_of more ++ (line_end ++ y)) empty_one_line
    (field_one_line g are.0) (is ∙ line_then (field_text g) (lines_of more) (line_end ++ y))).0)

-- an empty line after fields: the fields are one list, whatever follows
pub same_fields : (fs gs : List Field) (x y : List ℕ) → AllByRecursion IsField fs → AllByRecursion IsField gs
    → lines_of fs ++ (line_end ++ x) ≡ lines_of gs ++ (line_end ++ y) → (fs ≡ gs) × (x ≡ y)
same_fields fs gs x y h k e = same_at fs gs x y h (located fs gs (line_end ++ x) [] y h k empty_one_line e)
