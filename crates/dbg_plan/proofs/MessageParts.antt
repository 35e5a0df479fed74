-- A text reads as the parts of a message in one way, found from the left.
use Rattle.std.proofs.Common.{◌≡◌, ◌≢◌, ℕ, suc, ◌+◌, ◌<◌, List, [], ◌∷◌, ◌++◌, length, refl, sym, ap, ◌∙◌, arith, append_assoc, length-append}
use Rattle.pl0_tree.specs.Tree.{Expression}
use Rattle.dbg_plan.specs.Messages.{Part, Text, Value, expressions, Lacks, braced, ReadsParts}
use Rattle.std.proofs.lemmas.Grind.{common_steps}

-- ---- where a byte first stands

lacks_tail : (byte x : ℕ) (xs : List ℕ) → Lacks byte (x ∷ xs) → Lacks byte xs
lacks_tail byte x xs lacks = λ k d lt. lacks (suc k) d (omega arith)

lacks_head : (byte x : ℕ) (xs : List ℕ) → Lacks byte (x ∷ xs) → x ≢ byte
lacks_head byte x xs lacks = lacks 0 0 (omega arith)

-- a text without the byte isn't cut at it
uncut : (byte : ℕ) (text before after : List ℕ) → Lacks byte text → text ≢ before ++ byte ∷ after
uncut byte [] [] after lacks e = cc
uncut byte [] (b ∷ before) after lacks e = cc
uncut byte (x ∷ text) [] after lacks e = lacks_head byte x text lacks (let same : x ≡ byte = cc in same)
uncut byte (x ∷ text) (b ∷ before) after lacks e =
    uncut byte text before after (lacks_tail byte x text lacks) (let same : text ≡ before ++ byte ∷ after = cc in same)

-- it is cut in one way at the first such byte
cut_once : (byte : ℕ) (xs us ys vs : List ℕ) → Lacks byte xs → Lacks byte us → xs ++ byte ∷ ys ≡ us ++ byte ∷ vs
    → (xs ≡ us) × (ys ≡ vs)
cut_once byte [] [] ys vs first second e = (refl, cc)
cut_once byte [] (u ∷ us) ys vs first second e = absurd (lacks_head byte u us second (let same : u ≡ byte = cc in same))
cut_once byte (x ∷ xs) [] ys vs first second e = absurd (lacks_head byte x xs first (let same : x ≡ byte = cc in same))
cut_once byte (x ∷ xs) (u ∷ us) ys vs first second e =
    let head : x ≡ u = cc in
    let tail : xs ++ byte ∷ ys ≡ us ++ byte ∷ vs = cc in
    let rest = cut_once byte xs us ys vs (lacks_tail byte x xs first) (lacks_tail byte u us second) tail in
    (ap (λ h. h ∷ xs) head ∙ ap (λ t. u ∷ t) rest.0, rest.1)

-- ---- one way to read

module _ (Is : List ℕ → Expression → Type 0) where
  -- a text with a `{` reads as what is before it, an expression, and more
  pub record Continues (before inner after : List ℕ) (parts : List Part) : Type 0 where
    pub value : Expression
    pub more : List Part
    pub is : parts ≡ Text before ∷ Value value ∷ more
    pub reads : Is inner value
    pub rest : ReadsParts Is after more

  pub continues : (text before inner after : List ℕ) (parts : List Part) → text ≡ before ++ braced inner after
      → Lacks 123 before → Lacks 125 inner → ReadsParts Is text parts → Continues before inner after parts
  continues text before inner after [] e first second r = absurd r
  continues text before inner after (Value v ∷ parts) e first second r = absurd r
  continues text before inner after (Text b ∷ []) e first second r = absurd (uncut 123 text before _ r.1 e)
  continues text before inner after (Text b ∷ Text c ∷ parts) e first second r = absurd r
  continues text before inner after (Text b ∷ Value v ∷ parts) e first second r = grind (arith, common_steps, cut_once)

  -- a text without a `{` reads as itself
  pub alone : (text : List ℕ) (parts : List Part) → Lacks 123 text → ReadsParts Is text parts → parts ≡ Text text ∷ []
  alone text [] lacks r = absurd r
  alone text (Value v ∷ parts) lacks r = absurd r
  alone text (Text b ∷ []) lacks r = ap (λ t. Text t ∷ []) r.0
  alone text (Text b ∷ Text c ∷ parts) lacks r = absurd r
  alone text (Text b ∷ Value v ∷ parts) lacks r = absurd (uncut 123 text b (r.0 ++ 125 ∷ r.1) lacks r.2)

  -- a text with a `{`, but no `}` after it, reads as nothing
  pub unclosed : (text before after : List ℕ) (parts : List Part) → text ≡ before ++ 123 ∷ after → Lacks 123 before
      → Lacks 125 after → ReadsParts Is text parts → ⊥
  unclosed text before after [] e first lacks r = r
  unclosed text before after (Value v ∷ parts) e first lacks r = r
  unclosed text before after (Text b ∷ []) e first lacks r = uncut 123 text before after r.1 e
  unclosed text before after (Text b ∷ Text c ∷ parts) e first lacks r = r
  unclosed text before after (Text b ∷ Value v ∷ parts) e first lacks r =
      let outer = cut_once 123 b before (r.0 ++ 125 ∷ r.1) after r.3 first (sym r.2 ∙ e) in
      uncut 125 after r.0 r.1 lacks (sym outer.1)

  -- a text with a `{` has an expression
  pub some_value : (text before after : List ℕ) (parts : List Part) → text ≡ before ++ 123 ∷ after
      → ReadsParts Is text parts → 0 < length (expressions parts)
  some_value text before after [] e r = absurd r
  some_value text before after (Value v ∷ parts) e r = absurd r
  some_value text before after (Text b ∷ []) e r = absurd (uncut 123 text before after r.1 e)
  some_value text before after (Text b ∷ Text c ∷ parts) e r = absurd r
  some_value text before after (Text b ∷ Value v ∷ parts) e r = omega arith

  pub parts_once : ((text : List ℕ) (e f : Expression) → Is text e → Is text f → e ≡ f)
      → (text : List ℕ) (ps qs : List Part) → ReadsParts Is text ps → ReadsParts Is text qs → ps ≡ qs
  parts_once once text [] qs r s = absurd r
  parts_once once text (Value v ∷ ps) qs r s = absurd r
  parts_once once text (Text b ∷ []) qs r s = ap (λ t. Text t ∷ []) r.0 ∙ sym (alone text qs r.1 s)
  parts_once once text (Text b ∷ Text c ∷ ps) qs r s = absurd r
  parts_once once text (Text b ∷ Value v ∷ ps) qs r s =
      let c = continues text b r.0 r.1 qs r.2 r.3 r.4 s in
      grind (arith, common_steps, parts_once once r.1 ps c.more r.6 c.rest)

  -- ---- read from the left

  -- the text was read as these parts up to the rest, in the only way
  pub record IsReadTo (text : List ℕ) (parts : List Part) (rest : List ℕ) : Type 0 where
    pub onward : (more : List Part) → ReadsParts Is rest more → ReadsParts Is text (parts ++ more)
    pub back : (all : List Part) → ReadsParts Is text all → (more : List Part) × (all ≡ parts ++ more)
        × ReadsParts Is rest more

  pub one_further : (text rest before inner after : List ℕ) (parts : List Part) (e : Expression)
      → ((f : Expression) → Is inner f → f ≡ e) → IsReadTo text parts rest →
      rest ≡ before ++ braced inner after → Lacks 123 before → Lacks 125 inner → Is inner e
      → IsReadTo text (parts ++ Text before ∷ Value e ∷ []) after
  one_further text rest before inner after parts e once was cut first second is =
      record {
        onward = λ more r. rw (append_assoc parts (Text before ∷ Value e ∷ []) more) (was.onward (Text before ∷
            Value e ∷ more) (inner, after, cut, first, second, is, r));
        back = λ all r.
            let old = was.back all r in
            let c = continues rest before inner after old.0 cut first second old.2 in (
              c.more,
              cc (
                old.1,
                c.is,
                once c.value c.reads,
                append_assoc parts (Text before ∷ Value e ∷ [])
                    c.more,
              ),
              c.rest,
            );
      }

-- what is an expression may be more
pub reads_more : (Is As : List ℕ → Expression → Type 0) → ((text : List ℕ) (e : Expression) → Is text e → As text e)
    → (text : List ℕ) (parts : List Part) → ReadsParts Is text parts → ReadsParts As text parts
reads_more Is As more text [] r = absurd r
reads_more Is As more text (Value v ∷ parts) r = absurd r
reads_more Is As more text (Text b ∷ []) r = r
reads_more Is As more text (Text b ∷ Text c ∷ parts) r = absurd r
reads_more Is As more text (Text b ∷ Value v ∷ parts) r =
    (r.0, r.1, r.2, r.3, r.4, more r.0 v r.5, reads_more Is As more r.1 parts r.6)

-- ---- how many expressions

pub expressions-append : (ps qs : List Part) → expressions (ps ++ qs) ≡ expressions ps ++ expressions qs
expressions-append [] qs = refl
expressions-append (Text b ∷ ps) qs = expressions-append ps qs
expressions-append (Value e ∷ ps) qs = ap (λ l. e ∷ l) (expressions-append ps qs)

pub count-append : (ps qs : List Part) → length (expressions (ps ++ qs)) ≡ length (expressions ps) + length
    (expressions qs)
count-append ps qs = ap length (expressions-append ps qs) ∙ length-append (expressions ps) (expressions qs)
