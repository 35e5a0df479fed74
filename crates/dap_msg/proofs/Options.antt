-- What was read, by what came of it.
use Rattle.dap_msg.proofs.Common.{ap, as_str, Bool, Data, false, if◌then◌else◌, List, None, number, Option, option_and_then, option_filter, option_map, refl, Some, string, subst, true, unsigned, whole, ℕ, ◌∙◌, ◌≡◌}

-- ---- options turned round

pub and_then_is : {A B : Type 0} (f : A → Option B) (o : Option A) (y : B) → option_and_then f o ≡ Some y → (x : A)
    × (o ≡ Some x) × (f x ≡ Some y)
and_then_is f None y is = absurd (cc)
and_then_is f (Some x) y is = (x, refl, is)

pub map_is : {A B : Type 0} (f : A → B) (o : Option A) (y : B) → option_map f o ≡ Some y → (x : A) × (o ≡ Some x)
    × (f x ≡ y)
map_is f None y is = absurd (cc)
map_is f (Some x) y is = let same : f x ≡ y = cc in (x, refl, same)

filter_at : {A : Type 0} (b : Bool) (y x : A) → (if b then Some y else None) ≡ Some x → (b ≡ true) × (y ≡ x)
filter_at true y x is = let same : y ≡ x = cc in (refl, same)
filter_at false y x is = absurd (cc)

pub filter_is : {A : Type 0} (test : A → Bool) (o : Option A) (x : A) → option_filter test o ≡ Some x → (o ≡ Some x)
    × (test x ≡ true)
filter_is test None x is = absurd (cc)
filter_is test (Some y) x is =
    let kept = filter_at (test y) y x is in (ap Some kept.1, subst (λ z. test z ≡ true) kept.1 kept.0)

pub kept_by : {A : Type 0} (test : A → Bool) (x : A) → test x ≡ true → option_filter test (Some x) ≡ Some x
kept_by test x is = rw is

-- ---- members

pub text_is : (d : Data) (s : List ℕ) → as_str d ≡ Some s → d ≡ string s
text_is (string t) s is = let same : t ≡ s = cc in ap string same
text_is _ s is = absurd (cc)

pub whole_is : (d : Data) (n : ℕ) → whole d ≡ Some n → d ≡ number (unsigned n)
whole_is (number (unsigned k)) n is = let same : k ≡ n = cc in ap (λ m. number (unsigned m)) same
whole_is _ n is = absurd (cc)

pub text_member : (o : Option Data) (s : List ℕ) → option_and_then as_str o ≡ Some s → o ≡ Some (string s)
text_member o s is = let found = and_then_is as_str o s is in found.1 ∙ ap Some (text_is found.0 s found.2)

pub whole_member : (o : Option Data) (n : ℕ) → option_and_then whole o ≡ Some n → o ≡ Some (number (unsigned n))
whole_member o n is = let found = and_then_is whole o n is in found.1 ∙ ap Some (whole_is found.0 n found.2)
