-- What an option's number is, and which command line the calls of clap make.
use Rattle.std.proofs.Common.{◌≡◌, ◌∙◌, ℕ, ◌<◌, ◌^◌, ap, ap₂, refl, sym, Bool, ◌&&◌, true, false, not, Bor, List, [], map, Option, Some, None, Result, Ok, Err, option_map, unwrap_or}
use Rattle.std.proofs.lemmas.Option.{same_Some}
use Rattle.std.specs.Str.Parse.{IsNumeral, ParsesUnsigned, digits_value, without_leading_plus}
use Rattle.clap.specs.Words.{Text}
use Rattle.clap.specs.Matches.{ReadsOne}
use Rattle.pl0_tool.specs.Arguments.{IsNumber}

module _ {E : Type 0} (Gives : Text → Result ℕ E → Type 0)
    (parses : (text : Text) (r : Result ℕ E) → Gives text r → ParsesUnsigned 64 10 text r) where
  -- the number that a text was read as
  read_number : (text : Text) (read : Option ℕ) (default : ℕ) → ReadsOne Gives text read
      → IsNumeral 10 (without_leading_plus text) → digits_value 10 (without_leading_plus text) < 2 ^ 64
      → unwrap_or read default ≡ digits_value 10 (without_leading_plus text)
  read_number text (Some n) default gives numeral fits = (parses text (Ok n) gives).1
  read_number text None default gives numeral fits = absurd (parses text (Err gives.0) gives.1 (numeral, fits))

  -- the number of an option is what its text reads as, or the other one
  pub option_number : (text : Option Text) (read : Option ℕ) (default n : ℕ) → (text ≡ None → read ≡ None)
      → ((t : Text) → text ≡ Some t → ReadsOne Gives t read) → n ≡ unwrap_or read default → IsNumber default text n
  option_number None read default n absent reads is = is ∙ ap (λ (r : Option ℕ). unwrap_or r default) (absent refl)
  option_number (Some t) read default n absent reads is = λ numeral fits.
      is ∙ read_number t read default (reads t refl) numeral fits

-- the texts behind references, where there are none otherwise
pub texts_or_none : (given : Option (Bor (List (Bor Text)))) (none : Bor (List (Bor Text))) (said : Option (List Text))
    → none.now ≡ [] → option_map (λ texts. map (λ text. text.now) texts.now) given ≡ said
    → map (λ text. text.now) (unwrap_or given none).now ≡ unwrap_or said []
texts_or_none None none said empty is =
    ap (map (λ (text : Bor Text). text.now)) empty ∙ ap (λ (o : Option (List Text)). unwrap_or o []) is
texts_or_none (Some texts) none said empty is = ap (λ (o : Option (List Text)). unwrap_or o []) is

-- what was met is known by its two parts
pub both_parts : {X A B : Type 0} (f : X → A) (g : X → B) (met : Option X) (a : A) (b : B) → Some a ≡ option_map f met
    → Some b ≡ option_map (λ (p : A × B). p.1) (option_map {T = X} {U = A × B} (λ x. (f x, g x)) met)
    → option_map {T = X} {U = A × B} (λ x. (f x, g x)) met ≡ Some (a, b)
both_parts f g None a b first second = cc
both_parts {X} {A} {B} f g (Some x) a b first second =
    ap₂ (λ (l : A) (r : B). Some (l, r)) (same_Some (f x) a (sym first)) (same_Some (g x) b (sym second))

-- a plain command has no global argument
pub local_if_plain : (grouped external is_global rest : Bool)
    → (grouped && (external && (not is_global && rest))) ≡ true → is_global ≡ false
local_if_plain true true false rest plain = refl
local_if_plain true true true rest plain = cc
local_if_plain true false is_global rest plain = cc
local_if_plain false external is_global rest plain = cc
