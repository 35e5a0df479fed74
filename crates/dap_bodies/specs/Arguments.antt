-- Defines the members of arguments, and of their members.
use Rattle.std.specs.Prelude.{ℕ, Bool, false, List, Option, option_and_then, unwrap_or}
use Rattle.serde_json.specs.Data.{Data, Items, no_items}
use Rattle.serde_json.specs.Find.{get, as_array, as_bool, as_number, as_str, as_u64}

-- the member at a key
abbrev pub member_at : List ℕ → Option Data → Option Data
member_at key arguments = option_and_then (get key) arguments

-- the text at a key
abbrev pub text_at : List ℕ → Option Data → Option (List ℕ)
text_at key arguments = option_and_then as_str (member_at key arguments)

-- the whole number at a key
abbrev pub whole_at : List ℕ → Option Data → Option ℕ
whole_at key arguments = option_and_then (λ v. option_and_then as_u64 (as_number v)) (member_at key arguments)

-- the truth value at a key, or the one that stands for none
abbrev pub truth_or : Bool → List ℕ → Option Data → Bool
truth_or none key arguments = unwrap_or (option_and_then as_bool (member_at key arguments)) none

-- the truth value at a key; false where there is none
abbrev pub truth_at : List ℕ → Option Data → Bool
truth_at key arguments = truth_or false key arguments

-- the list at a key; an empty one where there is none
abbrev pub list_at : List ℕ → Option Data → Items
list_at key arguments = unwrap_or (option_and_then as_array (member_at key arguments)) no_items
