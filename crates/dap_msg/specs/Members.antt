-- States, for the laws, which members an object has.
use Rattle.std.specs.Prelude.{◌≡◌, ◌≤◌, ◌^◌, ◌-◌, ℕ, zero, suc, List, [], ◌∷◌, Option, None, Some, unwrap_or, option_and_then}
use Rattle.serde_json.specs.Data.{Data, array, object, Items, no_items, item, Members, no_members, member}
use Rattle.serde_json.specs.Find.{get}

-- the member at the key is this value
abbrev pub Has : List ℕ → Data → Option Data → Type 0
Has key value d = option_and_then (get key) d ≡ Some value

-- the member at the key is this value, where an absent one counts as the default
abbrev pub HasOr : Data → List ℕ → Data → Option Data → Type 0
HasOr default key value d = unwrap_or (option_and_then (get key) d) default ≡ value

-- it is an object, or absent
abbrev pub IsObjectOrAbsent : Option Data → Type 0
IsObjectOrAbsent None = Unit {0}
IsObjectOrAbsent (Some (object ms)) = Unit {0}
IsObjectOrAbsent (Some _) = ⊥

-- the values say these, one each, in order
abbrev pub SayEach : {A : Type 0} → (A → Data → Type 0) → List A → Items → Type 0
SayEach Says [] no_items = Unit {0}
SayEach Says (x ∷ xs) (item d ds) = Says x d × SayEach Says xs ds
SayEach Says [] (item d ds) = ⊥
SayEach Says (x ∷ xs) no_items = ⊥

-- the member at the key is an array, whose values say these
abbrev pub HasEach : {A : Type 0} → (A → Data → Type 0) → List ℕ → List A → Option Data → Type 0
HasEach Says key xs d = (ds : Items) × Has key (array ds) d × SayEach Says xs ds

-- how many members an object has
abbrev pub length_of : Members → ℕ
length_of no_members = zero
length_of (member key value ms) = suc (length_of ms)

-- it is an object of this many members: it has no others than those that are said
abbrev pub HasOnly : ℕ → Option Data → Type 0
HasOnly n (Some (object ms)) = length_of ms ≡ n
HasOnly n _ = ⊥

-- a whole number that a member may be, unless another range is said for it
abbrev pub IsSmall : ℕ → Type 0
IsSmall n = n ≤ 2 ^ 53 - 1
