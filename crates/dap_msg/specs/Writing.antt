-- Defines, for private contracts, which texts need no escape, and what is appended of a message.
use Rattle.std.specs.Prelude.{◌≡◌, ◌<◌, ◌^◌, ◌&&◌, ◌==◌, ℕ, nat_le, not, Bool, true, false, List, [], ◌∷◌, ◌++◌, Option, None, Some, codes, IsUtf8}
use Rattle.std.specs.Fmt.{decimal}
use Rattle.std.specs.List.{list_all}
use Rattle.serde_json.specs.Data.{Data, null, boolean, number, unsigned, negative, float, string, array, object, Items, no_items, item, Members, no_members, member}
use Rattle.serde_json.specs.View.{items_of}
use Rattle.serde_json.specs.Written.{comma_if, compact_text, members_text}
use Rattle.json.specs.Print.{quoted}
use Rattle.dap_msg.specs.StackTrace.{source}

-- each number in the value is a whole number of 64 bits that isn't negative
abbrev mutual
  pub Fits : Data → Type 0
  Fits null = Unit {0}
  Fits (boolean b) = Unit {0}
  Fits (number (unsigned n)) = n < 2 ^ 64
  Fits (number (negative z)) = ⊥
  Fits (number (float x)) = ⊥
  Fits (string s) = Unit {0}
  Fits (array ds) = ItemsFit ds
  Fits (object ms) = MembersFit ms

  pub ItemsFit : Items → Type 0
  ItemsFit no_items = Unit {0}
  ItemsFit (item d ds) = Fits d × ItemsFit ds

  pub MembersFit : Members → Type 0
  MembersFit no_members = Unit {0}
  MembersFit (member k d ms) = Fits d × MembersFit ms

-- a byte that stands in a string as it is: no control character, no quote and no backslash
abbrev pub is_plain_byte : ℕ → Bool
is_plain_byte x = nat_le 32 x && (not (x == 34) && not (x == 92))

-- whether each byte of a text is one
abbrev pub is_plain : List ℕ → Bool
is_plain text = list_all is_plain_byte text

-- the text of the value was appended
pub record PutsValue (d : Data) (old new : List ℕ) : Type 0 where
  pub text : new ≡ old ++ compact_text d
  pub fits : Fits d

-- the text of a message up to the member after its body, if it has a body
abbrev pub opening : Option Data → List ℕ
opening None = codes "{"
opening (Some d) = codes "{\"body\":" ++ (compact_text d ++ codes ",")

abbrev pub OpeningFits : Option Data → Type 0
OpeningFits None = Unit {0}
OpeningFits (Some d) = Fits d

-- it was appended
pub record PutsOpening (body : Option Data) (old new : List ℕ) : Type 0 where
  pub text : new ≡ old ++ opening body
  pub fits : OpeningFits body

-- the text of the members was appended, with the closing bracket
pub record PutsMembers (ms : Members) (old new : List ℕ) : Type 0 where
  pub text : new ≡ old ++ members_text false ms
  pub fits : MembersFit ms

-- the texts of values with commas between them, and with one in front where something stands before
abbrev pub joined_text : Bool → List Data → List ℕ
joined_text later [] = []
joined_text later (d ∷ ds) = comma_if later ++ (compact_text d ++ joined_text true ds)

-- the texts of the values were appended, with commas between them
pub record PutsItems (ds : List Data) (old new : List ℕ) : Type 0 where
  pub text : new ≡ old ++ joined_text false ds
  pub fits : ItemsFit (items_of ds)

-- the text of a message up to the values of a list that is the one member of its body
abbrev pub list_opening : List ℕ → List ℕ
list_opening key = codes "{\"body\":{" ++ (quoted key ++ codes ":[")

-- what stands after its name in a frame whose source has this path
abbrev pub frame_end : List ℕ → List ℕ
frame_end path = codes "\",\"source\":" ++ (compact_text (source path) ++ codes "}")

-- the numbers of an answer, after the quote of the text before them
abbrev pub numbers_text : ℕ → ℕ → List ℕ
numbers_text request_seq seq =
    codes "\",\"request_seq\":" ++ (decimal request_seq ++ (codes ",\"seq\":" ++ decimal seq))

-- the bytes are the value's text
pub record IsContent (d : Data) (bytes : List ℕ) : Type 0 where
  pub text : bytes ≡ compact_text d
  pub utf8 : IsUtf8 bytes
  pub fits : Fits d
