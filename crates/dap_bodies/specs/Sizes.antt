-- Defines how much of a text and of a list is shown, so that a body has a bound.
use Rattle.std.specs.Prelude.{◌+◌, ◌-◌, ◌*◌, ℕ, nat_lt, List, [], ◌∷◌, length, if◌then◌else◌}
use Rattle.std.specs.Fmt.Cut.{cut_to, floor_char_boundary}
use Rattle.serde_json.specs.Data.{Data, null, boolean, number, string, array, object, Items, no_items, item, Members, no_members, member}
use Rattle.serde_json.specs.View.{items_of}

-- the most bytes of a text that is shown
abbrev pub text_limit : ℕ
text_limit = 65536

-- a text as it is shown: if it has more bytes, the characters that fit before three dots, and these
abbrev pub shown_text : List ℕ → List ℕ
shown_text text = cut_to text_limit text

-- how many bytes have the characters of a text of more bytes that fit
abbrev pub fit_of : List ℕ → ℕ
fit_of text = floor_char_boundary text text_limit

-- How many bytes a value takes at most where it is written. A byte of a text takes at most six, as `\u0000`, and a
-- number at most twenty. Each text has its quotes, each item a comma, and each member a colon and a comma.
abbrev mutual
  pub size_of : Data → ℕ
  size_of null = 4
  size_of (boolean b) = 5
  size_of (number n) = 20
  size_of (string s) = 6 * length s + 2
  size_of (array ds) = items_size ds + 2
  size_of (object ms) = members_size ms + 2

  pub items_size : Items → ℕ
  items_size no_items = 0
  items_size (item d ds) = size_of d + 1 + items_size ds

  pub members_size : Members → ℕ
  members_size no_members = 0
  members_size (member k d ms) = 6 * length k + 4 + size_of d + members_size ms

-- the most bytes of a list's items, by their sizes
abbrev pub list_limit : ℕ
list_limit = 1000000

-- as many values as fit, from the first on, each with its comma
abbrev pub fitting : ℕ → List Data → List Data
fitting room [] = []
fitting room (d ∷ ds) = if nat_lt (size_of d) room then d ∷ fitting (room - (size_of d + 1)) ds else []

-- the list of as many of these values as fit
abbrev pub shown_list : List Data → Data
shown_list ds = array (items_of (fitting list_limit ds))
