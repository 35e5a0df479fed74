-- Defines the header part of a frame, by the base protocol of the Debug Adapter Protocol: fields `name: value`, each a
-- line ended by CR LF, and then an empty line. What the protocol leaves open is this project's own profile: which bytes
-- a name and a value may have, how a length is written, that it stands exactly once, both limits, and the faults.
use Rattle.std.specs.Prelude.{◌≡◌, ◌≢◌, ◌⊎◌, ◌&&◌, ◌||◌, ◌==◌, ℕ, ◌<◌, ◌≤◌, ◌^◌, Bool, true, nat_le, List, [], ◌∷◌, ◌++◌, length, take, filter, flat_map, map, codes, decimal, IsTrue}
use Rattle.std.specs.List.{list_all, AllByRecursion}
use Rattle.std.specs.Str.{bytes_eq}
use Rattle.dap_frame.specs.declared.fault.FramingFault.{FramingFault}
use Rattle.dap_frame.specs.declared.fault.FramingFault.TheVariants.{HeaderTooLong, BadField, NoLength, TwoLengths, BadLength, TooLarge, NoMemory}

-- CR LF
abbrev pub line_end : List ℕ
line_end = 13 ∷ 10 ∷ []

-- profile: the most bytes of a header part, its empty line included
abbrev pub header_limit : ℕ
header_limit = 1024

-- profile: the most bytes of a content
abbrev pub content_limit : ℕ
content_limit = 1048576

-- profile: an ASCII letter, a digit or `-`
abbrev pub is_name_byte : ℕ → Bool
is_name_byte x =
    (nat_le 97 x && nat_le x 122) || ((nat_le 65 x && nat_le x 90) || ((nat_le 48 x && nat_le x 57) || x == 45))

-- profile: a printable ASCII character, the space included
abbrev pub is_value_byte : ℕ → Bool
is_value_byte x = nat_le 32 x && nat_le x 126

-- a field of a header part
pub record Field : Type 0 where
  pub name : List ℕ
  pub value : List ℕ

-- a name is one or more name bytes, and a value any number of value bytes
pub record IsField (field : Field) : Type 0 where
  pub named : 0 < length field.name
  pub name : list_all is_name_byte field.name ≡ true
  pub value : list_all is_value_byte field.value ≡ true

-- name, colon, one space, value
abbrev pub field_text : Field → List ℕ
field_text field = field.name ++ (58 ∷ 32 ∷ field.value)

-- a line: its text and CR LF
abbrev pub line_of : List ℕ → List ℕ
line_of text = text ++ line_end

-- the lines of fields, one after the other
abbrev pub lines_of : List Field → List ℕ
lines_of fields = flat_map (λ field. line_of (field_text field)) fields

-- whether the field gives the length, by its name in exactly this spelling
abbrev pub is_length : Field → Bool
is_length field = bytes_eq field.name (codes "Content-Length")

-- the values of the fields `Content-Length`, in order
abbrev pub length_values : List Field → List (List ℕ)
length_values fields = map (λ field. field.value) (filter is_length fields)

-- profile: a length is written in 1 to 7 digits, without a leading zero unless it is `0`
abbrev pub IsLength : List ℕ → ℕ → Type 0
IsLength value n = (value ≡ decimal n) × (n < 10 ^ 7)

-- the bytes are a lawful header part that gives the length n
pub record IsHeader (header : List ℕ) (n : ℕ) : Type 0 where
  pub fields : List Field
  pub shaped : AllByRecursion IsField fields
  pub spelled : header ≡ lines_of fields ++ line_end
  pub once : length_values fields ≡ decimal n ∷ []
  pub allowed : n ≤ content_limit
  pub short : length header ≤ header_limit

-- ---- faults, all profile: lines are judged in order as they become complete, and the first faulty one is the fault

-- no line ends within the bytes
abbrev pub HasNoLineEnd : List ℕ → Type 0
HasNoLineEnd bytes = (before after : List ℕ) → bytes ≢ before ++ (line_end ++ after)

-- fields in which no line is faulty: at most one length, and that one allowed
pub record AreFaultless (fields : List Field) : Type 0 where
  pub shaped : AllByRecursion IsField fields
  pub lengths : (length_values fields ≡ []) ⊎ ((n : ℕ) × (n ≤ content_limit) × (length_values fields ≡ decimal n ∷ []))

-- the fault of a line, without its end, that stands after faultless fields
abbrev pub LineFault : List Field → List ℕ → FramingFault → Type 0
LineFault before line HeaderTooLong = ⊥
LineFault before line BadField = (line ≢ []) × ((field : Field) → IsField field → line ≢ field_text field)
LineFault before line NoLength = (line ≡ []) × (length_values before ≡ [])
LineFault before line TwoLengths =
    (field : Field) × IsField field × (line ≡ field_text field) × IsTrue (is_length field) × (length_values before ≢ [])
LineFault before line BadLength =
    (field : Field) × IsField field × (line ≡ field_text field) × IsTrue (is_length field) × (length_values before ≡ [])
    × ((n : ℕ) → ¬ IsLength field.value n)
LineFault before line TooLarge =
    (field : Field) × IsField field × (line ≡ field_text field) × IsTrue (is_length field) × (length_values before ≡ [])
    × ((n : ℕ) × IsLength field.value n × (content_limit < n))
LineFault before line NoMemory = ⊥

-- after faultless fields a line is complete within the limit, and has the fault
pub record HasFaultyLine (bytes : List ℕ) (fault : FramingFault) : Type 0 where
  pub fields : List Field
  pub line : List ℕ
  pub after : List ℕ
  pub faultless : AreFaultless fields
  pub spelled : bytes ≡ lines_of fields ++ (line_of line ++ after)
  pub one_line : HasNoLineEnd (line ++ 13 ∷ [])
  pub within : length (lines_of fields ++ line_of line) ≤ header_limit
  pub faulty : LineFault fields line fault

-- the limit is reached with faultless fields and a line that isn't complete
pub record IsTooLong (bytes : List ℕ) : Type 0 where
  pub fields : List Field
  pub part : List ℕ
  pub faultless : AreFaultless fields
  pub there : header_limit ≤ length bytes
  pub spelled : take header_limit bytes ≡ lines_of fields ++ part
  pub incomplete : HasNoLineEnd part

-- the fault that the header part at the front of the bytes has
abbrev pub FaultAt : List ℕ → FramingFault → Type 0
FaultAt bytes HeaderTooLong = IsTooLong bytes
FaultAt bytes BadField = HasFaultyLine bytes BadField
FaultAt bytes NoLength = HasFaultyLine bytes NoLength
FaultAt bytes TwoLengths = HasFaultyLine bytes TwoLengths
FaultAt bytes BadLength = HasFaultyLine bytes BadLength
FaultAt bytes TooLarge = HasFaultyLine bytes TooLarge
FaultAt bytes NoMemory = ⊥
