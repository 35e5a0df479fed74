-- Defines how far the header part at the front of a rest was read, and how many bytes a decoder may keep.
use Rattle.std.specs.Prelude.{◌≡◌, ℕ, ◌-◌, nat_lt, if◌then◌else◌, ◌+◌, ◌*◌, ◌<◌, ◌≤◌, List, [], ◌∷◌, length, take, slice_index, Option, Some, None, decimal}
use Rattle.std.specs.List.{AllByRecursion}
use Rattle.dap_frame.specs.declared.header.Header.{Header}
use Rattle.dap_frame.specs.declared.header.Header.TheVariants.{Open, Whole}
use Rattle.dap_frame.specs.declared.header.Scan.{Scan}
use Rattle.dap_frame.specs.Header.{Field, IsField, lines_of, length_values, header_limit, content_limit, IsHeader}
use Rattle.dap_frame.specs.Frame.{IsOpen}

-- CR LF stands at place k
abbrev pub EndsAt : List ℕ → ℕ → Type 0
EndsAt bytes k = (slice_index bytes k ≡ 13) × (slice_index bytes (k + 1) ≡ 10)

-- no line ends between places i and j
abbrev pub HasNoEnd : List ℕ → ℕ → ℕ → Type 0
HasNoEnd bytes i j = (k : ℕ) → i ≤ k → k + 1 < j → ¬ EndsAt bytes k

-- the fields give no length, or one that is allowed
abbrev pub Names : List Field → Option ℕ → Type 0
Names fields None = length_values fields ≡ []
Names fields (Some n) = (n ≤ content_limit) × (length_values fields ≡ decimal n ∷ [])

-- the lines that were judged are fields, and no line ends in what was searched after them
pub record IsScanned (scan : Scan) (rest : List ℕ) : Type 0 where
  pub fields : List Field
  pub shaped : AllByRecursion IsField fields
  pub names : Names fields scan.named
  pub spelled : take scan.judged rest ≡ lines_of fields
  pub in_order : scan.judged ≤ scan.searched
  pub there : scan.searched ≤ length rest
  pub within : scan.searched ≤ header_limit
  pub no_end : HasNoEnd rest scan.judged scan.searched

-- the header part at the front of the rest was read as far as this
abbrev pub IsRead : Header → List ℕ → Type 0
IsRead (Open scan) rest = IsScanned scan rest
IsRead (Whole size content_len) rest = (size ≤ length rest) × IsHeader (take size rest) content_len

-- the header part was read as far as it has come: all of the rest was searched
abbrev pub IsReadOut : Header → List ℕ → Type 0
IsReadOut (Open scan) rest = IsScanned scan rest × (scan.searched ≡ length rest) × IsOpen rest
IsReadOut (Whole size content_len) rest = (size ≤ length rest) × IsHeader (take size rest) content_len

-- ---- how many bytes are kept

-- how many bytes more than twice the rest may be kept
abbrev pub spare : ℕ
spare = 4096

-- at most twice as many bytes are kept as the rest has, and `spare` more
abbrev pub IsBounded : ℕ → ℕ → Type 0
IsBounded kept rest = kept ≤ 2 * rest + spare

-- how many of `len` bytes are kept when the next piece comes: the first `passed`, of frames already read, are removed
-- where they are more than the rest
abbrev pub kept_of : ℕ → ℕ → ℕ
kept_of passed len = if nat_lt (len - passed) passed then len - passed else len
