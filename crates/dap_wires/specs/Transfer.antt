-- Defines what a read of an input yields.
use Rattle.std.specs.Prelude.{◌≡◌, ◌<◌, ◌≤◌, [], ◌∷◌, ℕ, true, List, length}
use Rattle.dap_history.specs.Events.{Incoming, Piece, End, ReadFailed, NoMemory, File, Report}
use Rattle.byte_streams.specs.Streams.{Supply, Appends}

-- the most bytes of a piece
abbrev pub piece_limit : ℕ
piece_limit = 4096

-- What was read of an input for an event: a piece, which is never empty, or the end, or nothing at a failure. A report
-- comes from elsewhere, and no file is read so.
abbrev pub IsRead : Incoming → Supply → Supply → Type 0
IsRead (Piece bytes) old later =
    Appends old.read later.read bytes × (length bytes ≤ piece_limit) × (later.failures ≡ old.failures)
    × (0 < length bytes)
IsRead End old later = Appends old.read later.read [] × (later.ended ≡ true) × (later.failures ≡ old.failures)
IsRead ReadFailed old later = Appends old.read later.read [] × (old.failures < later.failures)
IsRead NoMemory old later = Appends old.read later.read [] × (later.failures ≡ old.failures)
IsRead (Report r) old later = later ≡ old
IsRead (File file) old later = ⊥

-- the same of events, one after another
abbrev pub AreRead : List Incoming → Supply → Supply → Type 0
AreRead [] old later = later ≡ old
AreRead (e ∷ events) old later = (mid : Supply) × IsRead e old mid × AreRead events mid later
