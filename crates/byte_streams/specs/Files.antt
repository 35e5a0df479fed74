-- Defines what is read of files that are opened by their names.
use Rattle.std.specs.Prelude.{◌≡◌, ◌⊎◌, ◌<◌, ℕ, [], List, Result, Ok, Err}
use Rattle.std.specs.declared.alloc.Global.{Global}
use Rattle.std.specs.declared.vec.Vec.{Vec}
use Rattle.byte_streams.specs.Beginning.{BeginsWith}
use Rattle.byte_streams.specs.Streams.{Supply}
use Rattle.byte_streams.specs.declared.files.FileFault.{FileFault}
use Rattle.byte_streams.specs.declared.files.FileFault.TheVariants.{CannotRead, NoMemory}

-- What reading an input gave: its beginning, up to the limit; or nothing, where a read failed or memory ran out.
abbrev pub HasRead : ℕ → Result (List ℕ) FileFault → Supply → Supply → Type 0
HasRead limit (Ok text) old later = BeginsWith limit text old later × (later.failures ≡ old.failures)
HasRead limit (Err CannotRead) old later = old.failures < later.failures
HasRead limit (Err NoMemory) old later = later.failures ≡ old.failures
HasRead limit (Err fault) old later = ⊥

-- the text that was read, as plain data
abbrev pub plain_text : Result (Vec ℕ Global) FileFault → Result (List ℕ) FileFault
plain_text (Ok text) = Ok text.items
plain_text (Err fault) = Err fault

-- Files are read up to the limit. By `opens` they are opened by their names, by `closes` they are given back, and by
-- `supply_of` it is known what was read of one until then.
module _ {Files File : Type 0} (limit : ℕ) (opens : Files → List ℕ → Result File FileFault → Files → Type 0)
    (closes : Files → File → Files → Type 0) (supply_of : File → Supply) where
  -- The file of this name was opened, read and given back.
  pub record ReadsOpened (name : List ℕ) (result : Result (List ℕ) FileFault) (old later : Files) : Type 0 where
    pub file : File
    pub mid : Files
    pub opened : opens old name (Ok file) mid
    pub unread : (supply_of file).read.bytes ≡ []
    pub read : File
    pub has_read : HasRead limit result (supply_of file) (supply_of read)
    pub closed : closes mid read later

  -- The file was read, or it couldn't be opened.
  abbrev pub ReadsFile : List ℕ → Result (List ℕ) FileFault → Files → Files → Type 0
  ReadsFile name read old later =
      ReadsOpened name read old later
      ⊎ ((fault : FileFault) × opens old name (Err fault) later × (read ≡ Err fault))
