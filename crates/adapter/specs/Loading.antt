-- Defines what a loader of files answers.
use Rattle.std.specs.Prelude.{ℕ, List, [], ◌∷◌, ◌++◌, Result, Ok, Err}
use Rattle.byte_streams.specs.Files.{ReadsFile}
use Rattle.byte_streams.specs.Streams.{Supply}
use Rattle.byte_streams.specs.declared.files.FileFault.{FileFault}
use Rattle.byte_streams.specs.declared.files.FileFault.TheVariants as file
use Rattle.dap_history.specs.declared.fault.LoadFault.{LoadFault}
use Rattle.dap_history.specs.declared.fault.LoadFault.TheVariants.{CannotRead, NoMemory}
use Rattle.dap_history.specs.Interleaving.{Load}
use Rattle.dap_session.specs.Ports.{load_of}

-- the most bytes of a file that are read: one more than a text may have, so that a longer one is noticed
abbrev pub read_limit : ℕ
read_limit = 65537

-- the answer of a loader, by what reading the file gave
abbrev pub answer_of : Result (List ℕ) FileFault → Result (List ℕ) LoadFault
answer_of (Ok text) = Ok text
answer_of (Err file.NoMemory) = Err NoMemory
answer_of (Err fault) = Err CannotRead

-- By `opens` files are opened by their names, by `closes` they are given back, and by `supply_of` it is known what was
-- read of one until then.
module _ {Files File : Type 0} (opens : Files → List ℕ → Result File FileFault → Files → Type 0)
    (closes : Files → File → Files → Type 0) (supply_of : File → Supply) where
  -- The file at each path was read, one after another, and this was answered.
  pub data AreLoaded (first : Files) : List Load → Files → Type 0 where
    none : AreLoaded first [] first
    next : (loads : List Load) (path : List ℕ) (read : Result (List ℕ) FileFault) (mid later : Files)
        → AreLoaded first loads mid → ReadsFile read_limit opens closes supply_of path read mid later
        → AreLoaded first (loads ++ load_of path (answer_of read) ∷ []) later
