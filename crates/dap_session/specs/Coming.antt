-- Defines where the next event of a session comes from.
use Rattle.std.specs.Prelude.{◌≡◌, ◌++◌, ◌∷◌, [], ℕ, List, Option, None, Some}
use Rattle.dap_history.specs.Events.{Incoming, File}
use Rattle.dap_history.specs.Interleaving.{Load}
use Rattle.dap_session.specs.Ports.{load_of}

-- what an inbox and a loader returned so far
pub record Sources : Type 0 where
  pub given : List Incoming
  pub loaded : List Load

-- both of them
abbrev pub sources : List Incoming → List Load → Sources
sources given loaded = record { given = given; loaded = loaded }

-- The event is the loader's answer where a file is wanted, and otherwise the next event of the inbox.
abbrev pub ComesFrom : Option (List ℕ) → Incoming → Sources → Sources → Type 0
ComesFrom None event old later = (later.given ≡ old.given ++ event ∷ []) × (later.loaded ≡ old.loaded)
ComesFrom (Some path) (File answer) old later =
    (later.given ≡ old.given) × (later.loaded ≡ old.loaded ++ load_of path answer ∷ [])
ComesFrom (Some path) event old later = ⊥
