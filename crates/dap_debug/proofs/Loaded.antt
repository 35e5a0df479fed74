-- What was read of a file is loaded, or refused.
use Rattle.std.proofs.Common.{◌≡◌, ℕ, List, refl, subst, Option, Some}
use Rattle.std.specs.Prelude.{codes, Result, Ok, Err, IfOk}
use Rattle.serde_json.specs.Data.{Data}
use Rattle.byte_streams.specs.declared.files.FileFault.{FileFault}
use Rattle.dap_server.specs.Messages.{PlainReply}
use Rattle.debuggee.specs.declared.mode.Mode.{Mode}
use Rattle.dap_debug.specs.declared.state.Phase.{Phase}
use Rattle.dap_debug.specs.declared.state.Phase.TheVariants as phase
use Rattle.dap_bodies.specs.Arguments.{text_at}
use Rattle.dap_debug.specs.Loading.{Launches, LoadsRead, LoadsFrom, ReadsFiles, situation}
use Rattle.dap_debug.specs.Standings.{Standing}

loads_read : {S : Type 0} (reads_as : List ℕ → List ℕ → Result S (List ℕ) → Type 0) (arguments : Option Data)
    (p : Phase S)
    (path : List ℕ) (read : Result (List ℕ) FileFault) (stood stands : Standing S) (reply : PlainReply)
    → ((a : S) (how : Mode) → p ≡ phase.Running a how → ⊥) → text_at (codes "program") arguments ≡ Some path
    → LoadsRead reads_as arguments read stood reply stands
    → LoadsFrom reads_as p arguments (Some (path, read)) stood reply stands
loads_read reads_as arguments (phase.Running a how) path read stood stands reply not at is = absurd (not a how refl)
loads_read reads_as arguments _ path read stood stands reply not at is = rw at (read, refl, is)

-- what was read of the file at the path is loaded, or refused
pub launched : {S F : Type 0} (reads_as : List ℕ → List ℕ → Result S (List ℕ) → Type 0) (reads : ReadsFiles F)
    (arguments : Option Data) (path : List ℕ) (read : Result (List ℕ) FileFault) (stood stands : Standing S)
    (files later : F) (reply : PlainReply) → ((a : S) (how : Mode) → stood.phase ≡ phase.Running a how → ⊥)
    → text_at (codes "program") arguments ≡ Some path → reads files path read later
    → LoadsRead reads_as arguments read stood reply stands
    → Launches reads_as reads arguments (situation stood files) reply (situation stands later)
launched reads_as reads arguments path read stood stands files later reply not at gave is =
    (Some (path, read), loads_read reads_as arguments stood.phase path read stood stands reply not at is, gave)

pub situated : {S F : Type 0} (stood stands : Standing S) (files later : F) → stood ≡ stands → files ≡ later
    → situation stood files ≡ situation stands later
situated stood stands files later same kept = cc

-- both hold of what comes well, of the same as was named otherwise
pub both_ok : {A E C : Type 0} (P Q : C → A → Type 0) (c d : C) (result : Result A E) → c ≡ d → IfOk result (P c)
    → IfOk result (Q c) → IfOk result (λ x. P d x × Q d x)
both_ok P Q c d (Ok x) same p q = (subst (λ c. P c x) same p, subst (λ c. Q c x) same q)
both_ok P Q c d (Err e) same p q = tt
