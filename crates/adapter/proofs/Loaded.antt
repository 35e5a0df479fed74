-- What was loaded grows by one file at a time.
use Rattle.std.proofs.Common.{◌≡◌, ℕ, List, [], ◌∷◌, ◌++◌, Result, subst, sym, ◌∙◌, ap}
use Rattle.std.proofs.Math.Logic.{∥∥₁_map}
use Rattle.byte_streams.specs.Files.{ReadsFile}
use Rattle.byte_streams.specs.Streams.{Supply}
use Rattle.byte_streams.specs.declared.files.FileFault.{FileFault}
use Rattle.dap_history.specs.declared.fault.LoadFault.{LoadFault}
use Rattle.dap_history.specs.Interleaving.{Load}
use Rattle.dap_session.specs.Ports.{load_of}
use Rattle.adapter.specs.Loading.{AreLoaded, read_limit, answer_of, none, next}

module _ {Files File : Type 0} (opens : Files → List ℕ → Result File FileFault → Files → Type 0)
    (closes : Files → File → Files → Type 0) (supply_of : File → Supply) where
  -- nothing was loaded yet
  pub loaded_none : (lent files : Files) (loads : List Load) → lent ≡ files → loads ≡ []
      → ∥ AreLoaded opens closes supply_of lent loads files ∥₁
  loaded_none lent files loads same empty =
      subst (λ l. ∥ AreLoaded opens closes supply_of lent l files ∥₁) (sym empty)
      (subst (λ f. ∥ AreLoaded opens closes supply_of lent [] f ∥₁) same ∣ none ∣₁)

  -- one more file was loaded
  pub loaded_next : (lent mid later : Files) (old new : List Load) (path : List ℕ) (read : Result (List ℕ) FileFault)
      (answer : Result (List ℕ) LoadFault) → ∥ AreLoaded opens closes supply_of lent old mid ∥₁
      → ReadsFile read_limit opens closes supply_of path read mid later → answer ≡ answer_of read
      → new ≡ old ++ load_of path answer ∷ []
      → ∥ AreLoaded opens closes supply_of lent new later ∥₁
  loaded_next lent mid later old new path read answer before reads is noted =
      subst (λ l. ∥ AreLoaded opens closes supply_of lent l later ∥₁)
      (sym (noted ∙ ap (λ a. old ++ load_of path a ∷ []) is))
      (∥∥₁_map before (λ b. next old path read mid later b reads))
