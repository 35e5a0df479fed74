-- What several lemma files import, from the libraries and from the definitions.
pub use Rattle.dap_history.specs.Frames.{Counting, frame_by_id, scopes_from}
pub use Rattle.dap_history.specs.Inspection.{Subject}
pub use Rattle.dap_inspection.specs.Alive.{IsAlive}
pub use Rattle.dap_inspection.specs.Showing.{IsShownAs}
pub use Rattle.dap_msg.specs.declared.outgoing.Scope.{Scope}
pub use Rattle.dap_msg.specs.declared.outgoing.StackFrame.{StackFrame}
pub use Rattle.pl0_machine.specs.Machine.{Shows, program_of}
pub use Rattle.pl0_machine.specs.declared.outcome.FrameView.{FrameView}
pub use Rattle.pl0_meaning.specs.Frames.{AreLinked}
pub use Rattle.pl0_meaning.proofs.Linking.{frame_at-below, frame_at-top, frame_within}
pub use Rattle.pl0_meaning.specs.Values.{Configuration, Frame, frame_at}
pub use Rattle.pl0_tree.specs.Blocks.{frame_name}
pub use Rattle.pl0_tree.specs.Scope.{Path}
pub use Rattle.pl0_tree.specs.Steps.{StepAt, blocks, steps}
pub use Rattle.pl0_tree.specs.Tree.{Block}
pub use Rattle.pl0_tree.specs.declared.step.Step.{Step}
pub use Rattle.pl0_tree.specs.declared.tree.Place.{Place}
pub use Rattle.std.proofs.Common.{List, None, Option, Some, [], ap, arith, get_or, inl, inr, length, refl, slice_get, subst, suc, sym, take, zero, ℕ, ℤ, ⊎_elim, ◌++◌, ◌+◌, ◌-◌, ◌<◌, ◌∙◌, ◌∷◌, ◌≡◌, ◌≢◌, ◌≤◌}
pub use Rattle.std.proofs.Math.Logic.{∥∥₁_elim}
pub use Rattle.std.proofs.lemmas.Bool.{cases_eq}
pub use Rattle.std.proofs.lemmas.Option.{same_Some}
pub use Rattle.std.specs.Prelude.{option_map}
