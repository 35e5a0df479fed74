-- What several lemma files import, from the libraries and from the definitions.
pub use Rattle.byte_streams.specs.Streams.{AppendsPart, FailsIn, Output, WritesAll}
pub use Rattle.pl0_machine.specs.Machine.{depth_of, frame_of, frames, frames_of, IsNext, outcome_of, parent_of, program, program_of, Shows, Standing, Stepped, told, top_of, variables_of}
pub use Rattle.pl0_machine.specs.Stretches.{ahead, RanOn, Stretches}
pub use Rattle.pl0_machine.specs.declared.outcome.FrameView.{FrameView}
pub use Rattle.pl0_machine.specs.declared.outcome.StepOutcome.TheVariants.{Done, Fault, Went}
pub use Rattle.pl0_meaning.proofs.Linking.{at_next, frame_at-below, frame_at-top, frame_within}
pub use Rattle.pl0_meaning.specs.Values.{Configuration, Frame, frame_at, next_step, number_of, truth, value}
pub use Rattle.pl0_tool.specs.Drawing.{behind, is_begun, IsHead, IsReturn}
pub use Rattle.pl0_tool.specs.Faulting.{fault_report, first_line, frame_line, frame_lines, more_line, place_line}
pub use Rattle.pl0_tool.specs.Pending.{Holds}
pub use Rattle.pl0_tool.specs.Running.{HasRun, IsLast, lines_between, number_lines, Ran, told_numbers}
pub use Rattle.pl0_tool.specs.Tracing.{at_position, IsFrameRow, IsRow, IsTold, numbers_in, step_before, told_frames}
pub use Rattle.pl0_tree.specs.Blocks.{AreNestings, frame_name}
pub use Rattle.pl0_tree.specs.Scope.{block_at, home, Path}
pub use Rattle.pl0_tree.specs.Steps.{AreSteps, blocks, StepAt, steps}
pub use Rattle.pl0_tree.specs.Tree.{Assign, Block, Call, If, Name, Statement, variables, While, Write}
pub use Rattle.std.proofs.Common.{[], add-one, ap, append-nil, append_assoc, arith, Bool, cond, Err, false, FitsSigned, get_or, Global, IfOk, inr, length, List, MatchBool, MatchResult, None, Ok, Option, refl, Result, rules, slice_get, Some, subst, suc, sym, take, true, Vec, w64, zero, ℕ, ℤ, ⊎_elim, ◌++◌, ◌+◌, ◌-◌, ◌<◌, ◌∙◌, ◌∷◌, ◌≡◌, ◌≢◌, ◌≤◌}
pub use Rattle.std.proofs.lemmas.Int.{to_z-of_z}
pub use Rattle.std.proofs.lemmas.List.{length-map, length_push, take_all}
pub use Rattle.std.proofs.lemmas.Option.{same_Some, slice_get-get_or}
pub use Rattle.std.specs.Fmt.{signed_decimal}
pub use Rattle.std.specs.Option.{option_map_or}
pub use Rattle.std.specs.Prelude.{min, nat_eq, nat_lt, option_and_then, option_map, option_to_list, position, string_bytes}
