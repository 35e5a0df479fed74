-- What several lemma files import, from the libraries and from the definitions.
pub use Rattle.dap_msg.specs.Arguments.{from_four, from_three, from_two, last_whole, object_or_empty, option_filter, optional, or_default, required, text_to, whole, whole_to}
pub use Rattle.dap_msg.specs.Asked.{AsksBreakpoint, AsksInitialize, AsksLaunch, AsksSetBreakpoints, AsksThread, IsAsked, IsCalled, IsGiven, IsPrintable}
pub use Rattle.dap_msg.specs.Commands.{command_text, name_of, name_text, other_commands, question_or, supported_command}
pub use Rattle.dap_msg.specs.Laws.{AreWithin, ArgumentsAreMembers, EachIsRead, IsFrom, IsWellFormed, IsWithin, LineFits, LineIsWithin, MessagesAreReadBack, NamesAreReadBack, NamesItself, NumbersFit, OneReading, OthersAreNone, RequestsAreWithin, RequestsEcho, WellFormedAreRead}
pub use Rattle.dap_msg.specs.Outgoing.{body_data, event_body, event_name, refusal_text, refused_value, response_end, success_value, text_of, value_of, with_body}
pub use Rattle.dap_msg.specs.Evaluate.{AsksEvaluate}
pub use Rattle.dap_msg.specs.Questions.{AsksQuestion, IsQuestionCalled, SaysShown, ShownFits, shown_data}
pub use Rattle.dap_msg.specs.Request.{command_name, command_of, fitted_or_bad, is_command_name, is_request, is_seq, IsReadAs, IsRequestFrom, least, request_of, seq_of}
pub use Rattle.dap_msg.specs.Scopes.{AsksScopes, ReferenceFits, SaysScope, scope, scopes_arguments}
pub use Rattle.dap_msg.specs.SetBreakpoints.{breakpoint, breakpoint_limit, breakpoint_of_object, breakpoint_refusal_text, last_line, only_object, read_each, set_breakpoints_arguments, some_text, source_breakpoint, source_breakpoints, source_path, text_limit}
pub use Rattle.dap_msg.specs.StackTrace.{AsksStackTrace, FrameFits, SaysFrame, stack_frame, stack_trace_arguments, stack_trace_body}
pub use Rattle.dap_msg.specs.Variables.{AsksVariables, SaysVariable, variable, variables_arguments, variables_body}
pub use Rattle.dap_msg.specs.Writing.{Fits, frame_end, IsContent, is_plain, is_plain_byte, ItemsFit, joined_text, list_opening, MembersFit, numbers_text, opening, PutsItems, PutsMembers, PutsOpening, PutsValue}
pub use Rattle.dap_msg.specs.declared.command.Command.{Command}
pub use Rattle.dap_msg.specs.declared.outgoing.StackFrame.{StackFrame}
pub use Rattle.dap_msg.specs.declared.outgoing.Variable.{Variable}
pub use Rattle.serde_json.specs.Data.{array, boolean, Data, depth, float, item, Items, items_depth, member, Members, members_depth, negative, no_items, no_members, number, object, put, string, unsigned}
pub use Rattle.serde_json.specs.Find.{as_array, as_bool, as_str, get}
pub use Rattle.serde_json.specs.View.{items_of, items_view, view}
pub use Rattle.serde_json.specs.Written.{comma_if, compact_text, items_outline, items_text, members_outline, outline}
pub use Rattle.std.proofs.Common.{[], ap, append-nil, append_assoc, arith, Bool, codes, cond, decimal, drop, Err, false, flat_map, get_or, Greater, IfOk, if◌then◌else◌, inl, inr, length, List, lit≤, map, nat_le, negsuc, None, not, Ok, OnOk, Option, option_and_then, option_map, Ordering, pos, refl, Result, rules, Some, subst, suc, sym, take, true, zero, ℕ, ℤ, ◌%◌, ◌&&◌, ◌++◌, ◌+◌, ◌/◌, ◌<◌, ◌==◌, ◌^◌, ◌∙◌, ◌∷◌, ◌≡◌, ◌≤◌, ◌⊎◌}
pub use Rattle.std.proofs.lemmas.Bool.{agree_below_at, and_from, and_parts, cases_Bool, cond_both, eqb-false, le-leb, leb-true, lt-leb, not-true, true≢false}
pub use Rattle.std.proofs.lemmas.Int.{to_z-of_z}
pub use Rattle.std.proofs.lemmas.List.{drop_more, flat_map_more, map-append, take_all, take_more}
pub use Rattle.std.proofs.lemmas.List.Sums.{AllPass-from_list_all, list_all-from_AllPass}
pub use Rattle.std.proofs.lemmas.Result.{on_ok_weaker}
pub use Rattle.std.specs.Prelude.{All, is_some, IsUtf8, unwrap_or}
pub use Rattle.std.specs.Str.{bytes_eq, is_utf8}
pub use mir.Syntax.{w64}
pub use mir.Val.{SFits}
