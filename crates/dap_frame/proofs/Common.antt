-- What several lemma files import, from the libraries and from the definitions.
pub use Rattle.dap_frame.specs.Frame.{frame_of, Frames, IsFrameInFront, IsOpen}
pub use Rattle.dap_frame.specs.Header.{AreFaultless, content_limit, FaultAt, Field, field_text, HasFaultyLine, HasNoLineEnd, header_limit, is_length, is_name_byte, is_value_byte, IsField, IsHeader, IsLength, IsTooLong, length_values, line_end, line_of, LineFault, lines_of}
pub use Rattle.dap_frame.specs.Progress.{EndsAt, HasNoEnd, IsReadOut, IsScanned, kept_of, Names}
pub use Rattle.dap_frame.specs.declared.fault.FramingFault.{FramingFault}
pub use Rattle.dap_frame.specs.declared.fault.FramingFault.TheVariants.{BadField, BadLength, HeaderTooLong, NoLength, NoMemory, TooLarge, TwoLengths}
pub use Rattle.std.proofs.Common.{[], ap, append-nil, append_assoc, arith, Bool, drop, eq-eqb, eq-zero-or-pos, false, get_or, inl, inr, length, length-append, length-drop, length-take, List, nat_eq, None, Option, refl, Some, subst, suc, sym, take, take-append-drop, take-take, true, vec_len, zero, ℕ, ◌&&◌, ◌*◌, ◌++◌, ◌+◌, ◌-◌, ◌<◌, ◌^◌, ◌∙◌, ◌∷◌, ◌≡◌, ◌≢◌, ◌≤◌, ◌⊎◌}
pub use Rattle.std.proofs.lemmas.Bool.{and_parts, cases_Bool, cases_eq, cases_lt, cond_above, cond_below, eqb-true, false≢true, ltb-true}
pub use Rattle.std.proofs.lemmas.Fmt.{decimal-digits_value, decimal_digit, decimal_injective, decimal_is_IsNumeral, decimal_nonempty, first_decimal, length-decimal-le}
pub use Rattle.std.proofs.lemmas.List.{drop-append-le, drop-drop, drop_at, get_or-append-add, get_or-drop, get_or-take, get_or_append_left, get_or_at, length-take-le, map-append, nil_from_length, take_all, take_at, take_more, take_rest}
pub use Rattle.std.specs.List.{AllByRecursion, list_all}
pub use Rattle.std.specs.Prelude.{codes, decimal, filter, map, min, not}
pub use Rattle.std.specs.Str.Parse.{AllDigits, digits_value}
