-- A command with no subcommand is refused for one reason at most.
use Rattle.std.proofs.Common.{◌≡◌, ◌≤◌, ◌+◌, ◌==◌, ◌&&◌, ◌||◌, ℕ, zero, suc, Bool, true, false, not, inl, inr, ap, sym, subst, List, [], ◌∷◌, length, min, drop, Option, Some, None, is_some, arith}
use Rattle.std.specs.Prelude.{if◌then◌else◌, nat_lt, encode_utf8, slice_get}
use Rattle.std.specs.Option.{option_map_or}
use Rattle.std.specs.Str.{bytes_eq, chars}
use Rattle.clap.specs.Lexer.{long_of, short_of}
use Rattle.clap.specs.Matches.{count_text}
use Rattle.clap.specs.Facts.{parser_of_value, unwrap_or_range}
use Rattle.clap.specs.Values.{refused_kind}
use Rattle.clap.specs.ValueTests.{accepts}
use Rattle.clap.specs.Walk.{Held, Row, Rule, Step, Text, Waiting, Walk, action_of, arg_by_id, arg_by_index, arg_by_long, arg_by_short, attached_value, count_of, has_row, idle, is_empty, is_pending, option, positional, most_values, next, nothing_held, trailing, subcommand, value, reacted, settled, subcommand_met, takes_several, takes_values, values_or_missing, walk, walk_from, walked, with_default, word_met}
use Rattle.clap.specs.Simple.{App, Shape, argument_words, built}
use Rattle.clap.specs.Kinds.{IsAmong, Kinds, check_kinds, or_else, range_kinds, request_kinds, value_kinds, values_kinds}
use Rattle.clap.specs.Faults.{action_fault, bundle_fault, bundle_step_fault, count_fault, default_fault, defaults_fault, fault_of, flag_word_fault, flags_fault, given_default_fault, level_fault, long_fault, option_fault, other_fault, positional_fault, react_fault, repeat_fault, set_fault, settle_fault, short_fault, step_fault, stray_fault, turn_fault, use_fault, values_fault, walk_fault, word_fault}
use Rattle.clap.specs.declared.builder.action.ArgAction.{ArgAction}
use Rattle.clap.specs.declared.builder.action.ArgAction.TheVariants as action
use Rattle.clap.specs.declared.builder.value_parser.ValueParser.{ValueParser}
use Rattle.clap.specs.declared.error.kind.ErrorKind.{ErrorKind}
use Rattle.clap.specs.declared.error.kind.ErrorKind.TheVariants as kind
use Rattle.clap.proofs.FaultLemmas.{leaf_fault}

-- one kind at most
pub record IsAtMostOne (kinds : Kinds) : Type 0 where
  pub fits : length kinds ≤ 1

none : IsAtMostOne []
none = record { fits = omega arith }

one : (kind : ErrorKind) → IsAtMostOne (kind ∷ [])
one kind = record { fits = omega arith }

-- the kind among them is the only one
pub only : (kind : ErrorKind) (kinds : Kinds) → IsAtMostOne kinds → IsAmong kind kinds → kinds ≡ kind ∷ []
only kind [] few among = absurd among
only kind (k ∷ []) few (inl e) = ap (λ (x : ErrorKind). x ∷ []) (sym e)
only kind (k ∷ []) few (inr among) = absurd among
only kind (k ∷ (l ∷ rest)) few among = let fits : length (k ∷ (l ∷ rest)) ≤ 1 = few.fits in absurd (omega arith)

first_of_two : (first second : Kinds) → IsAtMostOne first → IsAtMostOne second → IsAtMostOne (or_else first second)
first_of_two [] second p q = q
first_of_two (k ∷ ks) second p q = p

chosen : (b : Bool) (x y : Kinds) → IsAtMostOne x → IsAtMostOne y → IsAtMostOne (if b then x else y)
chosen true x y p q = p
chosen false x y p q = q

of_some : {X : Type 0} (f : X → Kinds) (o : Option X) (otherwise : Kinds) → ((x : X) → IsAtMostOne (f x))
    → IsAtMostOne otherwise
    → IsAtMostOne (option_map_or f o otherwise)
of_some f None otherwise p q = q
of_some f (Some x) otherwise p q = p x

-- ---- one use of an argument

of_value : (ignore_case : Bool) (parser : ValueParser) (text : Text) → IsAtMostOne (value_kinds ignore_case parser text)
of_value ignore_case parser text =
    chosen (accepts ignore_case parser text) [] (refused_kind parser ∷ []) none (one (refused_kind parser))

of_values : (ignore_case : Bool) (parser : ValueParser) (texts : List Text)
    → IsAtMostOne (values_kinds ignore_case parser texts)
of_values ignore_case parser [] = none
of_values ignore_case parser (v ∷ vs) =
    first_of_two (value_kinds ignore_case parser v) (values_kinds ignore_case parser vs) (of_value ignore_case parser v)
    (of_values ignore_case parser vs)

of_range : (least most n : ℕ) → IsAtMostOne (range_kinds least most n)
of_range least most n =
    chosen (nat_lt 0 least && n == 0) _ _ (one _) (chosen (least == most) _ _ (chosen (least == n) _ _ none (one _))
    (chosen (nat_lt n least) _ _ (one _) (chosen (nat_lt most n) _ _ (one _) none)))

of_request : (a : ArgAction) → IsAtMostOne (request_kinds a)
of_request action.Help = one _
of_request action.HelpShort = one _
of_request action.HelpLong = one _
of_request action.Version = one _
of_request action.Set = none
of_request action.Append = none
of_request action.SetTrue = none
of_request action.SetFalse = none
of_request action.Count = none

module _ (again : Bool) (a : Rule) where
  of_set : (values : List Text) (rows : List Row) → IsAtMostOne (set_fault again a values rows)
  of_set values rows = first_of_two (repeat_fault again a.id rows) (values_fault a values)
      (chosen (has_row a.id rows && not again) _ _ (one _) none)
      (of_values a.ignore_case (parser_of_value a.parser) values)

  of_count : (values : List Text) (rows : List Row) → IsAtMostOne (count_fault a values rows)
  of_count [] rows = of_value a.ignore_case (parser_of_value a.parser) (count_text (min (count_of a.id rows + 1) 255))
  of_count (v ∷ vs) rows = of_values a.ignore_case (parser_of_value a.parser) (v ∷ vs)

  of_action : (x : ArgAction) (values : List Text) (rows : List Row) → IsAtMostOne (action_fault x again a values rows)
  of_action action.Set values rows = of_set values rows
  of_action action.SetTrue values rows = of_set values rows
  of_action action.SetFalse values rows = of_set values rows
  of_action action.Append values rows = of_values a.ignore_case (parser_of_value a.parser) values
  of_action action.Count values rows = of_count values rows
  of_action action.Help values rows = one _
  of_action action.HelpShort values rows = one _
  of_action action.HelpLong values rows = one _
  of_action action.Version values rows = one _

  of_use : (values : List Text) (rows : List Row) → IsAtMostOne (use_fault again a values rows)
  of_use values rows =
      first_of_two (range_kinds (unwrap_or_range a.range).start_inclusive (most_values a) (length values))
      (action_fault (action_of a) again a (values_or_missing a values) rows)
      (of_range (unwrap_or_range a.range).start_inclusive (most_values a) (length values))
      (of_action (action_of a) (values_or_missing a values) rows)

-- ---- the walk

module _ (c : List Rule) (again : Bool) where
  of_settle : (h : Held) → IsAtMostOne (settle_fault c again h)
  of_settle h =
      of_some (λ (p : Text × List Text). option_map_or (λ (a : Rule). use_fault again a p.1 h.rows) (arg_by_id c p.0)
      []) h.pending []
      (λ p. of_some (λ (a : Rule). use_fault again a p.1 h.rows) (arg_by_id c p.0) [] (λ a. of_use again a p.1 h.rows)
      none) none

  of_react : (a : Rule) (values : List Text) (h : Held) → IsAtMostOne (react_fault c again a values h)
  of_react a values h = first_of_two (settle_fault c again h) (use_fault again a values (settled c h).rows)
      (of_settle h) (of_use again a values (settled c h).rows)

  of_option : (a : Rule) (v : Option Text) (h : Held) → IsAtMostOne (option_fault c again a v h)
  of_option a (Some v) h = of_react a (v ∷ []) h
  of_option a None h = of_settle h

  of_long : (found : Option Rule) (v : Option Text) (h : Held) → IsAtMostOne (long_fault c again found v h)
  of_long None v h = one _
  of_long (Some a) v h =
      chosen (takes_values a) (option_fault c again a v h)
      (if is_some v then kind.TooManyValues ∷ [] else react_fault c again a [] h)
      (of_option a v h) (chosen (is_some v) (kind.TooManyValues ∷ []) (react_fault c again a [] h) (one _)
      (of_react a [] h))

  of_short : (found : Option Rule) (rest : Text) (h : Held) (after : Held → Kinds)
      → ((later : Held) → IsAtMostOne (after later))
      → IsAtMostOne (short_fault c again found rest h after)
  of_short None rest h after below = one _
  of_short (Some a) rest h after below = chosen (takes_values a) (option_fault c again a (attached_value rest) h)
      (or_else (react_fault c again a [] h) (after (reacted c a [] h)))
      (of_option a (attached_value rest) h)
      (first_of_two (react_fault c again a [] h) (after (reacted c a [] h)) (of_react a [] h)
      (below (reacted c a [] h)))

  of_bundle_step : (x : Option ℕ) (flags : Text) (skip : ℕ) (h : Held) (after : Text → ℕ → Held → Kinds)
      → ((rest : Text) (less : ℕ) (later : Held) → IsAtMostOne (after rest less later))
      → IsAtMostOne (bundle_step_fault c again x flags skip h after)
  of_bundle_step None flags skip h after below = none
  of_bundle_step (Some x) flags zero h after below = let rest = drop (length (encode_utf8 x)) flags in
      of_short (arg_by_short c x) rest h (after rest 0) (below rest 0)
  of_bundle_step (Some x) flags (suc skip) h after below = below (drop (length (encode_utf8 x)) flags) skip h

  of_flags : (k : ℕ) (flags : Text) (skip : ℕ) (h : Held) → IsAtMostOne (flags_fault c again k flags skip h)
  unfolding flags_fault
  of_flags zero flags skip h = none
  of_flags (suc k) flags skip h =
      of_bundle_step (slice_get (chars flags) 0) flags skip h (flags_fault c again k) (of_flags k)

  of_flag_word : (long : Option (Text × Option Text)) (word : Text) (h : Held)
      → IsAtMostOne (flag_word_fault c again long word h)
  of_flag_word (Some p) word h = of_long (arg_by_long c p.0) p.1 h
  of_flag_word None word h = of_some (λ (flags : Text). bundle_fault c again flags h) (short_of word) []
      (λ flags. of_flags (length flags) flags h.skip (record h { skip = 0 })) none

module _ (s : Shape) (leaf : s.is_leaf ≡ true) where
  of_other : (word : Text) (h : Held) → IsAtMostOne (other_fault s None word h)
  of_other word h =
      chosen (bytes_eq word (45 ∷ 45 ∷ [])) [] (flag_word_fault s.rules s.args_override_self (long_of word) word h) none
      (of_flag_word s.rules s.args_override_self (long_of word) word h)

  of_met : (waiting : Waiting) (word : Text) (h : Held) → IsAtMostOne
      (other_fault s (subcommand_met [] waiting word) word h)
  of_met idle word h = of_other word h
  of_met (option id) word h = of_other word h
  of_met positional word h = of_other word h

  of_word : (is_trailing : Bool) (waiting : Waiting) (word : Text) (h : Held)
      → IsAtMostOne (word_fault s [] is_trailing waiting word h)
  of_word is_trailing waiting word h =
      chosen is_trailing [] (other_fault s (subcommand_met [] waiting word) word h) none (of_met waiting word h)

  of_stray : IsAtMostOne (stray_fault s)
  of_stray =
      subst (λ (b : Bool). IsAtMostOne (if b then kind.UnknownArgument ∷ [] else kind.UnknownArgument
      ∷ kind.InvalidSubcommand ∷ [])) (sym leaf) (one _)

  of_positional : (a : Rule) (h : Held) → IsAtMostOne (positional_fault s.rules s.args_override_self a h)
  of_positional a h =
      chosen (is_pending a h.pending && takes_several a) [] (settle_fault s.rules s.args_override_self h) none
      (of_settle s.rules s.args_override_self h)

  of_step : (position : ℕ) (h : Held) (x : Step) → IsAtMostOne (step_fault s position h x)
  of_step position h value =
      of_some (λ (a : Rule). positional_fault s.rules s.args_override_self a h) (arg_by_index s.rules position)
      (stray_fault s)
      (λ a. of_positional a h) of_stray
  of_step position h (next waiting) = none
  of_step position h (trailing p) = none
  of_step position h (subcommand name) = none

  of_turn : (w : Walk) (word : Text) → IsAtMostOne (turn_fault s [] w word)
  of_turn w word = let met = word_met s.rules [] w.is_trailing w.waiting w.position word w.held in
      chosen (is_some w.stopped) [] (or_else (word_fault s [] w.is_trailing w.waiting word w.held)
      (step_fault s w.position met.0 met.1)) none
      (first_of_two (word_fault s [] w.is_trailing w.waiting word w.held) (step_fault s w.position met.0 met.1)
      (of_word w.is_trailing w.waiting word w.held) (of_step w.position met.0 met.1))

  of_walk : (w : Walk) (words : List Text) → IsAtMostOne (walk_fault s [] w words)
  unfolding walk_fault
  of_walk w [] = none
  of_walk w (word ∷ rest) = first_of_two (turn_fault s [] w word) (walk_fault s [] (walked s.rules [] w word) rest)
      (of_turn w word) (of_walk (walked s.rules [] w word) rest)

  of_defaults : (rows : List Row) (rules : List Rule) → IsAtMostOne (defaults_fault rows rules)
  unfolding defaults_fault
  of_defaults rows [] = none
  of_defaults rows (a ∷ rest) = first_of_two (default_fault rows a) (defaults_fault (with_default rows a) rest)
      (chosen (has_row a.id rows || is_empty a.defaults) [] (given_default_fault a a.defaults) none
      (first_of_two (request_kinds (action_of a)) (values_fault a a.defaults) (of_request (action_of a))
      (of_values a.ignore_case (parser_of_value a.parser) a.defaults)))
      (of_defaults (with_default rows a) rest)

  of_checks : (wants_help wants_subcommand wants_argument : Bool)
      → IsAtMostOne (check_kinds wants_help wants_subcommand wants_argument)
  of_checks wants_help wants_subcommand wants_argument =
      chosen wants_help _ _ (one _) (chosen wants_subcommand _ _ (one _) (chosen wants_argument _ _ (one _) none))

  -- a level with nothing below it
  of_level : (h : Held) (words : List Text) (has_subcommand : Bool)
      → IsAtMostOne (level_fault s [] h words has_subcommand [])
  of_level h words has_subcommand = let end = (walk s.rules [] h words).held in
      first_of_two (walk_fault s [] (walk_from h) words) _ (of_walk (walk_from h) words)
      (first_of_two (settle_fault s.rules s.args_override_self end) _ (of_settle s.rules s.args_override_self end)
      (first_of_two (defaults_fault (settled s.rules end).rows s.rules) _
      (of_defaults (settled s.rules end).rows s.rules)
      (of_checks _ _ _)))

-- the refusals of a command with no subcommand
pub of_leaf : (a : App) (words : List Text) → (built a).subs ≡ [] → (built a).top.is_leaf ≡ true
    → IsAtMostOne (fault_of a words)
of_leaf a words alone leaf = subst IsAtMostOne (sym (leaf_fault (built a) nothing_held (argument_words a words) alone))
    (of_level (built a).top leaf nothing_held (argument_words a words) false)
