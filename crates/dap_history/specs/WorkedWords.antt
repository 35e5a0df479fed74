-- States worked examples of words of other crates on which the laws of a session rest: how a frame begins, which
-- numbers a client may use, limits, and the numbers of mistakes. Each was computed.
use Rattle.std.specs.Prelude.{◌≡◌, ◌++◌, ◌∷◌, [], ◌^◌, ◌-◌, true, false, map, codes, replicate}
use Rattle.dap_frame.specs.Frame.{frame_of}
use Rattle.dap_frame.specs.Header.{header_limit, content_limit}
use Rattle.dap_msg.specs.SetBreakpoints.{breakpoint_limit, last_line}
use Rattle.pl0_tree.specs.Tokens.{Named, Faulty, number_limit, name_symbol}
use Rattle.pl0_tree.specs.Scope.{declaration_limit}
use Rattle.pl0_tree.specs.Faults.{fault_number, order, level_limit, limit}
use Rattle.pl0_tree.specs.declared.fault.FaultKind.TheVariants.{TooLong, NotAscii, BadCharacter, NumberTooLarge, NameTooLong, Expected, TooDeep, TooManyNames, Twice, Unknown, TooEarly, WrongKind}
use Rattle.pl0_meaning.specs.Runs.{frame_limit, last_position}
use Rattle.dbg_plan.specs.Messages.{expression_limit}
use Rattle.dbg_runner.specs.Rooms.{slice_limit}
use Rattle.dap_msg.specs.declared.request.Dialect.TheVariants.{Words, Codes}
use Rattle.dap_msg.specs.Request.{is_seq}

-- A frame begins with `Content-Length: `, the number of bytes of its content, and two line ends of CR and LF.
abbrev pub FramesBeginSo : Type 0
FramesBeginSo =
    map frame_of (codes "{}" ∷ codes "{\"seq\":1}" ∷ [])
    ≡ (codes "Content-Length: 2" ++ 13 ∷ 10 ∷ 13 ∷ 10 ∷ codes "{}")
    ∷ (codes "Content-Length: 9" ++ 13 ∷ 10 ∷ 13 ∷ 10 ∷ codes "{\"seq\":1}") ∷ []

-- A client counts from 1, or one that may from 0, up to 2^53 - 1.
abbrev pub SeqsAre : Type 0
SeqsAre =
    map (λ (dialect, n). is_seq dialect n)
    ((Codes, 0) ∷ (Codes, 1) ∷ (Codes, 2 ^ 53 - 1) ∷ (Codes, 2 ^ 53) ∷ (Words, 0) ∷ (Words, 1) ∷ (Words, 2 ^ 53) ∷ [])
    ≡ false ∷ true ∷ true ∷ false ∷ true ∷ true ∷ false ∷ []

-- The limits of a header part and of a content; of breakpoints and their lines; of a text, its levels, the names of a
-- block and a number; of frames and positions; of a message's expressions and a slice's steps.
abbrev pub LimitsAre : Type 0
LimitsAre =
    header_limit ∷ content_limit ∷ breakpoint_limit ∷ last_line ∷ limit ∷ level_limit ∷ declaration_limit ∷ number_limit
    ∷ frame_limit ∷ last_position ∷ expression_limit ∷ slice_limit ∷ []
    ≡ 1024 ∷ (2 ^ 20) ∷ 256 ∷ (2 ^ 31 - 1) ∷ (2 ^ 16) ∷ 64 ∷ 1024 ∷ (2 ^ 63)
    ∷ 1024 ∷ (2 ^ 53 - 1) ∷ 8 ∷ 256 ∷ []

-- a name has at most 64 characters
abbrev pub NamesAreShort : Type 0
NamesAreShort =
    (name_symbol (replicate 64 97) ≡ Named (replicate 64 97)) × (name_symbol (replicate 65 97) ≡ Faulty NameTooLong)

-- by these numbers a client is told the mistakes of a text
abbrev pub MistakesAreNumbered : Type 0
MistakesAreNumbered =
    map fault_number (TooLong ∷ NotAscii ∷ BadCharacter ∷ NumberTooLarge ∷ NameTooLong ∷ Expected ∷ TooDeep
    ∷ TooManyNames ∷ Twice ∷ Unknown ∷ TooEarly ∷ WrongKind ∷ [])
    ≡ 1 ∷ 2 ∷ 3 ∷ 4 ∷ 5 ∷ 6 ∷ 7 ∷ 8 ∷ 9 ∷ 10 ∷ 11 ∷ 12 ∷ []

-- of several mistakes at one name the first of these is told
abbrev pub MistakesAreOrdered : Type 0
MistakesAreOrdered =
    map order (Twice ∷ TooManyNames ∷ Unknown ∷ TooEarly ∷ WrongKind ∷ []) ≡ 0 ∷ 1 ∷ 2 ∷ 3 ∷ 4 ∷ []
