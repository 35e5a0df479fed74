-- Worked examples of how the program ends: each row of the page of the protocol.
use Rattle.std.specs.Prelude.{◌≡◌, ◌+◌, [], ◌∷◌, map, codes, Err}
use Rattle.dap_frame.specs.declared.fault.FramingFault.TheVariants as frame
use Rattle.dap_history.specs.declared.fault.SessionFault.TheVariants as session
use Rattle.pl0_tree.specs.Faults.{limit}
use Rattle.adapter.specs.declared.serving.ServeFault.TheVariants as serve
use Rattle.adapter.specs.declared.exit_reason.ExitReason.TheVariants.{Success, ReadFailed, WriteFailed, Framing, Refused, CannotRead, Syntax, NoMemory, NotText, NotUnderstood}
use Rattle.adapter.specs.Loading.{read_limit}
use Rattle.adapter.specs.ExitReasons.{reason_of_framing, reason_of_serve, status_of, last_line}

-- the statuses
abbrev pub StatusesAre : Type 0
StatusesAre =
    map status_of (Success ∷ ReadFailed ∷ WriteFailed ∷ CannotRead ∷ Framing 6 ∷ Refused 7
    ∷ Syntax 12 (record { line = 3; column = 9 }) ∷ NoMemory ∷ NotText ∷ NotUnderstood ∷ [])
    ≡ 0 ∷ 1 ∷ 1 ∷ 1 ∷ 2 ∷ 3 ∷ 3 ∷ 3 ∷ 4 ∷ 4 ∷ []

-- the last lines on standard error
abbrev pub LastLinesAre : Type 0
LastLinesAre =
    map last_line (Success ∷ ReadFailed ∷ WriteFailed ∷ CannotRead ∷ Framing 6 ∷ Refused 7
    ∷ Syntax 12 (record { line = 3; column = 9 }) ∷ NoMemory ∷ NotText ∷ NotUnderstood ∷ [])
    ≡ [] ∷ codes "pl0dap: read failed" ∷ codes "pl0dap: write failed" ∷ codes "pl0dap: cannot read"
    ∷ codes "pl0dap: frame 6" ∷ codes "pl0dap: refused 7" ∷ codes "pl0dap: syntax 12 3 9" ∷ codes "pl0dap: no memory"
    ∷ codes "pl0dap: an argument is not text" ∷ [] ∷ []

-- the numbers behind `frame`, and a lack of memory
abbrev pub FramingFaultsAreNumbered : Type 0
FramingFaultsAreNumbered =
    map reason_of_framing (frame.HeaderTooLong ∷ frame.BadField ∷ frame.NoLength ∷ frame.TwoLengths ∷ frame.BadLength
    ∷ frame.TooLarge ∷ frame.NoMemory ∷ [])
    ≡ Framing 1 ∷ Framing 2 ∷ Framing 3 ∷ Framing 4 ∷ Framing 5 ∷ Framing 6 ∷ Refused 2 ∷ []

-- the numbers behind `refused`
abbrev pub RefusalsAreNumbered : Type 0
RefusalsAreNumbered =
    map reason_of_serve (Err (serve.Session session.NoMemory) ∷ Err (serve.Session session.SeqExhausted)
    ∷ Err (serve.Session session.OrdersFull) ∷ Err (serve.Session session.RunnerGone)
    ∷ Err (serve.Session session.WriterGone) ∷ Err serve.NoThread ∷ [])
    ≡ Refused 2 ∷ Refused 3 ∷ Refused 4 ∷ Refused 5 ∷ Refused 6 ∷ Refused 7 ∷ []

-- one byte more than a text may have is read of a file, so that a longer one is noticed
abbrev pub LongTextsAreNoticed : Type 0
LongTextsAreNoticed = read_limit ≡ limit + 1
