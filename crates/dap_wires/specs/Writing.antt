-- Defines what a writer has taken and written when it ends.
use Rattle.std.specs.Prelude.{◌≡◌, List, false, Result, Ok, Err}
use Rattle.std.specs.List.{concat}
use Rattle.dap_wires.specs.declared.writer_message.WriterMessage.{WriterMessage}
use Rattle.dap_wires.specs.WriterMessages.{frames_in, has_end, AreEnded}
use Rattle.byte_streams.specs.declared.writing.WriteFailed.{WriteFailed}
use Rattle.byte_streams.specs.Streams.{Output, WritesAll, FailsIn}

-- Frames and then `End` were taken, and the frames were written whole; or frames alone were taken, and the output
-- failed after a prefix of them.
abbrev pub IsWrittenUntil : Result (Unit {0}) WriteFailed → List WriterMessage → Output → Output → Type 0
IsWrittenUntil (Ok done) taken old later = AreEnded taken × WritesAll (concat (frames_in taken)) old later
IsWrittenUntil (Err failed) taken old later = (has_end taken ≡ false) × FailsIn (concat (frames_in taken)) old later

-- A writer that waits for a message owes nothing: all frames that it took so far were written whole, behind what the
-- output held when none was taken, and no write failed since.
abbrev pub OwesNothing : List WriterMessage → Output → Output → Type 0
OwesNothing taken first now = WritesAll (concat (frames_in taken)) first now
