-- What was taken and written so far.
use Rattle.std.proofs.Common.{◌≡◌, false, List, [], ◌∷◌, ◌++◌, sym, ◌∙◌, ap, subst, append_assoc, append-nil}
use Rattle.std.specs.List.{concat}
use Rattle.std.specs.Prelude.{◌<◌}
use Rattle.std.proofs.lemmas.List.Folds.{concat-append}
use Rattle.dap_wires.specs.declared.writer_message.WriterMessage.{WriterMessage}
use Rattle.dap_wires.specs.declared.writer_message.WriterMessage.TheVariants as message
use Rattle.dap_wires.specs.declared.bundle.Bundle.{Bundle}
use Rattle.dap_wires.specs.WriterMessages.{bundled, frames_in, has_end, AreEnded}
use Rattle.byte_streams.specs.Streams.{Output, Appends, AppendsPart, WritesAll, FailsIn}
use Rattle.dap_wires.specs.Writing.{OwesNothing}
use Rattle.dap_wires.proofs.Growing.{one_more}
use Rattle.byte_streams.proofs.Appending.{appends_both}
use Rattle.dap_wires.proofs.Sending.{frames_append, frame_keeps_open, end_ends, frames_end}

-- frames were taken, and written whole
pub record WrittenSoFar (taken_old taken_new : List WriterMessage) (old later : Output) : Type 0 where
  pub taken : List WriterMessage
  pub taken_is : taken_new ≡ taken_old ++ taken
  pub no_end : has_end taken ≡ false
  pub written : Appends old.written later.written (concat (frames_in taken))
  pub failures : later.failures ≡ old.failures

bytes_append : (taken : List WriterMessage) (frame : Bundle) → concat (frames_in taken)
    ++ frame.bytes.items ≡ concat (frames_in (taken ++ message.Frames frame ∷ []))
bytes_append taken frame =
    sym (ap concat (frames_append taken (message.Frames frame ∷ []))
    ∙ concat-append (frames_in taken) (bundled frame ++ [])
    ∙ ap (λ l. concat (frames_in taken) ++ l) (ap concat (append-nil (bundled frame)) ∙ frame.joined))

-- one more frame was taken, and written whole
pub written_goes_on : (taken_old taken_mid taken_new : List WriterMessage) (old mid later : Output) (frame : Bundle)
    → WrittenSoFar taken_old taken_mid old mid → taken_new ≡ taken_mid ++ message.Frames frame ∷ []
    → Appends mid.written later.written frame.bytes.items → later.failures ≡ mid.failures
    → WrittenSoFar taken_old taken_new old later
written_goes_on taken_old taken_mid taken_new old mid later frame w took wrote count = record {
  taken = w.taken ++ message.Frames frame ∷ [];
  taken_is = one_more taken_old taken_mid taken_new w.taken (message.Frames frame) w.taken_is took;
  no_end = frame_keeps_open w.taken frame w.no_end;
  written =
      subst (Appends old.written later.written) (bytes_append w.taken frame)
      (appends_both old.written mid.written later.written (concat (frames_in w.taken)) frame.bytes.items w.written
      wrote);
  failures = count ∙ w.failures;
}

-- a frame was taken, and a prefix of it was written
pub written_breaks : (taken_old taken_mid taken_new : List WriterMessage) (old mid later : Output) (frame : Bundle)
    → WrittenSoFar taken_old taken_mid old mid → taken_new ≡ taken_mid ++ message.Frames frame ∷ []
    → AppendsPart mid.written later.written frame.bytes.items → mid.failures < later.failures
    → (taken : List WriterMessage) × (taken_new ≡ taken_old ++ taken)
    × ((has_end taken ≡ false) × FailsIn (concat (frames_in taken)) old later)
written_breaks taken_old taken_mid taken_new old mid later frame w took wrote count = (
  w.taken ++ message.Frames frame ∷ [],
  one_more taken_old taken_mid taken_new w.taken (message.Frames frame) w.taken_is took,
  (
    frame_keeps_open w.taken frame w.no_end,
    (
      (
        concat (frames_in w.taken) ++ wrote.0,
        appends_both old.written mid.written later.written (concat (frames_in w.taken)) wrote.0 w.written wrote.1,
        (
          wrote.2.0,
          append_assoc (concat (frames_in w.taken)) wrote.0 wrote.2.0
              ∙ ap (λ l. concat (frames_in w.taken) ++ l) wrote.2.1 ∙ bytes_append w.taken frame,
        ),
      ),
      subst (λ n. n < later.failures) w.failures count,
    ),
  ),
)

-- the end was taken
pub written_ends : (taken_old taken_mid taken_new : List WriterMessage) (old later : Output)
    → WrittenSoFar taken_old taken_mid old later → taken_new ≡ taken_mid ++ message.End ∷ []
    → (taken : List WriterMessage) × (taken_new ≡ taken_old ++ taken)
    × (AreEnded taken × WritesAll (concat (frames_in taken)) old later)
written_ends taken_old taken_mid taken_new old later w took = (
  w.taken ++ message.End ∷ [],
  one_more taken_old taken_mid taken_new w.taken message.End w.taken_is took,
  (
    end_ends w.taken w.no_end,
    (
      subst (Appends old.written later.written) (ap concat (sym (frames_end w.taken)))
          w.written,
      w.failures,
    ),
  ),
)

-- where nothing was owed, and then frames were taken and written whole, nothing is owed
pub owes_nothing : (taken_old taken_new : List WriterMessage) (first old later : Output)
    → OwesNothing taken_old first old → WrittenSoFar taken_old taken_new old later → OwesNothing taken_new first later
owes_nothing taken_old taken_new first old later before w =
    let bytes = sym (ap (λ l. concat (frames_in l)) w.taken_is
    ∙ ap concat (frames_append taken_old w.taken)
    ∙ concat-append (frames_in taken_old) (frames_in w.taken)) in (
      subst (Appends first.written later.written) bytes
          (appends_both first.written old.written later.written (concat (frames_in taken_old))
          (concat (frames_in w.taken)) before.0 w.written),
      w.failures ∙ before.1,
    )
