-- What was written, however serving ended, is of one history of what was read.
use Rattle.std.proofs.Common.{◌≡◌, ℕ, List, [], ◌++◌, Ok, Err, sym, ap, subst, ◌∙◌, append_assoc, append-nil}
use Rattle.std.specs.Prelude.{Result}
use Rattle.std.specs.List.{concat}
use Rattle.std.proofs.lemmas.List.Folds.{concat-append}
use Rattle.dap_msg.specs.declared.request.Dialect.{Dialect}
use Rattle.dap_history.specs.declared.ending.Closed.{Closed}
use Rattle.dap_history.specs.declared.ending.Closed.TheVariants as closed
use Rattle.dap_history.specs.declared.fault.SessionFault.{SessionFault}
use Rattle.dap_history.specs.Events.{Incoming}
use Rattle.dap_history.specs.History.{History, messages_of}
use Rattle.dap_history.specs.Output.{frames_from}
use Rattle.dap_history.specs.Interleaving.{Load, Interleaves}
use Rattle.dap_history.specs.Laws.{HistoryIsOne}
use Rattle.dap_history.proofs.OneHistory.{IsReadOnce}
use Rattle.dap_session.specs.Ports.{Ports}
use Rattle.dap_session.specs.Laws.{IsReached}
use Rattle.dap_session.specs.Sending.{IsPrefixOf}
use Rattle.dap_wires.specs.Senders.{from_client}
use Rattle.dap_session.specs.Serving.{SessionOutcome, closes, ends_at_fault, runs_out_of_memory, gives_up}
use Rattle.dap_session.proofs.Beginnings.{PutsFew, drives_few}
use Rattle.byte_streams.specs.Streams.{Output, Appends}
use Rattle.byte_streams.specs.declared.writing.WriteFailed.{WriteFailed}
use Rattle.adapter.specs.Serving.{nothing_sent, SessionSends, Writes, TakenOfSent}
use Rattle.adapter.specs.Written.{OutputIsOfHistory}
use Rattle.adapter.proofs.InputTaken.{BeginsRead, begins_read}

interleaved : (f : Dialect) (events given : List Incoming) (loads : List Load) (old later : Ports)
    (result : Result Closed SessionFault) → SessionOutcome f events given loads old later result
    → Interleaves f [] events given loads
interleaved f events given loads old later _ (closes from serves) = from
interleaved f events given loads old later _ (ends_at_fault from until) = from
interleaved f events given loads old later _ (runs_out_of_memory from short) = from
interleaved f events given loads old later _ (gives_up cannot from short) = from

same_begins : {A : Type 0} (xs ys : List A) → xs ≡ ys → IsPrefixOf xs ys
same_begins xs ys same = ([], append-nil xs ∙ same)

taken_begins : (result : Result Closed SessionFault) (taken sent : List Incoming) → TakenOfSent result taken sent
    → IsPrefixOf taken sent
taken_begins (Ok closed.Disconnected) taken sent is = is
taken_begins (Ok closed.InputEnded) taken sent is = same_begins taken sent is
taken_begins (Ok closed.ReadFailed) taken sent is = same_begins taken sent is
taken_begins (Err fault) taken sent is = is

-- what was written of these frames, which are a prefix of others
record TakesPart (frames : List (List ℕ)) (old later : Output) : Type 0 where
  pub written : List ℕ
  pub appended : Appends old.written later.written written
  pub part : IsPrefixOf written (concat frames)

takes_part : (wrote : Result (Unit {0}) WriteFailed) (put frames : List (List ℕ)) (old later : Output)
    → Writes wrote (concat put) old later → IsPrefixOf put frames → TakesPart frames old later
takes_part (Ok done) put frames old later wrote begins = record {
  written = concat put;
  appended = wrote.0;
  part = (concat begins.0, sym (concat-append put begins.0) ∙ ap concat begins.1);
}
takes_part (Err failed) put frames old later wrote begins =
    let part = wrote.0 in
    let rest = part.2 in record {
      written = part.0;
      appended = part.1;
      part = (
        rest.0 ++ concat begins.0,
        sym (append_assoc part.0 rest.0 (concat begins.0)) ∙ ap (λ l. l ++ concat begins.0) rest.1
            ∙ sym (concat-append put begins.0) ∙ ap concat begins.1,
      );
    }

module _ (once : IsReadOnce) (one : HistoryIsOne) where
  pub output_is_of_history : OutputIsOfHistory
  output_is_of_history f wrote result before after driven = record {
    read = taken.read;
    consumed = taken.consumed;
    begins = taken.begins;
    reached = few.0;
    is_reached = few.1;
    written = part.written;
    appended = part.appended;
    part = part.part;
  }
    where
      session : SessionSends f result driven.given driven.sent before.loads after.loads
      session = driven.session

      taken : BeginsRead session.events before.streams.input after.streams.input
      taken =
          begins_read f session.events driven.given driven.reader.client session.loaded driven.reader.end
          before.streams.input after.streams.input
          (interleaved f session.events driven.given session.loaded nothing_sent driven.sent result session.drives)
          driven.reader.read driven.reader.of_whole
          (taken_begins result (from_client driven.given) driven.reader.client driven.reader.client_taken)

      few : (reached : History) × IsReached f session.events reached × PutsFew reached nothing_sent driven.sent
      few =
          drives_few once one f result session.events driven.given session.loaded nothing_sent driven.sent
          session.lawful session.drives

      begins : IsPrefixOf driven.sent.frames (frames_from 1 (messages_of few.0))
      begins = subst (λ l. IsPrefixOf l (frames_from 1 (messages_of few.0))) (sym few.2.frames_are) few.2.begins

      part : TakesPart (frames_from 1 (messages_of few.0)) before.streams.output after.streams.output
      part =
          takes_part wrote driven.sent.frames (frames_from 1 (messages_of few.0)) before.streams.output
          after.streams.output driven.writer.written begins
