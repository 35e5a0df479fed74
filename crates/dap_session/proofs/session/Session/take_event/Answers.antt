use Rattle.std.proofs.Common.{inl, inr, refl}
use Rattle.dap_history.specs.History.{InputEnd, ReadFailure}
use Rattle.dap_history.specs.Events.{End, ReadFailed, NoMemory}
use Rattle.dap_history.specs.declared.ending.Closed.TheVariants as closed
use Rattle.dap_session.specs.Taking.{Toward}
use Rattle.dap_session.proofs.Closing.{closes, closing_step, close_needs_none}
use Rattle.dap_session.proofs.Files.{incoming_file}
use Rattle.dap_session.proofs.Going.{stops_at_once}
use Rattle.dap_session.proofs.session.Session.take_event.Goals as goal

pub returns-in-Piece-clause-handles : goal.returns-in-Piece-clause-handles
returns-in-Piece-clause-handles g c = record {
  comes = λ f past rest taking on.
      rw c.in-Piece.is (rw c.as_slice.ensures.value at (c.take_piece.ensures.comes f past rest taking on));
  no_memory = λ lacks. absurd (rw c.in-Piece.is at lacks);
  enough = λ needs. absurd (rw c.in-Piece.is at needs);
}

pub returns-in-End-clause-handles : goal.returns-in-End-clause-handles
returns-in-End-clause-handles g c = record {
  comes = λ f past rest taking on.
      rw c.in-End.is (closes c.reading_laws.ensures f c.close.result past rest End InputEnd closed.InputEnded _ _ _ _
      taking
      (record {
        closing_is = refl;
        here = inl refl;
        toward = λ new after. inr after;
        leads = λ new after. (inr (taking, after), refl);
      })
      (record {
        step = closing_step InputEnd;
        item_is = refl;
        causes = record { answer_is = refl; effect_is = refl };
        new_is = refl;
      })
      c.close.ensures.quits c.close.ensures.ending);
  no_memory = λ lacks. absurd (rw c.in-End.is at lacks);
  enough = λ needs.
      close_needs_none c.close.result closed.InputEnded _ _ _ c.close.ensures.quits c.close.ensures.ending;
}

pub returns-in-ReadFailed-clause-handles : goal.returns-in-ReadFailed-clause-handles
returns-in-ReadFailed-clause-handles g c = record {
  comes = λ f past rest taking on.
      let close = c.close-in-ReadFailed in
      rw c.in-ReadFailed.is (closes c.reading_laws.ensures f close.result past rest ReadFailed ReadFailure
      closed.ReadFailed _ _ _ _ taking
      (record {
        closing_is = refl;
        here = inl refl;
        toward = λ new after. inr after;
        leads = λ new after. (inr (taking, after), refl);
      })
      (record {
        step = closing_step ReadFailure;
        item_is = refl;
        causes = record { answer_is = refl; effect_is = refl };
        new_is = refl;
      })
      close.ensures.quits close.ensures.ending);
  no_memory = λ lacks. absurd (rw c.in-ReadFailed.is at lacks);
  enough = λ needs.
      let close = c.close-in-ReadFailed in
      close_needs_none close.result closed.ReadFailed _ _ _ close.ensures.quits close.ensures.ending;
}

pub returns-in-NoMemory-clause-handles : goal.returns-in-NoMemory-clause-handles
returns-in-NoMemory-clause-handles g c = record {
  comes = λ f past rest taking on. rw c.in-NoMemory.is (inl (stops_at_once (Toward f past rest NoMemory) past _ refl));
  no_memory = λ lacks. refl;
  enough = λ needs. absurd (rw c.in-NoMemory.is at needs);
}

pub returns-in-File-clause-handles : goal.returns-in-File-clause-handles
returns-in-File-clause-handles g c = record {
  comes = λ f past rest taking on.
      rw (c.in-File.is, incoming_file c.in-File.file) (c.take_file.ensures.comes f past rest taking on);
  no_memory = λ lacks. c.take_file.ensures.no_memory (rw (c.in-File.is, incoming_file c.in-File.file) at lacks);
  enough = λ needs. c.take_file.ensures.enough (rw (c.in-File.is, incoming_file c.in-File.file) at needs);
}

pub returns-in-Report-clause-handles : goal.returns-in-Report-clause-handles
returns-in-Report-clause-handles g c = record {
  comes = λ f past rest taking on. rw c.in-Report.is (c.take_report.ensures.comes f past rest taking on);
  no_memory = λ lacks. absurd (rw c.in-Report.is at lacks);
  enough = λ needs. let none = rw c.in-Report.is at needs in c.take_report.ensures.enough none.0 none.1;
}
