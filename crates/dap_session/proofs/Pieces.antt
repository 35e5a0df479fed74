-- A piece of the input.
use Rattle.std.proofs.Common.{◌≡◌, inl, ℕ, List, ◌++◌, Option, None, Some, Result, Ok, Err, refl, sym, ◌∙◌, ap, subst}
use Rattle.std.specs.Prelude.{is_some, true}
use Rattle.dap_msg.specs.declared.request.Dialect.{Dialect}
use Rattle.dap_history.specs.declared.fault.SessionFault.{SessionFault}
use Rattle.dap_history.specs.declared.fault.SessionFault.TheVariants.{NoMemory}
use Rattle.dap_history.specs.declared.launch.Launch.{Launch}
use Rattle.dap_history.specs.History.{History}
use Rattle.dap_history.specs.Events.{Rest, Piece, IsTaking, no_content, LeadsByPiece}
use Rattle.dap_replies.specs.Phases.{IsPhase, launch_of}
use Rattle.dap_session.specs.Ports.{Ports}
use Rattle.dap_session.specs.State.{State, GoesOn}
use Rattle.dap_session.specs.Taking.{TowardByPiece}
use Rattle.dap_session.specs.Handling.{HasHistory, Goes, Handles, HandlesContents}
use Rattle.dap_session.proofs.Going.{stops_at_once, arrives_at_once}

toward_here : (f : Dialect) (past : History) (launch : Option Launch) (bytes : List ℕ)
    → TowardByPiece f past launch bytes past
toward_here f past None bytes = (bytes, no_content)
toward_here f past (Some launch) bytes = refl

-- there was no memory for the piece
pub piece_lost : (f : Dialect) (session : State) (past : History) (rest : Rest) (piece : List ℕ) (old : Ports)
    → Handles f (Err NoMemory) past rest (Piece piece) session old old
piece_lost f session past rest piece old = inl (stops_at_once _ past old (toward_here f past rest.launch _))

-- the session with a decoder that has the piece
pub record IsFed (session fed : State) (piece : List ℕ) : Type 0 where
  pub phase_is : fed.phase ≡ session.phase
  pub ending_is : fed.ending ≡ session.ending
  pub seq_is : fed.next_seq ≡ session.next_seq
  pub stream_is : fed.stream ≡ record {
    dialect = session.stream.dialect;
    rest = session.stream.rest ++ piece;
    fault = None;
  }

bytes_are : (f : Dialect) (session fed : State) (piece : List ℕ) (past : History) (rest : Rest)
    → IsFed session fed piece
    → GoesOn f session past rest → fed.stream.rest ≡ rest.bytes ++ piece
bytes_are f session fed piece past rest is on = ap (λ s. s.rest) is.stream_is ∙ ap (λ s. s.rest ++ piece) on.stream_is

dialect_of : (f : Dialect) (session fed : State) (piece : List ℕ) (past : History) (rest : Rest)
    → IsFed session fed piece
    → GoesOn f session past rest → fed.stream.dialect ≡ f
dialect_of f session fed piece past rest is on = ap (λ s. s.dialect) is.stream_is ∙ ap (λ s. s.dialect) on.stream_is

at_fed : (f : Dialect) (session fed : State) (piece : List ℕ) (past : History) (rest : Rest) → IsFed session fed piece
    → session.ending ≡ None → IsTaking past → GoesOn f session past rest → HasHistory fed past
at_fed f session fed piece past rest is open_ taking on =
    record {
      ending_is = is.ending_is ∙ open_ ∙ sym taking;
      knows = λ _. record {
        phase_is = subst (λ p. IsPhase p past) (sym is.phase_is) on.knows.phase_is;
        seq_is = is.seq_is ∙ on.knows.seq_is;
      };
    }

-- its contents are taken
pub piece_taken : (f : Dialect) (result : Result (Unit {0}) SessionFault) (session fed last : State) (piece : List ℕ)
    (past : History)
    (rest : Rest) (old later : Ports) → session.ending ≡ None → IsFed session fed piece → launch_of fed.phase ≡ None
    → ((h : History) → fed.stream.fault ≡ None → launch_of fed.phase ≡ None → HasHistory fed h
    → HandlesContents fed.stream.dialect result h fed.stream.rest last old later)
    → IsTaking past → GoesOn f session past rest → Handles f result past rest (Piece piece) last old later
piece_taken f result session fed last piece past rest old later open_ is free taken taking on =
    let bytes = rest.bytes ++ piece in
    let no_launch : None ≡ rest.launch = sym free ∙ ap launch_of is.phase_is ∙ on.launch_is in
    let goes =
    taken past (ap (λ s. s.fault) is.stream_is) free (at_fed f session fed piece past rest is open_ taking on) in
    subst (λ launch. Goes f result (LeadsByPiece f past launch bytes)
    (TowardByPiece f past launch bytes) past last old later)
    no_launch
    (subst (λ b. Goes f result (LeadsByPiece f past None b) (TowardByPiece f past None b) past last old
    later)
    (bytes_are f session fed piece past rest is on)
    (subst (λ g. HandlesContents g result past fed.stream.rest last old later)
    (dialect_of f session fed piece past rest is on)
    goes))

-- it waits with a launch
waits_with : (f : Dialect) (launch : Option Launch) (past : History) (bytes : List ℕ) → is_some launch ≡ true
    → LeadsByPiece f past launch bytes past (record { launch = launch; bytes = bytes })
waits_with f None past bytes some = absurd cc
waits_with f (Some launch) past bytes some = (refl, refl)

pub piece_waits : (f : Dialect) (session fed : State) (piece : List ℕ) (past : History) (rest : Rest) (old : Ports)
    → session.ending ≡ None → IsFed session fed piece → is_some (launch_of fed.phase) ≡ true
    → IsTaking past → GoesOn f session past rest → Handles f (Ok tt) past rest (Piece piece) fed old old
piece_waits f session fed piece past rest old open_ is some taking on =
    let bytes = rest.bytes ++ piece in
    let at = at_fed f session fed piece past rest is open_ taking on in
    let same : launch_of fed.phase ≡ rest.launch = ap launch_of is.phase_is
    ∙ on.launch_is in
    arrives_at_once f (LeadsByPiece f past rest.launch bytes) past (record { launch = rest.launch; bytes = bytes }) fed
    old (waits_with f rest.launch past bytes (ap is_some (sym same) ∙ some)) (is.ending_is ∙ open_) taking (record {
      knows = at.knows taking;
      launch_is = same;
      stream_is = cc (is.stream_is, on.stream_is);
    })
