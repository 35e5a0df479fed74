-- What a question is answered with, where the program stands.
use Rattle.std.proofs.Common.{◌≡◌, ◌<◌, ◌⊎◌, inl, inr, length, Result, Ok, Err, Option, None, Some, refl, sym, subst, arith}
use Rattle.pl0_meaning.specs.Values.{Configuration}
use Rattle.pl0_meaning.specs.Runs.{at}
use Rattle.pl0_machine.specs.Machine.{frames, frames_of, program_of}
use Rattle.dbg_plan.specs.Debugged.{Debugged, machine_of, IsConsidered}
use Rattle.dap_msg.specs.declared.command.Command.TheVariants.{Inspect}
use Rattle.dap_msg.specs.declared.question.Question.{Question}
use Rattle.dap_msg.specs.declared.question.Shown.{Shown}
use Rattle.dap_msg.specs.declared.outgoing.Body.TheVariants as body
use Rattle.dap_msg.specs.declared.outgoing.Refusal.{Refusal}
use Rattle.dap_history.specs.History.{History, Launched}
use Rattle.dap_history.specs.Readings.{position}
use Rattle.dap_history.specs.Inspection.{RepliesFrom, RepliesAt, subject_in}
use Rattle.dap_history.specs.Reactions.{Reaction, Answer, Refuse, InspectsAs, Inspects, Reacts}
use Rattle.dap_history.specs.Replies.{OfProgram}
use Rattle.dap_inspection.specs.Questions.{subject_of}
use Rattle.dap_replies.specs.declared.phase.Target.{Target}
use Rattle.dap_replies.specs.declared.phase.Phase.{Phase}
use Rattle.dap_replies.specs.declared.phase.Phase.TheVariants as phase
use Rattle.dap_replies.specs.Phases.{IsPhase, IsTarget, IsDebuggee, situation_of}
use Rattle.dap_replies.specs.declared.choosing.Reaction.TheVariants as chosen
use Rattle.dap_replies.specs.Choosing.{Chooses}

-- where frames are alive there is a configuration
there : (c : Option Configuration) → 0 < length (frames_of c) → c ≡ Some (frames_of c)
there None alive = absurd (omega (arith, alive))
there (Some c) alive = refl

-- the answer of the debuggee is that of the program where it stands
pub inspected :
    (t : Target) (d : Debugged) (past : History) → IsTarget t d.unit past → IsDebuggee d past → IsConsidered d
    → (question : Question) (answer : Result Shown Refusal)
    → RepliesFrom (subject_of d t.path t.settings) (frames (machine_of d)) question answer
    → InspectsAs past question answer
inspected t d past target stands considered question answer from =
    let l : Launched =
    record {
      path = t.path;
      stop_on_entry = t.stop_on_entry;
      text = d.unit.tree.text.items;
      program = program_of
          d.unit;
    } in
    subst (λ o. OfProgram o (λ l. RepliesAt (subject_in past l) (at l.program (position past)) question answer))
    (sym target.launched_is)
    (subst (λ n. RepliesAt (subject_in past l) (at l.program n) question answer) stands.position_is
    (subst (λ s. RepliesAt (subject_of d t.path s) (at l.program d.position) question answer) target.settings_are
    (subst (λ o. RepliesAt (subject_of d t.path t.settings) o question answer)
    (sym (there (at l.program d.position) considered.running)) from)))

-- what the debuggee of a phase that stands answers is chosen
module _ (p : Phase) (t : Target) (kept d : Debugged)
    (stands : (p ≡ phase.Stopped t kept) ⊎ (p ≡ phase.Faulted t kept)) (same : d ≡ kept) (considered : IsConsidered d)
    (question : Question) where
  reacts_there : (reaction : Reaction)
      → ((past : History) → IsTarget t kept.unit past × IsDebuggee kept past → Inspects past question reaction)
      → (past : History) → IsPhase p past → Reacts (situation_of p) past (Inspect question) reaction
  reacts_there reaction inspects past is =
      elim stands [
        | inl stopped ↦ subst (λ p. Reacts (situation_of p) past (Inspect question) reaction) (sym stopped)
            (inspects past (subst (λ p. IsPhase p past) stopped is).keeps)
        | inr faulted ↦ subst (λ p. Reacts (situation_of p) past (Inspect question) reaction) (sym faulted)
            (inspects past (subst (λ p. IsPhase p past) faulted is).keeps)
      ]

  shows : (answer : Result Shown Refusal)
      → RepliesFrom (subject_of d t.path t.settings) (frames (machine_of d)) question answer
      → (past : History) → IsTarget t kept.unit past × IsDebuggee kept past → InspectsAs past question answer
  shows answer from past there =
      inspected t d past (subst (λ d. IsTarget t d.unit past) (sym same) there.0)
      (subst (λ d. IsDebuggee d past) (sym same) there.1) considered question answer from

  pub answers_there : (shown : Shown)
      → RepliesFrom (subject_of d t.path t.settings) (frames (machine_of d)) question (Ok shown)
      → Chooses (Inspect question) p (chosen.Answer (body.Shown shown))
  answers_there shown from =
      record { fits = refl; reacts = reacts_there (Answer (body.Shown shown)) (shows (Ok shown) from); suits = tt }

  pub refuses_there : (why : Refusal)
      → RepliesFrom (subject_of d t.path t.settings) (frames (machine_of d)) question (Err why)
      → Chooses (Inspect question) p (chosen.Refuse why)
  refuses_there why from =
      record { fits = refl; reacts = reacts_there (Refuse why) (shows (Err why) from); suits = tt }
