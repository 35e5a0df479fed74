-- The rows of the chooser are those of the table.
use Rattle.std.proofs.Common.{◌≡◌, Bool, true, false, nat_eq, if◌then◌else◌, Option, Some, refl, sym, ap, subst, eqb-true}
use Rattle.dap_msg.specs.declared.command.Command.TheVariants as command
use Rattle.dap_msg.specs.declared.outgoing.Body.TheVariants as body
use Rattle.dap_msg.specs.declared.outgoing.Refusal.TheVariants as refusal
use Rattle.dap_msg.specs.declared.requests.initialize.InitializeArguments.{InitializeArguments}
use Rattle.dap_msg.specs.declared.requests.resume.ResumeKind.{ResumeKind}
use Rattle.dap_msg.specs.declared.requests.resume.RetreatKind.{RetreatKind}
use Rattle.dap_msg.specs.declared.requests.resume.ThreadArguments.{ThreadArguments}
use Rattle.dbg_plan.specs.Debugged.{Debugged}
use Rattle.dap_history.specs.History.{Launched}
use Rattle.dap_history.specs.Readings.{launched}
use Rattle.dap_history.specs.Replies.{OfProgram}
use Rattle.dap_history.specs.Reactions.{Reaction, Refuse, Answer, Start, Resume, End, Retreat, Interrupt, for_thread}
use Rattle.dap_replies.specs.declared.phase.Phase.{Phase}
use Rattle.dap_replies.specs.declared.phase.Phase.TheVariants as phase
use Rattle.dap_replies.specs.declared.phase.Target.{Target}
use Rattle.dap_replies.specs.Runs.{OrderedRun}
use Rattle.dap_replies.specs.declared.choosing.Reaction.{Reaction as Chosen}
use Rattle.dap_replies.specs.declared.choosing.Reaction.TheVariants as chosen
use Rattle.dap_replies.specs.Choosing.{Chooses, launched_as}

-- of the launched program of a history
of_program : (o : Option Launched) (l : Launched) (says : Launched → Type 0) → o ≡ Some l → says l
    → OfProgram o says
of_program o l says o_is is = subst (λ o. OfProgram o says) (sym o_is) is

pub initialized_once : (p : Phase) → (p ≡ phase.Fresh → ⊥) → (asked : InitializeArguments)
    → Chooses (command.Initialize asked) p (chosen.Refuse refusal.WrongPhase)
initialized_once phase.Fresh begun asked = absurd (begun refl)
initialized_once _ begun asked = record { fits = refl; reacts = λ past is. refl; suits = tt }

pub threads_begun : (p : Phase) → (p ≡ phase.Fresh → ⊥)
    → Chooses command.Threads p (chosen.Answer body.Threads)
threads_begun phase.Fresh begun = absurd (begun refl)
threads_begun _ begun = record { fits = refl; reacts = λ past is. refl; suits = tt }

-- the configuration is over, or didn't begin
pub not_configuring : (p : Phase) → ((t : Target) (d : Debugged) → p ≡ phase.Configuring t d → ⊥)
    → Chooses command.ConfigurationDone p (chosen.Refuse refusal.WrongPhase)
not_configuring (phase.Configuring t d) not = absurd (not t d refl)
not_configuring _ not = record { fits = refl; reacts = λ past is. refl; suits = tt }

pub starts : (t : Target) (d : Debugged) → Chooses command.ConfigurationDone (phase.Configuring t d) chosen.Start
starts t d = record {
  fits = refl;
  reacts = λ past is.
      of_program (launched past) (launched_as t d.unit) (λ k. Start (launched_as t d.unit) ≡ Start k)
      is.keeps.0.launched_is refl;
  suits = refl;
}

-- no program has begun, or it is over
pub nothing_runs : (p : Phase) (asked : ThreadArguments)
    → ((t : Target) (d : Debugged) → p ≡ phase.Stopped t d → ⊥)
    → ((t : Target) (d : Debugged) → p ≡ phase.Faulted t d → ⊥)
    → ((t : Target) (run : OrderedRun) → p ≡ phase.Running t run → ⊥)
    → ((kind : ResumeKind) → Chooses (command.Resume kind asked) p (chosen.Refuse refusal.WrongPhase))
    × ((kind : RetreatKind) → Chooses (command.Retreat kind asked) p (chosen.Refuse refusal.WrongPhase))
    × Chooses (command.Pause asked) p (chosen.Refuse refusal.WrongPhase)
nothing_runs (phase.Stopped t d) asked not_stopped not_faulted not_running = absurd (not_stopped t d refl)
nothing_runs (phase.Faulted t d) asked not_stopped not_faulted not_running = absurd (not_faulted t d refl)
nothing_runs (phase.Running t run) asked not_stopped not_faulted not_running = absurd (not_running t run refl)
nothing_runs _ asked not_stopped not_faulted not_running = (
  λ kind. record { fits = refl; reacts = λ past is. refl; suits = tt },
  λ kind. record { fits = refl; reacts = λ past is. refl; suits = tt },
  record { fits = refl; reacts = λ past is. refl; suits = tt },
)

-- ---- the thread

-- the only thread is known
known_thread : (asked : ThreadArguments) (reaction : Reaction) → asked.thread_id ≡ 1
    → reaction ≡ for_thread asked reaction
known_thread asked reaction one =
    ap (λ n. if nat_eq n 1 then reaction else Refuse refusal.UnknownThread) (sym one)

-- no other is
unknown_thread : (asked : ThreadArguments) (reaction : Reaction) → nat_eq asked.thread_id 1 ≡ false
    → Refuse refusal.UnknownThread ≡ for_thread asked reaction
unknown_thread asked reaction other = ap (λ b. if b then reaction else Refuse refusal.UnknownThread) (sym other)

-- the reaction for the one thread, and the refusal of another
by_thread : (asked : ThreadArguments) (Says : Chosen → Type 0) (reaction result : Chosen)
    → (asked.thread_id ≡ 1 → result ≡ reaction)
    → (nat_eq asked.thread_id 1 ≡ false → result ≡ chosen.Refuse refusal.UnknownThread)
    → (asked.thread_id ≡ 1 → Says reaction)
    → (nat_eq asked.thread_id 1 ≡ false → Says (chosen.Refuse refusal.UnknownThread))
    → Says result
by_thread asked Says reaction result known other granted denied = by (nat_eq asked.thread_id 1) refl
  where
    by : (b : Bool) → nat_eq asked.thread_id 1 ≡ b → Says result
    by true is =
        let one = eqb-true asked.thread_id 1 is in subst Says (sym (known one)) (granted one)
    by false is = subst Says (sym (other is)) (denied is)

-- ---- where the program stands

-- the launched program of a history is asked for by its thread, or not
module _ (asked : ThreadArguments) (o : Option Launched) (l : Launched) (o_is : o ≡ Some l)
    (says : Launched → Reaction) where
  granted_of : asked.thread_id ≡ 1 → OfProgram o (λ k. says l ≡ for_thread asked (says k))
  granted_of one = of_program o l (λ k. says l ≡ for_thread asked (says k)) o_is (known_thread asked (says l) one)

  denied_of : nat_eq asked.thread_id 1 ≡ false
      → OfProgram o (λ k. Refuse refusal.UnknownThread ≡ for_thread asked (says k))
  denied_of differs =
      of_program o l (λ k. Refuse refusal.UnknownThread ≡ for_thread asked (says k)) o_is
      (unknown_thread asked (says l) differs)

module _ (asked : ThreadArguments) (t : Target) (d : Debugged) (result : Chosen)
    (other : nat_eq asked.thread_id 1 ≡ false → result ≡ chosen.Refuse refusal.UnknownThread) where
  pub resumes_at : (kind : ResumeKind) → (asked.thread_id ≡ 1 → result ≡ chosen.Resume kind)
      → Chooses (command.Resume kind asked) (phase.Stopped t d) result
  resumes_at kind known =
      let l = launched_as t d.unit in
      by_thread asked (Chooses (command.Resume kind asked) (phase.Stopped t d)) (chosen.Resume kind) result known other
      (λ one. record {
        fits = refl;
        reacts = λ past is. granted_of asked (launched past) l is.keeps.0.launched_is (λ k. Resume k kind) one;
        suits = refl;
      })
      (λ no. record {
        fits = refl;
        reacts = λ past is. denied_of asked (launched past) l is.keeps.0.launched_is (λ k. Resume k kind) no;
        suits = tt;
      })

  pub ends_at : (kind : ResumeKind) → (asked.thread_id ≡ 1 → result ≡ chosen.End kind)
      → Chooses (command.Resume kind asked) (phase.Faulted t d) result
  ends_at kind known =
      by_thread asked (Chooses (command.Resume kind asked) (phase.Faulted t d)) (chosen.End kind) result known other
      (λ one. record { fits = refl; reacts = λ past is. known_thread asked (End kind) one; suits = refl })
      (λ no. record { fits = refl; reacts = λ past is. unknown_thread asked (End kind) no; suits = tt })

  pub retreats_at_stop : (kind : RetreatKind) → (asked.thread_id ≡ 1 → result ≡ chosen.Retreat kind)
      → Chooses (command.Retreat kind asked) (phase.Stopped t d) result
  retreats_at_stop kind known =
      let l = launched_as t d.unit in
      by_thread asked (Chooses (command.Retreat kind asked) (phase.Stopped t d)) (chosen.Retreat kind) result known
      other
      (λ one. record {
        fits = refl;
        reacts = λ past is. granted_of asked (launched past) l is.keeps.0.launched_is (λ k. Retreat k kind) one;
        suits = refl;
      })
      (λ no. record {
        fits = refl;
        reacts = λ past is. denied_of asked (launched past) l is.keeps.0.launched_is (λ k. Retreat k kind) no;
        suits = tt;
      })

  pub retreats_at_fault : (kind : RetreatKind) → (asked.thread_id ≡ 1 → result ≡ chosen.Retreat kind)
      → Chooses (command.Retreat kind asked) (phase.Faulted t d) result
  retreats_at_fault kind known =
      let l = launched_as t d.unit in
      by_thread asked (Chooses (command.Retreat kind asked) (phase.Faulted t d)) (chosen.Retreat kind) result known
      other
      (λ one. record {
        fits = refl;
        reacts = λ past is. granted_of asked (launched past) l is.keeps.0.launched_is (λ k. Retreat k kind) one;
        suits = refl;
      })
      (λ no. record {
        fits = refl;
        reacts = λ past is. denied_of asked (launched past) l is.keeps.0.launched_is (λ k. Retreat k kind) no;
        suits = tt;
      })

  pub stays_at_stop : (asked.thread_id ≡ 1 → result ≡ chosen.Answer body.None)
      → Chooses (command.Pause asked) (phase.Stopped t d) result
  stays_at_stop known =
      by_thread asked (Chooses (command.Pause asked) (phase.Stopped t d)) (chosen.Answer body.None) result known other
      (λ one. record { fits = refl; reacts = λ past is. known_thread asked (Answer body.None) one; suits = tt })
      (λ no. record { fits = refl; reacts = λ past is. unknown_thread asked (Answer body.None) no; suits = tt })

  pub stays_at_fault : (asked.thread_id ≡ 1 → result ≡ chosen.Answer body.None)
      → Chooses (command.Pause asked) (phase.Faulted t d) result
  stays_at_fault known =
      by_thread asked (Chooses (command.Pause asked) (phase.Faulted t d)) (chosen.Answer body.None) result known other
      (λ one. record { fits = refl; reacts = λ past is. known_thread asked (Answer body.None) one; suits = tt })
      (λ no. record { fits = refl; reacts = λ past is. unknown_thread asked (Answer body.None) no; suits = tt })

pub interrupts : (asked : ThreadArguments) (t : Target) (run : OrderedRun) (result : Chosen)
    → (asked.thread_id ≡ 1 → result ≡ chosen.Interrupt)
    → (nat_eq asked.thread_id 1 ≡ false → result ≡ chosen.Refuse refusal.UnknownThread)
    → Chooses (command.Pause asked) (phase.Running t run) result
interrupts asked t run result known other =
    by_thread asked (Chooses (command.Pause asked) (phase.Running t run)) chosen.Interrupt result known other
    (λ one. record { fits = refl; reacts = λ past is. known_thread asked Interrupt one; suits = tt })
    (λ no. record { fits = refl; reacts = λ past is. unknown_thread asked Interrupt no; suits = tt })
