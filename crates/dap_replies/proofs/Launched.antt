-- How the history goes on after a launch with its file.
use Rattle.std.proofs.Common.{◌≡◌, ℕ, List, [], ◌∷◌, ◌++◌, Option, None, Some, Err, inr, refl, sym, ◌∙◌, ap, subst, option_map}
use Rattle.std.specs.Option.{option_to_list}
use Rattle.pl0_tree.specs.Faults.{IsTreeOf}
use Rattle.pl0_tree.specs.Plain.{plain_block}
use Rattle.pl0_tree.specs.declared.program.Tree.{Tree}
use Rattle.pl0_unit.specs.declared.unit.Unit.{Unit as Compiled}
use Rattle.pl0_machine.specs.Machine.{program_of}
use Rattle.dbg_runner.specs.Orders.{plain_order}
use Rattle.dbg_runner.specs.Reported.{text_of}
use Rattle.dap_msg.specs.declared.requests.initialize.InitializeArguments.{InitializeArguments}
use Rattle.dap_msg.specs.declared.outgoing.Body.TheVariants as body
use Rattle.dap_msg.specs.declared.outgoing.Refusal.{Refusal}
use Rattle.dap_history.specs.declared.launch.Launch.{Launch}
use Rattle.dap_history.specs.History.{Launched, Step, History}
use Rattle.dap_history.specs.Plans.{Plan}
use Rattle.dap_history.specs.ReadingLaws.{ReadingsGoOn}
use Rattle.dap_history.specs.Replies.{Reply, refused, reply_with}
use Rattle.dap_history.specs.Launching.{Launches, launches}
use Rattle.dap_replies.specs.declared.phase.Phase.TheVariants as phase
use Rattle.dap_replies.specs.Phases.{IsPhase, IsUnlaunched, IsTarget, IsDebuggee}
use Rattle.dap_replies.specs.declared.effect.Reply.{Reply as Given}
use Rattle.dap_replies.specs.Answering.{without_events}
use Rattle.dap_replies.specs.Launched.{HasBegun, target_of, unstarted}
use Rattle.dap_replies.specs.Replied.{HasLaunched, launch_step}
use Rattle.dap_replies.proofs.Stays.{ChangesNoReading, phase_stays, settings_stay, runs_stay, position_stays, told_stays, plan_stays}

quiet_refusal : (launch : Launch) (file : Option (List ℕ)) (why : Refusal)
    → ChangesNoReading (launch_step launch file (refused why))
quiet_refusal launch file why =
    record { effect_is = refl; no_mark = refl; sets_none = refl; no_pause = refl; no_end = refl; tells_none = refl }

-- a launch that is refused leaves the session where it waits for one
pub launch_refused :
    ReadingsGoOn → (settings : InitializeArguments) (launch : Launch) (file : Option (List ℕ)) (why : Refusal)
    → Launches launch.arguments file (refused why)
    → (given : Given) → given ≡ without_events (Err why) None (phase.Ready settings)
    → (past : History) → IsPhase (phase.Launching settings launch) past → HasLaunched launch file past given
launch_refused laws settings launch file why refuses given is past waits =
    subst (HasLaunched launch file past) (sym is) (record {
      reply = refused why;
      launches = refuses;
      gives = record { result_is = refl; effect_is = record { events_are = refl; orders_are = refl } };
      phase_is =
          phase_stays laws (phase.Ready settings) past (launch_step launch file (refused why))
          (quiet_refusal launch file why)
          (record { situation_is = waits.situation_is; keeps = waits.keeps });
    })

-- what a launch of the program causes
abbrev begins : Launch → List ℕ → Compiled → Reply
begins launch text unit = reply_with body.None (launches launch.arguments text (program_of unit))

abbrev begun_step : Launch → List ℕ → Compiled → Step
begun_step launch text unit = launch_step launch (Some text) (begins launch text unit)

abbrev launched_program : Launch → Compiled → List ℕ → Launched
launched_program launch unit text =
    record {
      path = launch.arguments.program;
      stop_on_entry = launch.arguments.stop_on_entry;
      text = text;
      program = program_of
          unit;
    }

begun_target :
    ReadingsGoOn → (settings_ : InitializeArguments) (launch : Launch) (text : List ℕ) (unit : Compiled)
    → text_of unit ≡ text
    → (past : History) → IsPhase (phase.Launching settings_ launch) past
    → IsTarget (target_of settings_ launch.arguments) unit (past ++ begun_step launch text unit ∷ [])
begun_target laws settings_ launch text unit kept past waits = record {
  launched_is =
      laws.launched_is past (begun_step launch text unit) ∙ ap (λ t. Some (launched_program launch unit t)) (sym kept);
  settings_are = waits.keeps.0 ∙ sym (settings_stay laws past (begun_step launch text unit) refl);
  runs_are = sym (runs_stay laws past (begun_step launch text unit) refl ∙ waits.keeps.1.runs_are);
  told_is = sym (told_stays laws past (begun_step launch text unit) refl ∙ waits.keeps.1.told_is);
}

begun_debuggee :
    ReadingsGoOn → (launch : Launch) (text : List ℕ) (unit : Compiled) → (past : History) → IsUnlaunched past
    → IsDebuggee (unstarted unit) (past ++ begun_step launch text unit ∷ [])
begun_debuggee laws launch text unit past is =
    let same = plan_stays laws past (begun_step launch text unit) refl ∙ is.plan_is in
    record {
      position_is = sym (position_stays laws past (begun_step launch text unit) refl ∙ is.position_is);
      breakpoints_are = ap (λ (p : Plan). p.breakpoints) (sym same);
      counted_from_is = ap (λ (p : Plan). p.counted_from) (sym same);
    }

-- a launch of a text that reads leads to the configuration
pub launch_begun :
    ReadingsGoOn → (settings : InitializeArguments) (launch : Launch) (text : List ℕ) (tree : Tree)
    → tree.text.items ≡ text → IsTreeOf text (plain_block tree.program)
    → (given : Given) → HasBegun settings launch.arguments tree given
    → (past : History) → IsPhase (phase.Launching settings launch) past → HasLaunched launch (Some text) past given
launch_begun laws settings launch text tree kept reads given begun past waits =
    let unit = begun.unit in
    let kept_too : text_of unit ≡ text = ap (λ (t : Tree). t.text.items) begun.tree_is ∙ kept in
    let reads_too : IsTreeOf text (program_of unit) =
    subst (λ (t : Tree). IsTreeOf text (plain_block t.program)) (sym begun.tree_is) reads in
    record {
      reply = begins launch text unit;
      launches = inr (record { program = program_of unit; reads = ∣ reads_too ∣₁; reply_is = refl });
      gives = record {
        result_is = begun.result_is;
        effect_is = record {
          events_are = begun.events_are;
          orders_are = ap (λ o. option_to_list (option_map plain_order o)) begun.no_order;
        };
      };
      phase_is = subst (λ p. IsPhase p (past ++ begun_step launch text unit ∷ [])) (sym begun.phase_is) (record {
        situation_is = laws.situation_is past (begun_step launch text unit);
        keeps = (
          begun_target laws settings launch text unit kept_too past waits,
          begun_debuggee laws launch text unit
              past waits.keeps.1,
          refl,
        );
      });
    }
