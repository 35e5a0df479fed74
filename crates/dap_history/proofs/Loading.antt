-- A launch launches the program of its file, and no other step launches one.
use Rattle.dap_history.proofs.Common.{Answers, Causes, Content, Effect, History, IsSome, Item, Launch, Launches, Loaded, Option, Reply, Some, Step, ap, is_some, sym, ℕ, ◌∙◌, ◌≡◌, situation}
use Rattle.std.proofs.Common.{List, arith}
use Rattle.dap_msg.specs.declared.command.CommandName.TheVariants as name
use Rattle.dap_msg.specs.declared.command.Supported.TheVariants as supported
use Rattle.dap_msg.specs.declared.outgoing.Outgoing.TheVariants.{Answer}
use Rattle.dap_history.specs.Launching.{LaunchesText}
use Rattle.dap_history.specs.Loading.{LaunchesIts, EndsLaunch, EachLaunchIsOfItsFile}
use Rattle.dap_history.proofs.Silent.{all_silent}
use Rattle.dap_history.proofs.Outputs.{report_launches}
use Rattle.dap_history.proofs.Judged.{was_taken}
use Rattle.std.proofs.lemmas.Grind.{common_steps}

module _ (launch : Launch) (step : Step) (reply : Reply)
    (answers : Answers launch.seq (name.Supported supported.Launch) reply step) where
  answer_as : (known : Reply) → reply ≡ known
      → step.answer ≡ Some (Answer launch.seq (name.Supported supported.Launch) known.result)
  answer_as known is = cc answers.answer_is

  effect_as : (known : Reply) → reply ≡ known → step.effect ≡ known.effect
  effect_as known is = answers.effect_is ∙ ap (λ (r : Reply). r.effect) is

  launches_its : (text : List ℕ) → LaunchesText launch.arguments text reply → LaunchesIts launch text step
  launches_its text is = grind (arith, common_steps, effect_as, answer_as) steps 200000

  ends_launch : (file : Option (List ℕ)) → Launches launch.arguments file reply → EndsLaunch launch file step
  ends_launch file is = grind (arith, common_steps) steps 200000

  -- a launch that is refused launches nothing
  launched_by : (file : Option (List ℕ)) → Launches launch.arguments file reply → IsSome step.effect.launched
      → (text : List ℕ) × (file ≡ Some text) × LaunchesIts launch text step
  launched_by file is some = grind (arith, common_steps, is_some, effect_as, launches_its) steps 200000

step_ends : (past : History) (item : Item) (step : Step) (launch : Launch) (file : Option (List ℕ))
    → item ≡ Loaded launch file → Causes past item step → EndsLaunch launch file step
step_ends past item step launch file item_is causes = grind (arith, common_steps, ends_launch) steps 200000

step_launches : (past : History) (item : Item) (step : Step) → Causes past item step → IsSome step.effect.launched
    → (launch : Launch) × (text : List ℕ) × (item ≡ Loaded launch (Some text)) × LaunchesIts launch text step
step_launches past (Content (Some request)) step is some =
    let e = ap is_some (ap (λ (e : Effect). e.launched) (sym is.2.effect_is)
    ∙ ap (λ (e : Effect). e.launched) is.2.effect_is) in
    let none = (all_silent (situation past) past request.body is.0 is.1).no_launch in
    let some_there = ap (λ (e : Effect). is_some e.launched) (sym is.2.effect_is) ∙ some in
    let never = ap is_some (sym none) ∙ some_there in absurd cc
step_launches past item step is some = grind (arith, common_steps, launched_by, is_some, report_launches) steps 200000

pub each_launch : EachLaunchIsOfItsFile
each_launch f events past rest history before step after past_is = (
  λ launch file item_is. step_ends before step.item step launch file item_is causes,
  λ some. step_launches before step.item step causes some,
)
  where
    causes : Causes before step.item step
    causes = (was_taken f events past rest history before step after past_is).causes
