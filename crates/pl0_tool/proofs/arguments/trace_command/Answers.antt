use Rattle.std.proofs.Common.{◌≡◌, ◌∙◌, ap, ap₂, codes}
use Rattle.std.proofs.lemmas.Result.{IfOk-weaker}
use Rattle.clap.specs.Lexer.{usize_max}
use Rattle.clap.specs.Words.{App, app_of, new_app, with_rule}
use Rattle.clap.specs.Simple.{app_of_fields}
use Rattle.pl0_tool.specs.Arguments.{flag, most_steps, number_option, one_file}
use Rattle.pl0_tool.proofs.arguments.trace_command.Goals as goal

abbrev of_file : App
of_file = with_rule (new_app (codes "trace")) one_file

abbrev from : App
from = with_rule of_file (number_option (codes "from") 0 usize_max)

abbrev with_steps : App
with_steps = with_rule from (number_option (codes "steps") 1 most_steps)

pub returns : goal.returns
returns c =
    let has_file : app_of c.in_ok-arg.field-0 ≡ of_file = c.in_ok-arg.ensures.shape c.one_file.ensures.own
    ∙ ap₂ with_rule (ap app_of_fields c.about.ensures ∙ c.new.ensures.app) c.one_file.ensures.rule in
    let has_from : app_of c.in_ok-arg-2.field-0 ≡ from =
    c.in_ok-arg-2.ensures.shape c.number_option.ensures.own ∙ ap₂ with_rule has_file c.number_option.ensures.rule in
    let has_steps : app_of c.in_ok-arg-3.field-0 ≡ with_steps =
    c.in_ok-arg-3.ensures.shape c.number_option-2.ensures.own ∙ ap₂ with_rule has_from c.number_option-2.ensures.rule in
    let has_machine : app_of c.in_ok-arg-4.field-0 ≡ with_rule with_steps (flag (codes "machine")) =
    c.in_ok-arg-4.ensures.shape c.flag.ensures.own ∙ ap₂ with_rule has_steps c.flag.ensures.rule in
    IfOk-weaker c.arg-5.result _ _ (λ command adds. adds.shape c.flag-2.ensures.own
    ∙ ap₂ with_rule has_machine c.flag-2.ensures.rule) c.arg-5.ensures
