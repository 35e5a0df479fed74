use Rattle.std.proofs.Common.{◌≡◌, ◌∙◌, ap, ap₂, Bool, codes}
use Rattle.std.proofs.lemmas.Result.{IfOk-weaker}
use Rattle.clap.specs.Words.{App, Shape, app_of, with_subcommand}
use Rattle.pl0_tool.specs.Arguments.{check_command, file_command, list_command, program, run_command, trace_command}
use Rattle.pl0_tool.proofs.CommandLine.{local_if_plain}
use Rattle.pl0_tool.proofs.arguments.command_line.Goals as goal

-- the command itself, and whether it is plain
abbrev top : App → Shape
top a = a.top

abbrev is_plain : App → Bool
is_plain a = a.top.is_plain

-- the program with its first commands
abbrev with_run : App
with_run = with_subcommand program run_command

abbrev with_trace : App
with_trace = with_subcommand with_run trace_command

abbrev with_check : App
with_check = with_subcommand with_trace check_command

pub returns : goal.returns
returns c =
    let has_run : app_of c.in_ok-subcommand.field-0 ≡ with_run =
    c.in_ok-subcommand.ensures.shape (local_if_plain _ _ _ _ (ap is_plain c.in_ok-run_command.ensures))
    ∙ ap₂ with_subcommand c.program.ensures (ap top c.in_ok-run_command.ensures) in
    let has_trace : app_of c.in_ok-subcommand-2.field-0 ≡ with_trace =
    c.in_ok-subcommand-2.ensures.shape (local_if_plain _ _ _ _ (ap is_plain c.in_ok-trace_command.ensures))
    ∙ ap₂ with_subcommand has_run (ap top c.in_ok-trace_command.ensures) in
    let has_check : app_of c.in_ok-subcommand-3.field-0 ≡ with_check =
    c.in_ok-subcommand-3.ensures.shape (local_if_plain _ _ _ _ (ap is_plain c.in_ok-check_command.ensures))
    ∙ ap₂ with_subcommand has_trace (ap top c.in_ok-check_command.ensures) in
    let has_list : app_of c.in_ok-subcommand-4.field-0 ≡ with_subcommand with_check list_command =
    c.in_ok-subcommand-4.ensures.shape (local_if_plain _ _ _ _ (ap is_plain c.in_ok-list_command.ensures))
    ∙ ap₂ with_subcommand has_check (ap top c.in_ok-list_command.ensures) in
    let has_tree : app_of c.in_ok-subcommand-5.field-0
    ≡ with_subcommand (with_subcommand with_check list_command) (file_command (codes "tree")) =
    c.in_ok-subcommand-5.ensures.shape (local_if_plain _ _ _ _ (ap is_plain c.in_ok-file_command.ensures))
    ∙ ap₂ with_subcommand has_list (ap top c.in_ok-file_command.ensures) in
    IfOk-weaker c.subcommand-6.result _ _ (λ command adds.
    adds.shape (local_if_plain _ _ _ _ (ap is_plain c.in_ok-file_command-2.ensures))
    ∙ ap₂ with_subcommand has_tree (ap top c.in_ok-file_command-2.ensures)) c.subcommand-6.ensures
