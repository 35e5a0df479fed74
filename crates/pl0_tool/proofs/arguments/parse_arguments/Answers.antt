use Rattle.std.proofs.Common.{◌≡◌, ◌∙◌, ap, sym, Bor, List, map}
use Rattle.clap.specs.Words.{App, Text, app_of, fault_of, found_of, is_simple, is_simple_and_free, rows_of, subcommand_of}
use Rattle.pl0_tool.specs.Arguments.{command_line}
use Rattle.pl0_tool.proofs.CommandLine.{both_parts}
use Rattle.pl0_tool.proofs.arguments.parse_arguments.Goals as goal

pub returns : goal.returns
returns c =
    let is : app_of c.in_ok-command_line.field-0 ≡ command_line = c.in_ok-command_line.ensures in
    let words : List Text = map (λ (argument : Bor Text). argument.now) c.args.arguments.now in
    record {
      name = c.in-Some.name.now;
      rows = rows_of (found_of c.in-Some.given.now);
      passes = ap (λ (a : App). fault_of a words) (sym is) ∙ c.in_ok-matches.ensures.kinds (ap is_simple_and_free is);
      command = ap (λ (a : App). subcommand_of a words) (sym is)
          ∙ (sym (c.in_ok-matches.ensures.matches (ap is_simple is)).1
          ∙ both_parts _ _ _ _ _ c.in-Some.ensures.name c.in-Some.ensures.rows);
      task = c.in_ok-asked_for-in-Some.ensures.task;
      files = c.in_ok-asked_for-in-Some.ensures.files;
    }
