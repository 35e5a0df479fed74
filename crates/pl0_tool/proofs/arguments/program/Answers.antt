use Rattle.std.proofs.Common.{◌≡◌, ◌∙◌, ap, true, codes, []}
use Rattle.clap.specs.Words.{App, app_of, new_app}
use Rattle.clap.specs.Simple.{app_of_fields}
use Rattle.pl0_tool.proofs.arguments.program.Goals as goal

pub returns : goal.returns
returns c =
    let versioned : app_of c.version.result ≡ record {
      top = record (new_app (codes "pl0")).top { has_version = true };
      subs = [];
    } = ap app_of_fields c.version.ensures
    ∙ ap (λ (a : App). record a { top = record a.top { has_version = true } }) c.new.ensures.app in
    ap app_of_fields c.subcommand_required.ensures
    ∙ ap (λ (a : App). record a { top = record a.top { subcommand_required = true } })
    (ap app_of_fields c.after_help.ensures ∙ ap app_of_fields c.about.ensures ∙ versioned)
