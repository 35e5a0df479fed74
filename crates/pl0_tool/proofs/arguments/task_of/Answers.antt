use Rattle.std.proofs.Common.{◌∙◌, codes}
use Rattle.clap.specs.Words.{found_of}
use Rattle.clap.proofs.WalkLemmas.{one_text-rows}
use Rattle.pl0_tool.proofs.arguments.task_of.Goals as goal

pub returns-in-trace : goal.returns-in-trace
returns-in-trace c =
    let machine = one_text-rows (found_of c.args.given.now) (codes "machine") in
    let instructions = one_text-rows (found_of c.args.given.now) (codes "instructions") in (
      c.in-trace.is,
      c.number-in-trace.ensures,
      c.number-in-trace-2.ensures,
      (
        (λ given. c.get_flag.ensures.value (machine ∙ given)),
        (λ given. c.get_flag.ensures.other (machine ∙ given)),
        (λ given. c.get_flag.ensures.none (machine ∙ given)),
      ),
      (
        (λ given. c.get_flag-in-trace.ensures.value (instructions ∙ given)),
        (λ given. c.get_flag-in-trace.ensures.other (instructions ∙ given)),
        (λ given. c.get_flag-in-trace.ensures.none (instructions ∙ given)),
      ),
    )

pub returns-in-list : goal.returns-in-list
returns-in-list c = let same = one_text-rows (found_of c.args.given.now) (codes "names") in (
  c.in-list.is,
  (
    (λ given. c.get_flag-in-list.ensures.value (same ∙ given)),
    (λ given. c.get_flag-in-list.ensures.other (same ∙ given)),
    (λ given. c.get_flag-in-list.ensures.none (same ∙ given)),
  ),
)
