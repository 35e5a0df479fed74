use Rattle.std.proofs.Common.{◌∙◌, ℕ, Bor, List, ap}
use Rattle.std.specs.Prelude.{map, string_bytes}
use Rattle.pl0_tool.proofs.program.execute_given.Goals as goal

pub returns-in-Ok-borrow_texts : goal.returns-in-Ok-borrow_texts
returns-in-Ok-borrow_texts g c =
    let texts = c.as_slice.ensures.value ∙ c.in-Ok-collect_arguments.ensures in
    let given = ap (λ l. map (λ (text : Bor (List ℕ)). text.now) l) c.as_slice-in-Ok.ensures.value
    ∙ c.in-Ok-borrow_texts.ensures ∙ ap (λ l. map string_bytes l) texts in
    rw c.in-Ok.is (rw given at c.execute.ensures)
