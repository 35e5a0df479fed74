use Rattle.std.proofs.Common.{◌∙◌, ◌++◌, ap, arith, codes, string_bytes, subst}
use Rattle.dap_bodies.proofs.Cuts.{IsLastBoundary, shown_cut, shown_whole}
use Rattle.dap_bodies.proofs.cutting.shown_text.Goals as goal

pub returns-then-len-le-TEXT_LIMIT-clause-text : goal.returns-then-len-le-TEXT_LIMIT-clause-text
returns-then-len-le-TEXT_LIMIT-clause-text c = shown_whole (string_bytes c.args.text) (omega arith)

pub returns-clause-text : goal.returns-clause-text
returns-clause-text c =
    let end = c.floor_char_boundary-end in
    c.in_ok-push_str.ensures.bytes ∙ ap (λ l. l ++ codes "...") c.truncate.ensures.bytes
    ∙ shown_cut (string_bytes c.args.text) end.result (omega arith)
    (subst (λ l. IsLastBoundary l 65533 end.result) c.as_str.ensures.value
    (end.ensures.bound, end.ensures.boundary, end.ensures.nearest))
