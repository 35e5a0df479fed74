use Rattle.std.proofs.Common.{◌∙◌, sym, ap, map, take, drop}
use Rattle.std.proofs.lemmas.List.{take-map, drop-map}
use Rattle.debuggee.specs.Shown.{plain_variable}
use Rattle.debuggee.proofs.language.Page.of.Goals as goal

pub returns : goal.returns
returns c =
    let page = c.args.self in
    let all = c.args.all.items in
    ap (map plain_variable) (c.truncate.ensures.items ∙ ap (take page.count) c.in_ok-shown.ensures.tail)
    ∙ sym (take-map plain_variable page.count (drop page.start all))
    ∙ ap (take page.count) (sym (drop-map plain_variable page.start all))
