use Rattle.std.proofs.Common.{◌≡◌, List, ℕ, ◌++◌, sym, ap, ◌∙◌, subst, append_assoc, decimal, codes}
use Rattle.adapter.specs.Listing.{line_feed}
use Rattle.byte_streams.specs.Streams.{WritesOrFails}
use Rattle.adapter.proofs.reporting.say_syntax.Goals as goal

-- three numbers with spaces between them, and a line feed
line : (a b c : List ℕ) → a ++ (codes " " ++ (b ++ (codes " " ++ (c ++ line_feed)))) ≡ (a
    ++ (codes " " ++ (b ++ (codes " " ++ c)))) ++ line_feed
line a b c =
    ap (λ l. a ++ (codes " " ++ l)) (sym (append_assoc b (codes " " ++ c) line_feed))
    ∙ sym (append_assoc a (codes " " ++ (b ++ (codes " " ++ c))) line_feed)

pub returns : goal.returns
returns g c =
    let before = (g.E.Sink.output c.args.errors.now) in
    let after = (g.E.Sink.output c.say.new.output) in
    let n = decimal c.args.number in
    let l = decimal c.args.place.line in
    let k = decimal c.args.place.column in
    let said = rw (c.format.ensures.text, c.format-2.ensures.text, c.format-3.ensures.text) at c.say.ensures in
    subst (λ t. WritesOrFails (codes "pl0dap: syntax " ++ t) before after) (line n l k) said
