use Rattle.dap_msg.proofs.Common.{[], ap, append_assoc, arith, codes, None, on_ok_weaker, Some, sym, ◌++◌, ◌∙◌, ◌∷◌, ◌≡◌}
use Rattle.std.proofs.lemmas.Str.Pattern.{strip_prefix_char, strip_suffix_char}
use Rattle.json.specs.Print.{escape}
use Rattle.dap_msg.proofs.Pieces.{after_quote, between_quotes, escape_line}
use Rattle.dap_msg.proofs.draft.Draft.put_escapes.Goals as goal

pub unreachable-requires-in-None : goal.unreachable-requires-in-None
unreachable-requires-in-None c =
    strip_prefix_char 34 _ None c.in-None.ensures.cases (omega arith) (escape c.args.text.now ++ 34 ∷ [])
    (c.as_str.ensures.value ∙ c.in_ok-quoted.ensures)

pub unreachable-requires : goal.unreachable-requires
unreachable-requires c =
    strip_suffix_char 34 _ None c.in-None-strip_suffix.ensures.cases (omega arith) (escape c.args.text.now)
    (after_quote c.args.text.now _ _ (c.as_str.ensures.value ∙ c.in_ok-quoted.ensures)
    (strip_prefix_char 34 _ (Some c.in-Some-strip_prefix.begun) c.in-Some-strip_prefix.ensures.cases (omega arith)))

pub returns : goal.returns
returns c =
    rw (between_quotes c.args.text.now _ _
    (after_quote c.args.text.now _ _ (c.as_str.ensures.value ∙ c.in_ok-quoted.ensures)
    (strip_prefix_char 34 _ (Some c.in-Some-strip_prefix.begun) c.in-Some-strip_prefix.ensures.cases (omega arith)))
    (strip_suffix_char 34 _ (Some c.in-Some-strip_suffix.escaped) c.in-Some-strip_suffix.ensures.cases (omega arith)))
    at c.put-in-Some-strip_suffix.ensures

pub returns-then-is_plain : goal.returns-then-is_plain
returns-then-is_plain c =
    let line = c.in-Some.line.now in
    let whole : c.args.text.now ≡ line ++ 10 ∷ [] =
    strip_suffix_char 10 _ (Some c.in-Some.line) c.in-Some.ensures.cases (omega arith) in
    let escaped = ap escape whole ∙ escape_line line (sym c.is_plain.ensures ∙ c.if-is_plain.true) in
    on_ok_weaker c.put-then-is_plain.result
    (λ e. e ∙ ap (λ t. t ++ codes "\\n") c.in_ok-put.ensures ∙ append_assoc c.args.self.now line (codes "\\n")
    ∙ ap (λ t. c.args.self.now ++ t) (sym escaped)) c.put-then-is_plain.ensures
