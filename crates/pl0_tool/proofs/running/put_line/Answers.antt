use Rattle.std.proofs.lemmas.Result.{err_from_is_err_and}
use Rattle.pl0_tool.proofs.Common.{[], ap, append_assoc, FailsIn, FitsSigned, Holds, List, MatchResult, rules, signed_decimal, subst, to_z-of_z, w64, ℕ, ◌++◌, ◌∙◌, ◌∷◌, ◌≡◌}
use Rattle.pl0_tool.proofs.PendingBytes.{fails_before}
use Rattle.pl0_tool.proofs.running.put_line.Goals as goal

line : (text digits wanted : List ℕ) → digits ≡ wanted → (text ++ digits) ++ (10 ∷ []) ≡ text ++ (wanted ++ (10 ∷ []))
line text digits wanted is = append_assoc text digits (10 ∷ []) ∙ ap (λ d. text ++ (d ++ (10 ∷ []))) is

pub returns : goal.returns
returns g c before text held =
    let later = (g.O.Sink.output c.put-2.new.output) in
    let digits = c.as_bytes.result.now in
    let fits : FitsSigned w64 c.args.number = search rules in
    let is : digits ≡ signed_decimal c.args.number =
    c.as_bytes.ensures.value ∙ c.format.ensures.text ∙ ap signed_decimal (to_z-of_z w64 c.args.number fits) in
    subst (λ l. MatchResult c.put-2.result (λ _. Holds before later c.put-2.new.pending.items l)
    (λ _. FailsIn l before later))
    (line text digits (signed_decimal c.args.number) is)
    (c.put-2.ensures.held before (text ++ digits) (c.in_ok-put.ensures.held before text held))

pub returns-in_err-put : goal.returns-in_err-put
returns-in_err-put g c before text held =
    let later = (g.O.Sink.output c.put.new.output) in
    let digits = c.as_bytes.result.now in
    let fits : FitsSigned w64 c.args.number = search rules in
    let is : digits ≡ signed_decimal c.args.number =
    c.as_bytes.ensures.value ∙ c.format.ensures.text ∙ ap signed_decimal (to_z-of_z w64 c.args.number fits) in
    let p = err_from_is_err_and c.from_residual.result c.from_residual.ensures.1 in
    rw p.1 (subst (λ l. FailsIn l before later) (line text digits (signed_decimal c.args.number) is)
    (fails_before before later (text ++ digits) (10 ∷ []) (c.in_err-put.ensures.held before text held)))
