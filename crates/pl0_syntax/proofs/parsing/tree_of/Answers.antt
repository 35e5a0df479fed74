use Rattle.pl0_syntax.proofs.Common.{IsTreeOf, plain_block, subst, sym}
use Rattle.pl0_syntax.proofs.parsing.tree_of.Goals as goal

pub invariant_of-result : goal.invariant_of-result
invariant_of-result c =
    let text = c.in_ok-text.text.items in
    let main = plain_block c.args.program in
    let is : IsTreeOf text main = subst (λ t. IsTreeOf t main) (sym c.in_ok-text.ensures.items) c.requires in
    record {
      lawful = ∣ is ∣₁;
      short = c.tree_laws.ensures.short text main is;
      few = c.tree_laws.ensures.few text main is;
      in_order = ∣ c.tree_laws.ensures.in_order text main is ∣₁;
    }
