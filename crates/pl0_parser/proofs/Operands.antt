-- Operands that operators of one rank join: the terms of an expression, and the factors of a term.
use Rattle.pl0_parser.proofs.Common.{AFactor, ap, arith, token_at, ATerm, Binary, Box, Expression, FaultIs, FaultKind, first_refusal, Goal, IsAdding, IsMultiplying, List, Mark, Marked, more_factors_choice, more_terms_choice, MoreFactors, MoreTerms, Operator, Parses, Pass, Place, plain_expression, ReadsFactor, ReadsMoreFactors, ReadsMoreTerms, ReadsTerm, RefusedAt, subst, sym, Symbol, SyntaxFault, Token, ℕ, ◌∙◌, ◌∷◌, ◌≡◌}
use Rattle.std.specs.declared.alloc.Global.{Global}
use Rattle.pl0_tree.specs.Reading as reading
use Rattle.pl0_tree.specs.declared.tree.Expression.{Expression as DeclaredExpression}
use Rattle.pl0_tree.specs.declared.tree.Expression.TheVariants as declared
use Rattle.pl0_parser.proofs.Expressions.{pass_terms, pass_factors, take_adding, take_multiplying}
use Rattle.pl0_parser.proofs.ExpressionOutcomes.{fault_weaker}

-- how operands of a rank are read, and what the choices make of them
pub record Rank : Type 1 where
  pub operand : Goal
  pub others : Goal
  pub Joins : Mark → Operator → Type 0
  pub Ends : Symbol → Type 0
  pub ReadsOperand : List Token → Expression → List Token → Type 0
  pub ReadsOthers : List Token → Expression → Expression → List Token → Type 0
  pub no_other : (s : List Token) (e : Expression) → ReadsOthers s e e s
  pub one_other : (m : Mark) (o : Operator) (p : Place) (s t rest : List Token) (left right e : Expression) → Joins m o
      → ReadsOperand s right t → ReadsOthers t (Binary o left right) e rest
      → ReadsOthers (token_at (Marked m) p ∷ s) left e rest
  pub passes : (goals : List Goal) (t : Token) (ts : List Token) → Ends t.symbol
      → first_refusal (others ∷ goals) (t ∷ ts) ≡ first_refusal goals (t ∷ ts)
  pub takes : (goals : List Goal) (m : Mark) (o : Operator) (p : Place) (ts : List Token) → Joins m o
      → first_refusal (others ∷ goals) (token_at (Marked m) p ∷ ts) ≡ first_refusal (operand ∷ others ∷ goals) ts

abbrev pub terms : ℕ → Rank
terms n = record {
  operand = ATerm n;
  others = MoreTerms n;
  Joins = IsAdding;
  Ends = λ s. (k : ℕ) → more_terms_choice k s ≡ Pass;
  ReadsOperand = ReadsTerm n;
  ReadsOthers = ReadsMoreTerms n;
  no_other = λ s e. reading.no_term;
  one_other = λ m o p s t rest left right e sign next more. reading.one_term sign next more;
  passes = λ goals t ts ends. pass_terms n goals t ts (ends n);
  takes = take_adding n;
}

abbrev pub factors : ℕ → Rank
factors n = record {
  operand = AFactor n;
  others = MoreFactors n;
  Joins = IsMultiplying;
  Ends = λ s. (k : ℕ) → more_factors_choice k s ≡ Pass;
  ReadsOperand = ReadsFactor n;
  ReadsOthers = ReadsMoreFactors n;
  no_other = λ s e. reading.no_factor;
  one_other = λ m o p s t rest left right e sign next more. reading.one_factor sign next more;
  passes = λ goals t ts ends. pass_factors n goals t ts (ends n);
  takes = take_multiplying n;
}

abbrev pub ParsesOthers : Rank → Expression → List Token → Expression → List Token → Type 0
ParsesOthers r first = Parses (λ s e rest. r.ReadsOthers s first e rest) r.others

-- What a loop keeps: what is read from where it stands is read from where it began.
pub record Keeps (r : Rank) (first : Expression) (begun : List Token) (left : Expression)
    (tokens : List Token) : Type 0 where
  pub parses : (e : Expression) (rest : List Token) → ParsesOthers r left tokens e rest
      → ParsesOthers r first begun e rest
  pub refused : (kind : FaultKind) (place : Place) → RefusedAt r.others tokens kind place
      → RefusedAt r.others begun kind place

module _ (r : Rank) (first : Expression) (begun : List Token) where
  -- no operator more, and the loop ends
  pub done : (left : Expression) (tokens : List Token) → Keeps r first begun left tokens
      → ((t : Token) × (more : List Token) × (tokens ≡ t ∷ more) × r.Ends t.symbol)
      → ParsesOthers r first begun left tokens
  done left tokens keeps (t, more, is, ends) =
      keeps.parses left tokens (subst (λ ts. ParsesOthers r left ts left ts) (sym is)
      (record {
        reads = r.no_other (t ∷ more) left;
        goes_on = λ goals. r.passes goals t more ends;
        shorter = omega arith;
      }))

  -- an operator in front, with what stands after it
  abbrev pub Joined : List Token → Operator → List Token → Type 0
  Joined tokens o next = (m : Mark) × (p : Place) × r.Joins m o × (tokens ≡ token_at (Marked m) p ∷ next)

  -- an operator and an operand more, and the loop goes on
  goes_on : (left right : Expression) (tokens next after : List Token) (o : Operator) → Keeps r first begun left tokens
      → Joined tokens o next → Parses r.ReadsOperand r.operand next right after
      → Keeps r first begun (Binary o left right) after
  goes_on left right tokens next after o keeps (m, p, sign, is) parsed = record {
    parses = λ e rest more. keeps.parses e rest
        (subst (λ ts. ParsesOthers r left ts e rest) (sym is)
        (record {
          reads = r.one_other m o p next after rest left right e sign parsed.reads more.reads;
          goes_on =
              λ goals. r.takes goals m o p next sign ∙ parsed.goes_on (r.others ∷ goals) ∙ more.goes_on goals;
          shorter = omega (arith, parsed.shorter, more.shorter);
        }));
    refused = λ kind place refused. keeps.refused kind place
        (λ goals. ap (first_refusal (r.others ∷ goals)) is ∙ r.takes goals m o p next sign
        ∙ parsed.goes_on (r.others ∷ goals) ∙ refused goals);
  }

  -- the same with the operands in their boxes
  pub goes_on_boxed : (left right : DeclaredExpression) (tokens next after : List Token) (o : Operator)
      (x y : Box DeclaredExpression Global) → x.value ≡ left → y.value ≡ right
      → Keeps r first begun (plain_expression left) tokens → Joined tokens o next
      → Parses r.ReadsOperand r.operand next (plain_expression right) after
      → Keeps r first begun (plain_expression (declared.Binary o x y)) after
  goes_on_boxed left right tokens next after o x y is_left is_right keeps sign parsed =
      goes_on _ _ tokens next after o (rw is_left keeps) sign (rw is_right parsed)

  -- an operand that is refused
  pub fails : (left : Expression) (tokens next : List Token) (o : Operator) (fault : SyntaxFault)
      → Keeps r first begun left tokens → Joined tokens o next → FaultIs (RefusedAt r.operand next) fault
      → FaultIs (RefusedAt r.others begun) fault
  fails left tokens next o fault keeps (m, p, sign, is) refused =
      fault_weaker fault (λ kind place refused. keeps.refused kind place (λ goals.
      cc (r.takes goals m o p next sign, refused (r.others ∷ goals)))) refused
