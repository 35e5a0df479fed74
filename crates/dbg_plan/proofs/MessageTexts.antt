-- Messages that an editor asks for.
use Rattle.std.proofs.Common.{◌≡◌, ◌≢◌, ℕ, ◌+◌, ◌<◌, ◌≤◌, List, [], ◌∷◌, ◌++◌, length, get_or, append_assoc, ap, ◌∙◌, subst, arith}
use Rattle.std.proofs.lemmas.List.{get_or_default, map-append}
use Rattle.pl0_tree.proofs.Unique.{expression_text_once}
use Rattle.std.specs.Str.{IsUtf8}
use Rattle.pl0_tree.specs.Tree.{Block, Expression}
use Rattle.pl0_tree.specs.Scope.{Path}
use Rattle.pl0_tree.specs.declared.tree.Place.{Place}
use Rattle.pl0_tree.specs.declared.fault.FaultKind.{FaultKind}
use Rattle.pl0_tree.specs.declared.fault.SyntaxFault.{SyntaxFault}
use Rattle.pl0_tree.specs.declared.fault.SyntaxFault.TheVariants.{InText}
use Rattle.pl0_tree.specs.Faults.{IsExpressionOf, IsFirstExpressionFault, FaultIs}
use Rattle.pl0_syntax.specs.Laws.{FaultExcludesExpressions}
use Rattle.dbg_plan.specs.declared.message.Part.{Part as DeclaredPart}
use Rattle.dbg_plan.specs.declared.message.Part.TheVariants as part
use Rattle.dbg_plan.specs.declared.messages.MessageFault.{MessageFault}
use Rattle.dbg_plan.specs.declared.messages.MessageFault.TheVariants.{Bad, NoMemory}
use Rattle.dbg_plan.specs.MessageFaults.{UnlessNoMemory}
use Rattle.dbg_plan.specs.Messages.{Part, Text, Value, expressions, expression_limit, Lacks, braced, IsMessageOf, ReadsAsExpression, ReadsAsParts, plain_part, plain_parts}
use Rattle.dbg_plan.specs.Bound.{ArePartsBound}
use Rattle.dbg_plan.proofs.MessageParts.{IsReadTo, one_further, continues, unclosed, some_value, reads_more, count-append}
use Rattle.std.proofs.lemmas.Grind.{common_steps}

-- a text with a fault is no expression's
pub no_expression : FaultExcludesExpressions → (main : Block) (q : Path) (text : List ℕ) (fault : SyntaxFault)
    (kind : FaultKind) (place : Place) → FaultIs (IsFirstExpressionFault main q text) fault → fault ≡ InText kind place
    → (e : Expression) → ¬ IsExpressionOf main q text e
no_expression excludes main q text fault kind place is e expression reads =
    excludes main q text kind place expression (subst (λ f. FaultIs (IsFirstExpressionFault main q text) f) e is) reads

-- ---- read from the left

-- the text was read as these parts, of which n are expressions, up to the rest
pub record IsRead (main : Block) (q : Path) (text : List ℕ) (n : ℕ) (parts : List DeclaredPart) (rest : List ℕ) : Type 0
  where
    pub to : IsReadTo (IsExpressionOf main q) text (plain_parts parts) rest
    pub count : length (expressions (plain_parts parts)) ≡ n
    pub few : n ≤ expression_limit
    pub bound : ArePartsBound main q parts
    pub is_text : IsUtf8 rest

module _ (main : Block) (q : Path) (text : List ℕ) where
  -- one expression more
  pub read_on : (n : ℕ) (parts new : List DeclaredPart) (rest before inner after opened : List ℕ) (e : Expression)
      → IsRead main q text n parts rest →
      n < expression_limit → rest ≡ before ++ 123 ∷ opened → Lacks 123 before → opened ≡ inner ++ 125 ∷ after
      → Lacks 125 inner → IsExpressionOf main q inner e →
      plain_parts new ≡ plain_parts parts ++ Text before ∷ Value e ∷ [] → ArePartsBound main q new → IsUtf8 after
      → IsRead main q text (n + 1) new after
  read_on n parts new rest before inner after opened e was lt cut first opens second is new_is bound is_text =
      let whole : rest ≡ before ++ braced inner after = cc in
      record {
        to = rw new_is (one_further (IsExpressionOf main q) text rest before inner after (plain_parts parts) e (λ
            f reads. expression_text_once reads.reads is.reads) was.to whole first second is);
        count =
            cc (count-append (plain_parts parts) (Text before ∷ Value e ∷ []), was.count);
        few = omega arith;
        bound = bound;
        is_text = is_text;
      }

  -- the rest stands for itself
  pub read_all : (n : ℕ) (parts new : List DeclaredPart) (rest : List ℕ) → IsRead main q text n parts rest
      → Lacks 123 rest → plain_parts new ≡ plain_parts parts ++ Text rest ∷ []
      → IsMessageOf main q text (plain_parts new)
  read_all n parts new rest was lacks new_is = grind (arith, common_steps, length, count-append, lacks)

  -- ---- texts that are no message

  pub ninth : (n : ℕ) (parts : List DeclaredPart) (rest before after : List ℕ) → IsRead main q text n parts rest
      → n ≡ expression_limit → rest ≡ before ++ 123 ∷ after → (all : List Part) → ¬ IsMessageOf main q text all
  ninth n parts rest before after was full cut all is =
      let left = was.to.back all is.reads in
      let some = some_value (IsExpressionOf main q) rest before after left.0 cut left.2 in
      grind (arith, common_steps, length, count-append)

  pub not_closed : (n : ℕ) (parts : List DeclaredPart) (rest before after : List ℕ) → IsRead main q text n parts rest
      → rest ≡ before ++ 123 ∷ after → Lacks 123 before → Lacks 125 after → (all : List Part)
      → ¬ IsMessageOf main q text all
  not_closed n parts rest before after was cut first lacks all is =
      let left = was.to.back all is.reads in
      unclosed (IsExpressionOf main q) rest before after left.0 cut first lacks left.2

  pub not_read : (n : ℕ) (parts : List DeclaredPart) (rest before inner after opened : List ℕ)
      → IsRead main q text n parts rest → rest ≡ before ++ 123 ∷ opened → Lacks 123 before → opened ≡ inner ++ 125
      ∷ after → Lacks 125 inner → ((e : Expression) → ¬ IsExpressionOf main q inner e) → (all : List Part)
      → ¬ IsMessageOf main q text all
  not_read n parts rest before inner after opened was cut first opens second none all is =
      let left = was.to.back all is.reads in
      let c = continues (IsExpressionOf main q) rest before inner after left.0 (cut ∙ ap (λ t. before ++ 123 ∷ t) opens)
      first second left.2 in
      none c.value c.reads

-- of memory that ran out nothing is said
pub unless_read : {P Q : Type 0} (fault : MessageFault) → UnlessNoMemory P fault → (P → Q) → UnlessNoMemory Q fault
unless_read Bad is then = then is
unless_read NoMemory is then = tt

-- ---- parts appended

pub one_appended : (old new : List DeclaredPart) (p : DeclaredPart) → new ≡ old ++ p ∷ []
    → plain_parts new ≡ plain_parts old ++ plain_part p ∷ []
one_appended old new p more = ap plain_parts more ∙ map-append plain_part old (p ∷ [])

pub two_appended : (old mid new : List DeclaredPart) (p r : DeclaredPart) → mid ≡ old ++ p ∷ [] → new ≡ mid ++ r ∷ []
    → plain_parts new ≡ plain_parts old ++ plain_part p ∷ plain_part r ∷ []
two_appended old mid new p r first second = grind (arith, common_steps, one_appended, append_assoc)

bound_more : (main : Block) (q : Path) (ps qs : List DeclaredPart) → ArePartsBound main q ps → ArePartsBound main q qs
    → ArePartsBound main q (ps ++ qs)
bound_more main q [] qs first second = second
bound_more main q (part.Text text ∷ ps) qs first second = bound_more main q ps qs first second
bound_more main q (part.Value e ∷ ps) qs first second = (first.0, bound_more main q ps qs first.1 second)

pub bound_one : (main : Block) (q : Path) (old new : List DeclaredPart) (p : DeclaredPart) → new ≡ old ++ p ∷ []
    → ArePartsBound main q old → ArePartsBound main q (p ∷ []) → ArePartsBound main q new
bound_one main q old new p more was bound = rw more (bound_more main q old (p ∷ []) was bound)

-- by what `split_once` says of the part before the byte
pub lacks : (byte : ℕ) (text : List ℕ) → ((i : ℕ) → i < length text → get_or text i 0 ≢ byte) → Lacks byte text
lacks byte text none = λ k d lt is. none k lt (get_or_default text k 0 d lt ∙ is)

-- ---- messages

-- what is read with names reads so whatever they mean
pub reads_as : (main : Block) (q : Path) (text : List ℕ) (parts : List Part) → IsMessageOf main q text parts
    → ReadsAsParts text parts
reads_as main q text parts is = reads_more _ ReadsAsExpression (λ t e r. r.reads) text parts is.reads
