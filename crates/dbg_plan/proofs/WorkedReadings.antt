-- What some texts of an editor read as.
use Rattle.std.specs.Prelude.{◌≡◌, ◌≢◌, ◌<◌, ℕ, ℤ, zero, suc, ◌++◌, drop, length, false, nat_eq, List, [], ◌∷◌, slice_get, Some, None, pos, refl, codes, decimal}
use Rattle.std.proofs.Common.{arith, ap, sym, get_or, ◌∙◌}
use Rattle.std.proofs.lemmas.Bool.{eq-eqb}
use Rattle.std.specs.Fmt.{digits}
use Rattle.std.proofs.lemmas.Fmt.{decimal_injective, first_decimal}
use Rattle.std.proofs.lemmas.List.Elements.{All-from_recursion, All-head, All-tail}
use Rattle.std.proofs.lemmas.Option.{same_Some}
use Rattle.pl0_tree.specs.declared.tree.Place.{Place}
use Rattle.pl0_tree.specs.declared.tree.Relation.TheVariants.{Equal}
use Rattle.pl0_tree.specs.Tree.{Variable, Number, Compare, Expression}
use Rattle.pl0_tree.specs.declared.fault.FaultKind.TheVariants.{BadCharacter}
use Rattle.pl0_tree.specs.Tokens.{Token, Named, Numeral, EndOfText}
use Rattle.pl0_tree.specs.Reading.{token_at, name_at, equal, ReadsExpression, unsigned, no_term, factors, no_factor, name, number, comparison}
use Rattle.pl0_tree.specs.Scope.{AreLawfulOutside, condition_uses, use_of, IsRead}
use Rattle.pl0_tree.specs.Faults.{IsConditionOf, IsExpressionOf, IsFirstExpressionFault, in_tokens, by_itself}
use Rattle.pl0_tree.proofs.Unique.{condition_text_once}
use Rattle.pl0_syntax.specs.Laws.{FaultExcludesExpressions}
use Rattle.pl0_meaning.specs.WorkedRun.{called, place}
use Rattle.dbg_plan.specs.declared.breakpoint.Rule.{Rule}
use Rattle.dbg_plan.specs.declared.breakpoint.Rule.TheVariants.{From, Every}
use Rattle.dbg_plan.specs.Messages.{Part, Text, Value, expressions, ReadsParts, Lacks, braced}
use Rattle.dbg_plan.specs.WorkedText.{nested}
use Rattle.dbg_plan.specs.Resolutions.{ReadsRule}
use Rattle.dbg_plan.specs.WorkedReadings.{RulesRead, OthersAreNoRules, ConditionsRead, NamesAreOfTheBlock, MessagesRead, BracesClose, BracesAreNotDoubled, repeated, values, MessagesAreShort}
use Rattle.dbg_plan.proofs.MessageParts.{continues, alone}
use Rattle.std.proofs.lemmas.Grind.{common_steps}

pub rules_read : RulesRead
unfolding digits
rules_read = grind (arith, common_steps)

-- ---- texts that are no rule

-- what begins below `1`, after a percent sign too, is no rule
low_is_none : (text : List ℕ) → get_or text 0 0 < 49 → (get_or text 0 0 ≡ 37 → get_or (drop 1 text) 0 0 < 49)
    → (rule : Rule) → ¬ ReadsRule text (Some rule)
low_is_none text low next (From k) (is, some, fits) = grind (arith, common_steps, first_decimal, get_or)
low_is_none text low next (Every k) (is, some, fits) = grind (arith, common_steps, first_decimal, get_or, drop)

high_is_none : (rule : Rule) → ¬ ReadsRule (codes "2147483648") (Some rule)
unfolding digits
high_is_none (From k) (is, some, fits) =
    let spelled : decimal 2147483648 ≡ codes "2147483648" = refl in
    let same = decimal_injective 2147483648 k (omega arith) (omega arith) (spelled ∙ is) in
    absurd (omega (arith, same))
high_is_none (Every k) (is, some, fits) = grind (arith, common_steps, get_or)

pub others_are_no_rules : OthersAreNoRules
others_are_no_rules = (
  low_is_none (codes "0") (omega arith) (λ e. absurd (omega (arith, e))),
  low_is_none (codes "%0") (omega arith) (λ e. omega arith),
  low_is_none (codes "03") (omega arith) (λ e. absurd (omega (arith, e))),
  low_is_none (codes "-3") (omega arith) (λ e. absurd (omega (arith, e))),
  low_is_none (codes " 3") (omega arith) (λ e. absurd (omega (arith, e))),
  high_is_none,
)

-- ---- expressions and conditions

-- a name or a number by itself is an expression
a_name : {n : ℕ} {word : List ℕ} {p : Place} {rest : List Token} →
    ReadsExpression n (token_at (Named word) p ∷ rest) (Variable (name_at word p)) rest
a_name = unsigned (factors name no_factor) no_term

a_number : {n : ℕ} {v : ℤ} {p : Place} {rest : List Token} →
    ReadsExpression n (token_at (Numeral v) p ∷ rest) (Number v) rest
a_number = unsigned (factors number no_factor) no_term

-- k is read in p, where it is a variable
k_lawful : AreLawfulOutside nested (0 ∷ []) (use_of IsRead (called (codes "k") 1 1) ∷ [])
k_lawful zero u is =
    rw (← (same_Some (use_of IsRead (called (codes "k") 1 1)) u is)) (record { at = _; found = refl; allowed = tt })
k_lawful (suc i) u is = absurd cc

k_is_one : IsConditionOf nested (0 ∷ []) (codes "k = 1")
    (Compare Equal (Variable (called (codes "k") 1 1)) (Number (pos 1)))
k_is_one = record { short = omega arith; reads = (place 1 6, comparison a_name equal a_number); lawful = k_lawful }

not_empty : {A : Type 0} {x : A} {xs : List A} → ¬ (x ∷ xs ≡ [])
not_empty is = absurd cc

pub conditions_read : ConditionsRead
conditions_read = (not_empty, refl, k_is_one)

-- k is no name of the main block
pub names_are_of_the_block : NamesAreOfTheBlock
names_are_of_the_block c (given, same, is) =
    let read = condition_text_once is.reads k_is_one.reads in
    let there = is.lawful 0 (use_of IsRead (called (codes "k") 1 1))
    (ap (λ d. slice_get (condition_uses d) 0) read) in
    let e : None ≡ Some there.at = there.found in
    absurd cc

just_k : IsExpressionOf nested (0 ∷ []) (codes "k") (Variable (called (codes "k") 1 1))
just_k = record { short = omega arith; reads = (place 1 2, a_name); lawful = k_lawful }

-- two numbers that differ by computation
differ : (a b : ℕ) → nat_eq a b ≡ false → a ≢ b
differ a b not same = grind (arith, common_steps, eq-eqb)

pub messages_read : MessagesRead
messages_read = (
  not_empty,
  refl,
  record {
    few = omega arith;
    reads = (
      codes "k",
      codes "}",
      refl,
      All-from_recursion (λ b. b ≢ 123) (codes "k is ") (
        differ _ _ refl,
        (differ _ _ refl, (differ _ _ refl, (differ _ _ refl, (differ _ _ refl, tt)))),
      ),
      All-from_recursion (λ b. b ≢ 125) (codes "k") (differ _ _ refl, tt),
      just_k,
      (refl, All-from_recursion (λ b. b ≢ 123) (codes "}") (differ _ _ refl, tt)),
    );
  },
)

-- no text in braces stands in one byte that is none
not_braced : (inner rest : List ℕ) → ¬ (codes "b" ≡ inner ++ (codes "}" ++ rest))
not_braced [] rest is = let e : 98 ≡ 125 = ap (λ bs. get_or bs 0 0) is in absurd (omega (arith, e))
not_braced (x ∷ []) rest is = absurd cc
not_braced (x ∷ y ∷ inner) rest is = absurd cc

not_opened : (before inner rest : List ℕ) → Lacks 123 before → ¬ (codes "a {b" ≡ before ++ braced inner rest)
not_opened [] inner rest lacks is = let e : 97 ≡ 123 = ap (λ bs. get_or bs 0 0) is in absurd (omega (arith, e))
not_opened (x ∷ []) inner rest lacks is = grind (arith, common_steps, get_or)
not_opened (x ∷ y ∷ []) inner rest lacks is = not_braced inner rest (ap (drop 3) is)
not_opened (x ∷ y ∷ z ∷ before) inner rest lacks is =
    let brace : 123 ≡ z = ap (λ bs. get_or bs 2 0) is in
    All-head (λ b. b ≢ 123) z before
    (All-tail (λ b. b ≢ 123) y (z ∷ before) (All-tail (λ b. b ≢ 123) x (y ∷ z ∷ before) lacks)) (sym brace)

no_parts : (Is : List ℕ → Expression → Type 0) (parts : List Part) → ¬ ReadsParts Is (codes "a {b") parts
no_parts Is [] reads = reads
no_parts Is (Text bytes ∷ []) (same, lacks) =
    All-head (λ b. b ≢ 123) 123 (codes "b")
    (All-tail (λ b. b ≢ 123) 32 (codes "{b") (All-tail (λ b. b ≢ 123) 97 (codes " {b") lacks)) refl
no_parts Is (Text before ∷ Text other ∷ parts) reads = reads
no_parts Is (Text before ∷ Value e ∷ parts) (inner, rest, is, lacks, inside, reads, more) =
    not_opened before inner rest lacks is
no_parts Is (Value e ∷ parts) reads = reads

pub braces_close : BracesClose
braces_close m (given, same, is) = no_parts _ m.parts is.reads

-- ---- doubled braces

-- a brace that opens is a byte that begins no token
opened_is_faulty : IsFirstExpressionFault nested (0 ∷ []) (codes "{k") BadCharacter (place 1 1)
opened_is_faulty = in_tokens (omega arith) (record {
  before = [];
  token = _;
  after = _;
  stands = refl;
  at = refl;
  begun = (
    Named (codes "k") ∷ EndOfText ∷ [],
    record {
      tokens = token_at (Named (codes "k")) (place 1 1) ∷ token_at EndOfText (place 1 2) ∷ [];
      tree = Variable (called (codes "k") 1 1);
      same = refl;
      reads = (place 1 2, a_name);
    },
  );
  refused = by_itself;
})

pub braces_are_not_doubled : FaultExcludesExpressions → BracesAreNotDoubled
braces_are_not_doubled excludes m (given, same, is) =
    let c = continues (IsExpressionOf nested (0 ∷ [])) (codes "{{k}}") [] (codes "{k") (codes "}") m.parts refl
    (All-from_recursion (λ b. b ≢ 123) [] tt)
    (All-from_recursion (λ b. b ≢ 125) (codes "{k") (differ _ _ refl, (differ _ _ refl, tt))) is.reads in
    excludes nested (0 ∷ []) (codes "{k") BadCharacter (place 1 1) c.value opened_is_faulty c.reads

-- ---- eight expressions

lacks_all : (byte : ℕ) → Lacks byte []
lacks_all byte = All-from_recursion (λ b. b ≢ byte) [] tt

k_unclosed : Lacks 125 (codes "k")
k_unclosed = All-from_recursion (λ b. b ≢ 125) (codes "k") (differ _ _ refl, tt)

values_read : (n : ℕ) → ReadsParts (IsExpressionOf nested (0 ∷ [])) (repeated n) (values n)
values_read zero = (refl, lacks_all 123)
values_read (suc n) = (codes "k", repeated n, refl, lacks_all 123, k_unclosed, just_k, values_read n)

-- it reads as nothing with another number of expressions
as_many : (Is : List ℕ → Expression → Type 0) (n : ℕ) (parts : List Part) → ReadsParts Is (repeated n) parts
    → length (expressions parts) ≡ n
as_many Is zero parts reads = ap (λ ps. length (expressions ps)) (alone Is [] parts (lacks_all 123) reads)
as_many Is (suc n) parts reads =
    let c = continues Is (repeated (suc n)) [] (codes "k") (repeated n) parts refl (lacks_all 123) k_unclosed reads in
    ap (λ ps. length (expressions ps)) c.is ∙ ap suc (as_many Is n c.more c.rest)

pub messages_are_short : MessagesAreShort
messages_are_short = (
  (not_empty, refl, record { few = omega arith; reads = values_read 8 }),
  λ m (given, same, is).
      let many = as_many (IsExpressionOf nested (0 ∷ [])) 9 m.parts is.reads in
      let few = is.few in
      absurd (omega (arith, many, few)),
)
