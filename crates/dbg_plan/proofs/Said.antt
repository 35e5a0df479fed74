-- What the logs of a position say.
use Rattle.std.proofs.Common.{◌≡◌, ℕ, zero, suc, ◌+◌, ◌-◌, ℤ, pos, negsuc, Bool, true, false, List, [], ◌∷◌, ◌++◌, length, map, Option, Some, None, Result, Ok, Err, refl, ap, ◌∙◌, arith}
use Rattle.std.specs.Prelude.{if◌then◌else◌, ◌+ℤ◌, ◌-ℤ◌, ◌*ℤ◌, neg_ℤ, int_div, option_map, slice_get, ◌&&◌}
use Rattle.std.specs.List.{cons_option, filter_map, flat_map, enumerate_from}
use Rattle.pl0_tree.specs.Tree.{Block, Expression, Variable, Number, Negate, Binary}
use Rattle.pl0_tree.specs.declared.tree.Operator.{Operator}
use Rattle.pl0_tree.specs.declared.tree.Operator.TheVariants.{Add, Subtract, Multiply, Divide}
use Rattle.pl0_meaning.specs.declared.RunFault.{RunFault}
use Rattle.pl0_meaning.specs.declared.RunFault.TheVariants.{Overflow}
use Rattle.pl0_meaning.specs.Arithmetic.{IsArithmetic}
use Rattle.pl0_meaning.specs.Values.{Configuration, value, fits_64, checked, operation, after}
use Rattle.pl0_meaning.specs.Runs.{at}
use Rattle.dbg_plan.specs.Messages.{Part, Text, Value, Message, expressions}
use Rattle.dbg_plan.specs.Breakpoints.{Breakpoint}
use Rattle.dbg_plan.specs.Due.{is_hit, arrives_in}
use Rattle.dbg_plan.specs.Plans.{parts_at}
use Rattle.dbg_plan.specs.Logs.{Log, value_text, filled, log_text, part_text, EachIsReplaced, log_in, log_at, said_in, said_by, LogsAreSaid, ValuesAreArithmetic}
use Rattle.std.proofs.lemmas.Grind.{common_steps}

-- ---- each expression is replaced

replaced : (parts : List Part) (value_of : Expression → Result ℤ RunFault)
    → filled parts (map value_of (expressions parts)) ≡ flat_map (part_text value_of) parts
replaced [] value_of = refl
replaced (Text bytes ∷ parts) value_of = ap (λ l. bytes ++ l) (replaced parts value_of)
replaced (Value e ∷ parts) value_of = ap (λ l. value_text (value_of e) ++ l) (replaced parts value_of)

pub each_is_replaced : EachIsReplaced
each_is_replaced parts value_of = ap (λ l. l ++ 10 ∷ []) (replaced parts value_of)

-- ---- values

if_fits : (b : Bool) (z : ℤ) → IsArithmetic (if b then Ok z else Err Overflow)
if_fits true z = tt
if_fits false z = tt

checked_is : (z : ℤ) → IsArithmetic (checked z)
checked_is z = if_fits (fits_64 z) z

operation_is : (op : Operator) (x y : ℤ) → IsArithmetic (operation op x y)
operation_is Add x y = checked_is (x +ℤ y)
operation_is Subtract x y = checked_is (x -ℤ y)
operation_is Multiply x y = checked_is (x *ℤ y)
operation_is Divide x (pos zero) = tt
operation_is Divide x (pos (suc n)) = checked_is (int_div x (pos (suc n)))
operation_is Divide x (negsuc n) = checked_is (int_div x (negsuc n))

after_is : (r : Result ℤ RunFault) (go : ℤ → Result ℤ RunFault) → IsArithmetic r → ((x : ℤ) → IsArithmetic (go x))
    → IsArithmetic (after r go)
after_is (Ok x) go is each = each x
after_is (Err fault) go is each = is

pub values_are_arithmetic : ValuesAreArithmetic
values_are_arithmetic main c i (Number n) = tt
values_are_arithmetic main c i (Variable x) = tt
values_are_arithmetic main c i (Negate e) =
    after_is (value main c i e) (λ x. checked (neg_ℤ x)) (values_are_arithmetic main c i e) (λ x. checked_is (neg_ℤ x))
values_are_arithmetic main c i (Binary op left right) =
    after_is (value main c i left) (λ x. after (value main c i right) (λ y. operation op x y))
    (values_are_arithmetic main c i left)
    (λ x. after_is (value main c i right) (λ y. operation op x y) (values_are_arithmetic main c i right)
    (λ y. operation_is op x y))

-- ---- the logs of a position

abbrev text_in : List Breakpoint → Log → List ℕ
text_in breakpoints log = log_text (parts_at breakpoints log.number) log.values

map_cons : {A B : Type 0} (f : A → B) (o : Option A) (xs : List A)
    → map f (cons_option o xs) ≡ cons_option (option_map f o) (map f xs)
map_cons f None xs = refl
map_cons f (Some x) xs = refl

both : (a b : Bool) → a && b ≡ true → a ≡ true
both true b is = refl
both false b is = absurd cc

module _ (main : Block) (t m : ℕ) (breakpoints : List Breakpoint) where
  parts_found : (number : ℕ) (b : Breakpoint) (message : Message) → Some message ≡ b.message
      → slice_get breakpoints number ≡ Some b → parts_at breakpoints number ≡ message.parts
  parts_found number b message is found = cc

  -- a message says what its log does, where the program stands
  log_says : (number : ℕ) (c : Option Configuration) (b : Breakpoint) (message : Option Message) → message ≡ b.message
      → slice_get breakpoints number ≡ Some b → arrives_in main b c ≡ true
      → option_map (text_in breakpoints) (log_in main c number message) ≡ option_map (said_in main c) message
  log_says number c b None is found there = refl
  log_says number None b (Some message) is found there = absurd cc
  log_says number (Some c) b (Some message) is found there =
      let value_of = value main c (length c - 1) in
      cc (parts_found number b message is found, each_is_replaced message.parts value_of)

  says : (number : ℕ) (b : Breakpoint) → slice_get breakpoints number ≡ Some b
      → option_map (text_in breakpoints) (log_at main t m (number, b)) ≡ said_by main t m b
  says number b found = by_hit (is_hit main t m b) refl
    where
      by_hit : (hit : Bool) → is_hit main t m b ≡ hit
          → option_map (text_in breakpoints)
          (if hit then log_in main (at main m) number b.message else None) ≡ (if hit then option_map
          (said_in main (at main m)) b.message else None)
      by_hit true is = log_says number (at main m) b b.message refl found (both (arrives_in main b (at main m)) _ is)
      by_hit false is = refl

  all_said : (n : ℕ) (bs : List Breakpoint) → ((k : ℕ) → slice_get breakpoints (n + k) ≡ slice_get bs k)
      → map (text_in breakpoints) (filter_map (log_at main t m) (enumerate_from n bs)) ≡ filter_map (said_by main t m)
      bs
  all_said n [] each = refl
  all_said n (b ∷ bs) each =
      let same : n ≡ n + 0 = omega arith in
      let here : slice_get breakpoints n ≡ Some b = ap (slice_get breakpoints) same ∙ each 0 in
      map_cons (text_in breakpoints) (log_at main t m (n, b)) (filter_map (log_at main t m) (enumerate_from (n + 1) bs))
      ∙ ap (λ o. cons_option o (map (text_in breakpoints) (filter_map (log_at main t m) (enumerate_from (n + 1) bs))))
      (says n b here)
      ∙ ap (cons_option (said_by main t m b)) (all_said (n + 1) bs (further n b bs each))
    where
      further : (n : ℕ) (b : Breakpoint) (bs : List Breakpoint)
          → ((k : ℕ) → slice_get breakpoints (n + k) ≡ slice_get (b ∷ bs) k) → (k : ℕ)
          → slice_get breakpoints (n + 1 + k) ≡ slice_get bs k
      further n b bs each k =
          let same : n + 1 + k ≡ n + suc k = omega arith in ap (slice_get breakpoints) same ∙ each (suc k)

pub logs_are_said : LogsAreSaid
logs_are_said main breakpoints t m = grind (arith, common_steps, all_said, slice_get)
