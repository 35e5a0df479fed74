-- What a position logs, and the text of a log.
use Rattle.std.specs.Prelude.{◌≡◌, ℕ, ℤ, ◌-◌, if◌then◌else◌, List, [], ◌∷◌, ◌++◌, length, map, codes, Option, Some, None, option_map, Result, Ok, Err, refl}
use Rattle.std.specs.Coded.{Coded, code_by, coded_ℕ, coded_ℤ, coded_list, coded_result, coded×}
use Rattle.std.specs.Fmt.{signed_decimal}
use Rattle.std.specs.List.{filter_map, flat_map, enumerate_from}
use Rattle.pl0_tree.specs.Tree.{Block, Expression}
use Rattle.pl0_meaning.specs.contracts.RunFault as run_fault
use Rattle.pl0_meaning.specs.declared.RunFault.{RunFault}
use Rattle.pl0_meaning.specs.declared.RunFault.TheVariants.{Overflow, DivideByZero, Depth, StepLimit}
use Rattle.pl0_meaning.specs.Arithmetic.{IsArithmetic}
use Rattle.pl0_meaning.specs.Values.{Configuration, value}
use Rattle.pl0_meaning.specs.Runs.{at}
use Rattle.dbg_plan.specs.Messages.{Part, Text, Value, Message, expressions}
use Rattle.dbg_plan.specs.Breakpoints.{Breakpoint}
use Rattle.dbg_plan.specs.Due.{is_hit}
use Rattle.dbg_plan.specs.Plans.{parts_at}

-- the number of a breakpoint in its plan, from 0, and the values of its message's expressions, in order
pub record Log : Type 0 where
  pub number : ℕ
  pub values : List (Result ℤ RunFault)

abbrev pub log_code : Coded Log
log_code =
    code_by (ℕ × List (Result ℤ RunFault)) (coded× coded_ℕ (coded_list (coded_result coded_ℤ run_fault.the_row.coded)))
    (λ l. (l.number, l.values)) (λ p. record { number = p.0; values = p.1 }) (λ l. refl)

-- the values of expressions in the newest frame
abbrev pub newest_values : Block → Option Configuration → List Expression → List (Result ℤ RunFault)
newest_values main None es = []
newest_values main (Some c) es = map (value main c (length c - 1)) es

-- the log of a breakpoint of this number, if it has a message
abbrev pub log_in : Block → Option Configuration → ℕ → Option Message → Option Log
log_in main c number message =
    option_map (λ m. record { number = number; values = newest_values main c (expressions m.parts) }) message

-- what a breakpoint, counted from position t, logs at m
abbrev pub log_at : Block → ℕ → ℕ → ℕ × Breakpoint → Option Log
log_at main t m (number, b) = if is_hit main t m b then log_in main (at main m) number b.message else None

-- What position m logs under breakpoints that are counted from position t, in the order asked.
abbrev pub logs : Block → List Breakpoint → ℕ → ℕ → List Log
logs main breakpoints t m = filter_map (log_at main t m) (enumerate_from 0 breakpoints)

-- ---- the text of a log

-- what stands in the text for a value, or for the fault of its expression
abbrev pub value_text : Result ℤ RunFault → List ℕ
value_text (Ok z) = signed_decimal z
value_text (Err Overflow) = codes "overflow"
value_text (Err DivideByZero) = codes "divideByZero"
-- no value of an expression is either of these, as `ValuesAreArithmetic` says
value_text (Err Depth) = codes "depth"
value_text (Err StepLimit) = codes "stepLimit"

-- the message with these values in place of its expressions; there are as many
abbrev pub filled : List Part → List (Result ℤ RunFault) → List ℕ
filled [] values = []
filled (Text bytes ∷ parts) values = bytes ++ filled parts values
filled (Value e ∷ parts) [] = filled parts []
filled (Value e ∷ parts) (v ∷ values) = value_text v ++ filled parts values

-- what a log says: the message with the values filled in, and a line feed
abbrev pub log_text : List Part → List (Result ℤ RunFault) → List ℕ
log_text parts values = filled parts values ++ 10 ∷ []

-- ---- what a log says

-- a part with the value that an expression has
abbrev pub part_text : (Expression → Result ℤ RunFault) → Part → List ℕ
part_text value_of (Text bytes) = bytes
part_text value_of (Value e) = value_text (value_of e)

-- Where the values are those of its expressions, the text is the message with each expression replaced by its value.
abbrev pub EachIsReplaced : Type 0
EachIsReplaced =
    (parts : List Part) (value_of : Expression → Result ℤ RunFault)
    → log_text parts (map value_of (expressions parts)) ≡ flat_map (part_text value_of) parts ++ 10 ∷ []

-- what a message says where the program stands: each expression replaced by its value in the newest frame, and a line
-- feed
abbrev pub said_in : Block → Option Configuration → Message → List ℕ
said_in main None message = []
said_in main (Some c) message = flat_map (part_text (value main c (length c - 1))) message.parts ++ 10 ∷ []

-- what a breakpoint, counted from position t, says at m
abbrev pub said_by : Block → ℕ → ℕ → Breakpoint → Option (List ℕ)
said_by main t m b = if is_hit main t m b then option_map (said_in main (at main m)) b.message else None

-- What position m says under breakpoints that are counted from position t, in the order asked.
abbrev pub said : Block → List Breakpoint → ℕ → ℕ → List (List ℕ)
said main breakpoints t m = filter_map (said_by main t m) breakpoints

-- The texts of the logs of a position are what it says.
abbrev pub LogsAreSaid : Type 0
LogsAreSaid =
    (main : Block) (breakpoints : List Breakpoint) (t m : ℕ)
    → map (λ log. log_text (parts_at breakpoints log.number) log.values) (logs main breakpoints t m) ≡ said main
    breakpoints t m

-- The value of an expression is a number or a fault of arithmetic.
abbrev pub ValuesAreArithmetic : Type 0
ValuesAreArithmetic = (main : Block) (c : Configuration) (i : ℕ) (e : Expression) → IsArithmetic (value main c i e)
