-- Tokens that end with the end of a text are read, or have a fault.
use Rattle.pl0_tree.specs.Faults.{level_limit}
use Rattle.pl0_parser.proofs.Common.{[], AComparison, ACondition, advance, AFactor, AName, AnEnd, AnExpression, ANumber, ap, AStatement, ATerm, Bool, cond, Choice, choice, comparison_choice, condition_choice, ConstantPart, constant_part_choice, else_behind, end_choice, EndOfText, Equal, Expect, Expected, expression_choice, factor_choice, false, FaultKind, Faulty, first_refusal, followed_by, front_piece, Goal, if◌then◌else◌, inl, inr, is_space, IsText, IsTokenFault, List, Mark, mark_choice, mark_number, Marked, more_constants_choice, more_factors_choice, more_statements_choice, more_terms_choice, more_variables_choice, MoreConstants, MoreFactors, MoreStatements, MoreTerms, MoreVariables, name_choice, Named, number_choice, Numeral, Option, Pass, Place, procedure_part_choice, ProcedurePart, Reading, refl, Refuse, refusal_after, Some, statement_choice, subst, suc, sym, Symbol, symbols, Take, term_choice, Token, token_at, tokens_from, true, variable_part_choice, VariablePart, zero, ℕ, ◌++◌, ◌==◌, ◌∙◌, ◌∷◌, ◌≡◌, ◌⊎◌, Begin, If, While, Procedure, Open, Const, Var, Comma, Semicolon, Plus, Minus, Times, Odd, behind, pred, start_place}
use Rattle.std.specs.Prelude.{None}
use Rattle.pl0_parser.proofs.Goals.{MeetsAll}
use Rattle.pl0_parser.proofs.Accepted.{met}
use Rattle.pl0_parser.proofs.Refusal.{AreTextGoals, first_fault}
use Rattle.pl0_parser.proofs.Readable.{placed}
use Rattle.pl0_parser.proofs.Placed.{place_of, placed_again}
use Rattle.pl0_parser.specs.Laws.{IsReadOrFaulty}

-- ---- the end is wanted last

-- after the end nothing is wanted
abbrev pub EndsLast : List Goal → Type 0
EndsLast [] = Unit {0}
EndsLast (AnEnd ∷ goals) = goals ≡ []
EndsLast (goal ∷ goals) = EndsLast goals

-- no end is wanted
abbrev HasNoEnd : List Goal → Type 0
HasNoEnd [] = Unit {0}
HasNoEnd (AnEnd ∷ goals) = ⊥
HasNoEnd (goal ∷ goals) = HasNoEnd goals

both : (left goals : List Goal) → HasNoEnd left → HasNoEnd goals → HasNoEnd (left ++ goals)
both [] goals first second = second
both (AnEnd ∷ left) goals first second = absurd first
both (goal ∷ left) goals first second = both left goals first second

in_front : (left goals : List Goal) → HasNoEnd left → EndsLast goals → EndsLast (left ++ goals)
in_front [] goals first last = last
in_front (AnEnd ∷ left) goals first last = absurd first
in_front (goal ∷ left) goals first last = in_front left goals first last

-- what a choice leaves wants no end
abbrev LeavesNoEnd : Choice → Type 0
LeavesNoEnd (Take left) = HasNoEnd left
LeavesNoEnd _ = Unit {0}

followed : (c : Choice) (goals : List Goal) → LeavesNoEnd c → HasNoEnd goals → LeavesNoEnd (followed_by c goals)
followed (Take left) goals first second = both left goals first second
followed _ goals first second = tt

factor_ends : (n : ℕ) (s : Symbol) → LeavesNoEnd (factor_choice n s)
factor_ends zero (Marked Open) = tt
factor_ends (suc n) (Marked Open) = tt
factor_ends n (Faulty kind) = tt
factor_ends n _ = tt

term_ends : (n : ℕ) (s : Symbol) → LeavesNoEnd (term_choice n s)
term_ends n s = followed (factor_choice n s) (MoreFactors n ∷ []) (factor_ends n s) tt

unsigned_ends : (n : ℕ) (s : Symbol) → LeavesNoEnd (followed_by (term_choice n s) (MoreTerms n ∷ []))
unsigned_ends n s = followed (term_choice n s) (MoreTerms n ∷ []) (term_ends n s) tt

expression_ends : (n : ℕ) (s : Symbol) → LeavesNoEnd (expression_choice n s)
expression_ends n (Marked Plus) = tt
expression_ends n (Marked Minus) = tt
expression_ends n s = unsigned_ends n s

compared_ends : (n : ℕ) (s : Symbol)
    → LeavesNoEnd (followed_by (expression_choice n s) (AComparison ∷ AnExpression n ∷ []))
compared_ends n s = followed (expression_choice n s) (AComparison ∷ AnExpression n ∷ []) (expression_ends n s) tt

condition_ends : (n : ℕ) (s : Symbol) → LeavesNoEnd (condition_choice n s)
condition_ends n (Marked Odd) = tt
condition_ends n s = compared_ends n s

comparison_ends : (s : Symbol) → LeavesNoEnd (comparison_choice s)
comparison_ends (Marked Equal) = tt
comparison_ends (Faulty kind) = tt
comparison_ends _ = tt

statement_ends : (n : ℕ) (s : Symbol) → LeavesNoEnd (statement_choice n s)
statement_ends zero (Marked Begin) = tt
statement_ends (suc n) (Marked Begin) = tt
statement_ends zero (Marked If) = tt
statement_ends (suc n) (Marked If) = tt
statement_ends zero (Marked While) = tt
statement_ends (suc n) (Marked While) = tt
statement_ends n _ = tt

procedure_ends : (n : ℕ) (s : Symbol) → LeavesNoEnd (procedure_part_choice n s)
procedure_ends zero (Marked Procedure) = tt
procedure_ends (suc n) (Marked Procedure) = tt
procedure_ends n _ = tt

tested_ends : (b : Bool) → LeavesNoEnd (if b then Take [] else Refuse Expected)
tested_ends true = tt
tested_ends false = tt

mark_ends : (m : Mark) (s : Symbol) → LeavesNoEnd (mark_choice m s)
mark_ends m (Marked k) = tested_ends (mark_number m == mark_number k)
mark_ends m (Faulty kind) = tt
mark_ends m _ = tt

more_terms_ends : (n : ℕ) (s : Symbol) → LeavesNoEnd (more_terms_choice n s)
more_terms_ends n (Marked Plus) = tt
more_terms_ends n _ = tt

more_factors_ends : (n : ℕ) (s : Symbol) → LeavesNoEnd (more_factors_choice n s)
more_factors_ends n (Marked Times) = tt
more_factors_ends n _ = tt

more_statements_ends : (n : ℕ) (s : Symbol) → LeavesNoEnd (more_statements_choice n s)
more_statements_ends n (Marked Semicolon) = tt
more_statements_ends n _ = tt

constant_part_ends : (s : Symbol) → LeavesNoEnd (constant_part_choice s)
constant_part_ends (Marked Const) = tt
constant_part_ends _ = tt

more_constants_ends : (s : Symbol) → LeavesNoEnd (more_constants_choice s)
more_constants_ends (Marked Comma) = tt
more_constants_ends _ = tt

variable_part_ends : (s : Symbol) → LeavesNoEnd (variable_part_choice s)
variable_part_ends (Marked Var) = tt
variable_part_ends _ = tt

more_variables_ends : (s : Symbol) → LeavesNoEnd (more_variables_choice s)
more_variables_ends (Marked Comma) = tt
more_variables_ends _ = tt

name_ends : (s : Symbol) → LeavesNoEnd (name_choice s)
name_ends (Named x) = tt
name_ends _ = tt

number_ends : (s : Symbol) → LeavesNoEnd (number_choice s)
number_ends (Numeral v) = tt
number_ends _ = tt

end_ends : (s : Symbol) → LeavesNoEnd (end_choice s)
end_ends EndOfText = tt
end_ends _ = tt

goal_ends : (goal : Goal) (s : Symbol) → LeavesNoEnd (choice goal s)
goal_ends (AnExpression n) s = expression_ends n s
goal_ends (MoreTerms n) s = more_terms_ends n s
goal_ends (ATerm n) s = term_ends n s
goal_ends (MoreFactors n) s = more_factors_ends n s
goal_ends (AFactor n) s = factor_ends n s
goal_ends (ACondition n) s = condition_ends n s
goal_ends AComparison s = comparison_ends s
goal_ends (AStatement n) s = statement_ends n s
goal_ends (MoreStatements n) s = more_statements_ends n s
goal_ends ConstantPart s = constant_part_ends s
goal_ends MoreConstants s = more_constants_ends s
goal_ends VariablePart s = variable_part_ends s
goal_ends MoreVariables s = more_variables_ends s
goal_ends (ProcedurePart n) s = procedure_ends n s
goal_ends (Expect m) s = mark_ends m s
goal_ends AName s = name_ends s
goal_ends ANumber s = number_ends s
goal_ends AnEnd s = end_ends s

-- goals after the first
behind_first : (goal : Goal) (goals : List Goal) → EndsLast (goal ∷ goals) → EndsLast goals
behind_first AnEnd goals last = subst EndsLast (sym last) tt
behind_first _ goals last = last

chosen_last : (c : Choice) (goals : List Goal) (behind : Choice) (next : List Goal) → LeavesNoEnd c → EndsLast goals
    → (behind ≡ Take next → EndsLast next) → else_behind c goals behind ≡ Take next → EndsLast next
chosen_last (Take left) goals behind next none last later is =
    let same : left ++ goals ≡ next = cc in subst EndsLast same (in_front left goals none last)
chosen_last Pass goals behind next none last later is = later is
chosen_last (Refuse kind) goals behind next none last later is = cc

nothing_last : (s : Symbol) (next : List Goal) → advance [] s ≡ Take next → EndsLast next
nothing_last (Faulty kind) next is = cc
nothing_last _ next is = cc

stays_last : (goals : List Goal) (s : Symbol) (next : List Goal) → EndsLast goals → advance goals s ≡ Take next
    → EndsLast next
stays_last [] s next last is = nothing_last s next is
stays_last (goal ∷ goals) s next last is =
    let below = behind_first goal goals last in
    chosen_last (choice goal s) goals _ next (goal_ends goal s) below (stays_last goals s next below) is

-- after the end nothing is left
end_taken : (goals : List Goal) (next : List Goal) → EndsLast goals → advance goals EndOfText ≡ Take next → next ≡ []
end_taken [] next last is = cc
end_taken (AnEnd ∷ goals) next last is = let same : goals ≡ next = cc in sym same ∙ last
end_taken (MoreTerms n ∷ goals) next last is = end_taken goals next last is
end_taken (MoreFactors n ∷ goals) next last is = end_taken goals next last is
end_taken (AStatement n ∷ goals) next last is = end_taken goals next last is
end_taken (MoreStatements n ∷ goals) next last is = end_taken goals next last is
end_taken (ConstantPart ∷ goals) next last is = end_taken goals next last is
end_taken (MoreConstants ∷ goals) next last is = end_taken goals next last is
end_taken (VariablePart ∷ goals) next last is = end_taken goals next last is
end_taken (MoreVariables ∷ goals) next last is = end_taken goals next last is
end_taken (ProcedurePart n ∷ goals) next last is = end_taken goals next last is
end_taken (goal ∷ goals) next last is = cc

-- ---- tokens that are all taken

-- the tokens and the end of the text
abbrev with_end : List Token → Place → List Token
with_end front p = front ++ token_at EndOfText p ∷ []

end_met : (goals : List Goal) (p : Place) (c : Choice) → advance goals EndOfText ≡ c → EndsLast goals
    → refusal_after c p (λ left. first_refusal left []) ≡ None → MeetsAll goals (EndOfText ∷ [])
end_met goals p (Take next) is last none = met goals EndOfText next [] is (rw (end_taken goals next last is) refl)
end_met goals p Pass is last none = cc
end_met goals p (Refuse kind) is last none = cc

token_met : (goals : List Goal) (t : Token) (rest : List Token) (c : Choice) → advance goals t.symbol ≡ c
    → ((next : List Goal) → advance goals t.symbol ≡ Take next → first_refusal next rest ≡ None
    → MeetsAll next (symbols rest))
    → refusal_after c t.place (λ left. first_refusal left rest) ≡ None → MeetsAll goals (t.symbol ∷ symbols rest)
token_met goals t rest (Take next) is later none = met goals t.symbol next (symbols rest) is (later next is none)
token_met goals t rest Pass is later none = cc
token_met goals t rest (Refuse kind) is later none = cc

all_met : (goals : List Goal) (front : List Token) (p : Place) → EndsLast goals
    → first_refusal goals (with_end front p) ≡ None → MeetsAll goals (symbols (with_end front p))
all_met goals [] p last none = end_met goals p (advance goals EndOfText) refl last none
all_met goals (t ∷ ts) p last none =
    token_met goals t _ _ refl (λ next is later. all_met next ts p (stays_last goals t.symbol next last is) later) none

-- ---- the tokens of a text end with its end

abbrev IsEnded : List Token → Type 0
IsEnded tokens = (front : List Token) × (p : Place) × (tokens ≡ with_end front p)

one_more : (t : Token) (ts : List Token) → IsEnded ts → IsEnded (t ∷ ts)
one_more t ts (front, p, is) = (t ∷ front, p, ap (λ us. t ∷ us) is)

abbrev next_tokens : Bool → Place → ℕ → List ℕ → List Token
next_tokens space p b bytes = cond space (tokens_from (behind p b) zero bytes)
    (record { symbol = (front_piece b (b ∷ bytes)).0; place = p }
    ∷ tokens_from (behind p b) (pred (front_piece b (b ∷ bytes)).1) bytes)

ended_at : (space : Bool) (p : Place) (b : ℕ) (bytes : List ℕ)
    → ((taken : ℕ) → IsEnded (tokens_from (behind p b) taken bytes)) → IsEnded (next_tokens space p b bytes)
ended_at true p b bytes rest = rest zero
ended_at false p b bytes rest = one_more _ _ (rest (pred (front_piece b (b ∷ bytes)).1))

tokens_ended : (bytes : List ℕ) (p : Place) (taken : ℕ) → IsEnded (tokens_from p taken bytes)
tokens_ended [] p taken = ([], p, refl)
tokens_ended (b ∷ bytes) p (suc taken) = tokens_ended bytes (behind p b) taken
tokens_ended (b ∷ bytes) p zero = ended_at (is_space b) p b bytes (tokens_ended bytes (behind p b))

-- ---- read, or faulty

module _ {T : Type 0} (Reads : Reading T) (goals : ℕ → List Goal) (are : AreTextGoals (IsText Reads) goals)
    (last : EndsLast (goals level_limit))
    (read : (at : ℕ → Place) (s : List Symbol) → MeetsAll (goals level_limit) s
    → (tree : T) × Reads level_limit (placed at s) tree)
  where
    by_refusal : (tokens : List Token) → IsEnded tokens → (o : Option (FaultKind × Place))
        → first_refusal (goals level_limit) tokens ≡ o
        → ((tree : T) × Reads level_limit tokens tree)
        ⊎ ((kind : FaultKind) × (place : Place) × IsTokenFault (IsText Reads) tokens kind place)
    by_refusal tokens ended (Some found) is = inr (found.0, found.1, first_fault _ goals are tokens found.0 found.1 is)
    by_refusal tokens (front, p, same) None is =
        let all = subst (λ ts. MeetsAll (goals level_limit) (symbols ts)) (sym same)
        (all_met (goals level_limit) front p last (ap (first_refusal (goals level_limit)) (sym same) ∙ is)) in
        let (tree, reads) = read (place_of tokens) (symbols tokens) all in
        inl (tree, subst (λ ts. Reads level_limit ts tree) (placed_again tokens) reads)

    pub read_or_faulty : IsReadOrFaulty Reads
    read_or_faulty text = by_refusal _ (tokens_ended text start_place 0) _ refl
