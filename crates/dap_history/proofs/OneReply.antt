-- A command and a launch each have at most one reply, and so an item has at most one step.
use Rattle.dap_history.proofs.Common.{Answers, AreResolved, At, AtMostOne, BadCondition, BadHitCondition, BadLogMessage, Block, Breakpoint, Causes, Command, CommandName, Configuration, Configuring, Content, Effect, EvalFault, EvaluatesIn, Faulted, Frame, Fresh, HasConditionAt, HasEffect, HasRule, History, Inspects, InspectsAs, IsAfter, IsResolvedTo, IsTreeOf, Item, LaunchArguments, Launched, Launches, NoStep, None, OfProgram, Option, Path, Question, Reaction, Reacts, ReadsConditionAt, ReadsMessageAt, ReadsRule, Ready, RepliesAt, RepliesFrom, RepliesIn, Reply, Resolution, Resume, Retreat, SetBreakpointsArguments, SetsOf, Situation, Some, SourceBreakpoint, Start, Step, Stopped, Subject, [], ap, arith, at, for_thread, get_or, inl, inr, refl, refused, reply_of, situation, step_from, subst, sym, value, ℕ, ∥∥₁_elim, ◌<◌, ◌^◌, ◌∙◌, ◌∷◌, ◌≡◌, is_same_path}
use Rattle.std.proofs.Common.{Bool, true, false, ℤ, List, Result}
use Rattle.std.specs.Fmt.{decimal}
use Rattle.std.proofs.lemmas.Fmt.{decimal_injective, first_decimal}
use Rattle.dap_msg.specs.declared.question.Shown.{Shown}
use Rattle.dap_msg.specs.declared.outgoing.Refusal.{Refusal}
use Rattle.dap_msg.specs.declared.command.Command.TheVariants as command
use Rattle.pl0_tree.specs.Steps.{step_path}
use Rattle.pl0_tree.specs.Faults.{IsFirstFault, IsConditionOf, IsExpressionOf}
use Rattle.pl0_syntax.specs.Laws.{OneFault, FaultExcludesTrees}
use Rattle.dbg_plan.specs.declared.breakpoint.Rule.{Rule}
use Rattle.dbg_plan.specs.Messages.{Message}
use Rattle.dbg_plan.specs.Resolutions.{AskedLine, HasMessageAt, IsBreakpointOf}
use Rattle.dbg_plan.specs.Values.{answered as evaluated}
use Rattle.dbg_plan.specs.Breakpoints.{TextCondition}
use Rattle.dap_history.specs.Reactions.{Resolves, Sets}
use Rattle.dap_history.proofs.Texts.{one_program}
use Rattle.dap_history.proofs.MessageParts.{one_parts}
use Rattle.dap_history.proofs.Questions.{inspects_there}
use Rattle.std.proofs.lemmas.Grind.{common_steps}

-- a text reads in one way, or has one first fault; so does an editor's
pub record IsTextOnce : Type 0 where
  pub one_tree : (text : List ℕ) → AtMostOne (IsTreeOf text)
  pub one_fault : (text : List ℕ) → OneFault (IsFirstFault text)
  pub not_both : FaultExcludesTrees
  pub one_condition : (main : Block) (q : Path) (text : List ℕ) → AtMostOne (IsConditionOf main q text)
  pub one_expression : (main : Block) (q : Path) (text : List ℕ) → AtMostOne (IsExpressionOf main q text)

none_prop : (x y : ⊥) → x ≡ y
none_prop x y = absurd x

-- ---- rules

rule_first : (k : ℕ) (rest : List ℕ) → 0 < k → k < 2 ^ 31 → ¬ (37 ∷ rest ≡ decimal k)
rule_first k rest some fits is =
    let first = first_decimal k some (omega (arith, fits)) in
    let at = ap (λ t. get_or t 0 0) is in
    omega (arith, first, at)

same_number : (j k : ℕ) → j < 2 ^ 31 → k < 2 ^ 31 → decimal j ≡ decimal k → j ≡ k
same_number j k low small is = decimal_injective j k (omega (arith, low)) (omega (arith, small)) is

not_empty_decimal : (k : ℕ) → 0 < k → k < 2 ^ 31 → ¬ ([] ≡ decimal k)
not_empty_decimal k some fits is =
    let first = first_decimal k some (omega (arith, fits)) in
    let at = ap (λ t. get_or t 0 0) is in
    omega (arith, first, at)

one_rule : (text : List ℕ) (a b : Option Rule) → ReadsRule text a → ReadsRule text b → a ≡ b
one_rule text a b x y = grind (arith, common_steps, not_empty_decimal, same_number, rule_first) steps 200000

module _ (once : IsTextOnce) where
  -- ---- breakpoints

  one_text : (main : Block) (n : ℕ) (text : List ℕ) (a b : Option TextCondition) → ReadsConditionAt main n text a
      → ReadsConditionAt main n text b → a ≡ b
  one_text main n text (Some t) (Some u) x y =
      ap (λ s. Some (record { text = s; condition = t.condition })) (x.1 ∙ sym y.1)
      ∙ ap (λ c. Some (record { text = u.text; condition = c }))
      (once.one_condition main (step_path main n) text t.condition u.condition x.2 y.2)
  one_text main n text a b x y = grind (arith, common_steps) steps 200000

  one_message : (main : Block) (n : ℕ) (text : List ℕ) (a b : Option Message) → ReadsMessageAt main n text a
      → ReadsMessageAt main n text b → a ≡ b
  one_message main n text (Some t) (Some u) x y =
      ap (λ s. Some (record { text = s; parts = t.parts })) (x.1 ∙ sym y.1)
      ∙ ap (λ ps. Some (record { text = u.text; parts = ps }))
      (one_parts (IsExpressionOf main (step_path main n)) (once.one_expression main (step_path main n)) text t.parts
      u.parts x.2.reads y.2.reads)
  one_message main n text a b x y = grind (arith, common_steps) steps 200000

  one_breakpoint : (main : Block) (x : AskedLine) (n : ℕ) (a b : Breakpoint) → IsBreakpointOf main x n a
      → IsBreakpointOf main x n b → a ≡ b
  one_breakpoint main x n a b here there = grind (arith, common_steps, one_text, one_rule, one_message) steps 200000

  -- A line is resolved to the first of these that fails of it, or to its step.
  module _ (main : Block) (x : AskedLine) where
    abbrev AtStep : (ℕ → Type 0) → Type 0
    AtStep P = (n : ℕ) × (step_from main x.line ≡ Some n) × P n

    abbrev Passes : Resolution → Type 0
    Passes NoStep = AtStep (λ n. Unit {0})
    Passes BadCondition = AtStep (λ n. HasConditionAt main n x.condition)
    Passes BadHitCondition = HasRule x.hit_condition
    Passes BadLogMessage = AtStep (λ n. HasMessageAt main n x.log_message)
    Passes (At n) = ⊥

    abbrev rank : Resolution → ℕ
    rank NoStep = 0
    rank BadCondition = 1
    rank BadHitCondition = 2
    rank BadLogMessage = 3
    rank (At n) = 4

    one_step : (n k : ℕ) → step_from main x.line ≡ Some n → step_from main x.line ≡ Some k → n ≡ k
    one_step n k here there = let e = sym here ∙ there in cc

    fails : (a : Resolution) (bs : List Breakpoint) → IsResolvedTo main x a bs → ¬ Passes a
    fails a bs is p = grind (arith, common_steps, one_step) steps 200000

    passes : (b a : Resolution) (bs : List Breakpoint) → rank a < rank b → IsResolvedTo main x b bs → Passes a
    passes BadCondition NoStep bs lt is = (is.1.0, is.1.1, tt)
    passes b a bs lt is = grind (arith, common_steps) steps 200000

    not_before : (a b : Resolution) (bs cs : List Breakpoint) → IsResolvedTo main x a bs → IsResolvedTo main x b cs
        → ¬ (rank a < rank b)
    not_before a b bs cs here there lt = fails a bs here (passes b a cs lt there)

    one_line : (a b : Resolution) (bs cs : List Breakpoint) → IsResolvedTo main x a bs → IsResolvedTo main x b cs
        → (a ≡ b) × (bs ≡ cs)
    one_line NoStep NoStep bs cs here there = (refl, here.1 ∙ sym there.1)
    one_line BadCondition BadCondition bs cs here there = (refl, here.0 ∙ sym there.0)
    one_line BadHitCondition BadHitCondition bs cs here there = (refl, here.0 ∙ sym there.0)
    one_line BadLogMessage BadLogMessage bs cs here there = (refl, here.0 ∙ sym there.0)
    one_line (At n) (At k) bs cs here there =
        let at = one_step k n there.0 here.0 in (
          ap At (sym at),
          here.1.1
              ∙ ap (λ b. b ∷ []) (one_breakpoint main x n here.1.0 there.1.0 here.1.2
              (subst (λ i. IsBreakpointOf main x i there.1.0) at there.1.2))
              ∙ sym there.1.1,
        )
    one_line a b bs cs here there = grind (arith, common_steps, not_before) steps 200000

  one_lines : (main : Block) (lines : List AskedLine) (answers others : List Resolution) (bs cs : List Breakpoint)
      → AreResolved main lines answers bs → AreResolved main lines others cs → (answers ≡ others) × (bs ≡ cs)
  one_lines main (x ∷ lines) (a ∷ answers) (b ∷ others) bs cs here there =
      let first = one_line main x a b here.0 there.0 here.3 there.3 in
      let rest = one_lines main lines answers others here.1 there.1 here.4 there.4 in
      (cc (first.0, rest.0), cc (here.2, first.1, rest.1, there.2))
  one_lines main lines answers others bs cs here there = grind (arith, common_steps) steps 200000

  one_resolves : (past : History) (l : Launched) (lines : List SourceBreakpoint) (r s : Reaction)
      → Resolves past l lines r → Resolves past l lines s → r ≡ s
  one_resolves past l lines r s a b = grind (arith, common_steps, one_lines) steps 200000

  one_sets_of : (here : Bool) (past : History) (l : Launched) (lines : List SourceBreakpoint) (r s : Reaction)
      → SetsOf here past l lines r → SetsOf here past l lines s → r ≡ s
  one_sets_of true past l lines r s a b = one_resolves past l lines r s a b
  one_sets_of false past l lines r s a b = a ∙ sym b

  -- of the launched program one thing is said
  one_of_program : {A : Type 0} (o : Option Launched) (says : Launched → A → Type 0) (r s : A)
      → ((l : Launched) → says l r → says l s → r ≡ s)
      → OfProgram o (λ l. says l r) → OfProgram o (λ l. says l s) → r ≡ s
  one_of_program o says r s one a b = grind (arith, common_steps) steps 200000

  one_sets : (past : History) (asked : SetBreakpointsArguments) (r s : Reaction) → Sets past asked r
      → Sets past asked s → r ≡ s
  one_sets past asked r s a b =
      one_of_program _ (λ l reaction. SetsOf (is_same_path asked.path l.path) past l asked.breakpoints reaction) r s (λ
      l x y. one_sets_of _ past l asked.breakpoints r s x y) a b

  -- the reaction is determined by the program
  one_as : (o : Option Launched) (f : Launched → Reaction) (r s : Reaction) → OfProgram o (λ l. r ≡ f l)
      → OfProgram o (λ l. s ≡ f l) → r ≡ s
  one_as None f r s a b = absurd a
  one_as (Some l) f r s a b = a ∙ sym b

  -- ---- questions

  evaluated_once : (a b : Result ℤ EvalFault) → evaluated a ≡ evaluated b → a ≡ b
  evaluated_once a b is = grind (arith, common_steps) steps 200000

  one_evaluates : (main : Block) (c : Configuration) (id : ℕ) (f : Option Frame) (text : List ℕ)
      (r s : Result Shown Refusal) → EvaluatesIn main c id f text r → EvaluatesIn main c id f text s → r ≡ s
  one_evaluates main c id None text r s a b = a ∙ sym b
  one_evaluates main c id (Some f) text r s (inl a) (inl b) =
      let read = once.one_expression main f.block text a.expression b.expression a.reads b.reads in
      cc (a.answer_is, evaluated_once _ _ (sym a.result_is ∙ ap (value main c _) read ∙ b.result_is), b.answer_is)
  one_evaluates main c id (Some f) text r s (inl a) (inr b) = absurd (b.none a.expression a.reads)
  one_evaluates main c id (Some f) text r s (inr a) (inl b) = absurd (a.none b.expression b.reads)
  one_evaluates main c id (Some f) text r s (inr a) (inr b) = a.answer_is ∙ sym b.answer_is

  one_from : (of : Subject) (c : Configuration) (question : Question) (r s : Result Shown Refusal)
      → RepliesFrom of c question r → RepliesFrom of c question s → r ≡ s
  one_from of c question r s a b = grind (arith, common_steps, one_evaluates) steps 200000

  one_at : (of : Subject) (c : Option Configuration) (question : Question) (r s : Result Shown Refusal)
      → RepliesAt of c question r → RepliesAt of c question s → r ≡ s
  one_at of c question r s a b = grind (arith, common_steps, one_from) steps 200000

  one_inspects : (past : History) (question : Question) (r s : Result Shown Refusal) → InspectsAs past question r
      → InspectsAs past question s → r ≡ s
  one_inspects past question r s a b = grind (arith, common_steps, one_of_program, at, one_at) steps 200000

  -- ---- commands and launches

  one_answer : (past : History) (q : Question) (a b : Reaction) → Inspects past q a → Inspects past q b
      → reply_of past a ≡ reply_of past b
  one_answer past q a b x y = grind (arith, common_steps, inspects_there, one_inspects) steps 200000

  -- the table has one reaction, or those that it has have one reply
  one_reaction : (past : History) (s : Situation) (asked : Command) (a b : Reaction) → Reacts s past asked a
      → Reacts s past asked b → reply_of past a ≡ reply_of past b
  one_reaction past Fresh (command.SetBreakpoints q) a b x y = ap (reply_of past) (x ∙ sym y)
  one_reaction past Ready (command.SetBreakpoints q) a b x y = ap (reply_of past) (x ∙ sym y)
  one_reaction past s (command.SetBreakpoints q) a b x y = ap (reply_of past) (one_sets past q a b x y)
  one_reaction past Configuring command.ConfigurationDone a b x y = ap (reply_of past) (one_as _ Start a b x y)
  one_reaction past Stopped (command.Resume k q) a b x y = cc (one_as _ (λ l. for_thread q (Resume l k)) a b x y)
  one_reaction past Stopped (command.Retreat k q) a b x y = cc (one_as _ (λ l. for_thread q (Retreat l k)) a b x y)
  one_reaction past Faulted (command.Retreat k q) a b x y = cc (one_as _ (λ l. for_thread q (Retreat l k)) a b x y)
  one_reaction past Stopped (command.Inspect q) a b x y = one_answer past q a b x y
  one_reaction past Faulted (command.Inspect q) a b x y = one_answer past q a b x y
  one_reaction past s asked a b x y = ap (reply_of past) (x ∙ sym y)

  one_reply : (s : Situation) (past : History) (asked : Command) (r t : Reply) → RepliesIn s past asked r
      → RepliesIn s past asked t → r ≡ t
  one_reply s past asked r t x y = grind (arith, common_steps, one_reaction) steps 200000

  one_launch : (arguments : LaunchArguments) (file : Option (List ℕ)) (r s : Reply) → Launches arguments file r
      → Launches arguments file s → r ≡ s
  one_launch arguments None r s a b = a ∙ sym b
  one_launch arguments (Some text) r s (inl a) (inl b) = grind (arith, common_steps, refused) steps 200000
  one_launch arguments (Some text) r s (inl a) (inr b) =
      absurd (∥∥₁_elim b.reads none_prop (λ reads. once.not_both text a.kind a.place b.program a.first reads))
  one_launch arguments (Some text) r s (inr a) (inl b) =
      absurd (∥∥₁_elim a.reads none_prop (λ reads. once.not_both text b.kind b.place a.program b.first reads))
  one_launch arguments (Some text) r s (inr a) (inr b) = grind (arith, common_steps, one_program) steps 200000

  -- ---- items

  abbrev SameCause : Step → Step → Type 0
  SameCause s t = (s.answer ≡ t.answer) × (s.effect ≡ t.effect)

  same_effect : (effect : Effect) (s t : Step) → HasEffect effect s → HasEffect effect t → SameCause s t
  same_effect effect s t a b = (a.answer_is ∙ sym b.answer_is, a.effect_is ∙ sym b.effect_is)

  same_answer : (seq : ℕ) (c : CommandName) (r q : Reply) (s t : Step) → r ≡ q → Answers seq c r s → Answers seq c q t
      → SameCause s t
  same_answer seq c r q s t is a b = (cc (a.answer_is, b.answer_is), cc (a.effect_is, b.effect_is))

  one_cause : (past : History) (item : Item) (s t : Step) → Causes past item s → Causes past item t → SameCause s t
  one_cause past (Content (Some request)) s t a b =
      same_answer _ _ a.0 b.0 s t (one_reply (situation past) past request.body a.0 b.0 a.1 b.1) a.2 b.2
  one_cause past item s t a b = grind (arith, common_steps, same_effect, same_answer, one_launch) steps 200000

  pub one_after : (past : History) (item : Item) (a b : History) → IsAfter past item a → IsAfter past item b → a ≡ b
  one_after past item a b x y = grind (arith, common_steps, one_cause) steps 200000
