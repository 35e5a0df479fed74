-- What the four questions show is what the program is where it stands.
use Rattle.dap_history.proofs.Common.{AnswersFrom, Block, Configuration, Counting, Err, EvalFault, EvaluatesIn, Frame, Fresh, InitializeArguments, IsStopped, Launched, Name, None, Ok, Option, Path, Question, Refusal, RepliesAt, RepliesFrom, RunFault, Scope, Situation, Some, Stopped, StoppedLastAt, Subject, [], ap, arith, at, at_most, eqb-true, frame_by_id, frame_name, if◌then◌else◌, inl, inr, launched, length, less_by, refl, refused_by, refused_thread, result_answer, scopes, scopes_from, settings, shown_frame, shown_frames, situation, slice_get, subject_in, subst, suc, sym, zero, ℕ, ◌+◌, ◌-◌, ◌<◌, ◌∙◌, ◌∷◌, ◌≡◌, ◌≢◌}
use Rattle.std.proofs.Common.{List, Bool, true, Result}
use Rattle.std.specs.Prelude.{nat_eq, ℤ, option_map, option_and_then, drop}
use Rattle.dap_msg.specs.declared.command.Command.TheVariants as command
use Rattle.dap_msg.specs.declared.question.Question.TheVariants as question
use Rattle.dap_msg.specs.declared.question.Shown.{Shown as WhatIsShown}
use Rattle.dap_msg.specs.declared.outgoing.Refusal.TheVariants as refusal
use Rattle.pl0_tree.specs.Tree.{Procedure, procedures, variables as declared}
use Rattle.pl0_tree.specs.Scope.{block_at, procedure_at}
use Rattle.pl0_tree.specs.Blocks.{name_of_block}
use Rattle.pl0_meaning.specs.Values.{frame_at}
use Rattle.pl0_meaning.specs.Frames.{IsFrameOf, IsLinkedTo, AreLinked}
use Rattle.pl0_meaning.specs.Laws.{FramesAreLinked, FramesFit}
use Rattle.dbg_plan.specs.Values.{answered as evaluated}
use Rattle.dap_history.specs.Frames.{named, names_of}
use Rattle.dap_history.specs.Inspection.{variables}
use Rattle.dap_history.specs.Shown.{HasId, HasNone, IsBlockName, ShowsFrame, ShowsFrames, page, ShowsScopes, ShowsVariables, ShowsLocals, GivesValue, ShowsValue, OfFrame, Shows, AnswersShowTheProgram}
use Rattle.dap_history.proofs.Along.{any_events, along}
use Rattle.dap_history.proofs.Each.{WasTaken, EachTaken, each_kept, each_first}
use Rattle.dap_history.proofs.Standing.{questions_answered}
use Rattle.dap_history.proofs.LineAnswers.{Any, IsCounted, counted_kept, offset_is, counts_so}
use Rattle.dap_msg.specs.declared.question.Shown.TheVariants as shown_as
use Rattle.std.proofs.lemmas.Grind.{common_steps}

-- ---- frames

-- a procedure of the program has a name
has_name : (main : Block) (k : ℕ) (q : Path) (b : Block) → block_at main (k ∷ q) ≡ Some b
    → (x : Name) × (name_of_block main (k ∷ q) ≡ Some x)
has_name main k q b found = by_around (block_at main q) refl found
  where
    by_around : (o : Option Block) → block_at main q ≡ o → option_and_then (procedure_at k) o ≡ Some b
        → (x : Name) × (name_of_block main (k ∷ q) ≡ Some x)
    by_around None none found = absurd cc
    by_around (Some around) is found = by_procedure (slice_get (procedures around) k) refl found
      where
        by_procedure : (p : Option Procedure) → slice_get (procedures around) k ≡ p
            → option_map (λ (p : Procedure). p.block) p ≡ Some b
            → (x : Name) × (name_of_block main (k ∷ q) ≡ Some x)
        by_procedure None none found = absurd cc
        by_procedure (Some p) there found = (p.name, cc)

named_so : (main : Block) (q : Path) (b : Block) → block_at main q ≡ Some b → IsBlockName main q (frame_name main q)
named_so main q b found = grind (arith, common_steps, has_name) steps 200000

-- how a client counts, by what it said
abbrev counting_of : InitializeArguments → Counting
counting_of asked =
    record { lines = less_by asked.lines_start_at_1; columns = less_by asked.columns_start_at_1 }

module _ (main : Block) (asked : InitializeArguments) where
  frame_so : (f : Frame) (id : ℕ) → IsFrameOf main f
      → ShowsFrame main asked f id (shown_frame main (counting_of asked) f id)
  frame_so f id fits =
      record { id_is = refl; name_is = named_so main _ _ fits.found; line_is = λ s is. cc; column_is = λ s is. cc }

  frames_so : (c : Configuration) → AreLinked main c
      → ShowsFrames main asked c (shown_frames main (counting_of asked) c)
  frames_so [] linked = tt
  frames_so (f ∷ below) linked = (frame_so f (length below + 1) linked.0, frames_so below linked.2)

page_is : {A : Type 0} (start levels : ℕ) (xs : List A) → at_most levels (drop start xs) ≡ page start levels xs
page_is start levels xs = grind (arith, common_steps) steps 200000

-- ---- the frame with an id

id_so : (c : Configuration) (id : ℕ) (f : Frame) → frame_by_id c id ≡ Some f → HasId c id f
id_so c id f is = grind (arith, common_steps) steps 200000

none_so : (c : Configuration) (id : ℕ) → frame_by_id c id ≡ None → HasNone c id
none_so c id none f has = grind (arith, common_steps) steps 200000

of_frame : (c : Configuration) (id : ℕ) (why : Refusal) (result : Result WhatIsShown Refusal) (says : Frame → Type 0)
    (o : Option Frame) → frame_by_id c id ≡ o → (o ≡ None → result ≡ Err why)
    → ((f : Frame) → o ≡ Some f → HasId c id f → says f) → OfFrame c id why result says
of_frame c id why result says None is refused_ shown = inr (none_so c id is, refused_ refl)
of_frame c id why result says (Some f) is refused_ shown =
    let has = id_so c id f is in inl (f, has, shown f refl has)

-- ---- scopes

test_so : (a b : ℕ) → nat_eq a b ≡ true → a ≡ b
test_so a b is = eqb-true a b is

-- the number of a frame is less than how many there are
within_by : (g : Frame) (below : Configuration) (i : ℕ) (f : Frame)
    → (frame_at below i ≡ Some f → i < length below) → (b : Bool) → nat_eq (length below) i ≡ b
    → (if b then Some g else frame_at below i) ≡ Some f → i < length (g ∷ below)
within_by g below i f lower b same is = grind (arith, common_steps, test_so) steps 200000

frame_within : (c : Configuration) (i : ℕ) (f : Frame) → frame_at c i ≡ Some f → i < length c
frame_within [] i f is = absurd cc
frame_within (g ∷ below) i f is =
    within_by g below i f (frame_within below i f) (nat_eq (length below) i) refl is

-- a lower frame is a frame of the whole
frame_above : (g : Frame) (below : Configuration) (i : ℕ) (f : Frame) → frame_at below i ≡ Some f
    → frame_at (g ∷ below) i ≡ Some f
frame_above g below i f is = grind (arith, common_steps, test_so, frame_within) steps 200000

-- a frame's scope in front of those of the frame that its link names
linked_scopes : (main : Block) (whole : Configuration) (f g : Frame) (id : ℕ) (word : List ℕ) (more : List Scope)
    → IsBlockName main f.block word → f.block ≢ [] → HasId whole (f.link + 1) g
    → ShowsScopes main whole g (f.link + 1) more
    → ShowsScopes main whole f id (record { name = word; reference = id } ∷ more)
linked_scopes main whole f g id word more named_ inner has shown = grind (arith, common_steps) steps 200000

has_next : (c : Configuration) (i : ℕ) (f : Frame) → frame_at c i ≡ Some f → HasId c (i + 1) f
has_next c i f is = let e : suc i ≡ i + 1 = omega arith in subst (λ n. HasId c n f) e is

module _ (main : Block) (whole : Configuration) where
  -- the scopes of frame i, where those of the frames below are so
  module _ (g : Frame) (below : Configuration)
      (lower : (j : ℕ) (h : Frame) → frame_at below j ≡ Some h → frame_at whole j ≡ Some h)
      (deeper : (j : ℕ) (h : Frame) → frame_at below j ≡ Some h
      → ShowsScopes main whole h (j + 1) (scopes_from main below j)) (i : ℕ) where
    abbrev own : List Scope
    own = record { name = frame_name main g.block; reference = i + 1 } ∷ scopes_from main below g.link

    by_block : (q : Path) → g.block ≡ q → IsFrameOf main g → IsLinkedTo q g.link below
        → ShowsScopes main whole g (i + 1) own
    by_block [] block_is fits links = rw links (named_so main g.block fits.block fits.found, refl, block_is)
    by_block (k ∷ q) block_is fits links =
        linked_scopes main whole g _ _ _ _ (named_so main _ _ fits.found) (λ is.
        let e = sym block_is ∙ is in
        absurd cc) (has_next whole _ _ (lower g.link links.0 links.1)) (deeper g.link links.0 links.1)

    by_test : IsFrameOf main g → IsLinkedTo g.block g.link below → (f : Frame) (b : Bool)
        → (if b then Some g else frame_at below i) ≡ Some f
        → ShowsScopes main whole f (i + 1) (if b then own else scopes_from main below i)
    by_test fits links f b is = grind (arith, common_steps, by_block) steps 200000

  scopes_so : (c : Configuration) → AreLinked main c
      → ((j : ℕ) (g : Frame) → frame_at c j ≡ Some g → frame_at whole j ≡ Some g)
      → (i : ℕ) (f : Frame) → frame_at c i ≡ Some f → ShowsScopes main whole f (i + 1) (scopes_from main c i)
  scopes_so [] linked within i f is = absurd cc
  scopes_so (g ∷ below) linked within i f is =
      by_test g below (λ j h there. within j h (frame_above g below j h there))
      (scopes_so below linked.2 (λ j h there. within j h (frame_above g below j h there))) i linked.0 linked.1 f
      (nat_eq (length below) i) is

-- ---- variables

numbers_so : (xs : List Name) (numbers : List ℤ) → length numbers ≡ length xs
    → ShowsVariables xs numbers (named xs numbers)
numbers_so (x ∷ xs) (v ∷ numbers) same = (refl, refl, numbers_so xs numbers (omega (arith, same)))
numbers_so xs numbers same = grind (arith, common_steps) steps 200000

-- ---- `evaluate`

value_so : (r : Result ℤ EvalFault) (v : Result ℤ RunFault) (reply : Result WhatIsShown Refusal)
    → v ≡ evaluated r → reply ≡ result_answer r → GivesValue v reply
value_so (Ok n) v reply same is = subst (λ x. GivesValue x reply) (sym same) is
value_so r v reply same is = grind (arith, common_steps) steps 200000

evaluates_so : (main : Block) (c : Configuration) (id : ℕ) (f : Frame) (text : List ℕ)
    (reply : Result WhatIsShown Refusal) → EvaluatesIn main c id (Some f) text reply → ShowsValue main c id f text reply
evaluates_so main c id f text reply is = grind (arith, common_steps, value_so) steps 200000

-- ---- questions

-- what the thread allows
on_one : (thread : ℕ) (reply other : Result WhatIsShown Refusal) → refused_thread (Some thread) ≡ None
    → reply ≡ (if nat_eq thread 1 then other else Err refusal.UnknownThread) → reply ≡ other
on_one thread reply other allowed is = grind (arith, common_steps) steps 200000

module _ (linked : FramesAreLinked) (fit : FramesFit) (l : Launched) (n : ℕ) (c : Configuration)
    (there : at l.program n ≡ Some c) (counting : InitializeArguments) where
  abbrev of : Subject
  of = record { program = l.program; path = l.path; counting = counting_of counting }

  locals_so : (id : ℕ) (f : Frame) (reply : Result WhatIsShown Refusal) → HasId c id f → reply ≡ variables of (Some f)
      → ShowsLocals l.program f reply
  locals_so zero f reply has is = absurd has
  locals_so (suc i) f reply has is =
      let fits = fit l.program n i c f there has in record {
        block = fits.block;
        block_is = fits.found;
        all = named (declared fits.block) f.numbers;
        shown = numbers_so (declared fits.block) f.numbers fits.count;
        result_is = is
            ∙ ap (λ b. Ok (shown_as.Variables (named (names_of b) f.numbers))) fits.found;
      }

  chain_so : (id : ℕ) (f : Frame) → HasId c id f → ShowsScopes l.program c f id (scopes_from l.program c (id - 1))
  chain_so id f has = grind (arith, common_steps, scopes_so) steps 200000

  shows_so : (q : Question) (reply : Result WhatIsShown Refusal) → refused_by Stopped (command.Inspect q) ≡ None
      → RepliesFrom of c q reply → Shows l counting c q reply
  shows_so (question.Scopes a) reply allowed is =
      of_frame c a.frame_id refusal.UnknownFrame reply _ (frame_by_id c a.frame_id) refl
      (λ none. is ∙ ap (scopes of a.frame_id c) none)
      (λ f some has. (
        scopes_from l.program c (a.frame_id - 1),
        chain_so a.frame_id f has,
        is ∙ ap (scopes of a.frame_id c) some,
      ))
  shows_so (question.Variables a) reply allowed is =
      of_frame c a.variables_reference refusal.UnknownReference reply _ _ refl (λ none. is ∙ ap (variables of) none) (λ
      f some has. locals_so a.variables_reference f reply has (is ∙ ap (variables of) some))
  shows_so q reply allowed is =
      grind (arith, common_steps, frames_so, on_one, page_is, of_frame, evaluates_so) steps 200000

-- ---- the law

-- a question that isn't refused is asked where the program stands, and only its thread might refuse it
allowed_standing : (s : Situation) (q : Question) → refused_by s (command.Inspect q) ≡ None
    → IsStopped s × (refused_by Stopped (command.Inspect q) ≡ None)
allowed_standing s q allowed = grind (arith, common_steps) steps 200000

not_fresh : (s : Situation) → IsStopped s → ¬ (s ≡ Fresh)
not_fresh s stands is = grind (arith, common_steps) steps 200000

-- the configuration of which a reply is
record HasShown (l : Launched) (m : ℕ) (counting : InitializeArguments) (q : Question)
    (reply : Result WhatIsShown Refusal) : Type 0 where
  c : Configuration
  there : at l.program m ≡ Some c
  shows : Shows l counting c q reply

abbrev asking : Launched → Counting → Subject
asking l counting = record { program = l.program; path = l.path; counting = counting }

pub answers_show : FramesAreLinked → FramesFit → AnswersShowTheProgram
answers_show linked fit f events past rest history before request q step asks allowed = (
  from.0,
  from.1,
  has.c,
  settings before,
  from.4.result,
  from.2,
  from.3,
  has.there,
  counts_so before (not_fresh (situation before) standing.0) was.held,
  from.4.answer_is,
  has.shows,
)
  where
    was : WasTaken Any IsCounted before step
    was = (along Any (EachTaken Any IsCounted) (each_kept Any IsCounted counted_kept)
        (each_first Any IsCounted (inl refl)) f events past rest (any_events events) history).each before step
        asks.after
        asks.past_is

    standing : IsStopped (situation before) × (refused_by Stopped (command.Inspect q) ≡ None)
    standing = grind (arith, common_steps, allowed_standing) steps 200000

    from : (l : Launched) × (m : ℕ) × (launched before ≡ Some l) × StoppedLastAt before m
        × AnswersFrom l before m request q step
    from = (questions_answered f events past rest history before request q step asks).0 standing.0

    counting_is : (subject_in before from.0).counting ≡ counting_of (settings before)
    counting_is = cc (offset_is (settings before).lines_start_at_1, offset_is (settings before).columns_start_at_1)

    by_place : (o : Option Configuration) → at from.0.program from.1 ≡ o
        → RepliesAt (subject_in before from.0) o q from.4.result
        → HasShown from.0 from.1 (settings before) q from.4.result
    by_place None none replies = absurd replies
    by_place (Some c) there replies = record {
      c = c;
      there = there;
      shows = shows_so linked fit from.0 from.1 c there (settings before) q from.4.result standing.1
          (subst (λ (k : Counting). RepliesFrom (asking from.0 k) c q from.4.result) counting_is replies);
    }

    has : HasShown from.0 from.1 (settings before) q from.4.result
    has = by_place (at from.0.program from.1) refl from.4.shown
