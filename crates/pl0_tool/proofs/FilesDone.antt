-- What was done with files, one after another.
use Rattle.std.proofs.Common.{◌≡◌, ◌≢◌, ◌<◌, ◌≤◌, ◌+◌, ℕ, List, [], ◌∷◌, ◌++◌, Result, Ok, Err, IfOk, refl, sym, ◌∙◌, ap, subst, append_assoc, take, drop, length, get_or, add-one, inl, inr}
use Rattle.std.specs.Prelude.{MatchResult, map}
use Rattle.std.proofs.Math.Seq.{take-suc}
use Rattle.std.proofs.lemmas.List.{take-append-drop, map-append, take_all}
use Rattle.clap.specs.Words.{HasKind, Text, fault_of}
use Rattle.clap.specs.Values.{kind_of}
use Rattle.clap.specs.declared.error.Error.{Error}
use Rattle.clap.specs.declared.error.kind.ErrorKind.TheVariants.{OutOfMemory}
use Rattle.byte_streams.specs.Streams.{Output, Supply}
use Rattle.byte_streams.specs.declared.files.FileFault.{FileFault}
use Rattle.pl0_tool.specs.declared.arguments.Request.{Request}
use Rattle.pl0_tool.specs.declared.arguments.Task.{Task}
use Rattle.pl0_tool.specs.Arguments.{Asks, command_line}
use Rattle.pl0_tool.specs.declared.report.Report.{Report}
use Rattle.pl0_tool.specs.Executing.{AreDone, Adds, Before, GivesUp, Comes, IsToldFor, LacksMemory, Origins, RunsOut, files_of, next}

-- ---- the names of files, one by one

module _ {B : Type 0} (name_of : B → Text) where
  names_and_one : (bs : List B) (i : ℕ) (b : B) → i < length bs → b ≡ get_or bs i b
      → map name_of (take (i + 1) bs) ≡ map name_of (take i bs) ++ (name_of b ∷ [])
  names_and_one bs i b within is =
      ap (λ k. map name_of (take k bs)) (add-one i)
      ∙ ap (λ l. map name_of l) (take-suc bs i b within)
      ∙ map-append name_of (take i bs) (get_or bs i b ∷ [])
      ∙ ap (λ x. map name_of (take i bs) ++ (name_of x ∷ [])) (sym is)

  names_around : (bs : List B) (i : ℕ) (b : B) → i < length bs → b ≡ get_or bs i b
      → map name_of bs ≡ map name_of (take i bs) ++ (name_of b ∷ map name_of (drop (i + 1) bs))
  names_around bs i b within is =
      ap (λ l. map name_of l) (sym (take-append-drop (i + 1) bs))
      ∙ map-append name_of (take (i + 1) bs) (drop (i + 1) bs)
      ∙ ap (λ l. l ++ map name_of (drop (i + 1) bs)) (names_and_one bs i b within is)
      ∙ append_assoc (map name_of (take i bs)) (name_of b ∷ []) (map name_of (drop (i + 1) bs))

  -- ---- what was done

  module _ {Files File : Type 0} (opens : Files → Text → Result File FileFault → Files → Type 0)
      (closes : Files → File → Files → Type 0) (supply_of : File → Supply) (task : Task) (bs : List B) (i : ℕ) (b : B)
      (within : i < length bs) (is : b ≡ get_or bs i b) (old mid : Origins Files) (before out : Output) (first : Report)
      (done : AreDone opens closes supply_of task old before (map name_of (take i bs)) first mid out) where
    -- one more was done
    pub one_more : (sum : Report) (later : Origins Files) (after : Output)
        → Adds opens closes supply_of task (name_of b) first sum mid later out after
        → AreDone opens closes supply_of task old before (map name_of (take (i + 1) bs)) sum later after
    one_more sum later after adds =
        subst (λ l. AreDone opens closes supply_of task old before l sum later after)
        (sym (names_and_one bs i b within is))
        (next (map name_of (take i bs)) (name_of b) first sum mid later out after done adds)

    abbrev those_before : Before opens closes supply_of task (map name_of bs) old before
    those_before = record {
      done = map name_of (take i bs);
      name = name_of b;
      rest = map name_of (drop (i + 1) bs);
      names_are = names_around bs i b within is;
      first = first;
      mid = mid;
      out = out;
      are_done = done;
    }

    -- memory ran out at this one
    pub one_given_up : (later : Origins Files) (after : Output)
        → RunsOut opens closes supply_of task (name_of b) mid later out after
        → GivesUp opens closes supply_of task (map name_of bs) old later before after
    one_given_up later after out_of_memory = (those_before, out_of_memory)

  -- all were done
  pub all_done : {Files File : Type 0} (opens : Files → Text → Result File FileFault → Files → Type 0)
      (closes : Files → File → Files → Type 0) (supply_of : File → Supply) (task : Task) (bs : List B) (i : ℕ)
      (old later : Origins Files) (before after : Output) (report : Report)
      → length bs ≤ i
      → AreDone opens closes supply_of task old before (map name_of (take i bs)) report later after
      → AreDone opens closes supply_of task old before (map name_of bs) report later after
  all_done opens closes supply_of task bs i old later before after report over done =
      subst (λ l. AreDone opens closes supply_of task old before (map name_of l) report later after)
      (take_all i bs over) done

-- ---- the arguments

module _ {E Files File : Type 0} (opens : Files → Text → Result File FileFault → Files → Type 0)
    (closes : Files → File → Files → Type 0) (supply_of : File → Supply) (arguments : List Text) (r : Result Report E)
    (old later : Origins Files) (before after : Output) where
  -- they ask for something
  pub asked_done : (asked : Request) → Asks arguments asked
      → MatchResult r
      (λ report. AreDone opens closes supply_of asked.task old before (files_of asked) report later after)
      (λ e. GivesUp opens closes supply_of asked.task (files_of asked) old later before after)
      → MatchResult r (λ report. Comes opens closes supply_of arguments report old later before after)
      (λ e. LacksMemory opens closes supply_of arguments old later before after)
  asked_done asked asks = of_result r
    where
      of_result : (r : Result Report E)
          → MatchResult r
          (λ report. AreDone opens closes supply_of asked.task old before (files_of asked) report later after)
          (λ e. GivesUp opens closes supply_of asked.task (files_of asked) old later before after)
          → MatchResult r (λ report. Comes opens closes supply_of arguments report old later before after)
          (λ e. LacksMemory opens closes supply_of arguments old later before after)
      of_result (Ok report) answers = inl (asked, asks, answers)
      of_result (Err e) gives_up = inr (asked, asks, gives_up)

-- they ask for nothing, or there was no memory to read them
pub unasked_told : {E Files File : Type 0} (opens : Files → Text → Result File FileFault → Files → Type 0)
    (closes : Files → File → Files → Type 0) (supply_of : File → Supply) (arguments : List Text) (error : Error)
    (r : Result Report E) (at : Origins Files) (out : Output)
    → HasKind (fault_of command_line arguments) error
    → IfOk r (IsToldFor (kind_of error)) → IfOk r (λ report. kind_of error ≢ OutOfMemory)
    → MatchResult r (λ report. Comes opens closes supply_of arguments report at at out out)
    (λ e. LacksMemory opens closes supply_of arguments at at out out)
unasked_told opens closes supply_of arguments error (Ok report) at out (inl lacks) told not = absurd (not lacks)
unasked_told opens closes supply_of arguments error (Ok report) at out (inr among) told not =
    inr ((kind_of error, among, told), refl, refl)
unasked_told opens closes supply_of arguments error (Err e) at out kind told not = inl (refl, refl)
