-- Lines written one after another.
use Rattle.std.proofs.Common.{◌≡◌, ℕ, ◌+◌, ◌<◌, ◌≤◌, List, [], ◌∷◌, ◌++◌, drop, get_or, length, slice_get, Option, refl, sym, ap, ◌∙◌, append_assoc, append-nil}
use Rattle.std.proofs.Math.Logic.{∥∥₁_elim}
use Rattle.std.specs.Coded.{codes}
use Rattle.std.proofs.lemmas.List.{drop_all, drop_more}
use Rattle.pl0_tree.specs.declared.step.Step.{Step}
use Rattle.pl0_tree.specs.Tree.{Block}
use Rattle.pl0_tree.specs.Steps.{StepAt, AreSteps, steps}
use Rattle.pl0_unit.specs.declared.instruction.Instruction.{Instruction}
use Rattle.pl0_unit.specs.Code.{IsUnitOf}
use Rattle.adapter.specs.Listing.{lines_from, step_line, instruction_line, begun_by, line_feed, listing_text}

-- what was written and the lines of the items that are left are the whole text
pub lines_next : {A : Type 0} (line : ℕ → A → List ℕ) (xs : List A) (n : ℕ) (d : A) (old new whole : List ℕ)
    → n < length xs
    → new ≡ old ++ line n (get_or xs n d) → old ++ lines_from line n (drop n xs) ≡ whole → new
    ++ lines_from line (n + 1) (drop (n + 1) xs) ≡ whole
lines_next line xs n d old new whole inside wrote before =
    ap (λ t. t ++ lines_from line (n + 1) (drop (n + 1) xs)) wrote
    ∙ append_assoc old (line n (get_or xs n d)) (lines_from line (n + 1) (drop (n + 1) xs))
    ∙ ap (λ l. old ++ lines_from line n l) (sym (drop_more xs n d inside))
    ∙ before

pub lines_end : {A : Type 0} (line : ℕ → A → List ℕ) (xs : List A) (n : ℕ) (old whole : List ℕ) → length xs ≤ n
    → old ++ lines_from line n (drop n xs) ≡ whole → old ≡ whole
lines_end line xs n old whole past before =
    sym (append-nil old) ∙ ap (λ l. old ++ lines_from line n l) (sym (drop_all n xs past)) ∙ before

-- the steps as the code keeps them have the lines of the steps
same_lines : (main : Block) (n : ℕ) (ss : List Step) (ts : List StepAt) → AreSteps main ss ts
    → lines_from (λ n s. step_line n s.kind s.place) n ss ≡ lines_from (λ n s. step_line n s.kind s.place) n ts
same_lines main n [] [] are = refl
same_lines main n [] (t ∷ ts) are = absurd are
same_lines main n (s ∷ ss) [] are = absurd are
same_lines main n (s ∷ ss) (t ∷ ts) are =
    ap (λ k. step_line n k s.place ++ lines_from (λ n s. step_line n s.kind s.place) (n + 1) ss) are.0.kind
    ∙ ap (λ p. step_line n t.kind p ++ lines_from (λ n s. step_line n s.kind s.place) (n + 1) ss) are.0.place
    ∙ ap (λ l. step_line n t.kind t.place ++ l) (same_lines main (n + 1) ss ts are.1)

-- a listing is written in three parts
pub listing_whole : (main : Block) (code : List Instruction) (begun kept : List (Option ℕ)) (table : List Step)
    (start listed parted whole : List ℕ)
    → ∥ IsUnitOf main code begun table ∥₁ → start ≡ []
    → listed ≡ start ++ lines_from (λ n s. step_line n s.kind s.place) 0 table → parted ≡ listed ++ line_feed
    → whole ≡ parted ++ lines_from (λ n i. instruction_line n i (begun_by (slice_get kept n))) 0 code → kept ≡ begun
    → whole ≡ listing_text (steps main) code begun
listing_whole main code begun kept table start listed parted whole unit empty first second third same_begun =
    third
    ∙ ap (λ b. parted ++ lines_from (λ n i. instruction_line n i (begun_by (slice_get b n))) 0 code) same_begun
    ∙ ap (λ l. l ++ rest) (second ∙ ap (λ l. l ++ line_feed)
    (first ∙ ap (λ l. l ++ lines_from (λ n s. step_line n s.kind s.place) 0 table) empty ∙ same))
    ∙ append_assoc (lines_from (λ n s. step_line n s.kind s.place) 0 (steps main)) line_feed rest
  where
    rest : List ℕ
    rest = lines_from (λ n i. instruction_line n i (begun_by (slice_get begun n))) 0 code

    same : lines_from (λ n s. step_line n s.kind s.place) 0 table ≡ lines_from (λ n s. step_line n s.kind s.place) 0
        (steps main)
    same = ∥∥₁_elim unit set (λ u. same_lines main 0 table (steps main) u.steps)
      where
        set : IsProp (lines_from (λ n s. step_line n s.kind s.place) 0 table ≡ lines_from
            (λ n s. step_line n s.kind s.place) 0 (steps main))
        set = hlevel codes
