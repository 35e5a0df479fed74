-- How far a run that goes back has come.
use Rattle.dbg_runner.proofs.Common.{[], add-one, ap, arith, arrival, Block, Bool, Breakpoint, cases_lt, Debugged, due, due_now, eqb-false, false, filter, floor_of, goal_of, goes_back, gone_back, greatest, if◌then◌else◌, in_all, is_some, IsConsidered, IsOn, last_due, leads_to, leb-true, List, min, min-le_left, min-le_right, Mode, moved, nat_le, None, Option, debugged_program, RanAgain, Reason, refl, Returns, reversed, Searches, slice_limit, Some, standing, steps_again, steps_to, Stop, stop_at, subst, suc, sym, true, zero, ℕ, ◌+◌, ◌-◌, ◌<◌, ◌∙◌, ◌∷◌, ◌≡◌, ◌≢◌, ◌≤◌}
use Rattle.dbg_plan.specs.declared.mode.Mode.TheVariants as mode
use Rattle.std.proofs.lemmas.Grind.{common_steps}

-- ---- checkpoints

kept_below : (b : Bool) (n k : ℕ) (ks : List ℕ) → nat_le k n ≡ b → greatest ks ≤ n
    → greatest (if b then k ∷ ks else ks) ≤ n
kept_below true n k ks is below = omega (arith, leb-true k n is, below)
kept_below false n k ks is below = below

-- the checkpoint that is gone back to is not after the position
pub floor_below : (kept : List ℕ) (n : ℕ) → floor_of kept n ≤ n
floor_below [] n = omega arith
floor_below (k ∷ ks) n = kept_below (nat_le k n) n k (filter (λ k. nat_le k n) ks) refl (floor_below ks n)

-- ---- where it stops

found_before : (b : Bool) (n : ℕ) (before : Option ℕ) → (stop_at before).position ≤ n
    → (stop_at (if b then Some n else before)).position ≤ n
found_before true n before below = omega arith
found_before false n before below = below

-- the last due position before n + 1, or 0, is at most n
due_within : (main : Block) (bs : List Breakpoint) (n : ℕ) → (stop_at (last_due main bs (suc n))).position ≤ n
due_within main bs zero = found_before (is_some (due main bs 0 mode.Continue zero)) zero None (omega arith)
due_within main bs (suc n) = grind (arith, common_steps, found_before, is_some, due_within main bs n)

last_due_within : (main : Block) (bs : List Breakpoint) (n : ℕ) → (stop_at (last_due main bs (n + 1))).position ≤ n
last_due_within main bs n = rw add-one (due_within main bs n)

-- going back leads to the last due position, but for a single step
pub reverses : (main : Block) (bs : List Breakpoint) (m : Mode) (n : ℕ) → m ≢ mode.StepBack → goes_back m ≡ true
    → goal_of main bs m n ≡ Some (reversed main bs n)
reverses main bs mode.StepBack n other back = absurd (other refl)
reverses main bs mode.Reverse n other back = refl
reverses main bs _ n other back = absurd cc

-- to go back there all positions below are run through, but for a single step
pub runs_through : (kept : List ℕ) (m : Mode) (n to : ℕ) → m ≢ mode.StepBack → goes_back m ≡ true
    → steps_again kept m n to ≡ steps_again kept mode.Reverse n to
runs_through kept mode.StepBack n to other back = absurd (other refl)
runs_through kept mode.Reverse n to other back = refl
runs_through kept _ n to other back = absurd cc

-- ---- it begins

-- gone back towards where it stops, it has to take the steps from the checkpoint
pub from_checkpoint : (old new : Debugged) (to : ℕ) → new ≡ gone_back old to
    → to - new.position ≡ steps_to new.trail.kept to
from_checkpoint old new to gone = subst (λ (d : Debugged). to - d.position ≡ steps_to d.trail.kept to) (sym gone) refl

-- gone back towards where it stops
pub on_return : (n : ℕ) (old new : Debugged) (to : ℕ) (why : Reason) (again : ℕ) → new ≡ gone_back old to → to ≤ n
    → again ≤ n → IsOn n new again (Returns to why)
on_return n old new to why again gone within few = grind (arith, common_steps, floor_below)

floor_of_0 : (kept : List ℕ) → floor_of kept 0 ≡ 0
floor_of_0 kept = let below = floor_below kept 0 in omega arith

at_start : (old new : Debugged) → new ≡ gone_back old 0 → new ≡ moved old 0 0
at_start old new gone = gone ∙ ap (λ p. moved old p p) (floor_of_0 old.trail.kept)

-- gone back to 0
pub on_search : (n : ℕ) (old new : Debugged) (found : Option ℕ) → 0 < n → new ≡ gone_back old 0
    → found ≡ (if is_some (due_now new mode.Continue) then Some 0 else None) → IsOn n new 0 (Searches found)
on_search n old new found some gone is =
    let start = at_start old new gone in
    grind (arith, common_steps, some, is_some)

-- a search leads where going back leads, but for a single step
pub search_leads : (m : Mode) (n : ℕ) (old new : Debugged) (found : Option ℕ) → m ≢ mode.StepBack → goes_back m ≡ true
    → new ≡ gone_back old 0 → goal_of (debugged_program old) old.breakpoints m n ≡ Some
    (leads_to n new (Searches found))
search_leads m n old new found other back gone = cc (reverses _ old.breakpoints m n other back, at_start old new gone)

-- ---- it goes on

-- towards where it stops
pub goes_on_returning : (n again : ℕ) (old : Debugged) (to : ℕ) (why : Reason) (most steps : ℕ) (new : Debugged)
    → IsOn n old again (Returns to why)
    → steps ≡ min most (to - old.position) → new ≡ standing old (old.position + steps)
    → IsOn n new (again + steps) (Returns to why)
goes_on_returning n again old to why most steps new on is gone = grind (arith, common_steps)

-- where that leads it has taken as many steps
pub as_many_on : (n again : ℕ) (old : Debugged) (to : ℕ) (why : Reason) (most steps : ℕ) (new : Debugged)
    → old.position ≤ to → steps ≡ min most (to - old.position) → new ≡ standing old (old.position + steps)
    → in_all n new (again + steps) (Returns to why) ≡ in_all n old again (Returns to why)
as_many_on n again old to why most steps new before is gone = grind (arith, common_steps)

arrives : (to position : ℕ) (why : Reason) → arrival (Returns to why) position ≡ None → to ≢ position
arrives to position why = grind (arith, common_steps, eqb-false)

-- where it hasn't come there, it took all steps
pub took_all : (to : ℕ) (why : Reason) (most steps : ℕ) (old new : Debugged) → old.position ≤ to
    → steps ≡ min most (to - old.position) → new ≡ standing old (old.position + steps)
    → arrival (Returns to why) new.position ≡ None → steps ≡ most
took_all to why most steps old new before is gone none = grind (arith, common_steps, arrives, cases_lt)

moved_on : (old new : Debugged) (p t : ℕ) → new ≡ moved old p t → new ≡ moved old new.position new.counted_from
moved_on old new p t is = is ∙ ap (λ (d : Debugged). moved old d.position d.counted_from) (sym is)

-- ---- a search

-- it ends, and the run turns to where it stops
module _ (n again : ℕ) (old : Debugged) (found more : Option ℕ) (limit : ℕ) (on : IsOn n old again (Searches found))
    (is : limit ≡ min (n - 1) (again + slice_limit)) (ge : n - 1 ≤ limit) (there : Debugged)
    (gone : there ≡ standing old limit) (more_is : more ≡ last_due (debugged_program there) there.breakpoints
    (limit + 1)) (to : ℕ) (why : Reason) (leads : record { position = to; reason = why } ≡ stop_at more) where
  ended : limit ≡ n - 1
  ended = let least = min-le_left (n - 1) (again + slice_limit) in omega (arith, is, ge, least)

  some : 0 < n
  some = let before = on.1 in omega arith

  stop_is : record { position = to; reason = why } ≡ reversed (debugged_program old) old.breakpoints n
  stop_is = grind (arith, common_steps, ended, some)

  pub within_turn : to ≤ there.position
  within_turn = grind (arith, common_steps, last_due_within, Stop)

  module _ (back : Debugged) (turned : back ≡ gone_back there to) (steps : ℕ)
      (steps_is : steps ≡ min (again + slice_limit - limit) (to - back.position)) (new : Debugged)
      (went : new ≡ standing back (back.position + steps)) (considered : IsConsidered new) where
    from_old : back ≡ gone_back old to
    from_old = turned ∙ ap (λ (d : Debugged). gone_back d to) gone

    searched : in_all n back limit (Returns to why) ≡ in_all n old again (Searches found)
    searched = grind (arith, common_steps, from_checkpoint, from_old, Stop, stop_is, ended)

    pub turns : RanAgain n again old (Searches found) (limit + steps) new (Returns to why)
    turns =
        let place : there.position ≡ limit = ap (λ (d : Debugged). d.position) gone in
        let far = within_turn in
        let most = min-le_right (n - 1) (again + slice_limit) in
        let start = on.2 in
        let before = on.1 in
        let returning : IsOn n back limit (Returns to why) =
        on_return n old back to why limit from_old (omega (arith, ended)) (omega (arith, ended)) in
        let least = min-le_left (again + slice_limit - limit) (to - back.position) in
        record {
          on = goes_on_returning n limit back to why (again + slice_limit - limit) steps new returning steps_is went;
          leads = stop_is;
          as_many = as_many_on n limit back to why (again + slice_limit - limit) steps new returning.0 steps_is went
              ∙ searched;
          kept = moved_on old new (back.position + steps) back.counted_from
              (went ∙ ap (λ (d : Debugged). moved d (back.position + steps) back.counted_from) from_old);
          considered = considered;
          further = omega (arith, ended);
          within = omega (arith, is, most, steps_is, least);
          all = λ none. let all =
              took_all to why (again + slice_limit - limit) steps back new returning.0 steps_is went none in omega
              (arith, all, is, most);
        }

-- ---- on the way to where it stops
