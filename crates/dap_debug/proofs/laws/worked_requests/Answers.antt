use Rattle.std.proofs.Common.{◌≢◌, refl, ap, get_or, inl, inr, [], ◌∷◌, codes, arith}
use Rattle.std.specs.Prelude.{None, Some}
use Rattle.std.specs.Fmt.{digits}
use Rattle.std.proofs.lemmas.List.Elements.{All-cons, All-nil}
use Rattle.serde_json.specs.Data.{member, no_members, number, object, unsigned}
use Rattle.dap_bodies.specs.Bodies.{SetAt}
use Rattle.debuggee.specs.Plain.{Text, Expression}
use Rattle.dap_debug.specs.Breakpoints.{Lacks, AreParts, IsBreakpoint}
use Rattle.dap_debug.specs.Breakpoints.SetsIn.{Own}
use Rattle.dap_debug.specs.WorkedRequests.{breakpoint, placed}
use Rattle.dap_debug.proofs.Texts.{not_nil}
use Rattle.dap_debug.proofs.laws.worked_requests.Goals as goal

pub returns-clause-frames : goal.returns-clause-frames
returns-clause-frames c = (refl, refl, refl, refl, refl)

pub returns-clause-expressions : goal.returns-clause-expressions
unfolding digits
returns-clause-expressions c = (refl, refl)

pub returns-clause-program : goal.returns-clause-program
returns-clause-program c =
    record { reply_is = refl; path_is = refl; phase_is = refl; no_fault = refl; none_set = refl }

pub returns-clause-breakpoint : goal.returns-clause-breakpoint
unfolding digits
returns-clause-breakpoint c =
    Own refl (SetAt 4 ∷ []) (Some placed, [], refl, (Some _, refl, (refl, set)), refl) refl
  where
    before : Lacks 123 (codes "n")
    before = All-cons (λ b. b ≢ 123) 110 [] (λ is. absurd (omega (arith, is))) (All-nil (λ b. b ≢ 123))

    inner : Lacks 125 (codes "k")
    inner = All-cons (λ b. b ≢ 125) 107 [] (λ is. absurd (omega (arith, is))) (All-nil (λ b. b ≢ 125))

    parts : AreParts (codes "n{k}") (Text (codes "n") ∷ (Expression (codes "k") ∷ (Text [] ∷ (Text (codes "\n") ∷ []))))
    parts = ([], (refl, before, inner), (refl, refl, inl (All-nil (λ b. b ≢ 123))))

    set : IsBreakpoint breakpoint 7 placed
    set = record {
      place_is = refl;
      condition = refl;
      rule = (refl, (omega arith, omega arith));
      message = (not_nil 110 (123 ∷ 107 ∷ 125 ∷ []), parts);
      short = omega arith;
      none_yet = refl;
    }

pub returns-clause-line : goal.returns-clause-line
returns-clause-line c = (None, refl, (codes "no", refl))

pub returns-clause-counted : goal.returns-clause-counted
returns-clause-counted c = (refl, (Some _, refl, (refl, set)), refl)
  where
    set :
        IsBreakpoint (object (member (codes "line") (number (unsigned 2)) no_members)) 7
        (record { place = 7; condition = None; rule = None; arrivals = 0; message = None })
    set = record {
      place_is = refl;
      condition = refl;
      rule = refl;
      message = refl;
      short = omega arith;
      none_yet = refl;
    }

pub returns-clause-mistake : goal.returns-clause-mistake
returns-clause-mistake c = (Some _, refl, (codes "no j", refl, inr (inr (other, refl))))
  where
    other : codes "j" ≢ codes "k"
    other is = absurd (omega (arith, ap (λ t. get_or t 0 0) is))

pub returns-clause-pages : goal.returns-clause-pages
returns-clause-pages c = (refl, refl, refl)

pub returns-clause-checked : goal.returns-clause-checked
returns-clause-checked c = (refl, refl, refl, refl)
