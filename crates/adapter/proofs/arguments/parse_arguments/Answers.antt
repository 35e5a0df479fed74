use Rattle.std.proofs.Common.{◌≡◌, ◌≢◌, ◌∙◌, refl, ap, sym, subst, ⊎_elim, true, List, [], ◌∷◌, Option, codes}
use Rattle.clap.specs.Words.{App, HasKind, HasMatchesOf, IsAmong, Text, app_of, fault_of, first_of, first_value, found_of, is_simple, is_simple_and_free, kind_of, matches_of}
use Rattle.clap.specs.declared.error.Error.{Error}
use Rattle.clap.specs.declared.error.kind.ErrorKind.{ErrorKind}
use Rattle.clap.specs.declared.error.kind.ErrorKind.TheVariants.{DisplayHelp, OutOfMemory}
use Rattle.clap.specs.declared.parser.matches.ArgMatches.{ArgMatches}
use Rattle.clap.proofs.WalkLemmas.{first_value-rows}
use Rattle.adapter.specs.Arguments.{Reads, command_line, refusals}
use Rattle.adapter.proofs.ArgumentKinds.{of_leaf, only}
use Rattle.adapter.proofs.arguments.parse_arguments.Goals as goal

is_covered : (a : App) → a ≡ command_line → is_simple_and_free a ≡ true
is_covered a is = ap is_simple_and_free is

-- matches of the command line have the value that clap reads
reads : (a : App) (words : List Text) (m : ArgMatches) (file : Option Text) → a ≡ command_line → HasMatchesOf a words m
    → (is_simple_and_free a ≡ true → fault_of a words ≡ []) → file ≡ first_value (found_of m) (codes "check")
    → Reads words file
reads a words m file is has passes found = (
  ap (λ (x : App). fault_of x words) (sym is) ∙ passes (is_covered a is),
  ap (λ (x : App). first_of (codes "check") (matches_of x words)) (sym is)
      ∙ (ap (first_of (codes "check")) (sym (has (ap is_simple is)).0)
      ∙ (sym (first_value-rows (found_of m) (codes "check")) ∙ sym found)),
)

-- an error of the command line, but where memory runs out, is the one refusal of the arguments
refused : (a : App) (words : List Text) (e : Error) → a ≡ command_line
    → (is_simple_and_free a ≡ true → HasKind (fault_of a words) e)
    → kind_of e ≢ OutOfMemory → refusals words ≡ kind_of e ∷ []
refused a words e is fails other = only (kind_of e) (refusals words) (of_leaf command_line words refl refl)
    (⊎_elim (λ memory. absurd (other memory))
    (λ among. subst (λ (x : App). IsAmong (kind_of e) (fault_of x words)) is among) (fails (is_covered a is)))

pub returns-in-Some : goal.returns-in-Some
returns-in-Some c = reads (app_of c.in-Ok.command) _ c.in-Ok-try_get_matches_from.matches _ c.in-Ok.ensures
    c.in-Ok-try_get_matches_from.ensures.matches c.in-Ok-try_get_matches_from.ensures.kinds c.in-Some.ensures

pub returns-in-Ok-try_get_matches_from : goal.returns-in-Ok-try_get_matches_from
returns-in-Ok-try_get_matches_from c =
    reads (app_of c.in-Ok.command) _ c.in-Ok-try_get_matches_from.matches _ c.in-Ok.ensures
    c.in-Ok-try_get_matches_from.ensures.matches c.in-Ok-try_get_matches_from.ensures.kinds c.in-None.ensures

pub returns-in-DisplayHelp : goal.returns-in-DisplayHelp
returns-in-DisplayHelp c = let help : DisplayHelp ≡ kind_of c.in-Err.error = c.in-DisplayHelp.ensures in
    refused (app_of c.in-Ok.command) _ c.in-Err.error c.in-Ok.ensures c.in-Err.ensures.kinds
    (λ memory. let both : DisplayHelp ≡ OutOfMemory = help ∙ memory in cc) ∙ ap (λ (k : ErrorKind). k ∷ []) (sym help)

pub returns : goal.returns
returns c = (
  kind_of c.in-Err.error,
  (λ help. c.in_default-kind.not-DisplayHelp (c.kind.ensures ∙ help)),
  refused (app_of c.in-Ok.command) _ c.in-Err.error c.in-Ok.ensures c.in-Err.ensures.kinds
      (λ memory. c.in_default-kind.not-OutOfMemory (c.kind.ensures ∙ memory)),
)
