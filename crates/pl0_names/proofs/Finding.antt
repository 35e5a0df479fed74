-- The faults that a walk finds, put together.
use Rattle.pl0_names.proofs.Common.{ap, append_assoc, fault_at, faults_among, Finds, List, map, NameFault, Names, refl, sym, Use, use_verdict, use_verdicts, Verdict, ◌++◌, ◌∙◌, ◌≡◌}
use Rattle.std.proofs.lemmas.List.{map-append}
use Rattle.std.proofs.lemmas.List.Elements.{filter_map-append}

-- with those found since, the faults among the verdicts that are left are all
abbrev pub FindsWith : List Verdict → List Verdict → List NameFault → List NameFault → Type 0
FindsWith all left old now = map fault_at now ++ faults_among left ≡ map fault_at old ++ faults_among all

pub found_on : (front rest left all : List Verdict) (old now next : List NameFault) → left ≡ front ++ rest
    → FindsWith all left old now → Finds front now next → FindsWith all rest old next
found_on front rest left all old now next is before found =
    ap (λ fs. fs ++ faults_among rest) found
    ∙ (append_assoc (map fault_at now) (faults_among front) (faults_among rest)
    ∙ (ap (λ fs. map fault_at now ++ fs) (sym (ap faults_among is ∙ filter_map-append _ front rest)) ∙ before))

pub uses_on : (names : Names) (us ws : List Use) (all : List Verdict) (old now next : List NameFault)
    → FindsWith all (use_verdicts names (us ++ ws)) old now → Finds (use_verdicts names us) now next
    → FindsWith all (use_verdicts names ws) old next
uses_on names us ws all old now next before found =
    found_on (use_verdicts names us) (use_verdicts names ws) _ all old now next
    (map-append (use_verdict names) us ws) before found

-- the uses of two parts
pub uses_both : (names : Names) (us ws : List Use) (old now next : List NameFault)
    → Finds (use_verdicts names us) old now → Finds (use_verdicts names ws) now next
    → Finds (use_verdicts names (us ++ ws)) old next
uses_both names us ws old now next first second =
    second ∙ uses_on names us ws (use_verdicts names (us ++ ws)) old old now refl first
