use Rattle.std.proofs.Common.{◌≡◌, ◌∙◌, ◌∷◌, [], ◌++◌, ◌-◌, ◌≤◌, ℤ, pos, List, Some, ap, length, slice_set, slice_index_or, arith, to_z, of_z, w64}
use Rattle.std.specs.Prelude.{reverse}
use Rattle.std.specs.Option.{option_to_list}
use Rattle.std.proofs.lemmas.Int.{to_z-of_z}
use Rattle.stack_language.specs.Language.{PlainState, plain_state}
use Rattle.stack_language.proofs.Tops.{one_made}
use Rattle.stack_language.proofs.state.State.make_one.Goals as goal

abbrev with_numbers : PlainState → List ℤ → PlainState
with_numbers s numbers = record s { numbers = numbers }

pub returns-in-Some-clause-state : goal.returns-in-Some-clause-state
returns-in-Some-clause-state c =
    let old = c.args.self.now.numbers in
    let new = c.pop.new.self in
    let top = slice_index_or old.items (old.len - 1) (pos 0) in
    let long : 2 ≤ length old.items = c.requires in
    let some : c.pop.result ≡ Some top = c.pop.ensures.value (pos 0) (omega (arith, old.ok.0, long)) in
    let parted : old.items ≡ new.items ++ top ∷ []
    = c.pop.ensures.items ∙ ap (λ r. new.items ++ option_to_list r) some in
    ap (with_numbers (plain_state c.args.self.now))
    (ap (λ n. reverse (slice_set new.items (n - 1) (to_z w64 (of_z w64 c.args.number)))) new.ok.0
    ∙ ap (λ y. reverse (slice_set new.items (length new.items - 1) y))
    (to_z-of_z w64 c.args.number c.ranges.number)
    ∙ one_made old.items new.items top c.args.number long parted)
