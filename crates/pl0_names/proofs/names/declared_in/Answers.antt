use Rattle.pl0_names.proofs.Common.{ap, bytes_eq, meaning_of, None, option_map, out-Block, out-Procedure, position, refl, string_bytes, sym, ◌∙◌, ◌≡◌}
use Rattle.pl0_names.proofs.Declared.{found_as, block_means}
use Rattle.pl0_names.proofs.names.declared_in.Goals as goal
use Rattle.pl0_names.proofs.names.declared_in.Goals.{After-constant_in, After-variable_in, After-procedure_in}
use Rattle.std.proofs.Common.{arith}
use Rattle.std.proofs.lemmas.Grind.{common_steps}

constant_is : (c : After-constant_in) → c.constant_in.result ≡ position
    (λ k. bytes_eq (string_bytes k.name.text) c.args.word.now) (out-Block c.args.block.now).constants.items
constant_is c = grind (arith, common_steps, position, bytes_eq)

variable_is : (c : After-variable_in) → c.variable_in.result ≡ position
    (λ x. bytes_eq (string_bytes x.text) c.args.word.now) (out-Block c.args.block.now).variables.items
variable_is c = grind (arith, common_steps, position, bytes_eq)

procedure_is : (c : After-procedure_in) → c.procedure_in.result ≡ position
    (λ p. bytes_eq (string_bytes (out-Procedure p).name.text) c.args.word.now)
    (out-Block c.args.block.now).procedures.items
procedure_is c = grind (arith, common_steps, position, bytes_eq)

pub returns-in-Some : goal.returns-in-Some
returns-in-Some c =
    let w = c.args.word.now in
    let b = c.args.block.now in
    ap (λ o. found_as w o (position (λ x. bytes_eq (string_bytes x.text) w) (out-Block b).variables.items)
    (position (λ p. bytes_eq (string_bytes (out-Procedure p).name.text) w) (out-Block b).procedures.items))
    (sym c.in-Some.is)
    ∙ block_means w b c.constant_in.result _ _ (constant_is (goal.at.returns-in-Some c).After-constant_in) refl refl

pub returns-in-Some-variable_in : goal.returns-in-Some-variable_in
returns-in-Some-variable_in c =
    let w = c.args.word.now in
    let b = c.args.block.now in
    let p = position (λ p. bytes_eq _ w) (out-Block b).procedures.items in
    ap (λ o. found_as w None o p) (sym c.in-Some-variable_in.is)
    ∙ ap (λ o. found_as w o c.variable_in.result p) (sym c.in_default.is)
    ∙ block_means w b c.constant_in.result c.variable_in.result p (constant_is (goal.at.returns-in-Some-variable_in
    c).After-constant_in) (variable_is (goal.at.returns-in-Some-variable_in c).After-variable_in) refl

pub returns-in_err-index : goal.returns-in_err-index
returns-in_err-index c =
    let w = c.args.word.now in
    ap (option_map meaning_of) c.from_residual.ensures
    ∙ ap (λ o. found_as w None None o) (sym c.in_err-index.was)
    ∙ ap (λ o. found_as w None o c.procedure_in.result) (sym c.in_default-variable_in.is)
    ∙ ap (λ o. found_as w o c.variable_in.result c.procedure_in.result) (sym c.in_default.is)
    ∙ block_means w c.args.block.now c.constant_in.result c.variable_in.result c.procedure_in.result
    (constant_is (goal.at.returns-in_err-index c).After-constant_in)
    (variable_is (goal.at.returns-in_err-index c).After-variable_in)
    (procedure_is (goal.at.returns-in_err-index c).After-procedure_in)

pub returns : goal.returns
returns c =
    let w = c.args.word.now in
    ap (λ o. found_as w None None o) (sym c.in_ok-index.was)
    ∙ ap (λ o. found_as w None o c.procedure_in.result) (sym c.in_default-variable_in.is)
    ∙ ap (λ o. found_as w o c.variable_in.result c.procedure_in.result) (sym c.in_default.is)
    ∙ block_means w c.args.block.now c.constant_in.result c.variable_in.result c.procedure_in.result
    (constant_is (goal.at.returns c).After-constant_in) (variable_is (goal.at.returns c).After-variable_in)
    (procedure_is (goal.at.returns c).After-procedure_in)
