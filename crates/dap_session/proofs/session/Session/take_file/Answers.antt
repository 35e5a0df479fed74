use Rattle.std.proofs.Common.{sym, ◌∙◌, ap, subst}
use Rattle.std.proofs.lemmas.Result.{err_from_is_err_and}
use Rattle.std.specs.Prelude.{Vec, option_map, ℕ}
use Rattle.std.specs.declared.alloc.Global.{Global}
use Rattle.dap_replies.specs.Phases.{IsPhase, launch_of}
use Rattle.dap_session.proofs.Files.{file_lost, load_fails, file_taken, file_passed, lacking, not_lacking}
use Rattle.dap_session.specs.Ports.{plain_file}
use Rattle.dap_session.proofs.session.Session.take_file.Goals as goal

pub returns-in_default-clause-comes : goal.returns-in_default-clause-comes
returns-in_default-clause-comes g c = λ f past rest taking on.
    file_passed f past rest (plain_file c.args.file) c.args.self.now c.take_launch.new.self _ c.in_default.ensures.same
    c.requires c.in_default.ensures.none taking on

pub returns-in_err-file-clause-comes : goal.returns-in_err-file-clause-comes
returns-in_err-file-clause-comes g c = λ f past rest taking on.
    let p = err_from_is_err_and c.from_residual.result c.from_residual.ensures.1 in
    rw (p.1, p.2, c.in_err-file.ensures.err) (file_lost f past rest (plain_file c.args.file) c.take_launch.new.self _)

pub returns-in_err-load-clause-comes : goal.returns-in_err-load-clause-comes
returns-in_err-load-clause-comes g c = λ f past rest taking on.
    let p = err_from_is_err_and c.from_residual-in_err-load.result c.from_residual-in_err-load.ensures.1 in
    let was = c.in-Some.ensures.found in
    let file = option_map (λ (bytes : Vec ℕ Global). bytes.items) c.in_ok-file.file in
    rw (p.1, p.2) (load_fails f c.in_err-load.field-0.0 past rest c.in-Some.launch (plain_file c.args.file) file
    c.load.new.self _ _
    (record { waits = sym on.launch_is ∙ ap launch_of was; file_is = c.in_ok-file.ensures.ok })
    (c.in_err-load.ensures.comes past taking (subst (λ p. IsPhase p past) was on.knows.phase_is)
    (ap (λ s. s.next_seq) c.take_launch.ensures.rest ∙ on.knows.seq_is)))

pub returns-clause-comes : goal.returns-clause-comes
returns-clause-comes g c = λ f past rest taking on.
    let was = c.in-Some.ensures.found in
    let file = option_map (λ (bytes : Vec ℕ Global). bytes.items) c.in_ok-file.file in
    file_taken f c.take_contents.result past rest c.in-Some.launch (plain_file c.args.file) file c.load.new.self
    c.take_contents.new.self _ _ _ taking
    (record { waits = sym on.launch_is ∙ ap launch_of was; file_is = c.in_ok-file.ensures.ok })
    (c.in_ok-load.ensures.stream ∙ ap (λ s. s.stream) c.take_launch.ensures.rest ∙ on.stream_is)
    (c.in_ok-load.ensures.comes past taking (subst (λ p. IsPhase p past) was on.knows.phase_is)
    (ap (λ s. s.next_seq) c.take_launch.ensures.rest ∙ on.knows.seq_is))
    c.take_contents.ensures.comes

pub returns-in_default-clause-no_memory : goal.returns-in_default-clause-no_memory
returns-in_default-clause-no_memory g c =
    λ lacks. absurd ((lacking (plain_file c.args.file) _ lacks).1 c.in_default.ensures.none)

pub returns-in_err-load-clause-no_memory : goal.returns-in_err-load-clause-no_memory
returns-in_err-load-clause-no_memory g c =
    λ lacks. absurd (not_lacking (plain_file c.args.file) _ _ c.in_ok-file.ensures.ok lacks)

pub returns-clause-no_memory : goal.returns-clause-no_memory
returns-clause-no_memory g c = λ lacks. absurd (not_lacking (plain_file c.args.file) _ _ c.in_ok-file.ensures.ok lacks)

pub returns-in_default-clause-enough : goal.returns-in_default-clause-enough
returns-in_default-clause-enough g c = λ free open_. ap (λ s. launch_of s.phase) c.in_default.ensures.same ∙ free

pub returns-in_err-file-clause-enough : goal.returns-in_err-file-clause-enough
returns-in_err-file-clause-enough g c = λ free. absurd (let e = sym (ap launch_of c.in-Some.ensures.found) ∙ free in cc)

pub returns-in_err-load-clause-enough : goal.returns-in_err-load-clause-enough
returns-in_err-load-clause-enough g c = λ free. absurd (let e = sym (ap launch_of c.in-Some.ensures.found) ∙ free in cc)

pub returns-clause-enough : goal.returns-clause-enough
returns-clause-enough g c = λ free. absurd (let e = sym (ap launch_of c.in-Some.ensures.found) ∙ free in cc)
