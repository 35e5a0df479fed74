use Rattle.std.proofs.Common.{refl}
use Rattle.dap_debug.proofs.Further.{on_ok, set_within, sets_from}
use Rattle.dap_debug.proofs.state.State.set_breakpoints.Goals as goal

pub returns-in-Some : goal.returns-in-Some
returns-in-Some g c =
    on_ok _ _ c.set_in.result c.set_in.ensures (λ reply is. sets_from g.L.Language.shows _
    c.in-Some.program.now _ _ _ c.in-Some.ensures
    (set_within g.L.Language.shows _ _ _ _ _ _ _ c.as_str-path.ensures.value c.line_offset-less.ensures refl is))
