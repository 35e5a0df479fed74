use Rattle.std.proofs.Common.{refl, ◌∙◌}
use Rattle.std.specs.Prelude.{Vec, option_map, ℕ}
use Rattle.std.specs.declared.alloc.Global.{Global}
use Rattle.dap_msg.specs.declared.command.CommandName.TheVariants as name
use Rattle.dap_msg.specs.declared.command.Supported.TheVariants as supported
use Rattle.dap_history.specs.History.{Loaded}
use Rattle.dap_replies.specs.Replied.{launch_step}
use Rattle.dap_session.proofs.Items.{fails_before, is_answer_step, sends_item}
use Rattle.dap_session.proofs.session.Session.load.Goals as goal

pub returns-in_default-clause-comes : goal.returns-in_default-clause-comes
returns-in_default-clause-comes g c = λ past taking is_phase seq_is. fails_before past _ _

pub returns-clause-comes : goal.returns-clause-comes
returns-clause-comes g c = λ past taking is_phase seq_is.
    let h = c.in-Ok.ensures.launches past is_phase in
    let file = option_map (λ (bytes : Vec ℕ Global). bytes.items) c.args.file in
    let item = Loaded c.args.launch file in
    let step = launch_step c.args.launch file h.reply in
    sends_item c.reading_laws.ensures c.send.result past step _ c.in-Ok.field-0.effect.phase _ _ taking
    (h.reply, h.launches, record { answer_is = refl; effect_is = refl }) refl
    (c.send.ensures.ending ∙ c.requires) h.phase_is c.send.ensures.phase c.send.ensures.free
    (c.send.ensures.sent past step seq_is
    (is_answer_step item c.args.launch.seq (name.Supported supported.Launch) (name.Supported supported.Launch)
    c.in-Ok.field-0 h.reply refl h.gives))
