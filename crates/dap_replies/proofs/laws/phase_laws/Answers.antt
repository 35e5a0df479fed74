use Rattle.std.proofs.Common.{refl}
use Rattle.dap_replies.specs.Laws.{skipped}
use Rattle.dap_replies.proofs.Stays.{phase_stays}
use Rattle.dap_replies.proofs.laws.phase_laws.Goals as goal

pub returns : goal.returns
returns c = λ past phase is.
    phase_stays c.reading_laws.ensures phase past skipped
    (record { effect_is = refl; no_mark = refl; sets_none = refl; no_pause = refl; no_end = refl; tells_none = refl })
    is
