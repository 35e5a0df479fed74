use Rattle.std.proofs.lemmas.Str.{IsUtf8-string_bytes}
use Rattle.dap_msg.proofs.draft.Draft.finish.Goals as goal

pub returns-clause-utf8 : goal.returns-clause-utf8
returns-clause-utf8 c = rw c.into_bytes.ensures.value (IsUtf8-string_bytes c.in_ok-into_text.field-0)
