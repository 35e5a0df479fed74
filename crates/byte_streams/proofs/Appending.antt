-- Bytes that come behind those before, once and again.
use Rattle.std.proofs.Common.{◌≡◌, ℕ, List, [], ◌++◌, sym, ap, ◌∙◌, append_assoc, append-nil}
use Rattle.byte_streams.specs.Streams.{StreamLog, Appends}

-- the log with these bytes behind its own
abbrev pub with_bytes : StreamLog → List ℕ → StreamLog
with_bytes log bytes = record { first = log.first; bytes = log.bytes ++ bytes }

pub appends_none : (a : StreamLog) → Appends a a []
appends_none a = ap (λ l. record { first = a.first; bytes = l }) (sym (append-nil a.bytes))

pub appends_both : (a b c : StreamLog) (bytes more : List ℕ) → Appends a b bytes → Appends b c more
    → Appends a c (bytes ++ more)
appends_both a b c bytes more first next = cc (append_assoc a.bytes bytes more)

-- nothing came before these
pub appends_after : (a b c : StreamLog) (bytes : List ℕ) → b ≡ a → Appends b c bytes → Appends a c bytes
appends_after a b c bytes same next = next ∙ ap (λ log. with_bytes log bytes) same

-- nothing came
pub keeps_appends : (a b : StreamLog) → b ≡ a → Appends a b []
keeps_appends a b same = same ∙ appends_none a
