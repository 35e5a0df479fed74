-- Defines, for private contracts, which bytes a text has.
use Rattle.std.specs.Prelude.{ℕ, List, string_bytes}
use Rattle.dap_msg.specs.declared.text.Stored.{Stored}
use Rattle.dap_msg.specs.declared.text.Stored.TheVariants.{Short, Long}

-- the bytes that are stored
abbrev pub stored_bytes : Stored → List ℕ
stored_bytes (Short text) = text.bytes
stored_bytes (Long text) = string_bytes text
