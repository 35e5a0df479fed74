-- Defines what the adapter replies.
use Rattle.std.specs.Prelude.{ℕ, List, [], codes, if◌then◌else◌, None, Some, Ok, Err}
use Rattle.std.specs.Str.{bytes_eq}
use Rattle.serde_json.specs.Data.{object, no_members}
use Rattle.dap_server.specs.Messages.{PlainReply}

-- the reply to a command: `initialize` and `disconnect` succeed, the one with an empty body, the other with none
abbrev pub reply_to : List ℕ → PlainReply
reply_to command =
    if bytes_eq command (codes "initialize") then record { outcome = Ok (Some (object no_members)); events = [] }
    else if bytes_eq command (codes "disconnect") then record { outcome = Ok None; events = [] }
    else record { outcome = Err (codes "unsupported"); events = [] }
