-- A worked example: what is sent for three requests, computed.
use Rattle.std.specs.Prelude.{◌≡◌, ◌^◌, List, [], ◌∷◌, ◌++◌, codes, map, None, Some, Ok, Err}
use Rattle.serde_json.specs.Data.{Data, object, number, unsigned, member, no_members}
use Rattle.serde_json.specs.Written.{compact_text}
use Rattle.dap_server.specs.Inbox.{piece_limit}
use Rattle.dap_server.specs.Messages.{PlainEvent, messages, number_limit}

abbrev exit_code : Data
exit_code = object (member (codes "exitCode") (number (unsigned 0)) no_members)

-- two events: one without a body, and one with it
abbrev events : List PlainEvent
events =
    record { name = codes "initialized"; body = None }
    ∷ record { name = codes "exited"; body = Some exit_code } ∷ []

-- The response comes first, with the number and the command of its request; then the events, numbered on.
abbrev pub EventsFollow : Type 0
EventsFollow =
    map compact_text (messages 3 (codes "launch") (record { outcome = Ok None; events = events }) 5)
    ≡ codes "{\"command\":\"launch\",\"request_seq\":3,\"seq\":5,\"success\":true,\"type\":\"response\"}"
    ∷ codes "{\"event\":\"initialized\",\"seq\":6,\"type\":\"event\"}"
    ∷ codes "{\"body\":{\"exitCode\":0},\"event\":\"exited\",\"seq\":7,\"type\":\"event\"}" ∷ []

-- A refusal has a message, and an empty body.
abbrev pub RefusalsSayWhy : Type 0
RefusalsSayWhy =
    map compact_text (messages 3 (codes "next") (record { outcome = Err (codes "running"); events = [] }) 5)
    ≡ (codes "{\"body\":{},\"command\":\"next\",\"message\":\"running\",\"request_seq\":3,\"seq\":5,"
    ++ codes "\"success\":false,\"type\":\"response\"}") ∷ []

-- No event follows the answer to `disconnect`.
abbrev pub NothingFollowsDisconnect : Type 0
NothingFollowsDisconnect =
    map compact_text (messages 4 (codes "disconnect") (record { outcome = Ok None; events = events }) 6)
    ≡ codes "{\"command\":\"disconnect\",\"request_seq\":4,\"seq\":6,\"success\":true,\"type\":\"response\"}" ∷ []

-- A session can go on until its numbers don't fit 64 bits any more, and reads at most 4,096 bytes at once.
abbrev pub LimitsAre : Type 0
LimitsAre = (number_limit ≡ 2 ^ 64) × (piece_limit ≡ 4096)
