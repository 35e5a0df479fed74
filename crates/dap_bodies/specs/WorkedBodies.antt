-- Worked examples: the text of each event, and of each body, computed.
use Rattle.std.specs.Prelude.{◌≡◌, [], ◌∷◌, ◌++◌, codes, map, None, Some}
use Rattle.serde_json.specs.Written.{compact_text}
use Rattle.dap_server.specs.Messages.{events_from}
use Rattle.dap_bodies.specs.Bodies.{SetAt, Refused, breakpoints, evaluated, exception_info, scopes, stack_trace, threads, variables}
use Rattle.dap_bodies.specs.Events.{initialized, output, stopped, exited, terminated}

abbrev pub EventsAreWritten : Type 0
EventsAreWritten =
    map compact_text (events_from 1 (initialized ∷ output (codes "stdout") (codes "5\n") ∷ exited 3 ∷ terminated ∷ []))
    ≡ codes "{\"event\":\"initialized\",\"seq\":1,\"type\":\"event\"}"
    ∷ (codes "{\"body\":{\"category\":\"stdout\",\"output\":\"5\\n\"},\"event\":\"output\",\"seq\":2,"
    ++ codes "\"type\":\"event\"}")
    ∷ codes "{\"body\":{\"exitCode\":3},\"event\":\"exited\",\"seq\":3,\"type\":\"event\"}"
    ∷ codes "{\"event\":\"terminated\",\"seq\":4,\"type\":\"event\"}" ∷ []

abbrev pub StopsAreWritten : Type 0
StopsAreWritten =
    map compact_text
    (events_from 1 (stopped (codes "step") None ∷ stopped (codes "exception") (Some (codes "no")) ∷ []))
    ≡ (codes "{\"body\":{\"allThreadsStopped\":true,\"reason\":\"step\",\"threadId\":1},\"event\":\"stopped\","
    ++ codes "\"seq\":1,\"type\":\"event\"}")
    ∷ (codes "{\"body\":{\"allThreadsStopped\":true,\"reason\":\"exception\",\"text\":\"no\",\"threadId\":1},"
    ++ codes "\"event\":\"stopped\",\"seq\":2,\"type\":\"event\"}") ∷ []

abbrev pub FramesAreWritten : Type 0
FramesAreWritten =
    compact_text (stack_trace
    (record { id = 4; name = codes "main"; path = codes "a.b"; line = 7; column = 2 } ∷ []) 5)
    ≡ codes "{\"stackFrames\":[{\"column\":2,\"id\":4,\"line\":7,\"name\":\"main\",\"source\":{\"path\":\"a.b\"}}],"
    ++ codes "\"totalFrames\":5}"

abbrev pub VariablesAreWritten : Type 0
VariablesAreWritten =
    map compact_text (scopes (record { name = codes "main"; reference = 3 } ∷ [])
    ∷ variables (record { name = codes "n"; value = codes "-1"; reference = 0 } ∷ []) ∷ evaluated (codes "8") 6 ∷ [])
    ≡ codes "{\"scopes\":[{\"expensive\":false,\"name\":\"main\",\"variablesReference\":3}]}"
    ∷ codes "{\"variables\":[{\"name\":\"n\",\"value\":\"-1\",\"variablesReference\":0}]}"
    ∷ codes "{\"result\":\"8\",\"variablesReference\":6}" ∷ []

abbrev pub OthersAreWritten : Type 0
OthersAreWritten =
    map compact_text (exception_info (codes "depth") (codes "too deep") ∷ threads (codes "main")
    ∷ breakpoints (SetAt 9 ∷ Refused (codes "no") ∷ []) ∷ [])
    ≡ codes "{\"breakMode\":\"always\",\"description\":\"too deep\",\"exceptionId\":\"depth\"}"
    ∷ codes "{\"threads\":[{\"id\":1,\"name\":\"main\"}]}"
    ∷ codes "{\"breakpoints\":[{\"line\":9,\"verified\":true},{\"message\":\"no\",\"verified\":false}]}" ∷ []
