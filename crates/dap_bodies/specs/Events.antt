-- Defines the events of a debuggee with one thread, which has the number 1.
use Rattle.std.specs.Prelude.{ℕ, true, List, codes, Option, None, Some}
use Rattle.serde_json.specs.Data.{Data, boolean, number, unsigned, string, object, Members, no_members, member}
use Rattle.dap_server.specs.Messages.{PlainEvent}
use Rattle.dap_bodies.specs.Sizes.{shown_text}

-- the number of the one thread
abbrev pub thread : ℕ
thread = 1

-- breakpoints can be set, and the debuggee started
abbrev pub initialized : PlainEvent
initialized = record { name = codes "initialized"; body = None }

-- a text of this category
abbrev pub output : List ℕ → List ℕ → PlainEvent
output category text = record {
  name = codes "output";
  body =
      Some (object (member (codes "category") (string category)
      (member (codes "output") (string text) no_members)));
}

-- the text, if there is one, and then the thread
abbrev pub stop_end : Option (List ℕ) → Members
stop_end None = member (codes "threadId") (number (unsigned thread)) no_members
stop_end (Some text) =
    member (codes "text") (string (shown_text text)) (member (codes "threadId") (number (unsigned thread)) no_members)

-- the body of a stop: its reason, and perhaps a text that says more
abbrev pub stop_body : List ℕ → Option (List ℕ) → Data
stop_body reason text =
    object (member (codes "allThreadsStopped") (boolean true) (member (codes "reason") (string reason) (stop_end text)))

-- the debuggee has stopped
abbrev pub stopped : List ℕ → Option (List ℕ) → PlainEvent
stopped reason text = record { name = codes "stopped"; body = Some (stop_body reason text) }

-- the debuggee has ended with this status
abbrev pub exited : ℕ → PlainEvent
exited status = record {
  name = codes "exited";
  body = Some (object (member (codes "exitCode") (number (unsigned status)) no_members));
}

-- there is no more to debug
abbrev pub terminated : PlainEvent
terminated = record { name = codes "terminated"; body = None }
