-- Defines what is promised of a conversation over an input that a thread reads: the contract of `serve_worker_input`.
use Rattle.std.specs.Prelude.{◌≡◌, Bool, List, None, Some, Result}
use Rattle.byte_streams.specs.Streams.{Supply, Output, IsOfWhole}
use Rattle.dap_server.specs.Conversation.{Replies}
use Rattle.dap_server.specs.Inbox.{PlainItem, Given, Reads}
use Rattle.dap_server.specs.ServingInbox.{OutputFailures}
use Rattle.dap_server.specs.Working.{Works, Polls, ServedWorker}
use Rattle.dap_server.specs.declared.ending.Ending.{Ending}
use Rattle.dap_server.specs.declared.ending.ServeFault.{ServeFault}

-- what a look finds: what reads gave next, or nothing, and then all is as it was
abbrev pub Looks : Polls Supply
Looks before None after = after ≡ before
Looks before (Some item) after = Reads before item after

-- what was taken is the front of what was read: further reads gave these items, which nobody took
abbrev pub FrontOf : Supply → Supply → Type 0
FrontOf taken read = (items : List PlainItem) × Given Reads taken items read

-- A client was served over what reads of an input gave. `taken` is what they gave up to the item that was taken last,
-- the front of all that they gave.
abbrev pub ServedInput : {S : Type 0} → Replies S → Works S → (S → Bool) → S → S → Supply → Supply → Output → Output
    → Result Ending ServeFault → Type 0
ServedInput replies works busy before after input later_input output later result =
    (taken : Supply) × ∥ IsOfWhole taken ∥₁ × FrontOf taken later_input
    × ServedWorker replies works busy Reads Looks before after input taken output.written later.written result
    × OutputFailures result output.failures later.failures
