-- Defines what the ports of a session have done so far.
use Rattle.std.specs.Prelude.{ℕ, List, Result, Ok, Err, Vec}
use Rattle.std.specs.declared.alloc.Global.{Global}
use Rattle.dap_history.specs.declared.fault.LoadFault.{LoadFault}
use Rattle.dap_history.specs.Interleaving.{Load}
use Rattle.dbg_runner.specs.Plain.{PlainOrder}

-- The frames put and the frames refused, the oldest first.
pub record Written : Type 0 where
  pub frames : List (List ℕ)
  pub refused : List (List ℕ)

-- The orders pushed, the oldest first, and how many were refused: `fulls` because there was no room, and `refusals`
-- because nobody takes orders any more.
pub record PushedOrders : Type 0 where
  pub orders : List PlainOrder
  pub fulls : ℕ
  pub refusals : ℕ

-- a loader's answer as plain data
abbrev pub plain_file : Result (Vec ℕ Global) LoadFault → Result (List ℕ) LoadFault
plain_file (Ok file) = Ok file.items
plain_file (Err fault) = Err fault

-- an answer of a loader, with the path that it was asked for
abbrev pub load_of : List ℕ → Result (List ℕ) LoadFault → Load
load_of path answer = record { path = path; answer = answer }

-- what both sending ports of a session have done so far
pub record Ports : Type 0 where
  pub frames : List (List ℕ)
  pub orders : List PlainOrder
  pub refused : List (List ℕ)
  pub runner_gone : ℕ
  pub orders_full : ℕ

-- both ports
abbrev pub ports : Written → PushedOrders → Ports
ports out orders =
    record {
      frames = out.frames;
      orders = orders.orders;
      refused = out.refused;
      runner_gone = orders.refusals;
      orders_full = orders.fulls;
    }
