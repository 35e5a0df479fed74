-- Defines, for private contracts, the results of building frames, of pushing an order and of putting frames.
use Rattle.std.specs.Prelude.{◌≡◌, ◌<◌, ◌≤◌, ◌+◌, ◌^◌, ◌⊎◌, ◌++◌, ◌∷◌, [], ℕ, List, map, length, Vec}
use Rattle.std.specs.declared.alloc.Global.{Global}
use Rattle.dap_msg.specs.declared.outgoing.Outgoing.{Outgoing}
use Rattle.dap_history.specs.declared.fault.SessionFault.{SessionFault}
use Rattle.dap_history.specs.declared.fault.SessionFault.TheVariants.{NoMemory, SeqExhausted, OrdersFull, RunnerGone, WriterGone}
use Rattle.dap_history.specs.Output.{frames_from}
use Rattle.dap_session.specs.Ports.{Written, PushedOrders}
use Rattle.dap_session.specs.Sending.{IsPrefixOf}

-- frames as plain data
abbrev pub plain_frames : List (Vec ℕ Global) → List (List ℕ)
plain_frames frames = map (λ frame. frame.items) frames

-- the frames built so far, and the seq of the next message
pub record Built : Type 0 where
  pub frames : List (List ℕ)
  pub next_seq : ℕ

-- The frames of the messages were added, numbered on.
pub record AddsFrames (messages : List Outgoing) (old new : Built) : Type 0 where
  pub frames_are : new.frames ≡ old.frames ++ frames_from old.next_seq messages
  pub seq_is : new.next_seq ≡ old.next_seq + length messages
  pub seq_fits : old.next_seq ≤ 2 ^ 53 → new.next_seq ≤ 2 ^ 53

-- why no frames were built for messages that would be numbered from `first` on
abbrev pub IsNotBuilt : SessionFault → ℕ → List Outgoing → Type 0
IsNotBuilt fault first messages = (fault ≡ NoMemory) ⊎ ((fault ≡ SeqExhausted) × (2 ^ 53 < first + length messages))

-- An order was refused, and the refusal was counted.
abbrev pub IsNotPushed : SessionFault → PushedOrders → PushedOrders → Type 0
IsNotPushed OrdersFull old new = (new.orders ≡ old.orders) × (old.fulls < new.fulls)
IsNotPushed RunnerGone old new = (new.orders ≡ old.orders) × (old.refusals < new.refusals)
IsNotPushed _ old new = ⊥

-- A frame was refused, and those before it were put.
pub record IsNotPut (fault : SessionFault) (frames : List (List ℕ)) (old new : Written) : Type 0 where
  pub fault_is : fault ≡ WriterGone
  pub put : List (List ℕ)
  pub frames_are : new.frames ≡ old.frames ++ put
  pub frame : List ℕ
  pub refused_are : new.refused ≡ old.refused ++ frame ∷ []
  pub begins : IsPrefixOf (put ++ frame ∷ []) frames
