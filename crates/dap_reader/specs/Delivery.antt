-- Defines the rule of the queue between the thread that reads and the session, which holds after each step of either.
use Rattle.std.specs.Prelude.{◌≡◌, ◌⊎◌, ◌+◌, ℕ, Bool, true, false, ⊤, None, List, [], ◌∷◌, map}
use Rattle.byte_streams.specs.Streams.{Supply, IsOfWhole}
use Rattle.dap_server.specs.Inbox.{PlainItem, plain_item, Gives, Given, Reads}
use Rattle.dap_server.specs.declared.inbox.Item.{Item}
use Rattle.dap_reader.specs.declared.queue_end.SupplyView.{SupplyView}
use Rattle.dap_reader.specs.declared.queue_end.QueueEnd.{QueueEnd}
use Rattle.dap_reader.specs.declared.queue_end.QueueEnd.TheVariants.{Unused, Takes, Sends, Both, Spent}

abbrev pub view_of : Supply → SupplyView
view_of s = record { first = s.read.first; bytes = s.read.bytes; ended = s.ended; failures = s.failures }

abbrev pub supply_of : SupplyView → Supply
supply_of k = record { read = record { first = k.first; bytes = k.bytes }; ended = k.ended; failures = k.failures }

-- nothing, read of an input that doesn't tell what it has
abbrev pub nothing : Supply
nothing = record { read = record { first = None; bytes = [] }; ended = false; failures = 0 }

-- the reads of which all went through this end
abbrev pub through : QueueEnd → Supply
through (Takes k many) = supply_of k
through (Sends k) = supply_of k
through _ = nothing

abbrev pub is_taker : QueueEnd → Bool
is_taker (Takes k many) = true
is_taker _ = false

abbrev pub is_sender : QueueEnd → Bool
is_sender (Sends k) = true
is_sender _ = false

-- how often this end has received an item
abbrev pub receives : QueueEnd → ℕ
receives (Takes k many) = many
receives _ = 0

-- Reads gave this item, and nothing but the input's own bytes.
abbrev pub Comes : Gives Supply
Comes before item after = Reads before item after × ∥ IsOfWhole after ∥₁

-- The queue is new; or what is inside is what the reads gave after those of which all was taken, up to those of which
-- all was sent, whether its ends are apart or joined.
abbrev pub Carries : List Item → List QueueEnd → Type 0
Carries inside ends =
    ((ends ≡ Unused ∷ []) × (inside ≡ []))
    ⊎ ((taken : Supply) × (sent : Supply) × (many : ℕ)
    × (ends ≡ Takes (view_of taken) many ∷ Sends (view_of sent) ∷ [])
    × Given Comes taken (map plain_item inside) sent)
    ⊎ ((taken : Supply) × (sent : Supply)
    × (ends ≡ Both (view_of taken) (view_of sent) ∷ Spent ∷ [])
    × Given Comes taken (map plain_item inside) sent)

-- an end took an item, by one receive
abbrev pub Took : QueueEnd → Item → QueueEnd → Type 0
Took before item after =
    (is_taker after ≡ true) × Comes (through before) (plain_item item) (through after)
    × (receives after ≡ receives before + 1)

-- the end that took, with the one that sent joined to it
abbrev pub joined : QueueEnd → QueueEnd → QueueEnd
joined v w = Both (view_of (through v)) (view_of (through w))

-- what is inside is what the reads gave after those of which all was taken
abbrev pub Balances : QueueEnd → List Item → Type 0
Balances (Both k l) inside = Given Comes (supply_of k) (map plain_item inside) (supply_of l)
Balances _ inside = ⊤

-- Of all that reads gave, all was sent but perhaps the last item.
abbrev pub SentBut : Supply → Supply → Type 0
SentBut sent read = (sent ≡ read) ⊎ ((last : PlainItem) × Comes sent last read)
