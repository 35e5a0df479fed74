-- Defines how much each queue has room for.
use Rattle.std.specs.Prelude.{ℕ}

-- how many messages an inbox has room for
abbrev pub inbox_room : ℕ
inbox_room = 64

-- how many messages an outbox has room for
abbrev pub outbox_room : ℕ
outbox_room = 64

-- how many orders a queue of orders has room for
abbrev pub orders_room : ℕ
orders_room = 4

-- how many quiet reports one message of an inbox has room for
abbrev pub quiet_room : ℕ
quiet_room = 16
