-- A queue is full only once enough orders were pushed.
use Rattle.std.proofs.Common.{◌≡◌, ◌≤◌, List, [], ◌∷◌, ◌++◌, ap, length, map, arith, length-append}
use Rattle.std.proofs.lemmas.List.{length-map}
use Rattle.dbg_runner.specs.Orders.{plain_order}
use Rattle.dbg_runner.specs.declared.order.Order.{Order}
use Rattle.dap_wires.specs.Rooms.{orders_room}

-- where the queue is full
pub enough_pushed : (pushed taken inside : List Order) → pushed ≡ taken ++ inside → length inside ≡ orders_room
    → orders_room ≤ length (map plain_order pushed)
enough_pushed pushed taken inside is filled =
    let m = length-map pushed plain_order in let e =
    ap length is in let a = length-append taken inside in omega (arith, m, e, a, filled)

-- and after one order more
pub still_enough : (old new : List Order) (x : Order) → new ≡ old ++ x ∷ []
    → orders_room ≤ length (map plain_order old)
    → orders_room ≤ length (map plain_order new)
still_enough old new x is was =
    let m = length-map old plain_order in let n = length-map new plain_order in
    let e = ap length is in let a = length-append old (x ∷ []) in omega (arith, m, n, e, a, was)
