-- What an order is as data.
use Rattle.dbg_runner.specs.declared.order.Order.{Order}
use Rattle.dbg_runner.specs.declared.order.Order.TheVariants as order
use Rattle.dbg_runner.specs.Plain.{PlainOrder, Go, Hold, Quit}
use Rattle.dbg_runner.specs.Reported.{heading}

abbrev pub plain_order : Order → PlainOrder
plain_order (order.Go run d mode) = Go (heading run d mode)
plain_order (order.Hold run) = Hold run
plain_order order.Quit = Quit
