use Rattle.dap_msg.proofs.Common.{codes, on_ok_weaker, refl}
use Rattle.std.specs.Fmt.{digits}
use Rattle.json.specs.Print.{escape_byte}
use Rattle.dap_msg.proofs.Pieces.{one_fits}
use Rattle.dap_msg.proofs.answers.put_body.Goals as goal

pub returns-in-Capabilities : goal.returns-in-Capabilities
unfolding escape_byte
returns-in-Capabilities c =
    rw c.in-Capabilities.is (on_ok_weaker c.put-in-Capabilities.result
    (λ e. record { text = e; fits = (tt, (tt, (tt, (tt, (tt, tt))))) }) c.put-in-Capabilities.ensures)

pub returns-in-Threads : goal.returns-in-Threads
unfolding escape_byte digits
returns-in-Threads c =
    rw c.in-Threads.is (on_ok_weaker c.put-in-Threads.result
    (λ e. record { text = e; fits = (((one_fits, (tt, tt)), tt), tt) }) c.put-in-Threads.ensures)

pub returns-in-Continued : goal.returns-in-Continued
unfolding escape_byte
returns-in-Continued c =
    rw c.in-Continued.is (on_ok_weaker c.put-in-Continued.result (λ e. record { text = e; fits = (tt, tt) })
    c.put-in-Continued.ensures)

pub returns-in-Breakpoints : goal.returns-in-Breakpoints
unfolding escape_byte
returns-in-Breakpoints c =
    rw c.in-Breakpoints.is (rw c.as_slice.ensures at (c.put_list.ensures (codes "breakpoints") refl))
