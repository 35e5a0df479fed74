use Rattle.std.proofs.Common.{◌≡◌, true}
use Rattle.byte_streams.specs.Streams.{IsOfWhole}
use Rattle.crossbeam_channel.specs.Claims.{view}
use Rattle.dap_reader.specs.Delivery.{is_taker, through}
use Rattle.dap_reader.proofs.Delivered.{pops, looked}
use Rattle.dap_reader.proofs.arrivals.ArrivalsPolled.poll.Goals as goal

pub try_recv_as-requires-clause-rule : goal.try_recv_as-requires-clause-rule
try_recv_as-requires-clause-rule g c = (pops _ _ c.args.self.now.takes, λ items views h at. tt)

pub invariant_of-self-clause-takes : goal.invariant_of-self-clause-takes
invariant_of-self-clause-takes g c =
    looked _ (λ end. is_taker end ≡ true) _ _ _ c.try_recv_as.ensures.rule (λ x took. took.0) c.args.self.now.takes

pub invariant_of-self-clause-of_whole : goal.invariant_of-self-clause-of_whole
invariant_of-self-clause-of_whole g c =
    looked _ (λ end. ∥ IsOfWhole (through end) ∥₁) c.try_recv_as.result (view c.args.self.now.pass)
    (view c.try_recv_as.new.pass) c.try_recv_as.ensures.rule (λ x took. took.1.1) c.args.self.now.of_whole
