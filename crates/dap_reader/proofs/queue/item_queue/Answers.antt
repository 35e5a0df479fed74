use Rattle.std.proofs.Common.{sym, ap, subst}
use Rattle.byte_streams.specs.Streams.{IsOfWhole}
use Rattle.dap_reader.specs.Delivery.{through}
use Rattle.dap_reader.proofs.queue.item_queue.Goals as goal

pub invariant_of-result-2-clause-of_whole : goal.invariant_of-result-2-clause-of_whole
invariant_of-result-2-clause-of_whole g c =
    subst (λ s. ∥ IsOfWhole s ∥₁) (sym (ap through c.another-other.ensures.rule.0)) c.requires
