use Rattle.dap_wires.proofs.Bundles.{joins}
use Rattle.dap_wires.proofs.bundle.Bundle.add.Goals as goal

pub invariant_of-self : goal.invariant_of-self
invariant_of-self c =
    record {
      joined = joins c.args.self.now.frames.entries _ c.args.frame.now c.args.self.now.bytes.items _ c.and-self.ensures
          c.args.self.now.joined (rw c.as_slice.ensures.value at c.in-Ok.ensures.items);
    }
