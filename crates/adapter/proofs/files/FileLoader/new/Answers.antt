use Rattle.std.proofs.Common.{rules, ◌≡◌}
use Rattle.adapter.proofs.Loaded.{loaded_none}
use Rattle.adapter.proofs.files.FileLoader.new.Goals as goal

pub invariant_of-result : goal.invariant_of-result
invariant_of-result g c =
    let same : c.of-lent.result.value ≡ c.args.files.now = search rules in
    record {
      loaded = loaded_none (g.F.Opener.opens c.args.kinds) g.F.Opener.closes g.F.File.Source.supply _ _ _ same
          c.new.ensures;
    }
