use Rattle.adapter.proofs.Loaded.{loaded_next}
use Rattle.adapter.proofs.files.FileLoaderLoader.load.Goals as goal

pub invariant_of-self : goal.invariant_of-self
invariant_of-self g c =
    let loader = c.args.self.now in
    record {
      loaded = loaded_next (g.F.Opener.opens loader.kinds) g.F.Opener.closes g.F.File.Source.supply loader.lent.value
          loader.files.now c.read_file-read.new.files _ _ c.args.path.now _ _ loader.loaded
          c.read_file-read.ensures.read c.answer_of-answer.ensures.answer c.note.ensures.noted;
    }
