use Rattle.std.proofs.Common.{[], refl, inl, inr}
use Rattle.byte_streams.specs.declared.files.FileKinds.TheVariants.{Regular}
use Rattle.adapter.specs.Loading.{none}
use Rattle.adapter.proofs.program.run_given.Goals as goal

pub returns-in_default : goal.returns-in_default
returns-in_default g c = record {
  loads = [];
  kinds = Regular;
  loaded = ∣ none ∣₁;
  regular = λ reads. refl;
  any = λ path reads. inl refl;
  executes = record {
    performs = inr (inr (inr (refl, inr c.report.ensures.reason, refl)));
    reports = c.report.ensures.reports;
  };
}

pub returns-in_default-borrow_texts : goal.returns-in_default-borrow_texts
returns-in_default-borrow_texts g c = record {
  loads = [];
  kinds = Regular;
  loaded = ∣ none ∣₁;
  regular = λ reads. refl;
  any = λ path reads. inl refl;
  executes = record {
    performs = inr (inr (inr (refl, inr c.report-in_default-borrow_texts.ensures.reason, refl)));
    reports = c.report-in_default-borrow_texts.ensures.reports;
  };
}
