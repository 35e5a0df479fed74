-- Where the debuggee is after a slice.
use Rattle.dbg_runner.proofs.Common.{beside_report, Debugged, heading, in_report, IsReportOf, IsSliceOf, Mode, Option, plain_report, refl, Reported, Room, sliced, SliceOutcome, StandsAtEnd, stopped, TookSteps, Trail, whereabouts, written_before, ℕ, ◌∙◌, ◌≡◌}
use Rattle.dbg_runner.specs.declared.outcome.SliceOutcome.TheVariants as out
use Rattle.dbg_runner.proofs.Keeping.{lawful}

in_place : (r : Reported) (d : Debugged) (trail : Trail) (e : SliceOutcome) → StandsAtEnd r d e → d.trail ≡ trail
    → in_report (whereabouts e) d ≡ in_report (whereabouts e) (stopped r trail)
in_place r d trail out.Done stands is = refl
in_place r d trail e stands is = cc

beside : (r : Reported) (d : Debugged) (trail : Trail) (e : SliceOutcome) → StandsAtEnd r d e → d.trail ≡ trail
    → beside_report (whereabouts e) d ≡ beside_report (whereabouts e) (stopped r trail)
beside r d trail out.Done stands is = refl
beside r d trail e stands is = cc

module _ (run : ℕ) (mode : Mode) (d new : Debugged) (room : Room) (e : SliceOutcome)
    (took : TookSteps mode d e new room) where
  abbrev report : Reported
  report = sliced run mode d.position (written_before d) room new e

  of : IsReportOf (heading run d mode) (plain_report report)
  of = record {
    heading =
        λ i. record {
          run = run;
          text = (took.unit i).tree.text.items;
          plan = took.breakpoints i;
          counted_from = took.counted_from i;
          mode = mode;
          start = d.position;
        };
    lawful = lawful report (took.lawful run);
  }

  -- the report of a slice, made with these
  pub reports_slice : (start before : ℕ) → start ≡ d.position → before ≡ written_before d
      → (r : Reported) (on : Option Debugged) → r ≡ sliced run mode start before room new e
      → on ≡ beside_report (whereabouts e) new → IsSliceOf run d mode r on
  reports_slice start before start_is before_is r on r_is on_is =
      let is : r ≡ report = cc in
      rw is (record {
        reports = record {
          of = of;
          carries = in_place report new d.trail e (took.stands run) took.trail;
          on_is = on_is
              ∙ beside report new d.trail e (took.stands run) took.trail;
        };
        outcome = took.outcome_is;
      })
