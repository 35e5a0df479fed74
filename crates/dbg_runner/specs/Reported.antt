-- What contracts see of a report, and what it is as data.
use Rattle.std.specs.Prelude.{◌≡◌, ℕ, ◌+◌, ◌≤◌, [], List, length, Option, Some, None, ℤ}
use Rattle.pl0_unit.specs.declared.unit.Unit.{Unit as Compiled}
use Rattle.pl0_meaning.specs.Runs.{written}
use Rattle.pl0_machine.specs.Machine.{program_of}
use Rattle.dbg_plan.specs.Breakpoints.{Breakpoint}
use Rattle.dbg_plan.specs.Logs.{Log}
use Rattle.dbg_plan.specs.declared.mode.Mode.{Mode}
use Rattle.dbg_plan.specs.Trail.{Trail, new_trail}
use Rattle.dbg_plan.specs.Debugged.{Debugged, IsConsidered}
use Rattle.dbg_runner.specs.declared.outcome.SliceOutcome.{SliceOutcome}
use Rattle.dbg_runner.specs.declared.outcome.SliceOutcome.TheVariants as out
use Rattle.dbg_runner.specs.declared.report.Summary.{Summary}
use Rattle.dbg_runner.specs.Plain.{Heading, PlainReport, Direction, Onward, Back, direction}
use Rattle.dbg_runner.specs.Lawful.{IsLawfulFor}

-- A report with its program's code, and the debuggee that it carries.
pub record Reported : Type 0 where
  pub summary : Summary
  pub open summary use *
  pub unit : Compiled
  pub plan : List Breakpoint
  pub numbers : List ℤ
  pub logs : List Log
  pub debuggee : Option Debugged

abbrev pub text_of : Compiled → List ℕ
text_of u = u.tree.text.items

abbrev pub plain_report : Reported → PlainReport
plain_report r =
    record {
      heading = record {
        run = r.run;
        text = text_of r.unit;
        plan = r.plan;
        counted_from = r.counted_from;
        mode = r.mode;
        start = r.start;
      };
      end = r.end;
      numbers_before = r.numbers_before;
      steps_rerun = r.steps_rerun;
      numbers = r.numbers;
      logs = r.logs;
      outcome = r.outcome;
    }

-- the report is what the meaning of its program gives
abbrev pub IsKept : Reported → Type 0
IsKept r = IsLawfulFor (program_of r.unit) (plain_report r)

-- what fixes the first report of a run of d
abbrev pub heading : ℕ → Debugged → Mode → Heading
heading run d mode =
    record {
      run = run;
      text = text_of d.unit;
      plan = d.breakpoints;
      counted_from = d.counted_from;
      mode = mode;
      start = d.position;
    }

-- The summary of a report of a run that goes on: from this position, up to which this many numbers were written, to
-- where d stands.
abbrev pub summary_at : ℕ → Mode → ℕ → ℕ → Debugged → SliceOutcome → Summary
summary_at run mode start before d outcome =
    record {
      run = run;
      counted_from = d.counted_from;
      mode = mode;
      start = start;
      end = d.position;
      numbers_before = before;
      steps_rerun = 0;
      outcome = outcome;
    }

-- ---- the report of no slice

-- how many numbers were written up to where d stands
abbrev pub written_before : Debugged → ℕ
written_before d = length (written (program_of d.unit) 0 d.position)

-- The report that no slice began, which says why by its outcome.
abbrev pub unsliced : ℕ → Mode → Debugged → SliceOutcome → Reported
unsliced run mode d outcome =
    record {
      summary = summary_at run mode d.position (written_before d) d outcome;
      unit = d.unit;
      plan = d.breakpoints;
      numbers = [];
      logs = [];
      debuggee = Some d;
    }

-- ---- the debuggee after a report

-- The first position that its plan counts. Where a run that goes back stops, counts begin anew at the next position.
abbrev pub counts_from : Direction → Reported → ℕ
counts_from Onward r = r.counted_from
counts_from Back r = r.end + 1

-- the debuggee where the report ends, which was considered there
abbrev pub stopped : Reported → Trail → Debugged
stopped r trail =
    record {
      unit = r.unit;
      position = r.end;
      breakpoints = r.plan;
      counted_from = counts_from (direction r.mode) r;
      next = r.end + 1;
      trail = trail;
    }

-- Where the debuggee is once its slice is reported.
pub data Whereabouts : Type 0 where
  InReport : Whereabouts
  BesideReport : Whereabouts
  Nowhere : Whereabouts

-- A debuggee that goes on is beside the report, one that is over is nowhere, and one that stopped is in the report.
abbrev pub whereabouts : SliceOutcome → Whereabouts
whereabouts out.More = BesideReport
whereabouts out.Done = Nowhere
whereabouts _ = InReport

-- the debuggee, if it is in the report
abbrev pub in_report : Whereabouts → Debugged → Option Debugged
in_report InReport d = Some d
in_report BesideReport d = None
in_report Nowhere d = None

-- the debuggee, if it is beside the report
abbrev pub beside_report : Whereabouts → Debugged → Option Debugged
beside_report BesideReport d = Some d
beside_report InReport d = None
beside_report Nowhere d = None

-- the trail of a debuggee, if there is one
abbrev pub trail_in : Option Debugged → Trail
trail_in None = new_trail
trail_in (Some d) = d.trail

-- what a report carries, where its debuggee stands at its end
abbrev pub carried : Reported → SliceOutcome → Option Debugged
carried r outcome = in_report (whereabouts outcome) (stopped r (trail_in r.debuggee))

-- A debuggee of the report's program and plan that a run which goes back came to, considered there.
pub record IsOnItsWay (r : Reported) (d : Debugged) : Type 0 where
  pub unit : d.unit ≡ r.unit
  pub breakpoints : d.breakpoints ≡ r.plan
  pub before : d.position ≤ r.start
  pub considered : IsConsidered d

-- What a report carries: the debuggee where it ends. A run that goes back and finds no memory gives it up on its way;
-- it isn't held, comes to no end of the program, and meets no fault.
abbrev pub Carries : Direction → Reported → SliceOutcome → Type 0
Carries Onward r outcome = r.debuggee ≡ carried r outcome
Carries Back r out.More = r.debuggee ≡ carried r out.More
Carries Back r (out.Due reason) = r.debuggee ≡ carried r (out.Due reason)
Carries Back r out.NoMemory = (d : Debugged) × (r.debuggee ≡ Some d) × IsOnItsWay r d
Carries Back r _ = ⊥
