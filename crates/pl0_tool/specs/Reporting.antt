-- What a command tells at its end.
use Rattle.std.specs.Prelude.{◌≡◌, ◌⊎◌, ℕ, ◌++◌, nat_lt, if◌then◌else◌}
use Rattle.byte_streams.specs.Streams.{Output, WritesAll, FailsIn, WritesOrFails}
use Rattle.pl0_tool.specs.declared.report.Ending.{Ending}
use Rattle.pl0_tool.specs.declared.report.Ending.TheVariants.{Success, Fault, Mistake, Failure, Unwritten, NotUnderstood, Stopped}
use Rattle.pl0_tool.specs.declared.report.Report.{Report}

-- the exit status
abbrev pub status_of : Ending → ℕ
status_of Success = 0
status_of Fault = 1
status_of Mistake = 2
status_of Failure = 3
status_of Unwritten = 3
status_of NotUnderstood = 4
status_of Stopped = 5

-- what two commands tell, one after the other; together they end as the one of the greater status does
pub record IsSum (first next sum : Report) : Type 0 where
  pub output : sum.output.items ≡ first.output.items ++ next.output.items
  pub errors : sum.errors.items ≡ first.errors.items ++ next.errors.items
  pub ending :
      sum.ending ≡ (if nat_lt (status_of first.ending) (status_of next.ending) then next.ending else first.ending)

-- A report was told: its bytes for the output were written, and the command ends as the report says; or the output
-- failed in them. Its bytes for standard error were written, or a prefix of them.
pub record HasTold (report : Report) (ending : Ending) (before after errors_before errors_after : Output) : Type 0 where
  pub output : (WritesAll report.output.items before after × (ending ≡ report.ending))
      ⊎ (FailsIn report.output.items before after × (ending ≡ Unwritten))
  pub errors : WritesOrFails report.errors.items errors_before errors_after
