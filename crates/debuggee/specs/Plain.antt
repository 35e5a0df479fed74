-- Defines steps, breakpoints, halts and outputs as data without addresses.
use Rattle.std.specs.Prelude.{ℕ, Bool, List, map, Option, option_map, string_bytes}
use Rattle.debuggee.specs.declared.breakpoint.Breakpoint.{Breakpoint}
use Rattle.debuggee.specs.declared.breakpoint.Part.{Part}
use Rattle.debuggee.specs.declared.breakpoint.Part.TheVariants as part
use Rattle.debuggee.specs.declared.breakpoint.Rule.{Rule}
use Rattle.debuggee.specs.declared.debuggee.Evaluated.{Evaluated}
use Rattle.debuggee.specs.declared.debuggee.Evaluated.TheVariants as evaluated
use Rattle.debuggee.specs.declared.debuggee.Fault.{Fault}
use Rattle.debuggee.specs.declared.debuggee.Step.{Step}
use Rattle.debuggee.specs.declared.debuggee.Step.TheVariants as step
use Rattle.debuggee.specs.declared.halt.Halt.{Halt}
use Rattle.debuggee.specs.declared.halt.Halt.TheVariants as halt
use Rattle.debuggee.specs.declared.halt.Output.{Output}
use Rattle.debuggee.specs.declared.halt.Output.TheVariants as output

-- why a step can't be taken: what all faults of its kind are called, and what the user is told
pub record PlainFault : Type 0 where
  pub name : List ℕ
  pub text : List ℕ

abbrev pub plain_fault : Fault → PlainFault
plain_fault fault = record { name = string_bytes fault.name; text = string_bytes fault.text }

-- what a step does: a text that it prints, the status of the end, why it can't be taken
pub data PlainStep : Type 0 where
  Goes : PlainStep
  Prints : List ℕ → PlainStep
  Ends : ℕ → PlainStep
  Fails : PlainFault → PlainStep

abbrev pub plain_step : Step → PlainStep
plain_step step.Goes = Goes
plain_step (step.Prints text) = Prints (string_bytes text)
plain_step (step.Ends status) = Ends status
plain_step (step.Fails why) = Fails (plain_fault why)

-- a value's text, and whether a condition with this value holds; or why there is none
pub data PlainEvaluated : Type 0 where
  Value : List ℕ → Bool → PlainEvaluated
  NoValue : List ℕ → PlainEvaluated

abbrev pub plain_evaluated : Evaluated → PlainEvaluated
plain_evaluated (evaluated.Value text holds) = Value (string_bytes text) holds
plain_evaluated (evaluated.NoValue why) = NoValue (string_bytes why)

-- a part of a message
pub data PlainPart : Type 0 where
  Text : List ℕ → PlainPart
  Expression : List ℕ → PlainPart

abbrev pub plain_part : Part → PlainPart
plain_part (part.Text text) = Text (string_bytes text)
plain_part (part.Expression text) = Expression (string_bytes text)

-- a breakpoint
pub record PlainBreakpoint : Type 0 where
  pub place : ℕ
  pub condition : Option (List ℕ)
  pub rule : Option Rule
  pub arrivals : ℕ
  pub message : Option (List PlainPart)

abbrev pub plain_breakpoint : Breakpoint → PlainBreakpoint
plain_breakpoint b = record {
  place = b.place;
  condition = option_map string_bytes b.condition;
  rule = b.rule;
  arrivals = b.arrivals;
  message = option_map (λ parts. map plain_part parts.items) b.message;
}

-- why a run halts
pub data PlainHalt : Type 0 where
  AtBreakpoint : PlainHalt
  AtStep : PlainHalt
  AtEnd : ℕ → PlainHalt
  AtFault : PlainFault → PlainHalt

abbrev pub plain_halt : Halt → PlainHalt
plain_halt halt.AtBreakpoint = AtBreakpoint
plain_halt halt.AtStep = AtStep
plain_halt (halt.AtEnd status) = AtEnd status
plain_halt (halt.AtFault why) = AtFault (plain_fault why.value)

-- what is told: what the program prints, and what messages say
pub data PlainOutput : Type 0 where
  Printed : List ℕ → PlainOutput
  Logged : List ℕ → PlainOutput

abbrev pub plain_output : Output → PlainOutput
plain_output (output.Printed text) = Printed (string_bytes text)
plain_output (output.Logged text) = Logged (string_bytes text)
