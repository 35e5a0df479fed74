-- Defines how a session was initialized, and so how its client counts lines and columns.
use Rattle.std.specs.Prelude.{◌≡◌, ◌++◌, ◌∷◌, ℕ, Bool, true, false}
use Rattle.dap_msg.specs.declared.request.Request.{Request}
use Rattle.dap_msg.specs.declared.command.Command.TheVariants as command
use Rattle.dap_msg.specs.declared.requests.initialize.InitializeArguments.{InitializeArguments}
use Rattle.dap_history.specs.History.{Step, History}
use Rattle.dap_history.specs.Runs.{Grants}

-- an `initialize` with these arguments was granted
pub record IsInitializedBy (past : History) (arguments : InitializeArguments) : Type 0 where
  pub early : History
  pub step : Step
  pub later : History
  pub past_is : past ≡ early ++ step ∷ later
  pub request : Request
  pub granted : Grants step request
  pub asked_is : request.body ≡ command.Initialize arguments

-- how much less than from 1 a client counts that starts at 1, or doesn't: `offset` once more, so that the law can
-- refuse a wrong one
abbrev pub less_by : Bool → ℕ
less_by true = 0
less_by false = 1
