-- Says of what a law speaks: of each history that events give, or of each step of one.
use Rattle.std.specs.Prelude.{◌≡◌, ◌++◌, List, ◌∷◌}
use Rattle.dap_msg.specs.declared.request.Dialect.{Dialect}
use Rattle.dap_history.specs.History.{History, Step}
use Rattle.dap_history.specs.Events.{Incoming, Rest, AreLawful, IsHistoryOf}

-- this holds of each history that events give
abbrev pub OfHistories : (History → Type 0) → Type 0
OfHistories says =
    (dialect : Dialect) (events : List Incoming) (past : History) (rest : Rest) → IsHistoryOf dialect events past rest
    → says past

-- the same, where each report among the events says what its program does
abbrev pub OfLawfulHistories : (History → Type 0) → Type 0
OfLawfulHistories says =
    (dialect : Dialect) (events : List Incoming) (past : History) (rest : Rest) → AreLawful events
    → IsHistoryOf dialect events past rest → says past

-- this holds of each step of a history, and of the steps before it
abbrev pub AtSteps : (History → Step → Type 0) → History → Type 0
AtSteps says past =
    (before : History) (step : Step) (after : History) → past ≡ before ++ step ∷ after → says before step

-- this holds of each step of each history that events give, and of the steps before it
abbrev pub OfSteps : (History → Step → Type 0) → Type 0
OfSteps says = OfHistories (AtSteps says)

-- the same, where each report among the events says what its program does
abbrev pub OfLawfulSteps : (History → Step → Type 0) → Type 0
OfLawfulSteps says = OfLawfulHistories (AtSteps says)
