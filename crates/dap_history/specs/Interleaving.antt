-- Defines which lists of events arise from what an inbox and a loader return. States the laws of these.
use Rattle.std.specs.Prelude.{◌≡◌, ◌⊎◌, ◌++◌, ◌∷◌, [], ℕ, List, map, Some, None, Result}
use Rattle.dap_msg.specs.declared.request.Dialect.{Dialect}
use Rattle.dap_history.specs.declared.launch.Launch.{Launch}
use Rattle.dap_history.specs.declared.fault.LoadFault.{LoadFault}
use Rattle.dap_history.specs.History.{History}
use Rattle.dap_history.specs.Events.{Incoming, File, Rest, IsTaking, IsHistoryOf}

-- A path that a loader was asked for, and what it answered: the file's bytes, that it can't be read, or that memory was
-- lacking.
pub record Load : Type 0 where
  pub path : List ℕ
  pub answer : Result (List ℕ) LoadFault

-- after these events a launch waits for the file at this path
pub record Awaits (dialect : Dialect) (events : List Incoming) (path : List ℕ) : Type 0 where
  pub past : History
  pub rest : Rest
  pub history : IsHistoryOf dialect events past rest
  pub taking : IsTaking past
  pub launch : Launch
  pub waits : rest.launch ≡ Some launch
  pub path_is : path ≡ launch.arguments.program

-- after these events no launch waits for a file
pub record AwaitsNone (dialect : Dialect) (events : List Incoming) : Type 0 where
  pub past : History
  pub rest : Rest
  pub history : IsHistoryOf dialect events past rest
  pub waits : (¬ IsTaking past) ⊎ (rest.launch ≡ None)

-- the event is what the loader answered for the launch that waits after these events
abbrev pub IsLoad : Dialect → List Incoming → Incoming → Load → Type 0
IsLoad dialect before (File file) load = (load.answer ≡ file) × Awaits dialect before load.path
IsLoad dialect before _ load = ⊥

-- After the events so far, each further one is the next answer of the loader where a launch waits for its file, and
-- otherwise the next event of the inbox.
abbrev pub Interleaves : Dialect → List Incoming → List Incoming → List Incoming → List Load → Type 0
Interleaves dialect before [] given loads = (given ≡ []) × (loads ≡ [])
Interleaves dialect before (e ∷ events) given loads =
    ((load : Load) × (more : List Load) × (loads ≡ load ∷ more) × IsLoad dialect before e load
    × Interleaves dialect (before ++ e ∷ []) events given more)
    ⊎ ((more : List Incoming) × (given ≡ e ∷ more) × AwaitsNone dialect before
    × Interleaves dialect (before ++ e ∷ []) events more loads)

-- ---- the laws of loads

-- The loader is asked for a path: after these events a launch waits for the file at this path, and what the loader
-- answers is the next event.
pub record IsAsked (dialect : Dialect) (events : List Incoming) (load : Load) : Type 0 where
  pub before : List Incoming
  pub after : List Incoming
  pub events_are : events ≡ before ++ File load.answer ∷ after
  pub past : History
  pub rest : Rest
  pub history : IsHistoryOf dialect before past rest
  pub goes_on : IsTaking past
  pub launch : Launch
  pub waits : rest.launch ≡ Some launch
  pub path_is : load.path ≡ launch.arguments.program

-- The loader is asked for nothing but the path of a launch that waits, in a session that isn't closed.
abbrev pub EachLoadIsOfALaunch : Type 0
EachLoadIsOfALaunch =
    (dialect : Dialect) (events given : List Incoming) (loads : List Load) → Interleaves dialect [] events given loads
    → (front : List Load) (load : Load) (back : List Load) → loads ≡ front ++ load ∷ back
    → IsAsked dialect events load

-- the event is what the loader answered for this path
pub record IsAnswerFor (loads : List Load) (path : List ℕ) (event : Incoming) : Type 0 where
  pub front : List Load
  pub load : Load
  pub back : List Load
  pub loads_are : loads ≡ front ++ load ∷ back
  pub path_is : load.path ≡ path
  pub event_is : event ≡ File load.answer

-- If a launch waits in a session that isn't closed, the next event is what the loader answered for its path.
abbrev pub EachLaunchIsLoaded : Type 0
EachLaunchIsLoaded =
    (dialect : Dialect) (events given : List Incoming) (loads : List Load) → Interleaves dialect [] events given loads
    → (before : List Incoming) (event : Incoming) (after : List Incoming) → events ≡ before ++ event ∷ after
    → (past : History) (rest : Rest) → IsHistoryOf dialect before past rest → IsTaking past
    → (launch : Launch) → rest.launch ≡ Some launch → IsAnswerFor loads launch.arguments.program event

-- the events are these and those, each in their order
abbrev pub AreMerged : List Incoming → List Incoming → List Incoming → Type 0
AreMerged [] these those = (these ≡ []) × (those ≡ [])
AreMerged (e ∷ events) these those =
    ((more : List Incoming) × (these ≡ e ∷ more) × AreMerged events more those)
    ⊎ ((more : List Incoming) × (those ≡ e ∷ more) × AreMerged events these more)

-- The events are all that the inbox and the loader returned, in their order.
abbrev pub EventsAreReturned : Type 0
EventsAreReturned =
    (dialect : Dialect) (events given : List Incoming) (loads : List Load) → Interleaves dialect [] events given loads
    → AreMerged events given (map (λ (load : Load). File load.answer) loads)
