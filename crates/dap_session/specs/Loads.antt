-- Defines what the log of a loader shows.
use Rattle.std.specs.Prelude.{List, map}
use Rattle.dap_history.specs.Interleaving.{Load}
use Rattle.dap_session.specs.declared.load_log.LoadLog.{LoadLog}
use Rattle.dap_session.specs.Ports.{load_of, plain_file}

-- the paths that the loader was asked for and its answers, the oldest first
abbrev pub logged : LoadLog → List Load
logged log = map (λ load. load_of load.0.entries (plain_file load.1)) log.loads.entries
