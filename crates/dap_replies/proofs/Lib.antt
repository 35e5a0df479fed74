-- A plan that was made for one unit of a text fits each other unit of it; for `Run::take_back`.
pub mod Units
-- A step that changes nothing that a phase keeps leaves it a phase of the longer history; for `phase_laws` and
-- `refuse`, and through other lemmas for more.
pub mod Stays
-- A reply that nothing follows, and whose step is quiet, leaves the phase as it is; for `answer` and `refuse`, and
-- through other lemmas for more.
pub mod Unmoved
-- What is replied in the situation of a phase; for `back`, `begin`, `close`, `set_plan`, and through other lemmas for
-- more.
pub mod Situations
-- The rows of the chooser are those of the table; for the functions of `choosing`.
pub mod Rows
-- A question is answered from where the program stands; for `inspect`.
pub mod Asked
-- How the history goes on after a launch with its file; for `launch`.
pub mod Launched
-- A step that orders a run of the debuggee leads to Running; for the functions of `reporting` and `running`.
pub mod Begun
-- After a report the phase represents the history with the report's step; for the functions of `reporting`.
pub mod ReportSteps
-- How runs begin, go on and end at a request; for the functions of `running`.
pub mod Resumed
-- Lines are resolved to steps of the program, whose lines the unit keeps; for `line_answer` and `resolved`.
pub mod Lines
-- What is chosen for `setBreakpoints`, and that the phase afterwards represents the longer history; for `in_program`
-- and the functions of `planning`.
pub mod SetBreakpoints
-- What a `pause` in a run is replied, and that the phase afterwards represents the longer history; for `interrupt`.
pub mod Paused
-- The number of reported numbers stays below the bound on steps, and a quiet report has none; for `fresh` and
-- `keep_running`.
pub mod Fresh
