-- What several of the other files import, from one place.
pub mod Common
-- A unit's tables of steps and blocks hold what the definitions say of each number; for `declared_names`, `frame_name`
-- and `stack_frame`.
pub mod UnitTables
-- What is shown of one frame is what the definition shows; for `stack_frame`.
pub mod ShownFrame
-- The frames that are asked for, collected one by one, are all of them; for `asked_frames`.
pub mod AskedFrames
-- The links lead to a frame's scopes; for `scope_chain`.
pub mod ScopeChain
-- The scopes of the frame with an id, if it is alive; for `scopes`.
pub mod FrameById
-- A frame is found by its id exactly where it is alive; for `frame_with_id`, and through other lemmas for more.
pub mod AliveFrames
-- A frame's variables, collected one by one, are those of the definition; for `declared_names`, `valued` and
-- `variables`.
pub mod FrameVariables
-- An expression is read in the scope of a frame's next step; for `evaluate` and `read_in`.
pub mod FrameReadings
