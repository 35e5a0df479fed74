-- Public contracts cite the first module.
-- what a question is asked of
pub mod Questions
-- Only private contracts cite the others.
-- what is shown of one frame
pub mod Showing
-- the frames that are alive, by their ids
pub mod Alive
-- the variables of a frame
pub mod Variables
-- what a text is read as in the scope of a frame
pub mod Evaluate
