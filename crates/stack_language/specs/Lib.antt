-- which instruction each line of a text is
pub mod Text
-- what each instruction does
pub mod Language
-- lines, frames, what a debugger sees of a state, and what a client is shown
pub mod Shown
-- worked examples of lines
pub mod WorkedText
-- worked examples of instructions and steps
pub mod WorkedSteps
-- worked examples of what is seen and shown
pub mod WorkedShown
-- laws of the language
pub mod Laws
