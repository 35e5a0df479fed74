-- how much of a text and of a list is shown
pub mod Sizes
-- events of a debuggee with one thread
pub mod Events
-- bodies of responses
pub mod Bodies
-- an example of each, as text
pub mod WorkedBodies
-- members of arguments
pub mod Arguments
