-- What public contracts cite.
-- columns of a page
pub mod Columns
-- a step, instruction by instruction
pub mod Interpreter
-- what an instruction makes of operands
pub mod Taken
-- worked examples of the pages
pub mod WorkedPages
