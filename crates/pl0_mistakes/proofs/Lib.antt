-- the tokens of a text
pub mod Cutting
-- hints that are written
pub mod Told
-- what a program is warned of
pub mod Behind
