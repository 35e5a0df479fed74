-- What public contracts cite.
-- the token at a place of a text
pub mod Found
-- a sentence for each mistake, and for each fault of a run
pub mod Sentences
-- the line in which a mistake or a fault is told
pub mod Lines
-- what a program is warned of
pub mod Warnings
-- for private contracts only: what is written of a sentence that was chosen
pub mod Written
