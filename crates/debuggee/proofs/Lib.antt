-- What is due where a program comes to, of one breakpoint and of all.
mod Counting
-- Two runs, one after another, are one.
mod Going
-- Marks of places: where there is none, no breakpoint is.
mod Marking
