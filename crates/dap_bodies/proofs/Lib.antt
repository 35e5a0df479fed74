-- Where a text is cut; for `cutting`.
mod Cuts
-- What is shown of a list, by its plain elements; for the functions that show one.
mod Shown
