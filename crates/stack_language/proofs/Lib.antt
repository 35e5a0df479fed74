-- Lines that are read one after another; for `parse_lines`.
mod Reading
-- Lines without an instruction; for `line_at_or_after` and `worked_views`.
mod Lines
-- The top of the stack; for `make_one`.
mod Tops
-- Variables that are listed one after another; for `variables`.
mod Variables
