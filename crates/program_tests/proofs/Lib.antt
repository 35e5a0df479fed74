-- A variable of a frame's block, as the unit's tables show the block, is one of the frame's; for `number`.
mod Fitting
