-- A unit's table of steps has a row for each step of its program; for `assert_entry`.
mod StepCount
