-- Columns of a page. What stands in a column is filled up with spaces to the column's width.
use Rattle.std.specs.Prelude.{ℕ, ◌-◌, List, ◌++◌, length, replicate}

abbrev pub spaces : ℕ → List ℕ
spaces count = replicate count 32

-- a text at the right of a column of this width
abbrev pub right : ℕ → List ℕ → List ℕ
right width text = spaces (width - length text) ++ text

-- a text at the left of a column of this width
abbrev pub left : ℕ → List ℕ → List ℕ
left width text = text ++ spaces (width - length text)

-- what stands in a column, and the space to the next one
abbrev pub column : List ℕ → List ℕ
column text = text ++ spaces 2
