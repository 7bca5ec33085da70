-- Where things stand in a picture, in pixels.
use Rattle.std.specs.Prelude.{ℕ, ◌+◌, ◌*◌, ◌/◌}
use Rattle.draw.specs.declared.layout.Column.{Column}

-- the top of a row: below the title, the rows before it, and a line of heads for each 40 rows that
-- have begun
abbrev pub row_top : ℕ → ℕ
row_top row = 88 + 26 * (row / 40) + 20 * row

-- the lane of walks and services: behind the lanes of messages and of orders
abbrev pub doing_x : Column → ℕ
doing_x column = column.left + 9 * column.flights + 18 * column.orders + 20

abbrev pub text_x : Column → ℕ
text_x column = doing_x column + 18

-- a lane of stale mappings: behind the longest text
abbrev pub stale_x : Column → ℕ → ℕ
stale_x column lane = text_x column + 7 * column.characters + 10 + lane * (7 * column.label + 14)
