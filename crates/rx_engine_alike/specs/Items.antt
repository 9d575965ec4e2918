-- The items of a text in an answer that has further items behind one of them.
use Rattle.std.specs.Prelude.{ℕ, ◌+◌, nat_le, if◌then◌else◌}

-- behind this item, so many
abbrev pub items_with : ℕ → ℕ → ℕ → ℕ
items_with item made f = if nat_le f item then f else f + made
