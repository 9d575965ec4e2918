-- Where the statements of a block stand, its tail counted last (Rust Reference, "Block expressions").
use Rattle.std.specs.Prelude.{ℕ, ◌+◌, ◌-◌, List, [], ◌∷◌, ◌++◌, map}
use Rattle.rx_core.specs.declared.types.Span.{Span}
use Rattle.rx_tree.specs.Plain as plain
use Rattle.rx_tree.specs.Plain.{OptionalExpression, Body, Statement}
use Rattle.rx_tree.specs.Lists.{listed, statement_span}

-- where the last of some statements ends, or else the place in front of them
abbrev pub end_of : ℕ → List Statement → ℕ
end_of at [] = at
end_of at (a ∷ ss) = end_of (statement_span a).end ss

-- a tail stands from one place to another, with the parentheses round it, which leave no node
abbrev pub tail_place : ℕ → OptionalExpression → ℕ → List Span
tail_place at plain.absent close = []
tail_place at (plain.present e) close = record { start = at; end = close } ∷ []

-- each statement stands in its span, the tail between what is in front of it and the closing brace
abbrev pub parts_of : Body → List Span
parts_of (plain.body s ss t) = map statement_span (listed ss) ++ tail_place (end_of (s.start + 1) (listed ss)) t (s.end - 1)
