-- What the code's groups stand for.
use Rattle.std.specs.Prelude.{ℕ, ◌≤◌, ◌+◌, List, map}
use Rattle.rx_core.specs.declared.types.Span.{Span}
use Rattle.rx_parse_grammar.specs.parser.Steps as steps
use Rattle.rx_parse_cursor.specs.declared.groups.Grouped.{Grouped}
use Rattle.rx_parse_cursor.specs.declared.groups.Grouped.TheVariants.{Alone, Parts}
use Rattle.rx_parse_cursor.specs.GotOf.{got_of}

abbrev pub grouped_of : {A B : Type 0} → (A → B) → (Span → List B → B) → Grouped A → steps.Got B
grouped_of f tuple (Alone x) = got_of f x
grouped_of f tuple (Parts l s) = steps.node (λ s. tuple s (map f l.list)) s l.height

-- what stands in the parentheses has at most so many levels
abbrev pub HasMost : {A : Type 0} → ℕ → Grouped A → Type 0
HasMost most (Alone x) = x.height ≤ most + 1
HasMost most (Parts l s) = l.height ≤ most
