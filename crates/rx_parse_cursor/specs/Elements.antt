-- One turn of the loop over the elements of a list.
use Rattle.std.specs.Prelude.{ℕ, max, List, [], ◌∷◌, ◌++◌}
use Rattle.rx_parse_grammar.specs.declared.symbol.Symbol.{Symbol}
use Rattle.rx_parse_grammar.specs.parser.Steps.{Parser, Got, ◌>>=◌, pure, expect}
use Rattle.rx_parse_grammar.specs.parser.Lists.{Items}

-- one more element behind those that were found, and the most levels that one has
abbrev pub another : {A : Type 0} → Parser (Got A) → List A → ℕ → Parser (List A × ℕ)
another element found h = element >>= (λ x. pure (found ++ x.tree ∷ [], max h x.height))

-- the closing bracket behind them
abbrev pub ended : {A : Type 0} → Symbol → List A → ℕ → Parser (Items A)
ended close found h = expect close >>= (λ c. pure (record { list = found; height = h; close = c.span }))
