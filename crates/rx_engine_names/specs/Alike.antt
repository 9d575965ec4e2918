-- Words of the laws on like functions: another body, and the renaming in which variables and loops keep their numbers (Rust Reference,
-- "Functions", "Scopes").
use Rattle.std.specs.Prelude.{ℕ, ◌==◌}
use Rattle.rx_tree.specs.Plain.{Body, Function}
use Rattle.rx_engine_names.specs.Renaming.{Renaming}

abbrev pub with_body : Body → Function → Function
with_body b f = record f { body = b }

abbrev pub same_numbers : (ℕ → ℕ) → Renaming
same_numbers items = record { variable = λ n m. n == m; loop = λ n m. n == m; item = items }
