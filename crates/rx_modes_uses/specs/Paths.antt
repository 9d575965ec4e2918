-- The paths of a variable: the places that begin with it. Its own storage is what its paths in front of the first dereference name.
-- (Rust Reference, "Place expressions and value expressions"; RFC 2094, "Reborrow constraints", shallow prefixes.)
use Rattle.std.specs.Prelude.{◌≡◌, ℕ, true, false}
use Rattle.rx_typed.specs.Tree.{Place, variable}
use Rattle.rx_facts_tables.specs.Setting.{is_behind}

-- a path without a dereference
pub record OwnPath (x : ℕ) (p : Place) : Type 0 where
  pub of : p.root ≡ variable x
  pub here : is_behind p.steps ≡ false

-- a path with one
pub record PathBehind (x : ℕ) (p : Place) : Type 0 where
  pub of : p.root ≡ variable x
  pub behind : is_behind p.steps ≡ true
