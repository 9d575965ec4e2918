-- Tables of names that are the same apart from places in the text (Rust Reference, "Names", "Scopes").
use Rattle.std.specs.Prelude.{◌≡◌, List, [], ◌∷◌, length}
use Rattle.rx_resolve_names.specs.declared.resolved.ItemNames.{ItemNames}

-- as many variables and lifetimes, the same loops by their positions, and the same numbers at each node
pub record AlikeTables (t u : ItemNames) : Type 0 where
  pub vars : length t.vars ≡ length u.vars
  pub lifetimes : length t.lifetimes ≡ length u.lifetimes
  pub loops : t.loops ≡ u.loops
  pub names : t.names ≡ u.names

abbrev pub AllAlike : List ItemNames → List ItemNames → Type 0
AllAlike [] [] = Unit {0}
AllAlike (t ∷ ts) (u ∷ us) = AlikeTables t u × AllAlike ts us
AllAlike [] (u ∷ us) = ⊥
AllAlike (t ∷ ts) [] = ⊥
