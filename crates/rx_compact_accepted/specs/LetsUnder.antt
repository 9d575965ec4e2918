-- The types that the `let`s of a function write, by other numbers of its lifetimes (Rust Reference, "let statements").
use Rattle.std.specs.Prelude.{◌≡◌, ℕ, List, [], ◌∷◌}
use Rattle.rx_typed.specs.Renaming.{renamed}
use Rattle.rx_lower_lifetimes.specs.Variables.{Written}

abbrev pub LetsUnder : (ℕ → ℕ) → List Written → List Written → Type 0
LetsUnder g [] [] = Unit {0}
LetsUnder g (w ∷ ws) (x ∷ xs) = ((x.variable ≡ w.variable) × (x.typ ≡ renamed g w.typ)) × LetsUnder g ws xs
LetsUnder g _ _ = ⊥
