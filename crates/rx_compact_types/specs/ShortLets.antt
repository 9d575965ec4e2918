-- The `let`s of a function with a short signature: each has the pattern of before, and writes the type of before by the new numbers of the
-- function's lifetimes (Rust Reference, "let statements", "Lifetime elision").
use Rattle.std.specs.Prelude.{◌≡◌, ℕ, ◌+◌, ◌-◌, nat_lt, if◌then◌else◌, List, [], ◌∷◌}
use Rattle.rx_tree.specs.Plain.{ProgramTree}
use Rattle.rx_typed.specs.Naming.{Annotation, of_pattern}
use Rattle.rx_typed.specs.Regions.{region-Ty}
use Rattle.rx_typed.specs.Renaming.{renamed}
use Rattle.rx_typeck_elaborate_parts.specs.Entries.{in_front}
use Rattle.rx_typeck_typed.specs.Lets.{let_type}
use Rattle.rx_typeck_typed.specs.Bindings.{behind}

-- n lifetimes go by these numbers; those behind stand as far behind m as they stood behind n
abbrev pub extended : (ℕ → ℕ) → ℕ → ℕ → ℕ → ℕ
extended f n m l = if nat_lt l n then f l else (l - n) + m

-- of a function with n lifetimes in the first program, and with m in the second, by these numbers
pub record LetAlike (p q : ProgramTree) (n m : ℕ) (f : ℕ → ℕ) (a b : Annotation) : Type 0 where
  pub pattern : (of_pattern b.pattern (in_front b)).0 ≡ (of_pattern a.pattern (in_front a)).0
  pub typ : region-Ty (let_type q m b.typ (behind b).names) ≡ renamed (extended f n m) (region-Ty (let_type p n a.typ (behind a).names))

abbrev pub LetsAlike : ProgramTree → ProgramTree → ℕ → ℕ → (ℕ → ℕ) → List Annotation → List Annotation → Type 0
LetsAlike p q n m f [] [] = Unit {0}
LetsAlike p q n m f (a ∷ as') (b ∷ bs) = LetAlike p q n m f a b × LetsAlike p q n m f as' bs
LetsAlike p q n m f _ _ = ⊥
