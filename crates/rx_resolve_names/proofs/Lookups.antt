-- A search in a map's entries is a search in the names that they show.
use Rattle.std.proofs.Common.{◌≡◌, ℕ, cond, List, [], ◌∷◌, ◌++◌, Some, refl, ap}
use Rattle.std.specs.Str.{bytes_eq}
use Rattle.std.specs.Map.{lookup}
use Rattle.rx_resolve_names.specs.declared.table.NumberedName.{NumberedName}
use Rattle.rx_resolve_names.specs.Scopes.{declared_as}
use Rattle.rx_resolve_names.specs.Tables.{declared_of}

module _ {R : Type 0} (name : R → List ℕ) where
  pub lookup_declared : (x : List ℕ) (es : List (R × NumberedName)) → lookup (λ r. bytes_eq x (name r)) es ≡ declared_as (declared_of name es) x
  lookup_declared x [] = refl
  lookup_declared x (e ∷ es) = ap (cond (bytes_eq x (name e.0)) (Some e.1)) (lookup_declared x es)

  pub declared_push : (es : List (R × NumberedName)) (r : R) (k : NumberedName) → declared_of name (es ++ (r, k) ∷ []) ≡ declared_of name es ++ (name r, k) ∷ []
  declared_push [] r k = refl
  declared_push (e ∷ es) r k = ap (λ ds. (name e.0, e.1) ∷ ds) (declared_push es r k)
