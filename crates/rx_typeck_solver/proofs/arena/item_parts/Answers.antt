use Rattle.std.proofs.Common.{◌≡◌, ℕ, List, get_or, slice_get, None, sym, ap, refl, []}
use Rattle.std.specs.Prelude.{min, zero, suc, ◌∷◌}
use Rattle.rx_typeck_solver.proofs.arena.item_parts.Goals as goal

absent : (xs : List ℕ) (i d : ℕ) → slice_get xs i ≡ None → get_or xs i d ≡ d
absent [] i d e = refl
absent (x ∷ xs) zero d e = cc
absent (x ∷ xs) (suc i) d e = absent xs i d e

pub returns-in-None : goal.returns-in-None
returns-in-None c = let e : slice_get c.args.sizes.now c.args.item ≡ None = sym c.in-None.ensures.value in ap (λ x. min x 4097) (sym (absent c.args.sizes.now c.args.item 1 e))
