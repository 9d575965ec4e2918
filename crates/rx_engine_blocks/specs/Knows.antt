-- What is known of the items of one program is known of them in another, by other numbers.
use Rattle.std.specs.Prelude.{◌≡◌, ℕ, option_map, slice_get}
use Rattle.rx_typeck_solver.specs.Facts.{KnownItems}
use Rattle.rx_engine_blocks.specs.Renumbering.{Renumbering, declared_at}

pub record Knows (r : Renumbering) (D D' : KnownItems) : Type 0 where
  pub items : (i : ℕ) → slice_get D'.items (r.items i) ≡ option_map (declared_at r) (slice_get D.items i)
  pub sizes : (i : ℕ) → D'.sizes (r.items i) ≡ D.sizes i
  -- different items stay different
  pub unitem : ℕ → ℕ
  pub unnamed : (i : ℕ) → unitem (r.items i) ≡ i
