-- Facts that sites make false and true, as values with an order: rows of bits, each below those that hold what it does.
use Rattle.std.specs.Prelude.{◌≡◌, ℕ, ◌*◌, ◌<◌, Bool, true, false, ◌&&◌, ◌||◌, ◌==◌, List, length, slice_get}
use Rattle.rx_graph_bits.specs.Rows.{holds, rank, words, Bounded}
use Rattle.rx_graph.specs.declared.effect.Effect.{Effect}
use Rattle.rx_graph.specs.declared.effect.Start.{Start}
use Rattle.rx_graph.specs.Facts.{has, effect_of, behind}
use Rattle.rx_graph.specs.Equations.{Rules}

-- whether a fact holds at a site at the start, or did before
abbrev pub beginning : Start → ℕ → ℕ → Bool → Bool
beginning start p i before = (p == start.site && has start.facts i) || before

-- facts below a bound
abbrev pub rules : List Effect → Start → ℕ → Rules (List ℕ)
rules effects start bound = record {
  Fits = λ a. (length a ≡ words bound) × Bounded a;
  Below = λ a b. (i : ℕ) → i < 64 * words bound → holds a i ≡ true → holds b i ≡ true;
  Joins = λ a b c. (i : ℕ) → holds c i ≡ (holds a i || holds b i);
  Begins = λ p a. (i : ℕ) → i < 64 * words bound → holds a i ≡ beginning start p i false;
  Steps = λ q a b. (i : ℕ) → i < 64 * words bound → holds b i ≡ behind (effect_of (slice_get effects q)) i (holds a i);
  height = rank;
  most = 18446744073709551615 * words bound;
}
