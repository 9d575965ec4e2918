-- Which sites of a graph are reached from one by ways that stay inside a set, and that go on from no site that stops them.
use Rattle.std.specs.Prelude.{◌≡◌, ℕ, Bool, true, false, List}
use Rattle.rx_graph.specs.Facts.{has, targets}

pub data Reached (edges : List (List ℕ)) (inside stops : ℕ → Bool) (first : ℕ) : ℕ → Type 0 where
  -- where the first site leads, whether or not it is inside or stops a way
  next : {p : ℕ} → has (targets edges first) p ≡ true → inside p ≡ true → Reached edges inside stops first p
  further : {p : ℕ} (q : ℕ) → Reached edges inside stops first q → stops q ≡ false → has (targets edges q) p ≡ true → inside p ≡ true
      → Reached edges inside stops first p
