-- Sets that are closed under the pairs are the least.
use Rattle.std.proofs.Common.{◌≡◌, inl, inr, ℕ, zero, suc, ◌<◌, true, List, [], ◌∷◌, length, slice_get, Option, Some, None, sym, ap, ◌∙◌, subst, arith}
use Rattle.std.proofs.lemmas.Option.{none-some}
use Rattle.rx_core.specs.declared.types.Bound.{Bound}
use Rattle.rx_graph_closure.specs.Closing.{Has, Comes, Closed}
use Rattle.rx_graph_closure.specs.Closing as closing
use Rattle.rx_lower_walks.specs.Graph.{Site}
use Rattle.rx_region_outlives.specs.Related.{outlives}
use Rattle.rx_region_outlives.specs.Implied.{HasPair}
use Rattle.rx_region.specs.Constraints.{Context}
use Rattle.rx_region.specs.Solutions.{Point, Sets, Solution, Least, AreLeast}
use Rattle.rx_region.specs.Solutions as solutions
use Rattle.rx_region.specs.Points.{number, point, has_point}
use Rattle.rx_region.specs.Tables.{Must, Asks, IsOutlivesTable, MeetsConstraints}
use Rattle.rx_region.specs.Tables as tables
use Rattle.rx_region.specs.declared.outlives.Outlives.{Outlives}
use Rattle.rx_region.proofs.Points.{there, at_point, Inside, point_number, point_inside, point_has}

-- ---- pairs by their places

some_same : (p b : Bound) → Some p ≡ Some b → p ≡ b
some_same p b e = ap (λ o. told o) e where
  told : Option Bound → Bound
  told (Some x) = x
  told None = p

pub has_pair : (ps : List Bound) (j : ℕ) (b : Bound) → slice_get ps j ≡ Some b → HasPair ps b.long b.short
has_pair [] j b h = absurd (none-some b h)
has_pair (p ∷ ps) zero b h = inl (some_same p b h)
has_pair (p ∷ ps) (suc j) b h = inr (has_pair ps j b h)

pub pair_has : (ps : List Bound) (l k : ℕ) → HasPair ps l k → Has ps (outlives l k)
pair_has [] l k h = absurd h
pair_has (p ∷ ps) l k (inl e) = (0, ap (λ b. Some b) e)
pair_has (p ∷ ps) l k (inr h) = let r = pair_has ps l k h in (suc r.0, r.1)

-- ---- what comes along the pairs is the least

from_must : (C : Context) (g : List Site) (l : ℕ) (x : Point) → Must C g l x → Least C g l x
from_must C g l x (tables.whole a b) = solutions.whole a b
from_must C g l x (tables.ends a) = solutions.ends a
from_must C g l x (tables.live r a b) = solutions.live r a b

module _ (C : Context) (g : List Site) (o : Outlives) (asks : Asks C g o) where
  sound : (i l : ℕ) → Comes o.pairs o.rows i l → Least C g l (point o.sites i)
  sound i l (closing.here e) = from_must C g l (point o.sites i) ((asks.must l (point o.sites i)).0 (at_point o.rows o.sites l i ∙ e))
  sound i l (closing.longer b has x) = solutions.longer b.short
      (subst (λ ps. HasPair ps b.long b.short) asks.pairs (has_pair o.pairs has.0 b has.1)) (sound i b.short x)

  by_must : (l : ℕ) (x : Point) → Must C g l x → Inside o.sites x × Comes o.pairs o.rows (number o.sites x) l
  by_must l x m = let h = point_inside o.rows o.sites l x ((asks.must l x).1 m) in (h.0, closing.here h.1)

  complete : (l : ℕ) (x : Point) → Least C g l x → Inside o.sites x × Comes o.pairs o.rows (number o.sites x) l
  complete l x (solutions.whole a b) = by_must l x (tables.whole a b)
  complete l x (solutions.ends a) = by_must l x (tables.ends a)
  complete l x (solutions.live r a b) = by_must l x (tables.live r a b)
  complete l x (solutions.longer k pair h) =
      let rest = complete k x h in
      (rest.0, closing.longer (outlives l k) (pair_has o.pairs l k (subst (λ ps. HasPair ps l k) (sym asks.pairs) pair)) rest.1)

  comes_there : (i l : ℕ) → IsOutlivesTable o → Comes o.pairs o.rows i l → l < length o.rows
  comes_there i l t (closing.here e) = there o.rows l i e
  comes_there i l t (closing.longer b has x) = (t.within b has).0

  pub are_least : (w : ℕ) (R : List (List ℕ)) → IsOutlivesTable o → Closed o.pairs w o.rows R → AreLeast C g (λ l x. has_point R o.sites l x)
  are_least w R t closed = λ l x. (
    λ e. let h = point_inside R o.sites l x e in
        let inside = there R l (number o.sites x) h.1 in
        subst (λ y. Least C g l y) (point_number o.sites x h.0)
        (sound (number o.sites x) l ((closed.exact t.within l (number o.sites x) (omega (arith, inside, closed.regular.count))).0 h.1)),
    λ m. let r = complete l x m in
        point_has R o.sites l x r.0 ((closed.exact t.within l (number o.sites x) (comes_there (number o.sites x) l t r.1)).1 r.1),
  )

  -- ---- a solution is what meets the constraints

  pub meets_solution : (R : Sets) → MeetsConstraints o R → Solution C g R
  meets_solution R h = record {
    whole = λ l p own within. h.whole l p (subst (λ n. l < n) (sym asks.own) own) (subst (λ n. p < n) (sym asks.sites) within);
    ends = λ l own. h.ends l (subst (λ n. l < n) (sym asks.own) own);
    live = λ r p l is there. h.must l p ((asks.must l (solutions.site p)).1 (tables.live r is there));
    longer = λ l k pair x e. h.longer l k (subst (λ ps. HasPair ps l k) (sym asks.pairs) pair) x e;
  }

  met : (R : Sets) (l p : ℕ) → Solution C g R → Must C g l (solutions.site p) → R l (solutions.site p) ≡ true
  met R l p s (tables.whole a b) = s.whole l p a b
  met R l p s (tables.live r a b) = s.live r p l a b

  pub solution_meets : (R : Sets) → Solution C g R → MeetsConstraints o R
  solution_meets R s = record {
    whole = λ l p own within. s.whole l p (subst (λ n. l < n) asks.own own) (subst (λ n. p < n) asks.sites within);
    ends = λ l own. s.ends l (subst (λ n. l < n) asks.own own);
    must = λ l p e. met R l p s ((asks.must l (solutions.site p)).0 e);
    longer = λ l k pair x e. s.longer l k (subst (λ ps. HasPair ps l k) asks.pairs pair) x e;
  }
