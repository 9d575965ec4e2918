-- A list in order is told by its members: the first of each of two lists stands in the other, and so isn't before it.
use Rattle.std.proofs.Common.{◌≡◌, ◌↔◌, ◌⊎◌, inl, inr, ℕ, ◌<◌, List, [], ◌∷◌, refl, sym, ap, ◌∙◌, arith}
use Rattle.rx_core.specs.declared.types.Bound.{Bound}
use Rattle.rx_lower_walks.specs.Graph.{Site}
use Rattle.rx_region_outlives.specs.Implied.{HasPair}
use Rattle.rx_region.specs.Constraints.{Context}
use Rattle.rx_repair.specs.LeastBounds.{Before, InOrder, AreLeastBounds}

not_before_itself : (b c : Bound) → b ≡ c → Before b c → ⊥
not_before_itself b c e (inl w) = omega (arith, w, ap (λ (x : Bound). x.long) e)
not_before_itself b c e (inr w) = omega (arith, w.1, ap (λ (x : Bound). x.short) e)

not_both : (b c : Bound) → Before b c → Before c b → ⊥
not_both b c (inl w) (inl v) = omega (arith, w, v)
not_both b c (inl w) (inr v) = omega (arith, w, v.0)
not_both b c (inr w) (inl v) = omega (arith, w.0, v)
not_both b c (inr w) (inr v) = omega (arith, w.1, v.1)

-- the first of both
first_same : (b c : Bound) (bs cs : List Bound) → InOrder (b ∷ bs) → InOrder (c ∷ cs) → HasPair (c ∷ cs) b.long b.short → HasPair (b ∷ bs) c.long c.short → b ≡ c
first_same b c bs cs o p (inl e) there = sym e
first_same b c bs cs o p (inr h) (inl e) = e
first_same b c bs cs o p (inr h) (inr i) = absurd (not_both c b (p.0 b h) (o.0 c i))

rest_within : (b c : Bound) (bs cs : List Bound) → InOrder (b ∷ bs) → b ≡ c → ((l k : ℕ) → HasPair (b ∷ bs) l k → HasPair (c ∷ cs) l k) → (l k : ℕ) → HasPair bs l k → HasPair cs l k
rest_within b c bs cs o e within l k h = elim (within l k (inr h)) [
  | inl is ↦ absurd (not_before_itself b (record { long = l; short = k }) (e ∙ is) (o.0 (record { long = l; short = k }) h))
  | inr i ↦ i
]

same_list : (bs cs : List Bound) → InOrder bs → InOrder cs → ((l k : ℕ) → HasPair bs l k → HasPair cs l k) → ((l k : ℕ) → HasPair cs l k → HasPair bs l k) → bs ≡ cs
same_list [] [] o p forth back = refl
same_list [] (c ∷ cs) o p forth back = absurd (back c.long c.short (inl refl))
same_list (b ∷ bs) [] o p forth back = absurd (forth b.long b.short (inl refl))
same_list (b ∷ bs) (c ∷ cs) o p forth back =
    let here : b ≡ c = first_same b c bs cs o p (forth b.long b.short (inl refl)) (back c.long c.short (inl refl)) in
    let more : bs ≡ cs = same_list bs cs o.1 p.1 (rest_within b c bs cs o here forth) (rest_within c b cs bs p (sym here) back) in
    λ j. here j ∷ more j

pub one_list : (C : Context) (g : List Site) (bs cs : List Bound) → AreLeastBounds C g bs → AreLeastBounds C g cs → bs ≡ cs
one_list C g bs cs a b = same_list bs cs a.ordered b.ordered (λ l k h. (b.exact l k).1 ((a.exact l k).0 h)) (λ l k h. (a.exact l k).1 ((b.exact l k).0 h))
