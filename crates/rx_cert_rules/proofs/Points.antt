-- Written sets of points: what rows of bits tell of them, by the first two rules.
use Rattle.std.proofs.Common.{◌≡◌, ◌⊎◌, inl, inr, ◌↔◌, ℕ, zero, suc, ◌+◌, ◌-◌, ◌*◌, ◌<◌, ◌≤◌, nat_lt, Bool, true, false, not, ◌&&◌, ◌||◌, if◌then◌else◌, List, [], ◌∷◌, length, get_or, drop, slice_get, Option, Some, None, refl, ap, sym, ◌∙◌, subst, arith, true≢false}
use Rattle.std.proofs.lemmas.Bool.{lt-ltb, ltb-true, ltb-false}
use Rattle.std.proofs.lemmas.List.{drop_more, drop_all}
use Rattle.std.proofs.lemmas.Option.{none-some, slice_get-get_or}
use Rattle.rx_core.specs.declared.types.Bound.{Bound}
use Rattle.rx_graph_bits.specs.Rows.{holds, words, Joined}
use Rattle.rx_graph.specs.Tables.{at, Regular, Empty}
use Rattle.rx_graph.proofs.Spreading.{both_of}
use Rattle.rx_graph_closure.specs.Filling.{Added}
use Rattle.rx_lower_walks.specs.Graph.{Site}
use Rattle.rx_region_outlives.specs.Related.{outlives}
use Rattle.rx_region_outlives.specs.Implied.{HasPair}
use Rattle.rx_region.specs.Constraints.{Context}
use Rattle.rx_region.specs.Solutions.{Point, site, end, Sets, Solution}
use Rattle.rx_region.specs.Points.{number, point}
use Rattle.rx_region.specs.Tables.{Must, Asks, MeetsConstraints, Knows, Keeps}
use Rattle.rx_region.specs.Tables as tables
use Rattle.rx_region.specs.declared.outlives.Outlives.{Outlives}
use Rattle.rx_region.specs.declared.known.Known.{Known}
use Rattle.rx_cert_rules.specs.Parts.{AllHoldMust, AllHaveEnds, AllWithin, IsTableOf, AllEndsIn}
use Rattle.rx_cert_rules.specs.Written.{written, Numbered}

-- ---- one row in another

under_or : (a b : Bool) → (a || b) ≡ a → b ≡ true → a ≡ true
under_or true b e h = refl
under_or false b e h = sym e ∙ h

pub stays_so : (old other new : List ℕ) (grown : Bool) → Joined old other new grown → not grown ≡ true → (i : ℕ) → holds other i ≡ true → holds old i ≡ true
stays_so old other new true j e i h = absurd (true≢false (sym e))
stays_so old other new false j e i h = under_or (holds old i) (holds other i) (sym (j.holds i) ∙ ap (λ r. holds r i) (j.same refl)) h

-- ---- pairs by their places

some_same : (p b : Bound) → Some p ≡ Some b → p ≡ b
some_same p b e = ap (λ (o : Option Bound). told o) e where
  told : Option Bound → Bound
  told (Some x) = x
  told None = p

has_pair : (ps : List Bound) (j : ℕ) (b : Bound) → slice_get ps j ≡ Some b → HasPair ps b.long b.short
has_pair [] j b h = absurd (none-some b h)
has_pair (p ∷ ps) zero b h = inl (some_same p b h)
has_pair (p ∷ ps) (suc j) b h = inr (has_pair ps j b h)

pair_has : (ps : List Bound) (l k : ℕ) → HasPair ps l k → (j : ℕ) × (slice_get ps j ≡ Some (outlives l k))
pair_has [] l k h = absurd h
pair_has (p ∷ ps) l k (inl e) = (0, ap (λ b. Some b) e)
pair_has (p ∷ ps) l k (inr h) = let r = pair_has ps l k h in (suc r.0, r.1)

-- ---- points by their numbers

and_so : (a b : Bool) → a ≡ true → b ≡ true → (a && b) ≡ true
and_so true b e h = h
and_so false b e h = absurd (true≢false (sym e))

-- the number of a point that a set has is that of one, and the row has it
pub record Numbers (T : List (List ℕ)) (sites own l : ℕ) (x : Point) : Type 0 where
  pub below : number sites x < sites + own
  pub is : point sites (number sites x) ≡ x
  pub has : at T l (number sites x) ≡ true

pub numbers : (T : List (List ℕ)) (sites own l : ℕ) (x : Point) → written sites own T l x ≡ true → Numbers T sites own l x
numbers T sites own l (site p) h = let b = both_of (nat_lt p sites) (at T l p) h in let less = ltb-true p sites b.0 in record {
  below = omega (arith, less);
  is = ap (λ c. if c then site p else end (p - sites)) b.0;
  has = b.1;
}
numbers T sites own l (end k) h = let b = both_of (nat_lt k own) (at T l (sites + k)) h in let less = ltb-true k own b.0 in record {
  below = omega (arith, less);
  is = ap (λ c. if c then site (sites + k) else end (sites + k - sites)) (not_less (sites + k) sites (omega arith)) ∙ ap end (omega arith);
  has = b.1;
} where
  not_less : (a b : ℕ) → b ≤ a → nat_lt a b ≡ false
  not_less a b e = go (nat_lt a b) refl where
    go : (c : Bool) → nat_lt a b ≡ c → nat_lt a b ≡ false
    go false f = f
    go true f = absurd (omega (arith, e, ltb-true a b f))

pub of_number : (T : List (List ℕ)) (sites own l i : ℕ) → i < sites + own → written sites own T l (point sites i) ≡ at T l i
of_number T sites own l i within = go (nat_lt i sites) refl where
  go : (b : Bool) → nat_lt i sites ≡ b → written sites own T l (if b then site i else end (i - sites)) ≡ at T l i
  go true e = ap (λ c. c && at T l i) e
  go false e = let more = ltb-false i sites e in
      ap (λ c. c && at T l (sites + (i - sites))) (lt-ltb (i - sites) own (omega (arith, more, within))) ∙ ap (λ k. at T l k) (omega (arith, more))

-- ---- the first rule

module _ (C : Context) (g : List Site) (o : Outlives) (T : List (List ℕ)) (sites own count : ℕ) (asks : Asks C g o) (named : Numbered C)
    (sites_are : sites ≡ length g) (own_are : own ≡ C.lifetimes.own) (count_is : count ≡ C.lifetimes.regions)
    (law : (R : Sets) → Solution C g R ↔ MeetsConstraints o R) where
  counted : (l : ℕ) (x : Point) → Must C g l x → l < count
  counted l x (tables.whole a b) = omega (arith, a, named.own, count_is)
  counted l x (tables.ends a) = omega (arith, a, named.own, count_is)
  counted l x (tables.live r a b) = let less = named.types r l b in omega (arith, less, count_is)

  has_must : AllHoldMust o T sites count → (l p : ℕ) → p < sites → Must C g l (site p) → written sites own T l (site p) ≡ true
  has_must holds_all l p within must = and_so (nat_lt p sites) (at T l p) (lt-ltb p sites within)
      (holds_all l (counted l (site p) must) p within ((asks.must l (site p)).1 must))

  pub meets_all : AllHoldMust o T sites count → AllHaveEnds T sites own → AllWithin T o.pairs (sites + own) → Solution C g (written sites own T)
  meets_all holds_all have within_all = (law (written sites own T)).1 (record {
    whole = λ l p h w. let small : p < sites = omega (arith, w, asks.sites, sites_are) in
        has_must holds_all l p small (tables.whole (omega (arith, h, asks.own)) (omega (arith, w, asks.sites)));
    ends = λ l h. let small : l < own = omega (arith, h, asks.own, own_are) in
        and_so (nat_lt l own) (at T l (sites + l)) (lt-ltb l own small) (have l small);
    must = λ l p e. let b = both_of (nat_lt p o.sites) (at o.rows l p) e in let w = ltb-true p o.sites b.0 in
        has_must holds_all l p (omega (arith, w, asks.sites, sites_are)) ((asks.must l (site p)).0 e);
    longer = λ l k pair x e. let j = pair_has o.pairs l k pair in let n = numbers T sites own k x e in
        subst (λ y. written sites own T l y ≡ true) n.is
        (of_number T sites own l (number sites x) n.below ∙ within_all j.0 (outlives l k) j.1 (number sites x) n.below n.has);
  })

  has_of : (l p : ℕ) → written sites own T l (site p) ≡ true → at T l p ≡ true
  has_of l p e = (both_of (nat_lt p sites) (at T l p) e).1

  pub holds_musts : Solution C g (written sites own T) → AllHoldMust o T sites count
  holds_musts s l c p w e = has_of l p (((law (written sites own T)).0 s).must l p e)

  pub has_ends : Solution C g (written sites own T) → AllHaveEnds T sites own
  has_ends s l h = (both_of (nat_lt l own) (at T l (sites + l)) (s.ends l (omega (arith, h, own_are)))).1

  pub holds_pairs : Solution C g (written sites own T) → AllWithin T o.pairs (sites + own)
  holds_pairs s j b at_j i within e = sym (of_number T sites own b.long i within)
      ∙ ((law (written sites own T)).0 s).longer b.long b.short (has_pair o.pairs j b at_j) (point sites i)
      (of_number T sites own b.short i within ∙ e)

-- ---- tables of pairs

pub record Tabling (pairs : List Bound) (own : ℕ) (T : List (List ℕ)) (k : ℕ) : Type 0 where
  pub regular : Regular own (words own) T
  pub only : (l i : ℕ) → l < own → i < own → at T l i ≡ true → HasPair pairs l i
  pub all : (l i : ℕ) → l < own → i < own → HasPair pairs l i → (at T l i ≡ true) ⊎ HasPair (drop k pairs) l i

pub none_put : (pairs : List Bound) (own : ℕ) (T : List (List ℕ)) → Empty own (words own) T → Tabling pairs own T 0
none_put pairs own T empty = record {
  regular = empty.regular;
  only = λ l i h w e. absurd (true≢false (sym e ∙ empty.nothing l i h));
  all = λ l i h w p. inr p;
}

pub one_put : (pairs : List Bound) (own : ℕ) (T T' : List (List ℕ)) (k : ℕ) (d : Bound) → k < length pairs
    → ((w : ℕ) → Regular (length T) w T → Added w T T' (λ m i. (m ≡ (get_or pairs k d).long) × (i ≡ (get_or pairs k d).short)))
    → Tabling pairs own T k → Tabling pairs own T' (k + 1)
one_put pairs own T T' k d within put before = record {
  regular = subst (λ n. Regular n (words own) T') before.regular.count added.regular;
  only = λ l i h w e. was l i h w ((added.exact l i (omega (arith, h, before.regular.count)) (small i w)).0 e);
  all = λ l i h w p. is l i h w (before.all l i h w p);
} where
  b : Bound
  b = get_or pairs k d

  added : Added (words own) T T' (λ m i. (m ≡ b.long) × (i ≡ b.short))
  added = put (words own) (subst (λ n. Regular n (words own) T) (sym before.regular.count) before.regular)

  small : (i : ℕ) → i < own → i < 64 * words own
  small i w = omega (arith, w)

  was : (l i : ℕ) → l < own → i < own → (at T l i ≡ true) ⊎ ((l ≡ b.long) × (i ≡ b.short)) → HasPair pairs l i
  was l i h w (inl e) = before.only l i h w e
  was l i h w (inr e) = subst (λ m. HasPair pairs m i) (sym e.0) (subst (λ m. HasPair pairs b.long m) (sym e.1) (has_pair pairs k b (slice_get-get_or pairs k d within)))

  next : drop k pairs ≡ b ∷ drop (k + 1) pairs
  next = drop_more pairs k d within

  left : (l i : ℕ) → l < own → i < own → HasPair (b ∷ drop (k + 1) pairs) l i → (at T' l i ≡ true) ⊎ HasPair (drop (k + 1) pairs) l i
  left l i h w (inl e) = inl ((added.exact l i (omega (arith, h, before.regular.count)) (small i w)).1
      (inr (ap (λ (x : Bound). x.long) (sym e), ap (λ (x : Bound). x.short) (sym e))))
  left l i h w (inr p) = inr p

  is : (l i : ℕ) → l < own → i < own → (at T l i ≡ true) ⊎ HasPair (drop k pairs) l i → (at T' l i ≡ true) ⊎ HasPair (drop (k + 1) pairs) l i
  is l i h w (inl e) = inl ((added.exact l i (omega (arith, h, before.regular.count)) (small i w)).1 (inl e))
  is l i h w (inr p) = left l i h w (subst (λ ps. HasPair ps l i) next p)

pub all_put : (pairs : List Bound) (own : ℕ) (T : List (List ℕ)) (k : ℕ) → length pairs ≤ k → Tabling pairs own T k → IsTableOf pairs own T
all_put pairs own T k past before = record {
  regular = before.regular;
  exact = λ l i h w. (before.only l i h w, λ p. was l i (before.all l i h w p));
} where
  was : (l i : ℕ) → (at T l i ≡ true) ⊎ HasPair (drop k pairs) l i → at T l i ≡ true
  was l i (inl e) = e
  was l i (inr p) = absurd (subst (λ ps. HasPair ps l i) (drop_all k pairs past) p)

-- ---- the second rule

module _ (C : Context) (known : Known) (T K : List (List ℕ)) (sites own : ℕ) (knows : Knows C known) (own_are : own ≡ C.lifetimes.own)
    (table : IsTableOf known.pairs own K) where
  pub keeps_known : AllEndsIn T K sites own → Keeps C (written sites own T)
  keeps_known all x y h w e = let a : x < own = omega (arith, h, own_are) in let b : y < own = omega (arith, w, own_are) in
      let has = (both_of (nat_lt y own) (at T x (sites + y)) e).1 in
      ((knows.pairs x y).0 ((table.exact x y a b).0 (all x a y b has))).2

  pub known_ends : Keeps C (written sites own T) → AllEndsIn T K sites own
  known_ends keeps l h k w e = let a : l < C.lifetimes.own = omega (arith, h, own_are) in let b : k < C.lifetimes.own = omega (arith, w, own_are) in
      (table.exact l k h w).1 ((knows.pairs l k).1 (a, b, keeps l k a b (and_so (nat_lt k own) (at T l (sites + k)) (lt-ltb k own w) e)))
