-- The rows tell what is known.
use Rattle.std.proofs.Common.{◌≡◌, ◌↔◌, ◌⊎◌, inl, inr, ℕ, ◌<◌, ◌≤◌, Bool, true, false, ◌&&◌, ◌||◌, ◌==◌, nat_lt, List, [], Option, Some, None, slice_get, refl, sym, ap, ◌∙◌, subst, arith}
use Rattle.std.proofs.lemmas.Bool.{cases_lt, eqb-true, eq-eqb, ltb-true, lt-ltb, or_left, or_right, and_from}
use Rattle.rx_core.specs.declared.types.Bound.{Bound}
use Rattle.rx_graph.specs.Tables.{at}
use Rattle.rx_graph.proofs.Spreading.{both_of}
use Rattle.rx_graph_closure.specs.Closing.{Within}
use Rattle.rx_typed.specs.declared.declarations.Decl.{Decl}
use Rattle.rx_typed.specs.declared.declarations.Decl.TheVariants as decl
use Rattle.rx_typed.specs.Regions.{regions}
use Rattle.rx_region_outlives.specs.Related.{outlives}
use Rattle.rx_region_outlives.specs.Implied.{ImpliesOf}
use Rattle.rx_region.specs.Tables.{Follows, ClosedFrom}
use Rattle.rx_region.specs.Tables as tables
use Rattle.rx_compact.specs.Outliving.{Outlives}
use Rattle.rx_compact.specs.Outliving as outliving
use Rattle.rx_compact.specs.Compacted.{Tells}
use Rattle.rx_compact.proofs.Telling.{known_follows}
use Rattle.rx_compact_known.specs.Knowing.{outlives_by, said}
use Rattle.rx_compact_known.proofs.Closing.{pair_has}

-- ---- what rows tell follows along the pairs

either : (a b : Bool) → (a || b) ≡ true → (a ≡ true) ⊎ (b ≡ true)
either true b h = inl refl
either false b h = inr h

module _ (pairs : List Bound) (n : ℕ) (T : List (List ℕ)) (within : Within pairs n) (closed : ClosedFrom pairs n T) where
  inside : (l k : ℕ) → l < n → Follows pairs l k → k < n
  inside l k h tables.itself = h
  inside l k h (tables.by m pair rest) = inside m k (within (outlives l m) (pair_has pairs l m pair)).1 rest

  -- what has no row outlives itself alone
  outside : (l k : ℕ) → (l < n → k < n → ⊥) → Follows pairs l k → l ≡ k
  outside l k h tables.itself = refl
  outside l k h (tables.by m pair rest) = let p = within (outlives l m) (pair_has pairs l m pair) in absurd (h p.0 (inside m k p.1 rest))

  told : (l k : ℕ) → outlives_by T n l k ≡ true → Follows pairs l k
  told l k e = by (either (l == k) ((nat_lt l n && nat_lt k n) && at T l k) e) where
    by : ((l == k) ≡ true) ⊎ (((nat_lt l n && nat_lt k n) && at T l k) ≡ true) → Follows pairs l k
    by (inl s) = subst (λ m. Follows pairs l m) (eqb-true l k s) tables.itself
    by (inr b) =
        let both = both_of (nat_lt l n && nat_lt k n) (at T l k) b in
        let low = both_of (nat_lt l n) (nat_lt k n) both.0 in
        (closed.exact within l k (ltb-true l n low.0) (ltb-true k n low.1)).0 both.1

  tells : (l k : ℕ) → Follows pairs l k → outlives_by T n l k ≡ true
  tells l k f = by (cases_lt l n) (cases_lt k n) where
    same : l ≡ k → outlives_by T n l k ≡ true
    same e = or_left (l == k) ((nat_lt l n && nat_lt k n) && at T l k) (eq-eqb l k e)

    by : (l < n) ⊎ (n ≤ l) → (k < n) ⊎ (n ≤ k) → outlives_by T n l k ≡ true
    by (inl a) (inl b) = or_right (l == k) ((nat_lt l n && nat_lt k n) && at T l k)
        (and_from (nat_lt l n && nat_lt k n) (at T l k) (and_from (nat_lt l n) (nat_lt k n) (lt-ltb l n a) (lt-ltb k n b)) ((closed.exact within l k a b).1 f))
    by (inr a) _ = same (outside l k (λ x y. omega (arith, x, a)) f)
    by (inl a) (inr b) = same (outside l k (λ x y. omega (arith, y, b)) f)

  pub rows_tell : (l k : ℕ) → (outlives_by T n l k ≡ true) ↔ Follows pairs l k
  rows_tell l k = (told l k, tells l k)

-- ---- what follows along the pairs of an item is known

nothing : (D : List Decl) (o : Option Decl) (l k : ℕ) → ((a b : ℕ) → outliving.Says D o a b → ⊥) → Follows [] l k ↔ Outlives D o l k
nothing D o l k none = (there l k, back l k) where
  there : (a b : ℕ) → Follows [] a b → Outlives D o a b
  there a b tables.itself = outliving.itself
  there a b (tables.by m pair rest) = absurd pair

  back : (a b : ℕ) → Outlives D o a b → Follows [] a b
  back a b outliving.itself = tables.itself
  back a b (outliving.by m says rest) = absurd (none a m says)

said_known : (D : List Decl) (P : ℕ → List Bound) → ((i : ℕ) → ImpliesOf (regions D) i (P i)) → (o : Option Decl) (l k : ℕ) → Follows (said P o) l k ↔ Outlives D o l k
said_known D P asked None l k = nothing D None l k (λ a b s. s)
said_known D P asked (Some decl.Rt) l k = nothing D (Some decl.Rt) l k (λ a b s. s)
said_known D P asked (Some (decl.Struct c n vs fs)) l k = nothing D (Some (decl.Struct c n vs fs)) l k (λ a b s. s)
said_known D P asked (Some (decl.Enum c n vs ds)) l k = nothing D (Some (decl.Enum c n vs ds)) l k (λ a b s. s)
said_known D P asked (Some (decl.Func n ps t bs)) l k = known_follows D P asked n ps t bs l k

pub all_told : (D : List Decl) (P : ℕ → List Bound) → ((i : ℕ) → ImpliesOf (regions D) i (P i)) → (i : ℕ) (pairs : List Bound) → pairs ≡ said P (slice_get D i)
    → (n : ℕ) (T : List (List ℕ)) → Within pairs n → ClosedFrom pairs n T → Tells D i (outlives_by T n)
all_told D P asked i pairs is n T within closed l k =
    let rows = rows_tell pairs n T within closed l k in
    let known = subst (λ qs. Follows qs l k ↔ Outlives D (slice_get D i) l k) (sym is) (said_known D P asked (slice_get D i) l k) in
    (λ e. known.0 (rows.0 e), λ o. rows.1 (known.1 o))
