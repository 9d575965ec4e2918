-- A table that is filled has exactly what each set must hold.
use Rattle.std.proofs.Common.{◌≡◌, ◌↔◌, ◌⊎◌, inl, inr, ℕ, ◌+◌, ◌*◌, ◌<◌, ◌≤◌, true, List, length, map, drop, take, get_or, sym, ap, ◌∙◌, subst, arith}
use Rattle.rx_graph_bits.specs.Rows.{words}
use Rattle.rx_core.specs.declared.types.Ty.{Ty}
use Rattle.rx_graph_cycles.specs.Reaches.{IsIn}
use Rattle.rx_typed.specs.Regions.{RegionTyp, region-Ty, lifetimes_in}
use Rattle.rx_typed.specs.Tree.{Root, variable, temporary}
use Rattle.rx_lower_walks.specs.Graph.{Site}
use Rattle.rx_typed.specs.Renaming.{unit_region}
use Rattle.rx_facts_tables.specs.declared.table.LiveTable.{LiveTable}
use Rattle.rx_facts_tables.specs.Live.{IsLive}
use Rattle.rx_facts_tables.specs.LiveTables.{Lives}
use Rattle.rx_region.specs.Constraints.{Context, root_type, variables_of, temporary_type}
use Rattle.rx_region.specs.Solutions.{Point, site, end}
use Rattle.rx_region.specs.Points.{number, has_point}
use Rattle.rx_region.specs.Seeds.{AllBelow}
use Rattle.rx_region.specs.Tables.{Must, AllLived, Seeded}
use Rattle.rx_region.specs.Tables as tables
use Rattle.rx_region.proofs.Points.{there, within_words, Inside, point_inside, point_has}
use Rattle.rx_region.proofs.Rooting.{Named, variable_in, temporary_in, map_behind, named_behind}
use Rattle.rx_region.proofs.Seeding.{live_within}

module _ (C : Context) (g : List Site) (ts : List Ty) (types_are : C.lifetimes.types ≡ map region-Ty ts) where
  behind_types : drop (variables_of C.lifetimes) C.lifetimes.types ≡ map region-Ty (drop (variables_of C.lifetimes) ts)
  behind_types = ap (λ ys. drop (variables_of C.lifetimes) ys) types_are ∙ sym (map_behind ts (variables_of C.lifetimes))

  live_all : (r : Root) (l i : ℕ) → IsLive g r i → IsIn (lifetimes_in (root_type C.lifetimes r)) l → AllLived C.lifetimes g l i
  live_all (variable x) l i live among =
      let r = variable_in ts (variables_of C.lifetimes) x l
      (subst (λ (ys : List RegionTyp). IsIn (lifetimes_in (get_or (take (variables_of C.lifetimes) ys) x unit_region)) l) types_are among) in
      inl (record { number = x; below = r.0; lived = record { live = live; among = among } })
  live_all (temporary t) l i live among =
      let r = temporary_in C.lifetimes.temporaries (drop (variables_of C.lifetimes) ts) t l
      (subst (λ (ys : List RegionTyp). IsIn (lifetimes_in (temporary_type C.lifetimes.temporaries ys t)) l) behind_types among) in
      let p = r.0 in
      inr (record { place = p.place; below = p.below; which = t; stands = p.stands; lived = record { live = live; among = among } })

  named_root : (r : Root) (l : ℕ) → IsIn (lifetimes_in (root_type C.lifetimes r)) l → Named ts l
  named_root (variable x) l among =
      (variable_in ts (variables_of C.lifetimes) x l
      (subst (λ (ys : List RegionTyp). IsIn (lifetimes_in (get_or (take (variables_of C.lifetimes) ys) x unit_region)) l) types_are among)).1
  named_root (temporary t) l among = named_behind ts (variables_of C.lifetimes) l
      (temporary_in C.lifetimes.temporaries (drop (variables_of C.lifetimes) ts) t l
      (subst (λ (ys : List RegionTyp). IsIn (lifetimes_in (temporary_type C.lifetimes.temporaries ys t)) l) behind_types among)).1

  all_live : (l i : ℕ) → AllLived C.lifetimes g l i → Must C g l (site i)
  all_live l i (inl x) = tables.live (variable x.number) x.lived.live x.lived.among
  all_live l i (inr x) = tables.live (temporary x.which) x.lived.live x.lived.among

  lived_within : (l i : ℕ) → AllLived C.lifetimes g l i → i < length g
  lived_within l i (inl x) = live_within g (variable x.number) i x.lived.live
  lived_within l i (inr x) = live_within g (temporary x.which) i x.lived.live

  module _ (t : LiveTable) (count n w : ℕ) (T : List (List ℕ)) (seeded : Seeded C.lifetimes t count n w T) (lives : Lives g t) (size : n ≡ length g)
      (wide : w ≡ words (n + C.lifetimes.own)) (own_below : C.lifetimes.own ≤ count) (below : AllBelow ts count) where
    Parts : ℕ → ℕ → Type 0
    Parts l i = ((l < C.lifetimes.own) × (i < n)) ⊎ (((l < C.lifetimes.own) × (i ≡ n + l)) ⊎ AllLived C.lifetimes g l i)

    came : (l : ℕ) (x : Point) → Inside n x → ((l < C.lifetimes.own) × (number n x < n)) ⊎ (((l < C.lifetimes.own) × (number n x ≡ n + l)) ⊎ AllLived C.lifetimes g l (number n x))
        → Must C g l x
    came l (site p) h (inl e) = tables.whole e.0 (subst (λ k. p < k) size h)
    came l (site p) h (inr (inl e)) = absurd (let y = e.1 in omega (arith, h, y))
    came l (site p) h (inr (inr e)) = all_live l p e
    came l (end k) h (inl e) = absurd (let y = e.1 in omega (arith, y))
    came l (end k) h (inr (inl e)) = subst (λ m. Must C g l (end m)) (let y = e.1 in omega (arith, y)) (tables.ends e.0)
    came l (end k) h (inr (inr e)) = absurd (let y = lived_within l (n + k) e in omega (arith, y, size))

    has : (l : ℕ) (x : Point) → l < count → Inside n x → number n x < 64 * w
        → ((l < C.lifetimes.own) × (number n x < n)) ⊎ (((l < C.lifetimes.own) × (number n x ≡ n + l)) ⊎ AllLived C.lifetimes g l (number n x)) → has_point T n l x ≡ true
    has l x k h j e = point_has T n l x h ((seeded.exact g lives size l (number n x) k j).1 e)

    goes : (l : ℕ) (x : Point) → Must C g l x → has_point T n l x ≡ true
    goes l x (tables.whole {p = p} a b) = let q = subst (λ k. p < k) (sym size) b in
        has l (site p) (omega (arith, a, own_below)) q (omega (arith, q, wide)) (inl (a, q))
    goes l x (tables.ends a) = has l (end l) (omega (arith, a, own_below)) tt (omega (arith, a, wide)) (inr (inl (a, refl_of l)))
      where
        refl_of : (m : ℕ) → n + m ≡ n + m
        refl_of m = omega arith
    goes l x (tables.live {p = p} r live among) =
        let q = subst (λ k. p < k) (sym size) (live_within g r p live) in
        let m = named_root r l among in
        has l (site p) (below m.place m.typ m.stands l m.among) q (omega (arith, q, wide)) (inr (inr (live_all r l p live among)))

    pub musts : (l : ℕ) (x : Point) → (has_point T n l x ≡ true) ↔ Must C g l x
    musts l x = (
      λ e. let h = point_inside T n l x e in
          let k = there T l (number n x) h.1 in
          came l x h.0 ((seeded.exact g lives size l (number n x) (omega (arith, k, seeded.regular.count)) (within_words count w T l (number n x) seeded.regular h.1)).0 h.1),
      λ m. goes l x m,
    )
