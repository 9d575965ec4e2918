-- Where no level and no number of parts that an extraction makes is past its limit, its enum of exits keeps the limits of a declaration, and the types of its
-- new function those of a type.
use Rattle.std.proofs.lemmas.Bool.{and_from, le-leb, ltb-false}
use Rattle.std.proofs.Common.{◌≡◌, ℕ, zero, suc, ◌≤◌, nat_le, nat_lt, Bool, true, false, if◌then◌else◌, List, [], ◌∷◌, ◌++◌, map, Some, None, refl, sym, ap, subst, arith}
use Rattle.rx_tree.specs.Lists.{Every}
use Rattle.rx_graph_cycles.specs.Reaches.{NoCycle}
use Rattle.rx_core.specs.declared.types.Kind.{Kind}
use Rattle.rx_typed.specs.Types.{Typ, Shape, Shapes, integer, boolean, tuple_of, reference, named, no_shape, shape_and, Declarations, levels, at_least_one, parts, sum_of_parts, keeps_limits}
use Rattle.rx_typed_declarations.specs.Held.{held_by_each}
use Rattle.rx_typed_declarations.specs.Sizes.{Sized}
use Rattle.rx_typeck_solver.specs.Facts.{KnownItems}
use Rattle.rx_hoist_extraction.specs.Plan.{Plan, has_enum}
use Rattle.rx_hoist_extraction.specs.NewEnum.{all_fields}
use Rattle.rx_hoist_extraction.specs.NewFunction.{passed_types}
use Rattle.rx_hoist_extraction.specs.Limits.{first_past, end_types, made_levels, enum_parts, made_parts}
use Rattle.rx_engine_names.proofs.ExtractionItems.{every_front}
use Rattle.rx_engine_blocks.specs.Renumbering.{Renumbering, shape_at}
use Rattle.rx_engine_blocks.specs.Knows.{Knows}
use Rattle.rx_engine_declared.proofs.Sizes.{parts_stay}
use Rattle.rx_engine_kept.specs.EnumFits.{EnumFits}
use Rattle.rx_engine_kept.proofs.SameLimits.{levels_stay}

first_within : (limit n : ℕ) (ns : List ℕ) → first_past limit (n ∷ ns) ≡ None → (n ≤ limit) × (first_past limit ns ≡ None)
first_within limit n ns e = by (nat_lt limit n) refl e
  where
    by : (b : Bool) → nat_lt limit n ≡ b → (if b then Some n else first_past limit ns) ≡ None → (n ≤ limit) × (first_past limit ns ≡ None)
    by true l e = absurd (cc)
    by false l e = (ltb-false limit n l, e)

each_within : (limit : ℕ) (f : Typ → ℕ) (ts : List Typ) → first_past limit (map f ts) ≡ None → Every (λ (t : Typ). f t ≤ limit) ts
each_within limit f [] e = tt
each_within limit f (t ∷ ts) e = let a = first_within limit (f t) (map f ts) e in (a.0, each_within limit f ts a.1)

fields_low : (b : Bool) (fs rest : List Typ) → b ≡ true → first_past 128 (map levels ((if b then fs else []) ++ rest)) ≡ None → Every (λ (t : Typ). levels t ≤ 128) fs
fields_low true fs rest h e = (every_front (λ (t : Typ). levels t ≤ 128) fs rest (each_within 128 levels (fs ++ rest) e)).0
fields_low false fs rest h e = absurd (cc)

enum_few : (b : Bool) (n : ℕ) (ns ms : List ℕ) → b ≡ true → first_past 4096 (if b then n ∷ ns else ms) ≡ None → n ≤ 4096
enum_few true n ns ms h e = (first_within 4096 n ns e).0
enum_few false n ns ms h e = absurd (cc)

pub limits_give_fits : ((D : Declarations) (P Q : ℕ → ℕ) → NoCycle (held_by_each D) → Sized D P → Sized D Q → (i : ℕ) → P i ≡ Q i)
    → (D : Declarations) (pl : Plan) (Z : ℕ → ℕ) → NoCycle (held_by_each D) → Sized D Z → first_past 128 (made_levels pl) ≡ None → first_past 4096 (made_parts Z pl) ≡ None → EnumFits D pl
limits_give_fits one D pl Z none z low few h = (
  λ W w.
      let same = one D W Z none w z in
      subst (λ (n : ℕ). n ≤ 4096) (sym (ap (λ (P : ℕ → ℕ). enum_parts P pl) (λ i n. same n i)))
      (enum_few (has_enum pl.exits) (enum_parts Z pl) (map (parts Z) (passed_types pl.params)) (map (parts Z) (passed_types pl.params ++ end_types pl)) h few),
  fields_low (has_enum pl.exits) (all_fields pl pl.exits) (passed_types pl.params ++ end_types pl) h low,
)

-- ---- the types of the new function

least_less : (a b : ℕ) → a ≤ b → at_least_one a ≤ at_least_one b
least_less zero zero l = omega arith
least_less zero (suc b) l = omega arith
least_less (suc a) zero l = absurd (omega (arith, l))
least_less (suc a) (suc b) l = l

-- fewer parts of structs and enums, fewer of all types
module _ (P Q : ℕ → ℕ) (less : (i : ℕ) → P i ≤ Q i) where
  mutual
    parts_less : (t : Shape Kind) → parts P t ≤ parts Q t
    parts_less (integer k) = omega arith
    parts_less boolean = omega arith
    parts_less (tuple_of ts) = least_less (sum_of_parts P ts) (sum_of_parts Q ts) (sum_less ts)
    parts_less (reference m t) = let l = parts_less t in omega (arith, l)
    parts_less (named i) = less i

    sum_less : (ts : Shapes Kind) → sum_of_parts P ts ≤ sum_of_parts Q ts
    sum_less no_shape = omega arith
    sum_less (shape_and t ts) = let l = parts_less t in let m = sum_less ts in omega (arith, l, m)

-- the parts of what is passed, and without an enum of what the end hands out
parts_within : (b : Bool) (f : Typ → ℕ) (n : ℕ) (ts us : List Typ) → first_past 4096 (if b then n ∷ map f ts else map f (ts ++ us)) ≡ None
    → Every (λ (t : Typ). f t ≤ 4096) ts × (b ≡ false → Every (λ (t : Typ). f t ≤ 4096) us)
parts_within true f n ts us e = (each_within 4096 f ts (first_within 4096 n (map f ts) e).1, λ h. absurd (cc))
parts_within false f n ts us e = let a = every_front (λ (t : Typ). f t ≤ 4096) ts us (each_within 4096 f (ts ++ us) e) in (a.0, λ h. a.1)

module _ (r : Renumbering) (D E : KnownItems) (k : Knows r D E) (Z : ℕ → ℕ) (less : (i : ℕ) → D.sizes i ≤ Z i) where
  abbrev Keeps : Typ → Type 0
  Keeps t = keeps_limits E.sizes (shape_at r t) ≡ true

  type_keeps : (t : Typ) → levels t ≤ 128 → parts Z t ≤ 4096 → Keeps t
  type_keeps t l p =
      let here = parts_less (λ i. E.sizes (r.items i)) Z (λ i. subst (λ (n : ℕ). n ≤ Z i) (sym (k.sizes i)) (less i)) t in
      let few : parts E.sizes (shape_at r t) ≤ 4096 = subst (λ (n : ℕ). n ≤ 4096) (sym (parts_stay r E.sizes t)) (omega (arith, here, p)) in
      let low : levels (shape_at r t) ≤ 128 = subst (λ (n : ℕ). n ≤ 128) (sym (levels_stay r t)) l in
      and_from (nat_le (parts E.sizes (shape_at r t)) 4096) (nat_le (levels (shape_at r t)) 128) (le-leb (parts E.sizes (shape_at r t)) 4096 few) (le-leb (levels (shape_at r t)) 128 low)

  each_keeps : (ts : List Typ) → Every (λ (t : Typ). levels t ≤ 128) ts → Every (λ (t : Typ). parts Z t ≤ 4096) ts → Every Keeps ts
  each_keeps [] l p = tt
  each_keeps (t ∷ ts) l p = (type_keeps t l.0 p.0, each_keeps ts l.1 p.1)

  pub signature_keeps : (pl : Plan) → first_past 128 (made_levels pl) ≡ None → first_past 4096 (made_parts Z pl) ≡ None → Every Keeps (passed_types pl.params) × (has_enum pl.exits ≡ false → Every Keeps (end_types pl))
  signature_keeps pl low few =
      let fields : List Typ = if has_enum pl.exits then all_fields pl pl.exits else [] in
      let given = passed_types pl.params in
      let ends = end_types pl in
      let a = every_front (λ (t : Typ). levels t ≤ 128) fields (given ++ ends) (each_within 128 levels (fields ++ (given ++ ends)) low) in
      let b = every_front (λ (t : Typ). levels t ≤ 128) given ends a.1 in
      let p = parts_within (has_enum pl.exits) (parts Z) (enum_parts Z pl) given ends few in
      (each_keeps given b.0 p.0, λ h. each_keeps ends b.1 (p.1 h))
