-- A table that is filled in an order of the items says which structs and enums have values.
use Rattle.std.proofs.Common.{◌≡◌, ℕ, zero, suc, ◌+◌, ◌<◌, ◌≤◌, inl, inr, pos, Bool, true, false, ◌&&◌, ◌||◌, List, [], ◌∷◌, ◌++◌, length, map, drop, get_or, replicate, Option, Some, None, slice_get, slice_set, refl, sym, ap, ◌∙◌, subst, arith}
use Rattle.std.proofs.lemmas.List.{length-map, length-replicate}
use Rattle.std.proofs.lemmas.Option.{slice_get_past}
use Rattle.rx_core.specs.declared.types.Kind.{Kind}
use Rattle.rx_core.specs.declared.types.Ty.{Ty}
use Rattle.rx_graph_cycles.specs.Reaches.{targets, IsIn}
use Rattle.rx_graph_cycles.specs.Orders.{InOrder}
use Rattle.rx_graph_cycles.proofs.Ways.{is_in_front, is_in_behind}
use Rattle.rx_typed.specs.Types.{Typ, integer, boolean, tuple_of, reference, named, Shapes, no_shape, shape_and, shapes_of, shapes_listed}
use Rattle.rx_typed.specs.Types.{Declared, rt_declared, struct_declared, enum_declared, function_declared, Declarations, VariantDeclared, parts_declared, fields_declared, variants_declared}
use Rattle.rx_typed.specs.declared.declarations.Decl.{Decl}
use Rattle.rx_typed.specs.declared.declarations.FieldDecl.{FieldDecl}
use Rattle.rx_typed.specs.declared.declarations.VariantDecl.{VariantDecl}
use Rattle.rx_typed.specs.PlainTypes.{plain-Ty, plain-FieldDecl, plain-VariantDecl, plain-Decl, declarations}
use Rattle.rx_typed_declarations.specs.Held.{named_in, named_among, field_types, variant_types, held_by, held_by_each}
use Rattle.rx_typed_declarations.proofs.ItemLemmas.{held_of, targets_held}
use Rattle.rx_typed_declarations.proofs.Filling.{fill_by, all_filled}
use Rattle.rx_cover.specs.Values as value
use Rattle.rx_cover.specs.Values.{Values, number, tuple, made, pointing, no_value, value_and, IsOfType, AreOfTypes, is_struct}
use Rattle.rx_cover.specs.Inhabited.{told, Valued, AllValued, Inhabited, valued, all_valued, some_variant, declared_valued, fill}
use Rattle.rx_cover.proofs.CellLemmas.{at_next}

pub listed : (ts : List Typ) → shapes_listed (shapes_of ts) ≡ ts
listed [] = refl
listed (t ∷ ts) = ap (λ l. t ∷ l) (listed ts)

among_front : (ts us : List Typ) (i : ℕ) → IsIn (named_among (shapes_of ts)) i → IsIn (named_among (shapes_of (ts ++ us))) i
among_front [] us i h = absurd h
among_front (t ∷ ts) us i h = by (named_in t) h (among_front ts us i)
  where
    by : (ns : List ℕ) → IsIn (ns ++ named_among (shapes_of ts)) i → (IsIn (named_among (shapes_of ts)) i → IsIn (named_among (shapes_of (ts ++ us))) i) → IsIn (ns ++ named_among (shapes_of (ts ++ us))) i
    by [] h k = k h
    by (n ∷ ns) (inl e) k = inl e
    by (n ∷ ns) (inr h) k = inr (by ns h k)

among_behind : (ts us : List Typ) (i : ℕ) → IsIn (named_among (shapes_of us)) i → IsIn (named_among (shapes_of (ts ++ us))) i
among_behind [] us i h = h
among_behind (t ∷ ts) us i h = is_in_behind (named_in t) (named_among (shapes_of (ts ++ us))) i (among_behind ts us i h)

-- a variant of these has values, or none has
abbrev SomeValued : Declarations → List VariantDeclared → Bool → Type 0
SomeValued D vs true = (k : ℕ) × (k < length vs) × ((ws : Values) × AreOfTypes D (parts_declared (slice_get vs k)) ws)
SomeValued D vs false = (k : ℕ) → k < length vs → (ws : Values) → AreOfTypes D (parts_declared (slice_get vs k)) ws → ⊥

module _ (D : Declarations) (table : List Bool) where
  in_tuple : (ts : Shapes Kind) (b : Bool) → AllValued D (shapes_listed ts) b → Valued D (tuple_of ts) b
  in_tuple ts true a = (tuple a.0, a.1)
  in_tuple ts false n = none
    where
      none : (v : value.Value) → IsOfType D (tuple_of ts) v → ⊥
      none (tuple vs) h = n vs h
      none (number m) h = absurd h
      none (value.truth b) h = absurd h
      none (made i vs) h = absurd h
      none (value.variant i j vs) h = absurd h
      none (pointing v) h = absurd h

  in_reference : (m : Bool) (t : Typ) (b : Bool) → Valued D t b → Valued D (reference m t) b
  in_reference m t true a = (pointing a.0, a.1)
  in_reference m t false n = none
    where
      none : (v : value.Value) → IsOfType D (reference m t) v → ⊥
      none (pointing v) h = n v h
      none (number k) h = absurd h
      none (value.truth b) h = absurd h
      none (tuple vs) h = absurd h
      none (made i vs) h = absurd h
      none (value.variant i j vs) h = absurd h

  both : (t : Typ) (ts : List Typ) (a b : Bool) → Valued D t a → AllValued D ts b → AllValued D (t ∷ ts) (a && b)
  both t ts true true v vs = (value_and v.0 vs.0, (v.1, vs.1))
  both t ts true false v n = none
    where
      none : (ws : Values) → AreOfTypes D (t ∷ ts) ws → ⊥
      none no_value h = absurd h
      none (value_and w ws) h = n ws h.1
  both t ts false b n vs = none
    where
      none : (ws : Values) → AreOfTypes D (t ∷ ts) ws → ⊥
      none no_value h = absurd h
      none (value_and w ws) h = n w h.0

  nothing : AllValued D [] true
  nothing = (no_value, tt)

  mutual
    type_valued : (t : Typ) → ((i : ℕ) → IsIn (named_in t) i → Valued D (named i) (told table i)) → Valued D t (valued table t)
    type_valued (integer k) h = (number (pos 0), omega arith)
    type_valued boolean h = (value.truth false, tt)
    type_valued (tuple_of ts) h = in_tuple ts (all_valued table ts) (types_valued ts h)
    type_valued (reference m t) h = in_reference m t (valued table t) (type_valued t h)
    type_valued (named i) h = h i (inl refl)

    types_valued : (ts : Shapes Kind) → ((i : ℕ) → IsIn (named_among ts) i → Valued D (named i) (told table i)) → AllValued D (shapes_listed ts) (all_valued table ts)
    types_valued no_shape h = nothing
    types_valued (shape_and t ts) h = both t (shapes_listed ts) (valued table t) (all_valued table ts)
        (type_valued t (λ i is. h i (is_in_front (named_in t) (named_among ts) i is)))
        (types_valued ts (λ i is. h i (is_in_behind (named_in t) (named_among ts) i is)))

  pub list_valued : (ts : List Typ) → ((i : ℕ) → IsIn (named_among (shapes_of ts)) i → Valued D (named i) (told table i)) → AllValued D ts (all_valued table (shapes_of ts))
  list_valued ts h = subst (λ l. AllValued D l (all_valued table (shapes_of ts))) (listed ts) (types_valued (shapes_of ts) h)

  some_valued : (vs : List VariantDeclared) → ((i : ℕ) → IsIn (named_among (shapes_of (variant_types vs))) i → Valued D (named i) (told table i)) → SomeValued D vs (some_variant table vs)
  some_valued [] h = λ k l. absurd (omega (arith, l))
  some_valued (v ∷ vs) h = by (all_valued table (shapes_of v.parts)) (some_variant table vs)
      (list_valued v.parts (λ i is. h i (among_front v.parts (variant_types vs) i is)))
      (some_valued vs (λ i is. h i (among_behind v.parts (variant_types vs) i is)))
    where
      by : (a b : Bool) → AllValued D v.parts a → SomeValued D vs b → SomeValued D (v ∷ vs) (a || b)
      by true b a s = (0, omega arith, a)
      by false true n s = let l = s.1 in (suc s.0, omega (arith, l), s.2)
      by false false n s = none
        where
          none : (k : ℕ) → k < length (v ∷ vs) → (ws : Values) → AreOfTypes D (parts_declared (slice_get (v ∷ vs) k)) ws → ⊥
          none zero l = n
          none (suc k) l = s k (omega (arith, l))

  in_struct : (n : ℕ) (o : Option Declared) → slice_get D n ≡ o → is_struct o ≡ true → variants_declared o ≡ [] → (b : Bool) → AllValued D (field_types (fields_declared o)) b → Valued D (named n) b
  in_struct n o e s w true a = (made n a.0, (refl, ap is_struct e ∙ s, subst (λ x. AreOfTypes D (field_types (fields_declared x)) a.0) (sym e) a.1))
  in_struct n o e s w false a = none
    where
      none : (v : value.Value) → IsOfType D (named n) v → ⊥
      none (made j vs) h = a vs (subst (λ x. AreOfTypes D (field_types (fields_declared x)) vs) e h.2)
      none (value.variant j k vs) h = let q = ap length (ap variants_declared e ∙ w) in let l = h.1 in omega (arith, q, l)
      none (number m) h = absurd h
      none (value.truth b) h = absurd h
      none (tuple vs) h = absurd h
      none (pointing v) h = absurd h

  in_enum : (n : ℕ) (o : Option Declared) → slice_get D n ≡ o → is_struct o ≡ false → (b : Bool) → SomeValued D (variants_declared o) b → Valued D (named n) b
  in_enum n o e s true a = (value.variant n a.0 a.2.0, (refl, subst (λ x. a.0 < length (variants_declared x)) (sym e) a.1, subst (λ x. AreOfTypes D (parts_declared (slice_get (variants_declared x) a.0)) a.2.0) (sym e) a.2.1))
  in_enum n o e s false a = none
    where
      none : (v : value.Value) → IsOfType D (named n) v → ⊥
      none (value.variant j k vs) h = a k (subst (λ x. k < length (variants_declared x)) e h.1) vs (subst (λ x. AreOfTypes D (parts_declared (slice_get (variants_declared x) k)) vs) e h.2)
      none (made j vs) h = let q = ap is_struct e in let r = h.1 in cc
      none (number m) h = absurd h
      none (value.truth b) h = absurd h
      none (tuple vs) h = absurd h
      none (pointing v) h = absurd h

  no_variants : SomeValued D [] false
  no_variants = λ k l. absurd (omega (arith, l))

  item_valued : (n : ℕ) (o : Option Declared) → slice_get D n ≡ o → ((i : ℕ) → IsIn (held_of o) i → Valued D (named i) (told table i)) → Valued D (named n) (declared_valued table o)
  item_valued n None e h = in_enum n None e refl false no_variants
  item_valued n (Some rt_declared) e h = in_enum n (Some rt_declared) e refl false no_variants
  item_valued n (Some (struct_declared c l fs)) e h = in_struct n (Some (struct_declared c l fs)) e refl refl (all_valued table (shapes_of (field_types fs))) (list_valued (field_types fs) h)
  item_valued n (Some (enum_declared c l vs)) e h = in_enum n (Some (enum_declared c l vs)) e refl (some_variant table vs) (some_valued vs h)
  item_valued n (Some (function_declared ps t)) e h = in_enum n (Some (function_declared ps t)) e refl false no_variants

-- ---- a table that is filled in an order

valued_by : Declarations → List Bool → ℕ → Bool
valued_by D table n = declared_valued table (slice_get D n)

fill_is : (D : Declarations) (table : List Bool) (order : List ℕ) → fill D table order ≡ fill_by (valued_by D) table order
unfolding valued_by
fill_is D table [] = refl
fill_is D table (n ∷ ns) = fill_is D (slice_set table n (declared_valued table (slice_get D n))) ns

past : (D : Declarations) (i : ℕ) → length (held_by_each D) ≤ i → Valued D (named i) false
past D i le = in_enum D [] i None (slice_get_past D i (rw (sym (length-map D held_by)) le)) refl false (no_variants D [])

step : (D : Declarations) (table : List Bool) (n : ℕ) → ((j : ℕ) → IsIn (targets (held_by_each D) n) j → Valued D (named j) (told table j)) → Valued D (named n) (valued_by D table n)
unfolding valued_by
step D table n h = item_valued D table n (slice_get D n) refl (λ j is. h j (subst (λ l. IsIn l j) (sym (targets_held D n)) is))

filled : (D : Declarations) (table : List Bool) (order : List ℕ) → length table ≡ length D → InOrder (held_by_each D) order → Inhabited D (fill D table order)
filled D table order whole is = record {
  each = λ i. subst (λ l. Valued D (named i) (told l i)) (sym (fill_is D table order))
      (all_filled Bool false (held_by_each D) (λ j b. Valued D (named j) b) (valued_by D) (past D) (step D) order table (whole ∙ sym (length-map D held_by)) is i);
}

-- the same, where the code has equations
pub inhabited_at : (items : List Decl) (edges : List (List ℕ)) (order order' : List ℕ) (start table : List Bool)
    → edges ≡ held_by_each (declarations items) → InOrder edges order → order' ≡ order → start ≡ replicate (length items) false
    → table ≡ fill (declarations items) start order' → Inhabited (declarations items) table
inhabited_at items edges order order' start table edges_are is same none table_is =
    let D = declarations items in
    let before = replicate (length items) false in
    let all : table ≡ fill D before order = table_is ∙ ap (λ l. fill D l order') none ∙ ap (λ l. fill D before l) same in
    subst (λ l. Inhabited D l) (sym all)
    (filled D before order (length-replicate (length items) false ∙ sym (length-map items plain-Decl)) (subst (λ g. InOrder g order) edges_are is))

-- ---- as the code goes through lists

module _ (table : List Bool) where
  pub types_next : (xs : List Ty) (i : ℕ) (x : Ty) (b : Bool) → i < length xs → x ≡ get_or xs i x → b ≡ valued table (plain-Ty x)
      → all_valued table (shapes_of (map plain-Ty (drop i xs))) ≡ (b && all_valued table (shapes_of (map plain-Ty (drop (i + 1) xs))))
  types_next xs i x b l e v = at_next (λ ys. all_valued table (shapes_of (map plain-Ty ys))) xs i x l e ∙ ap (λ c. c && all_valued table (shapes_of (map plain-Ty (drop (i + 1) xs)))) (sym v)

  pub fields_next : (xs : List FieldDecl) (i : ℕ) (x : FieldDecl) (b : Bool) → i < length xs → x ≡ get_or xs i x → b ≡ valued table (plain-Ty x.ty)
      → all_valued table (shapes_of (field_types (map plain-FieldDecl (drop i xs)))) ≡ (b && all_valued table (shapes_of (field_types (map plain-FieldDecl (drop (i + 1) xs)))))
  fields_next xs i x b l e v = at_next (λ ys. all_valued table (shapes_of (field_types (map plain-FieldDecl ys)))) xs i x l e ∙ ap (λ c. c && all_valued table (shapes_of (field_types (map plain-FieldDecl (drop (i + 1) xs))))) (sym v)

  pub variants_next : (xs : List VariantDecl) (i : ℕ) (x : VariantDecl) (b : Bool) → i < length xs → x ≡ get_or xs i x → b ≡ all_valued table (shapes_of (map plain-Ty x.parts))
      → some_variant table (map plain-VariantDecl (drop i xs)) ≡ (b || some_variant table (map plain-VariantDecl (drop (i + 1) xs)))
  variants_next xs i x b l e v = at_next (λ ys. some_variant table (map plain-VariantDecl ys)) xs i x l e ∙ ap (λ c. c || some_variant table (map plain-VariantDecl (drop (i + 1) xs))) (sym v)

pub all_known : (D : Declarations) (table : List Bool) (ts : List Typ) → Inhabited D table → AllValued D ts (all_valued table (shapes_of ts))
all_known D table ts known = list_valued D table ts (λ i is. known.each i)
