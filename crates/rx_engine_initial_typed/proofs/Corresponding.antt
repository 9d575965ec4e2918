-- A variable of the text's type, by other numbers of items, has the parts of the text's; a place of it has the type of the text's.
use Rattle.std.proofs.Common.{arith, ◌≡◌, ℕ, zero, suc, ◌+◌, ◌-◌, ◌≤◌, nat_le, nat_lt, Bool, true, not, ◌&&◌, List, [], ◌∷◌, map, Option, Some, None, option_map, slice_get, refl, sym, ◌∙◌, subst, ap, leb-true, ltb-true, le-leb, lt-ltb}
use Rattle.rx_core.specs.declared.types.Kind.{Kind}
use Rattle.rx_core.specs.declared.types.Step.{Step}
use Rattle.rx_typed.specs.Types.{Shapes, Typ, integer, boolean, tuple_of, reference, named, no_shape, shape_and, shapes_listed, shapes_of, parts, sum_of_parts, at_least_one, derives_copy, copies, all_copy, FieldDeclared, VariantDeclared, Declared, rt_declared, struct_declared, enum_declared, function_declared, variants_declared}
use Rattle.rx_typed.specs.Tree.{own}
use Rattle.rx_typed_declarations.specs.Held.{field_types}
use Rattle.rx_facts_tables.specs.Places.{Frame, Spot, whole, fields, nowhere, Located, spot_parts, nth_field, nth_variant, struct_fields, field_of, variant_of, located, typed_spot, nth_variable, is_part, spans, place_at}
use Rattle.rx_facts_tables.specs.Wholes.{placed}
use Rattle.rx_engine_blocks.specs.Renumbering.{Renumbering, shape_at, shapes_at, field_at, variant_at, declared_at}
use Rattle.rx_engine_initial.specs.Variables.{Sides, SameWay, both_end, both_field, both_variant, both_behind, LikePart, LikeVariable, type_at}
use Rattle.rx_engine_initial.proofs.Uses.{some_is}
use Rattle.rx_engine_initial.proofs.Ways.{and_left, and_right, and_both, agree}
use Rattle.rx_engine_initial_typed.specs.SameTypes.{DeclaresAlike, SameTyp, SameVariable}
use Rattle.rx_engine_initial_typed.specs.ByType.{MovesByType}

module _ (r : Renumbering) where
  abbrev pub spot_at : Spot → Spot
  spot_at (whole t) = whole (shape_at r t)
  spot_at (fields ts) = fields (map (shape_at r) ts)
  spot_at nowhere = nowhere

  listed_at : (ts : Shapes Kind) → shapes_listed (shapes_at r ts) ≡ map (shape_at r) (shapes_listed ts)
  listed_at no_shape = refl
  listed_at (shape_and t ts) = ap (λ us. shape_at r t ∷ us) (listed_at ts)

  types_in : (fs : List FieldDeclared) → field_types (map (field_at r) fs) ≡ map (shape_at r) (field_types fs)
  types_in [] = refl
  types_in (f ∷ fs) = ap (λ ts. shape_at r f.typ ∷ ts) (types_in fs)

  fields_in : (d : Option Declared) → struct_fields (option_map (declared_at r) d) ≡ map (shape_at r) (struct_fields d)
  fields_in None = refl
  fields_in (Some rt_declared) = refl
  fields_in (Some (struct_declared c l fs)) = types_in fs
  fields_in (Some (enum_declared c l vs)) = refl
  fields_in (Some (function_declared ps t)) = refl

  variants_in : (d : Option Declared) → variants_declared (option_map (declared_at r) d) ≡ map (variant_at r) (variants_declared d)
  variants_in None = refl
  variants_in (Some rt_declared) = refl
  variants_in (Some (struct_declared c l fs)) = refl
  variants_in (Some (enum_declared c l vs)) = refl
  variants_in (Some (function_declared ps t)) = refl

  copy_in : (d : Option Declared) → derives_copy (option_map (declared_at r) d) ≡ derives_copy d
  copy_in None = refl
  copy_in (Some rt_declared) = refl
  copy_in (Some (struct_declared c l fs)) = refl
  copy_in (Some (enum_declared c l vs)) = refl
  copy_in (Some (function_declared ps t)) = refl

spot_of : (P : ℕ → ℕ) (ts : List (Option Typ)) (x n : ℕ) → (nth_variable P ts x n).spot ≡ typed_spot (type_at ts x)
spot_of P [] x n = refl
spot_of P (t ∷ ts) zero n = refl
spot_of P (t ∷ ts) (suc x) n = spot_of P ts x (n + spot_parts P (typed_spot t))

module _ (r : Renumbering) (F F' : Frame) (alike : DeclaresAlike r F F') where
  abbrev P : ℕ → ℕ
  P = F.sizes

  abbrev P' : ℕ → ℕ
  P' = F'.sizes

  -- ---- types

  mutual
    parts_at : (t : Typ) → parts P' (shape_at r t) ≡ parts P t
    parts_at (integer k) = refl
    parts_at boolean = refl
    parts_at (tuple_of ts) = ap at_least_one (sum_at ts)
    parts_at (reference m t) = ap suc (parts_at t)
    parts_at (named i) = alike.sizes i

    sum_at : (ts : Shapes Kind) → sum_of_parts P' (shapes_at r ts) ≡ sum_of_parts P ts
    sum_at no_shape = refl
    sum_at (shape_and t ts) = ap (λ n. n + sum_of_parts P' (shapes_at r ts)) (parts_at t) ∙ ap (λ n. parts P t + n) (sum_at ts)

  all_parts_at : (ts : List Typ) → sum_of_parts P' (shapes_of (map (shape_at r) ts)) ≡ sum_of_parts P (shapes_of ts)
  all_parts_at [] = refl
  all_parts_at (t ∷ ts) = ap (λ n. n + sum_of_parts P' (shapes_of (map (shape_at r) ts))) (parts_at t) ∙ ap (λ n. parts P t + n) (all_parts_at ts)

  mutual
    pub copies_at : (t : Typ) → copies F'.declared (shape_at r t) ≡ copies F.declared t
    copies_at (integer k) = refl
    copies_at boolean = refl
    copies_at (tuple_of ts) = all_copy_at ts
    copies_at (reference m t) = refl
    copies_at (named i) = ap derives_copy (alike.items i) ∙ copy_in r (slice_get F.declared i)

    all_copy_at : (ts : Shapes Kind) → all_copy F'.declared (shapes_at r ts) ≡ all_copy F.declared ts
    all_copy_at no_shape = refl
    all_copy_at (shape_and t ts) = ap (λ b. b && all_copy F'.declared (shapes_at r ts)) (copies_at t) ∙ ap (λ b. copies F.declared t && b) (all_copy_at ts)

  size_at : (s : Spot) → spot_parts P' (spot_at r s) ≡ spot_parts P s
  size_at (whole t) = parts_at t
  size_at (fields ts) = all_parts_at ts
  size_at nowhere = refl

  fields_are : (k : ℕ) → struct_fields (slice_get F'.declared (r.items k)) ≡ map (shape_at r) (struct_fields (slice_get F.declared k))
  fields_are k = ap struct_fields (alike.items k) ∙ fields_in r (slice_get F.declared k)

  variants_are : (k : ℕ) → variants_declared (slice_get F'.declared (r.items k)) ≡ map (variant_at r) (variants_declared (slice_get F.declared k))
  variants_are k = ap variants_declared (alike.items k) ∙ variants_in r (slice_get F.declared k)

  -- ---- where steps lead, from a place of each that begins at these numbers

  module _ (a' a : ℕ) where
    record Meets (k l : Located) : Type 0 where
      offset : ℕ
      here : k.first ≡ a' + offset
      there : l.first ≡ a + offset
      spot : k.spot ≡ spot_at r l.spot

    field_meets : (ts : List Typ) (i n m o : ℕ) → n ≡ a' + o → m ≡ a + o → Meets (nth_field P' (map (shape_at r) ts) i n) (nth_field P ts i m)
    field_meets [] i n m o e f = record { offset = o; here = e; there = f; spot = refl }
    field_meets (t ∷ ts) zero n m o e f = record { offset = o; here = e; there = f; spot = refl }
    field_meets (t ∷ ts) (suc i) n m o e f = let z = parts_at t in field_meets ts i (n + parts P' (shape_at r t)) (m + parts P t) (o + parts P t) (omega (arith, e, z)) (omega (arith, f))

    variant_meets : (ds : List VariantDeclared) (v n m o : ℕ) → n ≡ a' + o → m ≡ a + o → Meets (nth_variant P' (map (variant_at r) ds) v n) (nth_variant P ds v m)
    variant_meets [] v n m o e f = record { offset = o; here = e; there = f; spot = refl }
    variant_meets (d ∷ ds) zero n m o e f = record { offset = o; here = e; there = f; spot = refl }
    variant_meets (d ∷ ds) (suc v) n m o e f = let z = all_parts_at d.parts in
        variant_meets ds v (n + sum_of_parts P' (shapes_of (map (shape_at r) d.parts))) (m + sum_of_parts P (shapes_of d.parts)) (o + sum_of_parts P (shapes_of d.parts)) (omega (arith, e, z)) (omega (arith, f))

    step_field : (i n m o : ℕ) (s : Spot) → n ≡ a' + o → m ≡ a + o → Meets (field_of F'.declared P' i n (spot_at r s)) (field_of F.declared P i m s)
    step_field i n m o (whole (integer k)) e f = record { offset = o; here = e; there = f; spot = refl }
    step_field i n m o (whole boolean) e f = record { offset = o; here = e; there = f; spot = refl }
    step_field i n m o (whole (tuple_of ts)) e f = subst (λ us. Meets (nth_field P' us i n) (nth_field P (shapes_listed ts) i m)) (sym (listed_at r ts)) (field_meets (shapes_listed ts) i n m o e f)
    step_field i n m o (whole (reference b t)) e f = record { offset = o; here = e; there = f; spot = refl }
    step_field i n m o (whole (named k)) e f =
        subst (λ us. Meets (nth_field P' us i n) (nth_field P (struct_fields (slice_get F.declared k)) i m)) (sym (fields_are k)) (field_meets (struct_fields (slice_get F.declared k)) i n m o e f)
    step_field i n m o (fields ts) e f = field_meets ts i n m o e f
    step_field i n m o nowhere e f = record { offset = o; here = e; there = f; spot = refl }

    step_variant : (v n m o : ℕ) (s : Spot) → n ≡ a' + o → m ≡ a + o → Meets (variant_of F'.declared P' v n (spot_at r s)) (variant_of F.declared P v m s)
    step_variant v n m o (whole (integer k)) e f = record { offset = o; here = e; there = f; spot = refl }
    step_variant v n m o (whole boolean) e f = record { offset = o; here = e; there = f; spot = refl }
    step_variant v n m o (whole (tuple_of ts)) e f = record { offset = o; here = e; there = f; spot = refl }
    step_variant v n m o (whole (reference b t)) e f = record { offset = o; here = e; there = f; spot = refl }
    step_variant v n m o (whole (named k)) e f =
        subst (λ ds. Meets (nth_variant P' ds v (suc n)) (nth_variant P (variants_declared (slice_get F.declared k)) v (suc m))) (sym (variants_are k))
        (variant_meets (variants_declared (slice_get F.declared k)) v (suc n) (suc m) (suc o) (omega (arith, e)) (omega (arith, f)))
    step_variant v n m o (fields ts) e f = record { offset = o; here = e; there = f; spot = refl }
    step_variant v n m o nowhere e f = record { offset = o; here = e; there = f; spot = refl }

    all_meet : {ss rs : List Step} → SameWay ss rs → (k l : Located) → Meets k l → Meets (located F'.declared P' ss k.first k.spot) (located F.declared P rs l.first l.spot)
    all_meet both_end k l z = record { offset = z.offset; here = z.here; there = z.there; spot = z.spot }
    all_meet (both_field {i = i} {ss = ss} {rs = rs} w) k l z =
        subst (λ s. Meets (located F'.declared P' ss (field_of F'.declared P' i k.first s).first (field_of F'.declared P' i k.first s).spot) (located F.declared P rs (field_of F.declared P i l.first l.spot).first (field_of F.declared P i l.first l.spot).spot)) (sym z.spot)
        (all_meet w (field_of F'.declared P' i k.first (spot_at r l.spot)) (field_of F.declared P i l.first l.spot) (step_field i k.first l.first z.offset l.spot z.here z.there))
    all_meet (both_variant {v = v} {ss = ss} {rs = rs} w) k l z =
        subst (λ s. Meets (located F'.declared P' ss (variant_of F'.declared P' v k.first s).first (variant_of F'.declared P' v k.first s).spot) (located F.declared P rs (variant_of F.declared P v l.first l.spot).first (variant_of F.declared P v l.first l.spot).spot)) (sym z.spot)
        (all_meet w (variant_of F'.declared P' v k.first (spot_at r l.spot)) (variant_of F.declared P v l.first l.spot) (step_variant v k.first l.first z.offset l.spot z.here z.there))
    all_meet both_behind k l z = record { offset = z.offset; here = z.here; there = z.there; spot = z.spot }

    spans_meet : (k l : Located) (i : ℕ) → Meets k l → spans P' k (a' + i) ≡ spans P l (a + i)
    spans_meet k l i z = agree (spans P' k (a' + i)) (spans P l (a + i)) (λ h. down h) (λ h. up h)
      where
        size : spot_parts P' k.spot ≡ spot_parts P l.spot
        size = ap (spot_parts P') z.spot ∙ size_at l.spot

        down : spans P' k (a' + i) ≡ true → spans P l (a + i) ≡ true
        down h = let p = leb-true k.first (a' + i) (and_left (nat_le k.first (a' + i)) (nat_lt (a' + i) (k.first + spot_parts P' k.spot)) h) in
            let q = ltb-true (a' + i) (k.first + spot_parts P' k.spot) (and_right (nat_le k.first (a' + i)) (nat_lt (a' + i) (k.first + spot_parts P' k.spot)) h) in
            let e = z.here in let f = z.there in
            and_both (nat_le l.first (a + i)) (nat_lt (a + i) (l.first + spot_parts P l.spot)) (le-leb l.first (a + i) (omega (arith, p, e, f))) (lt-ltb (a + i) (l.first + spot_parts P l.spot) (omega (arith, q, e, f, size)))

        up : spans P l (a + i) ≡ true → spans P' k (a' + i) ≡ true
        up h = let p = leb-true l.first (a + i) (and_left (nat_le l.first (a + i)) (nat_lt (a + i) (l.first + spot_parts P l.spot)) h) in
            let q = ltb-true (a + i) (l.first + spot_parts P l.spot) (and_right (nat_le l.first (a + i)) (nat_lt (a + i) (l.first + spot_parts P l.spot)) h) in
            let e = z.here in let f = z.there in
            and_both (nat_le k.first (a' + i)) (nat_lt (a' + i) (k.first + spot_parts P' k.spot)) (le-leb k.first (a' + i) (omega (arith, p, e, f))) (lt-ltb (a' + i) (k.first + spot_parts P' k.spot) (omega (arith, q, e, f, size)))

  -- ---- a variable of each, of one type

  typed_at : (o : Option Typ) → typed_spot (option_map (shape_at r) o) ≡ spot_at r (typed_spot o)
  typed_at None = refl
  typed_at (Some t) = refl

  module _ (x y : ℕ) (typ : type_at F'.types y ≡ option_map (shape_at r) (type_at F.types x)) where
    abbrev begin' : ℕ
    begin' = (nth_variable P' F'.types y 0).first

    abbrev begin : ℕ
    begin = (nth_variable P F.types x 0).first

    variables_meet : Meets begin' begin (nth_variable P' F'.types y 0) (nth_variable P F.types x 0)
    variables_meet = record {
      offset = 0;
      here = omega arith;
      there = omega arith;
      spot = spot_of P' F'.types y 0 ∙ (ap typed_spot typ ∙ (typed_at (type_at F.types x) ∙ ap (spot_at r) (sym (spot_of P F.types x 0))));
    }

    places_meet : {ss rs : List Step} → SameWay ss rs → Meets begin' begin (place_at F' (placed y ss)) (place_at F (placed x rs))
    places_meet w = all_meet begin' begin w (nth_variable P' F'.types y 0) (nth_variable P F.types x 0) variables_meet

    pub place_typ : {ss rs : List Step} → SameWay ss rs → (place_at F' (placed y ss)).spot ≡ spot_at r (place_at F (placed x rs)).spot
    place_typ w = (places_meet w).spot

    pub same_parts : {ss rs : List Step} → SameWay ss rs → (i : ℕ) → is_part F' (placed y ss) (begin' + i) ≡ is_part F (placed x rs) (begin + i)
    same_parts {ss = ss} {rs = rs} w i = spans_meet begin' begin (place_at F' (placed y ss)) (place_at F (placed x rs)) i (places_meet w)

    pub first_part : (n : ℕ) → is_part F' (own y) n ≡ true → begin' ≤ n
    first_part n h = leb-true begin' n (and_left (nat_le begin' n) (nat_lt n (begin' + spot_parts P' (nth_variable P' F'.types y 0).spot)) h)

module _ (r : Renumbering) (S : Sides) (alike : DeclaresAlike r S.frame_there S.frame) (x y : ℕ) (same : SameVariable r S x y) where
  abbrev here : ℕ
  here = begin' r S.frame_there S.frame alike x y same.typ

  abbrev there : ℕ
  there = begin r S.frame_there S.frame alike x y same.typ

  rest : (f n : ℕ) → f ≤ n → f + (n - f) ≡ n
  rest f n h = omega (arith, h)

  part_of : (n : ℕ) → here ≤ n → (m : ℕ) × LikePart S y x n m
  part_of n h = (there + (n - here), subst (λ k. LikePart S y x k (there + (n - here))) (rest here n h) (λ ss rs w. same_parts r S.frame_there S.frame alike x y same.typ w (n - here)))

  pub like_variable : LikeVariable S y x
  like_variable = record { parts = λ n h. part_of n (first_part r S.frame_there S.frame alike x y same.typ n h); fixed = same.fixed }

-- a variable whose type the text's function tells, so by its place in the list
told_typ : (ts : List (Option Typ)) (x : ℕ) (t : Typ) → slice_get ts x ≡ Some (Some t) → type_at ts x ≡ Some t
told_typ [] x t e = absurd (cc)
told_typ (o ∷ ts) zero t e = some_is e
told_typ (o ∷ ts) (suc x) t e = told_typ ts x t e

pub typed_copies : (r : Renumbering) (S : Sides) → DeclaresAlike r S.frame_there S.frame → (x y : ℕ) → SameTyp r S x y → (t : Typ) → slice_get S.frame_there.types x ≡ Some (Some t)
    → (type_at S.frame.types y ≡ Some (shape_at r t)) × (copies S.frame.declared (shape_at r t) ≡ copies S.frame_there.declared t)
typed_copies r S alike x y same t e = (same ∙ ap (option_map (shape_at r)) (told_typ S.frame_there.types x t e), copies_at r S.frame_there S.frame alike t)

-- a whole variable moves where its type isn't Copy
pub own_moves : (F : Frame) (y : ℕ) (t : Typ) (v : Bool) → type_at F.types y ≡ Some t → MovesByType F (own y) v → v ≡ not (copies F.declared t)
own_moves F y t v e m = let k = m.itself refl in
    k.2 ∙ ap (λ u. not (copies F.declared u)) (whole_is (sym k.1 ∙ (spot_of F.sizes F.types y 0 ∙ ap typed_spot e)))
  where
    whole_is : {a b : Typ} → whole a ≡ whole b → a ≡ b
    whole_is q = cc
