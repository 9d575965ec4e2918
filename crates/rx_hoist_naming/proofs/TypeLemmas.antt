-- Types and patterns whose names have a meaning: what resolving adds of them numbering takes, and their trees with numbers name structs
-- and enums, and variables that there are.
use Rattle.std.proofs.Common.{◌≡◌, ℕ, suc, ◌≤◌, ◌<◌, Bool, true, false, if◌then◌else◌, List, [], ◌∷◌, ◌++◌, length, Option, Some, None, Ok, refl, sym, ap, ◌∙◌, subst, append-nil, arith}
use Rattle.std.specs.Str.{bytes_eq}
use Rattle.rx_core.specs.declared.types.Span.{Span}
use Rattle.rx_tree.specs.declared.tree.Ident.{Ident}
use Rattle.rx_tree.specs.Plain as plain
use Rattle.rx_tree.specs.Plain.{TypeTree, TypeTrees, PatternTree, PatternTrees, FieldPatterns}
use Rattle.rx_tree.specs.Positions.{a_pattern, a_type}
use Rattle.rx_tree.specs.Nodes.{below_type, within_types, within_type, below_pattern, within_patterns, within_field_patterns}
use Rattle.rx_resolve_names.specs.declared.table.NumberedName.{NumberedName}
use Rattle.rx_resolve_names.specs.Scopes.{DeclaredNames, declared_as, Variable, Variables, variable_named, entered}
use Rattle.rx_resolve_names.specs.declared.resolved.ItemNames.{ItemNames}
use Rattle.rx_resolve_names.specs.declared.resolved.NodeNames.{NodeNames}
use Rattle.rx_resolve_names.specs.Meant.{number}
use Rattle.rx_resolve_names.specs.Steps.{Outcome, and_then, Naming, nothing, Inside, one, both, declare, declared_behind, child, next, with_variable, entry, with_names, numbered, names}
use Rattle.rx_resolve_names.specs.Names.{lifetime_in, lifetimes_in, type_in, written, in_lifetime, in_type, in_types, in_optional_type, variant_in, struct_in, Bound, Binding, binds as binding, also, in_order, in_pattern, in_patterns, in_field_patterns}
use Rattle.rx_typed.specs.declared.nodes.Site.{Site}
use Rattle.rx_typed.specs.declared.nodes.Stage.{Stage}
use Rattle.rx_typed.specs.Naming as numbering
use Rattle.rx_typed.specs.Naming.{an_entry, first, second, lifetime_entry, of_type, of_types, of_optional_type, of_pattern, of_patterns, of_field_patterns}
use Rattle.rx_typed.specs.Named as named
use Rattle.rx_hoist_naming.proofs.Claims.{Claims, OfWritten, OfWrittens, OfAnnotation, OfPattern, OfPatterns, OfFieldPatterns}
use Rattle.rx_hoist_naming.proofs.Steps.{named_ok, the_same, binds, binds_append, Takes, takes_then, takes_give, takes_map, takes_node, takes_made, takes_new, takes_entry, IsEntry, at_entry, one_more, Part, in_turn, from_zero, restated, unchanged, entry_part}

-- ---- types bind nothing

mutual
  pub no_type_binds : (y : TypeTree) → binds (a_type y ∷ below_type y) ≡ 0
  no_type_binds (plain.kind_type s k) = refl
  no_type_binds (plain.bool_type s) = refl
  no_type_binds (plain.tuple_type s ts) = no_types_bind ts
  no_type_binds (plain.ref_type s l m y) = no_type_binds y
  no_type_binds (plain.named_type s x ls) = refl

  no_types_bind : (ys : TypeTrees) → binds (within_types ys) ≡ 0
  no_types_bind plain.no_type = refl
  no_types_bind (plain.type_and y ys) = let a = binds_append (a_type y ∷ below_type y) (within_types ys) in let b = no_type_binds y in let d = no_types_bind ys in omega (arith, a, b, d)

pub no_result_binds : (y : Option TypeTree) → binds (within_type y) ≡ 0
no_result_binds None = refl
no_result_binds (Some y) = no_type_binds y

-- ---- scopes whose variables are fewer than so many

abbrev pub ScopeBelow : ℕ → Variables → Type 0
ScopeBelow k sc = (x : List ℕ) (n : ℕ) → variable_named sc x ≡ Some n → n < k

abbrev pub DeclaredBelow : ℕ → DeclaredNames → Type 0
DeclaredBelow k [] = Unit {0}
DeclaredBelow k (d ∷ ds) = (d.1.number < k) × DeclaredBelow k ds

pub scope_later : (k l : ℕ) (sc : Variables) → k ≤ l → ScopeBelow k sc → ScopeBelow l sc
scope_later k l sc m h x n e = let a = h x n e in omega (arith, a, m)

pub declared_later : (k l : ℕ) (ds : DeclaredNames) → k ≤ l → DeclaredBelow k ds → DeclaredBelow l ds
declared_later k l [] m h = tt
declared_later k l (d ∷ ds) m h = let a = h.0 in (omega (arith, a, m), declared_later k l ds m h.1)

scope_one : (k : ℕ) (v : Variable) (sc : Variables) → v.number < k → ScopeBelow k sc → ScopeBelow k (v ∷ sc)
scope_one k v sc l h x n = by (bytes_eq x v.name) (h x n)
  where
    by : (b : Bool) → (variable_named sc x ≡ Some n → n < k) → (if b then Some v.number else variable_named sc x) ≡ Some n → n < k
    by true r e = let s : v.number ≡ n = cc in subst (λ (z : ℕ). z < k) s l
    by false r e = r e

pub scope_entered : (k : ℕ) (sc : Variables) (ds : DeclaredNames) → ScopeBelow k sc → DeclaredBelow k ds → ScopeBelow k (entered sc ds)
scope_entered k sc [] h b = h
scope_entered k sc (d ∷ ds) h b = scope_entered k (record { name = d.0; number = d.1.number } ∷ sc) ds (scope_one k (record { name = d.0; number = d.1.number }) sc b.0 h) b.1

below_more : (k : ℕ) (ds : DeclaredNames) (x : List ℕ) (d : NumberedName) → DeclaredBelow k ds → d.number < k → DeclaredBelow k (ds ++ (x, d) ∷ [])
below_more k [] x d h l = (l, tt)
below_more k (c ∷ ds) x d h l = (h.0, below_more k ds x d h.1 l)

declared_behind_is : (ds new : DeclaredNames) (x : Ident) (n : ℕ) (o : Option NumberedName) → declared_behind ds x n o ≡ Ok new → new ≡ ds ++ (x.name, record { number = number n; span = x.span }) ∷ []
declared_behind_is ds new x n None e = sym (the_same _ _ e)
declared_behind_is ds new x n (Some k) e = absurd (cc)

number_least : (n k : ℕ) → n < k → number n < k
number_least n k h = omega (arith, h)

pub declare_below : (k : ℕ) (ds new : DeclaredNames) (x : Ident) (n : ℕ) → declare ds x n ≡ Ok new → DeclaredBelow k ds → n < k → DeclaredBelow k new
declare_below k ds new x n e h l =
    subst (λ (z : DeclaredNames). DeclaredBelow k z) (sym (declared_behind_is ds new x n (declared_as ds x.name) e))
    (below_more k ds x.name (record { number = number n; span = x.span }) h (number_least n k l))

-- ---- what names mean

pub record Sees (C : Claims) (I : Inside) (N : ℕ) : Type 0 where
  pub types : (x : Ident) (n : ℕ) → type_in I x ≡ Ok n → C.item n
  pub structs : (x : Ident) (n : ℕ) → struct_in I x ≡ Ok n → C.item n
  pub variants : (a v : Ident) (ns : List ℕ) → variant_in I a v ≡ Ok ns → (n : ℕ) × (j : ℕ) × (ns ≡ n ∷ j ∷ []) × C.item n
  pub variables : (n : ℕ) → n < N → C.variable n

-- an entry of one name
pub record One (N : ℕ) (t t' : ItemNames) (r : Outcome ℕ) : Type 0 where
  pub first : ℕ
  pub found : r ≡ Ok first
  pub part : Part N t t' 0 (λ es. Takes (IsEntry (first ∷ []) false) t t' es an_entry)

pub one_part : (N : ℕ) (I : Inside) (at : List ℕ) (t t' : ItemNames) (r : Outcome ℕ) → names I at (one r) t ≡ Ok t' → One N t t' r
one_part N I at t t' r e =
    let a = named_ok (one r) (λ ns. numbered I at ns t) t' e in
    let b = named_ok r (λ n. Ok (n ∷ [])) a.0 a.1 in
    record { first = b.0; found = b.1; part = entry_part N I at t t' b.0 [] (one r) (ap one b.1) e }

-- ---- types

module _ (C : Claims) (I : Inside) (N : ℕ) (S : Sees C I N) where
  abbrev TypeTaken : TypeTree → ItemNames → ItemNames → Type 0
  TypeTaken y t t' = Part N t t' 0 (λ es. Takes (OfWritten C) t t' es (of_type y))

  abbrev TypesTaken : TypeTrees → ItemNames → ItemNames → Type 0
  TypesTaken ys t t' = Part N t t' 0 (λ es. Takes (OfWrittens C) t t' es (of_types ys))

  lifetime_taken : (at : List ℕ) (l : Option Ident) (t t' : ItemNames) → in_lifetime I at l t ≡ Ok t' → Part N t t' 0 (λ es. Takes (λ a. Unit {0}) t t' es (lifetime_entry l))
  lifetime_taken at None t t' e = unchanged N t t' (λ v es. Takes (λ a. Unit {0}) t v es (lifetime_entry None)) e (takes_give numbering.no_names tt)
  lifetime_taken at (Some l) t t' e = restated (one_part N I at t t' (lifetime_in I l) e).part refl (λ es k. takes_map (λ a. a) k (λ a h. tt))

  mutual
    pub type_taken : (at : List ℕ) (y : TypeTree) (t t' : ItemNames) → in_type I at y t ≡ Ok t' → TypeTaken y t t'
    type_taken at (plain.kind_type s k) t t' e = unchanged N t t' (λ v es. Takes (OfWritten C) t v es (of_type (plain.kind_type s k))) e (takes_made s Site.Value (λ n. named.a_kind n k) (λ n q. tt))
    type_taken at (plain.bool_type s) t t' e = unchanged N t t' (λ v es. Takes (OfWritten C) t v es (of_type (plain.bool_type s))) e (takes_made s Site.Value named.a_bool (λ n q. tt))
    type_taken at (plain.tuple_type s ts) t t' e = restated (types_taken at 0 ts t t' e) refl (λ es k. takes_node s Site.Value (λ n q. takes_map (named.a_tuple n) k (λ a h. h)))
    type_taken at (plain.ref_type s l b y) t t' e =
        let a = named_ok (in_lifetime I at l t) (in_type I (child at 0) y) t' e in
        in_turn (lifetime_taken at l t a.0 a.1) (type_taken (child at 0) y a.0 t' a.2) refl
        (λ es fs k h. takes_node s Site.Value (λ n q. takes_then k (λ c x. takes_map (named.a_reference n b) h (λ d x. x))))
    type_taken at (plain.named_type s x ls) t t' e =
        let a = named_ok (both (one (type_in I x)) (lifetimes_in I (written ls))) (λ ns. numbered I at ns t) t' e in
        let b = named_ok (one (type_in I x)) (λ ns. and_then (lifetimes_in I (written ls)) (λ ms. Ok (ns ++ ms))) a.0 a.1 in
        let c = named_ok (type_in I x) (λ n. Ok (n ∷ [])) b.0 b.1 in
        let d = named_ok (lifetimes_in I (written ls)) (λ ms. Ok (b.0 ++ ms)) a.0 b.2 in
        let r : both (one (type_in I x)) (lifetimes_in I (written ls)) ≡ Ok (c.0 ∷ d.0) =
        ap (λ (o : Outcome ℕ). both (one o) (lifetimes_in I (written ls))) c.1 ∙ ap (λ (o : Outcome (List ℕ)). and_then o (λ ms. Ok (c.0 ∷ ms))) d.1 in
        restated (entry_part N I at t t' c.0 d.0 (both (one (type_in I x)) (lifetimes_in I (written ls))) r e) refl
        (λ es k. takes_node s Site.Value (λ n q. takes_map (λ ns. named.an_item n (first ns.0) (numbering.lifetimes_written ls)) k
        (λ v h. at_entry (λ z. C.item (first z.0)) (c.0 ∷ d.0) false v h (S.types x c.0 c.1))))

    pub types_taken : (at : List ℕ) (i : ℕ) (ys : TypeTrees) (t t' : ItemNames) → in_types I at i ys t ≡ Ok t' → TypesTaken ys t t'
    types_taken at i plain.no_type t t' e = unchanged N t t' (λ v es. Takes (OfWrittens C) t v es (of_types plain.no_type)) e (takes_give named.no_written tt)
    types_taken at i (plain.type_and y ys) t t' e =
        let a = named_ok (in_type I (child at i) y t) (in_types I at (next i) ys) t' e in
        in_turn (type_taken (child at i) y t a.0 a.1) (types_taken at (next i) ys a.0 t' a.2) refl
        (λ es fs k h. takes_then k (λ c x. takes_map (named.written_and c) h (λ d z. (x, z))))

  pub optional_type_taken : (at : List ℕ) (y : Option TypeTree) (t t' : ItemNames) → in_optional_type I at y t ≡ Ok t' → Part N t t' 0 (λ es. Takes (OfAnnotation C) t t' es (of_optional_type y))
  optional_type_taken at None t t' e = unchanged N t t' (λ v es. Takes (OfAnnotation C) t v es (of_optional_type None)) e (takes_give None tt)
  optional_type_taken at (Some y) t t' e = restated (type_taken at y t t' e) refl (λ es k. takes_map (λ z. Some z) k (λ a h. h))

  -- ---- patterns

  pub record Binds {A : Type 0} (b b1 : Bound) (k : ℕ) (T : A → Type 0) (m : numbering.Numbering A) : Type 0 where
    pub below : DeclaredBelow (length b1.tables.vars) b1.bindings
    pub part : Part N b.tables b1.tables k (λ es. Takes T b.tables b1.tables es m)

  abbrev pub PatternTaken : PatternTree → Bound → Bound → Type 0
  PatternTaken p b b1 = Binds b b1 (binds (a_pattern p ∷ below_pattern p)) (OfPattern C) (of_pattern p)

  abbrev PatternsTaken : PatternTrees → Bound → Bound → Type 0
  PatternsTaken ps b b1 = Binds b b1 (binds (within_patterns ps)) (OfPatterns C) (of_patterns ps)

  abbrev FieldPatternsTaken : FieldPatterns → Bound → Bound → Type 0
  FieldPatternsTaken fs b b1 = Binds b b1 (binds (within_field_patterns fs)) (OfFieldPatterns C) (of_field_patterns fs)

  abbrev Below : Bound → Type 0
  Below b = DeclaredBelow (length b.tables.vars) b.bindings

  bound_unchanged : {A : Type 0} (b b1 : Bound) (T : A → Type 0) (m : numbering.Numbering A) → also nothing b ≡ Ok b1 → Below b → Takes T b.tables b.tables [] m → Binds b b1 0 T m
  bound_unchanged b b1 T m e h k = subst (λ (v : Bound). Binds b v 0 T m) (the_same b b1 e)
      (record { below = h; part = record { added = []; grown = sym (append-nil b.tables.names); count = omega arith; numbers = λ _. k } })

  -- names first, then what may bind
  order_ok : (f : Naming) (g : Binding) (b b1 : Bound) → in_order (also f) g b ≡ Ok b1 → (t : ItemNames) × (f b.tables ≡ Ok t) × (g (record { bindings = b.bindings; tables = t }) ≡ Ok b1)
  order_ok f g b b1 e =
      let to : ItemNames → Bound = λ t. record { bindings = b.bindings; tables = t } in
      let x = named_ok (also f b) g b1 e in let y = named_ok (f b.tables) (λ t. Ok (to t)) x.0 x.1 in
      (y.0, y.1, ap g (the_same (to y.0) x.0 y.2) ∙ x.2)

  below_on : (b : Bound) (t : ItemNames) (k : ℕ) (K : List NodeNames → Type 0) → Part N b.tables t k K → Below b → DeclaredBelow (length t.vars) b.bindings
  below_on b t k K A h = let c = A.count in declared_later (length b.tables.vars) (length t.vars) b.bindings (omega (arith, c)) h

  bind_taken : (at : List ℕ) (s : Span) (x : Ident) (w : Bool) (b b1 : Bound) → binding I at x b ≡ Ok b1 → Below b → PatternTaken (plain.bind s x w) b b1
  bind_taken at s x w b b1 e h =
      let n = length b.tables.vars in
      let X = entry I at (number n ∷ []) in
      let to : DeclaredNames → Bound = λ ds. record { bindings = ds; tables = with_names X (with_variable x.span b.tables) } in
      let d = named_ok (declare b.bindings x n) (λ ds. Ok (to ds)) b1 e in
      let m : length (to d.0).tables.vars ≡ suc n = one_more b.tables.vars x.span in
      subst (λ (v : Bound). PatternTaken (plain.bind s x w) b v) (the_same (to d.0) b1 d.2) (record {
        below = declare_below (length (to d.0).tables.vars) b.bindings d.0 x n d.1 (declared_later n (length (to d.0).tables.vars) b.bindings (omega (arith, m)) h) (omega (arith, m));
        part = record {
          added = X ∷ [];
          grown = refl;
          count = omega (arith, m);
          numbers = λ most. takes_node s Site.Value (λ i q. takes_then (takes_entry X) (λ c r. takes_map (λ y. named.bind i y w)
              (takes_new (with_names X b.tables) (to d.0).tables (record { mutable = w; stage = Stage.Given }) C.variable m (S.variables n (omega (arith, m, most))))
              (λ y v. v)));
        };
      })

  mutual
    pub pattern_taken : (at : List ℕ) (p : PatternTree) (b b1 : Bound) → in_pattern I at p b ≡ Ok b1 → Below b → PatternTaken p b b1
    pattern_taken at (plain.wild s) b b1 e h = bound_unchanged b b1 (OfPattern C) (of_pattern (plain.wild s)) e h (takes_made s Site.Value named.wild (λ n q. tt))
    pattern_taken at (plain.bind s x w) b b1 e h = bind_taken at s x w b b1 e h
    pattern_taken at (plain.int_pattern s g v k) b b1 e h = bound_unchanged b b1 (OfPattern C) (of_pattern (plain.int_pattern s g v k)) e h (takes_made s Site.Value (λ n. named.whole_number n g v k) (λ n q. tt))
    pattern_taken at (plain.bool_pattern s w) b b1 e h = bound_unchanged b b1 (OfPattern C) (of_pattern (plain.bool_pattern s w)) e h (takes_made s Site.Value (λ n. named.truth n w) (λ n q. tt))
    pattern_taken at (plain.tuple_pattern s ps) b b1 e h =
        let A = patterns_taken at 0 ps b b1 e h in
        record { below = A.below; part = restated A.part refl (λ es k. takes_node s Site.Value (λ n q. takes_map (named.tuple_pattern n) k (λ c x. x))) }
    pattern_taken at (plain.variant_pattern s c v ps) b b1 e h =
        let x = order_ok (names I at (variant_in I c v)) (in_patterns I at 0 ps) b b1 e in
        let y = named_ok (variant_in I c v) (λ ns. numbered I at ns b.tables) x.0 x.1 in
        let f = S.variants c v y.0 y.1 in
        let A = entry_part N I at b.tables x.0 f.0 (f.1 ∷ []) (variant_in I c v) (y.1 ∙ ap (λ (l : List ℕ). Ok l) f.2) x.1 in
        let B = patterns_taken at 0 ps (record { bindings = b.bindings; tables = x.0 }) b1 x.2 (below_on b x.0 0 _ A h) in
        record {
          below = B.below;
          part = in_turn A B.part (from_zero (binds (within_patterns ps))) (λ es fs k l. takes_node s Site.Value (λ n q. takes_then k (λ y r. takes_map (named.variant_pattern n (first y.0) (second y.0)) l
              (λ ps w. (at_entry (λ z. C.item (first z.0)) (f.0 ∷ f.1 ∷ []) false y r f.3, w)))));
        }
    pattern_taken at (plain.make_pattern s x fs) b b1 e h =
        let y = order_ok (names I at (one (struct_in I x))) (in_field_patterns I at 0 fs) b b1 e in
        let A = one_part N I at b.tables y.0 (struct_in I x) y.1 in
        let B = field_patterns_taken at 0 fs (record { bindings = b.bindings; tables = y.0 }) b1 y.2 (below_on b y.0 0 _ A.part h) in
        record {
          below = B.below;
          part = in_turn A.part B.part (from_zero (binds (within_field_patterns fs))) (λ es gs k l. takes_node s Site.Value (λ n q. takes_then k (λ y r. takes_map (named.struct_pattern n (first y.0)) l
              (λ fs w. (at_entry (λ z. C.item (first z.0)) (A.first ∷ []) false y r (S.structs x A.first A.found), w)))));
        }

    pub patterns_taken : (at : List ℕ) (i : ℕ) (ps : PatternTrees) (b b1 : Bound) → in_patterns I at i ps b ≡ Ok b1 → Below b → PatternsTaken ps b b1
    patterns_taken at i plain.no_pattern b b1 e h = bound_unchanged b b1 (OfPatterns C) (of_patterns plain.no_pattern) e h (takes_give named.no_pattern tt)
    patterns_taken at i (plain.pattern_and p ps) b b1 e h =
        let x = named_ok (in_pattern I (child at i) p b) (in_patterns I at (next i) ps) b1 e in
        let A = pattern_taken (child at i) p b x.0 x.1 h in
        let B = patterns_taken at (next i) ps x.0 b1 x.2 A.below in
        record { below = B.below; part = in_turn A.part B.part (binds_append (a_pattern p ∷ below_pattern p) (within_patterns ps)) (λ es fs k l. takes_then k (λ c r. takes_map (named.pattern_and c) l (λ d w. (r, w)))) }

    pub field_patterns_taken : (at : List ℕ) (i : ℕ) (fs : FieldPatterns) (b b1 : Bound) → in_field_patterns I at i fs b ≡ Ok b1 → Below b → FieldPatternsTaken fs b b1
    field_patterns_taken at i plain.no_field_pattern b b1 e h = bound_unchanged b b1 (OfFieldPatterns C) (of_field_patterns plain.no_field_pattern) e h (takes_give named.no_field_pattern tt)
    field_patterns_taken at i (plain.field_pattern_and y p fs) b b1 e h =
        let x = named_ok (in_pattern I (child at i) p b) (in_field_patterns I at (next i) fs) b1 e in
        let A = pattern_taken (child at i) p b x.0 x.1 h in
        let B = field_patterns_taken at (next i) fs x.0 b1 x.2 A.below in
        record { below = B.below; part = in_turn A.part B.part (binds_append (a_pattern p ∷ below_pattern p) (within_field_patterns fs)) (λ es gs k l. takes_then k (λ c r. takes_map (named.field_pattern_and y.name c) l (λ d w. (r, w)))) }
