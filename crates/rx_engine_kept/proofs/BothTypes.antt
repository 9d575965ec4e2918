-- What a type that is written gives in two programs in which its names mean items that correspond: where it is read in the first, it is in the
-- second, with the same lifetimes. By induction on the type.
use Rattle.std.proofs.Common.{◌≡◌, ℕ, suc, ◌+◌, Bool, true, false, List, [], ◌∷◌, ◌++◌, Option, Some, None, Ok, if◌then◌else◌, slice_get, refl, sym, ap, ◌∙◌, subst, arith}
use Rattle.rx_core.specs.declared.types.Span.{Span}
use Rattle.rx_core.specs.declared.types.Ty.TheVariants as ty
use Rattle.rx_tree.specs.declared.tree.Ident.{Ident}
use Rattle.rx_tree.specs.Plain as plain
use Rattle.rx_tree.specs.Plain.{TypeTree, TypeTrees, ItemTree, ProgramTree}
use Rattle.rx_resolve_names.specs.Scopes.{DeclaredNames}
use Rattle.rx_resolve_names.specs.declared.resolved.ItemNames.{ItemNames}
use Rattle.rx_resolve_names.specs.declared.resolved.NodeNames.{NodeNames}
use Rattle.rx_resolve_names.specs.Meant.{type_name, has_name, item_named, as_type}
use Rattle.rx_resolve_names.specs.Steps as names
use Rattle.rx_resolve_names.specs.Steps.{Inside, child, next, entry, with_names, numbered, one, both}
use Rattle.rx_resolve_names.specs.Names.{in_lifetime, in_type, in_types, lifetime_in, lifetimes_in, type_in, written}
use Rattle.rx_typeck_typed.specs.Steps.{gives, and_then, an_entry, first, others, occurs}
use Rattle.rx_typeck_typed.specs.Written.{lifetimes_of, lifetime_at, lifetimes_at, pointing, type_of, types_of}
use Rattle.rx_engine_names.proofs.SideBySide.{named_ok, the_same}
use Rattle.rx_engine_names.proofs.KeptItems.{Keeps, known_some}
use Rattle.rx_engine_declared.proofs.Reading.{Role, before_entry, before_none}
use Rattle.rx_engine_kept.proofs.Going.{Goes, Any, LeavesOut, goes_gives, goes_then, goes_map, goes_front, goes_entry, occurs_goes, lifetimes_go}

-- ---- entries

-- the entry of a name and what stands behind it
pub name_entry : (I : Inside) (at : List ℕ) (m : names.Outcome ℕ) (more : names.Outcome (List ℕ)) (t t' : ItemNames) → names.names I at (both (one m) more) t ≡ Ok t'
    → (n : ℕ) × (ms : List ℕ) × (m ≡ Ok n) × (more ≡ Ok ms) × (with_names (entry I at (n ∷ ms)) t ≡ t')
name_entry I at m more t t' e =
    let a = named_ok (both (one m) more) (λ ns. numbered I at ns t) t' e in
    let b = named_ok (one m) (λ ns. names.and_then more (λ ms. Ok (ns ++ ms))) a.0 a.1 in
    let c = named_ok m (λ n. Ok (n ∷ [])) b.0 b.1 in
    let d = named_ok more (λ ms. Ok (b.0 ++ ms)) a.0 b.2 in
    let same : a.0 ≡ c.0 ∷ d.0 = sym (the_same (b.0 ++ d.0) a.0 d.2) ∙ ap (λ (l : List ℕ). l ++ d.0) (sym (the_same (c.0 ∷ []) b.0 c.2)) in
    (c.0, d.0, c.1, d.1, the_same (with_names (entry I at (c.0 ∷ d.0)) t) t' (ap (λ (l : List ℕ). numbered I at l t) (sym same) ∙ a.2))

-- that of a lifetime
pub lifetime_entry : (I : Inside) (at : List ℕ) (m : names.Outcome ℕ) (t t' : ItemNames) → names.names I at (one m) t ≡ Ok t' → (n : ℕ) × (m ≡ Ok n) × (with_names (entry I at (n ∷ [])) t ≡ t')
lifetime_entry I at m t t' e =
    let a = named_ok (one m) (λ ns. numbered I at ns t) t' e in
    let c = named_ok m (λ n. Ok (n ∷ [])) a.0 a.1 in
    (c.0, c.1, the_same (with_names (entry I at (c.0 ∷ [])) t) t' (ap (λ (l : List ℕ). numbered I at l t) (the_same (c.0 ∷ []) a.0 c.2) ∙ a.2))

-- ---- a struct or enum that is named

found_type : (o : Option (ℕ × ItemTree)) (n : ℕ) → as_type o ≡ Some n → (i : ItemTree) × (o ≡ Some (n, i))
found_type None n e = absurd (cc)
found_type (Some (k, plain.struct_item s d)) n e = (plain.struct_item s d, ap (λ (z : ℕ). Some (z, plain.struct_item s d)) (let h : k ≡ n = cc in h))
found_type (Some (k, plain.enum_item s d)) n e = (plain.enum_item s d, ap (λ (z : ℕ). Some (z, plain.enum_item s d)) (let h : k ≡ n = cc in h))
found_type (Some (k, plain.rt_item s r)) n e = absurd (cc)
found_type (Some (k, plain.function_item s f)) n e = absurd (cc)

one_pair : (x y : ℕ × ItemTree) → ◌≡◌ {A = Option (ℕ × ItemTree)} (Some x) (Some y) → x ≡ y
one_pair x y e = cc

found_at : (n : ℕ) (is : ProgramTree) (x : List ℕ) (k : ℕ) (i : ItemTree) → item_named type_name n is x ≡ Some (k, i) → (j : ℕ) × (n + j ≡ k) × (slice_get is j ≡ Some i)
found_at n [] x k i e = absurd (cc)
found_at n (y ∷ is) x k i e = by (has_name x (type_name y)) e (found_at (suc n) is x k i)
  where
    by : (b : Bool) → (if b then Some (n, y) else item_named type_name (suc n) is x) ≡ Some (k, i)
        → (item_named type_name (suc n) is x ≡ Some (k, i) → (j : ℕ) × (suc n + j ≡ k) × (slice_get is j ≡ Some i)) → (j : ℕ) × (n + j ≡ k) × (slice_get (y ∷ is) j ≡ Some i)
    by true e rest =
        let pair = one_pair (n, y) (k, i) e in
        let same : n ≡ k = ap (λ (z : ℕ × ItemTree). z.0) pair in (0, omega (arith, same), ap (λ (z : ℕ × ItemTree). Some z.1) pair)
    by false e rest = let r = rest e in let far : suc n + r.0 ≡ k = r.1 in (suc r.0, omega (arith, far), r.2)

stands_there : (p : ProgramTree) (x : List ℕ) (k : ℕ) (i : ItemTree) → item_named type_name 0 p x ≡ Some (k, i) → slice_get p k ≡ Some i
stands_there p x k i e = let r = found_at 0 p x k i e in let same : r.0 ≡ k = (let far : 0 + r.0 ≡ k = r.1 in omega (arith, far)) in ap (slice_get p) (sym same) ∙ r.2

-- a lifetime that is written, in front of its type
written_lifetime : (n n' : ℕ) (u u' : NodeNames) (l l' : List NodeNames) → u.numbers ≡ n ∷ [] → u'.numbers ≡ n' ∷ [] → n' ≡ n → Goes Any (and_then an_entry (λ ns. occurs (first ns))) (and_then an_entry (λ ns. occurs (first ns))) (u ∷ l) (u' ∷ l') l l'
written_lifetime n n' u u' l l' g g' same =
    goes_then an_entry an_entry (λ ns. occurs (first ns)) (λ ns. occurs (first ns)) (goes_entry u u' l l')
    (λ a b r. subst (λ (z : ℕ). Goes Any (occurs z) (occurs (first b)) l l' l l') (sym (ap first (r.0 ∙ g)))
    (subst (λ (z : ℕ). Goes Any (occurs n) (occurs z) l l' l l') (sym (ap first (r.1 ∙ g') ∙ same)) (occurs_goes n l l')))

module _ (P Q : ProgramTree) (items : ℕ → ℕ) (k : Keeps items P Q) (a b : ℕ) (L : DeclaredNames) where
  abbrev I : Inside
  I = record { program = P; item = a; lifetimes = L }

  abbrev J : Inside
  J = record { program = Q; item = b; lifetimes = L }

  -- it declares the same lifetimes in both
  pub same_list : (x : Ident) (n m : ℕ) → type_in I x ≡ Ok n → type_in J x ≡ Ok m → lifetimes_of (slice_get Q m) ≡ lifetimes_of (slice_get P n)
  same_list x n m e h =
      let p = found_type (item_named type_name 0 P x.name) n (known_some (as_type (item_named type_name 0 P x.name)) x.span n e) in
      let q = found_type (item_named type_name 0 Q x.name) m (known_some (as_type (item_named type_name 0 Q x.name)) x.span m h) in
      let same : q.0 ≡ p.0 = ap (λ (z : ℕ × ItemTree). z.1) (one_pair (m, q.0) (items n, p.0) (sym q.1 ∙ k.types x.name n p.0 p.1)) in
      ap lifetimes_of (stands_there Q x.name m q.0 q.1) ∙ ap (λ (i : ItemTree). lifetimes_of (Some i)) same ∙ ap lifetimes_of (sym (stands_there P x.name n p.0 p.1))

  -- lifetimes that are written have the same numbers
  same_numbers : (xs : List (Option Ident)) → lifetimes_in J xs ≡ lifetimes_in I xs
  same_numbers [] = refl
  same_numbers (None ∷ xs) = same_numbers xs
  same_numbers (Some l ∷ xs) = ap (λ (o : names.Outcome (List ℕ)). both (one (lifetime_in I l)) o) (same_numbers xs)

  one_list : (xs : List (Option Ident)) (ns ms : List ℕ) → lifetimes_in I xs ≡ Ok ns → lifetimes_in J xs ≡ Ok ms → ms ≡ ns
  one_list xs ns ms e h = the_same ms ns (sym h ∙ same_numbers xs ∙ e)

  -- ---- types

  abbrev pub TypeGoes : TypeTree → List NodeNames → List NodeNames → List NodeNames → List NodeNames → Type 0
  TypeGoes y l l' m m' = (e : Role) → LeavesOut e → Goes Any (type_of P e y) (type_of Q e y) l l' m m'

  abbrev pub TypesGo : TypeTrees → List NodeNames → List NodeNames → List NodeNames → List NodeNames → Type 0
  TypesGo ys l l' m m' = (e : Role) → LeavesOut e → Goes Any (types_of P e ys) (types_of Q e ys) l l' m m'

  named_goes : (s : Span) (x : Ident) (xs : Option (List (Option Ident))) (n n' : ℕ) (ns : List ℕ) (u u' : NodeNames) (m m' : List NodeNames) → u.numbers ≡ n ∷ ns → u'.numbers ≡ n' ∷ ns
      → lifetimes_of (slice_get Q n') ≡ lifetimes_of (slice_get P n) → TypeGoes (plain.named_type s x xs) (u ∷ m) (u' ∷ m') m m'
  named_goes s x xs n n' ns u u' m m' g g' same e w =
      goes_then an_entry an_entry
      (λ ns. and_then (lifetimes_at e s (lifetimes_of (slice_get P (first ns))) xs (others ns)) (λ ls. gives (ty.Adt (first ns) ls)))
      (λ ns. and_then (lifetimes_at e s (lifetimes_of (slice_get Q (first ns))) xs (others ns)) (λ ls. gives (ty.Adt (first ns) ls)))
      (goes_entry u u' m m')
      (λ a b r. subst (λ (z : List ℕ). Goes Any (and_then (lifetimes_at e s (lifetimes_of (slice_get P (first z))) xs (others z)) (λ ls. gives (ty.Adt (first z) ls)))
      (and_then (lifetimes_at e s (lifetimes_of (slice_get Q (first b))) xs (others b)) (λ ls. gives (ty.Adt (first b) ls))) m m' m m') (sym (r.0 ∙ g))
      (subst (λ (z : List ℕ). Goes Any (and_then (lifetimes_at e s (lifetimes_of (slice_get P n)) xs ns) (λ ls. gives (ty.Adt n ls)))
      (and_then (lifetimes_at e s (lifetimes_of (slice_get Q (first z))) xs (others z)) (λ ls. gives (ty.Adt (first z) ls))) m m' m m') (sym (r.1 ∙ g'))
      (subst (λ (ds : List Ident). Goes Any (and_then (lifetimes_at e s (lifetimes_of (slice_get P n)) xs ns) (λ ls. gives (ty.Adt n ls)))
      (and_then (lifetimes_at e s ds xs ns) (λ ls. gives (ty.Adt n' ls))) m m' m m') (sym same)
      (goes_map (lifetimes_at e s (lifetimes_of (slice_get P n)) xs ns) (lifetimes_at e s (lifetimes_of (slice_get P n)) xs ns) (λ ls. ty.Adt n ls) (λ ls. ty.Adt n' ls)
      (lifetimes_go e w s (lifetimes_of (slice_get P n)) xs ns m m')))))

  module _ (F G : List NodeNames) where
    -- the entries that are left in front, and what is read of them
    pub record LeftBoth (t u : ItemNames) (R : List NodeNames → List NodeNames → Type 0) : Type 0 where
      pub left : List NodeNames
      pub right : List NodeNames
      pub stands : F ≡ t.names ++ left
      pub also : G ≡ u.names ++ right
      pub goes : R left right

    mutual
      pub type_both : (at at' : List ℕ) (y : TypeTree) (t t' u u' : ItemNames) → in_type I at y t ≡ Ok t' → in_type J at' y u ≡ Ok u' → (m m' : List NodeNames) → F ≡ t'.names ++ m → G ≡ u'.names ++ m'
          → LeftBoth t u (λ l l'. TypeGoes y l l' m m')
      type_both at at' (plain.kind_type s k) t t' u u' e f m m' h i = record {
        left = m;
        right = m';
        stands = before_none F t t' m e h;
        also = before_none G u u' m' f i;
        goes = λ r w. goes_gives (ty.Int k) (ty.Int k) tt m m';
      }
      type_both at at' (plain.bool_type s) t t' u u' e f m m' h i = record {
        left = m;
        right = m';
        stands = before_none F t t' m e h;
        also = before_none G u u' m' f i;
        goes = λ r w. goes_gives ty.Bool ty.Bool tt m m';
      }
      type_both at at' (plain.tuple_type s ys) t t' u u' e f m m' h i =
          let a = types_both at at' 0 0 ys t t' u u' e f m m' h i in
          record {
            left = a.left;
            right = a.right;
            stands = a.stands;
            also = a.also;
            goes = λ r w. goes_map (types_of P r ys) (types_of Q r ys) (λ ts. ty.Tuple ts) (λ ts. ty.Tuple ts) (a.goes r w);
          }
      type_both at at' (plain.ref_type s None b y) t t' u u' e f m m' h i =
          let a = type_both (child at 0) (child at' 0) y t t' u u' e f m m' h i in
          record {
            left = a.left;
            right = a.right;
            stands = a.stands;
            also = a.also;
            goes = λ r w. goes_then (lifetime_at r s None) (lifetime_at r s None) (λ l. and_then (type_of P r y) (λ t. gives (pointing b l t))) (λ l. and_then (type_of Q r y) (λ t. gives (pointing b l t)))
                (w s a.left a.right) (λ l l' z. goes_map (type_of P r y) (type_of Q r y) (λ t. pointing b l t) (λ t. pointing b l' t) (a.goes r w));
          }
      type_both at at' (plain.ref_type s (Some l) b y) t t' u u' e f m m' h i =
          let o = named_ok (in_lifetime I at (Some l) t) (in_type I (child at 0) y) t' e in
          let p = named_ok (in_lifetime J at' (Some l) u) (in_type J (child at' 0) y) u' f in
          let z = lifetime_entry I at (lifetime_in I l) t o.0 o.1 in
          let x = lifetime_entry J at' (lifetime_in J l) u p.0 p.1 in
          let same : x.0 ≡ z.0 = the_same x.0 z.0 (sym x.1 ∙ z.1) in
          let a = type_both (child at 0) (child at' 0) y o.0 t' p.0 u' o.2 p.2 m m' h i in
          let n = entry I at (z.0 ∷ []) in let n' = entry J at' (x.0 ∷ []) in
          record {
            left = n ∷ a.left;
            right = n' ∷ a.right;
            stands = before_entry F n t o.0 a.left z.2 a.stands;
            also = before_entry G n' u p.0 a.right x.2 a.also;
            goes = λ r w. goes_then (lifetime_at r s (Some l)) (lifetime_at r s (Some l)) (λ l. and_then (type_of P r y) (λ t. gives (pointing b l t))) (λ l. and_then (type_of Q r y) (λ t. gives (pointing b l t)))
                (written_lifetime z.0 x.0 n n' a.left a.right refl refl same) (λ l l' z. goes_map (type_of P r y) (type_of Q r y) (λ t. pointing b l t) (λ t. pointing b l' t) (a.goes r w));
          }
      type_both at at' (plain.named_type s x ls) t t' u u' e f m m' h i =
          let z = name_entry I at (type_in I x) (lifetimes_in I (written ls)) t t' e in
          let v = name_entry J at' (type_in J x) (lifetimes_in J (written ls)) u u' f in
          let n = entry I at (z.0 ∷ z.1) in let n' = entry J at' (v.0 ∷ v.1) in
          record {
            left = n ∷ m;
            right = n' ∷ m';
            stands = before_entry F n t t' m z.4 h;
            also = before_entry G n' u u' m' v.4 i;
            goes = named_goes s x ls z.0 v.0 z.1 n n' m m' refl (ap (λ (ms : List ℕ). v.0 ∷ ms) (one_list (written ls) z.1 v.1 z.3 v.3)) (same_list x z.0 v.0 z.2 v.2);
          }

      pub types_both : (at at' : List ℕ) (c c' : ℕ) (ys : TypeTrees) (t t' u u' : ItemNames) → in_types I at c ys t ≡ Ok t' → in_types J at' c' ys u ≡ Ok u' → (m m' : List NodeNames) → F ≡ t'.names ++ m → G ≡ u'.names ++ m'
          → LeftBoth t u (λ l l'. TypesGo ys l l' m m')
      types_both at at' c c' plain.no_type t t' u u' e f m m' h i = record {
        left = m;
        right = m';
        stands = before_none F t t' m e h;
        also = before_none G u u' m' f i;
        goes = λ r w. goes_gives [] [] tt m m';
      }
      types_both at at' c c' (plain.type_and y ys) t t' u u' e f m m' h i =
          let o = named_ok (in_type I (child at c) y t) (in_types I at (next c) ys) t' e in
          let p = named_ok (in_type J (child at' c') y u) (in_types J at' (next c') ys) u' f in
          let b = types_both at at' (next c) (next c') ys o.0 t' p.0 u' o.2 p.2 m m' h i in
          let a = type_both (child at c) (child at' c') y t o.0 u p.0 o.1 p.1 b.left b.right b.stands b.also in
          record {
            left = a.left;
            right = a.right;
            stands = a.stands;
            also = a.also;
            goes = λ r w. goes_front (type_of P r y) (type_of Q r y) (types_of P r ys) (types_of Q r ys) {l = a.left} {l' = a.right} {m = b.left} {m' = b.right} (a.goes r w) (b.goes r w);
          }
