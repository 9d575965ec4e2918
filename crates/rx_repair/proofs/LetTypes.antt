-- The types that `let`s write name each struct or enum with as many lifetimes as it declares: those that are written are so many, and where
-- none is, one is left out for each. So have the variables that their patterns bind.
use Rattle.std.proofs.Common.{◌≡◌, ℕ, zero, suc, ◌+◌, ◌<◌, true, false, Bool, List, [], ◌∷◌, ◌++◌, map, length, Option, Some, None, Ok, Err, slice_get, refl, sym, ap, subst, ◌∙◌, arith}
use Rattle.rx_core.specs.declared.types.Span.{Span}
use Rattle.rx_core.specs.declared.types.Step.TheVariants as step
use Rattle.rx_core.specs.declared.types.Ty.{Ty}
use Rattle.rx_core.specs.declared.types.Ty.TheVariants as ty
use Rattle.rx_tree.specs.declared.tree.Ident.{Ident}
use Rattle.rx_tree.specs.Plain as plain
use Rattle.rx_tree.specs.Plain.{TypeTree, TypeTrees, ItemTree, ProgramTree}
use Rattle.rx_tree.specs.Positions.{NodeTree}
use Rattle.rx_tree.specs.Nodes.{nodes, total, below_item}
use Rattle.rx_tree.specs.Size.{item_lifetimes, lifetimes_at as lifetimes_counted}
use Rattle.rx_resolve_names.specs.declared.resolved.ItemNames.{ItemNames}
use Rattle.rx_resolve_names.specs.declared.resolved.NodeNames.{NodeNames}
use Rattle.rx_resolve_names.specs.Meant.{number}
use Rattle.rx_typed.specs.declared.declarations.Decl.{Decl}
use Rattle.rx_typed.specs.declared.nodes.Site.{Site}
use Rattle.rx_typed.specs.PlainTypes.{plain-Decl, declarations}
use Rattle.rx_typed.specs.Regions.{RegionTyp, region_integer, region_boolean, region_tuple, region_reference, region_named, region-Ty, region_of_integer, region_of_boolean, region_of_tuple, region_of_shared, region_of_mut, region_of_item}
use Rattle.rx_typed.specs.Types.{Declarations, lifetimes_declared}
use Rattle.rx_typed.specs.Named as named
use Rattle.rx_typed.specs.Named.{Pattern, Patterns, FieldPatterns}
use Rattle.rx_typed.specs.Naming as naming
use Rattle.rx_typed.specs.Naming.{Annotation, Cursor, lifetimes_written, of_type, of_types, of_pattern}
use Rattle.rx_typed.specs.Elaborated.{Met, field_in}
use Rattle.rx_typed.specs.Types as types
use Rattle.rx_typeck_elaborate_parts.specs.Entries.{in_front}
use Rattle.rx_typeck_typed.specs.Steps as steps
use Rattle.rx_typeck_typed.specs.Steps.{Outcome, Reading, on_ok}
use Rattle.rx_typeck_typed.specs.Written.{elided, all_elided, listed, lifetimes_at, lifetimes_of, pointing, type_of, types_of}
use Rattle.rx_typeck_typed.specs.Items.{begins, fields_of, variants_of, all_used, bounded, entry_of, parameters_of, answer_of, declared_item, declared_items, entries_of}
use Rattle.rx_typeck_typed.specs.Lets.{read, let_type}
use Rattle.rx_typeck_typed.specs.Bindings.{peeled, bound, way, part, bindings, parts, fields, behind, of_let, of_lets}
use Rattle.rx_repair.specs.Fitting.{AsMany, HasAll}
use Rattle.rx_repair.proofs.RenamingPlaces.{Good}
use Rattle.rx_repair.proofs.Having.{place_has}
use Rattle.rx_repair.proofs.Holding.{AllHave, regions_have}
use Rattle.rx_repair.proofs.Annotated.{ListFits, TypeFits, TypesFit}
use Rattle.rx_repair.proofs.RenamingNoting.{others, one, left_by, read_by, NoteFits, NotesFit}

-- ---- what holds of an outcome that is well

abbrev Ends : {A : Type 0} → (A → Type 0) → Outcome A → Type 0
Ends Q (Ok a) = Q a
Ends Q (Err e) = Unit {0}

ends_then : {A B : Type 0} (Q : A → Type 0) (R : B → Type 0) (m : Outcome A) (f : A → Outcome B) → Ends Q m → ((a : A) → Q a → Ends R (f a)) → Ends R (on_ok m f)
ends_then Q R (Ok a) f h k = k a h
ends_then Q R (Err e) f h k = tt

ends_any : {A B : Type 0} (R : B → Type 0) (m : Outcome A) (f : A → Outcome B) → ((a : A) → Ends R (f a)) → Ends R (on_ok m f)
ends_any R (Ok a) f k = k a
ends_any R (Err e) f k = tt

ended : {A : Type 0} (Q : A → Type 0) (m : Outcome A) (a : A) → Ends Q m → m ≡ Ok a → Q a
ended Q m a h e = subst (λ (o : Outcome _). Ends Q o) e h

-- ---- so many lifetimes are declared as are written in front of an item

abbrev Counts : ItemTree → Decl → Type 0
Counts it d = lifetimes_declared (Some (plain-Decl d)) ≡ length (lifetimes_of (Some it))

few_number : (n : ℕ) → n < 4294967296 → number n ≡ n
few_number n h = omega (arith, h)

item_counts : (p : ProgramTree) (es : List NodeNames) (it : ItemTree) → item_lifetimes it < 4294967296 → Ends (Counts it) (declared_item p es it)
item_counts p es (plain.rt_item s r) few = refl
item_counts p es (plain.struct_item s d) few =
    ends_any (Counts (plain.struct_item s d)) (fields_of p d.fields (begins es 0)) _ (λ a. ends_any (Counts (plain.struct_item s d)) (all_used 0 d.lifetimes a.1.lifetimes) _ (λ b. few_number (length d.lifetimes) few))
item_counts p es (plain.enum_item s d) few =
    ends_any (Counts (plain.enum_item s d)) (variants_of p d.variants (begins es 0)) _ (λ a. ends_any (Counts (plain.enum_item s d)) (all_used 0 d.lifetimes a.1.lifetimes) _ (λ b. few_number (length d.lifetimes) few))
item_counts p es (plain.function_item s f) few =
    let B = bounded 0 f.lifetimes in
    ends_any (Counts (plain.function_item s f)) (entry_of B f.params (begins es (number (length f.lifetimes)))) _ (λ a. ends_any (Counts (plain.function_item s f)) (parameters_of p f.params a.1) _
    (λ b. ends_any (Counts (plain.function_item s f)) (answer_of p f.result b.1) _ (λ c. refl)))

total_append : (f : NodeTree → ℕ) (a b : List NodeTree) → total f (a ++ b) ≡ total f a + total f b
total_append f [] b = omega arith
total_append f (n ∷ a) b = let more = total_append f a b in omega (arith, more)

abbrev pub AllCount : ProgramTree → List Decl → Type 0
AllCount is ds = (i : ℕ) → lifetimes_declared (slice_get (declarations ds) i) ≡ length (lifetimes_of (slice_get is i))

none_count : AllCount [] []
none_count zero = refl
none_count (suc i) = refl

more_count : (it : ItemTree) (is : ProgramTree) (d : Decl) (ds : List Decl) → Counts it d → AllCount is ds → AllCount (it ∷ is) (d ∷ ds)
more_count it is d ds h k zero = h
more_count it is d ds h k (suc i) = k i

items_count : (p : ProgramTree) (ns : List ItemNames) (n : ℕ) (is : ProgramTree) → total lifetimes_counted (nodes is) < 4294967296 → Ends (AllCount is) (declared_items p ns n is)
items_count p ns n [] few = none_count
items_count p ns n (it ∷ is) few =
    let all = total_append lifetimes_counted (below_item it) (nodes is) in
    ends_then (Counts it) (AllCount (it ∷ is)) (declared_item p (entries_of (slice_get ns n)) it) _ (item_counts p (entries_of (slice_get ns n)) it (omega (arith, few)))
    (λ d h. ends_then (AllCount is) (AllCount (it ∷ is)) (declared_items p ns (suc n) is) _ (items_count p ns (suc n) is (omega (arith, few, all))) (λ ds k. more_count it is d ds h k))

pub all_count : (p : ProgramTree) (ns : List ItemNames) (ds : List Decl) → total lifetimes_counted (nodes p) < 4294967296 → declared_items p ns 0 p ≡ Ok ds → AllCount p ds
all_count p ns ds few e = ended (AllCount p) (declared_items p ns 0 p) ds (items_count p ns 0 p few) e

-- ---- types that are written

-- where a type stands: what `elided` reads
abbrev domain : {R S : Type 0} → (R → S) → Type 0
domain {R} {S} f = R

abbrev Role : Type 0
Role = domain elided

-- where the type of a `let` does
abbrev in_let : (F : ℕ → Role) × ((p : ProgramTree) (free : ℕ) (y : TypeTree) (ns : List NodeNames) → let_type p free y ns ≡ read (type_of p (F free) y (begins ns free)))
in_let = (λ l. _, λ p free y ns. refl)

abbrev Let : ℕ → Role
Let l = in_let.0 l

abbrev how_many : List Ident → Option (List (Option Ident)) → ℕ
how_many ds None = length ds
how_many ds (Some ls) = length ls

read_left : (ns : List NodeNames) (r : Reading) → r.names ≡ ns → (steps.taken ns r).1.names ≡ others ns
read_left [] r e = e
read_left (x ∷ xs) r e = refl

read_numbers : (ns : List NodeNames) (r : Reading) → (steps.taken ns r).0 ≡ (one ns).0
read_numbers [] r = refl
read_numbers (x ∷ xs) r = refl

module _ (p : ProgramTree) (D : Declarations) (count : (i : ℕ) → lifetimes_declared (slice_get D i) ≡ length (lifetimes_of (slice_get p i))) (free : ℕ) where
  abbrev Long : List NodeNames → ℕ → List ℕ × Reading → Type 0
  Long ns n x = (length x.0 ≡ n) × (x.1.names ≡ ns)

  elided_long : (s : Span) (ds : List Ident) (r : Reading) → Ends (Long r.names (length ds)) (all_elided (Let free) s ds r)
  elided_long s [] r = (refl, refl)
  elided_long s (d ∷ ds) r =
      let r1 : Reading = record r { lifetimes = r.lifetimes ++ free ∷ [] } in
      ends_then (Long r.names (length ds)) (Long r.names (suc (length ds))) (all_elided (Let free) s ds r1) _ (elided_long s ds r1) (λ a k. (ap suc k.0, k.1))

  listed_long : (s : Span) (ls : List (Option Ident)) (ns : List ℕ) (r : Reading) → Ends (Long r.names (length ls)) (listed (Let free) s ls ns r)
  listed_long s [] ns r = (refl, refl)
  listed_long s (None ∷ ls) ns r =
      let r1 : Reading = record r { lifetimes = r.lifetimes ++ free ∷ [] } in
      ends_then (Long r.names (length ls)) (Long r.names (suc (length ls))) (listed (Let free) s ls ns r1) _ (listed_long s ls ns r1) (λ a k. (ap suc k.0, k.1))
  listed_long s (Some x ∷ ls) ns r =
      let r1 : Reading = record r { lifetimes = r.lifetimes ++ steps.first ns ∷ [] } in
      ends_then (Long r.names (length ls)) (Long r.names (suc (length ls))) (listed (Let free) s ls (steps.others ns) r1) _ (listed_long s ls (steps.others ns) r1) (λ a k. (ap suc k.0, k.1))

  lifetimes_long : (s : Span) (ds : List Ident) (ls : Option (List (Option Ident))) (ns : List ℕ) (r : Reading) → Ends (Long r.names (how_many ds ls)) (lifetimes_at (Let free) s ds ls ns r)
  lifetimes_long s ds None ns r = elided_long s ds r
  lifetimes_long s ds (Some ls) ns r = listed_long s ls ns r

  as_declared : (i : ℕ) (ls : Option (List (Option Ident))) → ListFits D i (lifetimes_written ls) → how_many (lifetimes_of (slice_get p i)) ls ≡ lifetimes_declared (slice_get D i)
  as_declared i None h = sym (count i)
  as_declared i (Some ls) h = sym h

  -- it has all lifetimes, and as many entries of names were taken as the tree with numbers takes
  abbrev Fine : List NodeNames → Ty × Reading → Type 0
  Fine ns x = HasAll D (region-Ty x.0) × (x.1.names ≡ ns)

  abbrev AllFine : List NodeNames → List Ty × Reading → Type 0
  AllFine ns x = AllHave D (map region-Ty x.0) × (x.1.names ≡ ns)

  pointing_has : (m : Bool) (l : ℕ) (t : Ty) → HasAll D (region-Ty t) → HasAll D (region-Ty (pointing m l t))
  pointing_has false l t h = subst (λ (u : RegionTyp). HasAll D u) (sym (region_of_shared l t)) h
  pointing_has true l t h = subst (λ (u : RegionTyp). HasAll D u) (sym (region_of_mut l t)) h

  item_has : (i : ℕ) (ls : List ℕ) → AsMany D i ls → HasAll D (region-Ty (ty.Adt i ls))
  item_has i ls h = subst (λ (u : RegionTyp). HasAll D u) (sym (region_of_item i ls)) h

  tuple_has : (ts : List Ty) → AllHave D (map region-Ty ts) → HasAll D (region-Ty (ty.Tuple ts))
  tuple_has ts h = subst (λ (u : RegionTyp). HasAll D u) (sym (region_of_tuple ts)) (regions_have D (map region-Ty ts) h)

  -- the entry that is read is the one that is numbered
  same_entry : (r : Reading) (c : Cursor) → r.names ≡ c.names → (naming.taken c.names c).0.0 ≡ (steps.taken r.names r).0
  same_entry r c e = ap (λ (x : List ℕ × Bool). x.0) (read_by c.names c) ∙ (ap (λ (ns : List NodeNames). (one ns).0) (sym e) ∙ sym (read_numbers r.names r))

  same_left : (r : Reading) (c : Cursor) → r.names ≡ c.names → (steps.taken r.names r).1.names ≡ (naming.taken c.names c).1.names
  same_left r c e = read_left r.names r refl ∙ (ap others e ∙ sym (left_by c.names c refl))

  mutual
    type_fine : (t : TypeTree) (r : Reading) (c : Cursor) → r.names ≡ c.names → TypeFits D (of_type t c).0 → Ends (Fine (of_type t c).1.names) (type_of p (Let free) t r)
    type_fine (plain.kind_type s k) r c e h = (subst (λ (u : RegionTyp). HasAll D u) (sym (region_of_integer k)) tt, e)
    type_fine (plain.bool_type s) r c e h = (subst (λ (u : RegionTyp). HasAll D u) (sym region_of_boolean) tt, e)
    type_fine (plain.tuple_type s ts) r c e h =
        let d = (naming.a_node s Site.Value c).1 in
        ends_then (AllFine (of_types ts d).1.names) (Fine (of_types ts d).1.names) (types_of p (Let free) ts r) _ (types_fine ts r d e h) (λ a k. (tuple_has a.0 k.0, k.1))
    type_fine (plain.ref_type s None m t) r c e h =
        let d = (naming.a_node s Site.Value c).1 in
        let r1 : Reading = record r { lifetimes = r.lifetimes ++ free ∷ [] } in
        ends_then (Fine (of_type t d).1.names) (Fine (of_type t d).1.names) (type_of p (Let free) t r1) _ (type_fine t r1 d e h) (λ a k. (pointing_has m free a.0 k.0, k.1))
    type_fine (plain.ref_type s (Some l) m t) r c e h =
        let d0 = (naming.a_node s Site.Value c).1 in
        let d = (naming.an_entry d0).1 in
        let x = steps.taken r.names r in
        let r1 : Reading = record x.1 { lifetimes = x.1.lifetimes ++ steps.first x.0 ∷ [] } in
        ends_then (Fine (of_type t d).1.names) (Fine (of_type t d).1.names) (type_of p (Let free) t r1) _ (type_fine t r1 d (same_left r d0 e) h) (λ a k. (pointing_has m (steps.first x.0) a.0 k.0, k.1))
    type_fine (plain.named_type s y ls) r c e h =
        let d0 = (naming.a_node s Site.Value c).1 in
        let x = steps.taken r.names r in
        let i = steps.first x.0 in
        let fit : ListFits D i (lifetimes_written ls) = subst (λ (ns : List ℕ). ListFits D (naming.first ns) (lifetimes_written ls)) (same_entry r d0 e) h in
        ends_then (Long x.1.names (how_many (lifetimes_of (slice_get p i)) ls)) (Fine (naming.an_entry d0).1.names) (lifetimes_at (Let free) s (lifetimes_of (slice_get p i)) ls (steps.others x.0) x.1) _
        (lifetimes_long s (lifetimes_of (slice_get p i)) ls (steps.others x.0) x.1) (λ a k. (item_has i a.0 (k.0 ∙ as_declared i ls fit), k.1 ∙ same_left r d0 e))

    types_fine : (ts : TypeTrees) (r : Reading) (c : Cursor) → r.names ≡ c.names → TypesFit D (of_types ts c).0 → Ends (AllFine (of_types ts c).1.names) (types_of p (Let free) ts r)
    types_fine plain.no_type r c e h = (tt, e)
    types_fine (plain.type_and t ts) r c e h =
        let d = (of_type t c).1 in
        ends_then (Fine d.names) (AllFine (of_types ts d).1.names) (type_of p (Let free) t r) _ (type_fine t r c e h.0)
        (λ a k. ends_then (AllFine (of_types ts d).1.names) (AllFine (of_types ts d).1.names) (types_of p (Let free) ts a.1) _ (types_fine ts a.1 d k.1 h.1) (λ b l. ((k.0, l.0), l.1)))

  read_has : (ns : List NodeNames) (o : Outcome (Ty × Reading)) → Ends (Fine ns) o → HasAll D (region-Ty (read o))
  read_has ns (Ok r) h = h.0
  read_has ns (Err e) h = tuple_has [] tt

  pub let_has : (a : Annotation) → NoteFits D a → HasAll D (region-Ty (let_type p free a.typ (behind a).names))
  let_has a h = read_has (of_type a.typ (behind a)).1.names (type_of p (Let free) a.typ (begins (behind a).names free)) (type_fine a.typ (begins (behind a).names free) (behind a) refl h)

-- ---- what their patterns bind

abbrev pub PairsHave : Declarations → List (ℕ × RegionTyp) → Type 0
PairsHave E [] = Unit {0}
PairsHave E (x ∷ xs) = HasAll E x.1 × PairsHave E xs

pairs_append : (E : Declarations) (xs ys : List (ℕ × RegionTyp)) → PairsHave E xs → PairsHave E ys → PairsHave E (xs ++ ys)
pairs_append E [] ys h k = k
pairs_append E (x ∷ xs) ys h k = (h.0, pairs_append E xs ys h.1 k)

peeled_has : (E : Declarations) (t : RegionTyp) → HasAll E t → HasAll E (peeled t)
peeled_has E (region_reference m l t) h = peeled_has E t h
peeled_has E (region_integer k) h = h
peeled_has E region_boolean h = h
peeled_has E (region_tuple ts) h = h
peeled_has E (region_named i ls) h = h

module _ (D : List Decl) (good : Good D) (free : ℕ) where
  bound_has : (r : Met) (t : RegionTyp) → HasAll (declarations D) t → HasAll (declarations D) (bound free r t)
  bound_has None t h = h
  bound_has (Some m) t h = h

  part_has : (v : Option ℕ) (k : ℕ) (t : RegionTyp) → HasAll (declarations D) t → HasAll (declarations D) (part D v k t)
  part_has v k t h = place_has D good t (way v ++ step.Field k ∷ []) h

  mutual
    bindings_have : (r : Met) (q : Pattern) (t : RegionTyp) → HasAll (declarations D) t → PairsHave (declarations D) (bindings D free r q t)
    bindings_have r (named.wild n) t h = tt
    bindings_have r (named.bind n x m) t h = (bound_has r t h, tt)
    bindings_have r (named.whole_number n g v k) t h = tt
    bindings_have r (named.truth n b) t h = tt
    bindings_have r (named.tuple_pattern n ps) t h = parts_have _ None 0 ps (peeled t) (peeled_has (declarations D) t h)
    bindings_have r (named.variant_pattern n i v ps) t h = parts_have _ (Some v) 0 ps (peeled t) (peeled_has (declarations D) t h)
    bindings_have r (named.struct_pattern n i fs) t h = fields_have _ i fs (peeled t) (peeled_has (declarations D) t h)

    parts_have : (r : Met) (v : Option ℕ) (k : ℕ) (ps : Patterns) (t : RegionTyp) → HasAll (declarations D) t → PairsHave (declarations D) (parts D free r v k ps t)
    parts_have r v k named.no_pattern t h = tt
    parts_have r v k (named.pattern_and q ps) t h =
        pairs_append (declarations D) (bindings D free r q (part D v k t)) (parts D free r v (suc k) ps t) (bindings_have r q (part D v k t) (part_has v k t h)) (parts_have r v (suc k) ps t h)

    fields_have : (r : Met) (i : ℕ) (fs : FieldPatterns) (t : RegionTyp) → HasAll (declarations D) t → PairsHave (declarations D) (fields D free r i fs t)
    fields_have r i named.no_field_pattern t h = tt
    fields_have r i (named.field_pattern_and x q fs) t h =
        let k = field_in (declarations D) (types.named i) x in
        pairs_append (declarations D) (bindings D free r q (part D None k t)) (fields D free r i fs t) (bindings_have r q (part D None k t) (part_has None k t h)) (fields_have r i fs t h)

  module _ (p : ProgramTree) (count : AllCount p D) where
    pub lets_have : (notes : List Annotation) → NotesFit (declarations D) notes → PairsHave (declarations D) (of_lets p D free notes)
    lets_have [] h = tt
    lets_have (a ∷ more) h =
        pairs_append (declarations D) (of_let p D free a) (of_lets p D free more)
        (bindings_have None (of_pattern a.pattern (in_front a)).0 (region-Ty (let_type p free a.typ (behind a).names)) (let_has p (declarations D) count free a h.0)) (lets_have more h.1)
