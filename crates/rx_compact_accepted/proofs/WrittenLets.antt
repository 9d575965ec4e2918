-- The types that `let`s write name each struct or enum with as many lifetimes as it declares: those that are written are as many where the
-- function's demands are met, and where none is, one is left out for each.
use Rattle.std.proofs.Common.{◌≡◌, ℕ, zero, suc, ◌+◌, ◌<◌, true, false, Bool, List, [], ◌∷◌, ◌++◌, map, length, Option, Some, None, Ok, Err, slice_get, refl, sym, ap, subst, ◌∙◌, arith, eqb-true}
use Rattle.rx_core.specs.declared.types.Span.{Span}
use Rattle.rx_core.specs.declared.types.Ty.{Ty}
use Rattle.rx_core.specs.declared.types.Ty.TheVariants as ty
use Rattle.rx_tree.specs.declared.tree.Ident.{Ident}
use Rattle.rx_tree.specs.Plain as plain
use Rattle.rx_tree.specs.Plain.{TypeTree, TypeTrees, ItemTree, ProgramTree}
use Rattle.rx_tree.specs.Positions.{NodeTree}
use Rattle.rx_tree.specs.Nodes.{nodes, total, below_item}
use Rattle.rx_tree.specs.Size.{item_lifetimes, lifetimes_at as lifetimes_counted}
use Rattle.rx_resolve_names.specs.declared.resolved.ItemNames.{ItemNames}
use Rattle.rx_resolve_names.specs.declared.resolved.NodeNames.{NodeNames}
use Rattle.rx_resolve_names.specs.Meant.{number}
use Rattle.rx_typed.specs.declared.declarations.Decl.{Decl}
use Rattle.rx_typed.specs.declared.nodes.Node.{Node}
use Rattle.rx_typed.specs.declared.nodes.Site.{Site}
use Rattle.rx_typed.specs.PlainTypes.{plain-Decl, declarations}
use Rattle.rx_typed.specs.Regions.{RegionTyp, regions_of, region-Ty, region_of_integer, region_of_boolean, region_of_tuple, region_of_shared, region_of_mut, region_of_item}
use Rattle.rx_typed.specs.Types.{Declarations, lifetimes_declared}
use Rattle.rx_typed.specs.Named as named
use Rattle.rx_typed.specs.Named.{Written, WrittenTypes, Pattern, Exp, written_node, pattern_node, node_of, never, whole_binding}
use Rattle.rx_typed.specs.Naming as naming
use Rattle.rx_typed.specs.Naming.{Annotation, Cursor, a_node, an_entry, lifetimes_written, of_type, of_types, of_pattern, function_named, function_annotations}
use Rattle.rx_typeck_solver.specs.Facts.{Assignment, KnownItems, MeetsEach}
use Rattle.rx_typeck_solver.specs.Stepping.{known}
use Rattle.rx_typeck_typed.specs.Asking.{Asking}
use Rattle.rx_typeck_typed.specs.Demands as rules
use Rattle.rx_typeck_typed.specs.Steps as steps
use Rattle.rx_typeck_typed.specs.Steps.{Outcome, Reading, on_ok}
use Rattle.rx_typeck_typed.specs.Written.{elided, all_elided, listed, lifetimes_at, lifetimes_of, pointing, type_of, types_of}
use Rattle.rx_typeck_typed.specs.Items.{begins, fields_of, variants_of, all_used, bounded, entry_of, parameters_of, answer_of, declared_item, declared_items, entries_of}
use Rattle.rx_typeck_typed.specs.Lets.{read, let_type}
use Rattle.rx_typeck_typed.specs.Bindings.{behind}
use Rattle.rx_repair.specs.Fitting.{AsMany, HasAll, HaveAll}
use Rattle.rx_repair.proofs.Asking.{Asks, asks_map, none, both, then_first, one_asked, quiet, one_variable_u}
use Rattle.rx_repair.proofs.Bound.{whole_binds}
use Rattle.rx_repair.proofs.Letting.{Lets}
use Rattle.rx_repair.proofs.LetsMet.{function_fits}
use Rattle.rx_repair.proofs.Noting.{others, one, left_by, read_by, Level, Numberless, NotesFit, notes_fit, pattern_level, node_level, entry_level, entry_numbers_same, type_level}

-- ---- lists of lifetimes that are as long as is declared

abbrev ListFits : Declarations → ℕ → Option ℕ → Type 0
ListFits D i None = Unit {0}
ListFits D i (Some k) = lifetimes_declared (slice_get D i) ≡ k

abbrev mutual
  TypeFits : Declarations → Written → Type 0
  TypeFits D (named.a_kind n k) = Unit {0}
  TypeFits D (named.a_bool n) = Unit {0}
  TypeFits D (named.a_tuple n ts) = TypesFit D ts
  TypeFits D (named.a_reference n m t) = TypeFits D t
  TypeFits D (named.an_item n i ls) = ListFits D i ls

  TypesFit : Declarations → WrittenTypes → Type 0
  TypesFit D named.no_written = Unit {0}
  TypesFit D (named.written_and t ts) = TypeFits D t × TypesFit D ts

abbrev OptionFits : Declarations → Option Written → Type 0
OptionFits D None = Unit {0}
OptionFits D (Some t) = TypeFits D t

abbrev LetFits : Declarations → Lets
LetFits D p t = OptionFits D t

-- whatever the numbers of nodes
module _ (D : Declarations) where
  mutual
    fits_level : (t : TypeTree) (c d : Cursor) → Level c d → TypeFits D (of_type t c).0 → TypeFits D (of_type t d).0
    fits_level (plain.kind_type s k) c d e h = h
    fits_level (plain.bool_type s) c d e h = h
    fits_level (plain.tuple_type s ts) c d e h = all_fit_level ts (a_node s Site.Value c).1 (a_node s Site.Value d).1 (node_level s c d e) h
    fits_level (plain.ref_type s None m t) c d e h = fits_level t (a_node s Site.Value c).1 (a_node s Site.Value d).1 (node_level s c d e) h
    fits_level (plain.ref_type s (Some l) m t) c d e h =
        let c1 = (a_node s Site.Value c).1 in let d1 = (a_node s Site.Value d).1 in
        fits_level t (an_entry c1).1 (an_entry d1).1 (entry_level c1 d1 (node_level s c d e)) h
    fits_level (plain.named_type s x ls) c d e h =
        subst (λ (ns : List ℕ). ListFits D (naming.first ns) (lifetimes_written ls)) (entry_numbers_same (a_node s Site.Value c).1 (a_node s Site.Value d).1 (node_level s c d e)) h

    all_fit_level : (ts : TypeTrees) (c d : Cursor) → Level c d → TypesFit D (of_types ts c).0 → TypesFit D (of_types ts d).0
    all_fit_level plain.no_type c d e h = h
    all_fit_level (plain.type_and t ts) c d e h = (fits_level t c d e h.0, all_fit_level ts (of_type t c).1 (of_type t d).1 (type_level t c d e) h.1)

  let_numberless : Numberless (LetFits D)
  let_numberless p t c d e h = fits_level t (of_pattern p c).1 (of_pattern p d).1 (pattern_level p c d e) h

-- ---- where what is asked is met

module _ (K : KnownItems) (A : Assignment) where
  abbrev Wants : Type 0 → Asking → Type 0
  Wants R a = Asks K A R a

  lifetimes_fit : (n : Node) (i : ℕ) (l : Option ℕ) → Wants (ListFits K.items i l) (rules.lifetimes_asked n i l)
  lifetimes_fit n i None = none
  lifetimes_fit n i (Some k) = asks_map (λ h. eqb-true _ k h.0) (one_asked n _ _ _)

  mutual
    type_fits : (t : Written) → Wants (TypeFits K.items t) (rules.of_type t)
    type_fits (named.a_kind n k) = quiet n _ _ _
    type_fits (named.a_bool n) = quiet n _ _ _
    type_fits (named.a_tuple n ts) = then_first (types_fit ts) (quiet n _ _ _)
    type_fits (named.a_reference n m t) = then_first (type_fits t) (quiet n _ _ _)
    type_fits (named.an_item n i ls) = then_first (lifetimes_fit n i ls) (quiet n _ _ _)

    types_fit : (ts : WrittenTypes) → Wants (TypesFit K.items ts) (rules.of_types ts)
    types_fit named.no_written = none
    types_fit (named.written_and t ts) = both (type_fits t) (types_fit ts)

  whole_fits : (t : Written) → Wants (TypeFits K.items t) (rules.whole_type t)
  whole_fits t = then_first (type_fits t) (quiet (written_node t) _ _ _)

  declared_fits : (p : Pattern) (t : Option Written) → Wants (OptionFits K.items t) (rules.declared p t)
  declared_fits p None = one_variable_u (pattern_node p) (whole_binding p)
  declared_fits p (Some t) = then_first (whole_fits t) (whole_binds K A rules.a_value _ p)

  typed_fits : (t : Option Written) (e : Exp) → Wants (OptionFits K.items t) (rules.typed_before t e)
  typed_fits None e = none
  typed_fits (Some t) e = then_first (whole_fits t) (quiet (node_of e) _ _ _)

  by_u : (v : Bool) (p : Pattern) (e : Exp) → Wants (Unit {0}) (rules.initialised_by v p (rules.matched e) (node_of e))
  by_u true p e = one_variable_u (pattern_node p) (whole_binding p)
  by_u false p e = asks_map (λ h. tt) (whole_binds K A (rules.matched e) _ p)

  let_fits : (p : Pattern) (t : Option Written) (e : Exp) → Wants (OptionFits K.items t → OptionFits K.items t) (rules.initialised p t e)
  let_fits p None e = asks_map (λ h x. x) (by_u (never e) p e)
  let_fits p (Some t) e = asks_map (λ h x. x) (whole_binds K A (rules.matched e) _ p)

  notes_are_fit : (i : ℕ) (s : Span) (f : plain.Function) (ns : List NodeNames) → MeetsEach K A (rules.demands (function_named i s f ns))
      → NotesFit (LetFits K.items) (let_numberless K.items) (function_annotations s f ns)
  notes_are_fit i s f ns met =
      notes_fit (LetFits K.items) (let_numberless K.items) i s f ns (function_fits K A (LetFits K.items) declared_fits (OptionFits K.items) typed_fits let_fits (function_named i s f ns) met)

-- ---- what holds of an outcome that is well

abbrev Ends : {A : Type 0} → (A → Type 0) → Outcome A → Type 0
Ends Q (Ok a) = Q a
Ends Q (Err e) = Unit {0}

ends_then : {A B : Type 0} (Q : A → Type 0) (R : B → Type 0) (m : Outcome A) (f : A → Outcome B) → Ends Q m → ((a : A) → Q a → Ends R (f a)) → Ends R (on_ok m f)
ends_then Q R (Ok a) f h k = k a h
ends_then Q R (Err e) f h k = tt

ends_any : {A B : Type 0} (R : B → Type 0) (m : Outcome A) (f : A → Outcome B) → ((a : A) → Ends R (f a)) → Ends R (on_ok m f)
ends_any R (Ok a) f k = k a
ends_any R (Err e) f k = tt

ended : {A : Type 0} (Q : A → Type 0) (m : Outcome A) (a : A) → Ends Q m → m ≡ Ok a → Q a
ended Q m a h e = subst (λ (o : Outcome _). Ends Q o) e h

-- ---- so many lifetimes are declared as are written in front of an item

abbrev Counts : ItemTree → Decl → Type 0
Counts it d = lifetimes_declared (Some (plain-Decl d)) ≡ length (lifetimes_of (Some it))

few_number : (n : ℕ) → n < 4294967296 → number n ≡ n
few_number n h = omega (arith, h)

item_counts : (p : ProgramTree) (es : List NodeNames) (it : ItemTree) → item_lifetimes it < 4294967296 → Ends (Counts it) (declared_item p es it)
item_counts p es (plain.rt_item s r) few = refl
item_counts p es (plain.struct_item s d) few =
    ends_any (Counts (plain.struct_item s d)) (fields_of p d.fields (begins es 0)) _ (λ a. ends_any (Counts (plain.struct_item s d)) (all_used 0 d.lifetimes a.1.lifetimes) _ (λ b. few_number (length d.lifetimes) few))
item_counts p es (plain.enum_item s d) few =
    ends_any (Counts (plain.enum_item s d)) (variants_of p d.variants (begins es 0)) _ (λ a. ends_any (Counts (plain.enum_item s d)) (all_used 0 d.lifetimes a.1.lifetimes) _ (λ b. few_number (length d.lifetimes) few))
item_counts p es (plain.function_item s f) few =
    let B = bounded 0 f.lifetimes in
    ends_any (Counts (plain.function_item s f)) (entry_of B f.params (begins es (number (length f.lifetimes)))) _ (λ a. ends_any (Counts (plain.function_item s f)) (parameters_of p f.params a.1) _
    (λ b. ends_any (Counts (plain.function_item s f)) (answer_of p f.result b.1) _ (λ c. refl)))

total_append : (f : NodeTree → ℕ) (a b : List NodeTree) → total f (a ++ b) ≡ total f a + total f b
total_append f [] b = omega arith
total_append f (n ∷ a) b = let more = total_append f a b in omega (arith, more)

abbrev AllCount : ProgramTree → List Decl → Type 0
AllCount is ds = (i : ℕ) → lifetimes_declared (slice_get (declarations ds) i) ≡ length (lifetimes_of (slice_get is i))

none_count : AllCount [] []
none_count zero = refl
none_count (suc i) = refl

more_count : (it : ItemTree) (is : ProgramTree) (d : Decl) (ds : List Decl) → Counts it d → AllCount is ds → AllCount (it ∷ is) (d ∷ ds)
more_count it is d ds h k zero = h
more_count it is d ds h k (suc i) = k i

items_count : (p : ProgramTree) (ns : List ItemNames) (n : ℕ) (is : ProgramTree) → total lifetimes_counted (nodes is) < 4294967296 → Ends (AllCount is) (declared_items p ns n is)
items_count p ns n [] few = none_count
items_count p ns n (it ∷ is) few =
    let all = total_append lifetimes_counted (below_item it) (nodes is) in
    ends_then (Counts it) (AllCount (it ∷ is)) (declared_item p (entries_of (slice_get ns n)) it) _ (item_counts p (entries_of (slice_get ns n)) it (omega (arith, few)))
    (λ d h. ends_then (AllCount is) (AllCount (it ∷ is)) (declared_items p ns (suc n) is) _ (items_count p ns (suc n) is (omega (arith, few, all))) (λ ds k. more_count it is d ds h k))

all_count : (p : ProgramTree) (ns : List ItemNames) (ds : List Decl) → total lifetimes_counted (nodes p) < 4294967296 → declared_items p ns 0 p ≡ Ok ds → AllCount p ds
all_count p ns ds few e = ended (AllCount p) (declared_items p ns 0 p) ds (items_count p ns 0 p few) e

-- ---- types that are written

abbrev AllHave : Declarations → List RegionTyp → Type 0
AllHave D [] = Unit {0}
AllHave D (t ∷ ts) = HasAll D t × AllHave D ts

-- where a type stands: what `elided` reads
abbrev domain : {R S : Type 0} → (R → S) → Type 0
domain {R} {S} f = R

abbrev Role : Type 0
Role = domain elided

-- where the type of a `let` does
abbrev in_let : (F : ℕ → Role) × ((p : ProgramTree) (free : ℕ) (y : TypeTree) (ns : List NodeNames) → let_type p free y ns ≡ read (type_of p (F free) y (begins ns free)))
in_let = (λ l. _, λ p free y ns. refl)

abbrev Let : ℕ → Role
Let l = in_let.0 l

abbrev how_many : List Ident → Option (List (Option Ident)) → ℕ
how_many ds None = length ds
how_many ds (Some ls) = length ls

read_left : (ns : List NodeNames) (r : Reading) → r.names ≡ ns → (steps.taken ns r).1.names ≡ others ns
read_left [] r e = e
read_left (x ∷ xs) r e = refl

read_numbers : (ns : List NodeNames) (r : Reading) → (steps.taken ns r).0 ≡ (one ns).0
read_numbers [] r = refl
read_numbers (x ∷ xs) r = refl

listed_have : (D : Declarations) (ts : List RegionTyp) → AllHave D ts → HaveAll D (regions_of ts)
listed_have D [] h = tt
listed_have D (t ∷ ts) h = (h.0, listed_have D ts h.1)

module _ (p : ProgramTree) (D : Declarations) (count : (i : ℕ) → lifetimes_declared (slice_get D i) ≡ length (lifetimes_of (slice_get p i))) (free : ℕ) where
  abbrev Long : List NodeNames → ℕ → List ℕ × Reading → Type 0
  Long ns n x = (length x.0 ≡ n) × (x.1.names ≡ ns)

  elided_long : (s : Span) (ds : List Ident) (r : Reading) → Ends (Long r.names (length ds)) (all_elided (Let free) s ds r)
  elided_long s [] r = (refl, refl)
  elided_long s (d ∷ ds) r =
      let r1 : Reading = record r { lifetimes = r.lifetimes ++ free ∷ [] } in
      ends_then (Long r.names (length ds)) (Long r.names (suc (length ds))) (all_elided (Let free) s ds r1) _ (elided_long s ds r1) (λ a k. (ap suc k.0, k.1))

  listed_long : (s : Span) (ls : List (Option Ident)) (ns : List ℕ) (r : Reading) → Ends (Long r.names (length ls)) (listed (Let free) s ls ns r)
  listed_long s [] ns r = (refl, refl)
  listed_long s (None ∷ ls) ns r =
      let r1 : Reading = record r { lifetimes = r.lifetimes ++ free ∷ [] } in
      ends_then (Long r.names (length ls)) (Long r.names (suc (length ls))) (listed (Let free) s ls ns r1) _ (listed_long s ls ns r1) (λ a k. (ap suc k.0, k.1))
  listed_long s (Some x ∷ ls) ns r =
      let r1 : Reading = record r { lifetimes = r.lifetimes ++ steps.first ns ∷ [] } in
      ends_then (Long r.names (length ls)) (Long r.names (suc (length ls))) (listed (Let free) s ls (steps.others ns) r1) _ (listed_long s ls (steps.others ns) r1) (λ a k. (ap suc k.0, k.1))

  lifetimes_long : (s : Span) (ds : List Ident) (ls : Option (List (Option Ident))) (ns : List ℕ) (r : Reading) → Ends (Long r.names (how_many ds ls)) (lifetimes_at (Let free) s ds ls ns r)
  lifetimes_long s ds None ns r = elided_long s ds r
  lifetimes_long s ds (Some ls) ns r = listed_long s ls ns r

  as_declared : (i : ℕ) (ls : Option (List (Option Ident))) → ListFits D i (lifetimes_written ls) → how_many (lifetimes_of (slice_get p i)) ls ≡ lifetimes_declared (slice_get D i)
  as_declared i None h = sym (count i)
  as_declared i (Some ls) h = sym h

  -- it has all lifetimes, and as many entries of names were taken as the tree with numbers takes
  abbrev Fine : List NodeNames → Ty × Reading → Type 0
  Fine ns x = HasAll D (region-Ty x.0) × (x.1.names ≡ ns)

  abbrev AllFine : List NodeNames → List Ty × Reading → Type 0
  AllFine ns x = AllHave D (map region-Ty x.0) × (x.1.names ≡ ns)

  pointing_has : (m : Bool) (l : ℕ) (t : Ty) → HasAll D (region-Ty t) → HasAll D (region-Ty (pointing m l t))
  pointing_has false l t h = subst (λ (u : RegionTyp). HasAll D u) (sym (region_of_shared l t)) h
  pointing_has true l t h = subst (λ (u : RegionTyp). HasAll D u) (sym (region_of_mut l t)) h

  item_has : (i : ℕ) (ls : List ℕ) → AsMany D i ls → HasAll D (region-Ty (ty.Adt i ls))
  item_has i ls h = subst (λ (u : RegionTyp). HasAll D u) (sym (region_of_item i ls)) h

  tuple_has : (ts : List Ty) → AllHave D (map region-Ty ts) → HasAll D (region-Ty (ty.Tuple ts))
  tuple_has ts h = subst (λ (u : RegionTyp). HasAll D u) (sym (region_of_tuple ts)) (listed_have D (map region-Ty ts) h)

  -- the entry that is read is the one that is numbered
  same_entry : (r : Reading) (c : Cursor) → r.names ≡ c.names → (naming.taken c.names c).0.0 ≡ (steps.taken r.names r).0
  same_entry r c e = ap (λ (x : List ℕ × Bool). x.0) (read_by c.names c) ∙ (ap (λ (ns : List NodeNames). (one ns).0) (sym e) ∙ sym (read_numbers r.names r))

  same_left : (r : Reading) (c : Cursor) → r.names ≡ c.names → (steps.taken r.names r).1.names ≡ (naming.taken c.names c).1.names
  same_left r c e = read_left r.names r refl ∙ (ap others e ∙ sym (left_by c.names c refl))

  mutual
    type_fine : (t : TypeTree) (r : Reading) (c : Cursor) → r.names ≡ c.names → TypeFits D (of_type t c).0 → Ends (Fine (of_type t c).1.names) (type_of p (Let free) t r)
    type_fine (plain.kind_type s k) r c e h = (subst (λ (u : RegionTyp). HasAll D u) (sym (region_of_integer k)) tt, e)
    type_fine (plain.bool_type s) r c e h = (subst (λ (u : RegionTyp). HasAll D u) (sym region_of_boolean) tt, e)
    type_fine (plain.tuple_type s ts) r c e h =
        let d = (naming.a_node s Site.Value c).1 in
        ends_then (AllFine (of_types ts d).1.names) (Fine (of_types ts d).1.names) (types_of p (Let free) ts r) _ (types_fine ts r d e h) (λ a k. (tuple_has a.0 k.0, k.1))
    type_fine (plain.ref_type s None m t) r c e h =
        let d = (naming.a_node s Site.Value c).1 in
        let r1 : Reading = record r { lifetimes = r.lifetimes ++ free ∷ [] } in
        ends_then (Fine (of_type t d).1.names) (Fine (of_type t d).1.names) (type_of p (Let free) t r1) _ (type_fine t r1 d e h) (λ a k. (pointing_has m free a.0 k.0, k.1))
    type_fine (plain.ref_type s (Some l) m t) r c e h =
        let d0 = (naming.a_node s Site.Value c).1 in
        let d = (naming.an_entry d0).1 in
        let x = steps.taken r.names r in
        let r1 : Reading = record x.1 { lifetimes = x.1.lifetimes ++ steps.first x.0 ∷ [] } in
        ends_then (Fine (of_type t d).1.names) (Fine (of_type t d).1.names) (type_of p (Let free) t r1) _ (type_fine t r1 d (same_left r d0 e) h) (λ a k. (pointing_has m (steps.first x.0) a.0 k.0, k.1))
    type_fine (plain.named_type s y ls) r c e h =
        let d0 = (naming.a_node s Site.Value c).1 in
        let x = steps.taken r.names r in
        let i = steps.first x.0 in
        let fit : ListFits D i (lifetimes_written ls) = subst (λ (ns : List ℕ). ListFits D (naming.first ns) (lifetimes_written ls)) (same_entry r d0 e) h in
        ends_then (Long x.1.names (how_many (lifetimes_of (slice_get p i)) ls)) (Fine (naming.an_entry d0).1.names) (lifetimes_at (Let free) s (lifetimes_of (slice_get p i)) ls (steps.others x.0) x.1) _
        (lifetimes_long s (lifetimes_of (slice_get p i)) ls (steps.others x.0) x.1) (λ a k. (item_has i a.0 (k.0 ∙ as_declared i ls fit), k.1 ∙ same_left r d0 e))

    types_fine : (ts : TypeTrees) (r : Reading) (c : Cursor) → r.names ≡ c.names → TypesFit D (of_types ts c).0 → Ends (AllFine (of_types ts c).1.names) (types_of p (Let free) ts r)
    types_fine plain.no_type r c e h = (tt, e)
    types_fine (plain.type_and t ts) r c e h =
        let d = (of_type t c).1 in
        ends_then (Fine d.names) (AllFine (of_types ts d).1.names) (type_of p (Let free) t r) _ (type_fine t r c e h.0)
        (λ a k. ends_then (AllFine (of_types ts d).1.names) (AllFine (of_types ts d).1.names) (types_of p (Let free) ts a.1) _ (types_fine ts a.1 d k.1 h.1) (λ b l. ((k.0, l.0), l.1)))

  read_has : (ns : List NodeNames) (o : Outcome (Ty × Reading)) → Ends (Fine ns) o → HasAll D (region-Ty (read o))
  read_has ns (Ok r) h = h.0
  read_has ns (Err e) h = tuple_has [] tt

  let_has : (a : Annotation) → TypeFits D (of_type a.typ (behind a)).0 → HasAll D (region-Ty (let_type p free a.typ (behind a).names))
  let_has a h = read_has (of_type a.typ (behind a)).1.names (type_of p (Let free) a.typ (begins (behind a).names free)) (type_fine a.typ (begins (behind a).names free) (behind a) refl h)

-- ---- of the `let`s that are noted

abbrev pub LetsHave : ProgramTree → Declarations → ℕ → List Annotation → Type 0
LetsHave p D free [] = Unit {0}
LetsHave p D free (a ∷ more) = HasAll D (region-Ty (let_type p free a.typ (behind a).names)) × LetsHave p D free more

all_have : (p : ProgramTree) (D : Declarations) → ((i : ℕ) → lifetimes_declared (slice_get D i) ≡ length (lifetimes_of (slice_get p i))) → (free : ℕ) (notes : List Annotation)
    → NotesFit (LetFits D) (let_numberless D) notes → LetsHave p D free notes
all_have p D count free [] h = tt
all_have p D count free (a ∷ more) h = (let_has p D count free a h.0, all_have p D count free more h.1)

pub lets_have : (p : ProgramTree) (names : List ItemNames) (ds : List Decl) → total lifetimes_counted (nodes p) < 4294967296 → declared_items p names 0 p ≡ Ok ds → (sizes : List ℕ) (A : Assignment)
    → (i : ℕ) (s : Span) (f : plain.Function) (ns : List NodeNames) → MeetsEach (known ds sizes) A (rules.demands (function_named i s f ns)) → (free : ℕ) → LetsHave p (declarations ds) free (function_annotations s f ns)
lets_have p names ds few e sizes A i s f ns met free =
    all_have p (declarations ds) (all_count p names ds few e) free (function_annotations s f ns) (notes_are_fit (known ds sizes) A i s f ns met)
