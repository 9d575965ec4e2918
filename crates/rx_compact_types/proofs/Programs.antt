-- A program with a short signature: its names, what it declares, and its types.
use Rattle.std.proofs.Common.{◌≡◌, ℕ, zero, suc, ◌+◌, ◌<◌, ◌≤◌, ◌^◌, Bool, List, [], ◌∷◌, ◌++◌, length, map, Option, Some, Ok, inl, inr, refl, sym, ap, ap₂, subst, ◌∙◌, arith, slice_get}
use Rattle.std.proofs.lemmas.Bool.{eqb-true}
use Rattle.rx_core.specs.declared.types.Bound.{Bound}
use Rattle.rx_core.specs.declared.types.Span.{Span}
use Rattle.rx_core.specs.declared.types.Ty.{Ty}
use Rattle.rx_tree.specs.Nodes.{nodes, below_item, total}
use Rattle.rx_tree.specs.Positions.{NodeTree}
use Rattle.rx_tree.specs.Plain as plain
use Rattle.rx_tree.specs.Plain.{Function, ItemTree, ProgramTree}
use Rattle.rx_tree.specs.Size.{item_lifetimes, lifetimes_at, IsNumbered}
use Rattle.rx_resolve_names.specs.declared.resolved.ItemNames.{ItemNames}
use Rattle.rx_resolve_names.specs.Steps as naming
use Rattle.rx_resolve_names.specs.Items.{in_item, in_items, apart}
use Rattle.rx_resolve_names.specs.Causes.{Meant}
use Rattle.rx_typed.specs.declared.declarations.Decl.{Decl}
use Rattle.rx_typed.specs.declared.declarations.Decl.TheVariants as decl
use Rattle.rx_typed.specs.Naming.{function_annotations}
use Rattle.rx_typed.specs.PlainTypes.{declarations}
use Rattle.rx_typed.specs.Regions.{RegionTyp, region_integer, region_boolean, region_tuple, region_reference, region_named, RegionTyps, no_region, region_and, regions_of, region-Ty, lifetimes_among}
use Rattle.rx_typed.specs.Renaming.{renamed, all_renamed}
use Rattle.rx_typed_declarations.specs.Sizes.{IsSizes}
use Rattle.rx_typeck_solver.specs.Cells.{sizes_of}
use Rattle.rx_typeck_solver.specs.Stepping.{known}
use Rattle.rx_typeck_typed.specs.Steps.{Outcome, on_ok}
use Rattle.rx_typeck_typed.specs.Items.{declared_item, declared_function, entries_of, declared_items}
use Rattle.rx_typeck_typed.specs.Programs.{Fits, Declares}
use Rattle.rx_typeck_typed.specs.Typing.{entries}
use Rattle.rx_typeck_typed.specs.Bindings.{lifetimes}
use Rattle.rx_compact_lifetimes.specs.Merged.{merged, mergings_of, IsPreorder}
use Rattle.rx_compact_lifetimes.specs.Elided.{elisions, in_body, may_go}
use Rattle.rx_compact.specs.Outliving as outliving
use Rattle.rx_compact.specs.Outliving.{Outlives, is_single}
use Rattle.rx_compact.specs.Compacted.{compacted_function, compacted_item, compacted, Tells, IsCompacted}
use Rattle.rx_compact_laws.specs.Alongside.{SameItems}
use Rattle.rx_compact_laws.specs.MergedSignatures.{IsUnder}
use Rattle.rx_compact_laws.specs.ShortNames.{NamesStay}
use Rattle.rx_compact_laws.proofs.Resolving as resolving
use Rattle.rx_compact_laws.proofs.SameNames.{item_same}
use Rattle.rx_compact_laws.proofs.Keeping.{same_items}
use Rattle.rx_compact_laws.proofs.Elsewhere.{merged_elsewhere, left_stays, body_stays, elided_elsewhere}
use Rattle.rx_compact_laws.proofs.Spared.{spared_in}
use Rattle.rx_compact_laws.proofs.Noted.{notes_spared}
use Rattle.rx_compact_laws.proofs.Staying.{stays}
use Rattle.rx_compact_laws.proofs.ShortNames.{own_items, list_of, names_stay}
use Rattle.rx_compact_types.specs.KnownNumbers.{AreKnownNumbers}
use Rattle.rx_compact_types.specs.ShortTypes.{DeclaresAlike}
use Rattle.rx_compact_types.specs.ShortLets.{LetsAlike}
use Rattle.rx_compact_types.proofs.Renamed.{Related, RenamedFunction, under}
use Rattle.rx_compact_types.specs.ShortTyped.{TypedAlike, ShortProgram}
use Rattle.rx_compact_types.proofs.Declared.{read_ok}
use Rattle.rx_compact_types.proofs.Functions.{OneIf, function_under}
use Rattle.rx_compact_types.proofs.ShortPrograms.{renamed_plain, all_lifetimes_same, same_declared, ShortItem, item_declared, Done, done, fits_still}
use Rattle.rx_compact_types.proofs.ByName.{ByName}
use Rattle.rx_compact_types.proofs.LetTypes.{all_alike}
use Rattle.rx_compact_types.proofs.ShortTyped.{SameTables, Short, all_there, all_back}

-- ---- what stands at a number

some_item : (x y : ItemTree) → ◌≡◌ {A = Option ItemTree} (Some x) (Some y) → x ≡ y
some_item x y e = cc

record NamesAt (p : ProgramTree) (n k : ℕ) (x : ItemTree) (us : List ItemNames) : Type 0 where
  tables : ItemNames
  at : slice_get us k ≡ Some tables
  is : in_item p (n + k) x ≡ Ok tables

names_at : (p : ProgramTree) (xs : ProgramTree) (n : ℕ) (us : List ItemNames) → in_items p n xs ≡ Ok us → (k : ℕ) (x : ItemTree) → slice_get xs k ≡ Some x → NamesAt p n k x us
names_at p [] n us e k x h = absurd (cc)
names_at p (y ∷ xs) n us e zero x h =
    let a = resolving.read_ok (in_item p n y) (λ u. naming.and_then (in_items p (suc n) xs) (λ us. Ok (u ∷ us))) us e in
    let b = resolving.read_ok (in_items p (suc n) xs) (λ us. Ok (a.0 ∷ us)) us a.2 in
    let z : n ≡ n + 0 = omega arith in
    record {
      tables = a.0;
      at = ap (λ us. slice_get us 0) (sym (resolving.ok_is (a.0 ∷ b.0) us b.2));
      is = subst (λ x. in_item p (n + 0) x ≡ Ok a.0) (some_item y x h) (subst (λ m. in_item p m y ≡ Ok a.0) z a.1);
    }
names_at p (y ∷ xs) n us e (suc k) x h =
    let a = resolving.read_ok (in_item p n y) (λ u. naming.and_then (in_items p (suc n) xs) (λ us. Ok (u ∷ us))) us e in
    let b = resolving.read_ok (in_items p (suc n) xs) (λ us. Ok (a.0 ∷ us)) us a.2 in
    let r = names_at p xs (suc n) b.0 b.1 k x h in
    let z : suc n + k ≡ n + suc k = omega arith in
    record {
      tables = r.tables;
      at = ap (λ us. slice_get us (suc k)) (sym (resolving.ok_is (a.0 ∷ b.0) us b.2)) ∙ r.at;
      is = subst (λ m. in_item p m x ≡ Ok r.tables) z r.is;
    }

ok_decl : (a b : Decl) → ◌≡◌ {A = Outcome Decl} (Ok a) (Ok b) → a ≡ b
ok_decl a b e = cc

ok_decls : (a b : List Decl) → ◌≡◌ {A = Outcome (List Decl)} (Ok a) (Ok b) → a ≡ b
ok_decls a b e = cc

-- what an item declares stands at its number
declared_at : (p : ProgramTree) (names : List ItemNames) (xs : ProgramTree) (n : ℕ) (ds : List Decl) → declared_items p names n xs ≡ Ok ds → (k : ℕ) (x : ItemTree) → slice_get xs k ≡ Some x
    → (d : Decl) → declared_item p (entries_of (slice_get names (n + k))) x ≡ Ok d → slice_get ds k ≡ Some d
declared_at p names [] n ds e k x h d g = absurd (cc)
declared_at p names (y ∷ xs) n ds e zero x h d g =
    let a = read_ok (declared_item p (entries_of (slice_get names n)) y) (λ d. on_ok (declared_items p names (suc n) xs) (λ ds. Ok (d ∷ ds))) ds e in
    let b = read_ok (declared_items p names (suc n) xs) (λ ds. Ok (a.0 ∷ ds)) ds a.2 in
    let z : n + 0 ≡ n = omega arith in
    let same : a.0 ≡ d = ok_decl a.0 d (sym a.1 ∙ (ap (λ w. declared_item p (entries_of (slice_get names n)) w) (some_item y x h) ∙ subst (λ m. declared_item p (entries_of (slice_get names m)) x ≡ Ok d) z g)) in
    ap (λ ds. slice_get ds 0) (sym (ok_decls (a.0 ∷ b.0) ds b.2)) ∙ ap (λ d. Some d) same
declared_at p names (y ∷ xs) n ds e (suc k) x h d g =
    let a = read_ok (declared_item p (entries_of (slice_get names n)) y) (λ d. on_ok (declared_items p names (suc n) xs) (λ ds. Ok (d ∷ ds))) ds e in
    let b = read_ok (declared_items p names (suc n) xs) (λ ds. Ok (a.0 ∷ ds)) ds a.2 in
    let z : n + suc k ≡ suc n + k = omega arith in
    ap (λ ds. slice_get ds (suc k)) (sym (ok_decls (a.0 ∷ b.0) ds b.2))
    ∙ declared_at p names xs (suc n) b.0 b.1 k x h d (subst (λ m. declared_item p (entries_of (slice_get names m)) x ≡ Ok d) z g)

-- ---- few lifetimes

total_behind : (f : NodeTree → ℕ) (ms ns : List NodeTree) → total f ns ≤ total f (ms ++ ns)
total_behind f [] ns = omega arith
total_behind f (m ∷ ms) ns = let r = total_behind f ms ns in omega (arith, r)

few_at : (p : ProgramTree) (k : ℕ) (x : ItemTree) → slice_get p k ≡ Some x → item_lifetimes x ≤ total lifetimes_at (nodes p)
few_at [] k x h = absurd (cc)
few_at (y ∷ ys) zero x h = let e : item_lifetimes y ≡ item_lifetimes x = ap item_lifetimes (some_item y x h) in omega (arith, e)
few_at (y ∷ ys) (suc k) x h = let r = few_at ys k x h in let s = total_behind lifetimes_at (below_item y) (nodes ys) in omega (arith, r, s)

-- ---- a function that isn't renamed

list_itself : (ls : List ℕ) → map (λ l. l) ls ≡ ls
list_itself [] = refl
list_itself (l ∷ ls) = ap (λ ns. l ∷ ns) (list_itself ls)

mutual
  pub renamed_itself : (t : RegionTyp) → renamed (λ l. l) t ≡ t
  renamed_itself (region_integer k) = refl
  renamed_itself region_boolean = refl
  renamed_itself (region_tuple ts) = ap region_tuple (all_renamed_itself ts)
  renamed_itself (region_reference m l t) = ap (region_reference m l) (renamed_itself t)
  renamed_itself (region_named i ls) = ap (region_named i) (list_itself ls)

  pub all_renamed_itself : (ts : RegionTyps) → all_renamed (λ l. l) ts ≡ ts
  all_renamed_itself no_region = refl
  all_renamed_itself (region_and t ts) = ap₂ region_and (renamed_itself t) (all_renamed_itself ts)

same_function : (R : ℕ → ℕ → Type 0) → ((l k : ℕ) → l ≡ k → R l k) → (d : Decl) (n : ℕ) (ps : List Ty) (t : Ty) (bs : List Bound) → d ≡ decl.Func n ps t bs → RenamedFunction R (λ l. l) d d
same_function R same d n ps t bs e = record {
  count = n;
  params = ps;
  answer = t;
  bounds = bs;
  was = e;
  new_count = n;
  new_params = ps;
  new_answer = t;
  new_bounds = bs;
  is = e;
  params_are = sym (all_renamed_itself (regions_of (map region-Ty ps)));
  answer_is = sym (renamed_itself (region-Ty t));
  bounds_are = record { kept = λ l k h. inr h; only = λ x y h. (x, y, h, refl, refl) };
  within = λ l w. w;
  known = λ l k w v e. same l k e;
  fewer = omega arith;
}

-- ---- the program

short_at : (o : ℕ → ℕ → Bool) (single : Bool) (xs : ProgramTree) (k : ℕ) (x : ItemTree) → slice_get xs k ≡ Some x → slice_get (compacted o single xs k) k ≡ Some (compacted_item o single x)
short_at o single [] k x h = absurd (cc)
short_at o single (y ∷ ys) zero x h = ap (λ z. Some (compacted_item o single z)) (some_item y x h)
short_at o single (y ∷ ys) (suc k) x h = short_at o single ys k x h

module _ (p : ProgramTree) (i : ℕ) (names : List ItemNames) (meant : Meant p names) (small : IsNumbered p) (ds : List Decl) (declares : Declares p names ds) (o : ℕ → ℕ → Bool) (tells : Tells ds i o) where
  abbrev single : Bool
  single = is_single (slice_get ds i)

  abbrev q : ProgramTree
  q = compacted o single p i

  same : SameItems p q
  same = same_items o single p i

  abbrev N : NamesStay o single p i names
  N = names_stay o single p i names meant

  there : (x : ItemTree) → slice_get p i ≡ Some x → NamesAt p 0 i x names
  there x h = names_at p p 0 names (resolving.read_ok (apart (record { types = []; functions = [] }) 0 p) (λ _. in_items p 0 p) names meant.names_are).2 i x h

  here : (x : ItemTree) → slice_get p i ≡ Some x → NamesAt q 0 i (compacted_item o single x) N.news
  here x h = names_at q q 0 N.news (resolving.read_ok (apart (record { types = []; functions = [] }) 0 q) (λ _. in_items q 0 q) N.news N.meant.names_are).2 i (compacted_item o single x) (short_at o single p i x h)

  one_lifetime : (d : Decl) → slice_get ds i ≡ Some d → OneIf single d
  one_lifetime d h e k ps t bs g =
      eqb-true (length (lifetimes_among (regions_of (map region-Ty ps)))) 1 (sym (ap is_single (h ∙ ap (λ z. Some z) g)) ∙ e)

  -- what is known goes on
  known_on : (l k m : ℕ) → Outlives ds (slice_get ds i) l k → Outlives ds (slice_get ds i) k m → Outlives ds (slice_get ds i) l m
  known_on l k m outliving.itself h = h
  known_on l k m (outliving.by n s rest) h = outliving.by n s (known_on n k m rest h)

  order : IsPreorder o
  order = record { itself = λ l. (tells l l).1 outliving.itself; on = λ l k m a b. (tells l m).1 (known_on l k m ((tells l k).0 a) ((tells k m).0 b)) }

  related_known : (l k : ℕ) → Related o l k → Outlives ds (slice_get ds i) l k
  related_known l k (inl e) = subst (λ m. Outlives ds (slice_get ds i) l m) e outliving.itself
  related_known l k (inr e) = (tells l k).0 e

  known_numbers : (d e : Decl) (f : ℕ → ℕ) → slice_get ds i ≡ Some d → RenamedFunction (Related o) f d e → AreKnownNumbers ds (Some d) (Some e) f
  known_numbers d e f at r =
      let a : lifetimes (Some d) ≡ r.count = ap (λ x. lifetimes (Some x)) r.was in
      let b : lifetimes (Some e) ≡ r.new_count = ap (λ x. lifetimes (Some x)) r.is in
      record {
        within = λ l w. subst (λ m. f l < m) (sym b) (r.within l (subst (λ m. l < m) a w));
        known = λ l k w v x. subst (λ o. Outlives ds o l k) at (related_known l k (r.known l k (subst (λ m. l < m) a w) (subst (λ m. k < m) a v) x));
        fewer = subst (λ m. m ≤ lifetimes (Some d)) (sym b) (subst (λ m. r.new_count ≤ m) (sym a) r.fewer);
      }

  -- by numbers that go by names
  abbrev OfFunction : (ℕ → ℕ) → Decl → ItemTree → Type 0
  OfFunction F d (plain.function_item s f) = ByName o single s f F d
  OfFunction F d _ = Unit {0}

  abbrev Holds : (ℕ → ℕ) → Decl → Type 0
  Holds F d = (x : ItemTree) → slice_get p i ≡ Some x → OfFunction F d x

  -- what isn't a function declares the same
  unchanged : (x : ItemTree) → compacted_item o single x ≡ x → ((F : ℕ → ℕ) (d : Decl) → OfFunction F d x) → slice_get p i ≡ Some x → (d : Decl) → declared_item p (entries_of (slice_get names i)) x ≡ Ok d
      → ShortItem o single p q names N.news (all_lifetimes_same o single p i) Holds i x d
  unchanged x c none h d e =
      let a = there x h in
      let b = here x h in
      let z : 0 + i ≡ i = omega arith in
      let t : b.tables ≡ a.tables = resolving.ok_is b.tables a.tables (sym b.is ∙ (ap (in_item q (0 + i)) c ∙ (item_same p q same (0 + i) x ∙ a.is))) in
      let s : slice_get N.news i ≡ slice_get names i = b.at ∙ (ap (λ u. Some u) t ∙ sym a.at) in
      record {
        new = d;
        declares = ap (λ y. declared_item q (entries_of (slice_get N.news i)) y) c ∙ (item_declared o single p q names N.news (all_lifetimes_same o single p i) i x s ∙ e);
        same = refl;
        renamed = λ n ps t bs g. (λ l. l, same_function (Related o) (λ l k e. inl e) d n ps t bs g, λ y k. subst (OfFunction (λ l. l) d) (some_item x y (sym h ∙ k)) (none (λ l. l) d));
      }

  function_step : (s : Span) (f : Function) → slice_get p i ≡ Some (plain.function_item s f) → (d : Decl) → declared_item p (entries_of (slice_get names i)) (plain.function_item s f) ≡ Ok d
      → ShortItem o single p q names N.news (all_lifetimes_same o single p i) Holds i (plain.function_item s f) d
  function_step s f h d e =
      let x : ItemTree = plain.function_item s f in
      let a = there x h in
      let b = here x h in
      let ls = list_of p (0 + i) s f a.tables a.is in
      let t = stays (mergings_of o f) (mergings_of o f) p q (0 + i) s f (merged o f) (merged_elsewhere o p q (0 + i) s f same ls.0 ls.1) a.tables a.is in
      let few : length f.lifetimes ≤ total lifetimes_at (nodes p) = few_at p i x h in
      let less : total lifetimes_at (nodes p) < 2 ^ 32 = small.lifetimes in
      let at : slice_get ds i ≡ Some d = declared_at p names p 0 ds declares.items i x h d (let z : i ≡ 0 + i = omega arith in subst (λ m. declared_item p (entries_of (slice_get names m)) x ≡ Ok d) z e) in
      let r = function_under o order single p q (same_declared o single p i same) (record { item = λ y. refl; lifetimes = λ m. refl }) (0 + i) s f (omega (arith, few, less)) a.tables t.tables b.tables a.is t.resolves b.is
      d (ap (λ u. declared_function p (entries_of u) f) (sym a.at) ∙ e) (one_lifetime d at) in
      record {
        new = r.0;
        declares = ap (λ u. declared_function q (entries_of u) (compacted_function o single f)) b.at ∙ r.1;
        same = renamed_plain (Related o) r.2.0 d r.0 r.2.1;
        renamed = λ n ps t bs g. (r.2.0, r.2.1, λ y k. subst (OfFunction r.2.0 d) (some_item x y (sym h ∙ k)) r.2.2);
      }

  step : (x : ItemTree) → slice_get p i ≡ Some x → (d : Decl) → declared_item p (entries_of (slice_get names i)) x ≡ Ok d → ShortItem o single p q names N.news (all_lifetimes_same o single p i) Holds i x d
  step (plain.function_item s f) h d e = function_step s f h d e
  step (plain.rt_item s r) h d e = unchanged (plain.rt_item s r) refl (λ F d. tt) h d e
  step (plain.struct_item s y) h d e = unchanged (plain.struct_item s y) refl (λ F d. tt) h d e
  step (plain.enum_item s y) h d e = unchanged (plain.enum_item s y) refl (λ F d. tt) h d e

  abbrev D : Done o single p q names N.news (all_lifetimes_same o single p i) Holds 0 p i i ds
  D = done o single p q names N.news (all_lifetimes_same o single p i) Holds i N.others p 0 i (omega arith) step ds declares.items

  alike : DeclaresAlike q i N.news ds
  alike =
      record {
        new = D.new;
        declares = record { items = D.is; fits = subst (Fits q) (sym D.same) (fits_still o single p i (declarations ds) declares.fits) };
        same = D.same;
        others = D.others;
        function = λ n ps t bs h.
            let d : Decl = decl.Func n ps t bs in
            let r = D.this d h n ps t bs refl in (
              r.2.0,
              subst (λ x. IsUnder r.2.0 x (slice_get D.new i)) (sym h) (subst (λ y. IsUnder r.2.0 (Some d) y) (sym r.1) (under (Related o) r.2.0 d r.0 r.2.1)),
              subst (λ x. AreKnownNumbers ds x (slice_get D.new i) r.2.0) (sym h) (subst (λ y. AreKnownNumbers ds (Some d) y r.2.0) (sym r.1) (known_numbers d r.0 r.2.0 h r.2.1)),
            );
      }

  pub short_tables : (x : ItemTree) → slice_get p i ≡ Some x → Short o single (record { program = p; declared = ds; sizes = [] }) (record { program = q; declared = ds; sizes = [] }) refl names N.news i N.others x
  short_tables (plain.function_item s f) h =
      let r = N.function s f h in
      subst (λ a. SameTables i s f (compacted_function o single f) a (slice_get N.news i)) (sym r.was)
      (subst (λ b. SameTables i s f (compacted_function o single f) (Some r.old) b) (sym r.is)
      (record { vars = r.alike.vars; tree = r.alike.tree; spans = r.alike.spans; variables = r.alike.variables }))
  short_tables (plain.rt_item s r) h = tt
  short_tables (plain.struct_item s d) h = tt
  short_tables (plain.enum_item s d) h = tt

  typed : TypedAlike p q names N.news
  typed = record {
    there = λ w.
        let e : declarations alike.new ≡ declarations w.declared = alike.same ∙ ap declarations (ok_decls ds w.declared (sym declares.items ∙ w.declares.items)) in
        let k : known alike.new w.sizes ≡ known w.declared w.sizes = ap (λ D. record { items = D; sizes = sizes_of w.sizes }) e in
        let r = all_there o single (record { program = p; declared = w.declared; sizes = w.sizes }) (record { program = q; declared = alike.new; sizes = w.sizes }) k names N.news i N.others 0 p i (omega arith) short_tables w.functions in
        (record { declared = alike.new; declares = alike.declares; sizes = w.sizes; is_sizes = subst (λ D. IsSizes D w.sizes) (sym e) w.is_sizes; functions = r.0 }, r.1);
    back = λ v.
        let e : declarations v.declared ≡ declarations ds = ap declarations (ok_decls v.declared alike.new (sym v.declares.items ∙ alike.declares.items)) ∙ alike.same in
        let k : known v.declared v.sizes ≡ known ds v.sizes = ap (λ D. record { items = D; sizes = sizes_of v.sizes }) e in
        let r = all_back o single (record { program = p; declared = ds; sizes = v.sizes }) (record { program = q; declared = v.declared; sizes = v.sizes }) k names N.news i N.others 0 p i (omega arith) short_tables v.functions in
        (record { declared = ds; declares = declares; sizes = v.sizes; is_sizes = subst (λ D. IsSizes D v.sizes) e v.is_sizes; functions = r.0 }, r.1);
  }

  -- ---- the `let`s of the function

  -- by the names of both
  tables_alike : (s : Span) (f : Function) (h : slice_get p i ≡ Some (plain.function_item s f)) (F : ℕ → ℕ) (d : Decl) → ByName o single s f F d → (m : ℕ)
      → LetsAlike p q (lifetimes (Some d)) m F (function_annotations s f (there (plain.function_item s f) h).tables.names) (function_annotations s (compacted_function o single f) (here (plain.function_item s f) h).tables.names)
  tables_alike s f h F d named m =
      let a = there (plain.function_item s f) h in
      let b = here (plain.function_item s f) h in
      let g : Function = merged o f in
      let rs = elisions single (in_body g.body) g in
      let ls = list_of p (0 + i) s f a.tables a.is in
      let x = stays (mergings_of o f) (mergings_of o f) p q (0 + i) s f g (merged_elsewhere o p q (0 + i) s f same ls.0 ls.1) a.tables a.is in
      let ks = list_of q (0 + i) s g x.tables x.resolves in
      let y = stays rs rs q q (0 + i) s g (compacted_function o single f) (elided_elsewhere single q q (0 + i) s g (own_items q) ks.0 ks.1) x.tables x.resolves in
      let t : y.tables ≡ b.tables = resolving.ok_is y.tables b.tables (sym y.resolves ∙ b.is) in
      let few : length f.lifetimes ≤ total lifetimes_at (nodes p) = few_at p i (plain.function_item s f) h in
      let less : total lifetimes_at (nodes p) < 2 ^ 32 = small.lifetimes in
      subst (λ (ts : ItemNames). LetsAlike p q (lifetimes (Some d)) m F (function_annotations s f a.tables.names) (function_annotations s (compacted_function o single f) ts.names)) t
      (all_alike o single s f (omega (arith, few, less)) F d named m p q (same_declared o single p i same) (0 + i)
      (function_annotations s f a.tables.names) (function_annotations s g x.tables.names) (function_annotations s (compacted_function o single f) y.tables.names) x.lets y.lets
      (notes_spared rs s g x.tables.names (spared_in rs g.body (λ z e. left_stays (λ w. may_go single (in_body g.body) g w) g.lifetimes z (body_stays single q q (0 + i) s g z e)))))

  abbrev IsFunction : (Function → Type 0) → ItemTree → Type 0
  IsFunction P (plain.function_item s f) = P f
  IsFunction P _ = Unit {0}

  lets_alike : (n : ℕ) (ps : List Ty) (t : Ty) (bs : List Bound) (at : slice_get ds i ≡ Some (decl.Func n ps t bs)) (s : Span) (f g : Function)
      → slice_get p i ≡ Some (plain.function_item s f) → slice_get q i ≡ Some (plain.function_item s g)
      → LetsAlike p q (lifetimes (slice_get ds i)) (lifetimes (slice_get alike.new i)) (alike.function n ps t bs at).0
      (function_annotations s f (entries (slice_get names i))) (function_annotations s g (entries (slice_get N.news i)))
  unfolding alike
  lets_alike n ps t bs at s f g h k =
      let x : ItemTree = plain.function_item s f in
      let d : Decl = decl.Func n ps t bs in
      let m = lifetimes (slice_get alike.new i) in
      let r = D.this d at n ps t bs refl in
      let a = there x h in
      let b = here x h in
      let made : LetsAlike p q (lifetimes (Some d)) m r.2.0 (function_annotations s f a.tables.names) (function_annotations s (compacted_function o single f) b.tables.names) = tables_alike s f h r.2.0 d (r.2.2 x h) m in
      let short : LetsAlike p q (lifetimes (Some d)) m r.2.0 (function_annotations s f a.tables.names) (function_annotations s g b.tables.names) =
      subst (IsFunction (λ y. LetsAlike p q (lifetimes (Some d)) m r.2.0 (function_annotations s f a.tables.names) (function_annotations s y b.tables.names)))
      (some_item (compacted_item o single x) (plain.function_item s g) (sym (short_at o single p i x h) ∙ k)) made in
      subst (λ w. LetsAlike p q (lifetimes w) m r.2.0 (function_annotations s f (entries (slice_get names i))) (function_annotations s g (entries (slice_get N.news i)))) (sym at)
      (subst (λ w. LetsAlike p q (lifetimes (Some d)) m r.2.0 (function_annotations s f (entries w)) (function_annotations s g (entries (slice_get N.news i)))) (sym a.at)
      (subst (λ w. LetsAlike p q (lifetimes (Some d)) m r.2.0 (function_annotations s f a.tables.names) (function_annotations s g (entries w))) (sym b.at) short))

  pub program : ShortProgram p i q names ds
  program = record { news = N.news; meant = N.meant; declares = alike; typed = typed; lets = lets_alike }

pub short_program : (p : ProgramTree) (i : ℕ) (q : ProgramTree) (c : IsCompacted p i q) → IsNumbered p → ShortProgram p i q c.names c.declared
short_program p i q c small = subst (λ q. ShortProgram p i q c.names c.declared) (sym c.same) (program p i c.names c.meant small c.declared c.declares c.outlives c.tells)
