-- A program with a short signature can be numbered where the given one can: its nodes count as much, it declares no more lifetimes, and each
-- of these has every bound once, so no more than there are lifetimes.
use Rattle.std.proofs.Common.{◌≡◌, inl, inr, ℕ, zero, suc, ◌+◌, ◌<◌, ◌≤◌, ◌^◌, max, Bool, true, false, if◌then◌else◌, List, [], ◌∷◌, ◌++◌, length, map, filter, Option, Some, None, Ok, slice_get, refl, sym, ap, subst, ◌∙◌, arith}
use Rattle.std.proofs.lemmas.Bool.{or_cases, false≢true}
use Rattle.std.proofs.lemmas.List.{length-map}
use Rattle.std.specs.Str.{bytes_eq}
use Rattle.rx_core.specs.declared.types.Span.{Span}
use Rattle.rx_tree.specs.declared.tree.Ident.{Ident}
use Rattle.rx_tree.specs.declared.tree.BoundLifetime.{BoundLifetime}
use Rattle.rx_tree.specs.Plain as plain
use Rattle.rx_tree.specs.Plain.{Function, ItemTree, ProgramTree}
use Rattle.rx_tree.specs.Nodes.{below_item, below_block, nodes, total, greatest}
use Rattle.rx_tree.specs.Positions.{NodeTree, an_item, a_block}
use Rattle.rx_tree.specs.Size.{IsNumbered, longest_bounds}
use Rattle.rx_resolve_names.specs.declared.resolved.ItemNames.{ItemNames}
use Rattle.rx_resolve_names.specs.Causes.{Meant}
use Rattle.rx_resolve_names.specs.Items.{Lists, in_item, in_items, apart}
use Rattle.rx_resolve_names.specs.Steps.{and_then}
use Rattle.rx_hoist_extraction.specs.Names.{Names, is_among, Distinct}
use Rattle.rx_hoist_extraction.specs.NewFunction.{firsts_of}
use Rattle.rx_hoist_extraction.specs.OwnLifetimes.{idents}
use Rattle.rx_compact_lifetimes.specs.declared.rewriting.Rewriting.{Rewriting}
use Rattle.rx_compact_lifetimes.specs.Merged.{merged, mergings_of, joined, joined_lifetime, bounds_for}
use Rattle.rx_compact_lifetimes.specs.Rewritten.{renamed_bound, rewritten_parameter}
use Rattle.rx_compact_lifetimes.specs.Elided.{elisions, in_body, stays}
use Rattle.rx_compact_lifetimes.specs.Steps.{names}
use Rattle.rx_compact.specs.Outliving.{is_single}
use Rattle.rx_compact.specs.Compacted.{compacted_function, compacted_item, compacted, IsCompacted}
use Rattle.rx_compact_laws.specs.Resolved.{inside}
use Rattle.rx_compact_laws.specs.ShortNames.{NamesStay}
use Rattle.rx_compact_laws.proofs.Resolving.{read_ok}
use Rattle.rx_compact_laws.proofs.Declaring.{same_name, itself, all_bounds, Listed, listed, meant_declared}
use Rattle.rx_compact_laws.proofs.Lists.{among_front, among_behind, among_more, first_among}
use Rattle.rx_compact_laws.proofs.ShortNames.{list_of, names_stay}
use Rattle.rx_compact_accepted.proofs.Counting.{Counted, counts, Likes, like_itself, like_on, like_both, optional_type, parameters, body}

-- ---- names without a double are no more than those among which they are

abbrev removed : List ℕ → Names → Names
removed x [] = []
removed x (t ∷ ts) = if bytes_eq x t then ts else t ∷ removed x ts

one_less : (x : List ℕ) (ts : Names) → is_among x ts ≡ true → suc (length (removed x ts)) ≡ length ts
one_less x [] h = absurd (false≢true h)
one_less x (t ∷ ts) h = by (bytes_eq x t) refl (one_less x ts)
  where
    by : (b : Bool) → bytes_eq x t ≡ b → (is_among x ts ≡ true → suc (length (removed x ts)) ≡ length ts) → suc (length (if b then ts else t ∷ removed x ts)) ≡ suc (length ts)
    by true e again = refl
    by false e again = ap suc (again (elim (or_cases (bytes_eq x t) (is_among x ts) h) [
      | inl g ↦ absurd (false≢true (sym e ∙ g))
      | inr g ↦ g
    ]))

others_left : (x y : List ℕ) (ts : Names) → bytes_eq y x ≡ false → is_among y ts ≡ true → is_among y (removed x ts) ≡ true
others_left x y [] n h = absurd (false≢true h)
others_left x y (t ∷ ts) n h = by (bytes_eq x t) refl (others_left x y ts n)
  where
    by : (b : Bool) → bytes_eq x t ≡ b → (is_among y ts ≡ true → is_among y (removed x ts) ≡ true) → is_among y (if b then ts else t ∷ removed x ts) ≡ true
    by true e again = elim (or_cases (bytes_eq y t) (is_among y ts) h) [
      | inl g ↦ absurd (false≢true (sym n ∙ (ap (bytes_eq y) (same_name x t e) ∙ g)))
      | inr g ↦ g
    ]
    by false e again = elim (or_cases (bytes_eq y t) (is_among y ts) h) [
      | inl g ↦ first_among y t (removed x ts) g
      | inr g ↦ among_more y t (removed x ts) (again g)
    ]

no_more : (xs ts : Names) → Distinct xs → ((x : List ℕ) → is_among x xs ≡ true → is_among x ts ≡ true) → length xs ≤ length ts
no_more [] ts d h = omega arith
no_more (x ∷ xs) ts d h =
    let a = one_less x ts (h x (first_among x x xs (itself x))) in
    let b = no_more xs (removed x ts) d.1 (λ y w. others_left x y ts (unlike y w) (h y (among_more y x xs w))) in
    omega (arith, a, b)
  where
    unlike : (y : List ℕ) → is_among y xs ≡ true → bytes_eq y x ≡ false
    unlike y w = by (bytes_eq y x) refl
      where
        by : (b : Bool) → bytes_eq y x ≡ b → b ≡ false
        by false e = refl
        by true e = absurd (false≢true (sym d.0 ∙ subst (λ z. is_among z xs ≡ true) (same_name y x e) w))

-- ---- the list of lifetimes

kept_few : (keep : BoundLifetime → Bool) (ls : List BoundLifetime) → length (filter keep ls) ≤ length ls
kept_few keep [] = omega arith
kept_few keep (l ∷ ls) = by (keep l) (kept_few keep ls)
  where
    by : (b : Bool) → length (filter keep ls) ≤ length ls → length (if b then l ∷ filter keep ls else filter keep ls) ≤ suc (length ls)
    by true h = omega (arith, h)
    by false h = omega (arith, h)

joined_few : (all : List BoundLifetime) (found : Names) (ls : List BoundLifetime) → length (joined all found ls) ≤ length ls
joined_few all found [] = omega arith
joined_few all found (l ∷ ls) = by (is_among l.name.name found) (joined_few all found ls) (joined_few all (found ++ l.name.name ∷ []) ls)
  where
    by : (b : Bool) → length (joined all found ls) ≤ length ls → length (joined all (found ++ l.name.name ∷ []) ls) ≤ length ls
        → length (if b then joined all found ls else joined_lifetime all l.name ∷ joined all (found ++ l.name.name ∷ []) ls) ≤ suc (length ls)
    by true h g = omega (arith, h)
    by false h g = omega (arith, g)

-- each bound stands once
abbrev AllOnce : List BoundLifetime → Type 0
AllOnce [] = Unit {0}
AllOnce (l ∷ ls) = Distinct (idents l.bounds) × AllOnce ls

found_not : (found : Names) (bs : List Ident) (x : List ℕ) → is_among x found ≡ true → is_among x (idents (firsts_of found bs)) ≡ false
found_not found [] x h = refl
found_not found (b ∷ bs) x h = by (is_among b.name found) refl (λ more. found_not more bs x)
  where
    rest : Names
    rest = idents (firsts_of (b.name ∷ found) bs)

    by : (c : Bool) → is_among b.name found ≡ c → ((more : Names) → is_among x more ≡ true → is_among x (idents (firsts_of more bs)) ≡ false)
        → is_among x (idents (if c then firsts_of found bs else b ∷ firsts_of (b.name ∷ found) bs)) ≡ false
    by true e again = again found h
    by false e again = none (is_among x (b.name ∷ rest)) refl
      where
        none : (c : Bool) → is_among x (b.name ∷ rest) ≡ c → c ≡ false
        none false k = refl
        none true k = elim (or_cases (bytes_eq x b.name) (is_among x rest) k) [
          | inl g ↦ absurd (false≢true (sym e ∙ subst (λ y. is_among y found ≡ true) (same_name x b.name g) h))
          | inr g ↦ absurd (false≢true (sym (again (b.name ∷ found) (among_more x b.name found h)) ∙ g))
        ]

firsts_once : (found : Names) (bs : List Ident) → Distinct (idents (firsts_of found bs))
firsts_once found [] = tt
firsts_once found (b ∷ bs) = by (is_among b.name found) (firsts_once found bs) (firsts_once (b.name ∷ found) bs)
  where
    by : (c : Bool) → Distinct (idents (firsts_of found bs)) → Distinct (idents (firsts_of (b.name ∷ found) bs)) → Distinct (idents (if c then firsts_of found bs else b ∷ firsts_of (b.name ∷ found) bs))
    by true h g = h
    by false h g = (found_not (b.name ∷ found) bs b.name (first_among b.name b.name found (itself b.name)), g)

joined_each : (all : List BoundLifetime) (found : Names) (ls : List BoundLifetime) → AllOnce (joined all found ls)
joined_each all found [] = tt
joined_each all found (l ∷ ls) = by (is_among l.name.name found) (joined_each all found ls) (joined_each all (found ++ l.name.name ∷ []) ls)
  where
    by : (b : Bool) → AllOnce (joined all found ls) → AllOnce (joined all (found ++ l.name.name ∷ []) ls)
        → AllOnce (if b then joined all found ls else joined_lifetime all l.name ∷ joined all (found ++ l.name.name ∷ []) ls)
    by true h g = h
    by false h g = (firsts_once (l.name.name ∷ []) (bounds_for l.name.name all), g)

kept_each : (keep : BoundLifetime → Bool) (ls : List BoundLifetime) → AllOnce ls → AllOnce (filter keep ls)
kept_each keep [] h = tt
kept_each keep (l ∷ ls) h = by (keep l) (kept_each keep ls h.1)
  where
    by : (b : Bool) → AllOnce (filter keep ls) → AllOnce (if b then l ∷ filter keep ls else filter keep ls)
    by true g = (h.0, g)
    by false g = g

many_idents : (bs : List Ident) → length (idents bs) ≡ length bs
many_idents [] = refl
many_idents (b ∷ bs) = ap suc (many_idents bs)

many_names : (ls : List BoundLifetime) → length (names ls) ≡ length ls
many_names [] = refl
many_names (l ∷ ls) = ap suc (many_names ls)

few_bounds : (ts : Names) (ls : List BoundLifetime) → AllOnce ls → ((x : List ℕ) → is_among x (all_bounds ls) ≡ true → is_among x ts ≡ true) → longest_bounds ls ≤ length ts
few_bounds ts [] o h = omega arith
few_bounds ts (l ∷ ls) o h =
    let a = no_more (idents l.bounds) ts o.0 (λ x w. h x (among_front x (idents l.bounds) (all_bounds ls) w)) in
    let b = few_bounds ts ls o.1 (λ x w. h x (among_behind x (idents l.bounds) (all_bounds ls) w)) in
    let e = many_idents l.bounds in
    omega (arith, a, b, e)

-- ---- sums

abbrev sum : (Counted → ℕ) → List Counted → ℕ
sum g [] = 0
sum g (c ∷ cs) = g c + sum g cs

abbrev top : (Counted → ℕ) → List Counted → ℕ
top g [] = 0
top g (c ∷ cs) = max (g c) (top g cs)

total_is : (g : Counted → ℕ) (ns : List NodeTree) → total (λ n. g (counts n)) ns ≡ sum g (map counts ns)
total_is g [] = refl
total_is g (n ∷ ns) = ap (λ k. g (counts n) + k) (total_is g ns)

greatest_is : (g : Counted → ℕ) (ns : List NodeTree) → greatest (λ n. g (counts n)) ns ≡ top g (map counts ns)
greatest_is g [] = refl
greatest_is g (n ∷ ns) = ap (max (g (counts n))) (greatest_is g ns)

sum_front : (g : Counted → ℕ) (xs ys zs : List NodeTree) → sum g (map counts ys) ≤ sum g (map counts zs) → sum g (map counts (xs ++ ys)) ≤ sum g (map counts (xs ++ zs))
sum_front g [] ys zs h = h
sum_front g (x ∷ xs) ys zs h = let a = sum_front g xs ys zs h in omega (arith, a)

top_front : (g : Counted → ℕ) (xs ys zs : List NodeTree) → top g (map counts ys) ≤ top g (map counts zs) → top g (map counts (xs ++ ys)) ≤ top g (map counts (xs ++ zs))
top_front g [] ys zs h = h
top_front g (x ∷ xs) ys zs h = let a = top_front g xs ys zs h in omega (arith, a)

-- ---- a function

module _ (o : ℕ → ℕ → Bool) (single : Bool) where
  abbrev short : Function → Function
  short f = compacted_function o single f

  fewer : (f : Function) → length (short f).lifetimes ≤ length f.lifetimes
  fewer f =
      let m = merged o f in
      let a = kept_few (stays single (in_body m.body) m) m.lifetimes in
      let ks = map (renamed_bound (mergings_of o f)) f.lifetimes in
      let b = joined_few ks [] ks in
      let c = length-map f.lifetimes (renamed_bound (mergings_of o f)) in
      omega (arith, a, b, c)

  once : (f : Function) → AllOnce (short f).lifetimes
  once f =
      let m = merged o f in
      let ks = map (renamed_bound (mergings_of o f)) f.lifetimes in
      kept_each (stays single (in_body m.body) m) m.lifetimes (joined_each ks [] ks)

  as_many : (f : Function) → length (short f).params ≡ length f.params
  as_many f =
      let m = merged o f in
      length-map m.params (rewritten_parameter (elisions single (in_body m.body) m)) ∙ length-map f.params (rewritten_parameter (mergings_of o f))

  below_likes : (x : ItemTree) → Likes (below_item (compacted_item o single x)) (below_item x)
  below_likes (plain.rt_item s r) = like_itself (below_item (plain.rt_item s r))
  below_likes (plain.struct_item s d) = like_itself (below_item (plain.struct_item s d))
  below_likes (plain.enum_item s d) = like_itself (below_item (plain.enum_item s d))
  below_likes (plain.function_item s f) =
      let m = merged o f in
      let rs = elisions single (in_body m.body) m in
      like_on
      (like_both (parameters rs m.params) (like_both (optional_type rs m.result) (like_itself (a_block m.body ∷ below_block m.body))))
      (like_both (parameters (mergings_of o f) f.params) (like_both (optional_type (mergings_of o f) f.result) (body (mergings_of o f) f.body)))

  -- no lifetime has more bounds than there are lifetimes
  abbrev FewBounds : ItemTree → Type 0
  FewBounds (plain.function_item s f) = longest_bounds (short f).lifetimes ≤ length f.lifetimes
  FewBounds _ = Unit {0}

  abbrev NoMore : (Counted → ℕ) → ItemTree → Type 0
  NoMore g x = g (counts (an_item (compacted_item o single x))) ≤ g (counts (an_item x))

  no_more_bindings : (x : ItemTree) → NoMore (λ (c : Counted). c.bindings) x
  no_more_bindings (plain.rt_item s r) = omega arith
  no_more_bindings (plain.struct_item s d) = omega arith
  no_more_bindings (plain.enum_item s d) = omega arith
  no_more_bindings (plain.function_item s f) = let a = as_many f in omega (arith, a)

  no_more_loops : (x : ItemTree) → NoMore (λ (c : Counted). c.loops) x
  no_more_loops x = omega arith

  no_more_lifetimes : (x : ItemTree) → NoMore (λ (c : Counted). c.lifetimes) x
  no_more_lifetimes (plain.rt_item s r) = omega arith
  no_more_lifetimes (plain.struct_item s d) = omega arith
  no_more_lifetimes (plain.enum_item s d) = omega arith
  no_more_lifetimes (plain.function_item s f) = fewer f

  no_longer : (x : ItemTree) → FewBounds x → NoMore (λ (c : Counted). c.longest) x
  no_longer (plain.rt_item s r) h = omega arith
  no_longer (plain.struct_item s d) h = omega arith
  no_longer (plain.enum_item s d) h = omega arith
  no_longer (plain.function_item s f) h = let a = fewer f in let b = as_many f in omega (arith, a, b, h)

  -- ---- a program

  same_length : (p : ProgramTree) (n : ℕ) → length (compacted o single p n) ≡ length p
  same_length [] n = refl
  same_length (i ∷ is) zero = refl
  same_length (i ∷ is) (suc n) = ap suc (same_length is n)

  sum_no_more : (g : Counted → ℕ) (p : ProgramTree) (n : ℕ) → ((x : ItemTree) → slice_get p n ≡ Some x → NoMore g x) → sum g (map counts (nodes (compacted o single p n))) ≤ sum g (map counts (nodes p))
  sum_no_more g [] n h = omega arith
  sum_no_more g (i ∷ is) zero h =
      let a = h i refl in
      let b = ap (sum g) (like_both (below_likes i) (like_itself (nodes is))).same in
      omega (arith, a, b)
  sum_no_more g (i ∷ is) (suc n) h =
      let a = sum_front g (below_item i) (nodes (compacted o single is n)) (nodes is) (sum_no_more g is n h) in
      omega (arith, a)

  top_no_more : (g : Counted → ℕ) (p : ProgramTree) (n : ℕ) → ((x : ItemTree) → slice_get p n ≡ Some x → NoMore g x) → top g (map counts (nodes (compacted o single p n))) ≤ top g (map counts (nodes p))
  top_no_more g [] n h = omega arith
  top_no_more g (i ∷ is) zero h =
      let a = h i refl in
      let b = ap (top g) (like_both (below_likes i) (like_itself (nodes is))).same in
      omega (arith, a, b)
  top_no_more g (i ∷ is) (suc n) h =
      let a = top_front g (below_item i) (nodes (compacted o single is n)) (nodes is) (top_no_more g is n h) in
      omega (arith, a)

  there : (p : ProgramTree) (n : ℕ) (x : ItemTree) → slice_get p n ≡ Some x → slice_get (compacted o single p n) n ≡ Some (compacted_item o single x)
  there [] n x e = absurd (cc)
  there (i ∷ is) zero x e = ap (λ z. Some (compacted_item o single z)) (some_is i x e)
    where
      some_is : (a b : ItemTree) → ◌≡◌ {A = Option ItemTree} (Some a) (Some b) → a ≡ b
      some_is a b e = cc
  there (i ∷ is) (suc n) x e = there is n x e

  resolved_at : (q : ProgramTree) (k : ℕ) (xs : ProgramTree) (us : List ItemNames) (n : ℕ) (x : ItemTree) → in_items q k xs ≡ Ok us → slice_get xs n ≡ Some x → (j : ℕ) × (u : ItemNames) × (in_item q j x ≡ Ok u)
  resolved_at q k [] us n x e h = absurd (cc)
  resolved_at q k (y ∷ ys) us zero x e h =
      let r = read_ok (in_item q k y) (λ u. and_then (in_items q (suc k) ys) (λ vs. Ok (u ∷ vs))) us e in
      (k, r.0, ap (in_item q k) (sym (some_is y x h)) ∙ r.1)
    where
      some_is : (a b : ItemTree) → ◌≡◌ {A = Option ItemTree} (Some a) (Some b) → a ≡ b
      some_is a b e = cc
  resolved_at q k (y ∷ ys) us (suc n) x e h =
      let r = read_ok (in_item q k y) (λ u. and_then (in_items q (suc k) ys) (λ vs. Ok (u ∷ vs))) us e in
      let v = read_ok (in_items q (suc k) ys) (λ vs. Ok (r.0 ∷ vs)) us r.2 in
      resolved_at q (suc k) ys v.0 n x v.1 h

  function_few : (q : ProgramTree) (j : ℕ) (s : Span) (f : Function) (u : ItemNames) → in_item q j (plain.function_item s (short f)) ≡ Ok u → longest_bounds (short f).lifetimes ≤ length f.lifetimes
  function_few q j s f u e =
      let l = list_of q j s (short f) u e in
      let d : Listed (inside q j s (short f)) [] (short f).lifetimes = listed (inside q j s (short f)) (short f).lifetimes [] 0 l.0 l.1 in
      let a = few_bounds (names (short f).lifetimes) (short f).lifetimes (once f) (λ x w. let m = d.bounded x w in meant_declared s (short f) x m.0 m.1) in
      let b = many_names (short f).lifetimes in
      let c = fewer f in
      omega (arith, a, b, c)

  item_few : (q : ProgramTree) (j : ℕ) (x : ItemTree) (u : ItemNames) → in_item q j (compacted_item o single x) ≡ Ok u → FewBounds x
  item_few q j (plain.rt_item s r) u e = tt
  item_few q j (plain.struct_item s d) u e = tt
  item_few q j (plain.enum_item s d) u e = tt
  item_few q j (plain.function_item s f) u e = function_few q j s f u e

  module _ (p : ProgramTree) (i : ℕ) (ns : List ItemNames) (meant : Meant p ns) where
    abbrev q : ProgramTree
    q = compacted o single p i

    few : (x : ItemTree) → slice_get p i ≡ Some x → FewBounds x
    few x e =
        let N : NamesStay o single p i ns = names_stay o single p i ns meant in
        let r = read_ok (apart (record { types = []; functions = [] }) 0 q) (λ z. in_items q 0 q) N.news N.meant.names_are in
        let a = resolved_at q 0 q N.news i (compacted_item o single x) r.2 (there p i x e) in
        item_few q a.0 x a.1 a.2

    summed : (g : Counted → ℕ) → ((x : ItemTree) → NoMore g x) → total (λ n. g (counts n)) (nodes p) < 2 ^ 32 → total (λ n. g (counts n)) (nodes q) < 2 ^ 32
    summed g h w =
        let a = sum_no_more g p i (λ x e. h x) in
        let b = total_is g (nodes p) in
        let c = total_is g (nodes q) in
        omega (arith, a, b, c, w)

    pub still_numbered : IsNumbered p → IsNumbered q
    still_numbered h = record {
      items = subst (λ m. m < 2 ^ 32) (sym (same_length p i)) h.items;
      bindings = summed (λ (c : Counted). c.bindings) no_more_bindings h.bindings;
      lifetimes = summed (λ (c : Counted). c.lifetimes) no_more_lifetimes h.lifetimes;
      loops = summed (λ (c : Counted). c.loops) no_more_loops h.loops;
      lists =
          let g : Counted → ℕ = λ (c : Counted). c.longest in
          let a = top_no_more g p i (λ x e. no_longer x (few x e)) in
          let b = greatest_is g (nodes p) in
          let c = greatest_is g (nodes q) in
          let w = h.lists in
          omega (arith, a, b, c, w);
    }

pub short_numbered : (p : ProgramTree) (i : ℕ) (q : ProgramTree) → IsCompacted p i q → IsNumbered p → IsNumbered q
short_numbered p i q c h = subst IsNumbered (sym c.same) (still_numbered c.outlives (is_single (slice_get c.declared i)) p i c.names c.meant h)
