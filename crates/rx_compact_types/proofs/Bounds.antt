-- The bounds that a function declares, by names and by numbers: those of a short signature are those of before under other numbers, but
-- for bounds between lifetimes that became one.
use Rattle.std.proofs.Common.{◌≡◌, ◌⊎◌, inl, inr, ℕ, zero, suc, ◌+◌, ◌<◌, ◌^◌, Bool, true, false, List, [], ◌∷◌, ◌++◌, length, map, get_or, Option, Some, None, Ok, refl, sym, ap, ap₂, subst, ◌∙◌, arith, if◌then◌else◌, filter}
use Rattle.std.specs.Str.{bytes_eq}
use Rattle.std.proofs.lemmas.Bool.{or_cases, or_from, false≢true}
use Rattle.rx_core.specs.declared.types.Bound.{Bound}
use Rattle.rx_core.specs.declared.types.Span.{Span}
use Rattle.rx_tree.specs.declared.tree.Ident.{Ident}
use Rattle.rx_tree.specs.declared.tree.BoundLifetime.{BoundLifetime}
use Rattle.rx_tree.specs.Plain.{Function, ProgramTree}
use Rattle.rx_resolve_names.specs.Scopes.{DeclaredNames}
use Rattle.rx_resolve_names.specs.Meant.{number, number_in}
use Rattle.rx_resolve_names.specs.Steps as naming
use Rattle.rx_resolve_names.specs.Steps.{Inside, known, one, both, declare}
use Rattle.rx_resolve_names.specs.Names.{lifetime_in}
use Rattle.rx_resolve_names.specs.Items.{bounds_in, lifetimes_of}
use Rattle.rx_region_outlives.specs.Implied.{HasPair}
use Rattle.rx_typeck_typed.specs.Items.{one_each, bounded, bounds_of}
use Rattle.rx_hoist_extraction.specs.Names.{Names, is_among, Distinct}
use Rattle.rx_hoist_extraction.specs.NewFunction.{firsts_of}
use Rattle.rx_hoist_extraction.specs.OwnLifetimes.{idents}
use Rattle.rx_compact_lifetimes.specs.declared.rewriting.Rewriting.{Rewriting}
use Rattle.rx_compact_lifetimes.specs.Rewritten.{renamed_ident, renamed_bound}
use Rattle.rx_compact_lifetimes.specs.Merged.{bounds_for, joined_lifetime, joined}
use Rattle.rx_compact_lifetimes.specs.Steps.{names}
use Rattle.rx_compact_laws.specs.Resolved.{declared, inside}
use Rattle.rx_compact_laws.proofs.Resolving.{read_ok, ok_is}
use Rattle.rx_hoist_made.proofs.Among.{among_both}
use Rattle.rx_compact_laws.proofs.Declaring.{same_name, itself, declared_means, all_bounds}
use Rattle.rx_compact_laws.proofs.Lists.{first_among, among_more, among_front, among_behind, among_either, new_name, ident_turned, renamed_idents, firsts_among}
use Rattle.rx_compact_types.specs.Positions.{or_zero, number_of}
use Rattle.rx_compact_types.proofs.Places.{small, place}

-- ---- by names

-- the list has a bound of the lifetime x on y
abbrev pub HasBound : List BoundLifetime → List ℕ → List ℕ → Type 0
HasBound [] x y = ⊥
HasBound (l ∷ ls) x y = ((x ≡ l.name.name) × (is_among y (idents l.bounds) ≡ true)) ⊎ HasBound ls x y

-- ---- by numbers

abbrev a_pair : ℕ → ℕ → Bound
a_pair l k = record { long = l; short = k }

abbrev with_number : DeclaredNames → ℕ → List Ident → List Bound
with_number L n [] = []
with_number L n (b ∷ bs) = a_pair n (number_of L b.name) ∷ with_number L n bs

-- each by the numbers of their names
abbrev pub named_bounds : DeclaredNames → List BoundLifetime → List Bound
named_bounds L [] = []
named_bounds L (l ∷ ls) = with_number L (number_of L l.name.name) l.bounds ++ named_bounds L ls

known_is : (o : Option ℕ) (s : Span) (n : ℕ) → known o s ≡ Ok n → o ≡ Some n
known_is None s n e = absurd (cc)
known_is (Some m) s n e = ap (λ k. Some k) (ok_is m n e)

module _ (I : Inside) where
  bounds_named : (n : ℕ) (bs : List Ident) (ks : List ℕ) → bounds_in I bs ≡ Ok ks → (ns ms : List ℕ)
      → bounds_of (one_each n bs ++ ns) (ks ++ ms) ≡ with_number I.lifetimes n bs ++ bounds_of ns ms
  bounds_named n [] ks e ns ms = ap (λ ks. bounds_of ns (ks ++ ms)) (sym (ok_is [] ks e))
  bounds_named n (b ∷ bs) ks e ns ms =
      let a = read_ok (one (lifetime_in I b)) (λ ks. naming.and_then (bounds_in I bs) (λ ms. Ok (ks ++ ms))) ks e in
      let c = read_ok (lifetime_in I b) (λ n. Ok (n ∷ [])) a.0 a.1 in
      let d = read_ok (bounds_in I bs) (λ ms. Ok (a.0 ++ ms)) ks a.2 in
      let t : c.0 ∷ d.0 ≡ ks = ap (λ ks. ks ++ d.0) (ok_is (c.0 ∷ []) a.0 c.2) ∙ ok_is (a.0 ++ d.0) ks d.2 in
      let m : number_of I.lifetimes b.name ≡ c.0 = ap or_zero (known_is (number_in I.lifetimes b.name) b.span c.0 c.1) in
      ap (λ ks. bounds_of (n ∷ (one_each n bs ++ ns)) (ks ++ ms)) (sym t)
      ∙ ap₂ (λ (k : ℕ) (r : List Bound). a_pair n k ∷ r) (sym m) (bounds_named n bs d.0 d.1 ns ms)

  -- where each lifetime of the list has the number of its place
  abbrev Placed : ℕ → List BoundLifetime → Type 0
  Placed n [] = Unit {0}
  Placed n (l ∷ ls) = (number n ≡ number_of I.lifetimes l.name.name) × Placed (suc n) ls

  list_named : (ls : List BoundLifetime) (ds : DeclaredNames) (n : ℕ) (ns : List ℕ) → Placed n ls → lifetimes_of I ds n ls ≡ Ok ns → bounds_of (bounded n ls) ns ≡ named_bounds I.lifetimes ls
  list_named [] ds n ns w e = refl
  list_named (l ∷ ls) ds n ns w e =
      let a = read_ok (declare ds l.name n) (λ ds. both (bounds_in I l.bounds) (lifetimes_of I ds (suc n) ls)) ns e in
      let b = read_ok (bounds_in I l.bounds) (λ ks. naming.and_then (lifetimes_of I a.0 (suc n) ls) (λ ms. Ok (ks ++ ms))) ns a.2 in
      let c = read_ok (lifetimes_of I a.0 (suc n) ls) (λ ms. Ok (b.0 ++ ms)) ns b.2 in
      ap (bounds_of (bounded n (l ∷ ls))) (sym (ok_is (b.0 ++ c.0) ns c.2))
      ∙ (bounds_named (number n) l.bounds b.0 b.1 (bounded (suc n) ls) c.0
      ∙ ap₂ (λ m r. with_number I.lifetimes m l.bounds ++ r) w.0 (list_named ls a.0 (suc n) c.0 w.1 c.1))

-- a name of a list in which no two are the same has one place
pub there : (xs : Names) (i : ℕ) → i < length xs → is_among (get_or xs i []) xs ≡ true
there [] i l = absurd (omega arith)
there (x ∷ xs) zero l = first_among x x xs (itself x)
there (x ∷ xs) (suc i) l = among_more (get_or xs i []) x xs (there xs i (omega (arith, l)))

elsewhere : (x : List ℕ) (xs : Names) (i : ℕ) → is_among x xs ≡ false → i < length xs → x ≡ get_or xs i [] → ⊥
elsewhere x xs i none l e = false≢true (sym none ∙ (ap (λ y. is_among y xs) e ∙ there xs i l))

pub one_place : (xs : Names) (i j : ℕ) → Distinct xs → i < length xs → j < length xs → get_or xs i [] ≡ get_or xs j [] → i ≡ j
one_place [] i j d l m e = absurd (omega arith)
one_place (x ∷ xs) zero zero d l m e = refl
one_place (x ∷ xs) zero (suc j) d l m e = absurd (elsewhere x xs j d.0 (omega (arith, m)) e)
one_place (x ∷ xs) (suc i) zero d l m e = absurd (elsewhere x xs i d.0 (omega (arith, l)) (sym e))
one_place (x ∷ xs) (suc i) (suc j) d l m e = ap suc (one_place xs i j d.1 (omega (arith, l)) (omega (arith, m)) e)

pub many_names : (ls : List BoundLifetime) → length (names ls) ≡ length ls
many_names [] = refl
many_names (l ∷ ls) = ap suc (many_names ls)

placed_from : (I : Inside) (ls : List BoundLifetime) (n : ℕ) → ((j : ℕ) → j < length ls → number (n + j) ≡ number_of I.lifetimes (get_or (names ls) j [])) → Placed I n ls
placed_from I [] n h = tt
placed_from I (l ∷ ls) n h =
    (ap number (let z : n ≡ n + 0 = omega arith in z) ∙ h 0 (omega arith), placed_from I ls (suc n) (λ j g. ap number (let z : suc n + j ≡ n + suc j = omega arith in z) ∙ h (suc j) (omega (arith, g))))

module _ (s : Span) (f : Function) (few : length f.lifetimes < 2 ^ 32) (once : Distinct (names f.lifetimes)) where
  at_place : (j : ℕ) → j < length f.lifetimes → number (0 + j) ≡ number_of (declared s f) (get_or (names f.lifetimes) j [])
  at_place j l =
      let x : List ℕ = get_or (names f.lifetimes) j [] in
      let many = many_names f.lifetimes in
      let m = declared_means s f x (there (names f.lifetimes) j (omega (arith, l, many))) in
      let r = place s f few x m.0 m.1 in
      let less : m.0 < length f.lifetimes = r.0 in
      let e : m.0 ≡ j = one_place (names f.lifetimes) m.0 j once (omega (arith, less, many)) (omega (arith, l, many)) r.1 in
      let z : 0 + j ≡ j = omega arith in
      ap number z ∙ (small j (omega (arith, l, few)) ∙ (sym e ∙ sym (ap or_zero m.1)))

  pub own_bounds : (p : ProgramTree) (n : ℕ) (ns : List ℕ) → lifetimes_of (inside p n s f) [] 0 f.lifetimes ≡ Ok ns → bounds_of (bounded 0 f.lifetimes) ns ≡ named_bounds (declared s f) f.lifetimes
  own_bounds p n ns e = list_named (inside p n s f) f.lifetimes [] 0 ns (placed_from (inside p n s f) f.lifetimes 0 at_place) e

-- ---- pairs

pair_both : (bs cs : List Bound) (l k : ℕ) → HasPair (bs ++ cs) l k → HasPair bs l k ⊎ HasPair cs l k
pair_both [] cs l k h = inr h
pair_both (b ∷ bs) cs l k (inl e) = inl (inl e)
pair_both (b ∷ bs) cs l k (inr h) = elim (pair_both bs cs l k h) [ inl a ↦ inl (inr a) | inr c ↦ inr c ]

pair_front : (bs cs : List Bound) (l k : ℕ) → HasPair bs l k → HasPair (bs ++ cs) l k
pair_front [] cs l k h = absurd h
pair_front (b ∷ bs) cs l k (inl e) = inl e
pair_front (b ∷ bs) cs l k (inr h) = inr (pair_front bs cs l k h)

pair_behind : (bs cs : List Bound) (l k : ℕ) → HasPair cs l k → HasPair (bs ++ cs) l k
pair_behind [] cs l k h = h
pair_behind (b ∷ bs) cs l k h = inr (pair_behind bs cs l k h)

module _ (L : DeclaredNames) where
  numbers_had : (n : ℕ) (bs : List Ident) (l k : ℕ) → HasPair (with_number L n bs) l k → (y : List ℕ) × (is_among y (idents bs) ≡ true) × (l ≡ n) × (k ≡ number_of L y)
  numbers_had n [] l k h = absurd h
  numbers_had n (b ∷ bs) l k (inl e) = (b.name, first_among b.name b.name (idents bs) (itself b.name), ap (λ (x : Bound). x.long) (sym e), ap (λ (x : Bound). x.short) (sym e))
  numbers_had n (b ∷ bs) l k (inr h) = let r = numbers_had n bs l k h in (r.0, among_more r.0 b.name (idents bs) r.1, r.2, r.3)

  numbers_have : (n : ℕ) (bs : List Ident) (y : List ℕ) → is_among y (idents bs) ≡ true → HasPair (with_number L n bs) n (number_of L y)
  numbers_have n [] y h = absurd (false≢true h)
  numbers_have n (b ∷ bs) y h = elim (or_cases (bytes_eq y b.name) (is_among y (idents bs)) h) [
    | inl e ↦ inl (ap (λ z. a_pair n (number_of L z)) (sym (same_name y b.name e)))
    | inr g ↦ inr (numbers_have n bs y g)
  ]

  pub pair_named : (ls : List BoundLifetime) (l k : ℕ) → HasPair (named_bounds L ls) l k → (x : List ℕ) × (y : List ℕ) × HasBound ls x y × (l ≡ number_of L x) × (k ≡ number_of L y)
  pair_named [] l k h = absurd h
  pair_named (z ∷ ls) l k h = elim (pair_both (with_number L (number_of L z.name.name) z.bounds) (named_bounds L ls) l k h) [
    | inl a ↦ (let r = numbers_had (number_of L z.name.name) z.bounds l k a in (z.name.name, r.0, inl (refl, r.1), r.2, r.3))
    | inr b ↦ (let r = pair_named ls l k b in (r.0, r.1, inr r.2, r.3, r.4))
  ]

  pub named_pair : (ls : List BoundLifetime) (x y : List ℕ) → HasBound ls x y → HasPair (named_bounds L ls) (number_of L x) (number_of L y)
  named_pair [] x y h = absurd h
  named_pair (z ∷ ls) x y (inl h) = pair_front (with_number L (number_of L z.name.name) z.bounds) (named_bounds L ls) (number_of L x) (number_of L y)
      (subst (λ w. HasPair (with_number L (number_of L z.name.name) z.bounds) (number_of L w) (number_of L y)) (sym h.0) (numbers_have (number_of L z.name.name) z.bounds y h.1))
  named_pair (z ∷ ls) x y (inr h) = pair_behind (with_number L (number_of L z.name.name) z.bounds) (named_bounds L ls) (number_of L x) (number_of L y) (named_pair ls x y h)

-- ---- where they stand

pub bound_named : (ls : List BoundLifetime) (x y : List ℕ) → HasBound ls x y → (is_among x (names ls) ≡ true) × (is_among y (all_bounds ls) ≡ true)
bound_named [] x y h = absurd h
bound_named (z ∷ ls) x y (inl h) = (ap (λ w. is_among w (names (z ∷ ls))) h.0 ∙ first_among z.name.name z.name.name (names ls) (itself z.name.name), among_front y (idents z.bounds) (all_bounds ls) h.1)
bound_named (z ∷ ls) x y (inr h) = let r = bound_named ls x y h in (among_more x z.name.name (names ls) r.0, among_behind y (idents z.bounds) (all_bounds ls) r.1)

-- ---- all are renamed

module _ (rs : List Rewriting) where
  idents_renamed : (bs : List Ident) (y : List ℕ) → is_among y (idents bs) ≡ true → is_among (new_name rs y) (idents (map (renamed_ident rs) bs)) ≡ true
  idents_renamed [] y h = absurd (false≢true h)
  idents_renamed (b ∷ bs) y h = elim (or_cases (bytes_eq y b.name) (is_among y (idents bs)) h) [
    | inl e ↦ first_among (new_name rs y) (renamed_ident rs b).name (idents (map (renamed_ident rs) bs))
        (ap (bytes_eq (new_name rs y)) (ident_turned rs b ∙ ap (new_name rs) (sym (same_name y b.name e))) ∙ itself (new_name rs y))
    | inr g ↦ among_more (new_name rs y) (renamed_ident rs b).name (idents (map (renamed_ident rs) bs)) (idents_renamed bs y g)
  ]

  pub has_renamed : (ls : List BoundLifetime) (x y : List ℕ) → HasBound ls x y → HasBound (map (renamed_bound rs) ls) (new_name rs x) (new_name rs y)
  has_renamed [] x y h = absurd h
  has_renamed (z ∷ ls) x y (inl h) = inl (ap (new_name rs) h.0 ∙ sym (ident_turned rs z.name), idents_renamed z.bounds y h.1)
  has_renamed (z ∷ ls) x y (inr h) = inr (has_renamed ls x y h)

  pub renamed_has : (ls : List BoundLifetime) (x y : List ℕ) → HasBound (map (renamed_bound rs) ls) x y → (v : List ℕ) × (w : List ℕ) × HasBound ls v w × (x ≡ new_name rs v) × (y ≡ new_name rs w)
  renamed_has [] x y h = absurd h
  renamed_has (z ∷ ls) x y (inl h) = let r = renamed_idents rs z.bounds y h.1 in (z.name.name, r.0, inl (refl, r.1), h.0 ∙ ident_turned rs z.name, r.2)
  renamed_has (z ∷ ls) x y (inr h) = let r = renamed_has ls x y h in (r.0, r.1, inr r.2, r.3, r.4)

-- ---- those of one name are one

firsts_have : (found : Names) (bs : List Ident) (y : List ℕ) → is_among y (idents bs) ≡ true → is_among y found ≡ false → is_among y (idents (firsts_of found bs)) ≡ true
firsts_have found [] y h n = absurd (false≢true h)
firsts_have found (b ∷ bs) y h n = by (is_among b.name found) refl (or_cases (bytes_eq y b.name) (is_among y (idents bs)) h) (λ more. firsts_have more bs y)
  where
    by : (c : Bool) → is_among b.name found ≡ c → (bytes_eq y b.name ≡ true) ⊎ (is_among y (idents bs) ≡ true)
        → ((more : Names) → is_among y (idents bs) ≡ true → is_among y more ≡ false → is_among y (idents (firsts_of more bs)) ≡ true)
        → is_among y (idents (if c then firsts_of found bs else b ∷ firsts_of (b.name ∷ found) bs)) ≡ true
    by true e (inl g) again = absurd (false≢true (sym n ∙ (ap (λ z. is_among z found) (same_name y b.name g) ∙ e)))
    by true e (inr g) again = again found g n
    by false e (inl g) again = first_among y b.name (idents (firsts_of (b.name ∷ found) bs)) g
    by false e (inr g) again = rest (bytes_eq y b.name) refl
      where
        rest : (c : Bool) → bytes_eq y b.name ≡ c → is_among y (idents (b ∷ firsts_of (b.name ∷ found) bs)) ≡ true
        rest true k = first_among y b.name (idents (firsts_of (b.name ∷ found) bs)) k
        rest false k = among_more y b.name (idents (firsts_of (b.name ∷ found) bs)) (again (b.name ∷ found) g (or_from (bytes_eq y b.name) (is_among y found) k n))

idents_split : (as' bs : List Ident) → idents (as' ++ bs) ≡ idents as' ++ idents bs
idents_split [] bs = refl
idents_split (a ∷ as') bs = ap (λ ns. a.name ∷ ns) (idents_split as' bs)

for_has : (x : List ℕ) (ls : List BoundLifetime) (y : List ℕ) → is_among y (idents (bounds_for x ls)) ≡ true → HasBound ls x y
for_has x [] y h = absurd (false≢true h)
for_has x (z ∷ ls) y h = by (bytes_eq x z.name.name) refl h (for_has x ls y)
  where
    by : (c : Bool) → bytes_eq x z.name.name ≡ c → is_among y (idents (if c then z.bounds ++ bounds_for x ls else bounds_for x ls)) ≡ true
        → (is_among y (idents (bounds_for x ls)) ≡ true → HasBound ls x y) → HasBound (z ∷ ls) x y
    by true e g again = elim (among_either y (idents z.bounds) (idents (bounds_for x ls)) (sym (ap (is_among y) (idents_split z.bounds (bounds_for x ls))) ∙ g)) [
      | inl k ↦ inl (same_name x z.name.name e, k)
      | inr k ↦ inr (again k)
    ]
    by false e g again = inr (again g)

has_for : (x : List ℕ) (ls : List BoundLifetime) (y : List ℕ) → HasBound ls x y → is_among y (idents (bounds_for x ls)) ≡ true
has_for x [] y h = absurd h
has_for x (z ∷ ls) y h = by (bytes_eq x z.name.name) refl h (has_for x ls y)
  where
    by : (c : Bool) → bytes_eq x z.name.name ≡ c → HasBound (z ∷ ls) x y → (HasBound ls x y → is_among y (idents (bounds_for x ls)) ≡ true)
        → is_among y (idents (if c then z.bounds ++ bounds_for x ls else bounds_for x ls)) ≡ true
    by true e (inl g) again = ap (is_among y) (idents_split z.bounds (bounds_for x ls)) ∙ among_front y (idents z.bounds) (idents (bounds_for x ls)) g.1
    by true e (inr g) again = ap (is_among y) (idents_split z.bounds (bounds_for x ls)) ∙ among_behind y (idents z.bounds) (idents (bounds_for x ls)) (again g)
    by false e (inl g) again = absurd (false≢true (sym e ∙ (ap (λ w. bytes_eq w z.name.name) g.0 ∙ itself z.name.name)))
    by false e (inr g) again = again g

module _ (all : List BoundLifetime) where
  joined_stands : (found : Names) (ls : List BoundLifetime) (x y : List ℕ) → is_among x (names ls) ≡ true → is_among x found ≡ false → is_among y (idents (firsts_of (x ∷ []) (bounds_for x all))) ≡ true
      → HasBound (joined all found ls) x y
  joined_stands found [] x y h n g = absurd (false≢true h)
  joined_stands found (z ∷ ls) x y h n g = by (is_among z.name.name found) refl (or_cases (bytes_eq x z.name.name) (is_among x (names ls)) h) (bytes_eq x z.name.name) refl (λ more k m. joined_stands more ls x y k m g)
    where
      by : (c : Bool) → is_among z.name.name found ≡ c → (bytes_eq x z.name.name ≡ true) ⊎ (is_among x (names ls) ≡ true) → (b : Bool) → bytes_eq x z.name.name ≡ b
          → ((more : Names) → is_among x (names ls) ≡ true → is_among x more ≡ false → HasBound (joined all more ls) x y)
          → HasBound (if c then joined all found ls else joined_lifetime all z.name ∷ joined all (found ++ z.name.name ∷ []) ls) x y
      by true e (inl k) b q again = absurd (false≢true (sym n ∙ (ap (λ w. is_among w found) (same_name x z.name.name k) ∙ e)))
      by true e (inr k) b q again = again found k n
      by false e k true q again = let s : x ≡ z.name.name = same_name x z.name.name q in inl (s, ap (λ w. is_among y (idents (firsts_of (w ∷ []) (bounds_for w all)))) (sym s) ∙ g)
      by false e (inl k) false q again = absurd (false≢true (sym q ∙ k))
      by false e (inr k) false q again = inr (again (found ++ z.name.name ∷ []) k (among_both x found (z.name.name ∷ []) ∙ or_from (is_among x found) (is_among x (z.name.name ∷ [])) n (or_from (bytes_eq x z.name.name) false q refl)))

  pub has_joined : (x y : List ℕ) → HasBound all x y → bytes_eq y x ≡ false → HasBound (joined all [] all) x y
  has_joined x y h n = joined_stands [] all x y (bound_named all x y h).0 refl (firsts_have (x ∷ []) (bounds_for x all) y (has_for x all y h) (or_from (bytes_eq y x) false n refl))

  pub joined_has : (found : Names) (ls : List BoundLifetime) (x y : List ℕ) → HasBound (joined all found ls) x y → HasBound all x y
  joined_has found [] x y h = absurd h
  joined_has found (z ∷ ls) x y h = by (is_among z.name.name found) h (λ more. joined_has more ls x y)
    where
      by : (c : Bool) → HasBound (if c then joined all found ls else joined_lifetime all z.name ∷ joined all (found ++ z.name.name ∷ []) ls) x y
          → ((more : Names) → HasBound (joined all more ls) x y → HasBound all x y) → HasBound all x y
      by true h again = again found h
      by false (inl h) again = subst (λ w. HasBound all w y) (sym h.0) (for_has z.name.name all y (firsts_among (z.name.name ∷ []) (bounds_for z.name.name all) y h.1))
      by false (inr h) again = again (found ++ z.name.name ∷ []) h

-- ---- some are kept

pub kept_has : (keep : BoundLifetime → Bool) (ls : List BoundLifetime) (x y : List ℕ) → HasBound (filter keep ls) x y → HasBound ls x y
kept_has keep [] x y h = h
kept_has keep (z ∷ ls) x y h = by (keep z) h (kept_has keep ls x y)
  where
    by : (c : Bool) → HasBound (if c then z ∷ filter keep ls else filter keep ls) x y → (HasBound (filter keep ls) x y → HasBound ls x y) → HasBound (z ∷ ls) x y
    by true (inl h) again = inl h
    by true (inr h) again = inr (again h)
    by false h again = inr (again h)

pub has_kept : (G : List ℕ → Bool) (ls : List BoundLifetime) (x y : List ℕ) → HasBound ls x y → G x ≡ true → HasBound (filter (λ (l : BoundLifetime). G l.name.name) ls) x y
has_kept G [] x y h g = h
has_kept G (z ∷ ls) x y h g = by (G z.name.name) refl h (λ k. has_kept G ls x y k g)
  where
    rest : List BoundLifetime
    rest = filter (λ (l : BoundLifetime). G l.name.name) ls

    by : (c : Bool) → G z.name.name ≡ c → HasBound (z ∷ ls) x y → (HasBound ls x y → HasBound rest x y) → HasBound (if c then z ∷ rest else rest) x y
    by true e (inl h) again = inl h
    by true e (inr h) again = inr (again h)
    by false e (inl h) again = absurd (false≢true (sym e ∙ (ap G (sym h.0) ∙ g)))
    by false e (inr h) again = again h
