-- The signature of a function whose names are resolved and whose demands are met fits.
use Rattle.std.proofs.Common.{◌≡◌, ℕ, suc, ◌+◌, ◌≤◌, Bool, true, false, not, ◌||◌, ◌&&◌, nat_lt, List, [], ◌∷◌, ◌++◌, map, length, Ok, refl, sym, ap, subst, ◌∙◌, arith, lt-ltb, append_assoc, append-nil, ◌⊎◌, inl, inr}
use Rattle.rx_core.specs.declared.types.Span.{Span}
use Rattle.rx_core.specs.declared.types.Bound.{Bound}
use Rattle.rx_core.specs.declared.types.Ty.{Ty}
use Rattle.rx_tree.specs.declared.tree.Ident.{Ident}
use Rattle.rx_tree.specs.declared.tree.BoundLifetime.{BoundLifetime}
use Rattle.rx_tree.specs.Plain.{Parameter, Function}
use Rattle.rx_resolve_names.specs.Scopes.{DeclaredNames, Variables}
use Rattle.rx_resolve_names.specs.declared.resolved.ItemNames.{ItemNames}
use Rattle.rx_resolve_names.specs.declared.resolved.NodeNames.{NodeNames}
use Rattle.rx_resolve_names.specs.Meant.{number, Around}
use Rattle.rx_resolve_names.specs.Steps as names
use Rattle.rx_resolve_names.specs.Steps.{Inside, entry, with_names, numbered}
use Rattle.rx_resolve_names.specs.Names.{lifetime_in}
use Rattle.rx_resolve_names.specs.Items.{bounds_in, lifetimes_of, numbers_from, in_function}
use Rattle.rx_typed.specs.Named as named
use Rattle.rx_typed.specs.Naming as naming
use Rattle.rx_typed.specs.Naming.{Cursor, a_node, function_named}
use Rattle.rx_typed.specs.declared.nodes.Site.{Site}
use Rattle.rx_typed.specs.Types.{Declarations}
use Rattle.rx_typed.specs.Regions.{regions_of, region-Ty}
use Rattle.rx_typed_declarations.specs.WellFormed.{all_below, fits, all_fit, bounds_fit}
use Rattle.rx_typeck_typed.specs.Steps as steps
use Rattle.rx_typeck_typed.specs.Steps.{Reading, on_ok}
use Rattle.rx_typeck_typed.specs.Items.{begins, one_each, bounded, bounds_of, entry_of, parameters_of, answer_of}
use Rattle.rx_typeck_typed.proofs.Resolving.{named_ok, block_grows}
use Rattle.rx_typeck_typed.proofs.Lifetimes.{both_true, known_ok, both_ok, LifetimesBelow}
use Rattle.rx_typeck_typed.proofs.Reading.{Within, ParametersCounted, ResultCounted, reading, at_names, ParametersRead, ResultReads, parameters_added, result_added}

-- ---- bounds

below_append : (m : ℕ) (a b : List ℕ) → all_below m a ≡ true → all_below m b ≡ true → all_below m (a ++ b) ≡ true
below_append m [] b h k = k
below_append m (n ∷ a) b h k = more (nat_lt n m) (λ h. below_append m a b h k) h
  where
    more : (c : Bool) → (all_below m a ≡ true → all_below m (a ++ b) ≡ true) → (c && all_below m a) ≡ true → (c && all_below m (a ++ b)) ≡ true
    more true later h = later h
    more false later h = absurd (cc)

and_both : (a b : Bool) → (a && b) ≡ true → (a ≡ true) × (b ≡ true)
and_both true b h = (refl, h)
and_both false b h = absurd (cc)

length_append : (a b : List ℕ) → length (a ++ b) ≡ length a + length b
length_append [] b = omega arith
length_append (x ∷ a) b = let more = length_append a b in omega (arith, more)

each_below : (m n : ℕ) (xs : List Ident) → nat_lt n m ≡ true → all_below m (one_each n xs) ≡ true
each_below m n [] h = refl
each_below m n (x ∷ xs) h = both_true _ _ h (each_below m n xs h)

each_length : (n : ℕ) (xs : List Ident) → length (one_each n xs) ≡ length xs
each_length n [] = refl
each_length n (x ∷ xs) = ap suc (each_length n xs)

-- the lifetimes that have bounds are among those that are declared
bounded_below : (m n : ℕ) (ls : List BoundLifetime) → n + length ls ≤ m → all_below m (bounded n ls) ≡ true
bounded_below m n [] h = refl
bounded_below m n (l ∷ ls) h =
    below_append m (one_each (number n) l.bounds) (bounded (suc n) ls) (each_below m (number n) l.bounds (lt-ltb (number n) m (omega (arith, h)))) (bounded_below m (suc n) ls (omega (arith, h)))

-- so many numbers, each below m
record Found (m : ℕ) (n : ℕ) (ks : List ℕ) : Type 0 where
  as_many : length ks ≡ n
  below : all_below m ks ≡ true

bounds_found : (I : Inside) (m : ℕ) → LifetimesBelow I m → (ls : List Ident) (ks : List ℕ) → bounds_in I ls ≡ Ok ks → Found m (length ls) ks
bounds_found I m w [] ks h = let e : [] ≡ ks = cc in subst (λ (ks : List ℕ). Found m 0 ks) e (record { as_many = refl; below = refl })
bounds_found I m w (l ∷ ls) ks h =
    let x = both_ok (lifetime_in I l) (bounds_in I ls) ks h in
    let r = bounds_found I m w ls x.1 x.3 in
    subst (λ (ks : List ℕ). Found m (suc (length ls)) ks) x.4 (record { as_many = ap suc r.as_many; below = both_true _ _ (w l.name x.0 (known_ok _ l.span x.0 x.2)) r.below })

lifetimes_found : (I : Inside) (m : ℕ) → LifetimesBelow I m → (ds : DeclaredNames) (n k : ℕ) (ls : List BoundLifetime) (ks : List ℕ) → lifetimes_of I ds n ls ≡ Ok ks → Found m (length (bounded k ls)) ks
lifetimes_found I m w ds n k [] ks h = let e : [] ≡ ks = cc in subst (λ (ks : List ℕ). Found m 0 ks) e (record { as_many = refl; below = refl })
lifetimes_found I m w ds n k (l ∷ ls) ks h =
    let a = named_ok (names.declare ds l.name n) (λ ds. names.both (bounds_in I l.bounds) (lifetimes_of I ds (suc n) ls)) ks h in
    let b = named_ok (bounds_in I l.bounds) (λ ns. names.and_then (lifetimes_of I a.0 (suc n) ls) (λ ms. Ok (ns ++ ms))) ks a.2 in
    let c = named_ok (lifetimes_of I a.0 (suc n) ls) (λ ms. Ok (b.0 ++ ms)) ks b.2 in
    let e : b.0 ++ c.0 ≡ ks = cc in
    let x = bounds_found I m w l.bounds b.0 b.1 in
    let y = lifetimes_found I m w a.0 (suc n) (suc k) ls c.0 c.1 in
    subst (λ (ks : List ℕ). Found m (length (one_each (number k) l.bounds ++ bounded (suc k) ls)) ks) e (record {
      as_many = length_append b.0 c.0 ∙ ap (λ n. n + length c.0) (x.as_many ∙ sym (each_length (number k) l.bounds)) ∙ ap (λ n. length (one_each (number k) l.bounds) + n) y.as_many
          ∙ sym (length_append (one_each (number k) l.bounds) (bounded (suc k) ls));
      below = below_append m b.0 c.0 x.below y.below;
    })

bounds_below : (m : ℕ) (B ks more : List ℕ) → all_below m B ≡ true → Found m (length B) ks → bounds_fit m (bounds_of B (ks ++ more)) ≡ true
bounds_below m [] ks more h f = refl
bounds_below m (l ∷ B) [] more h f = absurd (let e = f.as_many in omega (arith, e))
bounds_below m (l ∷ B) (k ∷ ks) more h f =
    let x = and_both (nat_lt l m) (all_below m B) h in
    let y = and_both (nat_lt k m) (all_below m ks) f.below in
    both_true _ _ (both_true _ _ x.0 y.0) (bounds_below m B ks more x.1 (record { as_many = let e = f.as_many in omega (arith, e); below = y.1 }))

-- ---- the entry of the item

-- what the walks make of the item's entry, if it has one: of the numbers of bounds, and the entries
record Opened (B ks : List ℕ) (has : Bool) (xs : List Parameter) (es : List NodeNames) : Type 0 where
  moved : (c : Cursor) (rest : List NodeNames) → (naming.entry_if has (at_names c (es ++ rest))).1 ≡ at_names c rest
  took : (rest : List NodeNames) (ls : List ℕ) (k : ℕ) (e : List ℕ × Reading) → entry_of B xs (reading (es ++ rest) ls k) ≡ Ok e
      → (e.1 ≡ reading rest ls k) × ((B ≡ []) ⊎ ((more : List ℕ) × (e.0 ≡ ks ++ more)))

record OpenedBy (I : Inside) (at B ks : List ℕ) (has : Bool) (xs : List Parameter) (t t' : ItemNames) : Type 0 where
  entries : List NodeNames
  added : t'.names ≡ t.names ++ entries
  opened : Opened B ks has xs entries

read_pair : (a b : List ℕ × Reading) → ◌≡◌ {A = steps.Outcome (List ℕ × Reading)} (Ok a) (Ok b) → a ≡ b
read_pair a b e = cc

an_entry_took : (B : List ℕ) (xs : List Parameter) (x : NodeNames) → ((r : Reading) → entry_of B xs r ≡ steps.an_entry r) → (rest : List NodeNames) (ls : List ℕ) (k : ℕ) (e : List ℕ × Reading)
    → entry_of B xs (reading (x ∷ rest) ls k) ≡ Ok e → (x.numbers, reading rest ls k) ≡ e
an_entry_took B xs x same rest ls k e h = read_pair (x.numbers, reading rest ls k) e (sym (same (reading (x ∷ rest) ls k)) ∙ h)

with_item : (I : Inside) (at B : List ℕ) (n : ℕ) (ks more : List ℕ) (has : Bool) (xs : List Parameter) (t t' : ItemNames) → has ≡ true → ((r : Reading) → entry_of B xs r ≡ steps.an_entry r)
    → (all : List ℕ) → n ∷ more ≡ ks ++ all → numbered I at (n ∷ more) t ≡ Ok t' → OpenedBy I at B ks has xs t t'
with_item I at B n ks more has xs t t' holds same all is h = record {
  entries = entry I at (n ∷ more) ∷ [];
  added = ap (λ (x : ItemNames). x.names) (let e : t' ≡ with_names (entry I at (n ∷ more)) t = cc in e);
  opened = record {
    moved = λ c rest. subst (λ b. (naming.entry_if b (at_names c (entry I at (n ∷ more) ∷ rest))).1 ≡ at_names c rest) (sym holds) refl;
    took = λ rest ls k e h.
        let q = an_entry_took B xs (entry I at (n ∷ more)) same rest ls k e h in
        (ap (λ (x : List ℕ × Reading). x.1) (sym q), inr (all, ap (λ (x : List ℕ × Reading). x.0) (sym q) ∙ is));
  };
}

or_true : (a : Bool) → (a || true) ≡ true
or_true true = refl
or_true false = refl

item_opened : (I : Inside) (at B ks : List ℕ) (b : Bool) (xs : List Parameter) (t t' : ItemNames) → b ≡ not (naming.is_nothing B) → length ks ≡ length B → numbered I at (ks ++ numbers_from 0 xs) t ≡ Ok t'
    → OpenedBy I at B ks (b || not (naming.is_nothing xs)) xs t t'
item_opened I at [] [] b [] t t' e n h = subst (λ b. OpenedBy I at [] [] (b || false) [] t t') (sym e) (record {
  entries = [];
  added = ap (λ (x : ItemNames). x.names) (let e : t' ≡ t = cc in e) ∙ sym (append-nil t.names);
  opened = record { moved = λ c rest. refl; took = λ rest ls k e h. (ap (λ (x : List ℕ × Reading). x.1) (sym (read_pair ([], reading rest ls k) e h)), inl refl) };
})
item_opened I at [] [] b (x ∷ xs) t t' e n h = with_item I at [] 0 [] (numbers_from (names.next 0) xs) (b || true) (x ∷ xs) t t' (or_true b) (λ r. refl) (0 ∷ numbers_from (names.next 0) xs) refl h
item_opened I at [] (k ∷ ks) b xs t t' e n h = absurd (omega (arith, n))
item_opened I at (l ∷ B) [] b xs t t' e n h = absurd (omega (arith, n))
item_opened I at (l ∷ B) (k ∷ ks) b xs t t' e n h =
    with_item I at (l ∷ B) k (k ∷ ks) (ks ++ numbers_from 0 xs) (b || not (naming.is_nothing xs)) xs t t' (ap (λ b. b || not (naming.is_nothing xs)) e) (λ r. refl) (numbers_from 0 xs) refl h

has_bounds_is : (n : ℕ) (ls : List BoundLifetime) → naming.has_bounds ls ≡ not (naming.is_nothing (bounded n ls))
has_bounds_is n [] = refl
has_bounds_is n (l ∷ ls) = here (has_bounds_is (suc n) ls) l.bounds
  where
    here : naming.has_bounds ls ≡ not (naming.is_nothing (bounded (suc n) ls)) → (xs : List Ident) → (not (naming.is_nothing xs) || naming.has_bounds ls) ≡ not (naming.is_nothing (one_each (number n) xs ++ bounded (suc n) ls))
    here rest [] = rest
    here rest (x ∷ xs) = refl

-- ---- a function

-- what was read of the signature, with the lists of the tree with numbers
pub record Signed (D : Declarations) (m n : ℕ) (F : named.Function) (ps : List Ty × Reading) (a : Ty) (bs : List Bound) : Type 0 where
  pub grows : n ≤ ps.1.next
  pub fit : ps.1.next ≤ m → ParametersCounted D F.params → ResultCounted D F.result
      → (all_fit D m (regions_of (map region-Ty ps.0)) ≡ true) × (fits D m (region-Ty a) ≡ true) × (bounds_fit m bs ≡ true)

module _ (I : Inside) (D : Declarations) (m : ℕ) (w : Within I D m) (i : ℕ) (s : Span) (f : Function) (few : length f.lifetimes ≤ m) where
  abbrev n0 : ℕ
  n0 = number (length f.lifetimes)

  -- with the entries of the item, the parameters, the result and the body
  read_signature : (es0 es1 es2 es3 : List NodeNames) (ks : List ℕ) → Found m (length (bounded 0 f.lifetimes)) ks → Opened (bounded 0 f.lifetimes) ks (naming.has_entry f) f.params es0
      → ParametersRead I.program D m f.params es1 → ResultReads I.program D m f.result es2
      → (e : List ℕ × Reading) (ps : List Ty × Reading) (a : Ty × Reading) → entry_of (bounded 0 f.lifetimes) f.params (reading (es0 ++ (es1 ++ (es2 ++ es3))) [] n0) ≡ Ok e
      → parameters_of I.program f.params e.1 ≡ Ok ps → answer_of I.program f.result ps.1 ≡ Ok a
      → Signed D m n0 (function_named i s f (es0 ++ (es1 ++ (es2 ++ es3)))) ps a.0 (bounds_of (bounded 0 f.lifetimes) e.0)
  read_signature es0 es1 es2 es3 ks found opened params result e ps a he hp ha =
      let c1 = (a_node s Site.Value (naming.begins (es0 ++ (es1 ++ (es2 ++ es3))))).1 in
      let t = opened.took (es1 ++ (es2 ++ es3)) [] n0 e he in
      let c2 = at_names c1 (es1 ++ (es2 ++ es3)) in
      let P = naming.of_parameters f.params c2 in
      let r = params (es2 ++ es3) c1 [] n0 ps (subst (λ (x : Reading). parameters_of I.program f.params x ≡ Ok ps) t.0 hp) in
      let q = result es3 P.1 ps.1.lifetimes ps.1.next a (subst (λ (ns : List NodeNames). answer_of I.program f.result (reading ns ps.1.lifetimes ps.1.next) ≡ Ok a) r.read ha) in
      let same : (naming.entry_if (naming.has_entry f) c1).1 ≡ c2 = opened.moved c1 (es1 ++ (es2 ++ es3)) in
      record {
        grows = r.grows;
        fit = λ l v u.
            let v1 = subst (λ (c : Cursor). ParametersCounted D (naming.of_parameters f.params c).0) same v in
            let u1 = subst (λ (c : Cursor). ResultCounted D (naming.of_optional_type f.result (naming.of_parameters f.params c).1).0) same u in
            let u2 = subst (λ (ns : List NodeNames). ResultCounted D (naming.of_optional_type f.result (at_names P.1 ns)).0) r.taken u1 in
            (r.fit l v1, q (r.below l refl) u2, bounds_fit_by (bounded 0 f.lifetimes) e.0 ks t.1 (bounded_below m 0 f.lifetimes (omega (arith, few))) found);
      }
    where
      bounds_fit_by : (B nums ks : List ℕ) → (B ≡ []) ⊎ ((more : List ℕ) × (nums ≡ ks ++ more)) → all_below m B ≡ true → Found m (length B) ks → bounds_fit m (bounds_of B nums) ≡ true
      bounds_fit_by B nums ks (inl none) h g = subst (λ (B : List ℕ). bounds_fit m (bounds_of B nums) ≡ true) (sym none) refl
      bounds_fit_by B nums ks (inr x) h g = subst (λ (l : List ℕ). bounds_fit m (bounds_of B l) ≡ true) (sym x.1) (bounds_below m B ks x.0 h g)

  -- of the tables that resolving the function gives
  pub signature_read : (sc : Variables) (ls : List Around) (at : List ℕ) (t t' : ItemNames) → t.names ≡ [] → in_function I sc ls at f t ≡ Ok t'
      → (e : List ℕ × Reading) (ps : List Ty × Reading) (a : Ty × Reading) → entry_of (bounded 0 f.lifetimes) f.params (begins t'.names n0) ≡ Ok e
      → parameters_of I.program f.params e.1 ≡ Ok ps → answer_of I.program f.result ps.1 ≡ Ok a
      → Signed D m n0 (function_named i s f t'.names) ps a.0 (bounds_of (bounded 0 f.lifetimes) e.0)
  signature_read sc ls at t t' none h e ps a he hp ha =
      let k = named_ok (lifetimes_of I [] 0 f.lifetimes) _ t' h in
      let o = named_ok (numbered I at (k.0 ++ numbers_from 0 f.params) t) _ t' k.2 in
      let b = named_ok _ _ t' o.2 in
      let y = named_ok _ _ t' b.2 in
      let found = lifetimes_found I m w.below [] 0 0 f.lifetimes k.0 k.1 in
      let A = item_opened I at (bounded 0 f.lifetimes) k.0 (naming.has_bounds f.lifetimes) f.params t o.0 (has_bounds_is 0 f.lifetimes) found.as_many o.1 in
      let B = parameters_added I D m w f.params at 0 (record { bindings = []; tables = o.0 }) b.0 b.1 in
      let C = result_added I D m w f.result _ b.0.tables y.0 y.1 in
      let G = block_grows I _ ls _ f.body y.0 t' y.2 in
      let is : t'.names ≡ A.entries ++ (B.entries ++ (C.entries ++ G.0)) =
      G.1 ∙ ap (λ (l : List NodeNames). l ++ G.0) (C.added ∙ ap (λ (l : List NodeNames). l ++ C.entries) (B.added ∙ ap (λ (l : List NodeNames). l ++ B.entries) (A.added ∙ ap (λ (l : List NodeNames). l ++ A.entries) none)))
      ∙ append_assoc (A.entries ++ B.entries) C.entries G.0 ∙ append_assoc A.entries B.entries (C.entries ++ G.0) in
      subst (λ (ns : List NodeNames). entry_of (bounded 0 f.lifetimes) f.params (begins ns n0) ≡ Ok e → Signed D m n0 (function_named i s f ns) ps a.0 (bounds_of (bounded 0 f.lifetimes) e.0)) (sym is)
      (λ he. read_signature A.entries B.entries C.entries G.0 k.0 found A.opened B.reads C.reads e ps a he hp ha) he
