-- The lifetimes that a function declares: where each is declared once, and bounds name declared ones, they resolve; a name among them
-- means one. By induction on the list.
use Rattle.std.proofs.lemmas.Bool.{or_left, or_right, leb-true, leb-false}
use Rattle.std.proofs.Common.{◌≡◌, ℕ, zero, suc, ◌+◌, ◌≤◌, ◌<◌, arith, nat_le, Bool, true, false, ◌||◌, if◌then◌else◌, List, [], ◌∷◌, ◌++◌, map, Option, Some, None, option_map, Ok, refl, sym, ap, ◌∙◌, subst, bytes_eq}
use Rattle.std.specs.Prelude.{filter}
use Rattle.rx_core.specs.declared.types.Span.{Span}
use Rattle.rx_tree.specs.declared.tree.Ident.{Ident}
use Rattle.rx_tree.specs.declared.tree.BoundLifetime.{BoundLifetime}
use Rattle.rx_tree.specs.Lists.{Every}
use Rattle.rx_resolve_names.specs.declared.table.NumberedName.{NumberedName}
use Rattle.rx_resolve_names.specs.Scopes.{DeclaredNames, declared_as}
use Rattle.rx_resolve_names.specs.Meant.{number, kept, firsts, number_in}
use Rattle.rx_resolve_names.specs.Steps.{Outcome, known, one, both, declare, declared_behind, Inside}
use Rattle.rx_resolve_names.specs.Names.{lifetime_in}
use Rattle.rx_resolve_names.specs.Items.{bounds_in, lifetimes_of}
use Rattle.rx_hoist_extraction.specs.Names.{Names, Distinct, is_among}
use Rattle.rx_hoist_extraction.specs.Plan.{Bounds}
use Rattle.rx_hoist_extraction.specs.Made.{ident}
use Rattle.rx_hoist_extraction.specs.WrittenTypes.{lifetimes_from}
use Rattle.rx_hoist_extraction.specs.NewFunction.{is_bound, shorts_of, with_bounds}
use Rattle.rx_hoist_extraction.specs.OwnLifetimes.{idents}
use Rattle.rx_engine_names.proofs.SideBySide.{and_ok}
use Rattle.rx_engine_names.proofs.NoDoubles.{none_push}
use Rattle.rx_engine_names.proofs.NewScopes.{is_name, same_name}

-- ---- the first of each name

declared_stays : (ds es : DeclaredNames) (x : List ℕ) (k : NumberedName) → declared_as ds x ≡ Some k → declared_as (ds ++ es) x ≡ Some k
declared_stays [] es x k e = absurd (cc)
declared_stays (d ∷ ds) es x k e = by (bytes_eq x d.0) e (declared_stays ds es x k)
  where
    by : (b : Bool) → (if b then Some d.1 else declared_as ds x) ≡ Some k → (declared_as ds x ≡ Some k → declared_as (ds ++ es) x ≡ Some k) → (if b then Some d.1 else declared_as (ds ++ es) x) ≡ Some k
    by true e h = e
    by false e h = h e

pub declared_last : (ds : DeclaredNames) (x y : List ℕ) (k : NumberedName) → declared_as ds x ≡ None → bytes_eq x y ≡ true → declared_as (ds ++ (y, k) ∷ []) x ≡ Some k
declared_last [] x y k e g = ap (λ (b : Bool). if b then Some k else None) g
declared_last (d ∷ ds) x y k e g = by (bytes_eq x d.0) e (declared_last ds x y k)
  where
    by : (b : Bool) → (if b then Some d.1 else declared_as ds x) ≡ None → (declared_as ds x ≡ None → bytes_eq x y ≡ true → declared_as (ds ++ (y, k) ∷ []) x ≡ Some k) → (if b then Some d.1 else declared_as (ds ++ (y, k) ∷ []) x) ≡ Some k
    by true e h = absurd (cc)
    by false e h = h e g

pub firsts_keep : (ds : DeclaredNames) (n : ℕ) (ys : List Ident) (x : List ℕ) (k : NumberedName) → declared_as ds x ≡ Some k → declared_as (firsts ds n ys) x ≡ Some k
firsts_keep ds n [] x k e = e
firsts_keep ds n (y ∷ ys) x k e = firsts_keep (kept ds y n (declared_as ds y.name)) (suc n) ys x k (by (declared_as ds y.name))
  where
    by : (o : Option NumberedName) → declared_as (kept ds y n o) x ≡ Some k
    by (Some l) = e
    by None = declared_stays ds ((y.name, record { number = number n; span = y.span }) ∷ []) x k e

firsts_have : (ds : DeclaredNames) (n : ℕ) (ys : List Ident) (x : List ℕ) → is_among x (idents ys) ≡ true → (k : NumberedName) × (declared_as (firsts ds n ys) x ≡ Some k)
firsts_have ds n [] x e = absurd (cc)
firsts_have ds n (y ∷ ys) x e = by (bytes_eq x y.name) refl e (firsts_have (kept ds y n (declared_as ds y.name)) (suc n) ys x)
  where
    this : bytes_eq x y.name ≡ true → (o : Option NumberedName) → declared_as ds y.name ≡ o → (k : NumberedName) × (declared_as (firsts (kept ds y n o) (suc n) ys) x ≡ Some k)
    this g (Some l) h = (l, firsts_keep ds (suc n) ys x l (ap (declared_as ds) (is_name x y.name g) ∙ h))
    this g None h =
        let l : NumberedName = record { number = number n; span = y.span } in
        (l, firsts_keep (ds ++ (y.name, l) ∷ []) (suc n) ys x l (declared_last ds x y.name l (ap (declared_as ds) (is_name x y.name g) ∙ h) g))

    by : (b : Bool) → bytes_eq x y.name ≡ b → (b || is_among x (idents ys)) ≡ true → (is_among x (idents ys) ≡ true → (k : NumberedName) × (declared_as (firsts ds n (y ∷ ys)) x ≡ Some k)) → (k : NumberedName) × (declared_as (firsts ds n (y ∷ ys)) x ≡ Some k)
    by true g h rest = this g (declared_as ds y.name) refl
    by false g h rest = rest h

-- a name that is declared means a lifetime
abbrev pub Meant : Inside → List ℕ → Type 0
Meant I x = (s : Span) → (k : ℕ) × (lifetime_in I (ident s x) ≡ Ok k)

pub declared_means : (I : Inside) (ls : List Ident) (x : List ℕ) → I.lifetimes ≡ firsts [] 0 ls → is_among x (idents ls) ≡ true → Meant I x
declared_means I ls x is e s =
    let k = firsts_have [] 0 ls x e in
    (k.0.number, ap (λ (ds : DeclaredNames). known (number_in ds x) s) is ∙ ap (λ (o : Option NumberedName). known (option_map (λ (k : NumberedName). k.number) o) s) k.1)

-- ---- bounds

bounds_resolve : (I : Inside) (ls : List Ident) → Every (λ (l : Ident). (k : ℕ) × (lifetime_in I l ≡ Ok k)) ls → (ns : List ℕ) × (bounds_in I ls ≡ Ok ns)
bounds_resolve I [] h = ([], refl)
bounds_resolve I (l ∷ ls) h = let r = bounds_resolve I ls h.1 in
    (h.0.0 ∷ r.0, ap (λ (o : Outcome ℕ). both (one o) (bounds_in I ls)) h.0.1 ∙ ap (λ (o : Outcome (List ℕ)). both (Ok (h.0.0 ∷ [])) o) r.1)

lifetimes_resolve : (I : Inside) (ds : DeclaredNames) (n : ℕ) (ls : List BoundLifetime) → Distinct (map (λ (l : BoundLifetime). l.name.name) ls)
    → Every (λ (l : BoundLifetime). Every (λ (m : Ident). (k : ℕ) × (lifetime_in I m ≡ Ok k)) l.bounds) ls → ((x : List ℕ) → is_among x (map (λ (l : BoundLifetime). l.name.name) ls) ≡ true → declared_as ds x ≡ None)
    → (ns : List ℕ) × (lifetimes_of I ds n ls ≡ Ok ns)
lifetimes_resolve I ds n [] d h new = ([], refl)
lifetimes_resolve I ds n (l ∷ ls) d h new =
    let x = l.name.name in
    let k : NumberedName = record { number = number n; span = l.name.span } in
    let es = ds ++ (x, k) ∷ [] in
    let b = bounds_resolve I l.bounds h.0 in
    let r = lifetimes_resolve I es (suc n) ls d.1 h.1 (λ y e. none_push ds (x, k) y (new y (or_right (bytes_eq y x) (is_among y (map (λ (l : BoundLifetime). l.name.name) ls)) e)) (other y e (bytes_eq y x) refl)) in (
      b.0 ++ r.0,
      and_ok (declare ds l.name n) es (λ ds. both (bounds_in I l.bounds) (lifetimes_of I ds (suc n) ls)) (Ok (b.0 ++ r.0)) (ap (declared_behind ds l.name n) (new x (or_left (bytes_eq x x) (is_among x (map (λ (l : BoundLifetime). l.name.name) ls)) (same_name x))))
          (ap (λ (o : Outcome (List ℕ)). both o (lifetimes_of I es (suc n) ls)) b.1 ∙ ap (λ (o : Outcome (List ℕ)). both (Ok b.0) o) r.1),
    )
  where
    other : (y : List ℕ) → is_among y (map (λ (l : BoundLifetime). l.name.name) ls) ≡ true → (c : Bool) → bytes_eq y l.name.name ≡ c → c ≡ false
    other y e true g = sym e ∙ subst (λ (z : List ℕ). is_among z (map (λ (l : BoundLifetime). l.name.name) ls) ≡ false) (sym (is_name y l.name.name g)) d.0
    other y e false g = refl

-- ---- with bounds for a list of lifetimes

each_among : (xs : Names) (ls : List Ident) → ((x : List ℕ) → is_among x (idents ls) ≡ true → is_among x xs ≡ true) → Every (λ (l : Ident). is_among l.name xs ≡ true) ls
each_among xs [] f = tt
each_among xs (l ∷ ls) f = (f l.name (or_left (bytes_eq l.name l.name) (is_among l.name (idents ls)) (same_name l.name)), each_among xs ls (λ x e. f x (or_right (bytes_eq x l.name) (is_among x (idents ls)) e)))

each_short : (I : Inside) (s : Span) (p : Ident → Bool) (xs : Names) → ((x : List ℕ) → is_among x xs ≡ true → Meant I x) → (ls : List Ident) → Every (λ (l : Ident). is_among l.name xs ≡ true) ls
    → Every (λ (m : Ident). (k : ℕ) × (lifetime_in I m ≡ Ok k)) (map (λ (l : Ident). ident s l.name) (filter p ls))
each_short I s p xs f [] h = tt
each_short I s p xs f (l ∷ ls) h = by (p l) (each_short I s p xs f ls h.1)
  where
    by : (b : Bool) → Every (λ (m : Ident). (k : ℕ) × (lifetime_in I m ≡ Ok k)) (map (λ (l : Ident). ident s l.name) (filter p ls)) → Every (λ (m : Ident). (k : ℕ) × (lifetime_in I m ≡ Ok k)) (map (λ (l : Ident). ident s l.name) (if b then l ∷ filter p ls else filter p ls))
    by true rest = (f l.name h.0 s, rest)
    by false rest = rest

each_bounded : (I : Inside) (s : Span) (bs : Bounds) (all : List Ident) → ((x : List ℕ) → is_among x (idents all) ≡ true → Meant I x) → (ls : List Ident)
    → Every (λ (l : BoundLifetime). Every (λ (m : Ident). (k : ℕ) × (lifetime_in I m ≡ Ok k)) l.bounds) (map (λ (l : Ident). record { name = l; bounds = shorts_of s bs all l.name }) ls)
each_bounded I s bs all f [] = tt
each_bounded I s bs all f (l ∷ ls) = (each_short I s (λ (m : Ident). is_bound l.name m.name bs) (idents all) f all (each_among (idents all) all (λ x e. e)), each_bounded I s bs all f ls)

pub bounds_declare : (s : Span) (bs : Bounds) (all ls : List Ident) → map (λ (l : BoundLifetime). l.name) (map (λ (l : Ident). record { name = l; bounds = shorts_of s bs all l.name }) ls) ≡ ls
bounds_declare s bs all [] = refl
bounds_declare s bs all (l ∷ ls) = ap (λ (z : List Ident). l ∷ z) (bounds_declare s bs all ls)

pub bounded_resolve : (I : Inside) (s : Span) (bs : Bounds) (ls : List Ident) → I.lifetimes ≡ firsts [] 0 ls → Distinct (map (λ (l : BoundLifetime). l.name.name) (with_bounds s bs ls)) → (ns : List ℕ) × (lifetimes_of I [] 0 (with_bounds s bs ls) ≡ Ok ns)
bounded_resolve I s bs ls is d = lifetimes_resolve I [] 0 (with_bounds s bs ls) d (each_bounded I s bs ls (λ x e. declared_means I ls x is e) ls) (λ x e. refl)

-- ---- a row of lifetimes behind others

pub among_idents : (x : List ℕ) (ls ms : List Ident) → is_among x (idents (ls ++ ms)) ≡ (is_among x (idents ls) || is_among x (idents ms))
among_idents x [] ms = refl
among_idents x (l ∷ ls) ms = ap (λ (b : Bool). bytes_eq x l.name || b) (among_idents x ls ms) ∙ assoc (bytes_eq x l.name) (is_among x (idents ls)) (is_among x (idents ms))
  where
    assoc : (a b c : Bool) → (a || (b || c)) ≡ ((a || b) || c)
    assoc true b c = refl
    assoc false b c = refl

pub row_has : (s : Span) (row : ℕ → List ℕ) (n many i : ℕ) → n ≤ i → i < n + many → is_among (row i) (idents (lifetimes_from s row n many)) ≡ true
row_has s row n zero i l m = absurd (let bad : i < n + 0 = m in omega (arith, l, bad))
row_has s row n (suc many) i l m = by (nat_le i n) refl (λ lt. row_has s row (suc n) many i (omega (arith, lt)) (omega (arith, m)))
  where
    by : (b : Bool) → nat_le i n ≡ b → (n < i → is_among (row i) (idents (lifetimes_from s row (suc n) many)) ≡ true) → is_among (row i) (idents (lifetimes_from s row n (suc many))) ≡ true
    by true e rest =
        let le : i ≤ n = leb-true i n e in let same : i ≡ n = omega (arith, l, le) in
        or_left (bytes_eq (row i) (row n)) (is_among (row i) (idents (lifetimes_from s row (suc n) many))) (ap (λ k. bytes_eq (row i) (row k)) (sym same) ∙ same_name (row i))
    by false e rest =
        let lt : n < i = leb-false i n e in
        or_right (bytes_eq (row i) (row n)) (is_among (row i) (idents (lifetimes_from s row (suc n) many))) (rest lt)
