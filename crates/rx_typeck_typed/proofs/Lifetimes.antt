-- The lifetimes of a type in a signature are below the number of the next one, and as many as were written or are declared.
use Rattle.std.proofs.Common.{◌≡◌, ℕ, suc, ◌≤◌, Bool, true, false, ◌&&◌, nat_lt, List, [], ◌∷◌, ◌++◌, length, Option, Some, None, Ok, Err, refl, ap, subst, ◌∙◌, arith, lt-ltb}
use Rattle.rx_core.specs.declared.types.Span.{Span}
use Rattle.rx_tree.specs.declared.tree.Ident.{Ident}
use Rattle.rx_resolve_names.specs.Meant.{number_in}
use Rattle.rx_resolve_names.specs.Steps as names
use Rattle.rx_resolve_names.specs.Steps.{Inside}
use Rattle.rx_resolve_names.specs.Names.{lifetime_in, lifetimes_in, written}
use Rattle.rx_typed_declarations.specs.WellFormed.{all_below}
use Rattle.rx_typeck_typed.specs.Steps as steps
use Rattle.rx_typeck_typed.specs.Steps.{Reading, on_ok, occurs, another}
use Rattle.rx_typeck_typed.specs.Written.{elided, all_elided, listed, as_many, lifetimes_at}

-- ---- what went well began well

pub read_ok : {A B : Type 0} (m : steps.Outcome A) (f : A → steps.Outcome B) (b : B) → on_ok m f ≡ Ok b → (a : A) × (m ≡ Ok a) × (f a ≡ Ok b)
read_ok (Ok a) f b e = (a, refl, e)
read_ok (Err x) f b e = absurd (cc)

pub both_true : (a b : Bool) → a ≡ true → b ≡ true → (a && b) ≡ true
both_true true b p q = q
both_true false b p q = absurd (cc)

pub known_ok : (o : Option ℕ) (s : Span) (k : ℕ) → names.known o s ≡ Ok k → o ≡ Some k
known_ok None s k e = absurd (cc)
known_ok (Some n) s k e = cc

pub both_ok : (a : names.Outcome ℕ) (b : names.Outcome (List ℕ)) (ks : List ℕ) → names.both (names.one a) b ≡ Ok ks
    → (k : ℕ) × (ms : List ℕ) × (a ≡ Ok k) × (b ≡ Ok ms) × (k ∷ ms ≡ ks)
both_ok (Ok k) (Ok ms) ks e = (k, ms, refl, refl, cc)
both_ok (Ok k) (Err f) ks e = absurd (cc)
both_ok (Err f) b ks e = absurd (cc)

-- ---- lists of lifetimes below a number

pub below_behind : (m : ℕ) (ls : List ℕ) (l : ℕ) → all_below m ls ≡ true → nat_lt l m ≡ true → all_below m (ls ++ l ∷ []) ≡ true
below_behind m [] l h k = both_true _ _ k refl
below_behind m (n ∷ ls) l h k = more (nat_lt n m) (λ a. below_behind m ls l a k) h
  where
    more : (b : Bool) → (all_below m ls ≡ true → all_below m (ls ++ l ∷ []) ≡ true) → (b && all_below m ls) ≡ true → (b && all_below m (ls ++ l ∷ [])) ≡ true
    more true later a = later a
    more false later a = absurd (cc)

-- ---- a step that takes no entries

-- where new lifetimes may be left out, those below the next number are below m if that is no greater; else nothing is wanted
abbrev pub Leaves : Bool → ℕ → ℕ → Type 0
Leaves true m k = k ≤ m
Leaves false m k = Unit {0}

pub leaves_less : (u : Bool) (m k j : ℕ) → k ≤ j → Leaves u m j → Leaves u m k
leaves_less true m k j h l = omega (arith, h, l)
leaves_less false m k j h l = tt

pub record Lives (u : Bool) (m : ℕ) (r s : Reading) (Fit : Type 0) : Type 0 where
  pub same : s.names ≡ r.names
  pub grows : r.next ≤ s.next
  pub fit : Leaves u m s.next → Fit
  pub below : Leaves u m s.next → all_below m r.lifetimes ≡ true → all_below m s.lifetimes ≡ true

-- the next one, and then others
lives_then : (u : Bool) (m : ℕ) (r s t : Reading) (A B C : Type 0) → Lives u m r s A → Lives u m s t B → (A → B → C) → Lives u m r t C
lives_then u m r s t A B C a b f = record {
  same = b.same ∙ a.same;
  grows = let p = a.grows in let q = b.grows in omega (arith, p, q);
  fit = λ l. f (a.fit (leaves_less u m s.next t.next b.grows l)) (b.fit l);
  below = λ l h. b.below l (a.below (leaves_less u m s.next t.next b.grows l) h);
}

pub occurs_lives : (u : Bool) (m l : ℕ) (r : Reading) (q : ℕ × Reading) → (Leaves u m r.next → nat_lt l m ≡ true) → occurs l r ≡ Ok q → Lives u m r q.1 (nat_lt q.0 m ≡ true)
occurs_lives u m l r q h o =
    let s : (l, record r { lifetimes = r.lifetimes ++ l ∷ [] }) ≡ q = cc in
    subst (λ (x : ℕ × Reading). Lives u m r x.1 (nat_lt x.0 m ≡ true)) s
    (record { same = refl; grows = omega arith; fit = h; below = λ k b. below_behind m r.lifetimes l b (h k) })

-- a lifetime of its own
pub another_lives : (m : ℕ) (r : Reading) (q : ℕ × Reading) → another r ≡ Ok q → Lives true m r q.1 (nat_lt q.0 m ≡ true)
another_lives m r q o =
    let x : (r.next, record { names = r.names; lifetimes = r.lifetimes ++ r.next ∷ []; next = suc r.next }) ≡ q = cc in
    subst (λ (x : ℕ × Reading). Lives true m r x.1 (nat_lt x.0 m ≡ true)) x
    (record { same = refl; grows = omega arith; fit = λ l. lt-ltb r.next m (omega (arith, l)); below = λ l b. below_behind m r.lifetimes r.next b (lt-ltb r.next m (omega (arith, l))) })

-- where a type stands: what `elided` reads
abbrev domain : {R S : Type 0} → (R → S) → Type 0
domain {R} {S} f = R

abbrev pub Role : Type 0
Role = domain elided

-- what a lifetime is there that is left out
abbrev pub Elides : Role → Bool → ℕ → Type 0
Elides e u m = (s : Span) (r : Reading) (q : ℕ × Reading) → elided e s r ≡ Ok q → Lives u m r q.1 (nat_lt q.0 m ≡ true)

-- ---- lists of lifetimes

-- so many, each below m
pub record Counts (m : ℕ) (n : ℕ) (ls : List ℕ) : Type 0 where
  pub as_many : length ls ≡ n
  pub below : all_below m ls ≡ true

none_lives : (u : Bool) (m : ℕ) (r : Reading) (q : List ℕ × Reading) → ◌≡◌ {A = steps.Outcome (List ℕ × Reading)} (Ok ([], r)) (Ok q) → Lives u m r q.1 (Counts m 0 q.0)
none_lives u m r q o =
    let s : ([], r) ≡ q = cc in
    subst (λ (x : List ℕ × Reading). Lives u m r x.1 (Counts m 0 x.0)) s (record { same = refl; grows = omega arith; fit = λ l. record { as_many = refl; below = refl }; below = λ l b. b })

next_lives : (u : Bool) (m n : ℕ) (r : Reading) (a : ℕ × Reading) (b q : List ℕ × Reading) → Lives u m r a.1 (nat_lt a.0 m ≡ true) → Lives u m a.1 b.1 (Counts m n b.0)
    → ◌≡◌ {A = steps.Outcome (List ℕ × Reading)} (Ok (a.0 ∷ b.0, b.1)) (Ok q) → Lives u m r q.1 (Counts m (suc n) q.0)
next_lives u m n r a b q x y o =
    let s : (a.0 ∷ b.0, b.1) ≡ q = cc in
    subst (λ (x : List ℕ × Reading). Lives u m r x.1 (Counts m (suc n) x.0)) s
    (lives_then u m r a.1 b.1 _ _ _ x y (λ p c. record { as_many = ap suc c.as_many; below = both_true _ _ p c.below }))

elided_count : (e : Role) (u : Bool) (m : ℕ) → Elides e u m → (s : Span) (ds : List Ident) (r : Reading) (q : List ℕ × Reading) → all_elided e s ds r ≡ Ok q → Lives u m r q.1 (Counts m (length ds) q.0)
elided_count e u m w s [] r q o = none_lives u m r q o
elided_count e u m w s (d ∷ ds) r q o =
    let a = read_ok (elided e s r) (λ p. on_ok (all_elided e s ds p.1) (λ x. Ok (p.0 ∷ x.0, x.1))) q o in
    let b = read_ok (all_elided e s ds a.0.1) (λ x. Ok (a.0.0 ∷ x.0, x.1)) q a.2 in
    next_lives u m (length ds) r a.0 b.0 q (w s r a.0 a.1) (elided_count e u m w s ds a.0.1 b.0 b.1) b.2

-- the numbers of an item's lifetimes are below m
abbrev pub LifetimesBelow : Inside → ℕ → Type 0
LifetimesBelow I m = (x : List ℕ) (k : ℕ) → number_in I.lifetimes x ≡ Some k → nat_lt k m ≡ true

listed_count : (I : Inside) (e : Role) (u : Bool) (m : ℕ) → Elides e u m → LifetimesBelow I m → (s : Span) (ls : List (Option Ident)) (ks : List ℕ) → lifetimes_in I ls ≡ Ok ks
    → (r : Reading) (q : List ℕ × Reading) → listed e s ls ks r ≡ Ok q → Lives u m r q.1 (Counts m (length ls) q.0)
listed_count I e u m w v s [] ks i r q o = none_lives u m r q o
listed_count I e u m w v s (None ∷ ls) ks i r q o =
    let a = read_ok (elided e s r) (λ p. on_ok (listed e s ls ks p.1) (λ x. Ok (p.0 ∷ x.0, x.1))) q o in
    let b = read_ok (listed e s ls ks a.0.1) (λ x. Ok (a.0.0 ∷ x.0, x.1)) q a.2 in
    next_lives u m (length ls) r a.0 b.0 q (w s r a.0 a.1) (listed_count I e u m w v s ls ks i a.0.1 b.0 b.1) b.2
listed_count I e u m w v s (Some l ∷ ls) ks i r q o =
    let x = both_ok (lifetime_in I l) (lifetimes_in I ls) ks i in
    subst (λ ks. listed e s (Some l ∷ ls) ks r ≡ Ok q → Lives u m r q.1 (Counts m (suc (length ls)) q.0)) x.4 (λ o.
    let a = read_ok (occurs x.0 r) (λ p. on_ok (listed e s ls x.1 p.1) (λ y. Ok (p.0 ∷ y.0, y.1))) q o in
    let b = read_ok (listed e s ls x.1 a.0.1) (λ y. Ok (a.0.0 ∷ y.0, y.1)) q a.2 in
    next_lives u m (length ls) r a.0 b.0 q (occurs_lives u m x.0 r a.0 (λ h. v l.name x.0 (known_ok _ l.span x.0 x.2)) a.1) (listed_count I e u m w v s ls x.1 x.3 a.0.1 b.0 b.1) b.2)
    o

-- how many lifetimes a type has that names an item: so many are written, or else all that are declared
abbrev pub how_many : List Ident → Option (List (Option Ident)) → ℕ
how_many ds None = length ds
how_many ds (Some ls) = length ls

pub lifetimes_count : (I : Inside) (e : Role) (u : Bool) (m : ℕ) → Elides e u m → LifetimesBelow I m → (s : Span) (ds : List Ident) (ls : Option (List (Option Ident))) (ks : List ℕ) → lifetimes_in I (written ls) ≡ Ok ks
    → (r : Reading) (q : List ℕ × Reading) → lifetimes_at e s ds ls ks r ≡ Ok q → Lives u m r q.1 (Counts m (how_many ds ls) q.0)
lifetimes_count I e u m w v s ds None ks i r q o = elided_count e u m w s ds r q o
lifetimes_count I e u m w v s ds (Some ls) ks i r q o =
    let a = read_ok (as_many e s ds ls) (λ _. listed e s ls ks r) q o in
    listed_count I e u m w v s ls ks i r q a.2
