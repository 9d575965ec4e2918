-- Lists of lifetimes that a function declares: a name is found exactly where it is among them, and a list has a meaning exactly where no
-- two have one name and each bound is found.
use Rattle.std.proofs.Common.{◌≡◌, ◌⊎◌, inl, inr, ℕ, suc, Bool, true, false, List, [], ◌∷◌, ◌++◌, map, Option, Some, None, option_map, Ok, refl, sym, ap, subst, ◌∙◌}
use Rattle.std.specs.Prelude.{if◌then◌else◌}
use Rattle.std.specs.Str.{bytes_eq}
use Rattle.std.proofs.lemmas.Bool.{or_left, or_right, or_cases, false≢true}
use Rattle.std.proofs.lemmas.Slice.Eq.{bytes_eq-Decides}
use Rattle.rx_core.specs.declared.types.Span.{Span}
use Rattle.rx_tree.specs.declared.tree.Ident.{Ident}
use Rattle.rx_tree.specs.declared.tree.BoundLifetime.{BoundLifetime}
use Rattle.rx_tree.specs.Plain.{Function}
use Rattle.rx_resolve_names.specs.declared.table.NumberedName.{NumberedName}
use Rattle.rx_resolve_names.specs.Scopes.{DeclaredNames, declared_as}
use Rattle.rx_resolve_names.specs.Meant.{number, kept, firsts, number_in}
use Rattle.rx_resolve_names.specs.Steps.{and_then, Inside, known, one, both, declare, declared_behind}
use Rattle.rx_resolve_names.specs.Names.{lifetime_in}
use Rattle.rx_resolve_names.specs.Items.{bounds_in, lifetimes_of}
use Rattle.rx_hoist_extraction.specs.Names.{Names, is_among, Distinct}
use Rattle.rx_hoist_extraction.specs.OwnLifetimes.{idents}
use Rattle.rx_hoist_made.proofs.Among.{among_both}
use Rattle.rx_compact_lifetimes.specs.Steps.{names}
use Rattle.rx_compact_laws.specs.Resolved.{declared}
use Rattle.rx_compact_laws.proofs.Resolving.{read_ok, ok_is}

pub same_name : (x y : List ℕ) → bytes_eq x y ≡ true → x ≡ y
same_name x y e = (bytes_eq-Decides x y).0 e

pub itself : (x : List ℕ) → bytes_eq x x ≡ true
itself x = (bytes_eq-Decides x x).1 refl

-- ---- lists of names

abbrev Found : DeclaredNames → List ℕ → Type 0
Found ds x = (k : NumberedName) × (declared_as ds x ≡ Some k)

in_front : (ds es : DeclaredNames) (x : List ℕ) (k : NumberedName) → declared_as ds x ≡ Some k → declared_as (ds ++ es) x ≡ Some k
in_front [] es x k e = absurd (cc)
in_front (d ∷ ds) es x k e = by (bytes_eq x d.0) e (in_front ds es x k)
  where
    by : (b : Bool) → (if b then Some d.1 else declared_as ds x) ≡ Some k → (declared_as ds x ≡ Some k → declared_as (ds ++ es) x ≡ Some k)
        → (if b then Some d.1 else declared_as (ds ++ es) x) ≡ Some k
    by true h again = h
    by false h again = again h

at_end : (ds : DeclaredNames) (x : List ℕ) (k : NumberedName) → declared_as ds x ≡ None → declared_as (ds ++ (x, k) ∷ []) x ≡ Some k
at_end [] x k e = ap (λ b. if b then Some k else None) (itself x)
at_end (d ∷ ds) x k e = by (bytes_eq x d.0) e (at_end ds x k)
  where
    by : (b : Bool) → (if b then Some d.1 else declared_as ds x) ≡ None → (declared_as ds x ≡ None → declared_as (ds ++ (x, k) ∷ []) x ≡ Some k)
        → (if b then Some d.1 else declared_as (ds ++ (x, k) ∷ []) x) ≡ Some k
    by true h again = absurd (cc)
    by false h again = again h

-- what is found with one more was found before, or is that
one_more : (ds : DeclaredNames) (y x : List ℕ) (l k : NumberedName) → declared_as (ds ++ (y, l) ∷ []) x ≡ Some k → Found ds x ⊎ (bytes_eq x y ≡ true)
one_more [] y x l k e = by (bytes_eq x y) refl e
  where
    by : (b : Bool) → bytes_eq x y ≡ b → (if b then Some l else None) ≡ Some k → Found [] x ⊎ (bytes_eq x y ≡ true)
    by true h g = inr h
    by false h g = absurd (cc)
one_more (d ∷ ds) y x l k e = by (bytes_eq x d.0) e (one_more ds y x l k)
  where
    by : (b : Bool) → (if b then Some d.1 else declared_as (ds ++ (y, l) ∷ []) x) ≡ Some k → (declared_as (ds ++ (y, l) ∷ []) x ≡ Some k → Found ds x ⊎ (bytes_eq x y ≡ true))
        → ((j : NumberedName) × ((if b then Some d.1 else declared_as ds x) ≡ Some j)) ⊎ (bytes_eq x y ≡ true)
    by true h again = inl (d.1, refl)
    by false h again = again h

-- what isn't found with one more wasn't before, and isn't that
none_more : (ds : DeclaredNames) (y x : List ℕ) (l : NumberedName) → declared_as (ds ++ (y, l) ∷ []) x ≡ None → (declared_as ds x ≡ None) × (bytes_eq x y ≡ false)
none_more [] y x l e = by (bytes_eq x y) refl e
  where
    by : (b : Bool) → bytes_eq x y ≡ b → (if b then Some l else None) ≡ None → (◌≡◌ {A = Option NumberedName} None None) × (bytes_eq x y ≡ false)
    by true h g = absurd (cc)
    by false h g = (refl, h)
none_more (d ∷ ds) y x l e = by (bytes_eq x d.0) e (none_more ds y x l)
  where
    by : (b : Bool) → (if b then Some d.1 else declared_as (ds ++ (y, l) ∷ []) x) ≡ None → (declared_as (ds ++ (y, l) ∷ []) x ≡ None → (declared_as ds x ≡ None) × (bytes_eq x y ≡ false))
        → ((if b then Some d.1 else declared_as ds x) ≡ None) × (bytes_eq x y ≡ false)
    by true h again = absurd (cc)
    by false h again = again h

-- and neither before nor that, so with one more
still_none : (ds : DeclaredNames) (y x : List ℕ) (l : NumberedName) → declared_as ds x ≡ None → bytes_eq x y ≡ false → declared_as (ds ++ (y, l) ∷ []) x ≡ None
still_none [] y x l e g = ap (λ b. if b then Some l else None) g
still_none (d ∷ ds) y x l e g = by (bytes_eq x d.0) e (λ h. still_none ds y x l h g)
  where
    by : (b : Bool) → (if b then Some d.1 else declared_as ds x) ≡ None → (declared_as ds x ≡ None → declared_as (ds ++ (y, l) ∷ []) x ≡ None)
        → (if b then Some d.1 else declared_as (ds ++ (y, l) ∷ []) x) ≡ None
    by true h again = absurd (cc)
    by false h again = again h

-- ---- the first of each name

kept_found : (ds : DeclaredNames) (y : Ident) (n : ℕ) (o : Option NumberedName) (x : List ℕ) → Found ds x → Found (kept ds y n o) x
kept_found ds y n None x f = (f.0, in_front ds ((y.name, record { number = number n; span = y.span }) ∷ []) x f.0 f.1)
kept_found ds y n (Some l) x f = f

firsts_found : (ys : List Ident) (ds : DeclaredNames) (n : ℕ) (x : List ℕ) → Found ds x → Found (firsts ds n ys) x
firsts_found [] ds n x f = f
firsts_found (y ∷ ys) ds n x f = firsts_found ys (kept ds y n (declared_as ds y.name)) (suc n) x (kept_found ds y n (declared_as ds y.name) x f)

this_found : (ds : DeclaredNames) (y : Ident) (n : ℕ) → Found (kept ds y n (declared_as ds y.name)) y.name
this_found ds y n = by (declared_as ds y.name) refl
  where
    by : (o : Option NumberedName) → declared_as ds y.name ≡ o → Found (kept ds y n o) y.name
    by (Some l) h = (l, h)
    by None h = (record { number = number n; span = y.span }, at_end ds y.name (record { number = number n; span = y.span }) h)

among_found : (ys : List Ident) (ds : DeclaredNames) (n : ℕ) (x : List ℕ) → is_among x (idents ys) ≡ true → Found (firsts ds n ys) x
among_found [] ds n x e = absurd (false≢true e)
among_found (y ∷ ys) ds n x e = elim (or_cases (bytes_eq x y.name) (is_among x (idents ys)) e) [
  | inl h ↦ firsts_found ys (kept ds y n (declared_as ds y.name)) (suc n) x
      (subst (λ z. Found (kept ds y n (declared_as ds y.name)) z) (sym (same_name x y.name h)) (this_found ds y n))
  | inr h ↦ among_found ys (kept ds y n (declared_as ds y.name)) (suc n) x h
]

kept_among : (ds : DeclaredNames) (y : Ident) (n : ℕ) (o : Option NumberedName) (x : List ℕ) → Found (kept ds y n o) x → Found ds x ⊎ (bytes_eq x y.name ≡ true)
kept_among ds y n None x f = one_more ds y.name x (record { number = number n; span = y.span }) f.0 f.1
kept_among ds y n (Some l) x f = inl f

found_among : (ys : List Ident) (ds : DeclaredNames) (n : ℕ) (x : List ℕ) → Found (firsts ds n ys) x → Found ds x ⊎ (is_among x (idents ys) ≡ true)
found_among [] ds n x f = inl f
found_among (y ∷ ys) ds n x f = elim (found_among ys (kept ds y n (declared_as ds y.name)) (suc n) x f) [
  | inr h ↦ inr (or_right (bytes_eq x y.name) (is_among x (idents ys)) h)
  | inl g ↦ elim (kept_among ds y n (declared_as ds y.name) x g) [
    | inl k ↦ inl k
    | inr h ↦ inr (or_left (bytes_eq x y.name) (is_among x (idents ys)) h)
  ]
]

-- ---- the lifetimes of a function

idents_are : (ls : List BoundLifetime) → idents (map (λ (l : BoundLifetime). l.name) ls) ≡ names ls
idents_are [] = refl
idents_are (l ∷ ls) = ap (λ ns. l.name.name ∷ ns) (idents_are ls)

pub declared_means : (s : Span) (f : Function) (x : List ℕ) → is_among x (names f.lifetimes) ≡ true → (m : ℕ) × (number_in (declared s f) x ≡ Some m)
declared_means s f x e =
    let r = among_found (map (λ (l : BoundLifetime). l.name) f.lifetimes) [] 0 x (ap (is_among x) (idents_are f.lifetimes) ∙ e) in
    (r.0.number, ap (λ o. option_map (λ (k : NumberedName). k.number) o) r.1)

number_found : (ds : DeclaredNames) (x : List ℕ) (n : ℕ) → number_in ds x ≡ Some n → Found ds x
number_found ds x n e = by (declared_as ds x) refl e
  where
    by : (o : Option NumberedName) → declared_as ds x ≡ o → option_map (λ (k : NumberedName). k.number) o ≡ Some n → Found ds x
    by None h g = absurd (cc)
    by (Some k) h g = (k, h)

pub meant_declared : (s : Span) (f : Function) (x : List ℕ) (n : ℕ) → number_in (declared s f) x ≡ Some n → is_among x (names f.lifetimes) ≡ true
meant_declared s f x n e =
    let ys : List Ident = map (λ (l : BoundLifetime). l.name) f.lifetimes in
    elim (found_among ys [] 0 x (number_found (firsts [] 0 ys) x n e)) [
      | inl g ↦ by g
      | inr h ↦ sym (ap (is_among x) (idents_are f.lifetimes)) ∙ h
    ]
  where
    by : Found [] x → is_among x (names f.lifetimes) ≡ true
    by g = absurd (let e : ◌≡◌ {A = Option NumberedName} None (Some g.0) = g.1 in cc)

-- ---- lists with their bounds

abbrev pub all_bounds : List BoundLifetime → Names
all_bounds [] = []
all_bounds (l ∷ ls) = idents l.bounds ++ all_bounds ls

abbrev MeantIn : Inside → List ℕ → Type 0
MeantIn I x = (m : ℕ) × (number_in I.lifetimes x ≡ Some m)

bounds_meant : (I : Inside) (bs : List Ident) → ((x : List ℕ) → is_among x (idents bs) ≡ true → MeantIn I x) → (ns : List ℕ) × (bounds_in I bs ≡ Ok ns)
bounds_meant I [] h = ([], refl)
bounds_meant I (b ∷ bs) h =
    let m = h b.name (or_left (bytes_eq b.name b.name) (is_among b.name (idents bs)) (itself b.name)) in
    let r = bounds_meant I bs (λ x e. h x (or_right (bytes_eq x b.name) (is_among x (idents bs)) e)) in
    (m.0 ∷ r.0, ap (λ o. both (one (known o b.span)) (bounds_in I bs)) m.1 ∙ ap (both (Ok (m.0 ∷ []))) r.1)

declare_none : (ds : DeclaredNames) (x : Ident) (n : ℕ) → declared_as ds x.name ≡ None → declare ds x n ≡ Ok (ds ++ (x.name, record { number = number n; span = x.span }) ∷ [])
declare_none ds x n e = ap (declared_behind ds x n) e

-- where no two have one name, and each bound is found, a list has a meaning
pub list_meant : (I : Inside) (ls : List BoundLifetime) (ds : DeclaredNames) (n : ℕ) → ((x : List ℕ) → is_among x (names ls) ≡ true → declared_as ds x ≡ None)
    → Distinct (names ls) → ((x : List ℕ) → is_among x (all_bounds ls) ≡ true → MeantIn I x) → (ns : List ℕ) × (lifetimes_of I ds n ls ≡ Ok ns)
list_meant I [] ds n new once h = ([], refl)
list_meant I (l ∷ ls) ds n new once h =
    let k : NumberedName = record { number = number n; span = l.name.span } in
    let es : DeclaredNames = ds ++ (l.name.name, k) ∷ [] in
    let a = declare_none ds l.name n (new l.name.name (or_left (bytes_eq l.name.name l.name.name) (is_among l.name.name (names ls)) (itself l.name.name))) in
    let b = bounds_meant I l.bounds (λ x e. h x (among_both x (idents l.bounds) (all_bounds ls) ∙ or_left (is_among x (idents l.bounds)) (is_among x (all_bounds ls)) e)) in
    let c = list_meant I ls es (suc n)
    (λ x e. still_none ds l.name.name x k (new x (or_right (bytes_eq x l.name.name) (is_among x (names ls)) e)) (other l.name.name ls once.0 x e))
    once.1 (λ x e. h x (among_both x (idents l.bounds) (all_bounds ls) ∙ or_right (is_among x (idents l.bounds)) (is_among x (all_bounds ls)) e)) in (
      b.0 ++ c.0,
      ap (λ o. and_then o (λ ds. both (bounds_in I l.bounds) (lifetimes_of I ds (suc n) ls))) a
          ∙ (ap (λ o. both o (lifetimes_of I es (suc n) ls)) b.1 ∙ ap (both (Ok b.0)) c.1),
    )
  where
    other : (y : List ℕ) (ls : List BoundLifetime) → is_among y (names ls) ≡ false → (x : List ℕ) → is_among x (names ls) ≡ true → bytes_eq x y ≡ false
    other y ls none x e = by (bytes_eq x y) refl
      where
        by : (b : Bool) → bytes_eq x y ≡ b → b ≡ false
        by false g = refl
        by true g = absurd (false≢true (sym none ∙ (ap (λ z. is_among z (names ls)) (sym (same_name x y g)) ∙ e)))

declared_new : (ds es : DeclaredNames) (x : Ident) (n : ℕ) → declare ds x n ≡ Ok es → (declared_as ds x.name ≡ None) × (es ≡ ds ++ (x.name, record { number = number n; span = x.span }) ∷ [])
declared_new ds es x n e = by (declared_as ds x.name) refl e
  where
    by : (o : Option NumberedName) → declared_as ds x.name ≡ o → declared_behind ds x n o ≡ Ok es → (declared_as ds x.name ≡ None) × (es ≡ ds ++ (x.name, record { number = number n; span = x.span }) ∷ [])
    by None h g = (h, sym (ok_is (ds ++ (x.name, record { number = number n; span = x.span }) ∷ []) es g))
    by (Some k) h g = absurd (cc)

bounds_known : (I : Inside) (bs : List Ident) (ns : List ℕ) → bounds_in I bs ≡ Ok ns → (x : List ℕ) → is_among x (idents bs) ≡ true → MeantIn I x
bounds_known I [] ns e x h = absurd (false≢true h)
bounds_known I (b ∷ bs) ns e x h =
    let a = read_ok (one (lifetime_in I b)) (λ ks. and_then (bounds_in I bs) (λ ms. Ok (ks ++ ms))) ns e in
    let c = read_ok (lifetime_in I b) (λ n. Ok (n ∷ [])) a.0 a.1 in
    let d = read_ok (bounds_in I bs) (λ ms. Ok (a.0 ++ ms)) ns a.2 in
    elim (or_cases (bytes_eq x b.name) (is_among x (idents bs)) h) [
      | inl g ↦ subst (λ y. MeantIn I y) (sym (same_name x b.name g)) (meant (number_in I.lifetimes b.name) refl c.0 c.1)
      | inr g ↦ bounds_known I bs d.0 d.1 x g
    ]
  where
    meant : (o : Option ℕ) → number_in I.lifetimes b.name ≡ o → (n : ℕ) → known o b.span ≡ Ok n → MeantIn I b.name
    meant None k n g = absurd (cc)
    meant (Some m) k n g = (m, k)

-- what a list with a meaning keeps
pub record Listed (I : Inside) (ds : DeclaredNames) (ls : List BoundLifetime) : Type 0 where
  pub new : (x : List ℕ) → is_among x (names ls) ≡ true → declared_as ds x ≡ None
  pub once : Distinct (names ls)
  pub bounded : (x : List ℕ) → is_among x (all_bounds ls) ≡ true → MeantIn I x

pub listed : (I : Inside) (ls : List BoundLifetime) (ds : DeclaredNames) (n : ℕ) (ns : List ℕ) → lifetimes_of I ds n ls ≡ Ok ns → Listed I ds ls
listed I [] ds n ns e = record { new = λ x h. absurd (false≢true h); once = tt; bounded = λ x h. absurd (false≢true h) }
listed I (l ∷ ls) ds n ns e =
    let a = read_ok (declare ds l.name n) (λ ds. both (bounds_in I l.bounds) (lifetimes_of I ds (suc n) ls)) ns e in
    let b = read_ok (bounds_in I l.bounds) (λ ks. and_then (lifetimes_of I a.0 (suc n) ls) (λ ms. Ok (ks ++ ms))) ns a.2 in
    let c = read_ok (lifetimes_of I a.0 (suc n) ls) (λ ms. Ok (b.0 ++ ms)) ns b.2 in
    let d = declared_new ds a.0 l.name n a.1 in
    whole d.0 (λ x h. none_more ds l.name.name x (record { number = number n; span = l.name.span }) (subst (λ es. declared_as es x ≡ None) d.1 ((listed I ls a.0 (suc n) c.0 c.1).new x h)))
    (listed I ls a.0 (suc n) c.0 c.1).once (listed I ls a.0 (suc n) c.0 c.1).bounded (bounds_known I l.bounds b.0 b.1)
  where
    whole : declared_as ds l.name.name ≡ None → ((x : List ℕ) → is_among x (names ls) ≡ true → (declared_as ds x ≡ None) × (bytes_eq x l.name.name ≡ false))
        → Distinct (names ls) → ((x : List ℕ) → is_among x (all_bounds ls) ≡ true → MeantIn I x) → ((x : List ℕ) → is_among x (idents l.bounds) ≡ true → MeantIn I x) → Listed I ds (l ∷ ls)
    whole first behind once bounded own = record {
      new = λ x h. elim (or_cases (bytes_eq x l.name.name) (is_among x (names ls)) h) [
        | inl g ↦ ap (declared_as ds) (same_name x l.name.name g) ∙ first
        | inr g ↦ (behind x g).0
      ];
      once = (apart (is_among l.name.name (names ls)) refl, once);
      bounded = λ x h. elim (or_cases (is_among x (idents l.bounds)) (is_among x (all_bounds ls)) (sym (among_both x (idents l.bounds) (all_bounds ls)) ∙ h)) [
        | inl g ↦ own x g
        | inr g ↦ bounded x g
      ];
    }
      where
        apart : (b : Bool) → is_among l.name.name (names ls) ≡ b → b ≡ false
        apart false g = refl
        apart true g = absurd (false≢true (sym (behind l.name.name g).1 ∙ itself l.name.name))
