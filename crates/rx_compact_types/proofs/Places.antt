-- The numbers of the lifetimes that a function declares are their places in its list.
use Rattle.std.proofs.Common.{◌≡◌, ◌⊎◌, inl, inr, ℕ, suc, ◌+◌, ◌<◌, ◌^◌, Bool, true, false, List, [], ◌∷◌, ◌++◌, length, map, get_or, min, Option, Some, None, option_map, refl, sym, ap, subst, ◌∙◌, arith, if◌then◌else◌}
use Rattle.std.specs.Str.{bytes_eq}
use Rattle.rx_core.specs.declared.types.Span.{Span}
use Rattle.rx_tree.specs.declared.tree.Ident.{Ident}
use Rattle.rx_tree.specs.declared.tree.BoundLifetime.{BoundLifetime}
use Rattle.rx_tree.specs.Plain.{Function}
use Rattle.rx_resolve_names.specs.declared.table.NumberedName.{NumberedName}
use Rattle.rx_resolve_names.specs.Scopes.{DeclaredNames, declared_as}
use Rattle.rx_resolve_names.specs.Meant.{number, kept, firsts, number_in}
use Rattle.rx_hoist_extraction.specs.OwnLifetimes.{idents}
use Rattle.rx_compact_lifetimes.specs.Steps.{names}
use Rattle.rx_compact_laws.specs.Resolved.{declared}
use Rattle.rx_compact_laws.proofs.Declaring.{same_name}

-- what is found with one more was found before, or is that
last_or : (ds : DeclaredNames) (y x : List ℕ) (l k : NumberedName) → declared_as (ds ++ (y, l) ∷ []) x ≡ Some k → (declared_as ds x ≡ Some k) ⊎ ((bytes_eq x y ≡ true) × (l ≡ k))
last_or [] y x l k e = by (bytes_eq x y) refl e
  where
    by : (b : Bool) → bytes_eq x y ≡ b → (if b then Some l else None) ≡ Some k → (◌≡◌ {A = Option NumberedName} None (Some k)) ⊎ ((bytes_eq x y ≡ true) × (l ≡ k))
    by true h g = inr (h, let q : l ≡ k = cc in q)
    by false h g = absurd (cc)
last_or (d ∷ ds) y x l k e = by (bytes_eq x d.0) e (last_or ds y x l k)
  where
    by : (b : Bool) → (if b then Some d.1 else declared_as (ds ++ (y, l) ∷ []) x) ≡ Some k → (declared_as (ds ++ (y, l) ∷ []) x ≡ Some k → (declared_as ds x ≡ Some k) ⊎ ((bytes_eq x y ≡ true) × (l ≡ k)))
        → ((if b then Some d.1 else declared_as ds x) ≡ Some k) ⊎ ((bytes_eq x y ≡ true) × (l ≡ k))
    by true h again = inl h
    by false h again = again h

-- a name has the place of one of the list
abbrev At : ℕ → List Ident → List ℕ → ℕ → Type 0
At n ys x k = (j : ℕ) × (j < length ys) × (k ≡ number (n + j)) × (get_or (idents ys) j [] ≡ x)

firsts_at : (ys : List Ident) (ds : DeclaredNames) (n : ℕ) (x : List ℕ) (k : NumberedName) → declared_as (firsts ds n ys) x ≡ Some k → (declared_as ds x ≡ Some k) ⊎ At n ys x k.number
firsts_at [] ds n x k e = inl e
firsts_at (y ∷ ys) ds n x k e = elim (firsts_at ys (kept ds y n (declared_as ds y.name)) (suc n) x k e) [
  | inr r ↦ (let less = r.1 in inr (suc r.0, omega (arith, less), r.2 ∙ ap number (let at : suc n + r.0 ≡ n + suc r.0 = omega arith in at), r.3))
  | inl f ↦ by (declared_as ds y.name) f
]
  where
    by : (o : Option NumberedName) → declared_as (kept ds y n o) x ≡ Some k → (declared_as ds x ≡ Some k) ⊎ At n (y ∷ ys) x k.number
    by (Some l) h = inl h
    by None h = elim (last_or ds y.name x (record { number = number n; span = y.span }) k h) [
      | inl g ↦ inl g
      | inr g ↦ (let at : n ≡ n + 0 = omega arith in inr (0, omega arith, ap (λ (z : NumberedName). z.number) (sym g.1) ∙ ap number at, sym (same_name x y.name g.0)))
    ]

idents_are : (ls : List BoundLifetime) → idents (map (λ (l : BoundLifetime). l.name) ls) ≡ names ls
idents_are [] = refl
idents_are (l ∷ ls) = ap (λ ns. l.name.name ∷ ns) (idents_are ls)

as_many : (ls : List BoundLifetime) → length (map (λ (l : BoundLifetime). l.name) ls) ≡ length ls
as_many [] = refl
as_many (l ∷ ls) = ap suc (as_many ls)

pub small : (n : ℕ) → n < 2 ^ 32 → number n ≡ n
small n h = min_is n 4294967295 (omega (arith, h))
  where
    min_is : (a b : ℕ) → a < suc b → min a b ≡ a
    min_is a b h = omega (arith, h)

pub place : (s : Span) (f : Function) → length f.lifetimes < 2 ^ 32 → (x : List ℕ) (n : ℕ) → number_in (declared s f) x ≡ Some n → (n < length f.lifetimes) × (get_or (names f.lifetimes) n [] ≡ x)
place s f few x n e = by (declared_as (declared s f) x) refl e
  where
    ys : List Ident
    ys = map (λ (l : BoundLifetime). l.name) f.lifetimes

    at : (k : NumberedName) → k.number ≡ n → At 0 ys x k.number → (n < length f.lifetimes) × (get_or (names f.lifetimes) n [] ≡ x)
    at k g r =
        let less : r.0 < length f.lifetimes = subst (λ m. r.0 < m) (as_many f.lifetimes) r.1 in
        let z : 0 + r.0 ≡ r.0 = omega arith in
        let i : n ≡ r.0 = sym g ∙ (r.2 ∙ (ap number z ∙ small r.0 (omega (arith, less, few)))) in
        (subst (λ m. m < length f.lifetimes) (sym i) less, ap (λ m. get_or (names f.lifetimes) m []) i ∙ (sym (ap (λ ns. get_or ns r.0 []) (idents_are f.lifetimes)) ∙ r.3))

    by : (o : Option NumberedName) → declared_as (declared s f) x ≡ o → option_map (λ (k : NumberedName). k.number) o ≡ Some n → (n < length f.lifetimes) × (get_or (names f.lifetimes) n [] ≡ x)
    by None h g = absurd (cc)
    by (Some k) h g = elim (firsts_at ys [] 0 x k h) [
      | inl q ↦ absurd (cc)
      | inr r ↦ at k (let q : k.number ≡ n = cc in q) r
    ]
