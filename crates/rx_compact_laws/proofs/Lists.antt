-- Lists of lifetimes with their bounds: which names stand in them where some lifetimes are kept, where they are renamed, and where those of
-- one name are one.
use Rattle.std.proofs.Common.{◌≡◌, ◌⊎◌, inl, inr, ℕ, Bool, true, false, not, List, [], ◌∷◌, ◌++◌, map, Option, Some, None, refl, sym, ap, ◌∙◌}
use Rattle.std.specs.Prelude.{if◌then◌else◌, filter}
use Rattle.std.specs.Str.{bytes_eq}
use Rattle.std.proofs.lemmas.Bool.{or_left, or_right, or_cases, or_parts, false≢true, true≢false, false_from_ne_true}
use Rattle.rx_tree.specs.declared.tree.Ident.{Ident}
use Rattle.rx_tree.specs.declared.tree.BoundLifetime.{BoundLifetime}
use Rattle.rx_typed.specs.Naming.{is_nothing, has_bounds}
use Rattle.rx_hoist_extraction.specs.Names.{Names, is_among, Distinct}
use Rattle.rx_hoist_extraction.specs.NewFunction.{firsts_of}
use Rattle.rx_hoist_extraction.specs.OwnLifetimes.{idents}
use Rattle.rx_hoist_made.proofs.Among.{among_both}
use Rattle.rx_compact_lifetimes.specs.declared.rewriting.Rewriting.{Rewriting}
use Rattle.rx_compact_lifetimes.specs.Rewritten.{becomes, ident_or, renamed_ident, renamed_bound}
use Rattle.rx_compact_lifetimes.specs.Merged.{bounds_for, joined_lifetime, joined}
use Rattle.rx_compact_lifetimes.specs.Elided.{bounding, in_bounds}
use Rattle.rx_compact_lifetimes.specs.Steps.{names}
use Rattle.rx_compact_laws.proofs.Declaring.{same_name, itself, all_bounds}

pub first_among : (x y : List ℕ) (ys : Names) → bytes_eq x y ≡ true → is_among x (y ∷ ys) ≡ true
first_among x y ys e = or_left (bytes_eq x y) (is_among x ys) e

pub among_more : (x y : List ℕ) (ys : Names) → is_among x ys ≡ true → is_among x (y ∷ ys) ≡ true
among_more x y ys e = or_right (bytes_eq x y) (is_among x ys) e

pub among_front : (x : List ℕ) (ys zs : Names) → is_among x ys ≡ true → is_among x (ys ++ zs) ≡ true
among_front x ys zs e = among_both x ys zs ∙ or_left (is_among x ys) (is_among x zs) e

pub among_behind : (x : List ℕ) (ys zs : Names) → is_among x zs ≡ true → is_among x (ys ++ zs) ≡ true
among_behind x ys zs e = among_both x ys zs ∙ or_right (is_among x ys) (is_among x zs) e

pub among_either : (x : List ℕ) (ys zs : Names) → is_among x (ys ++ zs) ≡ true → (is_among x ys ≡ true) ⊎ (is_among x zs ≡ true)
among_either x ys zs e = or_cases (is_among x ys) (is_among x zs) (sym (among_both x ys zs) ∙ e)

-- ---- bounds

pub some_bound : (ls : List BoundLifetime) → has_bounds ls ≡ true → (x : List ℕ) × (is_among x (all_bounds ls) ≡ true)
some_bound [] e = absurd (false≢true e)
some_bound (l ∷ ls) e = elim (or_cases (not (is_nothing l.bounds)) (has_bounds ls) e) [
  | inl h ↦ (by l.bounds h)
  | inr h ↦ (let r = some_bound ls h in (r.0, among_behind r.0 (idents l.bounds) (all_bounds ls) r.1))
]
  where
    by : (bs : List Ident) → not (is_nothing bs) ≡ true → (x : List ℕ) × (is_among x (idents bs ++ all_bounds ls) ≡ true)
    by [] h = absurd (false≢true h)
    by (b ∷ bs) h = (b.name, first_among b.name b.name (idents bs ++ all_bounds ls) (itself b.name))

pub bounds_are_some : (ls : List BoundLifetime) (x : List ℕ) → is_among x (all_bounds ls) ≡ true → has_bounds ls ≡ true
bounds_are_some [] x e = absurd (false≢true e)
bounds_are_some (l ∷ ls) x e = elim (among_either x (idents l.bounds) (all_bounds ls) e) [
  | inl h ↦ or_left (not (is_nothing l.bounds)) (has_bounds ls) (by l.bounds h)
  | inr h ↦ or_right (not (is_nothing l.bounds)) (has_bounds ls) (bounds_are_some ls x h)
]
  where
    by : (bs : List Ident) → is_among x (idents bs) ≡ true → not (is_nothing bs) ≡ true
    by [] h = absurd (false≢true h)
    by (b ∷ bs) h = refl

pub bound_stands : (ls : List BoundLifetime) (x : List ℕ) → is_among x (all_bounds ls) ≡ true → is_among x (in_bounds ls) ≡ true
bound_stands [] x e = absurd (false≢true e)
bound_stands (l ∷ ls) x e = elim (among_either x (idents l.bounds) (all_bounds ls) e) [
  | inl h ↦ among_front x (bounding l l.bounds) (in_bounds ls) (by l.bounds h)
  | inr h ↦ among_behind x (bounding l l.bounds) (in_bounds ls) (bound_stands ls x h)
]
  where
    by : (bs : List Ident) → is_among x (idents bs) ≡ true → is_among x (bounding l bs) ≡ true
    by [] h = absurd (false≢true h)
    by (b ∷ bs) h = among_more x l.name.name (idents (b ∷ bs)) h

-- ---- some are kept

module _ (keep : BoundLifetime → Bool) where
  pub kept_names : (ls : List BoundLifetime) (x : List ℕ) → is_among x (names (filter keep ls)) ≡ true → is_among x (names ls) ≡ true
  kept_names [] x e = e
  kept_names (l ∷ ls) x e = by (keep l) e (kept_names ls x)
    where
      by : (b : Bool) → is_among x (names (if b then l ∷ filter keep ls else filter keep ls)) ≡ true → (is_among x (names (filter keep ls)) ≡ true → is_among x (names ls) ≡ true)
          → is_among x (names (l ∷ ls)) ≡ true
      by true h again = elim (or_cases (bytes_eq x l.name.name) (is_among x (names (filter keep ls))) h) [
        | inl g ↦ first_among x l.name.name (names ls) g
        | inr g ↦ among_more x l.name.name (names ls) (again g)
      ]
      by false h again = among_more x l.name.name (names ls) (again h)

  pub kept_bounds : (ls : List BoundLifetime) (x : List ℕ) → is_among x (all_bounds (filter keep ls)) ≡ true → is_among x (all_bounds ls) ≡ true
  kept_bounds [] x e = e
  kept_bounds (l ∷ ls) x e = by (keep l) e (kept_bounds ls x)
    where
      by : (b : Bool) → is_among x (all_bounds (if b then l ∷ filter keep ls else filter keep ls)) ≡ true
          → (is_among x (all_bounds (filter keep ls)) ≡ true → is_among x (all_bounds ls) ≡ true) → is_among x (all_bounds (l ∷ ls)) ≡ true
      by true h again = elim (among_either x (idents l.bounds) (all_bounds (filter keep ls)) h) [
        | inl g ↦ among_front x (idents l.bounds) (all_bounds ls) g
        | inr g ↦ among_behind x (idents l.bounds) (all_bounds ls) (again g)
      ]
      by false h again = among_behind x (idents l.bounds) (all_bounds ls) (again h)

  pub kept_once : (ls : List BoundLifetime) → Distinct (names ls) → Distinct (names (filter keep ls))
  kept_once [] d = tt
  kept_once (l ∷ ls) d = by (keep l) (kept_once ls d.1)
    where
      by : (b : Bool) → Distinct (names (filter keep ls)) → Distinct (names (if b then l ∷ filter keep ls else filter keep ls))
      by true again = (false_from_ne_true (is_among l.name.name (names (filter keep ls))) (λ h. false≢true (sym d.0 ∙ kept_names ls l.name.name h)), again)
      by false again = again

-- by their names
pub kept_if : (G : List ℕ → Bool) (ls : List BoundLifetime) (x : List ℕ) → is_among x (names ls) ≡ true → G x ≡ true
    → is_among x (names (filter (λ (l : BoundLifetime). G l.name.name) ls)) ≡ true
kept_if G [] x e g = e
kept_if G (l ∷ ls) x e g = elim (or_cases (bytes_eq x l.name.name) (is_among x (names ls)) e) [
  | inl h ↦ (here (G l.name.name) (ap G (sym (same_name x l.name.name h)) ∙ g) h)
  | inr h ↦ (there (G l.name.name) (kept_if G ls x h g))
]
  where
    rest : List BoundLifetime
    rest = filter (λ (l : BoundLifetime). G l.name.name) ls

    here : (b : Bool) → b ≡ true → bytes_eq x l.name.name ≡ true → is_among x (names (if b then l ∷ rest else rest)) ≡ true
    here true k h = first_among x l.name.name (names rest) h
    here false k h = absurd (false≢true k)

    there : (b : Bool) → is_among x (names rest) ≡ true → is_among x (names (if b then l ∷ rest else rest)) ≡ true
    there true h = among_more x l.name.name (names rest) h
    there false h = h

-- ---- all are renamed

abbrev pub turned : List ℕ → Option (List ℕ) → List ℕ
turned x None = x
turned x (Some y) = y

module _ (rs : List Rewriting) where
  abbrev pub new_name : List ℕ → List ℕ
  new_name x = turned x (becomes rs x)

  pub ident_turned : (x : Ident) → (renamed_ident rs x).name ≡ new_name x.name
  ident_turned x = by (becomes rs x.name)
    where
      by : (o : Option (List ℕ)) → (ident_or x o).name ≡ turned x.name o
      by None = refl
      by (Some y) = refl

  pub renamed_among : (ls : List BoundLifetime) (x : List ℕ) → is_among x (names ls) ≡ true → is_among (new_name x) (names (map (renamed_bound rs) ls)) ≡ true
  renamed_among [] x e = absurd (false≢true e)
  renamed_among (l ∷ ls) x e = elim (or_cases (bytes_eq x l.name.name) (is_among x (names ls)) e) [
    | inl h ↦ first_among (new_name x) (renamed_ident rs l.name).name (names (map (renamed_bound rs) ls))
        (ap (bytes_eq (new_name x)) (ident_turned l.name ∙ ap new_name (sym (same_name x l.name.name h))) ∙ itself (new_name x))
    | inr h ↦ among_more (new_name x) (renamed_ident rs l.name).name (names (map (renamed_bound rs) ls)) (renamed_among ls x h)
  ]

  pub renamed_idents : (bs : List Ident) (x : List ℕ) → is_among x (idents (map (renamed_ident rs) bs)) ≡ true → (y : List ℕ) × (is_among y (idents bs) ≡ true) × (x ≡ new_name y)
  renamed_idents [] x e = absurd (false≢true e)
  renamed_idents (b ∷ bs) x e = elim (or_cases (bytes_eq x (renamed_ident rs b).name) (is_among x (idents (map (renamed_ident rs) bs))) e) [
    | inl h ↦ (b.name, first_among b.name b.name (idents bs) (itself b.name), same_name x (renamed_ident rs b).name h ∙ ident_turned b)
    | inr h ↦ (let r = renamed_idents bs x h in (r.0, among_more r.0 b.name (idents bs) r.1, r.2))
  ]

  -- a bound of the new list is the new name of one of the old list
  pub renamed_bounds : (ls : List BoundLifetime) (x : List ℕ) → is_among x (all_bounds (map (renamed_bound rs) ls)) ≡ true
      → (y : List ℕ) × (is_among y (all_bounds ls) ≡ true) × (x ≡ new_name y)
  renamed_bounds [] x e = absurd (false≢true e)
  renamed_bounds (l ∷ ls) x e = elim (among_either x (idents (map (renamed_ident rs) l.bounds)) (all_bounds (map (renamed_bound rs) ls)) e) [
    | inl h ↦ (let r = renamed_idents l.bounds x h in (r.0, among_front r.0 (idents l.bounds) (all_bounds ls) r.1, r.2))
    | inr h ↦ (let r = renamed_bounds ls x h in (r.0, among_behind r.0 (idents l.bounds) (all_bounds ls) r.1, r.2))
  ]

-- ---- those of one name are one

pub firsts_among : (found : Names) (bs : List Ident) (x : List ℕ) → is_among x (idents (firsts_of found bs)) ≡ true → is_among x (idents bs) ≡ true
firsts_among found [] x e = e
firsts_among found (b ∷ bs) x e = by (is_among b.name found) e (λ more. firsts_among more bs x)
  where
    by : (c : Bool) → is_among x (idents (if c then firsts_of found bs else b ∷ firsts_of (b.name ∷ found) bs)) ≡ true
        → ((more : Names) → is_among x (idents (firsts_of more bs)) ≡ true → is_among x (idents bs) ≡ true) → is_among x (idents (b ∷ bs)) ≡ true
    by true h again = among_more x b.name (idents bs) (again found h)
    by false h again = elim (or_cases (bytes_eq x b.name) (is_among x (idents (firsts_of (b.name ∷ found) bs))) h) [
      | inl g ↦ first_among x b.name (idents bs) g
      | inr g ↦ among_more x b.name (idents bs) (again (b.name ∷ found) g)
    ]

bounds_among : (y : List ℕ) (ls : List BoundLifetime) (x : List ℕ) → is_among x (idents (bounds_for y ls)) ≡ true → is_among x (all_bounds ls) ≡ true
bounds_among y [] x e = e
bounds_among y (l ∷ ls) x e = by (bytes_eq y l.name.name) e (bounds_among y ls x)
  where
    idents_both : (as' bs : List Ident) → idents (as' ++ bs) ≡ idents as' ++ idents bs
    idents_both [] bs = refl
    idents_both (a ∷ as') bs = ap (λ ns. a.name ∷ ns) (idents_both as' bs)

    by : (c : Bool) → is_among x (idents (if c then l.bounds ++ bounds_for y ls else bounds_for y ls)) ≡ true
        → (is_among x (idents (bounds_for y ls)) ≡ true → is_among x (all_bounds ls) ≡ true) → is_among x (all_bounds (l ∷ ls)) ≡ true
    by true h again = elim (among_either x (idents l.bounds) (idents (bounds_for y ls)) (sym (ap (is_among x) (idents_both l.bounds (bounds_for y ls))) ∙ h)) [
      | inl g ↦ among_front x (idents l.bounds) (all_bounds ls) g
      | inr g ↦ among_behind x (idents l.bounds) (all_bounds ls) (again g)
    ]
    by false h again = among_behind x (idents l.bounds) (all_bounds ls) (again h)

module _ (all : List BoundLifetime) where
  -- each name was found or stands there
  pub joined_among : (found : Names) (ls : List BoundLifetime) (x : List ℕ) → is_among x (names ls) ≡ true → (is_among x found ≡ true) ⊎ (is_among x (names (joined all found ls)) ≡ true)
  joined_among found [] x e = absurd (false≢true e)
  joined_among found (l ∷ ls) x e = by (is_among l.name.name found) refl (or_cases (bytes_eq x l.name.name) (is_among x (names ls)) e) (λ more. joined_among more ls x)
    where
      rest : List BoundLifetime
      rest = joined all (found ++ l.name.name ∷ []) ls

      by : (b : Bool) → is_among l.name.name found ≡ b → (bytes_eq x l.name.name ≡ true) ⊎ (is_among x (names ls) ≡ true)
          → ((more : Names) → is_among x (names ls) ≡ true → (is_among x more ≡ true) ⊎ (is_among x (names (joined all more ls)) ≡ true))
          → (is_among x found ≡ true) ⊎ (is_among x (names (if b then joined all found ls else joined_lifetime all l.name ∷ rest)) ≡ true)
      by true h (inl g) again = inl (ap (λ z. is_among z found) (same_name x l.name.name g) ∙ h)
      by true h (inr g) again = again found g
      by false h (inl g) again = inr (first_among x l.name.name (names rest) g)
      by false h (inr g) again = elim (again (found ++ l.name.name ∷ []) g) [
        | inr k ↦ inr (among_more x l.name.name (names rest) k)
        | inl k ↦ elim (among_either x found (l.name.name ∷ []) k) [
          | inl m ↦ inl m
          | inr m ↦ elim (or_cases (bytes_eq x l.name.name) false m) [
            | inl z ↦ inr (first_among x l.name.name (names rest) z)
            | inr z ↦ absurd (false≢true z)
          ]
        ]
      ]

  -- those that were found don't
  joined_new : (found : Names) (ls : List BoundLifetime) (x : List ℕ) → is_among x (names (joined all found ls)) ≡ true → is_among x found ≡ false
  joined_new found [] x e = absurd (false≢true e)
  joined_new found (l ∷ ls) x e = by (is_among l.name.name found) refl e (λ more. joined_new more ls x)
    where
      rest : List BoundLifetime
      rest = joined all (found ++ l.name.name ∷ []) ls

      by : (b : Bool) → is_among l.name.name found ≡ b → is_among x (names (if b then joined all found ls else joined_lifetime all l.name ∷ rest)) ≡ true
          → ((more : Names) → is_among x (names (joined all more ls)) ≡ true → is_among x more ≡ false) → is_among x found ≡ false
      by true h g again = again found g
      by false h g again = elim (or_cases (bytes_eq x l.name.name) (is_among x (names rest)) g) [
        | inl k ↦ ap (λ z. is_among z found) (same_name x l.name.name k) ∙ h
        | inr k ↦ (or_parts (is_among x found) (is_among x (l.name.name ∷ [])) (sym (among_both x found (l.name.name ∷ [])) ∙ again (found ++ l.name.name ∷ []) k)).0
      ]

  pub joined_once : (found : Names) (ls : List BoundLifetime) → Distinct (names (joined all found ls))
  joined_once found [] = tt
  joined_once found (l ∷ ls) = by (is_among l.name.name found) (λ more. joined_once more ls)
    where
      rest : List BoundLifetime
      rest = joined all (found ++ l.name.name ∷ []) ls

      here : is_among l.name.name (found ++ l.name.name ∷ []) ≡ true
      here = among_behind l.name.name found (l.name.name ∷ []) (first_among l.name.name l.name.name [] (itself l.name.name))

      by : (b : Bool) → ((more : Names) → Distinct (names (joined all more ls))) → Distinct (names (if b then joined all found ls else joined_lifetime all l.name ∷ rest))
      by true again = again found
      by false again = (false_from_ne_true (is_among l.name.name (names rest)) (λ h. true≢false (sym here ∙ joined_new (found ++ l.name.name ∷ []) ls l.name.name h)), again (found ++ l.name.name ∷ []))

  pub joined_bounds : (found : Names) (ls : List BoundLifetime) (x : List ℕ) → is_among x (all_bounds (joined all found ls)) ≡ true → is_among x (all_bounds all) ≡ true
  joined_bounds found [] x e = absurd (false≢true e)
  joined_bounds found (l ∷ ls) x e = by (is_among l.name.name found) e (λ more. joined_bounds more ls x)
    where
      rest : List BoundLifetime
      rest = joined all (found ++ l.name.name ∷ []) ls

      by : (b : Bool) → is_among x (all_bounds (if b then joined all found ls else joined_lifetime all l.name ∷ rest)) ≡ true
          → ((more : Names) → is_among x (all_bounds (joined all more ls)) ≡ true → is_among x (all_bounds all) ≡ true) → is_among x (all_bounds all) ≡ true
      by true h again = again found h
      by false h again = elim (among_either x (idents (firsts_of (l.name.name ∷ []) (bounds_for l.name.name all))) (all_bounds rest) h) [
        | inl g ↦ bounds_among l.name.name all x (firsts_among (l.name.name ∷ []) (bounds_for l.name.name all) x g)
        | inr g ↦ again (found ++ l.name.name ∷ []) g
      ]
