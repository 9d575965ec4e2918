-- Bounds by numbers and by names say the same of lifetimes with distinct names.
use Rattle.std.proofs.Common.{◌≡◌, ◌≢◌, ◌⊎◌, inl, inr, ℕ, zero, suc, ◌<◌, ◌≤◌, Bool, true, false, ◌==◌, ◌&&◌, ◌||◌, List, [], ◌∷◌, ◌++◌, length, map, get_or, refl, sym, subst, ap, ap₂, ◌∙◌, arith}
use Rattle.std.specs.Prelude.{filter, if◌then◌else◌}
use Rattle.std.specs.Str.{bytes_eq}
use Rattle.std.proofs.lemmas.Bool.{or_left, or_right}
use Rattle.std.proofs.lemmas.Bool.Decides.{same_from_decides, Decides-eqb}
use Rattle.std.proofs.lemmas.Slice.Eq.{bytes_eq-Decides}
use Rattle.rx_core.specs.declared.types.Bound.{Bound}
use Rattle.rx_core.specs.declared.types.Span.{Span}
use Rattle.rx_tree.specs.declared.tree.Ident.{Ident}
use Rattle.rx_tree.specs.declared.tree.BoundLifetime.{BoundLifetime}
use Rattle.rx_tree.specs.Lists.{Every}
use Rattle.rx_hoist_extraction.specs.Names.{Names, is_among, Distinct}
use Rattle.rx_hoist_extraction.specs.OwnLifetimes.{idents}
use Rattle.rx_hoist_extraction.specs.Plan.{Bounds}
use Rattle.rx_hoist_extraction.specs.Made.{ident}
use Rattle.rx_hoist_extraction.specs.NewFunction as extracted
use Rattle.rx_hoist_extraction.specs.NewFunction.{shorts_of, with_bounds}
use Rattle.rx_repair.specs.Repaired.{is_bound, short_if, shorts_from, repaired_lifetime, lifetimes_from}
use Rattle.rx_repair.specs.Named.{named}

-- ---- a name has one place

is_there : (xs : Names) (i : ℕ) → i < length xs → is_among (get_or xs i []) xs ≡ true
is_there [] i l = absurd (omega arith)
is_there (x ∷ xs) zero l = or_left (bytes_eq x x) (is_among x xs) ((bytes_eq-Decides x x).1 refl)
is_there (x ∷ xs) (suc i) l = or_right (bytes_eq (get_or xs i []) x) (is_among (get_or xs i []) xs) (is_there xs i (omega arith))

apart : (x : List ℕ) (xs : Names) (i : ℕ) → is_among x xs ≡ false → i < length xs → x ≡ get_or xs i [] → ⊥
apart x xs i none l e = let there : is_among x xs ≡ true = subst (λ y. is_among y xs ≡ true) (sym e) (is_there xs i l) in
    let clash : true ≡ false = sym there ∙ none in cc

one_place : (xs : Names) (i j : ℕ) → Distinct xs → i < length xs → j < length xs → get_or xs i [] ≡ get_or xs j [] → i ≡ j
one_place [] i j d l m e = absurd (omega arith)
one_place (x ∷ xs) zero zero d l m e = refl
one_place (x ∷ xs) zero (suc j) d l m e = absurd (apart x xs j d.0 (omega arith) e)
one_place (x ∷ xs) (suc i) zero d l m e = absurd (apart x xs i d.0 (omega arith) (sym e))
one_place (x ∷ xs) (suc i) (suc j) d l m e = ap suc (one_place xs i j d.1 (omega arith) (omega arith) e)

less_or : (a b : ℕ) → (a < b) ⊎ (b ≤ a)
less_or a zero = inr (omega arith)
less_or zero (suc b) = inl (omega arith)
less_or (suc a) (suc b) = elim (less_or a b) [ inl h ↦ inl (omega (arith, h)) | inr h ↦ inr (omega (arith, h)) ]

past : (xs : Names) (i : ℕ) → length xs ≤ i → get_or xs i [] ≡ []
past [] i h = refl
past (x ∷ xs) zero h = absurd (omega arith)
past (x ∷ xs) (suc i) h = past xs i (omega arith)

has_word : (xs : Names) (i : ℕ) → Every (λ (x : List ℕ). x ≢ []) xs → i < length xs → get_or xs i [] ≡ [] → ⊥
has_word [] i h l e = absurd (omega arith)
has_word (x ∷ xs) zero h l e = h.0 e
has_word (x ∷ xs) (suc i) h l e = has_word xs i h.1 (omega arith) e

not_true : (b : Bool) → (b ≡ true → ⊥) → b ≡ false
not_true false n = refl
not_true true n = absurd (n refl)

-- a number behind the last has no name
other_name : (xs : Names) (i j : ℕ) → Every (λ (x : List ℕ). x ≢ []) xs → length xs ≤ i → j < length xs → (i == j) ≡ bytes_eq (get_or xs j []) (get_or xs i [])
other_name xs i j h l m =
    not_true (i == j) (λ e. let q = (Decides-eqb i j).0 e in omega (arith, q))
    ∙ sym (not_true (bytes_eq (get_or xs j []) (get_or xs i [])) (λ e. has_word xs j h m ((bytes_eq-Decides (get_or xs j []) (get_or xs i [])).0 e ∙ past xs i l)))

same_name : (xs : Names) (i j : ℕ) → Distinct xs → Every (λ (x : List ℕ). x ≢ []) xs → j < length xs → (i == j) ≡ bytes_eq (get_or xs j []) (get_or xs i [])
same_name xs i j d h m = elim (less_or i (length xs)) [
  | inl l ↦ same_from_decides (i == j) (bytes_eq (get_or xs j []) (get_or xs i [])) (Decides-eqb i j) (
    (λ e. one_place xs i j d l m (sym ((bytes_eq-Decides (get_or xs j []) (get_or xs i [])).0 e))),
    (λ e. (bytes_eq-Decides (get_or xs j []) (get_or xs i [])).1 (ap (λ k. get_or xs k []) (sym e))),
  )
  | inr l ↦ other_name xs i j h l m
]

pub same_bounds : (xs : Names) (bs : List Bound) (l k : ℕ) → Distinct xs → Every (λ (x : List ℕ). x ≢ []) xs → l < length xs → k < length xs
    → is_bound bs l k ≡ extracted.is_bound (get_or xs l []) (get_or xs k []) (named xs bs)
same_bounds xs [] l k d h m n = refl
same_bounds xs (b ∷ bs) l k d h m n = λ i.
    (same_name xs b.long l d h m i && same_name xs b.short k d h n i) || same_bounds xs bs l k d h m n i

-- ---- lists of lifetimes: names from number l on

abbrev pub Placed : Names → ℕ → List Ident → Type 0
Placed xs l [] = Unit {0}
Placed xs l (x ∷ ls) = (l < length xs) × (get_or xs l [] ≡ x.name) × Placed xs (suc l) ls

shifted : (y : List ℕ) (xs : Names) (l : ℕ) (ls : List Ident) → Placed xs l ls → Placed (y ∷ xs) (suc l) ls
shifted y xs l [] h = tt
shifted y xs l (x ∷ ls) h = (let a = h.0 in omega (arith, a), h.1, shifted y xs (suc l) ls h.2)

pub all_placed : (ls : List Ident) → Placed (idents ls) 0 ls
all_placed [] = tt
all_placed (x ∷ ls) = (omega arith, refl, shifted x.name (idents ls) 0 ls (all_placed ls))

kept_at : (s : Span) (p : Ident → Bool) (x : Ident) (ls : List Ident) (b : Bool) → b ≡ p x
    → (if b then ident s x.name ∷ [] else []) ++ map (λ (m : Ident). ident s m.name) (filter p ls) ≡ map (λ (m : Ident). ident s m.name) (filter p (x ∷ ls))
kept_at s p x ls true e = rw (← e) refl
kept_at s p x ls false e = rw (← e) refl

module _ (s : Span) (bs : List Bound) (xs : Names) (all : List Ident) (once : Distinct xs) (words : Every (λ (x : List ℕ). x ≢ []) xs) where
  -- without bounds, and with these
  abbrev bare : List Ident → List BoundLifetime
  bare ls = map (λ (l : Ident). record { name = l; bounds = shorts_of s [] all l.name }) ls

  abbrev bounded : List Ident → List BoundLifetime
  bounded ls = map (λ (l : Ident). record { name = l; bounds = shorts_of s (named xs bs) all l.name }) ls

  shorts_same : (l k : ℕ) (x : List ℕ) (ls : List Ident) → l < length xs → get_or xs l [] ≡ x → Placed xs k ls
      → shorts_from s bs l k (bare ls) ≡ shorts_of s (named xs bs) ls x
  shorts_same l k x [] m e h = refl
  shorts_same l k x (y ∷ ls) m e h =
      ap (λ r. short_if (is_bound bs l k) s (record { name = y; bounds = shorts_of s [] all y.name }) ++ r) (shorts_same l (suc k) x ls m e h.2)
      ∙ kept_at s (λ (z : Ident). extracted.is_bound x z.name (named xs bs)) y ls (is_bound bs l k)
      (same_bounds xs bs l k once words m h.0 ∙ ap₂ (λ a b. extracted.is_bound a b (named xs bs)) e h.1)

  pub lifetimes_same : Placed xs 0 all → (l : ℕ) (ls : List Ident) → Placed xs l ls → lifetimes_from s bs (bare all) l (bare ls) ≡ bounded ls
  lifetimes_same whole l [] h = refl
  lifetimes_same whole l (y ∷ ls) h = ap₂ (λ (a : List Ident) (r : List BoundLifetime). record { name = y; bounds = a } ∷ r)
      (shorts_same l 0 y.name all h.0 h.1 whole) (lifetimes_same whole (suc l) ls h.2)

-- of a whole list
pub list_repaired : (s : Span) (bs : List Bound) (ls : List Ident) → Distinct (idents ls) → Every (λ (x : List ℕ). x ≢ []) (idents ls)
    → lifetimes_from s bs (with_bounds s [] ls) 0 (with_bounds s [] ls) ≡ with_bounds s (named (idents ls) bs) ls
list_repaired s bs ls once words = lifetimes_same s bs (idents ls) ls once words (all_placed ls) 0 ls (all_placed ls)
