-- Passes over lists: what is left to do, and what is made.
use Rattle.std.proofs.Common.{◌≡◌, inl, inr, ℕ, zero, suc, ◌+◌, ◌<◌, ◌≤◌, List, [], ◌∷◌, ◌++◌, length, drop, get_or, refl, sym, ap, ◌∙◌, subst, arith}
use Rattle.std.proofs.lemmas.List.{drop_more}
use Rattle.rx_facts.specs.Passing.{AllAre, Each, FirstNot, Behind}

behind_one : {B : Type 0} (made more : List B) (b : B) → made ++ b ∷ more ≡ (made ++ b ∷ []) ++ more
behind_one [] more b = refl
behind_one (x ∷ made) more b = ap (λ (l : List _). x ∷ l) (behind_one made more b)

behind_none : {B : Type 0} (made : List B) → made ++ [] ≡ made
behind_none [] = refl
behind_none (x ∷ made) = ap (λ (l : List _). x ∷ l) (behind_none made)

drop_all : {A : Type 0} (i : ℕ) (xs : List A) → length xs ≤ i → drop i xs ≡ []
drop_all zero [] h = refl
drop_all zero (x ∷ xs) h = absurd (omega (arith, h))
drop_all (suc i) [] h = refl
drop_all (suc i) (x ∷ xs) h = drop_all i xs (omega (arith, h))

module _ {A B E : Type 0} (Holds : A → B → Type 0) (Good : A → Type 0) (Said : E → A → Type 0) (xs : List A) where
  pub none_done : Behind Holds Good Said xs xs []
  none_done = record { done = λ more h. h; first = λ e h. h }

  pub one_done : (left : List A) (made : List B) (a : A) (b : B) → Holds a b → Good a → Behind Holds Good Said xs (a ∷ left) made → Behind Holds Good Said xs left (made ++ b ∷ [])
  one_done left made a b h g before = record {
    done = λ more rest. subst (λ (l : List B). Each Holds xs l) (behind_one made more b) (before.done (b ∷ more) (h, rest));
    first = λ e rest. before.first e (inr (g, rest));
  }

  pub all_done : (made : List B) → Behind Holds Good Said xs [] made → Each Holds xs made
  all_done made before = subst (λ (l : List B). Each Holds xs l) (behind_none made) (before.done [] tt)

  pub one_refused : (left : List A) (made : List B) (a : A) (e : E) → Said e a → Behind Holds Good Said xs (a ∷ left) made → FirstNot Good (Said e) xs
  one_refused left made a e h before = before.first e (inl h)

  here : (i : ℕ) (a : A) → i < length xs → a ≡ get_or xs i a → drop i xs ≡ a ∷ drop (i + 1) xs
  here i a less is = drop_more xs i a less ∙ ap (λ (x : A). x ∷ drop (i + 1) xs) (sym is)

  -- one further
  pub next_done : (i : ℕ) (made new : List B) (a : A) → i < length xs → a ≡ get_or xs i a → (b : B) × (new ≡ made ++ b ∷ []) × Holds a b → ((b : B) → Holds a b → Good a)
      → Behind Holds Good Said xs (drop i xs) made → Behind Holds Good Said xs (drop (i + 1) xs) new
  next_done i made new a less is h good before =
      subst (λ (l : List B). Behind Holds Good Said xs (drop (i + 1) xs) l) (sym h.1)
      (one_done (drop (i + 1) xs) made a h.0 h.2 (good h.0 h.2) (subst (λ (l : List A). Behind Holds Good Said xs l made) (here i a less is) before))

  pub next_refused : (i : ℕ) (made : List B) (a : A) (e : E) → i < length xs → a ≡ get_or xs i a → Said e a → Behind Holds Good Said xs (drop i xs) made → FirstNot Good (Said e) xs
  next_refused i made a e less is said before = one_refused (drop (i + 1) xs) made a e said (subst (λ (l : List A). Behind Holds Good Said xs l made) (here i a less is) before)

  pub end_done : (i : ℕ) (made : List B) → length xs ≤ i → Behind Holds Good Said xs (drop i xs) made → Each Holds xs made
  end_done i made past before = all_done made (subst (λ (l : List A). Behind Holds Good Said xs l made) (drop_all i xs past) before)

-- ---- lists of one length

pub as_long : {A B : Type 0} (Holds : A → B → Type 0) (xs : List A) (ys : List B) → Each Holds xs ys → length xs ≡ length ys
as_long Holds [] [] h = refl
as_long Holds (a ∷ xs) (b ∷ ys) h = ap (λ n. suc n) (as_long Holds xs ys h.1)
as_long Holds [] (b ∷ ys) h = absurd h
as_long Holds (a ∷ xs) [] h = absurd h

pub each_at : {A B : Type 0} (Holds : A → B → Type 0) (xs : List A) (ys : List B) → Each Holds xs ys → (i : ℕ) (a : A) (b : B) → i < length xs → Holds (get_or xs i a) (get_or ys i b)
each_at Holds [] ys h i a b less = absurd (omega (arith, less))
each_at Holds (x ∷ xs) [] h i a b less = absurd h
each_at Holds (x ∷ xs) (y ∷ ys) h zero a b less = h.0
each_at Holds (x ∷ xs) (y ∷ ys) h (suc i) a b less = each_at Holds xs ys h.1 i a b (omega (arith, less))

pub all_of_each : {A B : Type 0} (Holds : A → B → Type 0) (Good : A → Type 0) → ((a : A) (b : B) → Holds a b → Good a) → (xs : List A) (ys : List B) → Each Holds xs ys → AllAre Good xs
all_of_each Holds Good good [] [] h = tt
all_of_each Holds Good good (a ∷ xs) (b ∷ ys) h = (good a b h.0, all_of_each Holds Good good xs ys h.1)
all_of_each Holds Good good [] (b ∷ ys) h = absurd h
all_of_each Holds Good good (a ∷ xs) [] h = absurd h

-- ---- the first that is refused, and that none is

pub first_or_all : {A : Type 0} (Good Said : A → Type 0) → ((a : A) → Said a → Good a → ⊥) → (xs : List A) → FirstNot Good Said xs → AllAre Good xs → ⊥
first_or_all Good Said apart [] f h = f
first_or_all Good Said apart (a ∷ xs) (inl f) h = apart a f h.0
first_or_all Good Said apart (a ∷ xs) (inr f) h = first_or_all Good Said apart xs f.1 h.1

-- what is said of the first is said of one
pub first_both : {A : Type 0} (Good P Q : A → Type 0) → ((a : A) → P a → Good a → ⊥) → ((a : A) → Q a → Good a → ⊥) → (xs : List A)
    → FirstNot Good P xs → FirstNot Good Q xs → (a : A) × P a × Q a
first_both Good P Q p q [] f g = absurd f
first_both Good P Q p q (a ∷ xs) (inl f) (inl g) = (a, f, g)
first_both Good P Q p q (a ∷ xs) (inl f) (inr g) = absurd (p a f g.0)
first_both Good P Q p q (a ∷ xs) (inr f) (inl g) = absurd (q a g f.0)
first_both Good P Q p q (a ∷ xs) (inr f) (inr g) = first_both Good P Q p q xs f.1 g.1

-- two lists whose items are alike
pub first_alike : {A : Type 0} (Alike : A → A → Type 0) (G H P Q : A → Type 0) → ((a b : A) → Alike a b → G a → H b) → ((a b : A) → Alike a b → P a → Q b) → (xs ys : List A)
    → Each Alike xs ys → FirstNot G P xs → FirstNot H Q ys
first_alike Alike G H P Q g p [] ys h f = absurd f
first_alike Alike G H P Q g p (a ∷ xs) [] h f = absurd h
first_alike Alike G H P Q g p (a ∷ xs) (b ∷ ys) h (inl f) = inl (p a b h.0 f)
first_alike Alike G H P Q g p (a ∷ xs) (b ∷ ys) h (inr f) = inr (g a b h.0 f.0, first_alike Alike G H P Q g p xs ys h.1 f.1)

pub all_alike : {A : Type 0} (Alike : A → A → Type 0) (G H : A → Type 0) → ((a b : A) → Alike a b → G a → H b) → (xs ys : List A) → Each Alike xs ys → AllAre G xs → AllAre H ys
all_alike Alike G H g [] [] h f = tt
all_alike Alike G H g (a ∷ xs) (b ∷ ys) h f = (g a b h.0 f.0, all_alike Alike G H g xs ys h.1 f.1)
all_alike Alike G H g [] (b ∷ ys) h f = absurd h
all_alike Alike G H g (a ∷ xs) [] h f = absurd h
