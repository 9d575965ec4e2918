-- The renaming that is chosen where variables begin.
use Rattle.std.proofs.Common.{if◌then◌else◌, ◌≡◌, inl, inr, ℕ, Bool, true, false, not, ◌==◌, ◌||◌, List, [], ◌∷◌, ◌++◌, Some, refl, sym, ap, ◌∙◌, subst}
use Rattle.std.proofs.lemmas.Bool.Decides.{Decides-eqb}
use Rattle.rx_typed.specs.Types.{Typ}
use Rattle.rx_exits_plan.specs.Asked.{Asked}
use Rattle.rx_exits_plan.specs.Occurrences.{has_number, those}
use Rattle.rx_exits_plan.specs.Plan.{Plan}
use Rattle.rx_modes_policy.specs.declared.uses.Mode.TheVariants as mode
use Rattle.rx_modes_policy.specs.declared.uses.Mode.{Mode}
use Rattle.rx_engine_simulation.specs.Sights.{copied, free, plain, shut, sight, special, Hold, How, In, Renaming, sight_of}
use Rattle.rx_engine_simulation.specs.Binders.{new_plain, new_special, NewHow}
use Rattle.rx_engine_simulation.specs.Passing.{AreShut}
use Rattle.rx_engine_related.specs.AboutRun.{special_of}
use Rattle.rx_engine_related.specs.ByForm.{by_form}
use Rattle.rx_engine_made_trees.specs.Arguments.{lent, looked_at, moved, reborrowed, SeenAs, shared, value_copied}
use Rattle.rx_engine_made_trees.specs.Seen.{Distinct}
use Rattle.rx_engine_made_calls.specs.Seeing.{asks_again, cold_of, copies, has_here, has_there, HasMode, how_inside, how_outside, IsChosen, lends, looks, ModeFits, moves, shares, stays_shut}
use Rattle.rx_modes_given.specs.GivenAway.{is_given_away}

-- ---- numbers that a list has

or_true : (b c : Bool) → c ≡ true → (b || c) ≡ true
or_true true c e = refl
or_true false c e = e

or_first : (b c : Bool) → b ≡ true → (b || c) ≡ true
or_first true c e = refl
or_first false c e = absurd (cc)

pub has_in : (x : ℕ) (l : List ℕ) → In x l → has_number x l ≡ true
has_in x [] i = absurd i
has_in x (y ∷ l) (inl e) = or_first (x == y) (has_number x l) ((Decides-eqb x y).1 e)
has_in x (y ∷ l) (inr i) = or_true (x == y) (has_number x l) (has_in x l i)

pub in_has : (x : ℕ) (l : List ℕ) → has_number x l ≡ true → In x l
in_has x [] e = absurd (cc)
in_has x (y ∷ l) e = by (x == y) refl e (in_has x l)
  where
    by : (b : Bool) → (x == y) ≡ b → (b || has_number x l) ≡ true → (has_number x l ≡ true → In x l) → In x (y ∷ l)
    by true s e rest = inl ((Decides-eqb x y).0 s)
    by false s e rest = inr (rest e)

not_in : (x : ℕ) (l : List ℕ) → (In x l → ⊥) → has_number x l ≡ false
not_in x l unlike = by (has_number x l) refl
  where
    by : (b : Bool) → has_number x l ≡ b → b ≡ false
    by true e = absurd (unlike (in_has x l e))
    by false e = refl

pub in_front : (x : ℕ) (xs ys : List ℕ) → In x xs → In x (xs ++ ys)
in_front x [] ys i = absurd i
in_front x (z ∷ xs) ys (inl e) = inl e
in_front x (z ∷ xs) ys (inr i) = inr (in_front x xs ys i)

not_both : ◌≡◌ {A = Bool} false true → ⊥
not_both e = cc

in_those : (f : ℕ → Bool) (x : ℕ) (l : List ℕ) → f x ≡ true → In x l → In x (those f l)
in_those f x [] e i = absurd i
in_those f x (y ∷ l) e i = by (f y) refl i (in_those f x l e)
  where
    first : (b : Bool) → f y ≡ b → x ≡ y → b ≡ true
    first b g s = sym g ∙ (ap f (sym s) ∙ e)

    by : (b : Bool) → f y ≡ b → In x (y ∷ l) → (In x l → In x (those f l)) → In x (if b then y ∷ those f l else those f l)
    by true g (inl s) rest = inl s
    by true g (inr i) rest = inr (rest i)
    by false g (inl s) rest = absurd (not_both (first false g s))
    by false g (inr i) rest = rest i

-- ---- params

pub param_in : {x : ℕ} {m : Mode} {xs : List ℕ} {ms : List Mode} → HasMode x m xs ms → In x xs
param_in has_here = inl refl
param_in (has_there h) = inr (param_in h)

plain_is_not : (w : Hold) → plain w ≡ special → ⊥
plain_is_not w e = cc

module _ (A : Asked) (muts : List Bool) where
  cold_there : {x : ℕ} {m : Mode} {xs : List ℕ} {ms : List Mode} → HasMode x m xs ms → stays_shut A muts x m ≡ true → In x (cold_of A muts xs ms)
  cold_there {x = x} {m = m} (has_here {xs = xs} {ms = ms}) e = by (stays_shut A muts x m) e
    where
      by : (b : Bool) → b ≡ true → In x (if b then x ∷ cold_of A muts xs ms else cold_of A muts xs ms)
      by true e = inl refl
      by false e = absurd (cc)
  cold_there {x = x} (has_there {z = z} {n = n} {xs = xs} {ms = ms} h) e = by (stays_shut A muts z n) (cold_there h e)
    where
      by : (b : Bool) → In x (cold_of A muts xs ms) → In x (if b then z ∷ cold_of A muts xs ms else cold_of A muts xs ms)
      by true i = inr i
      by false i = i

  cold_among : (x : ℕ) (xs : List ℕ) (ms : List Mode) → In x (cold_of A muts xs ms) → In x xs
  cold_among x [] ms i = absurd i
  cold_among x (z ∷ xs) [] i = absurd i
  cold_among x (z ∷ xs) (n ∷ ms) i = by (stays_shut A muts z n) i (cold_among x xs ms)
    where
      by : (b : Bool) → In x (if b then z ∷ cold_of A muts xs ms else cold_of A muts xs ms) → (In x (cold_of A muts xs ms) → In x xs) → In x (z ∷ xs)
      by true (inl e) rest = inl e
      by true (inr i) rest = inr (rest i)
      by false i rest = inr (rest i)

  -- a param that is lent isn't cold, since it is listed once
  not_cold : {x : ℕ} {m : Mode} {xs : List ℕ} {ms : List Mode} → Distinct xs → HasMode x m xs ms → stays_shut A muts x m ≡ false → In x (cold_of A muts xs ms) → ⊥
  not_cold {x = x} {m = m} d (has_here {xs = xs} {ms = ms}) e i = by (stays_shut A muts x m) e i
    where
      by : (b : Bool) → b ≡ false → In x (if b then x ∷ cold_of A muts xs ms else cold_of A muts xs ms) → ⊥
      by true e i = cc
      by false e i = d.0 (cold_among x xs ms i)
  not_cold {x = x} d (has_there {z = z} {n = n} {xs = xs} {ms = ms} h) e i = by (stays_shut A muts z n) i (λ i. not_cold d.1 h e i)
    where
      by : (b : Bool) → In x (if b then z ∷ cold_of A muts xs ms else cold_of A muts xs ms) → (In x (cold_of A muts xs ms) → ⊥) → ⊥
      by true (inl s) rest = d.0 (subst (λ (z : ℕ). In z xs) s (param_in h))
      by true (inr i) rest = rest i
      by false i rest = rest i

  module _ (k : Plan) (modes : List Mode) where
    pub outside_special : (x : ℕ) → In x (special_of A muts k) → how_outside A muts k modes x ≡ special
    outside_special x i = ap (λ (b : Bool). if b then special else (if has_number x (cold_of A muts k.params modes) then plain shut else plain free)) (has_in x (special_of A muts k) i)

    outside_shut : (x : ℕ) → (In x (special_of A muts k) → ⊥) → In x (cold_of A muts k.params modes) → how_outside A muts k modes x ≡ plain shut
    outside_shut x unlike i = ap (λ (b : Bool). if b then special else (if has_number x (cold_of A muts k.params modes) then plain shut else plain free)) (not_in x (special_of A muts k) unlike)
        ∙ ap (λ (b : Bool). if b then plain shut else plain free) (has_in x (cold_of A muts k.params modes) i)

    outside_free : (x : ℕ) → (In x (special_of A muts k) → ⊥) → (In x (cold_of A muts k.params modes) → ⊥) → how_outside A muts k modes x ≡ plain free
    outside_free x unlike none = ap (λ (b : Bool). if b then special else (if has_number x (cold_of A muts k.params modes) then plain shut else plain free)) (not_in x (special_of A muts k) unlike)
        ∙ ap (λ (b : Bool). if b then plain shut else plain free) (not_in x (cold_of A muts k.params modes) none)

    -- so a variable may begin, by the form of the tree
    pub begins_so : (x : ℕ) → NewHow (by_form (special_of A muts k)) x (how_outside A muts k modes x)
    begins_so x = by (has_number x (special_of A muts k)) refl (has_number x (cold_of A muts k.params modes))
      where
        by : (b : Bool) → has_number x (special_of A muts k) ≡ b → (c : Bool) → NewHow (by_form (special_of A muts k)) x (if b then special else (if c then plain shut else plain free))
        by true e c = new_special (in_has x (special_of A muts k) e)
        by false e true = new_plain shut tt
        by false e false = new_plain free tt

    -- what is seen as elsewhere is one of those that may be
    pub special_so : (x : ℕ) → how_outside A muts k modes x ≡ special → In x (special_of A muts k)
    special_so x e = by (has_number x (special_of A muts k)) refl (has_number x (cold_of A muts k.params modes)) e
      where
        by : (b : Bool) → has_number x (special_of A muts k) ≡ b → (c : Bool) → (if b then special else (if c then plain shut else plain free)) ≡ special → In x (special_of A muts k)
        by true i c e = in_has x (special_of A muts k) i
        by false i true e = absurd (plain_is_not shut e)
        by false i false e = absurd (plain_is_not free e)

    module _ (R : Renaming) (chosen : IsChosen A muts k modes R) (again : Bool) where
      seen : (x y : ℕ) (w v : How) → sight_of R x ≡ Some (sight y w) → how_outside A muts k modes x ≡ v → sight_of R x ≡ Some (sight y v)
      seen x y w v s e = s ∙ ap (λ (w : How). Some (sight y w)) (chosen x y w s ∙ e)

      -- a param as its mode asks
      pub seen_as : {m : Mode} (x y : ℕ) (w : How) (t : Typ) → Distinct k.params → HasMode x m k.params modes → ModeFits A muts k again x t m → sight_of R x ≡ Some (sight y w) → SeenAs again R (cold_of A muts k.params modes) x y t m (how_inside A muts x m)
      seen_as x y w t d h (moves i a) s = subst (λ (b : Bool). SeenAs again R (cold_of A muts k.params modes) x y t mode.Value (if b then special else copied)) (sym i)
          (moved (seen x y w special s (outside_special x (in_front x _ _ (in_those (is_given_away A muts) x k.params i (param_in h))))) a)
      seen_as x y w t d h (copies i unlike u) s = let c = cold_there h (ap not i) in subst (λ (b : Bool). SeenAs again R (cold_of A muts k.params modes) x y t mode.Value (if b then special else copied)) (sym i)
          (value_copied (seen x y w (plain shut) s (outside_shut x unlike c)) c u)
      seen_as x y w t d h (asks_again unlike a u) s = let c = cold_there h refl in reborrowed a (seen x y w (plain shut) s (outside_shut x unlike c)) c u
      seen_as x y w t d h (looks unlike a u) s = let c = cold_there h refl in looked_at a (seen x y w (plain shut) s (outside_shut x unlike c)) c u
      seen_as x y w t d h (shares unlike) s = shared free (seen x y w (plain free) s (outside_free x unlike (not_cold d h refl)))
      seen_as x y w t d h (lends unlike) s = let c = not_cold d h refl in lent free (seen x y w (plain free) s (outside_free x unlike c)) c

      pub all_special_so : (x y : ℕ) → sight_of R x ≡ Some (sight y special) → In x (special_of A muts k)
      all_special_so x y s = special_so x (sym (chosen x y special s))

      -- what is cold is shut, where it is in scope
      pub shut_so : ((x : ℕ) → In x (cold_of A muts k.params modes) → (In x (special_of A muts k) → ⊥) × ((y : ℕ) × (w : How) × (sight_of R x ≡ Some (sight y w)))) → AreShut R (cold_of A muts k.params modes)
      shut_so there x i = let h = there x i in (h.1.0, seen x h.1.0 h.1.1 (plain shut) h.1.2 (outside_shut x h.0 i))
