-- What the tests say of the variables of a renaming: that one stands for none, that one is elsewhere, and what there is with one more.
use Rattle.std.proofs.Common.{◌≡◌, ℕ, nat_eq, Bool, true, false, not, ◌||◌, List, [], ◌∷◌, Option, Some, None, if◌then◌else◌, refl, ap, ◌∙◌, sym, subst, ◌⊎◌, inl, inr, eq-eqb, eqb-true}
use Rattle.rx_engine_simulation.specs.Sights.{In, How, plain, special, through, copied, viewed, absent, Sight, sight, Renaming, sight_of, IsNew}
use Rattle.rx_engine_simulation.specs.Arrivals.{Within}
use Rattle.rx_engine_simulation.specs.Variants.{AllSpecial}
use Rattle.rx_lower_walks.specs.Walks.{Among, here, there}
use Rattle.rx_engine_alike.specs.Variables.{is_in, with_seen}
use Rattle.rx_engine_alike.specs.Giving.{is_special}
use Rattle.rx_engine_alike_laws.proofs.Giving.{special_so}
use Rattle.rx_engine_extracted.specs.Told.{is_special_sight, specials_among, all_special, without}
use Rattle.rx_engine_alike_laws.proofs.Promised.{Promised, kept, Says, says, silent, where_so, so, and_so, none_so}
use Rattle.rx_engine_alike_laws.proofs.Variables.{is_in_so, is_new_so}

pub some_same : {A : Type 0} {a b : A} → Some a ≡ Some b → a ≡ b
some_same e = cc

pub none_some : {A : Type 0} {a : A} → None ≡ Some a → ⊥
none_some e = cc

-- ---- lists of variables

pub not_in_so : (x : ℕ) (ys : List ℕ) → Says (In x ys → ⊥) (not (is_in x ys))
not_in_so x [] = says (λ i. i)
not_in_so x (y ∷ ys) = by (nat_eq x y) (is_in x ys) (λ e k. true_false (sym (eq-eqb x y k) ∙ e)) (not_in_so x ys)
  where
    true_false : true ≡ false → ⊥
    true_false e = cc

    neither : {P Q : Type 0} → (P → ⊥) → (Q → ⊥) → P ⊎ Q → ⊥
    neither f g (inl p) = f p
    neither f g (inr q) = g q

    by : (a b : Bool) → (a ≡ false → x ≡ y → ⊥) → Says (In x ys → ⊥) (not b) → Says (In x (y ∷ ys) → ⊥) (not (a || b))
    by true b f s = silent
    by false b f s = so (λ g i. neither (f refl) g i) s

-- ---- where a variable is found

-- in front, or among the others
pub seen_first : (b : ℕ × Sight) (R : Renaming) (x : ℕ) {e : Sight} {P : Type 0} → sight_of (b ∷ R) x ≡ Some e → (x ≡ b.0 → b.1 ≡ e → P) → (sight_of R x ≡ Some e → P) → P
seen_first b R x {e} {P} s f g = by (nat_eq x b.0) (λ q. eqb-true x b.0 q) s
  where
    by : (t : Bool) → (t ≡ true → x ≡ b.0) → (if t then Some b.1 else sight_of R x) ≡ Some e → P
    by true i q = f (i refl) (some_same q)
    by false i q = g q

pub first_seen : (x : ℕ) (e : Sight) (R : Renaming) → sight_of ((x, e) ∷ R) x ≡ Some e
first_seen x e R = ap (λ t. if t then Some e else sight_of R x) (eq-eqb x x refl)

pub still_seen : (R : Renaming) (b : ℕ × Sight) → sight_of R b.0 ≡ None → Within R (b ∷ R)
still_seen R b none x e s = by (nat_eq x b.0) (λ q. eqb-true x b.0 q)
  where
    by : (t : Bool) → (t ≡ true → x ≡ b.0) → (if t then Some b.1 else sight_of R x) ≡ Some e
    by true i = absurd (none_some (sym none ∙ (ap (λ y. sight_of R y) (sym (i refl)) ∙ s)))
    by false i = s

-- ---- new variables

-- a renaming with one variable more, which stands for one that had none, and is another than all so far
pub data Joins (R : Renaming) (x y : ℕ) (h : How) : Renaming → Type 0 where
  joins : sight_of R x ≡ None → IsNew R y → Joins R x y h ((x, sight y h) ∷ R)

pub with_seen_so : (R : Renaming) (x y : ℕ) (h : How) → Promised (λ Ra. Joins R x y h Ra) (with_seen R x y h)
with_seen_so R x y h = where_so (and_so (none_so (sight_of R x)) (is_new_so R y) (λ a b. joins a b)) (λ p. kept p)

-- ---- variables that are elsewhere

pub special_sight_so : (o : Option Sight) → Says ((y : ℕ) × (o ≡ Some (sight y special))) (is_special_sight o)
special_sight_so None = silent
special_sight_so (Some e) = so (λ q. (e.to, ap (λ h. Some (sight e.to h)) q)) (special_so e.how)

pub where_special : (h : How) {P : Type 0} {b : Bool} → Says P b → Says (h ≡ special → P) (not (is_special h) || b)
where_special special s = so (λ p e. p) s
where_special (plain w) s = says (λ e. absurd (cc))
where_special (through w m) s = says (λ e. absurd (cc))
where_special copied s = says (λ e. absurd (cc))
where_special viewed s = says (λ e. absurd (cc))
where_special absent s = says (λ e. absurd (cc))

pub specials_among_so : (R : Renaming) (xs : List ℕ) → Says ((x y : ℕ) → sight_of R x ≡ Some (sight y special) → In x xs) (specials_among R xs)
specials_among_so [] xs = says (λ x y s. absurd (none_some s))
specials_among_so (b ∷ R) xs = and_so (where_special b.1.how (is_in_so b.0 xs)) (specials_among_so R xs)
    (λ f g x y s. seen_first b R x s (λ i j. subst (λ z. In z xs) (sym i) (f (ap (λ e. e.how) j))) (λ q. g x y q))

pub all_special_so : (R : Renaming) (xs : List ℕ) → Says (AllSpecial R xs) (all_special R xs)
all_special_so R [] = says (λ x i. absurd i)
all_special_so R (x ∷ xs) = and_so (special_sight_so (sight_of R x)) (all_special_so R xs) (λ s f z i. by s f z i)
  where
    by : (y : ℕ) × (sight_of R x ≡ Some (sight y special)) → AllSpecial R xs → (z : ℕ) → In z (x ∷ xs) → (y : ℕ) × (sight_of R z ≡ Some (sight y special))
    by s f z (inl e) = subst (λ z. (y : ℕ) × (sight_of R z ≡ Some (sight y special))) (sym e) s
    by s f z (inr i) = f z i

-- ---- without some variables

-- none of them is there
without_these : (xs : List ℕ) (R : Renaming) (x : ℕ) (e : Sight) → sight_of (without xs R) x ≡ Some e → is_in x xs ≡ false
without_these xs [] x e s = absurd (none_some s)
without_these xs (b ∷ R) x e s = by (λ q. without_these xs R x e q) (is_in b.0 xs) refl s
  where
    by : (sight_of (without xs R) x ≡ Some e → is_in x xs ≡ false) → (t : Bool) → is_in b.0 xs ≡ t → sight_of (if t then without xs R else b ∷ without xs R) x ≡ Some e → is_in x xs ≡ false
    by rest true i q = rest q
    by rest false i q = seen_first b (without xs R) x q (λ j k. ap (λ z. is_in z xs) j ∙ i) rest

-- all others are
pub without_within : (xs : List ℕ) (R : Renaming) → Within (without xs R) R
without_within xs [] x e s = s
without_within xs (b ∷ R) x e s = by (λ q. without_within xs R x e q) (is_in b.0 xs) refl (without_these xs (b ∷ R) x e s) s
  where
    true_false : true ≡ false → ⊥
    true_false e = cc

    apart : is_in b.0 xs ≡ true → is_in x xs ≡ false → (t : Bool) → nat_eq x b.0 ≡ t → sight_of R x ≡ Some e → (if t then Some b.1 else sight_of R x) ≡ Some e
    apart i n true k q = absurd (true_false (sym i ∙ (ap (λ z. is_in z xs) (sym (eqb-true x b.0 k)) ∙ n)))
    apart i n false k q = q

    beside : (sight_of (without xs R) x ≡ Some e → sight_of R x ≡ Some e) → (t : Bool) → (if t then Some b.1 else sight_of (without xs R) x) ≡ Some e → (if t then Some b.1 else sight_of R x) ≡ Some e
    beside rest true q = q
    beside rest false q = rest q

    by : (sight_of (without xs R) x ≡ Some e → sight_of R x ≡ Some e) → (t : Bool) → is_in b.0 xs ≡ t → is_in x xs ≡ false → sight_of (if t then without xs R else b ∷ without xs R) x ≡ Some e
        → sight_of (b ∷ R) x ≡ Some e
    by rest true i n q = apart i n (nat_eq x b.0) refl (rest q)
    by rest false i n q = beside rest (nat_eq x b.0) q

is_in_of : (x : ℕ) (xs : List ℕ) → Among x xs → is_in x xs ≡ true
is_in_of x _ (here {l = l}) = ap (λ t. t || is_in x l) (eq-eqb x x refl)
is_in_of x _ (there {b = b} {l = l} i) = by (nat_eq x b) (is_in_of x l i)
  where
    by : (t : Bool) → is_in x l ≡ true → (t || is_in x l) ≡ true
    by true e = refl
    by false e = e

pub not_there : (xs : List ℕ) (R : Renaming) (x : ℕ) {e : Sight} → sight_of (without xs R) x ≡ Some e → Among x xs → ⊥
not_there xs R x {e} s i = true_false (sym (is_in_of x xs i) ∙ without_these xs R x e s)
  where
    true_false : true ≡ false → ⊥
    true_false e = cc
