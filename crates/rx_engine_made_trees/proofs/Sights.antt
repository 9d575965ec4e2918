-- What is seen with further variables.
use Rattle.std.proofs.Common.{◌≡◌, ℕ, nat_eq, Bool, true, false, List, [], ◌∷◌, Option, Some, None, if◌then◌else◌, refl, ap, ◌∙◌, sym, subst, ◌⊎◌, inl, inr, eq-eqb, eqb-true}
use Rattle.rx_engine_simulation.specs.Sights.{In, How, Sight, sight, Renaming, sight_of, IsNew}
use Rattle.rx_engine_simulation.specs.Arrivals.{Within}
use Rattle.rx_engine_simulation.specs.Packing.{AreNew}
use Rattle.rx_engine_made_trees.specs.Seen.{AreUnseen, Distinct, as_if, handed_back, seen_so, specials, with_back, without, without_one}

some_same : {A : Type 0} {a b : A} → Some a ≡ Some b → a ≡ b
some_same e = cc

pub none_some : {A : Type 0} {a : A} → None ≡ Some a → ⊥
none_some e = cc

-- in front, or among the others
pub seen_first : (b : ℕ × Sight) (R : Renaming) (x : ℕ) {e : Sight} {P : Type 0} → sight_of (b ∷ R) x ≡ Some e → (x ≡ b.0 → b.1 ≡ e → P) → (sight_of R x ≡ Some e → P) → P
seen_first b R x {e} {P} s f g = by (nat_eq x b.0) (λ q. eqb-true x b.0 q) s
  where
    by : (t : Bool) → (t ≡ true → x ≡ b.0) → (if t then Some b.1 else sight_of R x) ≡ Some e → P
    by true i q = f (i refl) (some_same q)
    by false i q = g q

pub first_seen : (x : ℕ) (e : Sight) (R : Renaming) → sight_of ((x, e) ∷ R) x ≡ Some e
first_seen x e R = ap (λ t. if t then Some e else sight_of R x) (eq-eqb x x refl)

pub later_seen : (b : ℕ × Sight) (R : Renaming) (x : ℕ) → (x ≡ b.0 → ⊥) → sight_of (b ∷ R) x ≡ sight_of R x
later_seen b R x k = by (nat_eq x b.0) (λ q. eqb-true x b.0 q)
  where
    by : (t : Bool) → (t ≡ true → x ≡ b.0) → (if t then Some b.1 else sight_of R x) ≡ sight_of R x
    by true i = absurd (k (i refl))
    by false i = refl

-- what was there stays so
pub still_seen : (b : ℕ × Sight) (R : Renaming) → sight_of R b.0 ≡ None → Within R (b ∷ R)
still_seen b R none x e s = later_seen b R x (λ i. none_some (sym none ∙ (ap (λ y. sight_of R y) (sym i) ∙ s))) ∙ s

pub new_behind : (R : Renaming) (x q z : ℕ) (h : How) → (z ≡ q → ⊥) → IsNew R z → IsNew ((x, sight q h) ∷ R) z
new_behind R x q z h k new y e s i = seen_first (x, sight q h) R y s (λ a b. k (sym i ∙ ap (λ s. s.to) (sym b))) (λ s. new y e s i)

pub are_new_behind : (R : Renaming) (x q : ℕ) (h : How) (qs : List ℕ) → (In q qs → ⊥) → AreNew R qs → AreNew ((x, sight q h) ∷ R) qs
are_new_behind R x q h [] k n = tt
are_new_behind R x q h (z ∷ qs) k n = (new_behind R x q z h (λ i. k (inl (sym i))) n.0, n.1, are_new_behind R x q h qs (λ i. k (inr i)) n.2)

pub are_unseen_behind : (R : Renaming) (b : ℕ × Sight) (xs : List ℕ) → (In b.0 xs → ⊥) → AreUnseen R xs → AreUnseen (b ∷ R) xs
are_unseen_behind R b [] k n = tt
are_unseen_behind R b (x ∷ xs) k n = (later_seen b R x (λ i. k (inl (sym i))) ∙ n.0, n.1, are_unseen_behind R b xs (λ i. k (inr i)) n.2)

-- ---- rows of further variables

pub seen_so_stays : (R : Renaming) (xs : List ℕ) (hs : List How) (zs : List ℕ) → AreUnseen R xs → Within R (seen_so R xs hs zs)
seen_so_stays R [] hs zs u x e s = s
seen_so_stays R (x ∷ xs) [] zs u y e s = s
seen_so_stays R (x ∷ xs) (h ∷ hs) [] u y e s = s
seen_so_stays R (x ∷ xs) (h ∷ hs) (z ∷ zs) u y e s = seen_so_stays ((x, sight z h) ∷ R) xs hs zs (are_unseen_behind R (x, sight z h) xs u.1 u.2) y e (still_seen (x, sight z h) R u.0 y e s)

pub seen_so_other : (R : Renaming) (xs : List ℕ) (hs : List How) (zs : List ℕ) (y : ℕ) → (In y xs → ⊥) → sight_of (seen_so R xs hs zs) y ≡ sight_of R y
seen_so_other R [] hs zs y k = refl
seen_so_other R (x ∷ xs) [] zs y k = refl
seen_so_other R (x ∷ xs) (h ∷ hs) [] y k = refl
seen_so_other R (x ∷ xs) (h ∷ hs) (z ∷ zs) y k = seen_so_other ((x, sight z h) ∷ R) xs hs zs y (λ i. k (inr i)) ∙ later_seen (x, sight z h) R y (λ i. k (inl i))

-- what is seen there was seen before, or is one of these
pub seen_so_from : (R : Renaming) (xs : List ℕ) (hs : List How) (zs : List ℕ) (y : ℕ) (e : Sight) → sight_of (seen_so R xs hs zs) y ≡ Some e → (sight_of R y ≡ Some e) ⊎ In e.to zs
seen_so_from R [] hs zs y e s = inl s
seen_so_from R (x ∷ xs) [] zs y e s = inl s
seen_so_from R (x ∷ xs) (h ∷ hs) [] y e s = inl s
seen_so_from R (x ∷ xs) (h ∷ hs) (z ∷ zs) y e s = by (seen_so_from ((x, sight z h) ∷ R) xs hs zs y e s)
  where
    by : (sight_of ((x, sight z h) ∷ R) y ≡ Some e) ⊎ In e.to zs → (sight_of R y ≡ Some e) ⊎ In e.to (z ∷ zs)
    by (inl q) = seen_first (x, sight z h) R y q (λ i j. inr (inl (ap (λ s. s.to) (sym j)))) (λ q. inl q)
    by (inr i) = inr (inr i)

-- ---- without some

pub without_it : (x : ℕ) (R : Renaming) → sight_of (without_one x R) x ≡ None
without_it x [] = refl
without_it x (b ∷ R) = by (without_it x R) (nat_eq x b.0) refl
  where
    by : sight_of (without_one x R) x ≡ None → (t : Bool) → nat_eq x b.0 ≡ t → sight_of (if t then without_one x R else b ∷ without_one x R) x ≡ None
    by more true q = more
    by more false q = ap (λ (t : Bool). if t then Some b.1 else sight_of (without_one x R) x) q ∙ more

pub one_other : (x y : ℕ) (R : Renaming) → (y ≡ x → ⊥) → sight_of (without_one x R) y ≡ sight_of R y
one_other x y [] k = refl
one_other x y (b ∷ R) k = by (one_other x y R k) (nat_eq x b.0) (λ q. eqb-true x b.0 q)
  where
    by : sight_of (without_one x R) y ≡ sight_of R y → (t : Bool) → (t ≡ true → x ≡ b.0) → sight_of (if t then without_one x R else b ∷ without_one x R) y ≡ sight_of (b ∷ R) y
    by more true q = more ∙ sym (later_seen b R y (λ i. k (i ∙ sym (q refl))))
    by more false q = ap (λ o. if nat_eq y b.0 then Some b.1 else o) more

same_or_not : (x y : ℕ) → (x ≡ y) ⊎ (x ≡ y → ⊥)
same_or_not x y = by (nat_eq x y) (λ q. eqb-true x y q) (λ i. eq-eqb x y i)
  where
    no : true ≡ false → ⊥
    no e = cc

    by : (t : Bool) → (t ≡ true → x ≡ y) → (x ≡ y → t ≡ true) → (x ≡ y) ⊎ (x ≡ y → ⊥)
    by true f g = inl (f refl)
    by false f g = inr (λ i. no (sym (g i)))

pub in_or_not : (x : ℕ) (xs : List ℕ) → In x xs ⊎ (In x xs → ⊥)
in_or_not x [] = inr (λ i. i)
in_or_not x (y ∷ ys) = by (same_or_not x y) (in_or_not x ys)
  where
    neither : (x ≡ y → ⊥) → (In x ys → ⊥) → (x ≡ y) ⊎ In x ys → ⊥
    neither f g (inl p) = f p
    neither f g (inr q) = g q

    by : (x ≡ y) ⊎ (x ≡ y → ⊥) → In x ys ⊎ (In x ys → ⊥) → In x (y ∷ ys) ⊎ (In x (y ∷ ys) → ⊥)
    by (inl i) o = inl (inl i)
    by (inr k) (inl i) = inl (inr i)
    by (inr k) (inr j) = inr (neither k j)

pub without_other : (xs : List ℕ) (R : Renaming) (y : ℕ) → (In y xs → ⊥) → sight_of (without xs R) y ≡ sight_of R y
without_other [] R y k = refl
without_other (x ∷ xs) R y k = one_other x y (without xs R) (λ i. k (inl i)) ∙ without_other xs R y (λ i. k (inr i))

pub without_these : (xs : List ℕ) (R : Renaming) (y : ℕ) → In y xs → sight_of (without xs R) y ≡ None
without_these (x ∷ xs) R y (inl i) = ap (λ z. sight_of (without_one x (without xs R)) z) i ∙ without_it x (without xs R)
without_these (x ∷ xs) R y (inr i) = by (without_these xs R y i) (same_or_not y x)
  where
    by : sight_of (without xs R) y ≡ None → (y ≡ x) ⊎ (y ≡ x → ⊥) → sight_of (without_one x (without xs R)) y ≡ None
    by more (inl j) = ap (λ z. sight_of (without_one x (without xs R)) z) j ∙ without_it x (without xs R)
    by more (inr k) = one_other x y (without xs R) k ∙ more
without_these [] R y i = absurd i

pub without_within : (xs : List ℕ) (R : Renaming) → Within (without xs R) R
without_within xs R y e s = by (in_or_not y xs)
  where
    by : In y xs ⊎ (In y xs → ⊥) → sight_of R y ≡ Some e
    by (inl i) = absurd (none_some (sym (without_these xs R y i) ∙ s))
    by (inr k) = sym (without_other xs R y k) ∙ s

pub unseen_without : (xs ys : List ℕ) (R : Renaming) → Distinct ys → ((y : ℕ) → In y ys → In y xs) → AreUnseen (without xs R) ys
unseen_without xs [] R d f = tt
unseen_without xs (y ∷ ys) R d f = (without_these xs R y (f y (inl refl)), d.0, unseen_without xs ys R d.1 (λ z i. f z (inr i)))

-- ---- and with them again

as_if_other : (x : ℕ) (o : Option Sight) (Rc : Renaming) (y : ℕ) → (y ≡ x → ⊥) → sight_of (as_if x o Rc) y ≡ sight_of Rc y
as_if_other x None Rc y k = refl
as_if_other x (Some e) Rc y k = later_seen (x, e) Rc y k

pub back_other : (R Rc : Renaming) (xs : List ℕ) (y : ℕ) → (In y xs → ⊥) → sight_of (with_back R Rc xs) y ≡ sight_of Rc y
back_other R Rc [] y k = refl
back_other R Rc (x ∷ xs) y k = back_other R (as_if x (sight_of R x) Rc) xs y (λ i. k (inr i)) ∙ as_if_other x (sight_of R x) Rc y (λ i. k (inl i))

pub back_there : (R Rc : Renaming) (xs : List ℕ) (y : ℕ) (e : Sight) → Distinct xs → In y xs → sight_of R y ≡ Some e → sight_of (with_back R Rc xs) y ≡ Some e
back_there R Rc (x ∷ xs) y e d (inl i) s = subst (λ x. (In x xs → ⊥) → sight_of (with_back R (as_if x (sight_of R x) Rc) xs) y ≡ Some e) i
    (λ k. back_other R (as_if y (sight_of R y) Rc) xs y k ∙ (ap (λ o. sight_of (as_if y o Rc) y) s ∙ first_seen y e Rc)) d.0
back_there R Rc (x ∷ xs) y e d (inr i) s = back_there R (as_if x (sight_of R x) Rc) xs y e d.1 i s
back_there R Rc [] y e d i s = absurd i

as_if_from : (R : Renaming) (x : ℕ) (o : Option Sight) (Rc : Renaming) (y : ℕ) (e : Sight) → sight_of R x ≡ o → sight_of (as_if x o Rc) y ≡ Some e → (sight_of R y ≡ Some e) ⊎ (sight_of Rc y ≡ Some e)
as_if_from R x None Rc y e q s = inr s
as_if_from R x (Some f) Rc y e q s = seen_first (x, f) Rc y s (λ i j. inl (ap (λ z. sight_of R z) i ∙ (q ∙ ap Some j))) (λ s. inr s)

pub back_from : (R Rc : Renaming) (xs : List ℕ) (y : ℕ) (e : Sight) → sight_of (with_back R Rc xs) y ≡ Some e → (sight_of R y ≡ Some e) ⊎ (sight_of Rc y ≡ Some e)
back_from R Rc [] y e s = inr s
back_from R Rc (x ∷ xs) y e s = by (back_from R (as_if x (sight_of R x) Rc) xs y e s)
  where
    by : (sight_of R y ≡ Some e) ⊎ (sight_of (as_if x (sight_of R x) Rc) y ≡ Some e) → (sight_of R y ≡ Some e) ⊎ (sight_of Rc y ≡ Some e)
    by (inl q) = inl q
    by (inr q) = as_if_from R x (sight_of R x) Rc y e refl q

-- ---- what was handed out is back

pub back_within : (R : Renaming) (xs os : List ℕ) → Distinct xs → Within R (handed_back R xs os)
back_within R xs os d y e s = by (in_or_not y xs)
  where
    by : In y xs ⊎ (In y xs → ⊥) → sight_of (handed_back R xs os) y ≡ Some e
    by (inl i) = back_there R (seen_so (without xs R) xs (specials xs) os) xs y e d i s
    by (inr k) = back_other R (seen_so (without xs R) xs (specials xs) os) xs y k ∙ (seen_so_other (without xs R) xs (specials xs) os y k ∙ (without_other xs R y k ∙ s))

pub back_is : (R : Renaming) (xs os : List ℕ) (y : ℕ) (e : Sight) → sight_of (handed_back R xs os) y ≡ Some e → (sight_of R y ≡ Some e) ⊎ In e.to os
back_is R xs os y e s = by (back_from R (seen_so (without xs R) xs (specials xs) os) xs y e s)
  where
    further : (sight_of (without xs R) y ≡ Some e) ⊎ In e.to os → (sight_of R y ≡ Some e) ⊎ In e.to os
    further (inl q) = inl (without_within xs R y e q)
    further (inr i) = inr i

    by : (sight_of R y ≡ Some e) ⊎ (sight_of (seen_so (without xs R) xs (specials xs) os) y ≡ Some e) → (sight_of R y ≡ Some e) ⊎ In e.to os
    by (inl q) = inl q
    by (inr q) = further (seen_so_from (without xs R) xs (specials xs) os y e q)

pub new_back : (R : Renaming) (xs os : List ℕ) (y : ℕ) → IsNew R y → (In y os → ⊥) → IsNew (handed_back R xs os) y
new_back R xs os y n k z e s i = by (back_is R xs os z e s)
  where
    by : (sight_of R z ≡ Some e) ⊎ In e.to os → ⊥
    by (inl q) = n z e q i
    by (inr j) = k (subst (λ y. In y os) i j)

pub unseen_back : (R : Renaming) (xs os : List ℕ) (y : ℕ) → sight_of R y ≡ None → (In y xs → ⊥) → sight_of (handed_back R xs os) y ≡ None
unseen_back R xs os y n k = back_other R (seen_so (without xs R) xs (specials xs) os) xs y k ∙ (seen_so_other (without xs R) xs (specials xs) os y k ∙ (without_other xs R y k ∙ n))
