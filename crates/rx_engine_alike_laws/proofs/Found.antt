-- What a walk over two trees finds, and what is promised then: beside the answer's tree stands one in which references are read, which the
-- text's is like; of one with an open block where that block is filled. Combinators that go with those of the walk.
use Rattle.std.proofs.Common.{◌≡◌, ℕ, ◌+◌, ◌≤◌, Bool, Option, refl, sym, ap, subst, arith}
use Rattle.rx_engine_alike.specs.Likeness.{Hole, Likeness, unlike, alike, alike_but, both, provided, when}
use Rattle.rx_engine_alike_laws.proofs.Promised.{Promised, kept, nothing, Says, says, silent}

-- a tree in place of the answer's, which the text's is like with one turn more
pub data Filling {E : Type 0} (Rel : E → E → Type 0) (L : ℕ → E → Type 0) (e : E) : Type 0 where
  filling : (z : E) → Rel e z → L 1 z → Filling Rel L e

-- By how the open block is filled, and by what it takes that nothing is read: by `L k z` the text's tree is like `z` with so many further turns.
pub data Found (Filled : Hole → Type 0) (Whole : Type 0) {E : Type 0} (Rel : E → E → Type 0) (L : ℕ → E → Type 0) (e : E) : Likeness → Type 0 where
  all_alike : (z : E) → Rel e z → (Whole → e ≡ z) → ((k : ℕ) → L k z) → Found Filled Whole Rel L e alike
  alike_around : {h : Hole} → (Filled h → Filling Rel L e) → Found Filled Whole Rel L e (alike_but h)
  not_alike : Found Filled Whole Rel L e unlike

-- a part in another
fill : {A B : Type 0} {RA : A → A → Type 0} {RB : B → B → Type 0} {LA : ℕ → A → Type 0} {LB : ℕ → B → Type 0} {a : A} {b : B} (c : A → B) → ((z : A) → RA a z → RB b (c z))
    → ((z : A) → LA 1 z → LB 1 (c z)) → Filling RA LA a → Filling RB LB b
fill c r m (filling z x l) = filling (c z) (r z x) (m z l)

module _ {F : Hole → Type 0} {W : Type 0} where
  pub found_at : {A B : Type 0} {RA : A → A → Type 0} {RB : B → B → Type 0} {LA : ℕ → A → Type 0} {LB : ℕ → B → Type 0} {a : A} {b : B} {l : Likeness} (c : A → B)
      → ((z : A) → RA a z → RB b (c z)) → ((z : A) → W → a ≡ z → b ≡ c z)
      → ((k : ℕ) (z : A) → LA k z → LB k (c z)) → Found F W RA LA a l → Found F W RB LB b l
  found_at c r s m (all_alike z x w f) = all_alike (c z) (r z x) (λ v. s z v (w v)) (λ k. m k z (f k))
  found_at c r s m (alike_around g) = alike_around (λ h. fill c r (λ z l. m 1 z l) (g h))
  found_at c r s m not_alike = not_alike

  pub found : {A B : Type 0} {RA : A → A → Type 0} {RB : B → B → Type 0} {LA : ℕ → A → Type 0} {LB : ℕ → B → Type 0} {a : A} {l : Likeness} (c : A → B) → ((z : A) → RA a z → RB (c a) (c z))
      → ((k : ℕ) (z : A) → LA k z → LB k (c z))
      → Found F W RA LA a l → Found F W RB LB (c a) l
  found c r m h = found_at c r (λ z v e. ap c e) m h

  -- two parts, each with its turns
  pub found_both : {A B D : Type 0} {RA : A → A → Type 0} {RB : B → B → Type 0} {RD : D → D → Type 0} {LA : ℕ → A → Type 0} {LB : ℕ → B → Type 0} {LD : ℕ → D → Type 0}
      {a : A} {b : B} {l n : Likeness} (c : A → B → D)
      → ((z : A) (y : B) → RA a z → RB b y → RD (c a b) (c z y)) → ((i j k : ℕ) (z : A) (y : B) → i + j ≤ k → LA i z → LB j y → LD k (c z y)) → Found F W RA LA a l → Found F W RB LB b n
      → Found F W RD LD (c a b) (both l n)
  found_both {D = D} {a = a} {b = b} c r m (all_alike z x w f) (all_alike y q v g) = all_alike (c z y) (r z y x q) (λ o. by (w o) (v o)) (λ k. m k 0 k z y (omega arith) (f k) (g 0))
    where
      by : a ≡ z → b ≡ y → c a b ≡ c z y
      by p q = cc
  found_both c r m (all_alike z x w f) (alike_around g) = alike_around (λ h. fill (λ y. c z y) (λ y q. r z y x q) (λ y n. m 0 1 1 z y (omega arith) (f 0) n) (g h))
  found_both c r m (all_alike z x w f) not_alike = not_alike
  found_both c r m (alike_around f) (all_alike y q v g) = alike_around (λ h. fill (λ z. c z y) (λ z x. r z y x q) (λ z n. m 1 0 1 z y (omega arith) n (g 0)) (f h))
  found_both c r m (alike_around f) (alike_around g) = not_alike
  found_both c r m (alike_around f) not_alike = not_alike
  found_both c r m not_alike h = not_alike

  -- and with the same turns, where one of the two is run
  pub found_either : {A B D : Type 0} {RA : A → A → Type 0} {RB : B → B → Type 0} {RD : D → D → Type 0} {LA : ℕ → A → Type 0} {LB : ℕ → B → Type 0} {LD : ℕ → D → Type 0}
      {a : A} {b : B} {l n : Likeness} (c : A → B → D)
      → ((z : A) (y : B) → RA a z → RB b y → RD (c a b) (c z y)) → ((k : ℕ) (z : A) (y : B) → LA k z → LB k y → LD k (c z y)) → Found F W RA LA a l → Found F W RB LB b n
      → Found F W RD LD (c a b) (both l n)
  found_either {a = a} {b = b} c r m (all_alike z x w f) (all_alike y q v g) = all_alike (c z y) (r z y x q) (λ o. by (w o) (v o)) (λ k. m k z y (f k) (g k))
    where
      by : a ≡ z → b ≡ y → c a b ≡ c z y
      by p q = cc
  found_either c r m (all_alike z x w f) (alike_around g) = alike_around (λ h. fill (λ y. c z y) (λ y q. r z y x q) (λ y n. m 1 z y (f 1) n) (g h))
  found_either c r m (all_alike z x w f) not_alike = not_alike
  found_either c r m (alike_around f) (all_alike y q v g) = alike_around (λ h. fill (λ z. c z y) (λ z x. r z y x q) (λ z n. m 1 z y n (g 1)) (f h))
  found_either c r m (alike_around f) (alike_around g) = not_alike
  found_either c r m (alike_around f) not_alike = not_alike
  found_either c r m not_alike h = not_alike

  -- nothing is open or read here
  pub found_same : {E : Type 0} {Rel : E → E → Type 0} {L : ℕ → E → Type 0} {e : E} → Rel e e → ((k : ℕ) → L k e) → Found F W Rel L e alike
  found_same {e = e} r l = all_alike e r (λ w. refl) l

  pub found_if : {E : Type 0} {Rel : E → E → Type 0} {L : ℕ → E → Type 0} {e : E} {P : Type 0} {b : Bool} {l : Likeness} → Says P b → (P → Found F W Rel L e l) → Found F W Rel L e (provided b l)
  found_if (says p) g = g p
  found_if silent g = not_alike

  pub found_when : {E A : Type 0} {Rel : E → E → Type 0} {L : ℕ → E → Type 0} {e : E} {P : A → Type 0} {o : Option A} {f : A → Likeness} → Promised P o → ((a : A) → P a → Found F W Rel L e (f a))
      → Found F W Rel L e (when o f)
  found_when (kept {a = a} p) g = g a p
  found_when nothing g = not_alike

  -- what is made of the parts is the whole that was looked at
  pub found_seen : {E A : Type 0} {Rel : E → E → Type 0} {L : ℕ → E → Type 0} {e : E} {o : Option A} {f : A → Likeness} (c : A → E) → Promised (λ a. c a ≡ e) o
      → ((a : A) → Found F W Rel L (c a) (f a)) → Found F W Rel L e (when o f)
  found_seen {Rel = Rel} {L = L} {f = f} c (kept {a = a} q) g = subst (λ e. Found F W Rel L e (f a)) q (g a)
  found_seen c nothing g = not_alike

-- ---- what it comes to

pub alike_found : {F : Hole → Type 0} {W : Type 0} {E : Type 0} {Rel : E → E → Type 0} {L : ℕ → E → Type 0} {e : E} (l : Likeness) → Found F W Rel L e l → l ≡ alike
    → (z : E) × Rel e z × (W → e ≡ z) × ((k : ℕ) → L k z)
alike_found _ (all_alike z x w f) q = (z, x, w, f)
alike_found _ (alike_around {h = h} g) q = absurd (by q)
  where
    by : {h : Hole} → alike_but h ≡ alike → ⊥
    by q = cc
alike_found _ not_alike q = absurd (by q)
  where
    by : unlike ≡ alike → ⊥
    by q = cc

pub but_found : {F : Hole → Type 0} {W : Type 0} {E : Type 0} {Rel : E → E → Type 0} {L : ℕ → E → Type 0} {e : E} {h : Hole} (l : Likeness) → Found F W Rel L e l → l ≡ alike_but h → F h
    → (z : E) × Rel e z × L 1 z
but_found _ (all_alike z x w f) q i = absurd (by q)
  where
    by : {h : Hole} → alike ≡ alike_but h → ⊥
    by q = cc
but_found {F = F} {Rel = Rel} {L = L} {e = e} _ (alike_around g) q i = by (g (subst F (sym (same q)) i))
  where
    same : {h k : Hole} → alike_but h ≡ alike_but k → h ≡ k
    same q = cc

    by : Filling Rel L e → (z : _) × Rel e z × L 1 z
    by (filling z x l) = (z, x, l)
but_found _ not_alike q i = absurd (by q)
  where
    by : {h : Hole} → unlike ≡ alike_but h → ⊥
    by q = cc
