-- What writes and new slots leave of the memory: by recursion on its slots.
use Rattle.std.proofs.Common.{◌≡◌, ℕ, zero, suc, ◌<◌, List, [], ◌∷◌, ◌++◌, length, Some, refl, ap, arith}
use Rattle.rx_meaning.specs.Values.{Value, element, with_element}

pub put_same : (m : List Value) (i : ℕ) (v w : Value) → element m i ≡ Some v → element (with_element m i w) i ≡ Some w
put_same [] i v w e = absurd (cc)
put_same (a ∷ m) zero v w e = refl
put_same (a ∷ m) (suc i) v w e = put_same m i v w e

pub put_other : (m : List Value) (i k : ℕ) (w : Value) → (k ≡ i → ⊥) → element (with_element m i w) k ≡ element m k
put_other [] i k w n = refl
put_other (a ∷ m) zero zero w n = absurd (n refl)
put_other (a ∷ m) zero (suc k) w n = refl
put_other (a ∷ m) (suc i) zero w n = refl
put_other (a ∷ m) (suc i) (suc k) w n = put_other m i k w (λ e. n (ap suc e))

pub length_put : (m : List Value) (i : ℕ) (w : Value) → length (with_element m i w) ≡ length m
length_put [] i w = refl
length_put (a ∷ m) zero w = refl
length_put (a ∷ m) (suc i) w = ap suc (length_put m i w)

pub at_end : (m : List Value) (v : Value) → element (m ++ v ∷ []) (length m) ≡ Some v
at_end [] v = refl
at_end (a ∷ m) v = at_end m v

pub at_before : (m : List Value) (v : Value) (i : ℕ) → i < length m → element (m ++ v ∷ []) i ≡ element m i
at_before [] v i h = absurd (omega arith)
at_before (a ∷ m) v zero h = refl
at_before (a ∷ m) v (suc i) h = at_before m v i (omega arith)

pub at_below : (m : List Value) (i : ℕ) (v : Value) → element m i ≡ Some v → i < length m
at_below [] i v e = absurd (cc)
at_below (a ∷ m) zero v e = omega arith
at_below (a ∷ m) (suc i) v e = let h = at_below m i v e in omega arith

pub length_more : (m : List Value) (v : Value) → length (m ++ v ∷ []) ≡ suc (length m)
length_more [] v = refl
length_more (a ∷ m) v = ap suc (length_more m v)
