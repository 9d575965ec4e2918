-- Declarations by their numbers: one more, another stage, those of a pattern that become known; pieces that are made.
use Rattle.std.specs.Prelude.{nat_le, nat_lt}
use Rattle.std.proofs.Common.{◌≡◌, ◌≤◌, ◌<◌, ◌+◌, ◌-◌, ℕ, zero, suc, Bool, true, false, List, [], ◌∷◌, ◌++◌, length, map, take, drop, Some, None, option_map, slice_get, slice_set, get_or, refl, ap, arith}
use Rattle.rx_typed.specs.declared.nodes.Declaration.{Declaration}
use Rattle.rx_typed.specs.Naming.{as_known, known_among}
use Rattle.rx_engine_changed.specs.Beside.{Piece, Grows, stays, and_pair, and_own, and_instead, IsPiece, older, Numbers, AllCorrespond}

-- ---- one more

pub newest_at : {A : Type 0} (vs : List A) (d : A) (n : ℕ) → n ≡ length vs → slice_get (vs ++ d ∷ []) n ≡ Some d
newest_at [] d zero e = refl
newest_at [] d (suc n) e = absurd (omega (arith, e))
newest_at (v ∷ vs) d zero e = absurd (omega (arith, e))
newest_at (v ∷ vs) d (suc n) e = newest_at vs d n (omega (arith, e))

pub older_at : {A : Type 0} (vs : List A) (d : A) (n : ℕ) → (n ≡ length vs → ⊥) → slice_get (vs ++ d ∷ []) n ≡ slice_get vs n
older_at [] d zero w = absurd (w refl)
older_at [] d (suc n) w = refl
older_at (v ∷ vs) d zero w = refl
older_at (v ∷ vs) d (suc n) w = older_at vs d n (λ e. w (omega (arith, e)))

pub one_longer : {A : Type 0} (vs : List A) (d : A) → length (vs ++ d ∷ []) ≡ suc (length vs)
one_longer [] d = refl
one_longer (v ∷ vs) d = ap suc (one_longer vs d)

-- ---- another at a place

pub set_there : {A : Type 0} (vs : List A) (n : ℕ) (d : A) → slice_get (slice_set vs n d) n ≡ option_map (λ (x : A). d) (slice_get vs n)
set_there [] n d = refl
set_there (v ∷ vs) zero d = refl
set_there (v ∷ vs) (suc n) d = set_there vs n d

pub set_elsewhere : {A : Type 0} (vs : List A) (n k : ℕ) (d : A) → (k ≡ n → ⊥) → slice_get (slice_set vs n d) k ≡ slice_get vs k
set_elsewhere [] n k d w = refl
set_elsewhere (v ∷ vs) zero zero d w = absurd (w refl)
set_elsewhere (v ∷ vs) zero (suc k) d w = refl
set_elsewhere (v ∷ vs) (suc n) zero d w = refl
set_elsewhere (v ∷ vs) (suc n) (suc k) d w = set_elsewhere vs n k d (λ e. w (ap suc e))

pub set_many : {A : Type 0} (vs : List A) (n : ℕ) (d : A) → length (slice_set vs n d) ≡ length vs
set_many [] n d = refl
set_many (v ∷ vs) zero d = refl
set_many (v ∷ vs) (suc n) d = ap suc (set_many vs n d)

-- what is there is what is read there
pub read_at : {A : Type 0} (vs : List A) (n : ℕ) (d x : A) → slice_get vs n ≡ Some x → get_or vs n d ≡ x
read_at [] n d x e = absurd (cc)
read_at (v ∷ vs) zero d x e = cc
read_at (v ∷ vs) (suc n) d x e = read_at vs n d x e

pub missing_at : {A : Type 0} (vs : List A) (n : ℕ) (d : A) → slice_get vs n ≡ None → get_or vs n d ≡ d
missing_at [] n d e = refl
missing_at (v ∷ vs) zero d e = absurd (cc)
missing_at (v ∷ vs) (suc n) d e = missing_at vs n d e

pub there_below : {A : Type 0} (vs : List A) (n : ℕ) (x : A) → slice_get vs n ≡ Some x → n < length vs
there_below [] n x e = absurd (cc)
there_below (v ∷ vs) zero x e = omega arith
there_below (v ∷ vs) (suc n) x e = let h = there_below vs n x e in omega (arith, h)

-- ---- those of a pattern

abbrev pub Within : ℕ → ℕ → ℕ → Type 0
Within i j n = (i ≤ n) × (n < j)

known_many_there : (k n : ℕ) (ds : List Declaration) → n < k → slice_get (map as_known (take k ds) ++ drop k ds) n ≡ option_map as_known (slice_get ds n)
known_many_there zero n ds h = absurd (omega (arith, h))
known_many_there (suc k) n [] h = refl
known_many_there (suc k) zero (d ∷ ds) h = refl
known_many_there (suc k) (suc n) (d ∷ ds) h = known_many_there k n ds (omega (arith, h))

known_many_behind : (k n : ℕ) (ds : List Declaration) → k ≤ n → slice_get (map as_known (take k ds) ++ drop k ds) n ≡ slice_get ds n
known_many_behind zero n ds h = refl
known_many_behind (suc k) n [] h = refl
known_many_behind (suc k) zero (d ∷ ds) h = absurd (omega (arith, h))
known_many_behind (suc k) (suc n) (d ∷ ds) h = known_many_behind k n ds (omega (arith, h))

nothing_known : (k n : ℕ) → slice_get (map as_known (take k []) ++ drop k []) n ≡ None
nothing_known zero n = refl
nothing_known (suc k) n = refl

known_there : (i k n : ℕ) (ds : List Declaration) → i ≤ n → n < i + k → slice_get (known_among i k ds) n ≡ option_map as_known (slice_get ds n)
known_there zero k n ds h g = known_many_there k n ds (omega (arith, g))
known_there (suc i) k zero ds h g = absurd (omega (arith, h))
known_there (suc i) k (suc n) [] h g = nothing_known k (suc n)
known_there (suc i) k (suc n) (d ∷ ds) h g = known_there i k n ds (omega (arith, h)) (omega (arith, g))

known_before : (i k n : ℕ) (ds : List Declaration) → n < i → slice_get (known_among i k ds) n ≡ slice_get ds n
known_before zero k n ds h = absurd (omega (arith, h))
known_before (suc i) k zero [] h = nothing_known k zero
known_before (suc i) k (suc n) [] h = nothing_known k (suc n)
known_before (suc i) k zero (d ∷ ds) h = refl
known_before (suc i) k (suc n) (d ∷ ds) h = known_before i k n ds (omega (arith, h))

known_behind : (i k n : ℕ) (ds : List Declaration) → i + k ≤ n → slice_get (known_among i k ds) n ≡ slice_get ds n
known_behind zero k n ds h = known_many_behind k n ds (omega (arith, h))
known_behind (suc i) k zero ds h = absurd (omega (arith, h))
known_behind (suc i) k (suc n) [] h = nothing_known k (suc n)
known_behind (suc i) k (suc n) (d ∷ ds) h = known_behind i k n ds (omega (arith, h))

pub becomes_known : (i j n : ℕ) (ds : List Declaration) → Within i j n → slice_get (known_among i (j - i) ds) n ≡ option_map as_known (slice_get ds n)
becomes_known i j n ds h = known_there i (j - i) n ds h.0 (let a = h.0 in let b = h.1 in omega (arith, a, b))

pub stays_known : (i j n : ℕ) (ds : List Declaration) → i ≤ j → (Within i j n → ⊥) → slice_get (known_among i (j - i) ds) n ≡ slice_get ds n
stays_known i j n ds g w = by (nat_le i n) refl (nat_lt n j) refl
  where
    by : (b : Bool) → nat_le i n ≡ b → (d : Bool) → nat_lt n j ≡ d → slice_get (known_among i (j - i) ds) n ≡ slice_get ds n
    by false e d f = known_before i (j - i) n ds (grind arith)
    by true e false f = known_behind i (j - i) n ds (let a : j ≤ n = grind arith in omega (arith, a, g))
    by true e true f = absurd (w ((grind arith), (grind arith)))

pub known_length : (i k : ℕ) (ds : List Declaration) → length (known_among i k ds) ≡ length ds
known_length zero zero ds = refl
known_length zero (suc k) [] = refl
known_length zero (suc k) (d ∷ ds) = ap suc (known_length zero k ds)
known_length (suc i) zero [] = refl
known_length (suc i) (suc k) [] = refl
known_length (suc i) k (d ∷ ds) = ap suc (known_length i k ds)

-- ---- pieces

pub grows_on : {l : List Piece} {a a' : ℕ} {m : List Piece} {b b' : ℕ} {n : List Piece} {c c' : ℕ} → Grows l a a' m b b' → Grows m b b' n c c' → Grows l a a' n c c'
grows_on (stays h h') (stays k k') = stays (omega (arith, h, k)) (omega (arith, h', k'))
grows_on (and_pair g h h') (stays k k') = and_pair g (omega (arith, h, k)) (omega (arith, h', k'))
grows_on (and_own g i i' h h') (stays k k') = and_own g i i' (omega (arith, h, k)) (omega (arith, h', k'))
grows_on (and_instead g i j l m) (stays k k') = and_instead g (omega (arith, i, k)) j l (omega (arith, m, k'))
grows_on g (and_pair f k k') = and_pair (grows_on g f) k k'
grows_on g (and_own f i i' k k') = and_own (grows_on g f) i i' k k'
grows_on g (and_instead f i j l m) = and_instead (grows_on g f) i j l m

pub still_piece : {l : List Piece} {a a' : ℕ} {n : List Piece} {b b' : ℕ} {p : Piece} → Grows l a a' n b b' → IsPiece p l → IsPiece p n
still_piece (stays h h') i = i
still_piece (and_pair g h h') i = older (still_piece g i)
still_piece (and_own g k k' h h') i = older (still_piece g i)
still_piece (and_instead g k l m o) i = older (still_piece g i)

pub before : {l : List Piece} {a a' : ℕ} {n : List Piece} {b b' : ℕ} (q : Numbers) → Grows l a a' n b b' → AllCorrespond q n → AllCorrespond q l
before q g w p i = w p (still_piece g i)

pub begins_later : {l : List Piece} {a a' d d' : ℕ} {n : List Piece} {b b' : ℕ} → a ≤ d → a' ≤ d' → Grows l d d' n b b' → Grows l a a' n b b'
begins_later h h' g = grows_on (stays h h') g
