-- Pieces that were made in order tell a numbering of nodes, which can be undone; so do pairs of variables and loops that are one to one.
use Rattle.std.specs.Prelude.{◌==◌}
use Rattle.std.proofs.Common.{◌≡◌, ◌≤◌, ◌<◌, ◌+◌, ◌-◌, inl, inr, ℕ, nat_eq, Bool, true, false, ◌&&◌, ◌||◌, if◌then◌else◌, List, [], ◌∷◌, Option, Some, None, refl, sym, ap, ◌∙◌, subst, eq-eqb, eqb-true, arith}
use Rattle.rx_tree.specs.Lists.{Every}
use Rattle.rx_resolve_names.specs.Meant.{number}
use Rattle.rx_engine_names.specs.Renaming.{Has, Made, Renaming, Serves}
use Rattle.rx_engine_names.specs.Apart.{Apart, Below, Few, NoneAcross, Unlike}
use Rattle.rx_engine_blocks.specs.Paired.{Pairs, second_of, first_of_pair, or_greater, numbered, less, or_less, numbered_back, OneToOne, by_pairs}
use Rattle.rx_engine_blocks.proofs.Pairing.{numbered_there, numbered_from}
use Rattle.rx_engine_typing.specs.Corresponding.{StayApart}
use Rattle.rx_engine_changed.specs.Beside.{behind_own, first_own, Piece, paired, unpaired, replaced, Instead, Grows, stays, and_pair, and_own, and_instead, IsPiece, newest, older, Numbers, Follows, IsOneToOne, Corresponds}
use Rattle.rx_engine_changed.specs.Chosen.{node_pairs, has_pair, least, OneInstead, Chosen}
use Rattle.rx_engine_changed.proofs.Steps.{Decided, so, not_so, same_or_not}

some_is : (a b : ℕ) → ◌≡◌ {A = Option ℕ} (Some a) (Some b) → a ≡ b
some_is a b e = cc

none_some : (a : ℕ) → ◌≡◌ {A = Option ℕ} None (Some a) → ⊥
none_some a e = cc

-- ---- the newest pair first

same_true : (n m : ℕ) → n ≡ m → nat_eq n m ≡ true
same_true n m e = eq-eqb n m e

other_false : (n m : ℕ) → (n ≡ m → ⊥) → nat_eq n m ≡ false
other_false n m w = by (nat_eq n m) refl
  where
    by : (b : Bool) → nat_eq n m ≡ b → b ≡ false
    by true e = absurd (w (eqb-true n m e))
    by false e = refl

first_is : (k : ℕ) (m : ℕ) (ps : Pairs) (n : ℕ) → k ≡ n → second_of ((k, m) ∷ ps) n ≡ Some m
first_is k m ps n e = ap (λ (b : Bool). if b then Some m else second_of ps n) (same_true k n e)

later_is : (k m : ℕ) (ps : Pairs) (n : ℕ) → (k ≡ n → ⊥) → second_of ((k, m) ∷ ps) n ≡ second_of ps n
later_is k m ps n w = ap (λ (b : Bool). if b then Some m else second_of ps n) (other_false k n w)

first_back : (k m : ℕ) (ps : Pairs) (n : ℕ) → m ≡ n → first_of_pair ((k, m) ∷ ps) n ≡ Some k
first_back k m ps n e = ap (λ (b : Bool). if b then Some k else first_of_pair ps n) (same_true m n e)

later_back : (k m : ℕ) (ps : Pairs) (n : ℕ) → (m ≡ n → ⊥) → first_of_pair ((k, m) ∷ ps) n ≡ first_of_pair ps n
later_back k m ps n w = ap (λ (b : Bool). if b then Some k else first_of_pair ps n) (other_false m n w)

-- ---- pieces

abbrev FromNothing : List Piece → ℕ → ℕ → Type 0
FromNothing ps b b' = Grows [] 0 0 ps b b'

second_below : {ps : List Piece} {b b' : ℕ} (n m : ℕ) → FromNothing ps b b' → second_of (node_pairs ps) n ≡ Some m → (n < b) × (m < b')
second_below n m (stays h h') e = absurd (none_some m e)
second_below {b = b} {b' = b'} n m (and_pair {now = now} {n = k} {n' = l} g h h') e = by (same_or_not k n) (second_below n m g)
  where
    by : Decided (k ≡ n) → (second_of (node_pairs now) n ≡ Some m → (n < k) × (m < l)) → (n < b) × (m < b')
    by (so d) w = let f = some_is l m (sym (first_is k l (node_pairs now) n d) ∙ e) in (omega (arith, h, d), omega (arith, h', f))
    by (not_so d) w = let x = w (sym (later_is k l (node_pairs now) n d) ∙ e) in let a = x.0 in let c = x.1 in (omega (arith, h, a), omega (arith, h', c))
second_below n m (and_own g i i' h h') e = let x = second_below n m g e in let a = x.0 in let c = x.1 in (omega (arith, h, a, i), omega (arith, h', c, i'))
second_below n m (and_instead g i j l h) e = let x = second_below n m g e in let a = x.0 in let c = x.1 in (omega (arith, a, i), omega (arith, c, j, l, h))

first_below : {ps : List Piece} {b b' : ℕ} (n m : ℕ) → FromNothing ps b b' → first_of_pair (node_pairs ps) m ≡ Some n → (n < b) × (m < b')
first_below n m (stays h h') e = absurd (none_some n e)
first_below {b = b} {b' = b'} n m (and_pair {now = now} {n = k} {n' = l} g h h') e = by (same_or_not l m) (first_below n m g)
  where
    by : Decided (l ≡ m) → (first_of_pair (node_pairs now) m ≡ Some n → (n < k) × (m < l)) → (n < b) × (m < b')
    by (so d) w = let f = some_is k n (sym (first_back k l (node_pairs now) m d) ∙ e) in (omega (arith, h, f), omega (arith, h', d))
    by (not_so d) w = let x = w (sym (later_back k l (node_pairs now) m d) ∙ e) in let a = x.0 in let c = x.1 in (omega (arith, h, a), omega (arith, h', c))
first_below n m (and_own g i i' h h') e = let x = first_below n m g e in let a = x.0 in let c = x.1 in (omega (arith, h, a, i), omega (arith, h', c, i'))
first_below n m (and_instead g i j l h) e = let x = first_below n m g e in let a = x.0 in let c = x.1 in (omega (arith, a, i), omega (arith, c, j, l, h))

there_and_back : {ps : List Piece} {b b' : ℕ} (n m : ℕ) → FromNothing ps b b' → second_of (node_pairs ps) n ≡ Some m → first_of_pair (node_pairs ps) m ≡ Some n
there_and_back n m (stays h h') e = absurd (none_some m e)
there_and_back n m (and_pair {now = now} {n = k} {n' = l} g h h') e = by (same_or_not k n) (there_and_back n m g) (second_below n m g)
  where
    by : Decided (k ≡ n) → (second_of (node_pairs now) n ≡ Some m → first_of_pair (node_pairs now) m ≡ Some n) → (second_of (node_pairs now) n ≡ Some m → (n < k) × (m < l)) → first_of_pair ((k, l) ∷ node_pairs now) m ≡ Some n
    by (so d) w v = first_back k l (node_pairs now) m (some_is l m (sym (first_is k l (node_pairs now) n d) ∙ e)) ∙ ap (λ (x : ℕ). Some x) d
    by (not_so d) w v = let f = sym (later_is k l (node_pairs now) n d) ∙ e in let x = (v f).1 in later_back k l (node_pairs now) m (λ y. absurd (omega (arith, x, y))) ∙ w f
there_and_back n m (and_own g i i' h h') e = there_and_back n m g e
there_and_back n m (and_instead g i j l h) e = there_and_back n m g e

back_and_there : {ps : List Piece} {b b' : ℕ} (n m : ℕ) → FromNothing ps b b' → first_of_pair (node_pairs ps) m ≡ Some n → second_of (node_pairs ps) n ≡ Some m
back_and_there n m (stays h h') e = absurd (none_some n e)
back_and_there n m (and_pair {now = now} {n = k} {n' = l} g h h') e = by (same_or_not l m) (back_and_there n m g) (first_below n m g)
  where
    by : Decided (l ≡ m) → (first_of_pair (node_pairs now) m ≡ Some n → second_of (node_pairs now) n ≡ Some m) → (first_of_pair (node_pairs now) m ≡ Some n → (n < k) × (m < l)) → second_of ((k, l) ∷ node_pairs now) n ≡ Some m
    by (so d) w v = first_is k l (node_pairs now) n (some_is k n (sym (first_back k l (node_pairs now) m d) ∙ e)) ∙ ap (λ (x : ℕ). Some x) d
    by (not_so d) w v = let f = sym (later_back k l (node_pairs now) m d) ∙ e in let x = (v f).0 in later_is k l (node_pairs now) n (λ y. absurd (omega (arith, x, y))) ∙ w f
back_and_there n m (and_own g i i' h h') e = back_and_there n m g e
back_and_there n m (and_instead g i j l h) e = back_and_there n m g e

pair_found : {ps : List Piece} {b b' : ℕ} (n m : ℕ) → FromNothing ps b b' → IsPiece (paired n m) ps → second_of (node_pairs ps) n ≡ Some m
pair_found n m (stays h h') i = elim i [ ]
pair_found n m (and_pair {now = now} g h h') newest = first_is n m (node_pairs now) n refl
pair_found n m (and_pair {now = now} {n = k} {n' = l} g h h') (older i) =
    let e = pair_found n m g i in let x = (second_below n m g e).0 in later_is k l (node_pairs now) n (λ y. absurd (omega (arith, x, y))) ∙ e
pair_found n m (and_own g j j' h h') (older i) = pair_found n m g i
pair_found n m (and_instead g j l h k) (older i) = pair_found n m g i

own_below : {ps : List Piece} {b b' : ℕ} (n m n' m' : ℕ) → FromNothing ps b b' → IsPiece (unpaired n m n' m') ps → m' ≤ b'
own_below n m n' m' (stays h h') i = elim i [ ]
own_below n m n' m' (and_pair g h h') (older i) = let x = own_below n m n' m' g i in omega (arith, x, h')
own_below n m n' m' (and_own g j j' h h') newest = h'
own_below n m n' m' (and_own g j j' h h') (older i) = let x = own_below n m n' m' g i in omega (arith, x, j', h')
own_below n m n' m' (and_instead g j l h k) (older i) = let x = own_below n m n' m' g i in omega (arith, x, l, h, k)

none_where : (o : Option ℕ) → ((j : ℕ) → o ≡ Some j → ⊥) → o ≡ None
none_where None w = refl
none_where (Some j) w = absurd (w j refl)

own_found : {ps : List Piece} {b b' : ℕ} (n m n' m' k : ℕ) → FromNothing ps b b' → IsPiece (unpaired n m n' m') ps → n' ≤ k → k < m' → first_of_pair (node_pairs ps) k ≡ None
own_found n m n' m' k (stays h h') i a d = elim i [ ]
own_found n m n' m' k (and_pair {now = now} {n = x} {n' = y} g h h') (older i) a d =
    let z = own_below n m n' m' g i in later_back x y (node_pairs now) k (λ e. absurd (omega (arith, e, z, d))) ∙ own_found n m n' m' k g i a d
own_found n m n' m' k (and_own {now = now} g j j' h h') newest a d = none_where (first_of_pair (node_pairs now) k) (λ x e. let z = (first_below x k g e).1 in absurd (omega (arith, z, a)))
own_found n m n' m' k (and_own g j j' h h') (older i) a d = own_found n m n' m' k g i a d
own_found n m n' m' k (and_instead g j l h o) (older i) a d = own_found n m n' m' k g i a d

-- what stands for a part is new
instead_below : {ps : List Piece} {b b' : ℕ} (o : Instead) → FromNothing ps b b' → IsPiece (replaced o) ps → behind_own o ≤ b'
instead_below o (stays h h') i = elim i [ ]
instead_below o (and_pair g h h') (older i) = let x = instead_below o g i in omega (arith, x, h')
instead_below o (and_own g j j' h h') (older i) = let x = instead_below o g i in omega (arith, x, j', h')
instead_below o (and_instead g j l h k) newest = k
instead_below o (and_instead g j l h k) (older i) = let x = instead_below o g i in omega (arith, x, l, h, k)

instead_found : {ps : List Piece} {b b' : ℕ} (o : Instead) (k : ℕ) → FromNothing ps b b' → IsPiece (replaced o) ps → first_own o ≤ k → k < behind_own o → first_of_pair (node_pairs ps) k ≡ None
instead_found o k (stays h h') i a d = elim i [ ]
instead_found o k (and_pair {now = now} {n = x} {n' = y} g h h') (older i) a d =
    let z = instead_below o g i in later_back x y (node_pairs now) k (λ e. absurd (omega (arith, e, z, d))) ∙ instead_found o k g i a d
instead_found o k (and_own g j j' h h') (older i) a d = instead_found o k g i a d
instead_found o k (and_instead {now = now} g j l h m) newest a d = none_where (first_of_pair (node_pairs now) k) (λ x e. let z = (first_below x k g e).1 in absurd (omega (arith, z, l, a)))
instead_found o k (and_instead g j l h m) (older i) a d = instead_found o k g i a d

-- ---- pairs that are one to one

few_same : (n : ℕ) → Few n → number n ≡ n
few_same n h = omega (arith, h)

both_true : (a b : Bool) → (a && b) ≡ true → (a ≡ true) × (b ≡ true)
both_true true b e = (refl, e)
both_true false b e = absurd (cc)

either_true : (a b : Bool) → (a || b) ≡ true → (P : Type 0) → (a ≡ true → P) → (b ≡ true → P) → P
either_true true b e P f g = f refl
either_true false b e P f g = g e

or_left : (a b : Bool) → a ≡ true → (a || b) ≡ true
or_left a b e = ap (λ (x : Bool). x || b) e

or_right : (a b : Bool) → b ≡ true → (a || b) ≡ true
or_right true b e = refl
or_right false b e = e

pair_true : (n m k l : ℕ) → n ≡ k → m ≡ l → ((n == k) && (m == l)) ≡ true
pair_true n m k l e f = let a : (n == k) ≡ true = eq-eqb n k e in let b : (m == l) ≡ true = eq-eqb m l f in ap (λ (x : Bool). x && (m == l)) a ∙ b

pub has_so : (ps : Pairs) (n m : ℕ) → Has ps n m → has_pair ps n m ≡ true
has_so [] n m h = absurd h
has_so (p ∷ ps) n m (inl (inl e)) = or_left _ _ (pair_true n m p.0 p.1 e.0 e.1)
has_so (p ∷ ps) n m (inl (inr e)) = or_right ((n == p.0) && (m == p.1)) _ (or_left _ _ (pair_true n m (number p.0) (number p.1) e.0 e.1))
has_so (p ∷ ps) n m (inr h) = or_right ((n == p.0) && (m == p.1)) _ (or_right ((n == number p.0) && (m == number p.1)) _ (has_so ps n m h))

-- what holds of every pair holds of one that is found
every_second : (P : ℕ × ℕ → Type 0) (ps : Pairs) (n m : ℕ) → Every P ps → second_of ps n ≡ Some m → P (n, m)
every_second P [] n m h e = absurd (none_some m e)
every_second P (p ∷ ps) n m h e = by (same_or_not p.0 n) (every_second P ps n m h.1)
  where
    by : Decided (p.0 ≡ n) → (second_of ps n ≡ Some m → P (n, m)) → P (n, m)
    by (so d) w = subst (λ (k : ℕ). P (k, m)) d (subst (λ (k : ℕ). P (p.0, k)) (some_is p.1 m (sym (first_is p.0 p.1 ps n d) ∙ e)) h.0)
    by (not_so d) w = w (sym (later_is p.0 p.1 ps n d) ∙ e)

every_first : (P : ℕ × ℕ → Type 0) (ps : Pairs) (n m : ℕ) → Every P ps → first_of_pair ps m ≡ Some n → P (n, m)
every_first P [] n m h e = absurd (none_some n e)
every_first P (p ∷ ps) n m h e = by (same_or_not p.1 m) (every_first P ps n m h.1)
  where
    by : Decided (p.1 ≡ m) → (first_of_pair ps m ≡ Some n → P (n, m)) → P (n, m)
    by (so d) w = subst (λ (k : ℕ). P (n, k)) d (subst (λ (k : ℕ). P (k, p.1)) (some_is p.0 n (sym (first_back p.0 p.1 ps m d) ∙ e)) h.0)
    by (not_so d) w = w (sym (later_back p.0 p.1 ps m d) ∙ e)

apart_there : (ps : Pairs) → Apart ps → (n m : ℕ) → second_of ps n ≡ Some m → first_of_pair ps m ≡ Some n
apart_there [] h n m e = absurd (none_some m e)
apart_there (p ∷ ps) h n m e = by (same_or_not p.0 n) (apart_there ps h.1 n m)
  where
    by : Decided (p.0 ≡ n) → (second_of ps n ≡ Some m → first_of_pair ps m ≡ Some n) → first_of_pair (p ∷ ps) m ≡ Some n
    by (so d) w = first_back p.0 p.1 ps m (some_is p.1 m (sym (first_is p.0 p.1 ps n d) ∙ e)) ∙ ap (λ (x : ℕ). Some x) d
    by (not_so d) w = let f = sym (later_is p.0 p.1 ps n d) ∙ e in later_back p.0 p.1 ps m (every_second (Unlike p) ps n m h.0 f).1 ∙ w f

apart_back : (ps : Pairs) → Apart ps → (n m : ℕ) → first_of_pair ps m ≡ Some n → second_of ps n ≡ Some m
apart_back [] h n m e = absurd (none_some n e)
apart_back (p ∷ ps) h n m e = by (same_or_not p.1 m) (apart_back ps h.1 n m)
  where
    by : Decided (p.1 ≡ m) → (first_of_pair ps m ≡ Some n → second_of ps n ≡ Some m) → second_of (p ∷ ps) n ≡ Some m
    by (so d) w = first_is p.0 p.1 ps n (some_is p.0 n (sym (first_back p.0 p.1 ps m d) ∙ e)) ∙ ap (λ (x : ℕ). Some x) d
    by (not_so d) w = let f = sym (later_back p.0 p.1 ps m d) ∙ e in later_is p.0 p.1 ps n (every_first (Unlike p) ps n m h.0 f).0 ∙ w f

-- what is found back is related
paired_true : (ps : Pairs) (n m : ℕ) → first_of_pair ps m ≡ Some n → has_pair ps n m ≡ true
paired_true [] n m e = absurd (none_some n e)
paired_true (p ∷ ps) n m e = by (same_or_not p.1 m) (paired_true ps n m)
  where
    by : Decided (p.1 ≡ m) → (first_of_pair ps m ≡ Some n → has_pair ps n m ≡ true) → has_pair (p ∷ ps) n m ≡ true
    by (so d) w = or_left ((n == p.0) && (m == p.1)) _ (pair_true n m p.0 p.1 (sym (some_is p.0 n (sym (first_back p.0 p.1 ps m d) ∙ e))) (sym d))
    by (not_so d) w = or_right ((n == p.0) && (m == p.1)) _ (or_right ((n == number p.0) && (m == number p.1)) _ (w (sym (later_back p.0 p.1 ps m d) ∙ e)))

-- in few, what is related is a pair
has_second : (ps : Pairs) (a b : ℕ) → Few a → Few b → Apart ps → Below ps a b → (n m : ℕ) → has_pair ps n m ≡ true → second_of ps n ≡ Some m
has_second [] a b f g h k n m e = absurd (cc)
has_second (p ∷ ps) a b f g h k n m e =
    let u = k.0.0 in let v = k.0.1 in
    let x : number p.0 ≡ p.0 = few_same p.0 (omega (arith, u, f)) in let y : number p.1 ≡ p.1 = few_same p.1 (omega (arith, v, g)) in
    either_true ((n == p.0) && (m == p.1)) _ e (second_of (p ∷ ps) n ≡ Some m) here
    (λ e. either_true ((n == number p.0) && (m == number p.1)) _ e (second_of (p ∷ ps) n ≡ Some m)
    (λ e. here (pair_true n m p.0 p.1 (eqb-true n (number p.0) (both_true (n == number p.0) (m == number p.1) e).0 ∙ x) (eqb-true m (number p.1) (both_true (n == number p.0) (m == number p.1) e).1 ∙ y)))
    (λ e. let i = has_second ps a b f g h.1 k.1 n m e in later_is p.0 p.1 ps n (every_second (Unlike p) ps n m h.0 i).0 ∙ i))
  where
    here : ((n == p.0) && (m == p.1)) ≡ true → second_of (p ∷ ps) n ≡ Some m
    here e = let w = both_true (n == p.0) (m == p.1) e in first_is p.0 p.1 ps n (sym (eqb-true n p.0 w.0)) ∙ ap (λ (x : ℕ). Some x) (sym (eqb-true m p.1 w.1))

-- ---- the renaming

so_has : (ps : Pairs) (n m : ℕ) → has_pair ps n m ≡ true → Has ps n m
so_has [] n m e = absurd (cc)
so_has (p ∷ ps) n m e =
    either_true ((n == p.0) && (m == p.1)) _ e (Has (p ∷ ps) n m) (λ h. let w = both_true (n == p.0) (m == p.1) h in inl (inl (eqb-true n p.0 w.0, eqb-true m p.1 w.1)))
    (λ e. either_true ((n == number p.0) && (m == number p.1)) _ e (Has (p ∷ ps) n m) (λ h. let w = both_true (n == number p.0) (m == number p.1) h in inl (inr (eqb-true n (number p.0) w.0, eqb-true m (number p.1) w.1))) (λ e. inr (so_has ps n m e)))

-- where no pair goes across what was passed
pub least_serves : (items : ℕ → ℕ) (M : Made) (a b c d : ℕ) → Few a → Few b → Few c → Few d → NoneAcross M a b c d → Serves items M (least items M)
least_serves items M a b c d fa fb fc fd across = record {
  variables = has_so M.variables;
  loops = has_so M.loops;
  items_are = λ n. refl;
  passages = λ x h. let y = across fa fb fc fd x h in record { variables = λ n m e. y.variables n m (so_has M.variables n m e); loops = λ n m e. y.loops n m (so_has M.loops n m e) };
}

module _ (items : ℕ → ℕ) (M : Made) (a b c d : ℕ) (fa : Few a) (fb : Few b) (fc : Few c) (fd : Few d) (vs : Apart M.variables) (bs : Below M.variables a b) (ls : Apart M.loops) (bl : Below M.loops c d) where
  abbrev pub R : Renaming
  R = least items M

  variable_is : (n m : ℕ) → R.variable n m ≡ true → second_of M.variables n ≡ Some m
  variable_is n m e = has_second M.variables a b fa fb vs bs n m e

  loop_is : (n m : ℕ) → R.loop n m ≡ true → second_of M.loops n ≡ Some m
  loop_is n m e = has_second M.loops c d fc fd ls bl n m e

  pub one_to_one : IsOneToOne R
  one_to_one = record {
    variables_on = λ n m k e f. some_is m k (sym (variable_is n m e) ∙ variable_is n k f);
    variables_back = λ n m k e f. some_is n m (sym (apart_there M.variables vs n k (variable_is n k e)) ∙ apart_there M.variables vs m k (variable_is m k f));
    loops_on = λ n m k e f. some_is m k (sym (loop_is n m e) ∙ loop_is n k f);
    loops_back = λ n m k e f. some_is n m (sym (apart_there M.loops ls n k (loop_is n k e)) ∙ apart_there M.loops ls m k (loop_is m k f));
  }

  -- ---- the numbering

  module _ (ps : List Piece) (last last' : ℕ) (g : FromNothing ps last last') (i : Instead) (one : OneInstead i ps) where
    abbrev big : ℕ
    big = last' + (b + d) + 4294967296

    nodes_once : OneToOne (node_pairs ps) big
    nodes_once = record { there = λ n m. there_and_back n m g; back = λ n m. back_and_there n m g; small = λ n m e. let x = (second_below n m g e).1 in omega (arith, x) }

    variables_once : OneToOne M.variables big
    variables_once = record { there = apart_there M.variables vs; back = apart_back M.variables vs; small = λ n m e. let x = (every_second (λ (p : ℕ × ℕ). (p.0 < a) × (p.1 < b)) M.variables n m bs e).1 in omega (arith, x) }

    loops_once : OneToOne M.loops big
    loops_once = record { there = apart_there M.loops ls; back = apart_back M.loops ls; small = λ n m e. let x = (every_second (λ (p : ℕ × ℕ). (p.0 < c) × (p.1 < d)) M.loops n m bl e).1 in omega (arith, x) }

    abbrev Q : Numbers
    Q = record {
      by = by_pairs (node_pairs ps) M.variables big items;
      back = record {
        node = numbered_back (node_pairs ps) big;
        node_there = numbered_there (node_pairs ps) big nodes_once;
        variable = numbered_back M.variables big;
        variable_there = numbered_there M.variables big variables_once;
        variable_back = numbered_from M.variables big variables_once;
      };
      loops = numbered M.loops big;
      instead = i;
    }

    follows : Follows R Q
    follows = record {
      variables = λ n m e. ap (or_greater big n) (variable_is n m e);
      loops = λ n m e. ap (or_greater big n) (loop_is n m e);
      items = λ n. refl;
    }

    -- a small number that is in no pair comes from none
    from_none : (k : ℕ) → first_of_pair (node_pairs ps) k ≡ None → k < last' → numbered_back (node_pairs ps) big k ≡ None
    from_none k e h =
        let w : ((k - big) + big ≡ k → ⊥) = λ f. absurd (omega (arith, f, h)) in
        ap (λ (f : Option ℕ). or_less f (node_pairs ps) big k) e ∙ ap (λ (x : Bool). less x (node_pairs ps) (k - big)) (other_false ((k - big) + big) k w)

    corresponds : (p : Piece) → IsPiece p ps → Corresponds Q p
    corresponds (paired n m) h = ap (or_greater big n) (pair_found n m g h)
    corresponds (unpaired n m n' m') h = λ k x y. from_none k (own_found n m n' m' k g h x y) (let z = own_below n m n' m' g h in omega (arith, y, z))
    corresponds (replaced j) h = (one j h, λ k x y. from_none k (instead_found j k g h x y) (let z = instead_below j g h in omega (arith, y, z)))

    -- a variable that comes back from a small number is in a pair with it
    variable_comes_back : (x y : ℕ) → numbered_back M.variables big y ≡ Some x → Few y → R.variable x y ≡ true
    variable_comes_back x y e few = by (first_of_pair M.variables y) refl e
      where
        greater : (c : Bool) → nat_eq ((y - big) + big) y ≡ c → less c M.variables (y - big) ≡ Some x → R.variable x y ≡ true
        greater true h w = let k = eqb-true ((y - big) + big) y h in absurd (omega (arith, k, few))
        greater false h w = absurd (none_some x w)

        by : (o : Option ℕ) → first_of_pair M.variables y ≡ o → or_less o M.variables big y ≡ Some x → R.variable x y ≡ true
        by None h w = greater (nat_eq ((y - big) + big) y) refl w
        by (Some n) h w = paired_true M.variables x y (h ∙ w)

    back_apart : (f : ℕ → ℕ) (u : ℕ → Option ℕ) → ((n : ℕ) → u (f n) ≡ Some n) → StayApart f
    back_apart f u w m n e = some_is m n (sym (w m) ∙ ap u e ∙ w n)

    pub chosen : Chosen R ps
    chosen = record {
      numbers = Q;
      follows = follows;
      correspond = corresponds;
      variables_apart = back_apart (numbered M.variables big) (numbered_back M.variables big) (numbered_there M.variables big variables_once);
      loops_apart = back_apart (numbered M.loops big) (numbered_back M.loops big) (numbered_there M.loops big loops_once);
      comes_back = variable_comes_back;
    }
