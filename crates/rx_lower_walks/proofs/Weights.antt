-- What one node does has each key once at most: each kind of act once, and of the acts on variables each variable once. `Held` is
-- what is proved of each part of a typed tree, and `Fine` what it asks of the part.
use Rattle.std.proofs.Common.{◌≡◌, ℕ, ◌+◌, ◌≤◌, ◌==◌, Bool, true, false, ◌&&◌, if◌then◌else◌, List, [], ◌∷◌, ◌++◌, refl, sym, ◌∙◌, arith}
use Rattle.std.proofs.lemmas.Bool.Decides.{Decides-eqb}
use Rattle.rx_typed.specs.Tree.{Root, variable, temporary}
use Rattle.rx_lower_walks.specs.Actions.{Act, Declare}
use Rattle.rx_lower_walks.specs.Orders.{Order}
use Rattle.rx_lower_walks.specs.Pieces.{Scope, Variable, Looped, all_of, within}
use Rattle.rx_lower_walks.proofs.Fits.{eqb_self}
use Rattle.rx_lower_walks.proofs.Keys.{Key, borrowed, kind_of, variable_of, one_if, times, times_both, is_told, weight, ends_of, onward, only_if, most}

-- ---- what is done at one node

pub one_of : (b c : Bool) → one_if (b && c) ≤ one_if b
one_of true true = omega arith
one_of true false = omega arith
one_of false c = omega arith

pub two_of : (b c d : Bool) → (c ≡ true → d ≡ true → ⊥) → one_if (b && c) + one_if (b && d) ≤ one_if b
two_of false c d h = omega arith
two_of true true true h = absurd (h refl refl)
two_of true true false h = omega arith
two_of true false true h = omega arith
two_of true false false h = omega arith

pub three_of : (b c d e : Bool) → (c ≡ true → d ≡ true → ⊥) → (c ≡ true → e ≡ true → ⊥) → (d ≡ true → e ≡ true → ⊥) → one_if (b && c) + (one_if (b && d) + one_if (b && e)) ≤ one_if b
three_of false c d e h i j = omega arith
three_of true true d e h i j = by d e h i
  where
    by : (d e : Bool) → (true ≡ true → d ≡ true → ⊥) → (true ≡ true → e ≡ true → ⊥) → 1 + (one_if d + one_if e) ≤ 1
    by true e h i = absurd (h refl refl)
    by false true h i = absurd (i refl refl)
    by false false h i = omega arith
three_of true false d e h i j = let k = two_of true d e j in omega (arith, k)

pub told_kind : (K : Key) (a : Act) → is_told K a ≡ true → kind_of a ≡ K.kind
told_kind K a e = by (kind_of a == K.kind) (variable_of a == K.variable) refl e
  where
    by : (b c : Bool) → (kind_of a == K.kind) ≡ b → (b && c) ≡ true → kind_of a ≡ K.kind
    by true c p q = (Decides-eqb (kind_of a) K.kind).0 p
    by false c p q = absurd (cc)

pub one_act : (K : Key) (n : ℕ) (a : Act) → weight K n a ≤ one_if (n == K.node)
one_act K n a = one_of (n == K.node) (is_told K a)

pub differ : (K : Key) (a b : Act) → (kind_of a ≡ kind_of b → ⊥) → is_told K a ≡ true → is_told K b ≡ true → ⊥
differ K a b h p q = h (told_kind K a p ∙ sym (told_kind K b q))

pub two_acts : (K : Key) (n : ℕ) (a b : Act) → (kind_of a ≡ kind_of b → ⊥) → weight K n a + weight K n b ≤ one_if (n == K.node)
two_acts K n a b h = two_of (n == K.node) (is_told K a) (is_told K b) (differ K a b h)

pub three_acts : (K : Key) (n : ℕ) (a b c : Act) → (kind_of a ≡ kind_of b → ⊥) → (kind_of a ≡ kind_of c → ⊥) → (kind_of b ≡ kind_of c → ⊥)
    → weight K n a + (weight K n b + weight K n c) ≤ one_if (n == K.node)
three_acts K n a b c h i j = three_of (n == K.node) (is_told K a) (is_told K b) (is_told K c) (differ K a b h) (differ K a c i) (differ K b c j)

-- what is no end of a variable
pub no_end : (K : Key) (n : ℕ) (a : Act) → (kind_of a ≡ 1 → ⊥) → K.kind ≡ 1 → weight K n a ≡ 0
no_end K n a h k = by (n == K.node) (is_told K a) (λ e. h (told_kind K a e ∙ k))
  where
    by : (b c : Bool) → (c ≡ true → ⊥) → one_if (b && c) ≡ 0
    by true true i = absurd (i refl)
    by true false i = refl
    by false c i = refl

pub node_here : (n m : ℕ) → n ≡ m → one_if (n == m) ≡ 1
node_here n m e = let h = eqb_self m in rw (e, h) refl

pub borrow_no_end : (r : Root) → borrowed r ≡ 1 → ⊥
borrow_no_end (variable x) e = omega (arith, e)
borrow_no_end (temporary t) e = omega (arith, e)

-- ---- acts on several variables at one node

-- two tests that hold or not of all, and each variable's own
abbrev pub each_of : Bool → Bool → ℕ → List ℕ → ℕ
each_of b c v [] = 0
each_of b c v (x ∷ xs) = one_if (b && (c && (x == v))) + each_of b c v xs

pub each_times : (b c : Bool) (v : ℕ) (xs : List ℕ) → each_of b c v xs ≤ times v xs
each_times b c v [] = omega arith
each_times b c v (x ∷ xs) = let h = each_times b c v xs in let i = by b c (x == v) in omega (arith, h, i)
  where
    by : (b c d : Bool) → one_if (b && (c && d)) ≤ one_if d
    by true true d = omega arith
    by true false d = omega arith
    by false c d = omega arith

pub each_one : (b c : Bool) (v : ℕ) (xs : List ℕ) → times v xs ≤ 1 → each_of b c v xs ≤ one_if b
each_one true c v xs h = let i = each_times true c v xs in omega (arith, h, i)
each_one false c v [] h = omega arith
each_one false c v (x ∷ xs) h = let i = each_one false c v xs (omega (arith, h)) in omega (arith, i)

pub each_none : (b : Bool) (v : ℕ) (xs : List ℕ) → each_of b false v xs ≡ 0
each_none b v [] = refl
each_none true v (x ∷ xs) = let h = each_none true v xs in omega (arith, h)
each_none false v (x ∷ xs) = let h = each_none false v xs in omega (arith, h)

pub ends_each : (K : Key) (n : ℕ) (xs : List ℕ) → ends_of K n xs ≡ each_of (n == K.node) (1 == K.kind) K.variable xs
ends_each K n [] = refl
ends_each K n (x ∷ xs) = let h = ends_each K n xs in omega (arith, h)

pub ends_times : (K : Key) (n : ℕ) (xs : List ℕ) → ends_of K n xs ≤ times K.variable xs
ends_times K n xs = let e = ends_each K n xs in let h = each_times (n == K.node) (1 == K.kind) K.variable xs in omega (arith, e, h)

pub ends_one : (K : Key) (n : ℕ) (xs : List ℕ) → times K.variable xs ≤ 1 → ends_of K n xs ≤ one_if (n == K.node)
ends_one K n xs u = let e = ends_each K n xs in let h = each_one (n == K.node) (1 == K.kind) K.variable xs u in omega (arith, e, h)

-- the kind of an end
pub data Ends (K : Key) (n : ℕ) (xs : List ℕ) : Type 0 where
  none_ends : ends_of K n xs ≡ 0 → Ends K n xs
  some_end : K.kind ≡ 1 → n ≡ K.node → Ends K n xs

pub ends_cases : (K : Key) (n : ℕ) (xs : List ℕ) → Ends K n xs
ends_cases K n xs = by (n == K.node) (1 == K.kind) refl refl (ends_each K n xs)
  where
    by : (b c : Bool) → (n == K.node) ≡ b → (1 == K.kind) ≡ c → ends_of K n xs ≡ each_of b c K.variable xs → Ends K n xs
    by true true p q e = some_end (sym ((Decides-eqb 1 K.kind).0 q)) ((Decides-eqb n K.node).0 p)
    by true false p q e = none_ends (e ∙ each_none true K.variable xs)
    by false c p q e = none_ends (let h = each_one false c K.variable xs in e ∙ none c xs)
      where
        none : (c : Bool) (xs : List ℕ) → each_of false c K.variable xs ≡ 0
        none c [] = refl
        none c (x ∷ xs) = let h = none c xs in omega (arith, h)

abbrev pub declares_of : Key → ℕ → List ℕ → ℕ
declares_of K n [] = 0
declares_of K n (x ∷ xs) = weight K n (Declare x) + declares_of K n xs

pub declares_each : (K : Key) (n : ℕ) (xs : List ℕ) → declares_of K n xs ≡ each_of (n == K.node) (0 == K.kind) K.variable xs
declares_each K n [] = refl
declares_each K n (x ∷ xs) = let h = declares_each K n xs in omega (arith, h)

pub declares_one : (K : Key) (n : ℕ) (xs : List ℕ) → times K.variable xs ≤ 1 → declares_of K n xs ≤ one_if (n == K.node)
declares_one K n xs u = let e = declares_each K n xs in let h = each_one (n == K.node) (0 == K.kind) K.variable xs u in omega (arith, e, h)

-- ---- scopes

-- these variables too, the last one innermost
abbrev pub with_all : List ℕ → Scope → Scope
with_all [] scope = scope
with_all (x ∷ xs) scope = with_all xs (Variable x ∷ scope)

pub with_times : (v : ℕ) (xs : List ℕ) (scope : Scope) → times v (all_of (with_all xs scope)) ≡ times v xs + times v (all_of scope)
with_times v [] scope = omega arith
with_times v (x ∷ xs) scope = let h = with_times v xs (Variable x ∷ scope) in omega (arith, h)

pub within_times : (v l : ℕ) (scope : Scope) → times v (within l scope) ≤ times v (all_of scope)
within_times v l [] = omega arith
within_times v l (Variable x ∷ scope) = let h = within_times v l scope in omega (arith, h)
within_times v l (Looped m ∷ scope) = by (l == m) (within_times v l scope)
  where
    by : (b : Bool) → times v (within l scope) ≤ times v (all_of scope) → times v (if b then [] else within l scope) ≤ times v (all_of scope)
    by true h = omega arith
    by false h = h

-- a jump out of a loop's own pass ends nothing
pub own_loop : (K : Key) (n l : ℕ) (scope : Scope) → ends_of K n (within l (Looped l ∷ scope)) ≡ 0
own_loop K n l scope = by (l == l) (eqb_self l)
  where
    by : (b : Bool) → b ≡ true → ends_of K n (if b then [] else within l scope) ≡ 0
    by true e = refl
    by false e = absurd (cc)

-- ---- what is known of a part, and what is proved of it

-- the key's node is one of these once at most, its variable one of those in scope and of these
pub record Fine (K : Key) (scope : Scope) (ns vs : List ℕ) : Type 0 where
  pub node : times K.node ns ≤ 1
  pub variable : times K.variable (all_of scope) + times K.variable vs ≤ 1

-- no more have the key than nodes have its node; where it goes on, its variables alone end at its own node
pub record Held (K : Key) (scope : Scope) (s : Order) (n : ℕ) (ns vs : List ℕ) : Type 0 where
  pub all : most K scope s ≤ times K.node ns
  pub root : K.kind ≡ 1 → n ≡ K.node → onward s ≡ true → most K scope s ≤ times K.variable vs
  pub own : n ≡ K.node → 1 ≤ times K.node ns

pub fine_under : (K : Key) (scope : Scope) (n : ℕ) (ns vs : List ℕ) → Fine K scope (n ∷ ns) vs → Fine K scope ns vs
fine_under K scope n ns vs f = let h = f.node in record { node = omega (arith, h); variable = f.variable }

pub fine_left : (K : Key) (scope : Scope) (ns ms vs ws : List ℕ) → Fine K scope (ns ++ ms) (vs ++ ws) → Fine K scope ns vs
fine_left K scope ns ms vs ws f =
    let h = f.node in let i = f.variable in let e = times_both K.node ns ms in let u = times_both K.variable vs ws in
    record { node = omega (arith, h, e); variable = omega (arith, i, u) }

pub fine_right : (K : Key) (scope : Scope) (ns ms vs ws : List ℕ) → Fine K scope (ns ++ ms) (vs ++ ws) → Fine K scope ms ws
fine_right K scope ns ms vs ws f =
    let h = f.node in let i = f.variable in let e = times_both K.node ns ms in let u = times_both K.variable vs ws in
    record { node = omega (arith, h, e); variable = omega (arith, i, u) }

-- nodes without variables in front
pub fine_behind : (K : Key) (scope : Scope) (ns ms vs : List ℕ) → Fine K scope (ns ++ ms) vs → Fine K scope ms vs
fine_behind K scope ns ms vs f = let h = f.node in let e = times_both K.node ns ms in record { node = omega (arith, h, e); variable = f.variable }

-- in the scope of the first variables
pub fine_scope : (K : Key) (scope : Scope) (ns xs vs : List ℕ) → Fine K scope ns (xs ++ vs) → Fine K (with_all xs scope) ns vs
fine_scope K scope ns xs vs f =
    let i = f.variable in let u = times_both K.variable xs vs in let w = with_times K.variable xs scope in record { node = f.node; variable = omega (arith, i, u, w) }

-- outside it
pub fine_outside : (K : Key) (scope : Scope) (ns xs vs : List ℕ) → Fine K scope ns (xs ++ vs) → Fine K scope ns vs
fine_outside K scope ns xs vs f = let i = f.variable in let u = times_both K.variable xs vs in record { node = f.node; variable = omega (arith, i, u) }

-- what a form does itself, and its parts
pub plain_held : (K : Key) (scope : Scope) (s : Order) (n : ℕ) (rest vs : List ℕ) (M w : ℕ) → most K scope s ≤ M + w → M ≤ times K.node rest → w ≤ one_if (n == K.node)
    → (K.kind ≡ 1 → w ≡ 0) → times K.node (n ∷ rest) ≤ 1 → Held K scope s n (n ∷ rest) vs
plain_held K scope s n rest vs M w size h i j f = record {
  all = omega (arith, size, h, i);
  root = λ k e g. let here = node_here n K.node e in let z = j k in omega (arith, size, h, f, here, z);
  own = λ e. let here = node_here n K.node e in omega (arith, here);
}

-- one act
pub act_held : (K : Key) (scope : Scope) (s : Order) (n : ℕ) (rest vs : List ℕ) (M : ℕ) (a : Act) → most K scope s ≤ M + weight K n a → M ≤ times K.node rest → (kind_of a ≡ 1 → ⊥)
    → times K.node (n ∷ rest) ≤ 1 → Held K scope s n (n ∷ rest) vs
act_held K scope s n rest vs M a size h i f = plain_held K scope s n rest vs M (weight K n a) size h (one_act K n a) (no_end K n a i) f

-- none
pub still_held : (K : Key) (scope : Scope) (s : Order) (n : ℕ) (rest vs : List ℕ) → most K scope s ≤ times K.node rest → times K.node (n ∷ rest) ≤ 1 → Held K scope s n (n ∷ rest) vs
still_held K scope s n rest vs h f = plain_held K scope s n rest vs (most K scope s) 0 (omega arith) h (omega arith) (λ k. refl) f

-- variables that end behind a part, at its own node
pub ended : (K : Key) (scope : Scope) (s : Order) (n : ℕ) (ns vs xs : List ℕ) → Held K scope s n ns vs → times K.variable xs + times K.variable vs ≤ 1
    → most K scope s + only_if (onward s) (ends_of K n xs) ≤ times K.node ns
ended K scope s n ns vs xs h u = by (onward s) refl
  where
    behind : Ends K n xs → onward s ≡ true → most K scope s + ends_of K n xs ≤ times K.node ns
    behind (none_ends e) g = let a = h.all in omega (arith, e, a)
    behind (some_end k e) g = let r = h.root k e g in let o = h.own e in let t = ends_times K n xs in omega (arith, r, o, t, u)

    by : (b : Bool) → onward s ≡ b → most K scope s + only_if b (ends_of K n xs) ≤ times K.node ns
    by true g = behind (ends_cases K n xs) g
    by false g = let a = h.all in omega (arith, a)
