-- A value is its head and its parts, and a pattern asks for a head and of parts.
use Rattle.std.proofs.Common.{◌≡◌, ℕ, suc, nat_eq, ℤ, pos, negsuc, Bool, true, false, ◌&&◌, [], refl, sym, ap, subst, eqb-true, eq-eqb}
use Rattle.rx_typed.specs.Types.{Typ, integer, boolean, tuple_of, reference, named, Declarations}
use Rattle.rx_typed.specs.Tree as tree
use Rattle.rx_typed.specs.Tree.{Pattern, any, bind, exactly, parts, behind, Subpatterns, no_part, part_and, whole_number}
use Rattle.rx_cover.specs.Values as value
use Rattle.rx_cover.specs.Values.{Value, Values, number, tuple, made, pointing, no_value, value_and, IsOfType, AreOfTypes}
use Rattle.rx_cover.specs.Matching.{Matches, MatchParts}
use Rattle.rx_cover.specs.Heads as head
use Rattle.rx_cover.specs.Heads.{Head, whole, composed, chosen, pointed, head_in, parts_in, head_of, parts_of, IsHead, types_under, with_head, same_bool, same_integer, same_head, has}
use Rattle.rx_cover.specs.Matrices.{asks, admits}

-- ---- tests

pub both_true : (a b : Bool) → (a && b) ≡ true → (a ≡ true) × (b ≡ true)
both_true true true e = (refl, refl)
both_true true false e = cc
both_true false b e = cc

pub same_bool_is : (b c : Bool) → same_bool b c ≡ true → b ≡ c
same_bool_is true true e = refl
same_bool_is false false e = refl
same_bool_is true false e = cc
same_bool_is false true e = cc

pub same_bool_refl : (b : Bool) → same_bool b b ≡ true
same_bool_refl true = refl
same_bool_refl false = refl

pub same_integer_is : (n m : ℤ) → same_integer n m ≡ true → n ≡ m
same_integer_is (pos n) (pos m) e = ap pos (eqb-true n m e)
same_integer_is (negsuc n) (negsuc m) e = ap negsuc (eqb-true n m e)
same_integer_is (pos n) (negsuc m) e = cc
same_integer_is (negsuc n) (pos m) e = cc

pub same_integer_refl : (n : ℤ) → same_integer n n ≡ true
same_integer_refl (pos n) = eq-eqb n n refl
same_integer_refl (negsuc n) = eq-eqb n n refl

pub same_head_refl : (h : Head) → same_head h h ≡ true
same_head_refl (whole n) = same_integer_refl n
same_head_refl (head.truth b) = same_bool_refl b
same_head_refl composed = refl
same_head_refl (chosen i k) = let a = eq-eqb i i refl in let b = eq-eqb k k refl in rw (a, b) refl
same_head_refl pointed = refl

pub same_head_is : (g h : Head) → same_head g h ≡ true → g ≡ h
same_head_is (whole n) (whole m) e = ap whole (same_integer_is n m e)
same_head_is (head.truth b) (head.truth c) e = ap head.truth (same_bool_is b c e)
same_head_is composed composed e = refl
same_head_is (chosen i k) (chosen j l) e = let p = both_true (nat_eq i j) (nat_eq k l) e in let a = eqb-true i j p.0 in let b = eqb-true k l p.1 in cc
same_head_is pointed pointed e = refl
same_head_is (whole n) (head.truth c) e = cc
same_head_is (whole n) composed e = cc
same_head_is (whole n) (chosen j l) e = cc
same_head_is (whole n) pointed e = cc
same_head_is (head.truth b) (whole m) e = cc
same_head_is (head.truth b) composed e = cc
same_head_is (head.truth b) (chosen j l) e = cc
same_head_is (head.truth b) pointed e = cc
same_head_is composed (whole m) e = cc
same_head_is composed (head.truth c) e = cc
same_head_is composed (chosen j l) e = cc
same_head_is composed pointed e = cc
same_head_is (chosen i k) (whole m) e = cc
same_head_is (chosen i k) (head.truth c) e = cc
same_head_is (chosen i k) composed e = cc
same_head_is (chosen i k) pointed e = cc
same_head_is pointed (whole m) e = cc
same_head_is pointed (head.truth c) e = cc
same_head_is pointed composed e = cc
same_head_is pointed (chosen j l) e = cc

-- ---- values

-- what the type of a value says of its head and parts
pub record Taken (D : Declarations) (t : Typ) (v : Value) : Type 0 where
  pub headed : IsHead D t (head_of v)
  pub under : AreOfTypes D (types_under D t (head_of v)) (parts_of v)

pub taken : (D : Declarations) (t : Typ) (v : Value) → IsOfType D t v → Taken D t v
taken D (integer k) (number n) h = record { headed = h; under = tt }
taken D boolean (value.truth b) h = record { headed = tt; under = tt }
taken D (tuple_of ts) (tuple vs) h = record { headed = tt; under = h }
taken D (reference m t) (pointing v) h = record { headed = tt; under = (h, tt) }
taken D (named i) (made j vs) h = record { headed = h.1; under = h.2 }
taken D (named i) (value.variant j k vs) h = record { headed = (h.0, h.1); under = let e = h.0 in subst (λ x. AreOfTypes D (types_under D (named i) (chosen x k)) vs) e h.2 }
taken D (integer k) (value.truth b) h = absurd h
taken D (integer k) (tuple vs) h = absurd h
taken D (integer k) (made j vs) h = absurd h
taken D (integer k) (value.variant j l vs) h = absurd h
taken D (integer k) (pointing v) h = absurd h
taken D boolean (number n) h = absurd h
taken D boolean (tuple vs) h = absurd h
taken D boolean (made j vs) h = absurd h
taken D boolean (value.variant j l vs) h = absurd h
taken D boolean (pointing v) h = absurd h
taken D (tuple_of ts) (number n) h = absurd h
taken D (tuple_of ts) (value.truth b) h = absurd h
taken D (tuple_of ts) (made j vs) h = absurd h
taken D (tuple_of ts) (value.variant j l vs) h = absurd h
taken D (tuple_of ts) (pointing v) h = absurd h
taken D (reference m t) (number n) h = absurd h
taken D (reference m t) (value.truth b) h = absurd h
taken D (reference m t) (tuple vs) h = absurd h
taken D (reference m t) (made j vs) h = absurd h
taken D (reference m t) (value.variant j l vs) h = absurd h
taken D (named i) (number n) h = absurd h
taken D (named i) (value.truth b) h = absurd h
taken D (named i) (tuple vs) h = absurd h
taken D (named i) (pointing v) h = absurd h

-- a value of the type, with this head and these parts
pub record Built (D : Declarations) (t : Typ) (h : Head) (vs : Values) (v : Value) : Type 0 where
  pub typed : IsOfType D t v
  pub head_is : head_of v ≡ h
  pub parts_are : parts_of v ≡ vs

no_more : (D : Declarations) (vs : Values) → AreOfTypes D [] vs → no_value ≡ vs
no_more D no_value h = refl
no_more D (value_and v vs) h = absurd h

pub built : (D : Declarations) (t : Typ) (h : Head) (vs : Values) → IsHead D t h → AreOfTypes D (types_under D t h) vs → Built D t h vs (with_head t h vs)
built D (integer k) (whole n) vs i u = record { typed = i; head_is = refl; parts_are = no_more D vs u }
built D boolean (head.truth b) vs i u = record { typed = tt; head_is = refl; parts_are = no_more D vs u }
built D (tuple_of ts) composed vs i u = record { typed = u; head_is = refl; parts_are = refl }
built D (reference m t) pointed (value_and v no_value) i u = record { typed = u.0; head_is = refl; parts_are = refl }
built D (reference m t) pointed (value_and v (value_and w ws)) i u = absurd u.1
built D (reference m t) pointed no_value i u = absurd u
built D (named i) composed vs is u = record { typed = (refl, is, u); head_is = refl; parts_are = refl }
built D (named i) (chosen j k) vs is u = record { typed = (is.0, is.1, let e = sym is.0 in subst (λ x. AreOfTypes D (types_under D (named i) (chosen x k)) vs) e u); head_is = refl; parts_are = refl }
built D (integer k) (head.truth b) vs i u = absurd i
built D (integer k) composed vs i u = absurd i
built D (integer k) (chosen j l) vs i u = absurd i
built D (integer k) pointed vs i u = absurd i
built D boolean (whole n) vs i u = absurd i
built D boolean composed vs i u = absurd i
built D boolean (chosen j l) vs i u = absurd i
built D boolean pointed vs i u = absurd i
built D (tuple_of ts) (whole n) vs i u = absurd i
built D (tuple_of ts) (head.truth b) vs i u = absurd i
built D (tuple_of ts) (chosen j l) vs i u = absurd i
built D (tuple_of ts) pointed vs i u = absurd i
built D (reference m t) (whole n) vs i u = absurd i
built D (reference m t) (head.truth b) vs i u = absurd i
built D (reference m t) composed vs i u = absurd i
built D (reference m t) (chosen j l) vs i u = absurd i
built D (named i) (whole n) vs is u = absurd is
built D (named i) (head.truth b) vs is u = absurd is
built D (named i) pointed vs is u = absurd is

-- ---- patterns

pub asked_nothing : (k : ℕ) (vs : Values) → MatchParts no_part k vs
asked_nothing k no_value = tt
asked_nothing k (value_and v vs) = (tt, asked_nothing (suc k) vs)

pub open_matches : (p : Pattern) (v : Value) → asks p ≡ false → Matches p v
open_matches any v e = tt
open_matches (bind n x m) v e = tt
open_matches (exactly n c) v e = cc
open_matches (parts ps) v e = cc
open_matches (tree.variant n i b k ps) v e = cc
open_matches (behind m p) v e = cc

-- a value has the head that is asked, and its parts match
pub record Meets (p : Pattern) (v : Value) : Type 0 where
  pub admitted : admits (head_in p) (head_of v) ≡ true
  pub parts : MatchParts (parts_in p) 0 (parts_of v)

pub meets : (p : Pattern) (v : Value) → Matches p v → Meets p v
meets any v m = record { admitted = refl; parts = asked_nothing 0 (parts_of v) }
meets (bind n x a) v m = record { admitted = refl; parts = asked_nothing 0 (parts_of v) }
meets (exactly n (whole_number k i)) (number j) m = record { admitted = subst (λ x. same_integer i x ≡ true) m (same_integer_refl i); parts = tt }
meets (exactly n (tree.truth b)) (value.truth c) m = record { admitted = subst (λ x. same_bool b x ≡ true) m (same_bool_refl b); parts = tt }
meets (parts ps) (tuple vs) m = record { admitted = refl; parts = m }
meets (parts ps) (made i vs) m = record { admitted = refl; parts = m }
meets (tree.variant n i b k ps) (value.variant j l vs) m = record { admitted = let a = eq-eqb i j m.0 in let c = eq-eqb k l m.1 in rw (a, c) refl; parts = m.2 }
meets (behind a p) (pointing v) m = record { admitted = refl; parts = (m, tt) }
meets (exactly n (whole_number k i)) (value.truth c) m = absurd m
meets (exactly n (whole_number k i)) (tuple vs) m = absurd m
meets (exactly n (whole_number k i)) (made j vs) m = absurd m
meets (exactly n (whole_number k i)) (value.variant j l vs) m = absurd m
meets (exactly n (whole_number k i)) (pointing v) m = absurd m
meets (exactly n (tree.truth b)) (number j) m = absurd m
meets (exactly n (tree.truth b)) (tuple vs) m = absurd m
meets (exactly n (tree.truth b)) (made j vs) m = absurd m
meets (exactly n (tree.truth b)) (value.variant j l vs) m = absurd m
meets (exactly n (tree.truth b)) (pointing v) m = absurd m
meets (parts ps) (number j) m = absurd m
meets (parts ps) (value.truth c) m = absurd m
meets (parts ps) (value.variant j l vs) m = absurd m
meets (parts ps) (pointing v) m = absurd m
meets (tree.variant n i b k ps) (number j) m = absurd m
meets (tree.variant n i b k ps) (value.truth c) m = absurd m
meets (tree.variant n i b k ps) (tuple vs) m = absurd m
meets (tree.variant n i b k ps) (made j vs) m = absurd m
meets (tree.variant n i b k ps) (pointing v) m = absurd m
meets (behind a p) (number j) m = absurd m
meets (behind a p) (value.truth c) m = absurd m
meets (behind a p) (tuple vs) m = absurd m
meets (behind a p) (made j vs) m = absurd m
meets (behind a p) (value.variant j l vs) m = absurd m

pub matched : (p : Pattern) (v : Value) → Meets p v → Matches p v
matched any v m = tt
matched (bind n x a) v m = tt
matched (exactly n (whole_number k i)) (number j) m = same_integer_is i j m.admitted
matched (exactly n (tree.truth b)) (value.truth c) m = same_bool_is b c m.admitted
matched (parts ps) (tuple vs) m = m.parts
matched (parts ps) (made i vs) m = m.parts
matched (tree.variant n i b k ps) (value.variant j l vs) m = let e = both_true (nat_eq i j) (nat_eq k l) m.admitted in (eqb-true i j e.0, eqb-true k l e.1, m.parts)
matched (behind a p) (pointing v) m = m.parts.0
matched (exactly n (whole_number k i)) (value.truth c) m = let e = m.admitted in cc
matched (exactly n (whole_number k i)) (tuple vs) m = let e = m.admitted in cc
matched (exactly n (whole_number k i)) (made j vs) m = let e = m.admitted in cc
matched (exactly n (whole_number k i)) (value.variant j l vs) m = let e = m.admitted in cc
matched (exactly n (whole_number k i)) (pointing v) m = let e = m.admitted in cc
matched (exactly n (tree.truth b)) (number j) m = let e = m.admitted in cc
matched (exactly n (tree.truth b)) (tuple vs) m = let e = m.admitted in cc
matched (exactly n (tree.truth b)) (made j vs) m = let e = m.admitted in cc
matched (exactly n (tree.truth b)) (value.variant j l vs) m = let e = m.admitted in cc
matched (exactly n (tree.truth b)) (pointing v) m = let e = m.admitted in cc
matched (parts ps) (number j) m = let e = m.admitted in cc
matched (parts ps) (value.truth c) m = let e = m.admitted in cc
matched (parts ps) (value.variant j l vs) m = let e = m.admitted in cc
matched (parts ps) (pointing v) m = let e = m.admitted in cc
matched (tree.variant n i b k ps) (number j) m = let e = m.admitted in cc
matched (tree.variant n i b k ps) (value.truth c) m = let e = m.admitted in cc
matched (tree.variant n i b k ps) (tuple vs) m = let e = m.admitted in cc
matched (tree.variant n i b k ps) (made j vs) m = let e = m.admitted in cc
matched (tree.variant n i b k ps) (pointing v) m = let e = m.admitted in cc
matched (behind a p) (number j) m = let e = m.admitted in cc
matched (behind a p) (value.truth c) m = let e = m.admitted in cc
matched (behind a p) (tuple vs) m = let e = m.admitted in cc
matched (behind a p) (made j vs) m = let e = m.admitted in cc
matched (behind a p) (value.variant j l vs) m = let e = m.admitted in cc
