-- The table of tested positions, and the product over it.
use Rattle.std.proofs.Common.{◌≡◌, ℕ, zero, suc, ◌+◌, ◌*◌, ◌<◌, ◌≤◌, Bool, true, false, List, [], ◌∷◌, ◌++◌, map, drop, length, get_or, slice_set, Result, Ok, Err, OnOk, refl, sym, ap, ◌∙◌, if◌then◌else◌, ◌⊎◌, ⊎_elim, arith}
use Rattle.std.specs.declared.alloc.AllocError.{AllocError}
use Rattle.std.proofs.lemmas.List.{length-map}
use Rattle.std.proofs.Math.Nat.{mul-suc, mul_assoc}
use Rattle.rx_typed.specs.Tree.{Pattern}
use Rattle.rx_typed.specs.declared.tree.Subpattern.{Subpattern}
use Rattle.rx_typed.specs.declared.tree.Arm.{Arm}
use Rattle.rx_typed.specs.PlainTree.{plain-Pattern, plain-Subpattern, plain-Arm, subpatterns_of, arms_of}
use Rattle.rx_typed.proofs.Rules.{subpattern_by_parts, arm_by_parts}
use Rattle.rx_cover.specs.Choices.{patterns_of}
use Rattle.rx_cover.specs.declared.heads.Head as code_head
use Rattle.rx_cover.specs.declared.width.Turn.{Turn}
use Rattle.rx_cover.specs.declared.width.Turn.TheVariants as turn
use Rattle.rx_cover.specs.declared.width.Tested.{Tested}
use Rattle.rx_cover.specs.Heads.{Head, with_one}
use Rattle.rx_cover.specs.PlainCells.{plain-Head}
use Rattle.rx_cover.specs.PlainTested.{plain-Tested}
use Rattle.rx_cover.specs.Width as plain
use Rattle.rx_cover.specs.Width.{Test, test_at, tests_in, tests_among, tests_of, same_path, with_test, with_tests, place_of, product, width, capped, capped_width, scaled, arm_tests}
use Rattle.rx_cover.proofs.CellLemmas.{at_next}

pub test_there : (qs : List Tested) (path : List Turn) (h : Head) (at : ℕ) (q new : Tested) → at ≡ place_of (map plain-Tested qs) path → at < length qs → q ≡ get_or qs at q
    → new.path ≡ q.path → map plain-Head new.heads.keys ≡ with_one (map plain-Head q.heads.keys) h → map plain-Tested (slice_set qs at new) ≡ with_test (map plain-Tested qs) (test_at path h)
test_there [] path h at q new e l f p g = absurd (omega (arith, l))
test_there (x ∷ qs) path h at q new e l f p g = by (same_path x.path path) at e l f
    (λ at e l f. test_there qs path h at q new e l f p g)
  where
    by : (b : Bool) (at : ℕ) → at ≡ (if b then 0 else suc (place_of (map plain-Tested qs) path)) → at < suc (length qs) → q ≡ get_or (x ∷ qs) at q
        → ((at : ℕ) → at ≡ place_of (map plain-Tested qs) path → at < length qs → q ≡ get_or qs at q → map plain-Tested (slice_set qs at new) ≡ with_test (map plain-Tested qs) (test_at path h))
        → map plain-Tested (slice_set (x ∷ qs) at new) ≡ (if b then record { path = x.path; heads = with_one (map plain-Head x.heads.keys) h } ∷ map plain-Tested qs else plain-Tested x ∷ with_test (map plain-Tested qs) (test_at path h))
    by true zero e l f k = ap (λ x. record { path = x; heads = map plain-Head new.heads.keys } ∷ map plain-Tested qs) p ∙ ap (λ l. record { path = q.path; heads = l } ∷ map plain-Tested qs) g ∙ ap (λ (z : Tested). record { path = z.path; heads = with_one (map plain-Head z.heads.keys) h } ∷ map plain-Tested qs) f
    by true (suc at) e l f k = cc
    by false zero e l f k = cc
    by false (suc at) e l f k = ap (λ l. plain-Tested x ∷ l) (k at (cc) (omega (arith, l)) f)

pub there_if : (qs : List Tested) (path : List Turn) (h : Head) (at : ℕ) (q new : Tested) (r : Result (Unit {0}) AllocError) → at ≡ place_of (map plain-Tested qs) path → at < length qs → q ≡ get_or qs at q
    → new.path ≡ q.path → OnOk r (map plain-Head new.heads.keys ≡ with_one (map plain-Head q.heads.keys) h) → OnOk r (map plain-Tested (slice_set qs at new) ≡ with_test (map plain-Tested qs) (test_at path h))
there_if qs path h at q new (Ok u) e l f p g = test_there qs path h at q new e l f p g
there_if qs path h at q new (Err x) e l f p g = tt

test_new : (qs : List Tested) (path : List Turn) (h : Head) (at : ℕ) → at ≡ place_of (map plain-Tested qs) path → length qs ≤ at → map plain-Tested qs ++ record { path = path; heads = h ∷ [] } ∷ [] ≡ with_test (map plain-Tested qs) (test_at path h)
test_new [] path h at e l = refl
test_new (x ∷ qs) path h at e l = by (same_path x.path path) e (λ at e l. test_new qs path h at e l)
  where
    by : (b : Bool) → at ≡ (if b then 0 else suc (place_of (map plain-Tested qs) path)) → ((at : ℕ) → at ≡ place_of (map plain-Tested qs) path → length qs ≤ at → map plain-Tested qs ++ record { path = path; heads = h ∷ [] } ∷ [] ≡ with_test (map plain-Tested qs) (test_at path h))
        → plain-Tested x ∷ (map plain-Tested qs ++ record { path = path; heads = h ∷ [] } ∷ []) ≡ (if b then record { path = x.path; heads = with_one (map plain-Head x.heads.keys) h } ∷ map plain-Tested qs else plain-Tested x ∷ with_test (map plain-Tested qs) (test_at path h))
    by true e k = absurd (omega (arith, e, l))
    by false e k = ap (λ l. plain-Tested x ∷ l) (k (place_of (map plain-Tested qs) path) refl (omega (arith, e, l)))

pub new_if : (qs : List Tested) (path : List Turn) (h : Head) (at : ℕ) (new : List plain.Tested) (r : Result (Unit {0}) AllocError) → at ≡ place_of (map plain-Tested qs) path → length qs ≤ at
    → OnOk r (new ≡ map plain-Tested qs ++ record { path = path; heads = h ∷ [] } ∷ []) → OnOk r (new ≡ with_test (map plain-Tested qs) (test_at path h))
new_if qs path h at new (Ok u) e l g = g ∙ test_new qs path h at e l
new_if qs path h at new (Err x) e l g = tt

with_more : (qs : List plain.Tested) (xs ys : List Test) → with_tests qs (xs ++ ys) ≡ with_tests (with_tests qs xs) ys
with_more qs [] ys = refl
with_more qs (x ∷ xs) ys = with_more (with_test qs x) xs ys

pub parts_next : (qs : List plain.Tested) (path : List Turn) (xs : List Subpattern) (i : ℕ) (x : Subpattern) → i < length xs → x ≡ get_or xs i x
    → with_tests qs (tests_among path (subpatterns_of (map plain-Subpattern (drop i xs)))) ≡ with_tests (with_tests qs (tests_in (path ++ turn.Field x.field ∷ []) (plain-Pattern x.pattern))) (tests_among path (subpatterns_of (map plain-Subpattern (drop (i + 1) xs))))
parts_next qs path xs i x l e =
    at_next (λ ys. with_tests qs (tests_among path (subpatterns_of (map plain-Subpattern ys)))) xs i x l e ∙ rw (subpattern_by_parts x) refl
    ∙ with_more qs (tests_in (path ++ turn.Field x.field ∷ []) (plain-Pattern x.pattern)) (tests_among path (subpatterns_of (map plain-Subpattern (drop (i + 1) xs))))

pub arms_tests_next : (qs : List plain.Tested) (path : List Turn) (xs : List Arm) (i : ℕ) (x : Arm) → i < length xs → x ≡ get_or xs i x
    → arm_tests qs path (patterns_of (arms_of (map plain-Arm (drop i xs)))) ≡ arm_tests (with_tests qs (tests_in path (plain-Pattern x.pattern))) path (patterns_of (arms_of (map plain-Arm (drop (i + 1) xs))))
arms_tests_next qs path xs i x l e = at_next (λ ys. arm_tests qs path (patterns_of (arms_of (map plain-Arm ys)))) xs i x l e ∙ rw (arm_by_parts x) refl

-- ---- the product

pub heads_length : (hs : List code_head.Head) → length (map plain-Head hs) ≡ length hs
heads_length hs = length-map hs plain-Head

positive : (qs : List plain.Tested) → (k : ℕ) × (product qs ≡ suc k)
positive [] = (0, refl)
positive (q ∷ qs) = let p = positive qs in (length q.heads * suc p.0 + p.0, rw p.1 (omega (arith, suc_times (length q.heads) p.0)))
  where
    suc_times : (a b : ℕ) → suc a * suc b ≡ suc (a * suc b + b)
    suc_times a b = grind arith

greatest_number : ℕ
greatest_number = 18446744073709551615

capped_times : (a p : ℕ) → capped (capped a * suc p) ≡ capped (a * suc p)
capped_times a p = ⊎_elim below above (either a 18446744073709551615)
  where
    either : (a b : ℕ) → (a ≤ b) ⊎ (b < a)
    either a b = grind arith

    below : a ≤ 18446744073709551615 → capped (capped a * suc p) ≡ capped (a * suc p)
    below l = let e : capped a ≡ a = omega (arith, l) in ap (λ x. capped (x * suc p)) e

    above : 18446744073709551615 < a → capped (capped a * suc p) ≡ capped (a * suc p)
    above l = let e : capped a ≡ 18446744073709551615 = omega (arith, l) in
        let b = mul-suc (capped a) p in let c = mul-suc a p in omega (arith, e, b, c, l)

capped_plus : (a b : ℕ) → capped (capped a + b) ≡ capped (a + b)
capped_plus a b = omega arith

scaled_is : (n : ℕ) (qs : List plain.Tested) → n ≤ 18446744073709551615 → scaled n qs ≡ capped (n * product qs)
scaled_is n [] l = let e : n * 1 ≡ n = omega arith in let f : n ≡ capped n = omega (arith, l) in f ∙ ap capped (sym e)
scaled_is n (q ∷ qs) l =
    let k = length q.heads in
    let p = positive qs in
    scaled_is (capped (capped (n * k) + n)) qs (omega arith)
    ∙ ap (λ x. capped (x * product qs)) (capped_plus (n * k) n ∙ ap capped (sym (mul-suc n k)))
    ∙ ap (λ x. capped (capped (n * suc k) * x)) p.1 ∙ capped_times (n * suc k) p.0 ∙ ap (λ x. capped (n * suc k * x)) (sym p.1)
    ∙ ap capped (mul_assoc n (suc k) (product qs))

tests_one_by_one : (qs : List plain.Tested) (ps : List Pattern) → arm_tests qs [] ps ≡ with_tests qs (tests_of ps)
tests_one_by_one qs [] = refl
tests_one_by_one qs (p ∷ ps) = tests_one_by_one (with_tests qs (tests_in [] p)) ps ∙ sym (with_more qs (tests_in [] p) (tests_of ps))

pub width_is : (ps : List Pattern) → scaled 1 (arm_tests [] [] ps) ≡ capped_width ps
width_is ps = ap (λ qs. scaled 1 qs) (tests_one_by_one [] ps) ∙ scaled_is 1 (with_tests [] (tests_of ps)) (omega arith) ∙ ap capped (one (product (with_tests [] (tests_of ps))))
  where
    one : (n : ℕ) → 1 * n ≡ n
    one n = omega arith
