-- Patterns by other numbers of items have as many tests, at positions that are apart where they were: the product is the same.
use Rattle.std.proofs.Common.{◌≡◌, ℕ, suc, ◌*◌, Bool, true, false, ◌&&◌, ◌||◌, List, [], ◌∷◌, ◌++◌, map, length, refl, sym, ap, ◌∙◌, nat_eq, eq-eqb, eqb-true, if◌then◌else◌, arith}
use Rattle.std.proofs.lemmas.List.{length-map}
use Rattle.rx_typed.specs.Tree as tree
use Rattle.rx_typed.specs.Tree.{Pattern, Subpatterns, any, bind, exactly, parts, variant, behind, no_part, part_and, whole_number}
use Rattle.rx_cover.specs.Heads.{Head, whole, truth, composed, chosen, pointed, same_head, has, with_one}
use Rattle.rx_cover.specs.Width.{Test, test_at, tests_in, tests_among, tests_of, Tested, same_turns, same_path, with_test, with_tests, product, width}
use Rattle.rx_cover.proofs.CellLemmas.{map_append}
use Rattle.rx_engine_blocks.specs.Renumbering.{Renumbering}
use Rattle.rx_engine_typing.specs.Corresponding.{StayApart}
use Rattle.rx_engine_covered.specs.LikeChoices as like
use Rattle.rx_engine_covered.specs.LikeChoices.{LikePattern, LikeSubpatterns, LikeSeen, AllSeen}

joined : (g : Test → Test) (a : List Test) {a' : List Test} (b : List Test) {b' : List Test} → a' ≡ map g a → b' ≡ map g b → a' ++ b' ≡ map g (a ++ b)
joined g a {a'} b {b'} e k = ap (λ (ts : List Test). ts ++ b') e ∙ (ap (λ (ts : List Test). map g a ++ ts) k ∙ sym (map_append g a b))

-- ---- positions behind one, and heads that are others and apart as they were

module _ (b : Test) (h : Head → Head) (paths : (x y : _) → same_path (b.path ++ x) (b.path ++ y) ≡ same_path x y) (heads : (x y : Head) → same_head (h x) (h y) ≡ same_head x y) where
  abbrev pub test_there : Test → Test
  test_there t = test_at (b.path ++ t.path) (h t.head)

  abbrev tested_there : Tested → Tested
  tested_there q = record { path = b.path ++ q.path; heads = map h q.heads }

  has_there : (hs : List Head) (x : Head) → has (map h hs) (h x) ≡ has hs x
  has_there [] x = refl
  has_there (g ∷ gs) x = ap (λ (c : Bool). c || has (map h gs) (h x)) (heads g x) ∙ ap (λ (c : Bool). same_head g x || c) (has_there gs x)

  one_there : (hs : List Head) (x : Head) → with_one (map h hs) (h x) ≡ map h (with_one hs x)
  one_there hs x = ap (λ (c : Bool). if c then map h hs else map h hs ++ h x ∷ []) (has_there hs x) ∙ by (has hs x)
    where
      by : (c : Bool) → (if c then map h hs else map h hs ++ h x ∷ []) ≡ map h (if c then hs else hs ++ x ∷ [])
      by true = refl
      by false = sym (map_append h hs (x ∷ []))

  -- the same one, or those behind
  abbrev put : Bool → List Head → Tested → List Tested → List Tested → List Tested
  put c hs q qs rs = if c then record { path = q.path; heads = hs } ∷ qs else q ∷ rs

  one_more : (qs : List Tested) (t : Test) → with_test (map tested_there qs) (test_there t) ≡ map tested_there (with_test qs t)
  one_more [] t = refl
  one_more (q ∷ qs) t = ap (λ (c : Bool). put c (with_one (map h q.heads) (h t.head)) (tested_there q) (map tested_there qs) (with_test (map tested_there qs) (test_there t))) (paths q.path t.path)
      ∙ by (same_path q.path t.path) (one_more qs t)
    where
      by : (c : Bool) → with_test (map tested_there qs) (test_there t) ≡ map tested_there (with_test qs t)
          → put c (with_one (map h q.heads) (h t.head)) (tested_there q) (map tested_there qs) (with_test (map tested_there qs) (test_there t)) ≡ map tested_there (put c (with_one q.heads t.head) q qs (with_test qs t))
      by true e = ap (λ (gs : List Head). record { path = b.path ++ q.path; heads = gs } ∷ map tested_there qs) (one_there q.heads t.head)
      by false e = ap (λ (ps : List Tested). tested_there q ∷ ps) e

  all_more : (qs : List Tested) (ts : List Test) → with_tests (map tested_there qs) (map test_there ts) ≡ map tested_there (with_tests qs ts)
  all_more qs [] = refl
  all_more qs (t ∷ ts) = ap (λ (ps : List Tested). with_tests ps (map test_there ts)) (one_more qs t) ∙ all_more (with_test qs t) ts

  product_there : (qs : List Tested) → product (map tested_there qs) ≡ product qs
  product_there [] = refl
  product_there (q ∷ qs) = ap (λ (n : ℕ). suc n * product (map tested_there qs)) (length-map q.heads h) ∙ ap (λ (n : ℕ). suc (length q.heads) * n) (product_there qs)

  pub tests_width : (ts ts' : List Test) → ts' ≡ map test_there ts → product (with_tests [] ts') ≡ product (with_tests [] ts)
  tests_width ts ts' e = ap (λ (us : List Test). product (with_tests [] us)) e ∙ ap product (all_more [] ts) ∙ product_there (with_tests [] ts)

-- ---- the tests of patterns behind a reference are those of the patterns, behind its position

abbrev same_test : Head → Head
same_test x = x

abbrev first_test : List Test → Test
first_test [] = test_at [] composed
first_test (t ∷ ts) = t

-- the position behind a reference, which is mutable or not
abbrev reached : Bool → Test
reached m = first_test (tests_in [] (behind m (exactly 0 (tree.truth true))))

mutual
  prefixed : (s : _) (a : _) (p : Pattern) → tests_in (s ∷ a) p ≡ map (λ (t : Test). test_at (s ∷ t.path) t.head) (tests_in a p)
  prefixed s a any = refl
  prefixed s a (bind n x m) = refl
  prefixed s a (exactly n (whole_number k i)) = refl
  prefixed s a (exactly n (tree.truth b)) = refl
  prefixed s a (parts ps) = all_prefixed s a ps
  prefixed s a (variant n i true k ps) = ap (λ (ts : List Test). test_at (s ∷ a) (chosen i k) ∷ ts) (all_prefixed s (a ++ _ ∷ []) ps)
  prefixed s a (variant n i false k ps) = all_prefixed s (a ++ _ ∷ []) ps
  prefixed s a (behind m p) = prefixed s (a ++ _ ∷ []) p

  all_prefixed : (s : _) (a : _) (ps : Subpatterns) → tests_among (s ∷ a) ps ≡ map (λ (t : Test). test_at (s ∷ t.path) t.head) (tests_among a ps)
  all_prefixed s a no_part = refl
  all_prefixed s a (part_and i p ps) = joined (λ (t : Test). test_at (s ∷ t.path) t.head) (tests_in (a ++ _ ∷ []) p) (tests_among a ps) (prefixed s (a ++ _ ∷ []) p) (all_prefixed s a ps)

-- ---- numbers that stay apart

same_number : (f : ℕ → ℕ) → StayApart f → (i j : ℕ) → nat_eq (f i) (f j) ≡ nat_eq i j
same_number f apart i j = by (nat_eq i j) refl (nat_eq (f i) (f j)) refl
  where
    by : (b : Bool) → nat_eq i j ≡ b → (c : Bool) → nat_eq (f i) (f j) ≡ c → c ≡ b
    by true e true g = refl
    by false e false g = refl
    by true e false g = sym g ∙ eq-eqb (f i) (f j) (ap f (eqb-true i j e))
    by false e true g = sym (eq-eqb i j (apart i j (eqb-true (f i) (f j) g))) ∙ e

same_length : (i j : ℕ) → nat_eq (suc i) (suc j) ≡ nat_eq i j
same_length i j = same_number suc (λ m n e. omega (arith, e)) i j

-- ---- heads by other numbers of items

module _ (r : Renumbering) where
  abbrev pub head_there : Head → Head
  head_there (whole n) = whole n
  head_there (truth b) = truth b
  head_there composed = composed
  head_there (chosen i k) = chosen (r.items i) k
  head_there pointed = pointed

  module _ (apart : StayApart r.items) where
    heads_there : (a b : Head) → same_head (head_there a) (head_there b) ≡ same_head a b
    heads_there (chosen i k) (chosen j l) = ap (λ (b : Bool). b && nat_eq k l) (same_number r.items apart i j)
    heads_there (whole n) (whole m) = refl
    heads_there (truth b) (truth c) = refl
    heads_there composed composed = refl
    heads_there pointed pointed = refl
    heads_there (whole n) (truth c) = refl
    heads_there (whole n) composed = refl
    heads_there (whole n) (chosen j l) = refl
    heads_there (whole n) pointed = refl
    heads_there (truth b) (whole m) = refl
    heads_there (truth b) composed = refl
    heads_there (truth b) (chosen j l) = refl
    heads_there (truth b) pointed = refl
    heads_there composed (whole m) = refl
    heads_there composed (truth c) = refl
    heads_there composed (chosen j l) = refl
    heads_there composed pointed = refl
    heads_there (chosen i k) (whole m) = refl
    heads_there (chosen i k) (truth c) = refl
    heads_there (chosen i k) composed = refl
    heads_there (chosen i k) pointed = refl
    heads_there pointed (whole m) = refl
    heads_there pointed (truth c) = refl
    heads_there pointed composed = refl
    heads_there pointed (chosen j l) = refl

  -- ---- the tests of a pattern

  abbrev there : Test → Test
  there t = test_at t.path (head_there t.head)

  mutual
    tests_there : {p p' : Pattern} (a : _) → LikePattern r p p' → tests_in a p' ≡ map there (tests_in a p)
    tests_there a like.LikePattern.takes_any = refl
    tests_there a like.LikePattern.binds = refl
    tests_there a (like.LikePattern.is_exactly {c = whole_number k i}) = refl
    tests_there a (like.LikePattern.is_exactly {c = tree.truth b}) = refl
    tests_there a (like.LikePattern.has_parts h) = parts_there a h
    tests_there a (like.LikePattern.is_variant {i = i} {k = k} {b = true} h) = ap (λ (ts : List Test). test_at a (chosen (r.items i) k) ∷ ts) (parts_there (a ++ _ ∷ []) h)
    tests_there a (like.LikePattern.is_variant {i = i} {k = k} {b = false} h) = parts_there (a ++ _ ∷ []) h
    tests_there a (like.LikePattern.is_behind {m = m} h) = tests_there (a ++ _ ∷ []) h

    parts_there : {ps ps' : Subpatterns} (a : _) → LikeSubpatterns r ps ps' → tests_among a ps' ≡ map there (tests_among a ps)
    parts_there a like.LikeSubpatterns.no_parts = refl
    parts_there a (like.LikeSubpatterns.more_parts {i = i} {p = p} {ps = ps} h hs) = joined there (tests_in (a ++ _ ∷ []) p) (tests_among a ps) (tests_there (a ++ _ ∷ []) h) (parts_there a hs)

  -- ---- patterns of one match; where it is seen through a shared reference, what stands behind the mutable one

  abbrev inner : Pattern → Pattern
  inner (behind m p) = p
  inner _ = any

  abbrev inners : List Pattern → List Pattern
  inners [] = []
  inners (p ∷ ps) = inner p ∷ inners ps

  -- behind that reference
  abbrev under : Bool → Test → Test
  under m t = test_at ((reached m).path ++ t.path) t.head

  as_they_are : {ps ps' : List Pattern} → AllSeen r false ps ps' → tests_of ps' ≡ map there (tests_of ps)
  as_they_are like.AllSeen.none_seen = refl
  as_they_are (like.AllSeen.more_seen {p = p} {ps = ps} (like.LikeSeen.as_it_is h) hs) = joined there (tests_in [] p) (tests_of ps) (tests_there [] h) (as_they_are hs)

  inner_tests : {ps ps' : List Pattern} → AllSeen r true ps ps' → tests_of (inners ps') ≡ map there (tests_of (inners ps))
  inner_tests like.AllSeen.none_seen = refl
  inner_tests (like.AllSeen.more_seen like.LikeSeen.seen_any hs) = inner_tests hs
  inner_tests (like.AllSeen.more_seen like.LikeSeen.seen_binds hs) = inner_tests hs
  inner_tests (like.AllSeen.more_seen {ps = ps} (like.LikeSeen.behind_shared {p = p} h) hs) = joined there (tests_in [] p) (tests_of (inners ps)) (tests_there [] h) (inner_tests hs)

  first_under : {ps ps' : List Pattern} → AllSeen r true ps ps' → tests_of ps ≡ map (under true) (tests_of (inners ps))
  first_under like.AllSeen.none_seen = refl
  first_under (like.AllSeen.more_seen like.LikeSeen.seen_any hs) = first_under hs
  first_under (like.AllSeen.more_seen like.LikeSeen.seen_binds hs) = first_under hs
  first_under (like.AllSeen.more_seen {ps = ps} (like.LikeSeen.behind_shared {p = p} h) hs) = joined (under true) (tests_in [] p) (tests_of (inners ps)) (prefixed _ [] p) (first_under hs)

  second_under : {ps ps' : List Pattern} → AllSeen r true ps ps' → tests_of ps' ≡ map (under false) (tests_of (inners ps'))
  second_under like.AllSeen.none_seen = refl
  second_under (like.AllSeen.more_seen like.LikeSeen.seen_any hs) = second_under hs
  second_under (like.AllSeen.more_seen like.LikeSeen.seen_binds hs) = second_under hs
  second_under (like.AllSeen.more_seen {ps' = ps'} (like.LikeSeen.behind_shared {p' = p'} h) hs) = joined (under false) (tests_in [] p') (tests_of (inners ps')) (prefixed _ [] p') (second_under hs)

  width_by : StayApart r.items → (w : Bool) {ps ps' : List Pattern} → AllSeen r w ps ps' → width ps' ≡ width ps
  width_by apart false {ps} {ps'} l = tests_width (test_at [] composed) head_there (λ x y. refl) (heads_there apart) (tests_of ps) (tests_of ps') (as_they_are l)
  width_by apart true {ps} {ps'} l = tests_width (reached false) same_test (λ x y. ap (λ (c : Bool). c && same_turns x y) (same_length (length x) (length y))) (λ x y. refl) (tests_of (inners ps')) (tests_of ps') (second_under l)
      ∙ (tests_width (test_at [] composed) head_there (λ x y. refl) (heads_there apart) (tests_of (inners ps)) (tests_of (inners ps')) (inner_tests l)
      ∙ sym (tests_width (reached true) same_test (λ x y. ap (λ (c : Bool). c && same_turns x y) (same_length (length x) (length y))) (λ x y. refl) (tests_of (inners ps)) (tests_of ps) (first_under l)))

  pub same_width : StayApart r.items → {w : Bool} {ps ps' : List Pattern} → AllSeen r w ps ps' → width ps' ≡ width ps
  same_width apart {w} l = width_by apart w l
