-- How many combinations the tests of a match tell apart: the product over the tested positions of (distinct heads + 1).
-- A part of a pattern is refutable where it is an integer, a truth value, or a variant of an enum that has several.
use Rattle.std.specs.Prelude.{ℕ, suc, ◌+◌, ◌*◌, min, nat_eq, Bool, true, false, ◌&&◌, if◌then◌else◌, List, [], ◌∷◌, ◌++◌, length}
use Rattle.rx_cover.specs.declared.width.Turn.{Turn}
use Rattle.rx_cover.specs.declared.width.Turn.TheVariants as turn
use Rattle.rx_typed.specs.Tree as tree
use Rattle.rx_typed.specs.Tree.{Pattern, any, bind, exactly, parts, behind, Subpatterns, no_part, part_and, whole_number}
use Rattle.rx_cover.specs.Heads.{Head, whole, truth, chosen, same_bool, with_one}

pub record Test : Type 0 where
  -- the way to it from the scrutinee
  pub path : List Turn
  pub head : Head

abbrev pub test_at : List Turn → Head → Test
test_at path h = record { path = path; head = h }

abbrev pub test_if : Bool → Test → List Test
test_if b t = if b then t ∷ [] else []

abbrev mutual
  pub tests_in : List Turn → Pattern → List Test
  tests_in path any = []
  tests_in path (bind n x m) = []
  tests_in path (exactly n (whole_number k i)) = test_at path (whole i) ∷ []
  tests_in path (exactly n (tree.truth b)) = test_at path (truth b) ∷ []
  tests_in path (parts ps) = tests_among path ps
  tests_in path (tree.variant n i b k ps) = test_if b (test_at path (chosen i k)) ++ tests_among (path ++ turn.Variant k ∷ []) ps
  tests_in path (behind m p) = tests_in (path ++ turn.Deref m ∷ []) p

  pub tests_among : List Turn → Subpatterns → List Test
  tests_among path no_part = []
  tests_among path (part_and i p ps) = tests_in (path ++ turn.Field i ∷ []) p ++ tests_among path ps

-- those of all arms
abbrev pub tests_of : List Pattern → List Test
tests_of [] = []
tests_of (p ∷ ps) = tests_in [] p ++ tests_of ps

-- ---- positions: each once, with its heads, each once

pub record Tested : Type 0 where
  pub path : List Turn
  pub heads : List Head

abbrev pub same_turn : Turn → Turn → Bool
same_turn (turn.Field i) (turn.Field j) = nat_eq i j
same_turn (turn.Variant i) (turn.Variant j) = nat_eq i j
same_turn (turn.Deref a) (turn.Deref b) = same_bool a b
same_turn _ _ = false

abbrev pub same_turns : List Turn → List Turn → Bool
same_turns (s ∷ ss) (t ∷ ts) = same_turn s t && same_turns ss ts
same_turns _ _ = true

abbrev pub same_path : List Turn → List Turn → Bool
same_path ss ts = nat_eq (length ss) (length ts) && same_turns ss ts

abbrev pub with_test : List Tested → Test → List Tested
with_test [] t = record { path = t.path; heads = t.head ∷ [] } ∷ []
with_test (q ∷ qs) t = if same_path q.path t.path then record { path = q.path; heads = with_one q.heads t.head } ∷ qs else q ∷ with_test qs t

abbrev pub with_tests : List Tested → List Test → List Tested
with_tests qs [] = qs
with_tests qs (t ∷ ts) = with_tests (with_test qs t) ts

abbrev pub tested : List Pattern → List Tested
tested ps = with_tests [] (tests_of ps)

abbrev pub product : List Tested → ℕ
product [] = 1
product (q ∷ qs) = suc (length q.heads) * product qs

abbrev pub width : List Pattern → ℕ
width ps = product (tested ps)

abbrev pub limit : ℕ
limit = 65536

-- as a number of 64 bits
abbrev pub capped : ℕ → ℕ
capped n = min n 18446744073709551615

-- ---- what the private functions do

-- the number of the position with a path; where none has it, how many there are
abbrev pub place_of : List Tested → List Turn → ℕ
place_of [] p = 0
place_of (q ∷ qs) p = if same_path q.path p then 0 else suc (place_of qs p)

abbrev pub scaled : ℕ → List Tested → ℕ
scaled n [] = n
scaled n (q ∷ qs) = scaled (capped (capped (n * length q.heads) + n)) qs

abbrev pub capped_width : List Pattern → ℕ
capped_width ps = capped (width ps)

-- the tests of one pattern after another, at a path
abbrev pub arm_tests : List Tested → List Turn → List Pattern → List Tested
arm_tests qs path [] = qs
arm_tests qs path (p ∷ ps) = arm_tests (with_tests qs (tests_in path p)) path ps
