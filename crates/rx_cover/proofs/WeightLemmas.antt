-- What a head leaves of a matrix asks for less.
use Rattle.std.proofs.Common.{◌≡◌, ℕ, zero, suc, ◌+◌, ◌<◌, ◌≤◌, nat_eq, Bool, true, false, List, [], ◌∷◌, ◌++◌, length, replicate, Option, Some, None, slice_set, refl, ap, eqb-true, if◌then◌else◌, arith}
use Rattle.rx_typed.specs.Types.{Typ}
use Rattle.rx_typed.specs.Tree.{Pattern, any, bind, exactly, parts, variant, behind, Subpatterns, no_part, part_and}
use Rattle.rx_cover.specs.Matching.{part_of}
use Rattle.rx_cover.specs.Heads.{Head, head_in, parts_in}
use Rattle.rx_cover.specs.Matrices.{Row, asks, is_it, admits, mark_parts, mark_row, mark_rows, kept_parts, row_under, rows_under, row_beside, rows_beside, kept_types, weight, weight_parts, row_weight, rows_weight}

abbrev count : Subpatterns → ℕ
count no_part = 0
count (part_and i p ps) = suc (count ps)

abbrev marks : List Bool → ℕ
marks [] = 0
marks (true ∷ m) = suc (marks m)
marks (false ∷ m) = marks m

set_marks : (m : List Bool) (i : ℕ) → marks (slice_set m i true) ≤ suc (marks m)
set_marks [] i = omega arith
set_marks (true ∷ m) zero = omega arith
set_marks (false ∷ m) zero = omega arith
set_marks (true ∷ m) (suc i) = let h = set_marks m i in omega (arith, h)
set_marks (false ∷ m) (suc i) = set_marks m i

parts_marks : (m : List Bool) (ps : Subpatterns) → marks (mark_parts m ps) ≤ marks m + count ps
parts_marks m no_part = omega arith
parts_marks m (part_and i p ps) = by (asks p) (parts_marks (if asks p then slice_set m i true else m) ps)
  where
    by : (b : Bool) → marks (mark_parts (if asks p then slice_set m i true else m) ps) ≤ marks (if b then slice_set m i true else m) + count ps → marks (mark_parts (if asks p then slice_set m i true else m) ps) ≤ marks m + suc (count ps)
    by true h = let s = set_marks m i in omega (arith, h, s)
    by false h = omega (arith, h)

-- how many parts a row names, where it asks for the head
abbrev named : Head → Row → ℕ
named h [] = 0
named h (p ∷ ps) = if is_it (head_in p) h then count (parts_in p) else 0

abbrev all_named : Head → List Row → ℕ
all_named h [] = 0
all_named h (r ∷ rs) = named h r + all_named h rs

row_marks : (h : Head) (m : List Bool) (r : Row) → marks (mark_row h m r) ≤ marks m + named h r
row_marks h m [] = omega arith
row_marks h m (p ∷ ps) = by (is_it (head_in p) h)
  where
    by : (b : Bool) → marks (if b then mark_parts m (parts_in p) else m) ≤ marks m + (if b then count (parts_in p) else 0)
    by true = parts_marks m (parts_in p)
    by false = omega arith

rows_marks : (h : Head) (m : List Bool) (rs : List Row) → marks (mark_rows h m rs) ≤ marks m + all_named h rs
rows_marks h m [] = omega arith
rows_marks h m (r ∷ rs) = let a = rows_marks h (mark_row h m r) rs in let b = row_marks h m r in omega (arith, a, b)

no_marks : (n : ℕ) → marks (replicate n false) ≡ 0
no_marks zero = refl
no_marks (suc n) = no_marks n

kept_length : (m : List Bool) (us ts : List Typ) → length (kept_types m us ts) ≤ marks m + length ts
kept_length [] us ts = omega arith
kept_length (true ∷ m) (u ∷ us) ts = let h = kept_length m us ts in omega (arith, h)
kept_length (false ∷ m) (u ∷ us) ts = kept_length m us ts
kept_length (true ∷ m) [] ts = omega arith
kept_length (false ∷ m) [] ts = omega arith

-- ---- what the kept parts ask

kept_none : (m : List Bool) (k : ℕ) (rest : Row) → row_weight (kept_parts m k no_part rest) ≡ row_weight rest
kept_none [] k rest = refl
kept_none (true ∷ m) k rest = let e = kept_none m (suc k) rest in omega (arith, e)
kept_none (false ∷ m) k rest = kept_none m (suc k) rest

kept_past : (m : List Bool) (k i : ℕ) (p : Pattern) (ps : Subpatterns) (rest : Row) → i < k → kept_parts m k (part_and i p ps) rest ≡ kept_parts m k ps rest
kept_past [] k i p ps rest l = refl
kept_past (false ∷ m) k i p ps rest l = kept_past m (suc k) i p ps rest (omega (arith, l))
kept_past (true ∷ m) k i p ps rest l = by (nat_eq i k) refl (kept_past m (suc k) i p ps rest (omega (arith, l)))
  where
    by : (b : Bool) → nat_eq i k ≡ b → kept_parts m (suc k) (part_and i p ps) rest ≡ kept_parts m (suc k) ps rest
        → ((if b then p else part_of ps k) ∷ kept_parts m (suc k) (part_and i p ps) rest) ≡ (part_of ps k ∷ kept_parts m (suc k) ps rest)
    by true e h = let q = eqb-true i k e in absurd (omega (arith, q, l))
    by false e h = ap (λ r. part_of ps k ∷ r) h

kept_more : (m : List Bool) (k i : ℕ) (p : Pattern) (ps : Subpatterns) (rest : Row) → row_weight (kept_parts m k (part_and i p ps) rest) ≤ weight p + row_weight (kept_parts m k ps rest)
kept_more [] k i p ps rest = omega arith
kept_more (false ∷ m) k i p ps rest = kept_more m (suc k) i p ps rest
kept_more (true ∷ m) k i p ps rest = by (nat_eq i k) refl (kept_more m (suc k) i p ps rest)
  where
    by : (b : Bool) → nat_eq i k ≡ b → row_weight (kept_parts m (suc k) (part_and i p ps) rest) ≤ weight p + row_weight (kept_parts m (suc k) ps rest)
        → weight (if b then p else part_of ps k) + row_weight (kept_parts m (suc k) (part_and i p ps) rest) ≤ weight p + (weight (part_of ps k) + row_weight (kept_parts m (suc k) ps rest))
    by true e h = let q = eqb-true i k e in let s = ap row_weight (kept_past m (suc k) i p ps rest (omega (arith, q))) in omega (arith, s)
    by false e h = omega (arith, h)

kept_weight : (m : List Bool) (ps : Subpatterns) (rest : Row) → row_weight (kept_parts m 0 ps rest) + count ps ≤ weight_parts ps + row_weight rest
kept_weight m no_part rest = let e = kept_none m 0 rest in omega (arith, e)
kept_weight m (part_and i p ps) rest = let a = kept_more m 0 i p ps rest in let b = kept_weight m ps rest in omega (arith, a, b)

weight_in : (p : Pattern) → weight_parts (parts_in p) ≤ weight p
weight_in any = omega arith
weight_in (bind n x m) = omega arith
weight_in (exactly n c) = omega arith
weight_in (parts ps) = omega arith
weight_in (variant n i b k ps) = omega arith
weight_in (behind m p) = omega arith

it_admitted : (o : Option Head) (h : Head) → is_it o h ≡ true → admits o h ≡ true
it_admitted None h e = refl
it_admitted (Some g) h e = e

under_row : (h : Head) (m : List Bool) (r : Row) → rows_weight (row_under h m r) + named h r ≤ row_weight r
under_row h m [] = omega arith
under_row h m (p ∷ ps) = by (admits (head_in p) h) (is_it (head_in p) h) (it_admitted (head_in p) h)
  where
    by : (a b : Bool) → (b ≡ true → a ≡ true) → rows_weight (if a then kept_parts m 0 (parts_in p) ps ∷ [] else []) + (if b then count (parts_in p) else 0) ≤ weight p + row_weight ps
    by true true k = let c = kept_weight m (parts_in p) ps in let d = weight_in p in omega (arith, c, d)
    by true false k = let c = kept_weight m (parts_in p) ps in let d = weight_in p in omega (arith, c, d)
    by false true k = let e = k refl in cc
    by false false k = omega arith

append_weight : (xs ys : List Row) → rows_weight (xs ++ ys) ≡ rows_weight xs + rows_weight ys
append_weight [] ys = omega arith
append_weight (x ∷ xs) ys = let e = append_weight xs ys in omega (arith, e)

under_rows : (h : Head) (m : List Bool) (rs : List Row) → rows_weight (rows_under h m rs) + all_named h rs ≤ rows_weight rs
under_rows h m [] = omega arith
under_rows h m (r ∷ rs) = let a = under_row h m r in let b = under_rows h m rs in let c = append_weight (row_under h m r) (rows_under h m rs) in omega (arith, a, b, c)

pub under_less : (h : Head) (n : ℕ) (us ts : List Typ) (rows : List Row)
    → length (kept_types (mark_rows h (replicate n false) rows) us ts) + rows_weight (rows_under h (mark_rows h (replicate n false) rows) rows) < suc (length ts) + rows_weight rows
under_less h n us ts rows =
    let m = mark_rows h (replicate n false) rows in
    let a = kept_length m us ts in
    let b = rows_marks h (replicate n false) rows in
    let c = no_marks n in
    let d = under_rows h m rows in
    omega (arith, a, b, c, d)

row_beside_weight : (r : Row) → rows_weight (row_beside r) ≤ row_weight r
row_beside_weight [] = omega arith
row_beside_weight (p ∷ ps) = by (asks p)
  where
    by : (b : Bool) → rows_weight (if b then [] else ps ∷ []) ≤ weight p + row_weight ps
    by true = omega arith
    by false = omega arith

beside_weight : (rs : List Row) → rows_weight (rows_beside rs) ≤ rows_weight rs
beside_weight [] = omega arith
beside_weight (r ∷ rs) = let a = row_beside_weight r in let b = beside_weight rs in let c = append_weight (row_beside r) (rows_beside rs) in omega (arith, a, b, c)

pub beside_less : (ts : List Typ) (rows : List Row) → length ts + rows_weight (rows_beside rows) < suc (length ts) + rows_weight rows
beside_less ts rows = let a = beside_weight rows in omega (arith, a)
