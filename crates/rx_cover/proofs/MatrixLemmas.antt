-- What a head leaves of a matrix says what the matrix says of values with that head.
use Rattle.std.proofs.Common.{◌≡◌, ℕ, zero, suc, ◌+◌, nat_eq, not, Bool, true, false, ◌||◌, List, [], ◌∷◌, ◌++◌, length, Option, Some, None, slice_get, slice_set, refl, sym, ap, ◌∙◌, subst, eqb-true, if◌then◌else◌, ◌⊎◌, inl, inr, ⊎_elim, arith}
use Rattle.rx_typed.specs.Types.{Typ, Declarations}
use Rattle.rx_typed.specs.Tree.{Pattern, any, bind, exactly, parts, variant, behind, Subpatterns, no_part, part_and}
use Rattle.rx_cover.specs.Values.{Value, Values, no_value, value_and, IsOfType, AreOfTypes}
use Rattle.rx_cover.specs.Matching.{part_of, Matches, MatchParts}
use Rattle.rx_cover.specs.Heads.{Head, head_in, parts_in, head_of, parts_of, IsHead, types_under, with_head, same_head, has}
use Rattle.rx_cover.specs.Matrices.{Row, MatchRow, SomeRow, CoversAll, Misses, CoversHead, MissesHead, CoversHeads, asks, is_it, admits, mark_parts, mark_row, mark_rows, kept_parts, row_under, rows_under, row_beside, rows_beside, kept_types, kept_values, add_head_in, column_heads, is_open, some_open, AreHeads}
use Rattle.rx_cover.proofs.HeadLemmas.{both_true, taken, built, meets, matched, open_matches}

-- ---- masks

-- what is not marked is not asked; from a number on
pub record Marks (mask : List Bool) (k : ℕ) (ps : Subpatterns) : Type 0 where
  pub each : (j : ℕ) → slice_get mask j ≡ Some false → asks (part_of ps (k + j)) ≡ false

marks_rest : (b : Bool) (mask : List Bool) (k : ℕ) (ps : Subpatterns) → Marks (b ∷ mask) k ps → Marks mask (suc k) ps
marks_rest b mask k ps m = record { each = λ j e. let n : k + suc j ≡ suc k + j = omega arith in subst (λ i. asks (part_of ps i) ≡ false) n (m.each (suc j) e) }

marks_here : (mask : List Bool) (k : ℕ) (ps : Subpatterns) → Marks (false ∷ mask) k ps → asks (part_of ps k) ≡ false
marks_here mask k ps m = let n : k + 0 ≡ k = omega arith in subst (λ i. asks (part_of ps i) ≡ false) n (m.each 0 refl)

pub length_set : (ms : List Bool) (n : ℕ) → length (slice_set ms n true) ≡ length ms
length_set [] n = refl
length_set (m ∷ ms) zero = refl
length_set (m ∷ ms) (suc n) = ap suc (length_set ms n)

-- marking takes no mark away
set_keeps : (ms : List Bool) (n j : ℕ) → slice_get (slice_set ms n true) j ≡ Some false → slice_get ms j ≡ Some false
set_keeps [] n j e = e
set_keeps (m ∷ ms) zero zero e = cc
set_keeps (m ∷ ms) zero (suc j) e = e
set_keeps (m ∷ ms) (suc n) zero e = e
set_keeps (m ∷ ms) (suc n) (suc j) e = set_keeps ms n j e

set_here : (ms : List Bool) (n : ℕ) → slice_get (slice_set ms n true) n ≡ Some false → ⊥
set_here [] n e = cc
set_here (m ∷ ms) zero e = cc
set_here (m ∷ ms) (suc n) e = set_here ms n e

mark_keeps : (mask : List Bool) (ps : Subpatterns) (j : ℕ) → slice_get (mark_parts mask ps) j ≡ Some false → slice_get mask j ≡ Some false
mark_keeps mask no_part j e = e
mark_keeps mask (part_and i p ps) j e = by (asks p) (mark_keeps (if asks p then slice_set mask i true else mask) ps j e)
  where
    by : (b : Bool) → slice_get (if b then slice_set mask i true else mask) j ≡ Some false → slice_get mask j ≡ Some false
    by true e = set_keeps mask i j e
    by false e = e

mark_asked : (mask : List Bool) (ps : Subpatterns) (j : ℕ) → slice_get (mark_parts mask ps) j ≡ Some false → asks (part_of ps j) ≡ false
mark_asked mask no_part j e = refl
mark_asked mask (part_and i p ps) j e = by (nat_eq i j) refl (mark_asked (if asks p then slice_set mask i true else mask) ps j e)
  where
    here : (b : Bool) → slice_get (if b then slice_set mask j true else mask) j ≡ Some false → b ≡ false
    here true e = absurd (set_here mask j e)
    here false e = refl

    by : (b : Bool) → nat_eq i j ≡ b → asks (part_of ps j) ≡ false → asks (if b then p else part_of ps j) ≡ false
    by true s a = here (asks p) (subst (λ x. slice_get (if asks p then slice_set mask x true else mask) j ≡ Some false) (eqb-true i j s) (mark_keeps (if asks p then slice_set mask i true else mask) ps j e))
    by false s a = a

row_keeps : (h : Head) (mask : List Bool) (r : Row) (j : ℕ) → slice_get (mark_row h mask r) j ≡ Some false → slice_get mask j ≡ Some false
row_keeps h mask [] j e = e
row_keeps h mask (p ∷ ps) j e = by (is_it (head_in p) h) e
  where
    by : (b : Bool) → slice_get (if b then mark_parts mask (parts_in p) else mask) j ≡ Some false → slice_get mask j ≡ Some false
    by true e = mark_keeps mask (parts_in p) j e
    by false e = e

rows_keep : (h : Head) (mask : List Bool) (rs : List Row) (j : ℕ) → slice_get (mark_rows h mask rs) j ≡ Some false → slice_get mask j ≡ Some false
rows_keep h mask [] j e = e
rows_keep h mask (r ∷ rs) j e = row_keeps h mask r j (rows_keep h (mark_row h mask r) rs j e)

-- each row that asks for this head has its parts marked
abbrev pub RowMarked : Head → List Bool → Row → Type 0
RowMarked h mask [] = Unit {0}
RowMarked h mask (p ∷ ps) = is_it (head_in p) h ≡ true → Marks mask 0 (parts_in p)

abbrev pub AllMarked : Head → List Bool → List Row → Type 0
AllMarked h mask [] = Unit {0}
AllMarked h mask (r ∷ rs) = RowMarked h mask r × AllMarked h mask rs

-- in a mask with more marks
row_more : (h : Head) (mask more : List Bool) (r : Row) → ((j : ℕ) → slice_get more j ≡ Some false → slice_get mask j ≡ Some false)
    → RowMarked h mask r → RowMarked h more r
row_more h mask more [] k m = tt
row_more h mask more (p ∷ ps) k m = λ e. record { each = λ j f. (m e).each j (k j f) }

row_marks : (h : Head) (mask : List Bool) (r : Row) → RowMarked h (mark_row h mask r) r
row_marks h mask [] = tt
row_marks h mask (p ∷ ps) = by (is_it (head_in p) h)
  where
    by : (b : Bool) → b ≡ true → Marks (if b then mark_parts mask (parts_in p) else mask) 0 (parts_in p)
    by true e = record { each = λ j f. let n : j ≡ 0 + j = omega arith in subst (λ i. asks (part_of (parts_in p) i) ≡ false) n (mark_asked mask (parts_in p) j f) }
    by false e = cc

pub all_marked : (h : Head) (mask : List Bool) (rs : List Row) → AllMarked h (mark_rows h mask rs) rs
all_marked h mask [] = tt
all_marked h mask (r ∷ rs) = (row_more h (mark_row h mask r) (mark_rows h (mark_row h mask r) rs) r (rows_keep h (mark_row h mask r) rs) (row_marks h mask r), all_marked h (mark_row h mask r) rs)

length_marked : (mask : List Bool) (ps : Subpatterns) → length (mark_parts mask ps) ≡ length mask
length_marked mask no_part = refl
length_marked mask (part_and i p ps) = length_marked (if asks p then slice_set mask i true else mask) ps ∙ by (asks p)
  where
    by : (b : Bool) → length (if b then slice_set mask i true else mask) ≡ length mask
    by true = length_set mask i
    by false = refl

length_row : (h : Head) (mask : List Bool) (r : Row) → length (mark_row h mask r) ≡ length mask
length_row h mask [] = refl
length_row h mask (p ∷ ps) = by (is_it (head_in p) h)
  where
    by : (b : Bool) → length (if b then mark_parts mask (parts_in p) else mask) ≡ length mask
    by true = length_marked mask (parts_in p)
    by false = refl

pub length_rows : (h : Head) (mask : List Bool) (rs : List Row) → length (mark_rows h mask rs) ≡ length mask
length_rows h mask [] = refl
length_rows h mask (r ∷ rs) = length_rows h (mark_row h mask r) rs ∙ length_row h mask r

-- ---- the parts that are kept

abbrev pub AsLong : List Bool → Values → Type 0
AsLong [] no_value = Unit {0}
AsLong (b ∷ mask) (value_and v vs) = AsLong mask vs
AsLong _ _ = ⊥

pub as_long : (D : Declarations) (mask : List Bool) (us : List Typ) (vs : Values) → length mask ≡ length us → AreOfTypes D us vs → AsLong mask vs
as_long D [] [] no_value e h = tt
as_long D (b ∷ mask) (u ∷ us) (value_and v vs) e h = as_long D mask us vs (cc) h.1
as_long D [] [] (value_and v vs) e h = absurd h
as_long D [] (u ∷ us) vs e h = cc
as_long D (b ∷ mask) [] vs e h = cc
as_long D (b ∷ mask) (u ∷ us) no_value e h = absurd h

pub kept_from : (mask : List Bool) (k : ℕ) (ps : Subpatterns) (rest : Row) (vs ws : Values) → AsLong mask vs → Marks mask k ps
    → MatchRow (kept_parts mask k ps rest) (kept_values mask vs ws) → MatchParts ps k vs × MatchRow rest ws
kept_from [] k ps rest no_value ws l m h = (tt, h)
kept_from (true ∷ mask) k ps rest (value_and v vs) ws l m h = let q = kept_from mask (suc k) ps rest vs ws l (marks_rest true mask k ps m) h.1 in ((h.0, q.0), q.1)
kept_from (false ∷ mask) k ps rest (value_and v vs) ws l m h = let q = kept_from mask (suc k) ps rest vs ws l (marks_rest false mask k ps m) h in ((open_matches (part_of ps k) v (marks_here mask k ps m), q.0), q.1)
kept_from [] k ps rest (value_and v vs) ws l m h = absurd l
kept_from (true ∷ mask) k ps rest no_value ws l m h = absurd l
kept_from (false ∷ mask) k ps rest no_value ws l m h = absurd l

pub kept_to : (mask : List Bool) (k : ℕ) (ps : Subpatterns) (rest : Row) (vs ws : Values) → AsLong mask vs
    → MatchParts ps k vs → MatchRow rest ws → MatchRow (kept_parts mask k ps rest) (kept_values mask vs ws)
kept_to [] k ps rest no_value ws l m h = h
kept_to (true ∷ mask) k ps rest (value_and v vs) ws l m h = (m.0, kept_to mask (suc k) ps rest vs ws l m.1 h)
kept_to (false ∷ mask) k ps rest (value_and v vs) ws l m h = kept_to mask (suc k) ps rest vs ws l m.1 h
kept_to [] k ps rest (value_and v vs) ws l m h = absurd l
kept_to (true ∷ mask) k ps rest no_value ws l m h = absurd l
kept_to (false ∷ mask) k ps rest no_value ws l m h = absurd l

pub kept_typed : (D : Declarations) (mask : List Bool) (us ts : List Typ) (vs ws : Values) → length mask ≡ length us → AreOfTypes D us vs → AreOfTypes D ts ws
    → AreOfTypes D (kept_types mask us ts) (kept_values mask vs ws)
kept_typed D [] [] ts no_value ws e h k = k
kept_typed D (true ∷ mask) (u ∷ us) ts (value_and v vs) ws e h k = (h.0, kept_typed D mask us ts vs ws (cc) h.1 k)
kept_typed D (false ∷ mask) (u ∷ us) ts (value_and v vs) ws e h k = kept_typed D mask us ts vs ws (cc) h.1 k
kept_typed D [] [] ts (value_and v vs) ws e h k = absurd h
kept_typed D [] (u ∷ us) ts vs ws e h k = cc
kept_typed D (b ∷ mask) [] ts vs ws e h k = cc
kept_typed D (true ∷ mask) (u ∷ us) ts no_value ws e h k = absurd h
kept_typed D (false ∷ mask) (u ∷ us) ts no_value ws e h k = absurd h

-- ---- rows

some_append : (xs ys : List Row) (vs : Values) → SomeRow xs vs ⊎ SomeRow ys vs → SomeRow (xs ++ ys) vs
some_append [] ys vs m = ⊎_elim (λ e. absurd e) (λ h. h) m
some_append (x ∷ xs) ys vs m = ⊎_elim (λ h. ⊎_elim (λ a. inl a) (λ b. inr (some_append xs ys vs (inl b))) h) (λ h. inr (some_append xs ys vs (inr h))) m

append_some : (xs ys : List Row) (vs : Values) → SomeRow (xs ++ ys) vs → SomeRow xs vs ⊎ SomeRow ys vs
append_some [] ys vs m = inr m
append_some (x ∷ xs) ys vs m = ⊎_elim (λ a. inl (inl a)) (λ b. ⊎_elim (λ c. inl (inr c)) (λ d. inr d) (append_some xs ys vs b)) m

admits_split : (o : Option Head) (h : Head) → admits o h ≡ true → (o ≡ None) ⊎ (is_it o h ≡ true)
admits_split None h e = inl refl
admits_split (Some g) h e = inr e

-- a pattern without a head asks for nothing
pub headless : (p : Pattern) → head_in p ≡ None → asks p ≡ false
headless any e = refl
headless (bind n x m) e = refl
headless (exactly n c) e = absurd (of_constant c e)
  where
    of_constant : (c : _) → head_in (exactly n c) ≡ None → ⊥
    of_constant (Rattle.rx_typed.specs.Tree.whole_number k i) e = cc
    of_constant (Rattle.rx_typed.specs.Tree.truth b) e = cc
headless (parts ps) e = cc
headless (variant n i b k ps) e = cc
headless (behind m p) e = cc

no_parts : (p : Pattern) → asks p ≡ false → parts_in p ≡ no_part
no_parts any e = refl
no_parts (bind n x m) e = refl
no_parts (exactly n c) e = cc
no_parts (parts ps) e = cc
no_parts (variant n i b k ps) e = cc
no_parts (behind m p) e = cc

open_marks : (mask : List Bool) (p : Pattern) → asks p ≡ false → Marks mask 0 (parts_in p)
open_marks mask p e = let q = no_parts p e in rw q (record { each = λ j f. refl })

row_marks_admitted : (mask : List Bool) (p : Pattern) (h : Head) → admits (head_in p) h ≡ true → (is_it (head_in p) h ≡ true → Marks mask 0 (parts_in p)) → Marks mask 0 (parts_in p)
row_marks_admitted mask p h e m = ⊎_elim (λ n. open_marks mask p (headless p n)) m (admits_split (head_in p) h e)

pub row_under_from : (mask : List Bool) (r : Row) (v : Value) (ws : Values) → AsLong mask (parts_of v) → RowMarked (head_of v) mask r
    → SomeRow (row_under (head_of v) mask r) (kept_values mask (parts_of v) ws) → MatchRow r (value_and v ws)
row_under_from mask [] v ws l m s = tt
row_under_from mask (p ∷ ps) v ws l m s = by (admits (head_in p) (head_of v)) refl s
  where
    by : (b : Bool) → admits (head_in p) (head_of v) ≡ b → SomeRow (if b then kept_parts mask 0 (parts_in p) ps ∷ [] else []) (kept_values mask (parts_of v) ws) → Matches p v × MatchRow ps ws
    by true e s = ⊎_elim (λ a. let q = kept_from mask 0 (parts_in p) ps (parts_of v) ws l (row_marks_admitted mask p (head_of v) e m) a in (matched p v (record { admitted = e; parts = q.0 }), q.1)) (λ e. absurd e) s
    by false e s = absurd s

pub row_under_to : (mask : List Bool) (r : Row) (v : Value) (ws : Values) → AsLong mask (parts_of v)
    → MatchRow r (value_and v ws) → SomeRow (row_under (head_of v) mask r) (kept_values mask (parts_of v) ws)
row_under_to mask [] v ws l m = inl tt
row_under_to mask (p ∷ ps) v ws l m = let q = meets p v m.0 in by (admits (head_in p) (head_of v)) q.admitted (kept_to mask 0 (parts_in p) ps (parts_of v) ws l q.parts m.1)
  where
    by : (b : Bool) → b ≡ true → MatchRow (kept_parts mask 0 (parts_in p) ps) (kept_values mask (parts_of v) ws) → SomeRow (if b then kept_parts mask 0 (parts_in p) ps ∷ [] else []) (kept_values mask (parts_of v) ws)
    by true e k = inl k
    by false e k = cc

pub under_from : (mask : List Bool) (rs : List Row) (v : Value) (ws : Values) → AsLong mask (parts_of v) → AllMarked (head_of v) mask rs
    → SomeRow (rows_under (head_of v) mask rs) (kept_values mask (parts_of v) ws) → SomeRow rs (value_and v ws)
under_from mask [] v ws l m s = absurd s
under_from mask (r ∷ rs) v ws l m s = ⊎_elim (λ a. inl (row_under_from mask r v ws l m.0 a)) (λ b. inr (under_from mask rs v ws l m.1 b)) (append_some (row_under (head_of v) mask r) (rows_under (head_of v) mask rs) _ s)

pub under_to : (mask : List Bool) (rs : List Row) (v : Value) (ws : Values) → AsLong mask (parts_of v)
    → SomeRow rs (value_and v ws) → SomeRow (rows_under (head_of v) mask rs) (kept_values mask (parts_of v) ws)
under_to mask [] v ws l s = absurd s
under_to mask (r ∷ rs) v ws l s = some_append (row_under (head_of v) mask r) (rows_under (head_of v) mask rs) _ (⊎_elim (λ a. inl (row_under_to mask r v ws l a)) (λ b. inr (under_to mask rs v ws l b)) s)

-- ---- rows that ask nothing of the first value

row_beside_from : (r : Row) (v : Value) (ws : Values) → SomeRow (row_beside r) ws → MatchRow r (value_and v ws)
row_beside_from [] v ws s = tt
row_beside_from (p ∷ ps) v ws s = by (asks p) refl s
  where
    by : (b : Bool) → asks p ≡ b → SomeRow (if b then [] else ps ∷ []) ws → Matches p v × MatchRow ps ws
    by true e s = absurd s
    by false e s = ⊎_elim (λ a. (open_matches p v e, a)) (λ e. absurd e) s

pub beside_from : (rs : List Row) (v : Value) (ws : Values) → SomeRow (rows_beside rs) ws → SomeRow rs (value_and v ws)
beside_from [] v ws s = absurd s
beside_from (r ∷ rs) v ws s = ⊎_elim (λ a. inl (row_beside_from r v ws a)) (λ b. inr (beside_from rs v ws b)) (append_some (row_beside r) (rows_beside rs) ws s)

-- a row that matches asks nothing of the first value, where its head is none of the column's
row_beside_to : (r : Row) (v : Value) (ws : Values) → has (column_heads (r ∷ [])) (head_of v) ≡ false → MatchRow r (value_and v ws) → SomeRow (row_beside r) ws
row_beside_to [] v ws n m = inl tt
row_beside_to (p ∷ ps) v ws n m = let q = meets p v m.0 in by (asks p) refl (by_head (head_in p) refl n q.admitted)
  where
    by : (b : Bool) → asks p ≡ b → asks p ≡ false → SomeRow (if b then [] else ps ∷ []) ws
    by true e f = cc
    by false e f = inl m.1

    no_other : (a : Bool) → (a || false) ≡ false → a ≡ true → ⊥
    no_other true e f = cc
    no_other false e f = cc

    by_head : (o : Option Head) → head_in p ≡ o → has (add_head_in o []) (head_of v) ≡ false → admits o (head_of v) ≡ true → asks p ≡ false
    by_head None e n a = headless p e
    by_head (Some g) e n a = absurd (no_other (same_head g (head_of v)) n a)

pub neither : (a b : Bool) → (a || b) ≡ false → (a ≡ false) × (b ≡ false)
neither true b e = cc
neither false b e = (refl, e)

split_heads : (r : Row) (rs : List Row) (h : Head) → has (column_heads (r ∷ rs)) h ≡ false → (has (column_heads (r ∷ [])) h ≡ false) × (has (column_heads rs) h ≡ false)
split_heads [] rs h e = (refl, e)
split_heads (p ∷ ps) rs h e = by (head_in p) e
  where
    by : (o : Option Head) → has (add_head_in o (column_heads rs)) h ≡ false → (has (add_head_in o []) h ≡ false) × (has (column_heads rs) h ≡ false)
    by None e = (refl, e)
    by (Some g) e = let q = neither (same_head g h) (has (column_heads rs) h) e in (rw (q.0) refl, q.1)

pub beside_to : (rs : List Row) (v : Value) (ws : Values) → has (column_heads rs) (head_of v) ≡ false → SomeRow rs (value_and v ws) → SomeRow (rows_beside rs) ws
beside_to [] v ws n s = absurd s
beside_to (r ∷ rs) v ws n s = let q = split_heads r rs (head_of v) n in some_append (row_beside r) (rows_beside rs) ws
    (⊎_elim (λ a. inl (row_beside_to r v ws q.0 a)) (λ b. inr (beside_to rs v ws q.1 b)) s)

-- ---- rows that ask nothing

open_row : (r : Row) (vs : Values) → is_open r ≡ true → MatchRow r vs
open_row [] vs e = tt
open_row (p ∷ ps) no_value e = tt
open_row (p ∷ ps) (value_and v vs) e = let q = both_true (not (asks p)) (is_open ps) e in (open_matches p v (not_true (asks p) q.0), open_row ps vs q.1)
  where
    not_true : (b : Bool) → not b ≡ true → b ≡ false
    not_true true e = cc
    not_true false e = refl

some_row : (rs : List Row) (vs : Values) → some_open rs ≡ true → SomeRow rs vs
some_row [] vs e = cc
some_row (r ∷ rs) vs e = by (is_open r) refl e (some_row rs vs)
  where
    by : (b : Bool) → is_open r ≡ b → (b || some_open rs) ≡ true → (some_open rs ≡ true → SomeRow rs vs) → MatchRow r vs ⊎ SomeRow rs vs
    by true e f k = inl (open_row r vs e)
    by false e f k = inr (k f)

pub covered_by_open : (D : Declarations) (ts : List Typ) (rows : List Row) → some_open rows ≡ true → CoversAll D ts rows
covered_by_open D ts rows e = record { each = λ vs h. some_row rows vs e }

pub covered_at_end : (D : Declarations) (r : Row) (rs : List Row) → CoversAll D [] (r ∷ rs)
covered_at_end D r rs = record { each = at_end }
  where
    row_at_end : (r : Row) → MatchRow r no_value
    row_at_end [] = tt
    row_at_end (p ∷ ps) = tt

    at_end : (vs : Values) → AreOfTypes D [] vs → MatchRow r vs ⊎ SomeRow rs vs
    at_end no_value h = inl (row_at_end r)
    at_end (value_and v vs) h = absurd h

pub missed_at_end : (D : Declarations) → Misses D [] [] no_value
missed_at_end D = record { typed = tt; apart = λ s. s }

-- ---- one head

-- the mask of a head in a matrix
pub record MaskOf (D : Declarations) (t : Typ) (h : Head) (rows : List Row) (mask : List Bool) : Type 0 where
  pub long : length mask ≡ length (types_under D t h)
  pub marked : AllMarked h mask rows

pub head_covered : (D : Declarations) (t : Typ) (ts : List Typ) (h : Head) (rows : List Row) (mask : List Bool) → MaskOf D t h rows mask
    → CoversAll D (kept_types mask (types_under D t h) ts) (rows_under h mask rows) → CoversHead D t ts h rows
head_covered D t ts h rows mask m c = record { each = here }
  where
    here : (v : Value) (vs : Values) → IsOfType D t v → AreOfTypes D ts vs → head_of v ≡ h → SomeRow rows (value_and v vs)
    here v vs a b e =
        let q = taken D t v a in
        let u : AreOfTypes D (types_under D t h) (parts_of v) = subst (λ g. AreOfTypes D (types_under D t g) (parts_of v)) e q.under in
        let l = as_long D mask (types_under D t h) (parts_of v) m.long u in
        let s = c.each (kept_values mask (parts_of v) vs) (kept_typed D mask (types_under D t h) ts (parts_of v) vs m.long u b) in
        under_from mask rows v vs l (subst (λ g. AllMarked g mask rows) (sym e) m.marked)
        (subst (λ g. SomeRow (rows_under g mask rows) (kept_values mask (parts_of v) vs)) (sym e) s)

-- no value has parts of these types
pub head_empty : (D : Declarations) (t : Typ) (ts : List Typ) (h : Head) (rows : List Row)
    → ((vs : Values) → AreOfTypes D (types_under D t h) vs → ⊥) → CoversHead D t ts h rows
head_empty D t ts h rows n = record { each = λ v vs a b e. absurd (n (parts_of v) (subst (λ g. AreOfTypes D (types_under D t g) (parts_of v)) e (taken D t v a).under)) }

pub missed_at_head : (D : Declarations) (t : Typ) (ts : List Typ) (h : Head) (rows : List Row) (mask : List Bool) (vs ws : Values) → IsHead D t h → MaskOf D t h rows mask
    → AreOfTypes D (types_under D t h) vs → AreOfTypes D ts ws → Misses D (kept_types mask (types_under D t h) ts) (rows_under h mask rows) (kept_values mask vs ws)
    → MissesHead D t ts h rows (value_and (with_head t h vs) ws)
missed_at_head D t ts h rows mask vs ws i m u k c =
    let b = built D t h vs i u in
    let l = as_long D mask (types_under D t h) vs m.long u in
    let v = with_head t h vs in
    record {
      misses = record { typed = (b.typed, k); apart = λ s. c.apart (at_head v b.head_is b.parts_are l s) };
      first = v;
      others = ws;
      is = refl;
      headed = b.head_is;
    }
  where
    at_head : (v : Value) → head_of v ≡ h → parts_of v ≡ vs → AsLong mask vs → SomeRow rows (value_and v ws) → SomeRow (rows_under h mask rows) (kept_values mask vs ws)
    at_head v e f l s = subst (λ g. SomeRow (rows_under g mask rows) (kept_values mask vs ws)) e
        (subst (λ x. SomeRow (rows_under (head_of v) mask rows) (kept_values mask x ws)) f (under_to mask rows v ws (subst (λ x. AsLong mask x) (sym f) l) s))

-- ---- the heads that no row asks for

pub others_covered : (D : Declarations) (t : Typ) (ts : List Typ) (hs : List Head) (rows : List Row)
    → CoversHeads D t ts hs rows → CoversAll D ts (rows_beside rows) → CoversAll D (t ∷ ts) rows
others_covered D t ts hs rows c o = record { each = each }
  where
    by : (b : Bool) (v : Value) (vs : Values) → has hs (head_of v) ≡ b → IsOfType D t v → AreOfTypes D ts vs → SomeRow rows (value_and v vs)
    by true v vs e h k = c.each v vs h k e
    by false v vs e h k = beside_from rows v vs (o.each vs k)

    each : (vs : Values) → AreOfTypes D (t ∷ ts) vs → SomeRow rows vs
    each no_value h = absurd h
    each (value_and v vs) h = by (has hs (head_of v)) v vs refl h.0 h.1

-- every value has one of the heads
pub none_apart : (D : Declarations) (t : Typ) (ts : List Typ) (hs : List Head) (rows : List Row)
    → CoversHeads D t ts hs rows → ((v : Value) → IsOfType D t v → has hs (head_of v) ≡ true) → CoversAll D (t ∷ ts) rows
none_apart D t ts hs rows c n = record { each = each }
  where
    each : (vs : Values) → AreOfTypes D (t ∷ ts) vs → SomeRow rows vs
    each no_value h = absurd h
    each (value_and v vs) h = c.each v vs h.0 h.1 (n v h.0)

pub missed_apart : (D : Declarations) (t : Typ) (ts : List Typ) (hs : List Head) (rows : List Row) (v : Value) (ws : Values) → AreHeads D t rows hs
    → IsOfType D t v → has hs (head_of v) ≡ false → Misses D ts (rows_beside rows) ws → Misses D (t ∷ ts) rows (value_and v ws)
missed_apart D t ts hs rows v ws a h n m =
    record { typed = (h, m.typed); apart = λ s. m.apart (beside_to rows v ws (a.all (head_of v) (taken D t v h).headed n) s) }
