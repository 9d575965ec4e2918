-- Values that are put together from what a head leaves.
use Rattle.std.proofs.Common.{◌≡◌, ℕ, zero, suc, ◌+◌, ◌<◌, ◌≤◌, Bool, true, false, List, [], ◌∷◌, ◌++◌, map, length, drop, get_or, replicate, Option, Some, None, Result, Ok, Err, IfOk, refl, sym, ap, ◌∙◌, subst, if◌then◌else◌, arith}
use Rattle.std.specs.declared.alloc.AllocError.{AllocError}
use Rattle.std.specs.Prelude.{◌==◌, nat_eq, nat_lt, ◌||◌, ℤ, pos, negsuc, slice_get}
use Rattle.std.proofs.Common.{eqb-true, eq-eqb, ltb-true, leb-true, lt-ltb, le-leb}
use Rattle.rx_core.specs.declared.types.Kind.{Kind}
use Rattle.rx_typed.specs.Types.{Typ, Declarations, integer, boolean, tuple_of, reference, named, variants_declared}
use Rattle.rx_cover.specs.declared.heads.Cell.{Cell}
use Rattle.rx_cover.specs.declared.heads.Head as code_head
use Rattle.rx_cover.specs.declared.matrix.Column.{Column}
use Rattle.rx_cover.specs.PlainCells.{plain-Head, plain-Row, plain-Column}
use Rattle.rx_cover.specs.Values.{InKind, greatest, below_zero}
use Rattle.rx_cover.specs.Heads as head
use Rattle.rx_cover.specs.Heads.{whole, truth, composed, chosen, pointed, in_kind, is_head, head_in}
use Rattle.rx_cover.specs.Matrices.{rows_weight, gather, with_head_in, row_head, is_it, column_heads, add_head_in}
use Rattle.rx_cover.proofs.HeadLemmas.{both_true, same_head_is, same_head_refl}
use Rattle.rx_cover.proofs.WeightLemmas.{under_less}
use Rattle.rx_cover.specs.Values as plain
use Rattle.rx_cover.specs.Values.{Values, no_value, value_and, AreOfTypes}
use Rattle.rx_cover.specs.Heads.{Head, has, same_head, IsHead, IsNear, types_under, with_head, pointed_value}
use Rattle.rx_cover.specs.Matrices.{Row, CoversAll, Misses, MissesHead, CoversRange, MissesRange, CoversHeads, Distinct, rows_within, AreHeads, kept_types, kept_values, rows_under, rows_beside, mark_rows}
use Rattle.rx_cover.specs.declared.value.Value.{Value}
use Rattle.rx_cover.specs.PlainValue.{plain-Value, plain_values}
use Rattle.rx_cover.specs.Finding.{stacked, stacked_onto, Adds, Refilled, Refills, Stacked, Takes, takes, takes_none, Finished, at_end, Rebuilds, Settles, SettlesHead, SettlesRange, SettlesHeads, Apart, Besides, AllHeads, HeadsOf}
use Rattle.rx_cover.proofs.CellLemmas.{at_next}
use Rattle.rx_cover.proofs.RangeLemmas.{all_covered, within_covered, within_missed, one_covered, one_missed, both_covered, missed_part}
use Rattle.rx_cover.proofs.MatrixLemmas.{MaskOf, neither, head_covered, head_empty, missed_at_head, none_apart, missed_apart, others_covered, all_marked, length_rows, covered_at_end}

onto_push : (ws : Values) (l : List Value) (v : Value) → stacked_onto ws (l ++ v ∷ []) ≡ value_and (plain-Value v) (stacked_onto ws l)
onto_push ws [] v = refl
onto_push ws (x ∷ l) v = onto_push (value_and (plain-Value x) ws) l v

pub stacked_push : (l : List Value) (v : Value) → stacked (l ++ v ∷ []) ≡ value_and (plain-Value v) (stacked l)
stacked_push l v = onto_push no_value l v

-- ---- no integer of a kind is far below 0

kind_near : (k : Kind) (n : ℕ) → n < below_zero k → n < 18446744073709551615
kind_near Kind.U8 n l = absurd (omega (arith, l))
kind_near Kind.U32 n l = absurd (omega (arith, l))
kind_near Kind.U64 n l = absurd (omega (arith, l))
kind_near Kind.I32 n l = omega (arith, l)
kind_near Kind.I64 n l = omega (arith, l)

pub head_near : (D : Declarations) (t : Typ) (h : Head) → IsHead D t h → IsNear h
head_near D (integer k) (whole (pos n)) f = tt
head_near D (integer k) (whole (negsuc n)) f = kind_near k n f
head_near D boolean (whole i) f = elim f [ ]
head_near D (tuple_of ts) (whole i) f = elim f [ ]
head_near D (reference m t) (whole i) f = elim f [ ]
head_near D (named i) (whole j) f = elim f [ ]
head_near D t (truth b) f = tt
head_near D t composed f = tt
head_near D t (chosen i k) f = tt
head_near D t pointed f = tt

-- ---- parts are filled in

pub refill_marked : (D : Declarations) (t : Typ) (ts : List Typ) (stack parts left new : List Value) (b : Bool) → Takes stack parts left new b → Stacked D (t ∷ ts) stack → Refills D (true ∷ []) (t ∷ []) ts stack parts left new b
refill_marked D t ts stack parts left new true (takes v e f) s =
    let q = subst (λ l. AreOfTypes D (t ∷ ts) l) (ap stacked e ∙ stacked_push left v) s.typed in
    record { more = v ∷ []; is = f; typed = (q.0, tt); rest = q.1; kept = sym (ap stacked e ∙ stacked_push left v) }
refill_marked D t ts stack parts left new false (takes_none e) s = absurd (subst (λ l. AreOfTypes D (t ∷ ts) (stacked l)) e s.typed)

pub refill_found : (D : Declarations) (t : Typ) (ts : List Typ) (stack parts new : List Value) (b : Bool) → Adds D (t ∷ []) parts new b → Stacked D ts stack → Refills D (false ∷ []) (t ∷ []) ts stack parts stack new b
refill_found D t ts stack parts new true a s = record { more = a.more; is = a.is; typed = a.typed; rest = s.typed; kept = one a.more a.typed }
  where
    one : (vs : List Value) → AreOfTypes D (t ∷ []) (plain_values vs) → kept_values (false ∷ []) (plain_values vs) (stacked stack) ≡ stacked stack
    one [] h = absurd h
    one (v ∷ []) h = refl
    one (v ∷ w ∷ vs) h = absurd h.1
refill_found D t ts stack parts new false a s = a

pub stacked_split : (D : Declarations) (b : Bool) (mask : List Bool) (t : Typ) (us ts : List Typ) (stack : List Value) → Stacked D (kept_types (b ∷ mask) (t ∷ us) ts) stack → Stacked D (kept_types (b ∷ []) (t ∷ []) (kept_types mask us ts)) stack
stacked_split D true mask t us ts stack s = s
stacked_split D false mask t us ts stack s = s

pub refill_more : (D : Declarations) (b : Bool) (mask : List Bool) (t : Typ) (us ts : List Typ) (s p s1 p1 s2 p2 : List Value) (r : Bool)
    → Refills D (b ∷ []) (t ∷ []) (kept_types mask us ts) s p s1 p1 true → (Stacked D (kept_types mask us ts) s1 → Refills D mask us ts s1 p1 s2 p2 r) → Refills D (b ∷ mask) (t ∷ us) ts s p s2 p2 r
refill_more D b mask t us ts s p s1 p1 s2 p2 false a k = no
  where
    no : (vs : Values) → AreOfTypes D (t ∷ us) vs → ⊥
    no no_value h = absurd h
    no (value_and v vs) h = k (record { typed = a.rest }) vs h.1
refill_more D b mask t us ts s p s1 p1 s2 p2 true a k = let q = k (record { typed = a.rest }) in by q a.more a.is a.typed a.kept
  where
    by : Refilled D mask us ts s1 p1 s2 p2 → (m : List Value) → p1 ≡ p ++ m → AreOfTypes D (t ∷ []) (plain_values m) → kept_values (b ∷ []) (plain_values m) (stacked s1) ≡ stacked s → Refilled D (b ∷ mask) (t ∷ us) ts s p s2 p2
    by q [] e h c = absurd h
    by q (v ∷ w ∷ m) e h c = absurd h.1
    by q (v ∷ []) e h c = record {
      more = v ∷ q.more;
      is = q.is ∙ ap (λ l. l ++ q.more) e ∙ behind p;
      typed = (h.0, q.typed);
      rest = q.rest;
      kept = both b c;
    }
      where
        behind : (p : List Value) → (p ++ v ∷ []) ++ q.more ≡ p ++ (v ∷ q.more)
        behind [] = refl
        behind (x ∷ p) = ap (λ l. x ∷ l) (behind p)

        both : (b : Bool) → kept_values (b ∷ []) (value_and (plain-Value v) no_value) (stacked s1) ≡ stacked s → kept_values (b ∷ mask) (value_and (plain-Value v) (plain_values q.more)) (stacked s2) ≡ stacked s
        both true c = ap (λ l. value_and (plain-Value v) l) q.kept ∙ c
        both false c = q.kept ∙ c

pub refill_stop : (D : Declarations) (b : Bool) (mask : List Bool) (t : Typ) (us ts : List Typ) (s p s1 p1 s2 p2 : List Value)
    → Refills D (b ∷ []) (t ∷ []) (kept_types mask us ts) s p s1 p1 false → Refills D (b ∷ mask) (t ∷ us) ts s p s2 p2 false
refill_stop D b mask t us ts s p s1 p1 s2 p2 a = no
  where
    no : (vs : Values) → AreOfTypes D (t ∷ us) vs → ⊥
    no no_value h = absurd h
    no (value_and v vs) h = a (value_and v no_value) (h.0, tt)

pub refill_end : (D : Declarations) (ts : List Typ) (stack parts : List Value) → Stacked D ts stack → Refills D [] [] ts stack parts stack parts true
refill_end D ts stack parts s = record { more = []; is = sym (nothing parts); typed = tt; rest = s.typed; kept = refl }
  where
    nothing : (l : List Value) → l ++ [] ≡ l
    nothing [] = refl
    nothing (x ∷ l) = ap (λ m. x ∷ m) (nothing l)

pub rebuilt_some : (D : Declarations) (t : Typ) (h : Head) (mask : List Bool) (us ts : List Typ) (stack left new all : List Value) → Refills D mask us ts stack [] left new true
    → Finished left (with_head t h (plain_values new)) all → Rebuilds D t h mask us ts stack (Some all)
rebuilt_some D t h mask us ts stack left new all r (at_end v e f) = record {
  parts = plain_values new;
  others = stacked left;
  typed = subst (λ l. AreOfTypes D us (plain_values l)) (sym r.is) r.typed;
  rest = r.rest;
  kept = subst (λ l. kept_values mask (plain_values l) (stacked left) ≡ stacked stack) (sym r.is) r.kept;
  is = ap stacked e ∙ stacked_push left v ∙ ap (λ x. value_and x (stacked left)) f;
}

-- ---- one head

pub mask_is : (D : Declarations) (t : Typ) (h : Head) (rows : List Row) (n : ℕ) → n ≡ length (types_under D t h) → MaskOf D t h rows (mark_rows h (replicate n false) rows)
mask_is D t h rows n e = record { long = length_rows h (replicate n false) rows ∙ count n ∙ e; marked = all_marked h (replicate n false) rows }
  where
    count : (n : ℕ) → length (replicate n false) ≡ n
    count zero = refl
    count (suc n) = ap suc (count n)

pub head_none : (D : Declarations) (t : Typ) (ts : List Typ) (h : Head) (rows : List Row) (mask : List Bool) → MaskOf D t h rows mask
    → Settles D (kept_types mask (types_under D t h) ts) (rows_under h mask rows) None → SettlesHead D t ts h rows None
head_none D t ts h rows mask m c = head_covered D t ts h rows mask m c

pub head_some : (D : Declarations) (t : Typ) (ts : List Typ) (h : Head) (rows : List Row) (mask : List Bool) (stack : List Value) (o : Option (List Value)) → IsHead D t h → MaskOf D t h rows mask
    → Settles D (kept_types mask (types_under D t h) ts) (rows_under h mask rows) (Some stack)
    → (Stacked D (kept_types mask (types_under D t h) ts) stack → Rebuilds D t h mask (types_under D t h) ts stack o) → SettlesHead D t ts h rows o
head_some D t ts h rows mask stack None i m c k = head_empty D t ts h rows (k (record { typed = c.typed }))
head_some D t ts h rows mask stack (Some all) i m c k =
    let r = k (record { typed = c.typed }) in
    subst (λ l. MissesHead D t ts h rows l) (sym r.is)
    (missed_at_head D t ts h rows mask r.parts r.others i m r.typed r.rest (subst (λ l. Misses D (kept_types mask (types_under D t h) ts) (rows_under h mask rows) l) (sym r.kept) c))

-- ---- all heads, and the others

pub heads_if : (D : Declarations) (t : Typ) (ts : List Typ) (hs : List Head) (n : ℕ) (all rows : List Row) (r : Result (Option (List Value)) AllocError) → n ≡ length hs → all ≡ rows
    → IfOk r (λ o. SettlesRange D t ts hs 0 n all o) → IfOk r (λ o. SettlesHeads D t ts hs rows o)
heads_if D t ts hs n all rows (Err e) l f k = tt
heads_if D t ts hs n all rows (Ok None) l f k = all_covered D t ts hs rows (subst (λ x. CoversRange D t ts hs 0 (length hs) x) f (subst (λ x. CoversRange D t ts hs 0 x all) l k))
heads_if D t ts hs n all rows (Ok (Some vs)) l f k = subst (λ x. Misses D (t ∷ ts) x (stacked vs)) f k.misses

pub within_if : (D : Declarations) (t : Typ) (ts : List Typ) (hs : List Head) (low high : ℕ) (some rows : List Row) (r : Result (Option (List Value)) AllocError) → some ≡ rows_within hs low high rows
    → IfOk r (λ o. SettlesRange D t ts hs low high some o) → IfOk r (λ o. SettlesRange D t ts hs low high rows o)
within_if D t ts hs low high some rows (Err e) f k = tt
within_if D t ts hs low high some rows (Ok None) f k = within_covered D t ts hs low high rows (subst (λ x. CoversRange D t ts hs low high x) f k)
within_if D t ts hs low high some rows (Ok (Some vs)) f k = within_missed D t ts hs low high rows (stacked vs) (subst (λ x. MissesRange D t ts hs low high x (stacked vs)) f k)

pub one_if : (D : Declarations) (t : Typ) (ts : List Typ) (ks : List code_head.Head) (low high : ℕ) (d : code_head.Head) (rows : List Row) (r : Result (Option (List Value)) AllocError)
    → high ≡ suc low → low < length ks → Distinct (map plain-Head ks) → IfOk r (λ o. SettlesHead D t ts (plain-Head (get_or ks low d)) rows o) → IfOk r (λ o. SettlesRange D t ts (map plain-Head ks) low high rows o)
one_if D t ts ks low high d rows (Err e) l m a k = tt
one_if D t ts ks low high d rows (Ok None) l m a k = one_covered D t ts ks low high d rows (omega (arith, l)) m k
one_if D t ts ks low high d rows (Ok (Some vs)) l m a k = one_missed D t ts ks low high d rows (omega (arith, l)) m a (stacked vs) k

pub later_if : (D : Declarations) (t : Typ) (ts : List Typ) (hs : List Head) (low middle high : ℕ) (rows : List Row) (r : Result (Option (List Value)) AllocError) → low ≤ middle → CoversRange D t ts hs low middle rows
    → IfOk r (λ o. SettlesRange D t ts hs middle high rows o) → IfOk r (λ o. SettlesRange D t ts hs low high rows o)
later_if D t ts hs low middle high rows (Err e) l c k = tt
later_if D t ts hs low middle high rows (Ok None) l c k = both_covered D t ts hs low high rows middle c k
later_if D t ts hs low middle high rows (Ok (Some vs)) l c k = missed_part D t ts hs low high rows middle high (stacked vs) l (omega arith) k

pub others_none : (D : Declarations) (t : Typ) (ts : List Typ) (hs : List Head) (rows : List Row) → CoversHeads D t ts hs rows → Settles D ts (rows_beside rows) None → Settles D (t ∷ ts) rows None
others_none D t ts hs rows c o = others_covered D t ts hs rows c o

pub others_some : (D : Declarations) (t : Typ) (ts : List Typ) (hs : List Head) (rows : List Row) (stack : List Value) (o : Option (List Value)) → AreHeads D t rows hs → CoversHeads D t ts hs rows
    → Settles D ts (rows_beside rows) (Some stack) → Besides D t hs stack o → Settles D (t ∷ ts) rows o
others_some D t ts hs rows stack None a c s b = none_apart D t ts hs rows c b
others_some D t ts hs rows stack (Some all) a c s b = subst (λ l. Misses D (t ∷ ts) rows l) (sym b.3) (missed_apart D t ts hs rows b.0 (stacked stack) a b.1 b.2 s)

pub besides_some : (D : Declarations) (t : Typ) (hs : List Head) (stack all : List Value) (v : Value) → Apart D t hs (Some (plain-Value v)) → all ≡ stack ++ v ∷ [] → Besides D t hs stack (Some all)
besides_some D t hs stack all v a e = (plain-Value v, a.0, a.1, ap stacked e ∙ stacked_push stack v)

-- ---- as the code has it

pub marked_if : (D : Declarations) (m : Bool) (t : Typ) (s p l n : List Value) (r : Result Bool AllocError) → m ≡ true → IfOk r (λ b. Takes s p l n b)
    → IfOk r (λ b. (ts : List Typ) → Stacked D (kept_types (m ∷ []) (t ∷ []) ts) s → Refills D (m ∷ []) (t ∷ []) ts s p l n b)
marked_if D true t s p l n (Ok b) e h = λ ts k. refill_marked D t ts s p l n b h k
marked_if D true t s p l n (Err f) e h = tt
marked_if D false t s p l n r e h = cc

dropped : {A : Type 0} (xs : List A) (i : ℕ) → length xs ≤ i → drop i xs ≡ []
dropped [] zero l = refl
dropped [] (suc i) l = refl
dropped (x ∷ xs) zero l = absurd (omega (arith, l))
dropped (x ∷ xs) (suc i) l = dropped xs i (omega (arith, l))

pub refill_done : (D : Declarations) (mask : List Bool) (cols : List Column) (i : ℕ) (ts : List Typ) (stack parts : List Value) → length mask ≤ i → length cols ≤ i
    → Stacked D (kept_types (drop i mask) (map plain-Column (drop i cols)) ts) stack → Refills D (drop i mask) (map plain-Column (drop i cols)) ts stack parts stack parts true
refill_done D mask cols i ts stack parts l m s = by (drop i mask) (drop i cols) (dropped mask i l) (dropped cols i m) s
  where
    by : (ms : List Bool) (cs : List Column) → ms ≡ [] → cs ≡ [] → Stacked D (kept_types ms (map plain-Column cs) ts) stack → Refills D ms (map plain-Column cs) ts stack parts stack parts true
    by [] [] e f s = refill_end D ts stack parts s
    by (b ∷ ms) cs e f s = cc
    by [] (c ∷ cs) e f s = cc

mask_next : (mask : List Bool) (i : ℕ) → i < length mask → drop i mask ≡ get_or mask i false ∷ drop (i + 1) mask
mask_next mask i l = at_next (λ (m : List Bool). m) mask i (get_or mask i false) l (other mask i l)
  where
    other : (m : List Bool) (i : ℕ) → i < length m → get_or m i false ≡ get_or m i (get_or m i false)
    other [] i l = absurd (omega (arith, l))
    other (b ∷ m) zero l = refl
    other (b ∷ m) (suc i) l = again m i (get_or m i false) (omega (arith, l))
      where
        again : (m : List Bool) (i : ℕ) (d : Bool) → i < length m → get_or m i false ≡ get_or m i d
        again [] i d l = absurd (omega (arith, l))
        again (b ∷ m) zero d l = refl
        again (b ∷ m) (suc i) d l = again m i d (omega (arith, l))

pub refill_next : (D : Declarations) (mask : List Bool) (cols : List Column) (i : ℕ) (x : Column) (ts : List Typ) (s p s1 p1 left new : List Value) (r : Bool) → i < length mask → i < length cols → x ≡ get_or cols i x
    → ((xs : List Typ) → Stacked D (kept_types (get_or mask i false ∷ []) (plain-Column x ∷ []) xs) s → Refills D (get_or mask i false ∷ []) (plain-Column x ∷ []) xs s p s1 p1 true)
    → (Stacked D (kept_types (drop (i + 1) mask) (map plain-Column (drop (i + 1) cols)) ts) s1 → Refills D (drop (i + 1) mask) (map plain-Column (drop (i + 1) cols)) ts s1 p1 left new r)
    → Stacked D (kept_types (drop i mask) (map plain-Column (drop i cols)) ts) s → Refills D (drop i mask) (map plain-Column (drop i cols)) ts s p left new r
refill_next D mask cols i x ts s p s1 p1 left new r l m e f k =
    subst (λ ms. Stacked D (kept_types ms (map plain-Column (drop i cols)) ts) s → Refills D ms (map plain-Column (drop i cols)) ts s p left new r) (sym (mask_next mask i l))
    (subst (λ us. Stacked D (kept_types (get_or mask i false ∷ drop (i + 1) mask) us ts) s → Refills D (get_or mask i false ∷ drop (i + 1) mask) us ts s p left new r) (sym (at_next (map plain-Column) cols i x m e))
    (λ q. refill_more D (get_or mask i false) (drop (i + 1) mask) (plain-Column x) (map plain-Column (drop (i + 1) cols)) ts s p s1 p1 left new r
    (f (kept_types (drop (i + 1) mask) (map plain-Column (drop (i + 1) cols)) ts) (stacked_split D (get_or mask i false) (drop (i + 1) mask) (plain-Column x) (map plain-Column (drop (i + 1) cols)) ts s q)) k))

pub refill_ends : (D : Declarations) (mask : List Bool) (cols : List Column) (i : ℕ) (x : Column) (ts : List Typ) (s p s1 p1 left new : List Value) → i < length mask → i < length cols → x ≡ get_or cols i x
    → ((xs : List Typ) → Stacked D (kept_types (get_or mask i false ∷ []) (plain-Column x ∷ []) xs) s → Refills D (get_or mask i false ∷ []) (plain-Column x ∷ []) xs s p s1 p1 false)
    → Stacked D (kept_types (drop i mask) (map plain-Column (drop i cols)) ts) s → Refills D (drop i mask) (map plain-Column (drop i cols)) ts s p left new false
refill_ends D mask cols i x ts s p s1 p1 left new l m e f =
    subst (λ ms. Stacked D (kept_types ms (map plain-Column (drop i cols)) ts) s → Refills D ms (map plain-Column (drop i cols)) ts s p left new false) (sym (mask_next mask i l))
    (subst (λ us. Stacked D (kept_types (get_or mask i false ∷ drop (i + 1) mask) us ts) s → Refills D (get_or mask i false ∷ drop (i + 1) mask) us ts s p left new false) (sym (at_next (map plain-Column) cols i x m e))
    (λ q. refill_stop D (get_or mask i false) (drop (i + 1) mask) (plain-Column x) (map plain-Column (drop (i + 1) cols)) ts s p s1 p1 left new
    (f (kept_types (drop (i + 1) mask) (map plain-Column (drop (i + 1) cols)) ts) (stacked_split D (get_or mask i false) (drop (i + 1) mask) (plain-Column x) (map plain-Column (drop (i + 1) cols)) ts s q))))

pub finished_if : (stack st : List Value) (v : Value) (w : plain.Value) (r : Result (List Value) AllocError) → st ≡ stack → plain-Value v ≡ w → IfOk r (λ all. all ≡ st ++ v ∷ []) → IfOk r (λ it. Finished stack w it)
finished_if stack st v w (Ok all) e f h = at_end v (h ∙ ap (λ l. l ++ v ∷ []) e) f
finished_if stack st v w (Err x) e f h = tt

pub pointed_last : (l : List Value) (v : Value) → pointed_value (plain_values (l ++ v ∷ [])) ≡ plain.pointing (plain-Value v)
pointed_last [] v = refl
pointed_last (x ∷ []) v = refl
pointed_last (x ∷ y ∷ l) v = pointed_last (y ∷ l) v

pub end_none : (D : Declarations) (rows : List (List Cell)) → false ≡ (length rows == 0) → Settles D [] (map plain-Row rows) None
end_none D [] e = cc
end_none D (r ∷ rs) e = covered_at_end D (plain-Row r) (map plain-Row rs)

pub marks_length : (h : Head) (n : ℕ) (rows : List Row) → length (mark_rows h (replicate n false) rows) ≡ n
marks_length h n rows = length_rows h (replicate n false) rows ∙ count n
  where
    count : (n : ℕ) → length (replicate n false) ≡ n
    count zero = refl
    count (suc n) = ap suc (count n)

-- a smaller matrix
pub less_at : (h : Head) (n : ℕ) (mask : List Bool) (us ts kept : List Typ) (rows under : List Row) → mask ≡ mark_rows h (replicate n false) rows → kept ≡ kept_types mask us ts → under ≡ rows_under h mask rows
    → length kept + rows_weight under < suc (length ts) + rows_weight rows
less_at h n mask us ts kept rows under e f g =
    let q : length (kept_types mask us ts) + rows_weight (rows_under h mask rows) < suc (length ts) + rows_weight rows =
    subst (λ m. length (kept_types m us ts) + rows_weight (rows_under h m rows) < suc (length ts) + rows_weight rows) (sym e) (under_less h n us ts rows) in
    let a = ap length f in
    let b = ap rows_weight g in
    omega (arith, q, a, b)

pub head_some_if : (D : Declarations) (t : Typ) (ts : List Typ) (h : Head) (rows : List Row) (n : ℕ) (us : List Typ) (mask : List Bool) (kept : List Typ) (under : List Row) (stack : List Value) (r : Result (Option (List Value)) AllocError)
    → IsHead D t h → us ≡ types_under D t h → n ≡ length us → mask ≡ mark_rows h (replicate n false) rows → kept ≡ kept_types mask us ts → under ≡ rows_under h mask rows → Settles D kept under (Some stack)
    → IfOk r (λ o. (xs : List Typ) → Stacked D (kept_types mask us xs) stack → Rebuilds D t h mask us xs stack o) → IfOk r (λ o. SettlesHead D t ts h rows o)
head_some_if D t ts h rows n us mask kept under stack (Err f) i a b c d e s k = tt
head_some_if D t ts h rows n us mask kept under stack (Ok o) i a b c d e s k =
    head_some D t ts h rows mask stack o i
    (subst (λ m. MaskOf D t h rows m) (sym c) (mask_is D t h rows n (b ∙ ap length a)))
    (subst (λ x. Misses D (kept_types mask x ts) (rows_under h mask rows) (stacked stack)) a (subst (λ x. Misses D x (rows_under h mask rows) (stacked stack)) d (subst (λ x. Misses D kept x (stacked stack)) e s)))
    (subst (λ x. Stacked D (kept_types mask x ts) stack → Rebuilds D t h mask x ts stack o) a (k ts))

pub head_none_from : (D : Declarations) (t : Typ) (ts : List Typ) (h : Head) (rows : List Row) (n : ℕ) (us : List Typ) (mask : List Bool) (kept : List Typ) (under : List Row)
    → us ≡ types_under D t h → n ≡ length us → mask ≡ mark_rows h (replicate n false) rows → kept ≡ kept_types mask us ts → under ≡ rows_under h mask rows → Settles D kept under None → SettlesHead D t ts h rows None
head_none_from D t ts h rows n us mask kept under a b c d e s =
    head_none D t ts h rows mask (subst (λ m. MaskOf D t h rows m) (sym c) (mask_is D t h rows n (b ∙ ap length a)))
    (subst (λ x. CoversAll D (kept_types mask x ts) (rows_under h mask rows)) a (subst (λ x. CoversAll D x (rows_under h mask rows)) d (subst (λ x. CoversAll D kept x) e s)))

pub others_some_if : (D : Declarations) (t : Typ) (ts : List Typ) (hs : List Head) (rows : List Row) (stack : List Value) (r : Result (Option (List Value)) AllocError) → AreHeads D t rows hs → CoversHeads D t ts hs rows
    → Settles D ts (rows_beside rows) (Some stack) → IfOk r (λ o. Besides D t hs stack o) → IfOk r (λ o. Settles D (t ∷ ts) rows o)
others_some_if D t ts hs rows stack (Ok o) a c s b = others_some D t ts hs rows stack o a c s b
others_some_if D t ts hs rows stack (Err f) a c s b = tt

-- ---- the heads that are gathered

integer_true : (k : Kind) (n : ℤ) → in_kind k n ≡ true → InKind k n
integer_true k (pos n) e = leb-true n (greatest k) e
integer_true k (negsuc n) e = ltb-true n (below_zero k) e

integer_is : (k : Kind) (n : ℤ) → InKind k n → in_kind k n ≡ true
integer_is k (pos n) h = le-leb n (greatest k) h
integer_is k (negsuc n) h = lt-ltb n (below_zero k) h

pub head_true : (D : Declarations) (t : Typ) (h : Head) → is_head D t h ≡ true → IsHead D t h
head_true D (integer k) (whole n) e = integer_true k n e
head_true D (integer k) (head.truth b) e = cc
head_true D (integer k) composed e = cc
head_true D (integer k) (chosen i j) e = cc
head_true D (integer k) pointed e = cc
head_true D boolean (head.truth b) e = tt
head_true D boolean (whole n) e = cc
head_true D boolean composed e = cc
head_true D boolean (chosen i j) e = cc
head_true D boolean pointed e = cc
head_true D (tuple_of ts) composed e = tt
head_true D (tuple_of ts) (whole n) e = cc
head_true D (tuple_of ts) (head.truth b) e = cc
head_true D (tuple_of ts) (chosen i j) e = cc
head_true D (tuple_of ts) pointed e = cc
head_true D (reference m t) pointed e = tt
head_true D (reference m t) (whole n) e = cc
head_true D (reference m t) (head.truth b) e = cc
head_true D (reference m t) composed e = cc
head_true D (reference m t) (chosen i j) e = cc
head_true D (named i) composed e = e
head_true D (named i) (chosen j k) e = let q = both_true (nat_eq i j) (nat_lt k (length (variants_declared (slice_get D i)))) e in (eqb-true i j q.0, ltb-true k (length (variants_declared (slice_get D i))) q.1)
head_true D (named i) (whole n) e = cc
head_true D (named i) (head.truth b) e = cc
head_true D (named i) pointed e = cc

pub head_is : (D : Declarations) (t : Typ) (h : Head) → IsHead D t h → is_head D t h ≡ true
head_is D (integer k) (whole n) e = integer_is k n e
head_is D (integer k) (head.truth b) e = absurd e
head_is D (integer k) composed e = absurd e
head_is D (integer k) (chosen i j) e = absurd e
head_is D (integer k) pointed e = absurd e
head_is D boolean (head.truth b) e = refl
head_is D boolean (whole n) e = absurd e
head_is D boolean composed e = absurd e
head_is D boolean (chosen i j) e = absurd e
head_is D boolean pointed e = absurd e
head_is D (tuple_of ts) composed e = refl
head_is D (tuple_of ts) (whole n) e = absurd e
head_is D (tuple_of ts) (head.truth b) e = absurd e
head_is D (tuple_of ts) (chosen i j) e = absurd e
head_is D (tuple_of ts) pointed e = absurd e
head_is D (reference m t) pointed e = refl
head_is D (reference m t) (whole n) e = absurd e
head_is D (reference m t) (head.truth b) e = absurd e
head_is D (reference m t) composed e = absurd e
head_is D (reference m t) (chosen i j) e = absurd e
head_is D (named i) composed e = e
head_is D (named i) (chosen j k) e = let a = eq-eqb i j e.0 in let b = lt-ltb k (length (variants_declared (slice_get D i))) e.1 in rw (a, b) refl
head_is D (named i) (whole n) e = absurd e
head_is D (named i) (head.truth b) e = absurd e
head_is D (named i) pointed e = absurd e

module _ (D : Declarations) (t : Typ) where
  all_behind : (hs : List Head) (h : Head) → AllHeads D t hs → IsHead D t h → AllHeads D t (hs ++ h ∷ [])
  all_behind [] h a i = (i, tt)
  all_behind (g ∷ gs) h a i = (a.0, all_behind gs h a.1 i)

  same_not : (g h : Head) → same_head g h ≡ false → same_head h g ≡ false
  same_not g h e = by (same_head h g) refl
    where
      by : (b : Bool) → same_head h g ≡ b → b ≡ false
      by true f = let q = same_head_is h g f in let r = same_head_refl g in let s = subst (λ x. same_head g x ≡ false) q e in cc
      by false f = refl

  distinct_behind : (hs : List Head) (h : Head) → Distinct hs → has hs h ≡ false → Distinct (hs ++ h ∷ [])
  distinct_behind [] h a n = (refl, tt)
  distinct_behind (g ∷ gs) h a n = let q = neither (same_head g h) (has gs h) n in (not_behind gs h g a.0 (same_not g h q.0), distinct_behind gs h a.1 q.1)
    where
      not_behind : (hs : List Head) (h g : Head) → has hs g ≡ false → same_head h g ≡ false → has (hs ++ h ∷ []) g ≡ false
      not_behind [] h g n e = rw e refl
      not_behind (x ∷ hs) h g n e = let q = neither (same_head x g) (has hs g) n in rw (q.0) (not_behind hs h g q.1 e)

  all_with : (hs : List Head) (o : Option Head) → HeadsOf D t hs → HeadsOf D t (with_head_in D t hs o)
  all_with hs None a = a
  all_with hs (Some h) a = by (is_head D t h) (has hs h) refl refl
    where
      by : (b c : Bool) → is_head D t h ≡ b → has hs h ≡ c → HeadsOf D t (if b then (if c then hs else hs ++ h ∷ []) else hs)
      by true false e f = record { fit = all_behind hs h a.fit (head_true D t h e); distinct = distinct_behind hs h a.distinct f }
      by true true e f = a
      by false c e f = a

  pub all_gathered : (hs : List Head) (rows : List Row) → HeadsOf D t hs → HeadsOf D t (gather D t hs rows)
  all_gathered hs [] a = a
  all_gathered hs (r ∷ rs) a = all_gathered (with_head_in D t hs (row_head r)) rs (all_with hs (row_head r) a)

  has_behind : (hs : List Head) (h g : Head) → has (hs ++ h ∷ []) g ≡ false → (has hs g ≡ false) × (same_head h g ≡ false)
  has_behind [] h g e = (refl, last (same_head h g) e)
    where
      last : (b : Bool) → (b || false) ≡ false → b ≡ false
      last true e = cc
      last false e = refl
  has_behind (x ∷ hs) h g e = by (same_head x g) e (has_behind hs h g)
    where
      by : (b : Bool) → (b || has (hs ++ h ∷ []) g) ≡ false → (has (hs ++ h ∷ []) g ≡ false → (has hs g ≡ false) × (same_head h g ≡ false)) → ((b || has hs g) ≡ false) × (same_head h g ≡ false)
      by true e k = cc
      by false e k = k e

  with_keeps : (hs : List Head) (o : Option Head) (g : Head) → has (with_head_in D t hs o) g ≡ false → has hs g ≡ false
  with_keeps hs None g e = e
  with_keeps hs (Some h) g e = by (is_head D t h) (has hs h) e
    where
      by : (b c : Bool) → has (if b then (if c then hs else hs ++ h ∷ []) else hs) g ≡ false → has hs g ≡ false
      by true true e = e
      by true false e = (has_behind hs h g e).0
      by false c e = e

  with_has : (hs : List Head) (o : Option Head) (g : Head) → IsHead D t g → has (with_head_in D t hs o) g ≡ false → is_it o g ≡ false
  with_has hs None g i e = refl
  with_has hs (Some h) g i e = by (same_head h g) refl
    where
      in_list : (b : Bool) → has hs h ≡ b → is_head D t h ≡ true → h ≡ g → has (if is_head D t h then (if b then hs else hs ++ h ∷ []) else hs) g ≡ false → ⊥
      in_list true n y s e = let z = subst (λ x. has hs x ≡ true) s n in let w : has hs g ≡ false = (rw y at e) in cc
      in_list false n y s e = let w : has (hs ++ h ∷ []) g ≡ false = (rw y at e) in let z = (has_behind hs h g w).1 in let q = same_head_refl g in let v = subst (λ x. same_head x g ≡ false) s z in cc

      by : (b : Bool) → same_head h g ≡ b → b ≡ false
      by false s = refl
      by true s = let q = same_head_is h g s in absurd (in_list (has hs h) refl (head_is D t h (subst (λ x. IsHead D t x) (sym q) i)) q e)

  gather_keeps : (hs : List Head) (rows : List Row) (g : Head) → has (gather D t hs rows) g ≡ false → has hs g ≡ false
  gather_keeps hs [] g e = e
  gather_keeps hs (r ∷ rs) g e = with_keeps hs (row_head r) g (gather_keeps (with_head_in D t hs (row_head r)) rs g e)

  gather_has : (hs : List Head) (rows : List Row) (g : Head) → IsHead D t g → has (gather D t hs rows) g ≡ false → has (column_heads rows) g ≡ false
  gather_has hs [] g i e = refl
  gather_has hs ([] ∷ rs) g i e = gather_has hs rs g i e
  gather_has hs ((p ∷ ps) ∷ rs) g i e = by (head_in p) (with_has hs (head_in p) g i (gather_keeps (with_head_in D t hs (head_in p)) rs g e)) (gather_has (with_head_in D t hs (head_in p)) rs g i e)
    where
      by : (o : Option Head) → is_it o g ≡ false → has (column_heads rs) g ≡ false → has (add_head_in o (column_heads rs)) g ≡ false
      by None f h = h
      by (Some x) f h = rw f h

  pub are_gathered : (rows : List Row) → AreHeads D t rows (gather D t [] rows)
  are_gathered rows = record { all = λ h i e. gather_has [] rows h i e }

  pub head_at : (hs : List code_head.Head) (i : ℕ) (d : code_head.Head) → i < length hs → AllHeads D t (map plain-Head hs) → IsHead D t (plain-Head (get_or hs i d))
  head_at [] i d l a = absurd (omega (arith, l))
  head_at (h ∷ hs) zero d l a = a.0
  head_at (h ∷ hs) (suc i) d l a = head_at hs i d (omega (arith, l)) a.1

pub no_columns : (D : Declarations) (cols : List Column) (rows : List Row) (o : Option (List Value)) → length cols ≤ 0 → Settles D [] rows o → Settles D (map plain-Column cols) rows o
no_columns D [] rows o l s = s
no_columns D (c ∷ cs) rows o l s = absurd (omega (arith, l))
