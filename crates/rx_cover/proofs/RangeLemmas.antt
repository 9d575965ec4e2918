-- The rows of some of the heads say what all rows say of values with these.
use Rattle.std.proofs.Common.{◌≡◌, ℕ, suc, ◌+◌, ◌<◌, ◌≤◌, nat_le, nat_lt, Bool, true, false, ◌&&◌, List, [], ◌∷◌, map, length, get_or, Option, Some, None, if◌then◌else◌, ◌⊎◌, inl, inr, ⊎_elim, le-leb, lt-ltb, refl, sym, ap, ◌∙◌, subst, arith}
use Rattle.rx_typed.specs.Types.{Typ, Declarations}
use Rattle.rx_cover.specs.declared.heads.Head as code_head
use Rattle.rx_cover.specs.PlainCells.{plain-Head}
use Rattle.rx_cover.specs.Values.{Value, Values, value_and}
use Rattle.rx_cover.specs.Heads.{Head, head_in, head_of, place}
use Rattle.rx_cover.specs.Matrices.{Row, MatchRow, SomeRow, CoversHead, MissesHead, CoversRange, MissesRange, CoversHeads, Distinct, row_head, admits, head_within, rows_within, rows_weight, row_weight}
use Rattle.rx_cover.proofs.HeadLemmas.{meets, same_head_is}
use Rattle.rx_cover.proofs.SetLemmas.{place_at, head_there, has_place}

within_from : (hs : List Head) (low high : ℕ) (rs : List Row) (vs : Values) → SomeRow (rows_within hs low high rs) vs → SomeRow rs vs
within_from hs low high [] vs s = s
within_from hs low high (r ∷ rs) vs s = by (head_within hs low high (row_head r)) s (within_from hs low high rs vs)
  where
    by : (b : Bool) → SomeRow (if b then r ∷ rows_within hs low high rs else rows_within hs low high rs) vs → (SomeRow (rows_within hs low high rs) vs → SomeRow rs vs) → MatchRow r vs ⊎ SomeRow rs vs
    by true s k = ⊎_elim (λ a. inl a) (λ b. inr (k b)) s
    by false s k = inr (k s)

-- a row that matches a value asks for its head or for none
row_there : (hs : List Head) (low high : ℕ) (r : Row) (v : Value) (ws : Values) → low ≤ place hs (head_of v) → place hs (head_of v) < high → MatchRow r (value_and v ws) → head_within hs low high (row_head r) ≡ true
row_there hs low high [] v ws l m s = refl
row_there hs low high (p ∷ ps) v ws l m s = by (head_in p) (meets p v s.0).admitted
  where
    by : (o : Option Head) → admits o (head_of v) ≡ true → head_within hs low high o ≡ true
    by None a = refl
    by (Some g) a = subst (λ x. (nat_le low (place hs x) && nat_lt (place hs x) high) ≡ true) (sym (same_head_is g (head_of v) a))
        (let e = le-leb low (place hs (head_of v)) l in let f = lt-ltb (place hs (head_of v)) high m in rw (e, f) refl)

within_to : (hs : List Head) (low high : ℕ) (rs : List Row) (v : Value) (ws : Values) → low ≤ place hs (head_of v) → place hs (head_of v) < high
    → SomeRow rs (value_and v ws) → SomeRow (rows_within hs low high rs) (value_and v ws)
within_to hs low high [] v ws l m s = s
within_to hs low high (r ∷ rs) v ws l m s = by (head_within hs low high (row_head r)) refl s (within_to hs low high rs v ws l m)
  where
    by : (b : Bool) → head_within hs low high (row_head r) ≡ b → MatchRow r (value_and v ws) ⊎ SomeRow rs (value_and v ws) → (SomeRow rs (value_and v ws) → SomeRow (rows_within hs low high rs) (value_and v ws))
        → SomeRow (if b then r ∷ rows_within hs low high rs else rows_within hs low high rs) (value_and v ws)
    by true e s k = ⊎_elim (λ a. inl a) (λ b. inr (k b)) s
    by false e s k = ⊎_elim (λ a. let t = row_there hs low high r v ws l m a in absurd (cc)) (λ b. k b) s

pub within_weight : (hs : List Head) (low high : ℕ) (rs : List Row) → rows_weight (rows_within hs low high rs) ≤ rows_weight rs
within_weight hs low high [] = omega arith
within_weight hs low high (r ∷ rs) = by (head_within hs low high (row_head r)) (within_weight hs low high rs)
  where
    by : (b : Bool) → rows_weight (rows_within hs low high rs) ≤ rows_weight rs → rows_weight (if b then r ∷ rows_within hs low high rs else rows_within hs low high rs) ≤ row_weight r + rows_weight rs
    by true l = omega (arith, l)
    by false l = omega (arith, l)

module _ (D : Declarations) (t : Typ) (ts : List Typ) (hs : List Head) (low high : ℕ) (rows : List Row) where
  pub within_covered : CoversRange D t ts hs low high (rows_within hs low high rows) → CoversRange D t ts hs low high rows
  within_covered c = record { each = λ v vs a b l m. within_from hs low high rows (value_and v vs) (c.each v vs a b l m) }

  pub within_missed : (vs : Values) → MissesRange D t ts hs low high (rows_within hs low high rows) vs → MissesRange D t ts hs low high rows vs
  within_missed vs m = record {
    misses = record {
      typed = m.misses.typed;
      apart = λ s. m.misses.apart (subst (λ x. SomeRow (rows_within hs low high rows) x) (sym m.is)
          (within_to hs low high rows m.first m.others m.from m.before (subst (λ x. SomeRow rows x) m.is s)));
    };
    first = m.first;
    others = m.others;
    is = m.is;
    from = m.from;
    before = m.before;
  }

  pub none_within : high ≤ low → CoversRange D t ts hs low high rows
  none_within l = record { each = λ v vs a b f g. absurd (omega (arith, l, f, g)) }

  pub both_covered : (middle : ℕ) → CoversRange D t ts hs low middle rows → CoversRange D t ts hs middle high rows → CoversRange D t ts hs low high rows
  both_covered middle c d = record { each = λ v vs a b f g. ⊎_elim (λ l. c.each v vs a b f l) (λ l. d.each v vs a b l g) (either (place hs (head_of v)) middle) }
    where
      either : (a b : ℕ) → (a < b) ⊎ (b ≤ a)
      either a b = grind arith

  -- a part of the range
  pub missed_part : (from to : ℕ) (vs : Values) → low ≤ from → to ≤ high → MissesRange D t ts hs from to rows vs → MissesRange D t ts hs low high rows vs
  missed_part from to vs l m n = let a = n.from in let b = n.before in record { misses = n.misses; first = n.first; others = n.others; is = n.is; from = omega (arith, l, a); before = omega (arith, m, b) }

pub all_covered : (D : Declarations) (t : Typ) (ts : List Typ) (hs : List Head) (rows : List Row) → CoversRange D t ts hs 0 (length hs) rows → CoversHeads D t ts hs rows
all_covered D t ts hs rows c = record { each = λ v vs a b e. c.each v vs a b (omega arith) (has_place hs (head_of v) e) }

-- one head
module _ (D : Declarations) (t : Typ) (ts : List Typ) (ks : List code_head.Head) (low high : ℕ) (d : code_head.Head) (rows : List Row) where
  pub one_covered : high ≤ suc low → low < length ks → CoversHead D t ts (plain-Head (get_or ks low d)) rows → CoversRange D t ts (map plain-Head ks) low high rows
  one_covered l m c = record { each = λ v vs a b f g. c.each v vs a b (head_there ks low d (head_of v) m (omega (arith, l, f, g))) }

  pub one_missed : low < high → low < length ks → Distinct (map plain-Head ks) → (vs : Values) → MissesHead D t ts (plain-Head (get_or ks low d)) rows vs → MissesRange D t ts (map plain-Head ks) low high rows vs
  one_missed l m a vs n =
      let e : place (map plain-Head ks) (head_of n.first) ≡ low = ap (place (map plain-Head ks)) n.headed ∙ place_at ks low d m a in
      record { misses = n.misses; first = n.first; others = n.others; is = n.is; from = omega (arith, e); before = omega (arith, e, l) }
