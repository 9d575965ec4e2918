-- The names that several values are bound to are distinct: those of variables are, fresh ones are, and these are no words of the text.
use Rattle.std.proofs.Common.{◌≡◌, ℕ, suc, ◌+◌, ◌<◌, ◌≤◌, ◌^◌, Bool, true, false, ◌||◌, if◌then◌else◌, List, [], ◌∷◌, ◌++◌, length, Option, Some, None, refl, sym, ap, ◌∙◌, subst, arith, bytes_eq, codes}
use Rattle.rx_tree.specs.Lists.{Every}
use Rattle.rx_typed.specs.Types.{Typ}
use Rattle.rx_lower_walks.specs.Walks.{Among, here, there}
use Rattle.rx_hoist_extraction.specs.Names.{Distinct, is_among, Names}
use Rattle.rx_hoist_extraction.specs.Plan.{Exit, has_exit, Leaving, names_of, outs_of, Plan, same_exit, to_next, Variable}
use Rattle.rx_hoist_extraction.specs.Values.{variables_held, held_by, next_values, result_if_any, result_of, Value}
use Rattle.rx_hoist_extraction.specs.Fresh.{fresh_variable}
use Rattle.rx_hoist_extraction.specs.Call.{is_own}
use Rattle.rx_hoist_extraction.proofs.FreshNames.{fresh_differ, fresh_is_free, unlike}
use Rattle.rx_engine_names.specs.HandsOver.{received_names}

-- the variables among values
abbrev pub held_in : List Value → List Variable
held_in [] = []
held_in (result_of t ∷ hs) = held_in hs
held_in (held_by v ∷ hs) = v ∷ held_in hs

clash : true ≡ false → ⊥
clash e = cc

neither : (a b : Bool) → a ≡ false → b ≡ false → (a || b) ≡ false
neither true b d e = absurd (cc)
neither false b d e = e

first_not : (a b : Bool) → (a || b) ≡ false → a ≡ false
first_not true b e = absurd (cc)
first_not false b e = refl

second_not : (a b : Bool) → (a || b) ≡ false → b ≡ false
second_not true b e = absurd (cc)
second_not false b e = e

module _ (pl : Plan) (own : Names) where
  abbrev ids : Names
  ids = pl.identifiers

  abbrev Words : List Value → Type 0
  Words hs = Every (λ (v : Variable). is_among v.name ids ≡ true) (held_in hs)

  abbrev Enough : ℕ → List Value → Type 0
  Enough i hs = length ids + (i + length hs) ≤ 2 ^ 64

  -- a word of the text is no fresh name
  pub word_is_not : (x : List ℕ) (i : ℕ) → length ids + suc i ≤ 2 ^ 64 → is_among x ids ≡ true → bytes_eq x (fresh_variable ids i) ≡ false
  word_is_not x i l w =
      unlike x (fresh_variable ids i) (λ e. let free = fresh_is_free (codes "out_") ids i l in clash (sym w ∙ (ap (λ (y : List ℕ). is_among y ids) e ∙ free)))

  fresh_is_not : (x : List ℕ) (i : ℕ) → length ids + suc i ≤ 2 ^ 64 → is_among x ids ≡ true → bytes_eq (fresh_variable ids i) x ≡ false
  fresh_is_not x i l w =
      unlike (fresh_variable ids i) x (λ e. let free = fresh_is_free (codes "out_") ids i l in clash (sym w ∙ (ap (λ (y : List ℕ). is_among y ids) (sym e) ∙ free)))

  word_absent : (x : List ℕ) (i : ℕ) (hs : List Value) → Enough i hs → is_among x ids ≡ true → is_among x (names_of (held_in hs)) ≡ false → is_among x (received_names pl own i hs) ≡ false
  word_absent x i [] l w n = refl
  word_absent x i (result_of t ∷ hs) l w n =
      neither (bytes_eq x (fresh_variable ids i)) (is_among x (received_names pl own (suc i) hs)) (word_is_not x i (omega (arith, l)) w) (word_absent x (suc i) hs (omega (arith, l)) w n)
  word_absent x i (held_by v ∷ hs) l w n = by (is_own own v) (word_absent x (suc i) hs (omega (arith, l)) w (second_not (bytes_eq x v.name) (is_among x (names_of (held_in hs))) n))
    where
      by : (b : Bool) → is_among x (received_names pl own (suc i) hs) ≡ false → (bytes_eq x (if b then v.name else fresh_variable ids i) || is_among x (received_names pl own (suc i) hs)) ≡ false
      by true r = neither (bytes_eq x v.name) (is_among x (received_names pl own (suc i) hs)) (first_not (bytes_eq x v.name) (is_among x (names_of (held_in hs))) n) r
      by false r = neither (bytes_eq x (fresh_variable ids i)) (is_among x (received_names pl own (suc i) hs)) (word_is_not x i (omega (arith, l)) w) r

  fresh_absent : (j i : ℕ) (hs : List Value) → j < i → Enough i hs → Words hs → is_among (fresh_variable ids j) (received_names pl own i hs) ≡ false
  fresh_absent j i [] m l w = refl
  fresh_absent j i (result_of t ∷ hs) m l w =
      neither (bytes_eq (fresh_variable ids j) (fresh_variable ids i)) (is_among (fresh_variable ids j) (received_names pl own (suc i) hs))
      (unlike (fresh_variable ids j) (fresh_variable ids i) (fresh_differ (codes "out_") ids j i m (omega (arith, l)))) (fresh_absent j (suc i) hs (omega (arith, m)) (omega (arith, l)) w)
  fresh_absent j i (held_by v ∷ hs) m l w = by (is_own own v) (fresh_absent j (suc i) hs (omega (arith, m)) (omega (arith, l)) w.1)
    where
      by : (b : Bool) → is_among (fresh_variable ids j) (received_names pl own (suc i) hs) ≡ false
          → (bytes_eq (fresh_variable ids j) (if b then v.name else fresh_variable ids i) || is_among (fresh_variable ids j) (received_names pl own (suc i) hs)) ≡ false
      by true r = neither (bytes_eq (fresh_variable ids j) v.name) (is_among (fresh_variable ids j) (received_names pl own (suc i) hs)) (fresh_is_not v.name j (omega (arith, m, l)) w.0) r
      by false r = neither (bytes_eq (fresh_variable ids j) (fresh_variable ids i)) (is_among (fresh_variable ids j) (received_names pl own (suc i) hs))
          (unlike (fresh_variable ids j) (fresh_variable ids i) (fresh_differ (codes "out_") ids j i m (omega (arith, l)))) r

  pub distinct_received : (i : ℕ) (hs : List Value) → Enough i hs → Words hs → Distinct (names_of (held_in hs)) → Distinct (received_names pl own i hs)
  distinct_received i [] l w d = tt
  distinct_received i (result_of t ∷ hs) l w d = (fresh_absent i (suc i) hs (omega arith) (omega (arith, l)) w, distinct_received (suc i) hs (omega (arith, l)) w d)
  distinct_received i (held_by v ∷ hs) l w d = by (is_own own v) (distinct_received (suc i) hs (omega (arith, l)) w.1 d.1)
    where
      by : (b : Bool) → Distinct (received_names pl own (suc i) hs) → Distinct ((if b then v.name else fresh_variable ids i) ∷ received_names pl own (suc i) hs)
      by true r = (word_absent v.name (suc i) hs (omega (arith, l)) w.0 d.0, r)
      by false r = (fresh_absent i (suc i) hs (omega arith) (omega (arith, l)) w.1, r)

-- ---- of Next

held_are : (vs : List Variable) → held_in (variables_held vs) ≡ vs
held_are [] = refl
held_are (v ∷ vs) = ap (λ (l : List Variable). v ∷ l) (held_are vs)

values_hold : (v : Option Typ) (vs : List Variable) → held_in (result_if_any v ++ variables_held vs) ≡ vs
values_hold None vs = held_are vs
values_hold (Some t) vs = held_are vs

-- what holds of the outs of each exit holds of those of the first with this one
found_outs : (T : List Variable → Type 0) (e : Exit) (xs : List Leaving) → ((x : Leaving) → Among x xs → T x.outs) → has_exit e xs ≡ true → T (outs_of e xs)
found_outs T e [] h f = absurd (cc)
found_outs T e (x ∷ xs) h f = by (same_exit e x.exit) f (λ g. found_outs T e xs (λ y i. h y (there i)) g)
  where
    by : (b : Bool) → (b || has_exit e xs) ≡ true → (has_exit e xs ≡ true → T (outs_of e xs)) → T (if b then x.outs else outs_of e xs)
    by true g rest = h x here
    by false g rest = rest g

pub next_holds : (T : List Variable → Type 0) (pl : Plan) → T [] → ((x : Leaving) → Among x pl.exits → T x.outs) → T (held_in (next_values pl))
next_holds T pl none h = by (has_exit to_next pl.exits) refl
  where
    by : (b : Bool) → has_exit to_next pl.exits ≡ b → T (held_in (if b then result_if_any pl.value ++ variables_held (outs_of to_next pl.exits) else []))
    by true e = subst T (sym (values_hold pl.value (outs_of to_next pl.exits))) (found_outs T to_next pl.exits h e)
    by false e = none

pub every_among : {A : Type 0} (P : A → Type 0) (l : List A) → Every P l → (x : A) → Among x l → P x
every_among P [] h x i = absurd (elim i [ ])
every_among P (y ∷ l) h _ here = h.0
every_among P (y ∷ l) h x (there i) = every_among P l h.1 x i

pub all_received : (pl : Plan) (own : Names) → length pl.identifiers + length (next_values pl) ≤ 2 ^ 64 → Every (λ (x : Leaving). Every (λ (v : Variable). is_among v.name pl.identifiers ≡ true) x.outs) pl.exits
    → ((x : Leaving) → Among x pl.exits → Distinct (names_of x.outs)) → Distinct (received_names pl own 0 (next_values pl))
all_received pl own l w d =
    distinct_received pl own 0 (next_values pl) (omega (arith, l)) (next_holds (λ (vs : List Variable). Every (λ (v : Variable). is_among v.name pl.identifiers ≡ true) vs) pl tt (every_among (λ (x : Leaving). Every (λ (v : Variable). is_among v.name pl.identifiers ≡ true) x.outs) pl.exits w))
    (next_holds (λ (vs : List Variable). Distinct (names_of vs)) pl tt d)
