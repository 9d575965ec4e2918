-- The first so many names of a row that are not taken are the fresh names, in order.
use Rattle.std.proofs.Common.{◌≡◌, ℕ, zero, suc, ◌+◌, ◌-◌, ◌<◌, ◌≤◌, ◌^◌, nat_lt, Bool, true, false, List, [], ◌∷◌, ◌++◌, length, get_or, take, drop, refl, sym, ap, ap₂, ◌∙◌, arith, append-nil, length-append, drop-cons}
use Rattle.std.specs.Prelude.{not, ◌&&◌, filter, if◌then◌else◌}
use Rattle.std.specs.Fmt.{decimal}
use Rattle.std.proofs.Math.ListN.{get_or-append}
use Rattle.std.proofs.lemmas.Bool.{ltb-true, ltb-false}
use Rattle.std.proofs.lemmas.List.{take_all, take-append-le, length-take, get_or_past}
use Rattle.std.proofs.lemmas.List.Elements.{filter-append}
use Rattle.rx_hoist_extraction.specs.Names.{Names, is_among}
use Rattle.rx_hoist_extraction.specs.Fresh.{row, left_out, fresh}
use Rattle.rx_hoist_extraction.proofs.FreshNames.{fresh_has}
use Rattle.rx_hoist_made.specs.Rows.{extended, fresh_row}

longer_row : (word : List ℕ) (n a b : ℕ) → row word n (a + b) ≡ row word n a ++ row word (n + a) b
longer_row word n zero b = let none : 0 + b ≡ b = omega arith in
    let same : n ≡ n + 0 = omega arith in ap (row word n) none ∙ ap (λ m. row word m b) same
longer_row word n (suc a) b = let more : suc a + b ≡ suc (a + b) = omega arith in
    let from : suc n + a ≡ n + suc a = omega arith in
    ap (row word n) more ∙ ap (λ ys. (word ++ decimal n) ∷ ys) (longer_row word (suc n) a b) ∙ ap (λ m. row word n (suc a) ++ row word m b) from

longer_left : (word : List ℕ) (taken : Names) (a b : ℕ) → left_out taken (row word 0 (a + b)) ≡ left_out taken (row word 0 a) ++ left_out taken (row word a b)
longer_left word taken a b = let none : 0 + a ≡ a = omega arith in
    ap (left_out taken) (longer_row word 0 a b) ∙ ap (λ m. left_out taken (row word 0 a ++ row word m b)) none
    ∙ filter-append (λ x. not (is_among x taken)) (row word 0 a) (row word a b)

-- ---- one candidate more

at_most : (many : ℕ) (names : Names) (x : List ℕ) (b : Bool) → nat_lt (length (take many names)) many ≡ b
    → (if b then take many names ++ x ∷ [] else take many names) ≡ take many (names ++ x ∷ [])
at_most many names x true e =
    let l : length (take many names) < many = ltb-true (length (take many names)) many e in
    let few : length names ≤ many = omega (arith, l, length-take many names) in
    ap (λ ys. ys ++ x ∷ []) (take_all many names few)
    ∙ sym (take_all many (names ++ x ∷ []) (omega (arith, l, length-take many names, length-append names (x ∷ []))))
at_most many names x false e =
    let l : many ≤ length (take many names) = ltb-false (length (take many names)) many e in
    sym (take-append-le many names (x ∷ []) (omega (arith, l, length-take many names)))

extended_at : (many : ℕ) (taken names : Names) (x : List ℕ) (b c : Bool) → nat_lt (length (take many names)) many ≡ b → is_among x taken ≡ c
    → extended (take many names) many taken x ≡ take many (names ++ left_out taken (x ∷ []))
extended_at many taken names x true true e f = rw (e, f) (ap (take many) (sym (append-nil names)))
extended_at many taken names x false true e f = rw (e, f) (ap (take many) (sym (append-nil names)))
extended_at many taken names x true false e f = rw (e, f) (at_most many names x true e)
extended_at many taken names x false false e f = rw (e, f) (at_most many names x false e)

pub one_candidate : (word : List ℕ) (taken : Names) (many n : ℕ)
    → extended (take many (left_out taken (row word 0 n))) many taken (word ++ decimal n) ≡ take many (left_out taken (row word 0 (n + 1)))
one_candidate word taken many n = let names = left_out taken (row word 0 n) in
    extended_at many taken names (word ++ decimal n) (nat_lt (length (take many names)) many) (is_among (word ++ decimal n) taken) refl refl
    ∙ ap (take many) (sym (longer_left word taken n 1))

-- ---- enough are left, since a fresh name is no empty one

enough : (word : List ℕ) (taken : Names) (i : ℕ) → 0 < length word → length taken + suc i ≤ 2 ^ 64 → i < length (left_out taken (row word 0 (length taken + suc i)))
enough word taken i w b = at (nat_lt i (length left)) refl
  where
    left : Names
    left = left_out taken (row word 0 (length taken + suc i))

    unlike : (n : ℕ) → n < 2 ^ 64 → word ++ decimal n ≡ [] → ⊥
    unlike n l e = omega (arith, w, ap length e, length-append word (decimal n))

    at : (t : Bool) → nat_lt i (length left) ≡ t → i < length left
    at true e = ltb-true i (length left) e
    at false e = absurd (fresh_has (λ x. x ≡ [] → ⊥) word unlike taken i b (get_or_past left i [] (ltb-false i (length left) e)))

fresh_in : (word : List ℕ) (taken : Names) (i k : ℕ) → 0 < length word → length taken + suc i ≤ 2 ^ 64
    → get_or (left_out taken (row word 0 (length taken + suc i + k))) i [] ≡ fresh word taken i
fresh_in word taken i k w b = let many = length taken + suc i in
    ap (λ ys. get_or ys i []) (longer_left word taken many k)
    ∙ get_or-append (left_out taken (row word 0 many)) (left_out taken (row word many k)) [] i (enough word taken i w b)

there : (word : List ℕ) (taken : Names) (i k : ℕ) → 0 < length word → length taken + suc i ≤ 2 ^ 64
    → i < length (left_out taken (row word 0 (length taken + suc i + k)))
there word taken i k w b = let many = length taken + suc i in
    omega (arith, enough word taken i w b, ap length (longer_left word taken many k), length-append (left_out taken (row word 0 many)) (left_out taken (row word many k)))

rows_are : (word : List ℕ) (taken : Names) (i many n : ℕ) → 0 < length word → n ≤ 2 ^ 64 → length taken + (i + many) ≤ n
    → take many (drop i (left_out taken (row word 0 n))) ≡ fresh_row word taken i many
rows_are word taken i zero n w b l = refl
rows_are word taken i (suc many) n w b l =
    let k = n - (length taken + suc i) in
    let e : length taken + suc i + k ≡ n = omega arith in
    let here : i < length (left_out taken (row word 0 n)) = omega (arith, there word taken i k w (omega arith), ap (λ m. length (left_out taken (row word 0 m))) e) in
    ap (take (suc many)) (drop-cons (left_out taken (row word 0 n)) i [] here)
    ∙ ap₂ (λ x xs. x ∷ xs) (ap (λ m. get_or (left_out taken (row word 0 m)) i []) (sym e) ∙ fresh_in word taken i k w (omega arith))
    (rows_are word taken (suc i) many n w b (omega arith))

pub firsts_are_fresh : (word : List ℕ) (taken : Names) (many n : ℕ) → 0 < length word → n ≤ 2 ^ 64 → n ≡ length taken + many
    → take many (left_out taken (row word 0 n)) ≡ fresh_row word taken 0 many
firsts_are_fresh word taken many n w b e = rows_are word taken 0 many n w b (omega (arith, e))
