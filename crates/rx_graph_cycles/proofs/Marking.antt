-- What marking does to a table, to the work of a search, and to how many have no mark.
use Rattle.std.proofs.Common.{◌≡◌, ℕ, zero, suc, ◌+◌, ◌<◌, ◌≤◌, ◌⊎◌, inl, inr, Bool, true, false, cond, List, [], ◌∷◌}
use Rattle.std.proofs.Common.{◌++◌, length, replicate, refl, sym, ap, ◌∙◌, arith, true≢false, length-append}
use Rattle.std.proofs.lemmas.List.{length_push}
use Rattle.rx_graph_cycles.specs.Reaches.{IsIn}
use Rattle.rx_graph_cycles.specs.Marks.{marked, mark, all_marked, full, mark_all, with_one, with_new, unmarked}
use Rattle.rx_graph_cycles.proofs.Ways.{is_in_front, is_in_behind, is_in_either}

-- ---- one mark

pub mark_keeps : (ms : List Bool) (n j : ℕ) → marked ms j ≡ true → marked (mark ms n) j ≡ true
mark_keeps [] n j h = refl
mark_keeps (m ∷ ms) zero zero h = refl
mark_keeps (m ∷ ms) zero (suc j) h = h
mark_keeps (m ∷ ms) (suc n) zero h = h
mark_keeps (m ∷ ms) (suc n) (suc j) h = mark_keeps ms n j h

pub mark_marks : (ms : List Bool) (n : ℕ) → marked (mark ms n) n ≡ true
mark_marks [] n = refl
mark_marks (m ∷ ms) zero = refl
mark_marks (m ∷ ms) (suc n) = mark_marks ms n

-- no other gets a mark
pub from_mark : (ms : List Bool) (n j : ℕ) → marked (mark ms n) j ≡ true → (n ≡ j) ⊎ (marked ms j ≡ true)
from_mark [] n j h = inr refl
from_mark (m ∷ ms) zero zero h = inl refl
from_mark (m ∷ ms) zero (suc j) h = inr h
from_mark (m ∷ ms) (suc n) zero h = inr h
from_mark (m ∷ ms) (suc n) (suc j) h = elim (from_mark ms n j h) [ inl same ↦ inl (ap suc same) | inr k ↦ inr k ]

pub mark_again : (ms : List Bool) (n : ℕ) → marked ms n ≡ true → mark ms n ≡ ms
mark_again [] n h = refl
mark_again (m ∷ ms) zero h = ap (λ b. b ∷ ms) (sym h)
mark_again (m ∷ ms) (suc n) h = ap (λ l. m ∷ l) (mark_again ms n h)

pub one_less : (ms : List Bool) (n : ℕ) → marked ms n ≡ false → suc (unmarked (mark ms n)) ≡ unmarked ms
one_less [] n h = absurd (true≢false h)
one_less (true ∷ ms) zero h = absurd (true≢false h)
one_less (false ∷ ms) zero h = refl
one_less (true ∷ ms) (suc n) h = one_less ms n h
one_less (false ∷ ms) (suc n) h = ap suc (one_less ms n h)

-- ---- whole tables

pub each_marked : (ms : List Bool) (ns : List ℕ) (j : ℕ) → all_marked ms ns ≡ true → IsIn ns j → marked ms j ≡ true
each_marked ms [] j all h = absurd h
each_marked ms (n ∷ ns) j all h = by (marked ms n) refl all h (each_marked ms ns j)
  where
    by : (b : Bool) → marked ms n ≡ b → cond b (all_marked ms ns) false ≡ true → (n ≡ j) ⊎ IsIn ns j
        → (all_marked ms ns ≡ true → IsIn ns j → marked ms j ≡ true) → marked ms j ≡ true
    by true is all (inl same) rest = ap (marked ms) (sym same) ∙ is
    by true is all (inr h) rest = rest all h
    by false is all h rest = absurd (true≢false (sym all))

pub full_marks : (ms : List Bool) (j : ℕ) → full ms ≡ true → marked ms j ≡ true
full_marks [] j h = refl
full_marks (true ∷ ms) zero h = refl
full_marks (true ∷ ms) (suc j) h = full_marks ms j h
full_marks (false ∷ ms) j h = absurd (true≢false (sym h))

-- where no node has a mark only what is no node counts as marked
pub past_from_marked : (len j : ℕ) → marked (replicate len false) j ≡ true → len ≤ j
past_from_marked zero j h = omega arith
past_from_marked (suc len) zero h = absurd (true≢false (sym h))
past_from_marked (suc len) (suc j) h = let le = past_from_marked len j h in omega arith

-- ---- marks of a list of nodes, and the work of a search

pub mark_all_keeps : (ms : List Bool) (ns : List ℕ) (j : ℕ) → marked ms j ≡ true → marked (mark_all ms ns) j ≡ true
mark_all_keeps ms [] j h = h
mark_all_keeps ms (n ∷ ns) j h = mark_all_keeps (mark ms n) ns j (mark_keeps ms n j h)

pub mark_all_marks : (ms : List Bool) (ns : List ℕ) (j : ℕ) → IsIn ns j → marked (mark_all ms ns) j ≡ true
mark_all_marks ms [] j h = absurd h
mark_all_marks ms (n ∷ ns) j (inl same) =
    mark_all_keeps (mark ms n) ns j (ap (marked (mark ms n)) (sym same) ∙ mark_marks ms n)
mark_all_marks ms (n ∷ ns) j (inr h) = mark_all_marks (mark ms n) ns j h

one_keeps : (ms : List Bool) (work : List ℕ) (n j : ℕ) → IsIn work j → IsIn (with_one ms work n) j
one_keeps ms work n j h = by (marked ms n)
  where
    by : (b : Bool) → IsIn (cond b work (work ++ n ∷ [])) j
    by true = h
    by false = is_in_front work (n ∷ []) j h

pub work_stays : (ms : List Bool) (work ns : List ℕ) (j : ℕ) → IsIn work j → IsIn (with_new ms work ns) j
work_stays ms work [] j h = h
work_stays ms work (n ∷ ns) j h = work_stays (mark ms n) (with_one ms work n) ns j (one_keeps ms work n j h)

from_one : (ms : List Bool) (work : List ℕ) (n j : ℕ) → IsIn (with_one ms work n) j → IsIn work j ⊎ (n ≡ j)
from_one ms work n j h = by (marked ms n) h
  where
    last : IsIn work j ⊎ IsIn (n ∷ []) j → IsIn work j ⊎ (n ≡ j)
    last (inl old) = inl old
    last (inr (inl same)) = inr same
    last (inr (inr h)) = absurd h

    by : (b : Bool) → IsIn (cond b work (work ++ n ∷ [])) j → IsIn work j ⊎ (n ≡ j)
    by true h = inl h
    by false h = last (is_in_either work (n ∷ []) j h)

-- what is in the work was there, or is one of those that were found
pub from_new : (ms : List Bool) (work ns : List ℕ) (j : ℕ) → IsIn (with_new ms work ns) j → IsIn work j ⊎ IsIn ns j
from_new ms work [] j h = inl h
from_new ms work (n ∷ ns) j h = by (from_new (mark ms n) (with_one ms work n) ns j h)
  where
    one : IsIn work j ⊎ (n ≡ j) → IsIn work j ⊎ IsIn (n ∷ ns) j
    one (inl old) = inl old
    one (inr same) = inr (inl same)

    by : IsIn (with_one ms work n) j ⊎ IsIn ns j → IsIn work j ⊎ IsIn (n ∷ ns) j
    by (inl first) = one (from_one ms work n j first)
    by (inr later) = inr (inr later)

one_new : (ms : List Bool) (work : List ℕ) (n j : ℕ) → marked (mark ms n) j ≡ true
    → (marked ms j ≡ true) ⊎ IsIn (with_one ms work n) j
one_new ms work n j h = by (from_mark ms n j h)
  where
    new : (b : Bool) → marked ms n ≡ b → n ≡ j → (marked ms j ≡ true) ⊎ IsIn (cond b work (work ++ n ∷ [])) j
    new true is same = inl (ap (marked ms) (sym same) ∙ is)
    new false is same = inr (is_in_behind work (n ∷ []) j (inl same))

    by : (n ≡ j) ⊎ (marked ms j ≡ true) → (marked ms j ≡ true) ⊎ IsIn (with_one ms work n) j
    by (inl same) = new (marked ms n) refl same
    by (inr old) = inl old

-- what has a mark had it, or is in the work
pub new_in_work : (ms : List Bool) (work ns : List ℕ) (j : ℕ) → marked (mark_all ms ns) j ≡ true
    → (marked ms j ≡ true) ⊎ IsIn (with_new ms work ns) j
new_in_work ms work [] j h = inl h
new_in_work ms work (n ∷ ns) j h = by (new_in_work (mark ms n) (with_one ms work n) ns j h)
  where
    one : (marked ms j ≡ true) ⊎ IsIn (with_one ms work n) j → (marked ms j ≡ true) ⊎ IsIn (with_new ms work (n ∷ ns)) j
    one (inl old) = inl old
    one (inr new) = inr (work_stays (mark ms n) (with_one ms work n) ns j new)

    by : (marked (mark ms n) j ≡ true) ⊎ IsIn (with_new ms work (n ∷ ns)) j
        → (marked ms j ≡ true) ⊎ IsIn (with_new ms work (n ∷ ns)) j
    by (inl first) = one (one_new ms work n j first)
    by (inr later) = inr later

-- each that is added to the work gets a mark
one_total : (ms : List Bool) (work : List ℕ) (n : ℕ)
    → length (with_one ms work n) + unmarked (mark ms n) ≡ length work + unmarked ms
one_total ms work n = by (marked ms n) refl
  where
    by : (b : Bool) → marked ms n ≡ b
        → length (cond b work (work ++ n ∷ [])) + unmarked (mark ms n) ≡ length work + unmarked ms
    by true is = ap (λ l. length work + unmarked l) (mark_again ms n is)
    by false is = let less = one_less ms n is in omega (arith, length-append work (n ∷ []))

pub work_total : (ms : List Bool) (work ns : List ℕ)
    → length (with_new ms work ns) + unmarked (mark_all ms ns) ≡ length work + unmarked ms
work_total ms work [] = refl
work_total ms work (n ∷ ns) = work_total (mark ms n) (with_one ms work n) ns ∙ one_total ms work n

-- the measure of a search, where the code has equations
pub fewer_left : (ms seen : List Bool) (old w ts work : List ℕ) (v : ℕ) → old ≡ w ++ v ∷ [] → seen ≡ mark_all ms ts
    → work ≡ with_new ms w ts
    → length work + unmarked seen < length old + unmarked ms
fewer_left ms seen old w ts work v old_is seen_is work_is =
    let total = work_total ms w ts in
    let same : length work + unmarked seen ≡ length (with_new ms w ts) + unmarked (mark_all ms ts) = cc in
    let one_more : length old ≡ length w + 1 = ap length old_is ∙ length_push w v in
    omega arith
