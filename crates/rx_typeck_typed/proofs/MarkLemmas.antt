-- A lifetime has its mark exactly where it occurs.
use Rattle.std.proofs.Common.{◌≡◌, ℕ, zero, suc, ◌+◌, ◌<◌, ◌≤◌, Bool, true, false, cond, nat_eq, List, [], ◌∷◌}
use Rattle.std.proofs.Common.{length, get_or, slice_set, replicate, Ok, Err, refl, sym, ap, subst, ◌∙◌, arith}
use Rattle.std.proofs.lemmas.List.{get_or-replicate}
use Rattle.rx_tree.specs.declared.tree.Ident.{Ident}
use Rattle.rx_resolve_names.specs.Meant.{number}
use Rattle.rx_typeck_solver.specs.declared.facts.Rule.{Rule}
use Rattle.rx_typeck_typed.specs.declared.fault.DeclareFault.TheVariants as fault
use Rattle.rx_typeck_typed.specs.Steps.{on_ok}
use Rattle.rx_typeck_typed.specs.Items.{is_among, all_used}
use Rattle.rx_typeck_typed.specs.Marks.{marked, all_used_by}

apart_from_zero : (i : ℕ) → nat_eq (suc i) zero ≡ false
apart_from_zero i = grind arith

zero_apart : (n : ℕ) → nat_eq zero (suc n) ≡ false
zero_apart n = grind arith

same_next : (i n : ℕ) → nat_eq (suc i) (suc n) ≡ nat_eq i n
same_next i n = grind arith

set_at : (ms : List Bool) (n i : ℕ) → i < length ms → get_or (slice_set ms n true) i false
    ≡ cond (nat_eq i n) true (get_or ms i false)
set_at [] n i h = absurd (omega (arith, h))
set_at (m ∷ ms) zero zero h = refl
set_at (m ∷ ms) zero (suc i) h = ap (λ b. cond b true (get_or ms i false)) (sym (apart_from_zero i))
set_at (m ∷ ms) (suc n) zero h = ap (λ b. cond b true m) (sym (zero_apart n))
set_at (m ∷ ms) (suc n) (suc i) h = set_at ms n i (omega (arith, h))
    ∙ ap (λ b. cond b true (get_or ms i false)) (sym (same_next i n))

length_set : (ms : List Bool) (n : ℕ) → length (slice_set ms n true) ≡ length ms
length_set [] n = refl
length_set (m ∷ ms) zero = refl
length_set (m ∷ ms) (suc n) = ap suc (length_set ms n)

either : (a b c : Bool) → cond a true (cond b true c) ≡ cond (cond b true a) true c
either true true c = refl
either true false c = refl
either false true c = refl
either false false c = refl

marked_at : (ms : List Bool) (ns : List ℕ) (i : ℕ) → i < length ms → get_or (marked ms ns) i false
    ≡ cond (is_among i ns) true (get_or ms i false)
marked_at ms [] i h = refl
marked_at ms (n ∷ ns) i h = marked_at (slice_set ms n true) ns i (subst (λ k. i < k) (sym (length_set ms n)) h)
    ∙ ap (λ b. cond (is_among i ns) true b) (set_at ms n i h) ∙ either (is_among i ns) (nat_eq i n) (get_or ms i false)

or_false : (b : Bool) → cond b true false ≡ b
or_false true = refl
or_false false = refl

length_none : (k : ℕ) → length (replicate {A = Bool} k false) ≡ k
length_none zero = refl
length_none (suc k) = ap suc (length_none k)

among : (k : ℕ) (ns : List ℕ) (i : ℕ) → i < k → get_or (marked (replicate k false) ns) i false ≡ is_among i ns
among k ns i h = marked_at (replicate k false) ns i (subst (λ l. i < l) (sym (length_none k)) h)
    ∙ ap (λ b. cond (is_among i ns) true b) (get_or-replicate k i false false h) ∙ or_false (is_among i ns)

pub all_marked : (k : ℕ) (ns : List ℕ) (n : ℕ) (xs : List Ident) → n + length xs ≤ k
    → all_used_by (marked (replicate k false) ns) n xs ≡ all_used n xs ns
all_marked k ns n [] h = refl
all_marked k ns n (x ∷ xs) h = λ j. on_ok (cond (among k ns (number n) (omega (arith, h)) j) (Ok tt)
    (Err (fault.Mismatch x.span Rule.Unused)))
    (λ _. all_marked k ns (suc n) xs (omega (arith, h)) j)

pub whole_marked : (ns : List ℕ) (xs : List Ident) → all_used_by (marked (replicate (length xs) false) ns) 0 xs
    ≡ all_used 0 xs ns
whole_marked ns xs = all_marked (length xs) ns 0 xs (omega arith)
