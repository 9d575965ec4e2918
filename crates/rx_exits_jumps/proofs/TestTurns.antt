-- Turns of loops that look for one element, or for one that is otherwise.
use Rattle.std.proofs.Common.{◌≡◌, ℕ, ◌+◌, ◌<◌, Bool, true, false, ◌&&◌, ◌||◌, List, ◌∷◌, map, drop, length, get_or, sym, ap, ◌∙◌}
use Rattle.rx_typed.specs.Tree.{Exp, Pattern}
use Rattle.rx_typed.specs.declared.tree.Arm.{Arm}
use Rattle.rx_typed.specs.declared.tree.Operand.{Operand}
use Rattle.rx_typed.specs.PlainTree.{plain-Expr, plain-Operand, plain-Arm, operands_of, arms_of}
use Rattle.rx_typed.proofs.Rules.{arm_by_parts, operand_by_parts}
use Rattle.rx_exits_plan.specs.Diverging.{diverges, some_diverges, all_diverge}
use Rattle.rx_exits_plan.proofs.Turns.{next_of}
use Rattle.rx_exits_jumps.specs.Broken.{breaks, breaks_in, breaks_armed}

pub or_next : {A : Type 0} (f : List A → Bool) (xs : List A) (i : ℕ) (x : A) (here all : Bool) → i < length xs → x ≡ get_or xs i x
    → f (x ∷ drop (i + 1) xs) ≡ here || f (drop (i + 1) xs) → here ≡ false → f (drop i xs) ≡ all → f (drop (i + 1) xs) ≡ all
or_next f xs i x here all less is split none done = sym (split ∙ ap (λ b. b || f (drop (i + 1) xs)) none) ∙ sym (next_of f xs i x less is) ∙ done

pub or_found : {A : Type 0} (f : List A → Bool) (xs : List A) (i : ℕ) (x : A) (here all : Bool) → i < length xs → x ≡ get_or xs i x
    → f (x ∷ drop (i + 1) xs) ≡ here || f (drop (i + 1) xs) → here ≡ true → f (drop i xs) ≡ all → true ≡ all
or_found f xs i x here all less is split some done = sym (split ∙ ap (λ b. b || f (drop (i + 1) xs)) some) ∙ sym (next_of f xs i x less is) ∙ done

pub and_next : {A : Type 0} (f : List A → Bool) (xs : List A) (i : ℕ) (x : A) (here all : Bool) → i < length xs → x ≡ get_or xs i x
    → f (x ∷ drop (i + 1) xs) ≡ here && f (drop (i + 1) xs) → here ≡ true → f (drop i xs) ≡ all → f (drop (i + 1) xs) ≡ all
and_next f xs i x here all less is split some done = sym (split ∙ ap (λ b. b && f (drop (i + 1) xs)) some) ∙ sym (next_of f xs i x less is) ∙ done

pub and_found : {A : Type 0} (f : List A → Bool) (xs : List A) (i : ℕ) (x : A) (here all : Bool) → i < length xs → x ≡ get_or xs i x
    → f (x ∷ drop (i + 1) xs) ≡ here && f (drop (i + 1) xs) → here ≡ false → f (drop i xs) ≡ all → false ≡ all
and_found f xs i x here all less is split none done = sym (split ∙ ap (λ b. b && f (drop (i + 1) xs)) none) ∙ sym (next_of f xs i x less is) ∙ done

-- ---- one element, in front of the others

pub operand_breaks : (l : ℕ) (x : Operand) (xs : List Operand) → breaks_in l (operands_of (map plain-Operand (x ∷ xs))) ≡ breaks l (plain-Expr x.value) || breaks_in l (operands_of (map plain-Operand xs))
operand_breaks l x xs = ap (λ (q : ℕ × Exp). breaks l q.1 || breaks_in l (operands_of (map plain-Operand xs))) (operand_by_parts x)

pub arm_breaks : (l : ℕ) (x : Arm) (xs : List Arm) → breaks_armed l (arms_of (map plain-Arm (x ∷ xs))) ≡ breaks l (plain-Expr x.body) || breaks_armed l (arms_of (map plain-Arm xs))
arm_breaks l x xs = ap (λ (q : Pattern × Exp). breaks l q.1 || breaks_armed l (arms_of (map plain-Arm xs))) (arm_by_parts x)

pub operand_diverges : (x : Operand) (xs : List Operand) → some_diverges (operands_of (map plain-Operand (x ∷ xs))) ≡ diverges (plain-Expr x.value) || some_diverges (operands_of (map plain-Operand xs))
operand_diverges x xs = ap (λ (q : ℕ × Exp). diverges q.1 || some_diverges (operands_of (map plain-Operand xs))) (operand_by_parts x)

pub arm_diverges : (x : Arm) (xs : List Arm) → all_diverge (arms_of (map plain-Arm (x ∷ xs))) ≡ diverges (plain-Expr x.body) && all_diverge (arms_of (map plain-Arm xs))
arm_diverges x xs = ap (λ (q : Pattern × Exp). diverges q.1 && all_diverge (arms_of (map plain-Arm xs))) (arm_by_parts x)
