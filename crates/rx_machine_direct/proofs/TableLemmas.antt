-- Tables of slots, and arms one after another.
use Rattle.std.proofs.Common.{◌≡◌, ℕ, zero, suc, ◌+◌, ◌<◌, ◌≤◌, Bool, List, [], ◌∷◌, drop, length, get_or, slice_index_or, Option, None, refl, sym, ap, ◌∙◌, arith}
use Rattle.rx_typed.specs.Tree.{Exp, Pattern, arm_and}
use Rattle.rx_typed.specs.declared.tree.Arm.{Arm}
use Rattle.rx_typed.specs.PlainTree.{plain-Pattern, plain-Expr}
use Rattle.rx_typed.proofs.Rules.{arm_by_parts}
use Rattle.rx_meaning.specs.Values.{Value}
use Rattle.rx_machine_direct.specs.Direct.{recorded, fits, if_fits, picked}
use Rattle.rx_machine_direct.specs.PlainReached.{arms_in}

pub recorded_at : (l : List (Option ℕ)) (x : ℕ) (o : Option ℕ) → x < length l → o ≡ get_or l x o → o ≡ recorded l x
recorded_at [] x o k e = absurd (omega (arith, k))
recorded_at (p ∷ l) zero o k e = e
recorded_at (p ∷ l) (suc x) o k e = recorded_at l x o (omega (arith, k)) e

pub recorded_index : (l : List (Option ℕ)) (x : ℕ) → x < length l → slice_index_or l x None ≡ recorded l x
recorded_index [] x k = absurd (omega (arith, k))
recorded_index (p ∷ l) zero k = refl
recorded_index (p ∷ l) (suc x) k = recorded_index l x (omega (arith, k))

pub recorded_past : (l : List (Option ℕ)) (x : ℕ) → length l ≤ x → None ≡ recorded l x
recorded_past [] x k = refl
recorded_past (p ∷ l) zero k = absurd (omega (arith, k))
recorded_past (p ∷ l) (suc x) k = recorded_past l x (omega (arith, k))

arms_cons : (v : Value) (a : Arm) (l : List Arm) → picked v (arms_in (a ∷ l)) ≡ if_fits (fits v (plain-Pattern a.pattern)) (plain-Expr a.body) (picked v (arms_in l))
arms_cons v a l = ap (λ (q : Pattern × Exp). picked v (arm_and q.0 q.1 (arms_in l))) (arm_by_parts a)

arm_next : (v : Value) (l : List Arm) (i : ℕ) (a : Arm) → i < length l → a ≡ get_or l i a
    → picked v (arms_in (drop i l)) ≡ if_fits (fits v (plain-Pattern a.pattern)) (plain-Expr a.body) (picked v (arms_in (drop (suc i) l)))
arm_next v [] i a k e = absurd (omega (arith, k))
arm_next v (b ∷ l) zero a k e = arms_cons v b l ∙ ap (λ (x : Arm). if_fits (fits v (plain-Pattern x.pattern)) (plain-Expr x.body) (picked v (arms_in l))) (sym e)
arm_next v (b ∷ l) (suc i) a k e = arm_next v l i a (omega (arith, k)) e

-- whether an arm fits, in front of the arms behind it, is all
pub arms_at : (v : Value) (l : List Arm) (i : ℕ) (a : Arm) (b : Option Bool) → i < length l → a ≡ get_or l i a → b ≡ fits v (plain-Pattern a.pattern) → picked v (arms_in (drop i l)) ≡ picked v (arms_in l)
    → if_fits b (plain-Expr a.body) (picked v (arms_in (drop (i + 1) l))) ≡ picked v (arms_in l)
arms_at v l i a b k e h inv =
    let n : i + 1 ≡ suc i = omega arith in
    ap (λ x. if_fits x (plain-Expr a.body) (picked v (arms_in (drop (i + 1) l)))) h
    ∙ ap (λ j. if_fits (fits v (plain-Pattern a.pattern)) (plain-Expr a.body) (picked v (arms_in (drop j l)))) n
    ∙ sym (arm_next v l i a k e) ∙ inv
