-- Numbers that are not negative.
use Rattle.std.proofs.Common.{◌≡◌, ℕ, zero, suc, ◌/◌, ◌%◌, pos, true, if◌then◌else◌, refl, ap}
use Rattle.rx_core.specs.declared.types.Kind.{Kind}
use Rattle.rx_tree.specs.declared.tree.BinaryOp.{BinaryOp}
use Rattle.rx_meaning.specs.declared.outcome.Trap.{Trap}
use Rattle.rx_meaning.specs.Values.{number}
use Rattle.rx_meaning.specs.Operators.{is_in, gives, traps, compute}

pub rest_is : (k : Kind) (a b : ℕ) → (b ≡ 0 → ⊥) → is_in k (pos (a / b)) ≡ true → compute BinaryOp.Rem k (pos a) (pos b) ≡ gives (number k (pos (a % b)))
rest_is k a zero h e = absurd (h refl)
rest_is k a (suc b) h e = ap (λ t. if t then gives (number k (pos (a % suc b))) else traps Trap.Overflow) e
