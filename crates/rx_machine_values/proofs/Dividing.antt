-- A division by another number than zero.
use Rattle.std.proofs.Common.{◌≡◌, zero, suc, ℤ, pos, negsuc, refl, if◌then◌else◌}
use Rattle.std.specs.Prelude.{int_div}
use Rattle.rx_core.specs.declared.types.Kind.{Kind}
use Rattle.rx_meaning.specs.declared.outcome.Trap.{Trap}
use Rattle.rx_meaning.specs.Values.{number}
use Rattle.rx_meaning.specs.Operators.{is_in, gives, traps, divided, fitting}

pub divided_other : (k : Kind) (x y z : ℤ) → (y ≡ pos zero → ⊥) → divided k x y z ≡ (if is_in k (int_div x y) then gives (number k z) else traps Trap.Overflow)
divided_other k x (pos zero) z h = absurd (h refl)
divided_other k x (pos (suc n)) z h = refl
divided_other k x (negsuc n) z h = refl

pub quotient_other : (k : Kind) (x y : ℤ) → (y ≡ pos zero → ⊥) → divided k x y (int_div x y) ≡ fitting k (int_div x y)
quotient_other k x y h = divided_other k x y (int_div x y) h
