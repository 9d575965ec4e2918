-- The only operand, by whether its field is the first.
use Rattle.std.proofs.Common.{◌≡◌, ℕ, zero, suc, nat_eq, true, false, Option, Some, None, refl, sym, ◌∙◌}
use Rattle.std.proofs.lemmas.Bool.{false≢true}
use Rattle.std.proofs.Math.Dec.{eqb-suc-zero}
use Rattle.rx_typed.specs.Tree.{Exp, no_operand, operand_and}
use Rattle.rx_engine_alike.specs.Leaving.{only_operand}

pub only_first : (i : ℕ) (e : Exp) → nat_eq i 0 ≡ true → only_operand (operand_and i e no_operand) ≡ Some e
only_first zero e h = refl
only_first (suc i) e h = absurd (false≢true (sym (eqb-suc-zero i) ∙ h))

pub only_later : (i : ℕ) (e : Exp) → nat_eq i 0 ≡ false → only_operand (operand_and i e no_operand) ≡ None
only_later zero e h = absurd (false≢true (sym h))
only_later (suc i) e h = refl

pub ruleset leaving_rules = (only_first, only_later)
