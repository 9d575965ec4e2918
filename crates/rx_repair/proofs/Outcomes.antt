-- What is said of an outcome is said of what it has.
use Rattle.std.proofs.Common.{◌≡◌, Result, Ok, sym, subst}
use Rattle.std.specs.Prelude.{IfOk}

pub if_ok : {A E : Type 0} (P : A → Type 0) (r : Result A E) (a b : A) → r ≡ Ok a → b ≡ a → IfOk r P → P b
if_ok {A} {E} P r a b e same h = subst P (sym same) (subst (λ (x : Result A E). IfOk x P) e h)
