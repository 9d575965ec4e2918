-- What is said of an outcome is said of what it has.
use Rattle.std.proofs.Common.{◌≡◌, Result, Ok, Err, subst}
use Rattle.std.specs.Prelude.{IfOk, IfErr}

pub if_ok : {A E : Type 0} (P : A → Type 0) (r : Result A E) (a : A) → r ≡ Ok a → IfOk r P → P a
if_ok {A} {E} P r a e h = subst (λ (x : Result A E). IfOk x P) e h

pub if_err : {A E : Type 0} (P : E → Type 0) (r : Result A E) (a : E) → r ≡ Err a → IfErr r P → P a
if_err {A} {E} P r a e h = subst (λ (x : Result A E). IfErr x P) e h

pub map_ok : {A E : Type 0} (P Q : A → Type 0) → ((a : A) → P a → Q a) → (r : Result A E) → IfOk r P → IfOk r Q
map_ok P Q f (Ok a) h = f a h
map_ok P Q f (Err e) h = tt

pub map_err : {A E : Type 0} (P Q : E → Type 0) → ((e : E) → P e → Q e) → (r : Result A E) → IfErr r P → IfErr r Q
map_err P Q f (Ok a) h = tt
map_err P Q f (Err e) h = f e h
