-- The value of an answer.
use Rattle.std.proofs.Common.{◌≡◌, Result, Ok, Err, ap}

value_or : {A E : Type 0} → A → Result A E → A
value_or a (Ok x) = x
value_or a (Err e) = a

pub ok_is : {A E : Type 0} (a b : A) → ◌≡◌ {A = Result A E} (Ok a) (Ok b) → a ≡ b
unfolding value_or
ok_is a b h = ap (value_or a) h
