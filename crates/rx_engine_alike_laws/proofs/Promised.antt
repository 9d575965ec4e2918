-- What is promised of what a function gives, if it gives something; and what a test says, if it holds.
use Rattle.std.proofs.Common.{◌≡◌, ℕ, Bool, true, false, not, ◌&&◌, ◌||◌, nat_eq, Option, Some, None, refl, sym, subst, ◌∙◌, eqb-true, eq-eqb}
use Rattle.rx_engine_alike.specs.Likeness.{and_then, if_so, is_none}

pub data Promised {A : Type 0} (P : A → Type 0) : Option A → Type 0 where
  kept : {a : A} → P a → Promised P (Some a)
  nothing : Promised P None

pub data Says (P : Type 0) : Bool → Type 0 where
  says : P → Says P true
  silent : Says P false

pub given : {A : Type 0} {P : A → Type 0} {a : A} (o : Option A) → Promised P o → o ≡ Some a → P a
given {P = P} _ (kept p) e = subst P (some_same e) p
  where
    some_same : {A : Type 0} {a b : A} → Some a ≡ Some b → a ≡ b
    some_same e = cc
given _ nothing e = absurd (none_some e)
  where
    none_some : {A : Type 0} {a : A} → None ≡ Some a → ⊥
    none_some e = cc

pub said : {P : Type 0} (b : Bool) → Says P b → b ≡ true → P
said _ (says p) e = p
said _ silent e = absurd (false_true e)
  where
    false_true : false ≡ true → ⊥
    false_true e = cc

pub map_so : {A : Type 0} {P Q : A → Type 0} {o : Option A} → ((a : A) → P a → Q a) → Promised P o → Promised Q o
map_so f (kept {a = a} p) = kept (f a p)
map_so f nothing = nothing

pub then_so : {A B : Type 0} {P : A → Type 0} {Q : B → Type 0} {o : Option A} {f : A → Option B} → Promised P o → ((a : A) → P a → Promised Q (f a)) → Promised Q (and_then o f)
then_so (kept {a = a} p) g = g a p
then_so nothing g = nothing

pub where_so : {B P : Type 0} {Q : B → Type 0} {b : Bool} {o : Option B} → Says P b → (P → Promised Q o) → Promised Q (if_so b o)
where_so (says p) g = g p
where_so silent g = nothing

-- ---- tests

pub so : {P Q : Type 0} {b : Bool} → (P → Q) → Says P b → Says Q b
so f (says p) = says (f p)
so f silent = silent

pub and_so : {P Q S : Type 0} {a b : Bool} → Says P a → Says Q b → (P → Q → S) → Says S (a && b)
and_so (says p) (says q) f = says (f p q)
and_so (says p) silent f = silent
and_so silent h f = silent

pub and_with : {P Q : Type 0} {a b : Bool} → Says P a → (P → Says Q b) → Says Q (a && b)
and_with (says p) g = g p
and_with silent g = silent

pub or_says : {S : Type 0} {a b : Bool} → Says S a → Says S b → Says S (a || b)
or_says (says p) h = says p
or_says silent h = h

pub equal_so : (i j : ℕ) → Says (i ≡ j) (nat_eq i j)
equal_so i j = by (nat_eq i j) (λ e. eqb-true i j e)
  where
    by : (b : Bool) → (b ≡ true → i ≡ j) → Says (i ≡ j) b
    by true f = says (f refl)
    by false f = silent

pub unequal_so : (i j : ℕ) → Says (i ≡ j → ⊥) (not (nat_eq i j))
unequal_so i j = by (nat_eq i j) (λ e k. true_false (sym (eq-eqb i j k) ∙ e))
  where
    true_false : true ≡ false → ⊥
    true_false e = cc

    by : (b : Bool) → (b ≡ false → i ≡ j → ⊥) → Says (i ≡ j → ⊥) (not b)
    by true f = silent
    by false f = says (f refl)

pub none_so : {A : Type 0} (o : Option A) → Says (o ≡ None) (is_none o)
none_so None = says refl
none_so (Some a) = silent
