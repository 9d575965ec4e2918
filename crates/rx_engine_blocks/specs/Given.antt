-- What is given where types are expected: variables and borrows of variables, as arguments of a call or parts of a variant.
use Rattle.std.specs.Prelude.{◌≡◌, ℕ, suc, List, Option, Some, None, slice_get}
use Rattle.rx_typed.specs.declared.nodes.Site.{Site}
use Rattle.rx_typed.specs.Types.{Typ, reference}
use Rattle.rx_typed.specs.Named as named
use Rattle.rx_typed.specs.Named.{Exp, Exps}
use Rattle.rx_typeck_solver.specs.declared.facts.Subject.TheVariants as subject
use Rattle.rx_typeck_solver.specs.Facts.{Assignment, coerced}

-- variables and borrows of variables at coercion sites
abbrev pub IsGiven : Exp → Type 0
IsGiven (named.var n x) = n.site ≡ Site.Expects
IsGiven (named.borrow n m (named.var k x)) = n.site ≡ Site.Expects
IsGiven _ = ⊥

abbrev pub AreGiven : Exps → Type 0
AreGiven named.no_exp = Unit {0}
AreGiven (named.exp_and e es) = IsGiven e × AreGiven es

-- the type of such an expression
abbrev pub given_type : Assignment → Exp → Option Typ
given_type C (named.var n x) = Some (C (subject.Variable x.number))
given_type C (named.borrow n m (named.var k x)) = Some (reference m (C (subject.Variable x.number)))
given_type C _ = None

-- it fits the expected one
abbrev pub FitsType : Option Typ → Typ → Type 0
FitsType None e = Unit {0}
FitsType (Some t) e = coerced t e ≡ t

-- each fits that of its number
abbrev pub EachFits : Assignment → List Typ → ℕ → Exps → Type 0
EachFits C ts k named.no_exp = Unit {0}
EachFits C ts k (named.exp_and e es) = ((t : Typ) → slice_get ts k ≡ Some t → FitsType (given_type C e) t) × EachFits C ts (suc k) es
