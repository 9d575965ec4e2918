-- Where types stand, as reading tells it.
use Rattle.std.proofs.Common.{◌≡◌, ℕ, List, [], ◌∷◌, Option, Some, None, refl}
use Rattle.rx_tree.specs.Plain.{TypeTree, Parameter, ProgramTree}
use Rattle.rx_resolve_names.specs.declared.resolved.NodeNames.{NodeNames}
use Rattle.rx_typeck_typed.specs.Steps.{Reading, gives, in_front}
use Rattle.rx_typeck_typed.specs.Written.{elided, type_of}
use Rattle.rx_typeck_typed.specs.Items.{begins, parameters_of, the_only, answer_of}
use Rattle.rx_typeck_typed.specs.Lets.{read, let_type}
use Rattle.rx_compact_types.specs.Positions.{Standing, as_parameter, as_result, as_let}

abbrev domain : {R S : Type 0} → (R → S) → Type 0
domain {R} {S} f = R

-- what `elided` reads
abbrev pub Role : Type 0
Role = domain elided

abbrev pub reading : List NodeNames → List ℕ → ℕ → Reading
reading ns ls k = record { names = ns; lifetimes = ls; next = k }

abbrev of_parameters : (F : Role) × ((p : ProgramTree) (x : Parameter) → parameters_of p (x ∷ []) ≡ in_front (type_of p F x.typ) (gives []))
of_parameters = (_, λ p x. refl)

abbrev with_one : (F : ℕ → Role) × ((p : ProgramTree) (y : TypeTree) (n k : ℕ) (ns : List NodeNames) → answer_of p (Some y) (reading ns (n ∷ []) k) ≡ type_of p (F n) y (reading ns (n ∷ []) k))
with_one = (λ n. _, λ p y n k ns. refl)

abbrev with_none : (F : Role) × ((p : ProgramTree) (y : TypeTree) (k : ℕ) (ns : List NodeNames) → answer_of p (Some y) (reading ns [] k) ≡ type_of p F y (reading ns [] k))
with_none = (_, λ p y k ns. refl)

abbrev of_lets : (F : ℕ → Role) × ((p : ProgramTree) (free : ℕ) (y : TypeTree) (ns : List NodeNames) → let_type p free y ns ≡ read (type_of p (F free) y (begins ns free)))
of_lets = (λ l. _, λ p free y ns. refl)

abbrev pub role_of : Standing → Role
role_of as_parameter = of_parameters.0
role_of (as_result None) = with_none.0
role_of (as_result (Some l)) = with_one.0 l
role_of (as_let l) = of_lets.0 l

pub answer_is : (p : ProgramTree) (y : TypeTree) (ns : List NodeNames) (ls : List ℕ) (k : ℕ) (o : Option ℕ) → the_only ls ≡ o → answer_of p (Some y) (reading ns ls k) ≡ type_of p (role_of (as_result o)) y (reading ns ls k)
answer_is p y ns ls k None e = cc
answer_is p y ns ls k (Some n) e = cc
