-- References at the outside of types.
use Rattle.std.proofs.Common.{◌≡◌, ℕ, Bool, true, false, List, [], ◌∷◌, Option, Some, None, refl, append_assoc, append-nil}
use Rattle.rx_core.specs.declared.types.Step.{Step}
use Rattle.rx_core.specs.declared.types.Step.TheVariants as step
use Rattle.rx_typed.specs.Types.{Typ, integer, boolean, tuple_of, reference, named}
use Rattle.rx_typed.specs.Elaborated.{coercion, dereference}
use Rattle.rx_typed.specs.declared.declarations.Decls.{Decls}
use Rattle.rx_typed.specs.PlainTypes.{declarations}
use Rattle.rx_typeck_elaborate_parts.specs.declared.assigned.NodeTypes.{NodeTypes}
use Rattle.rx_typeck_elaborate_parts.specs.Assigning.{assigned, shape_of, joined}
use Rattle.rx_typeck_elaborate_parts.specs.Coercing.{reference_of, coercion_of}
use Rattle.std.specs.Prelude.{slice_get}

abbrev dereference_of : Option Bool → List Step
dereference_of (Some m) = step.Deref m ∷ []
dereference_of None = []

pub dereference_is : (t : Typ) → dereference t ≡ dereference_of (reference_of t)
dereference_is (integer k) = refl
dereference_is boolean = refl
dereference_is (tuple_of ts) = refl
dereference_is (reference m t) = refl
dereference_is (named i) = refl

pub coercion_is : (t u : Typ) → coercion t u ≡ coercion_of (reference_of t) (reference_of u)
coercion_is (integer k) u = refl
coercion_is boolean u = refl
coercion_is (tuple_of ts) u = refl
coercion_is (reference false t) u = refl
coercion_is (reference true t) (integer k) = refl
coercion_is (reference true t) boolean = refl
coercion_is (reference true t) (tuple_of ts) = refl
coercion_is (reference true t) (reference true u) = refl
coercion_is (reference true t) (reference false u) = refl
coercion_is (reference true t) (named i) = refl
coercion_is (named i) u = refl

-- ---- what the tables assign

pub items_assigned : (d : Decls) (ts : NodeTypes) → (assigned d ts).items ≡ declarations d.items
unfolding assigned
items_assigned d ts = refl

pub typ_assigned : (d : Decls) (ts : NodeTypes) (n : ℕ) → (assigned d ts).typ n ≡ shape_of (joined (slice_get ts.nodes n))
unfolding assigned
typ_assigned d ts n = refl

pub expected_assigned : (d : Decls) (ts : NodeTypes) (n : ℕ) → (assigned d ts).expected n ≡ shape_of (joined (slice_get ts.expected n))
unfolding assigned
expected_assigned d ts n = refl

pub ruleset list_rules = (append_assoc, append-nil)

pub ruleset assigned_rules = (items_assigned, typ_assigned, expected_assigned)
