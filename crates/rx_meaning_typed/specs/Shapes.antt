-- The shape of the values of a type (Rust Reference, "Types").
use Rattle.std.specs.Prelude.{◌≡◌, ℕ, ℤ, Bool, ◌⊎◌, List}
use Rattle.rx_core.specs.declared.types.Step.{Step}
use Rattle.rx_typed.specs.Types.{Typ, integer, boolean, tuple_of, reference, named, no_shape, shape_and}
use Rattle.rx_meaning.specs.Values.{Value, Values, number, truth, whole, tagged, pointer, unit_value}

abbrev pub HasShape : Typ → Value → Type 0
HasShape (integer k) v = (z : ℤ) × (v ≡ number k z)
HasShape boolean v = (b : Bool) × (v ≡ truth b)
HasShape (tuple_of no_shape) v = v ≡ unit_value
HasShape (tuple_of (shape_and t ts)) v = (vs : Values) × (v ≡ whole vs)
HasShape (reference m t) v = (i : ℕ) × (ps : List Step) × (w : Bool) × (v ≡ pointer i ps w)
-- a struct, an enum
HasShape (named i) v = (vs : Values) × ((v ≡ whole vs) ⊎ ((j : ℕ) × (v ≡ tagged j vs)))
