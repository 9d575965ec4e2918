-- Prefixes of places, shallow and supporting. (RFC 2094, "Reborrow constraints", for supporting prefixes; "Access legality", for shallow ones.)
use Rattle.std.specs.Prelude.{Bool, true, false, ◌&&◌, List, [], ◌∷◌, length, drop}
use Rattle.rx_core.specs.declared.types.Step.{Step}
use Rattle.rx_core.specs.declared.types.Step.TheVariants as step
use Rattle.rx_typed.specs.Tree.{Place}
use Rattle.rx_typed.specs.TypedPlaces.{is_prefix}

abbrev pub behind : Place → Place → List Step
behind p q = drop (length p.steps) q.steps

-- shallow prefixes strip fields and variants alone
abbrev pub strips_parts : List Step → Bool
strips_parts [] = true
strips_parts (step.Field i ∷ ss) = strips_parts ss
strips_parts (step.Variant v ∷ ss) = strips_parts ss
strips_parts (step.Deref k ∷ ss) = false

-- supporting prefixes strip dereferences too, but for that of a shared reference, at which they stop
abbrev pub strips_unshared : List Step → Bool
strips_unshared [] = true
strips_unshared (step.Field i ∷ ss) = strips_unshared ss
strips_unshared (step.Variant v ∷ ss) = strips_unshared ss
strips_unshared (step.Deref true ∷ ss) = strips_unshared ss
strips_unshared (step.Deref false ∷ ss) = false

abbrev pub is_shallow_prefix : Place → Place → Bool
is_shallow_prefix p q = is_prefix p q && strips_parts (behind p q)

abbrev pub is_supporting_prefix : Place → Place → Bool
is_supporting_prefix p q = is_prefix p q && strips_unshared (behind p q)
