-- Whether an expression gives the values of variables in a row: nothing, the value, a tuple, or a variant with them (Rust Reference, "Tuple
-- expressions", "Enumerations"). Where a coercion asks again for the reference that a variable holds, that is its value.
use Rattle.std.specs.Prelude.{ℕ, suc, nat_eq, Bool, true, false, ◌&&◌, List, [], ◌∷◌, Option, Some, None, if◌then◌else◌}
use Rattle.rx_core.specs.declared.types.Step.{Step}
use Rattle.rx_core.specs.declared.types.Step.TheVariants as step
use Rattle.rx_typed.specs.Tree as tree
use Rattle.rx_typed.specs.Tree.{Root, variable, Place, Making, Exp, Operands, Body}
use Rattle.rx_engine_simulation.specs.Sights.{How, special, Sight, Renaming, sight_of}

abbrev pub is_own_at : ℕ → Root → List Step → Bool
is_own_at q (variable y) [] = nat_eq q y
is_own_at q _ _ = false

-- the variable itself
abbrev pub is_own : ℕ → Place → Bool
is_own q p = is_own_at q p.root p.steps

abbrev pub leads_from_at : ℕ → Root → List Step → Bool
leads_from_at q (variable y) (step.Deref n ∷ []) = nat_eq q y
leads_from_at q _ _ = false

-- what the reference in it leads to
abbrev pub leads_from : ℕ → Place → Bool
leads_from q p = leads_from_at q p.root p.steps

abbrev pub takes : ℕ → Exp → Bool
takes q (tree.read m v p) = is_own q p
takes q (tree.borrow m true p) = leads_from q p
takes q _ = false

-- in a row, for fields from this one on
abbrev pub takes_all : ℕ → List ℕ → Operands → Bool
takes_all i [] tree.no_operand = true
takes_all i (q ∷ qs) (tree.operand_and j e es) = nat_eq i j && (takes q e && takes_all (suc i) qs es)
takes_all i _ _ = false

abbrev pub is_unit : Exp → Bool
is_unit (tree.unit m) = true
is_unit _ = false

abbrev pub ends_with_unit : Body → Bool
ends_with_unit (tree.ends e) = is_unit e
ends_with_unit _ = false

abbrev pub gives_nothing : Exp → Bool
gives_nothing (tree.unit m) = true
gives_nothing (tree.block m b) = ends_with_unit b
gives_nothing _ = false

abbrev pub gives_tuple : List ℕ → Exp → Bool
gives_tuple qs (tree.build m tree.tuple es) = takes_all 0 qs es
gives_tuple qs _ = false

-- the values themselves
abbrev pub gives_bare : List ℕ → Exp → Bool
gives_bare [] e = gives_nothing e
gives_bare (q ∷ []) e = takes q e
gives_bare (p ∷ q ∷ qs) e = gives_tuple (p ∷ q ∷ qs) e

-- the variant with them
abbrev pub gives_variant : ℕ → List ℕ → Exp → Bool
gives_variant v qs (tree.build m (tree.variant_of i u) es) = nat_eq v u && takes_all 0 qs es
gives_variant v qs _ = false

-- ---- of variables of the text that are elsewhere: the answer's for them, if each is

abbrev pub is_special : How → Bool
is_special special = true
is_special _ = false

abbrev pub number_if : Option Sight → Option ℕ
number_if None = None
number_if (Some e) = if is_special e.how then Some e.to else None

abbrev pub with_number : Option ℕ → Option (List ℕ) → Option (List ℕ)
with_number (Some z) (Some zs) = Some (z ∷ zs)
with_number _ _ = None

abbrev pub numbers_of : Renaming → List ℕ → Option (List ℕ)
numbers_of R [] = Some []
numbers_of R (x ∷ xs) = with_number (number_if (sight_of R x)) (numbers_of R xs)

abbrev pub if_these : Option (List ℕ) → (List ℕ → Bool) → Bool
if_these None f = false
if_these (Some zs) f = f zs
