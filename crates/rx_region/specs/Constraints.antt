-- What the actions of a function ask of its lifetimes (RFC 2094, "Subtyping", "Reborrow constraints"). A pair says that the set of
-- the first contains that of the second. What differs from RFC 2094: a pair holds at all points and not from one on.
use Rattle.std.specs.Prelude.{ℕ, ◌+◌, ◌-◌, ◌==◌, if◌then◌else◌, Bool, true, false, List, [], ◌∷◌, ◌++◌, map, length, drop, take, Option, Some, None, slice_get, get_or}
use Rattle.rx_core.specs.declared.types.Bound.{Bound}
use Rattle.rx_core.specs.declared.types.Step.{Step}
use Rattle.rx_core.specs.declared.types.Step.TheVariants as step
use Rattle.rx_typed.specs.declared.declarations.Decl.{Decl}
use Rattle.rx_typed.specs.declared.declarations.Polarity.{Polarity}
use Rattle.rx_typed.specs.Regions.{RegionTyp, region_integer, region_boolean, region_tuple, region_reference, region_named, RegionTyps, no_region, region_and, regions_of}
use Rattle.rx_typed.specs.Tree.{Temporary, Root, variable, temporary, Place, Making, constant, negation, inversion, operation, lazy, tuple, struct, variant_of}
use Rattle.rx_typed_declarations.specs.Variance.{variances_recorded}
use Rattle.rx_lower_walks.specs.Actions.{Act, Declare, Dead, Read, Write, Borrow, Test, Call, Build, Input, Print, Give, Action}
use Rattle.rx_region_outlives.specs.Related.{outlives, subtypes}
use Rattle.rx_region_outlives.specs.Implied.{implied_in, implied_among}
use Rattle.rx_typed.specs.Renaming.{Signature, instance, unit_region}
use Rattle.rx_typed.specs.Places.{behind, place_type, part_at, fields_of, variant_of as parts_of_variant}
use Rattle.rx_lower_lifetimes.specs.Values.{same}
use Rattle.rx_lower_lifetimes.specs.Numbered.{Own, none, region, signed}
use Rattle.rx_lower_lifetimes.specs.Lowered.{Lifetimes}

-- what is declared, the pairs of each item's lifetimes that its fields ask, and the lifetimes of the function
pub record Context : Type 0 where
  pub items : List Decl
  pub implied : ℕ → List Bound
  pub lifetimes : Lifetimes

-- ---- types

-- the types of the temporaries stand behind those of the variables; a temporary that no site fills is the unit
abbrev pub temporary_type : List Temporary → List RegionTyp → Temporary → RegionTyp
temporary_type (s ∷ ss) (y ∷ ys) t = if same s t then y else temporary_type ss ys t
temporary_type _ _ t = unit_region

abbrev pub variables_of : Lifetimes → ℕ
variables_of L = length L.types - length L.temporaries

abbrev pub root_type : Lifetimes → Root → RegionTyp
root_type L (variable x) = get_or (take (variables_of L) L.types) x unit_region
root_type L (temporary t) = temporary_type L.temporaries (drop (variables_of L) L.types) t

abbrev pub type_at : Context → Root → List Step → RegionTyp
type_at C r ss = place_type C.items (root_type C.lifetimes r) ss

abbrev pub type_in : Context → Place → RegionTyp
type_in C p = type_at C p.root p.steps

abbrev pub held : Context → Temporary → RegionTyp
held C t = root_type C.lifetimes (temporary t)

-- ---- values that are written where others are wanted

abbrev pub variances : Context → ℕ → List Polarity
variances C i = variances_recorded (slice_get C.items i)

-- a value of the first type where the second is wanted
abbrev pub flows : Context → RegionTyp → RegionTyp → List Bound
flows C t u = subtypes (variances C) t u

-- operands where the parts of these numbers are wanted
abbrev pub parts_flow : Context → RegionTyps → List ℕ → List Temporary → List Bound
parts_flow C us (i ∷ is) (t ∷ ts) = flows C (held C t) (part_at us i) ++ parts_flow C us is ts
parts_flow C us _ _ = []

abbrev pub parameters_flow : Context → RegionTyps → List Temporary → List Bound
parameters_flow C (region_and u us) (t ∷ ts) = flows C (held C t) u ++ parameters_flow C us ts
parameters_flow C _ _ = []

-- the lifetimes of a struct or enum
abbrev pub lifetimes_of : RegionTyp → List ℕ
lifetimes_of (region_named i ls) = ls
lifetimes_of _ = []

abbrev pub tuple_parts : RegionTyp → RegionTyps
tuple_parts (region_tuple ts) = ts
tuple_parts _ = no_region

abbrev mutual
  pub instances : List ℕ → RegionTyps → RegionTyps
  instances ls no_region = no_region
  instances ls (region_and t ts) = region_and (instance ls t) (instances ls ts)

-- the parts of what is made, by the type that it gets
abbrev pub made_parts : List Decl → Making → RegionTyp → RegionTyps
made_parts D tuple t = tuple_parts t
made_parts D (struct i) t = instances (lifetimes_of t) (fields_of (slice_get D i))
made_parts D (variant_of i v) t = instances (lifetimes_of t) (parts_of_variant (slice_get D i) v)
made_parts D _ t = no_region

-- ---- borrows: each reference that the place goes through outlives the borrow, from the last on, up to the first that is shared

-- the supporting prefixes that are dereferences, by the type in front of each step: `stop` says whether some later step goes through
-- a shared reference
abbrev pub goes_shared : List Step → Bool
goes_shared [] = false
goes_shared (step.Deref false ∷ ss) = true
goes_shared (s ∷ ss) = goes_shared ss

abbrev pub through : RegionTyp → ℕ → List Step → List Bound
through (region_reference m l t) r ss = if goes_shared ss then [] else outlives l r ∷ []
through _ r ss = []

abbrev pub reborrows : List Decl → RegionTyp → ℕ → List Step → List Bound
reborrows D t r [] = []
reborrows D t r (step.Deref k ∷ ss) = through t r ss ++ reborrows D (behind D t (step.Deref k)) r ss
reborrows D t r (s ∷ ss) = reborrows D (behind D t s) r ss

-- ---- calls: the signature's bounds, and what its types ask

abbrev pub signature_asks : Context → Signature → List Bound
signature_asks C S = S.bounds ++ (implied_among C.implied S.params ++ implied_in C.implied S.answer)

-- ---- what each action asks, with what its site has of its own

abbrev pub asks : Context → Act → Own → List Bound
asks C (Read m p d) o = flows C (type_in C p) (held C d)
asks C (Write p t ss) o = flows C (type_at C (temporary t) ss) (type_in C p)
asks C (Borrow k p d) (region r) = reborrows C.items (root_type C.lifetimes p.root) r p.steps ++ flows C (region_reference k r (type_in C p)) (held C d)
asks C (Call f ts d) (signed S) = signature_asks C S ++ (parameters_flow C S.params ts ++ flows C S.answer (held C d))
asks C (Build w is ts d) o = parts_flow C (made_parts C.items w (held C d)) is ts
asks C (Give t) o = flows C (held C t) C.lifetimes.answer
asks C _ o = []

abbrev pub all_ask : Context → List Action → List Own → List Bound
all_ask C (a ∷ us) (o ∷ os) = asks C a.act o ++ all_ask C us os
all_ask C _ _ = []

-- ---- types that are formed: of variables and temporaries, but of the parameters not

abbrev pub is_among : ℕ → List ℕ → Bool
is_among x [] = false
is_among x (y ∷ ys) = if x == y then true else is_among x ys

-- the types from a number on
abbrev pub formed : Context → ℕ → List RegionTyp → List Bound
formed C x [] = []
formed C x (t ∷ ts) = (if is_among x C.lifetimes.params then [] else implied_in C.implied t) ++ formed C (x + 1) ts

-- all that is imposed on the lifetimes of a function, by the actions of its sites
abbrev pub imposed : Context → List Action → List Bound
imposed C us = all_ask C us C.lifetimes.owned ++ formed C 0 C.lifetimes.types
