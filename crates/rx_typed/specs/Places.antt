-- The types of places, with their lifetimes (Rust Reference, "Place expressions"; RFC 2094, "Reborrow constraints", speaks of
-- the references that a place goes through).
use Rattle.std.specs.Prelude.{ℕ, zero, suc, List, [], ◌∷◌, map, Option, Some, slice_get}
use Rattle.rx_core.specs.declared.types.Step.{Step}
use Rattle.rx_core.specs.declared.types.Step.TheVariants as step
use Rattle.rx_typed.specs.declared.declarations.Decl.{Decl}
use Rattle.rx_typed.specs.declared.declarations.Decl.TheVariants as decl
use Rattle.rx_typed.specs.declared.declarations.VariantDecl.{VariantDecl}
use Rattle.rx_typed.specs.Regions.{RegionTyp, region_integer, region_boolean, region_tuple, region_reference, region_named, RegionTyps, no_region, region_and, regions_of, region-Ty, region_fields}
use Rattle.rx_typed.specs.Renaming.{instance, unit_region}

-- the type of this number, the unit where there is none
abbrev pub part_at : RegionTyps → ℕ → RegionTyp
part_at no_region i = unit_region
part_at (region_and t ts) zero = t
part_at (region_and t ts) (suc i) = part_at ts i

-- the types of a struct's fields, and of the parts of an enum's variant, with the lifetimes that the item declares
abbrev pub fields_of : Option Decl → RegionTyps
fields_of (Some (decl.Struct c l vs fs)) = regions_of (region_fields fs)
fields_of _ = no_region

abbrev pub parts_of : Option VariantDecl → RegionTyps
parts_of (Some v) = regions_of (map region-Ty v.parts)
parts_of _ = no_region

abbrev pub variant_of : Option Decl → ℕ → RegionTyps
variant_of (Some (decl.Enum c l vs ds)) v = parts_of (slice_get ds v)
variant_of _ v = no_region

-- behind a step from what has parts, and from a reference to this type; a step that leads nowhere leads to the unit
abbrev pub part_behind : RegionTyps → Step → RegionTyp
part_behind ts (step.Field i) = part_at ts i
part_behind ts s = unit_region

abbrev pub target_behind : RegionTyp → Step → RegionTyp
target_behind t (step.Deref k) = t
target_behind t s = unit_region

-- behind one from a struct or enum with these lifetimes; after that to a variant stand the variant's parts
abbrev pub item_behind : Option Decl → List ℕ → Step → RegionTyp
item_behind d ls (step.Field i) = instance ls (part_at (fields_of d) i)
item_behind d ls (step.Variant v) = instance ls (region_tuple (variant_of d v))
item_behind d ls (step.Deref k) = unit_region

abbrev pub behind : List Decl → RegionTyp → Step → RegionTyp
behind D (region_integer k) s = unit_region
behind D region_boolean s = unit_region
behind D (region_tuple ts) s = part_behind ts s
behind D (region_reference m l t) s = target_behind t s
behind D (region_named k ls) s = item_behind (slice_get D k) ls s

-- the type of a place, by the type of its variable or temporary
abbrev pub place_type : List Decl → RegionTyp → List Step → RegionTyp
place_type D t [] = t
place_type D t (s ∷ ss) = place_type D (behind D t s) ss
