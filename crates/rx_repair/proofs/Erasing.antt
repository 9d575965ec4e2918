-- What a place and a value are of without their lifetimes: by the types without lifetimes of what they are made of.
use Rattle.std.proofs.Common.{◌≡◌, ℕ, zero, suc, List, [], ◌∷◌, map, Option, Some, None, slice_get, refl, sym, ap, ◌∙◌}
use Rattle.rx_core.specs.declared.types.Kind.{Kind}
use Rattle.rx_core.specs.declared.types.Step.{Step}
use Rattle.rx_core.specs.declared.types.Step.TheVariants as step
use Rattle.rx_core.specs.declared.types.Ty.{Ty}
use Rattle.rx_typed.specs.declared.declarations.Decl.{Decl}
use Rattle.rx_typed.specs.declared.declarations.Decl.TheVariants as decl
use Rattle.rx_typed.specs.declared.declarations.FieldDecl.{FieldDecl}
use Rattle.rx_typed.specs.declared.declarations.VariantDecl.{VariantDecl}
use Rattle.rx_typed.specs.Types.{Shapes, Typ, tuple_of, reference, shape_and, shapes_of, Declared, fields_declared, variants_declared, parts_declared, result_declared}
use Rattle.rx_typed.specs.PlainTypes.{plain-Ty, plain-FieldDecl, plain-VariantDecl, plain-Decl, declarations}
use Rattle.rx_typed.specs.Regions.{RegionTyp, region_integer, region_boolean, region_tuple, region_reference, region_named, RegionTyps, no_region, region_and, regions_of, erased, all_erased, region-Ty, region_fields}
use Rattle.rx_typed.specs.Renaming.{renamed, all_renamed, of_list}
use Rattle.rx_typed.specs.Places as places
use Rattle.rx_typed.specs.Places.{place_type}
use Rattle.rx_typed_declarations.proofs.RegionLemmas.{is_erased}
use Rattle.rx_lower_lifetimes.specs.Values.{result_type}
use Rattle.rx_repair.proofs.Places.{part_at, types_of_fields, part_behind, target_behind, item_behind, behind, along}

-- ---- types

mutual
  renamed_erased : (f : ℕ → ℕ) (t : RegionTyp) → erased (renamed f t) ≡ erased t
  renamed_erased f (region_integer k) = refl
  renamed_erased f region_boolean = refl
  renamed_erased f (region_tuple ts) = ap tuple_of (all_renamed_erased f ts)
  renamed_erased f (region_reference m l t) = ap (reference m) (renamed_erased f t)
  renamed_erased f (region_named i ls) = refl

  all_renamed_erased : (f : ℕ → ℕ) (ts : RegionTyps) → all_erased (all_renamed f ts) ≡ all_erased ts
  all_renamed_erased f no_region = refl
  all_renamed_erased f (region_and t ts) = ap (λ (x : Typ). shape_and x (all_erased (all_renamed f ts))) (renamed_erased f t) ∙ ap (shape_and (erased t)) (all_renamed_erased f ts)

part_erased : (ts : RegionTyps) (i : ℕ) → erased (places.part_at ts i) ≡ part_at (all_erased ts) i
part_erased no_region i = refl
part_erased (region_and t ts) zero = refl
part_erased (region_and t ts) (suc i) = part_erased ts i

fields_erased : (fs : List FieldDecl) → all_erased (regions_of (region_fields fs)) ≡ shapes_of (types_of_fields (map plain-FieldDecl fs))
fields_erased [] = refl
fields_erased (f ∷ fs) = ap (λ (x : Typ). shape_and x (all_erased (regions_of (region_fields fs)))) (is_erased f.ty) ∙ ap (shape_and (plain-Ty f.ty)) (fields_erased fs)

parts_erased : (ts : List Ty) → all_erased (regions_of (map region-Ty ts)) ≡ shapes_of (map plain-Ty ts)
parts_erased [] = refl
parts_erased (t ∷ ts) = ap (λ (x : Typ). shape_and x (all_erased (regions_of (map region-Ty ts)))) (is_erased t) ∙ ap (shape_and (plain-Ty t)) (parts_erased ts)

-- ---- declarations

abbrev pub plain_option : Option Decl → Option Declared
plain_option None = None
plain_option (Some d) = Some (plain-Decl d)

pub plain_at : (D : List Decl) (i : ℕ) → slice_get (declarations D) i ≡ plain_option (slice_get D i)
plain_at [] i = refl
plain_at (d ∷ D) zero = refl
plain_at (d ∷ D) (suc i) = plain_at D i

plain_fields : (o : Option Decl) → all_erased (places.fields_of o) ≡ shapes_of (types_of_fields (fields_declared (plain_option o)))
plain_fields None = refl
plain_fields (Some decl.Rt) = refl
plain_fields (Some (decl.Struct c l vs fs)) = fields_erased fs
plain_fields (Some (decl.Enum c l vs ds)) = refl
plain_fields (Some (decl.Func l ps t bs)) = refl

variant_parts : (ds : List VariantDecl) (v : ℕ) → all_erased (places.parts_of (slice_get ds v)) ≡ shapes_of (parts_declared (slice_get (map plain-VariantDecl ds) v))
variant_parts [] v = refl
variant_parts (d ∷ ds) zero = parts_erased d.parts
variant_parts (d ∷ ds) (suc v) = variant_parts ds v

plain_variant : (o : Option Decl) (v : ℕ) → all_erased (places.variant_of o v) ≡ shapes_of (parts_declared (slice_get (variants_declared (plain_option o)) v))
plain_variant None v = refl
plain_variant (Some decl.Rt) v = refl
plain_variant (Some (decl.Struct c l vs fs)) v = refl
plain_variant (Some (decl.Enum c l vs ds)) v = variant_parts ds v
plain_variant (Some (decl.Func l ps t bs)) v = refl

-- ---- places

item_erased : (o : Option Decl) (ls : List ℕ) (s : Step) → erased (places.item_behind o ls s) ≡ item_behind (plain_option o) s
item_erased o ls (step.Field i) = renamed_erased (of_list ls) (places.part_at (places.fields_of o) i) ∙ (part_erased (places.fields_of o) i ∙ ap (λ (ts : Shapes Kind). part_at ts i) (plain_fields o))
item_erased o ls (step.Variant v) = ap tuple_of (all_renamed_erased (of_list ls) (places.variant_of o v) ∙ plain_variant o v)
item_erased o ls (step.Deref k) = refl

tuple_erased : (ts : RegionTyps) (s : Step) → erased (places.part_behind ts s) ≡ part_behind (all_erased ts) s
tuple_erased ts (step.Field i) = part_erased ts i
tuple_erased ts (step.Variant v) = refl
tuple_erased ts (step.Deref k) = refl

target_erased : (t : RegionTyp) (s : Step) → erased (places.target_behind t s) ≡ target_behind (erased t) s
target_erased t (step.Field i) = refl
target_erased t (step.Variant v) = refl
target_erased t (step.Deref k) = refl

behind_erased : (D : List Decl) (t : RegionTyp) (s : Step) → erased (places.behind D t s) ≡ behind (declarations D) (erased t) s
behind_erased D (region_integer k) s = refl
behind_erased D region_boolean s = refl
behind_erased D (region_tuple ts) s = tuple_erased ts s
behind_erased D (region_reference m l t) s = target_erased t s
behind_erased D (region_named i ls) s = item_erased (slice_get D i) ls s ∙ ap (λ (o : Option Declared). item_behind o s) (sym (plain_at D i))

pub place_erased : (D : List Decl) (t : RegionTyp) (ss : List Step) → erased (place_type D t ss) ≡ along (declarations D) (erased t) ss
place_erased D t [] = refl
place_erased D t (s ∷ ss) = place_erased D (places.behind D t s) ss ∙ ap (λ (u : Typ). along (declarations D) u ss) (behind_erased D t s)

-- ---- values

result_erased : (o : Option Decl) (u : Typ) → result_declared (plain_option o) ≡ Some u → erased (result_type o) ≡ u
result_erased None u e = absurd (cc)
result_erased (Some decl.Rt) u e = absurd (cc)
result_erased (Some (decl.Struct c l vs fs)) u e = absurd (cc)
result_erased (Some (decl.Enum c l vs ds)) u e = absurd (cc)
result_erased (Some (decl.Func l ps t bs)) u e = is_erased t ∙ (let q : plain-Ty t ≡ u = cc in q)

pub call_erased : (D : List Decl) (g : ℕ) (u : Typ) → result_declared (slice_get (declarations D) g) ≡ Some u → erased (result_type (slice_get D g)) ≡ u
call_erased D g u e = result_erased (slice_get D g) u (ap result_declared (sym (plain_at D g)) ∙ e)
