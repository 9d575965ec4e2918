-- A type without its lifetimes is the plain type.
use Rattle.std.proofs.Common.{◌≡◌, true, false, List, [], ◌∷◌, ◌++◌, map, refl, sym, ap, ◌∙◌, subst}
use Rattle.rx_core.specs.declared.types.Ty.{Ty, Ty-F, fold-roll-Ty, ind-Ty, roll-Ty, map-Ty}
use Rattle.rx_core.specs.declared.types.Ty.TheOpen as form
use Rattle.rx_typed.specs.declared.declarations.Decl.{Decl}
use Rattle.rx_typed.specs.declared.declarations.Decl.TheVariants as decl
use Rattle.rx_typed.specs.declared.declarations.FieldDecl.{FieldDecl}
use Rattle.rx_typed.specs.declared.declarations.VariantDecl.{VariantDecl}
use Rattle.rx_typed.specs.Types.{Typ, tuple_of, reference, shapes_of}
use Rattle.rx_typed.specs.PlainTypes.{plain-Ty, typ_step, plain-FieldDecl, plain-VariantDecl, plain-Decl}
use Rattle.rx_typed_declarations.specs.Held.{field_types, variant_types, held_types}
use Rattle.rx_typed.specs.Regions.{RegionTyp, regions_of, erased, all_erased, region-Ty, region_step, region_fields}
use Rattle.rx_typed.specs.Regions.{region_variants, held_regions}

abbrev IsErased : Ty → Type 0
IsErased t = erased (region-Ty t) ≡ plain-Ty t

parts_erased : (ts : List ((t : Ty) × IsErased t))
    → all_erased (regions_of (map region-Ty (map (λ e. e.0) ts))) ≡ shapes_of (map plain-Ty (map (λ e. e.0) ts))
parts_erased [] = refl
parts_erased (e ∷ ts) = rw (e.1, parts_erased ts) refl

step_erased : (y : Ty-F ((t : Ty) × IsErased t))
    → erased (region_step (map-Ty Ty RegionTyp region-Ty (map-Ty ((t : Ty) × IsErased t) Ty (λ e. e.0) y)))
    ≡ typ_step (map-Ty Ty Typ plain-Ty (map-Ty ((t : Ty) × IsErased t) Ty (λ e. e.0) y))
step_erased (form.Int k) = refl
step_erased form.Bool = refl
step_erased (form.Tuple ts) = ap tuple_of (parts_erased ts)
step_erased (form.Shared l e) = ap (λ t. reference false t) e.1
step_erased (form.Mut l e) = ap (λ t. reference true t) e.1
step_erased (form.Adt i ls) = refl

rolled : (x : Ty-F Ty) → erased (region_step (map-Ty Ty RegionTyp region-Ty x)) ≡ typ_step (map-Ty Ty Typ plain-Ty x)
    → IsErased (roll-Ty x)
unfolding region-Ty plain-Ty
rolled x h = ap erased (fold-roll-Ty RegionTyp region_step x) ∙ h ∙ sym (fold-roll-Ty Typ typ_step x)

pub is_erased : (t : Ty) → erased (region-Ty t) ≡ plain-Ty t
is_erased =
    ind-Ty IsErased (λ x y is. subst (λ z. IsErased (roll-Ty z)) is
    (rolled (map-Ty ((t : Ty) × IsErased t) Ty (λ e. e.0) y) (step_erased y)))

-- ---- of what items hold

fields_erased : (fs : List FieldDecl)
    → all_erased (regions_of (region_fields fs)) ≡ shapes_of (field_types (map plain-FieldDecl fs))
fields_erased [] = refl
fields_erased (f ∷ fs) = rw (is_erased f.ty, fields_erased fs) refl

types_erased : (ts : List Ty) (rs : List RegionTyp) (us : List Typ) → all_erased (regions_of rs) ≡ shapes_of us
    → all_erased (regions_of (map region-Ty ts ++ rs)) ≡ shapes_of (map plain-Ty ts ++ us)
types_erased [] rs us e = e
types_erased (t ∷ ts) rs us e = rw (is_erased t, types_erased ts rs us e) refl

variants_erased : (vs : List VariantDecl)
    → all_erased (regions_of (region_variants vs)) ≡ shapes_of (variant_types (map plain-VariantDecl vs))
variants_erased [] = refl
variants_erased (v ∷ vs) =
    types_erased v.parts (region_variants vs) (variant_types (map plain-VariantDecl vs)) (variants_erased vs)

pub item_erased : (d : Decl) → all_erased (regions_of (held_regions d)) ≡ shapes_of (held_types (plain-Decl d))
item_erased decl.Rt = refl
item_erased (decl.Struct c l vs fs) = fields_erased fs
item_erased (decl.Enum c l vs ds) = variants_erased ds
item_erased (decl.Func l ps t bs) = refl
