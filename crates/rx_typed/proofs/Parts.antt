-- What stands at a number of a list, and behind a step where lifetimes are renamed.
use Rattle.std.proofs.Common.{◌≡◌, ℕ, zero, suc, Bool, false, true, List, [], ◌∷◌, map, slice_get, Option, Some, None, refl, sym, ap, ◌∙◌}
use Rattle.rx_core.specs.declared.types.Step.{Step}
use Rattle.rx_core.specs.declared.types.Step.TheVariants as step
use Rattle.rx_core.specs.declared.types.Ty.{Ty}
use Rattle.rx_core.specs.declared.types.Ty.TheVariants as ty
use Rattle.rx_typed.specs.declared.declarations.Decl.{Decl}
use Rattle.rx_typed.specs.declared.declarations.FieldDecl.{FieldDecl}
use Rattle.rx_typed.specs.Regions.{RegionTyp, region_reference, RegionTyps, no_region, region_and, regions_of, region-Ty, region_fields, region_of_tuple, region_of_shared, region_of_mut}
use Rattle.rx_typed.specs.declared.renaming.Arguments.{Arguments}
use Rattle.rx_typed.specs.declared.places.Form.{Form}
use Rattle.rx_typed.specs.Renaming.{renamed, all_renamed, argument, unit_region}
use Rattle.rx_typed.specs.Places.{part_at, part_behind, target_behind, behind}
use Rattle.rx_typed.specs.Standing.{form_type}

abbrev pub type_of : Option Ty → RegionTyp
type_of None = unit_region
type_of (Some t) = region-Ty t

abbrev pub field_type : Option FieldDecl → RegionTyp
field_type None = unit_region
field_type (Some f) = region-Ty f.ty

pub part_there : (ts : List Ty) (n : ℕ) → part_at (regions_of (map region-Ty ts)) n ≡ type_of (slice_get ts n)
part_there [] n = refl
part_there (t ∷ ts) zero = refl
part_there (t ∷ ts) (suc n) = part_there ts n

pub field_there : (fs : List FieldDecl) (n : ℕ) → part_at (regions_of (region_fields fs)) n ≡ field_type (slice_get fs n)
field_there [] n = refl
field_there (f ∷ fs) zero = refl
field_there (f ∷ fs) (suc n) = field_there fs n

part_renamed : (f : ℕ → ℕ) (ts : RegionTyps) (n : ℕ) → renamed f (part_at ts n) ≡ part_at (all_renamed f ts) n
part_renamed f no_region n = refl
part_renamed f (region_and t ts) zero = refl
part_renamed f (region_and t ts) (suc n) = part_renamed f ts n

part_behind_renamed : (f : ℕ → ℕ) (ts : RegionTyps) (s : Step) → renamed f (part_behind ts s) ≡ part_behind (all_renamed f ts) s
part_behind_renamed f ts (step.Field i) = part_renamed f ts i
part_behind_renamed f ts (step.Variant v) = refl
part_behind_renamed f ts (step.Deref k) = refl

target_behind_renamed : (f : ℕ → ℕ) (t : RegionTyp) (s : Step) → renamed f (target_behind t s) ≡ target_behind (renamed f t) s
target_behind_renamed f t (step.Field i) = refl
target_behind_renamed f t (step.Variant v) = refl
target_behind_renamed f t (step.Deref k) = refl

-- with the arguments copied
pub parts_arm : (A B : Arguments) (ts : RegionTyps) (form : Form) (s : Step) → B ≡ A → form_type form ≡ part_behind ts s
    → renamed (argument B) (form_type form) ≡ part_behind (all_renamed (argument A) ts) s
parts_arm A B ts form s copied is =
    ap (λ C. renamed (argument C) (form_type form)) copied ∙ ap (renamed (argument A)) is ∙ part_behind_renamed (argument A) ts s

pub tuple_arm : (D : List Decl) (A B : Arguments) (t : Ty) (parts : List Ty) (form : Form) (s : Step) → t ≡ ty.Tuple parts → B ≡ A
    → form_type form ≡ part_behind (regions_of (map region-Ty parts)) s
    → renamed (argument B) (form_type form) ≡ behind D (renamed (argument A) (region-Ty t)) s
tuple_arm D A B t parts form s t_is copied is =
    parts_arm A B (regions_of (map region-Ty parts)) form s copied is
    ∙ sym (ap (λ r. behind D (renamed (argument A) r) s) (ap region-Ty t_is ∙ region_of_tuple parts))

reference_arm : (D : List Decl) (A B : Arguments) (t : RegionTyp) (m : Bool) (l : ℕ) (u : RegionTyp) (form : Form) (s : Step) → t ≡ region_reference m l u → B ≡ A
    → form_type form ≡ target_behind u s → renamed (argument B) (form_type form) ≡ behind D (renamed (argument A) t) s
reference_arm D A B t m l u form s t_is copied is =
    ap (λ C. renamed (argument C) (form_type form)) copied ∙ ap (renamed (argument A)) is ∙ target_behind_renamed (argument A) u s
    ∙ sym (ap (λ r. behind D (renamed (argument A) r) s) t_is)

pub shared_arm : (D : List Decl) (A B : Arguments) (t : Ty) (l : ℕ) (inner inner_there : Ty) (form : Form) (s : Step) → t ≡ ty.Shared l inner → B ≡ A → inner_there ≡ inner
    → form_type form ≡ target_behind (region-Ty inner_there) s → renamed (argument B) (form_type form) ≡ behind D (renamed (argument A) (region-Ty t)) s
shared_arm D A B t l inner inner_there form s t_is copied there is =
    reference_arm D A B (region-Ty t) false l (region-Ty inner) form s (ap region-Ty t_is ∙ region_of_shared l inner) copied (is ∙ ap (λ u. target_behind (region-Ty u) s) there)

pub mut_arm : (D : List Decl) (A B : Arguments) (t : Ty) (l : ℕ) (inner inner_there : Ty) (form : Form) (s : Step) → t ≡ ty.Mut l inner → B ≡ A → inner_there ≡ inner
    → form_type form ≡ target_behind (region-Ty inner_there) s → renamed (argument B) (form_type form) ≡ behind D (renamed (argument A) (region-Ty t)) s
mut_arm D A B t l inner inner_there form s t_is copied there is =
    reference_arm D A B (region-Ty t) true l (region-Ty inner) form s (ap region-Ty t_is ∙ region_of_mut l inner) copied (is ∙ ap (λ u. target_behind (region-Ty u) s) there)
