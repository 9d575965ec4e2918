-- Where variables and temporaries stand, and the parts of what is made.
use Rattle.std.proofs.Common.{◌≡◌, ℕ, zero, suc, ◌+◌, ◌-◌, ◌<◌, ◌≤◌, ◌==◌, ◌&&◌, Bool, true, false, if◌then◌else◌, List, [], ◌∷◌, map, drop, take, length, slice_get, get_or, Option, Some, None, refl, ap, ◌∙◌, arith}
use Rattle.std.proofs.lemmas.Bool.Decides.{Decides-eqb}
use Rattle.rx_core.specs.declared.types.Ty.{Ty}
use Rattle.rx_typed.specs.declared.declarations.Decl.{Decl}
use Rattle.rx_typed.specs.declared.declarations.FieldDecl.{FieldDecl}
use Rattle.rx_typed.specs.Regions.{RegionTyp, region_integer, region_boolean, region_tuple, region_reference, region_named, RegionTyps, no_region, region_and, regions_of, region-Ty, region_fields}
use Rattle.rx_lower_walks.specs.declared.actions.Temporary as code
use Rattle.rx_lower_walks.specs.PlainFlow.{plain-Temporary}
use Rattle.rx_typed.specs.declared.renaming.Arguments.{Arguments}
use Rattle.rx_typed.specs.Places.{part_at}
use Rattle.rx_region.specs.declared.made.Parts.{Parts}
use Rattle.rx_typed.specs.Tree.{Temporary, Making, constant, negation, inversion, operation, lazy, tuple, struct, variant_of}
use Rattle.rx_typed.specs.Renaming.{renamed, all_renamed, argument, of_list, unit_region}
use Rattle.rx_lower_lifetimes.specs.Values.{same, type_found}
use Rattle.rx_region.specs.Constraints.{temporary_type, made_parts, instances}
use Rattle.rx_region.specs.Steps.{place_among, declared_parts, arguments_for, regions_in}

-- those before a place, of which none has its node
pub skipped : (ts : List code.Temporary) (t : code.Temporary) (k : ℕ) → k ≤ length ts → ((i : ℕ) (s : code.Temporary) → i < k → slice_get ts i ≡ Some s → s.node ≡ t.node → ⊥)
    → k + place_among (map plain-Temporary (drop k ts)) (plain-Temporary t) ≡ place_among (map plain-Temporary ts) (plain-Temporary t)
skipped ts t zero within none = omega arith
skipped [] t (suc k) within none = absurd (omega (arith, within))
skipped (s ∷ ts) t (suc k) within none = go (s.node == t.node) refl (skipped ts t k (omega (arith, within)) (λ i r less. none (suc i) r (omega (arith, less))))
  where
    go : (b : Bool) → (s.node == t.node) ≡ b → k + place_among (map plain-Temporary (drop k ts)) (plain-Temporary t) ≡ place_among (map plain-Temporary ts) (plain-Temporary t)
        → suc k + place_among (map plain-Temporary (drop k ts)) (plain-Temporary t) ≡ (if b && (s.which == t.which) then 0 else suc (place_among (map plain-Temporary ts) (plain-Temporary t)))
    go true e rest = absurd (none zero s (omega arith) refl ((Decides-eqb s.node t.node).0 e))
    go false e rest = omega (arith, rest)

pub length_types : (ts : List Ty) → length (map region-Ty ts) ≡ length ts
length_types [] = refl
length_types (t ∷ ts) = ap suc (length_types ts)

pub type_there : (ts : List Ty) (x : ℕ) → get_or (map region-Ty ts) x unit_region ≡ type_found (slice_get ts x)
type_there [] x = refl
type_there (t ∷ ts) zero = refl
type_there (t ∷ ts) (suc x) = type_there ts x

pub nothing_there : (ts : List Ty) (n : ℕ) → length ts ≤ n → unit_region ≡ type_found (slice_get ts n)
nothing_there [] n h = refl
nothing_there (t ∷ ts) zero h = absurd (omega (arith, h))
nothing_there (t ∷ ts) (suc n) h = nothing_there ts n (omega (arith, h))

pub variable_there : (ts : List Ty) (v x : ℕ) → x < v → type_found (slice_get ts x) ≡ get_or (take v (map region-Ty ts)) x unit_region
variable_there ts zero x h = absurd (omega (arith, h))
variable_there [] (suc v) x h = refl
variable_there (t ∷ ts) (suc v) zero h = refl
variable_there (t ∷ ts) (suc v) (suc x) h = variable_there ts v x (omega (arith, h))

pub variable_past : (ts : List RegionTyp) (v x : ℕ) → v ≤ x → unit_region ≡ get_or (take v ts) x unit_region
variable_past ts zero x h = refl
variable_past [] (suc v) x h = refl
variable_past (t ∷ ts) (suc v) zero h = absurd (omega (arith, h))
variable_past (t ∷ ts) (suc v) (suc x) h = variable_past ts v x (omega (arith, h))

sum_next : (v n : ℕ) → suc v + n ≡ suc (v + n)
sum_next v n = omega arith

pub get_behind : (ts : List Ty) (v n : ℕ) → slice_get ts (v + n) ≡ slice_get (drop v ts) n
get_behind ts zero n = ap (slice_get ts) (omega arith)
get_behind [] (suc v) n = refl
get_behind (t ∷ ts) (suc v) n = ap (slice_get (t ∷ ts)) (sum_next v n) ∙ get_behind ts v n

map_behind : (ts : List Ty) (v : ℕ) → map region-Ty (drop v ts) ≡ drop v (map region-Ty ts)
map_behind ts zero = refl
map_behind [] (suc v) = refl
map_behind (t ∷ ts) (suc v) = map_behind ts v

length_behind : (ts : List Ty) (v : ℕ) → length (drop v ts) ≡ length ts - v
length_behind ts zero = omega arith
length_behind [] (suc v) = omega arith
length_behind (t ∷ ts) (suc v) = let rest = length_behind ts v in omega (arith, rest)

among : (ss : List Temporary) (ys : List Ty) (t : Temporary) → length ys ≤ length ss → type_found (slice_get ys (place_among ss t)) ≡ temporary_type ss (map region-Ty ys) t
among [] [] t h = refl
among [] (y ∷ ys) t h = absurd (omega (arith, h))
among (s ∷ ss) [] t h = refl
among (s ∷ ss) (y ∷ ys) t h = go (same s t) (among ss ys t (omega (arith, h)))
  where
    go : (b : Bool) → type_found (slice_get ys (place_among ss t)) ≡ temporary_type ss (map region-Ty ys) t
        → type_found (slice_get (y ∷ ys) (if b then 0 else suc (place_among ss t))) ≡ (if b then region-Ty y else temporary_type ss (map region-Ty ys) t)
    go true e = refl
    go false e = e

pub temporary_there : (ts : List Ty) (ss : List Temporary) (t : Temporary) (v : ℕ) → v ≡ length (map region-Ty ts) - length ss
    → type_found (slice_get ts (v + place_among ss t)) ≡ temporary_type ss (drop v (map region-Ty ts)) t
temporary_there ts ss t v is =
    ap type_found (get_behind ts v (place_among ss t))
    ∙ among ss (drop v ts) t (omega (arith, length_behind ts v, length_types ts, is))
    ∙ ap (λ ys. temporary_type ss ys t) (map_behind ts v)

pub temporary_at : (ts us : List Ty) (ss rs : List code.Temporary) (t : Temporary) (v n : ℕ) (o : RegionTyp) → o ≡ type_found (slice_get us (v + n)) → us ≡ ts
    → n ≡ place_among (map plain-Temporary rs) t → rs ≡ ss → v ≡ length (map region-Ty ts) - length (map plain-Temporary ss)
    → o ≡ temporary_type (map plain-Temporary ss) (drop (length (map region-Ty ts) - length (map plain-Temporary ss)) (map region-Ty ts)) t
temporary_at ts us ss rs t v n o e u m r is =
    e ∙ ap (λ l. type_found (slice_get l (v + n))) u
    ∙ ap (λ k. type_found (slice_get ts (v + k))) (m ∙ ap (λ l. place_among (map plain-Temporary l) t) r)
    ∙ temporary_there ts (map plain-Temporary ss) t v is
    ∙ ap (λ w. temporary_type (map plain-Temporary ss) (drop w (map region-Ty ts)) t) is

-- ---- the parts of what is made

pub part_found : (ts : List Ty) (n : ℕ) → part_at (regions_of (map region-Ty ts)) n ≡ type_found (slice_get ts n)
part_found [] n = refl
part_found (t ∷ ts) zero = refl
part_found (t ∷ ts) (suc n) = part_found ts n

abbrev pub field_type : Option FieldDecl → RegionTyp
field_type None = unit_region
field_type (Some f) = region-Ty f.ty

pub field_found : (fs : List FieldDecl) (n : ℕ) → part_at (regions_of (region_fields fs)) n ≡ field_type (slice_get fs n)
field_found [] n = refl
field_found (f ∷ fs) zero = refl
field_found (f ∷ fs) (suc n) = field_found fs n

own_type : (ls : List ℕ) (l : ℕ) → argument (record { own = true; list = ls }) l ≡ l
own_type ls l = refl

own_list : (ls ks : List ℕ) → map (argument (record { own = true; list = ls })) ks ≡ ks
own_list ls [] = refl
own_list ls (k ∷ ks) = ap (λ r. k ∷ r) (own_list ls ks)

mutual
  itself : (ls : List ℕ) (t : RegionTyp) → renamed (argument (record { own = true; list = ls })) t ≡ t
  itself ls (region_integer k) = refl
  itself ls region_boolean = refl
  itself ls (region_tuple ts) = ap region_tuple (all_itself ls ts)
  itself ls (region_reference m l t) = ap (region_reference m l) (itself ls t)
  itself ls (region_named i ks) = ap (region_named i) (own_list ls ks)

  all_itself : (ls : List ℕ) (ts : RegionTyps) → all_renamed (argument (record { own = true; list = ls })) ts ≡ ts
  all_itself ls no_region = refl
  all_itself ls (region_and t ts) = ap (λ u. region_and u (all_renamed (argument (record { own = true; list = ls })) ts)) (itself ls t) ∙ ap (region_and t) (all_itself ls ts)

instances_are : (ls : List ℕ) (ts : RegionTyps) → all_renamed (argument (record { own = false; list = ls })) ts ≡ instances ls ts
instances_are ls no_region = refl
instances_are ls (region_and t ts) = ap (region_and (renamed (of_list ls) t)) (instances_are ls ts)

pub made_of : (D : List Decl) (w : Making) (t : RegionTyp) → all_renamed (argument (arguments_for w t)) (declared_parts D w t) ≡ made_parts D w t
made_of D (constant c) t = refl
made_of D negation t = refl
made_of D inversion t = refl
made_of D (operation o) t = refl
made_of D lazy t = refl
made_of D tuple t = all_itself [] _
made_of D (struct i) t = instances_are _ _
made_of D (variant_of i v) t = instances_are _ _

pub made_from : (D : List Decl) (w : Making) (t : RegionTyp) (A : Arguments) (P : Parts) → A ≡ arguments_for w t → regions_in P ≡ declared_parts D w t
    → all_renamed (argument A) (regions_in P) ≡ made_parts D w t
made_from D w t A P e f = ap (λ B. all_renamed (argument B) (regions_in P)) e ∙ ap (all_renamed (argument (arguments_for w t))) f ∙ made_of D w t
