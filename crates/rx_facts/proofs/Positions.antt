-- How many lifetime positions a function has is told by what its declarations are without what is recorded, its tree, the types of its
-- variables and those that its `let`s write.
use Rattle.std.proofs.Common.{◌≡◌, ℕ, suc, ◌+◌, List, [], ◌∷◌, map, Option, Some, None, option_map, slice_get, replicate, refl, sym, ap, ◌∙◌}
use Rattle.std.proofs.lemmas.Option.{slice_get-map}
use Rattle.rx_core.specs.declared.types.Ty.{Ty}
use Rattle.rx_core.specs.declared.types.Step.{Step}
use Rattle.rx_core.specs.declared.types.Step.TheVariants as step
use Rattle.rx_typed.specs.declared.declarations.Decl.{Decl}
use Rattle.rx_typed.specs.declared.declarations.Decl.TheVariants as decl
use Rattle.rx_typed.specs.Regions.{RegionTyp, region_integer, region_boolean, region_tuple, region_reference, region_named, RegionTyps, region-Ty}
use Rattle.rx_typed.specs.Tree as tree
use Rattle.rx_typed.specs.Tree.{Parameter, Making, constant, negation, inversion, operation, lazy, tuple, struct, variant_of}
use Rattle.rx_lower_walks.specs.Actions.{Act, Declare, Dead, Read, Write, Borrow, Test, Call, Build, Input, Print, Give, Action, filled}
use Rattle.rx_lower_walks.specs.Text.{actions_of}
use Rattle.rx_lower_walks.specs.Pieces.{graph}
use Rattle.rx_typed_declarations.specs.Variance.{unrecorded}
use Rattle.rx_typed.specs.Renaming.{unit_region, instance}
use Rattle.rx_typed.specs.Places as places
use Rattle.rx_typed.specs.Places.{fields_of, part_at, item_behind, behind, place_type}
use Rattle.rx_lower_lifetimes.specs.Values.{Open, KnownTypes, Held, lifetimes_of, root_type, made_item, made_type, result_type, value_type, hold, held_by, held_type}
use Rattle.rx_lower_lifetimes.specs.Variables.{Written, parameter_type, written_type, told, open_type, open_types}
use Rattle.rx_lower_lifetimes.specs.Positions.{own_lifetimes, all_own, in_variables, in_held, positions}
use Rattle.rx_lower_lifetimes.specs.Lowered.{parameters, known, actions}
use Rattle.rx_typeck_typed.specs.declared.typed.TypedFn.{TypedFn}
use Rattle.rx_lower.specs.Functions.{trimmed, written, function}
use Rattle.rx_facts.specs.Functions.{body}

-- ---- what is recorded counts for nothing

abbrev pub plain : List Decl → List Decl
plain D = map unrecorded D

abbrev pub unrecorded_option : Option Decl → Option Decl
unrecorded_option o = option_map unrecorded o

pub lifetimes_same : (o : Option Decl) → lifetimes_of (unrecorded_option o) ≡ lifetimes_of o
lifetimes_same None = refl
lifetimes_same (Some decl.Rt) = refl
lifetimes_same (Some (decl.Struct c l vs fs)) = refl
lifetimes_same (Some (decl.Enum c l vs ds)) = refl
lifetimes_same (Some (decl.Func l ps t bs)) = refl

pub lifetimes_at : (D : List Decl) (i : ℕ) → lifetimes_of (slice_get (plain D) i) ≡ lifetimes_of (slice_get D i)
lifetimes_at D i = ap lifetimes_of (slice_get-map unrecorded D i) ∙ lifetimes_same (slice_get D i)

pub parameters_same : (o : Option Decl) → parameters (unrecorded_option o) ≡ parameters o
parameters_same None = refl
parameters_same (Some decl.Rt) = refl
parameters_same (Some (decl.Struct c l vs fs)) = refl
parameters_same (Some (decl.Enum c l vs ds)) = refl
parameters_same (Some (decl.Func l ps t bs)) = refl

pub result_same : (o : Option Decl) → result_type (unrecorded_option o) ≡ result_type o
result_same None = refl
result_same (Some decl.Rt) = refl
result_same (Some (decl.Struct c l vs fs)) = refl
result_same (Some (decl.Enum c l vs ds)) = refl
result_same (Some (decl.Func l ps t bs)) = refl

pub fields_same : (o : Option Decl) → fields_of (unrecorded_option o) ≡ fields_of o
fields_same None = refl
fields_same (Some decl.Rt) = refl
fields_same (Some (decl.Struct c l vs fs)) = refl
fields_same (Some (decl.Enum c l vs ds)) = refl
fields_same (Some (decl.Func l ps t bs)) = refl

pub variant_same : (o : Option Decl) (v : ℕ) → places.variant_of (unrecorded_option o) v ≡ places.variant_of o v
variant_same None v = refl
variant_same (Some decl.Rt) v = refl
variant_same (Some (decl.Struct c l vs fs)) v = refl
variant_same (Some (decl.Enum c l vs ds)) v = refl
variant_same (Some (decl.Func l ps t bs)) v = refl

item_behind_same : (o : Option Decl) (ls : List ℕ) (s : Step) → item_behind (unrecorded_option o) ls s ≡ item_behind o ls s
item_behind_same o ls (step.Field i) = ap (λ (ts : RegionTyps). instance ls (part_at ts i)) (fields_same o)
item_behind_same o ls (step.Variant v) = ap (λ (ts : RegionTyps). instance ls (region_tuple ts)) (variant_same o v)
item_behind_same o ls (step.Deref k) = refl

pub behind_same : (D : List Decl) (t : RegionTyp) (s : Step) → behind (plain D) t s ≡ behind D t s
behind_same D (region_integer k) s = refl
behind_same D region_boolean s = refl
behind_same D (region_tuple ts) s = refl
behind_same D (region_reference m l t) s = refl
behind_same D (region_named k ls) s = ap (λ (o : Option Decl). item_behind o ls s) (slice_get-map unrecorded D k) ∙ item_behind_same (slice_get D k) ls s

pub place_same : (D : List Decl) (t : RegionTyp) (ss : List Step) → place_type (plain D) t ss ≡ place_type D t ss
place_same D t [] = refl
place_same D t (s ∷ ss) = ap (λ (x : RegionTyp). place_type (plain D) x ss) (behind_same D t s) ∙ place_same D (behind D t s) ss

made_item_same : (D : List Decl) (i : ℕ) → made_item (plain D) i ≡ made_item D i
made_item_same D i = ap (λ n. region_named i (replicate n 0)) (lifetimes_at D i)

made_same : (D : List Decl) (w : Making) (ts : List RegionTyp) → made_type (plain D) w ts ≡ made_type D w ts
made_same D (constant c) ts = refl
made_same D negation ts = refl
made_same D inversion ts = refl
made_same D (operation o) ts = refl
made_same D lazy ts = refl
made_same D tuple ts = refl
made_same D (struct i) ts = made_item_same D i
made_same D (variant_of i v) ts = made_item_same D i

abbrev pub knowing : List Decl → List Open → KnownTypes
knowing D vs = record { items = D; variables = vs }

value_same : (D : List Decl) (vs : List Open) (H : List Held) (a : Act) → value_type (knowing (plain D) vs) H a ≡ value_type (knowing D vs) H a
value_same D vs H (Declare x) = refl
value_same D vs H (Dead x) = refl
value_same D vs H (Read m p d) = place_same D (root_type (knowing D vs) H p.root) p.steps
value_same D vs H (Write p t ss) = refl
value_same D vs H (Borrow k p d) = ap (region_reference k 0) (place_same D (root_type (knowing D vs) H p.root) p.steps)
value_same D vs H (Test p c) = refl
value_same D vs H (Call f ts d) = ap result_type (slice_get-map unrecorded D f) ∙ result_same (slice_get D f)
value_same D vs H (Build w is ts d) = made_same D w (map (held_type H) ts)
value_same D vs H (Input d) = refl
value_same D vs H (Print t) = refl
value_same D vs H (Give t) = refl

pub held_same : (D : List Decl) (vs : List Open) (us : List Action) (H : List Held) → held_by (knowing (plain D) vs) H us ≡ held_by (knowing D vs) H us
held_same D vs [] H = refl
held_same D vs (a ∷ us) H = ap (λ (t : RegionTyp). held_by (knowing (plain D) vs) (hold H (filled a.act) t) us) (value_same D vs H a.act)
    ∙ held_same D vs us (hold H (filled a.act) (value_type (knowing D vs) H a.act))

pub own_same : (D : List Decl) (a : Act) → own_lifetimes (plain D) a ≡ own_lifetimes D a
own_same D (Declare x) = refl
own_same D (Dead x) = refl
own_same D (Read m p d) = refl
own_same D (Write p t ss) = refl
own_same D (Borrow k p d) = refl
own_same D (Test p c) = refl
own_same D (Call f ts d) = lifetimes_at D f
own_same D (Build w is ts d) = refl
own_same D (Input d) = refl
own_same D (Print t) = refl
own_same D (Give t) = refl

pub all_own_same : (D : List Decl) (us : List Action) → all_own (plain D) us ≡ all_own D us
all_own_same D [] = refl
all_own_same D (a ∷ us) = λ j. own_same D a.act j + all_own_same D us j

positions_same : (D : List Decl) (vs : List Open) (us : List Action) → positions (knowing (plain D) vs) us ≡ positions (knowing D vs) us
positions_same D vs us = λ j. in_variables vs + (in_held (held_same D vs us [] j) + all_own_same D us j)

-- ---- types of variables with the numbers of their lifetimes

abbrev pub known_type : Option RegionTyp → RegionTyp
known_type (Some t) = t
known_type None = unit_region

abbrev pub opened : ℕ → Option RegionTyp → Option RegionTyp → Open
opened own (Some t) r = record { typ = t; from = own }
opened own None r = record { typ = known_type r; from = 0 }

abbrev pub all_opened : ℕ → List Parameter → List Ty → List Written → ℕ → List (Option RegionTyp) → List Open
all_opened own ps ts ws x [] = []
all_opened own ps ts ws x (r ∷ rs) = opened own (told (parameter_type ps ts x) (written_type ws x)) r ∷ all_opened own ps ts ws (suc x) rs

opened_is : (own : ℕ) (o : Option RegionTyp) (r : Option Ty) → open_type own o r ≡ opened own o (option_map region-Ty r)
opened_is own (Some t) r = refl
opened_is own None None = refl
opened_is own None (Some t) = refl

pub all_opened_is : (own : ℕ) (ps : List Parameter) (ts : List Ty) (ws : List Written) (x : ℕ) (rs : List (Option Ty))
    → open_types own ps ts ws x rs ≡ all_opened own ps ts ws x (map (option_map region-Ty) rs)
all_opened_is own ps ts ws x [] = refl
all_opened_is own ps ts ws x (r ∷ rs) = λ j. opened_is own (told (parameter_type ps ts x) (written_type ws x)) r j ∷ all_opened_is own ps ts ws (suc x) rs j

-- ---- of a function

abbrev pub positions_of : List Decl → TypedFn → ℕ
positions_of D f = positions (known (function D f)) (actions (function D f))

abbrev pub counted : List Decl → ℕ → tree.Function → List (Option RegionTyp) → List Written → ℕ
counted D i b rs ws = positions (knowing D (all_opened (lifetimes_of (slice_get D i)) b.params (parameters (slice_get D i)) ws 0 rs)) (actions_of (graph b))

pub is_counted : (D : List Decl) (f : TypedFn)
    → positions_of D f ≡ counted (map unrecorded D) f.item (body f) (map (option_map region-Ty) (trimmed f.variables)) (map written f.annotations)
is_counted D f =
    let us = actions_of (graph (body f)) in
    let ps = (body f).params in
    let ws = map written f.annotations in
    let own : lifetimes_of (slice_get (plain D) f.item) ≡ lifetimes_of (slice_get D f.item) = lifetimes_at D f.item in
    let ts : parameters (slice_get (plain D) f.item) ≡ parameters (slice_get D f.item) = ap parameters (slice_get-map unrecorded D f.item) ∙ parameters_same (slice_get D f.item) in
    sym (positions_same D (open_types (lifetimes_of (slice_get D f.item)) ps (parameters (slice_get D f.item)) ws 0 (trimmed f.variables)) us)
    ∙ (λ j. positions (knowing (plain D) (all_opened_is (sym own j) ps (sym ts j) ws 0 (trimmed f.variables) j)) us)
