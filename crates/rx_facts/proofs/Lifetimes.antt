-- The lifetimes of a function are told by what its declarations are without what is recorded, its tree, the types of its variables
-- and those that its `let`s write: so in two typed programs of one text they are the same.
use Rattle.std.proofs.Common.{◌≡◌, ℕ, ◌+◌, List, [], ◌∷◌, ◌++◌, map, Option, Some, None, option_map, slice_get, refl, sym, ap, ◌∙◌}
use Rattle.std.proofs.lemmas.Option.{slice_get-map}
use Rattle.rx_typed.specs.declared.declarations.Decl.{Decl}
use Rattle.rx_typed.specs.declared.declarations.Decl.TheVariants as decl
use Rattle.rx_typed.specs.Regions.{RegionTyp, region-Ty}
use Rattle.rx_typed.specs.Tree as tree
use Rattle.rx_lower_walks.specs.Actions.{Act, Declare, Dead, Read, Write, Borrow, Test, Call, Build, Input, Print, Give, Action}
use Rattle.rx_lower_walks.specs.Text.{actions_of}
use Rattle.rx_lower_walks.specs.Pieces.{graph}
use Rattle.rx_typed_declarations.specs.Variance.{unrecorded}
use Rattle.rx_typed.specs.Renaming.{Signature, signature_from}
use Rattle.rx_lower_lifetimes.specs.Values.{Open, Held, lifetimes_of, held_by, result_type}
use Rattle.rx_lower_lifetimes.specs.Variables.{Written, open_types}
use Rattle.rx_lower_lifetimes.specs.Numbered as numbered
use Rattle.rx_lower_lifetimes.specs.Numbered.{Own, signed, own_of, all_owned, all_open, all_numbered}
use Rattle.rx_lower_lifetimes.specs.Positions.{own_lifetimes}
use Rattle.rx_lower_lifetimes.specs.Lowered.{Lifetimes, parameters, bounds_of, lifetimes_by, lifetimes}
use Rattle.rx_typeck_typed.specs.declared.typed.TypedFn.{TypedFn}
use Rattle.rx_lower.specs.Functions.{trimmed, written, function}
use Rattle.rx_facts.specs.Functions.{body}
use Rattle.rx_facts.specs.Same.{SameFunction}
use Rattle.rx_facts.proofs.Positions.{plain, unrecorded_option, knowing, all_opened, lifetimes_at, parameters_same, result_same, held_same, own_same, all_own_same, all_opened_is}

bounds_same : (o : Option Decl) → bounds_of (unrecorded_option o) ≡ bounds_of o
bounds_same None = refl
bounds_same (Some decl.Rt) = refl
bounds_same (Some (decl.Struct c l vs fs)) = refl
bounds_same (Some (decl.Enum c l vs ds)) = refl
bounds_same (Some (decl.Func l ps t bs)) = refl

signature_same : (n : ℕ) (o : Option Decl) → signature_from n (unrecorded_option o) ≡ signature_from n o
signature_same n None = refl
signature_same n (Some decl.Rt) = refl
signature_same n (Some (decl.Struct c l vs fs)) = refl
signature_same n (Some (decl.Enum c l vs ds)) = refl
signature_same n (Some (decl.Func l ps t bs)) = refl

own_of_same : (D : List Decl) (n : ℕ) (a : Act) → own_of (plain D) n a ≡ own_of D n a
own_of_same D n (Declare x) = refl
own_of_same D n (Dead x) = refl
own_of_same D n (Read m p d) = refl
own_of_same D n (Write p t ss) = refl
own_of_same D n (Borrow k p d) = refl
own_of_same D n (Test p c) = refl
own_of_same D n (Call f ts d) = ap (λ (o : Option Decl). signed (signature_from n o)) (slice_get-map unrecorded D f) ∙ ap (λ (s : Signature). signed s) (signature_same n (slice_get D f))
own_of_same D n (Build w is ts d) = refl
own_of_same D n (Input d) = refl
own_of_same D n (Print t) = refl
own_of_same D n (Give t) = refl

all_owned_same : (D : List Decl) (n : ℕ) (us : List Action) → all_owned (plain D) n us ≡ all_owned D n us
all_owned_same D n [] = refl
all_owned_same D n (a ∷ us) =
    let more : all_owned (plain D) (n + own_lifetimes (plain D) a.act) us ≡ all_owned D (n + own_lifetimes D a.act) us =
    ap (λ k. all_owned (plain D) (n + k) us) (own_same D a.act) ∙ all_owned_same D (n + own_lifetimes D a.act) us in
    λ j. own_of_same D n a.act j ∷ more j

lifetimes_by_same : (D : List Decl) (i : ℕ) (ps : List tree.Parameter) (V : List Open) (H : List Held) (us : List Action) → lifetimes_by (plain D) i ps V H us ≡ lifetimes_by D i ps V H us
lifetimes_by_same D i ps V H us =
    let vs = V ++ numbered.opened H in
    let own : lifetimes_of (slice_get (plain D) i) ≡ lifetimes_of (slice_get D i) = lifetimes_at D i in
    let owned : all_owned (plain D) (lifetimes_of (slice_get (plain D) i) + all_open vs) us ≡ all_owned D (lifetimes_of (slice_get D i) + all_open vs) us =
    all_owned_same D (lifetimes_of (slice_get (plain D) i) + all_open vs) us ∙ ap (λ k. all_owned D (k + all_open vs) us) own in
    let answer : result_type (slice_get (plain D) i) ≡ result_type (slice_get D i) = ap result_type (slice_get-map unrecorded D i) ∙ result_same (slice_get D i) in
    let bounds : bounds_of (slice_get (plain D) i) ≡ bounds_of (slice_get D i) = ap bounds_of (slice_get-map unrecorded D i) ∙ bounds_same (slice_get D i) in
    λ j. record {
      types = all_numbered (own j) vs;
      temporaries = map (λ (h : Held). h.temporary) H;
      owned = owned j;
      params = map (λ (p : tree.Parameter). p.variable) ps;
      answer = answer j;
      bounds = bounds j;
      own = own j;
      regions = (own j + all_open vs) + all_own_same D us j;
    }

-- ---- of a function

abbrev told_by : List Decl → ℕ → List tree.Parameter → List Action → List Open → Lifetimes
told_by D i ps us V = lifetimes_by D i ps V (held_by (knowing D V) [] us) us

abbrev told_lifetimes : List Decl → ℕ → tree.Function → List (Option RegionTyp) → List Written → Lifetimes
told_lifetimes D i b rs ws = told_by D i b.params (actions_of (graph b)) (all_opened (lifetimes_of (slice_get D i)) b.params (parameters (slice_get D i)) ws 0 rs)

are_told : (D : List Decl) (f : TypedFn)
    → lifetimes (function D f) ≡ told_lifetimes (map unrecorded D) f.item (body f) (map (option_map region-Ty) (trimmed f.variables)) (map written f.annotations)
are_told D f =
    let us = actions_of (graph (body f)) in
    let ps = (body f).params in
    let ws = map written f.annotations in
    let V = open_types (lifetimes_of (slice_get D f.item)) ps (parameters (slice_get D f.item)) ws 0 (trimmed f.variables) in
    let own : lifetimes_of (slice_get (plain D) f.item) ≡ lifetimes_of (slice_get D f.item) = lifetimes_at D f.item in
    let ts : parameters (slice_get (plain D) f.item) ≡ parameters (slice_get D f.item) = ap parameters (slice_get-map unrecorded D f.item) ∙ parameters_same (slice_get D f.item) in
    sym (lifetimes_by_same D f.item ps V (held_by (knowing D V) [] us) us)
    ∙ (ap (λ (H : List Held). lifetimes_by (plain D) f.item ps V H us) (sym (held_same D V us []))
    ∙ (λ j. told_by (plain D) f.item ps us (all_opened_is (sym own j) ps (sym ts j) ws 0 (trimmed f.variables) j)))

pub same_lifetimes : (D E : List Decl) → map unrecorded D ≡ map unrecorded E → (f g : TypedFn) → SameFunction f g → lifetimes (function D f) ≡ lifetimes (function E g)
same_lifetimes D E items f g same =
    are_told D f ∙ ((λ j. told_lifetimes (items j) (same.item j) (same.bodies j) (same.types j) (same.annotated j)) ∙ sym (are_told E g))
