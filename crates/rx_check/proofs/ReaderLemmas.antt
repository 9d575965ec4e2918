-- The function of an item, by its place among all.
use Rattle.std.proofs.Common.{◌≡◌, ℕ, zero, suc, ◌+◌, ◌<◌, ◌==◌, if◌then◌else◌, List, [], ◌∷◌, length, drop, get_or, Option, Some, None, slice_get, unwrap_or, map, option_map, refl, sym, ap, ◌∙◌, subst, arith, true≢false}
use Rattle.std.specs.Option.{IsSome}
use Rattle.std.proofs.lemmas.Option.{slice_get_within, slice_get_read}
use Rattle.std.proofs.lemmas.List.{drop_more}
use Rattle.std.proofs.lemmas.Bool.Decides.{Decides-eqb}
use Rattle.rx_core.specs.declared.types.Ty.{Ty}
use Rattle.rx_typed.specs.declared.declarations.Decl.{Decl}
use Rattle.rx_typed.specs.Types.{Typ, Declarations}
use Rattle.rx_typed.specs.PlainTypes.{plain-Ty, declarations}
use Rattle.rx_typed_declarations.specs.Sizes.{told}
use Rattle.rx_typeck_typed.specs.declared.typed.TypedFn.{TypedFn}
use Rattle.rx_lower.specs.Functions.{function_at, trimmed}
use Rattle.rx_facts_tables.specs.Places.{Frame}
use Rattle.rx_facts.specs.Functions.{IsTypedProgram, frame_of}
use Rattle.rx_facts.specs.Passing.{Each}
use Rattle.rx_facts.proofs.Passing.{as_long, each_at}
use Rattle.rx_check.specs.Front.{Front, IsFronted}

pub found_here : (fs : List TypedFn) (i n : ℕ) (g : TypedFn) → i < length fs → g ≡ get_or fs i g → (get_or fs i g).item ≡ n → function_at (drop i fs) n ≡ function_at fs n → (f : TypedFn) → function_at fs n ≡ Some f
    → slice_get fs i ≡ Some f
found_here fs i n g less is item same f found =
    let front : function_at (drop i fs) n ≡ (if g.item == n then Some g else function_at (drop (i + 1) fs) n) =
    ap (λ (l : List TypedFn). function_at l n) (drop_more fs i g less) ∙ ap (λ (h : TypedFn). function_at (h ∷ drop (i + 1) fs) n) (sym is) in
    let here : (if g.item == n then Some g else function_at (drop (i + 1) fs) n) ≡ Some g =
    ap (λ b. if b then Some g else function_at (drop (i + 1) fs) n) ((Decides-eqb g.item n).1 (ap (λ (h : TypedFn). h.item) is ∙ item)) in
    slice_get_read fs (length fs) i g refl less is ∙ (sym here ∙ (sym front ∙ (same ∙ found)))

pub some_found : (fs : List TypedFn) (n : ℕ) → IsSome (function_at fs n) → (f : TypedFn) × (function_at fs n ≡ Some f)
some_found fs n h = by (function_at fs n) h
  where
    by : (o : Option TypedFn) → IsSome o → (f : TypedFn) × (o ≡ Some f)
    by (Some f) h = (f, refl)
    by None h = absurd (true≢false (sym h))

-- its place is within
pub place_within : (fs : List TypedFn) (n i : ℕ) → IsSome (function_at fs n) → ((f : TypedFn) → function_at fs n ≡ Some f → slice_get fs i ≡ Some f) → i < length fs
place_within fs n i some place = let f = some_found fs n some in slice_get_within fs i f.0 (place f.0 f.1)

got : {A : Type 0} (xs : List A) (i : ℕ) (a d : A) → slice_get xs i ≡ Some a → get_or xs i d ≡ a
got [] i a d e = absurd (cc)
got (x ∷ xs) zero a d e = cc
got (x ∷ xs) (suc i) a d e = got xs i a d e

-- what holds of each holds of it: by what a reader has at hand, which is the lists themselves
module _ {B : Type 0} (Holds : TypedFn → B → Type 0) (fs ss : List TypedFn) (bs cs : List B) (n i : ℕ) (same : ss ≡ fs) (items : cs ≡ bs) (each : Each Holds fs bs)
    (some : IsSome (function_at fs n)) (place : (f : TypedFn) → function_at ss n ≡ Some f → slice_get ss i ≡ Some f) where
  there : (f : TypedFn) → function_at fs n ≡ Some f → slice_get fs i ≡ Some f
  there = subst (λ (l : List TypedFn). (f : TypedFn) → function_at l n ≡ Some f → slice_get l i ≡ Some f) same place

  pub within : i < length cs
  within = omega (arith, place_within fs n i some there, as_long Holds fs bs each, ap (λ (l : List B). length l) items)

  pub reads : (b : B) (f : TypedFn) → function_at fs n ≡ Some f → Holds f (get_or cs i b)
  reads b f is =
      subst (λ (l : List B). Holds f (get_or l i b)) (sym items)
      (subst (λ (g : TypedFn). Holds g (get_or bs i b)) (got fs i f f (there f is)) (each_at Holds fs bs each i f b (slice_get_within fs i f (there f is))))

-- the function itself
module _ (fs ss ts : List TypedFn) (n i : ℕ) (same : ss ≡ fs) (again : ts ≡ fs) (some : IsSome (function_at fs n)) (place : (f : TypedFn) → function_at ss n ≡ Some f → slice_get ss i ≡ Some f) where
  placed : (f : TypedFn) → function_at fs n ≡ Some f → slice_get fs i ≡ Some f
  placed = subst (λ (l : List TypedFn). (f : TypedFn) → function_at l n ≡ Some f → slice_get l i ≡ Some f) same place

  pub stands : i < length ts
  stands = omega (arith, place_within fs n i some placed, ap (λ (l : List TypedFn). length l) again)

  pub finds : (g r : TypedFn) → r ≡ get_or ts i g → function_at fs n ≡ Some r
  finds g r is = let f = some_found fs n some in f.1 ∙ sym (ap Some (is ∙ (ap (λ (l : List TypedFn). get_or l i g) again ∙ got fs i f.0 g (placed f.0 f.1))))

-- ---- a typed program

-- the types of a front are those of a program that can be numbered
pub typed_so : (x : Front) → IsFronted x → IsTypedProgram x.typed
typed_so x h = (h.0, h.1.accepted.names, h.1.numbered, h.1.accepted.typed)

-- ---- what places are told by

abbrev frame : Declarations → (ℕ → ℕ) → List (Option Typ) → Frame
frame D P ts = record { declared = D; sizes = P; types = ts }

one_found : (o : Option TypedFn) (g f : TypedFn) → o ≡ Some g → o ≡ Some f → g ≡ f
one_found o g f a b = ap (λ (p : Option TypedFn). unwrap_or p g) (sym a ∙ b)

pub framed : (D E : List Decl) (ss zs : List ℕ) (vs ts : List (Option Ty)) (o : Option TypedFn) (g f : TypedFn) → D ≡ E → ss ≡ zs → o ≡ Some g → o ≡ Some f → vs ≡ g.variables → ts ≡ trimmed vs
    → frame (declarations D) (told ss) (map (option_map plain-Ty) ts) ≡ frame_of (declarations E) (told zs) f
framed D E ss zs vs ts o g f d s a b v t =
    let types : ts ≡ trimmed f.variables = t ∙ (ap trimmed v ∙ ap (λ (x : TypedFn). trimmed x.variables) (one_found o g f a b)) in
    λ i. frame (declarations (d i)) (told (s i)) (map (option_map plain-Ty) (types i))
