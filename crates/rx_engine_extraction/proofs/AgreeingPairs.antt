-- Declarations that are the same but for how polarities are recorded impose the same on the lifetimes of a function: so the same pairs are
-- missing, in two typed programs of one text.
use Rattle.std.proofs.Common.{◌≡◌, ℕ, suc, List, [], ◌∷◌, ◌++◌, map, slice_get, Option, false, true, refl, sym, ap, subst, ◌∙◌}
use Rattle.std.proofs.lemmas.Option.{slice_get-map}
use Rattle.rx_core.specs.declared.types.Bound.{Bound}
use Rattle.rx_core.specs.declared.types.Step.{Step}
use Rattle.rx_core.specs.declared.types.Step.TheVariants as step
use Rattle.rx_typed.specs.declared.declarations.Decl.{Decl}
use Rattle.rx_typed.specs.declared.declarations.Decl.TheVariants as decl
use Rattle.rx_typed.specs.declared.declarations.Polarity.{Polarity}
use Rattle.rx_typed.specs.declared.declarations.Polarity.TheVariants.{Co, Inv}
use Rattle.rx_typed.specs.Regions.{RegionTyp, region_tuple, region_reference, region_named, RegionTyps, no_region, region_and, held_regions, regions}
use Rattle.rx_typed.specs.Tree.{Temporary, temporary, Making, struct, variant_of}
use Rattle.rx_typed.specs.Tree as tree
use Rattle.rx_typed_declarations.specs.Variance.{unrecorded, variances_recorded, Recorded, polarity, TellsOf, Invariant}
use Rattle.rx_typed.specs.Places as places
use Rattle.rx_typed.specs.Places.{fields_of, behind, place_type, part_at}
use Rattle.rx_lower_walks.specs.Graph.{Site}
use Rattle.rx_lower_walks.specs.Pieces.{graph}
use Rattle.rx_lower_walks.specs.Text.{actions_of}
use Rattle.rx_lower_walks.specs.Actions.{Act, Read, Write, Borrow, Call, Build, Give, Action}
use Rattle.rx_lower_lifetimes.specs.Lowered.{Lifetimes, lifetimes}
use Rattle.rx_lower_lifetimes.specs.Numbered.{Own, region, signed}
use Rattle.rx_lower.specs.Functions.{function}
use Rattle.rx_region_outlives.specs.Implied.{HasPair, ImpliesOf}
use Rattle.rx_region_outlives.specs.Related.{in_place, within, first_polarity, other_polarities, arguments, related, all_related, subtypes}
use Rattle.rx_region.specs.Constraints.{Context, lifetimes_of, instances, through, reborrows, made_parts, root_type, type_at, type_in, held, variances, flows, parts_flow, parameters_flow, signature_asks, asks, all_ask, formed, imposed}
use Rattle.rx_region.specs.Known.{KnownToOutlive, itself, by, Missing}
use Rattle.rx_region.specs.Solutions.{Point, Least, whole, ends, live, longer}
use Rattle.rx_facts.specs.Functions.{sites_of}
use Rattle.rx_facts.specs.Same.{SameFunction}
use Rattle.rx_facts.proofs.Lifetimes.{same_lifetimes}
use Rattle.rx_facts.proofs.Positions.{unrecorded_option, fields_same, variant_same, behind_same, place_same}
use Rattle.rx_typeck_typed.specs.declared.typed.TypedFn.{TypedFn}
use Rattle.rx_check.specs.Contexts.{AreAsked, context_of}

-- ---- polarities

abbrev Agree : List Polarity → List Polarity → Type 0
Agree vs ws = (k : ℕ) → polarity vs k ≡ polarity ws k

one_polarity : (p q : Polarity) → (p ≡ Inv → q ≡ Inv) → (q ≡ Inv → p ≡ Inv) → p ≡ q
one_polarity Co Co f g = refl
one_polarity Co Inv f g = g refl
one_polarity Inv Co f g = sym (f refl)
one_polarity Inv Inv f g = refl

tell_same : (D E : List Decl) → regions D ≡ regions E → (i : ℕ) (vs ws : List Polarity) → TellsOf D i vs → TellsOf E i ws → Agree vs ws
tell_same D E alike i vs ws a b k =
    one_polarity (polarity vs k) (polarity ws k)
    (λ h. (b k).1 (subst (λ (H : List (List RegionTyp)). Invariant H i k) alike ((a k).0 h)))
    (λ h. (a k).1 (subst (λ (H : List (List RegionTyp)). Invariant H i k) (sym alike) ((b k).0 h)))

first_is : (vs : List Polarity) → first_polarity vs ≡ polarity vs 0
first_is [] = refl
first_is (v ∷ vs) = refl

other_is : (vs : List Polarity) (k : ℕ) → polarity (other_polarities vs) k ≡ polarity vs (suc k)
other_is [] k = refl
other_is (v ∷ vs) k = refl

arguments_agree : (p : Polarity) (vs ws : List Polarity) → Agree vs ws → (ls ks : List ℕ) → arguments p vs ls ks ≡ arguments p ws ls ks
arguments_agree p vs ws a [] ks = refl
arguments_agree p vs ws a (l ∷ ls) [] = refl
arguments_agree p vs ws a (l ∷ ls) (k ∷ ks) =
    let first : first_polarity vs ≡ first_polarity ws = first_is vs ∙ (a 0 ∙ sym (first_is ws)) in
    let others : arguments p (other_polarities vs) ls ks ≡ arguments p (other_polarities ws) ls ks =
    arguments_agree p (other_polarities vs) (other_polarities ws) (λ n. other_is vs n ∙ (a (suc n) ∙ sym (other_is ws n))) ls ks in
    λ j. in_place (within p (first j)) l k ++ others j

module _ (V W : ℕ → List Polarity) (agree : (i : ℕ) → Agree (V i) (W i)) where
  mutual
    related_agree : (p : Polarity) (t u : RegionTyp) → related V p t u ≡ related W p t u
    related_agree p (region_tuple ts) (region_tuple us) = all_agree p ts us
    related_agree p (region_reference false l t) (region_reference false k u) = ap (λ (ps : List Bound). in_place p l k ++ ps) (related_agree p t u)
    related_agree p (region_reference true l t) (region_reference true k u) = ap (λ (ps : List Bound). in_place p l k ++ ps) (related_agree Inv t u)
    related_agree p (region_named i ls) (region_named j ks) = arguments_agree p (V i) (W i) (agree i) ls ks
    related_agree p _ _ = refl

    all_agree : (p : Polarity) (ts us : RegionTyps) → all_related V p ts us ≡ all_related W p ts us
    all_agree p no_region us = refl
    all_agree p (region_and t ts) no_region = refl
    all_agree p (region_and t ts) (region_and u us) = λ j. related_agree p t u j ++ all_agree p ts us j

  subtypes_agree : (t u : RegionTyp) → subtypes V t u ≡ subtypes W t u
  subtypes_agree t u = related_agree Co t u

-- ---- what is declared but for them

regions_held : (d : Decl) → held_regions (unrecorded d) ≡ held_regions d
regions_held decl.Rt = refl
regions_held (decl.Struct c l vs fs) = refl
regions_held (decl.Enum c l vs ds) = refl
regions_held (decl.Func l ps t bs) = refl

regions_same : (D : List Decl) → regions (map unrecorded D) ≡ regions D
regions_same [] = refl
regions_same (d ∷ D) = λ j. regions_held d j ∷ regions_same D j

module _ (D E : List Decl) (items : map unrecorded D ≡ map unrecorded E) where
  regions_alike : regions D ≡ regions E
  regions_alike = sym (regions_same D) ∙ (ap regions items ∙ regions_same E)

  pub asked_too : (P : ℕ → List Bound) → AreAsked D P → AreAsked E P
  asked_too P asked i = subst (λ (G : List (List RegionTyp)). ImpliesOf G i (P i)) regions_alike (asked i)

  of_item : {A : Type 0} (k : Option Decl → A) → ((o : Option Decl) → k (unrecorded_option o) ≡ k o) → (i : ℕ) → k (slice_get D i) ≡ k (slice_get E i)
  of_item k same i =
      sym (same (slice_get D i)) ∙ (sym (ap k (slice_get-map unrecorded D i))
      ∙ (ap (λ (l : List Decl). k (slice_get l i)) items ∙ (ap k (slice_get-map unrecorded E i) ∙ same (slice_get E i))))

  behind_alike : (t : RegionTyp) (s : Step) → behind D t s ≡ behind E t s
  behind_alike t s = sym (behind_same D t s) ∙ (ap (λ (l : List Decl). behind l t s) items ∙ behind_same E t s)

  place_alike : (t : RegionTyp) (ss : List Step) → place_type D t ss ≡ place_type E t ss
  place_alike t ss = sym (place_same D t ss) ∙ (ap (λ (l : List Decl). place_type l t ss) items ∙ place_same E t ss)

  made_alike : (w : Making) (t : RegionTyp) → made_parts D w t ≡ made_parts E w t
  made_alike (struct i) t = ap (λ (ts : RegionTyps). instances (lifetimes_of t) ts) (of_item fields_of fields_same i)
  made_alike (variant_of i v) t = ap (λ (ts : RegionTyps). instances (lifetimes_of t) ts) (of_item (λ (o : Option Decl). places.variant_of o v) (λ o. variant_same o v) i)
  made_alike _ t = refl

  reborrows_alike : (t : RegionTyp) (r : ℕ) (ss : List Step) → reborrows D t r ss ≡ reborrows E t r ss
  reborrows_alike t r [] = refl
  reborrows_alike t r (step.Field i ∷ ss) = ap (λ (u : RegionTyp). reborrows D u r ss) (behind_alike t (step.Field i)) ∙ reborrows_alike (behind E t (step.Field i)) r ss
  reborrows_alike t r (step.Variant v ∷ ss) = ap (λ (u : RegionTyp). reborrows D u r ss) (behind_alike t (step.Variant v)) ∙ reborrows_alike (behind E t (step.Variant v)) r ss
  reborrows_alike t r (step.Deref k ∷ ss) = ap (λ (ps : List Bound). through t r ss ++ ps)
      (ap (λ (u : RegionTyp). reborrows D u r ss) (behind_alike t (step.Deref k)) ∙ reborrows_alike (behind E t (step.Deref k)) r ss)

  -- ---- what is asked of lifetimes
  module _ (recorded : Recorded D) (other : Recorded E) (P : ℕ → List Bound) (L : Lifetimes) where
    abbrev one : Context
    one = record { items = D; implied = P; lifetimes = L }

    abbrev two : Context
    two = record { items = E; implied = P; lifetimes = L }

    flow : (t u : RegionTyp) → flows one t u ≡ flows two t u
    flow t u = subtypes_agree (variances one) (variances two)
        (λ i. tell_same D E regions_alike i (variances_recorded (slice_get D i)) (variances_recorded (slice_get E i)) (recorded i) (other i)) t u

    parts_alike : (us : RegionTyps) (is : List ℕ) (ts : List Temporary) → parts_flow one us is ts ≡ parts_flow two us is ts
    parts_alike us [] ts = refl
    parts_alike us (i ∷ is) [] = refl
    parts_alike us (i ∷ is) (t ∷ ts) = λ j. flow (held one t) (part_at us i) j ++ parts_alike us is ts j

    parameters_alike : (us : RegionTyps) (ts : List Temporary) → parameters_flow one us ts ≡ parameters_flow two us ts
    parameters_alike no_region ts = refl
    parameters_alike (region_and u us) [] = refl
    parameters_alike (region_and u us) (t ∷ ts) = λ j. flow (held one t) u j ++ parameters_alike us ts j

    asks_alike : (a : Act) (o : Own) → asks one a o ≡ asks two a o
    asks_alike (Read m p d) o = ap (λ (t : RegionTyp). flows one t (held one d)) (place_alike (root_type L p.root) p.steps) ∙ flow (type_in two p) (held two d)
    asks_alike (Write p t ss) o =
        (λ j. flows one (place_alike (root_type L (temporary t)) ss j) (place_alike (root_type L p.root) p.steps j)) ∙ flow (type_at two (temporary t) ss) (type_in two p)
    asks_alike (Borrow k p d) (region r) = λ j. reborrows_alike (root_type L p.root) r p.steps j
        ++ (ap (λ (t : RegionTyp). flows one (region_reference k r t) (held one d)) (place_alike (root_type L p.root) p.steps)
        ∙ flow (region_reference k r (type_in two p)) (held two d)) j
    asks_alike (Call f ts d) (signed S) = λ j. signature_asks one S ++ (parameters_alike S.params ts j ++ flow S.answer (held one d) j)
    asks_alike (Build w is ts d) o = ap (λ (us : RegionTyps). parts_flow one us is ts) (made_alike w (held one d)) ∙ parts_alike (made_parts E w (held two d)) is ts
    asks_alike (Give t) o = flow (held one t) L.answer
    asks_alike _ _ = refl

    all_alike : (us : List Action) (os : List Own) → all_ask one us os ≡ all_ask two us os
    all_alike [] os = refl
    all_alike (a ∷ us) [] = refl
    all_alike (a ∷ us) (o ∷ os) = λ j. asks_alike a.act o j ++ all_alike us os j

    imposed_alike : (us : List Action) → imposed one us ≡ imposed two us
    imposed_alike us = λ j. all_alike us L.owned j ++ formed one 0 L.types

    least_too : (g : List Site) (l : ℕ) (x : Point) → Least one g l x → Least two g l x
    least_too g l x (whole own there) = whole own there
    least_too g l x (ends own) = ends own
    least_too g l x (live r is there) = live r is there
    least_too g l x (longer k pair h) = longer k (subst (λ (ps : List Bound). HasPair ps l k) (imposed_alike (actions_of g)) pair) (least_too g k x h)

    known_back : (l k : ℕ) → KnownToOutlive two l k → KnownToOutlive one l k
    known_back l k itself = itself
    known_back l k (by m pair h) = by m pair (known_back m k h)

    pub missing_alike : (g : List Site) (l k : ℕ) → Missing one g l k → Missing two g l k
    missing_alike g l k m = record { long = m.long; short = m.short; needed = least_too g l _ m.needed; unknown = λ h. m.unknown (known_back l k h) }

module _ (D E : List Decl) (items : map unrecorded D ≡ map unrecorded E) (recorded : Recorded D) (other : Recorded E) (P : ℕ → List Bound) (f g : TypedFn) (same : SameFunction f g) where
  pub missing_too : (l k : ℕ) → Missing (context_of D P f) (sites_of f) l k → Missing (context_of E P g) (sites_of g) l k
  missing_too l k m =
      let L : Lifetimes = lifetimes (function D f) in
      let sites : sites_of f ≡ sites_of g = ap (λ (b : tree.Function). graph b) same.bodies in
      subst (λ (z : List Site). Missing (context_of E P g) z l k) sites
      (subst (λ (K : Lifetimes). Missing (record { items = E; implied = P; lifetimes = K }) (sites_of f) l k) (same_lifetimes D E items f g same)
      (missing_alike D E items recorded other P L (sites_of f) l k m))
