-- What the actions of a function ask of its lifetimes, and what is known of its own: with other numbers the same of these.
use Rattle.std.proofs.Common.{◌≡◌, ℕ, zero, suc, ◌+◌, ◌-◌, Bool, true, false, if◌then◌else◌, List, [], ◌∷◌, ◌++◌, length, map, get_or, take, drop, refl, ap, ◌∙◌}
use Rattle.std.proofs.lemmas.List.{length-map}
use Rattle.rx_core.specs.declared.types.Step.{Step}
use Rattle.rx_typed.specs.declared.declarations.Polarity.TheVariants.{Co}
use Rattle.rx_typed.specs.Regions.{RegionTyp, region_reference, RegionTyps, no_region, region_and}
use Rattle.rx_typed.specs.Tree.{Temporary, Root, variable, temporary, Making, constant, negation, inversion, operation, lazy, tuple, struct, variant_of}
use Rattle.rx_lower_walks.specs.Actions.{Act, Declare, Dead, Read, Write, Borrow, Test, Call, Build, Input, Print, Give, Action}
use Rattle.rx_lower_walks.specs.Walks.{Among, here, there}
use Rattle.rx_typed.specs.PlainTypes.{declarations}
use Rattle.rx_typed.specs.Renaming.{Signature, renamed, all_renamed, bound_renamed, signature_with, unit_region}
use Rattle.rx_typed.specs.Places.{part_at, place_type}
use Rattle.rx_lower_lifetimes.specs.Values.{same}
use Rattle.rx_lower_lifetimes.specs.Numbered.{Own, none, region, signed}
use Rattle.rx_lower_lifetimes.specs.Lowered.{Lifetimes}
use Rattle.rx_region_outlives.specs.Implied.{implied_in, implied_among}
use Rattle.rx_region.specs.Constraints.{Context, temporary_type, variables_of, root_type, type_at, type_in, held, variances, flows, parts_flow, parameters_flow, made_parts, reborrows, signature_asks, asks, all_ask, is_among, formed, imposed}
use Rattle.rx_region.specs.Known.{parameters_ask, told}
use Rattle.rx_repair.specs.LeastBounds.{by_types}
use Rattle.rx_repair.specs.Renaming.{own_renamed, lifetimes_renamed, context_renamed}
use Rattle.rx_repair.specs.Fitting.{HasAll, MadeFits, ActFits, Fits}
use Rattle.rx_compact_accepted.proofs.TypesRenamed.{both_lists, related_is, implied_is, implied_are}
use Rattle.rx_compact_accepted.proofs.PlacesRenamed.{place_is, reborrows_are, struct_is, variant_is, tuple_made, part_is}

-- ---- lists

taken_among : {A : Type 0} (n : ℕ) (xs : List A) (x : A) → Among x (take n xs) → Among x xs
taken_among zero xs x h = absurd (elim h [ ])
taken_among (suc n) [] x h = h
taken_among (suc n) (y ∷ xs) _ here = here
taken_among (suc n) (y ∷ xs) x (there h) = there (taken_among n xs x h)

dropped_among : {A : Type 0} (n : ℕ) (xs : List A) (x : A) → Among x (drop n xs) → Among x xs
dropped_among zero xs x h = h
dropped_among (suc n) [] x h = h
dropped_among (suc n) (y ∷ xs) x h = there (dropped_among n xs x h)

module _ (f : ℕ → ℕ) where
  take_is : (n : ℕ) (ts : List RegionTyp) → take n (map (renamed f) ts) ≡ map (renamed f) (take n ts)
  take_is zero ts = refl
  take_is (suc n) [] = refl
  take_is (suc n) (t ∷ ts) = ap (λ (us : List RegionTyp). renamed f t ∷ us) (take_is n ts)

  drop_is : (n : ℕ) (ts : List RegionTyp) → drop n (map (renamed f) ts) ≡ map (renamed f) (drop n ts)
  drop_is zero ts = refl
  drop_is (suc n) [] = refl
  drop_is (suc n) (t ∷ ts) = drop_is n ts

  -- past the end both are the unit
  get_is : (ts : List RegionTyp) (x : ℕ) → get_or (map (renamed f) ts) x unit_region ≡ renamed f (get_or ts x unit_region)
  get_is [] x = refl
  get_is (t ∷ ts) zero = refl
  get_is (t ∷ ts) (suc x) = get_is ts x

  -- ---- roots

  if_is : (b : Bool) (t u : RegionTyp) → (if b then renamed f t else renamed f u) ≡ renamed f (if b then t else u)
  if_is true t u = refl
  if_is false t u = refl

  temporary_is : (ss : List Temporary) (ts : List RegionTyp) (t : Temporary) → temporary_type ss (map (renamed f) ts) t ≡ renamed f (temporary_type ss ts t)
  temporary_is [] ts t = refl
  temporary_is (s ∷ ss) [] t = refl
  temporary_is (s ∷ ss) (y ∷ ts) t =
      ap (λ (u : RegionTyp). if same s t then renamed f y else u) (temporary_is ss ts t) ∙ if_is (same s t) y (temporary_type ss ts t)

  variables_are : (L : Lifetimes) → variables_of (lifetimes_renamed f L) ≡ variables_of L
  variables_are L = ap (λ (n : ℕ). n - length L.temporaries) (length-map L.types (renamed f))

  pub root_is : (L : Lifetimes) (r : Root) → root_type (lifetimes_renamed f L) r ≡ renamed f (root_type L r)
  root_is L (variable x) =
      ap (λ (n : ℕ). get_or (take n (map (renamed f) L.types)) x unit_region) (variables_are L)
      ∙ ap (λ (ts : List RegionTyp). get_or ts x unit_region) (take_is (variables_of L) L.types) ∙ get_is (take (variables_of L) L.types) x
  root_is L (temporary t) =
      ap (λ (n : ℕ). temporary_type L.temporaries (drop n (map (renamed f) L.types)) t) (variables_are L)
      ∙ ap (λ (ts : List RegionTyp). temporary_type L.temporaries ts t) (drop_is (variables_of L) L.types) ∙ temporary_is L.temporaries (drop (variables_of L) L.types) t

-- a fact of all types, and of the unit
get_has : (P : RegionTyp → Type 0) → P unit_region → (ts : List RegionTyp) → ((t : RegionTyp) → Among t ts → P t) → (x : ℕ) → P (get_or ts x unit_region)
get_has P u [] h x = u
get_has P u (t ∷ ts) h zero = h t here
get_has P u (t ∷ ts) h (suc x) = get_has P u ts (λ t a. h t (there a)) x

either_has : (P : RegionTyp → Type 0) (b : Bool) (t u : RegionTyp) → P t → P u → P (if b then t else u)
either_has P true t u x y = x
either_has P false t u x y = y

temporary_has : (P : RegionTyp → Type 0) → P unit_region → (ss : List Temporary) (ts : List RegionTyp) → ((t : RegionTyp) → Among t ts → P t) → (t : Temporary) → P (temporary_type ss ts t)
temporary_has P u [] ts h t = u
temporary_has P u (s ∷ ss) [] h t = u
temporary_has P u (s ∷ ss) (y ∷ ts) h t = either_has P (same s t) y (temporary_type ss ts t) (h y here) (temporary_has P u ss ts (λ t a. h t (there a)) t)

root_has : (P : RegionTyp → Type 0) → P unit_region → (L : Lifetimes) → ((t : RegionTyp) → Among t L.types → P t) → (r : Root) → P (root_type L r)
root_has P u L h (variable x) = get_has P u (take (variables_of L) L.types) (λ t a. h t (taken_among (variables_of L) L.types t a)) x
root_has P u L h (temporary t) = temporary_has P u L.temporaries (drop (variables_of L) L.types) (λ t a. h t (dropped_among (variables_of L) L.types t a)) t

-- ---- what is known

module _ (f : ℕ → ℕ) (C : Context) where
  parameters_are : (xs : List ℕ) → parameters_ask (context_renamed f C) xs ≡ map (bound_renamed f) (parameters_ask C xs)
  parameters_are [] = refl
  parameters_are (x ∷ xs) =
      both_lists f (implied_in C.implied (get_or C.lifetimes.types x unit_region)) (parameters_ask C xs)
      (implied_in C.implied (get_or (map (renamed f) C.lifetimes.types) x unit_region)) (parameters_ask (context_renamed f C) xs)
      (ap (λ (t : RegionTyp). implied_in C.implied t) (get_is f C.lifetimes.types x) ∙ implied_is f C.implied (get_or C.lifetimes.types x unit_region)) (parameters_are xs)

  pub types_told : by_types (context_renamed f C) ≡ map (bound_renamed f) (by_types C)
  types_told =
      both_lists f (parameters_ask C C.lifetimes.params) (implied_in C.implied C.lifetimes.answer)
      (parameters_ask (context_renamed f C) C.lifetimes.params) (implied_in C.implied (renamed f C.lifetimes.answer))
      (parameters_are C.lifetimes.params) (implied_is f C.implied C.lifetimes.answer)

  pub all_told : told (context_renamed f C) ≡ map (bound_renamed f) (told C)
  all_told =
      both_lists f C.lifetimes.bounds (by_types C) (map (bound_renamed f) C.lifetimes.bounds) (by_types (context_renamed f C)) refl types_told

-- ---- what actions ask

module _ (f : ℕ → ℕ) (C : Context) (us : List Action) (fit : Fits C us) where
  its_type_has : (r : Root) → HasAll (declarations C.items) (root_type C.lifetimes r)
  its_type_has r = root_has (HasAll (declarations C.items)) tt C.lifetimes fit.types r

  at_is : (r : Root) (ss : List Step) → type_at (context_renamed f C) r ss ≡ renamed f (type_at C r ss)
  at_is r ss = ap (λ (t : RegionTyp). place_type C.items t ss) (root_is f C.lifetimes r) ∙ place_is f C.items fit.items (root_type C.lifetimes r) ss (its_type_has r)

  held_is : (t : Temporary) → held (context_renamed f C) t ≡ renamed f (held C t)
  held_is t = root_is f C.lifetimes (temporary t)

  flows_are : (t u t' u' : RegionTyp) → t' ≡ renamed f t → u' ≡ renamed f u → flows (context_renamed f C) t' u' ≡ map (bound_renamed f) (flows C t u)
  flows_are t u t' u' d e = (λ j. flows C (d j) (e j)) ∙ related_is f (variances C) Co t u

  parts_are : (ts : RegionTyps) (is : List ℕ) (ds : List Temporary) → parts_flow (context_renamed f C) (all_renamed f ts) is ds ≡ map (bound_renamed f) (parts_flow C ts is ds)
  parts_are ts [] ds = refl
  parts_are ts (i ∷ is) [] = refl
  parts_are ts (i ∷ is) (d ∷ ds) =
      both_lists f (flows C (held C d) (part_at ts i)) (parts_flow C ts is ds)
      (flows (context_renamed f C) (held (context_renamed f C) d) (part_at (all_renamed f ts) i)) (parts_flow (context_renamed f C) (all_renamed f ts) is ds)
      (flows_are (held C d) (part_at ts i) (held (context_renamed f C) d) (part_at (all_renamed f ts) i) (held_is d) (part_is f ts i)) (parts_are ts is ds)

  arguments_are : (ts : RegionTyps) (ds : List Temporary) → parameters_flow (context_renamed f C) (all_renamed f ts) ds ≡ map (bound_renamed f) (parameters_flow C ts ds)
  arguments_are no_region ds = refl
  arguments_are (region_and t ts) [] = refl
  arguments_are (region_and t ts) (d ∷ ds) =
      both_lists f (flows C (held C d) t) (parameters_flow C ts ds)
      (flows (context_renamed f C) (held (context_renamed f C) d) (renamed f t)) (parameters_flow (context_renamed f C) (all_renamed f ts) ds)
      (flows_are (held C d) t (held (context_renamed f C) d) (renamed f t) (held_is d) refl) (arguments_are ts ds)

  signature_is : (S : Signature) → signature_asks (context_renamed f C) (signature_with f S.params S.answer S.bounds) ≡ map (bound_renamed f) (signature_asks C S)
  signature_is S =
      both_lists f S.bounds (implied_among C.implied S.params ++ implied_in C.implied S.answer)
      (map (bound_renamed f) S.bounds) (implied_among C.implied (all_renamed f S.params) ++ implied_in C.implied (renamed f S.answer))
      refl
      (both_lists f (implied_among C.implied S.params) (implied_in C.implied S.answer) (implied_among C.implied (all_renamed f S.params)) (implied_in C.implied (renamed f S.answer))
      (implied_are f C.implied S.params) (implied_is f C.implied S.answer))

  made_is : (w : Making) (t : RegionTyp) → MadeFits C w t → made_parts C.items w (renamed f t) ≡ all_renamed f (made_parts C.items w t)
  made_is (constant c) t h = refl
  made_is negation t h = refl
  made_is inversion t h = refl
  made_is (operation o) t h = refl
  made_is lazy t h = refl
  made_is tuple t h = tuple_made f C.items fit.items t
  made_is (struct i) t h = struct_is f C.items fit.items i t h
  made_is (variant_of i v) t h = variant_is f C.items fit.items i v t h

  asks_same : (a : Act) (o : Own) → ActFits C a → asks (context_renamed f C) a (own_renamed f o) ≡ map (bound_renamed f) (asks C a o)
  asks_same (Read m p d) o h = flows_are (type_in C p) (held C d) (type_in (context_renamed f C) p) (held (context_renamed f C) d) (at_is p.root p.steps) (held_is d)
  asks_same (Write p t ss) o h = flows_are (type_at C (temporary t) ss) (type_in C p) (type_at (context_renamed f C) (temporary t) ss) (type_in (context_renamed f C) p) (at_is (temporary t) ss) (at_is p.root p.steps)
  asks_same (Borrow k p d) none h = refl
  asks_same (Borrow k p d) (signed S) h = refl
  asks_same (Borrow k p d) (region r) h =
      both_lists f (reborrows C.items (root_type C.lifetimes p.root) r p.steps) (flows C (region_reference k r (type_in C p)) (held C d))
      (reborrows C.items (root_type (lifetimes_renamed f C.lifetimes) p.root) (f r) p.steps) (flows (context_renamed f C) (region_reference k (f r) (type_in (context_renamed f C) p)) (held (context_renamed f C) d))
      (ap (λ (t : RegionTyp). reborrows C.items t (f r) p.steps) (root_is f C.lifetimes p.root) ∙ reborrows_are f C.items fit.items (root_type C.lifetimes p.root) r p.steps (its_type_has p.root))
      (flows_are (region_reference k r (type_in C p)) (held C d) (region_reference k (f r) (type_in (context_renamed f C) p)) (held (context_renamed f C) d)
      (ap (λ (t : RegionTyp). region_reference k (f r) t) (at_is p.root p.steps)) (held_is d))
  asks_same (Call g ts d) none h = refl
  asks_same (Call g ts d) (region r) h = refl
  asks_same (Call g ts d) (signed S) h =
      both_lists f (signature_asks C S) (parameters_flow C S.params ts ++ flows C S.answer (held C d))
      (signature_asks (context_renamed f C) (signature_with f S.params S.answer S.bounds)) (parameters_flow (context_renamed f C) (all_renamed f S.params) ts ++ flows (context_renamed f C) (renamed f S.answer) (held (context_renamed f C) d))
      (signature_is S)
      (both_lists f (parameters_flow C S.params ts) (flows C S.answer (held C d)) (parameters_flow (context_renamed f C) (all_renamed f S.params) ts) (flows (context_renamed f C) (renamed f S.answer) (held (context_renamed f C) d))
      (arguments_are S.params ts) (flows_are S.answer (held C d) (renamed f S.answer) (held (context_renamed f C) d) refl (held_is d)))
  asks_same (Build w is ts d) o h =
      ap (λ (rs : RegionTyps). parts_flow (context_renamed f C) rs is ts) (ap (λ (t : RegionTyp). made_parts C.items w t) (held_is d) ∙ made_is w (held C d) h)
      ∙ parts_are (made_parts C.items w (held C d)) is ts
  asks_same (Give t) o h = flows_are (held C t) C.lifetimes.answer (held (context_renamed f C) t) (renamed f C.lifetimes.answer) (held_is t) refl
  asks_same (Declare x) o h = refl
  asks_same (Dead x) o h = refl
  asks_same (Test p c) o h = refl
  asks_same (Input d) o h = refl
  asks_same (Print t) o h = refl

  all_same : (vs : List Action) (os : List Own) → ((a : Action) → Among a vs → ActFits C a.act)
      → all_ask (context_renamed f C) vs (map (own_renamed f) os) ≡ map (bound_renamed f) (all_ask C vs os)
  all_same [] os h = refl
  all_same (a ∷ vs) [] h = refl
  all_same (a ∷ vs) (o ∷ os) h =
      both_lists f (asks C a.act o) (all_ask C vs os) (asks (context_renamed f C) a.act (own_renamed f o)) (all_ask (context_renamed f C) vs (map (own_renamed f) os))
      (asks_same a.act o (h a here)) (all_same vs os (λ b i. h b (there i)))

  unless_parameter : (b : Bool) (t : RegionTyp) → (if b then [] else implied_in C.implied (renamed f t)) ≡ map (bound_renamed f) (if b then [] else implied_in C.implied t)
  unless_parameter true t = refl
  unless_parameter false t = implied_is f C.implied t

  formed_same : (x : ℕ) (ts : List RegionTyp) → formed (context_renamed f C) x (map (renamed f) ts) ≡ map (bound_renamed f) (formed C x ts)
  formed_same x [] = refl
  formed_same x (t ∷ ts) =
      both_lists f (if is_among x C.lifetimes.params then [] else implied_in C.implied t) (formed C (x + 1) ts)
      (if is_among x C.lifetimes.params then [] else implied_in C.implied (renamed f t)) (formed (context_renamed f C) (x + 1) (map (renamed f) ts))
      (unless_parameter (is_among x C.lifetimes.params) t) (formed_same (x + 1) ts)

  pub imposed_same : imposed (context_renamed f C) us ≡ map (bound_renamed f) (imposed C us)
  imposed_same =
      both_lists f (all_ask C us C.lifetimes.owned) (formed C 0 C.lifetimes.types)
      (all_ask (context_renamed f C) us (map (own_renamed f) C.lifetimes.owned)) (formed (context_renamed f C) 0 (map (renamed f) C.lifetimes.types))
      (all_same us C.lifetimes.owned fit.made) (formed_same 0 C.lifetimes.types)
