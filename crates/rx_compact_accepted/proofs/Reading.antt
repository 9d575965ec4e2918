-- Two contexts that read types alike ask the same of the same actions, whatever are their own lifetimes: by cases on an action, and by
-- induction on its operands.
use Rattle.std.proofs.Common.{◌≡◌, ℕ, ◌+◌, if◌then◌else◌, List, [], ◌∷◌, ◌++◌, get_or, refl, ap, ◌∙◌}
use Rattle.rx_core.specs.declared.types.Step.{Step}
use Rattle.rx_typed.specs.Regions.{RegionTyp, region_reference, RegionTyps, no_region, region_and}
use Rattle.rx_typed.specs.Tree.{Temporary, temporary, Place, Making}
use Rattle.rx_lower_walks.specs.Actions.{Act, Declare, Dead, Read, Write, Borrow, Test, Call, Build, Input, Print, Give, Action}
use Rattle.rx_region_outlives.specs.Implied.{implied_in, implied_among}
use Rattle.rx_typed.specs.Renaming.{unit_region}
use Rattle.rx_typed.specs.Places.{part_at, place_type}
use Rattle.rx_lower_lifetimes.specs.Numbered.{Own, none, region, signed}
use Rattle.rx_region.specs.Constraints.{Context, root_type, type_in, type_at, held, flows, parts_flow, parameters_flow, made_parts, reborrows, asks, all_ask, is_among, formed, imposed}
use Rattle.rx_region.specs.Known.{parameters_ask}
use Rattle.rx_repair.specs.LeastBounds.{by_types}
use Rattle.rx_repair.proofs.Asked.{root_same}

pub record ReadsSame (C K : Context) : Type 0 where
  pub types : C.lifetimes.types ≡ K.lifetimes.types
  pub temporaries : C.lifetimes.temporaries ≡ K.lifetimes.temporaries
  pub params : C.lifetimes.params ≡ K.lifetimes.params
  pub answer : C.lifetimes.answer ≡ K.lifetimes.answer
  pub implied : C.implied ≡ K.implied
  pub flow : (t u : RegionTyp) → flows C t u ≡ flows K t u
  pub place : (t : RegionTyp) (ss : List Step) → place_type C.items t ss ≡ place_type K.items t ss
  pub made : (w : Making) (t : RegionTyp) → made_parts C.items w t ≡ made_parts K.items w t
  pub reborrow : (t : RegionTyp) (r : ℕ) (ss : List Step) → reborrows C.items t r ss ≡ reborrows K.items t r ss

module _ (C K : Context) (reads : ReadsSame C K) where
  flow_both : (t u v w : RegionTyp) → t ≡ v → u ≡ w → flows C t u ≡ flows K v w
  flow_both t u v w e f = (λ j. flows C (e j) (f j)) ∙ reads.flow v w

  held_alike : (t : Temporary) → held C t ≡ held K t
  held_alike t = root_same C.lifetimes K.lifetimes reads.types reads.temporaries (temporary t)

  type_alike : (p : Place) → type_in C p ≡ type_in K p
  type_alike p = ap (λ (t : RegionTyp). place_type C.items t p.steps) (root_same C.lifetimes K.lifetimes reads.types reads.temporaries p.root)
      ∙ reads.place (root_type K.lifetimes p.root) p.steps

  part_alike : (t : Temporary) (ss : List Step) → type_at C (temporary t) ss ≡ type_at K (temporary t) ss
  part_alike t ss = ap (λ (u : RegionTyp). place_type C.items u ss) (held_alike t) ∙ reads.place (held K t) ss

  parts_alike : (us : RegionTyps) (is : List ℕ) (ts : List Temporary) → parts_flow C us is ts ≡ parts_flow K us is ts
  parts_alike us [] ts = refl
  parts_alike us (i ∷ is) [] = refl
  parts_alike us (i ∷ is) (t ∷ ts) = λ j. flow_both (held C t) (part_at us i) (held K t) (part_at us i) (held_alike t) refl j ++ parts_alike us is ts j

  parameters_alike : (us : RegionTyps) (ts : List Temporary) → parameters_flow C us ts ≡ parameters_flow K us ts
  parameters_alike no_region ts = refl
  parameters_alike (region_and u us) [] = refl
  parameters_alike (region_and u us) (t ∷ ts) = λ j. flow_both (held C t) u (held K t) u (held_alike t) refl j ++ parameters_alike us ts j

  answer_alike : (t : RegionTyp) (d : Temporary) → flows C t (held C d) ≡ flows K t (held K d)
  answer_alike t d = flow_both t (held C d) t (held K d) refl (held_alike d)

  asks_alike : (a : Act) (o : Own) → asks C a o ≡ asks K a o
  asks_alike (Read m p d) o = flow_both (type_in C p) (held C d) (type_in K p) (held K d) (type_alike p) (held_alike d)
  asks_alike (Write p t ss) o = flow_both (type_at C (temporary t) ss) (type_in C p) (type_at K (temporary t) ss) (type_in K p) (part_alike t ss) (type_alike p)
  asks_alike (Borrow k p d) (region r) =
      let root = root_same C.lifetimes K.lifetimes reads.types reads.temporaries p.root in
      let through : reborrows C.items (root_type C.lifetimes p.root) r p.steps ≡ reborrows K.items (root_type K.lifetimes p.root) r p.steps =
      ap (λ (t : RegionTyp). reborrows C.items t r p.steps) root ∙ reads.reborrow (root_type K.lifetimes p.root) r p.steps in
      λ j. through j ++ flow_both (region_reference k r (type_in C p)) (held C d) (region_reference k r (type_in K p)) (held K d) (ap (region_reference k r) (type_alike p)) (held_alike d) j
  asks_alike (Borrow k p d) none = refl
  asks_alike (Borrow k p d) (signed S) = refl
  asks_alike (Call f ts d) (signed S) = λ j.
      (S.bounds ++ (implied_among (reads.implied j) S.params ++ implied_in (reads.implied j) S.answer)) ++ (parameters_alike S.params ts j ++ answer_alike S.answer d j)
  asks_alike (Call f ts d) none = refl
  asks_alike (Call f ts d) (region r) = refl
  asks_alike (Build w is ts d) o =
      let made : made_parts C.items w (held C d) ≡ made_parts K.items w (held K d) = ap (made_parts C.items w) (held_alike d) ∙ reads.made w (held K d) in
      ap (λ (us : RegionTyps). parts_flow C us is ts) made ∙ parts_alike (made_parts K.items w (held K d)) is ts
  asks_alike (Give t) o = flow_both (held C t) C.lifetimes.answer (held K t) K.lifetimes.answer (held_alike t) reads.answer
  asks_alike (Declare x) o = refl
  asks_alike (Dead x) o = refl
  asks_alike (Test p c) o = refl
  asks_alike (Input d) o = refl
  asks_alike (Print t) o = refl

  pub all_alike : (us : List Action) (os : List Own) → all_ask C us os ≡ all_ask K us os
  all_alike [] os = refl
  all_alike (a ∷ us) [] = refl
  all_alike (a ∷ us) (o ∷ os) = λ j. asks_alike a.act o j ++ all_alike us os j

  formed_from : (x : ℕ) (ts : List RegionTyp) → formed C x ts ≡ formed K x ts
  formed_from x [] = refl
  formed_from x (t ∷ ts) = λ j. (if is_among x (reads.params j) then [] else implied_in (reads.implied j) t) ++ formed_from (x + 1) ts j

  pub formed_alike : formed C 0 C.lifetimes.types ≡ formed K 0 K.lifetimes.types
  formed_alike = ap (formed C 0) reads.types ∙ formed_from 0 K.lifetimes.types

  -- what the types of the parameters and the result ask
  parameters_from : (xs : List ℕ) → parameters_ask C xs ≡ parameters_ask K xs
  parameters_from [] = refl
  parameters_from (x ∷ xs) = λ j. implied_in (reads.implied j) (get_or (reads.types j) x unit_region) ++ parameters_from xs j

  pub by_types_alike : by_types C ≡ by_types K
  by_types_alike =
      let first : parameters_ask C C.lifetimes.params ≡ parameters_ask K K.lifetimes.params = ap (parameters_ask C) reads.params ∙ parameters_from K.lifetimes.params in
      λ j. first j ++ implied_in (reads.implied j) (reads.answer j)
