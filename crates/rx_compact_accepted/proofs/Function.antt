-- A function of a program and the same where the signature of one function is short: by the new numbers, with what is imposed, known and live.
use Rattle.std.proofs.Common.{◌≡◌, ◌↔◌, ◌⊎◌, inl, inr, ℕ, ◌+◌, ◌-◌, ◌<◌, ◌≤◌, true, List, [], ◌∷◌, ◌++◌, map, Option, Some, option_map, slice_get, refl, sym, ap, ap₂, subst, ◌∙◌, arith}
use Rattle.rx_core.specs.declared.types.Bound.{Bound}
use Rattle.rx_core.specs.declared.types.Ty.{Ty}
use Rattle.rx_graph_cycles.specs.Reaches.{IsIn}
use Rattle.rx_typed.specs.declared.declarations.Decl.{Decl}
use Rattle.rx_typed.specs.PlainTypes.{declarations}
use Rattle.rx_typed.specs.Regions.{RegionTyp, regions, regions_of, region-Ty, lifetimes_in}
use Rattle.rx_typed.specs.Renaming.{renamed, all_renamed}
use Rattle.rx_typed.specs.Tree as tree
use Rattle.rx_typed.specs.Tree.{Root}
use Rattle.rx_typed.specs.Types.{Declarations}
use Rattle.rx_region_outlives.specs.Implied.{HasPair}
use Rattle.rx_region_outlives.proofs.ImpliedLemmas.{has_front}
use Rattle.rx_lower_walks.specs.Actions.{Action}
use Rattle.rx_lower_walks.specs.Graph.{Site}
use Rattle.rx_lower_walks.specs.Text.{actions_of}
use Rattle.rx_lower_walks.specs.Pieces.{graph}
use Rattle.rx_lower_lifetimes.specs.Values.{Open, Held, lifetimes_of, held_by, result_type}
use Rattle.rx_lower_lifetimes.specs.Variables.{Written, open_types}
use Rattle.rx_lower_lifetimes.specs.Numbered.{all_open, all_numbered, opened, all_owned}
use Rattle.rx_lower_lifetimes.specs.Lowered.{parameters, bounds_of, temporaries, function_of, lifetimes}
use Rattle.rx_region.specs.Constraints.{Context, root_type, all_ask, formed, imposed}
use Rattle.rx_region.specs.Known as knowing
use Rattle.rx_region.specs.Known.{KnownToOutlive, told}
use Rattle.rx_region.specs.Tables.{Follows}
use Rattle.rx_loan.specs.Loans.{loans_of}
use Rattle.rx_loan.specs.Accepted.{IsAccepted}
use Rattle.rx_check.specs.Contexts.{AreAsked}
use Rattle.rx_repair.specs.Fitting.{Fits}
use Rattle.rx_repair.specs.Renaming.{lifetimes_renamed, context_renamed, loan_renamed}
use Rattle.rx_repair.proofs.Asked.{root_same}
use Rattle.rx_repair.proofs.Deciding.{follows_more}
use Rattle.rx_repair.proofs.Parameters.{Fitting}
use Rattle.rx_compact_laws.specs.MergedSignatures.{AreBoundsUnder}
use Rattle.rx_compact_laws.specs.MergedLifetimes.{AreMerged}
use Rattle.rx_compact_laws.proofs.Merging.{type_there, type_back}
use Rattle.rx_compact_accepted.specs.AreShort.{AreShort}
use Rattle.rx_compact_accepted.specs.LetsUnder.{LetsUnder}
use Rattle.rx_compact_accepted.proofs.Fitted.{AllOpen, AllHeld}
use Rattle.rx_compact_accepted.proofs.PlacesRenamed.{Good}
use Rattle.rx_compact_accepted.proofs.AskingRenamed.{root_is}
use Rattle.rx_compact_accepted.proofs.Items.{place_same, made_same, reborrows_same, flows_same}
use Rattle.rx_compact_accepted.proofs.Numbers.{AllAsk, moved, new_number, number_own, number_typed, number_sited, own_there, own_back, numbers_apart}
use Rattle.rx_compact_accepted.proofs.Below.{type_below, bounds_below, type_agrees}
use Rattle.rx_compact_accepted.proofs.Types.{AllUnder, under_both, as_many_open, all_are}
use Rattle.rx_compact_accepted.proofs.Variables.{variables_under}
use Rattle.rx_compact_accepted.proofs.Temporaries.{AllLike, opened_under, same_temporaries, held_like}
use Rattle.rx_compact_accepted.proofs.Owned.{AllOwnUnder, owned_under}
use Rattle.rx_compact_accepted.proofs.Reading.{ReadsSame}
use Rattle.rx_compact_accepted.proofs.Imposing.{imposed_there, imposed_back, told_there, told_back}
use Rattle.rx_compact_accepted.proofs.Calls.{all_asks}
use Rattle.rx_compact_accepted.proofs.Loans.{loans_under}
use Rattle.rx_compact_accepted.proofs.MergedAccepted.{accepted_alike}

-- two typed programs, with what is well-formed of them
pub record BothFit (i : ℕ) (f : ℕ → ℕ) (D E : List Decl) : Type 0 where
  pub short : AreShort i f D E
  pub good : Good D
  pub new_good : Good E
  pub fitting : (j : ℕ) → Fitting (declarations D) (slice_get D j)

-- a function of both, by the numbers of its own lifetimes
pub record FunctionsFit (D E : List Decl) (P : ℕ → List Bound) (g : ℕ → ℕ) (item : ℕ) (b : tree.Function) (rs qs : List (Option Ty)) (ws xs : List Written) : Type 0 where
  pub small : (l : ℕ) → l < lifetimes_of (slice_get D item) → g l < lifetimes_of (slice_get E item)
  pub opens : (l : ℕ) → lifetimes_of (slice_get D item) ≤ l → lifetimes_of (slice_get E item) ≤ g l
  pub params : regions_of (map region-Ty (parameters (slice_get E item))) ≡ all_renamed g (regions_of (map region-Ty (parameters (slice_get D item))))
  pub answer : result_type (slice_get E item) ≡ renamed g (result_type (slice_get D item))
  pub bounds : AreBoundsUnder g (bounds_of (slice_get D item)) (bounds_of (slice_get E item))
  pub lets : LetsUnder g ws xs
  pub raws : map (option_map region-Ty) qs ≡ map (option_map region-Ty) rs
  pub variables : AllOpen (declarations D) (function_of D item b rs ws).variables
  pub new_variables : AllOpen (declarations E) (function_of E item b qs xs).variables
  pub held : AllHeld (declarations D) (temporaries (function_of D item b rs ws))
  pub new_held : AllHeld (declarations E) (temporaries (function_of E item b qs xs))
  pub fits : Fits (record { items = D; implied = P; lifetimes = lifetimes (function_of D item b rs ws) }) (actions_of (graph b))
  -- those that become one are known to outlive each other, and what is known of its own speaks of its own
  pub equal : (l k : ℕ) → l < lifetimes_of (slice_get D item) → k < lifetimes_of (slice_get D item) → g l ≡ g k → KnownToOutlive (record { items = D; implied = P; lifetimes = lifetimes (function_of D item b rs ws) }) l k
  pub own : (l k : ℕ) → HasPair (told (record { items = D; implied = P; lifetimes = lifetimes (function_of D item b rs ws) })) l k → l < lifetimes_of (slice_get D item) → k < lifetimes_of (slice_get D item)

module _ (i : ℕ) (f : ℕ → ℕ) (D E : List Decl) (B : BothFit i f D E) (P : ℕ → List Bound) (asked : AreAsked D P) (g : ℕ → ℕ) (item : ℕ) (b : tree.Function) (rs qs : List (Option Ty)) (ws xs : List Written)
    (W : FunctionsFit D E P g item b rs qs ws xs) where
  abbrev S : AreShort i f D E
  S = B.short

  abbrev us : List Action
  us = actions_of (graph b)

  abbrev C : Context
  C = record { items = D; implied = P; lifetimes = lifetimes (function_of D item b rs ws) }

  abbrev K : Context
  K = record { items = E; implied = P; lifetimes = lifetimes (function_of E item b qs xs) }

  abbrev own : ℕ
  own = lifetimes_of (slice_get D item)

  abbrev new_own : ℕ
  new_own = lifetimes_of (slice_get E item)

  abbrev vs : List Open
  vs = open_types own b.params (parameters (slice_get D item)) ws 0 rs

  abbrev new_vs : List Open
  new_vs = open_types new_own b.params (parameters (slice_get E item)) xs 0 qs

  abbrev hs : List Held
  hs = held_by (record { items = D; variables = vs }) [] us

  abbrev new_hs : List Held
  new_hs = held_by (record { items = E; variables = new_vs }) [] us

  abbrev behind : ℕ
  behind = own + all_open (vs ++ opened hs)

  abbrev new_behind : ℕ
  new_behind = new_own + all_open (new_vs ++ opened new_hs)

  abbrev F : ℕ → ℕ
  F = new_number i f D E S own new_own behind new_behind g us

  pub variables_are : AllUnder own new_own g vs new_vs
  variables_are = variables_under own new_own g b.params (parameters (slice_get D item)) (parameters (slice_get E item)) W.params ws xs W.lets 0 rs qs W.raws

  pub held_are : AllLike hs new_hs
  held_are = held_like i f D E S B.good B.new_good own new_own g vs new_vs W.variables W.new_variables variables_are us [] [] tt W.held W.new_held

  all_under : AllUnder own new_own g (vs ++ opened hs) (new_vs ++ opened new_hs)
  all_under = under_both own new_own g vs new_vs (opened hs) (opened new_hs) variables_are (opened_under own new_own g hs new_hs held_are)

  own_is : (l : ℕ) → l < own → F l ≡ g l
  own_is l h = number_own i f D E S own new_own behind new_behind g us l h

  shift : (n : ℕ) → own ≤ n → n < behind → F n ≡ (n - own) + new_own
  shift n h k = number_typed i f D E S own new_own behind new_behind g us n h k

  as_many : all_open (new_vs ++ opened new_hs) ≡ all_open (vs ++ opened hs)
  as_many = as_many_open own new_own g F behind W.small own_is W.opens shift (vs ++ opened hs) (new_vs ++ opened new_hs) all_under

  behind_is : new_behind ≡ (behind - own) + new_own
  behind_is = let e = as_many in omega (arith, e)

  types_are : K.lifetimes.types ≡ map (renamed F) C.lifetimes.types
  types_are =
      let z : new_own ≡ (own - own) + new_own = omega arith in
      ap (λ n. all_numbered n (new_vs ++ opened new_hs)) z
      ∙ all_are own new_own g F behind W.small own_is W.opens shift (vs ++ opened hs) (new_vs ++ opened new_hs) own all_under (omega arith) (omega arith)

  answer_is : K.lifetimes.answer ≡ renamed F C.lifetimes.answer
  answer_is = W.answer ∙ type_agrees g F (result_type (slice_get D item)) (λ l h. sym (own_is l (type_below (declarations D) own (result_type (slice_get D item)) (B.fitting item).answer l h)))

  bounds_are : AreBoundsUnder F C.lifetimes.bounds K.lifetimes.bounds
  bounds_are = record {
    kept = λ l k h.
        let c = bounds_below own (bounds_of (slice_get D item)) (B.fitting item).bounds l k h in
        elim (W.bounds.kept l k h) [
          | inl e ↦ inl (own_is l c.0 ∙ (e ∙ sym (own_is k c.1)))
          | inr w ↦ inr (subst (λ x. HasPair K.lifetimes.bounds x (F k)) (sym (own_is l c.0)) (subst (λ y. HasPair K.lifetimes.bounds (g l) y) (sym (own_is k c.1)) w))
        ];
    only = λ x y h.
        let r = W.bounds.only x y h in
        let c = bounds_below own (bounds_of (slice_get D item)) (B.fitting item).bounds r.0 r.1 r.2 in
        (r.0, r.1, r.2, r.3 ∙ sym (own_is r.0 c.0), r.4 ∙ sym (own_is r.1 c.1));
  }

  owned_are : AllOwnUnder F C.lifetimes.owned K.lifetimes.owned
  owned_are = owned_under i f D E S (declarations D) B.fitting F us behind new_behind (λ l h. number_sited i f D E S own new_own behind new_behind g us l (omega (arith, h)) h)

  reads : ReadsSame K (context_renamed F C)
  reads = record {
    types = types_are;
    temporaries = same_temporaries hs new_hs held_are;
    params = refl;
    answer = answer_is;
    implied = refl;
    flow = flows_same i f D E S;
    place = place_same i f D E S.like;
    made = made_same i f D E S.like;
    reborrow = reborrows_same i f D E S.like;
  }

  -- ---- what is known of its own

  there : (l k : ℕ) → KnownToOutlive C l k → KnownToOutlive K (F l) (F k)
  there l k knowing.itself = knowing.itself
  there l k (knowing.by m h rest) = elim (told_there F C K us reads W.fits owned_are bounds_are l m h) [
    | inl e ↦ subst (λ x. KnownToOutlive K x (F k)) (sym e) (there m k rest)
    | inr p ↦ knowing.by (F m) p (there m k rest)
  ]

  own_up : (l : ℕ) → l < own → F l < new_own
  own_up l h = own_there i f D E S own new_own behind new_behind g us W.small (omega arith) behind_is l h

  own_down : (l : ℕ) → F l < new_own → l < own
  own_down l h = own_back i f D E S own new_own behind new_behind g us W.small (omega arith) behind_is l h

  equal : (l k : ℕ) → l < own → k < own → F l ≡ F k → KnownToOutlive C l k
  equal l k h w e = W.equal l k h w (sym (own_is l h) ∙ (e ∙ own_is k w))

  known_on : (l k m : ℕ) → KnownToOutlive C l k → KnownToOutlive C k m → KnownToOutlive C l m
  known_on l k m knowing.itself h = h
  known_on l k m (knowing.by n p rest) h = knowing.by n p (known_on n k m rest h)

  back : (x y : ℕ) → KnownToOutlive K x y → (l k : ℕ) → l < own → k < own → x ≡ F l → y ≡ F k → KnownToOutlive C l k
  back x y knowing.itself l k h w a c = equal l k h w (sym a ∙ c)
  back x y (knowing.by z p rest) l k h w a c =
      let r = told_back F C K us reads W.fits owned_are bounds_are x z p in
      let o : r.0 < own = own_down r.0 (subst (λ n. n < new_own) (sym a ∙ r.3) (own_up l h)) in
      let v = W.own r.0 r.1 r.2 o in
      known_on l r.0 k (equal l r.0 h o (sym a ∙ r.3)) (knowing.by r.1 r.2 (back z y rest r.1 k v w r.4 c))

  -- ---- all of it

  root : (r : Root) → root_type K.lifetimes r ≡ renamed F (root_type C.lifetimes r)
  root r = root_same K.lifetimes (lifetimes_renamed F C.lifetimes) types_are (same_temporaries hs new_hs held_are) r ∙ root_is F C.lifetimes r

  asks : AllAsk i f D E S (imposed C us) us behind
  asks = all_asks i f D E S C asked (imposed C us) us behind
      (λ l k. follows_more (all_ask C us C.lifetimes.owned) (imposed C us) (λ x y h. has_front (all_ask C us C.lifetimes.owned) (formed C 0 C.lifetimes.types) x y h) l k)

  pub merged : AreMerged F C K us
  merged = record {
    own = λ l. (own_up l, own_down l);
    apart = numbers_apart i f D E S own new_own behind new_behind g us W.small (omega arith) behind_is (imposed C us) asks;
    equal = equal;
    known = λ l k h w. (there l k, λ n. back (F l) (F k) n l k h w refl refl);
    imposed_there = imposed_there F C K us reads W.fits owned_are;
    imposed_back = imposed_back F C K us reads W.fits owned_are;
    live_there = λ r l h. subst (λ t. IsIn (lifetimes_in t) (F l)) (sym (root r)) (type_there (regions D) F (root_type C.lifetimes r) l h);
    live_back = λ r x h. type_back (regions D) F (root_type C.lifetimes r) x (subst (λ t. IsIn (lifetimes_in t) x) (root r) h);
  }

  loans : loans_of (graph b) K.lifetimes.owned ≡ map (loan_renamed F) (loans_of (graph b) C.lifetimes.owned)
  loans = loans_under F (graph b) C.lifetimes.owned K.lifetimes.owned owned_are

  pub function_accepted : IsAccepted C (graph b) ↔ IsAccepted K (graph b)
  function_accepted = accepted_alike F C K (graph b) merged loans
