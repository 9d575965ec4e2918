-- Lifetimes of a called signature that become one are asked by the call to outlive each other: what is known of the signature follows, of the
-- lifetimes of the call, from what this asks.
use Rattle.std.proofs.Common.{◌≡◌, inl, inr, ℕ, ◌+◌, ◌<◌, List, [], ◌∷◌, ◌++◌, map, Option, Some, slice_get, refl, sym, ap, subst, ◌∙◌}
use Rattle.rx_core.specs.declared.types.Bound.{Bound}
use Rattle.rx_typed.specs.declared.declarations.Decl.{Decl}
use Rattle.rx_typed.specs.declared.declarations.Decl.TheVariants as decl
use Rattle.rx_typed.specs.Regions.{RegionTyp, RegionTyps, regions_of, region-Ty}
use Rattle.rx_typed.specs.Renaming.{signature_from, of_list, from, renamed, all_renamed, bound_renamed}
use Rattle.rx_typeck_typed.specs.Bindings.{lifetimes}
use Rattle.rx_region_outlives.specs.Implied.{HasPair, implied_in, implied_among}
use Rattle.rx_region_outlives.proofs.ImpliedLemmas.{has_front, has_behind}
use Rattle.rx_lower_walks.specs.Actions.{Act, Declare, Dead, Read, Write, Borrow, Test, Call, Build, Input, Print, Give, Action}
use Rattle.rx_lower_lifetimes.specs.Values.{lifetimes_of}
use Rattle.rx_lower_lifetimes.specs.Numbered.{all_owned, own_of}
use Rattle.rx_lower_lifetimes.specs.Positions.{own_lifetimes}
use Rattle.rx_region.specs.Constraints.{Context, signature_asks, parameters_flow, flows, held, asks, all_ask}
use Rattle.rx_region.specs.Tables.{Follows}
use Rattle.rx_check.specs.Contexts.{AreAsked}
use Rattle.rx_repair.proofs.Deciding.{follows_more}
use Rattle.rx_repair.proofs.Renamed.{Moved, both_moved, implied_moved, among_moved, bounds_moved, follows_moved}
use Rattle.rx_compact.specs.Outliving.{Outlives}
use Rattle.rx_compact.proofs.Telling.{known_follows}
use Rattle.rx_compact_accepted.specs.AreShort.{AreShort}
use Rattle.rx_compact_accepted.proofs.Owned.{from_at}
use Rattle.rx_compact_accepted.proofs.Numbers.{AsksAt, AllAsk}

module _ (i : ℕ) (f : ℕ → ℕ) (D E : List Decl) (S : AreShort i f D E) (C : Context) (asked : AreAsked D C.implied) where
  abbrev params : RegionTyps
  params = regions_of (map region-Ty S.like.under.params)

  abbrev answer : RegionTyp
  answer = region-Ty S.like.under.answer

  -- what the signature says, and what a call asks of its lifetimes from number b on
  abbrev says : List Bound
  says = S.like.under.bounds ++ (implied_among C.implied params ++ implied_in C.implied answer)

  abbrev turned : ℕ → ℕ → ℕ
  turned b = of_list (from b S.like.under.count)

  abbrev call_asks : ℕ → List Bound
  call_asks b = map (bound_renamed (turned b)) S.like.under.bounds ++ (implied_among C.implied (all_renamed (turned b) params) ++ implied_in C.implied (renamed (turned b) answer))

  says_moved : (b : ℕ) → Moved (turned b) says (call_asks b)
  says_moved b =
      let r = turned b in
      both_moved r S.like.under.bounds (implied_among C.implied params ++ implied_in C.implied answer) (map (bound_renamed r) S.like.under.bounds)
      (implied_among C.implied (all_renamed r params) ++ implied_in C.implied (renamed r answer)) (bounds_moved r S.like.under.bounds)
      (both_moved r (implied_among C.implied params) (implied_in C.implied answer) (implied_among C.implied (all_renamed r params)) (implied_in C.implied (renamed r answer))
      (among_moved r C.implied params) (implied_moved r C.implied answer))

  known_says : (l k : ℕ) → Outlives D (slice_get D i) l k → Follows says l k
  known_says l k h = (known_follows D C.implied asked S.like.under.count S.like.under.params S.like.under.answer S.like.under.bounds l k).1 (subst (λ o. Outlives D o l k) S.like.under.old h)

  in_call : (b l k : ℕ) → l < S.like.under.count → k < S.like.under.count → f l ≡ f k → Follows (call_asks b) (b + l) (b + k)
  in_call b l k h g e =
      let n : lifetimes (slice_get D i) ≡ S.like.under.count = ap lifetimes S.like.under.old in
      let w = known_says l k (S.numbers.known l k (subst (λ m. l < m) (sym n) h) (subst (λ m. k < m) (sym n) g) e) in
      subst (λ x. Follows (call_asks b) x (b + k)) (from_at b S.like.under.count l h)
      (subst (λ x. Follows (call_asks b) (turned b l) x) (from_at b S.like.under.count k g) (follows_moved (turned b) says (call_asks b) (says_moved b) l k w))

  signature_is : (b : ℕ) → signature_asks C (signature_from b (slice_get D i)) ≡ call_asks b
  signature_is b = ap (λ o. signature_asks C (signature_from b o)) S.like.under.old

  follows_front : (ps qs : List Bound) (l k : ℕ) → Follows ps l k → Follows (ps ++ qs) l k
  follows_front ps qs l k = follows_more ps (ps ++ qs) (λ x y. has_front ps qs x y) l k

  follows_behind : (ps qs : List Bound) (l k : ℕ) → Follows qs l k → Follows (ps ++ qs) l k
  follows_behind ps qs l k = follows_more qs (ps ++ qs) (λ x y. has_behind ps qs x y) l k

  act_asks : (ps : List Bound) (a : Act) (b : ℕ) → ((l k : ℕ) → Follows (asks C a (own_of D b a)) l k → Follows ps l k) → AsksAt i f D E S ps a b
  act_asks ps (Call j ts d) b into = λ e l k h g q.
      let n : lifetimes_of (slice_get D i) ≡ S.like.under.count = ap lifetimes_of S.like.under.old in
      into (b + l) (b + k) (follows_front (signature_asks C (signature_from b (slice_get D j))) (parameters_flow C (signature_from b (slice_get D j)).params ts ++ flows C (signature_from b (slice_get D j)).answer (held C d))
      (b + l) (b + k) (subst (λ m. Follows (signature_asks C (signature_from b (slice_get D m))) (b + l) (b + k)) (sym e)
      (subst (λ x. Follows x (b + l) (b + k)) (sym (signature_is b)) (in_call b l k (subst (λ m. l < m) n h) (subst (λ m. k < m) n g) q))))
  act_asks ps (Borrow m p d) b into = tt
  act_asks ps (Declare x) b into = tt
  act_asks ps (Dead x) b into = tt
  act_asks ps (Read m p d) b into = tt
  act_asks ps (Write p t ss) b into = tt
  act_asks ps (Test p c) b into = tt
  act_asks ps (Build w is ts d) b into = tt
  act_asks ps (Input d) b into = tt
  act_asks ps (Print t) b into = tt
  act_asks ps (Give t) b into = tt

  pub all_asks : (ps : List Bound) (us : List Action) (b : ℕ) → ((l k : ℕ) → Follows (all_ask C us (all_owned D b us)) l k → Follows ps l k) → AllAsk i f D E S ps us b
  all_asks ps [] b into = tt
  all_asks ps (a ∷ us) b into = (
    act_asks ps a.act b (λ l k h. into l k (follows_front (asks C a.act (own_of D b a.act)) (all_ask C us (all_owned D (b + own_lifetimes D a.act) us)) l k h)),
    all_asks ps us (b + own_lifetimes D a.act) (λ l k h. into l k (follows_behind (asks C a.act (own_of D b a.act)) (all_ask C us (all_owned D (b + own_lifetimes D a.act) us)) l k h)),
  )
