-- Where the new bounds of a function follow from what its signature said, a call asks no more than it did: so callers are accepted by the
-- same sets. By induction on the actions; borrows have the same regions, so the loans are the same.
use Rattle.std.proofs.Common.{◌≡◌, ◌≢◌, ◌⊎◌, inl, inr, ℕ, zero, suc, ◌+◌, ◌<◌, true, List, [], ◌∷◌, ◌++◌, map, Option, Some, None, option_map, slice_get, refl, sym, ap, subst, ◌∙◌}
use Rattle.rx_core.specs.declared.types.Bound.{Bound}
use Rattle.rx_core.specs.declared.types.Ty.{Ty}
use Rattle.rx_typed.specs.declared.declarations.Decl.{Decl}
use Rattle.rx_typed.specs.declared.declarations.Decl.TheVariants as decl
use Rattle.rx_typed.specs.Regions.{RegionTyp, RegionTyps, regions_of, region-Ty}
use Rattle.rx_typed.specs.Tree.{Temporary}
use Rattle.rx_lower_walks.specs.Actions.{Act, Declare, Dead, Read, Write, Borrow, Test, Call, Build, Input, Print, Give, Action}
use Rattle.rx_lower_walks.specs.Graph.{Site}
use Rattle.rx_lower_walks.specs.Text.{actions_of}
use Rattle.rx_lower_walks.specs.Pieces.{graph}
use Rattle.rx_region_outlives.specs.Implied.{HasPair, implied_in, implied_among}
use Rattle.rx_region_outlives.proofs.ImpliedLemmas.{has_front, has_behind, has_either}
use Rattle.rx_typed.specs.Renaming.{Signature, signature_from, of_list, from, renamed, all_renamed, bound_renamed}
use Rattle.rx_lower_lifetimes.specs.Values.{Open, lifetimes_of}
use Rattle.rx_lower_lifetimes.specs.Numbered as numbered
use Rattle.rx_lower_lifetimes.specs.Numbered.{Own, signed, own_of, all_owned, all_open}
use Rattle.rx_lower_lifetimes.specs.Positions.{own_lifetimes}
use Rattle.rx_lower_lifetimes.specs.Lowered.{bounds_of}
use Rattle.rx_typeck_typed.specs.declared.typed.TypedFn.{TypedFn}
use Rattle.rx_facts.specs.Functions.{body, sites_of}
use Rattle.rx_region.specs.Constraints.{Context, held, flows, parameters_flow, signature_asks, asks, all_ask, formed, imposed}
use Rattle.rx_region.specs.Solutions.{Sets}
use Rattle.rx_region.specs.Known.{KnownToOutlive, told}
use Rattle.rx_region.specs.Tables.{Follows, itself, by}
use Rattle.rx_loan.specs.Accesses.{Loan}
use Rattle.rx_loan.specs.Loans.{loan_at, loans_from, loans_of, IsLegal}
use Rattle.rx_loan.specs.Accepted.{at_sites, AcceptedBy, IsAccepted}
use Rattle.rx_check.specs.Contexts.{context_of}
use Rattle.rx_repair.specs.Asking.{AsksNoMore}
use Rattle.rx_repair.specs.Bounded.{bounded, with_bounds}
use Rattle.rx_repair.specs.LeastBounds.{by_types}
use Rattle.rx_repair.specs.Signatures.{signature_says}
use Rattle.rx_repair.proofs.Asked.{solution_too}
use Rattle.rx_repair.proofs.Deciding.{same_or, follows_more, follows_behind}
use Rattle.rx_repair.proofs.Observed.{of_item, elsewhere, at_item, lifetimes_at, own_lifetimes_same}
use Rattle.rx_repair.proofs.Imposed.{ReadsAlike, asks_alike, parameters_alike, answer_alike, formed_alike, by_types_alike}
use Rattle.rx_repair.proofs.OtherBounds.{reads_alike, variables_alike, temporaries_alike, those, temporaries}
use Rattle.rx_repair.proofs.Accepting.{known_follows, follows_known}
use Rattle.rx_repair.proofs.Renamed.{Moved, both_moved, implied_moved, among_moved, bounds_moved, bounds_back, follows_moved}

-- each pair of the first follows from the second
abbrev pub AllFollow : List Bound → List Bound → Type 0
AllFollow ps qs = (l k : ℕ) → HasPair ps l k → Follows qs l k

follows_front : (ps qs : List Bound) (l k : ℕ) → Follows ps l k → Follows (ps ++ qs) l k
follows_front ps qs l k = follows_more ps (ps ++ qs) (λ x y. has_front ps qs x y) l k

both_follow : (ps qs rs ss : List Bound) → AllFollow ps rs → AllFollow qs ss → AllFollow (ps ++ qs) (rs ++ ss)
both_follow ps qs rs ss a b l k h = elim (has_either ps qs l k h) [ inl x ↦ follows_front rs ss l k (a l k x) | inr y ↦ follows_behind rs ss l k (b l k y) ]

same_follow : (ps qs : List Bound) → ps ≡ qs → AllFollow ps qs
same_follow ps qs e l k h = by k (subst (λ (x : List Bound). HasPair x l k) e h) itself

-- ---- signatures

signature_params_same : (bs : List Bound) (n : ℕ) (d : Decl) → (signature_from n (Some (bounded bs d))).params ≡ (signature_from n (Some d)).params
signature_params_same bs n decl.Rt = refl
signature_params_same bs n (decl.Struct c l vs fs) = refl
signature_params_same bs n (decl.Enum c l vs ds) = refl
signature_params_same bs n (decl.Func l ps t old) = refl

signature_answer_same : (bs : List Bound) (n : ℕ) (d : Decl) → (signature_from n (Some (bounded bs d))).answer ≡ (signature_from n (Some d)).answer
signature_answer_same bs n decl.Rt = refl
signature_answer_same bs n (decl.Struct c l vs fs) = refl
signature_answer_same bs n (decl.Enum c l vs ds) = refl
signature_answer_same bs n (decl.Func l ps t old) = refl

-- what a signature asks of its lifetimes
abbrev asked : (ℕ → List Bound) → Signature → List Bound
asked P S = S.bounds ++ (implied_among P S.params ++ implied_in P S.answer)

module _ (P : ℕ → List Bound) (bs : List Bound) (n : ℕ) where
  signature_moved : (l : ℕ) (ps : List Ty) (t : Ty) (old : List Bound)
      → Moved (of_list (from n l)) (signature_says P (Some (decl.Func l ps t old))) (asked P (signature_from n (Some (decl.Func l ps t old))))
  signature_moved l ps t old =
      let r = of_list (from n l) in let us = regions_of (map region-Ty ps) in let v = region-Ty t in
      both_moved r old (implied_among P us ++ implied_in P v) (map (bound_renamed r) old) (implied_among P (all_renamed r us) ++ implied_in P (renamed r v)) (bounds_moved r old)
      (both_moved r (implied_among P us) (implied_in P v) (implied_among P (all_renamed r us)) (implied_in P (renamed r v)) (among_moved r P us) (implied_moved r P v))

  -- the new bounds follow, of a call's lifetimes
  new_bounds : (o : Option Decl) → AllFollow bs (signature_says P o) → AllFollow (signature_from n (option_map (bounded bs) o)).bounds (asked P (signature_from n o))
  new_bounds None all x y h = absurd h
  new_bounds (Some decl.Rt) all x y h = absurd h
  new_bounds (Some (decl.Struct c l vs fs)) all x y h = absurd h
  new_bounds (Some (decl.Enum c l vs ds)) all x y h = absurd h
  new_bounds (Some (decl.Func l ps t old)) all x y h =
      let r = of_list (from n l) in
      let w = bounds_back r bs x y h in
      subst (λ z. Follows (asked P (signature_from n (Some (decl.Func l ps t old)))) z y) w.first
      (subst (λ z. Follows (asked P (signature_from n (Some (decl.Func l ps t old)))) (r w.long) z) w.second
      (follows_moved r (signature_says P (Some (decl.Func l ps t old))) (asked P (signature_from n (Some (decl.Func l ps t old)))) (signature_moved l ps t old) w.long w.short (all w.long w.short w.pair)))

module _ (D : List Decl) (P : ℕ → List Bound) (i : ℕ) (bs : List Bound) (all : AllFollow bs (signature_says P (slice_get D i))) where
  abbrev other : List Decl
  other = with_bounds D i bs

  -- the bounds of any call
  call_bounds : (n f : ℕ) → AllFollow (signature_from n (slice_get other f)).bounds (asked P (signature_from n (slice_get D f)))
  call_bounds n f = elim (same_or f i) [
    | inl e ↦ subst (λ k. AllFollow (signature_from n (slice_get other k)).bounds (asked P (signature_from n (slice_get D k)))) (sym e)
        (subst (λ (o : Option Decl). AllFollow (signature_from n o).bounds (asked P (signature_from n (slice_get D i)))) (sym (at_item bs D i)) (new_bounds P bs n (slice_get D i) all))
    | inr ne ↦ (λ l k h. follows_front (signature_from n (slice_get D f)).bounds (implied_among P (signature_from n (slice_get D f)).params ++ implied_in P (signature_from n (slice_get D f)).answer) l k
        (same_follow (signature_from n (slice_get other f)).bounds (signature_from n (slice_get D f)).bounds (ap (λ (o : Option Decl). (signature_from n o).bounds) (elsewhere bs D i f ne)) l k h))
  ]

  module _ (h : TypedFn) where
    abbrev C : Context
    C = context_of D P h

    abbrev K : Context
    K = context_of other P h

    reads : ReadsAlike K C
    reads = reads_alike D i bs P h

    -- what is asked by the types of a call
    call_same : (n f : ℕ) (ts : List Temporary) (d : Temporary)
        → parameters_flow K (signature_from n (slice_get other f)).params ts ++ flows K (signature_from n (slice_get other f)).answer (held K d)
        ≡ parameters_flow C (signature_from n (slice_get D f)).params ts ++ flows C (signature_from n (slice_get D f)).answer (held C d)
    call_same n f ts d =
        let params : (signature_from n (slice_get other f)).params ≡ (signature_from n (slice_get D f)).params =
        of_item bs (λ (o : Option Decl). (signature_from n o).params) (signature_params_same bs n) D i f in
        let answer : (signature_from n (slice_get other f)).answer ≡ (signature_from n (slice_get D f)).answer =
        of_item bs (λ (o : Option Decl). (signature_from n o).answer) (signature_answer_same bs n) D i f in
        let first : parameters_flow K (signature_from n (slice_get other f)).params ts ≡ parameters_flow C (signature_from n (slice_get D f)).params ts =
        ap (λ (us : RegionTyps). parameters_flow K us ts) params ∙ parameters_alike K C reads (signature_from n (slice_get D f)).params ts in
        let second : flows K (signature_from n (slice_get other f)).answer (held K d) ≡ flows C (signature_from n (slice_get D f)).answer (held C d) =
        ap (λ (t : RegionTyp). flows K t (held K d)) answer ∙ answer_alike K C reads (signature_from n (slice_get D f)).answer d in
        λ j. first j ++ second j

    implied_same : (n f : ℕ) → AllFollow (implied_among P (signature_from n (slice_get other f)).params ++ implied_in P (signature_from n (slice_get other f)).answer)
        (asked P (signature_from n (slice_get D f)))
    implied_same n f l k w = follows_behind (signature_from n (slice_get D f)).bounds
        (implied_among P (signature_from n (slice_get D f)).params ++ implied_in P (signature_from n (slice_get D f)).answer) l k
        (same_follow (implied_among P (signature_from n (slice_get other f)).params ++ implied_in P (signature_from n (slice_get other f)).answer)
        (implied_among P (signature_from n (slice_get D f)).params ++ implied_in P (signature_from n (slice_get D f)).answer)
        (λ j. implied_among P (of_item bs (λ (o : Option Decl). (signature_from n o).params) (signature_params_same bs n) D i f j)
        ++ implied_in P (of_item bs (λ (o : Option Decl). (signature_from n o).answer) (signature_answer_same bs n) D i f j)) l k w)

    call_asked : (n f : ℕ) → AllFollow (asked P (signature_from n (slice_get other f))) (asked P (signature_from n (slice_get D f)))
    call_asked n f l k w = elim (has_either (signature_from n (slice_get other f)).bounds (implied_among P (signature_from n (slice_get other f)).params ++ implied_in P (signature_from n (slice_get other f)).answer) l k w) [
      | inl x ↦ call_bounds n f l k x
      | inr y ↦ implied_same n f l k y
    ]

    action_asks : (n : ℕ) (a : Act) → AllFollow (asks K a (own_of other n a)) (asks C a (own_of D n a))
    action_asks n (Call f ts d) =
        both_follow (asked P (signature_from n (slice_get other f)))
        (parameters_flow K (signature_from n (slice_get other f)).params ts ++ flows K (signature_from n (slice_get other f)).answer (held K d))
        (asked P (signature_from n (slice_get D f)))
        (parameters_flow C (signature_from n (slice_get D f)).params ts ++ flows C (signature_from n (slice_get D f)).answer (held C d))
        (call_asked n f) (same_follow _ _ (call_same n f ts d))
    action_asks n (Declare x) = same_follow _ _ (asks_alike K C reads (Declare x) numbered.none)
    action_asks n (Dead x) = same_follow _ _ (asks_alike K C reads (Dead x) numbered.none)
    action_asks n (Read m p d) = same_follow _ _ (asks_alike K C reads (Read m p d) numbered.none)
    action_asks n (Write p t ss) = same_follow _ _ (asks_alike K C reads (Write p t ss) numbered.none)
    action_asks n (Borrow k p d) = same_follow _ _ (asks_alike K C reads (Borrow k p d) (numbered.region n))
    action_asks n (Test p c) = same_follow _ _ (asks_alike K C reads (Test p c) numbered.none)
    action_asks n (Build w is ts d) = same_follow _ _ (asks_alike K C reads (Build w is ts d) numbered.none)
    action_asks n (Input d) = same_follow _ _ (asks_alike K C reads (Input d) numbered.none)
    action_asks n (Print t) = same_follow _ _ (asks_alike K C reads (Print t) numbered.none)
    action_asks n (Give t) = same_follow _ _ (asks_alike K C reads (Give t) numbered.none)

    all_asked : (n : ℕ) (us : List Action) → AllFollow (all_ask K us (all_owned other n us)) (all_ask C us (all_owned D n us))
    all_asked n [] = λ l k w. absurd w
    all_asked n (a ∷ us) =
        both_follow (asks K a.act (own_of other n a.act)) (all_ask K us (all_owned other (n + own_lifetimes other a.act) us))
        (asks C a.act (own_of D n a.act)) (all_ask C us (all_owned D (n + own_lifetimes D a.act) us)) (action_asks n a.act)
        (subst (λ m. AllFollow (all_ask K us (all_owned other (n + m) us)) (all_ask C us (all_owned D (n + own_lifetimes D a.act) us))) (sym (own_lifetimes_same bs D i a.act))
        (all_asked (n + own_lifetimes D a.act) us))

    abbrev us : List Action
    us = actions_of (graph (body h))

    -- the number behind those of types is the same
    abbrev base : ℕ
    base = lifetimes_of (slice_get D h.item) + all_open (those D i bs P h D ++ numbered.opened (temporaries D i bs P h D (those D i bs P h D)))

    base_same : K.lifetimes.owned ≡ all_owned other base us
    base_same = λ j. all_owned other (lifetimes_at bs D i h.item j + all_open (variables_alike D i bs P h j ++ numbered.opened (temporaries_alike D i bs P h j))) us

    pub caller_asks : AsksNoMore K C us
    caller_asks = record {
      own = reads.own;
      types = reads.types;
      temporaries = reads.temporaries;
      pairs = both_follow (all_ask K us K.lifetimes.owned) (formed K 0 K.lifetimes.types) (all_ask C us C.lifetimes.owned) (formed C 0 C.lifetimes.types)
          (subst (λ (os : List Own). AllFollow (all_ask K us os) (all_ask C us C.lifetimes.owned)) (sym base_same) (all_asked base us))
          (same_follow (formed K 0 K.lifetimes.types) (formed C 0 C.lifetimes.types) (formed_alike K C reads));
    }

    -- ---- loans

    loan_same : (n m : ℕ) (a : Act) → loan_at n a (own_of other m a) ≡ loan_at n a (own_of D m a)
    loan_same n m (Borrow k p d) = refl
    loan_same n m (Call f ts d) = refl
    loan_same n m (Declare x) = refl
    loan_same n m (Dead x) = refl
    loan_same n m (Read b p d) = refl
    loan_same n m (Write p t ss) = refl
    loan_same n m (Test p c) = refl
    loan_same n m (Build w is ts d) = refl
    loan_same n m (Input d) = refl
    loan_same n m (Print t) = refl
    loan_same n m (Give t) = refl

    loans_from_same : (n m : ℕ) (g : List Site) → loans_from n g (all_owned other m (actions_of g)) ≡ loans_from n g (all_owned D m (actions_of g))
    loans_from_same n m [] = refl
    loans_from_same n m (s ∷ g) =
        let more : loans_from (n + 1) g (all_owned other (m + own_lifetimes other s.action.act) (actions_of g)) ≡ loans_from (n + 1) g (all_owned D (m + own_lifetimes D s.action.act) (actions_of g)) =
        ap (λ k. loans_from (n + 1) g (all_owned other (m + k) (actions_of g))) (own_lifetimes_same bs D i s.action.act) ∙ loans_from_same (n + 1) (m + own_lifetimes D s.action.act) g in
        λ j. loan_same n m s.action.act j ++ more j

    loans_same : loans_of (sites_of h) K.lifetimes.owned ≡ loans_of (sites_of h) C.lifetimes.owned
    loans_same = ap (loans_of (sites_of h)) base_same ∙ loans_from_same 0 base (sites_of h)

    -- ---- acceptance

    told_same : h.item ≢ i → told K ≡ told C
    told_same ne = λ j. bounds_of (elsewhere bs D i h.item ne j) ++ by_types_alike K C reads j

    known_same : h.item ≢ i → (l k : ℕ) → KnownToOutlive C l k → KnownToOutlive K l k
    known_same ne l k w = follows_known K l k (subst (λ (ps : List Bound). Follows ps l k) (sym (told_same ne)) (known_follows C l k w))

    pub caller_accepted : h.item ≢ i → IsAccepted C (sites_of h) → IsAccepted K (sites_of h)
    caller_accepted ne a = (
      a.0,
      record {
        solution = solution_too K C (sites_of h) caller_asks a.0 a.1.solution;
        known = λ l k w v x. known_same ne l k (a.1.known l k (subst (λ n. l < n) reads.own w) (subst (λ n. k < n) reads.own v) x);
        legal = subst (λ (ls : List Loan). IsLegal (sites_of h) (at_sites a.0) ls) (sym loans_same) a.1.legal;
      },
    )
