-- A function of a program that fits, without bounds of its own, has one list of bounds that it needs: two typed programs of one text have the
-- same lifetimes, and there are lists of the pairs that fields ask.
use Rattle.std.proofs.Common.{◌≡◌, ◌↔◌, ℕ, zero, suc, ◌≤◌, List, [], ◌∷◌, length, map, replicate, get_or, Some, refl, sym, ap, subst, arith}
use Rattle.std.proofs.Math.ListN.{length-replicate}
use Rattle.rx_core.specs.declared.types.Bound.{Bound}
use Rattle.rx_core.specs.declared.types.Span.{Span}
use Rattle.rx_tree.specs.declared.tree.BoundLifetime.{BoundLifetime}
use Rattle.rx_tree.specs.Lists.{nth, Every}
use Rattle.rx_tree.specs.Plain as plain
use Rattle.rx_tree.specs.Plain.{ProgramTree}
use Rattle.rx_graph_cycles.specs.Reaches.{targets, IsIn, NoCycle}
use Rattle.rx_graph_cycles.proofs.Placing.{order_exists}
use Rattle.rx_resolve_names.specs.declared.resolved.ItemNames.{ItemNames}
use Rattle.rx_typed.specs.declared.declarations.Decl.{Decl}
use Rattle.rx_typed.specs.PlainTypes.{declarations}
use Rattle.rx_typed.specs.Regions.{RegionTyp, RegionTyps, no_region, regions_at, all_erased, regions}
use Rattle.rx_typed_declarations.specs.Held.{held_by_each, named_among}
use Rattle.rx_typed_declarations.specs.Variance.{unrecorded, Recorded}
use Rattle.rx_typed_declarations.proofs.RegionLemmas.{item_erased}
use Rattle.rx_typed_declarations.proofs.Filling.{fill_by, all_filled}
use Rattle.rx_typeck_typed.specs.declared.typed.Typed.{Typed}
use Rattle.rx_typeck_typed.specs.declared.typed.TypedFn.{TypedFn}
use Rattle.rx_typeck_typed.specs.Typing.{IsTyped}
use Rattle.rx_lower_walks.specs.Graph.{Site}
use Rattle.rx_lower.specs.Functions.{function_at}
use Rattle.rx_region_outlives.specs.Implied.{ImpliedAmong, ImpliedBy, in_held, pairs_of, implied_among, ImpliesOf}
use Rattle.rx_region_outlives.proofs.ImpliedLemmas.{among_told}
use Rattle.rx_region.specs.Constraints.{Context}
use Rattle.rx_region.specs.Known.{Missing}
use Rattle.rx_facts.specs.Functions.{sites_of}
use Rattle.rx_facts.specs.Same.{SameFunction, AreSame}
use Rattle.rx_check.specs.Contexts.{AreAsked, context_of}
use Rattle.rx_repair.specs.LeastBounds.{IsLeastBound, AreLeastBounds}
use Rattle.rx_engine_extraction.specs.Hoisting.{IsBare}
use Rattle.rx_engine_extraction.specs.Meeting.{Fits}
use Rattle.rx_engine_extraction.proofs.AgreeingPairs.{asked_too, missing_too}
use Rattle.rx_engine_extraction.proofs.AgreeingTypes.{one_meaning, each_at}

-- ---- the pairs that fields ask: where no item reaches itself, there are lists of them

none_past : (items : List Decl) (n : ℕ) → length (held_by_each (declarations items)) ≤ n → regions_at (regions items) n ≡ no_region
none_past [] n h = refl
none_past (d ∷ ds) zero h = absurd (omega (arith, h))
none_past (d ∷ ds) (suc n) h = none_past ds n (omega (arith, h))

targets_named : (items : List Decl) (n : ℕ) → targets (held_by_each (declarations items)) n ≡ named_among (all_erased (regions_at (regions items) n))
targets_named [] n = refl
targets_named (d ∷ ds) zero = ap named_among (sym (item_erased d))
targets_named (d ∷ ds) (suc n) = targets_named ds n

module _ (items : List Decl) where
  abbrev H : List (List RegionTyp)
  H = regions items

  abbrev edges : List (List ℕ)
  edges = held_by_each (declarations items)

  nothing : (ts : RegionTyps) (x y : ℕ) → ts ≡ no_region → ImpliedAmong H ts x y → ⊥
  nothing ts x y is h = none_there (subst (λ (rs : RegionTyps). ImpliedAmong H rs x y) is h)
    where
      none_there : ImpliedAmong H no_region x y → ⊥
      none_there h = elim h [ ]

  of_held : (n x y : ℕ) → ImpliedBy H n x y → ImpliedAmong H (regions_at H n) x y
  of_held n x y (in_held h) = h

  past : (i : ℕ) → length edges ≤ i → ImpliesOf H i []
  past i le x y = (λ h. absurd h, λ h. absurd (nothing (regions_at H i) x y (none_past items i le) (of_held i x y h)))

  abbrev value : List (List Bound) → ℕ → List Bound
  value table n = implied_among (pairs_of table) (regions_at H n)

  step : (table : List (List Bound)) (n : ℕ) → ((j : ℕ) → IsIn (targets edges n) j → ImpliesOf H j (get_or table j [])) → ImpliesOf H n (value table n)
  step table n tells x y =
      let told = among_told H (pairs_of table) (regions_at H n)
      (subst (λ (ns : List ℕ). (j : ℕ) → IsIn ns j → ImpliesOf H j (get_or table j [])) (targets_named items n) tells) x y in
      (λ h. in_held (told.0 h), λ h. told.1 (of_held n x y h))

  pub asked_exist : NoCycle (held_by_each (declarations items)) → (P : ℕ → List Bound) × AreAsked items P
  asked_exist apart =
      let o = order_exists edges apart in
      let table = replicate (length edges) [] in (
        λ i. get_or (fill_by value table o.0) i [],
        all_filled (List Bound) [] edges (λ i ps. ImpliesOf H i ps) value past step o.0 table (length-replicate (length edges) []) o.1,
      )

-- ---- bounds

same_back : (f g : TypedFn) → SameFunction f g → SameFunction g f
same_back f g s = record {
  item = sym s.item;
  names = sym s.names;
  spans = sym s.spans;
  mutable = sym s.mutable;
  bodies = sym s.bodies;
  types = sym s.types;
  annotated = sym s.annotated;
}

module _ (same : (p : ProgramTree) (names : List ItemNames) (t u : Typed) → IsTyped p names t → IsTyped p names u → AreSame t u)
    (finite : (p : ProgramTree) (names : List ItemNames) (t : Typed) → IsTyped p names t → NoCycle (held_by_each (declarations t.decls.items)))
    (none : (p : ProgramTree) (names : List ItemNames) (t : Typed) → IsTyped p names t → (n : ℕ) (s : Span) (f : plain.Function) → nth p n ≡ Some (plain.function_item s f)
    → Every (λ (l : BoundLifetime). l.bounds ≡ []) f.lifetimes → (g : TypedFn) → function_at t.functions n ≡ Some g → (P : ℕ → List Bound) → (context_of t.decls.items P g).lifetimes.bounds ≡ [])
    (missing : (C : Context) (g : List Site) → C.lifetimes.bounds ≡ [] → (l k : ℕ) → IsLeastBound C g l k ↔ Missing C g l k)
    (one : (C : Context) (g : List Site) (bs cs : List Bound) → AreLeastBounds C g bs → AreLeastBounds C g cs → bs ≡ cs) where
  least_too : (D E : List Decl) (items : map unrecorded D ≡ map unrecorded E) (recorded : Recorded D) (other : Recorded E) (P : ℕ → List Bound)
      (g h : TypedFn) → SameFunction g h → (context_of D P g).lifetimes.bounds ≡ [] → (context_of E P h).lifetimes.bounds ≡ [] → (cs : List Bound)
      → AreLeastBounds (context_of E P h) (sites_of h) cs → AreLeastBounds (context_of D P g) (sites_of g) cs
  least_too D E items recorded other P g h s a b cs least = record {
    exact = λ l k. (
      (λ x. (missing (context_of D P g) (sites_of g) a l k).1 (missing_too E D (sym items) other recorded P h g (same_back g h s) l k
          ((missing (context_of E P h) (sites_of h) b l k).0 ((least.exact l k).0 x)))),
      (λ x. (least.exact l k).1 ((missing (context_of E P h) (sites_of h) b l k).1 (missing_too D E items recorded other P g h s l k ((missing (context_of D P g) (sites_of g) a l k).0 x)))),
    );
    ordered = least.ordered;
  }

  pub one_bounds : (p : ProgramTree) (n : ℕ) → IsBare p n → (t u : Typed) (g h : TypedFn) (bs cs : List Bound) → Fits p n t g bs → Fits p n u h cs → bs ≡ cs
  one_bounds p n bare t u g h bs cs a b =
      let names = a.front.names in
      let typed : IsTyped p names u = subst (λ (x : List ItemNames). IsTyped p x u) (one_meaning p b.front.names names b.front.meant a.front.meant) b.front.typed in
      let D = t.decls.items in let E = u.decls.items in
      let s = same p names t u a.front.typed typed in
      let f = each_at SameFunction (λ x y k. k.item) t.functions u.functions s.functions n g h a.made b.made in
      let P = asked_exist D (finite p names t a.front.typed) in
      let too = asked_too D E s.items P.0 P.1 in
      let x = none p names t a.front.typed n bare.span bare.function bare.there bare.bare g a.made P.0 in
      let y = none p names u typed n bare.span bare.function bare.there bare.bare h b.made P.0 in
      one (context_of D P.0 g) (sites_of g) bs cs (a.bounds P.0 P.1 x)
      (least_too D E s.items a.front.typed.recorded typed.recorded P.0 g h f x y cs (b.bounds P.0 too y))
