-- Variables of the new function that are handed out: in a variant, a tuple, or alone.
use Rattle.std.proofs.Common.{◌≡◌, ◌+◌, ℕ, zero, suc, Bool, true, false, List, [], ◌∷◌, slice_get, Some, Option, refl, sym, ap, ◌∙◌, subst, arith}
use Rattle.rx_core.specs.declared.types.Kind.{Kind}
use Rattle.rx_resolve_names.specs.Scopes.{variable_named}
use Rattle.rx_typed.specs.declared.nodes.Node.{Node}
use Rattle.rx_typed.specs.declared.nodes.Site.{Site}
use Rattle.rx_typed.specs.declared.nodes.Use.{Use}
use Rattle.rx_typed.specs.Types.{boolean, integer, named as item, no_shape, reference, shape_and, shape_map, shapes_map, tuple_of, variant_parts, Shapes, Typ}
use Rattle.rx_typed.specs.Elaborated.{Assigned}
use Rattle.rx_typed.specs.Named as named
use Rattle.rx_typed.specs.Named.{node_of, Exp, Exps}
use Rattle.rx_hoist_extraction.specs.Plan.{names_of, Variable}
use Rattle.rx_hoist_extraction.specs.Values.{variables_held}
use Rattle.rx_typeck_solver.specs.declared.facts.Demand.{Demand}
use Rattle.rx_typeck_solver.specs.declared.facts.Subject.TheVariants as subject
use Rattle.rx_typeck_solver.specs.Facts.{fixed, Assignment, KnownItems, MeetsEach}
use Rattle.rx_typeck_typed.specs.Asking.{expected, type_of}
use Rattle.rx_typeck_typed.specs.Demands as rules
use Rattle.rx_engine_names.specs.Renaming.{Renaming as Pairing}
use Rattle.rx_engine_names.specs.Moves.{AreOuts, Moves}
use Rattle.rx_engine_names.specs.Moves.AreOuts.{more_outs, no_outs}
use Rattle.rx_engine_names.specs.Moves.IsOut.{is_out}
use Rattle.rx_engine_blocks.specs.Renumbering.{shape_at, Renumbering}
use Rattle.rx_engine_typing.specs.Corresponding.{given_types}
use Rattle.rx_engine_typing.proofs.Asking.{asks_map, both, met_behind, none, one_asked, quiet, refused, then_first, then_u, Asks, U}
use Rattle.rx_engine_changed.specs.Spots.{NumberedExps, Spot}
use Rattle.rx_engine_simulation.specs.Sights.{Renaming}
use Rattle.rx_engine_related.specs.Leaving.{HaveThere}
use Rattle.rx_engine_related.specs.Leaving.HaveThere.{none_there, there_and}
use Rattle.rx_engine_made_trees.specs.Nodes.KeepsItsType.{of_any_type, of_its_type}
use Rattle.rx_engine_made_trees.specs.Giving.{NamesAll}
use Rattle.rx_engine_made_trees.specs.Giving.NamesVariable.{a_variable}
use Rattle.rx_engine_made_trees.specs.Giving.NamesAll.{names_and, names_none}
use Rattle.rx_engine_made_calls.specs.Plans.{Rows}
use Rattle.rx_engine_made_calls.specs.Plans.Rows.{more_rows, no_rows}
use Rattle.rx_engine_made_calls.specs.NewEnds.{OutThere}
use Rattle.rx_engine_made_calls.proofs.Telling.{one_some, types_there}

mutual
  map_itself : (t : Typ) → shape_map (λ k. k) t ≡ t
  map_itself (integer k) = refl
  map_itself boolean = refl
  map_itself (tuple_of ts) = ap tuple_of (maps_itself ts)
  map_itself (reference m t) = ap (reference m) (map_itself t)
  map_itself (item i) = refl

  maps_itself : (ts : Shapes Kind) → shapes_map (λ k. k) ts ≡ ts
  maps_itself no_shape = refl
  maps_itself (shape_and t ts) = ap (λ u. shape_and u (shapes_map (λ k. k) ts)) (map_itself t) ∙ ap (shape_and t) (maps_itself ts)

pub fixed_is : (o : Option Typ) (t c : Typ) → o ≡ Some t → fixed (λ k. k) o ≡ Some c → c ≡ t
fixed_is o t c i e = sym (one_some (shape_map (λ k. k) t) c (sym (ap (fixed (λ k. k)) i) ∙ e)) ∙ map_itself t

module _ (K : KnownItems) (W : Assignment) where
  -- a variable has its type where it is named
  named_asks : (n : Node) (x : Use) (b : Bool) → Asks K W (W (type_of n) ≡ W (subject.Variable x.number)) (rules.named_at n x b)
  named_asks n x true = asks_map (λ h. sym (one_some (W (subject.Variable x.number)) (W (type_of n)) h.0)) (one_asked n _ _ _)
  named_asks n x false = asks_map (λ h. absurd h) (refused n _)

  place_u : (n : Node) (x : ℕ) (s : Site) → U K W (rules.place_in n x [] s)
  place_u n x Site.Value = quiet n _ _ _
  place_u n x Site.Place = none
  place_u n x Site.Scrutinee = none
  place_u n x Site.Expects = then_u (quiet n _ _ _) (then_u (quiet n _ _ _) (quiet n _ _ _))
  place_u n x Site.Initialises = then_u (quiet n _ _ _) (quiet n _ _ _)
  place_u n x Site.Reborrows = then_u (quiet n _ _ _) (then_u (quiet n _ _ _) (quiet n _ _ _))

  pub variable_asks : (f : ℕ) (n : Node) (x : Use) → Asks K W (W (type_of n) ≡ W (subject.Variable x.number)) (rules.of_exp f (named.var n x))
  variable_asks f n x = then_first (named_asks n x x.known) (place_u n x.number n.site)

  -- what is expected of each, and its own type
  abbrev pub Expected : rules.Listed → ℕ → Node → Type 0
  Expected (rules.parts_of i v) k n = fixed (λ k. k) (slice_get (variant_parts K.items i v) k) ≡ Some (W (expected n))
  Expected _ k n = Unit {0}

  abbrev pub IsTyped : Exp → Type 0
  IsTyped (named.var n x) = W (type_of n) ≡ W (subject.Variable x.number)
  IsTyped _ = Unit {0}

  abbrev pub AreTyped : rules.Listed → ℕ → Exps → Type 0
  AreTyped w k named.no_exp = Unit {0}
  AreTyped w k (named.exp_and e es) = (Expected w k (node_of e) × IsTyped e) × AreTyped w (suc k) es

  before_asks : (w : rules.Listed) (k : ℕ) (n : Node) → Asks K W (Expected w k n) (rules.each_before w k n)
  before_asks rules.members k n = none
  before_asks rules.values k n = none
  before_asks (rules.parameters g) k n = quiet n _ _ _
  before_asks (rules.parts_of i v) k n = asks_map (λ h. h.0) (one_asked n _ _ _)

  after_u : (w : rules.Listed) (n : Node) (x : Use) → U K W (rules.each_after w (named.var n x))
  after_u rules.members n x = none
  after_u rules.values n x = none
  after_u (rules.parameters g) n x = none
  after_u (rules.parts_of i v) n x = none

  pub outs_ask : {V : Moves} {N : Pairing} {xs : List (List ℕ)} {es : Exps} (f : ℕ) (w : rules.Listed) (k : ℕ) → AreOuts V N xs es → Asks K W (AreTyped w k es) (rules.of_each f w k es)
  outs_ask f w k no_outs = none
  outs_ask f w k (more_outs (is_out {n = n} {u = x} i v r) outs) =
      asks_map (λ h. ((h.0, h.1.0), h.1.1.1)) (both (before_asks w k n) (both (variable_asks f n x) (both (after_u w n x) (outs_ask f w (suc k) outs))))

  -- behind others
  pub outs_typed : {V : Moves} {N : Pairing} {xs : List (List ℕ)} {es : Exps} (f : ℕ) (w : rules.Listed) (k : ℕ) (ds : List Demand) → AreOuts V N xs es → MeetsEach K W (rules.of_each f w k es ds) → AreTyped w k es
  outs_typed f w k ds outs h = let a = outs_ask f w k outs in a.gives (met_behind K W ds a.more (subst (MeetsEach K W) (a.adds ds) h))

module _ (E : KnownItems) (q : Renumbering) (V : Moves) (N : Pairing) (W : Assignment) (R : Renaming) where
  abbrev S : Assigned
  S = given_types E W

  abbrev Out : Variable → ℕ → Type 0
  Out v x = OutThere V N q W R v x

  pub record OutsSo (xs : List ℕ) (es : Exps) : Type 0 where
    pub numbers : List ℕ
    pub have : HaveThere R xs numbers
    pub names : NamesAll S numbers es

  out_number : (y : ℕ) {v : Variable} {x j : ℕ} → Out v x → variable_named V.scope v.name ≡ Some j → N.variable j y ≡ true → N.variable x y ≡ true
  out_number y {x = x} {j = j} o n r = subst (λ (i : ℕ). N.variable i y ≡ true) (one_some j x (sym n ∙ o.named)) r

  one_more : (j k : ℕ) → j + suc k ≡ suc j + k
  one_more j k = omega arith

  none_before : (k : ℕ) → k ≡ zero + k
  none_before k = omega arith

  -- as parts of a variant, from a number on
  pub outs_in_variant : (i w : ℕ) {vs : List Variable} {xs : List ℕ} {es : Exps} (k : ℕ) (p s : Spot) → Rows Out vs xs → AreOuts V N (names_of vs) es → AreTyped E W (rules.parts_of i w) k es → ((j : ℕ) → slice_get (variant_parts E.items i w) (j + k) ≡ slice_get (types_there q (variables_held vs)) j)
      → NumberedExps p Site.Expects es s → OutsSo xs es
  outs_in_variant i w k p s no_rows no_outs t parts num = record { numbers = []; have = none_there; names = names_none }
  outs_in_variant i w {vs = v ∷ vs} k p s (more_rows o rows) (more_outs (is_out {n = n} {u = x} a name r) outs) t parts num =
      let there = out_number x.number o name r in let own = t.0.1 ∙ o.typed x.number there in
      let wanted = fixed_is (slice_get (variant_parts E.items i w) k) (shape_at q v.typ) (W (expected n)) (ap (slice_get (variant_parts E.items i w)) (none_before k) ∙ parts zero) t.0.0 in
      let z = outs_in_variant i w (suc k) num.0 s rows outs t.1 (λ j. ap (slice_get (variant_parts E.items i w)) (one_more j k) ∙ parts (suc j)) num.2 in
      record { numbers = x.number ∷ z.numbers; have = there_and (o.there x.number there) z.have; names = names_and (a_variable refl (of_its_type (wanted ∙ sym own))) z.names }

  -- as members of a tuple
  pub outs_in_tuple : {vs : List Variable} {xs : List ℕ} {es : Exps} (p s : Spot) → Rows Out vs xs → AreOuts V N (names_of vs) es → NumberedExps p Site.Value es s → OutsSo xs es
  outs_in_tuple p s no_rows no_outs num = record { numbers = []; have = none_there; names = names_none }
  outs_in_tuple {vs = v ∷ vs} p s (more_rows o rows) (more_outs (is_out {n = n} {u = x} a name r) outs) num =
      let there = out_number x.number o name r in let z = outs_in_tuple num.0 s rows outs num.2 in
      record { numbers = x.number ∷ z.numbers; have = there_and (o.there x.number there) z.have; names = names_and (a_variable refl (of_any_type num.1.0.1)) z.names }
