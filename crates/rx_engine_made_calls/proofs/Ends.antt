-- The end of the new function where variables alone are handed out, and its returns of variants for jumps.
use Rattle.std.proofs.Common.{◌≡◌, ◌+◌, ◌⊎◌, inl, inr, ℕ, Bool, true, List, [], ◌∷◌, slice_get, Some, refl, sym, ap, ◌∙◌, subst, arith}
use Rattle.rx_typed.specs.declared.nodes.Node.{Node}
use Rattle.rx_typed.specs.declared.nodes.Site.{Site}
use Rattle.rx_typed.specs.declared.nodes.Use.{Use}
use Rattle.rx_typed.specs.Types.{variant_parts, Typ}
use Rattle.rx_typed.specs.Elaborated.{Assigned}
use Rattle.rx_typed.specs.Named as named
use Rattle.rx_typed.specs.Named.{node_of, Else, Exp, Exps}
use Rattle.rx_hoist_extraction.specs.Plan as hoist
use Rattle.rx_hoist_extraction.specs.Plan.{has_enum, names_of, outs_of, to_next, Variable}
use Rattle.rx_hoist_extraction.specs.Values.{variables_held}
use Rattle.rx_typeck_solver.specs.declared.facts.Demand.{Demand}
use Rattle.rx_typeck_solver.specs.Facts.{Assignment, KnownItems, MeetsEach}
use Rattle.rx_typeck_typed.specs.Asking.{expected, type_of}
use Rattle.rx_typeck_typed.specs.Demands as rules
use Rattle.rx_engine_names.specs.Renaming.{Renaming as Pairing}
use Rattle.rx_engine_names.specs.Moves.{AreOuts, IsVariant, Moves}
use Rattle.rx_engine_names.specs.Moves.AreOuts.{more_outs, no_outs}
use Rattle.rx_engine_names.specs.Moves.IsOut.{is_out}
use Rattle.rx_engine_names.specs.Moves.IsVariant.{is_variant}
use Rattle.rx_engine_names.specs.NewBody.{HandedOn}
use Rattle.rx_engine_names.specs.NewBody.HandedOn.{handed_alone, handed_in_next, handed_in_tuple}
use Rattle.rx_engine_blocks.specs.Renumbering.{shape_at, Renumbering}
use Rattle.rx_engine_typing.specs.Corresponding.{given_types}
use Rattle.rx_engine_typing.proofs.Asking.{met_behind, none, own_asks, quiet, then_first, then_second, Asks}
use Rattle.rx_engine_changed.specs.Spots.{after, NumberedElse, NumberedExp, Spot}
use Rattle.rx_engine_simulation.specs.Sights.{Renaming}
use Rattle.rx_engine_simulation.specs.Packing.{as_variant, bare, Way}
use Rattle.rx_engine_related.specs.Leaving.{HaveThere}
use Rattle.rx_engine_related.specs.Leaving.HaveThere.{none_there, there_and}
use Rattle.rx_engine_made_trees.specs.Nodes.{KeepsItsType}
use Rattle.rx_engine_made_trees.specs.Nodes.KeepsItsType.{of_any_type, of_its_type}
use Rattle.rx_engine_made_trees.specs.Giving.{GivesThem, NamesAll, TailGives}
use Rattle.rx_engine_made_trees.specs.Giving.NamesVariable.{a_variable}
use Rattle.rx_engine_made_trees.specs.Giving.GivesThem.{a_tuple, a_variant, one}
use Rattle.rx_engine_made_trees.specs.Giving.NamesAll.{names_and}
use Rattle.rx_engine_made_trees.specs.Giving.TailGives.{a_tail}
use Rattle.rx_engine_made_calls.specs.Plans.{Rows}
use Rattle.rx_engine_made_calls.specs.Plans.Rows.{more_rows, no_rows}
use Rattle.rx_engine_made_calls.specs.MadeCalls.{way_of}
use Rattle.rx_engine_made_calls.specs.NewEnds.{EndGives, OutThere}
use Rattle.rx_engine_made_calls.proofs.Telling.{one_some, types_there}
use Rattle.rx_engine_made_calls.proofs.Outs.{outs_ask, outs_in_tuple, outs_in_variant, variable_asks, AreTyped}

-- `M` has the scope where the exit is left
module _ (E : KnownItems) (q : Renumbering) (V M : Moves) (N : Pairing) (W : Assignment) (R : Renaming) where
  abbrev S : Assigned
  S = given_types E W

  abbrev Out : Variable → ℕ → Type 0
  Out v x = OutThere M N q W R v x

  no_more : (j : ℕ) → j + 0 ≡ j
  no_more j = omega arith

  -- what is asked of a variant's parts is met where what is asked of it is
  pub variant_asks : (f : ℕ) (n : Node) (i v : ℕ) {xs : List (List ℕ)} {es : Exps} → AreOuts M N xs es → Asks E W (AreTyped E W (rules.parts_of i v) 0 es) (rules.of_exp f (named.variant n i v es))
  variant_asks f n i v outs = then_second (quiet n _ _ _) (then_first (outs_ask E W f (rules.parts_of i v) 0 outs) (own_asks n _ _))

  variant_typed : (f : ℕ) (n : Node) (i v : ℕ) {xs : List (List ℕ)} {es : Exps} (ds : List Demand) → AreOuts M N xs es → MeetsEach E W (rules.of_exp f (named.variant n i v es) ds) → AreTyped E W (rules.parts_of i v) 0 es
  variant_typed f n i v ds outs h = let a = variant_asks f n i v outs in a.gives (met_behind E W ds a.more (subst (MeetsEach E W) (a.adds ds) h))

  -- a variant with what is handed out
  pub variant_gives : (f : ℕ) {vs : List Variable} {xs : List ℕ} {x : hoist.Exit} {e : Exp} (ds : List Demand) (p : Spot) (z : Site) (s : Spot) → Rows Out vs xs → IsVariant V x (AreOuts M N (names_of vs)) e → variant_parts E.items V.enum (V.variant x) ≡ types_there q (variables_held vs)
      → MeetsEach E W (rules.of_exp f e ds) → NumberedExp p z e s → EndGives S R (as_variant (V.variant x)) xs e
  variant_gives f {vs = vs} {x = x} ds p z s rows (is_variant {n = n} {es = es} i outs) parts h num =
      let o = outs_in_variant E q M N W R V.enum (V.variant x) 0 (after p) s rows outs (variant_typed f n V.enum (V.variant x) ds outs h) (λ j. ap (slice_get (variant_parts E.items V.enum (V.variant x))) (no_more j) ∙ ap (λ (ts : List Typ). slice_get ts j) parts) num.1 in
      record { numbers = o.numbers; have = o.have; gives = a_variant o.names }

  -- ---- the end

  abbrev pub TailSo : Way → List ℕ → Else → Type 0
  TailSo w xs o = (zs : List ℕ) × HaveThere R xs zs × TailGives S w zs o

  abbrev Next : List Variable
  Next = outs_of to_next V.plan.exits

  alone_gives : (f : ℕ) {v : Variable} {x : ℕ} {n : Node} {u : Use} (ds : List Demand) (p : Spot) (z : Site) (s : Spot) → Out v x → AreOuts M N (v.name ∷ []) (named.exp_and (named.var n u) named.no_exp) → MeetsEach E W (rules.of_exp f (named.var n u) ds) → NumberedExp p z (named.var n u) s
      → (z ≡ Site.Value) ⊎ (W (expected n) ≡ shape_at q v.typ) → TailSo bare (x ∷ []) (named.present (named.var n u))
  alone_gives f {v = v} {x = x} {n = n} {u = u} ds p z s o (more_outs (is_out {j = j} a name r) no_outs) h num want =
      let there = subst (λ (i : ℕ). N.variable i u.number ≡ true) (one_some j x (sym name ∙ o.named)) r in
      let a = variable_asks E W f n u in
      let own = a.gives (met_behind E W ds a.more (subst (MeetsEach E W) (a.adds ds) h)) ∙ o.typed u.number there in
      (u.number ∷ [], there_and (o.there u.number there) none_there, a_tail (one (a_variable refl (keeps n (shape_at q v.typ) num.0.1 own want))))
    where
      keeps : (n : Node) (t : Typ) {z : Site} → n.site ≡ z → W (type_of n) ≡ t → (z ≡ Site.Value) ⊎ (W (expected n) ≡ t) → KeepsItsType S n
      keeps n t i own (inl e) = of_any_type (i ∙ e)
      keeps n t i own (inr e) = of_its_type (e ∙ sym own)

  pub end_gives : (f : ℕ) {xs : List ℕ} {o : Else} (ds : List Demand) (p : Spot) (z : Site) (s : Spot) → HandedOn V (λ (es : Exps). AreOuts M N (names_of Next) es) o → Rows Out Next xs → MeetsEach E W (rules.of_returned f o ds) → NumberedElse p z o s
      → (has_enum V.plan.exits ≡ true → variant_parts E.items V.enum (V.variant to_next) ≡ types_there q (variables_held Next)) → ((v : Variable) (e : Exp) → Next ≡ v ∷ [] → o ≡ named.present e → (z ≡ Site.Value) ⊎ (W (expected (node_of e)) ≡ shape_at q v.typ))
      → TailSo (way_of (has_enum V.plan.exits) (Some (V.variant to_next))) xs o
  end_gives f {xs = xs} {o = o} ds p z s (handed_in_next {e = e} enum v) rows h num parts want =
      let y = variant_gives f ds p z s rows v (parts enum) h num in
      subst (λ (b : Bool). TailSo (way_of b (Some (V.variant to_next))) xs o) (sym enum) (y.numbers, y.have, a_tail y.gives)
  end_gives f {xs = xs} {o = o} ds p z s (handed_alone {e = e} none outs) rows h num parts want =
      subst (λ (b : Bool). TailSo (way_of b (Some (V.variant to_next))) xs o) (sym none) (by Next e outs rows h num (λ v i. want v e i refl))
    where
      by : {xs : List ℕ} (vs : List Variable) (e : Exp) → AreOuts M N (names_of vs) (named.exp_and e named.no_exp) → Rows Out vs xs → MeetsEach E W (rules.of_exp f e ds) → NumberedExp p z e s → ((v : Variable) → vs ≡ v ∷ [] → (z ≡ Site.Value) ⊎ (W (expected (node_of e)) ≡ shape_at q v.typ))
          → TailSo bare xs (named.present e)
      by [] e outs rows h num want = elim outs [ ]
      by (v ∷ []) e (more_outs (is_out a b c) no_outs) (more_rows o no_rows) h num want = alone_gives f ds p z s o (more_outs (is_out a b c) no_outs) h num (want v refl)
      by (v ∷ v2 ∷ vs) e (more_outs i outs) rows h num want = elim outs [ ]
  end_gives f {xs = xs} {o = o} ds p z s (handed_in_tuple {n = n} {e = e} {f = g} {es = es} none i outs) rows h num parts want =
      let y = outs_in_tuple E q M N W R (after p) s rows outs num.1 in
      subst (λ (b : Bool). TailSo (way_of b (Some (V.variant to_next))) xs o) (sym none) (y.numbers, y.have, a_tail (in_tuple y.names))
    where
      in_tuple : {n : Node} {e g : Exp} {es : Exps} {zs : List ℕ} → NamesAll S zs (named.exp_and e (named.exp_and g es)) → GivesThem S bare zs (named.tuple n (named.exp_and e (named.exp_and g es)))
      in_tuple (names_and a (names_and b rest)) = a_tuple (names_and a (names_and b rest))
