-- The end of the new function where the run has its block's tail: its value in a variant, alone, or first in a tuple; a unit in front of what is handed out.
use Rattle.std.proofs.Common.{◌≡◌, ◌+◌, inl, inr, ℕ, suc, true, false, List, [], ◌∷◌, slice_get, Some, sym, ap, ◌∙◌, subst, arith}
use Rattle.rx_typed.specs.declared.nodes.Node.{Node}
use Rattle.rx_typed.specs.declared.nodes.Site.{Site}
use Rattle.rx_typed.specs.declared.nodes.Use.{Use}
use Rattle.rx_typed.specs.Types.{variant_parts, Typ}
use Rattle.rx_typed.specs.Elaborated.{matched, value, Assigned}
use Rattle.rx_typed.specs.Named as named
use Rattle.rx_typed.specs.Named.{node_of, Exp, Exps, Written}
use Rattle.rx_typed.specs.Tree as tree
use Rattle.rx_hoist_extraction.specs.Plan as hoist
use Rattle.rx_hoist_extraction.specs.Plan.{names_of, Variable}
use Rattle.rx_hoist_extraction.specs.Values.{variables_held}
use Rattle.rx_typeck_solver.specs.declared.facts.Demand.{Demand}
use Rattle.rx_typeck_solver.specs.Facts.{Assignment, KnownItems, MeetsEach}
use Rattle.rx_typeck_solver.specs.declared.facts.Op.TheVariants as op
use Rattle.rx_typeck_solver.specs.declared.facts.Rule.{Rule}
use Rattle.rx_typeck_solver.specs.declared.facts.Test.TheVariants as test
use Rattle.rx_typeck_typed.specs.Asking.{ask, passes}
use Rattle.rx_typeck_typed.specs.Demands as rules
use Rattle.rx_engine_names.specs.Renaming.{Renaming as Pairing}
use Rattle.rx_engine_names.specs.Moves.{AreOuts, IsVariant, Moves}
use Rattle.rx_engine_names.specs.Moves.IsVariant.{is_variant}
use Rattle.rx_engine_names.specs.NewBody.{ValueFirst}
use Rattle.rx_engine_names.specs.NewBody.ValueFirst.{value_first}
use Rattle.rx_engine_blocks.specs.Renumbering.{Renumbering}
use Rattle.rx_engine_typing.specs.Corresponding.{given_types}
use Rattle.rx_engine_typing.proofs.Asking.{met_front, own_asks}
use Rattle.rx_engine_changed.specs.Spots.{NumberedExp, Spot}
use Rattle.rx_engine_simulation.specs.Turns.{Allowance}
use Rattle.rx_engine_simulation.specs.Sights.{special, sight, In, IsNew, Renaming}
use Rattle.rx_engine_simulation.specs.Jumps.{Jumping}
use Rattle.rx_engine_simulation.specs.Packing.{as_variant, bare}
use Rattle.rx_engine_simulation.specs.Rereads.{Rereads, RereadsMatched}
use Rattle.rx_engine_related.specs.Leaving.{HaveThere}
use Rattle.rx_engine_related.specs.Leaving.HaveThere.{none_there, there_and}
use Rattle.rx_engine_made_trees.specs.Nodes.KeepsItsType.{of_any_type}
use Rattle.rx_engine_made_trees.specs.Giving.{GivesThem, NamesAll}
use Rattle.rx_engine_made_trees.specs.Giving.NamesVariable.{a_variable}
use Rattle.rx_engine_made_trees.specs.Giving.NamesAll.{names_and}
use Rattle.rx_engine_made_trees.specs.Giving.GivesThem.{a_tuple}
use Rattle.rx_engine_made_trees.specs.Tails.{IsLike, TailEndsTo}
use Rattle.rx_engine_made_trees.specs.Tails.TailEndsTo.{value_in_tuple, value_in_variant}
use Rattle.rx_engine_made_calls.specs.Plans.{Rows}
use Rattle.rx_engine_made_calls.specs.NewEnds.{OutThere}
use Rattle.rx_engine_made_calls.proofs.Telling.{types_there}
use Rattle.rx_engine_made_calls.proofs.Outs.{outs_in_tuple, outs_in_variant, outs_typed}

module _ (E : KnownItems) (q : Renumbering) (V M : Moves) (N : Pairing) (W : Assignment) (R : Renaming) (items : ℕ → ℕ) (gain : Allowance) (U others : List ℕ) (J : Jumping) where
  abbrev S : Assigned
  S = given_types E W

  abbrev Out : Variable → ℕ → Type 0
  Out v x = OutThere M N q W R v x

  one_further : (j : ℕ) → j + 1 ≡ suc j
  one_further j = omega arith

  -- in the variant of the run's end
  pub value_in_next : {vs : List Variable} {xs : List ℕ} {x : hoist.Exit} {e : tree.Exp} {g h : Exp} (f : ℕ) (n : Node) (t : Typ) (e' : tree.Exp) (ds : List Demand) (p : Spot) (z : Site) (s : Spot) → Rows Out vs xs → IsVariant V x (ValueFirst (AreOuts M N (names_of vs)) g) h
      → variant_parts E.items V.enum (V.variant x) ≡ t ∷ types_there q (variables_held vs) → MeetsEach E W (rules.of_exp f h ds) → NumberedExp p z h s → IsLike S items gain U others J R e e' → Rereads (value S g) e'
      → TailEndsTo S items gain U others J R n e true (as_variant (V.variant x)) xs named.no_statement (named.present h)
  value_in_next {vs = vs} {x = x} {g = g} f n t e' ds p z s rows (is_variant {n = m} i (value_first {es = es} outs)) parts met num like reads =
      let w = rules.parts_of V.enum (V.variant x) in
      let counted = ask m Rule.Count (passes (test.Holds V.enum (V.variant x) (rules.argument_count (named.exp_and g es))) [] ∷ []) ds in
      let inner = rules.each_after w g (rules.of_exp f g (rules.each_before w 0 (node_of g) counted)) in
      let own = own_asks {K = E} {A = W} m (op.Item V.enum) [] in
      let first = met_front E W (rules.of_each f w 1 es inner) own.more (subst (MeetsEach E W) (own.adds (rules.of_each f w 1 es inner)) met) in
      let o = outs_in_variant E q M N W R V.enum (V.variant x) 1 num.1.0 s rows outs (outs_typed E W f w 1 inner outs first) (λ j. ap (slice_get (variant_parts E.items V.enum (V.variant x))) (one_further j) ∙ ap (λ (ts : List Typ). slice_get ts (suc j)) parts) num.1.2 in
      value_in_variant like reads o.have o.names

  -- bound in front of the tuple in which it is the first of several
  not_there : {y : ℕ} {xs zs : List ℕ} → IsNew R y → HaveThere R xs zs → In y zs → ⊥
  not_there new none_there i = i
  not_there {y = y} new (there_and {x = x} {z = z} seen h) (inl e) = new x (sight z special) seen (sym e)
  not_there new (there_and seen h) (inr i) = not_there new h i

  first_of : {y : ℕ} {zs : List ℕ} {n m : Node} {u : Use} {o : Exp} {os : Exps} → u.number ≡ y → m.site ≡ Site.Value → NamesAll S zs (named.exp_and o os) → GivesThem S bare (y ∷ zs) (named.tuple n (named.exp_and (named.var m u) (named.exp_and o os)))
  first_of i site (names_and a rest) = a_tuple (names_and (a_variable i (of_any_type site)) (names_and a rest))

  pub value_bound : {vs : List Variable} {xs : List ℕ} {e : tree.Exp} {g o : Exp} {os : Exps} (n j b m c : Node) (x : ℕ) (u : Use) (w : Written) (e' : tree.Exp) (p : Spot) (z : Site) (s : Spot) → Rows Out vs xs → AreOuts M N (names_of vs) (named.exp_and o os) → u.number ≡ x → IsNew R x
      → NumberedExp p z (named.tuple c (named.exp_and (named.var m u) (named.exp_and o os))) s → IsLike S items gain U others J R e e' → RereadsMatched (matched S g (value S g)) (tree.of_value e')
      → TailEndsTo S items gain U others J R n e true bare xs (named.statement_and (named.lets j (named.bind b x false) (Some w) g) named.no_statement) (named.present (named.tuple c (named.exp_and (named.var m u) (named.exp_and o os))))
  value_bound n j b m c x u w e' p z s rows outs i new num like reads =
      let o = outs_in_tuple E q M N W R num.1.0 s rows outs num.1.2 in
      value_in_tuple like reads new (not_there new o.have) o.have (first_of i num.1.1.0.1 o.names)
