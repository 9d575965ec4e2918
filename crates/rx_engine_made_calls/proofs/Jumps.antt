-- The new function's returns of variants, for jumps that leave the run and for returns without a value.
use Rattle.std.proofs.Common.{◌≡◌, ◌+◌, ℕ, Bool, List, slice_get, Some, ap, ◌∙◌, subst, arith}
use Rattle.rx_typed.specs.declared.nodes.Node.{Node}
use Rattle.rx_typed.specs.declared.nodes.Site.{Site}
use Rattle.rx_typed.specs.Types.{variant_parts}
use Rattle.rx_typed.specs.Elaborated.{Assigned}
use Rattle.rx_typed.specs.Named as named
use Rattle.rx_typed.specs.Named.{Exp}
use Rattle.rx_typed.specs.Tree as tree
use Rattle.rx_typed.specs.Tree.{Mark}
use Rattle.rx_hoist_extraction.specs.Plan as hoist
use Rattle.rx_hoist_extraction.specs.Plan.{outs_of, Variable}
use Rattle.rx_hoist_extraction.specs.Values.{variables_held}
use Rattle.rx_typeck_solver.specs.declared.facts.Demand.{Demand}
use Rattle.rx_typeck_solver.specs.Facts.{Assignment, KnownItems, MeetsEach}
use Rattle.rx_typeck_typed.specs.Demands as rules
use Rattle.rx_exits_plan.specs.Points.{jump_exit, leaves}
use Rattle.rx_engine_names.specs.Renaming.{Renaming as Pairing}
use Rattle.rx_engine_names.specs.Moves.{AreOuts, Leaves, Moves}
use Rattle.rx_engine_names.specs.Moves.IsVariant.{is_variant}
use Rattle.rx_engine_names.specs.Moves.Leaves.{leaves_by}
use Rattle.rx_engine_blocks.specs.Renumbering.{Renumbering}
use Rattle.rx_engine_typing.specs.Corresponding.{given_types}
use Rattle.rx_engine_typing.proofs.Asking.{met_behind, never_asks, returns_u, then_first, then_second, Asks}
use Rattle.rx_engine_changed.specs.Spots.{after, NumberedExp, Spot}
use Rattle.rx_engine_simulation.specs.Sights.{Renaming}
use Rattle.rx_engine_simulation.specs.Jumps.{Jumping}
use Rattle.rx_exits_plan.specs.Marked.{mark_then}
use Rattle.rx_engine_simulation.specs.Turns.{Allowance}
use Rattle.rx_engine_made_trees.specs.Leaving.{ReturnsFor}
use Rattle.rx_engine_made_trees.specs.Leaving.ReturnsFor.{for_jump}
use Rattle.rx_engine_made_calls.specs.Plans.{Rows}
use Rattle.rx_engine_made_calls.specs.NewEnds.{OutThere}
use Rattle.rx_engine_made_calls.proofs.Telling.{types_there}
use Rattle.rx_engine_made_calls.proofs.Outs.{outs_in_variant, AreTyped}
use Rattle.rx_engine_made_calls.proofs.Ends.{variant_asks}

module _ (E : KnownItems) (q : Renumbering) (V : Moves) (N : Pairing) (W : Assignment) (R : Renaming) where
  abbrev S : Assigned
  S = given_types E W

  abbrev Out : Variable → ℕ → Type 0
  Out v x = OutThere V N q W R v x

  abbrev Outs : hoist.Exit → List Variable
  Outs x = outs_of x V.plan.exits

  no_more : (j : ℕ) → j + 0 ≡ j
  no_more j = omega arith

  returned_asks : (f : ℕ) (n m : Node) (i v : ℕ) {xs : List (List ℕ)} {es : named.Exps} → AreOuts V N xs es → Asks E W (AreTyped E W (rules.parts_of i v) 0 es) (rules.of_exp f (named.return n (named.present (named.variant m i v es))))
  returned_asks f n m i v {es = es} outs =
      then_second (returns_u f n (named.present (named.variant m i v es))) (then_first (variant_asks E q V V N W R f m i v outs) (never_asks n n.site))

  pub jump_returns : (items : ℕ → ℕ) (gain : Allowance) (U others : List ℕ) (J : Jumping) (m : Mark) (f l : ℕ) (again : Bool) {x : hoist.Exit} {xs : List ℕ} {e : Exp} (ds : List Demand) (p : Spot) (z : Site) (s : Spot) → Leaves V N x e → J.leaving l again ≡ Some (record { variant = V.variant x; outs = xs })
      → Rows Out (Outs x) xs → variant_parts E.items V.enum (V.variant x) ≡ types_there q (variables_held (Outs x)) → MeetsEach E W (rules.of_exp f e ds) → NumberedExp p z e s
      → ReturnsFor S items gain U others J R (mark_then (leaves (jump_exit l again)) (tree.jump m l again)) e
  jump_returns items gain U others J m f l again {x = x} {xs = xs} ds p z s (leaves_by {n = n} i (is_variant {n = c} {es = es} j outs)) leads rows parts h num =
      let a = returned_asks f n c V.enum (V.variant x) outs in
      let o = outs_in_variant E q V N W R V.enum (V.variant x) 0 (after (after p)) s rows outs (a.gives (met_behind E W ds a.more (subst (MeetsEach E W) (a.adds ds) h))) (λ j. ap (slice_get (variant_parts E.items V.enum (V.variant x))) (no_more j) ∙ ap (λ ts. slice_get ts j) parts) num.1.1 in
      for_jump (record { variant = V.variant x; outs = xs }) leads o.have o.names
