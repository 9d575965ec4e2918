-- The new function's returns of variants for returns of the run: without a value, with one, or with the unit's value, which is bound in front.
use Rattle.std.proofs.Common.{◌≡◌, ℕ, true, false, List}
use Rattle.rx_typed.specs.declared.nodes.Node.{Node}
use Rattle.rx_typed.specs.Elaborated.{Assigned}
use Rattle.rx_typed.specs.Named as named
use Rattle.rx_typed.specs.Named.{Exp}
use Rattle.rx_typed.specs.Tree as tree
use Rattle.rx_typed.specs.Tree.{Mark}
use Rattle.rx_hoist_extraction.specs.Plan.{is_unit, to_return}
use Rattle.rx_engine_names.specs.Moves.{Moves, Returned}
use Rattle.rx_engine_names.specs.Moves.IsVariant.{is_variant}
use Rattle.rx_engine_names.specs.Moves.NoExp.{no_operand}
use Rattle.rx_engine_names.specs.Moves.OneExp.{one_exp}
use Rattle.rx_engine_names.specs.Moves.Returned.{returned_none, returned_unit, returned_value}
use Rattle.rx_engine_simulation.specs.Jumps.{with_unit, with_value, Jumping}
use Rattle.rx_engine_simulation.specs.Sights.{IsNew, Renaming}
use Rattle.rx_engine_simulation.specs.Turns.{Allowance}
use Rattle.rx_engine_simulation.specs.Units.{GivesUnit}
use Rattle.rx_engine_made_trees.specs.Leaving.{ReturnsFor}
use Rattle.rx_engine_made_trees.specs.Leaving.ReturnsFor.{for_return, for_unit, for_value}
use Rattle.rx_engine_made_calls.specs.EndCases.{binds_unit, BindsUnit, CopyReads}

module _ (S : Assigned) (items : ℕ → ℕ) (gain : Allowance) (U others : List ℕ) (J : Jumping) (R : Renaming) (V : Moves) (n : Node) where
  abbrev For : tree.Exp → Exp → Type 0
  For e f = ReturnsFor S items gain U others J R e f

  pub bare_return : (m mu : Mark) {e : Exp} → Returned V named.absent e → J.returning ≡ with_unit (V.variant to_return) → For (tree.give m (tree.unit mu)) (named.return n (named.present e))
  bare_return m mu (returned_none (is_variant i no_operand)) r = for_return r

  pub value_return : (m : Mark) (e0 : tree.Exp) {g e : Exp} → Returned V (named.present g) e → (is_unit V.plan.result ≡ true → J.returning ≡ with_unit (V.variant to_return)) → (is_unit V.plan.result ≡ false → J.returning ≡ with_value (V.variant to_return)) → (is_unit V.plan.result ≡ true → GivesUnit U e0)
      → ((x : ℕ) → BindsUnit x e → IsNew R x) → CopyReads S items gain U others J R n e0 g → For (tree.give m e0) (named.return n (named.present e))
  value_return m e0 (returned_value i (is_variant j one_exp)) unit value gives new c = for_value (value i) c.like c.reads
  value_return m e0 (returned_unit {x = x} i (is_variant j no_operand)) unit value gives new c = for_unit (unit i) (gives i) (new x binds_unit) c.like c.matches
