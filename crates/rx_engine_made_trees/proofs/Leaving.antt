-- Returns of variants stand for jumps and returns.
use Rattle.std.proofs.Common.{◌≡◌, ◌≤◌, ◌+◌, ℕ, Bool, List, None, Some, arith}
use Rattle.rx_typed.specs.declared.nodes.Node.{Node}
use Rattle.rx_typed.specs.Named as named
use Rattle.rx_typed.specs.Named.{body_never, Exps}
use Rattle.rx_typed.specs.Tree as tree
use Rattle.rx_typed.specs.Tree.{Mark}
use Rattle.rx_typed.specs.Elaborated.{Assigned, mark, mark_if, no_mark, operands, pattern}
use Rattle.rx_exits_plan.specs.Points.{jump_exit, leaves}
use Rattle.rx_exits_plan.specs.Marked.{mark_then}
use Rattle.rx_engine_simulation.specs.Turns.{Allowance}
use Rattle.rx_engine_simulation.specs.Sights.{Renaming}
use Rattle.rx_engine_simulation.specs.Jumps.{Jumping, Pack}
use Rattle.rx_engine_simulation.specs.Packing.{gives_variant, takes_none}
use Rattle.rx_engine_simulation.specs.Like.{opens, units}
use Rattle.rx_engine_simulation.specs.Rereads.{in_block, in_build, in_end, in_give, in_let, in_none, in_operand}
use Rattle.rx_engine_related.specs.Leaving.{HaveThere, left_by_jump, left_by_return, left_with_unit, left_with_value}
use Rattle.rx_engine_made_trees.specs.Leaving.{for_jump, for_return, for_unit, for_value, returned_so, ReturnedSo, ReturnsFor}
use Rattle.rx_engine_made_trees.proofs.Giving.{all_are_taken, all_taken, AllTaken}

none_more : 0 + 0 ≤ 0
none_more = omega arith

module _ (T : Assigned) (items : ℕ → ℕ) (gain : Allowance) (U : List ℕ) (special : List ℕ) (J : Jumping) (R : Renaming) where
  jump_returned : (m : Mark) (l : ℕ) (again : Bool) (n c : Node) (i : ℕ) (es : Exps) (zs : List ℕ) (p : Pack) → J.leaving l again ≡ Some p → HaveThere R p.outs zs → AllTaken 0 zs (operands T 0 es)
      → ReturnedSo T items gain U special J R (mark_then (leaves (jump_exit l again)) (tree.jump m l again)) (named.return n (named.present (named.variant c i p.variant es)))
  jump_returned m l again n c i es zs p q h (all_taken fs rs ts) = returned_so (tree.give (no_mark n) (tree.build (mark T c) (tree.variant_of i p.variant) fs)) (in_give (in_build rs))
      (opens {e = tree.unit m} {e' = tree.unit m} 0 0 none_more (left_by_jump p q h (gives_variant ts)) units)

  pub returned_as : (e : tree.Exp) (f : named.Exp) → ReturnsFor T items gain U special J R e f → ReturnedSo T items gain U special J R e f
  returned_as e f (for_jump {m = m} {l = l} {again = again} {n = n} {c = c} {i = i} {es = es} {zs = zs} p q h a) = jump_returned m l again n c i es zs p q h (all_are_taken T 0 zs es a)
  returned_as e f (for_return {m = m} {n = n} {c = c} {i = i} {v = v} q) = returned_so (tree.give (no_mark n) (tree.build (mark T c) (tree.variant_of i v) tree.no_operand)) (in_give (in_build in_none))
      (opens {e = tree.unit m} {e' = tree.unit m} 0 0 none_more (left_by_return q (gives_variant takes_none)) units)
  returned_as e f (for_value {e' = z} {n = n} {c = c} {i = i} {v = v} q a r) = returned_so (tree.give (no_mark n) (tree.build (mark T c) (tree.variant_of i v) (tree.operand_and 0 z tree.no_operand))) (in_give (in_build (in_operand r in_none)))
      (opens 0 0 none_more (left_with_value q) a)
  returned_as e f (for_unit {e' = z} {n = n} {d = d} {j = j} {p = p} {c = c} {o = o} {i = i} {v = v} {mutable = mutable} {t = t} {f = g} q u new a r) =
      returned_so (tree.give (no_mark n) (tree.block (mark_if T d (body_never (named.body d (named.statement_and (named.lets j (named.bind p o mutable) t g) named.no_statement) (named.present (named.variant c i v named.no_exp)))))
      (tree.lets j.number (pattern T None (named.bind p o mutable)) (tree.of_value z) (tree.ends (tree.build (mark T c) (tree.variant_of i v) tree.no_operand)))))
      (in_give (in_block (in_let r (in_end (in_build in_none))))) (opens 0 0 none_more (left_with_unit q u new (gives_variant takes_none)) a)
