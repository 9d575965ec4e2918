-- Where a part of a block stands: the child of a node at the end of a way.
use Rattle.std.proofs.Common.{◌≡◌, ℕ, List, [], ◌∷◌, ◌++◌, map, Option, Some, None, slice_get, refl, ap}
use Rattle.rx_tree.specs.Plain.{ProgramTree}
use Rattle.rx_tree.specs.Positions.{NodeTree, an_item, children, descend, node_at}
use Rattle.rx_tree.proofs.NodesLaws.{child_at}
use Rattle.rx_typed_runs.specs.declared.runs.RunPos.{RunPos}
use Rattle.rx_engine_extraction.specs.Failing.{span_if}
use Rattle.rx_engine_extraction.specs.Deciding.{part_span}

nowhere_on : (o : Option NodeTree) (ks js : List ℕ) → descend o ks ≡ None → descend o (ks ++ js) ≡ None
nowhere_on None ks js e = none ks js
  where
    none : (ks js : List ℕ) → descend None (ks ++ js) ≡ None
    none ks js = refl
nowhere_on (Some n) [] js e = absurd (cc)
nowhere_on (Some n) (k ∷ ks) js e = nowhere_on (slice_get (children n) k) ks js e

pub part_nowhere : (p : ProgramTree) (r : RunPos) (k : ℕ) → node_at p r.block.item r.block.path ≡ None → part_span p r k ≡ record { start = 0; end = 0 }
part_nowhere p r k e = ap span_if (nowhere_on (slice_get (map an_item p) r.block.item) r.block.path (k ∷ []) e)

pub part_child : (p : ProgramTree) (r : RunPos) (k : ℕ) (n : NodeTree) → node_at p r.block.item r.block.path ≡ Some n → part_span p r k ≡ span_if (slice_get (children n) k)
part_child p r k n e = ap span_if (child_at p r.block.item r.block.path n k e)
