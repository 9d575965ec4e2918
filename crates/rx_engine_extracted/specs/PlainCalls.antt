-- A call of the new function, as what the code finds stands for it.
use Rattle.std.specs.Prelude.{ℕ, List, Option, Some, None, map}
use Rattle.rx_typed.specs.Tree as tree
use Rattle.rx_typed.specs.Tree.{Exp, Scrutinee, Arms}
use Rattle.rx_typed.specs.PlainTree.{plain-Operand, operands_of}
use Rattle.rx_engine_simulation.specs.Packing as packing
use Rattle.rx_engine_alike.specs.PlainJumping.{plain-Jumping}
use Rattle.rx_engine_extracted.specs.Calls as calls
use Rattle.rx_engine_extracted.specs.declared.calls.GivenWay.{GivenWay}
use Rattle.rx_engine_extracted.specs.declared.calls.Called.{Called}

abbrev pub plain-GivenWay : GivenWay → packing.Way
plain-GivenWay GivenWay.Bare = packing.bare
plain-GivenWay (GivenWay.AsVariant v) = packing.as_variant v
plain-GivenWay GivenWay.NoWay = packing.no_way

-- with the variables that may be elsewhere
abbrev pub plain-Called : List ℕ → Called → calls.Called
plain-Called xs c = record { operands = operands_of (map plain-Operand c.operands.now); jumping = plain-Jumping xs c.jumping; way = plain-GivenWay c.way }

-- what is matched, and the arms
abbrev pub matches_of : Exp → Option (Scrutinee × Arms)
matches_of (tree.choose m c l) = Some (c, l)
matches_of _ = None
