-- Chains of parts are what their lists are put together to.
use Rattle.std.proofs.Common.{◌≡◌, refl, ap}
use Rattle.rx_typed.specs.Tree as tree
use Rattle.rx_typed.specs.Tree.{Subpatterns, Operands, Arms}
use Rattle.rx_typed.specs.PlainTree.{subpatterns_of, operands_of, arms_of}
use Rattle.rx_typeck_elaborate_parts.specs.Listing.{parts_listed, operands_listed, arms_listed}

pub parts_of_list : (ps : Subpatterns) → subpatterns_of (parts_listed ps) ≡ ps
parts_of_list tree.no_part = refl
parts_of_list (tree.part_and i p ps) = ap (λ rest. tree.part_and i p rest) (parts_of_list ps)

pub operands_of_list : (es : Operands) → operands_of (operands_listed es) ≡ es
operands_of_list tree.no_operand = refl
operands_of_list (tree.operand_and i e es) = ap (λ rest. tree.operand_and i e rest) (operands_of_list es)

pub arms_of_list : (l : Arms) → arms_of (arms_listed l) ≡ l
arms_of_list tree.no_arm = refl
arms_of_list (tree.arm_and p e l) = ap (λ rest. tree.arm_and p e rest) (arms_of_list l)

pub ruleset listed_rules = (parts_of_list, operands_of_list, arms_of_list)
