use Rattle.std.proofs.Common.{◌≡◌, ◌+◌, ◌/◌, ◌%◌, ◌<◌, ◌≤◌, length, option_map, arith}
use Rattle.rx_tree_operations.specs.NodeOf.{plain-Node}
use Rattle.rx_tree_operations.proofs.PositionsLemmas.{arm_at, arm_past}
use Rattle.rx_tree_operations.proofs.positions.arm_part.Goals as goal

pub returns-then-at-arms : goal.returns-then-at-arms
returns-then-at-arms c =
    let n = c.args.number in
    let split : n ≡ n / 2 + n / 2 + n % 2 = omega arith in
    let less : n % 2 < 2 = omega arith in
    arm_at c.args.arms.now n (n / 2) (n % 2) c.index-arms-at.result (option_map plain-Node c.two.result) split c.if-at-arms.true c.index-arms-at.is less c.two.ensures

pub returns-else-at-arms : goal.returns-else-at-arms
returns-else-at-arms c = let h = c.if-at-arms.false in arm_past c.args.arms.now c.args.number (omega (arith, h))
