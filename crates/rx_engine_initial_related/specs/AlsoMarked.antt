-- A text with marks in front of jumps alone, and the same with marks behind what is returned too (rx_exits_plan): the relation of trees is told of the
-- first, since a mark behind a value drops it, and initialisation of the second. (Rust Reference, "Return expressions".)
use Rattle.std.specs.Prelude.{ℕ, Bool, List}
use Rattle.rx_tree.specs.declared.tree.BinaryOp.{BinaryOp}
use Rattle.rx_typed.specs.Tree as tree
use Rattle.rx_typed.specs.Tree.{Place, Pattern, Mark, Making, Exp, Operands, Scrutinee, Arms, Body}
use Rattle.rx_exits_plan.specs.Points.{returns, leaves}
use Rattle.rx_exits_plan.specs.Marked.{then_mark}
use Rattle.rx_engine_simulation.specs.Blocks.{Stretch, done, does_then, declares_then, lets_then}

mutual
  pub data AlsoMarked : Exp → Exp → Type 0 where
    read_too : {m : Mark} {v : Bool} {p : Place} → AlsoMarked (tree.read m v p) (tree.read m v p)
    borrow_too : {m : Mark} {v : Bool} {p : Place} → AlsoMarked (tree.borrow m v p) (tree.borrow m v p)
    share_too : {m : Mark} {e f : Exp} → AlsoMarked e f → AlsoMarked (tree.share m e) (tree.share m f)
    build_too : {m : Mark} {w : Making} {es fs : Operands} → AlsoMarkedAll es fs → AlsoMarked (tree.build m w es) (tree.build m w fs)
    unit_too : {m : Mark} → AlsoMarked (tree.unit m) (tree.unit m)
    lazily_too : {m : Mark} {b : Bool} {e f g h : Exp} → AlsoMarked e f → AlsoMarked g h → AlsoMarked (tree.lazily m b e g) (tree.lazily m b f h)
    assign_too : {m : Mark} {p : Place} {e f : Exp} → AlsoMarked e f → AlsoMarked (tree.assign m p e) (tree.assign m p f)
    update_too : {m : Mark} {o : BinaryOp} {p : Place} {e f : Exp} → AlsoMarked e f → AlsoMarked (tree.update m o p e) (tree.update m o p f)
    call_too : {m : Mark} {i : ℕ} {es fs : Operands} → AlsoMarkedAll es fs → AlsoMarked (tree.call m i es) (tree.call m i fs)
    input_too : {m : Mark} → AlsoMarked (tree.input m) (tree.input m)
    print_too : {m : Mark} {e f : Exp} → AlsoMarked e f → AlsoMarked (tree.print m e) (tree.print m f)
    block_too : {m : Mark} {b c : Body} → AlsoMarkedBody b c → AlsoMarked (tree.block m b) (tree.block m c)
    choose_too : {m : Mark} {s t : Scrutinee} {l k : Arms} → AlsoMarkedMatched s t → AlsoMarkedArms l k → AlsoMarked (tree.choose m s l) (tree.choose m t k)
    loop_too : {m : Mark} {l : ℕ} {e f : Exp} → AlsoMarked e f → AlsoMarked (tree.loop m l e) (tree.loop m l f)
    jump_too : {m : Mark} {l : ℕ} {again : Bool} → AlsoMarked (tree.jump m l again) (tree.jump m l again)
    -- what is returned has the mark behind it
    give_too : {m : Mark} {e f : Exp} → AlsoMarked e f → AlsoMarked (tree.give m e) (tree.give m (then_mark (leaves returns) f))

  pub data AlsoMarkedAll : Operands → Operands → Type 0 where
    none_too : AlsoMarkedAll tree.no_operand tree.no_operand
    and_too : {i : ℕ} {e f : Exp} {es fs : Operands} → AlsoMarked e f → AlsoMarkedAll es fs → AlsoMarkedAll (tree.operand_and i e es) (tree.operand_and i f fs)

  pub data AlsoMarkedMatched : Scrutinee → Scrutinee → Type 0 where
    place_too : {m : Mark} {p : Place} → AlsoMarkedMatched (tree.at_place m p) (tree.at_place m p)
    value_too : {e f : Exp} → AlsoMarked e f → AlsoMarkedMatched (tree.of_value e) (tree.of_value f)

  pub data AlsoMarkedArms : Arms → Arms → Type 0 where
    no_arm_too : AlsoMarkedArms tree.no_arm tree.no_arm
    arm_too : {p : Pattern} {e f : Exp} {l k : Arms} → AlsoMarked e f → AlsoMarkedArms l k → AlsoMarkedArms (tree.arm_and p e l) (tree.arm_and p f k)

  pub data AlsoMarkedBody : Body → Body → Type 0 where
    ends_too : {e f : Exp} → AlsoMarked e f → AlsoMarkedBody (tree.ends e) (tree.ends f)
    runs_too : {e f : Exp} {b c : Body} → AlsoMarked e f → AlsoMarkedBody b c → AlsoMarkedBody (tree.runs e b) (tree.runs f c)
    declares_too : {s : ℕ} {xs : List ℕ} {b c : Body} → AlsoMarkedBody b c → AlsoMarkedBody (tree.declares s xs b) (tree.declares s xs c)
    lets_too : {s : ℕ} {p : Pattern} {c d : Scrutinee} {b e : Body} → AlsoMarkedMatched c d → AlsoMarkedBody b e → AlsoMarkedBody (tree.lets s p c b) (tree.lets s p d e)

-- statements in front of others
pub data AlsoMarkedStretch : Stretch → Stretch → Type 0 where
  done_too : AlsoMarkedStretch done done
  does_too : {e f : Exp} {r q : Stretch} → AlsoMarked e f → AlsoMarkedStretch r q → AlsoMarkedStretch (does_then e r) (does_then f q)
  begins_too : {n : ℕ} {xs : List ℕ} {r q : Stretch} → AlsoMarkedStretch r q → AlsoMarkedStretch (declares_then n xs r) (declares_then n xs q)
  binds_too : {n : ℕ} {p : Pattern} {c d : Scrutinee} {r q : Stretch} → AlsoMarkedMatched c d → AlsoMarkedStretch r q → AlsoMarkedStretch (lets_then n p c r) (lets_then n p d q)
