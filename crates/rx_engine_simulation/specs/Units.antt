-- Expressions that give the unit, where they give something, and functions that do (Rust Reference, "Tuple types", "Block expressions",
-- "Expression statements"): by their form, without a look at types.
use Rattle.std.specs.Prelude.{◌≡◌, ℕ, Bool, List, Some}
use Rattle.rx_tree.specs.declared.tree.BinaryOp.{BinaryOp}
use Rattle.rx_typed.specs.Tree as tree
use Rattle.rx_typed.specs.Tree.{Mark, Place, Pattern, Making, Exp, Operands, Scrutinee, Arms, Body}
use Rattle.rx_meaning.specs.Values.{element}
use Rattle.rx_meaning.specs.Expressions.{Functions}
use Rattle.rx_engine_simulation.specs.Sights.{In}
use Rattle.rx_engine_simulation.specs.Passed.{let_pass}

-- with the items of functions whose calls do
mutual
  pub data GivesUnit (U : List ℕ) : Exp → Type 0 where
    of_unit : {m : Mark} → GivesUnit U (tree.unit m)
    of_assignment : {m : Mark} {p : Place} {e : Exp} → GivesUnit U (tree.assign m p e)
    of_update : {m : Mark} {o : BinaryOp} {p : Place} {e : Exp} → GivesUnit U (tree.update m o p e)
    of_print : {m : Mark} {e : Exp} → GivesUnit U (tree.print m e)
    of_call : {m : Mark} {f : ℕ} {es : Operands} → In f U → GivesUnit U (tree.call m f es)
    of_block : {m : Mark} {b : Body} → EndsInUnit U b → GivesUnit U (tree.block m b)
    of_choice : {m : Mark} {c : Scrutinee} {l : Arms} → AllGiveUnit U l → GivesUnit U (tree.choose m c l)
    of_loop : {m : Mark} {l : ℕ} {e : Exp} → GivesUnit U (tree.loop m l e)
    -- nothing is given
    of_jump : {m : Mark} {l : ℕ} {again : Bool} → GivesUnit U (tree.jump m l again)
    of_return : {m : Mark} {e : Exp} → GivesUnit U (tree.give m e)
    -- it is let pass
    of_passed : {e : Exp} → GivesUnit U e → GivesUnit U (let_pass e)

  pub data AllGiveUnit (U : List ℕ) : Arms → Type 0 where
    no_arm_gives : AllGiveUnit U tree.no_arm
    each_gives : {q : Pattern} {e : Exp} {l : Arms} → GivesUnit U e → AllGiveUnit U l → AllGiveUnit U (tree.arm_and q e l)

  pub data EndsInUnit (U : List ℕ) : Body → Type 0 where
    tail_gives : {e : Exp} → GivesUnit U e → EndsInUnit U (tree.ends e)
    behind_run : {e : Exp} {b : Body} → EndsInUnit U b → EndsInUnit U (tree.runs e b)
    behind_declaration : {n : ℕ} {xs : List ℕ} {b : Body} → EndsInUnit U b → EndsInUnit U (tree.declares n xs b)
    behind_let : {n : ℕ} {q : Pattern} {c : Scrutinee} {b : Body} → EndsInUnit U b → EndsInUnit U (tree.lets n q c b)

-- each return in it is of the unit
mutual
  pub data ReturnsUnit (U : List ℕ) : Exp → Type 0 where
    in_read : {m : Mark} {v : Bool} {p : Place} → ReturnsUnit U (tree.read m v p)
    in_borrow : {m : Mark} {b : Bool} {p : Place} → ReturnsUnit U (tree.borrow m b p)
    in_share : {m : Mark} {e : Exp} → ReturnsUnit U e → ReturnsUnit U (tree.share m e)
    in_build : {m : Mark} {w : Making} {es : Operands} → AllReturnUnit U es → ReturnsUnit U (tree.build m w es)
    in_unit : {m : Mark} → ReturnsUnit U (tree.unit m)
    in_lazy : {m : Mark} {b : Bool} {e f : Exp} → ReturnsUnit U e → ReturnsUnit U f → ReturnsUnit U (tree.lazily m b e f)
    in_assignment : {m : Mark} {p : Place} {e : Exp} → ReturnsUnit U e → ReturnsUnit U (tree.assign m p e)
    in_update : {m : Mark} {o : BinaryOp} {p : Place} {e : Exp} → ReturnsUnit U e → ReturnsUnit U (tree.update m o p e)
    in_call : {m : Mark} {f : ℕ} {es : Operands} → AllReturnUnit U es → ReturnsUnit U (tree.call m f es)
    in_input : {m : Mark} → ReturnsUnit U (tree.input m)
    in_print : {m : Mark} {e : Exp} → ReturnsUnit U e → ReturnsUnit U (tree.print m e)
    in_block : {m : Mark} {b : Body} → BodyReturnsUnit U b → ReturnsUnit U (tree.block m b)
    in_choice : {m : Mark} {c : Scrutinee} {l : Arms} → MatchedReturnsUnit U c → ArmsReturnUnit U l → ReturnsUnit U (tree.choose m c l)
    in_loop : {m : Mark} {l : ℕ} {e : Exp} → ReturnsUnit U e → ReturnsUnit U (tree.loop m l e)
    in_jump : {m : Mark} {l : ℕ} {again : Bool} → ReturnsUnit U (tree.jump m l again)
    in_return : {m : Mark} {e : Exp} → GivesUnit U e → ReturnsUnit U e → ReturnsUnit U (tree.give m e)

  pub data AllReturnUnit (U : List ℕ) : Operands → Type 0 where
    no_operand_returns : AllReturnUnit U tree.no_operand
    operands_return : {i : ℕ} {e : Exp} {es : Operands} → ReturnsUnit U e → AllReturnUnit U es → AllReturnUnit U (tree.operand_and i e es)

  pub data MatchedReturnsUnit (U : List ℕ) : Scrutinee → Type 0 where
    in_place : {m : Mark} {p : Place} → MatchedReturnsUnit U (tree.at_place m p)
    in_value : {e : Exp} → ReturnsUnit U e → MatchedReturnsUnit U (tree.of_value e)

  pub data ArmsReturnUnit (U : List ℕ) : Arms → Type 0 where
    no_arm_returns : ArmsReturnUnit U tree.no_arm
    arms_return : {q : Pattern} {e : Exp} {l : Arms} → ReturnsUnit U e → ArmsReturnUnit U l → ArmsReturnUnit U (tree.arm_and q e l)

  pub data BodyReturnsUnit (U : List ℕ) : Body → Type 0 where
    tail_returns : {e : Exp} → ReturnsUnit U e → BodyReturnsUnit U (tree.ends e)
    run_returns : {e : Exp} {b : Body} → ReturnsUnit U e → BodyReturnsUnit U b → BodyReturnsUnit U (tree.runs e b)
    declaration_returns : {n : ℕ} {xs : List ℕ} {b : Body} → BodyReturnsUnit U b → BodyReturnsUnit U (tree.declares n xs b)
    let_returns : {n : ℕ} {q : Pattern} {c : Scrutinee} {b : Body} → MatchedReturnsUnit U c → BodyReturnsUnit U b → BodyReturnsUnit U (tree.lets n q c b)

-- a function's body leaves by a return
abbrev pub UnitFunctions : Functions → List ℕ → Type 0
UnitFunctions P U = (f : ℕ) → In f U → (g : tree.Function) → element P f ≡ Some (Some g) → ReturnsUnit U g.body
