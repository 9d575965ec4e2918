-- Whether an expression gives the unit, where it gives something, by its form (Rust Reference, "Tuple types", "Block expressions", "Expression
-- statements"); and whether each return in it is of the unit.
use Rattle.std.specs.Prelude.{ℕ, Bool, true, false, ◌&&◌, List, [], ◌∷◌, Option, Some, None}
use Rattle.rx_typed.specs.Tree as tree
use Rattle.rx_typed.specs.Tree.{Exp, Operands, Scrutinee, Arms, Body, Function}
use Rattle.rx_meaning.specs.Values.{element}
use Rattle.rx_meaning.specs.Expressions.{Functions}
use Rattle.rx_engine_alike.specs.Variables.{is_in}

-- with the items of functions whose calls do
abbrev mutual
  pub gives_unit : List ℕ → Exp → Bool
  gives_unit U (tree.unit m) = true
  gives_unit U (tree.assign m p e) = true
  gives_unit U (tree.update m o p e) = true
  gives_unit U (tree.print m e) = true
  gives_unit U (tree.call m f es) = is_in f U
  gives_unit U (tree.block m b) = ends_in_unit U b
  gives_unit U (tree.choose m c l) = all_give_unit U l
  gives_unit U (tree.loop m l e) = true
  -- nothing is given
  gives_unit U (tree.jump m l again) = true
  gives_unit U (tree.give m e) = true
  gives_unit U _ = false

  pub all_give_unit : List ℕ → Arms → Bool
  all_give_unit U tree.no_arm = true
  all_give_unit U (tree.arm_and q e l) = gives_unit U e && all_give_unit U l

  pub ends_in_unit : List ℕ → Body → Bool
  ends_in_unit U (tree.ends e) = gives_unit U e
  ends_in_unit U (tree.runs e b) = ends_in_unit U b
  ends_in_unit U (tree.declares n xs b) = ends_in_unit U b
  ends_in_unit U (tree.lets n q c b) = ends_in_unit U b

abbrev mutual
  pub returns_unit : List ℕ → Exp → Bool
  returns_unit U (tree.read m v p) = true
  returns_unit U (tree.borrow m b p) = true
  returns_unit U (tree.share m e) = returns_unit U e
  returns_unit U (tree.build m w es) = all_return_unit U es
  returns_unit U (tree.unit m) = true
  returns_unit U (tree.lazily m b e f) = returns_unit U e && returns_unit U f
  returns_unit U (tree.assign m p e) = returns_unit U e
  returns_unit U (tree.update m o p e) = returns_unit U e
  returns_unit U (tree.call m f es) = all_return_unit U es
  returns_unit U (tree.input m) = true
  returns_unit U (tree.print m e) = returns_unit U e
  returns_unit U (tree.block m b) = body_returns_unit U b
  returns_unit U (tree.choose m c l) = matched_returns_unit U c && arms_return_unit U l
  returns_unit U (tree.loop m l e) = returns_unit U e
  returns_unit U (tree.jump m l again) = true
  returns_unit U (tree.give m e) = gives_unit U e && returns_unit U e

  pub all_return_unit : List ℕ → Operands → Bool
  all_return_unit U tree.no_operand = true
  all_return_unit U (tree.operand_and i e es) = returns_unit U e && all_return_unit U es

  pub matched_returns_unit : List ℕ → Scrutinee → Bool
  matched_returns_unit U (tree.at_place m p) = true
  matched_returns_unit U (tree.of_value e) = returns_unit U e

  pub arms_return_unit : List ℕ → Arms → Bool
  arms_return_unit U tree.no_arm = true
  arms_return_unit U (tree.arm_and q e l) = returns_unit U e && arms_return_unit U l

  pub body_returns_unit : List ℕ → Body → Bool
  body_returns_unit U (tree.ends e) = returns_unit U e
  body_returns_unit U (tree.runs e b) = returns_unit U e && body_returns_unit U b
  body_returns_unit U (tree.declares n xs b) = body_returns_unit U b
  body_returns_unit U (tree.lets n q c b) = matched_returns_unit U c && body_returns_unit U b

-- functions of these items leave by returns of the unit
abbrev pub function_returns_unit : List ℕ → Option (Option Function) → Bool
function_returns_unit U (Some (Some g)) = returns_unit U g.body
function_returns_unit U _ = true

abbrev pub all_are_unit : Functions → List ℕ → List ℕ → Bool
all_are_unit P U [] = true
all_are_unit P U (f ∷ fs) = function_returns_unit U (element P f) && all_are_unit P U fs
