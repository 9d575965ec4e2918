-- Items of functions that are declared to give the unit, and parts of a typed tree that read no value of its type (Rust Reference, "Tuple
-- types", "Functions").
use Rattle.std.specs.Prelude.{◌≡◌, ℕ, suc, Bool, true, false, if◌then◌else◌, List, [], ◌∷◌, Option, Some, None}
use Rattle.rx_typed.specs.Types.{Typ, tuple_of, no_shape, Declared, Declarations, function_declared}
use Rattle.rx_typed.specs.Tree as tree
use Rattle.rx_typed.specs.Tree.{Exp, Operands, Scrutinee, Arms, Body}

abbrev pub is_unit : Typ → Bool
is_unit (tuple_of no_shape) = true
is_unit _ = false

-- ---- items

abbrev pub gives_unit : Declared → Bool
gives_unit (function_declared ps t) = is_unit t
gives_unit _ = false

-- the first of which has this number
abbrev pub unit_items_from : ℕ → Declarations → List ℕ
unit_items_from n [] = []
unit_items_from n (d ∷ ds) = if gives_unit d then n ∷ unit_items_from (suc n) ds else unit_items_from (suc n) ds

abbrev pub unit_items : Declarations → List ℕ
unit_items D = unit_items_from 0 D

-- ---- reads

-- what is Never has no type
abbrev pub has_unit : Option Typ → Bool
has_unit None = false
has_unit (Some t) = is_unit t

abbrev mutual
  pub ReadsNoUnit : Exp → Type 0
  ReadsNoUnit (tree.read m v p) = has_unit m.typ ≡ false
  ReadsNoUnit (tree.borrow m k p) = Unit {0}
  ReadsNoUnit (tree.share m e) = ReadsNoUnit e
  ReadsNoUnit (tree.build m w es) = NoneReadsUnit es
  ReadsNoUnit (tree.unit m) = Unit {0}
  ReadsNoUnit (tree.lazily m b e f) = ReadsNoUnit e × ReadsNoUnit f
  ReadsNoUnit (tree.assign m p e) = ReadsNoUnit e
  ReadsNoUnit (tree.update m o p e) = ReadsNoUnit e
  ReadsNoUnit (tree.call m f es) = NoneReadsUnit es
  ReadsNoUnit (tree.input m) = Unit {0}
  ReadsNoUnit (tree.print m e) = ReadsNoUnit e
  ReadsNoUnit (tree.block m b) = BodyReadsNoUnit b
  ReadsNoUnit (tree.choose m s r) = MatchedReadsNoUnit s × ArmsReadNoUnit r
  ReadsNoUnit (tree.loop m l e) = ReadsNoUnit e
  ReadsNoUnit (tree.jump m l again) = Unit {0}
  ReadsNoUnit (tree.give m e) = ReadsNoUnit e

  pub NoneReadsUnit : Operands → Type 0
  NoneReadsUnit tree.no_operand = Unit {0}
  NoneReadsUnit (tree.operand_and i e es) = ReadsNoUnit e × NoneReadsUnit es

  pub MatchedReadsNoUnit : Scrutinee → Type 0
  MatchedReadsNoUnit (tree.at_place m p) = Unit {0}
  MatchedReadsNoUnit (tree.of_value e) = ReadsNoUnit e

  pub ArmsReadNoUnit : Arms → Type 0
  ArmsReadNoUnit tree.no_arm = Unit {0}
  ArmsReadNoUnit (tree.arm_and p e r) = ReadsNoUnit e × ArmsReadNoUnit r

  pub BodyReadsNoUnit : Body → Type 0
  BodyReadsNoUnit (tree.ends e) = ReadsNoUnit e
  BodyReadsNoUnit (tree.runs e b) = ReadsNoUnit e × BodyReadsNoUnit b
  BodyReadsNoUnit (tree.declares s xs b) = BodyReadsNoUnit b
  BodyReadsNoUnit (tree.lets s p c b) = MatchedReadsNoUnit c × BodyReadsNoUnit b
