-- Values of variables in a row, as a function's result: nothing, the value, a tuple, or a variant with them; and how such a result is
-- taken apart (Rust Reference, "Tuple expressions", "Enumerations", "Patterns").
use Rattle.std.specs.Prelude.{◌≡◌, ℕ, suc, Bool, true, false, nat_eq, List, [], ◌∷◌}
use Rattle.rx_typed.specs.Tree as tree
use Rattle.rx_typed.specs.Tree.{Mark, Exp, Operands, Subpatterns, Arms, own}
use Rattle.rx_engine_simulation.specs.Sights.{In, Renaming, IsNew}

pub data Way : Type 0 where
  -- the values themselves, several in a tuple
  bare : Way
  -- a variant of the function's enum, with the values as its parts
  as_variant : ℕ → Way
  -- the function's end is not come to
  no_way : Way

-- the value of a variable
pub data Takes : ℕ → Exp → Type 0 where
  takes_read : {q : ℕ} {m : Mark} {moves : Bool} → Takes q (tree.read m moves (own q))

-- operands that take variables in a row, from this field on
pub data TakesAll : ℕ → List ℕ → Operands → Type 0 where
  takes_none : {i : ℕ} → TakesAll i [] tree.no_operand
  takes_and : {i q : ℕ} {qs : List ℕ} {e : Exp} {es : Operands} → Takes q e → TakesAll (suc i) qs es → TakesAll i (q ∷ qs) (tree.operand_and i e es)

-- an expression that gives them
pub data Gives : Way → List ℕ → Exp → Type 0 where
  gives_unit : {m : Mark} → Gives bare [] (tree.unit m)
  gives_empty : {m mu : Mark} → Gives bare [] (tree.block m (tree.ends (tree.unit mu)))
  gives_one : {q : ℕ} {e : Exp} → Takes q e → Gives bare (q ∷ []) e
  gives_tuple : {p q : ℕ} {qs : List ℕ} {m : Mark} {es : Operands} → TakesAll 0 (p ∷ q ∷ qs) es → Gives bare (p ∷ q ∷ qs) (tree.build m tree.tuple es)
  gives_variant : {qs : List ℕ} {i v : ℕ} {m : Mark} {es : Operands} → TakesAll 0 qs es → Gives (as_variant v) qs (tree.build m (tree.variant_of i v) es)

-- parts that are received in variables, from this field on
pub data Receives : ℕ → List ℕ → Subpatterns → Type 0 where
  receives_none : {i : ℕ} → Receives i [] tree.no_part
  receives_and : {i k q : ℕ} {mutable : Bool} {qs : List ℕ} {ps : Subpatterns} → Receives (suc i) qs ps → Receives i (q ∷ qs) (tree.part_and i (tree.bind k q (tree.by_value mutable)) ps)

-- The first arm for a variant. That of an enum's only variant tests nothing.
pub data Picks : Arms → ℕ → Subpatterns → Exp → Type 0 where
  picks_here : {n i v : ℕ} {several : Bool} {ps : Subpatterns} {e : Exp} {rest : Arms} → Picks (tree.arm_and (tree.variant n i several v ps) e rest) v ps e
  picks_later : {n i w v : ℕ} {ps qs : Subpatterns} {e f : Exp} {rest : Arms} → nat_eq w v ≡ false → Picks rest v ps e → Picks (tree.arm_and (tree.variant n i true w qs) f rest) v ps e

-- variables of the answer that stand for none of the text's, each another
abbrev pub AreNew : Renaming → List ℕ → Type 0
AreNew R [] = Unit {0}
AreNew R (q ∷ qs) = IsNew R q × (In q qs → ⊥) × AreNew R qs
