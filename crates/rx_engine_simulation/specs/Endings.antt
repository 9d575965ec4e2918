-- How a new function ends that was made of statements of a block: what is left of them behind the first ones, and what the function
-- gives for it (REM, "Extract method": outputs; Rust Reference, "Block expressions").
use Rattle.std.specs.Prelude.{ℕ, Bool, true, false, List, [], ◌∷◌}
use Rattle.rx_typed.specs.Tree as tree
use Rattle.rx_typed.specs.Tree.{Mark, Place, Exp, Operands, Scrutinee, Body, temporary_of}
use Rattle.rx_lower_walks.specs.Actions.{Action, Give, at_mark}
use Rattle.rx_exits_plan.specs.Points.{Point}
use Rattle.rx_exits_plan.specs.Marked.{mark}
use Rattle.rx_engine_simulation.specs.Turns.{Allowance}
use Rattle.rx_engine_simulation.specs.Histories.{Facts}
use Rattle.rx_engine_simulation.specs.Sights.{In, Renaming, IsNew}
use Rattle.rx_engine_simulation.specs.Places.{looking, LikePlace}
use Rattle.rx_engine_simulation.specs.Jumps.{Jumping}
use Rattle.rx_engine_simulation.specs.Passed.{let_pass}
use Rattle.rx_engine_simulation.specs.Like.{LikeExp}
use Rattle.rx_engine_simulation.specs.Arrivals.{Aim, to_rest, past, past_tail, then_does, then_mark, Arrives, AreReady}
use Rattle.rx_engine_simulation.specs.Blocks.{Stretch}
use Rattle.rx_engine_simulation.specs.Packing.{Way, bare, as_variant, no_way, TakesAll, Gives}
use Rattle.rx_engine_simulation.specs.Units.{GivesUnit}
use Rattle.rx_engine_simulation.specs.Variants.{leaving}

-- what is left: nothing, a statement, one with a mark of the text behind it, the block's tail, or the end of a function's body, which
-- gives it
pub data Last : Type 0 where
  none_left : Last
  a_statement : Exp → Last
  a_marked : Exp → Point → Last
  a_tail : Exp → Last
  an_end : Mark → Exp → Last

abbrev pub with_last : Last → Body → Body
with_last none_left b = b
with_last (a_statement e) b = tree.runs e b
with_last (a_marked e p) b = tree.runs e (tree.runs (mark p) b)
with_last (a_tail e) b = tree.ends e
with_last (an_end m e) b = tree.ends (tree.give m e)

-- where the statements of this block end; at the function's end, behind what it gives
abbrev pub aim_of : Last → Body → Stretch → Aim
aim_of none_left b r = to_rest b r
aim_of (a_statement e) b r = past b r e
aim_of (a_marked e p) b r = then_mark (past b r e) p
aim_of (a_tail e) b r = past_tail b r e
aim_of (an_end m e) b r = then_does (past b r e) (at_mark m (Give (temporary_of e)))

-- an expression is left, of which the value is the block's or isn't
pub data IsLeft : Last → Exp → Bool → Type 0 where
  left_statement : {e : Exp} → IsLeft (a_statement e) e false
  left_marked : {e : Exp} {p : Point} → IsLeft (a_marked e p) e false
  left_tail : {e : Exp} {b : Bool} → IsLeft (a_tail e) e b
  left_end : {m : Mark} {e : Exp} {b : Bool} → IsLeft (an_end m e) e b

-- where there is no value, what is left gives the unit, or it is dropped
abbrev pub IsDropped : List ℕ → Last → Exp → Type 0
IsDropped U (a_statement f) e = Unit {0}
IsDropped U (a_marked f p) e = Unit {0}
IsDropped U _ e = GivesUnit U e

-- in front of a tuple the value is bound; a place is looked into
pub data Bound (items : ℕ → ℕ) (gain : Allowance) (U : List ℕ) (V : Facts) (J : Jumping) (R : Renaming) : Exp → Scrutinee → Type 0 where
  bound_value : {e e' : Exp} → LikeExp items (leaving U) gain V 0 J R e e' → Bound items gain U V J R e (tree.of_value e')
  bound_place : {m m' : Mark} {moves : Bool} {p p' : Place} → LikePlace R looking p p' → Bound items gain U V J R (tree.read m moves p) (tree.at_place m' p')
  -- of which the text tells that it passed
  bound_passed : {m m' : Mark} {moves : Bool} {p p' : Place} → LikePlace R looking p p' → Bound items gain U V J R (let_pass (tree.read m moves p)) (tree.at_place m' p')

-- What is left, and the new function's end: with the variables there, whether the run has a value, how values are given, and the
-- text's variables of which they are besides.
pub data LikeEnd (items : ℕ → ℕ) (gain : Allowance) (U : List ℕ) (V : Facts) (J : Jumping) (R : Renaming) (a : Aim) : Last → Bool → Way → List ℕ → Body → Type 0 where
  -- all statements are in front
  end_gives : {w : Way} {xs zs : List ℕ} {m : Mark} {g : Exp} → AreReady V R a xs zs → Gives w zs g → LikeEnd items gain U V J R a none_left false w xs (tree.ends (tree.give m g))
  -- what is left without a value is the function's tail
  end_is : {l : Last} {e e' : Exp} {m : Mark} → IsLeft l e false → IsDropped U l e → LikeExp items (leaving U) gain V 0 J R e e' → LikeEnd items gain U V J R a l false bare [] (tree.ends (tree.give m e'))
  -- or it stands in front
  end_runs : {l : Last} {e e' g : Exp} {w : Way} {xs zs : List ℕ} {m : Mark} → IsLeft l e false → IsDropped U l e → LikeExp items (leaving U) gain V 0 J R e e' → AreReady V R a xs zs → Gives w zs g
      → LikeEnd items gain U V J R a l false w xs (tree.runs e' (tree.ends (tree.give m g)))
  -- the value alone
  end_value : {l : Last} {e e' : Exp} {m : Mark} → IsLeft l e true → LikeExp items (leaving U) gain V 0 J R e e' → LikeEnd items gain U V J R a l true bare [] (tree.ends (tree.give m e'))
  -- in a variant, with values of variables behind it
  end_variant : {l : Last} {e e' : Exp} {i v : ℕ} {xs zs : List ℕ} {m w : Mark} {es : Operands} → IsLeft l e true → LikeExp items (leaving U) gain V 0 J R e e' → AreReady V R a xs zs → TakesAll 1 zs es
      → LikeEnd items gain U V J R a l true (as_variant v) xs (tree.ends (tree.give m (tree.build w (tree.variant_of i v) (tree.operand_and 0 e' es))))
  -- in a tuple with them
  end_tuple : {l : Last} {e g : Exp} {c : Scrutinee} {n k o : ℕ} {xs zs : List ℕ} {mutable : Bool} {m : Mark} → IsLeft l e true → Bound items gain U V J R e c → IsNew R o → (In o zs → ⊥) → AreReady V R a xs zs → Gives bare (o ∷ zs) g
      → LikeEnd items gain U V J R a l true bare xs (tree.lets n (tree.bind k o (tree.by_value mutable)) c (tree.ends (tree.give m g)))
  -- the end is not come to
  end_never : {m : Mark} {g : Exp} → ((h : List Action) → Arrives V a h → ⊥) → LikeEnd items gain U V J R a none_left false no_way [] (tree.ends (tree.give m g))
  end_left : {l : Last} {e e' : Exp} {m : Mark} {b : Bool} → IsLeft l e b → ((h : List Action) → Arrives V a h → ⊥) → LikeExp items (leaving U) gain V 0 J R e e' → LikeEnd items gain U V J R a l false no_way [] (tree.ends (tree.give m e'))
