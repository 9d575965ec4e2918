-- Statements of a block became the call of a new function, or the match of its result (REM, "Extract method"; Rust Reference,
-- "Statements"): what the function does, and what stands in place of the statements.
use Rattle.std.specs.Prelude.{◌≡◌, ℕ, suc, Bool, true, false, List, [], ◌∷◌, length, Some}
use Rattle.rx_typed.specs.Tree as tree
use Rattle.rx_typed.specs.Tree.{Mark, Exp, Operands, Arms, Body, Temporary, Parameter, Subpatterns}
use Rattle.rx_lower_walks.specs.Actions.{Action}
use Rattle.rx_lower_walks.specs.Orders.{order_body, order}
use Rattle.rx_lower_walks.specs.Walks.{on, Walk}
use Rattle.rx_exits_plan.specs.Points.{Point}
use Rattle.rx_engine_simulation.specs.Turns.{Allowance}
use Rattle.rx_engine_simulation.specs.Histories.{Facts, Living, put}
use Rattle.rx_engine_simulation.specs.Sights.{In, special, sight, Renaming, sight_of, IsNew}
use Rattle.rx_engine_simulation.specs.Jumps.{as_return, Jumping}
use Rattle.rx_engine_simulation.specs.Variants.{JumpOn}
use Rattle.rx_engine_simulation.specs.Passing.{New, AreShut, Passing, Local, Absents, inner_jumps, NoneSpecial, Covers}
use Rattle.rx_engine_simulation.specs.Arrivals.{Aim, AreDead, Within, Specials}
use Rattle.rx_engine_simulation.specs.Packing.{Way, bare, as_variant, no_way, Takes, Gives, Receives, Picks, AreNew}
use Rattle.rx_engine_simulation.specs.Handing.{Receiving, PuttingBack, Using, Redeclaring}
use Rattle.rx_engine_simulation.specs.Blocks.{Stretch, before, with_locals}
use Rattle.rx_engine_simulation.specs.Stretches.{LikeStretch}
use Rattle.rx_engine_simulation.specs.Temporaries.{IsPlaced}
use Rattle.rx_engine_simulation.specs.Endings.{Last, none_left, a_statement, a_marked, a_tail, an_end, with_last, aim_of, LikeEnd}

-- variables that are elsewhere in the answer: there are none, or each is the new function's and is needed no more where a walk has gone
-- through the expression, whose value goes to a temporary of an operand
pub data Elsewhere (V : Facts) (R Ra : Renaming) (e : Exp) : Type 0 where
  none_elsewhere : NoneSpecial R → Elsewhere V R Ra e
  moved_in : Specials R Ra → ((t : Temporary) (h : List Action) → V.Comes (order e t) h → t.which ≡ 0)
      → ((t : Temporary) (h w : List Action) → V.Comes (order e t) h → Walk (order e t) w on → (x y : ℕ) → sight_of R x ≡ Some (sight y special) → Living V x (put w h) → ⊥) → Elsewhere V R Ra e

-- the new function's variables where it begins, with the arguments and those without a value
pub data Entered (may : Bool) (V : Facts) (R : Renaming) (block : Body) (es : Operands) (ps : List Parameter) (ls : List (ℕ × ℕ)) (Ra : Renaming) : Type 0 where
  enters : (cold : List ℕ) (Rp Rl : Renaming) → AreShut R cold → ((i : ℕ) (t : Temporary) → Passing may V R (order_body block i t) (λ x. In x cold) [] es ps Rp)
      → ((i : ℕ) (t : Temporary) → Local V R (order_body block i t) (λ x. In x cold) Rp ls Rl) → Absents Rl Ra → Covers R Ra → Specials R Ra → Entered may V R block es ps ls Ra

-- The call, or the match of it: under the function's jumps, how its result is given, the number of values. The arm of the variant for
-- the end gives them.
pub data Calling (V : Facts) (J : Jumping) (R : Renaming) (block : Body) (called : Exp) : Jumping → Way → ℕ → Exp → Type 0 where
  calls_alone : {n : ℕ} → Calling V J R block called inner_jumps bare n called
  matches : {Ji : Jumping} {v n : ℕ} {m : Mark} {l : Arms} {qs : List ℕ} {ps : Subpatterns} {e : Exp} → JumpOn V J Ji R block l → Picks l v ps e → Receives 0 qs ps → AreNew R qs → Gives bare qs e → length qs ≡ n
      → Calling V J R block called Ji (as_variant v) n (tree.choose m (tree.of_value called) l)
  matches_jumps : {Ji : Jumping} {n : ℕ} {m : Mark} {l : Arms} → JumpOn V J Ji R block l → Calling V J R block called Ji no_way n (tree.choose m (tree.of_value called) l)

-- the block's value, or what the function's body gives
pub data GivenBack (J : Jumping) : Last → (Exp → Exp) → Type 0 where
  as_tail : {e : Exp} → GivenBack J (a_tail e) (λ e. e)
  as_end : {m m' : Mark} {e : Exp} → J.returning ≡ as_return → GivenBack J (an_end m e) (λ e. tree.give m' e)

-- what follows in the answer: the rest of the block; where the run held its tail, a unit
pub data Following (J : Jumping) : Last → (Body → Body) → Type 0 where
  goes_on : Following J none_left (λ b. b)
  goes_on_behind : {e : Exp} → Following J (a_statement e) (λ b. b)
  goes_on_marked : {e : Exp} {p : Point} → Following J (a_marked e p) (λ b. b)
  ends_with_unit : {l : Last} {k : Exp → Exp} {m : Mark} → GivenBack J l k → Following J l (λ b. tree.ends (k (tree.unit m)))

abbrev pub count : Bool → List ℕ → ℕ
count false xs = length xs
count true xs = suc (length xs)

-- what stands in place of the statements, in front of the rest of the answer's block; with the variables of that rest
pub data Handing (V : Facts) (J : Jumping) (R Rb : Renaming) (block : Body) (a : Aim) (e : Exp) : Last → Bool → Way → List ℕ → Renaming → (Body → Body) → Type 0 where
  hands_on : {l : Last} {w : Way} {xs : List ℕ} {Rn : Renaming} {f g k : Body → Body} (Rs Rr Rd : Renaming) → Within Rs R → AreDead V Rs a → Using V R block e Rs xs Rr g → Redeclaring V Rb a Rr f Rd → Following J l k → Within Rn Rd → Within R Rn
      → Handing V J R Rb block a e l false w xs Rn (λ b. g (f (k b)))
  -- the run's value
  hands_value : {l : Last} {w : Way} {Rn : Renaming} {k : Exp → Exp} → AreDead V R a → GivenBack J l k → Handing V J R Rb block a e l true w [] Rn (λ b. tree.ends (k e))
  -- behind what is done with the others
  hands_beside : {l : Last} {w : Way} {n x o : ℕ} {xs os : List ℕ} {ps : Subpatterns} {e1 : Exp} {Rn : Renaming} {g : Body → Body} {k : Exp → Exp} (Rs Rr Rd : Renaming) → Within Rs R → AreDead V Rs a → IsNew R o → (In o os → ⊥)
      → Receiving R Rs (x ∷ xs) os Rr → Receives 0 (o ∷ os) ps → PuttingBack V R block Rr (x ∷ xs) os g Rd → Within R Rd → Takes o e1 → GivenBack J l k
      → Handing V J R Rb block a e l true w (x ∷ xs) Rn (λ b. tree.lets n (tree.parts ps) (tree.of_value e) (g (tree.ends (k e1))))
  -- what follows is not come to
  hands_none : {l : Last} {Rn : Renaming} {g : Body → Body} → Handing V J R Rb block a e l false no_way [] Rn (λ b. tree.runs e (g b))

-- the body of the new function
abbrev pub body_of : Mark → List (ℕ × ℕ) → Stretch → Body → Exp
body_of mb ls r end = tree.block mb (with_locals ls (before r end))

-- the call takes one turn
pub data StatementsBecomeCall (items : ℕ → ℕ) (gain : Allowance) (U : List ℕ) (N : New) (V : Facts) : ℕ → Jumping → Renaming → Renaming → Body → (Body → Body) → (Body → Body) → Type 0 where
  statements_become_call : {J Ji : Jumping} {R Rn : Renaming} {r r' : Stretch} {l : Last} {has : Bool} {w : Way} {xs : List ℕ} {rest end : Body} {es : Operands} {mc : Mark} {called : Exp} {f' : Body → Body} (Ra Rb : Renaming) (mb : Mark) (ls : List (ℕ × ℕ))
      → N.function.body ≡ body_of mb ls r' end → Entered gain.strays V R (before r (with_last l rest)) es N.function.params ls Ra → LikeStretch items gain U V Ji Ra r r' Rb → LikeEnd items gain U V Ji Rb (aim_of l (before r (with_last l rest)) r) l has w xs end
      → ((e : Exp) → l ≡ a_tail e → IsPlaced V (before r (with_last l rest)) e)
      → Calling V J R (before r (with_last l rest)) (tree.call mc N.number es) Ji w (count has xs) called → Handing V J R Rb (before r (with_last l rest)) (aim_of l (before r (with_last l rest)) r) called l has w xs Rn f'
      → StatementsBecomeCall items gain U N V 1 J R Rn rest (λ b. before r (with_last l b)) f'
