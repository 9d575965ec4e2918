-- A jump out of what became a new function is told by a variant of the function's result, beside which it hands out values of
-- variables; and the caller matches the result (REM, "Extract method": reified control flow; Rust Reference, "match expressions").
use Rattle.std.specs.Prelude.{◌≡◌, ℕ, Bool, [], ◌∷◌, List, Some}
use Rattle.rx_typed.specs.Tree as tree
use Rattle.rx_typed.specs.Tree.{Mark, Exp, Arms, Body, Subpatterns, temporary_at}
use Rattle.rx_lower_walks.specs.Actions.{Action, Give, at_mark}
use Rattle.rx_lower_walks.specs.Orders as orders
use Rattle.rx_lower_walks.specs.Orders.{returns}
use Rattle.rx_exits_plan.specs.Points.{Point}
use Rattle.rx_exits_plan.specs.Marked.{mark_then}
use Rattle.rx_engine_simulation.specs.Histories.{Facts, Living}
use Rattle.rx_engine_simulation.specs.Sights.{In, special, sight, Renaming, sight_of, IsNew}
use Rattle.rx_engine_simulation.specs.Jumps.{Pack, Returning, as_return, with_unit, no_return, Jumping, loop_of, with_value}
use Rattle.rx_engine_simulation.specs.Openings.{Openings}
use Rattle.rx_engine_simulation.specs.Passed.{let_pass}
use Rattle.rx_engine_simulation.specs.Arrivals.{Aim, to_part, then_mark, Arrives, AreReady, Within}
use Rattle.rx_engine_simulation.specs.Packing.{bare, as_variant, Takes, Gives, Receives, Picks}
use Rattle.rx_engine_simulation.specs.Handing.{Receiving, PuttingBack}
use Rattle.rx_engine_simulation.specs.Units.{GivesUnit}

-- what is elsewhere in the answer and is not handed out is needed no more where a walk of the text arrives
abbrev pub DeadAt : Facts → Jumping → List ℕ → Aim → Type 0
DeadAt V J outs a = (h : List Action) → Arrives V a h → (x : ℕ) → In x J.dead → (In x outs → ⊥) → Living V x h → ⊥

-- and behind what a return gives
abbrev pub DeadBehind : Facts → Jumping → Mark → Type 0
DeadBehind V J m = (k : ℕ) (h : List Action) → V.Comes (orders.then (orders.act (at_mark m (Give (temporary_at k 0)))) (orders.leave (returns m.node))) h → (x : ℕ) → In x J.dead → Living V x (at_mark m (Give (temporary_at k 0)) ∷ h) → ⊥

-- behind a mark in front of an expression
abbrev pub at_marked : Point → Exp → Aim
at_marked q e = then_mark (to_part (mark_then q e)) q

-- In the new function: a jump to a loop outside of it became the return of a variant with the variables that it hands out, a return
-- that of a variant with the value, or without a part for the unit, which is bound in front where it is an expression's.
pub data Leaves (U : List ℕ) (V : Facts) : ℕ → Jumping → Renaming → Exp → (Exp → Exp) → (Exp → Exp) → Type 0 where
  leaves_loop : {J : Jumping} {R : Renaming} {e g : Exp} {m m' : Mark} {l : ℕ} {again : Bool} {zs : List ℕ} (p : Pack) → J.leaving l again ≡ Some p → AreReady V R (to_part (tree.jump m l again)) p.outs zs → Gives (as_variant p.variant) zs g → DeadAt V J p.outs (to_part (tree.jump m l again))
      → Leaves U V 0 J R e (λ f. tree.jump m l again) (λ f. tree.give m' g)
  -- with a mark in front of the jump
  leaves_marked : {J : Jumping} {R : Renaming} {e g : Exp} {m m' : Mark} {l : ℕ} {again : Bool} {zs : List ℕ} (q : Point) (p : Pack) → J.leaving l again ≡ Some p → AreReady V R (at_marked q (tree.jump m l again)) p.outs zs → Gives (as_variant p.variant) zs g → DeadAt V J p.outs (at_marked q (tree.jump m l again))
      → Leaves U V 0 J R e (λ f. mark_then q (tree.jump m l again)) (λ f. tree.give m' g)
  leaves_function : {J : Jumping} {R : Renaming} {e g : Exp} {m mu m' : Mark} {v : ℕ} → J.returning ≡ with_unit v → DeadBehind V J m → Gives (as_variant v) [] g
      → Leaves U V 0 J R e (λ f. tree.give m (tree.unit mu)) (λ f. tree.give m' g)
  leaves_value : {J : Jumping} {R : Renaming} {e : Exp} {m m' w : Mark} {i v : ℕ} → J.returning ≡ with_value v → DeadBehind V J m
      → Leaves U V 0 J R e (λ e. tree.give m e) (λ e. tree.give m' (tree.build w (tree.variant_of i v) (tree.operand_and 0 e tree.no_operand)))
  leaves_unit : {J : Jumping} {R : Renaming} {e g : Exp} {m m' mb : Mark} {v n k o : ℕ} {mutable : Bool} → J.returning ≡ with_unit v → GivesUnit U e → DeadBehind V J m → IsNew R o → Gives (as_variant v) [] g
      → Leaves U V 0 J R e (λ e. tree.give m e) (λ e. tree.give m' (tree.block mb (tree.lets n (tree.bind k o (tree.by_value mutable)) (tree.of_value e) (tree.ends g))))
  -- the text tells that it is behind a value
  leaves_passed : {J : Jumping} {R : Renaming} {e : Exp} → Leaves U V 0 J R e (λ e. let_pass e) (λ e. e)

abbrev pub leaving : List ℕ → Openings
leaving U = record { expression = λ V a J R e f g. Leaves U V a J R e f g; statements = λ V a J R S b f g. ⊥ }

-- ---- in the caller

-- a jump, behind what puts variables back
pub data JumpsBehind : (Body → Body) → Exp → Exp → Type 0 where
  jumps_alone : {e : Exp} → JumpsBehind (λ b. b) e e
  jumps_last : {f : Body → Body} {m : Mark} {e : Exp} (mu : Mark) → JumpsBehind f e (tree.block m (f (tree.runs e (tree.ends (tree.unit mu)))))

abbrev pub AllSpecial : Renaming → List ℕ → Type 0
AllSpecial R xs = (x : ℕ) → In x xs → (y : ℕ) × (sight_of R x ≡ Some (sight y special))

-- the arm of a jump's variant puts the variables back that are handed out, and jumps
pub data JumpArm (V : Facts) (R : Renaming) (block : Body) (l : Arms) (p : Pack) (jump : Exp) : Type 0 where
  jump_arm : {qs : List ℕ} {ps : Subpatterns} {e : Exp} {f : Body → Body} (Rs Rr Rd : Renaming) → AllSpecial R p.outs → Within Rs R → Receiving R Rs p.outs qs Rr → Receives 0 qs ps → Picks l p.variant ps e
      → PuttingBack V R block Rr p.outs qs f Rd → Within R Rd → JumpsBehind f jump e → JumpArm V R block l p jump

-- the arm of the variant for a value returns it
pub data ValueArm (R : Renaming) (l : Arms) (v : ℕ) : Type 0 where
  value_arm : {q : ℕ} {ps : Subpatterns} {mg : Mark} {e : Exp} → IsNew R q → Receives 0 (q ∷ []) ps → Takes q e → Picks l v ps (tree.give mg e) → ValueArm R l v

pub data UnitArm (l : Arms) (v : ℕ) : Type 0 where
  unit_arm : {mg : Mark} {e : Exp} → Gives bare [] e → Picks l v tree.no_part (tree.give mg e) → UnitArm l v

-- the arm of the variant for a return returns
abbrev pub ReturnsOn : Jumping → Renaming → Arms → Returning → Type 0
ReturnsOn J R l no_return = Unit {0}
ReturnsOn J R l (with_unit v) = (J.returning ≡ as_return) × UnitArm l v
ReturnsOn J R l (with_value v) = (J.returning ≡ as_return) × ValueArm R l v
ReturnsOn J R l as_return = ⊥

-- the arms jump as the text does there
pub record JumpOn (V : Facts) (J Ji : Jumping) (R : Renaming) (block : Body) (l : Arms) : Type 0 where
  pub all_dead : (x y : ℕ) → sight_of R x ≡ Some (sight y special) → In x Ji.dead
  pub no_loops : Ji.loops ≡ []
  pub jumps_on : (n : ℕ) (again : Bool) (p : Pack) → Ji.leaving n again ≡ Some p → (mj : Mark) × (k : ℕ) × (loop_of J.loops n ≡ Some k) × JumpArm V R block l p (tree.jump mj k again)
  pub returns_on : ReturnsOn J R l Ji.returning
