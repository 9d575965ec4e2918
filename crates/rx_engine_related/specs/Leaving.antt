-- Jumps out of the run in the new function: each is the return of a variant of the function's result, which has what the exit hands out; and
-- the match of that result in the caller, which has an arm for each exit (REM, "Extract method": reified control flow; Rust Reference,
-- "Enumerations", "break expressions", "return expressions", "match expressions").
use Rattle.std.specs.Prelude.{◌≡◌, ℕ, suc, Bool, true, false, if◌then◌else◌, List, [], ◌∷◌, Option, Some, None}
use Rattle.rx_typed.specs.Tree as tree
use Rattle.rx_typed.specs.Tree.{Mark, Exp, Arms, Body, Subpatterns}
use Rattle.rx_exits_plan.specs.Points.{Exit, returns, leaves, same_exit, jump_exit}
use Rattle.rx_exits_plan.specs.Marked.{mark_then}
use Rattle.rx_exits_plan.specs.Asked.{Asked}
use Rattle.rx_exits_plan.specs.Plan.{Plan}
use Rattle.rx_engine_simulation.specs.Sights.{In, special, sight, Renaming, sight_of, IsNew}
use Rattle.rx_engine_simulation.specs.Jumps.{Pack, Returning, with_value, with_unit, no_return, Jumping, loop_of}
use Rattle.rx_engine_simulation.specs.Openings.{Openings}
use Rattle.rx_engine_simulation.specs.Arrivals.{Within}
use Rattle.rx_engine_simulation.specs.Packing.{as_variant, Gives, Receives, Picks}
use Rattle.rx_engine_simulation.specs.Handing.{Receiving}
use Rattle.rx_engine_simulation.specs.Units.{GivesUnit}
use Rattle.rx_engine_simulation.specs.Variants.{JumpsBehind, AllSpecial, ReturnsOn}
use Rattle.rx_engine_related.specs.AboutRun.{special_of}
use Rattle.rx_engine_related.specs.Handed.{PutBack}

-- ---- variants, by the numbers of the exits in the plan

abbrev pub place_from : ℕ → Exit → List Exit → Option ℕ
place_from i e [] = None
place_from i e (x ∷ xs) = if same_exit e x then Some i else place_from (suc i) e xs

abbrev pub variant_for : Plan → Exit → Option ℕ
variant_for k e = place_from 0 e k.exits

abbrev pub pack_if : List ℕ → Option ℕ → Option Pack
pack_if xs None = None
pack_if xs (Some v) = Some (record { variant = v; outs = xs })

abbrev pub packed : Plan → ℕ → Bool → Option Pack
packed k l again = pack_if (k.outs (jump_exit l again)) (variant_for k (jump_exit l again))

-- a return has its value, or no part where the run's function gives the unit
abbrev pub returning_if : Bool → Option ℕ → Returning
returning_if unit None = no_return
returning_if true (Some v) = with_unit v
returning_if false (Some v) = with_value v

-- the jumps of the new function, by whether the run's function gives the unit
abbrev pub jumps_of : Asked → List Bool → Plan → Bool → Jumping
jumps_of A muts k unit = record { loops = []; leaving = λ l again. packed k l again; returning = returning_if unit (variant_for k returns); dead = special_of A muts k }

-- ---- in the new function

-- the variables of it that have these of the text
pub data HaveThere (R : Renaming) : List ℕ → List ℕ → Type 0 where
  none_there : HaveThere R [] []
  there_and : {x z : ℕ} {xs zs : List ℕ} → sight_of R x ≡ Some (sight z special) → HaveThere R xs zs → HaveThere R (x ∷ xs) (z ∷ zs)

-- The text has a mark in front of a jump that leaves. A unit that is returned as an expression's value is bound first.
pub data Left (U : List ℕ) : ℕ → Jumping → Renaming → Exp → (Exp → Exp) → (Exp → Exp) → Type 0 where
  left_by_jump : {J : Jumping} {R : Renaming} {e g : Exp} {m m' : Mark} {l : ℕ} {again : Bool} {zs : List ℕ} (p : Pack) → J.leaving l again ≡ Some p → HaveThere R p.outs zs → Gives (as_variant p.variant) zs g
      → Left U 0 J R e (λ f. mark_then (leaves (jump_exit l again)) (tree.jump m l again)) (λ f. tree.give m' g)
  left_by_return : {J : Jumping} {R : Renaming} {e g : Exp} {m mu m' : Mark} {v : ℕ} → J.returning ≡ with_unit v → Gives (as_variant v) [] g → Left U 0 J R e (λ f. tree.give m (tree.unit mu)) (λ f. tree.give m' g)
  left_with_value : {J : Jumping} {R : Renaming} {e : Exp} {m m' w : Mark} {i v : ℕ} → J.returning ≡ with_value v
      → Left U 0 J R e (λ e. tree.give m e) (λ e. tree.give m' (tree.build w (tree.variant_of i v) (tree.operand_and 0 e tree.no_operand)))
  left_with_unit : {J : Jumping} {R : Renaming} {e g : Exp} {m m' mb : Mark} {v n k o : ℕ} {mutable : Bool} → J.returning ≡ with_unit v → GivesUnit U e → IsNew R o → Gives (as_variant v) [] g
      → Left U 0 J R e (λ e. tree.give m e) (λ e. tree.give m' (tree.block mb (tree.lets n (tree.bind k o (tree.by_value mutable)) (tree.of_value e) (tree.ends g))))

abbrev pub left : List ℕ → Openings
left U = record { expression = λ V a J R e f g. Left U a J R e f g; statements = λ V a J R S b f g. ⊥ }

-- ---- in the caller

-- the arm of a jump's variant puts back what the exit hands out, and jumps
pub data BackArm (A : Asked) (muts : List Bool) (k : Plan) (R : Renaming) (l : Arms) (p : Pack) (jump : Exp) : Type 0 where
  back_arm : {qs : List ℕ} {ps : Subpatterns} {e : Exp} {f : Body → Body} (Rs Rr Rd : Renaming) → AllSpecial R p.outs → Within Rs R → Receiving R Rs p.outs qs Rr → Receives 0 qs ps → Picks l p.variant ps e
      → PutBack A muts k R Rr p.outs qs f Rd → Within R Rd → JumpsBehind f jump e → BackArm A muts k R l p jump

-- under the jumps there
pub record ArmsOf (A : Asked) (muts : List Bool) (k : Plan) (unit : Bool) (J : Jumping) (R : Renaming) (l : Arms) : Type 0 where
  pub all_special : (x y : ℕ) → sight_of R x ≡ Some (sight y special) → In x (special_of A muts k)
  pub jumps : (n : ℕ) (again : Bool) (p : Pack) → packed k n again ≡ Some p → (mj : Mark) × (d : ℕ) × (loop_of J.loops n ≡ Some d) × BackArm A muts k R l p (tree.jump mj d again)
  pub return : ReturnsOn J R l (returning_if unit (variant_for k returns))
