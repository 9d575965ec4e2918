-- Where a run of statements, or a jump out of it, leads to in the text, and what is known of variables there (RFC 2094, "Liveness").
use Rattle.std.specs.Prelude.{◌≡◌, ℕ, List, [], ◌∷◌, Some}
use Rattle.rx_typed.specs.Tree.{Exp, Body, Temporary, temporary_of}
use Rattle.rx_lower_walks.specs.Actions.{Action}
use Rattle.rx_lower_walks.specs.Orders.{order_body, order}
use Rattle.rx_lower_walks.specs.Walks.{on, Walk}
use Rattle.rx_exits_plan.specs.Points.{Point}
use Rattle.rx_exits_plan.specs.Marked.{shown}
use Rattle.rx_engine_simulation.specs.Histories.{Facts, Living, Written, Borrowed, put}
use Rattle.rx_engine_simulation.specs.Blocks.{Stretch, Through}
use Rattle.rx_engine_simulation.specs.Sights.{special, Sight, sight, Renaming, sight_of}

pub data Aim : Type 0 where
  -- behind these statements of a block
  to_rest : Body → Stretch → Aim
  -- and behind an expression that follows them, as a statement or the end of a function's body, or as the block's tail
  past : Body → Stretch → Exp → Aim
  past_tail : Body → Stretch → Exp → Aim
  -- in front of an expression
  to_part : Exp → Aim
  -- and behind an action there
  then_does : Aim → Action → Aim

abbrev pub then_mark : Aim → Point → Aim
then_mark a p = then_does a (shown p)

-- with this history a walk of the text arrives there
pub data Arrives (V : Facts) : Aim → List Action → Type 0 where
  arrives_rest : {b : Body} {r : Stretch} {h w : List Action} (i : ℕ) (t : Temporary) → V.Comes (order_body b i t) h → Through r w → Arrives V (to_rest b r) (put w h)
  arrives_past : {b : Body} {r : Stretch} {e : Exp} {h w u : List Action} (i : ℕ) (t : Temporary) → V.Comes (order_body b i t) h → Through r w → Walk (order e (temporary_of e)) u on → Arrives V (past b r e) (put u (put w h))
  arrives_tail : {b : Body} {r : Stretch} {e : Exp} {h w u : List Action} (i : ℕ) (t : Temporary) → V.Comes (order_body b i t) h → Through r w → Walk (order e t) u on → Arrives V (past_tail b r e) (put u (put w h))
  arrives_part : {e : Exp} {h : List Action} (t : Temporary) → V.Comes (order e t) h → Arrives V (to_part e) h
  arrives_then : {a : Aim} {b : Action} {h : List Action} → Arrives V a h → Arrives V (then_does a b) (b ∷ h)

-- variables that are elsewhere in the answer are needed no more there
abbrev pub AreDead : Facts → Renaming → Aim → Type 0
AreDead V R a = (x y : ℕ) → sight_of R x ≡ Some (sight y special) → (h : List Action) → Arrives V a h → Living V x h → ⊥

-- it is needed there, and it was written
abbrev pub IsReady : Facts → Aim → ℕ → Type 0
IsReady V a x = (h : List Action) → Arrives V a h → Living V x h × Written h x

-- its own storage wasn't borrowed until these statements
abbrev pub IsUnlent : Facts → Body → ℕ → Type 0
IsUnlent V b x = (i : ℕ) (t : Temporary) (h : List Action) → V.Comes (order_body b i t) h → Borrowed h x → ⊥

-- the variables of the new function that have these of the text, each ready there
pub data AreReady (V : Facts) (R : Renaming) (a : Aim) : List ℕ → List ℕ → Type 0 where
  none_ready : AreReady V R a [] []
  ready_and : {x z : ℕ} {xs zs : List ℕ} → sight_of R x ≡ Some (sight z special) → IsReady V a x → AreReady V R a xs zs → AreReady V R a (x ∷ xs) (z ∷ zs)

abbrev pub Within : Renaming → Renaming → Type 0
Within R R' = (x : ℕ) (e : Sight) → sight_of R x ≡ Some e → sight_of R' x ≡ Some e

-- each variable that is elsewhere in the answer is the new function's
abbrev pub Specials : Renaming → Renaming → Type 0
Specials R Ra = (x y : ℕ) → sight_of R x ≡ Some (sight y special) → (z : ℕ) × (sight_of Ra x ≡ Some (sight z special))
