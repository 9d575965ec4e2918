-- What a new function is given, as parameters and as variables without a value (REM, "Extract method"; Rust Reference, "Call
-- expressions", "let statements", "Coercion types"): by value, where a variable moves, or is copied and isn't written; by reference; or
-- the reference that a variable holds is asked for again, which a coercion does at an argument.
use Rattle.std.specs.Prelude.{◌≡◌, ℕ, Bool, true, false, List, [], ◌∷◌, Some, None}
use Rattle.rx_core.specs.declared.types.Step.TheVariants as step
use Rattle.rx_typed.specs.Tree as tree
use Rattle.rx_typed.specs.Tree.{Mark, Exp, Operands, Parameter, Function, own, under}
use Rattle.rx_lower_walks.specs.Actions.{Action}
use Rattle.rx_lower_walks.specs.Orders.{Order}
use Rattle.rx_engine_simulation.specs.Histories.{Facts, Living, Written}
use Rattle.rx_engine_simulation.specs.Sights.{Hold, shut, In, plain, special, through, copied, viewed, absent, Sight, sight, Renaming, sight_of, IsNew}
use Rattle.rx_engine_simulation.specs.Jumps.{no_return, Jumping}

-- the new function, and its item in the answer
pub record New : Type 0 where
  pub number : ℕ
  pub function : Function

-- the reference in a variable, asked for again, mutable or shared
abbrev pub reborrow_of : Mark → Bool → ℕ → Bool → Exp
reborrow_of m k y n = tree.borrow m k (under (own y) (step.Deref n ∷ []))

-- what is not written while the function runs: variables to which no mutable reference leads
abbrev pub AreShut : Renaming → List ℕ → Type 0
AreShut R cold = (x : ℕ) → In x cold → (y : ℕ) × (sight_of R x ≡ Some (sight y (plain shut)))

-- The operands of the call, the parameters, and how the new function has the text's variables then: from those so far to all. What
-- is moved is asked to be needed where a walk of the text comes to the part; and to be written, as what is copied, and a variable whose
-- reference is asked for again.
pub data Passing (may : Bool) (V : Facts) (R : Renaming) (part : Order) (Cold : ℕ → Type 0) : Renaming → Operands → List Parameter → Renaming → Type 0 where
  passes_none : {Rp : Renaming} → Passing may V R part Cold Rp tree.no_operand [] Rp
  passes_move : {Rp Rf : Renaming} {x y i : ℕ} {m : Mark} {moves : Bool} {p : Parameter} {es : Operands} {ps : List Parameter} → sight_of R x ≡ Some (sight y special) → (Cold x → ⊥)
      → ((h : List Action) → V.Comes part h → Living V x h) → ((h : List Action) → V.Comes part h → Written h x) → sight_of Rp x ≡ None → IsNew Rp p.variable
      → Passing may V R part Cold ((x, sight p.variable special) ∷ Rp) es ps Rf → Passing may V R part Cold Rp (tree.operand_and i (tree.read m moves (own y)) es) (p ∷ ps) Rf
  passes_copy : {Rp Rf : Renaming} {x y i : ℕ} {m : Mark} {moves : Bool} {p : Parameter} {es : Operands} {ps : List Parameter} → sight_of R x ≡ Some (sight y (plain shut)) → Cold x
      → ((h : List Action) → V.Comes part h → Written h x) → sight_of Rp x ≡ None → IsNew Rp p.variable
      → Passing may V R part Cold ((x, sight p.variable copied) ∷ Rp) es ps Rf → Passing may V R part Cold Rp (tree.operand_and i (tree.read m moves (own y)) es) (p ∷ ps) Rf
  passes_reference : {Rp Rf : Renaming} {x y i : ℕ} {m : Mark} {k : Bool} {p : Parameter} {es : Operands} {ps : List Parameter} (w : Hold) → sight_of R x ≡ Some (sight y (plain w)) → (k ≡ true → Cold x → ⊥)
      → sight_of Rp x ≡ None → IsNew Rp p.variable
      → Passing may V R part Cold ((x, sight p.variable (through w k)) ∷ Rp) es ps Rf → Passing may V R part Cold Rp (tree.operand_and i (tree.borrow m k (own y)) es) (p ∷ ps) Rf
  -- the reference that moves
  passes_again : {Rp Rf : Renaming} {x y i : ℕ} {m : Mark} {n : Bool} {p : Parameter} {es : Operands} {ps : List Parameter} → may ≡ true → sight_of R x ≡ Some (sight y special) → (Cold x → ⊥)
      → ((h : List Action) → V.Comes part h → Living V x h) → ((h : List Action) → V.Comes part h → Written h x) → sight_of Rp x ≡ None → IsNew Rp p.variable
      → Passing may V R part Cold ((x, sight p.variable special) ∷ Rp) es ps Rf → Passing may V R part Cold Rp (tree.operand_and i (reborrow_of m true y n) es) (p ∷ ps) Rf
  -- one that stays: only what it leads to is written, or looked at
  passes_reborrow : {Rp Rf : Renaming} {x y i : ℕ} {m : Mark} {n : Bool} {p : Parameter} {es : Operands} {ps : List Parameter} → may ≡ true → sight_of R x ≡ Some (sight y (plain shut)) → Cold x
      → ((h : List Action) → V.Comes part h → Written h x) → sight_of Rp x ≡ None → IsNew Rp p.variable
      → Passing may V R part Cold ((x, sight p.variable copied) ∷ Rp) es ps Rf → Passing may V R part Cold Rp (tree.operand_and i (reborrow_of m true y n) es) (p ∷ ps) Rf
  passes_view : {Rp Rf : Renaming} {x y i : ℕ} {m : Mark} {n : Bool} {p : Parameter} {es : Operands} {ps : List Parameter} → may ≡ true → sight_of R x ≡ Some (sight y (plain shut)) → Cold x
      → ((h : List Action) → V.Comes part h → Written h x) → sight_of Rp x ≡ None → IsNew Rp p.variable
      → Passing may V R part Cold ((x, sight p.variable viewed) ∷ Rp) es ps Rf → Passing may V R part Cold Rp (tree.operand_and i (reborrow_of m false y n) es) (p ∷ ps) Rf

-- variables of the new function without a value, by their statements' nodes: variables of the text that nothing needs at the part
pub data Local (V : Facts) (R : Renaming) (part : Order) (Cold : ℕ → Type 0) : Renaming → List (ℕ × ℕ) → Renaming → Type 0 where
  no_local : {Rp : Renaming} → Local V R part Cold Rp [] Rp
  local_and : {Rp Rf : Renaming} {x y z n : ℕ} {ls : List (ℕ × ℕ)} → sight_of R x ≡ Some (sight y special) → (Cold x → ⊥) → ((h : List Action) → V.Comes part h → Living V x h → ⊥) → sight_of Rp x ≡ None → IsNew Rp z
      → Local V R part Cold ((x, sight z special) ∷ Rp) ls Rf → Local V R part Cold Rp ((n, z) ∷ ls) Rf

-- the other variables of the text are nowhere in the answer's frame while the new function runs
pub data Absents : Renaming → Renaming → Type 0 where
  none_absent : {Rp : Renaming} → Absents Rp Rp
  absent_and : {Rp Rf : Renaming} {x z : ℕ} → sight_of Rp x ≡ None → IsNew Rp z → Absents ((x, sight z absent) ∷ Rp) Rf → Absents Rp Rf

-- each jump is of a loop inside
abbrev pub inner_jumps : Jumping
inner_jumps = record { loops = []; leaving = λ l again. None; returning = no_return; dead = [] }

-- no variable is elsewhere in the answer
abbrev pub NoneSpecial : Renaming → Type 0
NoneSpecial R = (x y : ℕ) → sight_of R x ≡ Some (sight y special) → ⊥

abbrev pub Covers : Renaming → Renaming → Type 0
Covers R Ra = (x : ℕ) (e : Sight) → sight_of R x ≡ Some e → (f : Sight) × (sight_of Ra x ≡ Some f)
