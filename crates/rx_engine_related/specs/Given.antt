-- What the new function is given, param by param in its mode, and its variables without a value (REM, "Extract method"; Rust Reference,
-- "Call expressions", "let statements", "Coercion sites").
use Rattle.std.specs.Prelude.{◌≡◌, ℕ, Bool, true, false, List, [], ◌∷◌, Some, None}
use Rattle.rx_typed.specs.Tree as tree
use Rattle.rx_typed.specs.Tree.{Mark, Operands, Parameter, own}
use Rattle.rx_modes_policy.specs.declared.uses.Mode.TheVariants as mode
use Rattle.rx_modes_policy.specs.declared.uses.Mode.{Mode}
use Rattle.rx_exits_plan.specs.Plan.{Plan}
use Rattle.rx_engine_simulation.specs.Sights.{Hold, shut, In, plain, special, through, copied, viewed, sight, Renaming, sight_of, IsNew}
use Rattle.rx_engine_simulation.specs.Passing.{reborrow_of, AreShut, Absents, Covers}
use Rattle.rx_engine_simulation.specs.Arrivals.{Specials}

-- With the variables outside, those that are copied, and the new function's so far; whether references may be asked for again.
pub data GivenTo (again : Bool) (R : Renaming) (cold : List ℕ) : Renaming → List ℕ → List Mode → Operands → List Parameter → Renaming → Type 0 where
  given_all : {Rp : Renaming} → GivenTo again R cold Rp [] [] tree.no_operand [] Rp
  -- by value: it moves, also where the reference that it holds is asked for again, or it is copied
  moves_in : {Rp Rf : Renaming} {x y i : ℕ} {m : Mark} {moves : Bool} {xs : List ℕ} {ms : List Mode} {p : Parameter} {es : Operands} {ps : List Parameter} → sight_of R x ≡ Some (sight y special) → sight_of Rp x ≡ None → IsNew Rp p.variable
      → GivenTo again R cold ((x, sight p.variable special) ∷ Rp) xs ms es ps Rf → GivenTo again R cold Rp (x ∷ xs) (mode.Value ∷ ms) (tree.operand_and i (tree.read m moves (own y)) es) (p ∷ ps) Rf
  moves_again : {Rp Rf : Renaming} {x y i : ℕ} {m : Mark} {n : Bool} {xs : List ℕ} {ms : List Mode} {p : Parameter} {es : Operands} {ps : List Parameter} → again ≡ true → sight_of R x ≡ Some (sight y special) → sight_of Rp x ≡ None → IsNew Rp p.variable
      → GivenTo again R cold ((x, sight p.variable special) ∷ Rp) xs ms es ps Rf → GivenTo again R cold Rp (x ∷ xs) (mode.Value ∷ ms) (tree.operand_and i (reborrow_of m true y n) es) (p ∷ ps) Rf
  is_copied : {Rp Rf : Renaming} {x y i : ℕ} {m : Mark} {moves : Bool} {xs : List ℕ} {ms : List Mode} {p : Parameter} {es : Operands} {ps : List Parameter} → sight_of R x ≡ Some (sight y (plain shut)) → In x cold → sight_of Rp x ≡ None → IsNew Rp p.variable
      → GivenTo again R cold ((x, sight p.variable copied) ∷ Rp) xs ms es ps Rf → GivenTo again R cold Rp (x ∷ xs) (mode.Value ∷ ms) (tree.operand_and i (tree.read m moves (own y)) es) (p ∷ ps) Rf
  -- lent, shared or mutable
  is_shared : {Rp Rf : Renaming} {x y i : ℕ} {m : Mark} {xs : List ℕ} {ms : List Mode} {p : Parameter} {es : Operands} {ps : List Parameter} (w : Hold) → sight_of R x ≡ Some (sight y (plain w)) → sight_of Rp x ≡ None → IsNew Rp p.variable
      → GivenTo again R cold ((x, sight p.variable (through w false)) ∷ Rp) xs ms es ps Rf → GivenTo again R cold Rp (x ∷ xs) (mode.Shared ∷ ms) (tree.operand_and i (tree.borrow m false (own y)) es) (p ∷ ps) Rf
  is_lent : {Rp Rf : Renaming} {x y i : ℕ} {m : Mark} {xs : List ℕ} {ms : List Mode} {p : Parameter} {es : Operands} {ps : List Parameter} (w : Hold) → sight_of R x ≡ Some (sight y (plain w)) → (In x cold → ⊥) → sight_of Rp x ≡ None → IsNew Rp p.variable
      → GivenTo again R cold ((x, sight p.variable (through w true)) ∷ Rp) xs ms es ps Rf → GivenTo again R cold Rp (x ∷ xs) (mode.Mut ∷ ms) (tree.operand_and i (tree.borrow m true (own y)) es) (p ∷ ps) Rf
  -- the reference that it holds, asked for again: itself, or a shared one
  is_reborrowed : {Rp Rf : Renaming} {x y i : ℕ} {m : Mark} {n : Bool} {xs : List ℕ} {ms : List Mode} {p : Parameter} {es : Operands} {ps : List Parameter} → again ≡ true → sight_of R x ≡ Some (sight y (plain shut)) → In x cold → sight_of Rp x ≡ None → IsNew Rp p.variable
      → GivenTo again R cold ((x, sight p.variable copied) ∷ Rp) xs ms es ps Rf → GivenTo again R cold Rp (x ∷ xs) (mode.Reborrow ∷ ms) (tree.operand_and i (reborrow_of m true y n) es) (p ∷ ps) Rf
  is_viewed : {Rp Rf : Renaming} {x y i : ℕ} {m : Mark} {n : Bool} {xs : List ℕ} {ms : List Mode} {p : Parameter} {es : Operands} {ps : List Parameter} → again ≡ true → sight_of R x ≡ Some (sight y (plain shut)) → In x cold → sight_of Rp x ≡ None → IsNew Rp p.variable
      → GivenTo again R cold ((x, sight p.variable viewed) ∷ Rp) xs ms es ps Rf → GivenTo again R cold Rp (x ∷ xs) (mode.View ∷ ms) (tree.operand_and i (reborrow_of m false y n) es) (p ∷ ps) Rf

-- variables without a value, by their statements' nodes
pub data LocalsOf (R : Renaming) : Renaming → List ℕ → List (ℕ × ℕ) → Renaming → Type 0 where
  all_locals : {Rp : Renaming} → LocalsOf R Rp [] [] Rp
  a_local : {Rp Rf : Renaming} {x y z n : ℕ} {xs : List ℕ} {ls : List (ℕ × ℕ)} → sight_of R x ≡ Some (sight y special) → sight_of Rp x ≡ None → IsNew Rp z
      → LocalsOf R ((x, sight z special) ∷ Rp) xs ls Rf → LocalsOf R Rp (x ∷ xs) ((n, z) ∷ ls) Rf

-- the new function's variables where the run begins there; each that is elsewhere outside is its own
pub data EntersWith (again : Bool) (k : Plan) (modes : List Mode) (R : Renaming) (es : Operands) (ps : List Parameter) (ls : List (ℕ × ℕ)) (Ra : Renaming) : Type 0 where
  enters_with : (cold : List ℕ) (Rp Rl : Renaming) → AreShut R cold → GivenTo again R cold [] k.params modes es ps Rp → LocalsOf R Rp k.locals ls Rl → Absents Rl Ra → Covers R Ra → Specials R Ra
      → EntersWith again k modes R es ps ls Ra
