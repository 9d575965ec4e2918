-- Jumps that are alike (Rust Reference, "break expressions", "continue expressions", "return expressions"); in a new function a jump
-- that leaves it is told by a variant (REM, "Extract method": reified control flow).
use Rattle.std.specs.Prelude.{ℕ, Bool, nat_eq, List, [], ◌∷◌, Option, Some, None, if◌then◌else◌}

-- a jump that leaves the run: its variant, and the variables that it hands out
pub record Pack : Type 0 where
  pub variant : ℕ
  pub outs : List ℕ

pub data Returning : Type 0 where
  -- a return stays one
  as_return : Returning
  -- it is a variant with the value, or without one for the unit
  with_value : ℕ → Returning
  with_unit : ℕ → Returning
  -- there is none
  no_return : Returning

pub record Jumping : Type 0 where
  -- loops of the text with those of the answer
  pub loops : List (ℕ × ℕ)
  pub leaving : ℕ → Bool → Option Pack
  pub returning : Returning
  -- variables that nothing needs behind such a jump
  pub dead : List ℕ

abbrev pub loop_of : List (ℕ × ℕ) → ℕ → Option ℕ
loop_of [] l = None
loop_of (b ∷ bs) l = if nat_eq l b.0 then Some b.1 else loop_of bs l

abbrev pub in_loop : Jumping → ℕ → ℕ → Jumping
in_loop J l k = record J { loops = (l, k) ∷ J.loops }
