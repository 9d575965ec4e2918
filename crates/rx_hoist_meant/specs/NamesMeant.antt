-- A typed tree in which each name means, where it stands, the variable that it names there (Rust Reference, "Scopes", "Shadowing"): the
-- newest in scope of that name. `same` tells which variables have one name.
use Rattle.std.specs.Prelude.{◌≡◌, ℕ, Bool, List, Some}
use Rattle.rx_typed.specs.Tree.{Root, variable, temporary, Exp, read, borrow, share, build, unit, lazily, assign, update, call, input, print, block, choose, loop, jump, give, Operands, no_operand, operand_and, Scrutinee, at_place, of_value, Arms, no_arm, arm_and, Body, ends, runs, declares, lets, Function}
use Rattle.rx_exits_plan.specs.Blocks.{bound}
use Rattle.rx_exits_plan.specs.Spots.{Around, with_variables, with_loop, outermost}
use Rattle.rx_exits_plan.specs.Shadowed.{meant}

-- the name of a variable means it in a scope
abbrev pub MeansIt : (ℕ → ℕ → Bool) → List ℕ → ℕ → Type 0
MeansIt same scope x = meant same x scope ≡ Some x

abbrev pub AtRoot : (ℕ → ℕ → Bool) → Around → Root → Type 0
AtRoot same a (variable x) = MeansIt same a.scope x
AtRoot same a (temporary t) = Unit {0}

-- where this is around; what a pattern binds is in scope in its arm, what a statement declares behind it
abbrev mutual
  pub InExp : (ℕ → ℕ → Bool) → Around → Exp → Type 0
  InExp same a (read m v p) = AtRoot same a p.root
  InExp same a (borrow m k p) = AtRoot same a p.root
  InExp same a (share m e) = InExp same a e
  InExp same a (build m w es) = InOperands same a es
  InExp same a (unit m) = Unit {0}
  InExp same a (lazily m b e f) = InExp same a e × InExp same a f
  InExp same a (assign m p e) = AtRoot same a p.root × InExp same a e
  InExp same a (update m o p e) = AtRoot same a p.root × InExp same a e
  InExp same a (call m f es) = InOperands same a es
  InExp same a (input m) = Unit {0}
  InExp same a (print m e) = InExp same a e
  InExp same a (block m b) = InBody same a b
  InExp same a (choose m s l) = InScrutinee same a s × InArms same a l
  InExp same a (loop m l e) = InExp same (with_loop l a) e
  InExp same a (jump m l k) = Unit {0}
  InExp same a (give m e) = InExp same a e

  pub InOperands : (ℕ → ℕ → Bool) → Around → Operands → Type 0
  InOperands same a no_operand = Unit {0}
  InOperands same a (operand_and i e es) = InExp same a e × InOperands same a es

  pub InScrutinee : (ℕ → ℕ → Bool) → Around → Scrutinee → Type 0
  InScrutinee same a (at_place m p) = AtRoot same a p.root
  InScrutinee same a (of_value e) = InExp same a e

  pub InArms : (ℕ → ℕ → Bool) → Around → Arms → Type 0
  InArms same a no_arm = Unit {0}
  InArms same a (arm_and p e l) = InExp same (with_variables (bound p) a) e × InArms same a l

  pub InBody : (ℕ → ℕ → Bool) → Around → Body → Type 0
  InBody same a (ends e) = InExp same a e
  InBody same a (runs e b) = InExp same a e × InBody same a b
  InBody same a (declares s xs b) = InBody same (with_variables xs a) b
  InBody same a (lets s p c b) = InScrutinee same a c × InBody same (with_variables (bound p) a) b

-- of a function, whose parameters are in scope
abbrev pub NamesMeant : (ℕ → ℕ → Bool) → Function → Type 0
NamesMeant same f = InExp same (outermost f) f.body
