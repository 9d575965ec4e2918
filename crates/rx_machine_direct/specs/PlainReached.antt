-- What the code's data stand for, and what its functions do to memory.
use Rattle.std.specs.Prelude.{◌≡◌, ◌<◌, ℕ, List, Bool, true, false, Option, Some, map}
use Rattle.rx_typed.specs.Tree.{Exp, Scrutinee, of_value, Arms, Body, runs}
use Rattle.rx_typed.specs.declared.tree.Arm.{Arm}
use Rattle.rx_typed.specs.PlainTree.{plain-Expr, plain-Stmt, plain-Arm, arms_of, nested_of}
use Rattle.rx_meaning.specs.Values.{Value, unit_value}
use Rattle.rx_machine_frames.specs.Sizes.{size}
use Rattle.rx_machine_direct.specs.declared.reaching.Reached.{Reached}
use Rattle.rx_machine_direct.specs.declared.reaching.Reached.TheVariants as reached
use Rattle.rx_machine_direct.specs.declared.reaching.Way.{Way}
use Rattle.rx_machine_direct.specs.declared.reaching.Way.TheVariants as way
use Rattle.rx_machine_direct.specs.Direct.{direct, assigned, picked}
use Rattle.rx_machine_direct.specs.Reaching.{Reach, into, statements, gave, Comes}
use Rattle.rx_machine_direct.specs.PlainScalar.{plain-Scalar}

abbrev pub plain-Reached : Reached → Reach
plain-Reached (reached.Into e) = into (plain-Expr e.now)
plain-Reached (reached.Statements ss e) = statements (nested_of (map plain-Stmt ss.now) (plain-Expr e.now))
plain-Reached (reached.Gave c) = gave (plain-Scalar c)
plain-Reached reached.Unit = gave unit_value

abbrev pub arms_in : List Arm → Arms
arms_in l = arms_of (map plain-Arm l)

-- a write was done, or nothing
abbrev pub Wrote : Option (List Value) → List Value → List Value → Bool → Type 0
Wrote o M N true = o ≡ Some N
Wrote o M N false = N ≡ M

-- what is done once: an expression that is no larger, or all that is done
abbrev pub Goes : List (Option ℕ) → List Value → Exp → List Value → Way → Type 0
Goes T M e N (way.Further f) = Comes T M e N (into (plain-Expr f.now)) × (size (plain-Expr f.now) < size e)
Goes T M e N (way.Stops r) = Comes T M e N (plain-Reached r)

-- what is matched is an expression, and its value picks this body
abbrev pub Chooses : List (Option ℕ) → List Value → Scrutinee → Arms → Exp → Type 0
Chooses T M c l e = (x : Exp) × (v : Value) × (c ≡ of_value x) × (direct T M x ≡ Some v) × (picked v l ≡ Some e)

-- a statement was an assignment that was done, or nothing was
abbrev pub Runs : List (Option ℕ) → List Value → (Body → Body) → List Value → Bool → Type 0
Runs T M f N true = (e : Exp) × (assigned T M e ≡ Some N) × ((rest : Body) → f rest ≡ runs e rest)
Runs T M f N false = N ≡ M

-- the first of some statements was
abbrev pub Passes : List (Option ℕ) → List Value → List (Body → Body) → List Value → List (Body → Body) → Type 0
Passes T M fs N gs = (e : Exp) × (assigned T M e ≡ Some N) × ((last : Exp) → nested_of fs last ≡ runs e (nested_of gs last))
