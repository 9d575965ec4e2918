-- Choices and `let`s that match a place of a variable, or a value, and bind other variables (Rust Reference, "Match expressions"; "let
-- statements"; "Scopes").
use Rattle.std.specs.Prelude.{[]}
use Rattle.rx_typed.specs.Tree.{Pattern, Exp, Scrutinee, Arms, no_arm, arm_and, Function}
use Rattle.rx_lower_walks.specs.Matching.{bindings}
use Rattle.rx_lower_walks.specs.Actions.{Subject, subject}
use Rattle.rx_meaning_covered.specs.Arms.{AllOther}
use Rattle.rx_meaning_covered.specs.Standing.{Standing}
use Rattle.rx_meaning_covered.specs.Scopes.{ScopedFunction, Gives}
use Rattle.rx_meaning_covered.specs.Covered.{IsDirectSubject}

abbrev pub ArmsFresh : Subject → Arms → Type 0
ArmsFresh S no_arm = Unit {0}
ArmsFresh S (arm_and p e l) = AllOther S (bindings [] p) × ArmsFresh S l

abbrev pub IsFreshChoice : Scrutinee → Arms → Type 0
IsFreshChoice c l = IsDirectSubject (subject c) × ArmsFresh (subject c) l

abbrev pub IsFreshLet : Scrutinee → Pattern → Type 0
IsFreshLet c p = IsDirectSubject (subject c) × AllOther (subject c) (bindings [] p)

-- a function whose names mean something, whose choices and `let`s bind other variables, and whose body gives a value
pub record StandsFresh (F : Function) : Type 0 where
  pub scoped : ScopedFunction F
  pub fresh : Standing IsFreshChoice IsFreshLet F.body
  pub gives : Gives F.body
