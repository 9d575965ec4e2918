-- Programs without references, and why a run of one may still be Wrong (Rust Reference, "Pointer types").
use Rattle.std.specs.Prelude.{◌≡◌, ℕ, Bool, List, Some}
use Rattle.rx_core.specs.declared.types.Step.{Step}
use Rattle.rx_typed.specs.Types.{Typ, reference, Declarations}
use Rattle.rx_typed.specs.Tree.{Temporary}
use Rattle.rx_meaning.specs.Endings.{Cause, astray, missing_function, missing_arm, missing_value}
use Rattle.rx_meaning_typed.specs.TypedActs.{Typing, typ_along}

-- no part of a type is a reference
abbrev pub HasNoReference : Declarations → Typ → Type 0
HasNoReference D t = (ss : List Step) (m : Bool) (u : Typ) → typ_along D t ss ≡ Some (reference m u) → ⊥

-- of no variable and of no temporary
pub record NoReferences (Ts : ℕ → Typing) : Type 0 where
  pub variables : (f x : ℕ) → HasNoReference (Ts f).declared ((Ts f).variables x)
  pub temporaries : (f : ℕ) (t : Temporary) → HasNoReference (Ts f).declared ((Ts f).temporaries t)

-- not that a value is lacking, that something can't be written, or that operands are of other types
abbrev pub RemainsWithoutReferences : Cause → Type 0
RemainsWithoutReferences astray = Unit {0}
RemainsWithoutReferences missing_function = Unit {0}
RemainsWithoutReferences missing_arm = Unit {0}
RemainsWithoutReferences missing_value = Unit {0}
RemainsWithoutReferences _ = ⊥
