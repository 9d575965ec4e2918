-- Structs and enums whose values are finite: what they hold ends.
use Rattle.std.specs.Prelude.{ℕ, zero, suc, ◌+◌, List, [], length, Option, Some, None, slice_get}
use Rattle.rx_typed.specs.Types.{Typ, Shapes, no_shape, shape_and, integer, boolean, tuple_of, reference, named, shapes_of}
use Rattle.rx_typed.specs.Types.{Declared, Declarations}
use Rattle.rx_core.specs.declared.types.Kind.{Kind}
use Rattle.rx_typed_declarations.specs.Held.{held_types}

abbrev pub held_at : Option Declared → List Typ
held_at None = []
held_at (Some d) = held_types d

-- each struct and enum that a type names is so
abbrev mutual
  pub Each : (ℕ → Type 0) → Typ → Type 0
  Each P (integer k) = Unit {0}
  Each P boolean = Unit {0}
  Each P (tuple_of ts) = EachOf P ts
  Each P (reference m t) = Each P t
  Each P (named i) = P i

  pub EachOf : (ℕ → Type 0) → Shapes Kind → Type 0
  EachOf P no_shape = Unit {0}
  EachOf P (shape_and t ts) = Each P t × EachOf P ts

-- what it holds, and what that holds, ends within so many levels
abbrev pub Within : Declarations → ℕ → ℕ → Type 0
Within D zero i = ⊥
Within D (suc l) i = EachOf (Within D l) (shapes_of (held_at (slice_get D i)))

pub record Finite (D : Declarations) : Type 0 where
  pub each : (i : ℕ) → Within D (suc (length D)) i

-- ---- how much a type holds, by how much structs and enums do

abbrev mutual
  pub expanse : (ℕ → ℕ) → Typ → ℕ
  expanse P (integer k) = 1
  expanse P boolean = 1
  expanse P (tuple_of ts) = suc (expanse_all P ts)
  expanse P (reference m t) = suc (expanse P t)
  expanse P (named i) = P i

  pub expanse_all : (ℕ → ℕ) → Shapes Kind → ℕ
  expanse_all P no_shape = 1
  expanse_all P (shape_and t ts) = expanse P t + expanse_all P ts

abbrev pub item_expanse : Declarations → ℕ → ℕ → ℕ
item_expanse D zero i = 0
item_expanse D (suc l) i = suc (expanse_all (item_expanse D l) (shapes_of (held_at (slice_get D i))))

abbrev pub expanse_in : Declarations → Typ → ℕ
expanse_in D t = expanse (item_expanse D (suc (length D))) t

abbrev pub all_in : Declarations → List Typ → ℕ
all_in D ts = expanse_all (item_expanse D (suc (length D))) (shapes_of ts)
