-- The types of a function's variables, with their lifetimes: a parameter has its declared type, a variable that a `let` with a
-- type binds what that writes, in which a lifetime that is left out is open; any other variable's lifetimes are all open.
use Rattle.std.specs.Prelude.{ℕ, suc, ◌==◌, if◌then◌else◌, List, [], ◌∷◌, Option, Some, None}
use Rattle.rx_core.specs.declared.types.Ty.{Ty}
use Rattle.rx_typed.specs.Regions.{RegionTyp, region-Ty}
use Rattle.rx_typed.specs.Tree.{Parameter}
use Rattle.rx_typed.specs.Renaming.{unit_region}
use Rattle.rx_lower_lifetimes.specs.Values.{Open}

-- of a parameter
abbrev pub parameter_type : List Parameter → List Ty → ℕ → Option Ty
parameter_type (p ∷ ps) (t ∷ ts) x = if p.variable == x then Some t else parameter_type ps ts x
parameter_type _ _ x = None

-- of what a `let` writes
pub record Written : Type 0 where
  pub variable : ℕ
  pub typ : RegionTyp

abbrev pub written_type : List Written → ℕ → Option RegionTyp
written_type [] x = None
written_type (w ∷ ws) x = if w.variable == x then Some w.typ else written_type ws x

-- the first, or else the second
abbrev pub told : Option Ty → Option RegionTyp → Option RegionTyp
told (Some t) o = Some (region-Ty t)
told None o = o

abbrev pub raw_type : Option Ty → RegionTyp
raw_type (Some t) = region-Ty t
raw_type None = unit_region

-- the lifetimes from the function's own on are open
abbrev pub open_type : ℕ → Option RegionTyp → Option Ty → Open
open_type own (Some t) raw = record { typ = t; from = own }
open_type own None raw = record { typ = raw_type raw; from = 0 }

-- the variables from a number on, by their types without lifetimes
abbrev pub open_types : ℕ → List Parameter → List Ty → List Written → ℕ → List (Option Ty) → List Open
open_types own ps ts ws x [] = []
open_types own ps ts ws x (r ∷ rs) = open_type own (told (parameter_type ps ts x) (written_type ws x)) r ∷ open_types own ps ts ws (suc x) rs
