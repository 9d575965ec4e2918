-- The arena after types were added.
use Rattle.std.specs.Prelude.{◌≡◌, true, false, ℕ, ◌<◌, List, [], ◌∷◌, Option, Some, None, map, length}
use Rattle.std.specs.Prelude.{Result, Ok, Err}
use Rattle.std.specs.declared.alloc.AllocError.{AllocError}
use Rattle.rx_core.specs.declared.types.Ty.{Ty}
use Rattle.rx_typed.specs.Types.{Typ, named, shape_map}
use Rattle.rx_typed.specs.PlainTypes.{plain-Ty}
use Rattle.rx_typeck_solver.specs.declared.arena.Form.{Form}
use Rattle.rx_typeck_solver.specs.declared.arena.Form.TheVariants as form
use Rattle.rx_typeck_solver.specs.declared.arena.Entry.{Entry}
use Rattle.rx_typeck_solver.specs.Solver.{Fixed, Term}
use Rattle.rx_typeck_solver.specs.Cells.{Cell, cell, term, IsTerm, Formed, Extends}
use Rattle.rx_typeck_solver.specs.Tabled.{Sized}
use Rattle.rx_typeck_solver.specs.Reading.{AllTerms}

pub record Grows (sizes : List ℕ) (old new : List Entry) : Type 0 where
  pub extends : Extends old new
  pub formed : (n : ℕ) → Formed n old → Formed n new
  pub sized : Sized sizes new

-- it has an entry that stands for this
pub record Grown (sizes : List ℕ) (old new : List Entry) (i : ℕ) (c : Cell) : Type 0 where
  pub grows : Grows sizes old new
  pub within : i < length new
  pub is : cell new i ≡ c

-- a declared type, with nothing open
abbrev pub closed : Typ → Term
closed t = shape_map Fixed t

abbrev pub closed_all : List Ty → List Term
closed_all [] = []
closed_all (t ∷ ts) = closed (plain-Ty t) ∷ closed_all ts

-- an entry, or none, for a shape that may not exist
abbrev pub MadeIs : List Entry → Option ℕ → Option Term → Type 0
MadeIs es None o = o ≡ None
MadeIs es (Some i) o = IsTerm es i × (o ≡ Some (term es i))

-- entries for these shapes
pub record GrownAll (sizes : List ℕ) (old new : List Entry) (is : List ℕ) (ts : List Term) : Type 0 where
  pub grows : Grows sizes old new
  pub terms : AllTerms new is
  pub are : map (term new) is ≡ ts

abbrev pub only_one : List ℕ → Option ℕ
only_one (i ∷ []) = Some i
only_one _ = None

-- the arena, and an entry or none for a shape that may not exist
pub record MadeAs (sizes : List ℕ) (old new : List Entry) (o : Option ℕ) (t : Option Term) : Type 0 where
  pub grows : Grows sizes old new
  pub is : MadeIs new o t

abbrev pub named_in : Term → Option ℕ
named_in (named i) = Some i
named_in _ = None

-- what a coercion leads to, where there is one
abbrev pub coerce_form : Form → Form → Option ℕ
coerce_form (form.Reference true i) (form.Reference false j) = Some j
coerce_form _ _ = None

abbrev pub found_of : Result ℕ AllocError → Result (Option ℕ) AllocError
found_of (Ok i) = Ok (Some i)
found_of (Err e) = Err e
