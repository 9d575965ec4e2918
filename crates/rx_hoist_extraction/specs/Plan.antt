-- A plan: what is decided of a run before its function is made (REM, "Extract function": the exits of the run, its inputs and
-- outputs, how each input is passed). It is plain data, by names: at the run a name tells one variable that is declared outside.
-- A plan is found by numbers of variables and loops; that those numbers give a plan by names is for the layer that finds it.
use Rattle.std.specs.Prelude.{ℕ, Bool, true, false, ◌==◌, ◌||◌, not, if◌then◌else◌, List, [], ◌∷◌, ◌++◌, Option, codes}
use Rattle.std.specs.Fmt.{decimal}
use Rattle.rx_core.specs.declared.types.Span.{Span}
use Rattle.rx_core.specs.declared.types.Kind.{Kind}
use Rattle.rx_typed.specs.Types.{Typ, tuple_of, no_shape}
use Rattle.rx_hoist_extraction.specs.Names.{Names}

-- how a run is left: at its end, by a jump to a loop round it (0 the innermost), by a return
pub data Exit : Type 0 where
  to_next : Exit
  to_break : ℕ → Exit
  to_continue : ℕ → Exit
  to_return : Exit

-- how a param is passed
pub data Mode : Type 0 where
  by_value : Mode
  -- of a `&mut T`: itself, for as long as the call
  by_reborrow : Mode
  -- of a `&mut T`: a `&T`
  by_view : Mode
  by_shared : Mode
  by_mut : Mode

pub record Variable : Type 0 where
  pub name : List ℕ
  -- whether it is declared `mut`
  pub mutable : Bool
  pub typ : Typ

pub record Param : Type 0 where
  pub variable : Variable
  pub mode : Mode
  -- whether the run moves it or a part of its own storage
  pub moved : Bool

-- an exit and the variables that it hands out, in order
pub record Leaving : Type 0 where
  pub exit : Exit
  pub outs : List Variable

-- what is written out, by its place in the text: the kinds of literals without a suffix; the types of the patterns of those
-- `let`s that have no type and whose initialiser is missing or diverges
pub record Pins : Type 0 where
  pub kinds : List (Span × Kind)
  pub types : List (Span × Typ)

pub record Plan : Type 0 where
  -- the name of the new function
  pub name : List ℕ
  -- the exits in order
  pub exits : List Leaving
  -- the type of the run's value, where it has one
  pub value : Option Typ
  -- whether no value comes of the run's last statement
  pub never : Bool
  -- the result of the function round it
  pub result : Typ
  pub params : List Param
  -- variables that are declared in front of the run and used for the first time in it
  pub locals : List Variable
  -- variables that the run declares and that are named behind it without its value
  pub redeclared : List Variable
  -- where some variable is loose: one that is named in the run and outside, and is neither a param nor an out
  pub pins : Option Pins
  -- the identifiers, and the lifetimes and labels, of the text
  pub identifiers : Names
  pub lifetimes : Names

-- pairs of lifetimes of the new function: the first outlives the second
abbrev pub Bounds : Type 0
Bounds = List (List ℕ × List ℕ)

-- ---- what follows from a plan

abbrev pub same_exit : Exit → Exit → Bool
same_exit to_next to_next = true
same_exit (to_break j) (to_break k) = j == k
same_exit (to_continue j) (to_continue k) = j == k
same_exit to_return to_return = true
same_exit _ _ = false

abbrev pub has_exit : Exit → List Leaving → Bool
has_exit e [] = false
has_exit e (x ∷ xs) = same_exit e x.exit || has_exit e xs

abbrev pub outs_of : Exit → List Leaving → List Variable
outs_of e [] = []
outs_of e (x ∷ xs) = if same_exit e x.exit then x.outs else outs_of e xs

-- whether there is an exit other than Next, and so an enum of exits
abbrev pub has_enum : List Leaving → Bool
has_enum [] = false
has_enum (x ∷ xs) = not (same_exit to_next x.exit) || has_enum xs

abbrev pub names_of : List Variable → Names
names_of [] = []
names_of (v ∷ vs) = v.name ∷ names_of vs

abbrev pub is_unit : Typ → Bool
is_unit (tuple_of no_shape) = true
is_unit _ = false

-- ---- the names of the enum and of its variants

abbrev pub enum_name : Plan → List ℕ
enum_name pl = codes "Exit_" ++ pl.name

abbrev pub exit_name : Exit → List ℕ
exit_name to_next = codes "Next"
exit_name (to_break k) = codes "Break_" ++ decimal k
exit_name (to_continue k) = codes "Continue_" ++ decimal k
exit_name to_return = codes "Return"
