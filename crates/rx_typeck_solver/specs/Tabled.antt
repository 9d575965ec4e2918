-- The state that the arena and the tables stand for.
use Rattle.std.specs.Prelude.{◌≡◌, ℕ, ◌<◌, List, length, get_or, Option, Some, None, option_map, min}
use Rattle.rx_typeck_solver.specs.declared.facts.Subject.{Subject}
use Rattle.rx_typeck_solver.specs.declared.facts.Subject.TheVariants as subject
use Rattle.rx_typeck_solver.specs.declared.arena.Entry.{Entry}
use Rattle.rx_typeck_solver.specs.declared.tables.Tables.{Tables}
use Rattle.rx_typeck_solver.specs.Solver.{Term, State}
use Rattle.rx_typeck_solver.specs.Parents.{Classed, state_in}
use Rattle.rx_typeck_solver.specs.Trimmed.{IsTrimmed}
use Rattle.rx_typeck_solver.specs.Cells.{term, cell, parts_in, levels_in, parts_at, levels_at, sizes_of, IsTerm, Formed}

-- the entry of a subject
unfoldable pub index_of : Tables → Subject → Option ℕ
index_of t (subject.Variable x) = get_or t.variables.items x None
index_of t (subject.Node n) = get_or t.nodes.items n None
index_of t (subject.Expected n) = get_or t.expected.items n None

unfoldable pub table_of : List Entry → Tables → Subject → Option Term
table_of es t x = option_map (term es) (index_of t x)

abbrev pub state_of : List Entry → Tables → State
state_of es t = state_in (table_of es t) t.classes.parents.items t.classes.sets.items

-- no table goes on behind its last entry
abbrev pub AreTrimmed : Tables → Type 0
AreTrimmed t = IsTrimmed t.variables.items × IsTrimmed t.nodes.items × IsTrimmed t.expected.items

-- subjects have shapes of the arena, and open integer types are those of nodes with a class
pub record Fits (es : List Entry) (t : Tables) : Type 0 where
  pub formed : Formed (length t.classes.parents.items) es
  pub classed : Classed t.classes.parents.items t.classes.sets.items
  pub terms : (x : Subject) (i : ℕ) → index_of t x ≡ Some i → IsTerm es i
  pub trimmed : AreTrimmed t

-- the entries have their parts and levels
pub record Sized (sizes : List ℕ) (es : List Entry) : Type 0 where
  pub parts : (i : ℕ) → i < length es → parts_at es i ≡ min (parts_in (sizes_of sizes) (cell es i)) 4097
  pub levels : (i : ℕ) → i < length es → levels_at es i ≡ min (levels_in (cell es i)) 129

abbrev pub Sizable : List Entry → Type 0
Sizable es = (sizes : List ℕ) × Sized sizes es
