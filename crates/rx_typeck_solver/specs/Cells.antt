-- What the entries of the arena stand for.
use Rattle.std.specs.Prelude.{◌≡◌, ℕ, zero, suc, ◌<◌, ◌≤◌, min, Bool, true, false, IsTrue, List, length, get_or}
use Rattle.rx_typed.specs.Types.{Shapes, integer, boolean, tuple_of, reference, named, no_shape, shape_and, levels, most_levels, parts, sum_of_parts}
use Rattle.rx_typeck_solver.specs.declared.arena.Form.{Form}
use Rattle.rx_typeck_solver.specs.declared.arena.Form.TheVariants as form
use Rattle.rx_typeck_solver.specs.declared.arena.Entry.{Entry}
use Rattle.rx_typeck_solver.specs.Solver.{Leaf, Fixed, KindOf, Term}

-- an entry is a shape, or a list of them
pub data Cell : Type 0 where
  one : Term → Cell
  many : Shapes Leaf → Cell

abbrev pub term_in : Cell → Term
term_in (one t) = t
term_in (many ts) = tuple_of ts

abbrev pub shapes_in : Cell → Shapes Leaf
shapes_in (one t) = no_shape
shapes_in (many ts) = ts

abbrev pub is_one : Cell → Bool
is_one (one t) = true
is_one (many ts) = false

abbrev pub is_many : Cell → Bool
is_many (one t) = false
is_many (many ts) = true

abbrev pub blank : Entry
blank = record { form = form.Boolean; parts = 1; levels = 1 }

abbrev pub form_at : List Entry → ℕ → Form
form_at es i = (get_or es i blank).form

-- a form over the cells that it names
abbrev pub cell_form : (ℕ → Cell) → Form → Cell
cell_form c (form.Fixed k) = one (integer (Fixed k))
cell_form c (form.KindOf n) = one (integer (KindOf n))
cell_form c form.Boolean = one boolean
cell_form c (form.Tuple j) = one (tuple_of (shapes_in (c j)))
cell_form c (form.Reference m j) = one (reference m (term_in (c j)))
cell_form c (form.Named i) = one (named i)
cell_form c form.Nothing = many no_shape
cell_form c (form.And j k) = many (shape_and (term_in (c j)) (shapes_in (c k)))

-- a form names lower entries alone
abbrev pub cell_of : ℕ → List Entry → ℕ → Cell
cell_of zero es i = one boolean
cell_of (suc n) es i = cell_form (λ j. cell_of n es j) (form_at es i)

unfoldable pub cell : List Entry → ℕ → Cell
cell es i = cell_of (suc i) es i

abbrev pub term : List Entry → ℕ → Term
term es i = term_in (cell es i)

abbrev pub IsTerm : List Entry → ℕ → Type 0
IsTerm es i = (i < length es) × IsTrue (is_one (cell es i))

abbrev pub IsList : List Entry → ℕ → Type 0
IsList es i = (i < length es) × IsTrue (is_many (cell es i))

-- the i-th form is fit; n are the nodes that may be open
abbrev pub FormOk : List Entry → ℕ → ℕ → Form → Type 0
FormOk es n i (form.KindOf m) = m < n
FormOk es n i (form.Tuple j) = (j < i) × IsTrue (is_many (cell es j))
FormOk es n i (form.Reference m j) = (j < i) × IsTrue (is_one (cell es j))
FormOk es n i (form.And j k) = (j < i) × IsTrue (is_one (cell es j)) × (k < i) × IsTrue (is_many (cell es k))
FormOk es n i _ = Unit {0}

abbrev pub Formed : ℕ → List Entry → Type 0
Formed n es = (i : ℕ) → i < length es → FormOk es n i (form_at es i)

abbrev pub Formable : List Entry → Type 0
Formable es = (n : ℕ) × Formed n es

-- parts and levels, as far as the limits go
abbrev pub parts_in : (ℕ → ℕ) → Cell → ℕ
parts_in P (one t) = parts P t
parts_in P (many ts) = sum_of_parts P ts

abbrev pub levels_in : Cell → ℕ
levels_in (one t) = levels t
levels_in (many ts) = most_levels ts

abbrev pub parts_at : List Entry → ℕ → ℕ
parts_at es i = (get_or es i blank).parts

abbrev pub levels_at : List Entry → ℕ → ℕ
levels_at es i = (get_or es i blank).levels

abbrev pub sizes_of : List ℕ → ℕ → ℕ
sizes_of sizes i = get_or sizes i 1

pub record Built (sizes : List ℕ) (n : ℕ) (es : List Entry) : Type 0 where
  pub forms : Formed n es
  pub sized : (i : ℕ) → i < length es → parts_at es i ≡ min (parts_in (sizes_of sizes) (cell es i)) 4097
  pub high : (i : ℕ) → i < length es → levels_at es i ≡ min (levels_in (cell es i)) 129

-- entries were added
pub record Extends (old new : List Entry) : Type 0 where
  pub longer : length old ≤ length new
  pub same : (i : ℕ) → i < length old → cell new i ≡ cell old i

-- a new entry that stands for this
pub record Makes (sizes : List ℕ) (n : ℕ) (old new : List Entry) (i : ℕ) (c : Cell) : Type 0 where
  pub extends : Extends old new
  pub built : Built sizes n new
  pub within : i < length new
  pub is : cell new i ≡ c
