-- In which modes a variable with some uses can be passed: a table, of which the first row that applies counts. (REM, "Extract
-- method", the analysis of ownership: the weakest way to pass a variable that its uses need; Rust Reference, "Moved and copied
-- types", "Mutability".)
use Rattle.std.specs.Prelude.{◌≡◌, ◌⊎◌, Bool, true, false, not, ◌&&◌, ◌||◌, if◌then◌else◌, List, [], ◌∷◌, ◌++◌, Option, Some, None}
use Rattle.rx_modes_policy.specs.declared.uses.Mode.TheVariants as mode
use Rattle.rx_modes_policy.specs.declared.uses.Mode.{Mode}
use Rattle.rx_modes_policy.specs.declared.uses.Uses.{Uses}
use Rattle.rx_modes_policy.specs.declared.choices.ModeChoice.{ModeChoice}

-- one mode, two modes in order, and none
abbrev pub one : Mode → ModeChoice
one m = record { first = Some m; last = Some m }

abbrev pub two : Mode → Mode → ModeChoice
two m n = record { first = Some m; last = Some n }

abbrev pub none : ModeChoice
none = record { first = None; last = None }

-- a row: when it applies, and the modes that it allows
pub record Row : Type 0 where
  pub when : Bool
  pub modes : ModeChoice

abbrev pub row : Bool → ModeChoice → Row
row b ms = record { when = b; modes = ms }

-- what the run moves
abbrev pub rows_moved : Uses → List Row
rows_moved u =
    row (u.moved && u.live_out && not u.declared_mut) none
    ∷ row u.moved (one mode.Value)
    ∷ []

-- what it writes, or lends mutably
abbrev pub rows_written : Uses → List Row
rows_written u =
    row (u.written && not u.declared_mut) none
    ∷ row u.written (one mode.Mut)
    ∷ []

-- what it writes, or lends mutably, behind a reference
abbrev pub rows_through : Uses → List Row
rows_through u =
    row (u.mut_ref && u.through && not u.declared_mut) (one mode.Reborrow)
    ∷ row (u.mut_ref && u.through && u.declared_mut && not u.lent && not u.mut_out) (two mode.Reborrow mode.Mut)
    ∷ row (u.mut_ref && u.through) (one mode.Mut)
    ∷ row (u.through && u.declared_mut) (one mode.Mut)
    ∷ row (u.through && not u.live_out) (one mode.Value)
    ∷ row u.through none
    ∷ []

-- what it reads or shares alone
abbrev pub rows_read : Uses → List Row
rows_read u =
    row (u.mut_ref && (u.lent || u.mut_out)) (one mode.Shared)
    ∷ row u.mut_ref (two mode.View mode.Shared)
    ∷ row (u.copy && (u.lent || u.mut_out)) (one mode.Shared)
    ∷ row u.copy (two mode.Value mode.Shared)
    ∷ row true (one mode.Shared)
    ∷ []

abbrev pub table : Uses → List Row
table u = rows_moved u ++ (rows_written u ++ (rows_through u ++ rows_read u))

abbrev pub first_row : List Row → ModeChoice
first_row [] = none
first_row (r ∷ rs) = if r.when then r.modes else first_row rs

abbrev pub allowed_by : Uses → ModeChoice
allowed_by u = first_row (table u)

-- ---- members

abbrev pub IsMember : Mode → ModeChoice → Type 0
IsMember m c = (c.first ≡ Some m) ⊎ (c.last ≡ Some m)

abbrev pub HasMember : ModeChoice → Type 0
HasMember c = (m : Mode) × IsMember m c

abbrev pub or_shared : Option Mode → Mode
or_shared (Some m) = m
or_shared None = mode.Shared

-- the first and the last mode; the policies that pass by value and by reference where they may choose
abbrev pub first_of : ModeChoice → Mode
first_of c = or_shared c.first

abbrev pub last_of : ModeChoice → Mode
last_of c = or_shared c.last
