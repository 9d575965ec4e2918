-- What forms show of types.
use Rattle.std.specs.Prelude.{ℕ, Bool, true, false, nat_eq}
use Rattle.rx_typed.specs.Types.{Declarations, copies, all_copy}
use Rattle.rx_typeck_solver.specs.declared.arena.Form.{Form}
use Rattle.rx_typeck_solver.specs.declared.arena.Form.TheVariants as form
use Rattle.rx_typeck_solver.specs.Cells.{Cell, one, many}

abbrev pub plain_form : Form → Bool
plain_form (form.Fixed k) = true
plain_form (form.KindOf n) = true
plain_form form.Boolean = true
plain_form _ = false

abbrev pub integer_form : Form → Bool
integer_form (form.Fixed k) = true
integer_form (form.KindOf n) = true
integer_form _ = false

abbrev pub truth_form : Form → Bool
truth_form form.Boolean = true
truth_form _ = false

abbrev pub item_form : ℕ → Form → Bool
item_form i (form.Named j) = nat_eq i j
item_form i _ = false

abbrev pub mutable_form : Form → Bool
mutable_form (form.Reference m j) = m
mutable_form _ = false

abbrev pub copies_cell : Declarations → Cell → Bool
copies_cell D (one t) = copies D t
copies_cell D (many ts) = all_copy D ts
