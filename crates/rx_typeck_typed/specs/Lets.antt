-- The types that `let`s write, with their lifetimes (Rust Reference, "let statements", "Lifetime elision").
use Rattle.std.specs.Prelude.{ℕ, List, [], Ok, Err}
use Rattle.rx_core.specs.declared.types.Ty.{Ty}
use Rattle.rx_core.specs.declared.types.Ty.TheVariants as ty
use Rattle.rx_tree.specs.Plain.{TypeTree, ProgramTree}
use Rattle.rx_resolve_names.specs.declared.resolved.NodeNames.{NodeNames}
use Rattle.rx_typeck_typed.specs.declared.reader.Role.TheVariants as role
use Rattle.rx_typeck_typed.specs.Steps.{Outcome, Reading}
use Rattle.rx_typeck_typed.specs.Written.{type_of}
use Rattle.rx_typeck_typed.specs.Items.{begins}

-- what was read; no type of a `let` is wrong, so the unit stands for none
abbrev pub read : Outcome (Ty × Reading) → Ty
read (Ok r) = r.0
read (Err e) = ty.Tuple []

-- of the number of the lifetimes that it leaves out, and the entries of names from the type's on
abbrev pub let_type : ProgramTree → ℕ → TypeTree → List NodeNames → Ty
let_type p free t ns = read (type_of p (role.Let free) t (begins ns free))
