-- What becomes of the run's variables, jumps and returns in the new function (REM, "Extract function"; Rust Reference,
-- "Break expressions", "Continue expressions", "Return expressions"). A param behind a reference of the new function's own is
-- dereferenced. A jump that leaves the run returns the variant of its exit, with the exit's outs.
use Rattle.std.specs.Prelude.{ℕ, suc, Bool, true, false, not, ◌&&◌, if◌then◌else◌, List, [], ◌∷◌, map, Option, Some, None}
use Rattle.rx_core.specs.declared.types.Span.{Span}
use Rattle.rx_tree.specs.declared.tree.Ident.{Ident}
use Rattle.rx_tree.specs.Plain as plain
use Rattle.rx_tree.specs.Plain.{Expression, OptionalExpression}
use Rattle.rx_resolve_names.specs.Meant.{Around, Target, to_loop, target}
use Rattle.rx_hoist_extraction.specs.Names.{Names, is_among}
use Rattle.rx_hoist_extraction.specs.Plan.{Exit, to_break, to_continue, to_return, Mode, by_shared, by_mut, Param, Plan, outs_of, names_of, is_unit, enum_name, exit_name}
use Rattle.rx_hoist_extraction.specs.Fresh.{fresh_variable}
use Rattle.rx_hoist_extraction.specs.Made.{variant, let_typed}
use Rattle.rx_hoist_extraction.specs.Changed.{Changes, kept}

-- ---- variables

abbrev pub is_referred : Mode → Bool
is_referred by_shared = true
is_referred by_mut = true
is_referred _ = false

-- the params that the new function has behind references of its own
abbrev pub referred : List Param → Names
referred [] = []
referred (p ∷ ps) = if is_referred p.mode then p.variable.name ∷ referred ps else referred ps

-- `*x`, unless x means a variable that the run itself binds
abbrev pub moved_variable : Plan → Span → Names → Span → List ℕ → Expression
moved_variable pl r own s x = if not (is_among x own) && is_among x (referred pl.params) then plain.deref r (plain.var s x) else plain.var s x

-- ---- jumps

-- loop k round the run has the number k + 1, a loop in the run 0
abbrev pub beyond : Target → Option ℕ
beyond (to_loop (suc k)) = Some k
beyond _ = None

-- the loop round the run that a jump leads to
abbrev pub leaves : Option Ident → List Around → Option ℕ
leaves l ls = beyond (target l ls)

-- `Exit_NAME::V(outs)`
abbrev pub handing_out : Plan → Span → Exit → Expression
handing_out pl r x = variant r (enum_name pl) (exit_name x) (map (plain.var r) (names_of (outs_of x pl.exits)))

abbrev pub leaving : Plan → Span → Exit → Expression
leaving pl r x = plain.return r (plain.present (handing_out pl r x))

abbrev pub moved_break : Plan → Span → Span → Option Ident → Option ℕ → Expression
moved_break pl r s l None = plain.break s l
moved_break pl r s l (Some k) = leaving pl r (to_break k)

abbrev pub moved_continue : Plan → Span → Span → Option Ident → Option ℕ → Expression
moved_continue pl r s l None = plain.continue s l
moved_continue pl r s l (Some k) = leaving pl r (to_continue k)

-- ---- returns

-- `Exit_NAME::Return(e)`, or without fields
abbrev pub returned : Plan → Span → List Expression → Expression
returned pl r es = variant r (enum_name pl) (exit_name to_return) es

-- `{ let out_0: () = e; Exit_NAME::Return }`
abbrev pub returned_unit : Plan → Span → Expression → Expression
returned_unit pl r e = plain.block r (plain.body r
    (plain.statement_and (let_typed r (fresh_variable pl.identifiers 0) (plain.tuple_type r plain.no_type) e) plain.no_statement)
    (plain.present (returned pl r [])))

abbrev pub moved_return : Plan → Span → Span → OptionalExpression → Expression
moved_return pl r s plain.absent = plain.return s (plain.present (returned pl r []))
moved_return pl r s (plain.present e) =
    plain.return s (plain.present (if is_unit pl.result then returned_unit pl r e else returned pl r (e ∷ [])))

-- ---- all of these

abbrev pub moving : Plan → Span → Changes
moving pl r = record kept {
  at_variable = moved_variable pl r;
  at_break = λ ls s l. moved_break pl r s l (leaves l ls);
  at_continue = λ ls s l. moved_continue pl r s l (leaves l ls);
  at_return = moved_return pl r;
}
