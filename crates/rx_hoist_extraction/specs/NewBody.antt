-- The body of the new function: the locals, the statements of the run, and the end (REM, "Extract function"; Rust Reference,
-- "Block expressions"). What the end hands out is the run's value and then the outs of Next.
use Rattle.std.specs.Prelude.{Bool, true, false, not, ◌&&◌, ◌||◌, if◌then◌else◌, List, [], ◌∷◌, ◌++◌, map, Option, Some}
use Rattle.rx_core.specs.declared.types.Span.{Span}
use Rattle.rx_tree.specs.Plain as plain
use Rattle.rx_tree.specs.Plain.{Expression, OptionalExpression, Body, Statement, ProgramTree}
use Rattle.rx_tree.specs.Lists.{listed}
use Rattle.rx_resolve_names.specs.Meant.{Around}
use Rattle.rx_typed.specs.Types.{Typ}
use Rattle.rx_hoist_extraction.specs.Run.{Parts, as_statements, block_of}
use Rattle.rx_hoist_extraction.specs.Plan.{to_next, Variable, Plan, has_exit, outs_of, has_enum, names_of, enum_name, exit_name}
use Rattle.rx_hoist_extraction.specs.Fresh.{fresh_variable}
use Rattle.rx_hoist_extraction.specs.Made.{joined, variant, done, let_nothing, let_typed}
use Rattle.rx_hoist_extraction.specs.WrittenTypes.{elided}
use Rattle.rx_hoist_extraction.specs.Names.{behind_all}
use Rattle.rx_hoist_extraction.specs.Changed.{Changes, changed_optional, changed_statements}
use Rattle.rx_hoist_extraction.specs.Moved.{moving}

-- `let y: T;`, the type elided
abbrev pub declared : ProgramTree → Span → List Variable → List Statement
declared P r vs = map (λ (v : Variable). let_nothing r v.name v.mutable (elided P r v.typ)) vs

-- ---- the run, moved

abbrev pub moved_parts : Changes → List Around → Parts → Parts
moved_parts C ls p = record {
  statements = listed (changed_statements C [] ls (as_statements p.statements));
  tail = changed_optional C (behind_all [] (as_statements p.statements)) ls p.tail;
}

-- ---- the end where something follows the run

-- `Exit_NAME::Next(values)`; without an enum nothing, the value, or the tuple of the values
abbrev pub handing_on : Plan → Span → List Expression → OptionalExpression
handing_on pl r es = if has_enum pl.exits then plain.present (variant r (enum_name pl) (exit_name to_next) es) else joined r es

-- a tail becomes a statement
abbrev pub tail_done : Span → OptionalExpression → List Statement
tail_done r plain.absent = []
tail_done r (plain.present e) = done r e ∷ []

abbrev pub followed : Plan → Span → Parts → List Expression → Parts
followed pl r p outs = record { statements = p.statements ++ tail_done r p.tail; tail = handing_on pl r outs }

-- ---- the end where nothing follows

-- a last statement without `;` is the tail, unless it stays a statement and gets its `;`
abbrev pub last_part : Bool → Statement → Parts
last_part stays (plain.expression_statement s e false) =
    if stays then record { statements = plain.expression_statement s e true ∷ []; tail = plain.absent }
    else record { statements = []; tail = plain.present e }
last_part stays a = record { statements = a ∷ []; tail = plain.absent }

abbrev pub behind_a : Statement → Parts → Parts
behind_a a p = record { statements = a ∷ p.statements; tail = p.tail }

abbrev pub last_of : Bool → List Statement → Parts
last_of stays [] = record { statements = []; tail = plain.absent }
last_of stays (a ∷ []) = last_part stays a
last_of stays (a ∷ b ∷ ss) = behind_a a (last_of stays (b ∷ ss))

-- it stays one where the run's end is not reached and a value comes of it all the same
abbrev pub stays_last : Plan → Bool
stays_last pl = not (has_exit to_next pl.exits) && not pl.never

abbrev pub with_tail : Bool → List Statement → OptionalExpression → Parts
with_tail stays ss plain.absent = last_of stays ss
with_tail stays ss (plain.present e) = record { statements = ss; tail = plain.present e }

abbrev pub unfollowed : Plan → Parts → Parts
unfollowed pl p = with_tail (stays_last pl) p.statements p.tail

-- ---- the end of a run with a value, which is that of the tail e

-- one of several in a tuple has a `let` of its own in front
abbrev pub in_tuple : ProgramTree → Plan → Span → Typ → List Statement → Expression → List Expression → Parts
in_tuple P pl r t ss e [] = record { statements = ss; tail = plain.present e }
in_tuple P pl r t ss e (o ∷ os) = let out_0 = fresh_variable pl.identifiers 0 in record {
  statements = ss ++ let_typed r out_0 (elided P r t) e ∷ [];
  tail = joined r (plain.var r out_0 ∷ o ∷ os);
}

abbrev pub with_value : ProgramTree → Plan → Span → Typ → List Statement → Expression → List Expression → Parts
with_value P pl r t ss e outs =
    if has_enum pl.exits then record { statements = ss; tail = handing_on pl r (e ∷ outs) } else in_tuple P pl r t ss e outs

-- ---- the end

abbrev pub is_any : List Expression → Bool
is_any [] = false
is_any (e ∷ es) = true

abbrev pub is_followed : Plan → List Expression → Bool
is_followed pl outs = has_exit to_next pl.exits && (has_enum pl.exits || is_any outs)

abbrev pub without_value : Plan → Span → Parts → List Expression → Parts
without_value pl r p outs = if is_followed pl outs then followed pl r p outs else unfollowed pl p

abbrev pub ended : ProgramTree → Plan → Span → Option Typ → List Statement → OptionalExpression → List Expression → Parts
ended P pl r (Some t) ss (plain.present e) outs = with_value P pl r t ss e outs
ended P pl r _ ss o outs = without_value pl r (record { statements = ss; tail = o }) outs

-- ---- the whole; `ls` is what stands round the run

abbrev pub next_outs : Plan → Span → List Expression
next_outs pl r = map (plain.var r) (names_of (outs_of to_next pl.exits))

abbrev pub behind_locals : List Statement → Parts → Parts
behind_locals locals p = record { statements = locals ++ p.statements; tail = p.tail }

abbrev pub new_parts : ProgramTree → Plan → Span → Parts → Parts
new_parts P pl r moved = behind_locals (declared P r pl.locals) (ended P pl r pl.value moved.statements moved.tail (next_outs pl r))

abbrev pub new_body : ProgramTree → Plan → Span → List Around → Parts → Body
new_body P pl r ls p = block_of r (new_parts P pl r (moved_parts (moving pl r) ls p))
