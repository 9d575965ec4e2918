-- Whether an answer's typed program is the text's with a call of a new function in place of the run (REM, "Extract method").
use Rattle.std.specs.Prelude.{ℕ, zero, suc, nat_eq, nat_le, Bool, true, false, ◌&&◌, ◌||◌, List, [], ◌∷◌, length, Option, Some, None}
use Rattle.rx_typed.specs.Tree.{Function}
use Rattle.rx_meaning.specs.Values.{element}
use Rattle.rx_meaning.specs.Expressions.{Functions}
use Rattle.rx_meaning.specs.Programs.{Program}
use Rattle.rx_engine_alike.specs.Likeness.{Hole, Likeness, unlike, alike, alike_but}
use Rattle.rx_engine_alike.specs.Forms.{Between}
use Rattle.rx_engine_alike.specs.Functions.{like_function, same_item}
use Rattle.rx_engine_alike.specs.Units.{all_are_unit}
use Rattle.rx_engine_extracted.specs.Told.{Told, ways_in}
use Rattle.rx_engine_extracted.specs.Block.{block_has_call}
use Rattle.rx_engine_extracted.specs.TailBlock.{block_has_tail_call}

-- the text's function with the run, whose block is left open
abbrev pub between_but_run : Told → Between
between_but_run T = record { items = T.items; ways = ways_in T; units = T.units; outside = []; left_open = Some T.run.block }

-- where the run holds its block's tail, or doesn't
abbrev pub has_call_in : Bool → Told → Hole → Bool
has_call_in true T h = block_has_tail_call T h
has_call_in false T h = block_has_call T h

abbrev pub has_call : Told → Likeness → Bool
has_call T (alike_but h) = has_call_in T.run.tail T h
has_call T _ = false

abbrev pub function_has_call : Told → Option (Option Function) → Option (Option Function) → Bool
function_has_call T (Some (Some g)) (Some (Some g')) = has_call T (like_function (between_but_run T) g g')
function_has_call T _ _ = false

-- all other items, from this number on
abbrev pub others_stay : Told → ℕ → Functions → ℕ → Functions → Bool
others_stay T item Q f [] = true
others_stay T item Q f (o ∷ os) = (nat_eq f item || same_item T.items (Some o) (element Q (T.items f))) && others_stay T item Q (suc f) os

abbrev pub extracts : Told → ℕ → Program → Program → Bool
extracts T item P Q =
    function_has_call T (element P.functions item) (element Q.functions (T.items item))
    && (others_stay T item Q.functions 0 P.functions
    && (nat_le (length Q.functions) (T.items (length P.functions))
    && (nat_eq Q.main (T.items P.main)
    && all_are_unit P.functions T.units T.units)))
