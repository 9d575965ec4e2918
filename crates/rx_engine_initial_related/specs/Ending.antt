-- The run's statements, of which the last may be left for the new function's end (rx_engine_related); and what is asked besides along that end: of a
-- last statement, as of those in front of it. (REM: "Adventures in refactoring Rust: extract function", OOPSLA 2023.)
use Rattle.std.specs.Prelude.{ℕ, List}
use Rattle.rx_typed.specs.Tree.{Body}
use Rattle.rx_engine_simulation.specs.Turns.{Allowance}
use Rattle.rx_engine_simulation.specs.Sights.{Renaming}
use Rattle.rx_engine_simulation.specs.Jumps.{Jumping}
use Rattle.rx_engine_simulation.specs.Blocks.{Stretch, done, does_then, declares_then, lets_then}
use Rattle.rx_engine_simulation.specs.Packing.{Way}
use Rattle.rx_engine_simulation.specs.Endings.{Last, none_left, a_statement, a_marked, a_tail, an_end}
use Rattle.rx_engine_related.specs.Moved.{Ended, gives_outs, gives_last, gives_never, gives_left}
use Rattle.rx_engine_initial.specs.Variables.{Sides}
use Rattle.rx_engine_initial_related.specs.Moving.{ExpMoves}

-- what is left, without its mark
abbrev pub left_of : Last → Stretch
left_of none_left = done
left_of (a_statement e) = does_then e done
left_of (a_marked e p) = does_then e done
left_of (a_tail e) = done
left_of (an_end m e) = done

-- the first statements, and what is left behind them
abbrev pub with_left : Stretch → Last → Stretch
with_left done l = left_of l
with_left (does_then e r) l = does_then e (with_left r l)
with_left (declares_then n xs r) l = declares_then n xs (with_left r l)
with_left (lets_then n p c r) l = lets_then n p c (with_left r l)

abbrev pub EndMoves : (S : Sides) {items : ℕ → ℕ} {gain : Allowance} {U : List ℕ} {special : List ℕ} {J : Jumping} {R : Renaming} {l : Last} {w : Way} {xs : List ℕ} {end : Body} → Ended items gain U special J R l w xs end → Type 0
EndMoves S (gives_outs h g) = Unit {0}
EndMoves S (gives_last l) = ExpMoves S l
EndMoves S gives_never = Unit {0}
EndMoves S (gives_left l) = ExpMoves S l
