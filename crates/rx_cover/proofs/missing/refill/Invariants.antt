use Rattle.std.proofs.Common.{Bool, List, map, drop}
use Rattle.rx_typed.specs.Types.{Typ}
use Rattle.rx_typed.specs.PlainTypes.{declarations}
use Rattle.rx_cover.specs.declared.value.Value.{Value}
use Rattle.rx_cover.specs.PlainCells.{plain-Column}
use Rattle.rx_cover.specs.Matrices.{kept_types}
use Rattle.rx_cover.specs.Finding.{Stacked, Refills}
use Rattle.rx_cover.proofs.missing.refill.Given as goal

abbrev pub invariant-loop-i : goal.invariant-loop-i
invariant-loop-i l = (ts : List Typ) → Stacked (declarations l.fn.decls.items) (kept_types l.fn.mask (map plain-Column l.fn.columns) ts) l.fn.stack
    → (left new : List Value) (b : Bool) → (Stacked (declarations l.decls.items) (kept_types (drop l.i l.mask) (map plain-Column (drop l.i l.columns)) ts) l.stack
    → Refills (declarations l.decls.items) (drop l.i l.mask) (map plain-Column (drop l.i l.columns)) ts l.stack l.parts left new b)
    → Refills (declarations l.fn.decls.items) l.fn.mask (map plain-Column l.fn.columns) ts l.fn.stack l.fn.parts left new b
