use Rattle.std.proofs.Common.{◌≡◌, ◌++◌, ◌-◌, Some, map, drop}
use Rattle.rx_hoist_extraction.specs.WrittenTypes.{lifetimes_from}
use Rattle.rx_hoist_made.specs.Rows.{nth_name}
use Rattle.rx_hoist_made.proofs.written_types.next_lifetimes.Given as goal

abbrev pub invariant-loop-turn : goal.invariant-loop-turn
invariant-loop-turn l =
    record {
      names : l.all ++ map (λ x. Some x) (lifetimes_from l.span (nth_name l.row) 0 (l.many - l._turn)) ≡ map (λ x. Some x) (lifetimes_from l.span (nth_name l.fn.row) 0 l.many);
      rest : drop (l.many - l._turn) l.row ≡ drop l.many l.fn.row;
    }
