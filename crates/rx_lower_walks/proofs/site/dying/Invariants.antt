use Rattle.std.proofs.Common.{◌≡◌, ◌++◌, length, map, drop}
use Rattle.rx_lower_walks.specs.PlainSite.{plain-Site}
use Rattle.rx_lower_walks.specs.Emitted.{dying}
use Rattle.rx_lower_walks.proofs.site.dying.Given as goal

abbrev pub invariant-loop-variable : goal.invariant-loop-variable
invariant-loop-variable l = record {
  rest : l.rest ≡ length (drop l.variable-index l.variables);
  out : map plain-Site l.out ++ dying l.node (drop l.variable-index l.variables) l.at l.end ≡ map plain-Site l.fn.out ++ dying l.node l.variables l.fn.at l.end;
}
