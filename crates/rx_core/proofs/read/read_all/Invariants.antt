-- What was read is a front of what was left at entry, at least a byte each turn.
use Rattle.std.proofs.Common.{◌≡◌, ◌+◌, ◌≤◌, length}
use Rattle.rx_core.specs.Streams.{Gone}
use Rattle.rx_core.proofs.read.read_all.Given as goal

abbrev pub invariant-loop-turn : goal.invariant-loop-turn
invariant-loop-turn g l = record {
  busy : l._turn ≤ length l.bytes.items;
  within : length l.bytes.items ≤ l.limit;
  gone : Gone (g.S.Source.remaining l.fn.source) (g.S.Source.remaining l.source) l.bytes.items;
  sound : g.S.Source.faults l.source ≡ g.S.Source.faults l.fn.source;
  counted : g.S.Source.takes l.fn.source ≤ g.S.Source.takes l.source;
  takes : g.S.Source.takes l.source ≤ g.S.Source.takes l.fn.source + l._turn;
  faults : g.S.Source.faults l.fn.source ≤ g.S.Source.faults l.source;
}
