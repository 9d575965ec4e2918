-- The sink took the bytes before `done`, at least one each turn.
use Rattle.std.proofs.Common.{◌≡◌, ◌+◌, ◌≤◌, length, take}
use Rattle.rx_core.specs.Streams.{Grown}
use Rattle.rx_core.proofs.write.write_all_of.Given as goal

abbrev pub invariant-loop-turn : goal.invariant-loop-turn
invariant-loop-turn g l = record {
  busy : l._turn ≤ l.done;
  within : l.done ≤ length l.bytes;
  grown : Grown (g.K.Sink.contents l.fn.sink) (g.K.Sink.contents l.sink) (take l.done l.bytes);
  sound : g.K.Sink.faults l.sink ≡ g.K.Sink.faults l.fn.sink;
  counted : g.K.Sink.puts l.fn.sink ≤ g.K.Sink.puts l.sink;
  puts : g.K.Sink.puts l.sink ≤ g.K.Sink.puts l.fn.sink + l._turn;
  faults : g.K.Sink.faults l.fn.sink ≤ g.K.Sink.faults l.sink;
  standstills : g.K.Sink.standstills l.sink ≡ g.K.Sink.standstills l.fn.sink;
}
