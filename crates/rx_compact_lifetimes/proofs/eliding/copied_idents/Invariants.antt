use Rattle.std.proofs.Common.{◌≡◌, take}
use Rattle.rx_compact_lifetimes.proofs.eliding.copied_idents.Given as goal

abbrev pub invariant-loop-ident : goal.invariant-loop-ident
invariant-loop-ident l = l.all ≡ take l.ident-index l.idents
