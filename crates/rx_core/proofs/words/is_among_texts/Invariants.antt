-- It is one of all exactly where it is one of those that are left.
use Rattle.std.proofs.Common.{◌≡◌, drop, map}
use Rattle.rx_core.specs.Bytes.{is_one_of}
use Rattle.rx_core.proofs.words.is_among_texts.Given as goal

abbrev pub invariant-loop-other : goal.invariant-loop-other
invariant-loop-other l = is_one_of l.text (map (λ w. w.now) (drop l.other-index l.texts)) ≡ is_one_of l.text (map (λ w. w.now) l.texts)
