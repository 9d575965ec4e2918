-- The goals that no tactic closes: by the lemmas of texts and lists written one part after the other.
use Rattle.std.proofs.Common.{◌++◌, ◌∙◌, ap}
use Rattle.std.proofs.lemmas.Result.{on_ok_weaker}
use Rattle.rx_print_spelling.specs.Pieces.{flat}
use Rattle.rx_print_parts.proofs.WrittenLists.{some_parts}
use Rattle.rx_print_parts.proofs.Seen.{types_seen}
use Rattle.rx_print_parts.proofs.declarations.push_parts.Goals as goal

pub returns : goal.returns
returns c =
    on_ok_weaker c.push_arguments.result (λ s. s ∙ ap (λ p. c.args.out.now ++ flat p) (some_parts types_seen c.args.list.now c.is_empty.result c.is_empty.ensures c.if-is_empty.false)) c.push_arguments.ensures
