use Rattle.std.proofs.Common.{ap, map}
use Rattle.rx_tree.specs.PlainOf.{plain-Func, plain-Param}
use Rattle.std.proofs.lemmas.Result.{on_ok_weaker}
use Rattle.rx_splice_edits.proofs.TextLemmas.{header_written}
use Rattle.rx_splice_edits.proofs.text.push_header.Goals as goal

pub returns : goal.returns
returns c =
    on_ok_weaker c.push.result (header_written (plain-Func c.args.function.now) _ _ c.args.out.now c.push_called.new.out c.push_signature.new.out c.push.new.self
    c.as_slice.ensures (ap (map plain-Param) c.as_slice-2.ensures) c.in_ok-push_called.ensures c.in_ok-push_signature.ensures) c.push.ensures.ok
