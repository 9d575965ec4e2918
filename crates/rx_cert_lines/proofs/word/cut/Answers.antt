-- The bytes are cut where the first mark stands.
use Rattle.std.proofs.Common.{ap, ◌∙◌, take, drop}
use Rattle.std.proofs.lemmas.List.{take_rest}
use Rattle.rx_cert_lines.proofs.Marks.{cut_here}
use Rattle.rx_cert_lines.proofs.word.cut.Goals as goal

pub returns : goal.returns
returns c = let b = c.args.bytes.now in let e = c.before-at.ensures.value in
    cut_here c.args.mark b _ _ (ap (λ n. take n b) e) (take_rest b c.before-at.result ∙ ap (λ n. drop n b) e)
