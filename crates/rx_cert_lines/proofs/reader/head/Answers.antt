-- Each word is the head's bytes.
use Rattle.std.proofs.Common.{[], ◌∷◌, sym, ◌∙◌}
use Rattle.rx_core.proofs.BytesLemmas.{same_bytes-true}
use Rattle.rx_cert_lines.proofs.reader.head.Goals as goal

pub returns-then-is_same : goal.returns-then-is_same
returns-then-is_same c = sym (same_bytes-true c.args.word.now (114 ∷ []) (sym c.is_same.ensures ∙ c.if-is_same.true))

pub returns-then-is_same-2 : goal.returns-then-is_same-2
returns-then-is_same-2 c = sym (same_bytes-true c.args.word.now (108 ∷ []) (sym c.is_same-else-is_same.ensures ∙ c.if-is_same-2.true))

pub returns-then-is_same-3 : goal.returns-then-is_same-3
returns-then-is_same-3 c =
    sym (same_bytes-true c.args.word.now (102 ∷ 117 ∷ 110 ∷ 99 ∷ 116 ∷ 105 ∷ 111 ∷ 110 ∷ []) (sym c.is_same-else-is_same-2.ensures ∙ c.if-is_same-3.true))

pub returns-then-is_same-4 : goal.returns-then-is_same-4
returns-then-is_same-4 c = sym (same_bytes-true c.args.word.now (116 ∷ 101 ∷ 120 ∷ 116 ∷ []) (sym c.is_same-else-is_same-3.ensures ∙ c.if-is_same-4.true))
