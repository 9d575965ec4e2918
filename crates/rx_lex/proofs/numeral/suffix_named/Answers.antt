use Rattle.std.proofs.Common.{[], ◌∷◌, sym, ◌∙◌}
use Rattle.rx_core.proofs.BytesLemmas.{same_bytes-true}
use Rattle.rx_lex.proofs.numeral.suffix_named.Goals as goal

pub returns-then-is_same : goal.returns-then-is_same
returns-then-is_same c = same_bytes-true c.args.name.now (117 ∷ 56 ∷ []) (sym c.is_same.ensures ∙ c.if-is_same.true)

pub returns-then-is_same-2 : goal.returns-then-is_same-2
returns-then-is_same-2 c = same_bytes-true c.args.name.now (117 ∷ 51 ∷ 50 ∷ []) (sym c.is_same-else-is_same.ensures ∙ c.if-is_same-2.true)

pub returns-then-is_same-3 : goal.returns-then-is_same-3
returns-then-is_same-3 c = same_bytes-true c.args.name.now (117 ∷ 54 ∷ 52 ∷ []) (sym c.is_same-else-is_same-2.ensures ∙ c.if-is_same-3.true)

pub returns-then-is_same-4 : goal.returns-then-is_same-4
returns-then-is_same-4 c = same_bytes-true c.args.name.now (105 ∷ 51 ∷ 50 ∷ []) (sym c.is_same-else-is_same-3.ensures ∙ c.if-is_same-4.true)

pub returns-then-is_same-5 : goal.returns-then-is_same-5
returns-then-is_same-5 c = same_bytes-true c.args.name.now (105 ∷ 54 ∷ 52 ∷ []) (sym c.is_same-else-is_same-4.ensures ∙ c.if-is_same-5.true)
