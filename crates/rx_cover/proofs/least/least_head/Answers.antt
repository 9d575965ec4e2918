use Rattle.std.proofs.Common.{subst, option_map}
use Rattle.rx_typed.specs.PlainTypes.{plain-Ty, declarations}
use Rattle.rx_cover.specs.PlainCells.{plain-Head}
use Rattle.rx_cover.specs.Finding.{HeadApart}
use Rattle.rx_cover.proofs.SetLemmas.{no_keys}
use Rattle.rx_cover.proofs.least.least_head.Goals as goal

pub returns : goal.returns
returns c = subst (λ hs. HeadApart (declarations c.args.decls.now.items) (plain-Ty c.args.ty.now) hs (option_map plain-Head c.head_apart.result)) (no_keys c.new-none.result.keys c.new-none.ensures.len) c.head_apart.ensures
