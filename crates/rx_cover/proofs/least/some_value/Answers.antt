use Rattle.std.proofs.Common.{subst, IfOk, option_map}
use Rattle.rx_typed.specs.PlainTypes.{plain-Ty, declarations}
use Rattle.rx_cover.specs.PlainValue.{plain-Value}
use Rattle.rx_cover.specs.Finding.{Apart}
use Rattle.rx_cover.proofs.SetLemmas.{no_keys}
use Rattle.rx_cover.proofs.least.some_value.Goals as goal

pub returns : goal.returns
returns c = subst (λ hs. IfOk c.apart.result (λ o. Apart (declarations c.args.decls.now.items) (plain-Ty c.args.ty.now) hs (option_map plain-Value o))) (no_keys c.new-none.result.keys c.new-none.ensures.len) c.apart.ensures
