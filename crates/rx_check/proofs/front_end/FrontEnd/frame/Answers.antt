use Rattle.std.proofs.Common.{sym, ap, subst}
use Rattle.rx_typed.specs.PlainTypes.{declarations}
use Rattle.rx_typed_declarations.specs.Sizes.{Sized, told}
use Rattle.rx_lower.specs.Functions.{function_at}
use Rattle.rx_check.specs.Front.{Front}
use Rattle.rx_check.proofs.ReaderLemmas.{framed}
use Rattle.rx_check.proofs.front_end.FrontEnd.frame.Goals as goal

pub returns-clause-frame : goal.returns-clause-frame
returns-clause-frame c f is =
    framed _ c.args.self.now.typed.decls.items _ c.args.self.now.facts.sizes c.as_slice.result.now c.trimmed.result.now (function_at c.args.self.now.typed.functions c.args.function) c.function.result.now f
    (ap (λ (x : Front). x.typed.decls.items) c.self.view_is) c.sizes.ensures.sizes c.function.ensures is c.as_slice.ensures c.trimmed.ensures

pub returns-clause-sized : goal.returns-clause-sized
returns-clause-sized c = subst (λ (x : Front). Sized (declarations x.typed.decls.items) (told c.sizes.result.now)) (sym c.self.view_is) c.sizes.ensures.sized
