use Rattle.std.proofs.Common.{List, ℕ, sym, ap, ◌∙◌, subst}
use Rattle.rx_typed.specs.PlainTypes.{declarations}
use Rattle.rx_typed_declarations.specs.Sizes.{Sized, told}
use Rattle.rx_check.specs.Front.{Front, IsFronted}
use Rattle.rx_check.proofs.front_end.FrontEnd.sizes.Goals as goal

pub returns-clause-sized : goal.returns-clause-sized
returns-clause-sized c = let known : IsFronted c.args.self.now = subst IsFronted c.self.view_is c.self.invariant in
    subst (λ (l : List ℕ). Sized (declarations c.args.self.now.typed.decls.items) (told l)) (sym (c.as_slice.ensures ∙ ap (λ (x : Front). x.facts.sizes) c.self.view_is)) known.1.facts.sized
