use Rattle.std.proofs.Common.{subst, map, option_map}
use Rattle.rx_typed.specs.PlainTypes.{plain-Ty, declarations}
use Rattle.rx_cover.specs.PlainCells.{plain-Head}
use Rattle.rx_cover.specs.Finding.{HeadApart}
use Rattle.rx_cover.proofs.LeastLemmas.{apart_if}
use Rattle.rx_cover.proofs.least.apart.Goals as goal

pub headed-requires-clause-fits : goal.headed-requires-clause-fits
headed-requires-clause-fits c =
    let D = declarations c.args.decls.now.items in
    (subst (λ o. HeadApart D (plain-Ty c.args.ty.now) (map plain-Head c.args.heads.now.keys) (option_map plain-Head o)) c.in-Some.is c.head_apart.ensures).fits

pub returns-in-Some : goal.returns-in-Some
returns-in-Some c =
    let D = declarations c.args.decls.now.items in
    let t = plain-Ty c.args.ty.now in
    let hs = map plain-Head c.args.heads.now.keys in
    apart_if D t hs (plain-Head c.in-Some.head) c.headed.result (subst (λ o. HeadApart D t hs (option_map plain-Head o)) c.in-Some.is c.head_apart.ensures) c.headed.ensures

pub returns-in-None : goal.returns-in-None
returns-in-None c =
    let D = declarations c.args.decls.now.items in
    subst (λ o. HeadApart D (plain-Ty c.args.ty.now) (map plain-Head c.args.heads.now.keys) (option_map plain-Head o)) c.in-None.is c.head_apart.ensures
