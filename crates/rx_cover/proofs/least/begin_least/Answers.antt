use Rattle.std.proofs.Common.{subst, [], option_map}
use Rattle.rx_typed.specs.PlainTypes.{plain-Ty, declarations}
use Rattle.rx_cover.specs.PlainCells.{plain-Head}
use Rattle.rx_cover.specs.Finding.{HeadApart}
use Rattle.rx_cover.proofs.least.begin_least.Goals as goal

pub begin-requires : goal.begin-requires
begin-requires c = (subst (λ o. HeadApart (declarations c.args.decls.now.items) (plain-Ty c.args.ty.now) [] (option_map plain-Head o)) c.in-Some.is c.least_head.ensures).fits

pub returns-in_ok-begin-in-Some : goal.returns-in_ok-begin-in-Some
returns-in_ok-begin-in-Some c =
    let found = subst (λ o. HeadApart (declarations c.args.decls.now.items) (plain-Ty c.args.ty.now) [] (option_map plain-Head o)) c.in-Some.is c.least_head.ensures in
    (plain-Head c.in-Some.head, found, c.in_ok-begin-in-Some.ensures)

pub returns-in-None : goal.returns-in-None
returns-in-None c = subst (λ o. HeadApart (declarations c.args.decls.now.items) (plain-Ty c.args.ty.now) [] (option_map plain-Head o)) c.in-None.is c.least_head.ensures
