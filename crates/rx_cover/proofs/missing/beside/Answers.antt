use Rattle.std.proofs.Common.{◌∙◌, ap, subst, [], ◌∷◌, ◌++◌, map, IfOk, option_map}
use Rattle.rx_typed.specs.PlainTypes.{plain-Ty, declarations}
use Rattle.rx_cover.specs.PlainCells.{plain-Head}
use Rattle.rx_cover.specs.PlainValue.{plain-Value}
use Rattle.rx_cover.specs.Finding.{Apart}
use Rattle.rx_cover.proofs.MissingLemmas as lemma
use Rattle.rx_cover.proofs.missing.beside.Goals as goal

pub returns-in_ok-pushed-in-Some : goal.returns-in_ok-pushed-in-Some
returns-in_ok-pushed-in-Some c =
    let D = declarations c.args.decls.now.items in
    let t = plain-Ty c.args.ty.now in
    let hs = map plain-Head c.args.heads.now.keys in
    lemma.besides_some D t hs c.args.stack c.in_ok-pushed-in-Some.field-0 c.in-Some.value
    (subst (λ o. Apart D t hs (option_map plain-Value o)) c.in-Some.is
    (subst (λ q. IfOk q (λ o. Apart D t hs (option_map plain-Value o))) c.in_ok-value.ensures.0 c.apart.ensures))
    (c.in_ok-pushed-in-Some.ensures ∙ ap (λ l. l ++ c.in-Some.value ∷ []) c.in_ok-value.ensures.1)
