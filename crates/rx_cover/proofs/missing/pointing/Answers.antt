use Rattle.std.proofs.Common.{◌≡◌, ◌∙◌, sym, ap, subst, IfOk}
use Rattle.rx_cover.specs.Values as plain
use Rattle.rx_cover.specs.Heads.{pointed_value}
use Rattle.rx_cover.specs.PlainValue.{plain-Value, plain_values}
use Rattle.rx_cover.proofs.MissingLemmas as lemma
use Rattle.rx_cover.proofs.missing.pointing.Goals as goal

pub returns-in-Some : goal.returns-in-Some
returns-in-Some c = subst (λ w. IfOk c.reference.result (λ v. plain-Value v ≡ w))
    (sym (ap (λ l. pointed_value (plain_values l)) c.in-Some.ensures ∙ lemma.pointed_last c.pop.new.self c.in-Some.value)) c.reference.ensures

pub returns-in-None : goal.returns-in-None
returns-in-None c = subst (λ w. IfOk c.tuple.result (λ v. plain-Value v ≡ w))
    (ap (λ l. plain.tuple (plain_values l)) c.in-None.ensures.1 ∙ sym (ap (λ l. pointed_value (plain_values l)) c.in-None.ensures.0)) c.tuple.ensures
