use Rattle.std.proofs.Common.{List, subst, sym, map, refl}
use Rattle.rx_core.specs.declared.types.Place.{Place}
use Rattle.rx_lower_walks.specs.PlainSite.{plain-Site}
use Rattle.rx_facts_tables.specs.Tables.{KeepsForAll}
use Rattle.rx_facts_tables.proofs.Deciding.{answers_ok, answers_err}
use Rattle.rx_facts_tables.proofs.whole.judged.Goals as goal

pub returns-in-Ok-judge_all-clause-answers : goal.returns-in-Ok-judge_all-clause-answers
returns-in-Ok-judge_all-clause-answers c = answers_ok _ c.args.mutable.now c.in-Ok.facts (map plain-Site c.args.sites.now) c.in-Ok.ensures c.requires.sized c.requires.layout
    (subst (λ (l : List Place). KeepsForAll l (map plain-Site c.args.sites.now)) (sym c.as_slice.ensures) c.requires.kept) c.in-Ok-judge_all.ensures.well _ refl refl refl

pub returns-in-Err-judge_all-clause-answers : goal.returns-in-Err-judge_all-clause-answers
returns-in-Err-judge_all-clause-answers c = answers_err _ c.args.mutable.now c.in-Ok.facts (map plain-Site c.args.sites.now) c.in-Ok.ensures c.requires.sized c.requires.layout
    c.in-Err-judge_all.fault c.in-Err-judge_all.ensures.ill
