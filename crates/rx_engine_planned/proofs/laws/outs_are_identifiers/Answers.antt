use Rattle.std.proofs.Common.{◌≡◌, ◌∙◌, List, Option, subst, sym, true}
use Rattle.rx_tree.specs.Lists.{Every}
use Rattle.rx_tree.specs.Plain.{ItemTree}
use Rattle.rx_hoist_extraction.specs.Names.{is_among}
use Rattle.rx_hoist_naming.specs.DeclaredNames.{declared_names}
use Rattle.rx_hoist_naming.specs.NamesWords.{identifiers}
use Rattle.rx_engine_names.proofs.FreeRuns.{declared_are_known}
use Rattle.rx_engine_planned.proofs.OutWords.{outs_are_words}
use Rattle.rx_engine_planned.proofs.RoundRuns.{found}
use Rattle.rx_engine_planned.proofs.laws.outs_are_identifiers.Goals as goal

pub returns : goal.returns
returns c = λ A bytes text names t few meant typed among s f at q sits plan agree e. outs_are_words (λ x. is_among x (identifiers A.tokens) ≡ true) A q plan agree
    (subst (λ (o : Option ItemTree). Every (λ x. is_among x (identifiers A.tokens) ≡ true) (declared_names o)) (sym (found A.program A.function.item ∙ at)) (declared_are_known bytes A.tokens A.program text A.function.item s f at))
    (c.runs_have_names.ensures A.program names t few meant typed A.function among q.run q.home sits) e
