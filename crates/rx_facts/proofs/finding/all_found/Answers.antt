use Rattle.std.proofs.Common.{List, ℕ, Err, subst}
use Rattle.rx_typed.specs.PlainTypes.{declarations}
use Rattle.rx_typeck_typed.specs.declared.typed.TypedFn.{TypedFn}
use Rattle.rx_typed_declarations.specs.Sizes.{told}
use Rattle.rx_facts.specs.Answers.{EachAnswers}
use Rattle.rx_facts.proofs.Telling.{facts_err}
use Rattle.rx_facts.proofs.finding.all_found.Goals as goal

pub returns-in-Err : goal.returns-in-Err
returns-in-Err c = facts_err c.args.typed.now (told c.args.sizes) c.in-Err.fault c.requires.sized
    (subst (λ (l : List TypedFn). EachAnswers (declarations c.args.typed.now.decls.items) (told c.args.sizes) l (Err c.in-Err.fault)) c.as_slice-functions.ensures
    (subst (λ (l : List ℕ). EachAnswers (declarations c.args.typed.now.decls.items) (told l) c.as_slice-functions.result.now (Err c.in-Err.fault)) c.as_slice.ensures c.in-Err.ensures))
