use Rattle.std.proofs.Common.{ℕ, List, sym, subst}
use Rattle.rx_typed.specs.Naming.{of_optional, of_statements}
use Rattle.rx_hoist_extraction.specs.Run.{as_statements}
use Rattle.rx_engine_names.specs.HandsOver.{told_last}
use Rattle.rx_engine_changed.proofs.Deeds.{does_on, optional_does, statements_does, AreFrom}
use Rattle.rx_engine_standing.proofs.Behind.{end_variables_stand}
use Rattle.rx_engine_standing.proofs.Declared.{end_declared}
use Rattle.rx_engine_standing.proofs.laws.variables_of_an_end_stand.Goals as goal

pub returns : goal.returns
returns c = λ E f N R G I J front run call tail other p x o d t s back A B n b made fits.
    let S = of_statements (as_statements call) d in let O = of_optional t other S.1 in
    let does = does_on 0 (statements_does 0 (as_statements call) d) (optional_does 0 other t S.1) in
    end_variables_stand N R (told_last G) I J front run call tail other p x o d t s back A made
    (subst (λ (xs : List ℕ). AreFrom d.declared xs O.1.declared) (sym (end_declared E f fits)) does.variables)
