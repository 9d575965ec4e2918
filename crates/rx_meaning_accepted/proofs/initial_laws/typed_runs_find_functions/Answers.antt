use Rattle.std.proofs.Common.{[], refl}
use Rattle.rx_meaning.specs.Endings.{wrong, missing_function}
use Rattle.rx_meaning.specs.Acting.{plainly}
use Rattle.rx_machine.specs.Functions.{program_of}
use Rattle.rx_meaning_keeping.specs.Reaching.{starting}
use Rattle.rx_meaning_accepted.proofs.InitialPrograms.{formed_of, formed_if}
use Rattle.rx_meaning_accepted.proofs.Finding.{never_missing}
use Rattle.rx_meaning_accepted.proofs.initial_laws.typed_runs_find_functions.Goals as goal

pub returns : goal.returns
returns c = λ p names t few meant typed m F is given n told e.
    let formed = formed_if t (formed_of p names t few meant typed (c.signatures_are_well_formed.ensures p names t few meant typed)
    (c.sizes_are_sized.ensures p names typed.declared typed.sizes typed.declares typed.is_sizes) (c.all_have_types.ensures p names t typed) c.elaborated_trees_are_formed.ensures) in
    never_missing (program_of t m).functions m [] (starting (program_of t m) given n) (wrong missing_function)
    (λ f G fn w k g ts d walk. let x = c.typed_calls_fit.ensures p names t few meant typed m f G fn w k g ts d walk in (x.0, x.1))
    (c.runs_are_traced.ensures.ends plainly c.runs_are_traced.ensures.plainly (program_of t m) formed F is given n told (wrong missing_function) e) refl
