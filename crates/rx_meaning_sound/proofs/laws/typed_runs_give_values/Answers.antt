use Rattle.std.proofs.Common.{[], refl}
use Rattle.rx_meaning.specs.Endings.{wrong, missing_value}
use Rattle.rx_meaning.specs.Acting.{plainly}
use Rattle.rx_machine.specs.Functions.{program_of}
use Rattle.rx_meaning_keeping.specs.Reaching.{starting}
use Rattle.rx_meaning_accepted.proofs.InitialPrograms.{formed_of, formed_if}
use Rattle.rx_meaning_sound.proofs.Giving.{never_without_value, all_answer}
use Rattle.rx_meaning_sound.proofs.laws.typed_runs_give_values.Goals as goal

pub returns : goal.returns
returns c = λ p names t few meant typed m F is given n told e.
    let formed = formed_if t (formed_of p names t few meant typed (c.signatures_are_well_formed.ensures p names t few meant typed)
    (c.sizes_are_sized.ensures p names typed.declared typed.sizes typed.declares typed.is_sizes) (c.all_have_types.ensures p names t typed) c.elaborated_trees_are_formed.ensures) in
    never_without_value (program_of t m).functions m [] (starting (program_of t m) given n) (wrong missing_value)
    (all_answer t (λ g a. c.typed_functions_stand_fresh.ensures.answers p names t few meant typed g a))
    (c.runs_are_traced.ensures.ends plainly c.runs_are_traced.ensures.plainly (program_of t m) formed F is given n told (wrong missing_value) e) refl
