use Rattle.rx_typed.specs.PlainTypes.{declarations}
use Rattle.rx_machine.specs.Functions.{program_of}
use Rattle.rx_meaning_accepted.specs.Frames.{frames, mutables}
use Rattle.rx_meaning_accepted.proofs.laws.accepted_runs_without_references.Goals as goal

pub returns : goal.returns
returns c = λ p t few front m. let x = c.accepted_programs_act_by_their_types.ensures p t few front m in let i = c.accepted_programs_are_initial.ensures p t few front m in
    let D = declarations t.decls.items in let P = program_of t m in let Fs = frames t front.parts in let ms = mutables t in (
      x.0,
      x.1,
      λ free F q given n. (
        c.runs_without_references.ensures.plain D x.0 P x.1 free Fs ms i F q given n,
        λ np told k e. c.runs_without_references.ensures.causes D x.0 P x.1 free Fs ms i F q np given n told k e,
      ),
    )
