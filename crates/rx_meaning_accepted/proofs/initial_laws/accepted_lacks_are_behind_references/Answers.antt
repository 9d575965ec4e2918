use Rattle.rx_machine.specs.Functions.{program_of}
use Rattle.rx_meaning_accepted.specs.Frames.{frames, mutables}
use Rattle.rx_meaning_accepted.proofs.initial_laws.accepted_lacks_are_behind_references.Goals as goal

pub returns : goal.returns
returns c = λ p t few front m F is given n told e. c.lacks_are_behind_references.ensures (program_of t m) (frames t front.parts) (mutables t) (c.accepted_programs_are_initial.ensures p t few front m) F is given n told e
