use Rattle.rx_machine.specs.Functions.{program_of}
use Rattle.rx_meaning_accepted.specs.Frames.{frames, mutables}
use Rattle.rx_meaning_accepted.proofs.initial_laws.accepted_strict_runs_are_plain.Goals as goal

pub returns : goal.returns
returns c = λ p t few front m F is never given n. c.strict_runs_are_plain.ensures.without_references (program_of t m) (frames t front.parts) (mutables t) (c.accepted_programs_are_initial.ensures p t few front m) F is never given n
