use Rattle.rx_typed.specs.PlainTypes.{declarations}
use Rattle.rx_machine.specs.Functions.{program_of}
use Rattle.rx_meaning_accepted.specs.Frames.{frames, mutables}
use Rattle.rx_meaning_sound.proofs.laws.accepted_runs_are_never_wrong.Goals as goal

pub returns : goal.returns
returns x = record {
  strict = λ p t few front free m F e np given ranged n c q. let y = x.accepted_programs_are_covered.ensures p t few front free m in
      x.covered_runs_are_never_wrong.ensures.strict (declarations t.decls.items) y.0 y.1 (program_of t m) y.2 y.3 (frames t front.parts) (mutables t) (x.accepted_programs_are_initial.ensures p t few front m) y.4 given ranged n F e np c q;
  plain = λ p t few front free m F e np given ranged n c q. let y = x.accepted_programs_are_covered.ensures p t few front free m in
      x.covered_runs_are_never_wrong.ensures.plain (declarations t.decls.items) y.0 y.1 (program_of t m) y.2 y.3 (frames t front.parts) (mutables t) (x.accepted_programs_are_initial.ensures p t few front m) y.4 given ranged n F e np c q;
  same = λ p t few front free m F e given n. let y = x.accepted_programs_are_covered.ensures p t few front free m in
      x.covered_runs_are_never_wrong.ensures.same (declarations t.decls.items) y.0 y.1 (program_of t m) y.2 y.3 (frames t front.parts) (mutables t) (x.accepted_programs_are_initial.ensures p t few front m) given n F e;
}
