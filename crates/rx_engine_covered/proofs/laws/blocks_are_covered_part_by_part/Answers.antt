use Rattle.rx_typed.specs.Elaborated.{tail}
use Rattle.rx_engine_holes.specs.Run.{append}
use Rattle.rx_engine_covered.proofs.Around.{behind_covered, front_covered, joined_covered}
use Rattle.rx_engine_covered.proofs.Marks.{whole_body}
use Rattle.rx_engine_covered.proofs.laws.blocks_are_covered_part_by_part.Goals as goal

pub returns-clause-whole : goal.returns-clause-whole
returns-clause-whole c = λ T f. whole_body T f.body

pub returns-clause-apart : goal.returns-clause-apart
returns-clause-apart c = λ T D n a run b o h. let k = behind_covered T D a (append run b) (tail T n o) h in (front_covered T D run b (tail T n o) k, k)

pub returns-clause-together : goal.returns-clause-together
returns-clause-together c = λ T D n a b o h k. joined_covered T D a b (tail T n o) h k
