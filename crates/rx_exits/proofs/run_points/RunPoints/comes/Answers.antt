use Rattle.std.proofs.Common.{refl}
use Rattle.rx_exits.specs.Marks.{plain-Point}
use Rattle.rx_exits.proofs.Looking.{told_of}
use Rattle.rx_exits.proofs.Reading.{comes}
use Rattle.rx_exits.proofs.run_points.RunPoints.comes.Goals as goal

pub returns : goal.returns
returns c A is = comes A c.args.self.now (plain-Point c.args.point) c.number.result c.is_marked.result is c.number.ensures
    (told_of c.is_marked.result c.args.self.now.marks c.as_slice.result.now c.number.result c.number.result (λ i. Unit {0}) (λ i. ⊥) c.as_slice.ensures refl c.is_marked.ensures)
