use Rattle.rx_meaning_keeping.proofs.Parts.{parted}
use Rattle.rx_engine_initial.specs.Matching.{is_known}
use Rattle.rx_engine_initial.specs.Copies.{world}
use Rattle.rx_engine_initial.proofs.Matched.{maps}
use Rattle.rx_engine_initial.proofs.Known.{keeps}
use Rattle.rx_engine_initial.proofs.Entering.{given_maps, declared_maps}
use Rattle.rx_engine_initial.proofs.laws.params_and_locals_match.Goals as goal

pub returns : goal.returns
returns c = record {
  params = λ S a b i R U ps q g n s m. let P = parted S.frame a in let Q = parted S.frame_there b in is_known (given_maps S P Q i q g n s (maps (world S) (keeps S P Q i) U s q m));
  locals = λ S a b i R U xs q g k n s m. let P = parted S.frame a in let Q = parted S.frame_there b in is_known (declared_maps S P Q i q g k n s (maps (world S) (keeps S P Q i) U s q m));
}
