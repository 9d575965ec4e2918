use Rattle.rx_engine_planned.proofs.ExitNames.{exit_names_apart}
use Rattle.rx_engine_planned.proofs.LoopsRound.{loops_apart}
use Rattle.rx_engine_planned.proofs.laws.exits_have_their_own_names.Goals as goal

pub returns : goal.returns
returns c = record {
  loops = λ p names t few meant typed f a r h sits. loops_apart p names t few meant typed (c.signatures_are_well_formed.ensures p names t few meant typed)
      (c.sizes_are_sized.ensures p names typed.declared typed.sizes typed.declares typed.is_sizes) f a r h sits;
  names = λ A names t few meant typed a q sits plan same. exit_names_apart A q plan same (loops_apart A.program names t few meant typed (c.signatures_are_well_formed.ensures A.program names t few meant typed)
      (c.sizes_are_sized.ensures A.program names typed.declared typed.sizes typed.declares typed.is_sizes) A.function a q.run q.home sits);
}
