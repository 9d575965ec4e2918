use Rattle.rx_typed.specs.PlainTree.{plain-TypedTree}
use Rattle.rx_meaning_sound.proofs.Standing.{functions_stand_fresh}
use Rattle.rx_meaning_sound.proofs.laws.typed_functions_stand_fresh.Goals as goal

pub returns : goal.returns
returns c = record {
  stands = λ p names t few meant typed f a. functions_stand_fresh p names t few meant typed (c.signatures_are_well_formed.ensures p names t few meant typed)
      (c.sizes_are_sized.ensures p names typed.declared typed.sizes typed.declares typed.is_sizes) (c.named_functions_are_scoped.ensures p few) f a;
  begun = λ p names t few meant typed f a. c.scoped_functions_answer.ensures.begun (plain-TypedTree f.tree)
      (functions_stand_fresh p names t few meant typed (c.signatures_are_well_formed.ensures p names t few meant typed)
      (c.sizes_are_sized.ensures p names typed.declared typed.sizes typed.declares typed.is_sizes) (c.named_functions_are_scoped.ensures p few) f a).scoped;
  answers = λ p names t few meant typed f a. let x = functions_stand_fresh p names t few meant typed (c.signatures_are_well_formed.ensures p names t few meant typed)
      (c.sizes_are_sized.ensures p names typed.declared typed.sizes typed.declares typed.is_sizes) (c.named_functions_are_scoped.ensures p few) f a in
      c.scoped_functions_answer.ensures.answers (plain-TypedTree f.tree) x.scoped x.gives;
}
