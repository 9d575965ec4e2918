use Rattle.rx_repair.proofs.laws.verdicts_are_kept.Goals as goal

pub returns : goal.returns
returns c = record {
  missing = λ p names t few meant typed f among P. c.typed_verdicts_are_kept.ensures.missing p names t few meant typed f among P (c.items_get_their_types.ensures p names t typed f among P);
  bounds = λ p names t few meant typed f among P. c.typed_verdicts_are_kept.ensures.bounds p names t few meant typed f among P (c.items_get_their_types.ensures p names t typed f among P);
  accepted = λ p names t few meant typed f among P. c.typed_verdicts_are_kept.ensures.accepted p names t few meant typed f among P (c.items_get_their_types.ensures p names t typed f among P);
}
