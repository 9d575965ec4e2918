-- What both do is told.
use Rattle.std.proofs.Common.{List, ℕ, ap, ◌∙◌}
use Rattle.rx_rem_generated.specs.Summary.{summary}
use Rattle.rx_rem_command.proofs.generating.told_of.Goals as goal

pub returns : goal.returns
returns c p q h x = record {
  first = c.in_ok-first.first;
  second = c.in_ok-second.second;
  does = c.in_ok-first.ensures p h;
  does_again = c.in_ok-second.ensures q x;
  is =
      c.in_ok-told.ensures
      ∙ (ap (λ (t : List ℕ). summary c.args.text.now c.args.answer.now t c.as_str-2.result.now) c.as_str.ensures
      ∙ ap (λ (t : List ℕ). summary c.args.text.now c.args.answer.now c.in_ok-first.first.printed t) c.as_str-2.ensures);
}
