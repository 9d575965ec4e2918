-- All words are integers.
use Rattle.std.proofs.Common.{Some, sym, ap, ◌∙◌}
use Rattle.rx_rem_command.specs.Forms.{runs_of}
use Rattle.rx_rem_command.specs.Numbers.{integers_among}
use Rattle.rx_rem_command.proofs.RunWords.{all_among}
use Rattle.rx_rem_command.proofs.words.run_with.Goals as goal

pub returns-in-Some : goal.returns-in-Some
returns-in-Some c = let words = c.args.numbers.now in
    sym (ap (runs_of c.args.turns) (all_among words (sym c.are_integers.ensures ∙ c.if-are_integers.true)) ∙ ap (λ t. runs_of t (Some (integers_among words))) c.in-Some.is)
