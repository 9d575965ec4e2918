-- The parts are the text; its run stands where they say; and it is short.
use Rattle.std.proofs.Common.{◌≤◌, List, ℕ, length, sym, ap, ◌∙◌, subst}
use Rattle.rx_rem_generated.proofs.Growth.{all_parts, start_of, end_of}
use Rattle.rx_rem_generated.proofs.Lengths.{generated_length}
use Rattle.rx_rem_generated.proofs.text.generated_text.Goals as goal

pub returns-clause-text : goal.returns-clause-text
returns-clause-text c = all_parts c.args.count c.requires.some c.in_ok-text.text c.push_before_run.new.text c.push_run.new.text c.push_behind_run.new.text
    c.push_main.new.text c.in_ok-text.ensures c.in_ok-push_before_run.ensures c.in_ok-push_run.ensures c.in_ok-push_behind_run.ensures c.in_ok-push_main.ensures

pub returns-clause-short : goal.returns-clause-short
returns-clause-short c =
    let e = all_parts c.args.count c.requires.some c.in_ok-text.text c.push_before_run.new.text c.push_run.new.text c.push_behind_run.new.text
    c.push_main.new.text c.in_ok-text.ensures c.in_ok-push_before_run.ensures c.in_ok-push_run.ensures c.in_ok-push_behind_run.ensures c.in_ok-push_main.ensures in
    subst (λ (t : List ℕ). length t ≤ 1048576) (sym e) (generated_length c.args.count c.requires.few)

pub returns-clause-range : goal.returns-clause-range
returns-clause-range c = (
  ap length c.as_str.ensures ∙ start_of c.args.count c.in_ok-text.text c.push_before_run.new.text c.in_ok-text.ensures c.in_ok-push_before_run.ensures,
  ap length c.as_str-2.ensures
      ∙ end_of c.args.count c.in_ok-text.text c.push_before_run.new.text c.push_run.new.text c.in_ok-text.ensures c.in_ok-push_before_run.ensures c.in_ok-push_run.ensures,
)
