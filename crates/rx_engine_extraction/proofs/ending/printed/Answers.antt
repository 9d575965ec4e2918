use Rattle.std.proofs.Common.{◌≤◌, ℕ, List, length, ap, subst}
use Rattle.rx_hoist_plan.specs.PlainPlan.{plain-Plan}
use Rattle.rx_engine_extraction.specs.Splicing.{rendered_by}
use Rattle.rx_engine_extraction.specs.Ending.{IsUnwritten}
use Rattle.rx_engine_extraction.proofs.Outcomes.{if_ok, if_err}
use Rattle.rx_engine_extraction.proofs.Ends.{unwritten_unprinted}
use Rattle.rx_engine_extraction.proofs.ending.printed.Goals as goal

pub returns-in-Err-clause-fault : goal.returns-in-Err-clause-fault
returns-in-Err-clause-fault c = λ bs made.
    let R = rendered_by c.args.given.now c.args.run.now (plain-Plan c.args.plan.now) bs in
    unwritten_unprinted R c.in-Err.fault (if_err (IsUnwritten R) c.text_of-outcome.result c.in-Err.fault c.in-Err.ensures (c.text_of-outcome.ensures.fault bs made))

pub returns-then-length-gt-MOST_BYTES-clause-fault : goal.returns-then-length-gt-MOST_BYTES-clause-fault
returns-then-length-gt-MOST_BYTES-clause-fault c = λ bs made.
    let R = rendered_by c.args.given.now c.args.run.now (plain-Plan c.args.plan.now) bs in
    let text = if_ok R c.text_of-outcome.result c.in-Ok.both.0 c.in-Ok.ensures.0 (c.text_of-outcome.ensures.found bs made) in
    (c.in-Ok.both.0, text, ap (λ (l : List ℕ). length l) c.as_str-length.ensures, c.if-length-gt-MOST_BYTES.true)

pub returns-clause-found : goal.returns-clause-found
returns-clause-found c = λ bs made.
    let R = rendered_by c.args.given.now c.args.run.now (plain-Plan c.args.plan.now) bs in
    record {
      text = if_ok R c.text_of-outcome.result c.in-Ok.both.0 c.in-Ok.ensures.0 (c.text_of-outcome.ensures.found bs made);
      bounds = c.in-Ok.ensures.1;
      short = subst (λ (n : ℕ). n ≤ 1048576) (ap (λ (l : List ℕ). length l) c.as_str-length.ensures) c.if-length-gt-MOST_BYTES.false;
    }
