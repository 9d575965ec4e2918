-- What is printed was cut, and the line says so.
use Rattle.std.proofs.Common.{Err, inr, ap, ◌∙◌}
use Rattle.rx_rem_command.specs.Replies.{sink_state}
use Rattle.rx_rem_command.proofs.Replies.{cut}
use Rattle.rx_rem_command.proofs.running.tell.Goals as goal

pub returns-in-Err : goal.returns-in-Err
returns-in-Err g c = let at = sink_state g.O.Sink.contents g.O.Sink.faults g.O.Sink.standstills in
    inr (
      cut (at c.args.out.now) (at c.write_all_of.new.sink) c.as_bytes.result.now c.args.outcome.now.printed c.in-Err._fail
          (c.as_bytes.ensures.value ∙ c.as_str.ensures) c.write_all_of.ensures.front
          (λ e. c.in-Err.ensures.fault (ap Err e)) (λ left e. (c.in-Err.ensures.stuck left (ap Err e)).2)
          (λ e. c.in-Err.ensures.failing (ap Err e)) (λ n. c.in-Err.ensures.sound (λ e. n (cc))),
      c.report_name.ensures,
    )
