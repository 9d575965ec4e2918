use Rattle.std.proofs.Common.{◌≡◌, ◌-◌, ◌∙◌, Bool, true}
use Rattle.std.specs.Prelude.{◌↔◌}
use Rattle.rx_engine_extraction.specs.Confirmed.{IsConfirmed}
use Rattle.rx_engine_extraction.specs.Deciding.{text_of, case_of}
use Rattle.rx_engine_extraction.proofs.Outcomes.{if_ok}
use Rattle.rx_engine_extraction.proofs.Comparing.{confirmed_as, unconfirmed_as}
use Rattle.rx_engine_extraction.proofs.confirming.confirmed.Goals as goal

pub returns-then-not-found : goal.returns-then-not-found
returns-then-not-found c = let T = text_of c.args.given.now in let d = case_of T c.args.decision.now in let n = c.args.new_fn in let f = c.args.decision.now.run.function in
    λ made e. unconfirmed_as T d n f made c.as_bytes-text.result.now c.args.answer.text c.in-Ok.both.0 e (c.as_bytes-text.ensures.value ∙ c.as_str.ensures)
    (if_ok (λ (b : Bool). (b ≡ true) ↔ IsConfirmed T d n (n - f) c.as_bytes-text.result.now) c.is_confirmed-outcome.result c.in-Ok.both.0 c.in-Ok.ensures.0 c.is_confirmed-outcome.ensures.found)
    c.if-not-found.true

pub returns : goal.returns
returns c = let T = text_of c.args.given.now in let d = case_of T c.args.decision.now in let n = c.args.new_fn in let f = c.args.decision.now.run.function in
    λ made e. (
      c.in-Ok.ensures.1,
      confirmed_as T d n f made c.as_bytes-text.result.now c.args.answer.text c.in-Ok.both.0 e (c.as_bytes-text.ensures.value ∙ c.as_str.ensures)
          (if_ok (λ (b : Bool). (b ≡ true) ↔ IsConfirmed T d n (n - f) c.as_bytes-text.result.now) c.is_confirmed-outcome.result c.in-Ok.both.0 c.in-Ok.ensures.0 c.is_confirmed-outcome.ensures.found)
          c.if-not-found.false,
    )
