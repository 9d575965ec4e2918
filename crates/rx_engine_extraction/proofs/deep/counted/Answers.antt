use Rattle.std.proofs.Common.{◌≡◌, ℕ, ◌≤◌, Option, None, sym, subst}
use Rattle.std.specs.Prelude.{◌≢◌}
use Rattle.rx_parse.specs.Answer.{HasLevels, most_counted}
use Rattle.rx_parse.specs.declared.fault.SyntaxFault.TheVariants as faults
use Rattle.rx_engine_extraction.specs.Levels.{IsCounted}
use Rattle.rx_engine_extraction.proofs.Outcomes.{map_ok}
use Rattle.rx_engine_extraction.proofs.deep.counted.Goals as goal

pub returns-in-Ok : goal.returns-in-Ok
returns-in-Ok c = let n = c.in-Ok.count in subst (λ b. HasLevels b n × (n ≤ most_counted)) c.as_bytes.ensures.value c.in-Ok.ensures.found

pub returns-in-Err : goal.returns-in-Err
returns-in-Err c = let text = c.args.text.now in
    map_ok (λ (o : Option ℕ). (o ≡ None) × (c.in-Err.fault ≢ faults.OutOfMemory)) (λ (o : Option ℕ). IsCounted text o)
    (λ o h. subst (λ (q : Option ℕ). IsCounted text q) (sym h.0)
    (λ n x low. h.1 (c.in-Err.ensures.only n (subst (λ b. HasLevels b n) (sym c.as_bytes.ensures.value) x) low)))
    c.not_counted.result c.not_counted.ensures
