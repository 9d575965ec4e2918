use Rattle.std.proofs.Common.{◌≡◌, Bool, true}
use Rattle.std.specs.Prelude.{◌↔◌}
use Rattle.rx_tree.specs.PlainOf.{plain-Program}
use Rattle.rx_engine_extraction.specs.Confirmed.{IsConfirmed}
use Rattle.rx_engine_extraction.specs.Confirming.{IsFoundIn}
use Rattle.rx_engine_extraction.specs.Deciding.{text_of, case_of}
use Rattle.rx_engine_extraction.proofs.Outcomes.{map_ok}
use Rattle.rx_engine_extraction.proofs.Comparing.{not_read_so, confirmed_so}
use Rattle.rx_engine_extraction.proofs.confirming.is_confirmed.Goals as goal

pub returns-in-Err-clause-found : goal.returns-in-Err-clause-found
returns-in-Err-clause-found c = let T = text_of c.args.given.now in
    (not_read_so T (case_of T c.args.decision.now) c.args.new_fn c.args.made c.args.text.now c.in-Err.fault c.in-Err.ensures.only c.of_syntax.result c.of_syntax.ensures).0

pub returns-clause-found : goal.returns-clause-found
returns-clause-found c = let T = text_of c.args.given.now in let d = case_of T c.args.decision.now in let q = plain-Program c.in-Ok.program in
    map_ok (λ (b : Bool). (b ≡ true) ↔ IsFoundIn T d c.args.new_fn c.args.made q) (λ (b : Bool). (b ≡ true) ↔ IsConfirmed T d c.args.new_fn c.args.made c.args.text.now)
    (λ b h. confirmed_so c.one_tree.ensures T d c.args.new_fn c.args.made c.args.text.now q c.in-Ok.ensures.found b h) c.is_extraction-outcome.result c.is_extraction-outcome.ensures.found
