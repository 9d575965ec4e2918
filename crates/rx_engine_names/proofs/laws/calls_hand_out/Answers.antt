use Rattle.rx_engine_names.specs.Insertion.{number_there}
use Rattle.rx_engine_names.proofs.KeptItems.{inserted_keeps, keeps_fits}
use Rattle.rx_engine_names.proofs.FoundTypes.{all_find}
use Rattle.rx_engine_names.proofs.HandingsOver.{handing_over, hands_over}
use Rattle.rx_engine_names.proofs.MadeJumps.{made_jump_leads}
use Rattle.rx_engine_names.proofs.BoundByCalls.{bound_by_call}
use Rattle.rx_engine_names.proofs.laws.calls_hand_out.Goals as goal

pub returns : goal.returns
returns c = record {
  over = λ p q k ts e a b ls g scope around made h types_named last at i u.
      handing_over (number_there k) p (record { program = p; item = a; lifetimes = ls }) (record { program = q; item = b; lifetimes = ls }) (keeps_fits (number_there k) p q (inserted_keeps p q k) a b ls) g scope around made h
      (all_find p ts e a ls g.call.plan.redeclared types_named) last at i u;
  meant = λ g inside scope around made meet loops h. hands_over g inside scope around made meet loops h;
  jumps = made_jump_leads;
  bound = bound_by_call;
}
