-- Each part of a call that is found is as the extraction has it: the parts that the law of a block with the run asks for.
use Rattle.std.proofs.Common.{◌≡◌, ℕ, Some, subst}
use Rattle.rx_exits_plan.specs.Points.{next}
use Rattle.rx_exits_plan.specs.Asked.{Asked}
use Rattle.rx_engine_simulation.specs.Sights.{In, special, sight, Renaming, sight_of}
use Rattle.rx_engine_related.specs.AboutRun.{special_of}
use Rattle.rx_engine_related.specs.Premises.{NotHanded}
use Rattle.rx_engine_extracted.specs.Told.{Told, specials_among, without}
use Rattle.rx_engine_alike_laws.proofs.Promised.{Says, so}
use Rattle.rx_engine_validated.proofs.ExtractedLawsParts.{Parts}
use Rattle.rx_engine_validated.proofs.Seeing.{specials_among_so, without_within, not_there}
use Rattle.rx_engine_validated.proofs.Entering.{enters_so}
use Rattle.rx_engine_validated.proofs.Handing.{hands_so, declares_so, within_so}
use Rattle.rx_engine_validated.proofs.Calls.{calls_so}

module _ (A : Asked) (T : Told) (elsewhere : T.elsewhere ≡ special_of A T.muts T.plan) where
  pub not_handed_so : (R : Renaming) → Says (NotHanded A T.muts T.plan next (without (T.plan.outs next) R)) (specials_among R T.elsewhere)
  not_handed_so R = so (λ f x y s. by f x y s) (specials_among_so R T.elsewhere)
    where
      by : ((x y : ℕ) → sight_of R x ≡ Some (sight y special) → In x T.elsewhere) → NotHanded A T.muts T.plan next (without (T.plan.outs next) R)
      by f x y s = (subst (λ l. In x l) elsewhere (f x y (without_within (T.plan.outs next) R x (sight y special) s)), not_there (T.plan.outs next) R x s)

  pub found_parts : Parts A T
  found_parts = record {
    enters = λ R es b. enters_so T R es b;
    hands = λ R Rs outs b. hands_so A T R Rs outs b;
    declares = λ Rb Rc xs b. declares_so Rb Rc xs b;
    calls = λ J R e. calls_so A T elsewhere J R e;
    within = λ R S. within_so R S;
    less = λ xs R. without_within xs R;
    not_handed = not_handed_so;
  }
