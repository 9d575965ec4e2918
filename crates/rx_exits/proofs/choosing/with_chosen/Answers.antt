use Rattle.std.proofs.Common.{refl}
use Rattle.rx_exits.specs.Choosing.{added, passed}
use Rattle.rx_exits.proofs.Listing.{if_ok}
use Rattle.rx_exits.proofs.ReachingLemmas.{not_so}
use Rattle.rx_exits.proofs.choosing.with_chosen.Goals as goal

pub returns-then-is_chosen : goal.returns-then-is_chosen
returns-then-is_chosen c = if_ok _ _ c.pushed.result (λ l h A ps of. added ((c.is_chosen.ensures A ps of).0 c.if-is_chosen.true) h) c.pushed.ensures

pub returns-else-is_chosen : goal.returns-else-is_chosen
returns-else-is_chosen c A ps of = passed (not_so _ _ c.if-is_chosen.false (c.is_chosen.ensures A ps of)) refl
