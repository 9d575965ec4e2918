use Rattle.rx_engine_blocks.specs.Along.{none_viewed}
use Rattle.rx_engine_blocks.specs.Blocks.{none_behind}
use Rattle.rx_engine_typing.specs.Renumbered.{no_holes}
use Rattle.rx_engine_holes.specs.Special.{special_holes}
use Rattle.rx_engine_changed.proofs.CalledFunctions.{called_beside}
use Rattle.rx_engine_changed.proofs.laws.functions_with_a_call_are_renumbered.Goals as goal

pub returns-clause-standing : goal.returns-clause-standing
returns-clause-standing c p q n m s f r pl G stands R apart ns ms e past goes_on h u = called_beside p q n m s f r pl G stands R apart ns ms e (λ q. no_holes) (λ q. tt) past goes_on h u

pub returns-clause-asking : goal.returns-clause-asking
returns-clause-asking c A W p q n m s f r pl G stands R apart ns ms e past goes_on h u = called_beside p q n m s f r pl G stands R apart ns ms e (λ q. special_holes q.by q.back none_viewed none_behind A W) (λ q. tt) past goes_on h u
