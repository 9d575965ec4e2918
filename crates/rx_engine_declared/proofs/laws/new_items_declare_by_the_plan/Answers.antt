use Rattle.rx_engine_declared.proofs.Extractions.{function_declared_there, enum_declared_there}
use Rattle.rx_engine_declared.proofs.laws.new_items_declare_by_the_plan.Goals as goal

pub returns : goal.returns
returns c = λ p r pl bs s f t w N ns ms n m es e nodes variables. (
  function_declared_there p r pl bs s f t w nodes variables N ns ms es n m e.items,
  enum_declared_there p r pl bs s f t w nodes variables N ns ms es n m e.items,
)
