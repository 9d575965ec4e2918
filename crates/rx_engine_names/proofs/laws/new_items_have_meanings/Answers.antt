use Rattle.rx_engine_names.proofs.NewPrograms.{new_items_resolve}
use Rattle.rx_engine_names.proofs.laws.new_items_have_meanings.Goals as goal

pub returns : goal.returns
returns c = λ p r plan bounds s f there free loops scope round names ts whole a ls at i t m comes at' t' ends within inside.
    new_items_resolve p r plan bounds s f there free loops scope round names ts whole a ls at i t m comes at' t' ends within inside
