use Rattle.std.proofs.Common.{ℕ, sym, subst}
use Rattle.rx_hoist_extraction.specs.Extraction.{added}
use Rattle.rx_engine_names.specs.HandsOver.{at_place}
use Rattle.rx_engine_names.specs.Extractions.{handing_there}
use Rattle.rx_engine_names.specs.Insertion.{past}
use Rattle.rx_engine_blocks.specs.Knows.{Knows}
use Rattle.rx_engine_changed.specs.HandedTypes.{ItemsDeclare}
use Rattle.rx_engine_standing.specs.TwoPrograms as two
use Rattle.rx_engine_standing.proofs.Declaring.{items_declare}
use Rattle.rx_engine_standing.proofs.Values.{next_agrees}
use Rattle.rx_engine_standing.proofs.laws.new_items_declare_what_calls_ask.Goals as goal

pub returns-clause-declared : goal.returns-clause-declared
returns-clause-declared c = λ p r pl bs t q same g sc ls.
    let k = c.extractions_declare_what_stays.ensures.known p r pl bs t.place t.function t.there t.free t.names t.names' t.meant t.meant' t.declared t.declared' t.declares t.declares' t.sizes t.sizes' t.sized t.sized' q.nodes q.variables in
    let x = c.new_items_declare_by_the_plan.ensures p r pl bs t.place t.function t.there t.free t.named t.names t.names' t.meant t.meant' t.declared' t.declares' q.nodes q.variables in
    subst (λ (h : ℕ → ℕ). ItemsDeclare (two.of_extraction t) (record { nodes = q.nodes; variables = q.variables; items = h }) (at_place (handing_there r pl g) sc ls) (h r.item)) (λ i j. sym (same j) i)
    (items_declare p r pl g sc ls (record { nodes = q.nodes; variables = q.variables; items = past r.item (added pl) }) (two.of_text t) (two.of_extraction t) k t.most t.fits x.0 x.1 t.result)

pub returns-clause-next : goal.returns-clause-next
returns-clause-next c = λ r pl g sc ls d. next_agrees pl d

pub returns-clause-known : goal.returns-clause-known
returns-clause-known c = λ p r pl bs t q same.
    subst (λ (h : ℕ → ℕ). Knows (record { nodes = q.nodes; variables = q.variables; items = h }) (two.of_text t) (two.of_extraction t)) (λ i j. sym (same j) i)
    (c.extractions_declare_what_stays.ensures.known p r pl bs t.place t.function t.there t.free t.names t.names' t.meant t.meant' t.declared t.declared' t.declares t.declares' t.sizes t.sizes' t.sized t.sized' q.nodes q.variables)
