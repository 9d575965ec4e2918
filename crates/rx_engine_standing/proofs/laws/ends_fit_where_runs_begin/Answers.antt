use Rattle.std.proofs.Common.{◌≡◌, ℕ, length, ◌∙◌}
use Rattle.rx_typed.specs.Naming.{of_optional, of_statements}
use Rattle.rx_hoist_extraction.specs.Run.{as_statements}
use Rattle.rx_hoist_extraction.specs.Extraction.{added}
use Rattle.rx_hoist_extraction.specs.Values.{next_values}
use Rattle.rx_engine_names.specs.Extractions.{handing_there}
use Rattle.rx_engine_names.specs.HandsOver.{at_place}
use Rattle.rx_engine_names.specs.Insertion.{past}
use Rattle.rx_engine_blocks.specs.Renumbering.{node_at}
use Rattle.rx_engine_holes.specs.Entries as entries
use Rattle.rx_engine_changed.specs.Spots.{spot}
use Rattle.rx_engine_standing.specs.TwoPrograms as two
use Rattle.rx_engine_standing.proofs.Ending.{has_no_tail}
use Rattle.rx_engine_standing.proofs.laws.ends_fit_where_runs_begin.Goals as goal

pub returns : goal.returns
returns c = λ p r pl bs t N R follows items g I J front run call tail other place x o d d' made step front_there n span b s binds few A begins block stands met end gives.
    let same : (n : ℕ) → N.by.items n ≡ past r.item (added pl) n = λ n. follows.items n ∙ items n in
    let E = two.of_extraction t in let f = N.by.items r.item in let H = handing_there r pl g in let G = at_place H s.text.middle.scope place.around in
    let S = of_statements (as_statements call) d' in let O = of_optional n.site other S.1 in let B = entries.of_text N.by N.back A in let m = node_at N.by n span in
    let declared = c.new_items_declare_what_calls_ask.ensures.declared p r pl bs t N.by same g s.text.middle.scope place.around in
    let agrees = c.new_items_declare_what_calls_ask.ensures.next r pl g s.text.middle.scope place.around t.fits.exits in
    let known = c.new_items_declare_what_calls_ask.ensures.known p r pl bs t N.by same in
    let there = c.calls_stand_where_runs_begin.ensures (two.of_text t) E N known R follows made d d' step front_there t.most G t.fits A begins (spot O.1) few in
    let last = c.ends_stand_by_the_text.ensures (two.of_text t) A r.item n span b x S.0 block o O.0 stands met end (next_values pl) gives (has_no_tail s.told.1) E N.by N.back in
    let fits = c.what_stands_for_an_end_fits.ensures E f N.by G R declared agrees follows.items B m b (as_statements call) other d' (length s.made.middle.tables.vars) s.told.0.0 there s.told.0.2 s.told.1 last in
    (fits.0, fits.1, c.variables_of_an_end_stand.ensures E f N R H I J front run call tail other place x o d' n.site s binds A B m b fits.0 fits.1)
