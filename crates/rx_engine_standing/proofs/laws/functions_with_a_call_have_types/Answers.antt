use Rattle.std.proofs.Common.{◌≡◌, ℕ, sym, ◌∙◌, subst}
use Rattle.rx_typed.specs.declared.nodes.Site.{Site}
use Rattle.rx_typed.specs.Named.{some_diverges}
use Rattle.rx_typed.specs.Naming.{of_optional, of_statements}
use Rattle.rx_hoist_extraction.specs.Run.{as_statements}
use Rattle.rx_hoist_extraction.specs.Extraction.{added}
use Rattle.rx_engine_names.specs.Insertion.{past}
use Rattle.rx_engine_blocks.specs.Renumbering.{node_at}
use Rattle.rx_engine_holes.specs.CallFits.{EndFits, StatementsFit}
use Rattle.rx_engine_holes.specs.Entries as entries
use Rattle.rx_engine_changed.specs.Round.{SameEnd}
use Rattle.rx_engine_standing.specs.TwoPrograms as two
use Rattle.rx_engine_standing.proofs.laws.functions_with_a_call_have_types.Goals as goal

pub returns-clause-within : goal.returns-clause-within
returns-clause-within c = λ p r pl bs t R items run call f g item x ordered A valid fixes in_front h I J front place s begins binds.
    let N = x.numbers in let E = two.of_extraction t in
    let same : (n : ℕ) → N.by.items n ≡ past r.item (added pl) n = λ n. x.follows.items n ∙ items n in
    let known = c.new_items_declare_what_calls_ask.ensures.known p r pl bs t N.by same in
    let S = of_statements (as_statements call) x.such.cursor' in let B = entries.of_text N.by N.back A in
    let fits = c.calls_fit_where_runs_begin.ensures p r pl bs t N R x.follows items h I J front run call place (of_statements (as_statements run) x.such.cursor).0 x.such.cursor x.such.cursor' x.made x.such.step in_front s A begins binds in
    (_, c.functions_with_a_call_that_fits_are_valid.ensures.within R run call f g x (two.of_text t) E known A ordered valid fixes fits.0 (subst (λ (n : ℕ). StatementsFit E (N.by.items n) B S.0 fits.0) (sym item) fits.1) fits.2)

pub returns-clause-at_the_end : goal.returns-clause-at_the_end
returns-clause-at_the_end c = λ p r pl bs t R items run call o l f g item x site ordered A valid fixes in_front h I J front place s binds few begins block stands met gives.
    let N = x.numbers in let E = two.of_extraction t in let y = x.such in let n = y.node in
    let same : (n : ℕ) → N.by.items n ≡ past r.item (added pl) n = λ n. x.follows.items n ∙ items n in
    let known = c.new_items_declare_what_calls_ask.ensures.known p r pl bs t N.by same in
    let S = of_statements (as_statements call) y.cursor' in let T = of_statements (as_statements run) y.cursor in let B = entries.of_text N.by N.back A in
    let end = subst (λ (z : Site). SameEnd T.0 (of_optional z o T.1).0 S.0 (of_optional z l S.1).0) (sym site) y.ends in
    let fits = c.ends_fit_where_runs_begin.ensures p r pl bs t N R x.follows items h I J front run call o l place T.0 (of_optional n.site o T.1).0 y.cursor y.cursor' x.made y.step in_front n n.span (some_diverges y.front) s binds few A begins block stands met end gives in
    let there = subst (λ (z : Site). EndFits E (N.by.items f.item) B (node_at N.by n n.span) (some_diverges y.front) S.0 (of_optional z l S.1).0 fits.0) site
    (subst (λ (k : ℕ). EndFits E (N.by.items k) B (node_at N.by n n.span) (some_diverges y.front) S.0 (of_optional n.site l S.1).0 fits.0) (sym item) fits.1) in
    (_, c.functions_with_a_call_that_fits_are_valid.ensures.at_the_end R run call o l f g x (two.of_text t) E known A ordered valid fixes fits.0 there fits.2)
