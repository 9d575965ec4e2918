use Rattle.std.proofs.Common.{◌≡◌, ◌≤◌, ◌<◌, ℕ, Bool, None, sym, subst}
use Rattle.rx_typed.specs.Named.{some_diverges}
use Rattle.rx_typed.specs.Naming.{of_optional, of_statements}
use Rattle.rx_hoist_extraction.specs.Run.{as_statements}
use Rattle.rx_engine_blocks.specs.DemandsLike.{Is}
use Rattle.rx_engine_blocks.specs.DemandsLike.Is.{itself}
use Rattle.rx_engine_typing.specs.Renumbered.{no_holes, RenumberedFunction}
use Rattle.rx_engine_changed.specs.Beside.{behind_own, first_own, Instead}
use Rattle.rx_engine_changed.specs.Round.{with_others}
use Rattle.rx_engine_changed.specs.Spots.{spot}
use Rattle.rx_engine_changed.proofs.Inside.{end_inside, inside_apart, statements_inside}
use Rattle.rx_engine_changed.proofs.Spots.{optional_numbered, statements_numbered}
use Rattle.rx_engine_changed.proofs.laws.functions_with_a_call_that_fits_are_valid.Goals as goal

same : {a b : Bool} → b ≡ a → Is a b
same {a} {b} e = subst (λ (z : Bool). Is a z) (sym e) itself

pub returns-clause-within : goal.returns-clause-within
returns-clause-within c R run call f g x D E k A ordered valid fixes made fits stand =
    let q = x.numbers.by in let w = x.numbers.back in let a = x.such.cursor' in let S = of_statements (as_statements call) a in
    c.functions_with_statements_that_fit_are_valid.ensures q w D E k A x.numbers.loops (of_statements (as_statements run) x.such.cursor).0 S.0 (same x.such.diverges) f g
    (subst (λ (i : Instead). RenumberedFunction q x.numbers.loops (with_others q x.numbers.loops no_holes i) f g) x.such.is x.like) ordered valid fixes made fits
    (inside_apart q w A (spot a) (spot S.1) made (subst (λ (i : Instead). (k : ℕ) → first_own i ≤ k → k < behind_own i → w.node k ≡ None) x.such.is x.own)
    (statements_inside E (q.items f.item) fits (spot a) (spot S.1) (statements_numbered (as_statements call) a)).1 stand)

pub returns-clause-at_the_end : goal.returns-clause-at_the_end
returns-clause-at_the_end c R run call o l f g x D E k A ordered valid fixes made fits stand =
    let q = x.numbers.by in let w = x.numbers.back in let y = x.such in let a = y.cursor' in let S = of_statements (as_statements call) a in let O = of_optional y.site l S.1 in
    c.functions_with_ends_that_fit_are_valid.ensures q w D E k A x.numbers.loops y.node y.node.span (some_diverges y.front)
    (of_statements (as_statements run) y.cursor).0 (of_optional y.site o (of_statements (as_statements run) y.cursor).1).0 S.0 O.0
    (same y.ends.0) (same (y.ends.1 (some_diverges y.front))) f g
    (subst (λ (i : Instead). RenumberedFunction q x.numbers.loops (with_others q x.numbers.loops no_holes i) f g) y.is x.like) ordered valid fixes made fits
    (inside_apart q w A (spot a) (spot O.1) made (subst (λ (i : Instead). (k : ℕ) → first_own i ≤ k → k < behind_own i → w.node k ≡ None) y.is x.own)
    (end_inside E (q.items f.item) fits (spot a) (spot S.1) (spot O.1) y.site (statements_numbered (as_statements call) a) (optional_numbered l y.site S.1)) stand)
