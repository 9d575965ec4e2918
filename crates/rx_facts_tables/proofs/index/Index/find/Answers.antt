use Rattle.std.proofs.Common.{ℕ, List, [], refl, subst, ap, ◌∙◌, ◌≤◌, length}
use Rattle.rx_graph.specs.Facts.{targets}
use Rattle.rx_facts_tables.proofs.Numbering.{found_in, none_in}
use Rattle.rx_facts_tables.proofs.index.Index.find.Goals as goal

pub returns-in-Some : goal.returns-in-Some
returns-in-Some c = found_in c.args.self.now.roots c.as_slice.result.now c.args.self.now.buckets.items c.args.root c.key.result c.in-Some.numbers.now c.in-Some.numbers.now c.among_few.result
    c.requires.stands c.as_slice.ensures c.key.ensures (c.in-Some.ensures.lookup.3.1 [] ∙ ap (λ (T : List (List ℕ)). targets T c.key.result) c.deref.ensures.value) refl c.among_few.ensures

pub returns-in-None : goal.returns-in-None
returns-in-None c = none_in c.args.self.now.roots c.args.self.now.buckets.items c.args.root c.key.result c.requires.stands c.key.ensures
    (subst (λ (T : List (List ℕ)). length T ≤ c.key.result) c.deref.ensures.value c.in-None.ensures.lookup.3)
