use Rattle.std.proofs.Common.{◌≡◌, ◌↔◌, true, sym, subst}
use Rattle.rx_typed.specs.PlainTypes.{declarations}
use Rattle.rx_typed_declarations.specs.Sizes.{told}
use Rattle.rx_lower_walks.specs.PlainFlow.{plain-Place}
use Rattle.rx_facts_tables.specs.Places.{Frame}
use Rattle.rx_facts_tables.specs.Layouts.{plain-Frame, IsLayout}
use Rattle.rx_facts_tables.specs.Answer.{IsInitTable}
use Rattle.rx_facts_tables.specs.Initialised.{MayBeSet}
use Rattle.rx_facts.specs.Functions.{sites_of, frame_of}
use Rattle.rx_check.proofs.ReaderLemmas.{some_found}
use Rattle.rx_check.proofs.front_end.FrontEnd.may_be_set.Goals as goal

pub may_be_set-requires-clause-layout : goal.may_be_set-requires-clause-layout
may_be_set-requires-clause-layout c = let f = some_found c.args.self.now.typed.functions c.args.function c.requires in
    subst (λ (F : Frame). IsLayout F c.init.result.now.layout) (sym (c.frame-frame.ensures.frame f.0 f.1)) (c.init.ensures f.0 f.1).layout

pub returns : goal.returns
returns c f is within = let same = c.frame-frame.ensures.frame f is in
    subst (λ (F : Frame). (c.may_be_set.result ≡ true) ↔ MayBeSet F (sites_of f) (plain-Place c.args.place.now) c.args.site) same
    (c.may_be_set.ensures (sites_of f) (subst (λ (F : Frame). IsInitTable F (sites_of f) c.init.result.now) (sym same) (c.init.ensures f is)) within)
