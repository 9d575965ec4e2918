use Rattle.std.proofs.Common.{[], ◌∷◌, ap, ◌∙◌}
use Rattle.rx_resolve_names.specs.Meant.{number, a_loop}
use Rattle.rx_resolve_names.specs.Steps.{with_loop}
use Rattle.rx_resolve.specs.Walks.{with_around, with_tables, around_from}
use Rattle.rx_resolve.proofs.walk.Walk.open_loop.Goals as goal
use Rattle.rx_core.proofs.Results.{ok_is}
use Rattle.rx_resolve.proofs.WalkLemmas.{opened}

pub returns : goal.returns
returns c =
    let o = opened c.args.self.now c.add_loop.new.self c.open.new.self _ _ (ok_is _ c.add_loop.new.self c.in_ok-add_loop.ensures) (ok_is _ c.open.new.self c.in_ok-open.ensures) in (
      o.0 ∙ (λ i. a_loop (c.as_ref-label.ensures.value i) ((c.number-number.ensures ∙ ap number c.len.ensures) i) ∷ around_from [] c.args.self.now.around),
      o.1,
      o.2 ∙ ap (λ p. with_around c.open.new.self.around (with_tables (with_loop (record { item = c.args.self.now.item; path = p }) c.args.self.now.tables) c.args.self.now)) (c.in-Ok.ensures ∙ c.as_slice.ensures),
    )
