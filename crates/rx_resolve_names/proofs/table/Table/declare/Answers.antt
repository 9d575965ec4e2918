use Rattle.std.proofs.Common.{sym, ap, ◌∙◌, ◌++◌, ◌∷◌, []}
use Rattle.rx_resolve_names.specs.Scopes.{declared_as}
use Rattle.rx_resolve_names.specs.Tables.{declared_of}
use Rattle.rx_resolve_names.proofs.table.Table.declare.Goals as goal
use Rattle.rx_resolve_names.proofs.Lookups.{lookup_declared, declared_push}
use Rattle.indexmap.proofs.CallerLemmas.{insert_entry-new}

pub returns-in_ok-insert-in-None : goal.returns-in_ok-insert-in-None
returns-in_ok-insert-in-None c =
    let absent = sym c.in-None.is ∙ c.get.ensures in
    let names = c.self.inside.names in
    let gone = lookup_declared (λ n. n.now) c.args.name.now names.entries ∙ ap (λ l. declared_as l c.args.name.now) c.self.view_is ∙ sym absent in
    (absent, ap (declared_of (λ n. n.now)) (c.in_ok-insert-in-None.ensures.entries ∙ insert_entry-new _ names c.args.name c.args.known gone) ∙ declared_push (λ n. n.now) names.entries c.args.name c.args.known ∙ ap (λ l. l ++ (c.args.name.now, c.args.known) ∷ []) c.self.view_is)
