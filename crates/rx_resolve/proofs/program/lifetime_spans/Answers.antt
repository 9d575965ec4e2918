use Rattle.std.proofs.Common.{ap, sym, ◌∙◌, map}
use Rattle.rx_tree.specs.declared.tree.Ident.{Ident}
use Rattle.rx_tree.specs.declared.tree.BoundLifetime.{BoundLifetime}
use Rattle.rx_tree.specs.PlainOf.{plain-ItemNode}
use Rattle.rx_resolve_names.specs.Meant.{lifetimes_declared}
use Rattle.rx_resolve.proofs.program.lifetime_spans.Goals as goal
use Rattle.rx_resolve.proofs.ItemLemmas.{lifetime_places, if_ok}

pub returns-in-Func : goal.returns-in-Func
returns-in-Func c = if_ok c.lifetime_spans_of.result (λ it h. h ∙ ap (map (λ (b : BoundLifetime). b.name.span)) c.as_slice-in-Func.ensures ∙ sym (lifetime_places c.in-Func.function.lifetimes)
    ∙ ap (λ n. map (λ (l : Ident). l.span) (lifetimes_declared (plain-ItemNode n c.args.item.now.span))) (sym c.in-Func.is)) c.lifetime_spans_of.ensures
