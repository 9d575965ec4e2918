use Rattle.std.proofs.Common.{◌≡◌, Some, ap, ap₂, ◌∙◌}
use Rattle.rx_tree.specs.declared.tree.Ident.{Ident}
use Rattle.rx_tree.specs.declared.tree.TypeText.{TypeText}
use Rattle.rx_tree.specs.Plain as plain
use Rattle.rx_tree.specs.Plain.{TypeTree}
use Rattle.rx_tree.specs.PlainOf.{plain-Program, plain-TypeText}
use Rattle.rx_typed.specs.PlainTypes.{plain-Ty}
use Rattle.rx_hoist_extraction.specs.Names.{Names}
use Rattle.rx_hoist_extraction.specs.Made.{ident}
use Rattle.rx_hoist_extraction.specs.WrittenTypes.{full}
use Rattle.rx_hoist_made.specs.Rows.{nth_name}
use Rattle.rx_hoist_made.proofs.Dropped.{held_ok, ok_map}
use Rattle.rx_hoist_made.proofs.RowLemmas.{full_behind}
use Rattle.rx_hoist_items.proofs.function.referred.Goals as goal

pub returns-clause-made : goal.returns-clause-made
returns-clause-made c =
    let P = plain-Program c.args.program.now in
    let s = c.args.span in
    let row = c.args.row.now in
    let m = c.args.mutable in
    let ty = plain-Ty c.args.ty.now in
    let lifetime : c.in_ok-inner.lifetime ≡ ident s (nth_name row 0) = c.in_ok-inner.ensures.1 ∙ c.in_ok-lifetime.ensures.name in
    let made : plain-TypeText c.in_ok-inner.inner ≡ full P s (nth_name c.next.new.self) 0 ty =
    held_ok (λ (it : TypeText). plain-TypeText it ≡ full P s (nth_name c.next.new.self) 0 ty) c.full.result c.in_ok-inner.inner
    c.full.ensures.made c.in_ok-inner.ensures.0 in
    let behind : plain-TypeText c.in_ok-inner.inner ≡ full P s (nth_name row) 1 ty =
    made ∙ ap (λ (r : Names). full P s (nth_name r) 0 ty) c.next.ensures.rest ∙ full_behind P s 1 row ty in
    let same : plain.ref_type s (Some c.in_ok-inner.lifetime) m (plain-TypeText c.in_ok-inner.inner)
    ≡ plain.ref_type s (Some (ident s (nth_name row 0))) m (full P s (nth_name row) 1 ty) =
    ap₂ (λ (i : Ident) (u : TypeTree). plain.ref_type s (Some i) m u) lifetime behind in
    ok_map (λ (it : TypeText). plain-TypeText it ≡ plain.ref_type s (Some c.in_ok-inner.lifetime) m (plain-TypeText c.in_ok-inner.inner))
    (λ (it : TypeText). plain-TypeText it ≡ plain.ref_type s (Some (ident s (nth_name row 0))) m (full P s (nth_name row) 1 ty))
    c.reference.result (λ it h. h ∙ same) c.reference.ensures
