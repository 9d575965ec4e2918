use Rattle.std.proofs.Common.{◌≡◌, ◌+◌, List, Some, map, drop, ap, ap₂, sym, ◌∙◌}
use Rattle.rx_core.specs.declared.types.Ty.{Ty}
use Rattle.rx_tree.specs.declared.tree.Ident.{Ident}
use Rattle.rx_tree.specs.declared.tree.TypeText.{TypeText}
use Rattle.rx_tree.specs.Plain as plain
use Rattle.rx_tree.specs.Plain.{TypeTree}
use Rattle.rx_tree.specs.PlainOf.{plain-Program, plain-TypeText}
use Rattle.rx_typed.specs.PlainTypes.{plain-Ty}
use Rattle.rx_hoist_extraction.specs.Names.{Names}
use Rattle.rx_hoist_extraction.specs.Made.{ident}
use Rattle.rx_hoist_extraction.specs.WrittenTypes.{full, positions, positions_of}
use Rattle.rx_hoist_made.specs.Rows.{fulls, nth_name}
use Rattle.rx_hoist_made.proofs.Dropped.{drop_is, held_ok, mapped_on, ok_map, on_ok}
use Rattle.rx_hoist_made.proofs.RowLemmas.{full_behind, next_rest, next_typ}
use Rattle.rx_hoist_made.proofs.written_types.+full.Goals as goal

pub full_all-loop-part-preserved : goal.full_all-loop-part-preserved
full_all-loop-part-preserved t c =
    let P = plain-Program c.args.program.now in
    let row = c.loop-part.row in
    let more = c.full.new.row in
    let ty = plain-Ty c.part-item.result in
    let left = map plain-Ty (drop (c.loop-part.part-index + 1) c.args.parts.now) in
    let cut = drop_is c.args.parts.now c.loop-part.part-index c.part-item.result c.loop-part-test.true c.part-item.is in
    let moved : more ≡ drop (positions P ty) row = on_ok _ c.full.result c.in_ok-next.next c.full.ensures.rest c.in_ok-next.ensures.0 in
    let made : plain-TypeText c.in_ok-next.next ≡ full P c.args.span (nth_name row) 0 ty =
    held_ok (λ (it : TypeText). plain-TypeText it ≡ full P c.args.span (nth_name row) 0 ty) c.full.result c.in_ok-next.next c.full.ensures.made c.in_ok-next.ensures.0 in
    record {
      made = mapped_on plain-TypeText c.loop-part.all c.in_ok-next.held c.in_ok-all.all c.in_ok-next.next (full P c.args.span (nth_name row) 0 ty)
          (fulls P c.args.span (nth_name row) 0 (map plain-Ty (drop c.loop-part.part-index c.args.parts.now)))
          (fulls P c.args.span (nth_name more) 0 left) _ c.loop-part.invariant.made
          (ap (λ (ts : List Ty). fulls P c.args.span (nth_name row) 0 (map plain-Ty ts)) cut ∙ next_typ P c.args.span row more ty left moved)
          c.in_ok-next.ensures.1 made c.in_ok-all.ensures;
      rest = sym (ap (λ (ts : List Ty). drop (positions_of P (map plain-Ty ts)) row) cut ∙ next_rest P row more ty left moved) ∙ c.loop-part.invariant.rest;
    }

pub full_reference-returns-clause-made : goal.full_reference-returns-clause-made
full_reference-returns-clause-made t c =
    let P = plain-Program c.args.program.now in
    let s = c.args.span in
    let row = c.args.row.now in
    let m = c.args.mutable in
    let ty = plain-Ty c.args.inner.now in
    let lifetime : c.in_ok-inner.lifetime ≡ ident s (nth_name row 0) = c.in_ok-inner.ensures.1 ∙ c.in_ok-lifetime.ensures.name in
    let made : plain-TypeText c.in_ok-inner.inner ≡ full P s (nth_name c.next.new.self) 0 (plain-Ty c.get.result.now) =
    held_ok (λ (it : TypeText). plain-TypeText it ≡ full P s (nth_name c.next.new.self) 0 (plain-Ty c.get.result.now)) c.full.result c.in_ok-inner.inner
    c.full.ensures.made c.in_ok-inner.ensures.0 in
    let behind : plain-TypeText c.in_ok-inner.inner ≡ full P s (nth_name row) 1 ty =
    made ∙ ap (λ (r : Names). full P s (nth_name r) 0 (plain-Ty c.get.result.now)) c.next.ensures.rest
    ∙ ap (λ (u : Ty). full P s (nth_name (drop 1 row)) 0 (plain-Ty u)) c.get.ensures ∙ full_behind P s 1 row ty in
    let same : plain.ref_type s (Some c.in_ok-inner.lifetime) m (plain-TypeText c.in_ok-inner.inner)
    ≡ plain.ref_type s (Some (ident s (nth_name row 0))) m (full P s (nth_name row) 1 ty) =
    ap₂ (λ (i : Ident) (u : TypeTree). plain.ref_type s (Some i) m u) lifetime behind in
    ok_map (λ (it : TypeText). plain-TypeText it ≡ plain.ref_type s (Some c.in_ok-inner.lifetime) m (plain-TypeText c.in_ok-inner.inner))
    (λ (it : TypeText). plain-TypeText it ≡ plain.ref_type s (Some (ident s (nth_name row 0))) m (full P s (nth_name row) 1 ty))
    c.reference.result (λ it h. h ∙ same) c.reference.ensures
