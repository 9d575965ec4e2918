use Rattle.std.proofs.Common.{◌+◌, ◌∷◌, sym, ap, ◌∙◌, drop, map}
use Rattle.std.proofs.lemmas.Result.{IfOk-weaker}
use Rattle.rx_typeck_solver.specs.Cells.{term}
use Rattle.rx_typeck_solver.proofs.ListReads.{drop_read}
use Rattle.rx_typeck_solver.proofs.Growth.{grown_by, grown_as, grown_after, grown_over, grown_term, formable_after, closed_integer, closed_boolean, closed_tuple, closed_shared, closed_mut, closed_item, before_more}
use Rattle.rx_typed.specs.PlainTypes.{plain-Ty}
use Rattle.rx_typeck_solver.specs.Growing.{closed}
use Rattle.rx_typeck_solver.proofs.import.+import.Goals as goal

pub import-tuple_of-requires-clause-formed : goal.import-tuple_of-requires-clause-formed
import-tuple_of-requires-clause-formed t c = formable_after c.args.sizes.now c.args.arena.now.entries.items c.import_all.new.arena.entries.items c.requires.formed c.in-Ok.ensures.grows

pub import-returns-in-Int : goal.import-returns-in-Int
import-returns-in-Int t c = IfOk-weaker c.fixed.result _ _ (λ i h. grown_as c.args.sizes.now c.args.arena.now.entries.items c.fixed.new.self.entries.items i _ _ (grown_by c.args.sizes.now c.args.arena.now.entries.items c.fixed.new.self.entries.items i _ c.requires.formed c.requires.sized (h c.args.sizes.now)) (closed_integer c.args.ty.now c.in-Int.kind c.in-Int.is)) c.fixed.ensures

pub import-returns-in-Bool : goal.import-returns-in-Bool
import-returns-in-Bool t c = IfOk-weaker c.boolean.result _ _ (λ i h. grown_as c.args.sizes.now c.args.arena.now.entries.items c.boolean.new.self.entries.items i _ _ (grown_by c.args.sizes.now c.args.arena.now.entries.items c.boolean.new.self.entries.items i _ c.requires.formed c.requires.sized (h c.args.sizes.now)) (closed_boolean c.args.ty.now c.in-Bool.is)) c.boolean.ensures

pub import-returns-in-Adt : goal.import-returns-in-Adt
import-returns-in-Adt t c = IfOk-weaker c.named.result _ _ (λ i h. grown_as c.args.sizes.now c.args.arena.now.entries.items c.named.new.self.entries.items i _ _ (grown_by c.args.sizes.now c.args.arena.now.entries.items c.named.new.self.entries.items i _ c.requires.formed c.requires.sized h) (closed_item c.args.ty.now c.in-Adt.item _ c.in-Adt.is)) c.named.ensures

pub import-returns-in-Ok : goal.import-returns-in-Ok
import-returns-in-Ok t c = IfOk-weaker c.tuple_of.result _ _ (λ i h. grown_after c.args.sizes.now c.args.arena.now.entries.items c.import_all.new.arena.entries.items c.tuple_of.new.arena.entries.items i _ _ c.in-Ok.ensures.grows h (closed_tuple c.args.ty.now _ _ c.in-Tuple.is (ap (map (term c.import_all.new.arena.entries.items)) c.deref.ensures.value ∙ c.in-Ok.ensures.are))) c.tuple_of.ensures

pub import-returns-in-Ok-import : goal.import-returns-in-Ok-import
import-returns-in-Ok-import t c = IfOk-weaker c.reference.result _ _ (λ i h. let l = grown_term c.args.sizes.now c.args.arena.now.entries.items c.import.new.arena.entries.items c.in-Ok-import.to _ c.in-Ok-import.ensures in
    grown_over c.args.sizes.now c.args.arena.now.entries.items c.import.new.arena.entries.items c.reference.new.self.entries.items i c.in-Ok-import.to _ _ _ c.requires.formed c.in-Ok-import.ensures (λ n b. h c.args.sizes.now n l.0 b) (closed_shared c.args.ty.now _ c.in-Shared.field-0 _ c.in-Shared.is (l.1 ∙ ap (λ u. closed (plain-Ty u)) c.get.ensures))) c.reference.ensures

pub import-returns-in-Ok-import-2 : goal.import-returns-in-Ok-import-2
import-returns-in-Ok-import-2 t c = IfOk-weaker c.reference-in-Ok-import-2.result _ _ (λ i h. let l = grown_term c.args.sizes.now c.args.arena.now.entries.items c.import-in-Mut.new.arena.entries.items c.in-Ok-import-2.to _ c.in-Ok-import-2.ensures in
    grown_over c.args.sizes.now c.args.arena.now.entries.items c.import-in-Mut.new.arena.entries.items c.reference-in-Ok-import-2.new.self.entries.items i c.in-Ok-import-2.to _ _ _ c.requires.formed c.in-Ok-import-2.ensures (λ n b. h c.args.sizes.now n l.0 b) (closed_mut c.args.ty.now _ c.in-Mut.field-0 _ c.in-Mut.is (l.1 ∙ ap (λ u. closed (plain-Ty u)) c.get-in-Mut.ensures))) c.reference-in-Ok-import-2.ensures

pub import_all-loop-ty-preserved : goal.import_all-loop-ty-preserved
import_all-loop-ty-preserved t c = let f = formable_after c.args.sizes.now c.loop-ty.arena.entries.items c.import.new.arena.entries.items c.loop-ty.invariant.0 c.in-Ok.ensures.grows in (f, c.in-Ok.ensures.grows.sized, before_more c.args.sizes.now c.args.arena.now.entries.items c.loop-ty.arena.entries.items c.import.new.arena.entries.items c.loop-ty.entries.items c.push.new.self.items c.in-Ok.entry _ _ c.ty-item.result _ c.loop-ty.invariant.2 c.in-Ok.ensures c.in-Ok-push.ensures.items (drop_read c.as_slice-ty-items.result.now c.args.all.now c.loop-ty.ty-index c.ty-item.result c.as_slice-ty-items.ensures c.loop-ty-test.true ∙ ap (λ x. x ∷ drop (c.loop-ty.ty-index + 1) c.args.all.now) (sym c.ty-item.is)))
