use Rattle.std.proofs.Common.{◌≡◌, ◌+◌, ◌-◌, ℕ, suc, List, Option, ◌∷◌, Some, map, drop, ap, sym, ◌∙◌, arith}
use Rattle.rx_tree.specs.declared.tree.Ident.{Ident}
use Rattle.rx_hoist_extraction.specs.Names.{Names}
use Rattle.rx_hoist_extraction.specs.Made.{ident}
use Rattle.rx_hoist_extraction.specs.WrittenTypes.{lifetimes_from}
use Rattle.rx_hoist_made.specs.Rows.{nth_name}
use Rattle.rx_hoist_made.proofs.Dropped.{held_ok, pushed_on}
use Rattle.rx_hoist_made.proofs.RowLemmas.{drop_drop, next_lifetime}
use Rattle.rx_hoist_made.proofs.written_types.next_lifetimes.Goals as goal

abbrev written : List Ident → List (Option Ident)
written ls = map (λ l. Some l) ls

pub loop-turn-preserved : goal.loop-turn-preserved
loop-turn-preserved c =
    let s = c.args.span in
    let row = c.loop-turn.row in
    let more = c.next.new.self in
    let left = c.args.many - (c.loop-turn._turn + 1) in
    let one : c.args.many - c.loop-turn._turn ≡ suc left = omega (arith, c.loop-turn-test.true) in
    let made : c.in_ok-next.next ≡ ident s (nth_name row 0) =
    held_ok (λ (it : Ident). it ≡ ident s (nth_name row 0)) c.next.result c.in_ok-next.next c.next.ensures.name c.in_ok-next.ensures.0 in
    let further : 1 + left ≡ suc left = omega arith in
    record {
      names = pushed_on c.loop-turn.all c.in_ok-next.held c.in_ok-all.all (Some c.in_ok-next.next) (Some (ident s (nth_name row 0)))
          (written (lifetimes_from s (nth_name row) 0 (c.args.many - c.loop-turn._turn))) (written (lifetimes_from s (nth_name more) 0 left)) _
          c.loop-turn.invariant.names
          (ap (λ (n : ℕ). written (lifetimes_from s (nth_name row) 0 n)) one ∙ ap written (next_lifetime s row left)
          ∙ ap (λ (r : Names). Some (ident s (nth_name row 0)) ∷ written (lifetimes_from s (nth_name r) 0 left)) (sym c.next.ensures.rest))
          c.in_ok-next.ensures.1 (ap (λ (i : Ident). Some i) made) c.in_ok-all.ensures;
      rest = ap (drop left) c.next.ensures.rest ∙ sym (drop_drop 1 left row) ∙ ap (λ n. drop n row) (further ∙ sym one) ∙ c.loop-turn.invariant.rest;
    }
