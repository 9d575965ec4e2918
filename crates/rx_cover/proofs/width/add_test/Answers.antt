use Rattle.std.proofs.Common.{◌∙◌, refl, ap, map, arith}
use Rattle.rx_cover.specs.PlainCells.{plain-Head}
use Rattle.rx_cover.specs.PlainTested.{plain-Tested}
use Rattle.rx_cover.specs.Width.{place_of}
use Rattle.rx_cover.proofs.WidthLemmas.{there_if, new_if}
use Rattle.rx_cover.proofs.width.add_test.Goals as goal

pub returns-then-at-len : goal.returns-then-at-len
returns-then-at-len c =
    there_if c.args.table.now.items c.args.path.now (plain-Head c.args.head) c.place_of-at.result c.index_mut.result.now (record { path = c.index_mut.result.now.path; heads = c.add.new.heads }) c.add.result
    (c.place_of-at.ensures ∙ ap (λ l. place_of (map plain-Tested l) c.args.path.now) c.deref.ensures.value) (let e = c.len.ensures in omega (arith, e)) c.index_mut.ensures.value refl c.add.ensures

pub returns-else-at-len : goal.returns-else-at-len
returns-else-at-len c =
    new_if c.args.table.now.items c.args.path.now (plain-Head c.args.head) c.place_of-at.result (map plain-Tested c.add_position.new.table.items) c.add_position.result
    (c.place_of-at.ensures ∙ ap (λ l. place_of (map plain-Tested l) c.args.path.now) c.deref.ensures.value) (let e = c.len.ensures in omega (arith, e)) c.add_position.ensures
