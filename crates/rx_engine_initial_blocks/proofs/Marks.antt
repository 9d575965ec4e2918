-- A mark is `()` made as a tuple: no tree of a text is, nor is one that is changed inside of a run, and what is alike one is one.
use Rattle.std.proofs.Common.{◌≡◌, ℕ, Bool, true, false, if◌then◌else◌, List, refl, sym, true≢false}
use Rattle.rx_typed.specs.Tree as tree
use Rattle.rx_typed.specs.Tree.{Mark, Temporary, Making, Operands, Exp}
use Rattle.rx_lower_walks.specs.Orders as order
use Rattle.rx_exits_plan.specs.Points.{jump_exit, leaves}
use Rattle.rx_exits_plan.specs.Changed.{changed, changed_all}
use Rattle.rx_exits_plan.specs.Marked.{mark_then, is_among}
use Rattle.rx_exits_plan.specs.Asked.{Asked}
use Rattle.rx_exits_plan.specs.Plan.{Plan}
use Rattle.rx_modes_policy.specs.declared.uses.Mode.{Mode}
use Rattle.rx_engine_simulation.specs.Turns.{Allowance}
use Rattle.rx_engine_simulation.specs.Histories.{Facts}
use Rattle.rx_engine_simulation.specs.Sights.{Renaming}
use Rattle.rx_engine_simulation.specs.Jumps.{Jumping}
use Rattle.rx_engine_simulation.specs.Passing.{New}
use Rattle.rx_engine_simulation.specs.Like.{LikeExp, opens, reads, borrows, views, shares, builds, builds_structs, builds_variants, units, lazies, assigns, updates, calls, inputs, prints, blocks, chooses, loops, stays, gives, no_operands, operands_and}
use Rattle.rx_engine_related.specs.Running.{passing}
use Rattle.rx_engine_related.specs.Standing.{the_call}
use Rattle.rx_engine_related.proofs.Bare.{NoMarks}

abbrev empty_tuple : Making → Operands → Bool
empty_tuple tree.tuple tree.no_operand = true
empty_tuple _ _ = false

abbrev pub is_made : Exp → Bool
is_made (tree.build m w es) = empty_tuple w es
is_made _ = false

pub clash : {A : Type 0} → false ≡ true → A
clash q = absurd (true≢false (sym q))

built_not : (w : Making) (es : Operands) (m : Mark) (d : Temporary) → NoMarks (order.order (tree.build m w es) d) → empty_tuple w es ≡ false
built_not (tree.constant c) es m d h = refl
built_not tree.negation es m d h = refl
built_not tree.inversion es m d h = refl
built_not (tree.operation o) es m d h = refl
built_not tree.lazy es m d h = refl
built_not tree.tuple tree.no_operand m d h = absurd (true≢false h.1)
built_not tree.tuple (tree.operand_and i e es) m d h = refl
built_not (tree.struct n) es m d h = refl
built_not (tree.variant_of n v) es m d h = refl

pub unmarked : (e : Exp) (d : Temporary) → NoMarks (order.order e d) → is_made e ≡ false
unmarked (tree.read m v p) d h = refl
unmarked (tree.borrow m k p) d h = refl
unmarked (tree.share m e) d h = refl
unmarked (tree.build m w es) d h = built_not w es m d h
unmarked (tree.unit m) d h = refl
unmarked (tree.lazily m b e f) d h = refl
unmarked (tree.assign m p e) d h = refl
unmarked (tree.update m o p e) d h = refl
unmarked (tree.call m f es) d h = refl
unmarked (tree.input m) d h = refl
unmarked (tree.print m e) d h = refl
unmarked (tree.block m b) d h = refl
unmarked (tree.choose m s l) d h = refl
unmarked (tree.loop m l e) d h = refl
unmarked (tree.jump m l again) d h = refl
unmarked (tree.give m e) d h = refl

-- with marks in front of jumps
module _ (ls : List ℕ) where
  built_changed : (w : Making) (es : Operands) → empty_tuple w es ≡ false → empty_tuple w (changed_all (passing ls) es) ≡ false
  built_changed (tree.constant c) es h = refl
  built_changed tree.negation es h = refl
  built_changed tree.inversion es h = refl
  built_changed (tree.operation o) es h = refl
  built_changed tree.lazy es h = refl
  built_changed tree.tuple tree.no_operand h = h
  built_changed tree.tuple (tree.operand_and i e es) h = refl
  built_changed (tree.struct n) es h = refl
  built_changed (tree.variant_of n v) es h = refl

  pub changed_not : (e : Exp) → is_made e ≡ false → is_made (changed (passing ls) e) ≡ false
  changed_not (tree.read m v p) h = refl
  changed_not (tree.borrow m k p) h = refl
  changed_not (tree.share m e) h = refl
  changed_not (tree.build m w es) h = built_changed w es h
  changed_not (tree.unit m) h = refl
  changed_not (tree.lazily m b e f) h = refl
  changed_not (tree.assign m p e) h = refl
  changed_not (tree.update m o p e) h = refl
  changed_not (tree.call m f es) h = refl
  changed_not (tree.input m) h = refl
  changed_not (tree.print m e) h = refl
  changed_not (tree.block m b) h = refl
  changed_not (tree.choose m s l) h = refl
  changed_not (tree.loop m l e) h = refl
  changed_not (tree.jump m l again) h = by (is_among l ls)
    where
      by : (t : Bool) → is_made (if t then mark_then (leaves (jump_exit l again)) (tree.jump m l again) else tree.jump m l again) ≡ false
      by true = refl
      by false = refl
  changed_not (tree.give m e) h = refl

module _ {A : Asked} {muts : List Bool} {k : Plan} {modes : List Mode} {items : ℕ → ℕ} {gain : Allowance} {U : List ℕ} {F : New} {V : Facts} where
  pub like_made : {i : ℕ} {J : Jumping} {N : Renaming} {e e' : Exp} → LikeExp items (the_call A muts k modes items gain U F) gain V i J N e e' → is_made e ≡ true → is_made e' ≡ true
  like_made (opens a i h o l) q = absurd o
  like_made (reads l) q = clash q
  like_made (borrows l) q = clash q
  like_made (views h) q = clash q
  like_made (shares l) q = clash q
  like_made (builds {w = tree.constant c} f l) q = clash q
  like_made (builds {w = tree.negation} f l) q = clash q
  like_made (builds {w = tree.inversion} f l) q = clash q
  like_made (builds {w = tree.operation o} f l) q = clash q
  like_made (builds {w = tree.lazy} f l) q = clash q
  like_made (builds {w = tree.tuple} f no_operands) q = refl
  like_made (builds {w = tree.tuple} f (operands_and i j h a l)) q = clash q
  like_made (builds {w = tree.struct n} f l) q = clash q
  like_made (builds {w = tree.variant_of n v} f l) q = clash q
  like_made (builds_structs f l) q = clash q
  like_made (builds_variants f l) q = clash q
  like_made units q = clash q
  like_made (lazies i j h a b) q = clash q
  like_made (assigns p l) q = clash q
  like_made (updates p q l) h = clash h
  like_made (calls l) q = clash q
  like_made inputs q = clash q
  like_made (prints l) q = clash q
  like_made (blocks l) q = clash q
  like_made (chooses i j h c l) q = clash q
  like_made (loops f g h l) q = clash q
  like_made (stays h) q = clash q
  like_made (gives h l) q = clash q
