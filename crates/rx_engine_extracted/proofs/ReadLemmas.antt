-- What is asked of an expression, by what it is read as.
use Rattle.std.proofs.Common.{◌≡◌, refl, ℕ, ◌==◌, Bool, true, false, ◌&&◌, nat_eq, Option, Some, None, [], if◌then◌else◌}
use Rattle.rx_typed.specs.Tree as tree
use Rattle.rx_typed.specs.Tree.{Place, Exp}
use Rattle.rx_exits_plan.specs.Blocks.{written_tail}
use Rattle.rx_engine_simulation.specs.Sights.{Renaming}
use Rattle.rx_engine_simulation.specs.Places.{looking}
use Rattle.rx_engine_alike.specs.Likeness.{if_so, and_then}
use Rattle.rx_engine_alike.specs.Read.{as_read, as_borrow, as_build, as_assign, as_call, as_block, as_choose, as_jump, as_give}
use Rattle.rx_engine_alike.specs.Same.{same_bool}
use Rattle.rx_engine_alike.specs.Ways.{like_place}
use Rattle.rx_engine_alike.specs.Giving.{is_own, leads_from, takes, gives_bare}
use Rattle.rx_engine_alike.specs.Leaving.{is_number}
use Rattle.rx_engine_extracted.specs.Entering.{reads_own, borrows_own, asks_again}
use Rattle.rx_engine_extracted.specs.Handing.{variable_at, as_assigned}
use Rattle.rx_engine_extracted.specs.Arms.{jumps_to, returns_nothing, returns_own}
use Rattle.rx_engine_extracted.specs.Calls.{operands_of}
use Rattle.rx_engine_extracted.specs.Block.{block_of}
use Rattle.rx_engine_extracted.specs.TailEnding.{variant_operands, looks_alike}
use Rattle.rx_engine_extracted.specs.TailHanding.{gives_at}
use Rattle.rx_engine_extracted.specs.PlainEnding.{given_of}
use Rattle.rx_engine_extracted.specs.PlainCalls.{matches_of}
use Rattle.rx_engine_extracted.specs.PlainTails.{operands_made}
use Rattle.rx_engine_extracted.proofs.ArmLemmas.{is_so}

-- ---- a place that is read or borrowed

pub own_read : (y : ℕ) (e : Exp) → reads_own y e ≡ is_so (as_read e) (λ r. is_own y r.2)
own_read y (tree.read m v p) = refl
own_read y (tree.borrow m k p) = refl
own_read y (tree.share m e) = refl
own_read y (tree.build m w es) = refl
own_read y (tree.unit m) = refl
own_read y (tree.lazily m b e f) = refl
own_read y (tree.assign m p e) = refl
own_read y (tree.update m o p e) = refl
own_read y (tree.call m f es) = refl
own_read y (tree.input m) = refl
own_read y (tree.print m e) = refl
own_read y (tree.block m b) = refl
own_read y (tree.choose m c l) = refl
own_read y (tree.loop m l e) = refl
own_read y (tree.jump m l k) = refl
own_read y (tree.give m e) = refl

pub own_borrowed : (k : Bool) (y : ℕ) (e : Exp) → borrows_own k y e ≡ is_so (as_borrow e) (λ r. same_bool k r.1 && is_own y r.2)
own_borrowed true y (tree.read m v p) = refl
own_borrowed true y (tree.borrow m true p) = refl
own_borrowed true y (tree.borrow m false p) = refl
own_borrowed true y (tree.share m e) = refl
own_borrowed true y (tree.build m w es) = refl
own_borrowed true y (tree.unit m) = refl
own_borrowed true y (tree.lazily m b e f) = refl
own_borrowed true y (tree.assign m p e) = refl
own_borrowed true y (tree.update m o p e) = refl
own_borrowed true y (tree.call m f es) = refl
own_borrowed true y (tree.input m) = refl
own_borrowed true y (tree.print m e) = refl
own_borrowed true y (tree.block m b) = refl
own_borrowed true y (tree.choose m c l) = refl
own_borrowed true y (tree.loop m l e) = refl
own_borrowed true y (tree.jump m l k) = refl
own_borrowed true y (tree.give m e) = refl
own_borrowed false y (tree.read m v p) = refl
own_borrowed false y (tree.borrow m true p) = refl
own_borrowed false y (tree.borrow m false p) = refl
own_borrowed false y (tree.share m e) = refl
own_borrowed false y (tree.build m w es) = refl
own_borrowed false y (tree.unit m) = refl
own_borrowed false y (tree.lazily m b e f) = refl
own_borrowed false y (tree.assign m p e) = refl
own_borrowed false y (tree.update m o p e) = refl
own_borrowed false y (tree.call m f es) = refl
own_borrowed false y (tree.input m) = refl
own_borrowed false y (tree.print m e) = refl
own_borrowed false y (tree.block m b) = refl
own_borrowed false y (tree.choose m c l) = refl
own_borrowed false y (tree.loop m l e) = refl
own_borrowed false y (tree.jump m l k) = refl
own_borrowed false y (tree.give m e) = refl

pub again_borrowed : (k : Bool) (y : ℕ) (e : Exp) → asks_again k y e ≡ is_so (as_borrow e) (λ r. same_bool k r.1 && leads_from y r.2)
again_borrowed true y (tree.read m v p) = refl
again_borrowed true y (tree.borrow m true p) = refl
again_borrowed true y (tree.borrow m false p) = refl
again_borrowed true y (tree.share m e) = refl
again_borrowed true y (tree.build m w es) = refl
again_borrowed true y (tree.unit m) = refl
again_borrowed true y (tree.lazily m b e f) = refl
again_borrowed true y (tree.assign m p e) = refl
again_borrowed true y (tree.update m o p e) = refl
again_borrowed true y (tree.call m f es) = refl
again_borrowed true y (tree.input m) = refl
again_borrowed true y (tree.print m e) = refl
again_borrowed true y (tree.block m b) = refl
again_borrowed true y (tree.choose m c l) = refl
again_borrowed true y (tree.loop m l e) = refl
again_borrowed true y (tree.jump m l k) = refl
again_borrowed true y (tree.give m e) = refl
again_borrowed false y (tree.read m v p) = refl
again_borrowed false y (tree.borrow m true p) = refl
again_borrowed false y (tree.borrow m false p) = refl
again_borrowed false y (tree.share m e) = refl
again_borrowed false y (tree.build m w es) = refl
again_borrowed false y (tree.unit m) = refl
again_borrowed false y (tree.lazily m b e f) = refl
again_borrowed false y (tree.assign m p e) = refl
again_borrowed false y (tree.update m o p e) = refl
again_borrowed false y (tree.call m f es) = refl
again_borrowed false y (tree.input m) = refl
again_borrowed false y (tree.print m e) = refl
again_borrowed false y (tree.block m b) = refl
again_borrowed false y (tree.choose m c l) = refl
again_borrowed false y (tree.loop m l e) = refl
again_borrowed false y (tree.jump m l k) = refl
again_borrowed false y (tree.give m e) = refl

pub looked_read : (R : Renaming) (e : Exp) (q : Place) → looks_alike R e q ≡ is_so (as_read e) (λ r. like_place R looking r.2 q)
looked_read R (tree.read m v p) q = refl
looked_read R (tree.borrow m k p) q = refl
looked_read R (tree.share m e) q = refl
looked_read R (tree.build m w es) q = refl
looked_read R (tree.unit m) q = refl
looked_read R (tree.lazily m b e f) q = refl
looked_read R (tree.assign m p e) q = refl
looked_read R (tree.update m o p e) q = refl
looked_read R (tree.call m f es) q = refl
looked_read R (tree.input m) q = refl
looked_read R (tree.print m e) q = refl
looked_read R (tree.block m b) q = refl
looked_read R (tree.choose m c l) q = refl
looked_read R (tree.loop m l e) q = refl
looked_read R (tree.jump m l k) q = refl
looked_read R (tree.give m e) q = refl

-- ---- what is assigned, called, matched

pub assigned_read : (e : Exp) → as_assigned e ≡ and_then (as_assign e) (λ r. and_then (variable_at r.1.root r.1.steps) (λ y. Some (y, r.2)))
assigned_read (tree.read m v p) = refl
assigned_read (tree.borrow m k p) = refl
assigned_read (tree.share m e) = refl
assigned_read (tree.build m w es) = refl
assigned_read (tree.unit m) = refl
assigned_read (tree.lazily m b e f) = refl
assigned_read (tree.assign m p e) = refl
assigned_read (tree.update m o p e) = refl
assigned_read (tree.call m f es) = refl
assigned_read (tree.input m) = refl
assigned_read (tree.print m e) = refl
assigned_read (tree.block m b) = refl
assigned_read (tree.choose m c l) = refl
assigned_read (tree.loop m l e) = refl
assigned_read (tree.jump m l k) = refl
assigned_read (tree.give m e) = refl

pub called_read : (n : ℕ) (e : Exp) → operands_of n e ≡ and_then (as_call e) (λ r. if_so (nat_eq n r.1) (Some r.2))
called_read n (tree.read m v p) = refl
called_read n (tree.borrow m k p) = refl
called_read n (tree.share m e) = refl
called_read n (tree.build m w es) = refl
called_read n (tree.unit m) = refl
called_read n (tree.lazily m b e f) = refl
called_read n (tree.assign m p e) = refl
called_read n (tree.update m o p e) = refl
called_read n (tree.call m f es) = refl
called_read n (tree.input m) = refl
called_read n (tree.print m e) = refl
called_read n (tree.block m b) = refl
called_read n (tree.choose m c l) = refl
called_read n (tree.loop m l e) = refl
called_read n (tree.jump m l k) = refl
called_read n (tree.give m e) = refl

pub matched_read : (e : Exp) → matches_of e ≡ and_then (as_choose e) (λ r. Some (r.1, r.2))
matched_read (tree.read m v p) = refl
matched_read (tree.borrow m k p) = refl
matched_read (tree.share m e) = refl
matched_read (tree.build m w es) = refl
matched_read (tree.unit m) = refl
matched_read (tree.lazily m b e f) = refl
matched_read (tree.assign m p e) = refl
matched_read (tree.update m o p e) = refl
matched_read (tree.call m f es) = refl
matched_read (tree.input m) = refl
matched_read (tree.print m e) = refl
matched_read (tree.block m b) = refl
matched_read (tree.choose m c l) = refl
matched_read (tree.loop m l e) = refl
matched_read (tree.jump m l k) = refl
matched_read (tree.give m e) = refl

pub block_read : (e : Exp) → block_of e ≡ and_then (as_block e) (λ r. Some r.1)
block_read (tree.read m v p) = refl
block_read (tree.borrow m k p) = refl
block_read (tree.share m e) = refl
block_read (tree.build m w es) = refl
block_read (tree.unit m) = refl
block_read (tree.lazily m b e f) = refl
block_read (tree.assign m p e) = refl
block_read (tree.update m o p e) = refl
block_read (tree.call m f es) = refl
block_read (tree.input m) = refl
block_read (tree.print m e) = refl
block_read (tree.block m b) = refl
block_read (tree.choose m c l) = refl
block_read (tree.loop m l e) = refl
block_read (tree.jump m l k) = refl
block_read (tree.give m e) = refl

pub made_read : (n : ℕ) (e : Exp) → variant_operands n e ≡ and_then (as_build e) (λ r. operands_made n r.1 r.2)
made_read n (tree.read m v p) = refl
made_read n (tree.borrow m k p) = refl
made_read n (tree.share m e) = refl
made_read n (tree.build m (tree.constant c) es) = refl
made_read n (tree.build m tree.negation es) = refl
made_read n (tree.build m tree.inversion es) = refl
made_read n (tree.build m (tree.operation o) es) = refl
made_read n (tree.build m tree.lazy es) = refl
made_read n (tree.build m tree.tuple es) = refl
made_read n (tree.build m (tree.struct i) es) = refl
made_read n (tree.build m (tree.variant_of i u) es) = refl
made_read n (tree.unit m) = refl
made_read n (tree.lazily m b e f) = refl
made_read n (tree.assign m p e) = refl
made_read n (tree.update m o p e) = refl
made_read n (tree.call m f es) = refl
made_read n (tree.input m) = refl
made_read n (tree.print m e) = refl
made_read n (tree.block m b) = refl
made_read n (tree.choose m c l) = refl
made_read n (tree.loop m l e) = refl
made_read n (tree.jump m l k) = refl
made_read n (tree.give m e) = refl

-- ---- what is returned, and jumps

pub given_read : (e : Exp) → given_of e ≡ and_then (as_give e) (λ r. Some r.1)
given_read (tree.read m v p) = refl
given_read (tree.borrow m k p) = refl
given_read (tree.share m e) = refl
given_read (tree.build m w es) = refl
given_read (tree.unit m) = refl
given_read (tree.lazily m b e f) = refl
given_read (tree.assign m p e) = refl
given_read (tree.update m o p e) = refl
given_read (tree.call m f es) = refl
given_read (tree.input m) = refl
given_read (tree.print m e) = refl
given_read (tree.block m b) = refl
given_read (tree.choose m c l) = refl
given_read (tree.loop m l e) = refl
given_read (tree.jump m l k) = refl
given_read (tree.give m e) = refl

pub nothing_returned : (e : Exp) → returns_nothing e ≡ is_so (as_give e) (λ r. gives_bare [] r.1)
nothing_returned (tree.read m v p) = refl
nothing_returned (tree.borrow m k p) = refl
nothing_returned (tree.share m e) = refl
nothing_returned (tree.build m w es) = refl
nothing_returned (tree.unit m) = refl
nothing_returned (tree.lazily m b e f) = refl
nothing_returned (tree.assign m p e) = refl
nothing_returned (tree.update m o p e) = refl
nothing_returned (tree.call m f es) = refl
nothing_returned (tree.input m) = refl
nothing_returned (tree.print m e) = refl
nothing_returned (tree.block m b) = refl
nothing_returned (tree.choose m c l) = refl
nothing_returned (tree.loop m l e) = refl
nothing_returned (tree.jump m l k) = refl
nothing_returned (tree.give m e) = refl

pub own_returned : (q : ℕ) (e : Exp) → returns_own q e ≡ is_so (as_give e) (λ r. takes q r.1)
own_returned q (tree.read m v p) = refl
own_returned q (tree.borrow m k p) = refl
own_returned q (tree.share m e) = refl
own_returned q (tree.build m w es) = refl
own_returned q (tree.unit m) = refl
own_returned q (tree.lazily m b e f) = refl
own_returned q (tree.assign m p e) = refl
own_returned q (tree.update m o p e) = refl
own_returned q (tree.call m f es) = refl
own_returned q (tree.input m) = refl
own_returned q (tree.print m e) = refl
own_returned q (tree.block m b) = refl
own_returned q (tree.choose m c l) = refl
own_returned q (tree.loop m l e) = refl
own_returned q (tree.jump m l k) = refl
own_returned q (tree.give m e) = refl

pub given_at : (n : ℕ) (e : Exp) → gives_at n e ≡ is_so (as_give e) (λ r. r.0.node == n)
given_at n (tree.read m v p) = refl
given_at n (tree.borrow m k p) = refl
given_at n (tree.share m e) = refl
given_at n (tree.build m w es) = refl
given_at n (tree.unit m) = refl
given_at n (tree.lazily m b e f) = refl
given_at n (tree.assign m p e) = refl
given_at n (tree.update m o p e) = refl
given_at n (tree.call m f es) = refl
given_at n (tree.input m) = refl
given_at n (tree.print m e) = refl
given_at n (tree.block m b) = refl
given_at n (tree.choose m c l) = refl
given_at n (tree.loop m l e) = refl
given_at n (tree.jump m l k) = refl
given_at n (tree.give m e) = refl

-- what is there, or else that
abbrev pub unless_there : {A : Type 0} → Option A → (A → Exp) → Exp → Exp
unless_there None f e = e
unless_there (Some a) f e = f a

pub written_read : (n : ℕ) (e : Exp) → written_tail n e ≡ unless_there (as_give e) (λ r. if r.0.node == n then r.1 else e) e
written_read n (tree.read m v p) = refl
written_read n (tree.borrow m k p) = refl
written_read n (tree.share m e) = refl
written_read n (tree.build m w es) = refl
written_read n (tree.unit m) = refl
written_read n (tree.lazily m b e f) = refl
written_read n (tree.assign m p e) = refl
written_read n (tree.update m o p e) = refl
written_read n (tree.call m f es) = refl
written_read n (tree.input m) = refl
written_read n (tree.print m e) = refl
written_read n (tree.block m b) = refl
written_read n (tree.choose m c l) = refl
written_read n (tree.loop m l e) = refl
written_read n (tree.jump m l k) = refl
written_read n (tree.give m e) = refl

pub jumps_read : (d : Option ℕ) (again : Bool) (e : Exp) → jumps_to d again e ≡ is_so (as_jump e) (λ r. is_number d r.1 && same_bool again r.2)
jumps_read d again (tree.read m v p) = refl
jumps_read d again (tree.borrow m k p) = refl
jumps_read d again (tree.share m e) = refl
jumps_read d again (tree.build m w es) = refl
jumps_read d again (tree.unit m) = refl
jumps_read d again (tree.lazily m b e f) = refl
jumps_read d again (tree.assign m p e) = refl
jumps_read d again (tree.update m o p e) = refl
jumps_read d again (tree.call m f es) = refl
jumps_read d again (tree.input m) = refl
jumps_read d again (tree.print m e) = refl
jumps_read d again (tree.block m b) = refl
jumps_read d again (tree.choose m c l) = refl
jumps_read d again (tree.loop m l e) = refl
jumps_read d again (tree.jump m l k) = refl
jumps_read d again (tree.give m e) = refl

pub ruleset read_rules = (own_read, own_borrowed, again_borrowed, looked_read, assigned_read, called_read, matched_read, block_read, made_read, given_read, nothing_returned, own_returned, given_at, written_read, jumps_read)
