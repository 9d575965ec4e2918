-- What is asked of an expression, by what it is read as.
use Rattle.std.proofs.Common.{◌≡◌, refl, ℕ, Bool, true, false, ◌&&◌, List, Option, Some, None}
use Rattle.rx_typed.specs.Tree as tree
use Rattle.rx_typed.specs.Tree.{Place, Exp}
use Rattle.rx_engine_simulation.specs.Sights.{Renaming}
use Rattle.rx_engine_simulation.specs.Jumps.{Jumping}
use Rattle.rx_engine_simulation.specs.Places.{looking, use_of}
use Rattle.rx_engine_alike.specs.Likeness.{Likeness, alike, provided, when, and_then}
use Rattle.rx_engine_alike.specs.Read.{as_read, as_borrow, as_build, as_unit, as_block}
use Rattle.rx_engine_alike.specs.Same.{same_bool}
use Rattle.rx_engine_alike.specs.Ways.{like_place}
use Rattle.rx_engine_alike.specs.Giving.{is_own, leads_from, takes, is_unit, ends_with_unit, gives_nothing, gives_tuple, gives_variant}
use Rattle.rx_engine_alike.specs.Leaving.{part_of_made, part_of_variant, bound_in, bound_in_block}
use Rattle.rx_engine_alike.specs.Forms.{Between, views_place, views_exp, is_read_in, like_exp}
use Rattle.rx_engine_alike.specs.PlainParts.{makes_tuple, makes_variant}

-- what is said of what is there
abbrev pub is_so : {A : Type 0} → Option A → (A → Bool) → Bool
is_so None f = false
is_so (Some a) f = f a

abbrev pub else_so : {A : Type 0} → Option A → (A → Bool) → Bool → Bool
else_so None f b = b
else_so (Some a) f b = f a

abbrev pub else_when : {A : Type 0} → Option A → (A → Likeness) → Likeness → Likeness
else_when None f b = b
else_when (Some a) f b = f a

pub takes_read : (q : ℕ) (e : Exp) → takes q e ≡ else_so (as_read e) (λ r. is_own q r.2) (is_so (as_borrow e) (λ r. r.1 && leads_from q r.2))
takes_read q (tree.read m v p) = refl
takes_read q (tree.borrow m true p) = refl
takes_read q (tree.borrow m false p) = refl
takes_read q (tree.share m e) = refl
takes_read q (tree.build m w es) = refl
takes_read q (tree.unit m) = refl
takes_read q (tree.lazily m k e f) = refl
takes_read q (tree.assign m p e) = refl
takes_read q (tree.update m o p e) = refl
takes_read q (tree.call m f es) = refl
takes_read q (tree.input m) = refl
takes_read q (tree.print m e) = refl
takes_read q (tree.block m b) = refl
takes_read q (tree.choose m c l) = refl
takes_read q (tree.loop m l e) = refl
takes_read q (tree.jump m l k) = refl
takes_read q (tree.give m e) = refl

pub unit_read : (e : Exp) → is_unit e ≡ is_so (as_unit e) (λ r. true)
unit_read (tree.read m v p) = refl
unit_read (tree.borrow m k p) = refl
unit_read (tree.share m e) = refl
unit_read (tree.build m w es) = refl
unit_read (tree.unit m) = refl
unit_read (tree.lazily m b e f) = refl
unit_read (tree.assign m p e) = refl
unit_read (tree.update m o p e) = refl
unit_read (tree.call m f es) = refl
unit_read (tree.input m) = refl
unit_read (tree.print m e) = refl
unit_read (tree.block m b) = refl
unit_read (tree.choose m c l) = refl
unit_read (tree.loop m l e) = refl
unit_read (tree.jump m l k) = refl
unit_read (tree.give m e) = refl

pub nothing_read : (e : Exp) → gives_nothing e ≡ else_so (as_block e) (λ r. ends_with_unit r.1) (is_unit e)
nothing_read (tree.read m v p) = refl
nothing_read (tree.borrow m k p) = refl
nothing_read (tree.share m e) = refl
nothing_read (tree.build m w es) = refl
nothing_read (tree.unit m) = refl
nothing_read (tree.lazily m k e f) = refl
nothing_read (tree.assign m p e) = refl
nothing_read (tree.update m o p e) = refl
nothing_read (tree.call m f es) = refl
nothing_read (tree.input m) = refl
nothing_read (tree.print m e) = refl
nothing_read (tree.block m b) = refl
nothing_read (tree.choose m c l) = refl
nothing_read (tree.loop m l e) = refl
nothing_read (tree.jump m l k) = refl
nothing_read (tree.give m e) = refl

pub tuple_read : (qs : List ℕ) (e : Exp) → gives_tuple qs e ≡ is_so (as_build e) (λ r. makes_tuple r.1 qs r.2)
tuple_read qs (tree.read m v p) = refl
tuple_read qs (tree.borrow m k p) = refl
tuple_read qs (tree.share m e) = refl
tuple_read qs (tree.build m (tree.constant c) es) = refl
tuple_read qs (tree.build m tree.negation es) = refl
tuple_read qs (tree.build m tree.inversion es) = refl
tuple_read qs (tree.build m (tree.operation o) es) = refl
tuple_read qs (tree.build m tree.lazy es) = refl
tuple_read qs (tree.build m tree.tuple es) = refl
tuple_read qs (tree.build m (tree.struct i) es) = refl
tuple_read qs (tree.build m (tree.variant_of i u) es) = refl
tuple_read qs (tree.unit m) = refl
tuple_read qs (tree.lazily m k e f) = refl
tuple_read qs (tree.assign m p e) = refl
tuple_read qs (tree.update m o p e) = refl
tuple_read qs (tree.call m f es) = refl
tuple_read qs (tree.input m) = refl
tuple_read qs (tree.print m e) = refl
tuple_read qs (tree.block m b) = refl
tuple_read qs (tree.choose m c l) = refl
tuple_read qs (tree.loop m l e) = refl
tuple_read qs (tree.jump m l k) = refl
tuple_read qs (tree.give m e) = refl

pub variant_read : (n : ℕ) (qs : List ℕ) (e : Exp) → gives_variant n qs e ≡ is_so (as_build e) (λ r. makes_variant n r.1 qs r.2)
variant_read n qs (tree.read m v p) = refl
variant_read n qs (tree.borrow m k p) = refl
variant_read n qs (tree.share m e) = refl
variant_read n qs (tree.build m (tree.constant c) es) = refl
variant_read n qs (tree.build m tree.negation es) = refl
variant_read n qs (tree.build m tree.inversion es) = refl
variant_read n qs (tree.build m (tree.operation o) es) = refl
variant_read n qs (tree.build m tree.lazy es) = refl
variant_read n qs (tree.build m tree.tuple es) = refl
variant_read n qs (tree.build m (tree.struct i) es) = refl
variant_read n qs (tree.build m (tree.variant_of i u) es) = refl
variant_read n qs (tree.unit m) = refl
variant_read n qs (tree.lazily m k e f) = refl
variant_read n qs (tree.assign m p e) = refl
variant_read n qs (tree.update m o p e) = refl
variant_read n qs (tree.call m f es) = refl
variant_read n qs (tree.input m) = refl
variant_read n qs (tree.print m e) = refl
variant_read n qs (tree.block m b) = refl
variant_read n qs (tree.choose m c l) = refl
variant_read n qs (tree.loop m l e) = refl
variant_read n qs (tree.jump m l k) = refl
variant_read n qs (tree.give m e) = refl

pub part_read : (n : ℕ) (e : Exp) → part_of_variant n e ≡ and_then (as_build e) (λ r. part_of_made n r.1 r.2)
part_read n (tree.read m v p) = refl
part_read n (tree.borrow m k p) = refl
part_read n (tree.share m e) = refl
part_read n (tree.build m w es) = refl
part_read n (tree.unit m) = refl
part_read n (tree.lazily m k e f) = refl
part_read n (tree.assign m p e) = refl
part_read n (tree.update m o p e) = refl
part_read n (tree.call m f es) = refl
part_read n (tree.input m) = refl
part_read n (tree.print m e) = refl
part_read n (tree.block m b) = refl
part_read n (tree.choose m c l) = refl
part_read n (tree.loop m l e) = refl
part_read n (tree.jump m l k) = refl
part_read n (tree.give m e) = refl

pub bound_read : (e : Exp) → bound_in_block e ≡ and_then (as_block e) (λ r. bound_in r.1)
bound_read (tree.read m v p) = refl
bound_read (tree.borrow m k p) = refl
bound_read (tree.share m e) = refl
bound_read (tree.build m w es) = refl
bound_read (tree.unit m) = refl
bound_read (tree.lazily m k e f) = refl
bound_read (tree.assign m p e) = refl
bound_read (tree.update m o p e) = refl
bound_read (tree.call m f es) = refl
bound_read (tree.input m) = refl
bound_read (tree.print m e) = refl
bound_read (tree.block m b) = refl
bound_read (tree.choose m c l) = refl
bound_read (tree.loop m l e) = refl
bound_read (tree.jump m l k) = refl
bound_read (tree.give m e) = refl

pub viewed_read : (R : Renaming) (e : Exp) (q : Place) → views_exp R e q ≡ is_so (as_borrow e) (λ r. views_place R r.1 r.2 q)
viewed_read R (tree.read m v p) q = refl
viewed_read R (tree.borrow m k p) q = refl
viewed_read R (tree.share m e) q = refl
viewed_read R (tree.build m w es) q = refl
viewed_read R (tree.unit m) q = refl
viewed_read R (tree.lazily m b e f) q = refl
viewed_read R (tree.assign m p e) q = refl
viewed_read R (tree.update m o p e) q = refl
viewed_read R (tree.call m f es) q = refl
viewed_read R (tree.input m) q = refl
viewed_read R (tree.print m e) q = refl
viewed_read R (tree.block m b) q = refl
viewed_read R (tree.choose m c l) q = refl
viewed_read R (tree.loop m l e) q = refl
viewed_read R (tree.jump m l k) q = refl
viewed_read R (tree.give m e) q = refl

pub looked_read : (R : Renaming) (q : Place) (e : Exp) → is_read_in R q e ≡ else_so (as_read e) (λ r. like_place R looking r.2 q) (views_exp R e q)
looked_read R q (tree.read m v p) = refl
looked_read R q (tree.borrow m k p) = refl
looked_read R q (tree.share m e) = refl
looked_read R q (tree.build m w es) = refl
looked_read R q (tree.unit m) = refl
looked_read R q (tree.lazily m k e f) = refl
looked_read R q (tree.assign m p e) = refl
looked_read R q (tree.update m o p e) = refl
looked_read R q (tree.call m f es) = refl
looked_read R q (tree.input m) = refl
looked_read R q (tree.print m e) = refl
looked_read R q (tree.block m b) = refl
looked_read R q (tree.choose m c l) = refl
looked_read R q (tree.loop m l e) = refl
looked_read R q (tree.jump m l k) = refl
looked_read R q (tree.give m e) = refl

pub ruleset read_rules = (takes_read, unit_read, nothing_read, tuple_read, variant_read, part_read, bound_read, viewed_read, looked_read)

pub borrow_read : (C : Between) (J : Jumping) (R : Renaming) (n : tree.Mark) (b : Bool) (q : Place) (e : Exp) → like_exp C J R (tree.borrow n b q) e
    ≡ else_when (as_read e) (λ r. provided (views_place R b q r.2) alike) (when (as_borrow e) (λ r. provided (same_bool b r.1 && like_place R (use_of b) q r.2) alike))
borrow_read C J R n b q (tree.read m v p) = refl
borrow_read C J R n b q (tree.borrow m k p) = refl
borrow_read C J R n b q (tree.share m e) = refl
borrow_read C J R n b q (tree.build m w es) = refl
borrow_read C J R n b q (tree.unit m) = refl
borrow_read C J R n b q (tree.lazily m k e f) = refl
borrow_read C J R n b q (tree.assign m p e) = refl
borrow_read C J R n b q (tree.update m o p e) = refl
borrow_read C J R n b q (tree.call m f es) = refl
borrow_read C J R n b q (tree.input m) = refl
borrow_read C J R n b q (tree.print m e) = refl
borrow_read C J R n b q (tree.block m c) = refl
borrow_read C J R n b q (tree.choose m c l) = refl
borrow_read C J R n b q (tree.loop m l e) = refl
borrow_read C J R n b q (tree.jump m l k) = refl
borrow_read C J R n b q (tree.give m e) = refl

pub ruleset borrow_rules = (borrow_read)
