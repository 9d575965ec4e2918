-- A literal that is given its kind as suffix is a block.
use Rattle.std.proofs.Common.{◌≡◌, ℕ, Bool, true, false, IsTrue, List, refl, sym, ap, ◌∙◌}
use Rattle.rx_core.specs.declared.types.Kind.{Kind}
use Rattle.rx_core.specs.declared.types.Span.{Span}
use Rattle.rx_typed.specs.Types.{Typ, integer, boolean, tuple_of, reference, named}
use Rattle.rx_typeck_solver.specs.declared.facts.Kinds.{Kinds}
use Rattle.rx_typeck_solver.specs.declared.facts.Subject.{Subject}
use Rattle.rx_typeck_solver.specs.declared.facts.Subject.TheVariants as subject
use Rattle.rx_typeck_solver.specs.declared.facts.Demand.{Demand}
use Rattle.rx_typeck_solver.specs.Facts.{Assignment, KnownItems, has}
use Rattle.rx_typeck_typed.specs.Asking.{all, just}
use Rattle.rx_engine_blocks.specs.Renumbering.{Renumbering, shape_at}
use Rattle.rx_engine_blocks.specs.Knows.{Knows}
use Rattle.rx_engine_blocks.specs.Along.{PartialInverse, Viewed, Sees, shared, composed}
use Rattle.rx_engine_blocks.specs.Blocks.{Behind, Block}
use Rattle.rx_engine_blocks.specs.Pinned.{of_suffix, of_range, PinnedDemands}
use Rattle.rx_engine_blocks.specs.Pinned.PinnedDemands.{suffixed, in_range}
use Rattle.rx_engine_blocks.proofs.Meets.{shape_apart}
use Rattle.rx_engine_blocks.proofs.Outlines.{composed_sees}

just_has : (l : Kind) → IsTrue (has (just l) l)
just_has Kind.U8 = refl
just_has Kind.U32 = refl
just_has Kind.U64 = refl
just_has Kind.I32 = refl
just_has Kind.I64 = refl

all_has : (l : Kind) → IsTrue (has all l)
all_has Kind.U8 = refl
all_has Kind.U32 = refl
all_has Kind.U64 = refl
all_has Kind.I32 = refl
all_has Kind.I64 = refl

shared_integer : (b : Bool) (k : Kind) → shared b (integer k) ≡ integer k
shared_integer true k = refl
shared_integer false k = refl

integer_shared : (b : Bool) (t : Typ) (k : Kind) → shared b t ≡ integer k → t ≡ integer k
integer_shared false t k e = e
integer_shared true (reference m t) k e = cc
integer_shared true (integer l) k e = e
integer_shared true boolean k e = e
integer_shared true (tuple_of ts) k e = e
integer_shared true (named i) k e = e

module _ (r : Renumbering) (u : PartialInverse r) (view : Viewed) (behind : Behind) (IsFixed : Subject → Type 0) (D D' : KnownItems) (known : Knows r D D') (A V : Assignment) where
  abbrev A' : Assignment
  A' = composed r u view A V

  kind_apart : (B C : Assignment) (n : ℕ) (l : Kind) → Sees r view B C → C (subject.Node (r.nodes n)) ≡ integer l → B (subject.Node n) ≡ integer l
  kind_apart B C n l a e = shape_apart r D D' known (B (subject.Node n)) (integer l) (integer_shared (view (subject.Node n)) (shape_at r (B (subject.Node n))) l (sym (a (subject.Node n)) ∙ e))

  kind_there : (n : ℕ) (k : Kind) → A (subject.Node n) ≡ integer k → A' (subject.Node (r.nodes n)) ≡ integer k
  kind_there n k i = composed_sees r u view A V (subject.Node n) ∙ ap (λ p. shared (view (subject.Node n)) (shape_at r p)) i ∙ shared_integer (view (subject.Node n)) k

  suffixed_block : (n : ℕ) (s s' : Span) (l : Kind) → A (subject.Node n) ≡ integer l → Block r u view behind IsFixed D D' A V (of_suffix n s all) (of_suffix (r.nodes n) s' (just l))
  suffixed_block n s s' l e = record {
    there = λ h w. (((l, kind_there n l e, just_has l), tt), tt);
    back = λ B C t h m. (((m.0.0.0, kind_apart B C n m.0.0.0 t.sees m.0.0.1, all_has m.0.0.0), tt), tt);
    literal = λ m i. absurd i;
  }

  range_block : (n : ℕ) (s s' : Span) (v : Kinds) → Block r u view behind IsFixed D D' A V (of_range n s v true) (of_range (r.nodes n) s' v false)
  range_block n s s' v = record {
    there = λ h w. (((h.0.0.0, kind_there n h.0.0.0 h.0.0.1, h.0.0.2), tt), tt);
    back = λ B C t h m. (((m.0.0.0, kind_apart B C n m.0.0.0 t.sees m.0.0.1, m.0.0.2), tt), tt);
    literal = λ m i. absurd i;
  }

  pub pinned_block : (gs gs' : List Demand) → PinnedDemands r A gs gs' → Block r u view behind IsFixed D D' A V gs gs'
  pinned_block gs gs' (suffixed n e) = suffixed_block n _ _ _ e
  pinned_block gs gs' (in_range n) = range_block n _ _ _
