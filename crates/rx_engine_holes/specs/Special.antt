-- What stands in a function of the answer where the text has a variable that is behind a reference there, a literal without a suffix, or a
-- jump that leaves the run (Rust Reference, "The dereference operator", "Integer literal expressions", "Break expressions").
use Rattle.std.specs.Prelude.{◌≡◌, ℕ, Bool, true, false, Some, None}
use Rattle.rx_core.specs.declared.types.Kind.{Kind}
use Rattle.rx_core.specs.declared.types.Span.{Span}
use Rattle.rx_typed.specs.declared.nodes.Node.{Node}
use Rattle.rx_typed.specs.declared.nodes.Site.{Site}
use Rattle.rx_typed.specs.Types.{integer}
use Rattle.rx_typed.specs.Named as named
use Rattle.rx_typed.specs.Named.{Exp}
use Rattle.rx_typeck_solver.specs.declared.facts.Subject.TheVariants as subject
use Rattle.rx_typeck_solver.specs.Facts.{Assignment}
use Rattle.rx_engine_blocks.specs.Renumbering.{Renumbering, node_at}
use Rattle.rx_engine_blocks.specs.Along.{PartialInverse, Viewed, composed}
use Rattle.rx_engine_blocks.specs.Blocks.{Behind}
use Rattle.rx_engine_blocks.specs.Parts.{SameAs}
use Rattle.rx_engine_blocks.specs.Made.{MadeExp}
use Rattle.rx_engine_typing.specs.Renumbered.{Holes}

pub data SpecialExp (r : Renumbering) (u : PartialInverse r) (view : Viewed) (behind : Behind) (A V : Assignment) : Exp → Exp → Type 0 where
  -- `*y` for `x`, with a new node inside
  a_dereference : {n : Node} {s t : Span} {x y k : ℕ} {m m' : Bool} → behind x ≡ Some y → u.node k ≡ None → view (subject.Node n.number) ≡ false
      → SpecialExp r u view behind A V (named.var n (record { number = x; mutable = m; known = true }))
      (named.deref (node_at r n s) (named.var (record { number = k; span = t; site = Site.Place }) (record { number = y; mutable = m'; known = true })))
  -- the kind that the literal has
  a_suffix : {n : Node} {s : Span} {m : Bool} {v : ℕ} {l : Kind} → A (subject.Node n.number) ≡ integer l
      → SpecialExp r u view behind A V (named.int n m v None) (named.int (node_at r n s) m v (Some l))
  -- a return of what is made there, for a jump
  a_break : {n : Node} {s : Span} {l : ℕ} {e : Exp} → MadeExp (SameAs (composed r u view A V) V) e
      → SpecialExp r u view behind A V (named.break n l) (named.return (node_at r n s) (named.present e))
  a_continue : {n : Node} {s : Span} {l : ℕ} {e : Exp} → MadeExp (SameAs (composed r u view A V) V) e
      → SpecialExp r u view behind A V (named.continue n l) (named.return (node_at r n s) (named.present e))

-- these, where a return stands for a return or not
abbrev pub special_at : Type 0 → (r : Renumbering) → PartialInverse r → Viewed → Behind → Assignment → Assignment → Holes
special_at returns r u view behind A V = record {
  expression = SpecialExp r u view behind A V;
  block = λ b b'. ⊥;
  returns = returns;
  -- whether a variable is `mut` is asked in tests alone
  uses = λ x m k. k ≡ x.known;
  given_before = λ e e'. ⊥;
}

abbrev pub special_holes : (r : Renumbering) → PartialInverse r → Viewed → Behind → Assignment → Assignment → Holes
special_holes r u view behind A V = special_at (Unit {0}) r u view behind A V
