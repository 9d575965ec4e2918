-- What stands in the new function for returns of a run (Rust Reference, "Return expressions"): the value that is returned is copied, as that of a
-- variant; for a return without a value stands one of a value that is made there. No return stands for a return.
use Rattle.std.specs.Prelude.{◌≡◌, ℕ, zero, suc, false, [], Some}
use Rattle.rx_core.specs.declared.types.Span.{Span}
use Rattle.rx_typed.specs.declared.nodes.Node.{Node}
use Rattle.rx_typed.specs.declared.nodes.Site.{Site}
use Rattle.rx_typed.specs.Types.{Typ, unit_shape}
use Rattle.rx_typed.specs.Named as named
use Rattle.rx_typed.specs.Named.{Exp, Written, node_of}
use Rattle.rx_typeck_solver.specs.declared.facts.Subject.TheVariants as subject
use Rattle.rx_typeck_solver.specs.declared.facts.Op.TheVariants as op
use Rattle.rx_typeck_solver.specs.Facts.{Assignment, KnownItems, made}
use Rattle.rx_typeck_typed.specs.Asking.{expected}
use Rattle.rx_engine_blocks.specs.Renumbering.{Renumbering, node_at, shape_at}
use Rattle.rx_engine_blocks.specs.Along.{PartialInverse, Viewed, composed}
use Rattle.rx_engine_blocks.specs.Blocks.{Behind}
use Rattle.rx_engine_blocks.specs.Parts.{SameAs}
use Rattle.rx_engine_blocks.specs.Made.{AtNode, MadeExp, MadePattern, MadeType}
use Rattle.rx_engine_typing.specs.Renumbered.{Holes, RenumberedExp}
use Rattle.rx_engine_holes.specs.Sited.{at_site}
use Rattle.rx_engine_holes.specs.Special.{special_at}

-- the text's function has the number `f`; `H` says what else may stand for something, in what is returned too
pub data ReturnedExp (r : Renumbering) (u : PartialInverse r) (view : Viewed) (D E : KnownItems) (A V : Assignment) (loops : ℕ → ℕ) (f : ℕ) (H : Holes) : Exp → Exp → Type 0 where
  otherwise : {e e' : Exp} → H.expression e e' → ReturnedExp r u view D E A V loops f H e e'
  -- the variant has a part of the type that the text's function gives
  a_return : {n m : Node} {s : Span} {i v : ℕ} {e e' : Exp} (t : Typ) → RenumberedExp r loops H e e' → AtNode (SameAs (composed r u view A V) V) m
      → view (subject.Expected (node_of e).number) ≡ false → made (λ k. k) D.items (op.Result f) [] [] ≡ Some t → made (λ k. k) E.items (op.PartOf i v 0) [] [] ≡ Some (shape_at r t)
      → ReturnedExp r u view D E A V loops f H (named.return n (named.present e))
      (named.return (node_at r n s) (named.present (named.variant m i v (named.exp_and e' named.no_exp))))
  -- where the text's function gives the unit, the value is that of a variable, and another is returned
  a_unit_return : {n m k q p : Node} {s : Span} {x : ℕ} {t : Written} {e e' v : Exp} → RenumberedExp r loops H e e' → (node_of e).site ≡ Site.Expects
      → made (λ k. k) D.items (op.Result f) [] [] ≡ Some unit_shape → SameAs (composed r u view A V) V (expected (node_of (at_site Site.Initialises e')))
      → AtNode (SameAs (composed r u view A V) V) m → AtNode (SameAs (composed r u view A V) V) k → MadePattern (SameAs (composed r u view A V) V) (named.bind p x false)
      → MadeType (SameAs (composed r u view A V) V) t → MadeExp (SameAs (composed r u view A V) V) v
      → ReturnedExp r u view D E A V loops f H (named.return n (named.present e))
      (named.return (node_at r n s) (named.present (named.block m (named.body k
      (named.statement_and (named.lets q (named.bind p x false) (Some t) (at_site Site.Initialises e')) named.no_statement) (named.present v)))))
  a_bare_return : {n : Node} {s : Span} {e : Exp} → MadeExp (SameAs (composed r u view A V) V) e
      → ReturnedExp r u view D E A V loops f H (named.return n named.absent) (named.return (node_at r n s) (named.present e))

-- returns stand in one another as often as the number says
abbrev pub returned_holes : (r : Renumbering) → PartialInverse r → Viewed → Behind → KnownItems → KnownItems → Assignment → Assignment → (ℕ → ℕ) → ℕ → ℕ → Holes
returned_holes r u view behind D E A V loops f zero = special_at ⊥ r u view behind A V
returned_holes r u view behind D E A V loops f (suc k) = record {
  expression = ReturnedExp r u view D E A V loops f (returned_holes r u view behind D E A V loops f k);
  block = λ b b'. ⊥;
  returns = ⊥;
  uses = λ x m k. k ≡ x.known;
  given_before = λ e e'. ⊥;
}
