-- The blocks of demands: a variable that is behind a reference, tests that the answer makes otherwise, what the answer adds or asks otherwise,
-- a literal that gets its suffix, and what another part has.
use Rattle.std.proofs.Common.{◌≡◌, ℕ, false, List, [], ◌∷◌, Option, Some, None, sym, ap, ◌∙◌}
use Rattle.rx_core.specs.declared.types.Span.{Span}
use Rattle.rx_typed.specs.Types.{Typ}
use Rattle.rx_typeck_solver.specs.declared.facts.Broken.{Broken}
use Rattle.rx_typeck_solver.specs.declared.facts.Subject.{Subject}
use Rattle.rx_typeck_solver.specs.declared.facts.Subject.TheVariants as subject
use Rattle.rx_typeck_solver.specs.declared.facts.Passing.{Passing}
use Rattle.rx_typeck_solver.specs.declared.facts.Test.{Test}
use Rattle.rx_typeck_solver.specs.declared.facts.Fact.TheVariants as fact
use Rattle.rx_typeck_solver.specs.declared.facts.Demand.{Demand}
use Rattle.rx_typeck_solver.specs.Facts.{Assignment, KnownItems, pointee, MeetsEach}
use Rattle.rx_engine_blocks.specs.Renumbering.{Renumbering, shape_at}
use Rattle.rx_engine_blocks.specs.Knows.{Knows}
use Rattle.rx_engine_blocks.specs.Along.{PartialInverse, Viewed, shared, composed}
use Rattle.rx_engine_blocks.specs.Blocks.{Behind, Tied, Block, AllReferences, References}
use Rattle.rx_engine_blocks.specs.Parts.{SameAs, Elsewhere, Added}
use Rattle.rx_engine_blocks.specs.Seen.{a_demand, of_variable, of_reference, SeenDemands}
use Rattle.rx_engine_blocks.specs.Seen.SeenDemands.{seen_variable, longer, assigned}
use Rattle.rx_engine_blocks.proofs.Same.{each_same, test_anywhere}
use Rattle.rx_engine_blocks.proofs.Meets.{shape_apart}
use Rattle.rx_engine_blocks.proofs.Outlines.{composed_sees, composed_new, met_untested}

some_same : (t v : Typ) → ◌≡◌ {A = Option Typ} (Some t) (Some v) → t ≡ v
some_same t v e = cc

module _ (r : Renumbering) (u : PartialInverse r) (view : Viewed) (behind : Behind) (IsFixed : Subject → Type 0) (D D' : KnownItems) (known : Knows r D D') (A V : Assignment) where
  abbrev B2 : List Demand → List Demand → Type 0
  B2 = Block r u view behind IsFixed D D' A V

  abbrev A' : Assignment
  A' = composed r u view A V

  -- what the answer adds
  pub added : (es' : List Demand) → Added A' V es' → B2 [] es'
  added es' h = record {
    there = λ _ k. met_untested D' A' es' (each_same D' V A' (SameAs A' V) (λ y e. sym e) es' h.about k);
    back = λ B C t h k. tt;
    literal = λ m i. absurd (h.literals m i);
  }

  -- what another part has: what is fixed is enough for it
  pub left : (ds : List Demand) → Elsewhere D A IsFixed ds → B2 ds []
  left ds f = record { there = λ _ _. tt; back = λ B C t h k. f B t.outlines t.settled h; literal = λ m i. absurd i }

  -- a test of the text, against one of the answer
  pub tested : {n k : ℕ} {s s' : Span} {b b' : Broken} {t t' : Test} {xs xs' : List Subject} {ps qs ps' qs' : List Passing}
      → B2 (a_demand n s b (fact.Passes t xs ps qs) ∷ []) (a_demand k s' b' (fact.Passes t' xs' ps' qs') ∷ [])
  tested {t = t} {xs = xs} {ps = ps} {qs = qs} = record {
    there = λ h w. (tt, tt);
    back = λ B C e h w. ((test_anywhere D A B e.outlines t xs ps qs h.0.0, tt), tt);
    literal = λ m i. absurd i;
  }

  pub test_added : {k : ℕ} {s : Span} {b : Broken} {t : Test} {xs : List Subject} {ps qs : List Passing} → B2 [] (a_demand k s b (fact.Passes t xs ps qs) ∷ [])
  test_added = record { there = λ h w. (tt, tt); back = λ B C e h w. tt; literal = λ m i. absurd i }

  -- ---- a variable that is behind a reference: `x` is `*y`

  module _ (es : List Demand) (references : AllReferences r u view behind D' A es) (met : MeetsEach D' V es) where
    new_variable : (y : ℕ) → u.variable y ≡ None → A' (subject.Variable y) ≡ V (subject.Variable y)
    new_variable y e = composed_new r u view A V (subject.Variable y) (ap (λ o. named o) e)
      where
        named : Option ℕ → Option Subject
        named None = None
        named (Some x) = Some (subject.Variable x)

    new_node : (k : ℕ) → u.node k ≡ None → A' (subject.Node k) ≡ V (subject.Node k)
    new_node k e = composed_new r u view A V (subject.Node k) (ap (λ o. named o) e)
      where
        named : Option ℕ → Option Subject
        named None = None
        named (Some x) = Some (subject.Node x)

    through_reference : {n x y k : ℕ} {s s' t : Span} {b c e : Broken} → behind x ≡ Some y → u.node k ≡ None → view (subject.Node n) ≡ false
        → B2 (of_variable n s b x ∷ []) (of_variable k s' c y ∷ of_reference (r.nodes n) t e k ∷ [])
    through_reference {n = n} {x = x} {y = y} {k = k} h i v = record { there = there; back = back; literal = λ m j. absurd j }
      where
        R : References r u view behind D' A es x y
        R = references x y h

        here : A' (subject.Node (r.nodes n)) ≡ shape_at r (A (subject.Node n))
        here = composed_sees r u view A V (subject.Node n) ∙ ap (λ b. shared b (shape_at r (A (subject.Node n)))) v

        there : ((Some (A (subject.Variable x)) ≡ Some (A (subject.Node n))) × Unit {0}) × Unit {0}
            → ((Some (V (subject.Variable y)) ≡ Some (V (subject.Node k))) × Unit {0}) × (((pointee (V (subject.Node k)) ≡ Some (V (subject.Node (r.nodes n)))) × Unit {0}) × Unit {0})
            → ((Some (A' (subject.Variable y)) ≡ Some (A' (subject.Node k))) × Unit {0}) × (((pointee (A' (subject.Node k)) ≡ Some (A' (subject.Node (r.nodes n)))) × Unit {0}) × Unit {0})
        there w m =
            let its = new_node k i ∙ sym (some_same _ _ m.0.0) ∙ R.leads V met in (
              (ap Some (new_variable y R.new ∙ R.leads V met ∙ sym its), tt),
              ((ap pointee its ∙ ap Some (ap (shape_at r) (some_same _ _ w.0.0) ∙ sym here), tt), tt),
            )

        back : (B C : Assignment) → Tied r view behind IsFixed A B C → ((Some (A (subject.Variable x)) ≡ Some (A (subject.Node n))) × Unit {0}) × Unit {0}
            → ((Some (C (subject.Variable y)) ≡ Some (C (subject.Node k))) × Unit {0}) × (((pointee (C (subject.Node k)) ≡ Some (C (subject.Node (r.nodes n)))) × Unit {0}) × Unit {0})
            → ((Some (B (subject.Variable x)) ≡ Some (B (subject.Node n))) × Unit {0}) × Unit {0}
        back B C t w m =
            let q = t.refers x y h in
            let p = some_same _ _ (ap pointee (sym q.1 ∙ some_same _ _ m.0.0) ∙ m.1.0.0) in
            let its = t.sees (subject.Variable x) ∙ ap (λ b. shared b (shape_at r (B (subject.Variable x)))) R.as_it_is in
            let mine = t.sees (subject.Node n) ∙ ap (λ b. shared b (shape_at r (B (subject.Node n)))) v in
            ((ap Some (shape_apart r D D' known (B (subject.Variable x)) (B (subject.Node n)) (sym its ∙ p ∙ mine)), tt), tt)

    pub seen_block : (gs gs' : List Demand) → SeenDemands r u view behind gs gs' → B2 gs gs'
    seen_block gs gs' (seen_variable h i v) = through_reference h i v
    seen_block gs gs' (longer xs anc ps k) = tested
    seen_block gs gs' (assigned n) = test_added
