-- An extraction has one text, and this is read as it; what is found of the file's own bytes makes the text.
use Rattle.std.proofs.Common.{◌≡◌, ℕ, List, Option, Some, None, sym, subst, ◌∙◌}
use Rattle.std.specs.Prelude.{SomeIff, MatchOption}
use Rattle.rx_core.specs.declared.types.Span.{Span}
use Rattle.rx_tree.specs.Lists.{nth}
use Rattle.rx_tree.specs.Plain as plain
use Rattle.rx_tree.specs.Plain.{Function, ItemTree, ProgramTree}
use Rattle.rx_lex.specs.Tok.{Tok}
use Rattle.rx_hoist_extraction.specs.Run.{Run}
use Rattle.rx_hoist_extraction.specs.Plan.{Bounds, Plan}
use Rattle.rx_hoist_extraction.specs.Extraction.{extraction}
use Rattle.rx_splice_laws.specs.SplicedText.{spliced_text}
use Rattle.rx_engine_extraction.specs.Rendering.{CanBeMade, IsReadAs, RendersIn, Renders}

pub same_iff : {A : Type 0} (B C : Type 0) (v w : A) → (B → C) → (C → B) → v ≡ w → (o : Option A) → SomeIff o B v → SomeIff o C w
same_iff B C v w to back e None h = λ x. h (back x)
same_iff B C v w to back e (Some a) h = (to h.0, h.1 ∙ e)

module _ (bytes : List ℕ) (all : List Tok) (P : ProgramTree) (r : Run) (pl : Plan) (bs : Bounds) where
  abbrev whole : ProgramTree
  whole = extraction P r pl bs

  one_at : (t u : List ℕ) (o : Option ItemTree) → RendersIn bytes all P r pl bs t o → RendersIn bytes all P r pl bs u o → t ≡ u
  one_at t u None h k = absurd h
  one_at t u (Some (plain.function_item s f)) h k = h.1 ∙ sym k.1
  one_at t u (Some (plain.rt_item s x)) h k = absurd h
  one_at t u (Some (plain.struct_item s x)) h k = absurd h
  one_at t u (Some (plain.enum_item s x)) h k = absurd h

  pub one_rendering : (t u : List ℕ) → Renders bytes all P r pl bs t → Renders bytes all P r pl bs u → t ≡ u
  one_rendering t u h k = one_at t u (nth P r.item) h k

  read_at : (t : List ℕ) (o : Option ItemTree) → RendersIn bytes all P r pl bs t o → IsReadAs t whole
  read_at t None h = absurd h
  read_at t (Some (plain.function_item s f)) h = h.2
  read_at t (Some (plain.rt_item s x)) h = absurd h
  read_at t (Some (plain.struct_item s x)) h = absurd h
  read_at t (Some (plain.enum_item s x)) h = absurd h

  pub rendering_read : (t : List ℕ) → Renders bytes all P r pl bs t → IsReadAs t whole
  rendering_read t h = read_at t (nth P r.item) h

  -- ---- from what is found

  module _ (s : Span) (f : Function) (there : nth P r.item ≡ Some (plain.function_item s f)) where
    abbrev edited : List ℕ
    edited = spliced_text bytes all P r pl bs f

    into : (t : List ℕ) → CanBeMade bytes all P r pl f → t ≡ edited → IsReadAs t whole → Renders bytes all P r pl bs t
    into t m e h = subst (λ (o : Option ItemTree). RendersIn bytes all P r pl bs t o) (sym there) (m, e, h)

    out : (t : List ℕ) → Renders bytes all P r pl bs t → CanBeMade bytes all P r pl f × (t ≡ edited) × IsReadAs t whole
    out t h = subst (λ (o : Option ItemTree). RendersIn bytes all P r pl bs t o) there h

    pub none_made : (CanBeMade bytes all P r pl f → ⊥) → (t : List ℕ) → Renders bytes all P r pl bs t → ⊥
    none_made n t h = let x = out t h in n x.0

    pub read_or_none : (text : List ℕ) → CanBeMade bytes all P r pl f → text ≡ edited → (p : ProgramTree) → p ≡ whole → (o : Option (List ℕ)) → SomeIff o (IsReadAs text p) text
        → MatchOption o ((t : List ℕ) → Renders bytes all P r pl bs t → ⊥) (λ t. Renders bytes all P r pl bs t)
    read_or_none text m e p q (Some t) h =
        into t m (h.1 ∙ e) (subst (λ (x : List ℕ). IsReadAs x whole) (sym h.1) (subst (λ (x : ProgramTree). IsReadAs text x) q h.0))
    read_or_none text m e p q None h = λ t k. let x = out t k in
        h (subst (λ (y : ProgramTree). IsReadAs text y) (sym q) (subst (λ (y : List ℕ). IsReadAs y whole) (x.1 ∙ sym e) x.2))
