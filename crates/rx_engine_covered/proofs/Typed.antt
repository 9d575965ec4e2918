-- Functions of two typed programs, of which the second is the first by other numbers: it has the first's types by these, so its matches are covered where the
-- first's are.
use Rattle.std.proofs.Common.{◌≡◌, ⊎_elim, inl, inr, ℕ, List, [], ◌∷◌, Option, Some, None, sym, ap, ◌∙◌, subst}
use Rattle.rx_core.specs.declared.types.Span.{Span}
use Rattle.rx_core.specs.declared.types.Ty.{Ty}
use Rattle.rx_tree.specs.Plain.{Function}
use Rattle.rx_resolve_names.specs.declared.resolved.NodeNames.{NodeNames}
use Rattle.rx_typed.specs.Types.{unit_shape, Typ}
use Rattle.rx_typed.specs.Tree as tree
use Rattle.rx_typed.specs.Naming.{function_named}
use Rattle.rx_typed.specs.PlainTree.{plain-TypedTree}
use Rattle.rx_typeck_solver.specs.declared.facts.Subject.{Subject}
use Rattle.rx_typeck_solver.specs.declared.facts.Subject.TheVariants as subject
use Rattle.rx_typeck_solver.specs.declared.facts.Fact.{Fact}
use Rattle.rx_typeck_solver.specs.declared.facts.Fact.TheVariants as fact
use Rattle.rx_typeck_solver.specs.declared.facts.Demand.{Demand}
use Rattle.rx_typeck_solver.specs.Ordered.{Orderly}
use Rattle.rx_typeck_solver.specs.Valid.{Tells, TellsAny, Told, Valid}
use Rattle.rx_typeck_typed.specs.Demands.{demands, task}
use Rattle.rx_typeck_typed.specs.declared.typed.TypedFn.{TypedFn}
use Rattle.rx_typeck_typed.specs.Typing.{known_in, type_at, FunctionTyped, Given, TypeIs}
use Rattle.rx_cover.specs.Causes.{AllCovered}
use Rattle.rx_cover.specs.Choices.{choices_of}
use Rattle.rx_engine_blocks.specs.Along.{renumbered_types, unsubject, Inverse}
use Rattle.rx_engine_blocks.specs.DemandsLike.{DemandsLike, FactsLike, NoSpecial}
use Rattle.rx_engine_blocks.specs.DemandsLike.FactLike.{like_fact}
use Rattle.rx_engine_blocks.specs.DemandsLike.FactsLike.{like_more_facts, like_no_fact}
use Rattle.rx_engine_blocks.specs.DemandsLike.DemandsLike.{like_more_demands, like_no_demand, like_other_demands}
use Rattle.rx_engine_blocks.specs.Knows.{Knows}
use Rattle.rx_engine_blocks.specs.Renumbering.{fact_at, shape_at, subject_at, Renumbering}
use Rattle.rx_engine_blocks.proofs.Renumbered.{renumbered_valid}
use Rattle.rx_engine_blocks.proofs.Split.{told_left, told_right, told_split}
use Rattle.rx_engine_typing.specs.Corresponding.{given_types, Corresponding}
use Rattle.rx_engine_typing.specs.Renumbered.{no_holes, RenumberedFunction}
use Rattle.rx_engine_typing.proofs.Forms.{function_like}
use Rattle.rx_engine_typing.proofs.Holes.{no_asks, no_fits}
use Rattle.rx_engine_covered.proofs.Functions.{items_apart, renumbered_covered}

module _ (r : Renumbering) where
  -- what is told stays told
  tells_there : (f : Fact) (x : Subject) → Tells f x → Tells (fact_at r f) (subject_at r x)
  tells_there (fact.Equals y o xs ps) x e = ap (subject_at r) e
  tells_there (fact.Integer n s) x e = ap (subject_at r) e
  tells_there (fact.IntegerBehind n s) x e = absurd e
  tells_there (fact.Passes t xs ps qs) x e = absurd e
  tells_there fact.Never x e = absurd e

  any_there : {fs fs' : List Fact} (x : Subject) → FactsLike r fs fs' → TellsAny fs x → TellsAny fs' (subject_at r x)
  any_there x like_no_fact t = absurd t
  any_there x (like_more_facts (like_fact {f = f}) l) (inl t) = inl (tells_there f x t)
  any_there x (like_more_facts (like_fact {f = f}) l) (inr t) = inr (any_there x l t)

  told_one : (d : Demand) (x : Subject) → Told (d ∷ []) x → TellsAny d.facts x
  told_one d x (inl t) = t
  told_one d x (inr t) = absurd t

  told_there : {ds es : List Demand} (x : Subject) → DemandsLike r NoSpecial ds es → Told ds x → Told es (subject_at r x)
  told_there x like_no_demand t = absurd t
  told_there x (like_other_demands fs gs l z) t = absurd z
  told_there x (like_more_demands {ds = ds} {ds' = es} {d = d} {d' = e} l k) t = ⊎_elim
      (λ h. told_left es (e ∷ []) (subject_at r x) (told_there x l h))
      (λ h. told_right es (e ∷ []) (subject_at r x) (inl (any_there x k.facts (told_one d x h))))
      (told_split ds (d ∷ []) x t)

  back_again : (i : Inverse r) (x : Subject) → unsubject r i (subject_at r x) ≡ x
  back_again i (subject.Variable x) = ap subject.Variable (i.unvaried x)
  back_again i (subject.Node n) = ap subject.Node (i.unnoded n)
  back_again i (subject.Expected n) = ap subject.Expected (i.unnoded n)

module _ (orderly : (i : ℕ) (s : Span) (f : Function) (ns : List NodeNames) → Orderly (task (function_named i s f ns))) (r : Renumbering) (loops : ℕ → ℕ) (back : Inverse r) (G H : Given) (k : Knows r (known_in G) (known_in H))
    (n m : ℕ) (s s' : Span) (f f' : Function) (ns ms : List NodeNames) (vars ws : List Span) (g h : TypedFn) (a : FunctionTyped G n s f ns vars g) (b : FunctionTyped H m s' f' ms ws h)
    (l : RenumberedFunction r loops no_holes (function_named n s f ns) (function_named m s' f' ms)) where
  like : DemandsLike r NoSpecial (demands (function_named n s f ns)) (demands (function_named m s' f' ms))
  like = function_like r loops no_holes NoSpecial (no_fits r loops) (no_asks r loops) l

  valid : Valid (known_in H) (task (function_named m s' f' ms)) (renumbered_types r back a.types)
  valid = renumbered_valid r (known_in G) (known_in H) k back (demands (function_named n s f ns)) (demands (function_named m s' f' ms)) like a.types (orderly m s' f' ms) a.valid

  unit_there : (t : Typ) → t ≡ unit_shape → shape_at r t ≡ unit_shape
  unit_there t e = ap (shape_at r) e

  is_there : (x : Subject) → renumbered_types r back a.types (subject_at r x) ≡ shape_at r (a.types x)
  is_there x = ap (λ (y : Subject). shape_at r (a.types y)) (back_again r back x)

  -- one type, also where nothing is told
  untold_there : (x : Subject) (o : Option Ty) → TypeIs (known_in G) (function_named n s f ns) a.types x o → (Told (demands (function_named m s' f' ms)) (subject_at r x) → ⊥) → shape_at r (a.types x) ≡ unit_shape
  untold_there x None q z = unit_there (a.types x) (a.untold x q)
  untold_there x (Some t) q z = absurd (z (told_there r x like q.0))

  corresponds : (x : Subject) (o : Option Ty) → TypeIs (known_in H) (function_named m s' f' ms) b.types (subject_at r x) o → b.types (subject_at r x) ≡ shape_at r (a.types x)
  corresponds x (Some t) q = sym (valid.only_one b.types b.valid.prefers (subject_at r x) q.0) ∙ is_there x
  corresponds x None q = b.untold (subject_at r x) q ∙ sym (untold_there x (type_at g x) (a.found x) q)

  types_correspond : Corresponding r (given_types (known_in G) a.types) (given_types (known_in H) b.types)
  types_correspond = record {
    items = k.items;
    typ = λ i. corresponds (subject.Node i) (type_at h (subject.Node (r.nodes i))) (b.found (subject.Node (r.nodes i)));
    expected = λ i. corresponds (subject.Expected i) (type_at h (subject.Expected (r.nodes i))) (b.found (subject.Expected (r.nodes i)));
  }

  pub typed_covered : AllCovered (known_in G).items (choices_of (plain-TypedTree g.tree).body) → AllCovered (known_in H).items (choices_of (plain-TypedTree h.tree).body)
  typed_covered c =
      subst (λ (z : tree.Function). AllCovered (known_in H).items (choices_of z.body)) (sym b.tree)
      (renumbered_covered r loops (items_apart r (known_in G) (known_in H) k) (given_types (known_in G) a.types) (given_types (known_in H) b.types) types_correspond (function_named n s f ns) (function_named m s' f' ms) l
      (subst (λ (z : tree.Function). AllCovered (known_in G).items (choices_of z.body)) a.tree c))
