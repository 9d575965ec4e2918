-- A function that stays has the text's types by other numbers of items, so its typed tree is like the text's.
use Rattle.std.proofs.Common.{◌≡◌, ℕ, List, [], ◌∷◌, Option, Some, None, inl, inr, ⊎_elim, refl, sym, ap, ◌∙◌, subst}
use Rattle.rx_core.specs.declared.types.Span.{Span}
use Rattle.rx_core.specs.declared.types.Ty.{Ty}
use Rattle.rx_tree.specs.Plain.{Function}
use Rattle.rx_resolve_names.specs.declared.resolved.NodeNames.{NodeNames}
use Rattle.rx_typed.specs.Types.{unit_shape, Typ}
use Rattle.rx_typed.specs.Tree as tree
use Rattle.rx_typed.specs.Naming.{function_named}
use Rattle.rx_typed.specs.Elaborated.{elaborated}
use Rattle.rx_typed.specs.PlainTree.{plain-TypedTree}
use Rattle.rx_typeck_solver.specs.declared.facts.Subject.{Subject}
use Rattle.rx_typeck_solver.specs.declared.facts.Subject.TheVariants as subject
use Rattle.rx_typeck_solver.specs.declared.facts.Fact.{Fact}
use Rattle.rx_typeck_solver.specs.declared.facts.Fact.TheVariants as fact
use Rattle.rx_typeck_solver.specs.declared.facts.Demand.{Demand}
use Rattle.rx_typeck_solver.specs.Valid.{Told, Tells, TellsAny, Valid}
use Rattle.rx_typeck_typed.specs.Demands.{demands, task}
use Rattle.rx_typeck_solver.specs.Ordered.{Orderly}
use Rattle.rx_typeck_typed.specs.declared.typed.TypedFn.{TypedFn}
use Rattle.rx_typeck_typed.specs.Typing.{Given, known_in, type_at, TypeIs, FunctionTyped}
use Rattle.rx_engine_blocks.specs.Renumbering.{Renumbering, shape_at, subject_at, fact_at}
use Rattle.rx_engine_blocks.specs.DemandsLike.{NoSpecial, FactsLike, DemandsLike}
use Rattle.rx_engine_blocks.specs.DemandsLike.FactLike.{like_fact}
use Rattle.rx_engine_blocks.specs.DemandsLike.FactsLike.{like_no_fact, like_more_facts}
use Rattle.rx_engine_blocks.specs.DemandsLike.DemandsLike.{like_no_demand, like_more_demands, like_other_demands}
use Rattle.rx_engine_blocks.specs.Knows.{Knows}
use Rattle.rx_engine_blocks.specs.Along.{Inverse, renumbered_types}
use Rattle.rx_engine_blocks.proofs.Split.{told_split, told_left, told_right}
use Rattle.rx_engine_blocks.proofs.Renumbered.{renumbered_valid}
use Rattle.rx_engine_simulation.specs.Turns.{Allowance}
use Rattle.rx_engine_simulation.specs.Openings.{Openings}
use Rattle.rx_engine_simulation.specs.Programs.{LikeFunction}
use Rattle.rx_engine_typing.specs.Renumbered.{no_holes, RenumberedFunction}
use Rattle.rx_engine_typing.specs.Corresponding.{given_types, Corresponding, FieldsApart}
use Rattle.rx_engine_typing.specs.Scoped.{ScopedFunction}
use Rattle.rx_engine_typing.proofs.Forms.{function_like}
use Rattle.rx_engine_typing.proofs.Holes.{no_fits, no_asks}
use Rattle.rx_engine_typing.proofs.Whole.{whole_alike}
use Rattle.rx_engine_validated.specs.Kept.{kept, same}

-- ---- what is told stays told

module _ (r : Renumbering) where
  tells_there : (f : Fact) (x : Subject) → Tells f x → Tells (fact_at r f) (subject_at r x)
  tells_there (fact.Equals y o xs ps) x e = ap (subject_at r) e
  tells_there (fact.Integer n s) x e = ap (subject_at r) e
  tells_there (fact.IntegerBehind n s) x e = absurd e
  tells_there (fact.Passes t xs ps qs) x e = absurd e
  tells_there fact.Never x e = absurd e

  any_there : {fs fs' : List Fact} (x : Subject) → FactsLike r fs fs' → TellsAny fs x → TellsAny fs' (subject_at r x)
  any_there x like_no_fact t = absurd t
  any_there x (like_more_facts (like_fact {f = f}) l) (inl t) = inl (tells_there f x t)
  any_there x (like_more_facts (like_fact {f = f}) l) (inr t) = inr (any_there x l t)

  told_one : (d : Demand) (x : Subject) → Told (d ∷ []) x → TellsAny d.facts x
  told_one d x (inl t) = t
  told_one d x (inr t) = absurd t

  pub told_there : {ds es : List Demand} (x : Subject) → DemandsLike r NoSpecial ds es → Told ds x → Told es (subject_at r x)
  told_there x like_no_demand t = absurd t
  told_there x (like_other_demands fs gs l z) t = absurd z
  told_there x (like_more_demands {ds = ds} {ds' = es} {d = d} {d' = e} l k) t = ⊎_elim
      (λ h. told_left es (e ∷ []) (subject_at r x) (told_there x l h))
      (λ h. told_right es (e ∷ []) (subject_at r x) (inl (any_there x k.facts (told_one d x h))))
      (told_split ds (d ∷ []) x t)

-- ---- the numbers of nodes and variables are kept

same_subject : (items : ℕ → ℕ) (x : Subject) → subject_at (kept items) x ≡ x
same_subject items (subject.Variable x) = refl
same_subject items (subject.Node n) = refl
same_subject items (subject.Expected n) = refl

abbrev back : (items : ℕ → ℕ) → Inverse (kept items)
back items = record { unnode = λ n. n; unnoded = λ n. refl; unvariable = λ x. x; unvaried = λ x. refl }

module _ (orderly : (i : ℕ) (s : Span) (f : Function) (ns : List NodeNames) → Orderly (task (function_named i s f ns))) (items : ℕ → ℕ) (G H : Given) (k : Knows (kept items) (known_in G) (known_in H)) (n m : ℕ) (s : Span) (f : Function) (ns ms : List NodeNames) (vars ws : List Span) (g h : TypedFn)
    (a : FunctionTyped G n s f ns vars g) (b : FunctionTyped H m s f ms ws h) (l : RenumberedFunction (kept items) same no_holes (function_named n s f ns) (function_named m s f ms)) where
  abbrev r : Renumbering
  r = kept items

  like : DemandsLike r NoSpecial (demands (function_named n s f ns)) (demands (function_named m s f ms))
  like = function_like r same no_holes NoSpecial (no_fits r same) (no_asks r same) l

  valid : Valid (known_in H) (task (function_named m s f ms)) (renumbered_types r (back items) a.types)
  valid = renumbered_valid r (known_in G) (known_in H) k (back items) (demands (function_named n s f ns)) (demands (function_named m s f ms)) like a.types (orderly m s f ms) a.valid

  unit_there : (t : Typ) → t ≡ unit_shape → shape_at r t ≡ unit_shape
  unit_there t e = ap (shape_at r) e

  -- one type, also where nothing is told
  corresponds : (x : Subject) (o : Option Ty) → TypeIs (known_in H) (function_named m s f ms) b.types x o → b.types x ≡ renumbered_types r (back items) a.types x
  corresponds x (Some t) q = sym (valid.only_one b.types b.valid.prefers x q.0)
  corresponds x None q = b.untold x q ∙ sym (untold_there x (type_at g x) (a.found x) q)
    where
      untold_there : (x : Subject) (o : Option Ty) → TypeIs (known_in G) (function_named n s f ns) a.types x o → (Told (demands (function_named m s f ms)) x → ⊥) → renumbered_types r (back items) a.types x ≡ unit_shape
      untold_there (subject.Variable y) None q z = unit_there (a.types (subject.Variable y)) (a.untold (subject.Variable y) q)
      untold_there (subject.Node y) None q z = unit_there (a.types (subject.Node y)) (a.untold (subject.Node y) q)
      untold_there (subject.Expected y) None q z = unit_there (a.types (subject.Expected y)) (a.untold (subject.Expected y) q)
      untold_there x (Some t) q z = absurd (z (subst (λ (y : Subject). Told (demands (function_named m s f ms)) y) (same_subject items x) (told_there r x like q.0)))

  types_correspond : Corresponding r (given_types (known_in G) a.types) (given_types (known_in H) b.types)
  types_correspond = record {
    items = k.items;
    typ = λ i. corresponds (subject.Node i) (type_at h (subject.Node i)) (b.found (subject.Node i));
    expected = λ i. corresponds (subject.Expected i) (type_at h (subject.Expected i)) (b.found (subject.Expected i));
  }

  pub staying_alike : (O : Openings) (gain : Allowance) → FieldsApart (known_in G).items → ScopedFunction (function_named n s f ns) → LikeFunction items O gain (plain-TypedTree g.tree) (plain-TypedTree h.tree)
  staying_alike O gain fields scoped =
      subst (λ (z : tree.Function). LikeFunction items O gain z (plain-TypedTree h.tree)) (sym a.tree)
      (subst (λ (z : tree.Function). LikeFunction items O gain (elaborated (given_types (known_in G) a.types) (function_named n s f ns)) z) (sym b.tree)
      (whole_alike r same (known_in G) a.types (given_types (known_in H) b.types) types_correspond fields O gain (λ x y e. e) (λ x y e. e) (function_named n s f ns) (function_named m s f ms) l scoped a.valid.prefers.typed))
