-- Where the demands of a function are met, each of its variables was told, and each of its nodes that isn't Never.
use Rattle.std.proofs.Common.{◌≡◌, ℕ, zero, suc, ◌<◌, Bool, true, false, List, [], ◌∷◌, ◌++◌, length, Option, Some, None, refl, sym, ap, subst, ◌∙◌, inl, inr, ⊎_elim, arith}
use Rattle.rx_core.specs.declared.types.Span.{Span}
use Rattle.rx_tree.specs.Plain.{TypeTree, Parameter, Function}
use Rattle.rx_resolve_names.specs.declared.resolved.NodeNames.{NodeNames}
use Rattle.rx_typed.specs.declared.nodes.Node.{Node}
use Rattle.rx_typed.specs.declared.nodes.Site.{Site}
use Rattle.rx_typed.specs.declared.nodes.Stage.{Stage}
use Rattle.rx_typed.specs.declared.nodes.Declaration.{Declaration}
use Rattle.rx_typed.specs.Named as named
use Rattle.rx_typed.specs.Named.{Written, written_node, body_node}
use Rattle.rx_typed.specs.Naming as naming
use Rattle.rx_typed.specs.Naming.{Cursor, a_node, all_waiting, a_waiting, function_named, function_variables}
use Rattle.rx_typeck_solver.specs.declared.facts.Subject.{Subject}
use Rattle.rx_typeck_solver.specs.declared.facts.Subject.TheVariants as subject
use Rattle.rx_typeck_solver.specs.declared.facts.Op.TheVariants as op
use Rattle.rx_typeck_solver.specs.declared.facts.Demand.{Demand}
use Rattle.rx_typeck_solver.specs.Facts.{Assignment, KnownItems}
use Rattle.rx_typeck_solver.specs.Valid.{IsIn}
use Rattle.rx_typeck_typed.specs.Demands as rules
use Rattle.rx_typeck_typed.specs.Nodes.{type_nodes, optional_nodes, parameters_nodes, nodes as all_nodes, body_nodes}
use Rattle.rx_typeck_typed.proofs.Adding
use Rattle.rx_typeck_typed.proofs.Adding.{Longer, longer_same, longer_then, asks_add, never_given_adds}
use Rattle.rx_typeck_typed.proofs.Telling.{Sure, sure_longer, sure_asked, sure_refused, whole_type_told}
use Rattle.rx_typeck_typed.proofs.Stages.{stage, Counted, known_given, known_inside, waits_within, behind_old, behind_new, longer_by, less_or, Still, entry_still, type_still}
use Rattle.rx_typeck_typed.proofs.Walks.{Later, Walk, walk_then}
use Rattle.rx_typeck_typed.proofs.ExpressionWalks.{stay, asked, moved, node_walk, type_walk, body_walk, known_waits, known_no_given}

module _ (K : KnownItems) (A : Assignment) where
  -- a parameter is a variable whose type is known, and told
  parameter_walk : (x : Parameter) (c : Cursor) (ds : List Demand) → Counted c
      → Walk K A c ds (naming.of_parameter x c).1 (rules.of_parameter (naming.of_parameter x c).0 ds) (type_nodes (naming.of_parameter x c).0.typ)
  parameter_walk x c ds h = record {
    longer = l;
    grows = omega (arith, same);
    counted = same ∙ ap suc h ∙ sym (longer_by c.variables d) ∙ sym size;
    waits = λ y k q w. inl (after y ∙ behind_old c.variables d y (waits_within c.variables y k q w) ∙ w);
    waiting = λ y k q w. ⊎_elim (λ o. inl (sym (behind_old c.variables d y o) ∙ sym (after y) ∙ w))
        (λ o. ⊎_elim (λ e. known_waits k q (sym e.1 ∙ sym (after y) ∙ w)) (λ e. inr (omega (arith, o, h))) (behind_new c.variables d y o)) (less_or y (length c.variables));
    known = λ y w. ⊎_elim (λ o. inl (sym (behind_old c.variables d y o) ∙ sym (after y) ∙ w))
        (λ o. ⊎_elim (λ e. inr (at_variable y (e.0 ∙ sym h))) (λ e. known_given (sym w ∙ after y ∙ e.1)) (behind_new c.variables d y o)) (less_or y (length c.variables));
    given = λ y i w. ⊎_elim (λ o. (omega (arith, o, h), sym (behind_old c.variables d y o) ∙ sym (after y) ∙ w))
        (λ o. ⊎_elim (λ e. known_no_given (sym e.1 ∙ sym (after y) ∙ w)) (λ e. let u = e.0 in absurd (omega (arith, u, i, same, h))) (behind_new c.variables d y o)) (less_or y (length c.variables));
    nodes = λ n i. inl (sure_longer K A (asks_add (written_node Y.0) _ _ _ _) (whole_type_told K A Y.0 ds n i));
  }
    where
      d : Declaration
      d = record { mutable = x.mutable; stage = Stage.Known }

      c1 : Cursor
      c1 = (naming.declare d c).1

      Y : Written × Cursor
      Y = naming.of_type x.typ c1

      same : Y.1.declared ≡ suc c.declared
      same = (type_still x.typ c1).declared

      size : length Y.1.variables ≡ length (c.variables ++ d ∷ [])
      size = ap (λ (vs : List Declaration). length vs) (type_still x.typ c1).variables

      after : (y : ℕ) → stage Y.1.variables y ≡ stage (c.variables ++ d ∷ []) y
      after y = ap (λ (vs : List Declaration). stage vs y) (type_still x.typ c1).variables

      l : Longer ds (rules.of_parameter (naming.of_parameter x c).0 ds)
      l = Adding.parameter_adds (naming.of_parameter x c).0 ds

      at_variable : (y : ℕ) → y ≡ c.declared → Sure K A (rules.of_parameter (naming.of_parameter x c).0 ds) (subject.Variable y)
      at_variable y e = subst (λ k. Sure K A (rules.of_parameter (naming.of_parameter x c).0 ds) (subject.Variable k)) (sym e)
          (sure_asked K A (written_node Y.0) _ _ _ (rules.whole_type Y.0 ds) (subject.Variable c.declared) (inl refl))

  parameters_walk : (xs : List Parameter) (c : Cursor) (ds : List Demand) → Counted c
      → Walk K A c ds (naming.of_parameters xs c).1 (rules.of_parameters (naming.of_parameters xs c).0 ds) (parameters_nodes (naming.of_parameters xs c).0)
  parameters_walk [] c ds h = stay K A c ds h
  parameters_walk (x ∷ xs) c ds h = let a = parameter_walk x c ds h in walk_then K A a (parameters_walk xs (naming.of_parameter x c).1 _ a.counted)

  result_walk : (y : Option TypeTree) (c : Cursor) (ds : List Demand) → Counted c
      → Walk K A c ds (naming.of_optional_type y c).1 (rules.of_result (naming.of_optional_type y c).0 ds) (optional_nodes (naming.of_optional_type y c).0)
  result_walk None c ds h = stay K A c ds h
  result_walk (Some y) c ds h = type_walk K A y c ds h

  entry_if_still : (b : Bool) (c : Cursor) → Still c (naming.entry_if b c).1
  entry_if_still true c = entry_still c
  entry_if_still false c = record { variables = refl; declared = refl }

  -- where a variable waits to the end, all is refused
  refused : (vs : List Declaration) (x n : ℕ) (s : Span) → stage vs x ≡ Stage.Waits n s → (ds : List Demand) (y : Subject) → Sure K A (rules.of_never_given (all_waiting vs) ds) y
  refused [] zero n s h ds y = absurd (let i = waits_within [] zero n s h in omega (arith, i))
  refused [] (suc x) n s h ds y = absurd (let i = waits_within [] (suc x) n s h in omega (arith, i))
  refused (v ∷ vs) x n s h ds y = at (λ x h. refused vs x n s h ds y) v.stage x h
    where
      first : (m : Node) (ms : List Node) → Sure K A (rules.of_never_given (m ∷ ms) ds) y
      first m ms = sure_longer K A (never_given_adds ms _) (sure_refused K A m _ _ ds y)

      at : ((x : ℕ) → stage vs x ≡ Stage.Waits n s → Sure K A (rules.of_never_given (all_waiting vs) ds) y) → (t : Stage) (x : ℕ) → stage (record { mutable = v.mutable; stage = t } ∷ vs) x ≡ Stage.Waits n s
          → Sure K A (rules.of_never_given (a_waiting t ++ all_waiting vs) ds) y
      at rest (Stage.Waits p q) x h = first (record { number = p; span = q; site = Site.Value }) (all_waiting vs)
      at rest Stage.Known zero h = known_waits n s h
      at rest Stage.Known (suc x) h = rest x h
      at rest Stage.Given zero h = absurd (cc)
      at rest Stage.Given (suc x) h = rest x h

  -- the walk over a whole function, up to the variables that wait
  module _ (i : ℕ) (s : Span) (f : Function) (ns : List NodeNames) where
    abbrev c0 : Cursor
    c0 = naming.begins ns

    abbrev c2 : Cursor
    c2 = (naming.entry_if (naming.has_entry f) (a_node s Site.Value c0).1).1

    abbrev P : List named.Parameter × Cursor
    P = naming.of_parameters f.params c2

    abbrev T : Option Written × Cursor
    T = naming.of_optional_type f.result P.1

    abbrev B : named.Body × Cursor
    B = naming.of_body Site.Expects f.body T.1

    abbrev all_but_waiting : List Demand
    all_but_waiting = rules.of_body i B.0 (rules.expects (body_node B.0) (op.Result i) [] (rules.of_result T.0 (rules.of_parameters P.0 [])))

    function_walk : Walk K A c0 [] B.1 all_but_waiting (parameters_nodes P.0 ++ (optional_nodes T.0 ++ body_nodes true B.0))
    function_walk =
        let a = walk_then K A (node_walk K A s Site.Value c0 [] refl) (moved K A (a_node s Site.Value c0).1 c2 [] (entry_if_still (naming.has_entry f) (a_node s Site.Value c0).1) refl) in
        let p = parameters_walk f.params c2 [] a.counted in
        let t = result_walk f.result P.1 _ p.counted in
        let e = asked K A T.1 _ (rules.expects (body_node B.0) (op.Result i) []) (asks_add (body_node B.0) _ _ _) t.counted in
        let b = body_walk K A i f.body Site.Expects T.1 _ t.counted in
        walk_then K A a (walk_then K A p (walk_then K A t (walk_then K A e b)))

    nothing_declared : (x : ℕ) → x < 0 → ⊥
    nothing_declared x h = omega (arith, h)

    pub variable_sure : (x : ℕ) → x < length (function_variables s f ns) → Sure K A (rules.demands (function_named i s f ns)) (subject.Variable x)
    variable_sure x h = at (stage B.1.variables x) refl
      where
        at : (t : Stage) → stage B.1.variables x ≡ t → Sure K A (rules.demands (function_named i s f ns)) (subject.Variable x)
        at Stage.Known e = ⊎_elim (λ k. absurd (nothing_declared x (known_inside [] x k))) (λ t. sure_longer K A (never_given_adds (all_waiting B.1.variables) _) t) (function_walk.known x e)
        at (Stage.Waits n q) e = refused B.1.variables x n q e _ (subject.Variable x)
        at Stage.Given e = let n = function_walk.counted in let g = function_walk.given x (omega (arith, h, n)) e in absurd (nothing_declared x g.0)

    pub node_sure : (n : ℕ) → IsIn n (all_nodes true (function_named i s f ns)) → Sure K A (rules.demands (function_named i s f ns)) (subject.Node n)
    node_sure n h = at (function_walk.nodes n h)
      where
        at : Later K A B.1 all_but_waiting n → Sure K A (rules.demands (function_named i s f ns)) (subject.Node n)
        at (inl t) = sure_longer K A (never_given_adds (all_waiting B.1.variables) _) t
        at (inr w) = refused B.1.variables w.0 n w.1 w.2 _ (subject.Node n)
