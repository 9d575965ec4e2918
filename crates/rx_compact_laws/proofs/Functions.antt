-- A function whose lifetimes are written otherwise is numbered as before.
use Rattle.std.proofs.Common.{◌≡◌, ℕ, Bool, true, false, List, [], ◌∷◌, map, Option, refl, sym, ap, subst}
use Rattle.rx_core.specs.declared.types.Span.{Span}
use Rattle.rx_tree.specs.Plain.{TypeTree, Parameter, Body, Function}
use Rattle.rx_resolve_names.specs.declared.resolved.NodeNames.{NodeNames}
use Rattle.rx_typed.specs.declared.nodes.Site.{Site}
use Rattle.rx_typed.specs.declared.nodes.Stage.{Stage}
use Rattle.rx_typed.specs.Named as named
use Rattle.rx_typed.specs.Naming.{Annotation, Cursor, Numbering, give, and_then, a_node, declare, of_optional_type, of_parameter, of_parameters, of_body, has_entry, entry_if, begins, left_waiting, of_function, function_named, function_spans, function_variables, function_annotations}
use Rattle.rx_compact_lifetimes.specs.declared.rewriting.Rewriting.{Rewriting}
use Rattle.rx_compact_lifetimes.specs.Rewritten.{rewritten_optional, rewritten_parameter, rewritten_body}
use Rattle.rx_compact_laws.specs.Beside.{Left, InBoth, LetsBeside, moved, Stands, Goes, in_optional_type, in_parameters, in_body, own_entry, Nothing, Beside, IsRewritten}
use Rattle.rx_compact_laws.proofs.Numbering.{given, next, passed, pass_both, pass_old, type_same, optional_type_same}
use Rattle.rx_compact_laws.proofs.Expressions.{body}

entry_same : {K : InBoth} (x y : Bool) (C : Left) (c : Cursor) (ms : List NodeNames) (ls : List Annotation) → Stands K (own_entry x y C) c.names c.annotations ms ls → Goes K C (passed (entry_if x c)) (passed (entry_if y (moved c ms ls)))
entry_same {K = K} true true C c ms ls p = pass_both K C c.names ms c ls p.left p.lets
entry_same {K = K} true false C c ms ls p = pass_old K C c.names ms c ls p.left p.lets
entry_same false true C c ms ls p = absurd p.left
entry_same false false C c ms ls p = record { names = ms; lets = ls; is = refl; rest = p }

abbrev parameter_of : ℕ → named.Written → named.Parameter
parameter_of v t = record { variable = v; typ = t }

parameters_same : (K : InBoth) (rs : List Rewriting) (xs : List Parameter) (C : Left) (c : Cursor) (ms : List NodeNames) (ls : List Annotation) → Stands K (in_parameters rs xs C) c.names c.annotations ms ls
    → Goes K C (of_parameters xs c) (of_parameters (map (rewritten_parameter rs) xs) (moved c ms ls))
parameters_same K rs [] C c ms ls p = record { names = ms; lets = ls; is = refl; rest = p }
parameters_same K rs (x ∷ xs) C c ms ls p =
    let d = declare (record { mutable = x.mutable; stage = Stage.Known }) c in
    next (λ y. and_then (of_parameters xs) (λ ys. give (y ∷ ys))) (λ y. and_then (of_parameters (map (rewritten_parameter rs) xs)) (λ ys. give (y ∷ ys)))
    (given (parameter_of d.0) (type_same K rs x.typ (in_parameters rs xs C) d.1 ms ls p))
    (λ ks es q. given (λ ys. (of_parameter x c).0 ∷ ys) (parameters_same K rs xs C (of_parameter x c).1 ks es q))

-- by the parts that are numbered
abbrev numbered : ℕ → Span → Bool → List Parameter → Option TypeTree → Body → Numbering named.Function
numbered i s b xs t e = and_then (a_node s Site.Value) (λ u. and_then (entry_if b) (λ v. and_then (of_parameters xs) (λ ps.
    and_then (of_optional_type t) (λ t. and_then (of_body Site.Expects e) (λ b. and_then left_waiting (λ ws.
    give (record { item = i; params = ps; result = t; body = b; never_given = ws })))))))

abbrev behind_entry : ℕ → List Parameter → Option TypeTree → Body → Numbering named.Function
behind_entry i xs t e = and_then (of_parameters xs) (λ ps. and_then (of_optional_type t) (λ t. and_then (of_body Site.Expects e) (λ b. and_then left_waiting (λ ws.
    give (record { item = i; params = ps; result = t; body = b; never_given = ws })))))

module _ (rs : List Rewriting) (K : InBoth) (i : ℕ) (xs : List Parameter) (t : Option TypeTree) (e : Body) where
  abbrev ys : List Parameter
  ys = map (rewritten_parameter rs) xs

  abbrev u : Option TypeTree
  u = rewritten_optional rs t

  abbrev d : Body
  d = rewritten_body K.by e

  behind_same : (c : Cursor) (ms : List NodeNames) (ls : List Annotation) → Stands K (in_parameters rs xs (in_optional_type rs t (in_body K e Nothing))) c.names c.annotations ms ls
      → Goes K Nothing (behind_entry i xs t e c) (behind_entry i ys u d (moved c ms ls))
  behind_same c ms ls p =
      let x = of_parameters xs c in
      let y = of_optional_type t x.1 in
      next (λ ps. and_then (of_optional_type t) (λ t. and_then (of_body Site.Expects e) (λ b. and_then left_waiting (λ ws. give (record { item = i; params = ps; result = t; body = b; never_given = ws })))))
      (λ ps. and_then (of_optional_type u) (λ t. and_then (of_body Site.Expects d) (λ b. and_then left_waiting (λ ws. give (record { item = i; params = ps; result = t; body = b; never_given = ws })))))
      (parameters_same K rs xs (in_optional_type rs t (in_body K e Nothing)) c ms ls p)
      (λ ks es q. next (λ t. and_then (of_body Site.Expects e) (λ b. and_then left_waiting (λ ws. give (record { item = i; params = x.0; result = t; body = b; never_given = ws }))))
      (λ t. and_then (of_body Site.Expects d) (λ b. and_then left_waiting (λ ws. give (record { item = i; params = x.0; result = t; body = b; never_given = ws }))))
      (optional_type_same K rs t (in_body K e Nothing) x.1 ks es q)
      (λ ks es q. let k = λ (b : named.Body). and_then left_waiting (λ ws. give (record { item = i; params = x.0; result = y.0; body = b; never_given = ws })) in
      next k k (body K e Site.Expects [] [] Nothing y.1 ks es q) (λ ks es q. record { names = ks; lets = es; is = refl; rest = q })))

  whole_same : (s : Span) (b k : Bool) (c : Cursor) (ms : List NodeNames) (ls : List Annotation) → Stands K (own_entry b k (in_parameters rs xs (in_optional_type rs t (in_body K e Nothing)))) c.names c.annotations ms ls
      → Goes K Nothing (numbered i s b xs t e c) (numbered i s k ys u d (moved c ms ls))
  whole_same s b k c ms ls p =
      let n = a_node s Site.Value c in
      next (λ v. behind_entry i xs t e) (λ v. behind_entry i ys u d) (entry_same b k (in_parameters rs xs (in_optional_type rs t (in_body K e Nothing))) n.1 ms ls p)
      (λ ks es q. behind_same (entry_if b n.1).1 ks es q)

pub function_same : (rs : List Rewriting) (K : InBoth) (i : ℕ) (s : Span) (f g : Function) (ns ms : List NodeNames) → IsRewritten rs K.by f g → Beside rs K f g ns ms
    → Goes K Nothing (of_function i s f (begins ns)) (of_function i s g (begins ms))
function_same rs K i s f g ns ms w p =
    subst (λ xs. Goes K Nothing (of_function i s f (begins ns)) (numbered i s (has_entry g) xs g.result g.body (begins ms))) (sym w.params)
    (subst (λ t. Goes K Nothing (of_function i s f (begins ns)) (numbered i s (has_entry g) (map (rewritten_parameter rs) f.params) t g.body (begins ms))) (sym w.answer)
    (subst (λ b. Goes K Nothing (of_function i s f (begins ns)) (numbered i s (has_entry g) (map (rewritten_parameter rs) f.params) (rewritten_optional rs f.result) b (begins ms))) (sym w.body)
    (whole_same rs K i f.params f.result f.body s (has_entry f) (has_entry g) (begins ns) ms [] (record { left = p; lets = tt }))))

pub named_same : (rs : List Rewriting) (K : InBoth) (i : ℕ) (s : Span) (f g : Function) (ns ms : List NodeNames) → IsRewritten rs K.by f g → Beside rs K f g ns ms → function_named i s g ms ≡ function_named i s f ns
named_same rs K i s f g ns ms w p = ap (λ x. x.0) (function_same rs K i s f g ns ms w p).is

pub spans_same : (rs : List Rewriting) (K : InBoth) (s : Span) (f g : Function) (ns ms : List NodeNames) → IsRewritten rs K.by f g → Beside rs K f g ns ms → function_spans s g ms ≡ function_spans s f ns
spans_same rs K s f g ns ms w p = ap (λ x. x.1.spans) (function_same rs K 0 s f g ns ms w p).is

pub variables_same : (rs : List Rewriting) (K : InBoth) (s : Span) (f g : Function) (ns ms : List NodeNames) → IsRewritten rs K.by f g → Beside rs K f g ns ms → function_variables s g ms ≡ function_variables s f ns
variables_same rs K s f g ns ms w p = ap (λ x. x.1.variables) (function_same rs K 0 s f g ns ms w p).is

pub lets_beside : (rs : List Rewriting) (K : InBoth) (s : Span) (f g : Function) (ns ms : List NodeNames) → IsRewritten rs K.by f g → Beside rs K f g ns ms
    → LetsBeside K (function_annotations s f ns) (function_annotations s g ms)
lets_beside rs K s f g ns ms w p =
    let r = function_same rs K 0 s f g ns ms w p in
    subst (LetsBeside K (function_annotations s f ns)) (sym (ap (λ x. x.1.annotations) r.is)) r.rest.lets
