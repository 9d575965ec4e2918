-- What the rules ask of a function is in order, and each of its literals is asked for its kind.
use Rattle.std.proofs.Common.{ℕ, zero, suc, Bool, true, false, List, [], ◌∷◌, ◌++◌, length, Option, Some, None, sym, subst, ⊎_elim, ◌∙◌, ap, refl}
use Rattle.rx_core.specs.declared.types.Span.{Span}
use Rattle.rx_tree.specs.Plain as plain
use Rattle.rx_tree.specs.Plain.{TypeTree}
use Rattle.rx_resolve_names.specs.declared.resolved.NodeNames.{NodeNames}
use Rattle.rx_typed.specs.declared.nodes.Node.{Node}
use Rattle.rx_typed.specs.declared.nodes.Site.{Site}
use Rattle.rx_typed.specs.declared.nodes.Stage.{Stage}
use Rattle.rx_typed.specs.declared.nodes.Declaration.{Declaration}
use Rattle.rx_typed.specs.Named.{body_node, written_node}
use Rattle.rx_typed.specs.Naming as naming
use Rattle.rx_typed.specs.Naming.{Cursor, a_node}
use Rattle.rx_typeck_solver.specs.declared.facts.Rule.{Rule}
use Rattle.rx_typeck_solver.specs.declared.facts.Broken.TheVariants as broken
use Rattle.rx_typeck_solver.specs.declared.facts.Subject.TheVariants as subject
use Rattle.rx_typeck_solver.specs.declared.facts.Op.TheVariants as op
use Rattle.rx_typeck_solver.specs.declared.facts.Demand.{Demand}
use Rattle.rx_typeck_solver.specs.Valid.{literals_of}
use Rattle.rx_typeck_solver.specs.Ordered.{Orderly}
use Rattle.rx_typeck_typed.specs.Asking.{type_of, expected}
use Rattle.rx_typeck_typed.specs.Demands as rules
use Rattle.rx_typeck_typed.proofs.Reach.{Sure, Reach, stays, ◌⇒◌, sure_kept, equals_asked, never_asked, known_none, known_one, passed_none, flagged_literals}
use Rattle.rx_typeck_typed.proofs.VariableLemmas.{KnownAt, Agrees, agrees_then, known_behind}
use Rattle.rx_typeck_typed.proofs.PatternsTold.{whole_type_told}
use Rattle.rx_typeck_typed.proofs.PatternsNamed.{type_names, optional_type_names, longer_by}
use Rattle.rx_typeck_typed.proofs.ExpressionsTold.{agrees_entry, agrees_names, agrees_node, WalkedList, body_told}

-- a parameter's type is told before the next
parameter_told : (x : plain.Parameter) (c : Cursor) (ds : List Demand) → Agrees c ds
    → WalkedList ds (rules.of_parameter (naming.of_parameter x c).0 ds) (naming.of_parameter x c).1
parameter_told x c ds a =
    let d : Declaration = record { mutable = x.mutable; stage = Stage.Known } in
    let c1 = (naming.declare d c).1 in
    let Y = naming.of_type x.typ c1 in
    let p = whole_type_told Y.0 ds in
    let q = equals_asked (written_node Y.0) (broken.Mismatch Rule.Equal) (subject.Variable c.declared) op.Same (type_of (written_node Y.0) ∷ []) [] _ (known_one p.told) passed_none in
    let r = p.reach ⇒ q.reach in
    record { reach = r; agrees = agrees_names (type_names x.typ c1) (record { is = known_then c d ds _ r a q.told; counts = ap suc a.counts ∙ sym (longer_by c.variables d) }) }
  where
    known_then : (c : Cursor) (d : Declaration) (ds ds' : List Demand) → Reach ds ds' → Agrees c ds → Sure ds' (subject.Variable c.declared) → (y : ℕ) → KnownAt (c.variables ++ d ∷ []) y → Sure ds' (subject.Variable y)
    known_then c d ds ds' r a h y k = ⊎_elim (λ old. sure_kept r (a.is y old)) (λ new. subst (λ z. Sure ds' (subject.Variable z)) (a.counts ∙ sym new.0) h) (known_behind c.variables d y k)

parameters_told : (xs : List plain.Parameter) (c : Cursor) (ds : List Demand) → Agrees c ds
    → WalkedList ds (rules.of_parameters (naming.of_parameters xs c).0 ds) (naming.of_parameters xs c).1
parameters_told [] c ds a = record { reach = stays ds; agrees = a }
parameters_told (x ∷ xs) c ds a = let p = parameter_told x c ds a in let q = parameters_told xs _ _ p.agrees in record { reach = p.reach ⇒ q.reach; agrees = q.agrees }

result_told : (t : Option TypeTree) (c : Cursor) (ds : List Demand) → Agrees c ds → WalkedList ds (rules.of_result (naming.of_optional_type t c).0 ds) (naming.of_optional_type t c).1
result_told None c ds a = record { reach = stays ds; agrees = a }
result_told (Some t) c ds a = let p = whole_type_told (naming.of_type t c).0 ds in record { reach = p.reach; agrees = agrees_names (optional_type_names (Some t) c) (agrees_then p.reach a) }

never_given_reach : (ns : List Node) (ds : List Demand) → Reach ds (rules.of_never_given ns ds)
never_given_reach [] ds = stays ds
never_given_reach (n ∷ ns) ds = (never_asked n _ ds).reach ⇒ never_given_reach ns _

-- nothing is known at first
nothing_known : (ns : List NodeNames) (ds : List Demand) → Agrees (naming.begins ns) ds
nothing_known ns ds = record { is = λ x k. absurd (no_variable x k); counts = refl }
  where
    no_variable : (x : ℕ) → KnownAt [] x → ⊥
    no_variable zero k = cc
    no_variable (suc x) k = cc

entry_agrees : (b : Bool) (c : Cursor) (ds : List Demand) → Agrees c ds → Agrees (naming.entry_if b c).1 ds
entry_agrees true c ds a = agrees_entry c ds a
entry_agrees false c ds a = a

function_reach : (i : ℕ) (s : Span) (f : plain.Function) (ns : List NodeNames) → Reach [] (rules.demands (naming.function_named i s f ns))
function_reach i s f ns =
    let c = (a_node s Site.Value (naming.begins ns)).1 in
    let c1 = (naming.entry_if (naming.has_entry f) c).1 in
    let P = naming.of_parameters f.params c1 in
    let T = naming.of_optional_type f.result P.1 in
    let B = naming.of_body Site.Expects f.body T.1 in
    let p = parameters_told f.params c1 [] (entry_agrees (naming.has_entry f) c [] (agrees_node s Site.Value (naming.begins ns) (nothing_known ns []))) in
    let q = result_told f.result P.1 _ p.agrees in
    let b = equals_asked (body_node B.0) (broken.Mismatch Rule.Equal) (expected (body_node B.0)) (op.Result i) [] [] (rules.of_result T.0 (rules.of_parameters P.0 [])) known_none passed_none in
    let x = body_told i f.body Site.Expects T.1 _ (agrees_then b.reach q.agrees) (record { is = b.told }) in
    p.reach ⇒ q.reach ⇒ b.reach ⇒ x.reach ⇒ never_given_reach (naming.function_named i s f ns).never_given _

pub function_orderly : (i : ℕ) (s : Span) (f : plain.Function) (ns : List NodeNames) → Orderly (record { demands = rules.demands (naming.function_named i s f ns); literals = literals_of (rules.demands (naming.function_named i s f ns)) })
function_orderly i s f ns = let r = function_reach i s f ns in record { ordered = r.ordered tt; literals = λ n h. flagged_literals (rules.demands (naming.function_named i s f ns)) (r.flagged tt) n h }
