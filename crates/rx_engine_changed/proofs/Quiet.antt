-- Where a numbering comes to a part behind quiet parts alone, no variable waits.
use Rattle.std.proofs.Common.{◌≡◌, ◌<◌, ℕ, zero, suc, Bool, true, false, ◌||◌, List, [], ◌∷◌, length, Option, Some, None, slice_get, refl, sym, ap, ◌∙◌, subst, arith}
use Rattle.rx_core.specs.declared.types.Span.{Span}
use Rattle.rx_tree.specs.Lists.{nth, statements}
use Rattle.rx_tree.specs.Plain as plain
use Rattle.rx_tree.specs.Plain.{Function, Parameter, PatternTree}
use Rattle.rx_tree.specs.Spans.{body_span}
use Rattle.rx_resolve_names.specs.declared.resolved.NodeNames.{NodeNames}
use Rattle.rx_typed.specs.declared.nodes.Declaration.{Declaration}
use Rattle.rx_typed.specs.declared.nodes.Site.{Site}
use Rattle.rx_typed.specs.declared.nodes.Stage.{Stage}
use Rattle.rx_typed.specs.Named as named
use Rattle.rx_typed.specs.Naming as naming
use Rattle.rx_typed.specs.Naming.{Cursor, an_entry, begins, entry_if, has_entry, of_body, of_expression, of_optional_type, of_parameters, of_pattern, of_statements}
use Rattle.rx_hoist_extraction.specs.Run.{as_statements, in_front, run_block, Run}
use Rattle.rx_engine_changed.specs.Called.{ComesToRun}
use Rattle.rx_engine_changed.specs.Comes.{a_body, a_statement, an_expression, an_optional, behind, behind_named, body_of, goes_in, in_arm, in_loop, in_part, matched, over, some_arguments, some_arms, some_expressions, some_fields, some_statements, the_whole, Comes, Part, Placed}
use Rattle.rx_engine_changed.specs.Deeds.{also, Deeds}
use Rattle.rx_engine_changed.specs.Deeds as deeds
use Rattle.rx_engine_changed.specs.Quiet.{IsQuiet, NoneWaits, QuietInFront}
use Rattle.rx_engine_changed.specs.Stages.{waits_there}
use Rattle.rx_engine_changed.proofs.Deeds.{annotation, became_known, body_does, declare_does, does_on, entry, exp_does, loop_does, node, optional_type, pattern_above, pattern_does, statement_does, statements_does, Does, Same}
use Rattle.rx_engine_changed.proofs.GoingOn.{true_false}

pub record Settled (c : Cursor) : Type 0 where
  pub counted : length c.variables ≡ c.declared
  pub none : NoneWaits c

same_settled : (c d : Cursor) → Same c d → Settled c → Settled d
same_settled c d s h = record { counted = ap length s.variables ∙ h.counted ∙ sym s.declared; none = λ n. ap (λ (l : List Declaration). waits_there (slice_get l n)) s.variables ∙ h.none n }

over_settled : (F : Deeds) (c d : Cursor) → Does 0 F c d → ((n : ℕ) → F.awaits n ≡ false) → Settled c → Settled d
over_settled F c d x q h = record {
  counted = (x.kept (record { counted = h.counted; above = omega arith })).counted;
  none = λ n. by n (waits_there (slice_get d.variables n)) refl;
}
  where
    by : (n : ℕ) (b : Bool) → waits_there (slice_get d.variables n) ≡ b → waits_there (slice_get d.variables n) ≡ false
    by n false e = e
    by n true e = absurd (true_false (sym ((x.kept (record { counted = h.counted; above = omega arith })).awaited n e) ∙ ap (λ (b : Bool). b || F.awaits n) (h.none n) ∙ q n))

pub neither : {a b : Bool} → a ≡ false → b ≡ false → (a || b) ≡ false
neither {a} {b} e f = ap (λ (z : Bool). z || b) e ∙ f

-- a pattern leaves none waiting
mutual
  pub pattern_quiet : (p : named.Pattern) (n : ℕ) → (deeds.of_pattern p).awaits n ≡ false
  pattern_quiet (named.wild k) n = refl
  pattern_quiet (named.bind k x m) n = refl
  pattern_quiet (named.whole_number k g v i) n = refl
  pattern_quiet (named.truth k b) n = refl
  pattern_quiet (named.tuple_pattern k ps) n = patterns_quiet ps n
  pattern_quiet (named.variant_pattern k i v ps) n = patterns_quiet ps n
  pattern_quiet (named.struct_pattern k i fs) n = field_patterns_quiet fs n

  patterns_quiet : (ps : named.Patterns) (n : ℕ) → (deeds.of_patterns ps).awaits n ≡ false
  patterns_quiet named.no_pattern n = refl
  patterns_quiet (named.pattern_and p ps) n = neither (pattern_quiet p n) (patterns_quiet ps n)

  field_patterns_quiet : (fs : named.FieldPatterns) (n : ℕ) → (deeds.of_field_patterns fs).awaits n ≡ false
  field_patterns_quiet named.no_field_pattern n = refl
  field_patterns_quiet (named.field_pattern_and x p fs) n = neither (pattern_quiet p n) (field_patterns_quiet fs n)

-- ---- steps

behind_settled : (s : Span) (t : Site) (c : Cursor) → Settled c → Settled (behind s t c)
behind_settled s t c h = same_settled c (behind s t c) (node s t c) h

named_settled : (s : Span) (t : Site) (c : Cursor) → Settled c → Settled (behind_named s t c)
named_settled s t c h = same_settled (behind s t c) (behind_named s t c) (entry (behind s t c)) (behind_settled s t c h)

loop_settled : (s : Span) (t : Site) (c : Cursor) → Settled c → Settled (in_loop s t c)
loop_settled s t c h = over_settled (deeds.begins (length (behind s t c).loops)) (behind s t c) (in_loop s t c) (loop_does 0 (behind s t c)) (λ n. refl) (behind_settled s t c h)

exp_settled : (m : Bool) (t : Site) (e : plain.Expression) (c : Cursor) → IsQuiet (an_expression m t e, c) → Settled c → Settled (over m t e c)
exp_settled m t e c q h = over_settled (deeds.of_exp (of_expression m t e c).0) c (over m t e c) (exp_does 0 e m t c) q h

pattern_settled : (p : PatternTree) (c : Cursor) → Settled c → Settled (of_pattern p c).1
pattern_settled p c h = over_settled (deeds.of_pattern (of_pattern p c).0) c (of_pattern p c).1 (pattern_does 0 p c) (pattern_quiet (of_pattern p c).0) h

arm_settled : (p : PatternTree) (c : Cursor) → Settled c → Settled (in_arm p c)
arm_settled p c h =
    let P = of_pattern p c in
    over_settled (deeds.of_pattern P.0) c (in_arm p c) (became_known 0 P.1 c.declared P.1.declared (pattern_above 0 p c) (λ r. r.above) (pattern_does 0 p c)) (pattern_quiet P.0) h

matched_settled : (p : PatternTree) (e : plain.Expression) (c : Cursor) → IsQuiet (an_expression false Site.Scrutinee e, (of_pattern p c).1) → Settled c → Settled (matched p e c)
matched_settled p e c q h =
    let P = of_pattern p c in let X = of_expression false Site.Scrutinee e P.1 in
    over_settled (also (deeds.of_pattern P.0) (deeds.of_exp X.0)) c (matched p e c)
    (became_known 0 X.1 c.declared P.1.declared (pattern_above 0 p c) (λ r. r.above) (does_on 0 (pattern_does 0 p c) (exp_does 0 e false Site.Scrutinee P.1))) (λ n. neither (pattern_quiet P.0 n) (q n)) h

body_settled : (t : Site) (b : plain.Body) (c : Cursor) → IsQuiet (a_body t b, c) → Settled c → Settled (of_body t b c).1
body_settled t b c q h = over_settled (deeds.of_body (of_body t b c).0) c (of_body t b c).1 (body_does 0 b t c) q h

statements_settled : (ss : plain.Statements) (c : Cursor) → IsQuiet (some_statements ss, c) → Settled c → Settled (of_statements ss c).1
statements_settled ss c q h = over_settled (deeds.of_statements (of_statements ss c).0) c (of_statements ss c).1 (statements_does 0 ss c) q h

-- ---- the parts of a part, one behind the other

abbrev Chain : List Placed → Type 0
Chain [] = Unit {0}
Chain (y ∷ ys) = Settled y.1 × (IsQuiet y → Chain ys)

chain : (x : Part) (c : Cursor) → Settled c → Chain (in_part x c)
chain (an_expression m t (plain.int s v k)) c h = tt
chain (an_expression m t (plain.bool s b)) c h = tt
chain (an_expression m t (plain.var s x)) c h = tt
chain (an_expression m t (plain.next_input s)) c h = tt
chain (an_expression m t (plain.break s l)) c h = tt
chain (an_expression m t (plain.continue s l)) c h = tt
chain (an_expression m t (plain.tuple s es)) c h = (behind_settled s t c h, λ q. tt)
chain (an_expression m t (plain.field s e x)) c h = (behind_settled s t c h, λ q. tt)
chain (an_expression m t (plain.part s e i)) c h = (behind_settled s t c h, λ q. tt)
chain (an_expression m t (plain.deref s e)) c h = (behind_settled s t c h, λ q. tt)
chain (an_expression m t (plain.negate s e)) c h = (behind_settled s t c h, λ q. tt)
chain (an_expression m t (plain.invert s e)) c h = (behind_settled s t c h, λ q. tt)
chain (an_expression m t (plain.borrow s w e)) c h = (behind_settled s t c h, λ q. tt)
chain (an_expression m t (plain.binary s o a b)) c h = let i = behind_settled s t c h in (i, λ q. (exp_settled false Site.Value a (behind s t c) q i, λ q. tt))
chain (an_expression m t (plain.assign s p e)) c h = let i = behind_settled s t c h in (i, λ q. (exp_settled false Site.Place p (behind s t c) q i, λ q. tt))
chain (an_expression m t (plain.update s o p e)) c h = let i = behind_settled s t c h in (i, λ q. (exp_settled false Site.Place p (behind s t c) q i, λ q. tt))
chain (an_expression m t (plain.call s g es)) c h = (named_settled s t c h, λ q. tt)
chain (an_expression m t (plain.variant s a v es)) c h = (named_settled s t c h, λ q. tt)
chain (an_expression m t (plain.make s x fs)) c h = (named_settled s t c h, λ q. tt)
chain (an_expression m t (plain.print s e)) c h = (behind_settled s t c h, λ q. tt)
chain (an_expression m t (plain.block s b)) c h = (behind_settled s t c h, λ q. tt)
chain (an_expression m t (plain.if s e b o)) c h =
    let d = behind s t c in let i = behind_settled s t c h in
    (i, λ q. let j = exp_settled false Site.Value e d q i in (j, λ q. (body_settled (naming.branch_site t o) b (over false Site.Value e d) q j, λ q. tt)))
chain (an_expression m t (plain.if_let s p e b o)) c h =
    let d = behind s t c in let i = behind_settled s t c h in
    (pattern_settled p d i, λ q. let j = matched_settled p e d q i in (j, λ q. (body_settled (naming.branch_site t o) b (matched p e d) q j, λ q. tt)))
chain (an_expression m t (plain.match s e l)) c h = let i = behind_settled s t c h in (i, λ q. (exp_settled false Site.Scrutinee e (behind s t c) q i, λ q. tt))
chain (an_expression m t (plain.loop s l b)) c h = (loop_settled s t c h, λ q. tt)
chain (an_expression m t (plain.while s l e b)) c h = let i = loop_settled s t c h in (i, λ q. (exp_settled false Site.Value e (in_loop s t c) q i, λ q. tt))
chain (an_expression m t (plain.while_let s l p e b)) c h = let i = loop_settled s t c h in (pattern_settled p (in_loop s t c) i, λ q. (matched_settled p e (in_loop s t c) q i, λ q. tt))
chain (an_expression m t (plain.return s o)) c h = (behind_settled s t c h, λ q. tt)
chain (some_expressions t plain.no_expression) c h = tt
chain (some_expressions t (plain.expression_and e es)) c h = (h, λ q. (exp_settled false t e c q h, λ q. tt))
chain (an_optional t plain.absent) c h = tt
chain (an_optional t (plain.present e)) c h = (h, λ q. tt)
chain (some_arguments plain.no_list) c h = tt
chain (some_arguments (plain.a_list es)) c h = (h, λ q. tt)
chain (some_fields plain.no_field) c h = tt
chain (some_fields (plain.field_and x e fs)) c h = (h, λ q. (exp_settled false Site.Expects e c q h, λ q. tt))
chain (some_arms t plain.no_arm) c h = tt
chain (some_arms t (plain.arm_and p e l)) c h = let i = arm_settled p c h in (i, λ q. (exp_settled false t e (in_arm p c) q i, λ q. tt))
chain (a_body t (plain.body s ss o)) c h = let i = behind_settled s t c h in (i, λ q. (statements_settled ss (behind s t c) q i, λ q. tt))
chain (a_statement (plain.let_statement s p y plain.absent)) c h = tt
chain (a_statement (plain.let_statement s p y (plain.present e))) c h =
    let d = behind s Site.Value c in let d1 = (naming.annotates p y d).1 in let Q = of_pattern p d1 in
    (same_settled Q.1 (of_optional_type y Q.1).1 (optional_type y Q.1) (pattern_settled p d1 (same_settled d d1 (annotation p y d) (behind_settled s Site.Value c h))), λ q. tt)
chain (a_statement (plain.expression_statement s e b)) c h = (behind_settled s Site.Value c h, λ q. tt)
chain (some_statements plain.no_statement) c h = tt
chain (some_statements (plain.statement_and a ss)) c h = (h, λ q. (over_settled (deeds.of_statement (naming.of_statement a c).0) c (naming.of_statement a c).1 (statement_does 0 a c) q h, λ q. tt))

in_chain : (ys : List Placed) (n : ℕ) (y : Placed) → Chain ys → nth ys n ≡ Some y → ((i : ℕ) → i < n → (z : Placed) → nth ys i ≡ Some z → IsQuiet z) → Settled y.1
in_chain [] n y h e q = absurd (let k : None ≡ Some y = e in cc)
in_chain (z ∷ zs) zero y h e q = subst (λ (x : Placed). Settled x.1) (some_same z y e) h.0
  where
    some_same : (a b : Placed) → ◌≡◌ {A = Option Placed} (Some a) (Some b) → a ≡ b
    some_same a b e = cc
in_chain (z ∷ zs) (suc n) y h e q = in_chain zs n y (h.1 (q 0 (omega arith) z refl)) e (λ i k x f. q (suc i) (omega (arith, k)) x f)

comes_settled : {w : Placed} {x : Part} {c : Cursor} → (h : Comes w x c) → QuietInFront h → Settled w.1 → Settled c
comes_settled the_whole q s = s
comes_settled (goes_in {x = x} {y = y} {c = c} {d = d} h n e) q s = in_chain (in_part x c) n (y, d) (chain x c (comes_settled h q.0 s)) e q.1

-- ---- a function

parameters_settled : (xs : List Parameter) (c : Cursor) → Settled c → Settled (of_parameters xs c).1
parameters_settled [] c h = h
parameters_settled (x ∷ xs) c h =
    let b = (naming.declare (record { mutable = x.mutable; stage = Stage.Known }) c).1 in
    parameters_settled xs (naming.of_type x.typ b).1 (same_settled b (naming.of_type x.typ b).1 (optional_type (Some x.typ) b) (declared_settled x.mutable c h))
  where
    declared_settled : (m : Bool) (c : Cursor) → Settled c → Settled (naming.declare (record { mutable = m; stage = Stage.Known }) c).1
    declared_settled m c h = over_settled (deeds.declares c.declared) c (naming.declare (record { mutable = m; stage = Stage.Known }) c).1 (declare_does 0 (record { mutable = m; stage = Stage.Known }) c refl) (λ n. refl) h

begun_settled : (ns : List NodeNames) → Settled (begins ns)
begun_settled ns = record { counted = refl; none = λ n. refl }

entry_settled : (b : Bool) (c : Cursor) → Settled c → Settled (entry_if b c).1
entry_settled true c h = same_settled c (an_entry c).1 (entry c) h
entry_settled false c h = h

pub body_begins : (s : Span) (f : Function) (ns : List NodeNames) → Settled (body_of s f ns).1
body_begins s f ns =
    let d = behind s Site.Value (begins ns) in let x = (entry_if (has_entry f) d).1 in let y = (of_parameters f.params x).1 in
    same_settled y (of_optional_type f.result y).1 (optional_type f.result y) (parameters_settled f.params x (entry_settled (has_entry f) d (behind_settled s Site.Value (begins ns) (begun_settled ns))))

pub none_waits_there : (s : Span) (f : Function) (ns : List NodeNames) (x : Part) (c : Cursor) (h : Comes (body_of s f ns) x c) → QuietInFront h → NoneWaits c
none_waits_there s f ns x c h q = (comes_settled h q (body_begins s f ns)).none

pub none_waits_at_run : (s : Span) (f : Function) (r : Run) (ns : List NodeNames) (c : Cursor) (x : ComesToRun s f r ns c) → QuietInFront x.comes
    → IsQuiet (some_statements (as_statements (in_front r (statements (run_block r f)))), behind (body_span (run_block r f)) x.site x.start) → NoneWaits c
none_waits_at_run s f r ns c x q front = subst NoneWaits (sym x.is)
    (statements_settled (as_statements (in_front r (statements (run_block r f)))) (behind (body_span (run_block r f)) x.site x.start) front
    (behind_settled (body_span (run_block r f)) x.site x.start (comes_settled x.comes q (body_begins s f ns)))).none
