-- Where a numbering comes to a part, no more variables are declared behind it than where the whole ends; and a function's are as many as its
-- tables have.
use Rattle.std.proofs.Math.Nat.{min-eq_left}
use Rattle.std.proofs.Math.ListN.{drop_of_length-le}
use Rattle.std.proofs.lemmas.Bool.{leb-true}
use Rattle.std.proofs.Common.{◌≡◌, ◌≤◌, ◌<◌, ℕ, zero, suc, Bool, true, false, ◌&&◌, List, [], ◌∷◌, ◌++◌, length, map, Option, Some, None, Ok, refl, sym, ap, ◌∙◌, subst, arith}
use Rattle.rx_core.specs.declared.types.Span.{Span}
use Rattle.rx_tree.specs.declared.tree.Ident.{Ident}
use Rattle.rx_resolve_names.specs.declared.resolved.ItemNames.{ItemNames}
use Rattle.rx_resolve_names.specs.Meant.{type_name, item_named, as_enum, variants_of as variants_named, number_in, firsts, lifetimes_declared}
use Rattle.rx_resolve_names.specs.Steps as names
use Rattle.rx_resolve_names.specs.Steps.{Inside, known, one}
use Rattle.rx_resolve_names.specs.Names.{variant_in}
use Rattle.rx_resolve_names.specs.Items.{in_item}
use Rattle.rx_hoist_naming.proofs.Claims.{Claims}
use Rattle.rx_hoist_naming.proofs.Steps.{named_ok, the_same}
use Rattle.rx_hoist_naming.proofs.TypeLemmas.{Sees}
use Rattle.rx_hoist_naming.proofs.Functions.{function_taken}
use Rattle.rx_engine_names.specs.Apart.{Few}
use Rattle.rx_tree.specs.Lists.{listed, nth, statements, Every}
use Rattle.rx_tree.specs.Plain as plain
use Rattle.rx_tree.specs.Plain.{Body, Function, OptionalExpression, ProgramTree, Statement}
use Rattle.rx_tree.specs.Spans.{body_span}
use Rattle.rx_resolve_names.specs.Meant.{number}
use Rattle.rx_resolve_names.specs.declared.resolved.NodeNames.{NodeNames}
use Rattle.rx_typed.specs.declared.nodes.Node.{Node}
use Rattle.rx_typed.specs.declared.nodes.Site.{Site}
use Rattle.rx_typed.specs.Named as named
use Rattle.rx_typed.specs.Named.{Exp, Exps, Pattern}
use Rattle.rx_typed.specs.Naming as naming
use Rattle.rx_typed.specs.Naming.{Cursor, Numbering, a_node, an_entry, function_variables, of_arguments, of_arms, of_body, of_expression, of_expressions, of_fields, of_optional, of_pattern, of_statement, of_statements}
use Rattle.rx_hoist_extraction.specs.Run.{as_statements, behind as statements_behind, goes_past, in_front, rest_tail, run_block, with_parts, Parts, Run}
use Rattle.rx_hoist_extraction.specs.Plan.{Plan}
use Rattle.rx_engine_names.specs.CalledRuns.{call_parts}
use Rattle.rx_engine_changed.specs.Called.{with_other_block, CallIsFew, EndIsFew}
use Rattle.rx_engine_changed.specs.Comes.{a_body, a_statement, an_expression, an_optional, arguments_at, assigned_at, behind, body_of, goes_in, in_arm, in_let, in_loop, in_part, matched, over, some_arguments, some_arms, some_expressions, some_fields, some_statements, the_whole, waits_left, Comes, Part, Placed}
use Rattle.rx_engine_changed.specs.Deeds as deeds
use Rattle.rx_engine_changed.proofs.Deeds.{arms_does, body_does, exp_does, exps_does, fields_does, from_above, optional_does, statements_does}
use Rattle.rx_engine_changed.proofs.Quiet.{body_begins}
use Rattle.rx_engine_changed.proofs.Rows.{numbered_row3}

abbrev end_of : Part → Cursor → ℕ
end_of (an_expression m t e) c = (of_expression m t e c).1.declared
end_of (some_expressions t es) c = (of_expressions t es c).1.declared
end_of (an_optional t o) c = (of_optional t o c).1.declared
end_of (some_arguments o) c = (of_arguments o c).1.declared
end_of (some_fields fs) c = (of_fields fs c).1.declared
end_of (some_arms t l) c = (of_arms t l c).1.declared
end_of (a_body t b) c = (of_body t b c).1.declared
end_of (a_statement a) c = (of_statement a c).1.declared
end_of (some_statements ss) c = (of_statements ss c).1.declared

-- ---- numbers rise

exp_rises : (m : Bool) (t : Site) (e : plain.Expression) (c : Cursor) → c.declared ≤ (of_expression m t e c).1.declared
exp_rises m t e c = from_above (deeds.of_exp (of_expression m t e c).0).variables c.declared _ (exp_does 0 e m t c).variables

exps_rise : (t : Site) (es : plain.Expressions) (c : Cursor) → c.declared ≤ (of_expressions t es c).1.declared
exps_rise t es c = from_above (deeds.of_exps (of_expressions t es c).0).variables c.declared _ (exps_does 0 es t c).variables

optional_rises : (t : Site) (o : OptionalExpression) (c : Cursor) → c.declared ≤ (of_optional t o c).1.declared
optional_rises t o c = from_above (deeds.of_else (of_optional t o c).0).variables c.declared _ (optional_does 0 o t c).variables

fields_rise : (fs : plain.FieldExpressions) (c : Cursor) → c.declared ≤ (of_fields fs c).1.declared
fields_rise fs c = from_above (deeds.of_fields (of_fields fs c).0).variables c.declared _ (fields_does 0 fs c).variables

arms_rise : (t : Site) (l : plain.Arms) (c : Cursor) → c.declared ≤ (of_arms t l c).1.declared
arms_rise t l c = from_above (deeds.of_arms (of_arms t l c).0).variables c.declared _ (arms_does 0 l t c).variables

body_rises : (t : Site) (b : Body) (c : Cursor) → c.declared ≤ (of_body t b c).1.declared
body_rises t b c = from_above (deeds.of_body (of_body t b c).0).variables c.declared _ (body_does 0 b t c).variables

statements_rise : (ss : plain.Statements) (c : Cursor) → c.declared ≤ (of_statements ss c).1.declared
statements_rise ss c = from_above (deeds.of_statements (of_statements ss c).0).variables c.declared _ (statements_does 0 ss c).variables

itself : (n : ℕ) → n ≤ n
itself n = omega arith

on : {a b c : ℕ} → a ≤ b → b ≤ c → a ≤ c
on x y = omega (arith, x, y)

same : {a b c : ℕ} → a ≤ b → b ≡ c → a ≤ c
same x y = omega (arith, x, y)

given_same : (x : ℕ) (o : Option (ℕ × ℕ)) (c : Cursor) → c.declared ≡ (naming.given_here x o c).1.declared
given_same x None c = refl
given_same x (Some w) c = refl

assigned_same : (n : Node) (p : Exp) (o : Option (ℕ × ℕ)) (f : Site → Numbering Exp) (c : Cursor) → (f (assigned_at o) c).1.declared ≡ (naming.assigned n p o f c).1.declared
assigned_same n p None f c = refl
assigned_same n p (Some w) f c = given_same w.0 _ (f Site.Reborrows c).1

called_same : (n : Node) (k : List ℕ × Bool) (f : Site → Numbering Exps) (c : Cursor) → (f (arguments_at k.1) c).1.declared ≡ (naming.called n k f c).1.declared
called_same n (xs, true) f c = refl
called_same n (xs, false) f c = refl

waits_same : (z : Bool) (p : Pattern) (c : Cursor) → c.declared ≡ (naming.waits_if z p c).1.declared
waits_same false p c = refl
waits_same true p c = by (named.whole_binding p)
  where
    by : (o : Option ℕ) → c.declared ≡ (naming.waits_at (named.pattern_node p) o c).1.declared
    by None = refl
    by (Some x) = refl

-- ---- the parts of a part

abbrev Below : Part → Cursor → Type 0
Below x c = Every (λ (y : Placed). end_of y.0 y.1 ≤ end_of x c) (in_part x c)

below : (x : Part) (c : Cursor) → Below x c
below (an_expression m t (plain.int s v k)) c = tt
below (an_expression m t (plain.bool s b)) c = tt
below (an_expression m t (plain.var s x)) c = tt
below (an_expression m t (plain.next_input s)) c = tt
below (an_expression m t (plain.break s l)) c = tt
below (an_expression m t (plain.continue s l)) c = tt
below (an_expression m t (plain.tuple s es)) c = (itself _, tt)
below (an_expression m t (plain.field s e x)) c = (itself _, tt)
below (an_expression m t (plain.part s e i)) c = (itself _, tt)
below (an_expression m t (plain.deref s e)) c = (itself _, tt)
below (an_expression m t (plain.negate s e)) c = (itself _, tt)
below (an_expression m t (plain.invert s e)) c = (itself _, tt)
below (an_expression m t (plain.borrow s w e)) c = (itself _, tt)
below (an_expression m t (plain.binary s o a b)) c = (exp_rises false Site.Value b (over false Site.Value a (behind s t c)), (itself _, tt))
below (an_expression m t (plain.assign s p e)) c =
    let d = behind s t c in let f : Site → Numbering Exp = λ u. of_expression false u e in
    let k = assigned_same (a_node s t c).0 (of_expression false Site.Place p d).0 (waits_left p d) f (over false Site.Place p d) in
    (same (exp_rises false (assigned_at (waits_left p d)) e (over false Site.Place p d)) k, (same (itself _) k, tt))
below (an_expression m t (plain.update s o p e)) c = (exp_rises false Site.Value e (over false Site.Place p (behind s t c)), (itself _, tt))
below (an_expression m t (plain.call s g es)) c =
    let d = behind s t c in (same (itself _) (called_same (a_node s t c).0 (an_entry d).0 (λ u. of_expressions u es) (an_entry d).1), tt)
below (an_expression m t (plain.variant s a v es)) c = (itself _, tt)
below (an_expression m t (plain.make s x fs)) c = (itself _, tt)
below (an_expression m t (plain.print s e)) c = (itself _, tt)
below (an_expression m t (plain.block s b)) c = (itself _, tt)
below (an_expression m t (plain.if s e b o)) c =
    let d = over false Site.Value e (behind s t c) in let B = (of_body (naming.branch_site t o) b d).1 in let k = optional_rises (naming.passed_on t) o B in
    (on (body_rises (naming.branch_site t o) b d) k, (k, (itself _, tt)))
below (an_expression m t (plain.if_let s p e b o)) c =
    let d = matched p e (behind s t c) in let B = (of_body (naming.branch_site t o) b d).1 in let k = optional_rises (naming.passed_on t) o B in
    (on (body_rises (naming.branch_site t o) b d) k, (k, (itself _, tt)))
below (an_expression m t (plain.match s e l)) c = (arms_rise (naming.passed_on t) l (over false Site.Scrutinee e (behind s t c)), (itself _, tt))
below (an_expression m t (plain.loop s l b)) c = (itself _, tt)
below (an_expression m t (plain.while s l e b)) c = (body_rises Site.Value b (over false Site.Value e (in_loop s t c)), (itself _, tt))
below (an_expression m t (plain.while_let s l p e b)) c = (body_rises Site.Value b (matched p e (in_loop s t c)), (itself _, tt))
below (an_expression m t (plain.return s o)) c = (itself _, tt)
below (some_expressions t plain.no_expression) c = tt
below (some_expressions t (plain.expression_and e es)) c = (exps_rise t es (over false t e c), (itself _, tt))
below (an_optional t plain.absent) c = tt
below (an_optional t (plain.present e)) c = (itself _, tt)
below (some_arguments plain.no_list) c = tt
below (some_arguments (plain.a_list es)) c = (itself _, tt)
below (some_fields plain.no_field) c = tt
below (some_fields (plain.field_and x e fs)) c = (fields_rise fs (over false Site.Expects e c), (itself _, tt))
below (some_arms t plain.no_arm) c = tt
below (some_arms t (plain.arm_and p e l)) c = (arms_rise t l (over false t e (in_arm p c)), (itself _, tt))
below (a_body t (plain.body s ss o)) c = (optional_rises t o (of_statements ss (behind s t c)).1, (itself _, tt))
below (a_statement (plain.let_statement s p y plain.absent)) c = tt
below (a_statement (plain.let_statement s p y (plain.present e))) c =
    let Q = in_let s p y c in let Y = naming.of_optional_type y Q in let X = of_expression false (naming.initialiser_site Y.0) e Y.1 in
    let P = of_pattern p (naming.annotates p y (behind s Site.Value c)).1 in let k = (naming.known_between (naming.annotates p y (behind s Site.Value c)).1.declared P.1.declared X.1).1 in
    (same (itself _) (waits_same (naming.has_no_type Y.0 && named.never X.0) P.0 k), tt)
below (a_statement (plain.expression_statement s e b)) c = (itself _, tt)
below (some_statements plain.no_statement) c = tt
below (some_statements (plain.statement_and a ss)) c = (statements_rise ss (of_statement a c).1, (itself _, tt))

pub at_nth : (P : Placed → Type 0) (xs : List Placed) (n : ℕ) (y : Placed) → Every P xs → nth xs n ≡ Some y → P y
at_nth P [] n y h e = absurd (let k : None ≡ Some y = e in cc)
at_nth P (x ∷ xs) zero y h e = subst P (some_same x y e) h.0
  where
    some_same : (a b : Placed) → ◌≡◌ {A = Option Placed} (Some a) (Some b) → a ≡ b
    some_same a b e = cc
at_nth P (x ∷ xs) (suc n) y h e = at_nth P xs n y h.1 e

comes_below : {w : Placed} {x : Part} {c : Cursor} → Comes w x c → end_of x c ≤ end_of w.0 w.1
comes_below the_whole = itself _
comes_below (goes_in {x = x} {y = y} {c = c} {d = d} h n e) = on (at_nth (λ (z : Placed). end_of z.0 z.1 ≤ end_of x c) (in_part x c) n (y, d) (below x c) e) (comes_below h)

-- ---- the call in its function

block_below : (r : Run) (ps : Parts) (b : Body) (t : Site) (d c : Cursor) → c ≡ (of_statements (as_statements (in_front r (statements b))) (behind (body_span (with_parts r ps b)) t d)).1
    → (of_statements (as_statements ps.statements) c).1.declared ≤ (of_body t (with_parts r ps b) d).1.declared
block_below r ps (plain.body sp ss o) t d c e =
    let l = listed ss in let F = of_statements (as_statements (in_front r l)) (behind sp t d) in let G = of_statements (as_statements ps.statements) F.1 in let B = of_statements (as_statements (statements_behind r l)) G.1 in
    let row = ap (λ (z : named.Statements × Cursor). z.1) (numbered_row3 (in_front r l) ps.statements (statements_behind r l) (behind sp t d)) in
    let tail = rest_tail (goes_past r l) o ps.tail in
    let k : B.1.declared ≤ (of_optional t tail B.1).1.declared = optional_rises t tail B.1 in
    let whole : (of_optional t tail B.1).1.declared ≡ (of_optional t tail (of_statements (as_statements (in_front r l ++ (ps.statements ++ statements_behind r l))) (behind sp t d)).1).1.declared = ap (λ (z : Cursor). (of_optional t tail z).1.declared) (sym row) in
    subst (λ (z : Cursor). (of_statements (as_statements ps.statements) z).1.declared ≤ (of_body t (with_parts r ps (plain.body sp ss o)) d).1.declared) (sym e)
    (same (on (statements_rise (as_statements (statements_behind r l)) G.1) k) whole)

-- so it is behind the tail where nothing follows the run
end_below : (r : Run) (ps : Parts) (b : Body) (t : Site) (d c : Cursor) → goes_past r (statements b) ≡ true → c ≡ (of_statements (as_statements (in_front r (statements b))) (behind (body_span (with_parts r ps b)) t d)).1
    → (of_optional t ps.tail (of_statements (as_statements ps.statements) c).1).1.declared ≤ (of_body t (with_parts r ps b) d).1.declared
end_below r ps (plain.body sp ss o) t d c past e =
    let l = listed ss in let F = of_statements (as_statements (in_front r l)) (behind sp t d) in let G = of_statements (as_statements ps.statements) F.1 in let B = of_statements (as_statements (statements_behind r l)) G.1 in
    let row = ap (λ (z : named.Statements × Cursor). z.1) (numbered_row3 (in_front r l) ps.statements (statements_behind r l) (behind sp t d)) in
    let nothing : statements_behind r l ≡ [] = drop_of_length-le l (omega (arith, leb-true (length l) r.last past)) in
    let none : G.1 ≡ B.1 = ap (λ (z : List Statement). (of_statements (as_statements z) G.1).1) (sym nothing) in
    let whole : (of_optional t ps.tail G.1).1.declared ≡ (of_optional t (rest_tail (goes_past r l) o ps.tail) (of_statements (as_statements (in_front r l ++ (ps.statements ++ statements_behind r l))) (behind sp t d)).1).1.declared
    = ap (λ (z : Cursor). (of_optional t ps.tail z).1.declared) (none ∙ sym row) ∙ ap (λ (x : Bool). (of_optional t (rest_tail x o ps.tail) (of_statements (as_statements (in_front r l ++ (ps.statements ++ statements_behind r l))) (behind sp t d)).1).1.declared) (sym past) in
    subst (λ (z : Cursor). (of_optional t ps.tail (of_statements (as_statements ps.statements) z).1).1.declared ≤ (of_body t (with_parts r ps (plain.body sp ss o)) d).1.declared) (sym e) (same (itself _) whole)

call_few : (p : ProgramTree) (s : Span) (f : Function) (r : Run) (pl : Plan) (ms : List NodeNames)
    → ((k : ℕ) → k < length (function_variables s (with_other_block (run_block r f) (with_parts r (call_parts p r pl f) (run_block r f)) f) ms) → number k ≡ k) → CallIsFew p s f r pl ms
call_few p s f r pl ms few c x k l =
    let g = with_other_block (run_block r f) (with_parts r (call_parts p r pl f) (run_block r f)) f in let z = (body_of s g ms).1 in
    let a = block_below r (call_parts p r pl f) (run_block r f) x.site x.start c x.is in
    let b = comes_below x.comes in
    let counted = ((body_does 0 g.body Site.Expects z).kept (record { counted = (body_begins s g ms).counted; above = omega arith })).counted in
    few k (omega (arith, l, a, b, counted))

end_few : (p : ProgramTree) (s : Span) (f : Function) (r : Run) (pl : Plan) (ms : List NodeNames) → goes_past r (statements (run_block r f)) ≡ true
    → ((k : ℕ) → k < length (function_variables s (with_other_block (run_block r f) (with_parts r (call_parts p r pl f) (run_block r f)) f) ms) → number k ≡ k) → EndIsFew p s f r pl ms
end_few p s f r pl ms past few t c y k l =
    let g = with_other_block (run_block r f) (with_parts r (call_parts p r pl f) (run_block r f)) f in let z = (body_of s g ms).1 in let x = y.0 in
    let a = end_below r (call_parts p r pl f) (run_block r f) x.site x.start c past x.is in
    let at : (of_optional t (call_parts p r pl f).tail (of_statements (as_statements (call_parts p r pl f).statements) c).1).1.declared ≡ (of_optional x.site (call_parts p r pl f).tail (of_statements (as_statements (call_parts p r pl f).statements) c).1).1.declared
    = ap (λ (u : Site). (of_optional u (call_parts p r pl f).tail (of_statements (as_statements (call_parts p r pl f).statements) c).1).1.declared) (sym y.1) in
    let b = comes_below x.comes in
    let counted = ((body_does 0 g.body Site.Expects z).kept (record { counted = (body_begins s g ms).counted; above = omega arith })).counted in
    few k (omega (arith, l, at, a, b, counted))

-- ---- as many as the tables have

abbrev any : Claims
any = record { item = λ n. Unit {0}; variable = λ n. Unit {0} }

any_seen : (I : Inside) (N : ℕ) → Sees any I N
any_seen I N = record { types = λ x n e. tt; structs = λ x n e. tt; variants = λ a v ns e. found a v ns e; variables = λ n l. tt }
  where
    found : (a v : Ident) (ns : List ℕ) → variant_in I a v ≡ Ok ns → (n : ℕ) × (j : ℕ) × (ns ≡ n ∷ j ∷ []) × Unit {0}
    found a v ns e =
        let o = item_named type_name 0 I.program a.name in
        let second = known (number_in (variants_named o) v.name) v.span in
        let x = named_ok (one (known (as_enum o) a.span)) (λ ns. names.and_then (one second) (λ ms. Ok (ns ++ ms))) ns e in
        let y = named_ok (known (as_enum o) a.span) (λ n. Ok (n ∷ [])) x.0 x.1 in
        let z = named_ok (one second) (λ ms. Ok (x.0 ++ ms)) ns x.2 in
        let w = named_ok second (λ n. Ok (n ∷ [])) z.0 z.1 in
        (y.0, w.0, sym (the_same (x.0 ++ z.0) ns z.2) ∙ ap (λ (l : List ℕ). l ++ z.0) (sym (the_same (y.0 ∷ []) x.0 y.2)) ∙ ap (λ (l : List ℕ). y.0 ∷ l) (sym (the_same (w.0 ∷ []) z.0 w.2)), tt)

as_many : (q : ProgramTree) (m : ℕ) (s : Span) (g : Function) (u : ItemNames) → in_item q m (plain.function_item s g) ≡ Ok u → length (function_variables s g u.names) ≡ length u.vars
as_many q m s g u e =
    let i = plain.function_item s g in
    let I : Inside = record { program = q; item = number m; lifetimes = firsts [] 0 (lifetimes_declared i) } in
    (function_taken any I s g m [] [] [] (record { vars = []; lifetimes = map (λ (l : Ident). l.span) (lifetimes_declared i); loops = []; names = [] }) u refl refl (λ y n q. absurd (cc)) (any_seen I (length u.vars)) e).variables

pub tables_few : (p q : ProgramTree) (m : ℕ) (s : Span) (f : Function) (r : Run) (pl : Plan) (u : ItemNames)
    → in_item q m (plain.function_item s (with_other_block (run_block r f) (with_parts r (call_parts p r pl f) (run_block r f)) f)) ≡ Ok u → Few (length u.vars) → CallIsFew p s f r pl u.names
tables_few p q m s f r pl u e l =
    let g = with_other_block (run_block r f) (with_parts r (call_parts p r pl f) (run_block r f)) f in let h = as_many q m s g u e in
    call_few p s f r pl u.names (λ k w. let below : k ≤ 4294967295 = omega (arith, w, h, l) in min-eq_left below)

pub ends_few : (p q : ProgramTree) (m : ℕ) (s : Span) (f : Function) (r : Run) (pl : Plan) (u : ItemNames) → goes_past r (statements (run_block r f)) ≡ true
    → in_item q m (plain.function_item s (with_other_block (run_block r f) (with_parts r (call_parts p r pl f) (run_block r f)) f)) ≡ Ok u → Few (length u.vars) → EndIsFew p s f r pl u.names
ends_few p q m s f r pl u past e l =
    let g = with_other_block (run_block r f) (with_parts r (call_parts p r pl f) (run_block r f)) f in let h = as_many q m s g u e in
    end_few p s f r pl u.names past (λ k w. let below : k ≤ 4294967295 = omega (arith, w, h, l) in min-eq_left below)
