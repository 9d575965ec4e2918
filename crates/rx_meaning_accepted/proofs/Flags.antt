-- What numbering tells of a loop is so: where no `break` is told to lead to it, none in its body does.
use Rattle.std.proofs.Common.{◌≡◌, ℕ, zero, suc, ◌-◌, ◌≤◌, ◌<◌, Bool, true, false, ◌&&◌, List, [], ◌∷◌, ◌++◌, length, slice_set, Option, Some, None, refl, sym, ap, ◌∙◌, subst, length-set, arith, true≢false}
use Rattle.std.specs.Prelude.{get_or}
use Rattle.rx_core.specs.declared.types.Span.{Span}
use Rattle.rx_tree.specs.declared.tree.Ident.{Ident}
use Rattle.rx_tree.specs.Plain as plain
use Rattle.rx_tree.specs.Plain.{TypeTree, TypeTrees, PatternTree, PatternTrees, Expression, Expressions, OptionalExpression, OptionalExpressions, FieldExpressions, Parameter}
use Rattle.rx_resolve_names.specs.declared.resolved.NodeNames.{NodeNames}
use Rattle.rx_typed.specs.declared.nodes.Node.{Node}
use Rattle.rx_typed.specs.declared.nodes.Site.{Site}
use Rattle.rx_typed.specs.declared.nodes.Declaration.{Declaration}
use Rattle.rx_typed.specs.declared.nodes.Stage.{Stage}
use Rattle.rx_typed.specs.declared.nodes.Use.{Use}
use Rattle.rx_typed.specs.Named as named
use Rattle.rx_typed.specs.Named.{Exp, Exps, Else, Fields, Arms, Body, Statement, Statements, node_of}
use Rattle.rx_typed.specs.Naming as numbering
use Rattle.rx_typed.specs.Naming.{Cursor, Numbering, give, and_then, a_node, an_entry, function_named}
use Rattle.rx_meaning_accepted.specs.Fitting.{BreaksNot, EachBreaksNot, ElseBreaksNot, FieldsBreakNot, ArmsBreakNot, BodyBreaksNot, StatementBreaksNot, StatementsBreakNot}
use Rattle.rx_meaning_accepted.proofs.Parted.{Told, EachTold, ElseTold, FieldsTold, ArmsTold, BodyTold, StatementTold, StatementsTold}

-- whether some `break` led to a loop so far
abbrev flag : Cursor → ℕ → Bool
flag c l = get_or c.loops l false

-- ---- steps that touch no loop

record Same {X : Type 0} (m : Numbering X) : Type 0 where
  still : (c : Cursor) → (m c).1.loops ≡ c.loops

same_then : {X Y : Type 0} {m : Numbering X} {k : X → Numbering Y} → Same m → ((a : X) → Same (k a)) → Same (and_then m k)
same_then {m = m} p q = record { still = λ c. (q (m c).0).still (m c).1 ∙ p.still c }

same_give : {X : Type 0} (x : X) → Same (give x)
same_give x = record { still = λ c. refl }

same_map : {X Y : Type 0} {m : Numbering X} (h : X → Y) → Same m → Same (and_then m (λ a. give (h a)))
same_map {m = m} h p = record { still = λ c. p.still c }

same_node : (s : Span) (t : Site) → Same (a_node s t)
same_node s t = record { still = λ c. refl }

taken_same : (ns : List NodeNames) (c : Cursor) → (numbering.taken ns c).1.loops ≡ c.loops
taken_same [] c = refl
taken_same (x ∷ xs) c = refl

same_entry : Same an_entry
same_entry = record { still = λ c. taken_same c.names c }

same_lifetime : (l : Option Ident) → Same (numbering.lifetime_entry l)
same_lifetime None = record { still = λ c. refl }
same_lifetime (Some l) = record { still = λ c. taken_same c.names c }

same_declare : (d : Declaration) → Same (numbering.declare d)
same_declare d = record { still = λ c. refl }

same_counted : Same numbering.counted
same_counted = record { still = λ c. refl }

same_between : (i j : ℕ) → Same (numbering.known_between i j)
same_between i j = record { still = λ c. refl }

same_waits_for : (p : Expression) (q : Exp) → Same (numbering.waits_for p q)
same_waits_for p q = record { still = λ c. refl }

same_use : (x : ℕ) → Same (numbering.a_use x)
same_use x = record { still = λ c. refl }

mutual
  same_type : (t : TypeTree) → Same (numbering.of_type t)
  same_type (plain.kind_type s k) = same_map (λ n. named.a_kind n k) (same_node s Site.Value)
  same_type (plain.bool_type s) = same_map named.a_bool (same_node s Site.Value)
  same_type (plain.tuple_type s ts) = same_then (same_node s Site.Value) (λ n. same_map (named.a_tuple n) (same_types ts))
  same_type (plain.ref_type s l m t) = same_then (same_node s Site.Value) (λ n. same_then (same_lifetime l) (λ x. same_map (named.a_reference n m) (same_type t)))
  same_type (plain.named_type s x ls) = same_then (same_node s Site.Value) (λ n. same_map (λ ns. named.an_item n (numbering.first ns.0) (numbering.lifetimes_written ls)) same_entry)

  same_types : (ts : TypeTrees) → Same (numbering.of_types ts)
  same_types plain.no_type = same_give named.no_written
  same_types (plain.type_and t ts) = same_then (same_type t) (λ t. same_map (named.written_and t) (same_types ts))

same_optional_type : (y : Option TypeTree) → Same (numbering.of_optional_type y)
same_optional_type None = same_give None
same_optional_type (Some t) = same_map (λ t. Some t) (same_type t)

same_annotates : (p : PatternTree) (y : Option TypeTree) → Same (numbering.annotates p y)
same_annotates p None = record { still = λ c. refl }
same_annotates p (Some t) = record { still = λ c. refl }

mutual
  same_pattern : (p : PatternTree) → Same (numbering.of_pattern p)
  same_pattern (plain.wild s) = same_map named.wild (same_node s Site.Value)
  same_pattern (plain.bind s x m) = same_then (same_node s Site.Value) (λ n. same_then same_entry (λ e. same_map (λ x. named.bind n x m) (same_declare (record { mutable = m; stage = Stage.Given }))))
  same_pattern (plain.int_pattern s g v k) = same_map (λ n. named.whole_number n g v k) (same_node s Site.Value)
  same_pattern (plain.bool_pattern s b) = same_map (λ n. named.truth n b) (same_node s Site.Value)
  same_pattern (plain.tuple_pattern s ps) = same_then (same_node s Site.Value) (λ n. same_map (named.tuple_pattern n) (same_patterns ps))
  same_pattern (plain.variant_pattern s a v ps) = same_then (same_node s Site.Value) (λ n. same_then same_entry (λ ns. same_map (named.variant_pattern n (numbering.first ns.0) (numbering.second ns.0)) (same_patterns ps)))
  same_pattern (plain.make_pattern s x fs) = same_then (same_node s Site.Value) (λ n. same_then same_entry (λ ns. same_map (named.struct_pattern n (numbering.first ns.0)) (same_field_patterns fs)))

  same_patterns : (ps : PatternTrees) → Same (numbering.of_patterns ps)
  same_patterns plain.no_pattern = same_give named.no_pattern
  same_patterns (plain.pattern_and p ps) = same_then (same_pattern p) (λ p. same_map (named.pattern_and p) (same_patterns ps))

  same_field_patterns : (fs : plain.FieldPatterns) → Same (numbering.of_field_patterns fs)
  same_field_patterns plain.no_field_pattern = same_give named.no_field_pattern
  same_field_patterns (plain.field_pattern_and x p fs) = same_then (same_pattern p) (λ p. same_map (named.field_pattern_and x.name p) (same_field_patterns fs))

given_same : (x : ℕ) (o : Option (ℕ × ℕ)) (c : Cursor) → (numbering.given_here x o c).1.loops ≡ c.loops
given_same x None c = refl
given_same x (Some w) c = refl

same_gives : (x : ℕ) → Same (numbering.gives_here x)
same_gives x = record { still = λ c. given_same x (numbering.waiting x (numbering.declaration c x).stage) c }

same_waits_at : (n : Node) (o : Option ℕ) → Same (numbering.waits_at n o)
same_waits_at n None = record { still = λ c. refl }
same_waits_at n (Some x) = record { still = λ c. refl }

same_waits : (b : Bool) (p : named.Pattern) → Same (numbering.waits_if b p)
same_waits true p = same_waits_at (named.pattern_node p) (named.whole_binding p)
same_waits false p = record { still = λ c. refl }

-- ---- a part: what was told stays told, and a loop that began before it, of which nothing is told behind it, has no `break` in it

record Keeps {X : Type 0} (B : ℕ → X → Type 0) (M : X → Type 0) (m : Numbering X) : Type 0 where
  kept : (c : Cursor) (l : ℕ) → l < length c.loops → flag c l ≡ true → flag (m c).1 l ≡ true
  grown : (c : Cursor) → length c.loops ≤ length (m c).1.loops
  quiet : (c : Cursor) (l : ℕ) → l < length c.loops → flag (m c).1 l ≡ false → B l (m c).0
  told : (c : Cursor) → M (m c).0

unlike : (b : Bool) → b ≡ true → b ≡ false → ⊥
unlike true p q = true≢false q
unlike false p q = cc

not_true : (b : Bool) → (b ≡ true → ⊥) → b ≡ false
not_true true f = absurd (f refl)
not_true false f = refl

keeps_give : {X : Type 0} {B : ℕ → X → Type 0} {M : X → Type 0} (x : X) → ((l : ℕ) → B l x) → M x → Keeps B M (give x)
keeps_give x b m = record { kept = λ c l k h. h; grown = λ c. omega arith; quiet = λ c l k h. b l; told = λ c. m }

-- a part and what follows it
keeps_then : {X Y : Type 0} {B : ℕ → X → Type 0} {M : X → Type 0} {C : ℕ → Y → Type 0} {N : Y → Type 0} {m : Numbering X} {k : X → Numbering Y} → Keeps B M m
    → ((a : X) → M a → Keeps (λ l y. B l a → C l y) N (k a)) → Keeps C N (and_then m k)
keeps_then {m = m} {k = k} p q = record {
  kept = λ c l j h. let g = p.grown c in (q (m c).0 (p.told c)).kept (m c).1 l (omega (arith, j, g)) (p.kept c l j h);
  grown = λ c. let g = p.grown c in let h = (q (m c).0 (p.told c)).grown (m c).1 in omega (arith, g, h);
  quiet = λ c l j h. let g = p.grown c in let r = q (m c).0 (p.told c) in let i : l < length (m c).1.loops = omega (arith, j, g) in
      r.quiet (m c).1 l i h (p.quiet c l j (not_true (flag (m c).1 l) (λ e. unlike (flag (k (m c).0 (m c).1).1 l) (r.kept (m c).1 l i e) h)));
  told = λ c. (q (m c).0 (p.told c)).told (m c).1;
}

keeps_same : {X Y : Type 0} {C : ℕ → Y → Type 0} {N : Y → Type 0} {m : Numbering X} {k : X → Numbering Y} → Same m → ((a : X) → Keeps C N (k a)) → Keeps C N (and_then m k)
keeps_same {m = m} {k = k} p q = record {
  kept = λ c l j h. (q (m c).0).kept (m c).1 l (subst (λ (s : List Bool). l < length s) (sym (p.still c)) j) (ap (λ (s : List Bool). get_or s l false) (p.still c) ∙ h);
  grown = λ c. subst (λ (s : List Bool). length s ≤ length (k (m c).0 (m c).1).1.loops) (p.still c) ((q (m c).0).grown (m c).1);
  quiet = λ c l j h. (q (m c).0).quiet (m c).1 l (subst (λ (s : List Bool). l < length s) (sym (p.still c)) j) h;
  told = λ c. (q (m c).0).told (m c).1;
}

keeps_map : {X Y : Type 0} {B : ℕ → X → Type 0} {M : X → Type 0} {C : ℕ → Y → Type 0} {N : Y → Type 0} {m : Numbering X} (h : X → Y) → Keeps B M m → ((l : ℕ) (a : X) → B l a → C l (h a)) → ((a : X) → M a → N (h a)) → Keeps C N (and_then m (λ a. give (h a)))
keeps_map h p b n = keeps_then p (λ a t. keeps_give (h a) (λ l x. b l a x) (n a t))

-- ---- lists of flags

flag_set : (s : List Bool) (k l : ℕ) → get_or s l false ≡ true → get_or (slice_set s k true) l false ≡ true
flag_set [] zero l e = e
flag_set [] (suc k) l e = e
flag_set (b ∷ s) zero zero e = refl
flag_set (b ∷ s) zero (suc l) e = e
flag_set (b ∷ s) (suc k) zero e = e
flag_set (b ∷ s) (suc k) (suc l) e = flag_set s k l e

flag_there : (s : List Bool) (l : ℕ) → l < length s → get_or (slice_set s l true) l false ≡ true
flag_there [] l h = absurd (omega (arith, h))
flag_there (b ∷ s) zero h = refl
flag_there (b ∷ s) (suc l) h = flag_there s l (omega (arith, h))

flag_more : (s : List Bool) (l : ℕ) → l < length s → get_or (s ++ false ∷ []) l false ≡ get_or s l false
flag_more [] l h = absurd (omega (arith, h))
flag_more (b ∷ s) zero h = refl
flag_more (b ∷ s) (suc l) h = flag_more s l (omega (arith, h))

one_more : (s : List Bool) → length (s ++ false ∷ []) ≡ suc (length s)
one_more [] = refl
one_more (b ∷ s) = ap suc (one_more s)

-- a `break` is told of its loop
keeps_break : (n : Node) (k : ℕ) → Keeps BreaksNot Told (and_then (numbering.leads k) (λ _. give (named.break n k)))
keeps_break n k = record {
  kept = λ c l j h. flag_set c.loops k l h;
  grown = λ c. let e = length-set c.loops k true in omega (arith, e);
  quiet = λ c l j h e. unlike (get_or (slice_set c.loops k true) l false) (subst (λ (z : ℕ). get_or (slice_set c.loops z true) l false ≡ true) (sym e) (flag_there c.loops l j)) h;
  told = λ c. tt;
}

-- in a new loop
keeps_loop : {Y : Type 0} {C : ℕ → Y → Type 0} {N : Y → Type 0} {k : ℕ → Numbering Y} → ((l : ℕ) → Keeps C N (k l)) → Keeps C N (and_then numbering.a_loop k)
keeps_loop {k = k} q = record {
  kept = λ c l j h. let e = one_more c.loops in (q (length c.loops)).kept (numbering.a_loop c).1 l (omega (arith, j, e)) (flag_more c.loops l j ∙ h);
  grown = λ c. let e = one_more c.loops in let g = (q (length c.loops)).grown (numbering.a_loop c).1 in omega (arith, e, g);
  quiet = λ c l j h. let e = one_more c.loops in (q (length c.loops)).quiet (numbering.a_loop c).1 l (omega (arith, j, e)) h;
  told = λ c. (q (length c.loops)).told (numbering.a_loop c).1;
}

-- a loop whose body is told of
keeps_told : (n : Node) (m : Numbering Body) → Keeps BodyBreaksNot BodyTold m → Keeps BreaksNot Told (and_then numbering.a_loop (λ l. and_then m (λ b. and_then (numbering.is_left l) (λ k. give (named.loop n l k b)))))
keeps_told n m p = record {
  kept = λ c l j h. let e = one_more c.loops in p.kept (numbering.a_loop c).1 l (omega (arith, j, e)) (flag_more c.loops l j ∙ h);
  grown = λ c. let e = one_more c.loops in let g = p.grown (numbering.a_loop c).1 in omega (arith, e, g);
  quiet = λ c l j h. let e = one_more c.loops in p.quiet (numbering.a_loop c).1 l (omega (arith, j, e)) h;
  told = λ c. ((λ q. let e = one_more c.loops in p.quiet (numbering.a_loop c).1 (length c.loops) (omega (arith, e)) q), p.told (numbering.a_loop c).1);
}

-- ---- all forms

keeps_used : (n : Node) → Keeps BreaksNot Told (and_then an_entry (λ ns c. (named.var n (numbering.use_of (numbering.first ns.0) (numbering.declaration c (numbering.first ns.0))), c)))
keeps_used n = record {
  kept = λ c l j h. ap (λ (s : List Bool). get_or s l false) (taken_same c.names c) ∙ h;
  grown = λ c. let e = ap (λ (s : List Bool). length s) (taken_same c.names c) in omega (arith, e);
  quiet = λ c l j h. tt;
  told = λ c. tt;
}

keeps_called : (n : Node) (a : List ℕ × Bool) (f : Site → Numbering Exps) → ((t : Site) → Keeps EachBreaksNot EachTold (f t)) → Keeps BreaksNot Told (numbering.called n a f)
keeps_called n (ns, true) f h = keeps_map (named.hidden_call n) (h Site.Value) (λ l a x. x) (λ a x. x)
keeps_called n (ns, false) f h = keeps_map (named.call n (numbering.first ns)) (h Site.Expects) (λ l a x. x) (λ a x. x)

keeps_assigned : (n : Node) (p : Exp) (w : Option (ℕ × ℕ)) (f : Site → Numbering Exp) → Told p → ((t : Site) → Keeps BreaksNot Told (f t)) → Keeps (λ l y. BreaksNot l p → BreaksNot l y) Told (numbering.assigned n p w f)
keeps_assigned n p None f g h = keeps_map (named.assign n p) (h Site.Expects) (λ l a x y. (y, x)) (λ a x. (g, x))
keeps_assigned n p (Some w) f g h = keeps_then (h Site.Reborrows) (λ e t. keeps_same (same_use w.0) (λ x. keeps_same (same_gives w.0) (λ d. keeps_give (named.gives n (node_of p) x d e) (λ l b y. b) t)))

mutual
  exp_keeps : (e : Expression) (m : Bool) (t : Site) → Keeps BreaksNot Told (numbering.of_expression m t e)
  exp_keeps (plain.int s v k) m t = keeps_same (same_node s t) (λ n. keeps_give (named.int n m v k) (λ l. tt) tt)
  exp_keeps (plain.bool s b) m t = keeps_same (same_node s t) (λ n. keeps_give (named.bool n b) (λ l. tt) tt)
  exp_keeps (plain.tuple s es) m t = keeps_same (same_node s t) (λ n. keeps_map (named.tuple n) (each_keeps es Site.Value) (λ l a x. x) (λ a x. x))
  exp_keeps (plain.var s x) m t = keeps_same (same_node s t) (λ n. keeps_used n)
  exp_keeps (plain.field s e x) m t = keeps_same (same_node s t) (λ n. keeps_map (λ e. named.field n e x.name) (exp_keeps e false Site.Place) (λ l a x. x) (λ a x. x))
  exp_keeps (plain.part s e i) m t = keeps_same (same_node s t) (λ n. keeps_map (λ e. named.part n e i) (exp_keeps e false Site.Place) (λ l a x. x) (λ a x. x))
  exp_keeps (plain.deref s e) m t = keeps_same (same_node s t) (λ n. keeps_map (named.deref n) (exp_keeps e false Site.Place) (λ l a x. x) (λ a x. x))
  exp_keeps (plain.negate s e) m t = keeps_same (same_node s t) (λ n. keeps_map (named.negate n) (exp_keeps e true Site.Value) (λ l a x. x) (λ a x. x))
  exp_keeps (plain.invert s e) m t = keeps_same (same_node s t) (λ n. keeps_map (named.invert n) (exp_keeps e false Site.Value) (λ l a x. x) (λ a x. x))
  exp_keeps (plain.borrow s w e) m t = keeps_same (same_node s t) (λ n. keeps_map (named.borrow n w) (exp_keeps e false Site.Place) (λ l a x. x) (λ a x. x))
  exp_keeps (plain.binary s o a b) m t = keeps_same (same_node s t) (λ n. keeps_then (exp_keeps a false Site.Value) (λ c x. keeps_map (named.binary n o c) (exp_keeps b false Site.Value) (λ l d y z. (z, y)) (λ d y. (x, y))))
  exp_keeps (plain.assign s p e) m t = keeps_same (same_node s t) (λ n. keeps_then (exp_keeps p false Site.Place) (λ q x. keeps_same (same_waits_for p q) (λ w. keeps_assigned n q w (λ t. numbering.of_expression false t e) x (λ t. exp_keeps e false t))))
  exp_keeps (plain.update s o p e) m t = keeps_same (same_node s t) (λ n. keeps_then (exp_keeps p false Site.Place) (λ c x. keeps_map (named.update n o c) (exp_keeps e false Site.Value) (λ l d y z. (z, y)) (λ d y. (x, y))))
  exp_keeps (plain.call s f es) m t = keeps_same (same_node s t) (λ n. keeps_same same_entry (λ ns. keeps_called n ns (λ t. numbering.of_expressions t es) (λ t. each_keeps es t)))
  exp_keeps (plain.next_input s) m t = keeps_same (same_node s t) (λ n. keeps_same same_entry (λ ns. keeps_give (named.next_input n) (λ l. tt) tt))
  exp_keeps (plain.variant s a v es) m t = keeps_same (same_node s t) (λ n. keeps_same same_entry (λ ns. keeps_map (named.variant n (numbering.first ns.0) (numbering.second ns.0)) (arguments_keep es) (λ l a x. x) (λ a x. x)))
  exp_keeps (plain.make s x fs) m t = keeps_same (same_node s t) (λ n. keeps_same same_entry (λ ns. keeps_map (named.make n (numbering.first ns.0)) (fields_keep fs) (λ l a x. x) (λ a x. x)))
  exp_keeps (plain.print s e) m t = keeps_same (same_node s t) (λ n. keeps_map (named.print n) (exp_keeps e false Site.Value) (λ l a x. x) (λ a x. x))
  exp_keeps (plain.block s b) m t = keeps_same (same_node s t) (λ n. keeps_map (named.block n) (body_keeps b (numbering.passed_on t)) (λ l a x. x) (λ a x. x))
  exp_keeps (plain.if s x b o) m t = keeps_same (same_node s t) (λ n. keeps_then (exp_keeps x false Site.Value) (λ c u. keeps_then (body_keeps b (numbering.branch_site t o)) (λ d v.
      keeps_map (named.if n c d) (optional_keeps o (numbering.passed_on t)) (λ l e y z w. (w, z, y)) (λ e y. (u, v, y)))))
  exp_keeps (plain.if_let s p e b o) m t = keeps_same (same_node s t) (λ n. keeps_same same_counted (λ i. keeps_same (same_pattern p) (λ q. keeps_same same_counted (λ j. keeps_then (exp_keeps e false Site.Scrutinee) (λ c u.
      keeps_same (same_between i j) (λ k. keeps_then (body_keeps b (numbering.branch_site t o)) (λ d v. keeps_map (named.if_let n q c d) (optional_keeps o (numbering.passed_on t)) (λ l e y z w. (w, z, y)) (λ e y. (u, v, y)))))))))
  exp_keeps (plain.match s e r) m t = keeps_same (same_node s t) (λ n. keeps_then (exp_keeps e false Site.Scrutinee) (λ c u. keeps_map (named.match n c) (arms_keep r (numbering.passed_on t)) (λ l d y z. (z, y)) (λ d y. (u, y))))
  exp_keeps (plain.loop s x b) m t = keeps_same (same_node s t) (λ n. keeps_told n (numbering.of_body Site.Value b) (body_keeps b Site.Value))
  exp_keeps (plain.while s x e b) m t = keeps_same (same_node s t) (λ n. keeps_loop (λ i. keeps_then (exp_keeps e false Site.Value) (λ c u. keeps_map (named.while n i c) (body_keeps b Site.Value) (λ l d y z. (z, y)) (λ d y. (u, y)))))
  exp_keeps (plain.while_let s x p e b) m t = keeps_same (same_node s t) (λ n. keeps_loop (λ v. keeps_same same_counted (λ i. keeps_same (same_pattern p) (λ q. keeps_same same_counted (λ j. keeps_then (exp_keeps e false Site.Scrutinee) (λ c u.
      keeps_same (same_between i j) (λ k. keeps_map (named.while_let n v q c) (body_keeps b Site.Value) (λ l d y z. (z, y)) (λ d y. (u, y)))))))))
  exp_keeps (plain.break s x) m t = keeps_same (same_node s t) (λ n. keeps_same same_entry (λ ns. keeps_break n (numbering.first ns.0)))
  exp_keeps (plain.continue s x) m t = keeps_same (same_node s t) (λ n. keeps_same same_entry (λ ns. keeps_give (named.continue n (numbering.first ns.0)) (λ l. tt) tt))
  exp_keeps (plain.return s o) m t = keeps_same (same_node s t) (λ n. keeps_map (named.return n) (optional_keeps o Site.Expects) (λ l a x. x) (λ a x. x))

  each_keeps : (es : Expressions) (t : Site) → Keeps EachBreaksNot EachTold (numbering.of_expressions t es)
  each_keeps plain.no_expression t = keeps_give named.no_exp (λ l. tt) tt
  each_keeps (plain.expression_and e es) t = keeps_then (exp_keeps e false t) (λ c u. keeps_map (named.exp_and c) (each_keeps es t) (λ l d y z. (z, y)) (λ d y. (u, y)))

  optional_keeps : (o : OptionalExpression) (t : Site) → Keeps ElseBreaksNot ElseTold (numbering.of_optional t o)
  optional_keeps plain.absent t = keeps_give named.absent (λ l. tt) tt
  optional_keeps (plain.present e) t = keeps_map (λ e. named.present e) (exp_keeps e false t) (λ l a x. x) (λ a x. x)

  arguments_keep : (o : OptionalExpressions) → Keeps EachBreaksNot EachTold (numbering.of_arguments o)
  arguments_keep plain.no_list = keeps_give named.no_exp (λ l. tt) tt
  arguments_keep (plain.a_list es) = each_keeps es Site.Expects

  fields_keep : (fs : FieldExpressions) → Keeps FieldsBreakNot FieldsTold (numbering.of_fields fs)
  fields_keep plain.no_field = keeps_give named.no_field (λ l. tt) tt
  fields_keep (plain.field_and x e fs) = keeps_then (exp_keeps e false Site.Expects) (λ c u. keeps_map (named.field_and x.name c) (fields_keep fs) (λ l d y z. (z, y)) (λ d y. (u, y)))

  arms_keep : (r : plain.Arms) (t : Site) → Keeps ArmsBreakNot ArmsTold (numbering.of_arms t r)
  arms_keep plain.no_arm t = keeps_give named.no_arm (λ l. tt) tt
  arms_keep (plain.arm_and p e r) t = keeps_same same_counted (λ i. keeps_same (same_pattern p) (λ q. keeps_same same_counted (λ j. keeps_same (same_between i j) (λ k.
      keeps_then (exp_keeps e false t) (λ c u. keeps_map (named.arm_and q c) (arms_keep r t) (λ l d y z. (z, y)) (λ d y. (u, y)))))))

  body_keeps : (b : plain.Body) (t : Site) → Keeps BodyBreaksNot BodyTold (numbering.of_body t b)
  body_keeps (plain.body s ss o) t = keeps_same (same_node s t) (λ n. keeps_then (statements_keep ss) (λ c u. keeps_map (named.body n c) (optional_keeps o t) (λ l d y z. (z, y)) (λ d y. (u, y))))

  statements_keep : (ss : plain.Statements) → Keeps StatementsBreakNot StatementsTold (numbering.of_statements ss)
  statements_keep plain.no_statement = keeps_give named.no_statement (λ l. tt) tt
  statements_keep (plain.statement_and a ss) = keeps_then (statement_keeps a) (λ c u. keeps_map (named.statement_and c) (statements_keep ss) (λ l d y z. (z, y)) (λ d y. (u, y)))

  statement_keeps : (a : plain.Statement) → Keeps StatementBreaksNot StatementTold (numbering.of_statement a)
  statement_keeps (plain.let_statement s p y plain.absent) = keeps_same (same_node s Site.Value) (λ n. keeps_same (same_annotates p y) (λ h. keeps_same same_counted (λ i. keeps_same (same_pattern p) (λ q. keeps_same same_counted (λ j.
      keeps_same (same_optional_type y) (λ z. keeps_same (same_between i j) (λ k. keeps_same (same_waits (numbering.has_no_type z) q) (λ w. keeps_give (named.declares n q z) (λ l. tt) tt))))))))
  statement_keeps (plain.let_statement s p y (plain.present e)) = keeps_same (same_node s Site.Value) (λ n. keeps_same (same_annotates p y) (λ h. keeps_same same_counted (λ i. keeps_same (same_pattern p) (λ q. keeps_same same_counted (λ j.
      keeps_same (same_optional_type y) (λ z. keeps_then (exp_keeps e false (numbering.initialiser_site z)) (λ x u. keeps_same (same_between i j) (λ k. keeps_same (same_waits (numbering.has_no_type z && named.never x) q) (λ w.
      keeps_give (named.lets n q z x) (λ l b. b) u)))))))))
  statement_keeps (plain.expression_statement s e b) = keeps_same (same_node s Site.Value) (λ n. keeps_map (λ e. named.evaluates n e b) (exp_keeps e false Site.Value) (λ l a x. x) (λ a x. x))

pub function_told : (i : ℕ) (s : Span) (f : plain.Function) (ns : List NodeNames) → BodyTold (function_named i s f ns).body
function_told i s f ns =
    let c1 = (numbering.entry_if (numbering.has_entry f) (a_node s Site.Value (numbering.begins ns)).1).1 in
    (body_keeps f.body Site.Expects).told (numbering.of_optional_type f.result (numbering.of_parameters f.params c1).1).1
