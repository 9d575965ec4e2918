-- The demands of an expression are in order, and tell its type and those of the variables that it makes known.
use Rattle.std.proofs.Common.{◌≡◌, ℕ, suc, ◌+◌, ◌-◌, ◌≤◌, ◌<◌, Bool, true, false, not, ◌&&◌, ◌||◌, IsTrue, List, [], ◌∷◌, length, get_or, length-set, Option, Some, None, refl, sym, subst, ◌⊎◌, inl, inr, ⊎_elim, arith, ◌∙◌}
use Rattle.rx_core.specs.declared.types.Span.{Span}
use Rattle.rx_core.specs.declared.types.Kind.{Kind}
use Rattle.rx_tree.specs.Plain as plain
use Rattle.rx_tree.specs.Plain.{TypeTree, PatternTree, Expression, Expressions, OptionalExpression, OptionalExpressions, FieldExpressions, Statement, Statements}
use Rattle.rx_typed.specs.declared.nodes.Node.{Node}
use Rattle.rx_typed.specs.declared.nodes.Site.{Site}
use Rattle.rx_typed.specs.declared.nodes.Use.{Use}
use Rattle.rx_typed.specs.declared.nodes.Stage.{Stage}
use Rattle.rx_typed.specs.declared.nodes.Declaration.{Declaration}
use Rattle.rx_typed.specs.Named as named
use Rattle.rx_typed.specs.Named.{Written, Pattern, Exp, Exps, Else, Fields, Arms, Body, node_of, body_node, written_node, pattern_node, is_place, never, body_never, else_never, all_never, some_diverges, root}
use Rattle.rx_typed.specs.Naming as naming
use Rattle.rx_typed.specs.Naming.{Cursor, a_node, an_entry, declaration, is_known, passed_on, known_among}
use Rattle.rx_typed.specs.Elaborated.{variables}
use Rattle.rx_typeck_solver.specs.declared.facts.Rule.{Rule}
use Rattle.rx_typeck_solver.specs.declared.facts.Broken.TheVariants as broken
use Rattle.rx_typeck_solver.specs.declared.facts.Subject.{Subject}
use Rattle.rx_typeck_solver.specs.declared.facts.Subject.TheVariants as subject
use Rattle.rx_typeck_solver.specs.declared.facts.Op.{Op}
use Rattle.rx_typeck_solver.specs.declared.facts.Op.TheVariants as op
use Rattle.rx_typeck_solver.specs.declared.facts.Test.{Test}
use Rattle.rx_typeck_solver.specs.declared.facts.Test.TheVariants as test
use Rattle.rx_typeck_solver.specs.declared.facts.Fact.TheVariants as fact
use Rattle.rx_typeck_solver.specs.declared.facts.Demand.{Demand}
use Rattle.rx_typeck_solver.specs.Valid.{IsIn}
use Rattle.rx_typeck_solver.specs.Solver.{same_subject}
use Rattle.rx_typeck_typed.specs.Asking.{ask, type_of, expected, alike, signed, fitting, with_suffix, is_open}
use Rattle.rx_typeck_typed.specs.Demands as rules
use Rattle.rx_typeck_typed.specs.Demands.{Listed, members, values, parameters, parts_of, through, matched, a_value}
use Rattle.rx_typeck_typed.proofs.Reach.{Sure, Known, Passed, Reach, stays, ◌⇒◌, Tells, TellsAll, sure_kept, sure_passed, equals_asked, passes_asked, integer_asked, never_asked, asked, and_true, known_none, known_and, known_one, passed_none, passed_and}
use Rattle.rx_typeck_typed.proofs.VariableLemmas.{Agrees, agrees_then, known_set, known_within, known_length}
use Rattle.rx_typeck_typed.proofs.PatternsTold.{VariablesTold, limits_reach, whole_type_told, whole_told}
use Rattle.rx_typeck_typed.proofs.PatternsNamed.{Names, entry_variables, optional_type_names, pattern_names, same_names, entry_names}
use Rattle.rx_typeck_typed.proofs.SitesTold.{Wanted, wanted_kept, nothing_wanted, ToldIf, told_if, told_sure, told_kept, told_place, value_reach, place_reach, own_told, never_told, not_never_told, tested_reach, unit_told, nothing_reach, print_reach, GivenIf, given_kept, given_none, given_sure, given_both, before_same, before_told, after_told, join_told, sure_to_match, place_typed, negated_told, inverted_told, updated_reach, operation_told, borrowed_reach, assignable_reach}

-- ---- variables between the naming and the demands

pub agrees_names : {c c' : Cursor} {xs : List ℕ} {ds : List Demand} → Names c c' xs → Agrees c ds → Agrees c' ds
agrees_names n a = record { is = λ x k. a.is x (n.unknown x k); counts = n.counts a.counts }

-- a cursor with the same variables
pub agrees_as : {c : Cursor} {ds : List Demand} (c' : Cursor) → c'.variables ≡ c.variables → c'.declared ≡ c.declared → Agrees c ds → Agrees c' ds
agrees_as c' e d a = agrees_names (same_names e d) a

pub agrees_node : (s : Span) (t : Site) (c : Cursor) {ds : List Demand} → Agrees c ds → Agrees (a_node s t c).1 ds
agrees_node s t c a = agrees_as (a_node s t c).1 refl refl a

pub agrees_entry : (c : Cursor) (ds : List Demand) → Agrees c ds → Agrees (an_entry c).1 ds
agrees_entry c ds a = agrees_names (entry_names c) a

pub agrees_between : (i j : ℕ) (c : Cursor) (ds : List Demand) → Agrees c ds → i ≤ j → ((x : ℕ) → i ≤ x → x < j → Sure ds (subject.Variable x)) → Agrees (naming.known_between i j c).1 ds
agrees_between i j c ds a l h = record {
  is = λ x k. ⊎_elim (λ old. a.is x old) (λ within. let p = within.0 in let q = within.1 in h x p (omega arith)) (known_within i (j - i) c.variables x k);
  counts = a.counts ∙ sym (known_length i (j - i) c.variables);
}

-- all are known where everything was told
pub agrees_all : (c : Cursor) (ds : List Demand) → ((x : Subject) → Sure ds x) → c.declared ≡ length c.variables → Agrees c ds
agrees_all c ds h e = record { is = λ x k. h _; counts = e }

-- ---- what is shown of an expression

pub record Walked (f : ℕ) (t : Site) (r : Exp × Cursor) (ds : List Demand) : Type 0 where
  pub reach : Reach ds (rules.of_exp f r.0 ds)
  pub agrees : Agrees r.1 (rules.of_exp f r.0 ds)
  pub told : ToldIf t (never r.0) (rules.of_exp f r.0 ds) (node_of r.0)
  pub passed : Passed (rules.of_exp f r.0 ds) (through r.0)

pub record WalkedBody (f : ℕ) (t : Site) (r : Body × Cursor) (ds : List Demand) : Type 0 where
  pub reach : Reach ds (rules.of_body f r.0 ds)
  pub agrees : Agrees r.1 (rules.of_body f r.0 ds)
  pub told : ToldIf t (body_never r.0) (rules.of_body f r.0 ds) (body_node r.0)

pub record WalkedList (ds ds' : List Demand) (c : Cursor) : Type 0 where
  pub reach : Reach ds ds'
  pub agrees : Agrees c ds'

-- what follows `else`, a part of a node at a site
pub record WalkedElse (f : ℕ) (t : Site) (n : Node) (r : Else × Cursor) (ds : List Demand) : Type 0 where
  pub reach : Reach ds (rules.of_else f n r.0 ds)
  pub agrees : Agrees r.1 (rules.of_else f n r.0 ds)
  pub given : GivenIf t (else_never r.0) (rules.of_else f n r.0 ds) n

pub record WalkedArms (f : ℕ) (n : Node) (s : Exp) (r : Arms × Cursor) (ds : List Demand) : Type 0 where
  pub reach : Reach ds (rules.of_arms f n (matched s) (node_of s) r.0 ds)
  pub agrees : Agrees r.1 (rules.of_arms f n (matched s) (node_of s) r.0 ds)
  pub given : GivenIf n.site (all_never r.0) (rules.of_arms f n (matched s) (node_of s) r.0 ds) n

pub record JoinedAt (t : Site) (v : Bool) (ds ds' : List Demand) (n : Node) : Type 0 where
  pub reach : Reach ds ds'
  pub told : ToldIf t v ds' n

-- ---- lists of values

abbrev pub list_site : Listed → Site
list_site members = Site.Value
list_site values = Site.Value
list_site (parameters g) = Site.Expects
list_site (parts_of i v) = Site.Expects

record EachBefore (w : Listed) (ds ds' : List Demand) (m : Node) : Type 0 where
  reach : Reach ds ds'
  wanted : Wanted (list_site w) m ds'

expects_told : (m : Node) (o : Op) (ds : List Demand) → Tells ds (rules.expects m o [] ds) (expected m)
expects_told m o ds = equals_asked m _ _ _ [] [] ds known_none passed_none

each_before_told : (w : Listed) (k : ℕ) (m : Node) (ds : List Demand) → EachBefore w ds (rules.each_before w k m ds) m
each_before_told members k m ds = record { reach = stays ds; wanted = nothing_wanted }
each_before_told values k m ds = record { reach = stays ds; wanted = nothing_wanted }
each_before_told (parameters g) k m ds = let a = expects_told m (op.Parameter g k) ds in record { reach = a.reach; wanted = record { is = a.told } }
each_before_told (parts_of i v) k m ds = let a = expects_told m (op.PartOf i v k) ds in record { reach = a.reach; wanted = record { is = a.told } }

-- the nodes of the members of a tuple are known
abbrev MembersKnown : Listed → List Demand → Exps → Type 0
MembersKnown members ds es = Known ds (rules.exp_nodes es)
MembersKnown _ ds es = Unit {0}

abbrev MemberSure : Listed → List Demand → Exp → Type 0
MemberSure members ds e = Sure ds (type_of (node_of e))
MemberSure _ ds e = Unit {0}

members_kept : (w : Listed) (ds ds' : List Demand) (e : Exp) (es : Exps) → MemberSure w ds e → Reach ds ds' → MembersKnown w ds' es → MembersKnown w ds' (named.exp_and e es)
members_kept members ds ds' e es h r k = known_and (sure_kept r h) k
members_kept values ds ds' e es h r k = tt
members_kept (parameters g) ds ds' e es h r k = tt
members_kept (parts_of i v) ds ds' e es h r k = tt

no_members : (w : Listed) (ds : List Demand) → MembersKnown w ds named.no_exp
no_members members ds = known_none
no_members values ds = tt
no_members (parameters g) ds = tt
no_members (parts_of i v) ds = tt

record EachAfter (w : Listed) (ds ds' : List Demand) (e : Exp) : Type 0 where
  reach : Reach ds ds'
  sure : MemberSure w ds' e

each_after_told : (w : Listed) (e : Exp) (ds : List Demand) → ToldIf (list_site w) (never e) ds (node_of e) → EachAfter w ds (rules.each_after w e ds) e
each_after_told members e ds h = let a = not_never_told (node_of e) (never e) Site.Value ds h in record { reach = a.reach; sure = a.told }
each_after_told values e ds h = record { reach = stays ds; sure = tt }
each_after_told (parameters g) e ds h = record { reach = stays ds; sure = tt }
each_after_told (parts_of i v) e ds h = record { reach = stays ds; sure = tt }

record WalkedEach (f : ℕ) (w : Listed) (k : ℕ) (r : Exps × Cursor) (ds : List Demand) : Type 0 where
  reach : Reach ds (rules.of_each f w k r.0 ds)
  agrees : Agrees r.1 (rules.of_each f w k r.0 ds)
  known : MembersKnown w (rules.of_each f w k r.0 ds) r.0

-- ---- pieces of arms

-- a node with a type of its own, behind its parts
owns : (f : ℕ) (t : Site) (r : Exp × Cursor) (ds ds1 : List Demand) → Reach ds ds1 → Agrees r.1 ds1 → Tells ds1 (rules.of_exp f r.0 ds) (type_of (node_of r.0)) → through r.0 ≡ [] → Walked f t r ds
owns f t r ds ds1 a b o e = record {
  reach = a ⇒ o.reach;
  agrees = agrees_then o.reach b;
  told = told_if o.told;
  passed = subst (λ ps. Passed (rules.of_exp f r.0 ds) ps) (sym e) passed_none;
}

-- a place, behind what tells its own type
places : (f : ℕ) (t : Site) (r : Exp × Cursor) (ds ds1 : List Demand) → Reach ds ds1 → Agrees r.1 ds1 → Sure ds1 (type_of (node_of r.0)) → Passed ds1 (through r.0) → Wanted (node_of r.0).site (node_of r.0) ds1
    → rules.of_exp f r.0 ds ≡ rules.place_at r.0 ds1 → Walked f t r ds
places f t r ds ds1 a b h k w e = let p = place_reach (node_of r.0) (root r.0).number (through r.0) (node_of r.0).site ds1 h k w in
    let q = subst (λ x. Reach ds1 x) (sym e) p in record {
      reach = a ⇒ q;
      agrees = agrees_then q b;
      told = told_if (sure_kept q h);
      passed = sure_passed q k;
    }

named_told : (k : Bool) (n : Node) (x : Use) (ds : List Demand) → (k ≡ true → Sure ds (subject.Variable x.number)) → Tells ds (rules.named_at n x k ds) (type_of n)
named_told true n x ds h = equals_asked n _ _ _ (subject.Variable x.number ∷ []) [] ds (known_one (h refl)) passed_none
named_told false n x ds h = let a = never_asked n (broken.Mismatch Rule.Unclear) ds in record { reach = a.reach; told = a.told _ }

-- a step of a place
step_told : (n : Node) (o : Op) (m : Node) (ds : List Demand) → Sure ds (type_of m) → Tells ds (ask n Rule.NotPlace (fact.Equals (type_of n) o (type_of m ∷ []) [] ∷ []) ds) (type_of n)
step_told n o m ds h = equals_asked n _ _ _ (type_of m ∷ []) [] ds (known_one h) passed_none

counts_reach : (n : Node) (r : Rule) (t : Test) (ds : List Demand) → Reach ds (ask n r (fact.Passes t [] [] [] ∷ []) ds)
counts_reach n r t ds = passes_asked n _ t [] [] [] ds known_none passed_none passed_none

-- what an assignment tells that gives its variable a type
gave_told : (n p : Node) (u : Use) (d : ℕ) (e : Node) (v : Bool) (t : Site) (ds : List Demand) → ToldIf t v ds e → Tells ds (rules.given n p u (Some d) e v ds) (subject.Variable u.number)
gave_told n p u d e v t ds h =
    let x = subject.Variable u.number in
    let a = not_never_told e v t ds h in
    let b = equals_asked n (broken.Mismatch Rule.Equal) x op.Same (type_of e ∷ []) [] (rules.not_never e v ds) (known_one a.told) passed_none in
    let c = asked p (broken.Mismatch Rule.Equal) false (alike (type_of p) x ∷ alike (subject.Node d) x ∷ []) _
    (and_true _ _ (and_true _ _ b.told.is refl) refl, (and_true _ _ (and_true _ _ (or_true (same_subject x (type_of p)) _ b.told.is) refl) refl, tt)) (λ g. absurd (cc)) in
    record { reach = a.reach ⇒ b.reach ⇒ c; told = sure_kept c b.told }
  where
    or_true : (a b : Bool) → IsTrue b → IsTrue (a || b)
    or_true true b h = refl
    or_true false b h = h

-- one behind which its variable is known
fits_given_reach : (x : ℕ) (e : Node) (v : Bool) (ds : List Demand) → (v ≡ false → Sure ds (type_of e)) → Reach ds (rules.fits_given x e v ds)
fits_given_reach x e true ds h = stays ds
fits_given_reach x e false ds h = (equals_asked e (broken.Mismatch Rule.Equal) (subject.Variable x) op.Same (type_of e ∷ []) [] ds (known_one (h refl)) passed_none).reach

agrees_given : (c : Cursor) (x : ℕ) (t : Stage) (ds : List Demand) → (IsTrue (is_known t) → Sure ds (subject.Variable x)) → Agrees c ds → Agrees (naming.set_stage x t c).1 ds
agrees_given c x t ds h a = record {
  is = λ y k. ⊎_elim (λ e. subst (λ z. Sure ds (subject.Variable z)) (sym e.0) (h e.1)) (λ old. a.is y old.0) (known_set c.variables x (record (declaration c x) { stage = t }) y k);
  counts = a.counts ∙ sym (length-set c.variables x (record (declaration c x) { stage = t }));
}

-- ---- a variable that waits for its type

one_told : (p : Pattern) (ds : List Demand) → ((n : Node) (x : ℕ) (m : Bool) → p ≡ named.bind n x m → ⊥) → TellsAll ds (rules.one_variable p ds)
one_told (named.bind n x m) ds h = absurd (h n x m refl)
one_told (named.wild n) ds h = never_asked n _ ds
one_told (named.whole_number n g v k) ds h = never_asked n _ ds
one_told (named.truth n b) ds h = never_asked n _ ds
one_told (named.tuple_pattern n ps) ds h = never_asked n _ ds
one_told (named.variant_pattern n i v ps) ds h = never_asked n _ ds
one_told (named.struct_pattern n i fs) ds h = never_asked n _ ds

-- only a whole variable waits, and naming it makes none known
waits_variables : (p : Expression) (m : Bool) (t : Site) (c : Cursor) (ds : List Demand) → Agrees c ds
    → Agrees (naming.of_expression m t p c).1 ds ⊎ ((naming.waits_for p (naming.of_expression m t p c).0 (naming.of_expression m t p c).1).0 ≡ None)
waits_variables (plain.var s x) m t c ds a = inl (agrees_entry (a_node s t c).1 ds (agrees_node s t c a))
waits_variables _ m t c ds a = inr refl

assigned_at : (n : Node) (q : Exp) (w : Option (ℕ × ℕ)) (g : Site → naming.Numbering Exp) (c : Cursor) → node_of (naming.assigned n q w g c).0 ≡ n
assigned_at n q None g c = refl
assigned_at n q (Some w) g c = refl

called_at : (n : Node) (ns : List ℕ × Bool) (g : Site → naming.Numbering Exps) (c : Cursor) → node_of (naming.called n ns g c).0 ≡ n
called_at n (ns, true) g c = refl
called_at n (ns, false) g c = refl

-- an assignment before which its variable waits, behind its right side; whether the variable waits there still
waited_told : (f : ℕ) (t : Site) (n p : Node) (x : ℕ) (E : Exp × Cursor) (o : Option (ℕ × ℕ)) (ds : List Demand) → Walked f Site.Reborrows E ds → Wanted n.site n ds
    → let r = naming.given_here x o E.1 in Walked f t (named.gives n p (naming.use_of x (declaration E.1 x)) r.0 E.0, r.1) ds
waited_told f t n p x E (Some k) ds e w =
    let y = gave_told n p (naming.use_of x (declaration E.1 x)) k.1 (node_of E.0) (never E.0) Site.Reborrows _ e.told in
    let z = own_told n op.Unit [] _ known_none (wanted_kept (e.reach ⇒ y.reach) w) in
    record {
      reach = e.reach ⇒ y.reach ⇒ z.reach;
      agrees = agrees_given E.1 x Stage.Known _ (λ b. sure_kept z.reach y.told) (agrees_then (y.reach ⇒ z.reach) e.agrees);
      told = told_if z.told;
      passed = passed_none;
    }
waited_told f t n p x E None ds e w =
    let y = named_told (is_known (declaration E.1 x).stage) p (naming.use_of x (declaration E.1 x)) _ (λ i. e.agrees.is x i) in
    let z = fits_given_reach x (node_of E.0) (never E.0) _ (λ i. sure_kept y.reach (told_sure i e.told)) in
    let r = e.reach ⇒ y.reach ⇒ z in
    owns f t _ ds _ r (agrees_then (y.reach ⇒ z) e.agrees) (own_told n op.Unit [] _ known_none (wanted_kept r w)) refl

-- an assignment; `e` is walked at any site
assigned_told : (f : ℕ) (t : Site) (n : Node) (e : Expression) (q : Exp × Cursor) (w : Option (ℕ × ℕ)) (c : Cursor) (ds : List Demand) → c ≡ q.1 → Walked f Site.Place q ds → Agrees q.1 ds ⊎ (w ≡ None)
    → ((u : Site) (c : Cursor) (ds : List Demand) → Agrees c ds → Wanted u (node_of (naming.of_expression false u e c).0) ds → Walked f u (naming.of_expression false u e c) ds)
    → Wanted n.site n ds → Walked f t (naming.assigned n q.0 w (λ u. naming.of_expression false u e) c) ds
assigned_told f t n e q None c ds i p v h w =
    let ac = subst (λ (d : Cursor). Agrees d (rules.of_exp f q.0 ds)) (sym i) p.agrees in
    let m = node_of (naming.of_expression false Site.Expects e c).0 in
    let b = equals_asked m (broken.Mismatch Rule.Equal) (expected m) op.Same (type_of (node_of q.0) ∷ []) [] _ (known_one (told_place p.told)) passed_none in
    let x = h Site.Expects c _ (agrees_then b.reach ac) (record { is = b.told }) in
    let y = assignable_reach n q.0 _ (sure_passed (b.reach ⇒ x.reach) p.passed) in
    let r = p.reach ⇒ b.reach ⇒ x.reach ⇒ y in
    owns f t _ ds _ r (agrees_then y x.agrees) (own_told n op.Unit [] _ known_none (wanted_kept r w)) refl
assigned_told f t n e q (Some k) c ds i p (inr v) h w = absurd (cc)
assigned_told f t n e q (Some k) c ds i p (inl v) h w =
    let ac = subst (λ (d : Cursor). Agrees d ds) (sym i) v in
    let x = h Site.Reborrows c ds ac (record { is = tt }) in
    let E = naming.of_expression false Site.Reborrows e c in
    waited_told f t n (node_of q.0) k.0 E (naming.waiting k.0 (declaration E.1 k.0).stage) ds x w

loop_told : (k : Bool) (n : Node) (ds : List Demand) → Wanted n.site n ds → JoinedAt n.site (not k) ds (rules.loop_given n k ds) n
loop_told true n ds w = let a = own_told n op.Unit [] ds known_none w in record { reach = a.reach; told = told_if a.told }
loop_told false n ds w = let a = never_told n.site n ds in record { reach = a.reach; told = a.told }

-- what is matched, and its pattern
record MatchedTold (ds : List Demand) (e : Exp) (p : Pattern) : Type 0 where
  sure : Tells ds (rules.not_never (node_of e) (never e) ds) (type_of (node_of e))
  variables_told : VariablesTold (rules.not_never (node_of e) (never e) ds) (rules.whole_pattern (matched e) (type_of (node_of e)) p (rules.not_never (node_of e) (never e) ds)) (variables p)

matched_told : (t : Site) (e : Exp) (p : Pattern) (ds : List Demand) → ToldIf t (never e) ds (node_of e) → Passed ds (through e) → MatchedTold ds e p
matched_told t e p ds h k =
    let a = not_never_told (node_of e) (never e) t ds h in
    record { sure = a; variables_told = whole_told (matched e) (type_of (node_of e)) p _ a.told (sure_to_match e _ (λ b. a.told) (sure_passed a.reach k)) }

-- a pattern's variables are known behind its facts
pattern_known : (p : PatternTree) (c c' : Cursor) (ds ds' : List Demand) → Agrees c' ds' → VariablesTold ds ds' (variables (naming.of_pattern p c).0)
    → Agrees (naming.known_between c.declared (naming.of_pattern p c).1.declared c').1 ds'
pattern_known p c c' ds ds' a v = let n = pattern_names p c in agrees_between c.declared (naming.of_pattern p c).1.declared c' ds' a n.grows (λ x l u. v.told x (n.all x l u))

-- a block without a tail
tail_told : (d : Bool) (n : Node) (ds : List Demand) → Wanted n.site n ds → JoinedAt n.site d ds (rules.join n d (rules.tail_after n d named.absent ds)) n
tail_told true n ds w = let a = never_told n.site n ds in record { reach = a.reach; told = a.told }
tail_told false n ds w = let u = unit_told n false ds in let k = join_told n false _ (given_sure u.told) (wanted_kept u.reach w) in record { reach = u.reach ⇒ k.reach; told = k.told }

evaluated_reach : (k : Bool) (n : Node) (v : Bool) (ds : List Demand) → Reach ds (rules.evaluated k n v ds)
evaluated_reach true n v ds = stays ds
evaluated_reach false n v ds = nothing_reach n v ds

-- a variable that waits isn't known, and a pattern that isn't one variable is refused
waiting_told : (p : Pattern) (c c1 c2 : Cursor) (ds : List Demand) → Names c c1 (variables p) → Agrees c2 ds
    → WalkedList ds (rules.one_variable p ds) (naming.waits_if true p (naming.known_between c.declared c1.declared c2).1).1
waiting_told (named.bind n x m) c c1 c2 ds h b =
    let vs = known_among c.declared (c1.declared - c.declared) c2.variables in
    let k2 = (naming.known_between c.declared c1.declared c2).1 in
    let d = record (declaration k2 x) { stage = Stage.Waits n.number n.span } in record {
      reach = stays ds;
      agrees = record {
        is = λ y k. ⊎_elim (λ e. absurd (cc)) (λ old. ⊎_elim (λ k. b.is y k) (λ within. absurd (not_in y (h.all y within.0 (in_range y within)) old.1)) (known_within c.declared (c1.declared - c.declared) c2.variables y old.0)) (known_set vs x d y k);
        counts = b.counts ∙ sym (known_length c.declared (c1.declared - c.declared) c2.variables) ∙ sym (length-set vs x d);
      };
    }
  where
    in_range : (y : ℕ) → (c.declared ≤ y) × (y < c.declared + (c1.declared - c.declared)) → y < c1.declared
    in_range y w = let g = h.grows in let u = w.1 in let l = w.0 in omega arith

    not_in : (y : ℕ) → IsIn y (x ∷ []) → (y ≡ x → ⊥) → ⊥
    not_in y (inl e) k = k e
    not_in y (inr i) k = i
waiting_told p c c1 c2 ds h b = let t = one_told p ds (λ n x m e. absurd (cc)) in record { reach = t.reach; agrees = agrees_all _ _ t.told (b.counts ∙ sym (known_length c.declared (c1.declared - c.declared) c2.variables)) }

-- without a type: the variable waits where the value is Never
initialised_told : (v : Bool) (e : Exp) (p : Pattern) (c c1 c2 : Cursor) (ds : List Demand) → never e ≡ v → Names c c1 (variables p) → Agrees c2 ds → ToldIf Site.Scrutinee v ds (node_of e) → Passed ds (through e)
    → WalkedList ds (rules.initialised_by v p (matched e) (node_of e) ds) (naming.waits_if v p (naming.known_between c.declared c1.declared c2).1).1
initialised_told true e p c c1 c2 ds i h a t k = waiting_told p c c1 c2 ds h a
initialised_told false e p c c1 c2 ds i h a t k =
    let v = whole_told (matched e) (type_of (node_of e)) p ds (told_sure refl t) (sure_to_match e ds (λ b. told_sure refl t) k) in
    record { reach = v.reach; agrees = agrees_between c.declared c1.declared c2 _ (agrees_then v.reach a) h.grows (λ x l u. v.told x (h.all x l u)) }

-- with a type
typed_told : (e : Exp) (p : Pattern) (y : Written) (ds : List Demand) → Sure ds (type_of (written_node y)) → ToldIf Site.Initialises (never e) ds (node_of e) → Passed ds (through e)
    → VariablesTold ds (rules.initialised p (Some y) e ds) (variables p)
typed_told e p y ds h t k = whole_told (matched e) (type_of (written_node y)) p ds h (sure_to_match e ds (λ b. told_sure (place_typed e b) t) k)

-- a call, over what is shown of its arguments
called_told : (f : ℕ) (t : Site) (n : Node) (k : List ℕ × Bool) (es : Expressions) (c : Cursor) (ds : List Demand) → Agrees c ds
    → ((w : Listed) (k : ℕ) (c : Cursor) (ds : List Demand) → Agrees c ds → WalkedEach f w k (naming.of_expressions (list_site w) es c) ds)
    → Wanted n.site n ds → Walked f t (naming.called n k (λ u. naming.of_expressions u es) c) ds
called_told f t n (ns, true) es c ds a h w =
    let b = never_asked n (broken.Mismatch Rule.NotFunction) ds in
    let p = h values 0 c _ (agrees_then b.reach a) in
    record { reach = b.reach ⇒ p.reach; agrees = p.agrees; told = told_if (sure_kept p.reach (b.told _)); passed = passed_none }
called_told f t n (ns, false) es c ds a h w =
    let g = naming.first ns in
    let b = counts_reach n Rule.Count (test.Takes g (rules.argument_count (naming.of_expressions Site.Expects es c).0)) ds in
    let p = h (parameters g) 0 c _ (agrees_then b a) in
    let r = b ⇒ p.reach in
    owns f t _ ds _ r p.agrees (own_told n (op.Result g) [] _ known_none (wanted_kept r w)) refl

-- the value behind `else`, over what is shown of it
else_told : (f : ℕ) (n : Node) (e : Expression) (c : Cursor) (ds : List Demand) → Agrees c ds
    → ((u : Site) (c : Cursor) (ds : List Demand) → Agrees c ds → Wanted u (node_of (naming.of_expression false u e c).0) ds → Walked f u (naming.of_expression false u e c) ds)
    → Wanted n.site n ds → WalkedElse f n.site n (naming.of_optional (passed_on n.site) (plain.present e) c) ds
else_told f n e c ds a h w =
    let E = naming.of_expression false (passed_on n.site) e c in
    let i = before_told n.site n (node_of E.0) ds w in
    let x = h (passed_on n.site) c _ (agrees_then i.reach a) i.wanted in
    let z = after_told n.site (passed_on n.site) (never E.0) n (node_of E.0) _ x.told in
    record { reach = i.reach ⇒ x.reach ⇒ z.reach; agrees = agrees_then z.reach x.agrees; given = z.given }

-- ---- expressions

mutual
  pub exp_told : (f : ℕ) (e : Expression) (m : Bool) (t : Site) (c : Cursor) (ds : List Demand) → Agrees c ds → Wanted t (node_of (naming.of_expression m t e c).0) ds
      → Walked f t (naming.of_expression m t e c) ds
  exp_told f (plain.int s v k) m t c ds a0 w =
      let a = agrees_node s t c a0 in
      let n = (a_node s t c).0 in
      let p = integer_asked n (broken.Mismatch Rule.Equal) false (with_suffix k) ds in
      let z = value_reach n t _ p.told (wanted_kept p.reach w) in
      let q = integer_asked n broken.Literal (is_open k) (fitting m v) (rules.value_in n t (ask n Rule.Equal (fact.Integer n.number (with_suffix k) ∷ []) ds)) in
      let r = p.reach ⇒ z ⇒ q.reach in
      record { reach = r; agrees = agrees_then r a; told = told_if q.told; passed = passed_none }
  exp_told f (plain.bool s b) m t c ds a0 w = let a = agrees_node s t c a0 in owns f t _ ds ds (stays ds) a (own_told (a_node s t c).0 op.Truth [] ds known_none w) refl
  exp_told f (plain.tuple s es) m t c ds a0 w =
      let a = agrees_node s t c a0 in
      let n = a_node s t c in
      let p = each_told f members 0 es n.1 ds a in
      let q = own_told n.0 op.Tuple (rules.exp_nodes (naming.of_expressions Site.Value es n.1).0) _ p.known (wanted_kept p.reach w) in
      let l = limits_reach n.0 _ q.told in
      record { reach = p.reach ⇒ q.reach ⇒ l; agrees = agrees_then (q.reach ⇒ l) p.agrees; told = told_if (sure_kept l q.told); passed = passed_none }
  exp_told f (plain.var s x) m t c ds a0 w =
      let a = agrees_node s t c a0 in
      let n = a_node s t c in
      let g = an_entry n.1 in
      let v = naming.first g.0.0 in
      let d = declaration g.1 v in
      let b = agrees_entry n.1 ds a in
      let p = named_told (is_known d.stage) n.0 (naming.use_of v d) ds (λ e. b.is v e) in
      places f t _ ds _ p.reach (agrees_then p.reach b) p.told passed_none (wanted_kept p.reach w) refl
  exp_told f (plain.field s e x) m t c ds a0 w =
      let a = agrees_node s t c a0 in
      let n = a_node s t c in
      let b = exp_told f e false Site.Place n.1 ds a (record { is = tt }) in
      let h = told_place b.told in
      let p = step_told n.0 (op.Field x.name) (node_of (naming.of_expression false Site.Place e n.1).0) _ h in
      let r = b.reach ⇒ p.reach in
      places f t _ ds _ r (agrees_then p.reach b.agrees) p.told (passed_and _ (sure_kept p.reach h) (sure_passed p.reach b.passed)) (wanted_kept r w) refl
  exp_told f (plain.part s e i) m t c ds a0 w =
      let a = agrees_node s t c a0 in
      let n = a_node s t c in
      let b = exp_told f e false Site.Place n.1 ds a (record { is = tt }) in
      let h = told_place b.told in
      let p = step_told n.0 (op.Part i) (node_of (naming.of_expression false Site.Place e n.1).0) _ h in
      let r = b.reach ⇒ p.reach in
      places f t _ ds _ r (agrees_then p.reach b.agrees) p.told (passed_and _ (sure_kept p.reach h) (sure_passed p.reach b.passed)) (wanted_kept r w) refl
  exp_told f (plain.deref s e) m t c ds a0 w =
      let a = agrees_node s t c a0 in
      let n = a_node s t c in
      let b = exp_told f e false Site.Place n.1 ds a (record { is = tt }) in
      let h = told_place b.told in
      let p = step_told n.0 op.Pointee (node_of (naming.of_expression false Site.Place e n.1).0) _ h in
      let r = b.reach ⇒ p.reach in
      places f t _ ds _ r (agrees_then p.reach b.agrees) p.told (passed_and _ (sure_kept p.reach h) (sure_passed p.reach b.passed)) (wanted_kept r w) refl
  exp_told f (plain.negate s e) m t c ds a0 w =
      let a = agrees_node s t c a0 in
      let n = a_node s t c in
      let E = naming.of_expression true Site.Value e n.1 in
      let b = exp_told f e true Site.Value n.1 ds a nothing_wanted in
      owns f t _ ds _ b.reach b.agrees (negated_told n.0 (node_of E.0) (never E.0) Site.Value _ b.told (wanted_kept b.reach w)) refl
  exp_told f (plain.invert s e) m t c ds a0 w =
      let a = agrees_node s t c a0 in
      let n = a_node s t c in
      let E = naming.of_expression false Site.Value e n.1 in
      let b = exp_told f e false Site.Value n.1 ds a nothing_wanted in
      owns f t _ ds _ b.reach b.agrees (inverted_told n.0 (node_of E.0) (never E.0) _ (wanted_kept b.reach w)) refl
  exp_told f (plain.borrow s k e) m t c ds a0 w =
      let a = agrees_node s t c a0 in
      let n = a_node s t c in
      let E = naming.of_expression false Site.Place e n.1 in
      let b = exp_told f e false Site.Place n.1 ds a (record { is = tt }) in
      let p = equals_asked n.0 (broken.Mismatch Rule.Equal) (type_of n.0) (op.Referring k) (type_of (node_of E.0) ∷ []) [] _ (known_one (told_place b.told)) passed_none in
      let l = limits_reach n.0 _ p.told in
      let q = p.reach ⇒ l in
      let o = borrowed_reach k n.0 E.0 _ (sure_passed q b.passed) in
      let r = b.reach ⇒ q ⇒ o in
      let z = value_reach n.0 t _ (sure_kept (l ⇒ o) p.told) (wanted_kept r w) in
      record { reach = r ⇒ z; agrees = agrees_then (q ⇒ o ⇒ z) b.agrees; told = told_if (sure_kept (l ⇒ o ⇒ z) p.told); passed = passed_none }
  exp_told f (plain.binary s o x y) m t c ds a0 w =
      let a = agrees_node s t c a0 in
      let n = a_node s t c in
      let A = naming.of_expression false Site.Value x n.1 in
      let B = naming.of_expression false Site.Value y A.1 in
      let p = exp_told f x false Site.Value n.1 ds a nothing_wanted in
      let q = exp_told f y false Site.Value _ _ p.agrees nothing_wanted in
      let r = p.reach ⇒ q.reach in
      owns f t _ ds _ r q.agrees (operation_told o n.0 (node_of A.0) (never A.0) (node_of B.0) (never B.0) Site.Value _ (told_kept q.reach p.told) q.told (wanted_kept r w)) refl
  exp_told f (plain.assign s p e) m t c ds a0 w =
      let a = agrees_node s t c a0 in
      let n = a_node s t c in
      let q = naming.of_expression false Site.Place p n.1 in
      let k = naming.waits_for p q.0 q.1 in
      let b = exp_told f p false Site.Place n.1 ds a (record { is = tt }) in
      let x = subst (λ i. Wanted t i ds) (assigned_at n.0 q.0 k.0 (λ u. naming.of_expression false u e) k.1) w in
      assigned_told f t n.0 e q k.0 k.1 ds refl b (waits_variables p false Site.Place n.1 ds a) (λ u c ds a w. exp_told f e false u c ds a w) x
  exp_told f (plain.update s o p e) m t c ds a0 w =
      let a = agrees_node s t c a0 in
      let n = a_node s t c in
      let P = naming.of_expression false Site.Place p n.1 in
      let E = naming.of_expression false Site.Value e P.1 in
      let b = exp_told f p false Site.Place n.1 ds a (record { is = tt }) in
      let x = exp_told f e false Site.Value _ _ b.agrees nothing_wanted in
      let y = updated_reach n.0 (node_of P.0) (never P.0) (node_of E.0) (never E.0) Site.Place Site.Value _ (told_kept x.reach b.told) x.told in
      let z = assignable_reach n.0 P.0 _ (sure_passed (x.reach ⇒ y) b.passed) in
      let r = b.reach ⇒ x.reach ⇒ y ⇒ z in
      owns f t _ ds _ r (agrees_then (y ⇒ z) x.agrees) (own_told n.0 op.Unit [] _ known_none (wanted_kept r w)) refl
  exp_told f (plain.call s g es) m t c ds a0 w =
      let a = agrees_node s t c a0 in
      let n = a_node s t c in
      let k = an_entry n.1 in
      let x = subst (λ i. Wanted t i ds) (called_at n.0 k.0 (λ u. naming.of_expressions u es) k.1) w in
      called_told f t n.0 k.0 es k.1 ds (agrees_entry n.1 ds a) (λ w k c ds a. each_told f w k es c ds a) x
  exp_told f (plain.next_input s) m t c ds a0 w =
      let a = agrees_node s t c a0 in
      owns f t _ ds ds (stays ds) (agrees_entry (a_node s t c).1 ds a) (own_told (a_node s t c).0 (op.Integer Kind.I64) [] ds known_none w) refl
  exp_told f (plain.variant s x v es) m t c ds a0 w =
      let a = agrees_node s t c a0 in
      let n = a_node s t c in
      let k = an_entry n.1 in
      let i = naming.first k.0.0 in
      let j = naming.second k.0.0 in
      let b = counts_reach n.0 Rule.Count (test.Holds i j (rules.argument_count (naming.of_arguments es k.1).0)) ds in
      let p = arguments_told f i j es k.1 _ (agrees_then b (agrees_entry n.1 ds a)) in
      let r = b ⇒ p.reach in
      owns f t _ ds _ r p.agrees (own_told n.0 (op.Item i) [] _ known_none (wanted_kept r w)) refl
  exp_told f (plain.make s x fs) m t c ds a0 w =
      let a = agrees_node s t c a0 in
      let n = a_node s t c in
      let k = an_entry n.1 in
      let i = naming.first k.0.0 in
      let b = counts_reach n.0 Rule.Fields (test.HasFields i (rules.names_given (naming.of_fields fs k.1).0)) ds in
      let p = fields_told f i fs k.1 _ (agrees_then b (agrees_entry n.1 ds a)) in
      let r = b ⇒ p.reach in
      owns f t _ ds _ r p.agrees (own_told n.0 (op.Item i) [] _ known_none (wanted_kept r w)) refl
  exp_told f (plain.print s e) m t c ds a0 w =
      let a = agrees_node s t c a0 in
      let n = a_node s t c in
      let E = naming.of_expression false Site.Value e n.1 in
      let b = exp_told f e false Site.Value n.1 ds a nothing_wanted in
      let p = print_reach (never E.0) (node_of E.0) Site.Value _ b.told in
      let r = b.reach ⇒ p in
      owns f t _ ds _ r (agrees_then p b.agrees) (own_told n.0 op.Unit [] _ known_none (wanted_kept r w)) refl
  exp_told f (plain.block s b) m t c ds a0 w =
      let a = agrees_node s t c a0 in
      let n = a_node s t c in
      let B = naming.of_body (passed_on t) b n.1 in
      let x = before_told t n.0 (body_node B.0) ds w in
      let y = body_told f b (passed_on t) n.1 _ (agrees_then x.reach a) x.wanted in
      let z = after_told t (passed_on t) (body_never B.0) n.0 (body_node B.0) _ y.told in
      let r = x.reach ⇒ y.reach ⇒ z.reach in
      let k = join_told n.0 (body_never B.0) _ z.given (wanted_kept r w) in
      record { reach = r ⇒ k.reach; agrees = agrees_then (z.reach ⇒ k.reach) y.agrees; told = k.told; passed = passed_none }
  exp_told f (plain.if s x b plain.absent) m t c ds a0 w =
      let a = agrees_node s t c a0 in
      let n = a_node s t c in
      let X = naming.of_expression false Site.Value x n.1 in
      let B = naming.of_body Site.Value b X.1 in
      let p = exp_told f x false Site.Value n.1 ds a nothing_wanted in
      let q = tested_reach (node_of X.0) (never X.0) Site.Value _ p.told in
      let y = body_told f b Site.Value _ _ (agrees_then q p.agrees) nothing_wanted in
      let z = nothing_reach (body_node B.0) (body_never B.0) _ in
      let r = p.reach ⇒ q ⇒ y.reach ⇒ z in
      owns f t _ ds _ r (agrees_then z y.agrees) (own_told n.0 op.Unit [] _ known_none (wanted_kept r w)) refl
  exp_told f (plain.if s x b (plain.present e)) m t c ds a0 w =
      let a = agrees_node s t c a0 in
      let n = a_node s t c in
      let X = naming.of_expression false Site.Value x n.1 in
      let B = naming.of_body (passed_on t) b X.1 in
      let p = exp_told f x false Site.Value n.1 ds a nothing_wanted in
      let q = tested_reach (node_of X.0) (never X.0) Site.Value _ p.told in
      let i = before_told t n.0 (body_node B.0) _ (wanted_kept (p.reach ⇒ q) w) in
      let y = body_told f b (passed_on t) _ _ (agrees_then (q ⇒ i.reach) p.agrees) i.wanted in
      let z = after_told t (passed_on t) (body_never B.0) n.0 (body_node B.0) _ y.told in
      let r = p.reach ⇒ q ⇒ i.reach ⇒ y.reach ⇒ z.reach in
      let O = naming.of_expression false (passed_on t) e B.1 in
      let o = else_told f n.0 e B.1 _ (agrees_then z.reach y.agrees) (λ u c ds a w. exp_told f e false u c ds a w) (wanted_kept r w) in
      let k = join_told n.0 (body_never B.0 && never O.0) _ (given_both (body_never B.0) (never O.0) (given_kept o.reach z.given) o.given) (wanted_kept (r ⇒ o.reach) w) in
      record { reach = r ⇒ o.reach ⇒ k.reach; agrees = agrees_then k.reach o.agrees; told = k.told; passed = passed_none }
  exp_told f (plain.if_let s p e b plain.absent) m t c ds a0 w =
      let a = agrees_node s t c a0 in
      let n = a_node s t c in
      let P = naming.of_pattern p n.1 in
      let E = naming.of_expression false Site.Scrutinee e P.1 in
      let K = naming.known_between n.1.declared P.1.declared E.1 in
      let B = naming.of_body Site.Value b K.1 in
      let x = exp_told f e false Site.Scrutinee P.1 ds (agrees_names (pattern_names p n.1) a) (record { is = tt }) in
      let v = matched_told Site.Scrutinee E.0 P.0 _ x.told x.passed in
      let q = v.sure.reach ⇒ v.variables_told.reach in
      let y = body_told f b Site.Value K.1 _ (pattern_known p n.1 E.1 _ _ (agrees_then q x.agrees) v.variables_told) nothing_wanted in
      let z = nothing_reach (body_node B.0) (body_never B.0) _ in
      let r = x.reach ⇒ q ⇒ y.reach ⇒ z in
      owns f t _ ds _ r (agrees_then z y.agrees) (own_told n.0 op.Unit [] _ known_none (wanted_kept r w)) refl
  exp_told f (plain.if_let s p e b (plain.present o)) m t c ds a0 w =
      let a = agrees_node s t c a0 in
      let n = a_node s t c in
      let P = naming.of_pattern p n.1 in
      let E = naming.of_expression false Site.Scrutinee e P.1 in
      let K = naming.known_between n.1.declared P.1.declared E.1 in
      let B = naming.of_body (passed_on t) b K.1 in
      let x = exp_told f e false Site.Scrutinee P.1 ds (agrees_names (pattern_names p n.1) a) (record { is = tt }) in
      let v = matched_told Site.Scrutinee E.0 P.0 _ x.told x.passed in
      let q = v.sure.reach ⇒ v.variables_told.reach in
      let i = before_told t n.0 (body_node B.0) _ (wanted_kept (x.reach ⇒ q) w) in
      let y = body_told f b (passed_on t) K.1 _ (agrees_then i.reach (pattern_known p n.1 E.1 _ _ (agrees_then q x.agrees) v.variables_told)) i.wanted in
      let z = after_told t (passed_on t) (body_never B.0) n.0 (body_node B.0) _ y.told in
      let r = x.reach ⇒ q ⇒ i.reach ⇒ y.reach ⇒ z.reach in
      let O = naming.of_expression false (passed_on t) o B.1 in
      let l = else_told f n.0 o B.1 _ (agrees_then z.reach y.agrees) (λ u c ds a w. exp_told f o false u c ds a w) (wanted_kept r w) in
      let k = join_told n.0 (body_never B.0 && never O.0) _ (given_both (body_never B.0) (never O.0) (given_kept l.reach z.given) l.given) (wanted_kept (r ⇒ l.reach) w) in
      record { reach = r ⇒ l.reach ⇒ k.reach; agrees = agrees_then k.reach l.agrees; told = k.told; passed = passed_none }
  exp_told f (plain.match s e l) m t c ds a0 w =
      let a = agrees_node s t c a0 in
      let n = a_node s t c in
      let E = naming.of_expression false Site.Scrutinee e n.1 in
      let L = naming.of_arms (passed_on t) l E.1 in
      let x = exp_told f e false Site.Scrutinee n.1 ds a (record { is = tt }) in
      let q = not_never_told (node_of E.0) (never E.0) Site.Scrutinee _ x.told in
      let r = x.reach ⇒ q.reach in
      let y = arms_told f n.0 E.0 l E.1 _ (agrees_then q.reach x.agrees) q.told (sure_passed q.reach x.passed) (wanted_kept r w) in
      let k = join_told n.0 (all_never L.0) _ y.given (wanted_kept (r ⇒ y.reach) w) in
      record { reach = r ⇒ y.reach ⇒ k.reach; agrees = agrees_then k.reach y.agrees; told = k.told; passed = passed_none }
  exp_told f (plain.loop s l b) m t c ds a0 w =
      let a = agrees_node s t c a0 in
      let n = a_node s t c in
      let c1 = naming.a_loop n.1 in
      let B = naming.of_body Site.Value b c1.1 in
      let y = body_told f b Site.Value (naming.a_loop n.1).1 ds (agrees_as (naming.a_loop n.1).1 refl refl a) nothing_wanted in
      let z = nothing_reach (body_node B.0) (body_never B.0) _ in
      let r = y.reach ⇒ z in
      let k = loop_told (get_or B.1.loops c1.0 false) n.0 _ (wanted_kept r w) in
      record { reach = r ⇒ k.reach; agrees = agrees_then (z ⇒ k.reach) y.agrees; told = k.told; passed = passed_none }
  exp_told f (plain.while s l x b) m t c ds a0 w =
      let a = agrees_node s t c a0 in
      let n = a_node s t c in
      let X = naming.of_expression false Site.Value x (naming.a_loop n.1).1 in
      let B = naming.of_body Site.Value b X.1 in
      let p = exp_told f x false Site.Value (naming.a_loop n.1).1 ds (agrees_as (naming.a_loop n.1).1 refl refl a) nothing_wanted in
      let q = tested_reach (node_of X.0) (never X.0) Site.Value _ p.told in
      let y = body_told f b Site.Value _ _ (agrees_then q p.agrees) nothing_wanted in
      let z = nothing_reach (body_node B.0) (body_never B.0) _ in
      let r = p.reach ⇒ q ⇒ y.reach ⇒ z in
      owns f t _ ds _ r (agrees_then z y.agrees) (own_told n.0 op.Unit [] _ known_none (wanted_kept r w)) refl
  exp_told f (plain.while_let s l p e b) m t c ds a0 w =
      let a = agrees_node s t c a0 in
      let n = a_node s t c in
      let c1 = (naming.a_loop n.1).1 in
      let P = naming.of_pattern p c1 in
      let E = naming.of_expression false Site.Scrutinee e P.1 in
      let K = naming.known_between c1.declared P.1.declared E.1 in
      let B = naming.of_body Site.Value b K.1 in
      let x = exp_told f e false Site.Scrutinee P.1 ds (agrees_names (pattern_names p c1) (agrees_as c1 refl refl a)) (record { is = tt }) in
      let v = matched_told Site.Scrutinee E.0 P.0 _ x.told x.passed in
      let q = v.sure.reach ⇒ v.variables_told.reach in
      let y = body_told f b Site.Value K.1 _ (pattern_known p c1 E.1 _ _ (agrees_then q x.agrees) v.variables_told) nothing_wanted in
      let z = nothing_reach (body_node B.0) (body_never B.0) _ in
      let r = x.reach ⇒ q ⇒ y.reach ⇒ z in
      owns f t _ ds _ r (agrees_then z y.agrees) (own_told n.0 op.Unit [] _ known_none (wanted_kept r w)) refl
  exp_told f (plain.break s l) m t c ds a0 w =
      let a = agrees_node s t c a0 in
      let n = a_node s t c in
      let k = never_told t n.0 ds in
      record { reach = k.reach; agrees = agrees_then k.reach (agrees_as _ refl refl (agrees_entry n.1 ds a)); told = k.told; passed = passed_none }
  exp_told f (plain.continue s l) m t c ds a0 w =
      let a = agrees_node s t c a0 in
      let n = a_node s t c in
      let k = never_told t n.0 ds in
      record { reach = k.reach; agrees = agrees_then k.reach (agrees_as _ refl refl (agrees_entry n.1 ds a)); told = k.told; passed = passed_none }
  exp_told f (plain.return s plain.absent) m t c ds a0 w =
      let a = agrees_node s t c a0 in
      let n = a_node s t c in
      let p = counts_reach n.0 Rule.Equal (test.GivesUnit f) ds in
      let k = never_told t n.0 _ in
      record { reach = p ⇒ k.reach; agrees = agrees_then (p ⇒ k.reach) a; told = k.told; passed = passed_none }
  exp_told f (plain.return s (plain.present e)) m t c ds a0 w =
      let a = agrees_node s t c a0 in
      let n = a_node s t c in
      let b = expects_told (node_of (naming.of_expression false Site.Expects e n.1).0) (op.Result f) ds in
      let x = exp_told f e false Site.Expects n.1 _ (agrees_then b.reach a) (record { is = b.told }) in
      let k = never_told t n.0 _ in
      record { reach = b.reach ⇒ x.reach ⇒ k.reach; agrees = agrees_then k.reach x.agrees; told = k.told; passed = passed_none }

  arguments_told : (f i v : ℕ) (es : OptionalExpressions) (c : Cursor) (ds : List Demand) → Agrees c ds → WalkedEach f (parts_of i v) 0 (naming.of_arguments es c) ds
  arguments_told f i v plain.no_list c ds a = record { reach = stays ds; agrees = a; known = tt }
  arguments_told f i v (plain.a_list es) c ds a = each_told f (parts_of i v) 0 es c ds a

  fields_told : (f i : ℕ) (fs : FieldExpressions) (c : Cursor) (ds : List Demand) → Agrees c ds → WalkedList ds (rules.of_fields f i (naming.of_fields fs c).0 ds) (naming.of_fields fs c).1
  fields_told f i plain.no_field c ds a = record { reach = stays ds; agrees = a }
  fields_told f i (plain.field_and x e fs) c ds a =
      let b = expects_told (node_of (naming.of_expression false Site.Expects e c).0) (op.FieldOf i x.name) ds in
      let p = exp_told f e false Site.Expects c _ (agrees_then b.reach a) (record { is = b.told }) in
      let q = fields_told f i fs _ _ p.agrees in
      record { reach = b.reach ⇒ p.reach ⇒ q.reach; agrees = q.agrees }

  arms_told : (f : ℕ) (n : Node) (s : Exp) (l : plain.Arms) (c : Cursor) (ds : List Demand) → Agrees c ds → Sure ds (type_of (node_of s)) → Passed ds (through s) → Wanted n.site n ds
      → WalkedArms f n s (naming.of_arms (passed_on n.site) l c) ds
  arms_told f n s plain.no_arm c ds a h k w = record { reach = stays ds; agrees = a; given = given_none }
  arms_told f n s (plain.arm_and p e l) c ds a h k w =
      let P = naming.of_pattern p c in
      let K = naming.known_between c.declared P.1.declared P.1 in
      let E = naming.of_expression false (passed_on n.site) e K.1 in
      let v = whole_told (matched s) (type_of (node_of s)) P.0 ds h (sure_to_match s ds (λ b. h) k) in
      let i = before_told n.site n (node_of E.0) _ (wanted_kept v.reach w) in
      let x = exp_told f e false (passed_on n.site) K.1 _ (agrees_then i.reach (pattern_known p c P.1 _ _ (agrees_names (pattern_names p c) (agrees_then v.reach a)) v)) i.wanted in
      let z = after_told n.site (passed_on n.site) (never E.0) n (node_of E.0) _ x.told in
      let r = v.reach ⇒ i.reach ⇒ x.reach ⇒ z.reach in
      let L = naming.of_arms (passed_on n.site) l E.1 in
      let y = arms_told f n s l E.1 _ (agrees_then z.reach x.agrees) (sure_kept r h) (sure_passed r k) (wanted_kept r w) in
      record { reach = r ⇒ y.reach; agrees = y.agrees; given = given_both (never E.0) (all_never L.0) (given_kept y.reach z.given) y.given }

  each_told : (f : ℕ) (w : Listed) (k : ℕ) (es : Expressions) (c : Cursor) (ds : List Demand) → Agrees c ds → WalkedEach f w k (naming.of_expressions (list_site w) es c) ds
  each_told f w k plain.no_expression c ds a = record { reach = stays ds; agrees = a; known = no_members w ds }
  each_told f w k (plain.expression_and e es) c ds a =
      let b = each_before_told w k (node_of (naming.of_expression false (list_site w) e c).0) ds in
      let p = exp_told f e false (list_site w) c _ (agrees_then b.reach a) b.wanted in
      let q = each_after_told w (naming.of_expression false (list_site w) e c).0 _ p.told in
      let r = each_told f w (suc k) es _ _ (agrees_then q.reach p.agrees) in
      record { reach = b.reach ⇒ p.reach ⇒ q.reach ⇒ r.reach; agrees = r.agrees; known = members_kept w _ _ (naming.of_expression false (list_site w) e c).0 (naming.of_expressions (list_site w) es (naming.of_expression false (list_site w) e c).1).0 q.sure r.reach r.known }

  pub body_told : (f : ℕ) (b : plain.Body) (t : Site) (c : Cursor) (ds : List Demand) → Agrees c ds → Wanted t (body_node (naming.of_body t b c).0) ds → WalkedBody f t (naming.of_body t b c) ds
  body_told f (plain.body s ss plain.absent) t c ds a0 w =
      let a = agrees_node s t c a0 in
      let n = a_node s t c in
      let S = naming.of_statements ss n.1 in
      let p = statements_told f ss n.1 ds a in
      let q = tail_told (some_diverges S.0) n.0 _ (wanted_kept p.reach w) in
      record { reach = p.reach ⇒ q.reach; agrees = agrees_then q.reach p.agrees; told = q.told }
  body_told f (plain.body s ss (plain.present e)) t c ds a0 w =
      let a = agrees_node s t c a0 in
      let n = a_node s t c in
      let S = naming.of_statements ss n.1 in
      let E = naming.of_expression false t e S.1 in
      let p = statements_told f ss n.1 ds a in
      let i = before_same t n.0 (node_of E.0) _ (wanted_kept p.reach w) in
      let x = exp_told f e false t S.1 _ (agrees_then i.reach p.agrees) i.wanted in
      let z = after_told t t (never E.0) n.0 (node_of E.0) _ x.told in
      let r = p.reach ⇒ i.reach ⇒ x.reach ⇒ z.reach in
      let k = join_told n.0 (never E.0) _ z.given (wanted_kept r w) in
      record { reach = r ⇒ k.reach; agrees = agrees_then (z.reach ⇒ k.reach) x.agrees; told = k.told }

  statements_told : (f : ℕ) (ss : Statements) (c : Cursor) (ds : List Demand) → Agrees c ds → WalkedList ds (rules.of_statements f (naming.of_statements ss c).0 ds) (naming.of_statements ss c).1
  statements_told f plain.no_statement c ds a = record { reach = stays ds; agrees = a }
  statements_told f (plain.statement_and x ss) c ds a =
      let p = statement_told f x c ds a in
      let q = statements_told f ss _ _ p.agrees in
      record { reach = p.reach ⇒ q.reach; agrees = q.agrees }

  statement_told : (f : ℕ) (x : Statement) (c : Cursor) (ds : List Demand) → Agrees c ds → WalkedList ds (rules.of_statement f (naming.of_statement x c).0 ds) (naming.of_statement x c).1
  statement_told f (plain.let_statement s p None plain.absent) c ds a0 =
      let a = agrees_node s Site.Value c a0 in
      let n = a_node s Site.Value c in
      let P = naming.of_pattern p n.1 in
      waiting_told P.0 n.1 P.1 P.1 ds (pattern_names p n.1) (agrees_names (pattern_names p n.1) a)
  statement_told f (plain.let_statement s p (Some y) plain.absent) c ds a0 =
      let n = naming.annotates p (Some y) (a_node s Site.Value c).1 in
      let a = agrees_as n.1 refl refl (agrees_node s Site.Value c a0) in
      let P = naming.of_pattern p n.1 in
      let Y = naming.of_type y P.1 in
      let q = whole_type_told Y.0 ds in
      let v = whole_told a_value (type_of (written_node Y.0)) P.0 _ q.told tt in
      let b = agrees_names (optional_type_names (Some y) P.1) (agrees_names (pattern_names p n.1) (agrees_then (q.reach ⇒ v.reach) a)) in
      record { reach = q.reach ⇒ v.reach; agrees = pattern_known p n.1 Y.1 _ _ b v }
  statement_told f (plain.let_statement s p None (plain.present e)) c ds a0 =
      let a = agrees_node s Site.Value c a0 in
      let n = a_node s Site.Value c in
      let P = naming.of_pattern p n.1 in
      let E = naming.of_expression false Site.Scrutinee e P.1 in
      let x = exp_told f e false Site.Scrutinee P.1 ds (agrees_names (pattern_names p n.1) a) (record { is = tt }) in
      let q = initialised_told (never E.0) E.0 P.0 n.1 P.1 E.1 _ refl (pattern_names p n.1) x.agrees x.told x.passed in
      record { reach = x.reach ⇒ q.reach; agrees = q.agrees }
  statement_told f (plain.let_statement s p (Some y) (plain.present e)) c ds a0 =
      let n = naming.annotates p (Some y) (a_node s Site.Value c).1 in
      let a = agrees_as n.1 refl refl (agrees_node s Site.Value c a0) in
      let P = naming.of_pattern p n.1 in
      let Y = naming.of_type y P.1 in
      let E = naming.of_expression false Site.Initialises e Y.1 in
      let q = whole_type_told Y.0 ds in
      let i = equals_asked (node_of E.0) (broken.Mismatch Rule.Equal) (expected (node_of E.0)) op.Same (type_of (written_node Y.0) ∷ []) [] _ (known_one q.told) passed_none in
      let b = agrees_names (optional_type_names (Some y) P.1) (agrees_names (pattern_names p n.1) (agrees_then (q.reach ⇒ i.reach) a)) in
      let x = exp_told f e false Site.Initialises Y.1 _ b (record { is = i.told }) in
      let v = typed_told E.0 P.0 Y.0 _ (sure_kept (i.reach ⇒ x.reach) q.told) x.told x.passed in
      record { reach = q.reach ⇒ i.reach ⇒ x.reach ⇒ v.reach; agrees = pattern_known p n.1 E.1 _ _ (agrees_then v.reach x.agrees) v }
  statement_told f (plain.expression_statement s e k) c ds a0 =
      let a = agrees_node s Site.Value c a0 in
      let n = a_node s Site.Value c in
      let x = exp_told f e false Site.Value n.1 ds a nothing_wanted in
      let q = evaluated_reach k (node_of (naming.of_expression false Site.Value e n.1).0) (never (naming.of_expression false Site.Value e n.1).0) _ in
      record { reach = x.reach ⇒ q; agrees = agrees_then q x.agrees }
