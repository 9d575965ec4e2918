-- The tree with numbers of a tree, and of the same without spans, are the same apart from the spans of nodes.
use Rattle.std.proofs.Common.{◌≡◌, ℕ, Bool, true, false, List, Option, Some, None, refl, sym, ap, ◌∙◌, subst}
use Rattle.std.specs.Prelude.{option_map}
use Rattle.rx_tree.specs.declared.tree.Ident.{Ident}
use Rattle.rx_tree.specs.Plain as plain
use Rattle.rx_tree.specs.Plain.{TypeTree, TypeTrees, PatternTree, PatternTrees, FieldPatterns, Expression, Expressions, OptionalExpression, OptionalExpressions, FieldExpressions, Arms, Body, Statement, Statements, Parameter, Function}
use Rattle.rx_tree.specs.Erase.{nowhere, erase_label, erase_type, erase_types, erase_pattern, erase_patterns, erase_field_patterns, erase, erase_all, erase_optional, erase_optional_list, erase_fields, erase_arms, erase_body, erase_statement, erase_statements}
use Rattle.rx_typed.specs.declared.nodes.Node.{Node}
use Rattle.rx_typed.specs.declared.nodes.Site.{Site}
use Rattle.rx_typed.specs.declared.nodes.Stage.{Stage}
use Rattle.rx_typed.specs.Named as named
use Rattle.rx_typed.specs.Named.{Pattern, Exp, Exps, written_node, pattern_node, whole_binding, node_of, root, never}
use Rattle.rx_typed.specs.Naming.{Cursor, Numbering, first, second, lifetime_entry, of_type, of_types, of_optional_type, of_pattern, of_patterns, of_field_patterns, passed_on, waits_in, assigned, called, branch_site, waits_at, waits, waits_if, of_expression, of_expressions, of_optional, of_arguments, of_fields, of_arms, of_body, of_statements, of_statement, declaration, use_of, known_between, leads, is_left}
use Rattle.rx_meaning.proofs.spans.Bare.{bare_node, bare_pattern, bare_patterns, bare_field_patterns, bare, bare_all, bare_else, bare_fields, bare_arms, bare_body, bare_statement, bare_statements}
use Rattle.rx_meaning.proofs.spans.Elaborating.{never_bare}
use Rattle.rx_meaning.proofs.spans.Cursors.{Like, Both, itself, node_like, entry_like, declare_like, use_like, waiting_like, stage_like, gives_like, known_like, loop_like, leads_like, left_like, annotated_like}

pub cong2 : {A B R : Type 0} (f : A → B → R) {a a' : A} {b b' : B} → a ≡ a' → b ≡ b' → f a b ≡ f a' b'
cong2 f {a' = a'} {b = b} e g = ap (λ x. f x b) e ∙ ap (f a') g

cong3 : {A B C R : Type 0} (f : A → B → C → R) {a a' : A} {b b' : B} {c c' : C} → a ≡ a' → b ≡ b' → c ≡ c' → f a b c ≡ f a' b' c'
cong3 f {a' = a'} {b = b} {c = c} e g h = ap (λ x. f x b c) e ∙ cong2 (f a') g h

cong4 : {A B C D R : Type 0} (f : A → B → C → D → R) {a a' : A} {b b' : B} {c c' : C} {d d' : D} → a ≡ a' → b ≡ b' → c ≡ c' → d ≡ d' → f a b c d ≡ f a' b' c' d'
cong4 f {a' = a'} {b = b} {c = c} {d = d} e g h k = ap (λ x. f x b c d) e ∙ cong3 (f a') g h k

cong5 : {A B C D G R : Type 0} (f : A → B → C → D → G → R) {a a' : A} {b b' : B} {c c' : C} {d d' : D} {g g' : G} → a ≡ a' → b ≡ b' → c ≡ c' → d ≡ d' → g ≡ g' → f a b c d g ≡ f a' b' c' d' g'
cong5 f {a' = a'} {b = b} {c = c} {d = d} {g = g} e h k i j = ap (λ x. f x b c d g) e ∙ cong4 (f a') h k i j

-- ---- types

lifetime_like : (x : Option Ident) (c c' : Cursor) → Like c c' → Like (lifetime_entry x c).1 (lifetime_entry (erase_label x) c').1
lifetime_like None c c' l = l
lifetime_like (Some x) c c' l = (entry_like c c' l).1

abbrev pub number_of : named.Written → ℕ
number_of w = (written_node w).number

mutual
  pub type_like : (t : TypeTree) (c c' : Cursor) → Like c c' → Both number_of (of_type t c) (of_type (erase_type t) c')
  type_like (plain.kind_type s k) c c' l = (l.number, (node_like s nowhere Site.Value c c' l).1)
  type_like (plain.bool_type s) c c' l = (l.number, (node_like s nowhere Site.Value c c' l).1)
  type_like (plain.tuple_type s ts) c c' l = (l.number, types_like ts _ _ (node_like s nowhere Site.Value c c' l).1)
  type_like (plain.ref_type s x m t) c c' l = (l.number, (type_like t _ _ (lifetime_like x _ _ (node_like s nowhere Site.Value c c' l).1)).1)
  type_like (plain.named_type s x ls) c c' l = (l.number, (entry_like _ _ (node_like s nowhere Site.Value c c' l).1).1)

  types_like : (ts : TypeTrees) (c c' : Cursor) → Like c c' → Like (of_types ts c).1 (of_types (erase_types ts) c').1
  types_like plain.no_type c c' l = l
  types_like (plain.type_and t ts) c c' l = types_like ts _ _ (type_like t c c' l).1

pub optional_type_like : (y : Option TypeTree) (c c' : Cursor) → Like c c' → Like (of_optional_type y c).1 (of_optional_type (option_map erase_type y) c').1
optional_type_like None c c' l = l
optional_type_like (Some t) c c' l = (type_like t c c' l).1

-- ---- patterns

mutual
  pattern_like : (p : PatternTree) (c c' : Cursor) → Like c c' → Both bare_pattern (of_pattern p c) (of_pattern (erase_pattern p) c')
  pattern_like (plain.wild s) c c' l = let n = node_like s nowhere Site.Value c c' l in (ap named.wild n.0, n.1)
  pattern_like (plain.bind s x m) c c' l =
      let n = node_like s nowhere Site.Value c c' l in let e = entry_like _ _ n.1 in let v = declare_like (record { mutable = m; stage = Stage.Given }) _ _ e.1 in
      (cong2 (λ n x. named.bind n x m) n.0 v.0, v.1)
  pattern_like (plain.int_pattern s g v k) c c' l = let n = node_like s nowhere Site.Value c c' l in (ap (λ n. named.whole_number n g v k) n.0, n.1)
  pattern_like (plain.bool_pattern s b) c c' l = let n = node_like s nowhere Site.Value c c' l in (ap (λ n. named.truth n b) n.0, n.1)
  pattern_like (plain.tuple_pattern s ps) c c' l =
      let n = node_like s nowhere Site.Value c c' l in let q = patterns_like ps _ _ n.1 in (cong2 named.tuple_pattern n.0 q.0, q.1)
  pattern_like (plain.variant_pattern s a v ps) c c' l =
      let n = node_like s nowhere Site.Value c c' l in let e = entry_like _ _ n.1 in let q = patterns_like ps _ _ e.1 in
      (cong3 (λ n ns ps. named.variant_pattern n (first ns.0) (second ns.0) ps) n.0 e.0 q.0, q.1)
  pattern_like (plain.make_pattern s x fs) c c' l =
      let n = node_like s nowhere Site.Value c c' l in let e = entry_like _ _ n.1 in let q = field_patterns_like fs _ _ e.1 in
      (cong3 (λ n ns fs. named.struct_pattern n (first ns.0) fs) n.0 e.0 q.0, q.1)

  patterns_like : (ps : PatternTrees) (c c' : Cursor) → Like c c' → Both bare_patterns (of_patterns ps c) (of_patterns (erase_patterns ps) c')
  patterns_like plain.no_pattern c c' l = (refl, l)
  patterns_like (plain.pattern_and p ps) c c' l = let a = pattern_like p c c' l in let b = patterns_like ps _ _ a.1 in (cong2 named.pattern_and a.0 b.0, b.1)

  field_patterns_like : (fs : FieldPatterns) (c c' : Cursor) → Like c c' → Both bare_field_patterns (of_field_patterns fs c) (of_field_patterns (erase_field_patterns fs) c')
  field_patterns_like plain.no_field_pattern c c' l = (refl, l)
  field_patterns_like (plain.field_pattern_and x p fs) c c' l =
      let a = pattern_like p c c' l in let b = field_patterns_like fs _ _ a.1 in (cong2 (named.field_pattern_and x.name) a.0 b.0, b.1)

pattern_node_bare : (p : Pattern) → pattern_node (bare_pattern p) ≡ bare_node (pattern_node p)
pattern_node_bare (named.wild n) = refl
pattern_node_bare (named.bind n x m) = refl
pattern_node_bare (named.whole_number n g v k) = refl
pattern_node_bare (named.truth n b) = refl
pattern_node_bare (named.tuple_pattern n ps) = refl
pattern_node_bare (named.variant_pattern n i v ps) = refl
pattern_node_bare (named.struct_pattern n i fs) = refl

binding_bare : (p : Pattern) → whole_binding (bare_pattern p) ≡ whole_binding p
binding_bare (named.bind n x m) = refl
binding_bare (named.wild n) = refl
binding_bare (named.whole_number n g v k) = refl
binding_bare (named.truth n b) = refl
binding_bare (named.tuple_pattern n ps) = refl
binding_bare (named.variant_pattern n i v ps) = refl
binding_bare (named.struct_pattern n i fs) = refl

-- ---- variables that wait for their types

waits_at_like : (n n' : Node) → bare_node n ≡ bare_node n' → (o : Option ℕ) (c c' : Cursor) → Like c c' → Both itself (waits_at n o c) (waits_at n' o c')
waits_at_like n n' e None c c' l = (refl, l)
waits_at_like n n' e (Some x) c c' l = stage_like x (Stage.Waits n.number n.span) (Stage.Waits n'.number n'.span) c c' (ap (λ n. Stage.Waits n.number nowhere) e) l

waits_like : (p p' : Pattern) → bare_pattern p ≡ bare_pattern p' → (c c' : Cursor) → Like c c' → Both itself (waits p c) (waits p' c')
waits_like p p' e c c' l =
    let n : bare_node (pattern_node p) ≡ bare_node (pattern_node p') = sym (pattern_node_bare p) ∙ ap pattern_node e ∙ pattern_node_bare p' in
    let o : whole_binding p ≡ whole_binding p' = sym (binding_bare p) ∙ ap whole_binding e ∙ binding_bare p' in
    subst (λ x. Both itself (waits p c) (waits_at (pattern_node p') x c')) o (waits_at_like (pattern_node p) (pattern_node p') n (whole_binding p) c c' l)

waits_if_like : (b b' : Bool) (p p' : Pattern) → b ≡ b' → bare_pattern p ≡ bare_pattern p' → (c c' : Cursor) → Like c c' → Both itself (waits_if b p c) (waits_if b' p' c')
waits_if_like b b' p p' e q c c' l = subst (λ x. Both itself (waits_if b p c) (waits_if x p' c')) e (by b)
  where
    by : (b : Bool) → Both itself (waits_if b p c) (waits_if b p' c')
    by true = waits_like p p' q c c' l
    by false = (refl, l)

between_like : (i i' j j' : ℕ) → i ≡ i' → j ≡ j' → (c c' : Cursor) → Like c c' → Both itself (known_between i j c) (known_between i' j' c')
between_like i i' j j' e g c c' l =
    subst (λ j'. Both itself (known_between i j c) (known_between i' j' c')) g (subst (λ i'. Both itself (known_between i j c) (known_between i' j c')) e (known_like i j c c' l))

node_of_bare : (e : Exp) → node_of (bare e) ≡ bare_node (node_of e)
node_of_bare (named.int n m v k) = refl
node_of_bare _ = refl

root_bare : (e : Exp) → root (bare e) ≡ root e
root_bare (named.field n e x) = root_bare e
root_bare (named.part n e i) = root_bare e
root_bare (named.deref n e) = root_bare e
root_bare _ = refl

never_like : (e e' : Exp) → bare e ≡ bare e' → never e ≡ never e'
never_like e e' h = sym (never_bare e) ∙ ap never h ∙ never_bare e'

waits_in_like : (p : Expression) (x : ℕ) (c c' : Cursor) → Like c c' → waits_in p x c ≡ waits_in (erase p) x c'
waits_in_like (plain.var s y) x c c' l = waiting_like x c c' l
waits_in_like _ x c c' l = refl

waits_for_like : (p : Expression) (q q' : Exp) → bare q ≡ bare q' → (c c' : Cursor) → Like c c' → waits_in p (root q).number c ≡ waits_in (erase p) (root q').number c'
waits_for_like p q q' e c c' l =
    waits_in_like p (root q).number c c' l ∙ ap (λ u. waits_in (erase p) u.number c') (sym (root_bare q) ∙ ap root e ∙ root_bare q')

-- ---- forms that go on by what a step gave

abbrev Parts : (Site → Numbering Exp) → (Site → Numbering Exp) → Type 0
Parts f f' = (t : Site) (c c' : Cursor) → Like c c' → Both bare (f t c) (f' t c')

assigned_by : (n n' : Node) (p p' : Exp) (w : Option (ℕ × ℕ)) (f f' : Site → Numbering Exp) → bare_node n ≡ bare_node n' → bare p ≡ bare p' → Parts f f'
    → (c c' : Cursor) → Like c c' → Both bare (assigned n p w f c) (assigned n' p' w f' c')
assigned_by n n' p p' None f f' en ep k c c' l = let e = k Site.Expects c c' l in (cong3 named.assign en ep e.0, e.1)
assigned_by n n' p p' (Some w) f f' en ep k c c' l =
    let e = k Site.Reborrows c c' l in
    let b = gives_like w.0 _ _ e.1 in
    let q : bare_node (node_of p) ≡ bare_node (node_of p') = sym (node_of_bare p) ∙ ap node_of ep ∙ node_of_bare p' in
    ((λ i. named.gives (en i) (q i) (use_like w.0 _ _ e.1 i) (b.0 i) (e.0 i)), b.1)

assigned_like : (n n' : Node) (p p' : Exp) (w w' : Option (ℕ × ℕ)) (f f' : Site → Numbering Exp) → w ≡ w' → bare_node n ≡ bare_node n' → bare p ≡ bare p' → Parts f f'
    → (c c' : Cursor) → Like c c' → Both bare (assigned n p w f c) (assigned n' p' w' f' c')
assigned_like n n' p p' w w' f f' ew en ep k c c' l = subst (λ x. Both bare (assigned n p w f c) (assigned n' p' x f' c')) ew (assigned_by n n' p p' w f f' en ep k c c' l)

abbrev AllParts : (Site → Numbering Exps) → (Site → Numbering Exps) → Type 0
AllParts f f' = (t : Site) (c c' : Cursor) → Like c c' → Both bare_all (f t c) (f' t c')

called_by : (n n' : Node) (ns : List ℕ) (h : Bool) (f f' : Site → Numbering Exps) → bare_node n ≡ bare_node n' → AllParts f f'
    → (c c' : Cursor) → Like c c' → Both bare (called n (ns, h) f c) (called n' (ns, h) f' c')
called_by n n' ns true f f' en k c c' l = let e = k Site.Value c c' l in (cong2 named.hidden_call en e.0, e.1)
called_by n n' ns false f f' en k c c' l = let e = k Site.Expects c c' l in (cong2 (λ n es. named.call n (first ns) es) en e.0, e.1)

called_like : (n n' : Node) (ns ns' : List ℕ × Bool) (f f' : Site → Numbering Exps) → ns ≡ ns' → bare_node n ≡ bare_node n' → AllParts f f'
    → (c c' : Cursor) → Like c c' → Both bare (called n ns f c) (called n' ns' f' c')
called_like n n' ns ns' f f' e en k c c' l = subst (λ x. Both bare (called n ns f c) (called n' x f' c')) e (called_by n n' ns.0 ns.1 f f' en k c c' l)

left_at : (k k' : ℕ) → k ≡ k' → (c c' : Cursor) → Like c c' → Both itself (is_left k c) (is_left k' c')
left_at k k' e c c' l = subst (λ x. Both itself (is_left k c) (is_left x c')) e (left_like k c c' l)

leads_at : (k k' : ℕ) → k ≡ k' → (c c' : Cursor) → Like c c' → Like (leads k c).1 (leads k' c').1
leads_at k k' e c c' l = subst (λ x. Like (leads k c).1 (leads x c').1) e (leads_like k c c' l).1

used_like : (ns ns' : List ℕ × Bool) (c c' : Cursor) → ns ≡ ns' → Like c c' → use_of (first ns.0) (declaration c (first ns.0)) ≡ use_of (first ns'.0) (declaration c' (first ns'.0))
used_like ns ns' c c' e l = use_like (first ns.0) c c' l ∙ ap (λ x. use_of (first x.0) (declaration c' (first x.0))) e

-- the body of an `if` without `else` is no branch
same_branch : (t : Site) (o : OptionalExpression) → branch_site t o ≡ branch_site t (erase_optional o)
same_branch t plain.absent = refl
same_branch t (plain.present e) = refl

branch_by : (b b' : Body) (c c' : Cursor) (t t' : Site) → t ≡ t' → Both bare_body (of_body t b c) (of_body t b' c') → Both bare_body (of_body t b c) (of_body t' b' c')
branch_by b b' c c' t t' e h = subst (λ u. Both bare_body (of_body t b c) (of_body u b' c')) e h

-- ---- expressions

mutual
  exp_like : (m : Bool) (t : Site) (e : Expression) (c c' : Cursor) → Like c c' → Both bare (of_expression m t e c) (of_expression m t (erase e) c')
  exp_like m t (plain.int s v k) c c' l = let n = node_like s nowhere t c c' l in (ap (λ n. named.int n m v k) n.0, n.1)
  exp_like m t (plain.bool s b) c c' l = let n = node_like s nowhere t c c' l in (ap (λ n. named.bool n b) n.0, n.1)
  exp_like m t (plain.tuple s es) c c' l = let n = node_like s nowhere t c c' l in let a = exps_like Site.Value es _ _ n.1 in (cong2 named.tuple n.0 a.0, a.1)
  exp_like m t (plain.var s x) c c' l = let n = node_like s nowhere t c c' l in let e = entry_like _ _ n.1 in (cong2 named.var n.0 (used_like _ _ _ _ e.0 e.1), e.1)
  exp_like m t (plain.field s e x) c c' l = let n = node_like s nowhere t c c' l in let a = exp_like false Site.Place e _ _ n.1 in (cong2 (λ n e. named.field n e x.name) n.0 a.0, a.1)
  exp_like m t (plain.part s e i) c c' l = let n = node_like s nowhere t c c' l in let a = exp_like false Site.Place e _ _ n.1 in (cong2 (λ n e. named.part n e i) n.0 a.0, a.1)
  exp_like m t (plain.deref s e) c c' l = let n = node_like s nowhere t c c' l in let a = exp_like false Site.Place e _ _ n.1 in (cong2 named.deref n.0 a.0, a.1)
  exp_like m t (plain.negate s e) c c' l = let n = node_like s nowhere t c c' l in let a = exp_like true Site.Value e _ _ n.1 in (cong2 named.negate n.0 a.0, a.1)
  exp_like m t (plain.invert s e) c c' l = let n = node_like s nowhere t c c' l in let a = exp_like false Site.Value e _ _ n.1 in (cong2 named.invert n.0 a.0, a.1)
  exp_like m t (plain.borrow s w e) c c' l = let n = node_like s nowhere t c c' l in let a = exp_like false Site.Place e _ _ n.1 in (cong2 (λ n e. named.borrow n w e) n.0 a.0, a.1)
  exp_like m t (plain.binary s o a b) c c' l =
      let n = node_like s nowhere t c c' l in let a = exp_like false Site.Value a _ _ n.1 in let b = exp_like false Site.Value b _ _ a.1 in (cong3 (λ n a b. named.binary n o a b) n.0 a.0 b.0, b.1)
  exp_like m t (plain.assign s p e) c c' l =
      let n = node_like s nowhere t c c' l in let a = exp_like false Site.Place p _ _ n.1 in
      assigned_like _ _ _ _ _ _ _ _ (waits_for_like p _ _ a.0 _ _ a.1) n.0 a.0 (λ t c c' l. exp_like false t e c c' l) _ _ a.1
  exp_like m t (plain.update s o p e) c c' l =
      let n = node_like s nowhere t c c' l in let a = exp_like false Site.Place p _ _ n.1 in let b = exp_like false Site.Value e _ _ a.1 in (cong3 (λ n a b. named.update n o a b) n.0 a.0 b.0, b.1)
  exp_like m t (plain.call s f es) c c' l =
      let n = node_like s nowhere t c c' l in let e = entry_like _ _ n.1 in called_like _ _ _ _ _ _ e.0 n.0 (λ t c c' l. exps_like t es c c' l) _ _ e.1
  exp_like m t (plain.next_input s) c c' l = let n = node_like s nowhere t c c' l in let e = entry_like _ _ n.1 in (ap named.next_input n.0, e.1)
  exp_like m t (plain.variant s a v es) c c' l =
      let n = node_like s nowhere t c c' l in let e = entry_like _ _ n.1 in let a = arguments_like es _ _ e.1 in
      (cong3 (λ n ns es. named.variant n (first ns.0) (second ns.0) es) n.0 e.0 a.0, a.1)
  exp_like m t (plain.make s x fs) c c' l =
      let n = node_like s nowhere t c c' l in let e = entry_like _ _ n.1 in let a = fields_like fs _ _ e.1 in (cong3 (λ n ns fs. named.make n (first ns.0) fs) n.0 e.0 a.0, a.1)
  exp_like m t (plain.print s e) c c' l = let n = node_like s nowhere t c c' l in let a = exp_like false Site.Value e _ _ n.1 in (cong2 named.print n.0 a.0, a.1)
  exp_like m t (plain.block s b) c c' l = let n = node_like s nowhere t c c' l in let a = body_like (passed_on t) b _ _ n.1 in (cong2 named.block n.0 a.0, a.1)
  exp_like m t (plain.if s e b o) c c' l =
      let n = node_like s nowhere t c c' l in let a = exp_like false Site.Value e _ _ n.1 in let b = branch_by _ _ _ _ _ _ (same_branch t o) (body_like (branch_site t o) b _ _ a.1) in let o = optional_like (passed_on t) o _ _ b.1 in
      (cong4 named.if n.0 a.0 b.0 o.0, o.1)
  exp_like m t (plain.if_let s p e b o) c c' l =
      let n = node_like s nowhere t c c' l in let p = pattern_like p _ _ n.1 in let a = exp_like false Site.Scrutinee e _ _ p.1 in
      let k = between_like _ _ _ _ l.declared p.1.declared _ _ a.1 in let b = branch_by _ _ _ _ _ _ (same_branch t o) (body_like (branch_site t o) b _ _ k.1) in let o = optional_like (passed_on t) o _ _ b.1 in
      (cong5 named.if_let n.0 p.0 a.0 b.0 o.0, o.1)
  exp_like m t (plain.match s e r) c c' l =
      let n = node_like s nowhere t c c' l in let a = exp_like false Site.Scrutinee e _ _ n.1 in let r = arms_like (passed_on t) r _ _ a.1 in (cong3 named.match n.0 a.0 r.0, r.1)
  exp_like m t (plain.loop s x b) c c' l =
      let n = node_like s nowhere t c c' l in let k = loop_like _ _ n.1 in let b = body_like Site.Value b _ _ k.1 in let f = left_at _ _ k.0 _ _ b.1 in
      (cong4 named.loop n.0 k.0 f.0 b.0, f.1)
  exp_like m t (plain.while s x e b) c c' l =
      let n = node_like s nowhere t c c' l in let k = loop_like _ _ n.1 in let a = exp_like false Site.Value e _ _ k.1 in let b = body_like Site.Value b _ _ a.1 in
      (cong4 named.while n.0 k.0 a.0 b.0, b.1)
  exp_like m t (plain.while_let s x p e b) c c' l =
      let n = node_like s nowhere t c c' l in let k = loop_like _ _ n.1 in let p = pattern_like p _ _ k.1 in let a = exp_like false Site.Scrutinee e _ _ p.1 in
      let d = between_like _ _ _ _ l.declared p.1.declared _ _ a.1 in let b = body_like Site.Value b _ _ d.1 in
      (cong5 named.while_let n.0 k.0 p.0 a.0 b.0, b.1)
  exp_like m t (plain.break s x) c c' l =
      let n = node_like s nowhere t c c' l in let e = entry_like _ _ n.1 in (cong2 (λ n ns. named.break n (first ns.0)) n.0 e.0, leads_at _ _ (ap (λ ns. first ns.0) e.0) _ _ e.1)
  exp_like m t (plain.continue s x) c c' l = let n = node_like s nowhere t c c' l in let e = entry_like _ _ n.1 in (cong2 (λ n ns. named.continue n (first ns.0)) n.0 e.0, e.1)
  exp_like m t (plain.return s o) c c' l = let n = node_like s nowhere t c c' l in let a = optional_like Site.Expects o _ _ n.1 in (cong2 named.return n.0 a.0, a.1)

  exps_like : (t : Site) (es : Expressions) (c c' : Cursor) → Like c c' → Both bare_all (of_expressions t es c) (of_expressions t (erase_all es) c')
  exps_like t plain.no_expression c c' l = (refl, l)
  exps_like t (plain.expression_and e es) c c' l = let a = exp_like false t e c c' l in let b = exps_like t es _ _ a.1 in (cong2 named.exp_and a.0 b.0, b.1)

  optional_like : (t : Site) (o : OptionalExpression) (c c' : Cursor) → Like c c' → Both bare_else (of_optional t o c) (of_optional t (erase_optional o) c')
  optional_like t plain.absent c c' l = (refl, l)
  optional_like t (plain.present e) c c' l = let a = exp_like false t e c c' l in (ap named.present a.0, a.1)

  arguments_like : (es : OptionalExpressions) (c c' : Cursor) → Like c c' → Both bare_all (of_arguments es c) (of_arguments (erase_optional_list es) c')
  arguments_like plain.no_list c c' l = (refl, l)
  arguments_like (plain.a_list es) c c' l = exps_like Site.Expects es c c' l

  fields_like : (fs : FieldExpressions) (c c' : Cursor) → Like c c' → Both bare_fields (of_fields fs c) (of_fields (erase_fields fs) c')
  fields_like plain.no_field c c' l = (refl, l)
  fields_like (plain.field_and x e fs) c c' l = let a = exp_like false Site.Expects e c c' l in let b = fields_like fs _ _ a.1 in (cong2 (named.field_and x.name) a.0 b.0, b.1)

  arms_like : (t : Site) (r : Arms) (c c' : Cursor) → Like c c' → Both bare_arms (of_arms t r c) (of_arms t (erase_arms r) c')
  arms_like t plain.no_arm c c' l = (refl, l)
  arms_like t (plain.arm_and p e r) c c' l =
      let p = pattern_like p c c' l in let k = between_like _ _ _ _ l.declared p.1.declared _ _ p.1 in let a = exp_like false t e _ _ k.1 in let r = arms_like t r _ _ a.1 in
      (cong3 named.arm_and p.0 a.0 r.0, r.1)

  pub body_like : (t : Site) (b : Body) (c c' : Cursor) → Like c c' → Both bare_body (of_body t b c) (of_body t (erase_body b) c')
  body_like t (plain.body s ss o) c c' l =
      let n = node_like s nowhere t c c' l in let a = statements_like ss _ _ n.1 in let o = optional_like t o _ _ a.1 in (cong3 named.body n.0 a.0 o.0, o.1)

  statements_like : (ss : Statements) (c c' : Cursor) → Like c c' → Both bare_statements (of_statements ss c) (of_statements (erase_statements ss) c')
  statements_like plain.no_statement c c' l = (refl, l)
  statements_like (plain.statement_and a ss) c c' l = let a = statement_like a c c' l in let b = statements_like ss _ _ a.1 in (cong2 named.statement_and a.0 b.0, b.1)

  statement_like : (a : Statement) (c c' : Cursor) → Like c c' → Both bare_statement (of_statement a c) (of_statement (erase_statement a) c')
  statement_like (plain.let_statement s p None plain.absent) c c' l =
      let n = node_like s nowhere Site.Value c c' l in let p = pattern_like p _ _ n.1 in let k = between_like _ _ _ _ l.declared p.1.declared _ _ p.1 in
      let w = waits_like _ _ p.0 _ _ k.1 in (cong2 (λ n p. named.declares n p None) n.0 p.0, w.1)
  statement_like (plain.let_statement s p (Some y) plain.absent) c c' l =
      let n = node_like s nowhere Site.Value c c' l in let p = pattern_like p _ _ (annotated_like p y _ _ n.1) in let y = type_like y _ _ p.1 in let k = between_like _ _ _ _ l.declared p.1.declared _ _ y.1 in
      (cong2 (λ n p. named.declares n p None) n.0 p.0, k.1)
  statement_like (plain.let_statement s p None (plain.present e)) c c' l =
      let n = node_like s nowhere Site.Value c c' l in let p = pattern_like p _ _ n.1 in let e = exp_like false Site.Scrutinee e _ _ p.1 in
      let k = between_like _ _ _ _ l.declared p.1.declared _ _ e.1 in let w = waits_if_like _ _ _ _ (never_like _ _ e.0) p.0 _ _ k.1 in
      (cong3 (λ n p e. named.lets n p None e) n.0 p.0 e.0, w.1)
  statement_like (plain.let_statement s p (Some y) (plain.present e)) c c' l =
      let n = node_like s nowhere Site.Value c c' l in let p = pattern_like p _ _ (annotated_like p y _ _ n.1) in let y = type_like y _ _ p.1 in let e = exp_like false Site.Initialises e _ _ y.1 in
      let k = between_like _ _ _ _ l.declared p.1.declared _ _ e.1 in (cong3 (λ n p e. named.lets n p None e) n.0 p.0 e.0, k.1)
  statement_like (plain.expression_statement s e b) c c' l =
      let n = node_like s nowhere Site.Value c c' l in let a = exp_like false Site.Value e _ _ n.1 in (cong2 (λ n e. named.evaluates n e b) n.0 a.0, a.1)
