-- A body in which no lifetime is written otherwise stays as it is: by induction on it.
use Rattle.std.proofs.Common.{◌≡◌, ℕ, Bool, true, false, List, [], ◌∷◌, ◌++◌, map, Option, Some, None, inl, inr, refl, sym, ap, ap₂, subst, ◌∙◌, append_assoc}
use Rattle.std.specs.Prelude.{if◌then◌else◌, option_map}
use Rattle.std.proofs.lemmas.Bool.{or_cases, false≢true}
use Rattle.std.specs.Str.{bytes_eq}
use Rattle.rx_tree.specs.declared.tree.Ident.{Ident}
use Rattle.rx_tree.specs.Lists.{Every, listed}
use Rattle.rx_tree.specs.Nodes.{below_type, within_types, within_type, below_pattern, below_expression, within_expressions, within_optional, within_arguments, within_fields, within_arms, below_block, below_statement, within_statements}
use Rattle.rx_tree.specs.Positions.{NodeTree, a_type, a_block, an_expression}
use Rattle.rx_tree.specs.Plain as plain
use Rattle.rx_tree.specs.Plain.{TypeTree, TypeTrees, Expression, Expressions, OptionalExpression, OptionalExpressions, FieldExpressions, Arms, Body, Statement, Statements}
use Rattle.rx_tree.proofs.NodesLaws.{every_front, every_behind}
use Rattle.rx_resolve_names.specs.Meant.{Around, a_loop, a_test}
use Rattle.rx_hoist_extraction.specs.Names.{Names, is_among, bound, bound_by, behind_all}
use Rattle.rx_hoist_extraction.specs.Run.{as_statements}
use Rattle.rx_hoist_extraction.specs.NewFunction.{lifetimes_listed, lifetimes_at, lifetimes_at_all, firsts_of}
use Rattle.rx_hoist_extraction.specs.OwnLifetimes.{idents}
use Rattle.rx_hoist_extraction.specs.Changed.{Changes, changed, changed_all, changed_optional, changed_arguments, changed_fields, changed_arms, changed_body, changed_statement, changed_statements}
use Rattle.rx_compact_lifetimes.specs.declared.rewriting.Rewriting.{Rewriting}
use Rattle.rx_compact_lifetimes.specs.Rewritten.{becomes, ident_with, rewritten_lifetime, rewritten_type, rewritten_types, rewritten_body, retyping}
use Rattle.rx_compact_lifetimes.specs.Elided.{in_body}
use Rattle.rx_compact_laws.proofs.Lists.{first_among, among_more}
use Rattle.rx_compact_laws.proofs.Declaring.{same_name, itself}

module _ (rs : List Rewriting) where
  abbrev pub Stays : Ident → Type 0
  Stays l = becomes rs l.name ≡ Some l.name

  abbrev pub Spared : List NodeTree → Type 0
  Spared ns = Every Stays (lifetimes_at_all ns)

  at_both : (ns ms : List NodeTree) → lifetimes_at_all (ns ++ ms) ≡ lifetimes_at_all ns ++ lifetimes_at_all ms
  at_both [] ms = refl
  at_both (n ∷ ns) ms = ap (λ ls. lifetimes_at n ++ ls) (at_both ns ms) ∙ sym (append_assoc (lifetimes_at n) (lifetimes_at_all ns) (lifetimes_at_all ms))

  pub front : (ns ms : List NodeTree) → Spared (ns ++ ms) → Spared ns
  front ns ms h = every_front Stays (lifetimes_at_all ns) (lifetimes_at_all ms) (subst (Every Stays) (at_both ns ms) h)

  pub behind : (ns ms : List NodeTree) → Spared (ns ++ ms) → Spared ms
  behind ns ms h = every_behind Stays (lifetimes_at_all ns) (lifetimes_at_all ms) (subst (Every Stays) (at_both ns ms) h)

  -- ---- types

  one_stays : (x : Ident) → Stays x → rewritten_lifetime rs (Some x) ≡ Some x
  one_stays x h = ap (λ o. option_map (ident_with x) o) h

  all_stay : (ls : List (Option Ident)) → Every Stays (lifetimes_listed ls) → map (rewritten_lifetime rs) ls ≡ ls
  all_stay [] h = refl
  all_stay (None ∷ ls) h = ap (λ ks. None ∷ ks) (all_stay ls h)
  all_stay (Some x ∷ ls) h = ap₂ (λ k ks. k ∷ ks) (one_stays x h.0) (all_stay ls h.1)

  mutual
    pub type : (t : TypeTree) → Spared (a_type t ∷ below_type t) → rewritten_type rs t ≡ t
    type (plain.kind_type s k) h = refl
    type (plain.bool_type s) h = refl
    type (plain.tuple_type s ts) h = ap (plain.tuple_type s) (types ts h)
    type (plain.ref_type s None m t) h = ap (plain.ref_type s None m) (type t h)
    type (plain.ref_type s (Some x) m t) h = ap₂ (λ k u. plain.ref_type s k m u) (one_stays x h.0) (type t h.1)
    type (plain.named_type s x None) h = refl
    type (plain.named_type s x (Some ls)) h = ap (λ ks. plain.named_type s x (Some ks)) (all_stay ls (every_front Stays (lifetimes_listed ls) [] h))

    types : (ts : TypeTrees) → Spared (within_types ts) → rewritten_types rs ts ≡ ts
    types plain.no_type h = refl
    types (plain.type_and t ts) h = ap₂ plain.type_and (type t (front (a_type t ∷ below_type t) (within_types ts) h)) (types ts (behind (a_type t ∷ below_type t) (within_types ts) h))

  let_type : (y : Option TypeTree) → Spared (within_type y) → option_map (rewritten_type rs) y ≡ y
  let_type None h = refl
  let_type (Some t) h = ap (λ u. Some u) (type t h)

  -- ---- expressions

  abbrev C : Changes
  C = retyping (rewritten_type rs)

  mutual
    same : (own : Names) (ls : List Around) (e : Expression) → Spared (below_expression e) → changed C own ls e ≡ e
    same own ls (plain.int s v k) h = refl
    same own ls (plain.bool s b) h = refl
    same own ls (plain.tuple s es) h = ap (plain.tuple s) (same_all own ls es h)
    same own ls (plain.var s x) h = refl
    same own ls (plain.field s e x) h = ap (λ e. plain.field s e x) (same own ls e h)
    same own ls (plain.part s e i) h = ap (λ e. plain.part s e i) (same own ls e h)
    same own ls (plain.deref s e) h = ap (plain.deref s) (same own ls e h)
    same own ls (plain.negate s e) h = ap (plain.negate s) (same own ls e h)
    same own ls (plain.invert s e) h = ap (plain.invert s) (same own ls e h)
    same own ls (plain.borrow s m e) h = ap (plain.borrow s m) (same own ls e h)
    same own ls (plain.binary s o a b) h = ap₂ (plain.binary s o) (same own ls a (front (below_expression a) (an_expression b ∷ below_expression b) h))
        (same own ls b (behind (below_expression a) (an_expression b ∷ below_expression b) h))
    same own ls (plain.assign s a b) h = ap₂ (plain.assign s) (same own ls a (front (below_expression a) (an_expression b ∷ below_expression b) h))
        (same own ls b (behind (below_expression a) (an_expression b ∷ below_expression b) h))
    same own ls (plain.update s o a b) h = ap₂ (plain.update s o) (same own ls a (front (below_expression a) (an_expression b ∷ below_expression b) h))
        (same own ls b (behind (below_expression a) (an_expression b ∷ below_expression b) h))
    same own ls (plain.call s f es) h = ap (plain.call s f) (same_all own ls es h)
    same own ls (plain.next_input s) h = refl
    same own ls (plain.variant s a v es) h = ap (plain.variant s a v) (same_arguments own ls es h)
    same own ls (plain.make s x fs) h = ap (plain.make s x) (same_fields own ls fs h)
    same own ls (plain.print s e) h = ap (plain.print s) (same own ls e h)
    same own ls (plain.block s b) h = ap (plain.block s) (same_body own ls b h)
    same own ls (plain.if s c b o) h =
        let g = behind (below_expression c) (a_block b ∷ (below_block b ++ within_optional o)) h in
        λ i. plain.if s (same own ls c (front (below_expression c) (a_block b ∷ (below_block b ++ within_optional o)) h) i)
        (same_body own ls b (front (below_block b) (within_optional o) g) i) (same_optional own ls o (behind (below_block b) (within_optional o) g) i)
    same own ls (plain.if_let s p e b o) h =
        let k = behind (below_pattern p) (an_expression e ∷ (below_expression e ++ (a_block b ∷ (below_block b ++ within_optional o)))) h in
        let g = behind (below_expression e) (a_block b ∷ (below_block b ++ within_optional o)) k in
        λ i. plain.if_let s p (same own ls e (front (below_expression e) (a_block b ∷ (below_block b ++ within_optional o)) k) i)
        (same_body (bound p ++ own) ls b (front (below_block b) (within_optional o) g) i) (same_optional own ls o (behind (below_block b) (within_optional o) g) i)
    same own ls (plain.match s e l) h = ap₂ (plain.match s) (same own ls e (front (below_expression e) (within_arms l) h)) (same_arms own ls l (behind (below_expression e) (within_arms l) h))
    same own ls (plain.loop s l b) h = ap (plain.loop s l) (same_body own (a_loop l 0 ∷ ls) b h)
    same own ls (plain.while s l c b) h = ap₂ (plain.while s l) (same own (a_test ∷ a_loop l 0 ∷ ls) c (front (below_expression c) (a_block b ∷ below_block b) h))
        (same_body own (a_loop l 0 ∷ ls) b (behind (below_expression c) (a_block b ∷ below_block b) h))
    same own ls (plain.while_let s l p e b) h =
        let k = behind (below_pattern p) (an_expression e ∷ (below_expression e ++ (a_block b ∷ below_block b))) h in
        ap₂ (plain.while_let s l p) (same own (a_test ∷ a_loop l 0 ∷ ls) e (front (below_expression e) (a_block b ∷ below_block b) k))
        (same_body (bound p ++ own) (a_loop l 0 ∷ ls) b (behind (below_expression e) (a_block b ∷ below_block b) k))
    same own ls (plain.break s l) h = refl
    same own ls (plain.continue s l) h = refl
    same own ls (plain.return s o) h = ap (plain.return s) (same_optional own ls o h)

    same_all : (own : Names) (ls : List Around) (es : Expressions) → Spared (within_expressions es) → changed_all C own ls es ≡ es
    same_all own ls plain.no_expression h = refl
    same_all own ls (plain.expression_and e es) h = ap₂ plain.expression_and (same own ls e (front (below_expression e) (within_expressions es) h)) (same_all own ls es (behind (below_expression e) (within_expressions es) h))

    same_optional : (own : Names) (ls : List Around) (o : OptionalExpression) → Spared (within_optional o) → changed_optional C own ls o ≡ o
    same_optional own ls plain.absent h = refl
    same_optional own ls (plain.present e) h = ap plain.present (same own ls e h)

    same_arguments : (own : Names) (ls : List Around) (es : OptionalExpressions) → Spared (within_arguments es) → changed_arguments C own ls es ≡ es
    same_arguments own ls plain.no_list h = refl
    same_arguments own ls (plain.a_list es) h = ap plain.a_list (same_all own ls es h)

    same_fields : (own : Names) (ls : List Around) (fs : FieldExpressions) → Spared (within_fields fs) → changed_fields C own ls fs ≡ fs
    same_fields own ls plain.no_field h = refl
    same_fields own ls (plain.field_and x e fs) h = ap₂ (plain.field_and x) (same own ls e (front (below_expression e) (within_fields fs) h)) (same_fields own ls fs (behind (below_expression e) (within_fields fs) h))

    same_arms : (own : Names) (ls : List Around) (l : Arms) → Spared (within_arms l) → changed_arms C own ls l ≡ l
    same_arms own ls plain.no_arm h = refl
    same_arms own ls (plain.arm_and p e rest) h =
        let k = behind (below_pattern p) (an_expression e ∷ (below_expression e ++ within_arms rest)) h in
        ap₂ (plain.arm_and p) (same (bound p ++ own) ls e (front (below_expression e) (within_arms rest) k)) (same_arms own ls rest (behind (below_expression e) (within_arms rest) k))

    same_body : (own : Names) (ls : List Around) (b : Body) → Spared (below_block b) → changed_body C own ls b ≡ b
    same_body own ls (plain.body s ss o) h = ap₂ (plain.body s) (same_statements own ls ss (front (within_statements ss) (within_optional o) h))
        (same_optional (behind_all own ss) ls o (behind (within_statements ss) (within_optional o) h))

    same_statement : (own : Names) (ls : List Around) (a : Statement) → Spared (below_statement a) → changed_statement C own ls a ≡ a
    same_statement own ls (plain.let_statement s p y o) h =
        let k = behind (below_pattern p) (within_type y ++ within_optional o) h in
        ap₂ (plain.let_statement s p) (let_type y (front (within_type y) (within_optional o) k)) (same_optional own ls o (behind (within_type y) (within_optional o) k))
    same_statement own ls (plain.expression_statement s e b) h = ap (λ e. plain.expression_statement s e b) (same own ls e h)

    same_statements : (own : Names) (ls : List Around) (ss : Statements) → Spared (within_statements ss) → changed_statements C own ls ss ≡ ss
    same_statements own ls plain.no_statement h = refl
    same_statements own ls (plain.statement_and a ss) h = ap₂ plain.statement_and (same_statement own ls a (front (below_statement a) (within_statements ss) h))
        (same_statements (bound_by a ++ own) ls ss (behind (below_statement a) (within_statements ss) h))

  -- ---- by the names that a body has

  firsts_stay : (found : Names) (ls : List Ident) → ((x : List ℕ) → is_among x (idents (firsts_of found ls)) ≡ true → becomes rs x ≡ Some x)
      → ((x : List ℕ) → is_among x found ≡ true → becomes rs x ≡ Some x) → Every Stays ls
  firsts_stay found [] new old = tt
  firsts_stay found (l ∷ ls) new old = by (is_among l.name found) refl new (λ more. firsts_stay more ls)
    where
      by : (b : Bool) → is_among l.name found ≡ b → ((x : List ℕ) → is_among x (idents (if b then firsts_of found ls else l ∷ firsts_of (l.name ∷ found) ls)) ≡ true → becomes rs x ≡ Some x)
          → ((more : Names) → ((x : List ℕ) → is_among x (idents (firsts_of more ls)) ≡ true → becomes rs x ≡ Some x) → ((x : List ℕ) → is_among x more ≡ true → becomes rs x ≡ Some x) → Every Stays ls)
          → Every Stays (l ∷ ls)
      by true h new again = (old l.name h, again found new old)
      by false h new again =
          let this : becomes rs l.name ≡ Some l.name = new l.name (first_among l.name l.name (idents (firsts_of (l.name ∷ found) ls)) (itself l.name)) in (
            this,
            again (l.name ∷ found) (λ x e. new x (among_more x l.name (idents (firsts_of (l.name ∷ found) ls)) e))
                (λ x e. elim (or_cases (bytes_eq x l.name) (is_among x found) e) [
                  | inl g ↦ subst (λ y. becomes rs y ≡ Some y) (sym (same_name x l.name g)) this
                  | inr g ↦ old x g
                ]),
          )

  as_listed : (ss : Statements) → as_statements (listed ss) ≡ ss
  as_listed plain.no_statement = refl
  as_listed (plain.statement_and a ss) = ap (plain.statement_and a) (as_listed ss)

  -- so the body is spared
  pub spared_in : (b : Body) → ((x : List ℕ) → is_among x (in_body b) ≡ true → becomes rs x ≡ Some x) → Spared (below_block b)
  spared_in (plain.body s ss o) h =
      subst (λ z. Spared (within_statements z ++ within_optional o)) (as_listed ss)
      (firsts_stay [] (lifetimes_at_all (within_statements (as_statements (listed ss)) ++ within_optional o)) h (λ x e. absurd (false≢true e)))

  pub body_spared : (b : Body) → ((x : List ℕ) → is_among x (in_body b) ≡ true → becomes rs x ≡ Some x) → rewritten_body rs b ≡ b
  body_spared b h = same_body [] [] b (spared_in b h)
