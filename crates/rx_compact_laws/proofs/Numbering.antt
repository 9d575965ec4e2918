-- Types whose lifetimes are written otherwise, and patterns, are numbered as before: by entries that stand beside those of before, one
-- step after another. A step that reads no entry leaves what is left as it was.
use Rattle.std.proofs.Common.{◌≡◌, ℕ, Bool, List, [], ◌∷◌, Option, Some, None, refl, sym, ap, ap₂, ◌∙◌}
use Rattle.std.proofs.lemmas.List.{length-map}
use Rattle.rx_tree.specs.declared.tree.Ident.{Ident}
use Rattle.rx_tree.specs.Plain as plain
use Rattle.rx_tree.specs.Plain.{TypeTree, TypeTrees, PatternTree, PatternTrees, FieldPatterns}
use Rattle.rx_resolve_names.specs.declared.resolved.NodeNames.{NodeNames}
use Rattle.rx_typed.specs.declared.nodes.Site.{Site}
use Rattle.rx_typed.specs.declared.nodes.Stage.{Stage}
use Rattle.rx_typed.specs.Named as named
use Rattle.rx_typed.specs.Naming.{Annotation, Cursor, Numbering, give, and_then, a_node, taken, an_entry, first, second, declare, lifetimes_written, lifetime_entry, of_type, of_types, of_optional_type, of_pattern, of_patterns, of_field_patterns}
use Rattle.rx_compact_lifetimes.specs.declared.rewriting.Rewriting.{Rewriting}
use Rattle.rx_compact_lifetimes.specs.Rewritten.{becomes, lifetime_with, rewritten_lifetime, rewritten_list, rewritten_type, rewritten_types, rewritten_optional}
use Rattle.rx_compact_laws.specs.Beside.{Left, InBoth, LetsBeside, moved, Stands, Goes, Both, Old, Alike, SameItem, Any, in_lifetime, in_type, in_types, in_optional_type, in_pattern, in_patterns, in_field_patterns}

pub given : {A B : Type 0} {K : InBoth} {Q : Left} {a b : A × Cursor} (f : A → B) → Goes K Q a b → Goes K Q (f a.0, a.1) (f b.0, b.1)
given f r = record { names = r.names; lets = r.lets; is = ap (λ x. (f x.0, x.1)) r.is; rest = r.rest }

pub next : {A B : Type 0} {K : InBoth} {Q T : Left} {a b : A × Cursor} (g h : A → Numbering B) → Goes K Q a b
    → ((ms : List NodeNames) (ls : List Annotation) → Stands K Q a.1.names a.1.annotations ms ls → Goes K T (g a.0 a.1) (h a.0 (moved a.1 ms ls))) → Goes K T (g a.0 a.1) (h b.0 b.1)
next {a = a} g h r k =
    let z = k r.names r.lets r.rest in
    record { names = z.names; lets = z.lets; is = ap (λ x. h x.0 x.1) r.is ∙ z.is; rest = z.rest }

-- ---- entries

take : (K : InBoth) (C : Left) (ns ms : List NodeNames) (c : Cursor) (ls : List Annotation) → Both Alike C ns ms → LetsBeside K c.annotations ls → Goes K C (taken ns c) (taken ms (moved c ms ls))
take K C [] ms c ls p l = absurd p
take K C (n ∷ ns) [] c ls p l = absurd p
take K C (n ∷ ns) (m ∷ ms) c ls p l = record {
  names = ms;
  lets = ls;
  is = ap₂ (λ k h. ((k, h), moved (record c { names = ns }) ms ls)) (sym p.0.0) (sym p.0.1);
  rest = record { left = p.1; lets = l };
}

pub entry : (K : InBoth) (C : Left) (c : Cursor) (ms : List NodeNames) (ls : List Annotation) → Stands K (Both Alike C) c.names c.annotations ms ls → Goes K C (an_entry c) (an_entry (moved c ms ls))
entry K C c ms ls p = take K C c.names ms c ls p.left p.lets

-- of an item, of which the number alone is read
abbrev numbered : {A : Type 0} → (ℕ → A) → (List ℕ × Bool) × Cursor → A × Cursor
numbered f x = (f (first x.0.0), x.1)

take_item : {A : Type 0} (K : InBoth) (f : ℕ → A) (C : Left) (ns ms : List NodeNames) (c : Cursor) (ls : List Annotation) → Both SameItem C ns ms → LetsBeside K c.annotations ls
    → Goes K C (numbered f (taken ns c)) (numbered f (taken ms (moved c ms ls)))
take_item K f C [] ms c ls p l = absurd p
take_item K f C (n ∷ ns) [] c ls p l = absurd p
take_item K f C (n ∷ ns) (m ∷ ms) c ls p l =
    record { names = ms; lets = ls; is = ap (λ i. (f i, moved (record c { names = ns }) ms ls)) (sym p.0); rest = record { left = p.1; lets = l } }

-- of a lifetime, of which nothing is read
abbrev pub passed : (List ℕ × Bool) × Cursor → Unit {0} × Cursor
passed x = (tt, x.1)

pub pass_both : (K : InBoth) (C : Left) (ns ms : List NodeNames) (c : Cursor) (ls : List Annotation) → Both Any C ns ms → LetsBeside K c.annotations ls
    → Goes K C (passed (taken ns c)) (passed (taken ms (moved c ms ls)))
pass_both K C [] ms c ls p l = absurd p
pass_both K C (n ∷ ns) [] c ls p l = absurd p
pass_both K C (n ∷ ns) (m ∷ ms) c ls p l = record { names = ms; lets = ls; is = refl; rest = record { left = p.1; lets = l } }

pub pass_old : (K : InBoth) (C : Left) (ns ms : List NodeNames) (c : Cursor) (ls : List Annotation) → Old C ns ms → LetsBeside K c.annotations ls
    → Goes K C (passed (taken ns c)) (tt, moved c ms ls)
pass_old K C [] ms c ls p l = absurd p
pass_old K C (n ∷ ns) ms c ls p l = record { names = ms; lets = ls; is = refl; rest = record { left = p; lets = l } }

-- ---- types

module _ (K : InBoth) (rs : List Rewriting) where
  lifetime : (l : Option Ident) (C : Left) (c : Cursor) (ms : List NodeNames) (ls : List Annotation) → Stands K (in_lifetime l (rewritten_lifetime rs l) C) c.names c.annotations ms ls
      → Goes K C (passed (lifetime_entry l c)) (passed (lifetime_entry (rewritten_lifetime rs l) (moved c ms ls)))
  lifetime None C c ms ls p = record { names = ms; lets = ls; is = refl; rest = p }
  lifetime (Some x) C c ms ls p = by (becomes rs x.name) p
    where
      by : (o : Option (List ℕ)) → Stands K (in_lifetime (Some x) (lifetime_with x o) C) c.names c.annotations ms ls
          → Goes K C (passed (lifetime_entry (Some x) c)) (passed (lifetime_entry (lifetime_with x o) (moved c ms ls)))
      by None q = pass_old K C c.names ms c ls q.left q.lets
      by (Some n) q = pass_both K C c.names ms c ls q.left q.lets

  written_same : (ls : Option (List (Option Ident))) → lifetimes_written (rewritten_list rs ls) ≡ lifetimes_written ls
  written_same None = refl
  written_same (Some ls) = ap (λ n. Some n) (length-map ls (rewritten_lifetime rs))

  mutual
    pub type_same : (t : TypeTree) (C : Left) (c : Cursor) (ms : List NodeNames) (ls : List Annotation) → Stands K (in_type rs t C) c.names c.annotations ms ls
        → Goes K C (of_type t c) (of_type (rewritten_type rs t) (moved c ms ls))
    type_same (plain.kind_type s k) C c ms ls p = record { names = ms; lets = ls; is = refl; rest = p }
    type_same (plain.bool_type s) C c ms ls p = record { names = ms; lets = ls; is = refl; rest = p }
    type_same (plain.tuple_type s ts) C c ms ls p = let n = a_node s Site.Value c in given (named.a_tuple n.0) (types_same ts C n.1 ms ls p)
    type_same (plain.ref_type s l m t) C c ms ls p =
        let n = a_node s Site.Value c in
        next (λ u. and_then (of_type t) (λ t. give (named.a_reference n.0 m t))) (λ u. and_then (of_type (rewritten_type rs t)) (λ t. give (named.a_reference n.0 m t)))
        (lifetime l (in_type rs t C) n.1 ms ls p) (λ ks es q. given (named.a_reference n.0 m) (type_same t C (lifetime_entry l n.1).1 ks es q))
    type_same (plain.named_type s x os) C c ms ls p =
        let n = a_node s Site.Value c in
        let r = take_item K (λ i. named.an_item n.0 i (lifetimes_written os)) C c.names ms n.1 ls p.left p.lets in
        record {
          names = r.names;
          lets = r.lets;
          is = ap (λ w. (named.an_item n.0 (first (an_entry (moved n.1 ms ls)).0.0) w, (an_entry (moved n.1 ms ls)).1)) (written_same os) ∙ r.is;
          rest = r.rest;
        }

    pub types_same : (ts : TypeTrees) (C : Left) (c : Cursor) (ms : List NodeNames) (ls : List Annotation) → Stands K (in_types rs ts C) c.names c.annotations ms ls
        → Goes K C (of_types ts c) (of_types (rewritten_types rs ts) (moved c ms ls))
    types_same plain.no_type C c ms ls p = record { names = ms; lets = ls; is = refl; rest = p }
    types_same (plain.type_and t ts) C c ms ls p =
        next (λ t. and_then (of_types ts) (λ ts. give (named.written_and t ts))) (λ t. and_then (of_types (rewritten_types rs ts)) (λ ts. give (named.written_and t ts)))
        (type_same t (in_types rs ts C) c ms ls p) (λ ks es q. given (named.written_and (of_type t c).0) (types_same ts C (of_type t c).1 ks es q))

  pub optional_type_same : (t : Option TypeTree) (C : Left) (c : Cursor) (ms : List NodeNames) (ls : List Annotation) → Stands K (in_optional_type rs t C) c.names c.annotations ms ls
      → Goes K C (of_optional_type t c) (of_optional_type (rewritten_optional rs t) (moved c ms ls))
  optional_type_same None C c ms ls p = record { names = ms; lets = ls; is = refl; rest = p }
  optional_type_same (Some t) C c ms ls p = given (λ t. Some t) (type_same t C c ms ls p)

-- ---- patterns

mutual
  pub pattern_same : (K : InBoth) (q : PatternTree) (C : Left) (c : Cursor) (ms : List NodeNames) (ls : List Annotation) → Stands K (in_pattern q C) c.names c.annotations ms ls → Goes K C (of_pattern q c) (of_pattern q (moved c ms ls))
  pattern_same K (plain.wild s) C c ms ls p = record { names = ms; lets = ls; is = refl; rest = p }
  pattern_same K (plain.bind s x m) C c ms ls p =
      let n = a_node s Site.Value c in
      let k = λ (ns : List ℕ × Bool). and_then (declare (record { mutable = m; stage = Stage.Given })) (λ x. give (named.bind n.0 x m)) in
      next k k (entry K C n.1 ms ls p) (λ ks es q. record { names = ks; lets = es; is = refl; rest = q })
  pattern_same K (plain.int_pattern s g v k) C c ms ls p = record { names = ms; lets = ls; is = refl; rest = p }
  pattern_same K (plain.bool_pattern s b) C c ms ls p = record { names = ms; lets = ls; is = refl; rest = p }
  pattern_same K (plain.tuple_pattern s ps) C c ms ls p = let n = a_node s Site.Value c in given (named.tuple_pattern n.0) (patterns_same K ps C n.1 ms ls p)
  pattern_same K (plain.variant_pattern s a v ps) C c ms ls p =
      let n = a_node s Site.Value c in
      let k = λ (ns : List ℕ × Bool). and_then (of_patterns ps) (λ ps. give (named.variant_pattern n.0 (first ns.0) (second ns.0) ps)) in
      next k k (entry K (in_patterns ps C) n.1 ms ls p)
      (λ ks es q. given (named.variant_pattern n.0 (first (an_entry n.1).0.0) (second (an_entry n.1).0.0)) (patterns_same K ps C (an_entry n.1).1 ks es q))
  pattern_same K (plain.make_pattern s x fs) C c ms ls p =
      let n = a_node s Site.Value c in
      let k = λ (ns : List ℕ × Bool). and_then (of_field_patterns fs) (λ fs. give (named.struct_pattern n.0 (first ns.0) fs)) in
      next k k (entry K (in_field_patterns fs C) n.1 ms ls p)
      (λ ks es q. given (named.struct_pattern n.0 (first (an_entry n.1).0.0)) (field_patterns_same K fs C (an_entry n.1).1 ks es q))

  pub patterns_same : (K : InBoth) (ps : PatternTrees) (C : Left) (c : Cursor) (ms : List NodeNames) (ls : List Annotation) → Stands K (in_patterns ps C) c.names c.annotations ms ls → Goes K C (of_patterns ps c) (of_patterns ps (moved c ms ls))
  patterns_same K plain.no_pattern C c ms ls p = record { names = ms; lets = ls; is = refl; rest = p }
  patterns_same K (plain.pattern_and x ps) C c ms ls p =
      let k = λ (x : named.Pattern). and_then (of_patterns ps) (λ ps. give (named.pattern_and x ps)) in
      next k k (pattern_same K x (in_patterns ps C) c ms ls p) (λ ks es q. given (named.pattern_and (of_pattern x c).0) (patterns_same K ps C (of_pattern x c).1 ks es q))

  pub field_patterns_same : (K : InBoth) (fs : FieldPatterns) (C : Left) (c : Cursor) (ms : List NodeNames) (ls : List Annotation) → Stands K (in_field_patterns fs C) c.names c.annotations ms ls
      → Goes K C (of_field_patterns fs c) (of_field_patterns fs (moved c ms ls))
  field_patterns_same K plain.no_field_pattern C c ms ls p = record { names = ms; lets = ls; is = refl; rest = p }
  field_patterns_same K (plain.field_pattern_and x y fs) C c ms ls p =
      let k = λ (y : named.Pattern). and_then (of_field_patterns fs) (λ fs. give (named.field_pattern_and x.name y fs)) in
      next k k (pattern_same K y (in_field_patterns fs C) c ms ls p) (λ ks es q. given (named.field_pattern_and x.name (of_pattern y c).0) (field_patterns_same K fs C (of_pattern y c).1 ks es q))
