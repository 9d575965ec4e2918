-- Resolving and numbering go along one text: what resolving adds numbering takes, and both count the variables.
use Rattle.std.proofs.Common.{◌≡◌, ℕ, suc, ◌+◌, ◌≤◌, Bool, false, List, [], ◌∷◌, ◌++◌, length, Ok, Err, refl, sym, ap, ◌∙◌, subst, append_assoc, append-nil, length-append, add-one, arith}
use Rattle.rx_core.specs.declared.types.Span.{Span}
use Rattle.rx_core.specs.declared.types.Position.{Position}
use Rattle.rx_tree.specs.Positions.{NodeTree}
use Rattle.rx_resolve_names.specs.declared.resolved.ItemNames.{ItemNames}
use Rattle.rx_resolve_names.specs.declared.resolved.NodeNames.{NodeNames}
use Rattle.rx_resolve_names.specs.Steps.{Outcome, and_then, Inside, with_loop, with_variable, entry, with_names, numbered, names}
use Rattle.rx_typed.specs.declared.nodes.Node.{Node}
use Rattle.rx_typed.specs.declared.nodes.Site.{Site}
use Rattle.rx_typed.specs.declared.nodes.Declaration.{Declaration}
use Rattle.rx_typed.specs.Naming as numbering
use Rattle.rx_typed.specs.Naming.{Cursor, Numbering, give, a_node, an_entry, taken, declare}
use Rattle.rx_hoist_naming.specs.DeclaredNames.{names_bound, name_bound}

-- ---- outcomes

pub named_ok : {A B : Type 0} (m : Outcome A) (f : A → Outcome B) (b : B) → and_then m f ≡ Ok b → (a : A) × (m ≡ Ok a) × (f a ≡ Ok b)
named_ok (Ok a) f b e = (a, refl, e)
named_ok (Err x) f b e = absurd (cc)

pub the_same : {A : Type 0} (a b : A) → ◌≡◌ {A = Outcome A} (Ok a) (Ok b) → a ≡ b
the_same a b e = cc

-- ---- how many variables nodes bind

abbrev pub binds : List NodeTree → ℕ
binds ns = length (names_bound ns)

pub bound_append : (a b : List NodeTree) → names_bound (a ++ b) ≡ names_bound a ++ names_bound b
bound_append [] b = refl
bound_append (n ∷ a) b = ap (λ (l : List (List ℕ)). name_bound n ++ l) (bound_append a b) ∙ sym (append_assoc (name_bound n) (names_bound a) (names_bound b))

pub binds_append : (a b : List NodeTree) → binds (a ++ b) ≡ binds a + binds b
binds_append a b = ap length (bound_append a b) ∙ length-append (names_bound a) (names_bound b)

-- ---- a numbering that takes these entries from the first tables to the second, and of what it gives

-- as many variables were declared as these tables have
abbrev pub Counts : Cursor → ItemNames → Type 0
Counts c t = (c.declared ≡ length t.vars) × (length c.variables ≡ length t.vars)

pub record Kept {A : Type 0} (S : A → Type 0) (t : ItemNames) (rest : List NodeNames) (r : A × Cursor) : Type 0 where
  pub fits : S r.0
  pub declared : Counts r.1 t
  pub left : r.1.names ≡ rest

pub record Takes {A : Type 0} (S : A → Type 0) (t t' : ItemNames) (es : List NodeNames) (m : Numbering A) : Type 0 where
  pub holds : (c : Cursor) (rest : List NodeNames) → Counts c t → c.names ≡ es ++ rest → Kept S t' rest (m c)

pub takes_then : {A B : Type 0} {S : A → Type 0} {T : B → Type 0} {t t1 t2 : ItemNames} {es fs : List NodeNames} {m : Numbering A} {k : A → Numbering B}
    → Takes S t t1 es m → ((a : A) → S a → Takes T t1 t2 fs (k a)) → Takes T t t2 (es ++ fs) (numbering.and_then m k)
takes_then {es = es} {fs = fs} {m = m} N K = record {
  holds = λ c rest d e.
      let x = N.holds c (fs ++ rest) d (e ∙ append_assoc es fs rest) in
      (K (m c).0 x.fits).holds (m c).1 rest x.declared x.left;
}

-- what follows takes no entry
pub takes_last : {A B : Type 0} {S : A → Type 0} {T : B → Type 0} {t t1 : ItemNames} {es : List NodeNames} {m : Numbering A} {k : A → Numbering B}
    → Takes S t t1 es m → ((a : A) → S a → Takes T t1 t1 [] (k a)) → Takes T t t1 es (numbering.and_then m k)
takes_last {m = m} N K = record {
  holds = λ c rest d e.
      let x = N.holds c rest d e in
      (K (m c).0 x.fits).holds (m c).1 rest x.declared x.left;
}

pub takes_give : {A : Type 0} {S : A → Type 0} {t : ItemNames} (a : A) → S a → Takes S t t [] (give a)
takes_give a s = record { holds = λ c rest d e. record { fits = s; declared = d; left = e } }

pub takes_map : {A B : Type 0} {S : A → Type 0} {T : B → Type 0} {t t1 : ItemNames} {es : List NodeNames} {m : Numbering A} (h : A → B)
    → Takes S t t1 es m → ((a : A) → S a → T (h a)) → Takes T t t1 es (numbering.and_then m (λ a. give (h a)))
takes_map {m = m} h N K = record {
  holds = λ c rest d e. let x = N.holds c rest d e in record { fits = K (m c).0 x.fits; declared = x.declared; left = x.left };
}

-- a node
pub takes_node : {B : Type 0} {T : B → Type 0} {t t1 : ItemNames} {es : List NodeNames} {k : Node → Numbering B} (s : Span) (i : Site)
    → ((n : Node) → n.site ≡ i → Takes T t t1 es (k n)) → Takes T t t1 es (numbering.and_then (a_node s i) k)
takes_node s i K = record { holds = λ c rest d e. (K (a_node s i c).0 refl).holds (a_node s i c).1 rest d e }

-- a node alone
pub takes_made : {B : Type 0} {T : B → Type 0} {t : ItemNames} (s : Span) (i : Site) (h : Node → B)
    → ((n : Node) → n.site ≡ i → T (h n)) → Takes T t t [] (numbering.and_then (a_node s i) (λ n. give (h n)))
takes_made s i h K = record { holds = λ c rest d e. record { fits = K (a_node s i c).0 refl; declared = d; left = e } }

-- ---- steps that touch no names

-- it declares none
abbrev pub Still : Cursor → Cursor → Type 0
Still c c' = (c'.declared ≡ c.declared) × (length c'.variables ≡ length c.variables)

pub still_counts : (c c' : Cursor) (t : ItemNames) → Still c c' → Counts c t → Counts c' t
still_counts c c' t s d = (s.0 ∙ d.0, s.1 ∙ d.1)

pub record Quiet {A : Type 0} (S : A → Type 0) (m : Numbering A) : Type 0 where
  pub fits : (c : Cursor) → S (m c).0
  pub names : (c : Cursor) → (m c).1.names ≡ c.names
  pub declared : (c : Cursor) → Still c (m c).1

pub takes_quiet : {A B : Type 0} {S : A → Type 0} {T : B → Type 0} {t t1 : ItemNames} {es : List NodeNames} {m : Numbering A} {k : A → Numbering B}
    → Quiet S m → ((a : A) → S a → Takes T t t1 es (k a)) → Takes T t t1 es (numbering.and_then m k)
takes_quiet {t = t} {m = m} q K = record { holds = λ c rest d e. (K (m c).0 (q.fits c)).holds (m c).1 rest (still_counts c (m c).1 t (q.declared c) d) (q.names c ∙ e) }

-- ---- entries and variables

taken_first : (x : NodeNames) (rest : List NodeNames) (c : Cursor) → c.names ≡ x ∷ rest → (an_entry c).0 ≡ (x.numbers, x.hidden)
taken_first x rest c e = ap (λ (l : List NodeNames). (taken l c).0) e

taken_names : (x : NodeNames) (rest : List NodeNames) (c : Cursor) → c.names ≡ x ∷ rest → (an_entry c).1.names ≡ rest
taken_names x rest c e = ap (λ (l : List NodeNames). (taken l c).1.names) e

taken_declared : (x : NodeNames) (rest : List NodeNames) (c : Cursor) → c.names ≡ x ∷ rest → Still c (an_entry c).1
taken_declared x rest c e = (ap (λ (l : List NodeNames). (taken l c).1.declared) e, ap (λ (l : List NodeNames). length (taken l c).1.variables) e)

abbrev pub IsEntry : List ℕ → Bool → (List ℕ × Bool) → Type 0
IsEntry ns h a = a ≡ (ns, h)

pub takes_entry : (x : NodeNames) {t : ItemNames} → Takes (IsEntry x.numbers x.hidden) t (with_names x t) (x ∷ []) an_entry
takes_entry x {t = t} = record {
  holds = λ c rest d e. record { fits = taken_first x rest c e; declared = still_counts c (an_entry c).1 t (taken_declared x rest c e) d; left = taken_names x rest c e };
}

-- what holds of the entry that was added holds of the one that is taken
pub at_entry : (P : (List ℕ × Bool) → Type 0) (ns : List ℕ) (h : Bool) (a : List ℕ × Bool) → IsEntry ns h a → P (ns, h) → P a
at_entry P ns h a e p = subst P (sym e) p

pub one_more : {A : Type 0} (xs : List A) (x : A) → length (xs ++ x ∷ []) ≡ suc (length xs)
one_more xs x = length-append xs (x ∷ []) ∙ add-one (length xs)

pub takes_declare : (t : ItemNames) (s : Span) (d : Declaration) (V : ℕ → Type 0) → V (length t.vars) → Takes V t (with_variable s t) [] (declare d)
takes_declare t s d V v = record {
  holds = λ c rest q e. record { fits = subst V (sym q.0) v; declared = (ap suc q.0 ∙ sym (one_more t.vars s), one_more c.variables d ∙ ap suc q.1 ∙ sym (one_more t.vars s)); left = e };
}

-- a variable that is counted by the second tables
pub takes_new : (t t' : ItemNames) (d : Declaration) (V : ℕ → Type 0) → length t'.vars ≡ suc (length t.vars) → V (length t.vars) → Takes V t t' [] (declare d)
takes_new t t' d V m v = record {
  holds = λ c rest q e. record { fits = subst V (sym q.0) v; declared = (ap suc q.0 ∙ sym m, one_more c.variables d ∙ ap suc q.1 ∙ sym m); left = e };
}

-- ---- parts: what resolving adds from the first tables to the second, so many variables, and how numbering takes it where there are at most N variables

pub record Part (N : ℕ) (t t' : ItemNames) (k : ℕ) (K : List NodeNames → Type 0) : Type 0 where
  pub added : List NodeNames
  pub grown : t'.names ≡ t.names ++ added
  pub count : length t'.vars ≡ length t.vars + k
  pub numbers : length t'.vars ≤ N → K added

pub in_turn : {N : ℕ} {t t1 t2 : ItemNames} {k l n : ℕ} {J K L : List NodeNames → Type 0} (a : Part N t t1 k J) (b : Part N t1 t2 l K) → n ≡ k + l
    → ((es fs : List NodeNames) → J es → K fs → L (es ++ fs)) → Part N t t2 n L
in_turn {N} {t} {t1} {t2} {k} {l} {n} a b e h = let p = a.count in let q = b.count in record {
  added = a.added ++ b.added;
  grown = b.grown ∙ ap (λ (x : List NodeNames). x ++ b.added) a.grown ∙ append_assoc t.names a.added b.added;
  count = omega (arith, p, q, e);
  numbers = λ most. let m : length t1.vars ≤ N = omega (arith, most, q) in h a.added b.added (a.numbers m) (b.numbers most);
}

pub from_zero : (n : ℕ) → n ≡ 0 + n
from_zero n = omega arith

pub restated : {N : ℕ} {t t1 : ItemNames} {k n : ℕ} {J K : List NodeNames → Type 0} (a : Part N t t1 k J) → n ≡ k → ((es : List NodeNames) → J es → K es) → Part N t t1 n K
restated a e h = record { added = a.added; grown = a.grown; count = let p = a.count in omega (arith, p, e); numbers = λ most. h a.added (a.numbers most) }

-- nothing happens to the tables
pub unchanged : (N : ℕ) (t t' : ItemNames) (K : ItemNames → List NodeNames → Type 0) → ◌≡◌ {A = Outcome ItemNames} (Ok t) (Ok t') → K t [] → Part N t t' 0 (K t')
unchanged N t t' K e k = subst (λ (v : ItemNames). Part N t v 0 (K v)) (the_same t t' e)
    (record { added = []; grown = sym (append-nil t.names); count = omega arith; numbers = λ _. k })

-- an entry
pub entry_part : (N : ℕ) (I : Inside) (at : List ℕ) (t t' : ItemNames) (n : ℕ) (ns : List ℕ) (r : Outcome (List ℕ)) → r ≡ Ok (n ∷ ns) → names I at r t ≡ Ok t'
    → Part N t t' 0 (λ es. Takes (IsEntry (n ∷ ns) false) t t' es an_entry)
entry_part N I at t t' n ns r is e =
    let x = entry I at (n ∷ ns) in
    let same : with_names x t ≡ t' = the_same _ _ (sym (ap (λ (o : Outcome (List ℕ)). and_then o (λ ns. numbered I at ns t)) is) ∙ e) in
    subst (λ (v : ItemNames). Part N t v 0 (λ es. Takes (IsEntry (n ∷ ns) false) t v es an_entry)) same
    (record { added = x ∷ []; grown = refl; count = omega arith; numbers = λ _. takes_entry x })

pub in_turn3 : {N : ℕ} {t t1 t2 t3 : ItemNames} {k l m n : ℕ} {J K L P : List NodeNames → Type 0} (a : Part N t t1 k J) (b : Part N t1 t2 l K) (d : Part N t2 t3 m L) → n ≡ k + (l + m)
    → ((es fs gs : List NodeNames) → J es → K fs → L gs → P (es ++ (fs ++ gs))) → Part N t t3 n P
in_turn3 {N} {t} {t1} {t2} {t3} {k} {l} {m} {n} a b d e h = let p = a.count in let q = b.count in let r = d.count in record {
  added = a.added ++ (b.added ++ d.added);
  grown = d.grown ∙ ap (λ (x : List NodeNames). x ++ d.added) (b.grown ∙ ap (λ (x : List NodeNames). x ++ b.added) a.grown)
      ∙ append_assoc (t.names ++ a.added) b.added d.added ∙ append_assoc t.names a.added (b.added ++ d.added);
  count = omega (arith, p, q, r, e);
  numbers = λ most. let y : length t2.vars ≤ N = omega (arith, most, r) in let x : length t1.vars ≤ N = omega (arith, y, q) in
      h a.added b.added d.added (a.numbers x) (b.numbers y) (d.numbers most);
}

pub in_turn4 : {N : ℕ} {t t1 t2 t3 t4 : ItemNames} {k l m j n : ℕ} {J K L O P : List NodeNames → Type 0} (a : Part N t t1 k J) (b : Part N t1 t2 l K) (d : Part N t2 t3 m L) (f : Part N t3 t4 j O) → n ≡ k + (l + (m + j))
    → ((es fs gs hs : List NodeNames) → J es → K fs → L gs → O hs → P (es ++ (fs ++ (gs ++ hs)))) → Part N t t4 n P
in_turn4 {N} {t} {t1} {t2} {t3} {t4} {k} {l} {m} {j} {n} a b d f e h = let p = a.count in let q = b.count in let r = d.count in let s = f.count in record {
  added = a.added ++ (b.added ++ (d.added ++ f.added));
  grown = f.grown ∙ ap (λ (x : List NodeNames). x ++ f.added) (d.grown ∙ ap (λ (x : List NodeNames). x ++ d.added) (b.grown ∙ ap (λ (x : List NodeNames). x ++ b.added) a.grown))
      ∙ append_assoc ((t.names ++ a.added) ++ b.added) d.added f.added ∙ append_assoc (t.names ++ a.added) b.added (d.added ++ f.added) ∙ append_assoc t.names a.added (b.added ++ (d.added ++ f.added));
  count = omega (arith, p, q, r, s, e);
  numbers = λ most. let z : length t3.vars ≤ N = omega (arith, most, s) in let y : length t2.vars ≤ N = omega (arith, z, r) in let x : length t1.vars ≤ N = omega (arith, y, q) in
      h a.added b.added d.added f.added (a.numbers x) (b.numbers y) (d.numbers z) (f.numbers most);
}

-- a new loop round a part
pub in_new_loop : {N : ℕ} {t t1 : ItemNames} {k : ℕ} {K L : List NodeNames → Type 0} (p : Position) → Part N (with_loop p t) t1 k K → ((es : List NodeNames) → K es → L es) → Part N t t1 k L
in_new_loop p a h = record { added = a.added; grown = a.grown; count = a.count; numbers = λ most. h a.added (a.numbers most) }

pub takes_in_loop : {A : Type 0} {S : A → Type 0} {t t1 : ItemNames} {es : List NodeNames} {m : Numbering A} (p : Position) → Takes S (with_loop p t) t1 es m → Takes S t t1 es m
takes_in_loop p x = record { holds = x.holds }
