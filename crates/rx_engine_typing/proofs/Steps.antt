-- Resolving and numbering go along one text: what resolving adds numbering takes, and both count variables and loops.
use Rattle.std.proofs.Common.{◌≡◌, ℕ, suc, ◌≤◌, Bool, false, List, [], ◌∷◌, ◌++◌, length, Ok, Err, refl, sym, ap, ◌∙◌, subst, append_assoc, append-nil, length-append, add-one, arith}
use Rattle.rx_core.specs.declared.types.Span.{Span}
use Rattle.rx_core.specs.declared.types.Position.{Position}
use Rattle.rx_resolve_names.specs.declared.resolved.ItemNames.{ItemNames}
use Rattle.rx_resolve_names.specs.declared.resolved.NodeNames.{NodeNames}
use Rattle.rx_resolve_names.specs.Steps.{Outcome, and_then, Inside, with_loop, entry, with_names, numbered, names}
use Rattle.rx_typed.specs.declared.nodes.Node.{Node}
use Rattle.rx_typed.specs.declared.nodes.Site.{Site}
use Rattle.rx_typed.specs.declared.nodes.Declaration.{Declaration}
use Rattle.rx_typed.specs.Naming as numbering
use Rattle.rx_typed.specs.Naming.{Cursor, Numbering, give, a_node, an_entry, taken, declare}

-- ---- outcomes

pub named_ok : {A B : Type 0} (m : Outcome A) (f : A → Outcome B) (b : B) → and_then m f ≡ Ok b → (a : A) × (m ≡ Ok a) × (f a ≡ Ok b)
named_ok (Ok a) f b e = (a, refl, e)
named_ok (Err x) f b e = absurd (cc)

pub the_same : {A : Type 0} (a b : A) → ◌≡◌ {A = Outcome A} (Ok a) (Ok b) → a ≡ b
the_same a b e = cc

pub one_more : {A : Type 0} (xs : List A) (x : A) → length (xs ++ x ∷ []) ≡ suc (length xs)
one_more xs x = length-append xs (x ∷ []) ∙ add-one (length xs)

-- ---- a numbering that takes these entries from the first tables to the second, and of what it gives

abbrev pub Counts : Cursor → ItemNames → Type 0
Counts c t = (c.declared ≡ length t.vars) × (length c.loops ≡ length t.loops)

pub record Given {A : Type 0} (S : A → Type 0) (t : ItemNames) (rest : List NodeNames) (r : A × Cursor) : Type 0 where
  pub fits : S r.0
  pub counts : Counts r.1 t
  pub left : r.1.names ≡ rest

pub record Takes {A : Type 0} (S : A → Type 0) (t t' : ItemNames) (es : List NodeNames) (m : Numbering A) : Type 0 where
  pub holds : (c : Cursor) (rest : List NodeNames) → Counts c t → c.names ≡ es ++ rest → Given S t' rest (m c)

pub takes_then : {A B : Type 0} {S : A → Type 0} {T : B → Type 0} {t t1 t2 : ItemNames} {es fs : List NodeNames} {m : Numbering A} {k : A → Numbering B}
    → Takes S t t1 es m → ((a : A) → S a → Takes T t1 t2 fs (k a)) → Takes T t t2 (es ++ fs) (numbering.and_then m k)
takes_then {es = es} {fs = fs} {m = m} N K = record {
  holds = λ c rest d e.
      let x = N.holds c (fs ++ rest) d (e ∙ append_assoc es fs rest) in
      (K (m c).0 x.fits).holds (m c).1 rest x.counts x.left;
}

-- what follows takes no entry
pub takes_last : {A B : Type 0} {S : A → Type 0} {T : B → Type 0} {t t1 : ItemNames} {es : List NodeNames} {m : Numbering A} {k : A → Numbering B}
    → Takes S t t1 es m → ((a : A) → S a → Takes T t1 t1 [] (k a)) → Takes T t t1 es (numbering.and_then m k)
takes_last {m = m} N K = record {
  holds = λ c rest d e.
      let x = N.holds c rest d e in
      (K (m c).0 x.fits).holds (m c).1 rest x.counts x.left;
}

pub takes_give : {A : Type 0} {S : A → Type 0} {t : ItemNames} (a : A) → S a → Takes S t t [] (give a)
takes_give a s = record { holds = λ c rest d e. record { fits = s; counts = d; left = e } }

pub takes_map : {A B : Type 0} {S : A → Type 0} {T : B → Type 0} {t t1 : ItemNames} {es : List NodeNames} {m : Numbering A} (h : A → B)
    → Takes S t t1 es m → ((a : A) → S a → T (h a)) → Takes T t t1 es (numbering.and_then m (λ a. give (h a)))
takes_map {m = m} h N K = record {
  holds = λ c rest d e. let x = N.holds c rest d e in record { fits = K (m c).0 x.fits; counts = x.counts; left = x.left };
}

pub takes_weaker : {A : Type 0} {S T : A → Type 0} {t t1 : ItemNames} {es : List NodeNames} {m : Numbering A} → Takes S t t1 es m → ((a : A) → S a → T a) → Takes T t t1 es m
takes_weaker {m = m} N K = record { holds = λ c rest d e. let x = N.holds c rest d e in record { fits = K (m c).0 x.fits; counts = x.counts; left = x.left } }

-- a node
pub takes_node : {B : Type 0} {T : B → Type 0} {t t1 : ItemNames} {es : List NodeNames} {k : Node → Numbering B} (s : Span) (i : Site)
    → ((n : Node) → n.site ≡ i → Takes T t t1 es (k n)) → Takes T t t1 es (numbering.and_then (a_node s i) k)
takes_node s i K = record { holds = λ c rest d e. (K (a_node s i c).0 refl).holds (a_node s i c).1 rest d e }

-- a node alone
pub takes_made : {B : Type 0} {T : B → Type 0} {t : ItemNames} (s : Span) (i : Site) (h : Node → B)
    → ((n : Node) → n.site ≡ i → T (h n)) → Takes T t t [] (numbering.and_then (a_node s i) (λ n. give (h n)))
takes_made s i h K = record { holds = λ c rest d e. record { fits = K (a_node s i c).0 refl; counts = d; left = e } }

-- ---- steps that touch no names

abbrev pub Still : Cursor → Cursor → Type 0
Still c c' = (c'.declared ≡ c.declared) × (length c'.loops ≡ length c.loops)

pub record Quiet {A : Type 0} (S : A → Type 0) (m : Numbering A) : Type 0 where
  pub fits : (c : Cursor) → S (m c).0
  pub names : (c : Cursor) → (m c).1.names ≡ c.names
  pub still : (c : Cursor) → Still c (m c).1

still_counts : (c c' : Cursor) (t : ItemNames) → Still c c' → Counts c t → Counts c' t
still_counts c c' t s d = (s.0 ∙ d.0, s.1 ∙ d.1)

pub takes_quiet : {A B : Type 0} {S : A → Type 0} {T : B → Type 0} {t t1 : ItemNames} {es : List NodeNames} {m : Numbering A} {k : A → Numbering B}
    → Quiet S m → ((a : A) → S a → Takes T t t1 es (k a)) → Takes T t t1 es (numbering.and_then m k)
takes_quiet {t = t} {m = m} q K = record { holds = λ c rest d e. (K (m c).0 (q.fits c)).holds (m c).1 rest (still_counts c (m c).1 t (q.still c) d) (q.names c ∙ e) }

-- ---- entries, variables and loops

taken_first : (x : NodeNames) (rest : List NodeNames) (c : Cursor) → c.names ≡ x ∷ rest → (an_entry c).0 ≡ (x.numbers, x.hidden)
taken_first x rest c e = ap (λ (l : List NodeNames). (taken l c).0) e

taken_names : (x : NodeNames) (rest : List NodeNames) (c : Cursor) → c.names ≡ x ∷ rest → (an_entry c).1.names ≡ rest
taken_names x rest c e = ap (λ (l : List NodeNames). (taken l c).1.names) e

taken_still : (x : NodeNames) (rest : List NodeNames) (c : Cursor) → c.names ≡ x ∷ rest → Still c (an_entry c).1
taken_still x rest c e = (ap (λ (l : List NodeNames). (taken l c).1.declared) e, ap (λ (l : List NodeNames). length (taken l c).1.loops) e)

abbrev pub IsEntry : List ℕ → Bool → (List ℕ × Bool) → Type 0
IsEntry ns h a = a ≡ (ns, h)

pub takes_entry : (x : NodeNames) {t : ItemNames} → Takes (IsEntry x.numbers x.hidden) t (with_names x t) (x ∷ []) an_entry
takes_entry x {t = t} = record {
  holds = λ c rest d e. record { fits = taken_first x rest c e; counts = still_counts c (an_entry c).1 t (taken_still x rest c e) d; left = taken_names x rest c e };
}

-- what holds of the entry that was added holds of the one that is taken
pub at_entry : (P : (List ℕ × Bool) → Type 0) (ns : List ℕ) (h : Bool) (a : List ℕ × Bool) → IsEntry ns h a → P (ns, h) → P a
at_entry P ns h a e p = subst P (sym e) p

-- a variable that the second tables count
pub takes_declare : (t t' : ItemNames) (d : Declaration) → length t'.vars ≡ suc (length t.vars) → length t'.loops ≡ length t.loops → Takes (λ (x : ℕ). x ≡ length t.vars) t t' [] (declare d)
takes_declare t t' d m n = record { holds = λ c rest q e. record { fits = q.0; counts = (ap suc q.0 ∙ sym m, q.1 ∙ sym n); left = e } }

pub takes_loop : (t : ItemNames) (p : Position) → Takes (λ (x : ℕ). x ≡ length t.loops) t (with_loop p t) [] numbering.a_loop
takes_loop t p = record { holds = λ c rest q e. record { fits = q.1; counts = (q.0, one_more c.loops false ∙ ap suc q.1 ∙ sym (one_more t.loops p)); left = e } }

-- ---- parts: what resolving adds from the first tables to the second, and how numbering takes it where variables and loops are few

abbrev pub Few : ItemNames → Type 0
Few t = (length t.vars ≤ 4294967296) × (length t.loops ≤ 4294967296)

pub record Grows (t t' : ItemNames) : Type 0 where
  pub vars : length t.vars ≤ length t'.vars
  pub loops : length t.loops ≤ length t'.loops

pub few_before : {t t' : ItemNames} → Grows t t' → Few t' → Few t
few_before g f = let a = g.vars in let b = g.loops in let c = f.0 in let d = f.1 in (omega (arith, a, c), omega (arith, b, d))

pub grows_not : (t : ItemNames) → Grows t t
grows_not t = record { vars = omega arith; loops = omega arith }

pub grows_on : {t t1 t2 : ItemNames} → Grows t t1 → Grows t1 t2 → Grows t t2
grows_on g h = let a = g.vars in let b = h.vars in let c = g.loops in let d = h.loops in record { vars = omega (arith, a, b); loops = omega (arith, c, d) }

pub record Part (t t' : ItemNames) (K : List NodeNames → Type 0) : Type 0 where
  pub added : List NodeNames
  pub grown : t'.names ≡ t.names ++ added
  pub grows : Grows t t'
  pub numbers : Few t' → K added

pub in_turn : {t t1 t2 : ItemNames} {J K L : List NodeNames → Type 0} (a : Part t t1 J) (b : Part t1 t2 K) → ((es fs : List NodeNames) → J es → K fs → L (es ++ fs)) → Part t t2 L
in_turn {t = t} a b h = record {
  added = a.added ++ b.added;
  grown = b.grown ∙ ap (λ (x : List NodeNames). x ++ b.added) a.grown ∙ append_assoc t.names a.added b.added;
  grows = grows_on a.grows b.grows;
  numbers = λ f. h a.added b.added (a.numbers (few_before b.grows f)) (b.numbers f);
}

pub in_turn3 : {t t1 t2 t3 : ItemNames} {J K L P : List NodeNames → Type 0} (a : Part t t1 J) (b : Part t1 t2 K) (d : Part t2 t3 L)
    → ((es fs gs : List NodeNames) → J es → K fs → L gs → P (es ++ (fs ++ gs))) → Part t t3 P
in_turn3 {t = t} a b d h = record {
  added = a.added ++ (b.added ++ d.added);
  grown = d.grown ∙ ap (λ (x : List NodeNames). x ++ d.added) (b.grown ∙ ap (λ (x : List NodeNames). x ++ b.added) a.grown)
      ∙ append_assoc (t.names ++ a.added) b.added d.added ∙ append_assoc t.names a.added (b.added ++ d.added);
  grows = grows_on a.grows (grows_on b.grows d.grows);
  numbers = λ f. let f2 = few_before d.grows f in h a.added b.added d.added (a.numbers (few_before b.grows f2)) (b.numbers f2) (d.numbers f);
}

pub in_turn4 : {t t1 t2 t3 t4 : ItemNames} {J K L O P : List NodeNames → Type 0} (a : Part t t1 J) (b : Part t1 t2 K) (d : Part t2 t3 L) (g : Part t3 t4 O)
    → ((es fs gs hs : List NodeNames) → J es → K fs → L gs → O hs → P (es ++ (fs ++ (gs ++ hs)))) → Part t t4 P
in_turn4 {t = t} a b d g h = record {
  added = a.added ++ (b.added ++ (d.added ++ g.added));
  grown = g.grown ∙ ap (λ (x : List NodeNames). x ++ g.added) (d.grown ∙ ap (λ (x : List NodeNames). x ++ d.added) (b.grown ∙ ap (λ (x : List NodeNames). x ++ b.added) a.grown))
      ∙ append_assoc ((t.names ++ a.added) ++ b.added) d.added g.added ∙ append_assoc (t.names ++ a.added) b.added (d.added ++ g.added) ∙ append_assoc t.names a.added (b.added ++ (d.added ++ g.added));
  grows = grows_on a.grows (grows_on b.grows (grows_on d.grows g.grows));
  numbers = λ f. let f3 = few_before g.grows f in let f2 = few_before d.grows f3 in h a.added b.added d.added g.added (a.numbers (few_before b.grows f2)) (b.numbers f2) (d.numbers f3) (g.numbers f);
}

pub restated : {t t1 : ItemNames} {J K : List NodeNames → Type 0} (a : Part t t1 J) → ((es : List NodeNames) → J es → K es) → Part t t1 K
restated a h = record { added = a.added; grown = a.grown; grows = a.grows; numbers = λ f. h a.added (a.numbers f) }

-- where few are known
pub few_restated : {t t1 : ItemNames} {J K : List NodeNames → Type 0} (a : Part t t1 J) → (Few t1 → (es : List NodeNames) → J es → K es) → Part t t1 K
few_restated a h = record { added = a.added; grown = a.grown; grows = a.grows; numbers = λ f. h f a.added (a.numbers f) }

-- nothing happens to the tables
pub unchanged : (t t' : ItemNames) (K : ItemNames → List NodeNames → Type 0) → ◌≡◌ {A = Outcome ItemNames} (Ok t) (Ok t') → K t [] → Part t t' (K t')
unchanged t t' K e k = subst (λ (v : ItemNames). Part t v (K v)) (the_same t t' e)
    (record { added = []; grown = sym (append-nil t.names); grows = grows_not t; numbers = λ _. k })

-- an entry
pub entry_part : (I : Inside) (at : List ℕ) (t t' : ItemNames) (n : ℕ) (ns : List ℕ) (r : Outcome (List ℕ)) → r ≡ Ok (n ∷ ns) → names I at r t ≡ Ok t'
    → Part t t' (λ es. Takes (IsEntry (n ∷ ns) false) t t' es an_entry)
entry_part I at t t' n ns r is e =
    let x = entry I at (n ∷ ns) in
    let same : with_names x t ≡ t' = the_same _ _ (sym (ap (λ (o : Outcome (List ℕ)). and_then o (λ ns. numbered I at ns t)) is) ∙ e) in
    subst (λ (v : ItemNames). Part t v (λ es. Takes (IsEntry (n ∷ ns) false) t v es an_entry)) same
    (record { added = x ∷ []; grown = refl; grows = record { vars = omega arith; loops = omega arith }; numbers = λ _. takes_entry x })

-- a new loop round a part
pub in_new_loop : {t t1 : ItemNames} {K L : List NodeNames → Type 0} (p : Position) → Part (with_loop p t) t1 K → ((es : List NodeNames) → K es → L es) → Part t t1 L
in_new_loop {t = t} p a h = let v = a.grows.vars in let l = a.grows.loops in let m = one_more t.loops p in
    record { added = a.added; grown = a.grown; grows = record { vars = v; loops = omega (arith, l, m) }; numbers = λ f. h a.added (a.numbers f) }
