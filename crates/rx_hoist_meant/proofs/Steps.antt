-- Resolving and numbering go along one text, as in rx_hoist_naming; here nodes and loops are counted too. What is shown of a part knows the
-- number of its first node, and of the node behind its last.
use Rattle.std.proofs.Common.{◌≡◌, ℕ, zero, suc, ◌+◌, ◌≤◌, Bool, true, false, List, [], ◌∷◌, ◌++◌, length, slice_set, Option, Some, None, Ok, refl, sym, ap, ◌∙◌, subst, append_assoc, append-nil, arith}
use Rattle.rx_core.specs.declared.types.Span.{Span}
use Rattle.rx_core.specs.declared.types.Position.{Position}
use Rattle.rx_tree.specs.Plain.{PatternTree, TypeTree}
use Rattle.rx_resolve_names.specs.declared.resolved.ItemNames.{ItemNames}
use Rattle.rx_resolve_names.specs.declared.resolved.NodeNames.{NodeNames}
use Rattle.rx_resolve_names.specs.Steps.{Outcome, with_loop}
use Rattle.rx_typed.specs.declared.nodes.Node.{Node}
use Rattle.rx_typed.specs.declared.nodes.Site.{Site}
use Rattle.rx_typed.specs.declared.nodes.Use.{Use}
use Rattle.rx_typed.specs.Named as named
use Rattle.rx_typed.specs.Naming as numbering
use Rattle.rx_typed.specs.Naming.{Cursor, Numbering, give, a_node, an_entry, taken}
use Rattle.rx_hoist_naming.proofs.Steps as old
use Rattle.rx_hoist_naming.proofs.Steps.{the_same}
use Rattle.rx_hoist_naming.proofs.Expressions as quiet

-- ---- a numbering that takes these entries from the first tables to the second

abbrev pub At : Cursor → ItemNames → Type 0
At c t = (c.declared ≡ length t.vars) × (length c.variables ≡ length t.vars) × (length c.loops ≡ length t.loops)

pub record Kept {A : Type 0} (S : ℕ → A → Type 0) (t : ItemNames) (rest : List NodeNames) (r : A × Cursor) : Type 0 where
  pub fits : S r.1.number r.0
  pub stands : At r.1 t
  pub left : r.1.names ≡ rest

-- from a node's number on; what it gives is told of the number of the node behind
pub record Takes {A : Type 0} (i : ℕ) (S : ℕ → A → Type 0) (t t' : ItemNames) (es : List NodeNames) (m : Numbering A) : Type 0 where
  pub holds : (c : Cursor) (rest : List NodeNames) → c.number ≡ i → At c t → c.names ≡ es ++ rest → Kept S t' rest (m c)

pub takes_then : {A B : Type 0} {i : ℕ} {S : ℕ → A → Type 0} {T : ℕ → B → Type 0} {t t1 t2 : ItemNames} {es fs : List NodeNames} {m : Numbering A} {k : A → Numbering B}
    → Takes i S t t1 es m → ((j : ℕ) (a : A) → S j a → Takes j T t1 t2 fs (k a)) → Takes i T t t2 (es ++ fs) (numbering.and_then m k)
takes_then {es = es} {fs = fs} {m = m} N K = record {
  holds = λ c rest q d e.
      let x = N.holds c (fs ++ rest) q d (e ∙ append_assoc es fs rest) in
      (K (m c).1.number (m c).0 x.fits).holds (m c).1 rest refl x.stands x.left;
}

-- what follows takes no entry
pub takes_last : {A B : Type 0} {i : ℕ} {S : ℕ → A → Type 0} {T : ℕ → B → Type 0} {t t1 : ItemNames} {es : List NodeNames} {m : Numbering A} {k : A → Numbering B}
    → Takes i S t t1 es m → ((j : ℕ) (a : A) → S j a → Takes j T t1 t1 [] (k a)) → Takes i T t t1 es (numbering.and_then m k)
takes_last {m = m} N K = record {
  holds = λ c rest q d e.
      let x = N.holds c rest q d e in
      (K (m c).1.number (m c).0 x.fits).holds (m c).1 rest refl x.stands x.left;
}

pub takes_give : {A : Type 0} {i : ℕ} {S : ℕ → A → Type 0} {t : ItemNames} (a : A) → S i a → Takes i S t t [] (give a)
takes_give {S = S} a s = record { holds = λ c rest q d e. record { fits = subst (λ (j : ℕ). S j a) (sym q) s; stands = d; left = e } }

pub takes_map : {A B : Type 0} {i : ℕ} {S : ℕ → A → Type 0} {T : ℕ → B → Type 0} {t t1 : ItemNames} {es : List NodeNames} {m : Numbering A} (h : A → B)
    → Takes i S t t1 es m → ((j : ℕ) (a : A) → S j a → T j (h a)) → Takes i T t t1 es (numbering.and_then m (λ a. give (h a)))
takes_map {m = m} h N K = record {
  holds = λ c rest q d e. let x = N.holds c rest q d e in record { fits = K (m c).1.number (m c).0 x.fits; stands = x.stands; left = x.left };
}

-- a node
pub takes_node : {B : Type 0} {i : ℕ} {T : ℕ → B → Type 0} {t t1 : ItemNames} {es : List NodeNames} {k : Node → Numbering B} (s : Span) (p : Site)
    → ((n : Node) → n.number ≡ i → Takes (suc i) T t t1 es (k n)) → Takes i T t t1 es (numbering.and_then (a_node s p) k)
takes_node s p K = record { holds = λ c rest q d e. (K (a_node s p c).0 q).holds (a_node s p c).1 rest (ap suc q) d e }

-- a node alone
pub takes_made : {B : Type 0} {i : ℕ} {T : ℕ → B → Type 0} {t : ItemNames} (s : Span) (p : Site) (h : Node → B)
    → ((n : Node) → n.number ≡ i → T (suc i) (h n)) → Takes i T t t [] (numbering.and_then (a_node s p) (λ n. give (h n)))
takes_made {T = T} s p h K = record { holds = λ c rest q d e. record { fits = subst (λ (j : ℕ). T j (h (a_node s p c).0)) (sym (ap suc q)) (K (a_node s p c).0 q); stands = d; left = e } }

-- ---- steps that touch no names

abbrev pub Still : Cursor → Cursor → Type 0
Still c c' = (c'.declared ≡ c.declared) × (length c'.variables ≡ length c.variables) × (length c'.loops ≡ length c.loops) × (c'.number ≡ c.number)

still_at : (c c' : Cursor) (t : ItemNames) → Still c c' → At c t → At c' t
still_at c c' t s d = (s.0 ∙ d.0, s.1 ∙ d.1, s.2 ∙ d.2)

pub record Quiet {A : Type 0} (S : A → Type 0) (m : Numbering A) : Type 0 where
  pub fits : (c : Cursor) → S (m c).0
  pub names : (c : Cursor) → (m c).1.names ≡ c.names
  pub still : (c : Cursor) → Still c (m c).1

pub takes_quiet : {A B : Type 0} {i : ℕ} {S : A → Type 0} {T : ℕ → B → Type 0} {t t1 : ItemNames} {es : List NodeNames} {m : Numbering A} {k : A → Numbering B}
    → Quiet S m → ((a : A) → S a → Takes i T t t1 es (k a)) → Takes i T t t1 es (numbering.and_then m k)
takes_quiet {t = t} {m = m} q K = record {
  holds = λ c rest r d e. (K (m c).0 (q.fits c)).holds (m c).1 rest ((q.still c).3 ∙ r) (still_at c (m c).1 t (q.still c) d) (q.names c ∙ e);
}

-- one of rx_hoist_naming, where it keeps loops and numbers
also_still : {A : Type 0} {S : A → Type 0} {m : Numbering A} → old.Quiet S m → ((c : Cursor) → length (m c).1.loops ≡ length c.loops) → ((c : Cursor) → (m c).1.number ≡ c.number) → Quiet S m
also_still q l n = record { fits = q.fits; names = q.names; still = λ c. ((q.declared c).0, (q.declared c).1, l c, n c) }

pub quiet_counted : Quiet quiet.Any numbering.counted
quiet_counted = also_still quiet.quiet_counted (λ c. refl) (λ c. refl)

pub quiet_between : (i j : ℕ) → Quiet quiet.Any (numbering.known_between i j)
quiet_between i j = also_still (quiet.quiet_between i j) (λ c. refl) (λ c. refl)

pub quiet_annotates : (p : PatternTree) (y : Option TypeTree) → Quiet quiet.Any (numbering.annotates p y)
quiet_annotates p None = also_still (quiet.quiet_annotates p None) (λ c. refl) (λ c. refl)
quiet_annotates p (Some y) = also_still (quiet.quiet_annotates p (Some y)) (λ c. refl) (λ c. refl)

set_length : {A : Type 0} (xs : List A) (k : ℕ) (a : A) → length (slice_set xs k a) ≡ length xs
set_length [] zero a = refl
set_length [] (suc k) a = refl
set_length (x ∷ xs) zero a = refl
set_length (x ∷ xs) (suc k) a = ap suc (set_length xs k a)

pub quiet_leads : (l : ℕ) → Quiet quiet.Any (numbering.leads l)
quiet_leads l = also_still (quiet.quiet_leads l) (λ c. set_length c.loops l true) (λ c. refl)

pub quiet_is_left : (l : ℕ) → Quiet quiet.Any (numbering.is_left l)
quiet_is_left l = also_still (quiet.quiet_is_left l) (λ c. refl) (λ c. refl)

given_loops : (x : ℕ) (o : Option (ℕ × ℕ)) (c : Cursor) → length (numbering.given_here x o c).1.loops ≡ length c.loops
given_loops x None c = refl
given_loops x (Some w) c = refl

given_number : (x : ℕ) (o : Option (ℕ × ℕ)) (c : Cursor) → (numbering.given_here x o c).1.number ≡ c.number
given_number x None c = refl
given_number x (Some w) c = refl

pub quiet_gives_here : (x : ℕ) → Quiet quiet.Any (numbering.gives_here x)
quiet_gives_here x = also_still (quiet.quiet_gives_here x) (λ c. given_loops x (numbering.waiting x (numbering.declaration c x).stage) c) (λ c. given_number x (numbering.waiting x (numbering.declaration c x).stage) c)

waits_at_loops : (n : Node) (o : Option ℕ) (c : Cursor) → length (numbering.waits_at n o c).1.loops ≡ length c.loops
waits_at_loops n None c = refl
waits_at_loops n (Some x) c = refl

waits_at_number : (n : Node) (o : Option ℕ) (c : Cursor) → (numbering.waits_at n o c).1.number ≡ c.number
waits_at_number n None c = refl
waits_at_number n (Some x) c = refl

pub quiet_waits : (b : Bool) (p : named.Pattern) → Quiet quiet.Any (numbering.waits_if b p)
quiet_waits true p = also_still (quiet.quiet_waits true p) (λ c. waits_at_loops (named.pattern_node p) (named.whole_binding p) c) (λ c. waits_at_number (named.pattern_node p) (named.whole_binding p) c)
quiet_waits false p = also_still (quiet.quiet_waits false p) (λ c. refl) (λ c. refl)

pub quiet_use : (V : ℕ → Type 0) (x : ℕ) → V x → Quiet (λ (u : Use). V u.number) (numbering.a_use x)
quiet_use V x v = also_still (quiet.quiet_use V x v) (λ c. refl) (λ c. refl)

-- a new loop
pub takes_loop : {B : Type 0} {i : ℕ} {T : ℕ → B → Type 0} {t t1 : ItemNames} {es : List NodeNames} {k : ℕ → Numbering B} (p : Position)
    → ((l : ℕ) → l ≡ length t.loops → Takes i T (with_loop p t) t1 es (k l)) → Takes i T t t1 es (numbering.and_then numbering.a_loop k)
takes_loop {t = t} p K = record {
  holds = λ c rest q d e. (K (length c.loops) d.2).holds (numbering.a_loop c).1 rest q (d.0, d.1, old.one_more c.loops false ∙ ap suc d.2 ∙ sym (old.one_more t.loops p)) e;
}

-- ---- entries

taken_number : (ns : List NodeNames) (c : Cursor) → (taken ns c).1.number ≡ c.number
taken_number [] c = refl
taken_number (n ∷ ns) c = refl

pub entry_number : (c : Cursor) → (an_entry c).1.number ≡ c.number
entry_number c = taken_number c.names c

taken_loops : (ns : List NodeNames) (c : Cursor) → length (taken ns c).1.loops ≡ length c.loops
taken_loops [] c = refl
taken_loops (n ∷ ns) c = refl

pub entry_loops : (c : Cursor) → length (an_entry c).1.loops ≡ length c.loops
entry_loops c = taken_loops c.names c

-- ---- what rx_hoist_naming shows of a numbering, where it begins no loop and makes so many nodes

pub counted_too : {A : Type 0} {S : A → Type 0} {t t' : ItemNames} {es : List NodeNames} {m : Numbering A} (n : ℕ) → old.Takes S t t' es m → ((c : Cursor) → (m c).1.number ≡ c.number + n) → ((c : Cursor) → length (m c).1.loops ≡ length c.loops)
    → length t'.loops ≡ length t.loops → (i : ℕ) → Takes i (λ j a. (j ≡ i + n) × S a) t t' es m
counted_too {m = m} n N numbers loops same i = record {
  holds = λ c rest q d e.
      let x = N.holds c rest (d.0, d.1) e in
      record { fits = (numbers c ∙ ap (λ (j : ℕ). j + n) q, x.fits); stands = (x.declared.0, x.declared.1, loops c ∙ d.2 ∙ sym same); left = x.left };
}

-- ---- parts: where there are at most N variables and M loops

pub record Part (N M : ℕ) (t t' : ItemNames) (k : ℕ) (K : List NodeNames → Type 0) : Type 0 where
  pub added : List NodeNames
  pub grown : t'.names ≡ t.names ++ added
  pub count : length t'.vars ≡ length t.vars + k
  pub rising : length t.loops ≤ length t'.loops
  pub numbers : length t'.vars ≤ N → length t'.loops ≤ M → K added

pub still_part : {N M : ℕ} {t t' : ItemNames} {k : ℕ} {J K : List NodeNames → Type 0} (a : old.Part N t t' k J) → length t'.loops ≡ length t.loops → ((es : List NodeNames) → J es → K es) → Part N M t t' k K
still_part a same h = record { added = a.added; grown = a.grown; count = a.count; rising = omega (arith, same); numbers = λ most less. h a.added (a.numbers most) }

pub restated : {N M : ℕ} {t t1 : ItemNames} {k n : ℕ} {J K : List NodeNames → Type 0} (a : Part N M t t1 k J) → n ≡ k → ((es : List NodeNames) → J es → K es) → Part N M t t1 n K
restated a e h = record { added = a.added; grown = a.grown; count = let p = a.count in omega (arith, p, e); rising = a.rising; numbers = λ most less. h a.added (a.numbers most less) }

pub unchanged : (N M : ℕ) (t t' : ItemNames) (K : ItemNames → List NodeNames → Type 0) → ◌≡◌ {A = Outcome ItemNames} (Ok t) (Ok t') → K t [] → Part N M t t' 0 (K t')
unchanged N M t t' K e k = subst (λ (v : ItemNames). Part N M t v 0 (K v)) (the_same t t' e)
    (record { added = []; grown = sym (append-nil t.names); count = omega arith; rising = omega arith; numbers = λ _ _. k })

pub in_turn : {N M : ℕ} {t t1 t2 : ItemNames} {k l n : ℕ} {J K L : List NodeNames → Type 0} (a : Part N M t t1 k J) (b : Part N M t1 t2 l K) → n ≡ k + l
    → ((es fs : List NodeNames) → J es → K fs → L (es ++ fs)) → Part N M t t2 n L
in_turn {N} {M} {t} {t1} {t2} {k} {l} {n} a b e h = let p = a.count in let q = b.count in let u = a.rising in let v = b.rising in record {
  added = a.added ++ b.added;
  grown = b.grown ∙ ap (λ (x : List NodeNames). x ++ b.added) a.grown ∙ append_assoc t.names a.added b.added;
  count = omega (arith, p, q, e);
  rising = omega (arith, u, v);
  numbers = λ most less. let m : length t1.vars ≤ N = omega (arith, most, q) in let s : length t1.loops ≤ M = omega (arith, less, v) in h a.added b.added (a.numbers m s) (b.numbers most less);
}

pub in_turn3 : {N M : ℕ} {t t1 t2 t3 : ItemNames} {k l m n : ℕ} {J K L P : List NodeNames → Type 0} (a : Part N M t t1 k J) (b : Part N M t1 t2 l K) (d : Part N M t2 t3 m L) → n ≡ k + (l + m)
    → ((es fs gs : List NodeNames) → J es → K fs → L gs → P (es ++ (fs ++ gs))) → Part N M t t3 n P
in_turn3 {N} {M} {t} {t1} {t2} {t3} {k} {l} {m} {n} a b d e h = let p = a.count in let q = b.count in let r = d.count in let u = a.rising in let v = b.rising in let w = d.rising in record {
  added = a.added ++ (b.added ++ d.added);
  grown = d.grown ∙ ap (λ (x : List NodeNames). x ++ d.added) (b.grown ∙ ap (λ (x : List NodeNames). x ++ b.added) a.grown)
      ∙ append_assoc (t.names ++ a.added) b.added d.added ∙ append_assoc t.names a.added (b.added ++ d.added);
  count = omega (arith, p, q, r, e);
  rising = omega (arith, u, v, w);
  numbers = λ most less.
      let y : length t2.vars ≤ N = omega (arith, most, r) in let x : length t1.vars ≤ N = omega (arith, y, q) in
      let y' : length t2.loops ≤ M = omega (arith, less, w) in let x' : length t1.loops ≤ M = omega (arith, y', v) in
      h a.added b.added d.added (a.numbers x x') (b.numbers y y') (d.numbers most less);
}

pub in_turn4 : {N M : ℕ} {t t1 t2 t3 t4 : ItemNames} {k l m j n : ℕ} {J K L O P : List NodeNames → Type 0} (a : Part N M t t1 k J) (b : Part N M t1 t2 l K) (d : Part N M t2 t3 m L) (f : Part N M t3 t4 j O) → n ≡ k + (l + (m + j))
    → ((es fs gs hs : List NodeNames) → J es → K fs → L gs → O hs → P (es ++ (fs ++ (gs ++ hs)))) → Part N M t t4 n P
in_turn4 {N} {M} {t} {t1} {t2} {t3} {t4} {k} {l} {m} {j} {n} a b d f e h =
    let p = a.count in let q = b.count in let r = d.count in let s = f.count in let u = a.rising in let v = b.rising in let w = d.rising in let z = f.rising in record {
      added = a.added ++ (b.added ++ (d.added ++ f.added));
      grown = f.grown ∙ ap (λ (x : List NodeNames). x ++ f.added) (d.grown ∙ ap (λ (x : List NodeNames). x ++ d.added) (b.grown ∙ ap (λ (x : List NodeNames). x ++ b.added) a.grown))
          ∙ append_assoc ((t.names ++ a.added) ++ b.added) d.added f.added ∙ append_assoc (t.names ++ a.added) b.added (d.added ++ f.added) ∙ append_assoc t.names a.added (b.added ++ (d.added ++ f.added));
      count = omega (arith, p, q, r, s, e);
      rising = omega (arith, u, v, w, z);
      numbers = λ most less.
          let z1 : length t3.vars ≤ N = omega (arith, most, s) in let y : length t2.vars ≤ N = omega (arith, z1, r) in let x : length t1.vars ≤ N = omega (arith, y, q) in
          let z2 : length t3.loops ≤ M = omega (arith, less, z) in let y2 : length t2.loops ≤ M = omega (arith, z2, w) in let x2 : length t1.loops ≤ M = omega (arith, y2, v) in
          h a.added b.added d.added f.added (a.numbers x x2) (b.numbers y y2) (d.numbers z1 z2) (f.numbers most less);
    }

-- a new loop round a part: there are more loops than it has in front
pub in_new_loop : {N M : ℕ} {t t1 : ItemNames} {k : ℕ} {K L : List NodeNames → Type 0} (p : Position) → Part N M (with_loop p t) t1 k K → ((es : List NodeNames) → suc (length t.loops) ≤ M → K es → L es) → Part N M t t1 k L
in_new_loop {M = M} {t = t} p a h = let u = a.rising in let m = old.one_more t.loops p in record {
  added = a.added;
  grown = a.grown;
  count = a.count;
  rising = omega (arith, u, m);
  numbers = λ most less. let s : suc (length t.loops) ≤ M = omega (arith, u, m, less) in h a.added s (a.numbers most less);
}
