-- Two resolvings and numberings side by side: what has been come to in both, and how steps go on from it. Naming comes first, and
-- says which pairs of variables and loops were made; numbering is told for each renaming in which these correspond.
use Rattle.std.proofs.Common.{◌≡◌, ℕ, suc, Bool, true, false, List, [], ◌∷◌, ◌++◌, length, Ok, Err, inl, inr, refl, sym, ap, ◌∙◌, subst, append_assoc, append-nil, length-append, add-one}
use Rattle.rx_core.specs.declared.types.Span.{Span}
use Rattle.rx_core.specs.declared.types.Position.{Position}
use Rattle.rx_resolve_names.specs.declared.resolved.ItemNames.{ItemNames}
use Rattle.rx_resolve_names.specs.declared.resolved.NodeNames.{NodeNames}
use Rattle.rx_resolve_names.specs.Meant.{number}
use Rattle.rx_resolve_names.specs.Steps.{Outcome, and_then, Naming, ◌>>◌, Inside, with_loop, with_variable, entry, with_names, numbered, names}
use Rattle.rx_typed.specs.declared.nodes.Node.{Node}
use Rattle.rx_typed.specs.declared.nodes.Site.{Site}
use Rattle.rx_typed.specs.declared.nodes.Declaration.{Declaration}
use Rattle.rx_typed.specs.Naming as numbering
use Rattle.rx_typed.specs.Naming.{Cursor, Numbering, give, a_node, an_entry, taken, declare, a_loop}
use Rattle.rx_engine_names.specs.Renaming.{Renaming, Pairs, Has, HasPassage, Made, Passage, Serves}
use Rattle.rx_engine_names.specs.LikeNamed.{SameSpan}

-- ---- outcomes

pub named_ok : {A B : Type 0} (m : Outcome A) (f : A → Outcome B) (b : B) → and_then m f ≡ Ok b → (a : A) × (m ≡ Ok a) × (f a ≡ Ok b)
named_ok (Ok a) f b e = (a, refl, e)
named_ok (Err x) f b e = absurd (cc)

pub then_ok : (f g : Naming) (u v w : ItemNames) → f u ≡ Ok v → g v ≡ Ok w → (f >> g) u ≡ Ok w
then_ok f g u v w d e = ap (λ (r : Outcome ItemNames). and_then r g) d ∙ e

pub and_ok : {A B : Type 0} (m : Outcome A) (a : A) (f : A → Outcome B) (r : Outcome B) → m ≡ Ok a → f a ≡ r → and_then m f ≡ r
and_ok m a f r d e = ap (λ (x : Outcome _). and_then x f) d ∙ e

pub the_same : {A : Type 0} (a b : A) → ◌≡◌ {A = Outcome A} (Ok a) (Ok b) → a ≡ b
the_same a b e = cc

-- ---- what has been come to

-- what is kept of what was made and the numbers of the next ones
pub record Frame : Type 1 where
  -- the items of the second, by those of the first
  pub items : ℕ → ℕ
  pub holds : Pairs → ℕ → ℕ → Type 0
  pub pushed : (ps : Pairs) (n m : ℕ) → holds ps n m → holds ((n, m) ∷ ps) (suc n) (suc m)
  -- with what was passed, by the numbers of the next variables and the next loops
  pub passed : Made → ℕ → ℕ → ℕ → ℕ → Type 0
  pub passed_variable : (M : Made) (n m k l : ℕ) → passed M n m k l → passed (record { variables = (n, m) ∷ M.variables; loops = M.loops; passages = M.passages }) (suc n) (suc m) k l
  pub passed_loop : (M : Made) (n m k l : ℕ) → passed M n m k l → passed (record { variables = M.variables; loops = (k, l) ∷ M.loops; passages = M.passages }) n m (suc k) (suc l)

-- the tables
pub record Reached (L : Frame) (M : Made) (t u : ItemNames) : Type 0 where
  pub vars : L.holds M.variables (length t.vars) (length u.vars)
  pub loops : L.holds M.loops (length t.loops) (length u.loops)
  pub passages : L.passed M (length t.vars) (length u.vars) (length t.loops) (length u.loops)

-- what was made stays
pub record Grows (M M' : Made) : Type 0 where
  pub variables : (n m : ℕ) → Has M.variables n m → Has M'.variables n m
  pub loops : (n m : ℕ) → Has M.loops n m → Has M'.loops n m
  pub passages : (x : Passage) → HasPassage M.passages x → HasPassage M'.passages x

pub grows_not : (M : Made) → Grows M M
grows_not M = record { variables = λ n m h. h; loops = λ n m h. h; passages = λ x h. h }

pub grows_on : {M M' M'' : Made} → Grows M M' → Grows M' M'' → Grows M M''
grows_on g h = record { variables = λ n m x. h.variables n m (g.variables n m x); loops = λ n m x. h.loops n m (g.loops n m x); passages = λ x w. h.passages x (g.passages x w) }

pub serves_before : {items : ℕ → ℕ} {M M' : Made} {R : Renaming} → Grows M M' → Serves items M' R → Serves items M R
serves_before g s = record {
  variables = λ n m x. s.variables n m (g.variables n m x);
  loops = λ n m x. s.loops n m (g.loops n m x);
  items_are = s.items_are;
  passages = λ x w. s.passages x (g.passages x w);
}

-- the numberings stand where the tables do
pub record Cursors (t u : ItemNames) (c c' : Cursor) : Type 0 where
  pub declared : c.declared ≡ length t.vars
  pub declared' : c'.declared ≡ length u.vars
  pub loops : length c.loops ≡ length t.loops
  pub loops' : length c'.loops ≡ length u.loops

pub record Numbered {A A' : Type 0} (S : A → A' → Type 0) (t u : ItemNames) (r : A × Cursor) (r' : A' × Cursor) (rest rest' : List NodeNames) : Type 0 where
  pub like : S r.0 r'.0
  pub cursors : Cursors t u r.1 r'.1
  pub left : r.1.names ≡ rest
  pub left' : r'.1.names ≡ rest'

-- two numberings that take these entries and give what is alike
pub record Numbers {A A' : Type 0} (S : A → A' → Type 0) (t u t' u' : ItemNames) (es es' : List NodeNames) (m : Numbering A) (m' : Numbering A') : Type 0 where
  pub holds : (c c' : Cursor) (rest rest' : List NodeNames) → Cursors t u c c' → c.names ≡ es ++ rest → c'.names ≡ es' ++ rest' → Numbered S t' u' (m c) (m' c') rest rest'

-- ---- numberings in turn

pub numbers_then : {A A' B B' : Type 0} {S : A → A' → Type 0} {T : B → B' → Type 0} {t u t1 u1 t2 u2 : ItemNames} {es es' fs fs' : List NodeNames} {m : Numbering A} {m' : Numbering A'} {k : A → Numbering B} {k' : A' → Numbering B'}
    → Numbers S t u t1 u1 es es' m m' → ((a : A) (a' : A') → S a a' → Numbers T t1 u1 t2 u2 fs fs' (k a) (k' a')) → Numbers T t u t2 u2 (es ++ fs) (es' ++ fs') (numbering.and_then m k) (numbering.and_then m' k')
numbers_then {es = es} {es' = es'} {fs = fs} {fs' = fs'} {m = m} {m' = m'} N K = record {
  holds = λ c c' rest rest' q e e'.
      let x = N.holds c c' (fs ++ rest) (fs' ++ rest') q (e ∙ append_assoc es fs rest) (e' ∙ append_assoc es' fs' rest') in
      (K (m c).0 (m' c').0 x.like).holds (m c).1 (m' c').1 rest rest' x.cursors x.left x.left';
}

-- what is told of both in front
pub numbers_then_told : {A A' B B' : Type 0} {S : A → A' → Type 0} {T : B → B' → Type 0} {W : A → Type 0} {W' : A' → Type 0} {t u t1 u1 t2 u2 : ItemNames} {es es' fs fs' : List NodeNames} {m : Numbering A} {m' : Numbering A'} {k : A → Numbering B} {k' : A' → Numbering B'}
    → Numbers S t u t1 u1 es es' m m' → ((c : Cursor) → W (m c).0) → ((c : Cursor) → W' (m' c).0) → ((a : A) (a' : A') → W a → W' a' → S a a' → Numbers T t1 u1 t2 u2 fs fs' (k a) (k' a')) → Numbers T t u t2 u2 (es ++ fs) (es' ++ fs') (numbering.and_then m k) (numbering.and_then m' k')
numbers_then_told {es = es} {es' = es'} {fs = fs} {fs' = fs'} {m = m} {m' = m'} N w w' K = record {
  holds = λ c c' rest rest' q e e'.
      let x = N.holds c c' (fs ++ rest) (fs' ++ rest') q (e ∙ append_assoc es fs rest) (e' ∙ append_assoc es' fs' rest') in
      (K (m c).0 (m' c').0 (w c) (w' c') x.like).holds (m c).1 (m' c').1 rest rest' x.cursors x.left x.left';
}

-- what follows takes no entry
pub numbers_last : {A A' B B' : Type 0} {S : A → A' → Type 0} {T : B → B' → Type 0} {t u t1 u1 : ItemNames} {es es' : List NodeNames} {m : Numbering A} {m' : Numbering A'} {k : A → Numbering B} {k' : A' → Numbering B'}
    → Numbers S t u t1 u1 es es' m m' → ((a : A) (a' : A') → S a a' → Numbers T t1 u1 t1 u1 [] [] (k a) (k' a')) → Numbers T t u t1 u1 es es' (numbering.and_then m k) (numbering.and_then m' k')
numbers_last {m = m} {m' = m'} N K = record {
  holds = λ c c' rest rest' q e e'.
      let x = N.holds c c' rest rest' q e e' in
      (K (m c).0 (m' c').0 x.like).holds (m c).1 (m' c').1 rest rest' x.cursors x.left x.left';
}

pub numbers_give : {A A' : Type 0} {S : A → A' → Type 0} {t u : ItemNames} (a : A) (a' : A') → S a a' → Numbers S t u t u [] [] (give a) (give a')
numbers_give a a' s = record { holds = λ c c' rest rest' q e e'. record { like = s; cursors = q; left = e; left' = e' } }

pub numbers_map : {A A' B B' : Type 0} {S : A → A' → Type 0} {T : B → B' → Type 0} {t u t1 u1 : ItemNames} {es es' : List NodeNames} {m : Numbering A} {m' : Numbering A'} (h : A → B) (h' : A' → B')
    → Numbers S t u t1 u1 es es' m m' → ((a : A) (a' : A') → S a a' → T (h a) (h' a')) → Numbers T t u t1 u1 es es' (numbering.and_then m (λ a. give (h a))) (numbering.and_then m' (λ a. give (h' a)))
numbers_map {m = m} {m' = m'} h h' N K = record {
  holds = λ c c' rest rest' q e e'.
      let x = N.holds c c' rest rest' q e e' in
      record { like = K (m c).0 (m' c').0 x.like; cursors = x.cursors; left = x.left; left' = x.left' };
}

-- a node
pub numbers_node : {B B' : Type 0} {T : B → B' → Type 0} {t u t1 u1 : ItemNames} {es es' : List NodeNames} {k : Node → Numbering B} {k' : Node → Numbering B'} (s : Span) (i i' : Site)
    → ((n n' : Node) → SameSpan n n' → Numbers T t u t1 u1 es es' (k n) (k' n')) → Numbers T t u t1 u1 es es' (numbering.and_then (a_node s i) k) (numbering.and_then (a_node s i') k')
numbers_node s i i' K = record {
  holds = λ c c' rest rest' q e e'.
      (K (a_node s i c).0 (a_node s i' c').0 refl).holds (a_node s i c).1 (a_node s i' c').1 rest rest'
      (record { declared = q.declared; declared' = q.declared'; loops = q.loops; loops' = q.loops' }) e e';
}

-- a node whose span is told
pub numbers_node_at : {B B' : Type 0} {T : B → B' → Type 0} {t u t1 u1 : ItemNames} {es es' : List NodeNames} {k : Node → Numbering B} {k' : Node → Numbering B'} (s : Span) (i i' : Site)
    → ((n n' : Node) → n.span ≡ s → SameSpan n n' → Numbers T t u t1 u1 es es' (k n) (k' n')) → Numbers T t u t1 u1 es es' (numbering.and_then (a_node s i) k) (numbering.and_then (a_node s i') k')
numbers_node_at s i i' K = record {
  holds = λ c c' rest rest' q e e'.
      (K (a_node s i c).0 (a_node s i' c').0 refl refl).holds (a_node s i c).1 (a_node s i' c').1 rest rest'
      (record { declared = q.declared; declared' = q.declared'; loops = q.loops; loops' = q.loops' }) e e';
}

-- a node alone
pub numbers_made : {B B' : Type 0} {T : B → B' → Type 0} {t u : ItemNames} (s : Span) (i i' : Site) (h : Node → B) (h' : Node → B')
    → ((n n' : Node) → SameSpan n n' → T (h n) (h' n')) → Numbers T t u t u [] [] (numbering.and_then (a_node s i) (λ n. give (h n))) (numbering.and_then (a_node s i') (λ n. give (h' n)))
numbers_made s i i' h h' K = record {
  holds = λ c c' rest rest' q e e'. record {
    like = K (a_node s i c).0 (a_node s i' c').0 refl;
    cursors = record { declared = q.declared; declared' = q.declared'; loops = q.loops; loops' = q.loops' };
    left = e;
    left' = e';
  };
}

-- a node alone, with its span
pub numbers_made_at : {B B' : Type 0} {T : B → B' → Type 0} {t u : ItemNames} (s : Span) (i i' : Site) (h : Node → B) (h' : Node → B')
    → ((n n' : Node) → n.span ≡ s → SameSpan n n' → T (h n) (h' n')) → Numbers T t u t u [] [] (numbering.and_then (a_node s i) (λ n. give (h n))) (numbering.and_then (a_node s i') (λ n. give (h' n)))
numbers_made_at s i i' h h' K = record {
  holds = λ c c' rest rest' q e e'. record {
    like = K (a_node s i c).0 (a_node s i' c').0 refl refl;
    cursors = record { declared = q.declared; declared' = q.declared'; loops = q.loops; loops' = q.loops' };
    left = e;
    left' = e';
  };
}

-- what each numbering of the first gives
pub numbers_also : {A A' : Type 0} {S : A → A' → Type 0} {W : A → Type 0} {t u t1 u1 : ItemNames} {es es' : List NodeNames} {m : Numbering A} {m' : Numbering A'}
    → Numbers S t u t1 u1 es es' m m' → ((c : Cursor) → W (m c).0) → Numbers (λ a a'. W a × S a a') t u t1 u1 es es' m m'
numbers_also N w = record { holds = λ c c' rest rest' q e e'. let x = N.holds c c' rest rest' q e e' in record { like = (w c, x.like); cursors = x.cursors; left = x.left; left' = x.left' } }

-- ---- steps that touch no names

pub record Keeps {A : Type 0} (m : Numbering A) : Type 0 where
  pub names : (c : Cursor) → (m c).1.names ≡ c.names
  pub declared : (c : Cursor) → (m c).1.declared ≡ c.declared
  pub loops : (c : Cursor) → length (m c).1.loops ≡ length c.loops

pub numbers_left : {A B B' : Type 0} {T : B → B' → Type 0} {t u t1 u1 : ItemNames} {es es' : List NodeNames} {m : Numbering A} {k : A → Numbering B} {m' : Numbering B'}
    → Keeps m → ((a : A) → Numbers T t u t1 u1 es es' (k a) m') → Numbers T t u t1 u1 es es' (numbering.and_then m k) m'
numbers_left {m = m} h K = record {
  holds = λ c c' rest rest' q e e'.
      (K (m c).0).holds (m c).1 c' rest rest'
      (record { declared = h.declared c ∙ q.declared; declared' = q.declared'; loops = h.loops c ∙ q.loops; loops' = q.loops' }) (h.names c ∙ e) e';
}

pub numbers_right : {A B B' : Type 0} {T : B → B' → Type 0} {t u t1 u1 : ItemNames} {es es' : List NodeNames} {m : Numbering B} {m' : Numbering A} {k : A → Numbering B'}
    → Keeps m' → ((a : A) → Numbers T t u t1 u1 es es' m (k a)) → Numbers T t u t1 u1 es es' m (numbering.and_then m' k)
numbers_right {m' = m'} h K = record {
  holds = λ c c' rest rest' q e e'.
      (K (m' c').0).holds c (m' c').1 rest rest'
      (record { declared = q.declared; declared' = h.declared c' ∙ q.declared'; loops = q.loops; loops' = h.loops c' ∙ q.loops' }) e (h.names c' ∙ e');
}

pub numbers_both : {A A' B B' : Type 0} {T : B → B' → Type 0} {t u t1 u1 : ItemNames} {es es' : List NodeNames} {m : Numbering A} {m' : Numbering A'} {k : A → Numbering B} {k' : A' → Numbering B'}
    → Keeps m → Keeps m' → ((a : A) (a' : A') → Numbers T t u t1 u1 es es' (k a) (k' a')) → Numbers T t u t1 u1 es es' (numbering.and_then m k) (numbering.and_then m' k')
numbers_both h h' K = numbers_left h (λ a. numbers_right h' (λ a'. K a a'))

-- ---- entries

abbrev pub AreEntries : List ℕ → Bool → List ℕ → Bool → (List ℕ × Bool) → (List ℕ × Bool) → Type 0
AreEntries ns h ns' h' a a' = (a ≡ (ns, h)) × (a' ≡ (ns', h'))

-- what holds of the entries that were added holds of those that are taken
pub at_entries : (P : (List ℕ × Bool) → (List ℕ × Bool) → Type 0) (ns ns' : List ℕ) (h h' : Bool) (a a' : List ℕ × Bool) → AreEntries ns h ns' h' a a' → P (ns, h) (ns', h') → P a a'
at_entries P ns ns' h h' a a' e p = subst (λ (z : List ℕ × Bool). P z a') (sym e.0) (subst (λ (z : List ℕ × Bool). P (ns, h) z) (sym e.1) p)

pub taken_next : (x : NodeNames) (rest : List NodeNames) (c : Cursor) → c.names ≡ x ∷ rest
    → (an_entry c).0 ≡ (x.numbers, x.hidden)
taken_next x rest c e = ap (λ (l : List NodeNames). (taken l c).0) e

pub taken_names : (x : NodeNames) (rest : List NodeNames) (c : Cursor) → c.names ≡ x ∷ rest → (an_entry c).1.names ≡ rest
taken_names x rest c e = ap (λ (l : List NodeNames). (taken l c).1.names) e

pub taken_declared : (x : NodeNames) (rest : List NodeNames) (c : Cursor) → c.names ≡ x ∷ rest → (an_entry c).1.declared ≡ c.declared
taken_declared x rest c e = ap (λ (l : List NodeNames). (taken l c).1.declared) e

pub taken_loops : (x : NodeNames) (rest : List NodeNames) (c : Cursor) → c.names ≡ x ∷ rest → length (an_entry c).1.loops ≡ length c.loops
taken_loops x rest c e = ap (λ (l : List NodeNames). length (taken l c).1.loops) e

pub numbers_entry : (x x' : NodeNames) {t u : ItemNames} → Numbers (AreEntries x.numbers x.hidden x'.numbers x'.hidden) t u (with_names x t) (with_names x' u) (x ∷ []) (x' ∷ []) an_entry an_entry
numbers_entry x x' = record {
  holds = λ c c' rest rest' q e e'. record {
    like = (taken_next x rest c e, taken_next x' rest' c' e');
    cursors = record { declared = taken_declared x rest c e ∙ q.declared; declared' = taken_declared x' rest' c' e' ∙ q.declared'; loops = taken_loops x rest c e ∙ q.loops; loops' = taken_loops x' rest' c' e' ∙ q.loops' };
    left = taken_names x rest c e;
    left' = taken_names x' rest' c' e';
  };
}

-- ---- new variables and new loops

pub one_more : {A : Type 0} (xs : List A) (x : A) → length (xs ++ x ∷ []) ≡ suc (length xs)
one_more xs x = length-append xs (x ∷ []) ∙ add-one (length xs)

-- one more variable of both, one more loop of both
abbrev pub with_pair : Made → ItemNames → ItemNames → Made
with_pair M t u = record { variables = (length t.vars, length u.vars) ∷ M.variables; loops = M.loops; passages = M.passages }

abbrev pub with_loops : Made → ItemNames → ItemNames → Made
with_loops M t u = record { variables = M.variables; loops = (length t.loops, length u.loops) ∷ M.loops; passages = M.passages }

pub grows_pair : (M : Made) (t u : ItemNames) → Grows M (with_pair M t u)
grows_pair M t u = record { variables = λ n m h. inr h; loops = λ n m h. h; passages = λ x h. h }

pub grows_loops : (M : Made) (t u : ItemNames) → Grows M (with_loops M t u)
grows_loops M t u = record { variables = λ n m h. h; loops = λ n m h. inr h; passages = λ x h. h }

pub variable_reached : (L : Frame) (M : Made) (t u : ItemNames) (s s' : Span) → Reached L M t u → Reached L (with_pair M t u) (with_variable s t) (with_variable s' u)
variable_reached L M t u s s' q = record {
  vars = subst (λ (n : ℕ). L.holds (with_pair M t u).variables n (length (with_variable s' u).vars)) (sym (one_more t.vars s))
      (subst (λ (n : ℕ). L.holds (with_pair M t u).variables (suc (length t.vars)) n) (sym (one_more u.vars s')) (L.pushed M.variables (length t.vars) (length u.vars) q.vars));
  loops = q.loops;
  passages = subst (λ (n : ℕ). L.passed (with_pair M t u) n (length (with_variable s' u).vars) (length t.loops) (length u.loops)) (sym (one_more t.vars s))
      (subst (λ (n : ℕ). L.passed (with_pair M t u) (suc (length t.vars)) n (length t.loops) (length u.loops)) (sym (one_more u.vars s')) (L.passed_variable M (length t.vars) (length u.vars) (length t.loops) (length u.loops) q.passages));
}

pub loop_reached : (L : Frame) (M : Made) (t u : ItemNames) (p p' : Position) → Reached L M t u → Reached L (with_loops M t u) (with_loop p t) (with_loop p' u)
loop_reached L M t u p p' q = record {
  vars = q.vars;
  loops = subst (λ (n : ℕ). L.holds (with_loops M t u).loops n (length (with_loop p' u).loops)) (sym (one_more t.loops p))
      (subst (λ (n : ℕ). L.holds (with_loops M t u).loops (suc (length t.loops)) n) (sym (one_more u.loops p')) (L.pushed M.loops (length t.loops) (length u.loops) q.loops));
  passages = subst (λ (n : ℕ). L.passed (with_loops M t u) (length t.vars) (length u.vars) n (length (with_loop p' u).loops)) (sym (one_more t.loops p))
      (subst (λ (n : ℕ). L.passed (with_loops M t u) (length t.vars) (length u.vars) (suc (length t.loops)) n) (sym (one_more u.loops p')) (L.passed_loop M (length t.vars) (length u.vars) (length t.loops) (length u.loops) q.passages));
}

-- the newest correspond, as they are declared and as they are named
pub newest : (ps : Pairs) (n m : ℕ) → Has ((n, m) ∷ ps) n m
newest ps n m = inl (inl (refl, refl))

pub newest_kept : (ps : Pairs) (n m : ℕ) → Has ((n, m) ∷ ps) (number n) (number m)
newest_kept ps n m = inl (inr (refl, refl))

pub numbers_declare : (R : Renaming) (t u : ItemNames) (s s' : Span) (d d' : Declaration) → R.variable (length t.vars) (length u.vars) ≡ true
    → Numbers (λ x x'. R.variable x x' ≡ true) t u (with_variable s t) (with_variable s' u) [] [] (declare d) (declare d')
numbers_declare R t u s s' d d' v = record {
  holds = λ c c' rest rest' q e e'. record {
    like = subst (λ (n : ℕ). R.variable n c'.declared ≡ true) (sym q.declared) (subst (λ (n : ℕ). R.variable (length t.vars) n ≡ true) (sym q.declared') v);
    cursors = record { declared = ap suc q.declared ∙ sym (one_more t.vars s); declared' = ap suc q.declared' ∙ sym (one_more u.vars s'); loops = q.loops; loops' = q.loops' };
    left = e;
    left' = e';
  };
}

pub numbers_loop : (R : Renaming) (t u : ItemNames) (p p' : Position) → R.loop (length t.loops) (length u.loops) ≡ true
    → Numbers (λ x x'. R.loop x x' ≡ true) t u (with_loop p t) (with_loop p' u) [] [] a_loop a_loop
numbers_loop R t u p p' v = record {
  holds = λ c c' rest rest' q e e'. record {
    like = subst (λ (n : ℕ). R.loop n (length c'.loops) ≡ true) (sym q.loops) (subst (λ (n : ℕ). R.loop (length t.loops) n ≡ true) (sym q.loops') v);
    cursors = record { declared = q.declared; declared' = q.declared'; loops = one_more c.loops false ∙ ap suc q.loops ∙ sym (one_more t.loops p); loops' = one_more c'.loops false ∙ ap suc q.loops' ∙ sym (one_more u.loops p') };
    left = e;
    left' = e';
  };
}

-- ---- parts: the second resolves where the first does, and their numberings are alike for each renaming that serves

abbrev pub Kind : Type 1
Kind = Renaming → ItemNames → List NodeNames → List NodeNames → Type 0

pub record Part (L : Frame) (M : Made) (t t' u : ItemNames) (Answer : Made → ItemNames → Type 0) (K : Kind) : Type 0 where
  pub made : Made
  pub grows : Grows M made
  pub table : ItemNames
  pub answer : Answer made table
  pub reached : Reached L made t' table
  pub added : List NodeNames
  pub added' : List NodeNames
  pub grown : t'.names ≡ t.names ++ added
  pub grown' : table.names ≡ u.names ++ added'
  pub numbers : (R : Renaming) → Serves L.items made R → K R table added added'

pub in_turn : {L : Frame} {M : Made} {t t1 t2 u : ItemNames} {X Y Z : Made → ItemNames → Type 0} {J K N : Kind}
    (a : Part L M t t1 u X J) (b : Part L a.made t1 t2 a.table Y K) → (X a.made a.table → Y b.made b.table → Z b.made b.table)
    → ((R : Renaming) → Serves L.items b.made R → J R a.table a.added a.added' → K R b.table b.added b.added' → N R b.table (a.added ++ b.added) (a.added' ++ b.added')) → Part L M t t2 u Z N
in_turn {t = t} {u = u} a b z k = record {
  made = b.made;
  grows = grows_on a.grows b.grows;
  table = b.table;
  answer = z a.answer b.answer;
  reached = b.reached;
  added = a.added ++ b.added;
  added' = a.added' ++ b.added';
  grown = b.grown ∙ ap (λ (l : List NodeNames). l ++ b.added) a.grown ∙ append_assoc t.names a.added b.added;
  grown' = b.grown' ∙ ap (λ (l : List NodeNames). l ++ b.added') a.grown' ∙ append_assoc u.names a.added' b.added';
  numbers = λ R s. k R s (a.numbers R (serves_before b.grows s)) (b.numbers R s);
}

pub in_turn3 : {L : Frame} {M : Made} {t t1 t2 t3 u : ItemNames} {X Y W Z : Made → ItemNames → Type 0} {J K O N : Kind}
    (a : Part L M t t1 u X J) (b : Part L a.made t1 t2 a.table Y K) (d : Part L b.made t2 t3 b.table W O) → (X a.made a.table → Y b.made b.table → W d.made d.table → Z d.made d.table)
    → ((R : Renaming) → Serves L.items d.made R → J R a.table a.added a.added' → K R b.table b.added b.added' → O R d.table d.added d.added' → N R d.table (a.added ++ (b.added ++ d.added)) (a.added' ++ (b.added' ++ d.added'))) → Part L M t t3 u Z N
unfolding in_turn
in_turn3 {Y = Y} {W = W} {K = K} {O = O} a b d z k =
    in_turn {Y = λ G v. Y b.made b.table × W G v} {K = λ R v es es'. K R b.table b.added b.added' × O R v d.added d.added' × (es ≡ b.added ++ d.added) × (es' ≡ b.added' ++ d.added')} a
    (in_turn b d (λ x y. (x, y)) (λ R s x y. (x, y, refl, refl))) (λ x y. z x y.0 y.1) (λ R s x y. k R s x y.0 y.1)

pub in_turn4 : {L : Frame} {M : Made} {t t1 t2 t3 t4 u : ItemNames} {X Y W V Z : Made → ItemNames → Type 0} {J K O P N : Kind}
    (a : Part L M t t1 u X J) (b : Part L a.made t1 t2 a.table Y K) (d : Part L b.made t2 t3 b.table W O) (f : Part L d.made t3 t4 d.table V P) → (X a.made a.table → Y b.made b.table → W d.made d.table → V f.made f.table → Z f.made f.table)
    → ((R : Renaming) → Serves L.items f.made R → J R a.table a.added a.added' → K R b.table b.added b.added' → O R d.table d.added d.added' → P R f.table f.added f.added' → N R f.table (a.added ++ (b.added ++ (d.added ++ f.added))) (a.added' ++ (b.added' ++ (d.added' ++ f.added')))) → Part L M t t4 u Z N
unfolding in_turn in_turn3
in_turn4 {Y = Y} {W = W} {V = V} {K = K} {O = O} {P = P} a b d f z k =
    in_turn {Y = λ G v. Y b.made b.table × W d.made d.table × V G v} {K = λ R v es es'. K R b.table b.added b.added' × O R d.table d.added d.added' × P R v f.added f.added'} a
    (in_turn3 b d f (λ x y w. (x, y, w)) (λ R s x y w. (x, y, w))) (λ x y. z x y.0 y.1 y.2) (λ R s x y. k R s x y.0 y.1 y.2)

pub restated : {L : Frame} {M : Made} {t t1 u : ItemNames} {X Y : Made → ItemNames → Type 0} {J K : Kind}
    (a : Part L M t t1 u X J) → (X a.made a.table → Y a.made a.table) → ((R : Renaming) → Serves L.items a.made R → J R a.table a.added a.added' → K R a.table a.added a.added') → Part L M t t1 u Y K
restated a y l = record { made = a.made; grows = a.grows; table = a.table; answer = y a.answer; reached = a.reached; added = a.added; added' = a.added'; grown = a.grown; grown' = a.grown'; numbers = λ R s. l R s (a.numbers R s) }

-- what was made in front
pub from_before : {L : Frame} {M M' : Made} {t t1 u : ItemNames} {X : Made → ItemNames → Type 0} {K : Kind} → Grows M M' → Part L M' t t1 u X K → Part L M t t1 u X K
from_before g a = record { made = a.made; grows = grows_on g a.grows; table = a.table; answer = a.answer; reached = a.reached; added = a.added; added' = a.added'; grown = a.grown; grown' = a.grown'; numbers = a.numbers }

-- nothing happens to the tables
pub unchanged : (L : Frame) (M : Made) (t t' u : ItemNames) (X : Made → ItemNames → Type 0) (K : ItemNames → Kind)
    → ◌≡◌ {A = Outcome ItemNames} (Ok t) (Ok t') → Reached L M t u → X M u → ((R : Renaming) → K t R u [] []) → Part L M t t' u X (K t')
unchanged L M t t' u X K e q x k = subst (λ (v : ItemNames). Part L M t v u X (K v)) (the_same t t' e)
    (record { made = M; grows = grows_not M; table = u; answer = x; reached = q; added = []; added' = []; grown = sym (append-nil t.names); grown' = sym (append-nil u.names); numbers = λ R s. k R })

-- an entry on each side
abbrev pub EntryNumbers : ItemNames → ItemNames → List ℕ → List ℕ → ItemNames → Kind
EntryNumbers t u ns ns' t' R u' es es' = Numbers (AreEntries ns false ns' false) t u t' u' es es' an_entry an_entry

pub names_alike : (L : Frame) (M : Made) (I I' : Inside) (at at' : List ℕ) (t t' u : ItemNames) (n n' : ℕ) (ns ns' : List ℕ) (r r' : Outcome (List ℕ))
    → r ≡ Ok (n ∷ ns) → r' ≡ Ok (n' ∷ ns') → names I at r t ≡ Ok t' → Reached L M t u
    → Part L M t t' u (λ G v. names I' at' r' u ≡ Ok v) (EntryNumbers t u (n ∷ ns) (n' ∷ ns') t')
names_alike L M I I' at at' t t' u n n' ns ns' r r' is is' e q =
    let x = entry I at (n ∷ ns) in let x' = entry I' at' (n' ∷ ns') in
    let same : with_names x t ≡ t' = the_same _ _ (sym (ap (λ (o : Outcome (List ℕ)). and_then o (λ ns. numbered I at ns t)) is) ∙ e) in
    subst (λ (v : ItemNames). Part L M t v u (λ G w. names I' at' r' u ≡ Ok w) (EntryNumbers t u (n ∷ ns) (n' ∷ ns') v)) same
    (record {
      made = M;
      grows = grows_not M;
      table = with_names x' u;
      answer = ap (λ (o : Outcome (List ℕ)). and_then o (λ ns. numbered I' at' ns u)) is';
      reached = record { vars = q.vars; loops = q.loops; passages = q.passages };
      added = x ∷ [];
      added' = x' ∷ [];
      grown = refl;
      grown' = refl;
      numbers = λ R s. numbers_entry x x';
    })
