-- Steps of one numbering, beside nothing or beside a step of another kind.
use Rattle.std.proofs.Common.{◌≡◌, ℕ, suc, List, [], ◌∷◌, ◌++◌, refl, sym, ap, ◌∙◌, append_assoc}
use Rattle.rx_core.specs.declared.types.Span.{Span}
use Rattle.rx_resolve_names.specs.declared.resolved.ItemNames.{ItemNames}
use Rattle.rx_resolve_names.specs.declared.resolved.NodeNames.{NodeNames}
use Rattle.rx_resolve_names.specs.Steps.{with_variable, with_names}
use Rattle.rx_typed.specs.declared.nodes.Node.{Node}
use Rattle.rx_typed.specs.declared.nodes.Site.{Site}
use Rattle.rx_typed.specs.declared.nodes.Declaration.{Declaration}
use Rattle.rx_typed.specs.Naming as numbering
use Rattle.rx_typed.specs.Naming.{Numbering, give, a_node, an_entry, declare}
use Rattle.rx_engine_names.proofs.SideBySide.{Numbers, one_more, taken_next, taken_names, taken_declared, taken_loops}

-- ---- the second goes on alone

-- a node, with its span
pub second_node : {B B' : Type 0} {T : B → B' → Type 0} {t u t1 u1 : ItemNames} {es es' : List NodeNames} {m : Numbering B} {k : Node → Numbering B'} (s : Span) (i : Site)
    → ((n : Node) → n.span ≡ s → Numbers T t u t1 u1 es es' m (k n)) → Numbers T t u t1 u1 es es' m (numbering.and_then (a_node s i) k)
second_node s i K = record {
  holds = λ c c' rest rest' q e e'.
      (K (a_node s i c').0 refl).holds c (a_node s i c').1 rest rest' (record { declared = q.declared; declared' = q.declared'; loops = q.loops; loops' = q.loops' }) e e';
}

-- what it makes of what is alike
pub second_map : {A A' B' : Type 0} {S : A → A' → Type 0} {T : A → B' → Type 0} {t u t1 u1 : ItemNames} {es es' : List NodeNames} {m : Numbering A} {m' : Numbering A'} (h : A' → B')
    → Numbers S t u t1 u1 es es' m m' → ((a : A) (a' : A') → S a a' → T a (h a')) → Numbers T t u t1 u1 es es' m (numbering.and_then m' (λ a'. give (h a')))
second_map {m = m} {m' = m'} h N K = record { holds = λ c c' rest rest' q e e'. let x = N.holds c c' rest rest' q e e' in record { like = K (m c).0 (m' c').0 x.like; cursors = x.cursors; left = x.left; left' = x.left' } }

-- where it takes no entry behind both
pub second_then : {A A' B' : Type 0} {S : A → A' → Type 0} {T : A → B' → Type 0} {t u t1 u1 : ItemNames} {es es' : List NodeNames} {m : Numbering A} {m' : Numbering A'} {k : A' → Numbering B'}
    → Numbers S t u t1 u1 es es' m m' → ((a : A) (a' : A') → S a a' → Numbers (λ (z : Unit {0}) b. T a b) t1 u1 t1 u1 [] [] (give tt) (k a')) → Numbers T t u t1 u1 es es' m (numbering.and_then m' k)
second_then {m = m} {m' = m'} N K = record {
  holds = λ c c' rest rest' q e e'.
      let x = N.holds c c' rest rest' q e e' in
      let y = (K (m c).0 (m' c').0 x.like).holds (m c).1 (m' c').1 rest rest' x.cursors x.left x.left' in
      record { like = y.like; cursors = y.cursors; left = y.left; left' = y.left' };
}

-- what it has done alone comes before both
pub second_first : {A' B B' : Type 0} {S : Unit {0} → A' → Type 0} {T : B → B' → Type 0} {t u t1 u1 t2 u2 : ItemNames} {es es' fs fs' : List NodeNames} {m' : Numbering A'} {m : Numbering B} {k : A' → Numbering B'}
    → Numbers S t u t1 u1 es es' (give tt) m' → ((a' : A') → S tt a' → Numbers T t1 u1 t2 u2 fs fs' m (k a')) → Numbers T t u t2 u2 (es ++ fs) (es' ++ fs') m (numbering.and_then m' k)
second_first {es = es} {es' = es'} {fs = fs} {fs' = fs'} {m' = m'} N K = record {
  holds = λ c c' rest rest' q e e'.
      let x = N.holds c c' (fs ++ rest) (fs' ++ rest') q (e ∙ append_assoc es fs rest) (e' ∙ append_assoc es' fs' rest') in
      (K (m' c').0 x.like).holds c (m' c').1 rest rest' x.cursors x.left x.left';
}

-- and comes behind both
pub second_last : {A A' B' : Type 0} {S : A → A' → Type 0} {T : A → B' → Type 0} {t u t1 u1 t2 u2 : ItemNames} {es es' fs fs' : List NodeNames} {m : Numbering A} {m' : Numbering A'} {k : A' → Numbering B'}
    → Numbers S t u t1 u1 es es' m m' → ((a : A) (a' : A') → S a a' → Numbers (λ (z : Unit {0}) b. T a b) t1 u1 t2 u2 fs fs' (give tt) (k a')) → Numbers T t u t2 u2 (es ++ fs) (es' ++ fs') m (numbering.and_then m' k)
second_last {es = es} {es' = es'} {fs = fs} {fs' = fs'} {m = m} {m' = m'} N K = record {
  holds = λ c c' rest rest' q e e'.
      let x = N.holds c c' (fs ++ rest) (fs' ++ rest') q (e ∙ append_assoc es fs rest) (e' ∙ append_assoc es' fs' rest') in
      let y = (K (m c).0 (m' c').0 x.like).holds (m c).1 (m' c').1 rest rest' x.cursors x.left x.left' in
      record { like = y.like; cursors = y.cursors; left = y.left; left' = y.left' };
}

-- an entry, and a variable
pub second_entry : (x : NodeNames) {t u : ItemNames} → Numbers (λ (z : Unit {0}) a. a ≡ (x.numbers, x.hidden)) t u t (with_names x u) [] (x ∷ []) (give tt) an_entry
second_entry x = record {
  holds = λ c c' rest rest' q e e'. record {
    like = taken_next x rest' c' e';
    cursors = record { declared = q.declared; declared' = taken_declared x rest' c' e' ∙ q.declared'; loops = q.loops; loops' = taken_loops x rest' c' e' ∙ q.loops' };
    left = e;
    left' = taken_names x rest' c' e';
  };
}

pub second_declare : {t u : ItemNames} (s : Span) (d : Declaration) → Numbers (λ (z : Unit {0}) (a : ℕ). Unit {0}) t u t (with_variable s u) [] [] (give tt) (declare d)
second_declare {u = u} s d = record {
  holds = λ c c' rest rest' q e e'. record {
    like = tt;
    cursors = record { declared = q.declared; declared' = ap suc q.declared' ∙ sym (one_more u.vars s); loops = q.loops; loops' = q.loops' };
    left = e;
    left' = e';
  };
}

-- ---- the first goes on alone

pub first_entry : (x : NodeNames) {t u : ItemNames} → Numbers (λ a (z : Unit {0}). a ≡ (x.numbers, x.hidden)) t u (with_names x t) u (x ∷ []) [] an_entry (give tt)
first_entry x = record {
  holds = λ c c' rest rest' q e e'. record {
    like = taken_next x rest c e;
    cursors = record { declared = taken_declared x rest c e ∙ q.declared; declared' = q.declared'; loops = taken_loops x rest c e ∙ q.loops; loops' = q.loops' };
    left = taken_names x rest c e;
    left' = e';
  };
}

pub first_first : {A B B' : Type 0} {S : A → Unit {0} → Type 0} {T : B → B' → Type 0} {t u t1 u1 t2 u2 : ItemNames} {es es' fs fs' : List NodeNames} {m : Numbering A} {m' : Numbering B'} {k : A → Numbering B}
    → Numbers S t u t1 u1 es es' m (give tt) → ((a : A) → S a tt → Numbers T t1 u1 t2 u2 fs fs' (k a) m') → Numbers T t u t2 u2 (es ++ fs) (es' ++ fs') (numbering.and_then m k) m'
first_first {es = es} {es' = es'} {fs = fs} {fs' = fs'} {m = m} N K = record {
  holds = λ c c' rest rest' q e e'.
      let x = N.holds c c' (fs ++ rest) (fs' ++ rest') q (e ∙ append_assoc es fs rest) (e' ∙ append_assoc es' fs' rest') in
      (K (m c).0 x.like).holds (m c).1 c' rest rest' x.cursors x.left x.left';
}

-- what it gives, it gives without a step
pub first_gives : {A B' : Type 0} {S : B' → Type 0} {T : A → B' → Type 0} {t u t1 u1 : ItemNames} {es es' : List NodeNames} {m' : Numbering B'} (a : A)
    → Numbers (λ (z : Unit {0}) b. S b) t u t1 u1 es es' (give tt) m' → ((b : B') → S b → T a b) → Numbers T t u t1 u1 es es' (give a) m'
first_gives {m' = m'} a N K = record { holds = λ c c' rest rest' q e e'. let x = N.holds c c' rest rest' q e e' in record { like = K (m' c').0 x.like; cursors = x.cursors; left = x.left; left' = x.left' } }

-- what it makes of what is alike
pub first_map : {A B A' : Type 0} {S : A → A' → Type 0} {T : B → A' → Type 0} {t u t1 u1 : ItemNames} {es es' : List NodeNames} {m : Numbering A} {m' : Numbering A'} (h : A → B)
    → Numbers S t u t1 u1 es es' m m' → ((a : A) (a' : A') → S a a' → T (h a) a') → Numbers T t u t1 u1 es es' (numbering.and_then m (λ a. give (h a))) m'
first_map {m = m} {m' = m'} h N K = record { holds = λ c c' rest rest' q e e'. let x = N.holds c c' rest rest' q e e' in record { like = K (m c).0 (m' c').0 x.like; cursors = x.cursors; left = x.left; left' = x.left' } }
