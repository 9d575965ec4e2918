-- What a part does, as its tree tells, is done where it is numbered: variables and loops that stand in front are untouched but for these.
use Rattle.std.specs.Prelude.{◌==◌}
use Rattle.std.proofs.Common.{◌≡◌, ◌+◌, ◌≤◌, ◌<◌, ◌⊎◌, inl, inr, ℕ, zero, suc, Bool, true, false, ◌&&◌, ◌||◌, ◌-◌, List, [], ◌∷◌, ◌++◌, length, Option, Some, None, option_map, slice_get, slice_set, get_or, refl, sym, ap, ◌∙◌, subst, append-nil, eq-eqb, eqb-true, arith}
use Rattle.rx_core.specs.declared.types.Span.{Span}
use Rattle.rx_tree.specs.declared.tree.Ident.{Ident}
use Rattle.rx_tree.specs.Plain as plain
use Rattle.rx_tree.specs.Plain.{TypeTree, TypeTrees, PatternTree, PatternTrees, FieldPatterns, Expression, Expressions, OptionalExpression, OptionalExpressions, FieldExpressions, Statement, Statements}
use Rattle.rx_resolve_names.specs.declared.resolved.NodeNames.{NodeNames}
use Rattle.rx_typed.specs.declared.nodes.Declaration.{Declaration}
use Rattle.rx_typed.specs.declared.nodes.Node.{Node}
use Rattle.rx_typed.specs.declared.nodes.Site.{Site}
use Rattle.rx_typed.specs.declared.nodes.Stage.{Stage}
use Rattle.rx_typed.specs.Named as named
use Rattle.rx_typed.specs.Named.{never, Pattern, root, whole_binding, pattern_node}
use Rattle.rx_typed.specs.Naming as naming
use Rattle.rx_typed.specs.Naming.{Cursor, a_node, an_entry, as_known, not_declared, passed_on, taken}
use Rattle.rx_engine_changed.specs.Deeds.{also, assigned, awaited, awaited_if, begins, declares, gives_type, leads_to, left_if, nothing, settled_if, Deeds}
use Rattle.rx_engine_changed.specs.Deeds as deeds
use Rattle.rx_engine_changed.specs.Stages.{is_waiting, waits_there}
use Rattle.rx_engine_changed.proofs.Lists.{becomes_known, known_length, older_at, one_longer, set_elsewhere, set_many, set_there, stays_known, Within}
use Rattle.rx_engine_changed.proofs.Steps.{same_or_not, within_or_not, Decided, so, not_so}

-- these are the numbers from a on, before b
abbrev pub AreFrom : ℕ → List ℕ → ℕ → Type 0
AreFrom a [] b = b ≡ a
AreFrom a (x ∷ xs) b = (x ≡ a) × AreFrom (suc a) xs b

pub from_above : (xs : List ℕ) (a b : ℕ) → AreFrom a xs b → a ≤ b
from_above [] a b h = omega (arith, h)
from_above (x ∷ xs) a b h = let k = from_above xs (suc a) b h.1 in omega (arith, k)

from_on : (xs ys : List ℕ) (a b c : ℕ) → AreFrom a xs b → AreFrom b ys c → AreFrom a (xs ++ ys) c
from_on [] ys a b c h k = subst (λ (n : ℕ). AreFrom n ys c) h k
from_on (x ∷ xs) ys a b c h k = (h.0, from_on xs ys (suc a) b c h.1 k)

from_end : (xs : List ℕ) (a b : ℕ) → AreFrom a xs b → b ≡ a + length xs
from_end [] a b h = omega (arith, h)
from_end (x ∷ xs) a b h = let k = from_end xs (suc a) b h.1 in omega (arith, k)

-- the same numbers stand between the same, or there are none
pub from_same : (xs : List ℕ) (a b e f : ℕ) → AreFrom a xs b → AreFrom e xs f → ((a ≡ e) × (b ≡ f)) ⊎ ((b ≡ a) × (f ≡ e))
from_same [] a b e f h k = inr (h, k)
from_same (x ∷ xs) a b e f h k =
    let p = h.0 in let q = k.0 in let y = from_end xs (suc a) b h.1 in let z = from_end xs (suc e) f k.1 in
    let s : a ≡ e = omega (arith, p, q) in inl (s, omega (arith, s, y, z))

or-false : (z : Bool) → (z || false) ≡ z
or-false true = refl
or-false false = refl

-- a variable that waits has its type
settled_there : (vs : List Declaration) (n : ℕ) → slice_get (slice_set vs n (record (get_or vs n not_declared) { stage = Stage.Known })) n ≡ option_map as_known (slice_get vs n)
settled_there [] n = refl
settled_there (v ∷ vs) zero = refl
settled_there (v ∷ vs) (suc n) = settled_there vs n

unlike : (k l : ℕ) → (k ≡ l → ⊥) → (k == l) ≡ false
unlike k l w = by (k == l) refl
  where
    by : (z : Bool) → (k == l) ≡ z → (k == l) ≡ false
    by false e = e
    by true e = absurd (w (eqb-true k l e))

-- ---- nothing is done

pub record Same (c c' : Cursor) : Type 0 where
  pub declared : c'.declared ≡ c.declared
  pub variables : c'.variables ≡ c.variables
  pub loops : c'.loops ≡ c.loops

same_on : {c c1 c2 : Cursor} → Same c c1 → Same c1 c2 → Same c c2
same_on s t = record { declared = t.declared ∙ s.declared; variables = t.variables ∙ s.variables; loops = t.loops ∙ s.loops }

pub node : (s : Span) (t : Site) (c : Cursor) → Same c (a_node s t c).1
node s t c = record { declared = refl; variables = refl; loops = refl }

pub entry : (c : Cursor) → Same c (an_entry c).1
entry c = by c.names
  where
    by : (xs : List NodeNames) → Same c (taken xs c).1
    by [] = record { declared = refl; variables = refl; loops = refl }
    by (x ∷ xs) = record { declared = refl; variables = refl; loops = refl }

pub annotation : (p : PatternTree) (y : Option TypeTree) (c : Cursor) → Same c (naming.annotates p y c).1
annotation p None c = record { declared = refl; variables = refl; loops = refl }
annotation p (Some y) c = record { declared = refl; variables = refl; loops = refl }

lifetime : (l : Option Ident) (c : Cursor) → Same c (naming.lifetime_entry l c).1
lifetime None c = record { declared = refl; variables = refl; loops = refl }
lifetime (Some l) c = entry c

mutual
  a_type : (y : TypeTree) (c : Cursor) → Same c (naming.of_type y c).1
  a_type (plain.kind_type s k) c = node s Site.Value c
  a_type (plain.bool_type s) c = node s Site.Value c
  a_type (plain.tuple_type s ts) c = same_on (node s Site.Value c) (types ts _)
  a_type (plain.ref_type s l m y) c = same_on (node s Site.Value c) (same_on (lifetime l _) (a_type y _))
  a_type (plain.named_type s x ls) c = same_on (node s Site.Value c) (entry _)

  types : (ys : TypeTrees) (c : Cursor) → Same c (naming.of_types ys c).1
  types plain.no_type c = record { declared = refl; variables = refl; loops = refl }
  types (plain.type_and y ys) c = same_on (a_type y c) (types ys _)

pub optional_type : (y : Option TypeTree) (c : Cursor) → Same c (naming.of_optional_type y c).1
optional_type None c = record { declared = refl; variables = refl; loops = refl }
optional_type (Some y) c = a_type y c

-- ---- what is done

-- variables below b stand in front
pub record Ready (b : ℕ) (c : Cursor) : Type 0 where
  pub counted : length c.variables ≡ c.declared
  pub above : b ≤ c.declared

-- what stands in front of it, and all that was declared
pub record KeptInFront (b : ℕ) (f : Deeds) (c c' : Cursor) : Type 0 where
  pub counted : length c'.variables ≡ c'.declared
  pub settled : (n : ℕ) → n < b → slice_get c'.variables n ≡ settled_if (f.settles n) (slice_get c.variables n)
  pub waited : (n : ℕ) → n < b → f.settles n ≡ true → waits_there (slice_get c.variables n) ≡ true
  -- one that waits gets its type where it is assigned
  pub assigned : (n : ℕ) → n < b → waits_there (slice_get c.variables n) ≡ true → f.settles n ≡ f.assigns n
  -- what waits behind waits in front, or from a `let` on
  pub awaited : (n : ℕ) → waits_there (slice_get c'.variables n) ≡ true → (waits_there (slice_get c.variables n) || f.awaits n) ≡ true

pub record Does (b : ℕ) (f : Deeds) (c c' : Cursor) : Type 0 where
  pub variables : AreFrom c.declared f.variables c'.declared
  pub loops : AreFrom (length c.loops) f.loops (length c'.loops)
  pub left : (l : ℕ) → l < length c.loops → slice_get c'.loops l ≡ left_if (f.leaves l) (slice_get c.loops l)
  pub kept : Ready b c → KeptInFront b f c c'

waited_on : (z y : Bool) (o o1 : Option Declaration) → o1 ≡ settled_if z o → (z ≡ true → waits_there o ≡ true) → (y ≡ true → waits_there o1 ≡ true) → (z || y) ≡ true → waits_there o ≡ true
waited_on true y o o1 e h k w = h refl
waited_on false y o o1 e h k w = ap waits_there (sym e) ∙ k w

-- a variable that waits is declared
waiting_there : (vs : List Declaration) (x n : ℕ) (w : ℕ × ℕ) → Some w ≡ naming.waiting n (get_or vs x not_declared).stage → waits_there (slice_get vs x) ≡ true
waiting_there [] x n w e = absurd (cc)
waiting_there (v ∷ vs) (suc x) n w e = waiting_there vs x n w e
waiting_there (v ∷ vs) zero n w e = by v.stage e
  where
    by : (s : Stage) → Some w ≡ naming.waiting n s → is_waiting s ≡ true
    by (Stage.Waits p z) e = refl
    by Stage.Known e = absurd (cc)
    by Stage.Given e = absurd (cc)

-- a variable of which nothing waits doesn't wait
no_waiting_there : (vs : List Declaration) (x n : ℕ) → None ≡ naming.waiting n (get_or vs x not_declared).stage → waits_there (slice_get vs x) ≡ false
no_waiting_there [] x n e = refl
no_waiting_there (v ∷ vs) (suc x) n e = no_waiting_there vs x n e
no_waiting_there (v ∷ vs) zero n e = by v.stage e
  where
    by : (s : Stage) → None ≡ naming.waiting n s → is_waiting s ≡ false
    by (Stage.Waits p z) e = absurd (cc)
    by Stage.Known e = refl
    by Stage.Given e = refl

settled_twice : (p q : Bool) (o : Option Declaration) → settled_if q (settled_if p o) ≡ settled_if (p || q) o
settled_twice false q o = refl
settled_twice true false o = refl
settled_twice true true None = refl
settled_twice true true (Some d) = refl

left_twice : (p q : Bool) (o : Option Bool) → left_if q (left_if p o) ≡ left_if (p || q) o
left_twice false q o = refl
left_twice true false o = refl
left_twice true true None = refl
left_twice true true (Some d) = refl

assigned_on : (z y u v : Bool) (o o1 : Option Declaration) → o1 ≡ settled_if z o → waits_there o ≡ true → z ≡ u → (waits_there o1 ≡ true → y ≡ v) → (z || y) ≡ (u || v)
assigned_on true y u v o o1 e w h k = ap (λ (x : Bool). x || v) h
assigned_on false y u v o o1 e w h k = k (ap waits_there e ∙ w) ∙ ap (λ (x : Bool). x || v) h

awaited_on : (z y u v : Bool) → (z ≡ true → (y || u) ≡ true) → (z || v) ≡ true → (y || (u || v)) ≡ true
awaited_on z true u v h k = refl
awaited_on true false true v h k = refl
awaited_on true false false v h k = let e = h refl in absurd (cc)
awaited_on false false true v h k = refl
awaited_on false false false v h k = k

or_first : (z y : Bool) → z ≡ true → (z || y) ≡ true
or_first z y e = ap (λ (x : Bool). x || y) e

or_last : (z y : Bool) → y ≡ true → (z || y) ≡ true
or_last true y e = refl
or_last false y e = e

-- one more that doesn't wait
more_waits : (vs : List Declaration) (d : Declaration) (n : ℕ) → is_waiting d.stage ≡ false → waits_there (slice_get (vs ++ d ∷ []) n) ≡ true → waits_there (slice_get vs n) ≡ true
more_waits [] d zero e w = absurd (let h = sym e ∙ w in cc)
more_waits [] d (suc n) e w = absurd (let h : false ≡ true = w in cc)
more_waits (v ∷ vs) d zero e w = w
more_waits (v ∷ vs) d (suc n) e w = more_waits vs d n e w

known_waits_not : (o : Option Declaration) → waits_there (option_map as_known o) ≡ false
known_waits_not None = refl
known_waits_not (Some d) = refl

module _ (b : ℕ) where
  abbrev pub Step : Deeds → Cursor → Cursor → Type 0
  Step f c c' = Does b f c c'

  ready_on : {f : Deeds} {c c' : Cursor} → Ready b c → Does b f c c' → Ready b c'
  ready_on {f} {c} {c'} r d = record { counted = (d.kept r).counted; above = let x = from_above f.variables c.declared c'.declared d.variables in let y = r.above in omega (arith, x, y) }

  pub does_on : {f g : Deeds} {c c1 c2 : Cursor} → Step f c c1 → Step g c1 c2 → Step (also f g) c c2
  does_on {f} {g} {c} {c1} {c2} x y = record {
    variables = from_on f.variables g.variables c.declared c1.declared c2.declared x.variables y.variables;
    loops = from_on f.loops g.loops (length c.loops) (length c1.loops) (length c2.loops) x.loops y.loops;
    left = λ l h. y.left l (let k = from_above f.loops (length c.loops) (length c1.loops) x.loops in omega (arith, h, k)) ∙ ap (left_if (g.leaves l)) (x.left l h) ∙ left_twice (f.leaves l) (g.leaves l) (slice_get c.loops l);
    kept = λ r. let p = x.kept r in let q = y.kept (ready_on r x) in record {
      counted = q.counted;
      settled = λ n h. q.settled n h ∙ ap (settled_if (g.settles n)) (p.settled n h) ∙ settled_twice (f.settles n) (g.settles n) (slice_get c.variables n);
      waited = λ n h e. waited_on (f.settles n) (g.settles n) (slice_get c.variables n) (slice_get c1.variables n) (p.settled n h) (p.waited n h) (q.waited n h) e;
      assigned = λ n h e. assigned_on (f.settles n) (g.settles n) (f.assigns n) (g.assigns n) (slice_get c.variables n) (slice_get c1.variables n) (p.settled n h) e (p.assigned n h e) (q.assigned n h);
      awaited = λ n e. awaited_on (waits_there (slice_get c1.variables n)) (waits_there (slice_get c.variables n)) (f.awaits n) (g.awaits n) (p.awaited n) (q.awaited n e);
    };
  }

  pub does_nothing : {c c' : Cursor} → Same c c' → Step nothing c c'
  does_nothing {c = c} s = record {
    variables = s.declared;
    loops = ap length s.loops;
    left = λ l h. ap (λ (k : List Bool). slice_get k l) s.loops;
    kept = λ r. record {
      counted = ap length s.variables ∙ r.counted ∙ sym s.declared;
      settled = λ n h. ap (λ (l : List Declaration). slice_get l n) s.variables;
      waited = λ n h e. absurd (cc);
      assigned = λ n h e. refl;
      awaited = λ n e. or_first (waits_there (slice_get c.variables n)) false (sym (ap (λ (l : List Declaration). waits_there (slice_get l n)) s.variables) ∙ e);
    };
  }

  pub behind : {f : Deeds} {c c1 c2 : Cursor} → Same c c1 → Step f c1 c2 → Step f c c2
  behind {f} {c} {c1} {c2} s y = record {
    variables = subst (λ (n : ℕ). AreFrom n f.variables c2.declared) s.declared y.variables;
    loops = subst (λ (l : List Bool). AreFrom (length l) f.loops (length c2.loops)) s.loops y.loops;
    left = λ l h. y.left l (subst (λ (k : List Bool). l < length k) (sym s.loops) h) ∙ ap (λ (k : List Bool). left_if (f.leaves l) (slice_get k l)) s.loops;
    kept = λ r. let p = y.kept (record { counted = ap length s.variables ∙ r.counted ∙ sym s.declared; above = subst (λ (n : ℕ). b ≤ n) (sym s.declared) r.above }) in record {
      counted = p.counted;
      settled = λ n h. p.settled n h ∙ ap (λ (l : List Declaration). settled_if (f.settles n) (slice_get l n)) s.variables;
      waited = λ n h e. ap (λ (l : List Declaration). waits_there (slice_get l n)) (sym s.variables) ∙ p.waited n h e;
      assigned = λ n h e. p.assigned n h (ap (λ (l : List Declaration). waits_there (slice_get l n)) s.variables ∙ e);
      awaited = λ n e. ap (λ (l : List Declaration). waits_there (slice_get l n) || f.awaits n) (sym s.variables) ∙ p.awaited n e;
    };
  }

  ends : {f : Deeds} {c c1 c2 : Cursor} → Same c1 c2 → Step f c c1 → Step f c c2
  ends {f} {c} {c1} {c2} s y = record {
    variables = subst (λ (n : ℕ). AreFrom c.declared f.variables n) (sym s.declared) y.variables;
    loops = subst (λ (l : List Bool). AreFrom (length c.loops) f.loops (length l)) (sym s.loops) y.loops;
    left = λ l h. ap (λ (k : List Bool). slice_get k l) s.loops ∙ y.left l h;
    kept = λ r. let p = y.kept r in record {
      counted = ap length s.variables ∙ p.counted ∙ sym s.declared;
      settled = λ n h. ap (λ (l : List Declaration). slice_get l n) s.variables ∙ p.settled n h;
      waited = p.waited;
      assigned = p.assigned;
      awaited = λ n e. p.awaited n (ap (λ (l : List Declaration). waits_there (slice_get l n)) (sym s.variables) ∙ e);
    };
  }

  pub declare_does : (d : Declaration) (c : Cursor) → is_waiting d.stage ≡ false → Step (declares c.declared) c (naming.declare d c).1
  declare_does d c i = record {
    variables = (refl, refl);
    loops = refl;
    left = λ l h. refl;
    kept = λ r. record {
      counted = one_longer c.variables d ∙ ap suc r.counted;
      settled = λ n h. older_at c.variables d n (λ e. let a = r.above in let k = r.counted in absurd (omega (arith, h, a, k, e)));
      waited = λ n h e. absurd (cc);
      assigned = λ n h e. refl;
      awaited = λ n e. or_first (waits_there (slice_get c.variables n)) false (more_waits c.variables d n i e);
    };
  }

  pub loop_does : (c : Cursor) → Step (begins (length c.loops)) c (naming.a_loop c).1
  loop_does c = record {
    variables = refl;
    loops = (refl, one_longer c.loops false);
    left = λ l h. older_at c.loops false l (λ e. absurd (omega (arith, h, e)));
    kept = λ r. record { counted = r.counted; settled = λ n h. refl; waited = λ n h e. absurd (cc); assigned = λ n h e. refl; awaited = λ n e. or_first (waits_there (slice_get c.variables n)) false e };
  }

  leads_does : (l : ℕ) (c : Cursor) → Step (leads_to l) c (naming.led_to l c)
  leads_does l c = record {
    variables = refl;
    loops = set_many c.loops l true;
    left = λ k h. by k (same_or_not k l);
    kept = λ r. record { counted = r.counted; settled = λ n h. refl; waited = λ n h e. absurd (cc); assigned = λ n h e. refl; awaited = λ n e. or_first (waits_there (slice_get c.variables n)) false e };
  }
    where
      by : (k : ℕ) → Decided (k ≡ l) → slice_get (slice_set c.loops l true) k ≡ left_if (k == l) (slice_get c.loops k)
      by k (so e) = ap (slice_get (slice_set c.loops l true)) e ∙ set_there c.loops l true ∙ ap (λ (n : ℕ). option_map (λ (x : Bool). true) (slice_get c.loops n)) (sym e) ∙ sym (ap (λ (z : Bool). left_if z (slice_get c.loops k)) (eq-eqb k l e))
      by k (not_so w) = set_elsewhere c.loops l k true w ∙ sym (ap (λ (z : Bool). left_if z (slice_get c.loops k)) (unlike k l w))

  -- ---- stages

  -- a variable that doesn't stand in front waits
  staged : {f : Deeds} {c : Cursor} (c1 : Cursor) (x : ℕ) (s : Stage) → (Ready b c → b ≤ x) → Step f c c1 → Step (also f (awaited (Some x))) c (naming.with_stage x s c1)
  staged {f} {c} c1 x s h y = record {
    variables = subst (λ (l : List ℕ). AreFrom c.declared l c1.declared) (sym (append-nil f.variables)) y.variables;
    loops = subst (λ (l : List ℕ). AreFrom (length c.loops) l (length c1.loops)) (sym (append-nil f.loops)) y.loops;
    left = λ l k. y.left l k ∙ ap (λ (z : Bool). left_if z (slice_get c.loops l)) (sym (or-false (f.leaves l)));
    kept = λ r. let p = y.kept r in let a = h r in record {
      counted = set_many c1.variables x (record (naming.declaration c1 x) { stage = s }) ∙ p.counted;
      settled = λ n k. set_elsewhere c1.variables x n (record (naming.declaration c1 x) { stage = s }) (λ e. absurd (omega (arith, a, k, e))) ∙ p.settled n k ∙ ap (λ (z : Bool). settled_if z (slice_get c.variables n)) (sym (or-false (f.settles n)));
      waited = λ n k e. p.waited n k (sym (or-false (f.settles n)) ∙ e);
      assigned = λ n k e. or-false (f.settles n) ∙ p.assigned n k e ∙ sym (or-false (f.assigns n));
      awaited = λ n e. by n (same_or_not n x) e (p.awaited n);
    };
  }
    where
      by : (n : ℕ) → Decided (n ≡ x) → waits_there (slice_get (slice_set c1.variables x (record (naming.declaration c1 x) { stage = s })) n) ≡ true
          → (waits_there (slice_get c1.variables n) ≡ true → (waits_there (slice_get c.variables n) || f.awaits n) ≡ true) → (waits_there (slice_get c.variables n) || (f.awaits n || (n == x))) ≡ true
      by n (so e) w k = or_last (waits_there (slice_get c.variables n)) (f.awaits n || (n == x)) (or_last (f.awaits n) (n == x) (eq-eqb n x e))
      by n (not_so u) w k = awaited_on true (waits_there (slice_get c.variables n)) (f.awaits n) (n == x)
          (λ i. k (ap waits_there (sym (set_elsewhere c1.variables x n (record (naming.declaration c1 x) { stage = s }) u)) ∙ w)) refl

  -- the same deeds, and nothing
  as_before : {f : Deeds} {c c1 : Cursor} → Step f c c1 → Step (also f nothing) c c1
  as_before h = does_on h (does_nothing (record { declared = refl; variables = refl; loops = refl }))

  waited : {f : Deeds} {c : Cursor} (c1 : Cursor) (n : Node) (o : Option ℕ) → (Ready b c → (x : ℕ) → o ≡ Some x → b ≤ x) → Step f c c1 → Step (also f (awaited o)) c (naming.waits_at n o c1).1
  waited c1 n None h p = as_before p
  waited c1 n (Some x) h p = staged c1 x (Stage.Waits n.number n.span) (λ r. h r x refl) p

  waited_if : {f : Deeds} {c : Cursor} (c1 : Cursor) (z : Bool) (p : Pattern) → (Ready b c → (x : ℕ) → whole_binding p ≡ Some x → b ≤ x) → Step f c c1 → Step (also f (awaited_if z p)) c (naming.waits_if z p c1).1
  waited_if c1 false p h s = as_before s
  waited_if c1 true p h s = waited c1 (pattern_node p) (whole_binding p) h s

  -- variables of a pattern become known
  pub became_known : {f : Deeds} {c : Cursor} (c1 : Cursor) (i j : ℕ) → i ≤ j → (Ready b c → b ≤ i) → Step f c c1 → Step f c (naming.known_between i j c1).1
  became_known c1 i j k h y = record {
    variables = y.variables;
    loops = y.loops;
    left = y.left;
    kept = λ r. let p = y.kept r in let a = h r in record {
      counted = known_length i (j - i) c1.variables ∙ p.counted;
      settled = λ n g. stays_known i j n c1.variables k (λ w. let v = w.0 in absurd (omega (arith, v, a, g))) ∙ p.settled n g;
      waited = p.waited;
      assigned = p.assigned;
      awaited = λ n e. p.awaited n (by n (within_or_not i j n) e);
    };
  }
    where
      by : (n : ℕ) → Decided (Within i j n) → waits_there (slice_get (naming.known_among i (j - i) c1.variables) n) ≡ true → waits_there (slice_get c1.variables n) ≡ true
      by n (so w) e = absurd (let h = sym (ap waits_there (becomes_known i j n c1.variables w) ∙ known_waits_not (slice_get c1.variables n)) ∙ e in cc)
      by n (not_so w) e = ap waits_there (sym (stays_known i j n c1.variables k w)) ∙ e

  none_waits : (x : ℕ) (c : Cursor) → None ≡ naming.waiting x (naming.declaration c x).stage → (n : ℕ) → Decided (n ≡ x) → waits_there (slice_get c.variables n) ≡ true → false ≡ (n == x)
  none_waits x c i n (so e) w = absurd (let h = no_waiting_there c.variables x x i in let k = ap (λ (j : ℕ). waits_there (slice_get c.variables j)) (sym e) ∙ w in let d = sym h ∙ k in cc)
  none_waits x c i n (not_so u) w = sym (unlike n x u)

  -- a variable that waits gets its type
  given_does : (x : ℕ) (o : Option (ℕ × ℕ)) (c : Cursor) → o ≡ naming.waiting x (naming.declaration c x).stage → Step (gives_type x (naming.given_here x o c).0) c (naming.given_here x o c).1
  given_does x None c i = record {
    variables = refl;
    loops = refl;
    left = λ l h. refl;
    kept = λ r. record { counted = r.counted; settled = λ n h. refl; waited = λ n h e. absurd (cc); assigned = λ n h e. none_waits x c i n (same_or_not n x) e; awaited = λ n e. or_first (waits_there (slice_get c.variables n)) false e };
  }
  given_does x (Some w) c i = record {
    variables = refl;
    loops = refl;
    left = λ l h. refl;
    kept = λ r. record {
      counted = set_many c.variables x (record (naming.declaration c x) { stage = Stage.Known }) ∙ r.counted;
      settled = λ n h. by n (same_or_not n x);
      waited = λ n h e. ap (λ (k : ℕ). waits_there (slice_get c.variables k)) (eqb-true n x e) ∙ waiting_there c.variables x x w i;
      assigned = λ n h e. refl;
      awaited = λ n e. or_first (waits_there (slice_get c.variables n)) false (still n (same_or_not n x) e);
    };
  }
    where
      by : (n : ℕ) → Decided (n ≡ x) → slice_get (slice_set c.variables x (record (naming.declaration c x) { stage = Stage.Known })) n ≡ settled_if (n == x) (slice_get c.variables n)
      by n (so e) =
          ap (slice_get (slice_set c.variables x (record (naming.declaration c x) { stage = Stage.Known }))) e ∙ settled_there c.variables x ∙ ap (λ (k : ℕ). option_map as_known (slice_get c.variables k)) (sym e)
          ∙ sym (ap (λ (z : Bool). settled_if z (slice_get c.variables n)) (eq-eqb n x e))
      by n (not_so w) = set_elsewhere c.variables x n (record (naming.declaration c x) { stage = Stage.Known }) w ∙ sym (ap (λ (z : Bool). settled_if z (slice_get c.variables n)) (unlike n x w))

      still : (n : ℕ) → Decided (n ≡ x) → waits_there (slice_get (slice_set c.variables x (record (naming.declaration c x) { stage = Stage.Known })) n) ≡ true → waits_there (slice_get c.variables n) ≡ true
      still n (so e) w = absurd (let h = sym (ap (λ (k : ℕ). waits_there (slice_get (slice_set c.variables x (record (naming.declaration c x) { stage = Stage.Known })) k)) e ∙ ap waits_there (settled_there c.variables x) ∙ known_waits_not (slice_get c.variables x)) ∙ w in cc)
      still n (not_so u) w = ap waits_there (sym (set_elsewhere c.variables x n (record (naming.declaration c x) { stage = Stage.Known }) u)) ∙ w

  -- ---- patterns

  mutual
    pub pattern_does : (p : PatternTree) (c : Cursor) → Step (deeds.of_pattern (naming.of_pattern p c).0) c (naming.of_pattern p c).1
    pattern_does (plain.wild s) c = does_nothing (node s Site.Value c)
    pattern_does (plain.bind s x m) c = behind (same_on (node s Site.Value c) (entry _)) (declare_does (record { mutable = m; stage = Stage.Given }) (an_entry (a_node s Site.Value c).1).1 refl)
    pattern_does (plain.int_pattern s g v k) c = does_nothing (node s Site.Value c)
    pattern_does (plain.bool_pattern s z) c = does_nothing (node s Site.Value c)
    pattern_does (plain.tuple_pattern s ps) c = behind (node s Site.Value c) (patterns_does ps _)
    pattern_does (plain.variant_pattern s a v ps) c = behind (same_on (node s Site.Value c) (entry _)) (patterns_does ps _)
    pattern_does (plain.make_pattern s x fs) c = behind (same_on (node s Site.Value c) (entry _)) (field_patterns_does fs _)

    patterns_does : (ps : PatternTrees) (c : Cursor) → Step (deeds.of_patterns (naming.of_patterns ps c).0) c (naming.of_patterns ps c).1
    patterns_does plain.no_pattern c = does_nothing (record { declared = refl; variables = refl; loops = refl })
    patterns_does (plain.pattern_and p ps) c = does_on (pattern_does p c) (patterns_does ps _)

    field_patterns_does : (fs : FieldPatterns) (c : Cursor) → Step (deeds.of_field_patterns (naming.of_field_patterns fs c).0) c (naming.of_field_patterns fs c).1
    field_patterns_does plain.no_field_pattern c = does_nothing (record { declared = refl; variables = refl; loops = refl })
    field_patterns_does (plain.field_pattern_and x p fs) c = does_on (pattern_does p c) (field_patterns_does fs _)

  some_is : (n m : ℕ) → ◌≡◌ {A = Option ℕ} (Some n) (Some m) → n ≡ m
  some_is n m e = cc

  none_is : (m : ℕ) → ◌≡◌ {A = Option ℕ} None (Some m) → ⊥
  none_is m e = cc

  -- the variable of a whole pattern is its first
  whole_above : (p : PatternTree) (c : Cursor) (x : ℕ) → whole_binding (naming.of_pattern p c).0 ≡ Some x → c.declared ≤ x
  whole_above (plain.bind s y m) c x e = let k = (entry (a_node s Site.Value c).1).declared in let h = some_is _ x e in omega (arith, h, k)
  whole_above (plain.wild s) c x e = absurd (none_is x e)
  whole_above (plain.int_pattern s g v k) c x e = absurd (none_is x e)
  whole_above (plain.bool_pattern s z) c x e = absurd (none_is x e)
  whole_above (plain.tuple_pattern s ps) c x e = absurd (none_is x e)
  whole_above (plain.variant_pattern s a v ps) c x e = absurd (none_is x e)
  whole_above (plain.make_pattern s y fs) c x e = absurd (none_is x e)

  pub pattern_above : (p : PatternTree) (c : Cursor) → c.declared ≤ (naming.of_pattern p c).1.declared
  pattern_above p c = from_above (deeds.of_pattern (naming.of_pattern p c).0).variables c.declared (naming.of_pattern p c).1.declared (pattern_does p c).variables

  whole_from : (p : PatternTree) (c : Cursor) → Ready b c → (x : ℕ) → whole_binding (naming.of_pattern p c).0 ≡ Some x → b ≤ x
  whole_from p c r x e = let h = whole_above p c x e in let a = r.above in omega (arith, h, a)

  -- ---- expressions

  abbrev ExpDoes : Expression → Type 0
  ExpDoes e = (m : Bool) (t : Site) (c : Cursor) → Step (deeds.of_exp (naming.of_expression m t e c).0) c (naming.of_expression m t e c).1

  -- a place that is one node does nothing, another is no variable
  data OneNode (p : Expression) (c : Cursor) : Option (ℕ × ℕ) → Type 0 where
    a_variable : (x : ℕ) → Same c (naming.of_expression false Site.Place p c).1 → (o : Option (ℕ × ℕ)) → o ≡ naming.waiting x (naming.declaration (naming.of_expression false Site.Place p c).1 x).stage
        → assigned (naming.of_expression false Site.Place p c).0 ≡ record nothing { assigns = λ n. n == x } → OneNode p c o
    no_variable : assigned (naming.of_expression false Site.Place p c).0 ≡ nothing → OneNode p c None

  not_called : (n : Node) (k : List ℕ × Bool) (f : Site → naming.Numbering named.Exps) (c : Cursor) → assigned (naming.called n k f c).0 ≡ nothing
  not_called n (ns, true) f c = refl
  not_called n (ns, false) f c = refl

  not_assigned : (n : Node) (p : named.Exp) (o : Option (ℕ × ℕ)) (f : Site → naming.Numbering named.Exp) (c : Cursor) → assigned (naming.assigned n p o f c).0 ≡ nothing
  not_assigned n p None f c = refl
  not_assigned n p (Some w) f c = refl

  one_node : (p : Expression) (c : Cursor) → OneNode p c (naming.waits_in p (root (naming.of_expression false Site.Place p c).0).number (naming.of_expression false Site.Place p c).1)
  one_node (plain.var s x) c = a_variable (naming.first (an_entry (a_node s Site.Place c).1).0.0) (same_on (node s Site.Place c) (entry _)) _ refl refl
  one_node (plain.call s g es) c = no_variable (not_called (a_node s Site.Place c).0 (an_entry (a_node s Site.Place c).1).0 (λ u. naming.of_expressions u es) (an_entry (a_node s Site.Place c).1).1)
  one_node (plain.assign s p e) c = no_variable (not_assigned (a_node s Site.Place c).0 _ _ (λ u. naming.of_expression false u e) _)
  one_node _ c = no_variable refl

  -- one that doesn't wait is assigned
  is_assigned : (x : ℕ) (f : Deeds) (c : Cursor) → None ≡ naming.waiting x (naming.declaration c x).stage → f ≡ record nothing { assigns = λ n. n == x } → Step f c c
  is_assigned x f c i e = subst (λ (g : Deeds). Step g c c) (sym e) (given_does x None c i)

  assigned_does : (n : Node) (p e : Expression) (c : Cursor) → ExpDoes p → ExpDoes e → (o : Option (ℕ × ℕ)) → OneNode p c o
      → Step (deeds.of_exp (naming.assigned n (naming.of_expression false Site.Place p c).0 o (λ u. naming.of_expression false u e) (naming.of_expression false Site.Place p c).1).0) c
      (naming.assigned n (naming.of_expression false Site.Place p c).0 o (λ u. naming.of_expression false u e) (naming.of_expression false Site.Place p c).1).1
  assigned_does n p e c dp de None (a_variable x h o i k) = does_on (dp false Site.Place c) (does_on (is_assigned x _ _ i k) (de false Site.Expects _))
  assigned_does n p e c dp de None (no_variable k) =
      does_on (dp false Site.Place c) (does_on (subst (λ (g : Deeds). Step g (naming.of_expression false Site.Place p c).1 (naming.of_expression false Site.Place p c).1) (sym k) (does_nothing (record { declared = refl; variables = refl; loops = refl }))) (de false Site.Expects _))
  assigned_does n p e c dp de (Some w) (a_variable x h o i k) =
      let q = (naming.of_expression false Site.Place p c).1 in let E = (naming.of_expression false Site.Reborrows e q).1 in
      behind h (does_on (de false Site.Reborrows q) (given_does w.0 (naming.waiting w.0 (naming.declaration E w.0).stage) E refl))

  called_does : (n : Node) (es : Expressions) (c : Cursor) → ((t : Site) (c : Cursor) → Step (deeds.of_exps (naming.of_expressions t es c).0) c (naming.of_expressions t es c).1) → (k : List ℕ × Bool)
      → Step (deeds.of_exp (naming.called n k (λ u. naming.of_expressions u es) c).0) c (naming.called n k (λ u. naming.of_expressions u es) c).1
  called_does n es c each (ns, true) = each Site.Value c
  called_does n es c each (ns, false) = each Site.Expects c

  -- a `let` behind its node
  declared_does : (p : PatternTree) (y : Option TypeTree) (c : Cursor) →
      let P = naming.of_pattern p c in let Y = naming.of_optional_type y P.1 in Step (also (deeds.of_pattern P.0) (awaited_if (naming.has_no_type Y.0) P.0)) c (naming.waits_if (naming.has_no_type Y.0) P.0 (naming.known_between c.declared P.1.declared Y.1).1).1
  declared_does p y c =
      let P = naming.of_pattern p c in let Y = naming.of_optional_type y P.1 in
      waited_if (naming.known_between c.declared P.1.declared Y.1).1 (naming.has_no_type Y.0) P.0 (λ r. whole_from p c r)
      (became_known Y.1 c.declared P.1.declared (pattern_above p c) (λ r. r.above) (ends (optional_type y P.1) (pattern_does p c)))

  let_does : (p : PatternTree) (y : Option TypeTree) (e : Expression) (c : Cursor) → ExpDoes e →
      let P = naming.of_pattern p c in let Y = naming.of_optional_type y P.1 in let X = naming.of_expression false (naming.initialiser_site Y.0) e Y.1 in
      Step (also (also (deeds.of_pattern P.0) (deeds.of_exp X.0)) (awaited_if (naming.has_no_type Y.0 && never X.0) P.0)) c (naming.waits_if (naming.has_no_type Y.0 && never X.0) P.0 (naming.known_between c.declared P.1.declared X.1).1).1
  let_does p y e c de =
      let P = naming.of_pattern p c in let Y = naming.of_optional_type y P.1 in let X = naming.of_expression false (naming.initialiser_site Y.0) e Y.1 in
      waited_if (naming.known_between c.declared P.1.declared X.1).1 (naming.has_no_type Y.0 && never X.0) P.0 (λ r. whole_from p c r)
      (became_known X.1 c.declared P.1.declared (pattern_above p c) (λ r. r.above) (does_on (ends (optional_type y P.1) (pattern_does p c)) (de false (naming.initialiser_site Y.0) Y.1)))

  mutual
    pub exp_does : (e : Expression) → ExpDoes e
    exp_does (plain.int s v k) m t c = does_nothing (node s t c)
    exp_does (plain.bool s z) m t c = does_nothing (node s t c)
    exp_does (plain.tuple s es) m t c = behind (node s t c) (exps_does es Site.Value _)
    exp_does (plain.var s x) m t c = does_nothing (same_on (node s t c) (entry _))
    exp_does (plain.field s e x) m t c = behind (node s t c) (exp_does e false Site.Place _)
    exp_does (plain.part s e i) m t c = behind (node s t c) (exp_does e false Site.Place _)
    exp_does (plain.deref s e) m t c = behind (node s t c) (exp_does e false Site.Place _)
    exp_does (plain.negate s e) m t c = behind (node s t c) (exp_does e true Site.Value _)
    exp_does (plain.invert s e) m t c = behind (node s t c) (exp_does e false Site.Value _)
    exp_does (plain.borrow s k e) m t c = behind (node s t c) (exp_does e false Site.Place _)
    exp_does (plain.binary s o x y) m t c = behind (node s t c) (does_on (exp_does x false Site.Value _) (exp_does y false Site.Value _))
    exp_does (plain.assign s p e) m t c = behind (node s t c) (assigned_does (a_node s t c).0 p e (a_node s t c).1 (λ m t c. exp_does p m t c) (λ m t c. exp_does e m t c) _ (one_node p (a_node s t c).1))
    exp_does (plain.update s o p e) m t c = behind (node s t c) (does_on (exp_does p false Site.Place _) (exp_does e false Site.Value _))
    exp_does (plain.call s g es) m t c = behind (same_on (node s t c) (entry _)) (called_does (a_node s t c).0 es (an_entry (a_node s t c).1).1 (λ t c. exps_does es t c) (an_entry (a_node s t c).1).0)
    exp_does (plain.next_input s) m t c = does_nothing (same_on (node s t c) (entry _))
    exp_does (plain.variant s x v es) m t c = behind (same_on (node s t c) (entry _)) (arguments_does es _)
    exp_does (plain.make s x fs) m t c = behind (same_on (node s t c) (entry _)) (fields_does fs _)
    exp_does (plain.print s e) m t c = behind (node s t c) (exp_does e false Site.Value _)
    exp_does (plain.block s z) m t c = behind (node s t c) (body_does z (passed_on t) _)
    exp_does (plain.if s x z o) m t c =
        let X = naming.of_expression false Site.Value x (a_node s t c).1 in
        let B = naming.of_body (naming.branch_site t o) z X.1 in
        behind (node s t c) (does_on (does_on (exp_does x false Site.Value _) (body_does z (naming.branch_site t o) X.1)) (optional_does o (passed_on t) B.1))
    exp_does (plain.if_let s p e z o) m t c =
        let n = (a_node s t c).1 in
        let P = naming.of_pattern p n in
        let X = naming.of_expression false Site.Scrutinee e P.1 in
        let k = (naming.known_between n.declared P.1.declared X.1).1 in
        let B = naming.of_body (naming.branch_site t o) z k in
        behind (node s t c) (does_on (does_on (became_known X.1 n.declared P.1.declared (pattern_above p n) (λ r. r.above) (does_on (pattern_does p n) (exp_does e false Site.Scrutinee P.1))) (body_does z (naming.branch_site t o) k)) (optional_does o (passed_on t) B.1))
    exp_does (plain.match s e l) m t c =
        let X = naming.of_expression false Site.Scrutinee e (a_node s t c).1 in
        behind (node s t c) (does_on (exp_does e false Site.Scrutinee _) (arms_does l (passed_on t) X.1))
    exp_does (plain.loop s l z) m t c = let c1 = (a_node s t c).1 in behind (node s t c) (does_on (loop_does c1) (body_does z Site.Value (naming.a_loop c1).1))
    exp_does (plain.while s l x z) m t c =
        let c1 = (a_node s t c).1 in let c2 = (naming.a_loop c1).1 in
        behind (node s t c) (does_on (does_on (loop_does c1) (exp_does x false Site.Value c2)) (body_does z Site.Value (naming.of_expression false Site.Value x c2).1))
    exp_does (plain.while_let s l p e z) m t c =
        let c1 = (a_node s t c).1 in let c2 = (naming.a_loop c1).1 in
        let P = naming.of_pattern p c2 in
        let X = naming.of_expression false Site.Scrutinee e P.1 in
        let k = (naming.known_between c2.declared P.1.declared X.1).1 in
        behind (node s t c) (does_on (became_known X.1 c2.declared P.1.declared (pattern_above p c2) (λ r. r.above) (does_on (does_on (loop_does c1) (pattern_does p c2)) (exp_does e false Site.Scrutinee P.1))) (body_does z Site.Value k))
    exp_does (plain.break s l) m t c = let k = an_entry (a_node s t c).1 in behind (same_on (node s t c) (entry _)) (leads_does (naming.first k.0.0) k.1)
    exp_does (plain.continue s l) m t c = does_nothing (same_on (node s t c) (entry _))
    exp_does (plain.return s o) m t c = behind (node s t c) (optional_does o Site.Expects _)

    pub exps_does : (es : Expressions) (t : Site) (c : Cursor) → Step (deeds.of_exps (naming.of_expressions t es c).0) c (naming.of_expressions t es c).1
    exps_does plain.no_expression t c = does_nothing (record { declared = refl; variables = refl; loops = refl })
    exps_does (plain.expression_and e es) t c = does_on (exp_does e false t c) (exps_does es t _)

    pub optional_does : (o : OptionalExpression) (t : Site) (c : Cursor) → Step (deeds.of_else (naming.of_optional t o c).0) c (naming.of_optional t o c).1
    optional_does plain.absent t c = does_nothing (record { declared = refl; variables = refl; loops = refl })
    optional_does (plain.present e) t c = exp_does e false t c

    arguments_does : (es : OptionalExpressions) (c : Cursor) → Step (deeds.of_exps (naming.of_arguments es c).0) c (naming.of_arguments es c).1
    arguments_does plain.no_list c = does_nothing (record { declared = refl; variables = refl; loops = refl })
    arguments_does (plain.a_list es) c = exps_does es Site.Expects c

    pub fields_does : (fs : FieldExpressions) (c : Cursor) → Step (deeds.of_fields (naming.of_fields fs c).0) c (naming.of_fields fs c).1
    fields_does plain.no_field c = does_nothing (record { declared = refl; variables = refl; loops = refl })
    fields_does (plain.field_and x e fs) c = does_on (exp_does e false Site.Expects c) (fields_does fs _)

    pub arms_does : (l : plain.Arms) (t : Site) (c : Cursor) → Step (deeds.of_arms (naming.of_arms t l c).0) c (naming.of_arms t l c).1
    arms_does plain.no_arm t c = does_nothing (record { declared = refl; variables = refl; loops = refl })
    arms_does (plain.arm_and p e l) t c =
        let P = naming.of_pattern p c in
        let k = (naming.known_between c.declared P.1.declared P.1).1 in
        does_on (does_on (became_known P.1 c.declared P.1.declared (pattern_above p c) (λ r. r.above) (pattern_does p c)) (exp_does e false t k)) (arms_does l t _)

    pub body_does : (z : plain.Body) (t : Site) (c : Cursor) → Step (deeds.of_body (naming.of_body t z c).0) c (naming.of_body t z c).1
    body_does (plain.body s ss o) t c = behind (node s t c) (does_on (statements_does ss _) (optional_does o t _))

    pub statements_does : (ss : Statements) (c : Cursor) → Step (deeds.of_statements (naming.of_statements ss c).0) c (naming.of_statements ss c).1
    statements_does plain.no_statement c = does_nothing (record { declared = refl; variables = refl; loops = refl })
    statements_does (plain.statement_and x ss) c = does_on (statement_does x c) (statements_does ss _)

    pub statement_does : (x : Statement) (c : Cursor) → Step (deeds.of_statement (naming.of_statement x c).0) c (naming.of_statement x c).1
    statement_does (plain.let_statement s p y plain.absent) c = behind (same_on (node s Site.Value c) (annotation p y _)) (declared_does p y _)
    statement_does (plain.let_statement s p y (plain.present e)) c = behind (same_on (node s Site.Value c) (annotation p y _)) (let_does p y e _ (λ m t c. exp_does e m t c))
    statement_does (plain.expression_statement s e z) c = behind (node s Site.Value c) (exp_does e false Site.Value _)
