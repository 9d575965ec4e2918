-- What a walk over the tree leaves behind: variables whose types are known were told, none waits for its pattern's facts, and
-- the nodes were told, or wait for the type of a variable.
use Rattle.std.proofs.Common.{◌≡◌, ℕ, ◌+◌, ◌-◌, ◌≤◌, ◌<◌, Bool, true, false, List, [], ◌∷◌, ◌++◌, length, length-set, slice_set, Some, None, refl, sym, ap, subst, ◌∙◌, ◌⊎◌, inl, inr, ⊎_elim, arith}
use Rattle.rx_core.specs.declared.types.Span.{Span}
use Rattle.rx_tree.specs.Plain as plain
use Rattle.rx_tree.specs.Plain.{PatternTree}
use Rattle.rx_typed.specs.declared.nodes.Node.{Node}
use Rattle.rx_typed.specs.declared.nodes.Site.{Site}
use Rattle.rx_typed.specs.declared.nodes.Stage.{Stage}
use Rattle.rx_typed.specs.declared.nodes.Declaration.{Declaration}
use Rattle.rx_typed.specs.Named.{pattern_node}
use Rattle.rx_typed.specs.Naming as naming
use Rattle.rx_typed.specs.Naming.{Cursor, a_node, an_entry, declaration, known_among, of_pattern}
use Rattle.rx_typed.specs.Elaborated.{variables}
use Rattle.rx_typeck_solver.specs.declared.facts.Subject.TheVariants as subject
use Rattle.rx_typeck_solver.specs.declared.facts.Demand.{Demand}
use Rattle.rx_typeck_solver.specs.Facts.{Assignment, KnownItems}
use Rattle.rx_typeck_solver.specs.Valid.{IsIn}
use Rattle.rx_typeck_typed.specs.Demands as rules
use Rattle.rx_typeck_typed.specs.Nodes.{unless, pattern_nodes}
use Rattle.rx_typeck_typed.proofs.Adding.{Longer, longer_same, longer_then, one_variable_adds}
use Rattle.rx_typeck_typed.proofs.Telling.{Sure, sure_longer, sure_refused, in_join, PatternTold}
use Rattle.rx_typeck_typed.proofs.Stages.{stage, Counted, known_given, waits_given, waits_known, waits_no_given, waits_within, less_or, set_cases, among_cases, among_length, Still, entry_still, pattern_declares}

module _ (K : KnownItems) (A : Assignment) where
  -- the node was told, or a variable waits there for its type
  abbrev pub Later : Cursor → List Demand → ℕ → Type 0
  Later c ds n = Sure K A ds (subject.Node n) ⊎ ((x : ℕ) × (s : Span) × (stage c.variables x ≡ Stage.Waits n s))

  pub record Walk (c : Cursor) (ds : List Demand) (c' : Cursor) (ds' : List Demand) (ns : List ℕ) : Type 0 where
    pub longer : Longer ds ds'
    pub grows : c.declared ≤ c'.declared
    pub counted : Counted c'
    -- what waits goes on to wait, or the node where it does was told
    pub waits : (x n : ℕ) (s : Span) → stage c.variables x ≡ Stage.Waits n s → (stage c'.variables x ≡ Stage.Waits n s) ⊎ Sure K A ds' (subject.Node n)
    -- what waits did so before, or is new
    pub waiting : (x n : ℕ) (s : Span) → stage c'.variables x ≡ Stage.Waits n s → (stage c.variables x ≡ Stage.Waits n s) ⊎ (c.declared ≤ x)
    -- what is known was known before, or told
    pub known : (x : ℕ) → stage c'.variables x ≡ Stage.Known → (stage c.variables x ≡ Stage.Known) ⊎ Sure K A ds' (subject.Variable x)
    -- what is Given was so before
    pub given : (x : ℕ) → x < c'.declared → stage c'.variables x ≡ Stage.Given → (x < c.declared) × (stage c.variables x ≡ Stage.Given)
    pub nodes : (n : ℕ) → IsIn n ns → Later c' ds' n

  pub walk_then : {c c1 c2 : Cursor} {ds ds1 ds2 : List Demand} {ns ms : List ℕ} → Walk c ds c1 ds1 ns → Walk c1 ds1 c2 ds2 ms → Walk c ds c2 ds2 (ns ++ ms)
  walk_then {c} {c1} {c2} {ds} {ds1} {ds2} {ns} {ms} a b = record {
    longer = longer_then ds ds1 ds2 a.longer b.longer;
    grows = let p = a.grows in let q = b.grows in omega (arith, p, q);
    counted = b.counted;
    waits = λ x n s h. ⊎_elim (λ w. b.waits x n s w) (λ t. inr (sure_longer K A b.longer t)) (a.waits x n s h);
    waiting = λ x n s h. ⊎_elim (λ w. a.waiting x n s w) (λ l. let g = a.grows in inr (omega (arith, g, l))) (b.waiting x n s h);
    known = λ x h. ⊎_elim (λ k. ⊎_elim (λ j. inl j) (λ t. inr (sure_longer K A b.longer t)) (a.known x k)) (λ t. inr t) (b.known x h);
    given = λ x l h. let g = b.given x l h in a.given x g.0 g.1;
    nodes = λ n i. ⊎_elim (λ h. later n (a.nodes n h)) (λ h. b.nodes n h) (in_join n ns ms i);
  }
    where
      later : (n : ℕ) → Later c1 ds1 n → Later c2 ds2 n
      later n (inl t) = inl (sure_longer K A b.longer t)
      later n (inr w) = ⊎_elim (λ h. inr (w.0, w.1, h)) (λ t. inl t) (b.waits w.0 n w.1 w.2)

  -- the variables are as they were
  pub still_walk : (c c' : Cursor) (ds ds' : List Demand) → Counted c → Still c c' → Longer ds ds' → Walk c ds c' ds' []
  still_walk c c' ds ds' counted s l =
      let d = s.declared in
      let v = s.variables in
      let n : length c'.variables ≡ length c.variables = ap (λ (vs : List Declaration). length vs) v in record {
        longer = l;
        grows = omega (arith, d);
        counted = d ∙ counted ∙ sym n;
        waits = λ x n s h. inl (ap (λ (vs : List Declaration). stage vs x) v ∙ h);
        waiting = λ x n s h. inl (sym (ap (λ (vs : List Declaration). stage vs x) v) ∙ h);
        known = λ x h. inl (sym (ap (λ (vs : List Declaration). stage vs x) v) ∙ h);
        given = λ x l h. (omega (arith, l, d), sym (ap (λ (vs : List Declaration). stage vs x) v) ∙ h);
        nodes = λ n i. absurd i;
      }

  -- other nodes, which are among these
  pub walk_nodes : {c c' : Cursor} {ds ds' : List Demand} {ns : List ℕ} (ms : List ℕ) → ((n : ℕ) → IsIn n ms → IsIn n ns ⊎ Later c' ds' n) → Walk c ds c' ds' ns → Walk c ds c' ds' ms
  walk_nodes ms f a = record {
    longer = a.longer;
    grows = a.grows;
    counted = a.counted;
    waits = a.waits;
    waiting = a.waiting;
    known = a.known;
    given = a.given;
    nodes = λ n i. ⊎_elim (λ h. a.nodes n h) (λ h. h) (f n i);
  }

  -- more is asked
  pub walk_more : {c c' : Cursor} {ds ds1 ds2 : List Demand} {ns : List ℕ} → Walk c ds c' ds1 ns → Longer ds1 ds2 → Walk c ds c' ds2 ns
  walk_more {c} {c'} {ds} {ds1} {ds2} {ns} a l = record {
    longer = longer_then ds ds1 ds2 a.longer l;
    grows = a.grows;
    counted = a.counted;
    waits = λ x n s h. ⊎_elim (λ w. inl w) (λ t. inr (sure_longer K A l t)) (a.waits x n s h);
    waiting = a.waiting;
    known = λ x h. ⊎_elim (λ k. inl k) (λ t. inr (sure_longer K A l t)) (a.known x h);
    given = a.given;
    nodes = λ n i. ⊎_elim (λ t. inl (sure_longer K A l t)) (λ w. inr w) (a.nodes n i);
  }

  -- a node of its own, where it isn't Never
  pub walk_own : {c c' : Cursor} {ds ds' : List Demand} {ns : List ℕ} (v : Bool) (n : Node) → (v ≡ false → Sure K A ds' (subject.Node n.number)) → Walk c ds c' ds' ns → Walk c ds c' ds' (unless v n ++ ns)
  walk_own true n f a = a
  walk_own {c} {c'} {ds} {ds'} {ns} false n f a = walk_nodes (n.number ∷ ns) (λ m i. at m i) a
    where
      at : (m : ℕ) → IsIn m (n.number ∷ ns) → IsIn m ns ⊎ Later c' ds' m
      at m (inl e) = inr (inl (subst (λ k. Sure K A ds' (subject.Node k)) (sym e) (f refl)))
      at m (inr i) = inl i

  -- ---- the variables of a pattern

  -- what is in the scope of a pattern, behind which its variables are known
  record Scoped (c c' : Cursor) (ds ds' : List Demand) : Type 0 where
    counted : Counted c'
    grows : c.declared ≤ c'.declared
    waits : (x n : ℕ) (s : Span) → stage c.variables x ≡ Stage.Waits n s → (x < c.declared) × ((stage c'.variables x ≡ Stage.Waits n s) ⊎ Sure K A ds' (subject.Node n))
    waiting : (x n : ℕ) (s : Span) → stage c'.variables x ≡ Stage.Waits n s → (stage c.variables x ≡ Stage.Waits n s) ⊎ (c.declared ≤ x)
    given : (x : ℕ) → x < c'.declared → stage c'.variables x ≡ Stage.Given → (x < c.declared) × (stage c.variables x ≡ Stage.Given)

  scoped : (p : PatternTree) (c e : Cursor) (ds ds1 ds2 : List Demand) (ns : List ℕ) → Counted c → Walk (of_pattern p c).1 ds e ds1 ns → Longer ds1 ds2
      → Scoped c (naming.known_between c.declared (of_pattern p c).1.declared e).1 ds ds2
  scoped p c e ds ds1 ds2 ns counted w l =
      let P = (of_pattern p c).1 in
      let d = pattern_declares p c in
      let j = d.grows in
      let g = w.grows in
      let size = among_length c.declared (P.declared - c.declared) e.variables in record {
        counted = w.counted ∙ sym size;
        grows = omega (arith, j, g);
        waits = λ x n s h. let i = waits_within c.variables x n s h in (omega (arith, i, counted), kept x n s (omega (arith, i, counted)) (w.waits x n s (d.old x i ∙ h)));
        waiting = λ x n s h. still x n s h (among_cases c.declared (P.declared - c.declared) e.variables x);
        given = λ x i h. back x i h (among_cases c.declared (P.declared - c.declared) e.variables x);
      }
    where
      kept : (x n : ℕ) (s : Span) → x < c.declared → (stage e.variables x ≡ Stage.Waits n s) ⊎ Sure K A ds1 (subject.Node n)
          → (stage (known_among c.declared ((of_pattern p c).1.declared - c.declared) e.variables) x ≡ Stage.Waits n s) ⊎ Sure K A ds2 (subject.Node n)
      kept x n s i (inr t) = inr (sure_longer K A l t)
      kept x n s i (inl h) = ⊎_elim (λ a. let b = a.0 in absurd (omega (arith, b, i))) (λ a. inl (a.1 ∙ h)) (among_cases c.declared ((of_pattern p c).1.declared - c.declared) e.variables x)

      -- one that waits before the pattern's own
      older : (x n : ℕ) (s : Span) → stage (of_pattern p c).1.variables x ≡ Stage.Waits n s → stage c.variables x ≡ Stage.Waits n s
      older x n s h = ⊎_elim (λ i. sym ((pattern_declares p c).old x i) ∙ h) (λ i. waits_given n s (sym ((pattern_declares p c).new x i) ∙ h)) (less_or x (length c.variables))

      still : (x n : ℕ) (s : Span) → stage (known_among c.declared ((of_pattern p c).1.declared - c.declared) e.variables) x ≡ Stage.Waits n s
          → ((c.declared ≤ x) × (x < c.declared + ((of_pattern p c).1.declared - c.declared)) × (stage (known_among c.declared ((of_pattern p c).1.declared - c.declared) e.variables) x ≡ Stage.Known))
          ⊎ (((x < c.declared) ⊎ ((c.declared + ((of_pattern p c).1.declared - c.declared) ≤ x) ⊎ (length e.variables ≤ x))) × (stage (known_among c.declared ((of_pattern p c).1.declared - c.declared) e.variables) x ≡ stage e.variables x))
          → (stage c.variables x ≡ Stage.Waits n s) ⊎ (c.declared ≤ x)
      still x n s h (inl a) = inr (a.0)
      still x n s h (inr a) = ⊎_elim (λ i. inl (older x n s i)) (λ i. let g = (pattern_declares p c).grows in inr (omega (arith, g, i))) (w.waiting x n s (sym a.1 ∙ h))

      outside : (x : ℕ) → x < e.declared → stage e.variables x ≡ Stage.Given → (x < c.declared) ⊎ ((of_pattern p c).1.declared ≤ x) → (x < c.declared) × (stage c.variables x ≡ Stage.Given)
      outside x i h (inl b) =
          let g = w.given x i h in
          (b, sym ((pattern_declares p c).old x (omega (arith, b, counted))) ∙ g.1)
      outside x i h (inr b) = let g = w.given x i h in let u = g.0 in absurd (omega (arith, b, u))

      back : (x : ℕ) → x < e.declared → stage (known_among c.declared ((of_pattern p c).1.declared - c.declared) e.variables) x ≡ Stage.Given
          → ((c.declared ≤ x) × (x < c.declared + ((of_pattern p c).1.declared - c.declared)) × (stage (known_among c.declared ((of_pattern p c).1.declared - c.declared) e.variables) x ≡ Stage.Known))
          ⊎ (((x < c.declared) ⊎ ((c.declared + ((of_pattern p c).1.declared - c.declared) ≤ x) ⊎ (length e.variables ≤ x))) × (stage (known_among c.declared ((of_pattern p c).1.declared - c.declared) e.variables) x ≡ stage e.variables x))
          → (x < c.declared) × (stage c.variables x ≡ Stage.Given)
      back x i h (inl a) = known_given (sym a.2 ∙ h)
      back x i h (inr a) = outside x i (sym a.1 ∙ h) (⊎_elim (λ b. inl b) (λ b. ⊎_elim (λ u. let g = (pattern_declares p c).grows in inr (omega (arith, u, g))) (λ u. let n = w.counted in absurd (omega (arith, u, i, n))) b) a.0)

  -- a variable that is known behind its scope was known before, or is one of the pattern's, or was told
  scope_known : (p : PatternTree) (c e : Cursor) (ds ds1 : List Demand) (ns : List ℕ) → Counted c → Walk (of_pattern p c).1 ds e ds1 ns → (x : ℕ)
      → stage (known_among c.declared ((of_pattern p c).1.declared - c.declared) e.variables) x ≡ Stage.Known
      → IsIn x (variables (of_pattern p c).0) ⊎ ((stage c.variables x ≡ Stage.Known) ⊎ Sure K A ds1 (subject.Variable x))
  scope_known p c e ds ds1 ns counted w x h = at (among_cases c.declared ((of_pattern p c).1.declared - c.declared) e.variables x)
    where
      before : stage (of_pattern p c).1.variables x ≡ Stage.Known → stage c.variables x ≡ Stage.Known
      before k = ⊎_elim (λ l. sym ((pattern_declares p c).old x l) ∙ k) (λ l. known_given (sym k ∙ (pattern_declares p c).new x l)) (less_or x (length c.variables))

      at : ((c.declared ≤ x) × (x < c.declared + ((of_pattern p c).1.declared - c.declared)) × (stage (known_among c.declared ((of_pattern p c).1.declared - c.declared) e.variables) x ≡ Stage.Known))
          ⊎ (((x < c.declared) ⊎ ((c.declared + ((of_pattern p c).1.declared - c.declared) ≤ x) ⊎ (length e.variables ≤ x))) × (stage (known_among c.declared ((of_pattern p c).1.declared - c.declared) e.variables) x ≡ stage e.variables x))
          → IsIn x (variables (of_pattern p c).0) ⊎ ((stage c.variables x ≡ Stage.Known) ⊎ Sure K A ds1 (subject.Variable x))
      at (inl a) = let l = a.0 in let u = a.1 in let g = (pattern_declares p c).grows in inl ((pattern_declares p c).all x l (omega (arith, u, l, g)))
      at (inr a) = inr (⊎_elim (λ k. inl (before k)) (λ t. inr t) (w.known x (sym a.1 ∙ h)))

  -- what waits in the scope of a pattern waits behind it
  scope_later : (p : PatternTree) (c e : Cursor) (ds ds1 ds2 : List Demand) (ns : List ℕ) → Counted c → Walk (of_pattern p c).1 ds e ds1 ns → Longer ds1 ds2 → (n : ℕ) → Later e ds1 n
      → Later (naming.known_between c.declared (of_pattern p c).1.declared e).1 ds2 n
  scope_later p c e ds ds1 ds2 ns counted w l n (inl t) = inl (sure_longer K A l t)
  scope_later p c e ds ds1 ds2 ns counted w l n (inr h) = outside (among_cases c.declared ((of_pattern p c).1.declared - c.declared) e.variables h.0)
    where
      outside : ((c.declared ≤ h.0) × (h.0 < c.declared + ((of_pattern p c).1.declared - c.declared)) × (stage (known_among c.declared ((of_pattern p c).1.declared - c.declared) e.variables) h.0 ≡ Stage.Known))
          ⊎ (((h.0 < c.declared) ⊎ ((c.declared + ((of_pattern p c).1.declared - c.declared) ≤ h.0) ⊎ (length e.variables ≤ h.0))) × (stage (known_among c.declared ((of_pattern p c).1.declared - c.declared) e.variables) h.0 ≡ stage e.variables h.0))
          → Later (naming.known_between c.declared (of_pattern p c).1.declared e).1 ds2 n
      outside (inl a) =
          let l = a.0 in
          let u = a.1 in
          let g = (pattern_declares p c).grows in
          absurd (⊎_elim (λ i. waits_given n h.1 (sym ((pattern_declares p c).new h.0 (omega (arith, l, counted))) ∙ i)) (λ i. omega (arith, i, l, u, g)) (w.waiting h.0 n h.1 h.2))
      outside (inr a) = inr (h.0, h.1, a.1 ∙ h.2)

  -- the scope of a pattern whose facts are asked in it
  pub scope_walk : (p : PatternTree) (c e : Cursor) (ds ds1 ds2 : List Demand) (ns : List ℕ) → Counted c → Walk (of_pattern p c).1 ds e ds1 ns → Longer ds1 ds2
      → PatternTold K A ds2 (variables (of_pattern p c).0) (pattern_nodes (of_pattern p c).0)
      → Walk c ds (naming.known_between c.declared (of_pattern p c).1.declared e).1 ds2 (pattern_nodes (of_pattern p c).0 ++ ns)
  scope_walk p c e ds ds1 ds2 ns counted w l t =
      let s = scoped p c e ds ds1 ds2 ns counted w l in record {
        longer = longer_then ds ds1 ds2 w.longer l;
        grows = s.grows;
        counted = s.counted;
        waits = λ x n q h. (s.waits x n q h).1;
        waiting = s.waiting;
        known = λ x h. ⊎_elim (λ i. inr (t.variables x i)) (λ k. ⊎_elim (λ j. inl j) (λ u. inr (sure_longer K A l u)) k) (scope_known p c e ds ds1 ns counted w x h);
        given = s.given;
        nodes = λ n i. ⊎_elim (λ h. inl (t.nodes n h)) (λ h. scope_later p c e ds ds1 ds2 ns counted w l n (w.nodes n h)) (in_join n (pattern_nodes (of_pattern p c).0) ns i);
      }

  -- ---- a variable that waits for its type

  -- a pattern that is one variable, which is matched with nothing
  bind_walk : (p : PatternTree) (c e : Cursor) (ds ds1 : List Demand) (ns : List ℕ) → Counted c → Walk (of_pattern p c).1 ds e ds1 ns → (n : Node) (v : ℕ) → variables (of_pattern p c).0 ≡ v ∷ []
      → c.declared ≤ v → v < (of_pattern p c).1.declared
      → Walk c ds (naming.waits_at n (Some v) (naming.known_between c.declared (of_pattern p c).1.declared e).1).1 ds1 (n.number ∷ ns)
  bind_walk p c e ds ds1 ns counted w n v is low high =
      let k2 = (naming.known_between c.declared (of_pattern p c).1.declared e).1 in
      let s = scoped p c e ds ds1 ds1 ns counted w (longer_same ds1) in record {
        longer = w.longer;
        grows = s.grows;
        counted = s.counted ∙ sym (length-set k2.variables v d);
        waits = λ x k q h. let a = s.waits x k q h in ⊎_elim (λ i. inl (other x (a.0) ∙ i)) (λ t. inr t) a.1;
        waiting = λ x k q h. ⊎_elim (λ a. let e = a.0 in inr (omega (arith, e, low))) (λ b. ⊎_elim (λ a. s.waiting x k q (sym a.1 ∙ h)) (λ a. let e = a.1 in inr (omega (arith, e, low))) b) (set_cases vs v d x);
        known = λ x h. ⊎_elim (λ a. waits_known n.number n.span (sym a.1 ∙ h)) (λ b. ⊎_elim (λ a. known_one x a.0 (scope_known p c e ds ds1 ns counted w x (sym a.1 ∙ h))) (λ a. absurd (within x a)) b) (set_cases vs v d x);
        given = λ x l h. ⊎_elim (λ a. waits_no_given n.number n.span (sym a.1 ∙ h)) (λ b. ⊎_elim (λ a. s.given x l (sym a.1 ∙ h)) (λ a. absurd (within x a)) b) (set_cases vs v d x);
        nodes = λ k i. at k i;
      }
    where
      vs : List Declaration
      vs = (naming.known_between c.declared (of_pattern p c).1.declared e).1.variables

      d : Declaration
      d = record (declaration (naming.known_between c.declared (of_pattern p c).1.declared e).1 v) { stage = Stage.Waits n.number n.span }

      size : length vs ≡ length e.variables
      size = among_length c.declared ((of_pattern p c).1.declared - c.declared) e.variables

      inside : v < length vs
      inside = let g = w.grows in let n = w.counted in omega (arith, high, g, n, size)

      within : (x : ℕ) → (length vs ≤ x) × (x ≡ v) → ⊥
      within x a = let l = a.0 in let e = a.1 in let i = inside in omega (arith, l, e, i)

      other : (x : ℕ) → x < c.declared → stage (slice_set vs v d) x ≡ stage vs x
      other x l = ⊎_elim (λ a. let e = a.0 in absurd (omega (arith, e, l, low))) (λ b. ⊎_elim (λ a. a.1) (λ a. absurd (within x a)) b) (set_cases vs v d x)

      known_one : (x : ℕ) → (x ≡ v → ⊥) → IsIn x (variables (of_pattern p c).0) ⊎ ((stage c.variables x ≡ Stage.Known) ⊎ Sure K A ds1 (subject.Variable x))
          → (stage c.variables x ≡ Stage.Known) ⊎ Sure K A ds1 (subject.Variable x)
      known_one x apart (inl i) = absurd (one (subst (λ (xs : List ℕ). IsIn x xs) is i))
        where
          one : IsIn x (v ∷ []) → ⊥
          one (inl e) = apart e
          one (inr j) = j
      known_one x apart (inr r) = r

      -- the variable itself was known before
      is_known : stage vs v ≡ Stage.Known
      is_known = ⊎_elim (λ a. a.2) (λ a. absurd (⊎_elim (λ l. omega (arith, l, low)) (λ b. ⊎_elim (λ l. omega (arith, l, low, high)) (λ l. let i = inside in omega (arith, l, i, size)) b) a.0))
          (among_cases c.declared ((of_pattern p c).1.declared - c.declared) e.variables v)

      itself : stage (slice_set vs v d) v ≡ Stage.Waits n.number n.span
      itself = ⊎_elim (λ a. a.1) (λ b. ⊎_elim (λ a. absurd (a.0 refl)) (λ a. absurd (within v a)) b) (set_cases vs v d v)

      later : (k : ℕ) → Later (naming.known_between c.declared (of_pattern p c).1.declared e).1 ds1 k → Later (naming.waits_at n (Some v) (naming.known_between c.declared (of_pattern p c).1.declared e).1).1 ds1 k
      later k (inl t) = inl t
      later k (inr h) = ⊎_elim (λ a. waits_known k h.1 (sym h.2 ∙ ap (stage vs) a.0 ∙ is_known)) (λ b. ⊎_elim (λ a. inr (h.0, h.1, a.1 ∙ h.2)) (λ a. absurd (within h.0 a)) b) (set_cases vs v d h.0)

      at : (k : ℕ) → IsIn k (n.number ∷ ns) → Later (naming.waits_at n (Some v) (naming.known_between c.declared (of_pattern p c).1.declared e).1).1 ds1 k
      at k (inl e) = inr (v, n.span, itself ∙ ap (λ k. Stage.Waits k n.span) (sym e))
      at k (inr i) = later k (scope_later p c e ds ds1 ds1 ns counted w (longer_same ds1) k (w.nodes k i))

  -- what is no variable is refused
  refused_walk : (p : PatternTree) (c e : Cursor) (ds ds1 : List Demand) (ns : List ℕ) → Counted c → Walk (of_pattern p c).1 ds e ds1 ns
      → Walk c ds (naming.known_between c.declared (of_pattern p c).1.declared e).1 (rules.one_variable_at (pattern_node (of_pattern p c).0) None ds1) (pattern_nodes (of_pattern p c).0 ++ ns)
  refused_walk p c e ds ds1 ns counted w =
      scope_walk p c e ds ds1 _ ns counted w (one_variable_adds (pattern_node (of_pattern p c).0) None ds1)
      (record { variables = λ x i. sure_refused K A (pattern_node (of_pattern p c).0) _ _ ds1 (subject.Variable x); nodes = λ n i. sure_refused K A (pattern_node (of_pattern p c).0) _ _ ds1 (subject.Node n) })

  -- a pattern that is matched with nothing
  pub waiting_walk : (p : PatternTree) (c e : Cursor) (ds ds1 : List Demand) (ns : List ℕ) → Counted c → Walk (of_pattern p c).1 ds e ds1 ns
      → Walk c ds (naming.waits_if true (of_pattern p c).0 (naming.known_between c.declared (of_pattern p c).1.declared e).1).1 (rules.one_variable (of_pattern p c).0 ds1) (pattern_nodes (of_pattern p c).0 ++ ns)
  waiting_walk (plain.bind s x m) c e ds ds1 ns counted w =
      let c1 = (a_node s Site.Value c).1 in
      let same = (entry_still c1).declared in
      bind_walk (plain.bind s x m) c e ds ds1 ns counted w (a_node s Site.Value c).0 (an_entry c1).1.declared refl (omega (arith, same)) (omega arith)
  waiting_walk (plain.wild s) c e ds ds1 ns counted w = refused_walk (plain.wild s) c e ds ds1 ns counted w
  waiting_walk (plain.int_pattern s g v k) c e ds ds1 ns counted w = refused_walk (plain.int_pattern s g v k) c e ds ds1 ns counted w
  waiting_walk (plain.bool_pattern s b) c e ds ds1 ns counted w = refused_walk (plain.bool_pattern s b) c e ds ds1 ns counted w
  waiting_walk (plain.tuple_pattern s ps) c e ds ds1 ns counted w = refused_walk (plain.tuple_pattern s ps) c e ds ds1 ns counted w
  waiting_walk (plain.variant_pattern s a v ps) c e ds ds1 ns counted w = refused_walk (plain.variant_pattern s a v ps) c e ds ds1 ns counted w
  waiting_walk (plain.make_pattern s x fs) c e ds ds1 ns counted w = refused_walk (plain.make_pattern s x fs) c e ds ds1 ns counted w
