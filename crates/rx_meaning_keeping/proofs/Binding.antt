-- Temporaries at nodes of a range, and those outside of it; the bindings of a pattern are at its own nodes.
use Rattle.std.proofs.Common.{◌≡◌, ℕ, suc, ◌≤◌, ◌<◌, List, [], ◌∷◌, ◌++◌, ◌⊎◌, inl, inr, refl, ap, subst, arith, le_refl}
use Rattle.rx_core.specs.declared.types.Step.{Step}
use Rattle.rx_typed.specs.Types.{Typ, integer, boolean, tuple_of, reference, named, peeled}
use Rattle.rx_typed.specs.Named as numbered
use Rattle.rx_typed.specs.TypedNumbers.{AreFrom, pattern_nodes, patterns_nodes, field_patterns_nodes}
use Rattle.rx_typed.specs.Tree as tree
use Rattle.rx_typed.specs.Tree.{Temporary, temporary_at}
use Rattle.rx_typed.specs.Elaborated.{Assigned, Met, met, field_in, kind_in, with_sign, has_several, pattern, subpatterns, field_patterns, behind_all}
use Rattle.rx_lower_walks.specs.Matching.{Binding, bindings, bindings_in}
use Rattle.rx_meaning_keeping.specs.Pending.{Unheld}
use Rattle.rx_meaning_keeping.specs.Formed.{Apart}

-- ---- numbers in order

pub are_up : (i j : ℕ) (ns : List ℕ) → AreFrom i ns j → i ≤ j
are_up i j [] a = subst (λ k. i ≤ k) a (le_refl i)
are_up i j (n ∷ ns) a = omega (arith, are_up (suc i) j ns a.1)

pub are_split : (i k : ℕ) (ns ms : List ℕ) → AreFrom i (ns ++ ms) k → (j : ℕ) × AreFrom i ns j × AreFrom j ms k
are_split i k [] ms a = (i, refl, a)
are_split i k (n ∷ ns) ms a = let r = are_split (suc i) k ns ms a.1 in (r.0, (a.0, r.1), r.2)

pub first_in : (i j n : ℕ) (ns : List ℕ) → AreFrom i (n ∷ ns) j → (i ≤ n) × (n < j)
first_in i j n ns a = (omega (arith, a.0), omega (arith, a.0, are_up (suc i) j ns a.1))

-- ---- temporaries

abbrev pub Outside : ℕ → ℕ → List Temporary → Type 0
Outside i j [] = Unit {0}
Outside i j (t ∷ J) = ((t.node < i) ⊎ (j ≤ t.node)) × Outside i j J

pub narrower : (i j k l : ℕ) (J : List Temporary) → i ≤ k → l ≤ j → Outside i j J → Outside k l J
narrower i j k l [] h g o = tt
narrower i j k l (t ∷ J) h g o = (by o.0, narrower i j k l J h g o.1)
  where
    by : (t.node < i) ⊎ (j ≤ t.node) → (t.node < k) ⊎ (l ≤ t.node)
    by (inl a) = inl (omega (arith, a, h))
    by (inr a) = inr (omega (arith, a, g))

pub unheld : (i j : ℕ) (d : Temporary) (J : List Temporary) → i ≤ d.node → d.node < j → Outside i j J → Unheld d J
unheld i j d [] h g o = tt
unheld i j d (t ∷ J) h g o = (λ e. by o.0 (ap (λ z. z.node) e), unheld i j d J h g o.1)
  where
    by : (t.node < i) ⊎ (j ≤ t.node) → d.node ≡ t.node → ⊥
    by (inl a) e = absurd (omega (arith, a, h, e))
    by (inr a) e = absurd (omega (arith, a, g, e))

-- ---- the bindings of a pattern

abbrev pub BoundIn : ℕ → ℕ → List Binding → Type 0
BoundIn i j [] = Unit {0}
BoundIn i j (b ∷ bs) = (i ≤ b.node) × (b.node < j) × BoundIn i j bs

bound_both : (i j : ℕ) (xs ys : List Binding) → BoundIn i j xs → BoundIn i j ys → BoundIn i j (xs ++ ys)
bound_both i j [] ys h g = g
bound_both i j (b ∷ xs) ys h g = (h.0, h.1, bound_both i j xs ys h.2 g)

wider : (i j k l : ℕ) (xs : List Binding) → i ≤ k → l ≤ j → BoundIn k l xs → BoundIn i j xs
wider i j k l [] h g o = tt
wider i j k l (b ∷ xs) h g o = (omega (arith, h, o.0), omega (arith, g, o.1), wider i j k l xs h g o.2)

pub apart_of : (i j : ℕ) (bs : List Binding) (J : List Temporary) → BoundIn i j bs → Outside i j J → Apart J bs
apart_of i j [] J h o = tt
apart_of i j (b ∷ bs) J h o = (unheld i j (temporary_at b.node 0) J h.0 h.1 o, apart_of i j bs J h.2 o)

behind_in : (i j : ℕ) (t : Typ) (p : tree.Pattern) → ((at : List Step) → BoundIn i j (bindings at p)) → (at : List Step) → BoundIn i j (bindings at (behind_all t p))
behind_in i j (reference m t) p h at = behind_in i j t p h (at ++ Step.Deref m ∷ [])
behind_in i j (integer k) p h at = h at
behind_in i j boolean p h at = h at
behind_in i j (tuple_of ts) p h at = h at
behind_in i j (named k) p h at = h at

mutual
  pub bound_in : (T : Assigned) (r : Met) (p : numbered.Pattern) (i j : ℕ) → AreFrom i (pattern_nodes p) j → (at : List Step) → BoundIn i j (bindings at (pattern T r p))
  bound_in T r (numbered.wild n) i j a at = tt
  bound_in T r (numbered.bind n x m) i j a at = let h = first_in i j n.number [] a in (h.0, h.1, tt)
  bound_in T r (numbered.whole_number n g v k) i j a at = behind_in i j (T.typ n.number) (tree.exactly n.number (tree.whole_number (kind_in (peeled (T.typ n.number))) (with_sign g v))) (λ u. tt) at
  bound_in T r (numbered.truth n b) i j a at = behind_in i j (T.typ n.number) (tree.exactly n.number (tree.truth b)) (λ u. tt) at
  bound_in T r (numbered.tuple_pattern n ps) i j a at = behind_in i j (T.typ n.number) (tree.parts (subpatterns T (met (T.typ n.number) r) 0 ps)) (λ u. wider i j (suc i) j (bindings_in u (subpatterns T (met (T.typ n.number) r) 0 ps)) (omega arith) (le_refl j) (all_bound_in T (met (T.typ n.number) r) 0 ps (suc i) j a.1 u)) at
  bound_in T r (numbered.variant_pattern n k v ps) i j a at = behind_in i j (T.typ n.number) (tree.variant n.number k (has_several T.items k) v (subpatterns T (met (T.typ n.number) r) 0 ps)) (λ u. wider i j (suc i) j (bindings_in (u ++ Step.Variant v ∷ []) (subpatterns T (met (T.typ n.number) r) 0 ps)) (omega arith) (le_refl j) (all_bound_in T (met (T.typ n.number) r) 0 ps (suc i) j a.1 (u ++ Step.Variant v ∷ []))) at
  bound_in T r (numbered.struct_pattern n k fs) i j a at = behind_in i j (T.typ n.number) (tree.parts (field_patterns T (met (T.typ n.number) r) k fs)) (λ u. wider i j (suc i) j (bindings_in u (field_patterns T (met (T.typ n.number) r) k fs)) (omega arith) (le_refl j) (fields_bound_in T (met (T.typ n.number) r) k fs (suc i) j a.1 u)) at

  all_bound_in : (T : Assigned) (r : Met) (k : ℕ) (ps : numbered.Patterns) (i j : ℕ) → AreFrom i (patterns_nodes ps) j → (at : List Step) → BoundIn i j (bindings_in at (subpatterns T r k ps))
  all_bound_in T r k numbered.no_pattern i j a at = tt
  all_bound_in T r k (numbered.pattern_and p ps) i j a at = let s = are_split i j (pattern_nodes p) (patterns_nodes ps) a in
      bound_both i j (bindings (at ++ Step.Field k ∷ []) (pattern T r p)) (bindings_in at (subpatterns T r (suc k) ps)) (wider i j i s.0 (bindings (at ++ Step.Field k ∷ []) (pattern T r p)) (le_refl i) (are_up s.0 j (patterns_nodes ps) s.2) (bound_in T r p i s.0 s.1 (at ++ Step.Field k ∷ []))) (wider i j s.0 j (bindings_in at (subpatterns T r (suc k) ps)) (are_up i s.0 (pattern_nodes p) s.1) (le_refl j) (all_bound_in T r (suc k) ps s.0 j s.2 at))

  fields_bound_in : (T : Assigned) (r : Met) (k : ℕ) (fs : numbered.FieldPatterns) (i j : ℕ) → AreFrom i (field_patterns_nodes fs) j → (at : List Step) → BoundIn i j (bindings_in at (field_patterns T r k fs))
  fields_bound_in T r k numbered.no_field_pattern i j a at = tt
  fields_bound_in T r k (numbered.field_pattern_and x p fs) i j a at = let s = are_split i j (pattern_nodes p) (field_patterns_nodes fs) a in
      bound_both i j (bindings (at ++ Step.Field (field_in T.items (named k) x) ∷ []) (pattern T r p)) (bindings_in at (field_patterns T r k fs)) (wider i j i s.0 (bindings (at ++ Step.Field (field_in T.items (named k) x) ∷ []) (pattern T r p)) (le_refl i) (are_up s.0 j (field_patterns_nodes fs) s.2) (bound_in T r p i s.0 s.1 (at ++ Step.Field (field_in T.items (named k) x) ∷ []))) (wider i j s.0 j (bindings_in at (field_patterns T r k fs)) (are_up i s.0 (pattern_nodes p) s.1) (le_refl j) (fields_bound_in T r k fs s.0 j s.2 at))
