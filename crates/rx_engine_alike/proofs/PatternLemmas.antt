-- The answer has more parts; and patterns by what the answer's is read as.
use Rattle.std.proofs.Common.{◌≡◌, ℕ, nat_eq, ◌<◌, ◌≤◌, Bool, true, false, not, ◌&&◌, ◌||◌, List, [], ◌∷◌, length, drop, map, Option, Some, None, refl, ap, ◌∙◌, arith}
use Rattle.std.proofs.lemmas.List.{at_drop_all}
use Rattle.rx_core.specs.declared.types.Step.TheVariants as step
use Rattle.rx_typed.specs.Tree as tree
use Rattle.rx_typed.specs.Tree.{Constant, Mode, Pattern, Subpatterns, no_part}
use Rattle.rx_typed.specs.declared.tree.Subpattern.{Subpattern}
use Rattle.rx_typed.specs.PlainTree.{plain-Subpattern, subpatterns_of}
use Rattle.rx_engine_simulation.specs.Sights.{Renaming}
use Rattle.rx_engine_simulation.specs.Places.{looking}
use Rattle.rx_engine_alike.specs.Likeness.{if_so, and_then}
use Rattle.rx_engine_alike.specs.Read.{is_any, as_bind, as_exactly, as_parts, as_variant, as_behind}
use Rattle.rx_engine_alike.specs.Same.{same_bool, same_constant}
use Rattle.rx_engine_alike.specs.Ways.{Way, may, then_step, by_dereference}
use Rattle.rx_engine_alike.specs.Variables.{Ways, with_new}
use Rattle.rx_engine_alike.specs.Patterns.{like_mode, like_tests, like_tests_in, like_bindings, like_bindings_in, all_borrow, looks_behind}
use Rattle.rx_engine_alike.proofs.ReadLemmas.{is_so, else_so}

abbrev parts : List Subpattern → Subpatterns
parts l = subpatterns_of (map plain-Subpattern l)

tests_behind : (w : Way) (zs : List Subpattern) → 0 < length zs → like_tests_in w no_part (parts zs) ≡ false
tests_behind w [] some = absurd (omega arith)
tests_behind w (z ∷ zs) some = refl

pub tests_long : (w : Way) (xs : List Subpattern) (i : ℕ) (zs : List Subpattern) → length xs ≤ i → 0 < length zs → like_tests_in w (subpatterns_of (map plain-Subpattern (drop i xs))) (subpatterns_of (map plain-Subpattern zs)) ≡ false
tests_long w xs i zs past some = at_drop_all (λ l. like_tests_in w (parts l) (parts zs)) xs i past ∙ tests_behind w zs some

binds_behind : (L : Ways) (w : Way) (R : Renaming) (zs : List Subpattern) → 0 < length zs → like_bindings_in L w R no_part (parts zs) ≡ None
binds_behind L w R [] some = absurd (omega arith)
binds_behind L w R (z ∷ zs) some = refl

pub binds_long : (L : Ways) (w : Way) (R : Renaming) (xs : List Subpattern) (i : ℕ) (zs : List Subpattern) → length xs ≤ i → 0 < length zs
    → like_bindings_in L w R (subpatterns_of (map plain-Subpattern (drop i xs))) (subpatterns_of (map plain-Subpattern zs)) ≡ None
binds_long L w R xs i zs past some = at_drop_all (λ l. like_bindings_in L w R (parts l) (parts zs)) xs i past ∙ binds_behind L w R zs some

-- ---- both test alike, by what the answer's pattern is

pub tests_any : (w : Way) (q : Pattern) → like_tests w tree.any q ≡ is_any q
tests_any w tree.any = refl
tests_any w (tree.bind a b d) = refl
tests_any w (tree.exactly a b) = refl
tests_any w (tree.parts qs) = refl
tests_any w (tree.variant a b c d qs) = refl
tests_any w (tree.behind a b) = refl

pub tests_bind : (w : Way) (n x : ℕ) (m : Mode) (q : Pattern) → like_tests w (tree.bind n x m) q ≡ is_so (as_bind q) (λ r. true)
tests_bind w n x m tree.any = refl
tests_bind w n x m (tree.bind a b d) = refl
tests_bind w n x m (tree.exactly a b) = refl
tests_bind w n x m (tree.parts qs) = refl
tests_bind w n x m (tree.variant a b c d qs) = refl
tests_bind w n x m (tree.behind a b) = refl

pub tests_exactly : (w : Way) (n : ℕ) (k : Constant) (q : Pattern) → like_tests w (tree.exactly n k) q ≡ is_so (as_exactly q) (λ r. may looking w && same_constant k r.1)
tests_exactly w n k tree.any = refl
tests_exactly w n k (tree.bind a b d) = refl
tests_exactly w n k (tree.exactly a b) = refl
tests_exactly w n k (tree.parts qs) = refl
tests_exactly w n k (tree.variant a b c d qs) = refl
tests_exactly w n k (tree.behind a b) = refl

pub tests_parts : (w : Way) (ps : Subpatterns) (q : Pattern) → like_tests w (tree.parts ps) q ≡ is_so (as_parts q) (λ r. like_tests_in w ps r)
tests_parts w ps tree.any = refl
tests_parts w ps (tree.bind a b d) = refl
tests_parts w ps (tree.exactly a b) = refl
tests_parts w ps (tree.parts qs) = refl
tests_parts w ps (tree.variant a b c d qs) = refl
tests_parts w ps (tree.behind a b) = refl

both_first : (a b c : Bool) → a && (b && c) ≡ (a && b) && c
both_first true b c = refl
both_first false b c = refl

pub tests_variant : (w : Way) (n i : ℕ) (several : Bool) (v : ℕ) (ps : Subpatterns) (q : Pattern) → like_tests w (tree.variant n i several v ps) q
    ≡ is_so (as_variant q) (λ r. (same_bool several r.2 && (not several || (may looking w && nat_eq v r.3))) && like_tests_in (then_step w (step.Variant v) (step.Variant r.3)) ps r.4)
tests_variant w n i several v ps tree.any = refl
tests_variant w n i several v ps (tree.bind a b d) = refl
tests_variant w n i several v ps (tree.exactly a b) = refl
tests_variant w n i several v ps (tree.parts qs) = refl
tests_variant w n i several v ps (tree.variant a b c d qs) = both_first (same_bool several c) _ _
tests_variant w n i several v ps (tree.behind a b) = refl

pub tests_reference : (w : Way) (k : Bool) (p : Pattern) (q : Pattern) → like_tests w (tree.behind k p) q ≡ is_so (as_behind q) (λ r. like_tests (by_dereference w) p r.1)
tests_reference w k p tree.any = refl
tests_reference w k p (tree.bind a b d) = refl
tests_reference w k p (tree.exactly a b) = refl
tests_reference w k p (tree.parts qs) = refl
tests_reference w k p (tree.variant a b c d qs) = refl
tests_reference w k p (tree.behind a b) = refl

-- ---- both bind alike

pub binds_any : (L : Ways) (w : Way) (R : Renaming) (q : Pattern) → like_bindings L w R tree.any q ≡ if_so (is_any q) (Some R)
binds_any L w R tree.any = refl
binds_any L w R (tree.bind a b d) = refl
binds_any L w R (tree.exactly a b) = refl
binds_any L w R (tree.parts qs) = refl
binds_any L w R (tree.variant a b c d qs) = refl
binds_any L w R (tree.behind a b) = refl

pub binds_bind : (L : Ways) (w : Way) (R : Renaming) (n x : ℕ) (m : Mode) (q : Pattern)
    → like_bindings L w R (tree.bind n x m) q ≡ and_then (as_bind q) (λ r. if_so (like_mode w m r.2) (with_new L R x r.1))
binds_bind L w R n x m tree.any = refl
binds_bind L w R n x m (tree.bind a b d) = refl
binds_bind L w R n x m (tree.exactly a b) = refl
binds_bind L w R n x m (tree.parts qs) = refl
binds_bind L w R n x m (tree.variant a b c d qs) = refl
binds_bind L w R n x m (tree.behind a b) = refl

pub binds_exactly : (L : Ways) (w : Way) (R : Renaming) (n : ℕ) (k : Constant) (q : Pattern) → like_bindings L w R (tree.exactly n k) q ≡ and_then (as_exactly q) (λ r. Some R)
binds_exactly L w R n k tree.any = refl
binds_exactly L w R n k (tree.bind a b d) = refl
binds_exactly L w R n k (tree.exactly a b) = refl
binds_exactly L w R n k (tree.parts qs) = refl
binds_exactly L w R n k (tree.variant a b c d qs) = refl
binds_exactly L w R n k (tree.behind a b) = refl

pub binds_parts : (L : Ways) (w : Way) (R : Renaming) (ps : Subpatterns) (q : Pattern) → like_bindings L w R (tree.parts ps) q ≡ and_then (as_parts q) (λ r. like_bindings_in L w R ps r)
binds_parts L w R ps tree.any = refl
binds_parts L w R ps (tree.bind a b d) = refl
binds_parts L w R ps (tree.exactly a b) = refl
binds_parts L w R ps (tree.parts qs) = refl
binds_parts L w R ps (tree.variant a b c d qs) = refl
binds_parts L w R ps (tree.behind a b) = refl

pub binds_variant : (L : Ways) (w : Way) (R : Renaming) (n i : ℕ) (several : Bool) (v : ℕ) (ps : Subpatterns) (q : Pattern)
    → like_bindings L w R (tree.variant n i several v ps) q ≡ and_then (as_variant q) (λ r. like_bindings_in L (then_step w (step.Variant v) (step.Variant r.3)) R ps r.4)
binds_variant L w R n i several v ps tree.any = refl
binds_variant L w R n i several v ps (tree.bind a b d) = refl
binds_variant L w R n i several v ps (tree.exactly a b) = refl
binds_variant L w R n i several v ps (tree.parts qs) = refl
binds_variant L w R n i several v ps (tree.variant a b c d qs) = refl
binds_variant L w R n i several v ps (tree.behind a b) = refl

pub binds_reference : (L : Ways) (w : Way) (R : Renaming) (k : Bool) (p : Pattern) (q : Pattern) → like_bindings L w R (tree.behind k p) q ≡ and_then (as_behind q) (λ r. like_bindings L (by_dereference w) R p r.1)
binds_reference L w R k p tree.any = refl
binds_reference L w R k p (tree.bind a b d) = refl
binds_reference L w R k p (tree.exactly a b) = refl
binds_reference L w R k p (tree.parts qs) = refl
binds_reference L w R k p (tree.variant a b c d qs) = refl
binds_reference L w R k p (tree.behind a b) = refl

-- ---- a pattern that looks behind a reference

pub looks_read : (y : ℕ) (q : Pattern) → looks_behind y q ≡ else_so (as_behind q) (λ r. all_borrow y r.1) (is_any q)
looks_read y tree.any = refl
looks_read y (tree.bind a b d) = refl
looks_read y (tree.exactly a b) = refl
looks_read y (tree.parts qs) = refl
looks_read y (tree.variant a b c d qs) = refl
looks_read y (tree.behind a b) = refl

pub ruleset pattern_rules = (tests_any, tests_bind, tests_exactly, tests_parts, tests_variant, tests_reference, binds_any, binds_bind, binds_exactly, binds_parts, binds_variant, binds_reference, looks_read)
