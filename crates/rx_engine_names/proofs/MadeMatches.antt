-- The call, or the match on it with an arm an exit, resolves.
use Rattle.std.proofs.Common.{◌≡◌, ℕ, ◌+◌, ◌≤◌, ◌^◌, Bool, true, false, if◌then◌else◌, List, [], ◌∷◌, length, map, Ok, refl, sym, ap, ◌∙◌, subst, append_assoc, arith}
use Rattle.rx_core.specs.declared.types.Span.{Span}
use Rattle.rx_tree.specs.Lists.{Every}
use Rattle.rx_tree.specs.Plain as plain
use Rattle.rx_tree.specs.Plain.{Expression, PatternTree, Arms}
use Rattle.rx_resolve_names.specs.Scopes.{DeclaredNames, Variables, entered}
use Rattle.rx_resolve_names.specs.declared.resolved.ItemNames.{ItemNames}
use Rattle.rx_resolve_names.specs.Meant.{Around}
use Rattle.rx_resolve_names.specs.Steps.{Outcome, and_then, Naming, Inside, child, next, entry, with_names, names}
use Rattle.rx_resolve_names.specs.Names.{Bound, also, variant_in, in_pattern, in_patterns, pattern_then, in_expression, in_arms}
use Rattle.rx_typed.specs.declared.nodes.Node.{Node}
use Rattle.rx_typed.specs.declared.nodes.Site.{Site}
use Rattle.rx_typed.specs.Named as named
use Rattle.rx_typed.specs.Naming as numbering
use Rattle.rx_typed.specs.Naming.{give, first, second, passed_on, of_expression, of_pattern, of_arms}
use Rattle.rx_hoist_extraction.specs.Names.{Names}
use Rattle.rx_hoist_extraction.specs.Plan.{Exit, Leaving, Plan, has_enum, names_of, enum_name, exit_name}
use Rattle.rx_hoist_extraction.specs.Values.{values_of}
use Rattle.rx_hoist_extraction.specs.Made.{ident, binding, as_patterns}
use Rattle.rx_hoist_extraction.specs.Call.{bare_call, fresh_from, arm_value, arm_pattern, arms, whole_call}
use Rattle.rx_engine_names.specs.Renaming.{Renaming, Made}
use Rattle.rx_engine_names.specs.Moves.{labels_of}
use Rattle.rx_engine_names.specs.Calls.{ParamsMeant, FunctionMeant}
use Rattle.rx_engine_names.specs.HandedOut.{Handing, AreBound, IsArm, not_mutable, AreArms, no_arms, more_arms, IsWhole, call_alone, call_matched}
use Rattle.rx_engine_names.specs.HandsOver.{ExitMeant, declared_from}
use Rattle.rx_engine_names.proofs.SideBySide.{then_ok, and_ok}
use Rattle.rx_engine_names.proofs.Standing.{keeps_counted, keeps_between}
use Rattle.rx_engine_names.proofs.Alone.{Alone, weaker, alone_give, alone_then, alone_map, alone_node, alone_keeps, alone_entry, Makes, makes_nothing, makes_then, makes_map}
use Rattle.rx_engine_names.proofs.MadeCalls.{ExpAlone, made_call}
use Rattle.rx_engine_names.proofs.MadeBindings.{AllNew, all_new, none_done, bindings_of, bound_names, bound_mutable, made_bindings}
use Rattle.rx_engine_names.proofs.MadeArms.{fresh_distinct, plainly, plainly_bound, plainly_named, plainly_mutable, fresh_count, made_arm}

module _ (items : ℕ → ℕ) (G : Handing) (I' : Inside) (sc : Variables) (ls : List Around) (M : Made) where
  abbrev s : Span
  s = G.call.place

  abbrev pl : Plan
  pl = G.call.plan

  -- ---- the pattern of an arm

  abbrev variant_over : Exit → List PatternTree → PatternTree
  variant_over x ps = plain.variant_pattern s (ident s (enum_name pl)) (ident s (exit_name x)) (as_patterns ps)

  abbrev VariantIs : Exit → Type 0
  VariantIs x = variant_in I' (ident s (enum_name pl)) (ident s (exit_name x)) ≡ Ok (G.enum ∷ G.variant x ∷ [])

  data IsVariantPattern (x : Exit) (d : ℕ) (ms : List Bool) : named.Pattern → Type 0 where
    is_variant_pattern : {n : Node} {ps : named.Patterns} → n.span ≡ s → AreBound s d ms ps → IsVariantPattern x d ms (named.variant_pattern n G.enum (G.variant x) ps)

  abbrev PatternMade : List ℕ → Exit → List PatternTree → Names → List Bool → ItemNames → Type 0
  PatternMade at' x ps xs ms u = Makes items M u (λ v. in_pattern I' at' (variant_over x ps) (record { bindings = []; tables = u }) ≡ Ok (record { bindings = declared_from s (length u.vars) xs; tables = v }))
      (λ R u' es. Alone (IsVariantPattern x (length u.vars) ms) u u' es (of_pattern (variant_over x ps)))

  variant_bound : (at' : List ℕ) (x : Exit) → VariantIs x → (xs : List (List ℕ × Bool)) → AllNew [] (bound_names xs) → (u : ItemNames) → PatternMade at' x (bindings_of s xs) (bound_names xs) (bound_mutable xs) u
  variant_bound at' x is xs new u =
      let z = entry I' at' (G.enum ∷ G.variant x ∷ []) in
      let u1 = with_names z u in
      let B = made_bindings items M I' s at' 0 xs [] u1 new in
      let start : Bound = record { bindings = []; tables = u } in
      let to : ItemNames → Bound = λ t. record { bindings = []; tables = t } in record {
        table = B.table;
        answer = and_ok (also (names I' at' (variant_in I' (ident s (enum_name pl)) (ident s (exit_name x)))) start) (to u1) (in_patterns I' at' 0 (as_patterns (bindings_of s xs)))
            (Ok (record { bindings = declared_from s (length u.vars) (bound_names xs); tables = B.table })) (ap (λ (r : Outcome (List ℕ)). and_then (names I' at' r u) (λ t. Ok (to t))) is) B.answer;
        added = z ∷ B.added;
        grown = B.grown ∙ append_assoc u.names (z ∷ []) B.added;
        numbers = λ R sv. alone_node s Site.Value (λ n g. alone_then (alone_entry z) (λ a e. alone_map (λ ps. named.variant_pattern n (first a.0) (second a.0) ps) (B.numbers R sv)
            (λ ps h. subst (λ (a : List ℕ × Bool). IsVariantPattern x (length u.vars) (bound_mutable xs) (named.variant_pattern n (first a.0) (second a.0) ps)) (sym e) (is_variant_pattern g h))));
      }

  pattern_made : (at' : List ℕ) (x : Exit) → VariantIs x → (k : ℕ) → length pl.identifiers + k ≤ 2 ^ 64 → (u : ItemNames) → PatternMade at' x (map (λ (x : List ℕ). binding s x false) (fresh_from pl 0 k)) (fresh_from pl 0 k) (not_mutable k) u
  pattern_made at' x is k b u =
      let xs = fresh_from pl 0 k in
      subst (λ (ps : List PatternTree). PatternMade at' x ps xs (not_mutable k) u) (sym (plainly_bound s xs))
      (subst (λ (ms : List Bool). PatternMade at' x (bindings_of s (plainly xs)) xs ms u) (plainly_mutable xs k (fresh_count pl 0 k))
      (subst (λ (ys : Names). PatternMade at' x (bindings_of s (plainly xs)) ys (bound_mutable (plainly xs)) u) (plainly_named xs)
      (variant_bound at' x is (plainly xs) (subst (λ (ys : Names). AllNew [] ys) (sym (plainly_named xs)) (all_new [] xs (fresh_distinct pl 0 k (omega (arith, b))) (none_done xs))) u)))

  -- ---- the arms

  abbrev ArmsMade : List ℕ → ℕ → List Leaving → ItemNames → Type 0
  ArmsMade at' i xs u = Makes items M u (λ v. in_arms I' sc ls at' i (arms pl s (labels_of G.loops) xs) u ≡ Ok v) (λ R u' es. (t : Site) → Alone (AreArms G R xs) u u' es (of_arms t (arms pl s (labels_of G.loops) xs)))

  one_more_arm : (R : Renaming) (x : Leaving) (xs : List Leaving) (d : ℕ) (p : named.Pattern) (e : named.Exp) (l : named.Arms) → IsVariantPattern x.exit d (not_mutable (length (values_of pl x))) p → IsArm G R d (length (values_of pl x)) x.exit (names_of x.outs) e → AreArms G R xs l
      → AreArms G R (x ∷ xs) (named.arm_and p e l)
  one_more_arm R x xs d _ e l (is_variant_pattern g h) a r = more_arms g h a r

  made_arms : (at' : List ℕ) (i : ℕ) (xs : List Leaving) → Every (λ (x : Leaving). VariantIs x.exit) xs → Every (λ (x : Leaving). ExitMeant G M sc ls x.exit x.outs) xs → Every (λ (x : Leaving). length pl.identifiers + length (values_of pl x) ≤ 2 ^ 64) xs
      → (u : ItemNames) → ArmsMade at' i xs u
  made_arms at' i [] vs es bs u = makes_nothing u (λ v. Ok u ≡ Ok v) (λ R u' es. (t : Site) → Alone (AreArms G R []) u u' es (of_arms t plain.no_arm)) refl (λ R t. alone_give named.no_arm no_arms)
  made_arms at' i (x ∷ xs) vs es bs u =
      let k = length (values_of pl x) in let ys = fresh_from pl 0 k in let d = length u.vars in
      let p = arm_pattern pl s x.exit ys in let e = arm_value s (labels_of G.loops) x.exit x.outs ys in let rest = arms pl s (labels_of G.loops) xs in
      let P = pattern_made (child at' i) x.exit vs.0 k bs.0 u in
      let A = made_arm items G I' ls M sc (child at' (next i)) x.exit x.outs d bs.0 es.0 P.table in
      let B = made_arms at' (next (next i)) xs vs.1 es.1 bs.1 A.table in
      let arm : DeclaredNames → Naming = λ ds. in_expression I' (entered sc ds) ls (child at' (next i)) e in
      let inner = makes_then {Z = λ v. (in_expression I' (entered sc (declared_from s d ys)) ls (child at' (next i)) e P.table ≡ Ok A.table) × (in_arms I' sc ls at' (next (next i)) rest A.table ≡ Ok v)}
      {N = λ R u' es. (t : Site) (q : named.Pattern) → IsVariantPattern x.exit d (not_mutable k) q
      → Alone (AreArms G R (x ∷ xs)) P.table u' es (numbering.and_then (of_expression false t e) (λ e. numbering.and_then (of_arms t rest) (λ l. give (named.arm_and q e l))))} A B (λ y z. (y, z))
      (λ R sv N O t q h. alone_then (N false t) (λ e a. alone_map (named.arm_and q e) (O t) (λ l r. one_more_arm R x xs d q e l h a r))) in
      makes_then P inner
      (λ y z. then_ok (pattern_then I' (child at' i) p arm) (in_arms I' sc ls at' (next (next i)) rest) u A.table inner.table
      (and_ok (in_pattern I' (child at' i) p (record { bindings = []; tables = u })) (record { bindings = declared_from s d ys; tables = P.table }) (λ b. arm b.bindings b.tables) (Ok A.table) y z.0) z.1)
      (λ R sv N O t. alone_keeps keeps_counted (λ i0. alone_then N (λ q h. alone_keeps keeps_counted (λ j0. alone_keeps (keeps_between i0 j0) (λ _. O t q h)))))

  -- ---- the whole

  pub made_whole : (at' : List ℕ) → FunctionMeant G.call I' sc → ParamsMeant G.call M sc pl.params → (has_enum pl.exits ≡ true → Every (λ (x : Leaving). VariantIs x.exit) pl.exits) → Every (λ (x : Leaving). ExitMeant G M sc ls x.exit x.outs) pl.exits
      → Every (λ (x : Leaving). length pl.identifiers + length (values_of pl x) ≤ 2 ^ 64) pl.exits → (u : ItemNames)
      → Makes items M u (λ v. in_expression I' sc ls at' (whole_call pl s (labels_of G.loops)) u ≡ Ok v) (ExpAlone (λ R e. IsWhole G R (has_enum pl.exits) e) u (whole_call pl s (labels_of G.loops)))
  made_whole at' f h vs es bs u = by (has_enum pl.exits) vs
    where
      by : (b : Bool) → (b ≡ true → Every (λ (x : Leaving). VariantIs x.exit) pl.exits)
          → Makes items M u (λ v. in_expression I' sc ls at' (if b then plain.match s (bare_call pl s) (arms pl s (labels_of G.loops) pl.exits) else bare_call pl s) u ≡ Ok v)
          (ExpAlone (λ R e. IsWhole G R b e) u (if b then plain.match s (bare_call pl s) (arms pl s (labels_of G.loops) pl.exits) else bare_call pl s))
      by false vs = makes_map (made_call items G.call I' sc ls M at' f h u) (λ a. a) (λ R sv N m t. weaker (N m t) (λ e p. call_alone p))
      by true vs =
          let A = made_call items G.call I' sc ls M (child at' 0) f h u in
          let B = made_arms at' 1 pl.exits (vs refl) es bs A.table in
          makes_then A B (λ y z. then_ok (in_expression I' sc ls (child at' 0) (bare_call pl s)) (in_arms I' sc ls at' 1 (arms pl s (labels_of G.loops) pl.exits)) u A.table B.table y z)
          (λ R sv N O m t. alone_node s t (λ n g. alone_then (N false Site.Scrutinee) (λ e p. alone_map (named.match n e) (O (passed_on t)) (λ l q. call_matched g p q))))
