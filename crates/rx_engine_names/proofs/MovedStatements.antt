-- The statements and the tail of a run that is moved: the walk goes along them where the special places are alike.
use Rattle.std.proofs.Common.{◌≡◌, ℕ, suc, ◌+◌, Bool, true, false, not, ◌&&◌, if◌then◌else◌, List, [], ◌∷◌, Option, Some, None, Ok, refl, sym, ap, ◌∙◌, subst, add-zero, zero-add, add-suc, suc-add}
use Rattle.rx_tree.specs.declared.tree.Ident.{Ident}
use Rattle.rx_tree.specs.Lists.{nth}
use Rattle.rx_tree.specs.Plain.{OptionalExpression, Statements}
use Rattle.rx_resolve_names.specs.Scopes.{Variables, variable_named}
use Rattle.rx_resolve_names.specs.declared.resolved.ItemNames.{ItemNames}
use Rattle.rx_resolve_names.specs.Meant.{Around, a_loop, a_test, Target, to_loop, through_test, is_meant, target}
use Rattle.rx_resolve_names.specs.Steps.{Inside}
use Rattle.rx_resolve_names.specs.Names.{in_optional, in_statements, Scoped}
use Rattle.rx_hoist_extraction.specs.Names.{Names, is_among, behind_all}
use Rattle.rx_hoist_extraction.specs.Run.{numbered}
use Rattle.rx_hoist_extraction.specs.Changed.{changed_optional}
use Rattle.rx_hoist_extraction.specs.Moved.{referred, beyond, moving}
use Rattle.rx_engine_names.specs.Renaming.{Made}
use Rattle.rx_engine_names.specs.LikeNamed.{like_int, like_typed}
use Rattle.rx_engine_names.specs.Within.{OptionalWithin, StatementsWithin}
use Rattle.rx_engine_names.specs.Moves.{Moves, labels_of, numbers_of, IsRound, asked, ExitsNamed, rounds, Paired, StartsAlike, TailAlike, RunAlike}
use Rattle.rx_engine_names.proofs.SideBySide.{numbers_map, restated}
use Rattle.rx_engine_names.proofs.Scoped.{Corresponds, AtName, Both, at_both}
use Rattle.rx_engine_names.proofs.Fitting.{FitItems}
use Rattle.rx_engine_names.proofs.CopiedPatterns.{annotation_alike}
use Rattle.rx_engine_names.proofs.Standing.{Goes, Led, Setting, Stand, later, in_scope, Special}
use Rattle.rx_engine_names.proofs.CopiedExpressions.{optional_alike, statements_alike}
use Rattle.rx_engine_names.proofs.MovedPlaces.{K, loose, moved_var, moved_jump, moved_again}
use Rattle.rx_engine_names.proofs.MovedReturns.{moved_returned}

-- ---- the loops round a run

not_through : (a : Target) (n : ℕ) → through_test a ≡ to_loop n → ⊥
not_through (to_loop m) n e = cc
not_through _ n e = cc

-- a jump that leads to a loop of the text leads to the same, by its number from inside
abbrev RoundBy : ℕ → List Around → Option Ident → ℕ → Type 0
RoundBy i ls l n = (k : ℕ) × (target l (numbered (suc i) (labels_of ls)) ≡ to_loop (suc (i + k))) × (nth (numbers_of ls) k ≡ Some n)

round_by : (i : ℕ) (ls : List Around) (l : Option Ident) (n : ℕ) → target l ls ≡ to_loop n → RoundBy i ls l n
round_by i [] l n e = absurd (cc)
round_by i (a_test ∷ ls) l n e = absurd (not_through (target l ls) n e)
round_by i (a_loop x m ∷ ls) l n e = by (is_meant l x) e (round_by (suc i) ls l n)
  where
    by : (b : Bool) → (if b then to_loop m else target l ls) ≡ to_loop n → (target l ls ≡ to_loop n → RoundBy (suc i) ls l n)
        → (k : ℕ) × ((if b then to_loop (suc i) else target l (numbered (suc (suc i)) (labels_of ls))) ≡ to_loop (suc (i + k))) × (nth (m ∷ numbers_of ls) k ≡ Some n)
    by true e r = let h : m ≡ n = cc in (0, ap (λ z. to_loop (suc z)) (sym (add-zero i)), ap (λ z. Some z) h)
    by false e f = let r = f e in (suc r.0, r.1 ∙ ap (λ z. to_loop (suc z)) (suc-add i r.0 ∙ sym (add-suc i r.0)), r.2)

module _ (items : ℕ → ℕ) (V : Moves) (I I' : Inside) (start : Variables) (F : FitItems items I I') (E : ExitsNamed V I') where
  abbrev pub J : Setting
  J = K items V I I' start F E

  pub moved_special : Special J
  moved_special = record {
    variable = λ M own m w at at' s x t t' u n e q. moved_var items V I I' start F E M own m w at at' s x t t' u n e q;
    broken = λ M own m w at at' s l t t' u n e q. moved_jump items V I I' start F E M own m w at at' s l t t' u n e q;
    continued = λ M own m w at at' s l t t' u n e q. moved_again items V I I' start F E M own m w at at' s l t t' u n e q;
    returned = λ M own m w at at' s o o' t t' u n f h q. moved_returned items V I I' start F E M own m w at' s o o' t t' u n f h q;
    suffix = λ R s n n' b b' v k h g. like_int g;
    annotated = λ M at at' p y t t' u n e q. restated (annotation_alike (loose items) M I I' F at at' y n t t' u e q) (λ z. z) (λ R sv h. numbers_map (λ z. z) (λ z. z) h (λ a b r. like_typed r));
    blocks = λ M own m w at at' b c t t' u n e q h. h tt;
  }

  pub led_round : (M : Made) → Led (IsRound V) M V.loops (rounds V) []
  led_round M l n e =
      let r = round_by 0 V.loops l n e in
      subst (λ (o : Option ℕ). Goes (IsRound V) M o n (target l [])) (sym (ap beyond (r.1 ∙ ap (λ z. to_loop (suc z)) (zero-add r.0)))) r.2

  unfoldable pub begins : (M : Made) → StartsAlike V M start → Stand J M [] (rounds V)
  begins M h = record {
    sc = V.scope;
    sc' = start;
    ls = V.loops;
    ls' = [];
    scopes = record {
      callees = λ x a. callee x (is_among x V.known) refl a;
      variables = λ x e. means x e;
      outer = λ x e k. refl;
    };
    led = led_round M;
    round = tt;
  }
    where
      paired : (b : Bool) (n m : ℕ) → Paired V.behind M b n m → Corresponds V.behind M n m b
      paired true n m h = h
      paired false n m h = h

      means : (x : List ℕ) → is_among x V.known ≡ true → Both (Corresponds V.behind M) (is_among x (referred V.plan.params)) (variable_named V.scope x) (variable_named start x)
      means x e = let r = h x e in (r.0, r.1, r.2, r.3, paired (is_among x (referred V.plan.params)) r.0 r.1 r.4)

      callee : (x : List ℕ) (f : Bool) → is_among x V.known ≡ f → (is_among x V.known ≡ false → (variable_named V.scope x ≡ None) × (variable_named start x ≡ None))
          → AtName (Corresponds V.behind M) (is_among x (referred V.plan.params)) (is_among x V.known) (variable_named V.scope x) (variable_named start x)
      callee x true e a = at_both (Corresponds V.behind M) (is_among x (referred V.plan.params)) (is_among x V.known) (variable_named V.scope x) (variable_named start x) (means x e)
      callee x false e a =
          let n = a e in subst (λ (o : Option ℕ). AtName (Corresponds V.behind M) (is_among x (referred V.plan.params)) (is_among x V.known) o (variable_named start x)) (sym n.0)
          (subst (λ (o : Option ℕ). AtName (Corresponds V.behind M) (is_among x (referred V.plan.params)) (is_among x V.known) None o) (sym n.1) e)

  pairs : (G : Made) (b : Bool) (n m : ℕ) → Corresponds V.behind G n m b → Paired V.behind G b n m
  pairs G true n m h = h
  pairs G false n m h = h

  -- what a name means behind the statements
  pub names : (G : Made) (sc sc' : Variables) (b : Bool) (x : List ℕ) → Both (Corresponds V.behind G) b (variable_named sc x) (variable_named sc' x)
      → (n : ℕ) × (m : ℕ) × (variable_named sc x ≡ Some n) × (variable_named sc' x ≡ Some m) × Paired V.behind G b n m
  names G sc sc' b x z = (z.0, z.1, z.2, z.3, pairs G b z.0 z.1 z.4)

  moved_tail : (M : Made) (own : Names) (w : Stand J M own (rounds V)) → w.ls ≡ V.loops → w.ls' ≡ [] → (o : OptionalExpression) → OptionalWithin (asked V I I' start) own (rounds V) o → (at at' : List ℕ) (t t' v : ItemNames) → in_optional I w.sc V.loops at o t ≡ Ok t'
      → TailAlike items V I' w.sc' M at' o (changed_optional (moving V.plan V.place) own (rounds V) o) t t' v
  moved_tail M own w here none o within at at' t t' v e =
      let A = optional_alike J moved_special M own (rounds V) w at at' o within t t' v (ap (λ (ls : List Around). in_optional I w.sc ls at o t) here ∙ e) (record { vars = tt; loops = tt; passages = tt }) in record {
        tables = A.table;
        resolves = ap (λ (ls : List Around). in_optional I' w.sc' ls at' (changed_optional (moving V.plan V.place) own (rounds V) o) v) (sym none) ∙ A.answer;
        made = A.made;
        stays = A.grows.variables;
        added = A.added;
        added' = A.added';
        grown = A.grown;
        grown' = A.grown';
        alike = λ R sv k k' c c' rest rest' q q' n n'. ((A.numbers R sv k k').holds c c' rest rest' (record { declared = q.0; declared' = q'.0; loops = q.1; loops' = q'.1 }) n n').like;
      }

  pub moved_run : (M : Made) → StartsAlike V M start → (at at' : List ℕ) (i i' : ℕ) (ss : Statements) → StatementsWithin (asked V I I' start) [] (rounds V) ss
      → (t u : ItemNames) (r : Scoped) → in_statements I V.scope V.loops at i ss t ≡ Ok r → RunAlike items V I I' start M at' i' ss t u r
  unfolding begins
  moved_run M h at at' i i' ss within t u r e =
      let w = begins M h in
      let A = statements_alike J moved_special M [] (rounds V) w at at' i i' ss within t r u e (record { vars = tt; loops = tt; passages = tt }) in
      let own = behind_all [] ss in
      let w1 = in_scope J A.made [] own (rounds V) (later J M A.made [] (rounds V) w A.grows) r.scope A.answer.0 A.answer.2 in record {
        statements = record {
          scope = A.answer.0;
          tables = A.table;
          resolves = A.answer.1;
          made = A.made;
          stays = A.grows.variables;
          names = λ x k. names A.made r.scope A.answer.0 (not (is_among x own) && is_among x (referred V.plan.params)) x (A.answer.2.variables x k);
          added = A.added;
          added' = A.added';
          grown = A.grown;
          grown' = A.grown';
          alike = λ R sv c c' rest rest' q q' n n'. ((A.numbers R sv).holds c c' rest rest' (record { declared = q.0; declared' = q'.0; loops = q.1; loops' = q'.1 }) n n').like;
        };
        tail = λ o a at at' t' v f. moved_tail A.made own w1 refl refl o a at at' r.tables t' v f;
      }
