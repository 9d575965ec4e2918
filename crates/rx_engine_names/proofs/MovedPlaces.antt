-- The special places of a run that is moved: variables behind references, jumps that leave, returns. With them its statements resolve in
-- the new function, and their trees are alike.
use Rattle.std.proofs.Common.{◌≡◌, ℕ, Bool, true, false, not, ◌&&◌, ◌||◌, if◌then◌else◌, List, [], ◌∷◌, Option, Some, None, Ok, refl, sym, ap, ◌∙◌, subst, append-nil}
use Rattle.rx_core.specs.declared.types.Span.{Span}
use Rattle.rx_tree.specs.declared.tree.Ident.{Ident}
use Rattle.rx_tree.specs.Lists.{Every}
use Rattle.rx_tree.specs.Plain as plain
use Rattle.rx_tree.specs.Plain.{TypeTree, PatternTree, Expression, OptionalExpression}
use Rattle.rx_resolve_names.specs.Scopes.{Variables, variable_named}
use Rattle.rx_resolve_names.specs.declared.resolved.ItemNames.{ItemNames}
use Rattle.rx_resolve_names.specs.declared.resolved.NodeNames.{NodeNames}
use Rattle.rx_resolve_names.specs.Meant.{Around, Target, to_loop, target}
use Rattle.rx_resolve_names.specs.Steps.{Outcome, Inside, known, one, led, child, entry, numbered, with_names, names}
use Rattle.rx_resolve_names.specs.Names.{in_expression}
use Rattle.rx_typed.specs.declared.nodes.Node.{Node}
use Rattle.rx_typed.specs.declared.nodes.Site.{Site}
use Rattle.rx_typed.specs.Named as named
use Rattle.rx_typed.specs.Naming as numbering
use Rattle.rx_typed.specs.Naming.{Numbering, give, a_node, an_entry, first, use_of, declaration, of_expression, of_optional}
use Rattle.rx_hoist_extraction.specs.Names.{Names, is_among}
use Rattle.rx_hoist_extraction.specs.Plan.{Exit, to_next, to_break, to_continue, same_exit, outs_of, names_of}
use Rattle.rx_hoist_extraction.specs.Moved.{referred, moved_variable, leaves, leaving, moved_break, moved_continue, moving}
use Rattle.rx_engine_names.specs.Renaming.{Renaming, Has, Made}
use Rattle.rx_engine_names.specs.LikeNamed.{SameSpan, LikeExp, like_hole}
use Rattle.rx_engine_names.specs.Moves.{Moves, IsRound, Leaves, MovedExp, through, leaves_break, leaves_continue, moved, HandsOut, asked, ExitsNamed}
use Rattle.rx_engine_names.proofs.SideBySide.{named_ok, the_same, Frame, Reached, Grows, grows_not, Kind, Numbers, numbers_last, numbers_node, numbers_left, at_entries, Part, in_turn, restated}
use Rattle.rx_engine_names.proofs.Scoped.{Corresponds, Both, at_both}
use Rattle.rx_engine_names.proofs.Fitting.{FitItems}
use Rattle.rx_engine_names.proofs.CopiedPatterns.{names_one}
use Rattle.rx_engine_names.proofs.Standing.{ExpNumbers, keeps_leads, Goes, any_rounds, Setting, Stand, ExpPart}
use Rattle.rx_engine_names.proofs.PlainPlaces.{known_ok, plain_variable, led_ok, plain_break, plain_continue}
use Rattle.rx_engine_names.proofs.PinnedPlaces.{keeps_node}
use Rattle.rx_engine_names.proofs.OneSided.{second_node, second_map, first_entry, first_first, first_gives}
use Rattle.rx_engine_names.proofs.MadePlaces.{AllMeant, made_leaving}

-- what is kept of the numbers of the next variables and loops: nothing
abbrev pub loose : (ℕ → ℕ) → Frame
loose items = record { items = items; holds = λ ps n m. Unit {0}; pushed = λ ps n m h. tt; passed = λ M n m k l. Unit {0}; passed_variable = λ M n m k l h. tt; passed_loop = λ M n m k l h. tt }

-- nothing was passed
abbrev pub unpassed : (ℕ → ℕ) → Frame
unpassed items = record {
  items = items;
  holds = λ ps n m. Unit {0};
  pushed = λ ps n m h. tt;
  passed = λ M n m k l. M.passages ≡ [];
  passed_variable = λ M n m k l h. h;
  passed_loop = λ M n m k l h. h;
}

module _ (items : ℕ → ℕ) (V : Moves) (I I' : Inside) (start : Variables) (F : FitItems items I I') (E : ExitsNamed V I') where
  -- the setting; `start` is the scope where the copy begins
  abbrev pub K : Setting
  K = record {
    L = loose items;
    H = moved V;
    I = I;
    I' = I';
    fits = F;
    N = asked V I I' start;
    C = moving V.plan V.place;
    behind = V.behind;
    stars = referred V.plan.params;
    left = IsRound V;
    known = record { names = V.known; tells = λ x o. is_among x V.known ≡ true → o ≡ variable_named V.scope x };
    rounds = any_rounds;
  }

  -- ---- variables

  through_numbers : (R : Renaming) (t u : ItemNames) (n n' d : Node) → SameSpan n n' → d.span ≡ V.place → (a a' : List ℕ × Bool) → Has V.behind (first a.0) (first a'.0)
      → Numbers (λ e e'. LikeExp (moved V) R e (named.deref d e')) t u t u [] [] (λ c. (named.var n (use_of (first a.0) (declaration c (first a.0))), c)) (λ c. (named.var n' (use_of (first a'.0) (declaration c (first a'.0))), c))
  through_numbers R t u n n' d g h a a' v = record { holds = λ c c' rest rest' q e e'. record { like = like_hole (through g h v); cursors = q; left = e; left' = e' } }

  behind_variable : (M : Made) (at at' : List ℕ) (s : Span) (x : List ℕ) (o o' : Option ℕ) (t t' u : ItemNames) → Both (Corresponds V.behind M) true o o' → names I at (one (known o s)) t ≡ Ok t' → Reached (loose items) M t u
      → Part (loose items) M t t' u (λ G v. names I' (child at' 0) (one (known o' s)) u ≡ Ok v) (ExpNumbers (moved V) t u (plain.var s x) (plain.deref V.place (plain.var s x)) t')
  behind_variable M at at' s x o o' t t' u h e q =
      let A = names_one (loose items) M I I' at (child at' 0) t t' u (known o s) (known o' s) (λ n m. Has V.behind n m) (known_ok o o' s (Corresponds V.behind M) true true (at_both (Corresponds V.behind M) true true o o' h)) e q in
      restated A.part (λ z. z) (λ R sv k m m' i i'. second_node V.place i' (λ d h. second_map {S = λ e e'. LikeExp (moved V) R e (named.deref d e')} (named.deref d)
      (numbers_node s i Site.Place (λ n n' g. numbers_last k (λ a a' r. through_numbers R _ _ n n' d g h a a' (at_entries (λ y z. Has V.behind (first y.0) (first z.0)) (A.first ∷ []) (A.second ∷ []) false false a a' r A.fits)))) (λ e e' d. d)))

  pub moved_var : (M : Made) (own : Names) (m : List Around) (w : Stand K M own m) (at at' : List ℕ) (s : Span) (x : List ℕ) (t t' u : ItemNames) → (is_among x own || is_among x V.known) ≡ true
      → in_expression I w.sc w.ls at (plain.var s x) t ≡ Ok t' → Reached (loose items) M t u → ExpPart K M own m w at' (plain.var s x) (moved_variable V.plan V.place own s x) t t' u
  moved_var M own m w at at' s x t t' u n e q = by (not (is_among x own) && is_among x (referred V.plan.params)) (w.scopes.variables x n)
    where
      by : (b : Bool) → Both (Corresponds V.behind M) b (variable_named w.sc x) (variable_named w.sc' x) → ExpPart K M own m w at' (plain.var s x) (if b then plain.deref V.place (plain.var s x) else plain.var s x) t t' u
      by true h = behind_variable M at at' s x (variable_named w.sc x) (variable_named w.sc' x) t t' u h e q
      by false h = plain_variable K M at at' s x true (variable_named w.sc x) (variable_named w.sc' x) t t' u (at_both (Corresponds V.behind M) false true (variable_named w.sc x) (variable_named w.sc' x) h) e q

  -- ---- jumps

  -- what is handed out means variables that correspond
  outs_meant : (M : Made) (own : Names) (m : List Around) (w : Stand K M own m) (xs : Names)
      → Every (λ (y : List ℕ). (is_among y own ≡ false) × (is_among y V.known ≡ true) × (is_among y (referred V.plan.params) ≡ false)) xs → AllMeant (loose items) V I' w.sc' w.ls' M xs
  outs_meant M own m w [] h = tt
  outs_meant M own m w (x ∷ xs) h =
      let r = w.scopes.variables x (or_true (is_among x own) (is_among x V.known) h.0.1) in (
        (r.0, r.1, sym (w.scopes.outer x h.0.0 h.0.1) ∙ r.2, r.3, subst (λ (b : Bool). Corresponds V.behind M r.0 r.1 b) (and_false (not (is_among x own)) (is_among x (referred V.plan.params)) h.0.2) r.4),
        outs_meant M own m w xs h.1,
      )
    where
      or_true : (a b : Bool) → b ≡ true → (a || b) ≡ true
      or_true true b e = refl
      or_true false b e = e

      and_false : (a b : Bool) → b ≡ false → (a && b) ≡ false
      and_false true b e = e
      and_false false b e = refl

  -- the text's entry of a jump alone
  abbrev JumpEntry : ItemNames → ItemNames → ℕ → ItemNames → Kind
  JumpEntry t u n t' R u' es es' = Numbers (λ a (z : Unit {0}). a ≡ (n ∷ [], false)) t u t' u' es es' an_entry (give tt)

  jump_entry : (M : Made) (at : List ℕ) (t t' u : ItemNames) (n : ℕ) (r : Outcome ℕ) → r ≡ Ok n → names I at (one r) t ≡ Ok t' → Reached (loose items) M t u → Part (loose items) M t t' u (λ G v. v ≡ u) (JumpEntry t u n t')
  jump_entry M at t t' u n r is e q =
      let z = entry I at (n ∷ []) in
      subst (λ (v : ItemNames). Part (loose items) M t v u (λ G v. v ≡ u) (JumpEntry t u n v)) (the_same (with_names z t) t' (sym (ap (λ (o : Outcome ℕ). names I at (one o) t) is) ∙ e)) (record {
        made = M;
        grows = grows_not M;
        table = u;
        answer = refl;
        reached = record { vars = tt; loops = tt; passages = tt };
        added = z ∷ [];
        added' = [];
        grown = refl;
        grown' = sym (append-nil u.names);
        numbers = λ R sv. first_entry z;
      })

  -- a jump that leaves, told of its kind
  abbrev JumpPart : (M : Made) (own : Names) (m : List Around) (w : Stand K M own m) (at' : List ℕ) (f : Node → ℕ → named.Exp) (e' : Expression) (t t' u : ItemNames) (N : Node → ℕ → Numbering named.Exp) (s : Span) → Type 0
  JumpPart M own m w at' f e' t t' u N s = Part (loose items) M t t' u (λ G v. in_expression I' w.sc' w.ls' at' e' u ≡ Ok v)
      (λ R u' es es'. (m' : Bool) (i i' : Site) → Numbers (LikeExp (moved V) R) t u t' u' es es' (numbering.and_then (a_node s i) (λ n. numbering.and_then an_entry (λ ns. N n (first ns.0)))) (of_expression m' i' e'))

  leaving_part : (M : Made) (own : Names) (m : List Around) (w : Stand K M own m) (at at' : List ℕ) (s : Span) (r : Outcome ℕ) (n : ℕ) (x : Exit) (f : Node → ℕ → named.Exp) (N : Node → ℕ → Numbering named.Exp)
      → ((R : Renaming) (d : Node) (j : ℕ) (t u t' u' : ItemNames) (es es' : List NodeNames) (B : named.Exp → Type 0) (m' : Numbering named.Exp) → Numbers (λ (z : Unit {0}) b. B b) t u t' u' es es' (give tt) m'
      → ((b : named.Exp) → B b → LikeExp (moved V) R (f d j) b) → Numbers (LikeExp (moved V) R) t u t' u' es es' (N d j) m')
      → same_exit to_next x ≡ false → HandsOut V own x → ((R : Renaming) (d : Node) (e : named.Exp) → Leaves V R x e → MovedExp V R (f d n) e)
      → r ≡ Ok n → (t t' u : ItemNames) → names I at (one r) t ≡ Ok t' → Reached (loose items) M t u → JumpPart M own m w at' f (leaving V.plan V.place x) t t' u N s
  leaving_part M own m w at at' s r n x f N steps away hands hole is t t' u e q =
      let A = jump_entry M at t t' u n r is e q in
      let meant = outs_meant M own m w (names_of (outs_of x V.plan.exits)) hands.1 in
      let B = made_leaving (loose items) V I' w.sc' w.ls' A.made at' x t' A.table (E x hands.0 away) (later_meant M A.made A.grows w.sc' (names_of (outs_of x V.plan.exits)) meant) A.reached in
      in_turn A B (λ y z. ap (λ (v : ItemNames). in_expression I' w.sc' w.ls' at' (leaving V.plan V.place x) v) (sym y) ∙ z)
      (λ R sv k l m' i i'. numbers_left (keeps_node s i) (λ d. first_first k (λ a z. subst (λ (c : List ℕ × Bool). Numbers (LikeExp (moved V) R) t' A.table t' B.table B.added B.added' (N d (first c.0)) (of_expression m' i' (leaving V.plan V.place x))) (sym z)
      (steps R d n t' A.table t' B.table B.added B.added' (λ b. Leaves V R x b) (of_expression m' i' (leaving V.plan V.place x)) (l m' i') (λ b h. like_hole (hole R d b h))))))
    where
      later_meant : (M M' : Made) → Grows M M' → (sc' : Variables) (xs : Names) → AllMeant (loose items) V I' sc' w.ls' M xs → AllMeant (loose items) V I' sc' w.ls' M' xs
      later_meant M M' g sc' [] h = tt
      later_meant M M' g sc' (x ∷ xs) h = ((h.0.0, h.0.1, h.0.2, h.0.3, g.variables h.0.0 h.0.1 h.0.4), later_meant M M' g sc' xs h.1)

  break_steps : (R : Renaming) (d : Node) (j : ℕ) (t u t' u' : ItemNames) (es es' : List NodeNames) (B : named.Exp → Type 0) (m' : Numbering named.Exp) → Numbers (λ (z : Unit {0}) b. B b) t u t' u' es es' (give tt) m'
      → ((b : named.Exp) → B b → LikeExp (moved V) R (named.break d j) b) → Numbers (LikeExp (moved V) R) t u t' u' es es' (numbering.and_then (numbering.leads j) (λ _. give (named.break d j))) m'
  break_steps R d j t u t' u' es es' B m' N h = numbers_left (keeps_leads j) (λ _. first_gives (named.break d j) N h)

  -- the loop that a jump of the text leads to
  text_loop : (s : Span) (l : Option Ident) (ls : List Around) (at : List ℕ) (t t' : ItemNames) → names I at (one (led s l (target l ls))) t ≡ Ok t' → (n : ℕ) × (led s l (target l ls) ≡ Ok n) × (target l ls ≡ to_loop n)
  text_loop s l ls at t t' e =
      let a = named_ok (one (led s l (target l ls))) (λ ns. numbered I at ns t) t' e in
      let b = named_ok (led s l (target l ls)) (λ n. Ok (n ∷ [])) a.0 a.1 in (b.0, b.1, led_ok s l (target l ls) b.0 b.1)

  goes_by : (M : Made) (m : List Around) (l : Option Ident) (o : Option ℕ) → leaves l m ≡ o → (n : ℕ) (a : Target) → Goes (IsRound V) M (leaves l m) n a → Goes (IsRound V) M o n a
  goes_by M m l o e n a g = subst (λ (z : Option ℕ). Goes (IsRound V) M z n a) e g

  stays : (M : Made) (own : Names) (m : List Around) (w : Stand K M own m) (s : Span) (l : Option Ident) → leaves l m ≡ None → (n : ℕ) → led s l (target l w.ls) ≡ Ok n → (j : ℕ) × (led s l (target l w.ls') ≡ Ok j) × Has M.loops n j
  stays M own m w s l e n h = let g = goes_by M m l None e n (target l w.ls') (w.led l n (led_ok s l (target l w.ls) n h)) in (g.0, ap (led s l) g.1, g.2)

  pub moved_jump : (M : Made) (own : Names) (m : List Around) (w : Stand K M own m) (at at' : List ℕ) (s : Span) (l : Option Ident) (t t' u : ItemNames) → ((k : ℕ) → leaves l m ≡ Some k → HandsOut V own (to_break k))
      → names I at (one (led s l (target l w.ls))) t ≡ Ok t' → Reached (loose items) M t u → ExpPart K M own m w at' (plain.break s l) (moved_break V.plan V.place s l (leaves l m)) t t' u
  moved_jump M own m w at at' s l t t' u c e q = by (leaves l m) refl
    where
      by : (o : Option ℕ) → leaves l m ≡ o → ExpPart K M own m w at' (plain.break s l) (moved_break V.plan V.place s l o) t t' u
      by None h = plain_break K M own m w at at' s l t t' u (stays M own m w s l h) e q
      by (Some k) h =
          let x = text_loop s l w.ls at t t' e in
          let g = goes_by M m l (Some k) h x.0 (target l w.ls') (w.led l x.0 x.2) in
          restated (leaving_part M own m w at at' s (led s l (target l w.ls)) x.0 (to_break k) (λ d j. named.break d j) (λ d j. numbering.and_then (numbering.leads j) (λ _. give (named.break d j))) break_steps refl (c k h) (λ R d e v. leaves_break g v) x.1 t t' u e q)
          (λ z. z) (λ R sv n b b' i i'. n b' i i')

  pub moved_again : (M : Made) (own : Names) (m : List Around) (w : Stand K M own m) (at at' : List ℕ) (s : Span) (l : Option Ident) (t t' u : ItemNames) → ((k : ℕ) → leaves l m ≡ Some k → HandsOut V own (to_continue k))
      → names I at (one (led s l (target l w.ls))) t ≡ Ok t' → Reached (loose items) M t u → ExpPart K M own m w at' (plain.continue s l) (moved_continue V.plan V.place s l (leaves l m)) t t' u
  moved_again M own m w at at' s l t t' u c e q = by (leaves l m) refl
    where
      by : (o : Option ℕ) → leaves l m ≡ o → ExpPart K M own m w at' (plain.continue s l) (moved_continue V.plan V.place s l o) t t' u
      by None h = plain_continue K M own m w at at' s l t t' u (stays M own m w s l h) e q
      by (Some k) h =
          let x = text_loop s l w.ls at t t' e in
          let g = goes_by M m l (Some k) h x.0 (target l w.ls') (w.led l x.0 x.2) in
          restated (leaving_part M own m w at at' s (led s l (target l w.ls)) x.0 (to_continue k) (λ d j. named.continue d j) (λ d j. give (named.continue d j)) (λ R d j t u t' u' es es' B m' N h. first_gives (named.continue d j) N h) refl (c k h) (λ R d e v. leaves_continue g v) x.1 t t' u e q)
          (λ z. z) (λ R sv n b b' i i'. n b' i i')
