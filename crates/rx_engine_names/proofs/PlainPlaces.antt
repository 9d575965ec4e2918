-- Variables, jumps and returns that stay what they are resolve alike, where no loop is left.
use Rattle.std.proofs.Common.{◌≡◌, ℕ, Bool, true, false, not, ◌&&◌, ◌||◌, List, [], ◌∷◌, Option, Some, None, Ok, refl, ap, subst}
use Rattle.rx_core.specs.declared.types.Span.{Span}
use Rattle.rx_tree.specs.declared.tree.Ident.{Ident}
use Rattle.rx_tree.specs.Plain as plain
use Rattle.rx_tree.specs.Spans.{body_span, pattern_span}
use Rattle.rx_tree.specs.Plain.{TypeTree, TypeTrees, PatternTree, Expression, OptionalExpression, Body, Parameter, Function, ItemTree, ProgramTree}
use Rattle.rx_resolve_names.specs.Scopes.{variable_named}
use Rattle.rx_resolve_names.specs.declared.resolved.ItemNames.{ItemNames}
use Rattle.rx_resolve_names.specs.Meant.{Around, Target, to_loop, out_of_test, nowhere, target}
use Rattle.rx_resolve_names.specs.Steps.{Inside, known, one, led, child, names}
use Rattle.rx_resolve_names.specs.Names.{in_optional_type, in_block}
use Rattle.rx_typed.specs.declared.nodes.Site.{Site}
use Rattle.rx_typed.specs.Named as named
use Rattle.rx_typed.specs.Naming.{first, use_of, declaration}
use Rattle.rx_core.specs.declared.types.Kind as kinds
use Rattle.rx_typed.specs.declared.nodes.Node.{Node}
use Rattle.rx_hoist_extraction.specs.Names.{Names, is_among}
use Rattle.rx_hoist_extraction.specs.Changed.{Changes, kept}
use Rattle.rx_hoist_extraction.specs.Moved.{leaves}
use Rattle.rx_engine_names.specs.Renaming.{Renaming, Has, Made}
use Rattle.rx_engine_names.specs.LikeNamed.{Holes, SameSpan, LikeExp, like_var, like_break, like_continue, like_return}
use Rattle.rx_engine_names.proofs.SideBySide.{the_same, Frame, Reached, Numbers, numbers_last, numbers_give, numbers_map, numbers_node, numbers_both, at_entries, Part, restated}
use Rattle.rx_engine_names.proofs.Scoped.{Outer, Corresponds, AtName}
use Rattle.rx_engine_names.proofs.Fitting.{FitItems}
use Rattle.rx_engine_names.proofs.CopiedPatterns.{names_one}
use Rattle.rx_engine_names.proofs.Standing.{AnnotationNumbers, ExpNumbers, keeps_leads, Goes, Led, Rounds, any_rounds, Setting, Stand, ExpPart, BodyPart, Special}
use Rattle.rx_engine_names.specs.Within.{Claims}
use Rattle.rx_engine_names.proofs.NoClaims.{no_claims}

-- ---- what is kept

-- literals, types of `let`s and blocks become something else
abbrev pub keeping : (Span → Option kinds.Kind → Option kinds.Kind) → (PatternTree → Option TypeTree → Option TypeTree) → (Body → Body → Body) → Changes
keeping i l b = record kept { at_int = i; at_let = l; at_block = b }

abbrev pub whole_in : Claims → Rounds → (L : Frame) (H : Holes) (I I' : Inside) → FitItems L.items I I' → Changes → Outer → Setting
whole_in N rounds L H I I' F C known = record { L = L; H = H; I = I; I' = I'; fits = F; N = N; C = C; behind = []; stars = []; left = λ n k. ⊥; known = known; rounds = rounds }

-- nothing is claimed
abbrev pub whole : (L : Frame) (H : Holes) (I I' : Inside) → FitItems L.items I I' → Changes → Outer → Setting
whole L H I I' F C known = whole_in no_claims any_rounds L H I I' F C known

-- ---- the special places

pub known_ok : (o o' : Option ℕ) (s : Span) (V : ℕ → ℕ → Bool → Type 0) (b f : Bool) → AtName V b f o o' → (n : ℕ) → known o s ≡ Ok n → (m : ℕ) × (known o' s ≡ Ok m) × V n m b
known_ok None None s V b f h n e = absurd (cc)
known_ok (Some k) (Some l) s V b f h n e = (l, refl, subst (λ (z : ℕ). V z l b) (the_same k n e) h)
known_ok None (Some l) s V b f h n e = absurd h
known_ok (Some k) None s V b f h n e = absurd h

-- a variable that stays one
pub plain_variable : (K : Setting) (M : Made) (at at' : List ℕ) (s : Span) (x : List ℕ) (f : Bool) (o o' : Option ℕ) (t t' u : ItemNames) → AtName (Corresponds K.behind M) false f o o' → names K.I at (one (known o s)) t ≡ Ok t' → Reached K.L M t u
    → Part K.L M t t' u (λ G v. names K.I' at' (one (known o' s)) u ≡ Ok v) (ExpNumbers K.H t u (plain.var s x) (plain.var s x) t')
plain_variable K M at at' s x f o o' t t' u h e q =
    let A = names_one K.L M K.I K.I' at at' t t' u (known o s) (known o' s) (λ n m. Has M.variables n m) (known_ok o o' s (Corresponds K.behind M) false f h) e q in
    restated A.part (λ z. z) (λ R sv k m m' i i'. numbers_node s i i' (λ n n' g. numbers_last k (λ a a' r. var_numbers n n' g a a'
    (at_entries (λ y z. R.variable (first y.0) (first z.0) ≡ true) (A.first ∷ []) (A.second ∷ []) false false a a' r (sv.variables A.first A.second (A.part.grows.variables A.first A.second A.fits))))))
  where
    var_numbers : {H : Holes} {R : Renaming} {t u : ItemNames} (n n' : Node) → SameSpan n n' → (a a' : List ℕ × Bool) → R.variable (first a.0) (first a'.0) ≡ true
        → Numbers (LikeExp H R) t u t u [] [] (λ c. (named.var n (use_of (first a.0) (declaration c (first a.0))), c)) (λ c. (named.var n' (use_of (first a'.0) (declaration c (first a'.0))), c))
    var_numbers n n' g a a' v = record { holds = λ c c' rest rest' q e e'. record { like = like_var g v; cursors = q; left = e; left' = e' } }

pub led_ok : (s : Span) (l : Option Ident) (a : Target) (n : ℕ) → led s l a ≡ Ok n → a ≡ to_loop n
led_ok s l (to_loop m) n e = ap to_loop (the_same m n e)
led_ok s l out_of_test n e = absurd (cc)
led_ok s None nowhere n e = absurd (cc)
led_ok s (Some x) nowhere n e = absurd (cc)

abbrev LedTo : Made → Span → Option Ident → Target → ℕ → Type 0
LedTo M s l a n = (m : ℕ) × (led s l a ≡ Ok m) × Has M.loops n m

goes_stays : (M : Made) (s : Span) (l : Option Ident) (o : Option ℕ) (n : ℕ) (a : Target) → Goes (λ n k. ⊥) M o n a → LedTo M s l a n
goes_stays M s l None n a g = (g.0, ap (led s l) g.1, g.2)
goes_stays M s l (Some k) n a g = absurd g

pub jump_fits : (M : Made) (s : Span) (l : Option Ident) (ls m ls' : List Around) → Led (λ n k. ⊥) M ls m ls' → (n : ℕ) → led s l (target l ls) ≡ Ok n → LedTo M s l (target l ls') n
jump_fits M s l ls m ls' h n e = goes_stays M s l (leaves l m) n (target l ls') (h l n (led_ok s l (target l ls) n e))

-- a `break` and a `continue` that stay what they are
pub plain_break : (K : Setting) (M : Made) (own : Names) (m : List Around) (w : Stand K M own m) (at at' : List ℕ) (s : Span) (l : Option Ident) (t t' u : ItemNames)
    → ((n : ℕ) → led s l (target l w.ls) ≡ Ok n → LedTo M s l (target l w.ls') n) → names K.I at (one (led s l (target l w.ls))) t ≡ Ok t' → Reached K.L M t u
    → ExpPart K M own m w at' (plain.break s l) (plain.break s l) t t' u
plain_break K M own m w at at' s l t t' u f e q =
    let A = names_one K.L M K.I K.I' at at' t t' u (led s l (target l w.ls)) (led s l (target l w.ls')) (λ n m. Has M.loops n m) f e q in
    restated A.part (λ z. z) (λ R sv k m m' i i'. numbers_node s i i' (λ n n' g. numbers_last k (λ x y r. numbers_both (keeps_leads (first x.0)) (keeps_leads (first y.0)) (λ _ _. numbers_give (named.break n (first x.0)) (named.break n' (first y.0))
    (at_entries (λ x y. LikeExp K.H R (named.break n (first x.0)) (named.break n' (first y.0))) (A.first ∷ []) (A.second ∷ []) false false x y r (like_break g (sv.loops A.first A.second (A.part.grows.loops A.first A.second A.fits))))))))

pub plain_continue : (K : Setting) (M : Made) (own : Names) (m : List Around) (w : Stand K M own m) (at at' : List ℕ) (s : Span) (l : Option Ident) (t t' u : ItemNames)
    → ((n : ℕ) → led s l (target l w.ls) ≡ Ok n → LedTo M s l (target l w.ls') n) → names K.I at (one (led s l (target l w.ls))) t ≡ Ok t' → Reached K.L M t u
    → ExpPart K M own m w at' (plain.continue s l) (plain.continue s l) t t' u
plain_continue K M own m w at at' s l t t' u f e q =
    let A = names_one K.L M K.I K.I' at at' t t' u (led s l (target l w.ls)) (led s l (target l w.ls')) (λ n m. Has M.loops n m) f e q in
    restated A.part (λ z. z) (λ R sv k m m' i i'. numbers_node s i i' (λ n n' g. numbers_map (λ x. named.continue n (first x.0)) (λ y. named.continue n' (first y.0)) k (λ x y r.
    at_entries (λ x y. LikeExp K.H R (named.continue n (first x.0)) (named.continue n' (first y.0))) (A.first ∷ []) (A.second ∷ []) false false x y r (like_continue g (sv.loops A.first A.second (A.part.grows.loops A.first A.second A.fits))))))

pub none_starred : (b : Bool) → (b && false) ≡ false
none_starred true = refl
none_starred false = refl

-- what is asked of literals, of types of `let`s and of blocks
pub record Becomes (L : Frame) (H : Holes) (I I' : Inside) (F : FitItems L.items I I') (C : Changes) (known : Outer) : Type 0 where
  pub suffix : (R : Renaming) (s : Span) (n n' : Node) (b b' : Bool) (v : ℕ) (k : Option kinds.Kind) → n.span ≡ s → SameSpan n n' → LikeExp H R (named.int n b v k) (named.int n' b' v (C.at_int s k))
  pub annotated : (M : Made) (at at' : List ℕ) (p : PatternTree) (y : Option TypeTree) (t t' u : ItemNames) → in_optional_type I at y t ≡ Ok t' → Reached L M t u
      → Part L M t t' u (λ G v. in_optional_type I' at' (C.at_let p y) u ≡ Ok v) (AnnotationNumbers H (pattern_span p) t u y (C.at_let p y) t')
  pub blocks : (M : Made) (own : Names) (m : List Around) (w : Stand (whole L H I I' F C known) M own m) (at at' : List ℕ) (b done : Body) (t t' u : ItemNames) → in_block I w.sc w.ls at b t ≡ Ok t' → Reached L M t u
      → (H.copied (body_span b) → BodyPart (whole L H I I' F C known) M own m w at' b done t t' u) → BodyPart (whole L H I I' F C known) M own m w at' b (C.at_block b done) t t' u

pub special : (L : Frame) (H : Holes) (I I' : Inside) (F : FitItems L.items I I') (i : Span → Option kinds.Kind → Option kinds.Kind) (l : PatternTree → Option TypeTree → Option TypeTree) (b : Body → Body → Body) (known : Outer)
    → Becomes L H I I' F (keeping i l b) known → Special (whole L H I I' F (keeping i l b) known)
special L H I I' F i l b known B = let K = whole L H I I' F (keeping i l b) known in record {
  variable = λ M own m w at at' s x t t' u n e q. plain_variable K M at at' s x _ (variable_named w.sc x) (variable_named w.sc' x) t t' u
      (subst (λ (z : Bool). AtName (Corresponds [] M) z (is_among x own || is_among x known.names) (variable_named w.sc x) (variable_named w.sc' x)) (none_starred (not (is_among x own))) (w.scopes.callees x tt)) e q;
  broken = λ M own m w at at' s l t t' u n e q. plain_break K M own m w at at' s l t t' u (jump_fits M s l w.ls m w.ls' w.led) e q;
  continued = λ M own m w at at' s l t t' u n e q. plain_continue K M own m w at at' s l t t' u (jump_fits M s l w.ls m w.ls' w.led) e q;
  returned = λ M own m w at at' s o o' t t' u n f h q. restated (h (child at' 0) u q) (λ z. z) (λ R sv k m m' i i'. numbers_node s i i' (λ n n' g. numbers_map (named.return n) (named.return n') (k Site.Expects Site.Expects) (λ _ _ r. like_return g r)));
  suffix = B.suffix;
  annotated = λ M at at' p y t t' u n e q. B.annotated M at at' p y t t' u e q;
  blocks = λ M own m w at at' b done t t' u n e q h. B.blocks M own m w at at' b done t t' u e q h;
}
