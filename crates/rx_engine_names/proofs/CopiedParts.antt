-- Parts that are copied where some names mean variables that correspond; statements of a text beside nothing.
use Rattle.std.proofs.Common.{◌≡◌, ℕ, Bool, true, false, not, ◌&&◌, ◌||◌, if◌then◌else◌, List, [], ◌∷◌, ◌++◌, Option, Some, None, Ok, inl, inr, refl, sym, ap, subst, bytes_eq}
use Rattle.rx_core.specs.declared.types.Span.{Span}
use Rattle.rx_tree.specs.declared.tree.Ident.{Ident}
use Rattle.rx_tree.specs.Plain as plain
use Rattle.rx_tree.specs.Plain.{Body, OptionalExpression, Statements, ProgramTree}
use Rattle.rx_resolve_names.specs.Scopes.{DeclaredNames, Variables, variable_named}
use Rattle.rx_resolve_names.specs.declared.resolved.ItemNames.{ItemNames}
use Rattle.rx_resolve_names.specs.declared.resolved.NodeNames.{NodeNames}
use Rattle.rx_resolve_names.specs.Meant.{Around, a_loop, a_test, Target, to_loop, through_test, is_meant, target}
use Rattle.rx_resolve_names.specs.Steps.{Inside, child}
use Rattle.rx_resolve_names.specs.Names.{in_statements, in_optional, Scoped}
use Rattle.rx_typed.specs.declared.nodes.Site.{Site}
use Rattle.rx_typed.specs.Named as named
use Rattle.rx_typed.specs.Naming.{of_optional, of_statements}
use Rattle.rx_hoist_extraction.specs.Names.{Names, is_among}
use Rattle.rx_hoist_extraction.specs.Changed.{kept, changed_statements, changed_optional}
use Rattle.rx_hoist_extraction.proofs.Unchanged.{same_body}
use Rattle.rx_engine_names.specs.Renaming.{Has, HasPassage, Made, Pairs, Passage, Renaming, Serves}
use Rattle.rx_engine_names.specs.LikeNamed.{no_holes, like_int, like_typed, like_return}
use Rattle.rx_engine_names.specs.Replaced.{NamesAlike, LoopsAlike, only}
use Rattle.rx_engine_names.proofs.SideBySide.{numbers_node, numbers_map, restated}
use Rattle.rx_engine_names.proofs.Scoped.{unknown, Corresponds, AtName, Both, at_both}
use Rattle.rx_engine_names.proofs.Fitting.{Fits}
use Rattle.rx_engine_names.proofs.CopiedPatterns.{optional_type_alike}
use Rattle.rx_engine_names.proofs.Standing.{any_rounds, Setting, Stand, Special}
use Rattle.rx_engine_names.proofs.CopiedExpressions.{optional_alike, statements_alike}
use Rattle.rx_engine_names.proofs.PlainPlaces.{none_starred, whole, plain_variable, jump_fits, plain_break, plain_continue, special}
use Rattle.rx_engine_names.proofs.NoClaims.{statements_within, optional_within}
use Rattle.rx_engine_names.proofs.KeptItems.{keeps_itself, keeps_fits}
use Rattle.rx_engine_names.proofs.MovedPlaces.{loose, unpassed}
use Rattle.rx_engine_names.proofs.Alone.{Alone}

-- ---- nothing is changed

abbrev statements_in : Body → Statements
statements_in (plain.body s ss o) = ss

abbrev tail_in : Body → OptionalExpression
tail_in (plain.body s ss o) = o

pub statements_kept : (s : Span) (own : Names) (ls : List Around) (ss : Statements) → changed_statements kept own ls ss ≡ ss
statements_kept s own ls ss = ap statements_in (same_body own ls (plain.body s ss plain.absent))

pub tail_kept : (s : Span) (own : Names) (ls : List Around) (o : OptionalExpression) → changed_optional kept own ls o ≡ o
tail_kept s own ls o = ap tail_in (same_body own ls (plain.body s plain.no_statement o))

-- ---- a part that is copied

module _ (items : ℕ → ℕ) (I I' : Inside) (F : Fits items I I') (xs : Names) (start start' : Variables) where
  abbrev pub Copying : Setting
  Copying = record {
    L = loose items;
    H = no_holes;
    I = I;
    I' = I';
    fits = F.items_fit;
    N = only xs start start';
    C = kept;
    behind = [];
    stars = [];
    left = λ n k. ⊥;
    known = unknown;
    rounds = any_rounds;
  }

  variable_both : (M : Made) (own : Names) (x : List ℕ) (o o' : Option ℕ) → Both (Corresponds [] M) (not (is_among x own) && false) o o' → AtName (Corresponds [] M) false true o o'
  variable_both M own x o o' h = at_both (Corresponds [] M) false true o o' (subst (λ (b : Bool). Both (Corresponds [] M) b o o') (none_starred (not (is_among x own))) h)

  or_left : (b : Bool) → b ≡ true → (b || false) ≡ true
  or_left true e = refl
  or_left false e = e

  pub copied_special : Special Copying
  copied_special = record {
    variable = λ M own m w at at' s x t t' u n e q. plain_variable Copying M at at' s x true (variable_named w.sc x) (variable_named w.sc' x) t t' u (variable_both M own x (variable_named w.sc x) (variable_named w.sc' x) (w.scopes.variables x (or_left (is_among x own) n))) e q;
    broken = λ M own m w at at' s l t t' u n e q. plain_break Copying M own m w at at' s l t t' u (jump_fits M s l w.ls m w.ls' w.led) e q;
    continued = λ M own m w at at' s l t t' u n e q. plain_continue Copying M own m w at at' s l t t' u (jump_fits M s l w.ls m w.ls' w.led) e q;
    returned = λ M own m w at at' s o o' t t' u n f h q. restated (h (child at' 0) u q) (λ z. z) (λ R sv k m m' i i'. numbers_node s i i' (λ n n' g. numbers_map (named.return n) (named.return n') (k Site.Expects Site.Expects) (λ _ _ r. like_return g r)));
    suffix = λ R s n n' b b' v k h g. like_int g;
    annotated = λ M at at' p y t t' u n e q. restated (optional_type_alike (loose items) M I I' F at at' y t t' u e q) (λ z. z) (λ R sv h. numbers_map (λ z. z) (λ z. z) h (λ a b r. like_typed r));
    blocks = λ M own m w at at' b c t t' u n e q h. h tt;
  }

  unfoldable pub copied_stand : (M : Made) (ls ls' : List Around) → NamesAlike M xs start start' → LoopsAlike M ls ls' → Stand Copying M xs []
  copied_stand M ls ls' h g = record {
    sc = start;
    sc' = start';
    ls = ls;
    ls' = ls';
    scopes = record { callees = λ x a. callee x a (is_among x xs) refl; variables = λ x e. both x (is_among x xs) refl e; outer = λ x e. tt };
    led = λ l n e. g l n e;
    round = tt;
  }
    where
      means : (x : List ℕ) → is_among x xs ≡ true → Both (Corresponds [] M) false (variable_named start x) (variable_named start' x)
      means x e = h x e

      callee : (x : List ℕ) → (is_among x xs ≡ false → (variable_named start x ≡ None) × (variable_named start' x ≡ None)) → (z : Bool) → is_among x xs ≡ z → AtName (Corresponds [] M) (not z && false) (z || false) (variable_named start x) (variable_named start' x)
      callee x a true e = at_both (Corresponds [] M) false true (variable_named start x) (variable_named start' x) (means x e)
      callee x a false e =
          let n = a e in subst (λ (o : Option ℕ). AtName (Corresponds [] M) false false o (variable_named start' x)) (sym n.0)
          (subst (λ (o : Option ℕ). AtName (Corresponds [] M) false false None o) (sym n.1) refl)

      both : (x : List ℕ) (z : Bool) → is_among x xs ≡ z → (z || false) ≡ true → Both (Corresponds [] M) (not z && false) (variable_named start x) (variable_named start' x)
      both x true e k = means x e
      both x false e k = absurd (cc)

  -- what names mean behind statements
  pub names_behind : (G : Made) (own : Names) (sc sc' : Variables) → ((x : List ℕ) → (is_among x own || false) ≡ true → Both (Corresponds [] G) (not (is_among x own) && false) (variable_named sc x) (variable_named sc' x)) → NamesAlike G own sc sc'
  names_behind G own sc sc' h x e = subst (λ (b : Bool). Both (Corresponds [] G) b (variable_named sc x) (variable_named sc' x)) (none_starred (not (is_among x own))) (h x (or_left (is_among x own) e))

-- ---- statements of a text beside nothing: they are like themselves

abbrev own_pairs : Variables → Pairs
own_pairs [] = []
own_pairs (v ∷ vs) = (v.number, v.number) ∷ own_pairs vs

abbrev own_loops : List Around → Pairs
own_loops [] = []
own_loops (a_loop l n ∷ ls) = (n, n) ∷ own_loops ls
own_loops (a_test ∷ ls) = own_loops ls

own_variable : (sc : Variables) (x : List ℕ) (n : ℕ) → variable_named sc x ≡ Some n → Has (own_pairs sc) n n
own_variable [] x n e = absurd (cc)
own_variable (v ∷ vs) x n e = by (bytes_eq x v.name) e (own_variable vs x n)
  where
    by : (b : Bool) → (if b then Some v.number else variable_named vs x) ≡ Some n → (variable_named vs x ≡ Some n → Has (own_pairs vs) n n) → Has ((v.number, v.number) ∷ own_pairs vs) n n
    by true e r = let h : n ≡ v.number = cc in inl (inl (h, h))
    by false e r = inr (r e)

not_tested : (a : Target) (n : ℕ) → through_test a ≡ to_loop n → ⊥
not_tested (to_loop m) n e = cc
not_tested _ n e = cc

own_target : (ls : List Around) (l : Option Ident) (n : ℕ) → target l ls ≡ to_loop n → Has (own_loops ls) n n
own_target [] l n e = absurd (cc)
own_target (a_test ∷ ls) l n e = absurd (not_tested (target l ls) n e)
own_target (a_loop x m ∷ ls) l n e = by (is_meant l x) e (own_target ls l n)
  where
    by : (b : Bool) → (if b then to_loop m else target l ls) ≡ to_loop n → (target l ls ≡ to_loop n → Has (own_loops ls) n n) → Has ((m, m) ∷ own_loops ls) n n
    by true e r = let h : n ≡ m = cc in inl (inl (h, h))
    by false e r = inr (r e)

total : Renaming
total = record { variable = λ n m. true; loop = λ n m. true; item = λ n. n }

total_serves : (M : Made) → M.passages ≡ [] → Serves (λ n. n) M total
unfolding total
total_serves M e = record { variables = λ n m h. refl; loops = λ n m h. refl; items_are = λ n. refl; passages = λ x h. absurd (subst (λ (l : List Passage). HasPassage l x) e h) }

-- what they add
pub record Text (t : ItemNames) (r : Scoped) (ss : Statements) : Type 0 where
  pub added : List NodeNames
  pub grown : r.tables.names ≡ t.names ++ added
  pub numbers : Alone (λ z. Unit {0}) t r.tables added (of_statements ss)

pub record TextTail (t t' : ItemNames) (o : OptionalExpression) : Type 0 where
  pub added : List NodeNames
  pub grown : t'.names ≡ t.names ++ added
  pub numbers : (k : Site) → Alone (λ z. Unit {0}) t t' added (of_optional k o)

module _ (P : ProgramTree) (a : ℕ) (L : DeclaredNames) where
  abbrev here : Inside
  here = record { program = P; item = a; lifetimes = L }

  abbrev Same : Setting
  Same = whole (unpassed (λ n. n)) no_holes here here (keeps_fits (λ n. n) P P (keeps_itself P) a a L).items_fit kept unknown

  -- the text beside itself, for a scope and what stands round it
  itself_special : Special Same
  itself_special = special (unpassed (λ n. n)) no_holes here here (keeps_fits (λ n. n) P P (keeps_itself P) a a L).items_fit (λ s k. k) (λ p y. y) (λ b c. c) unknown (record {
    suffix = λ R s n n' b b' v k h g. like_int g;
    annotated = λ M at at' p y t t' u e q. restated (optional_type_alike (unpassed (λ n. n)) M here here (keeps_fits (λ n. n) P P (keeps_itself P) a a L) at at' y t t' u e q) (λ z. z) (λ R sv h. numbers_map (λ z. z) (λ z. z) h (λ a b r. like_typed r));
    blocks = λ M own m w at at' b c t t' u e q h. h tt;
  })

  abbrev Own : Variables → List Around → Made
  Own sc ls = record { variables = own_pairs sc; loops = own_loops ls; passages = [] }

  itself : (sc : Variables) (ls : List Around) (x : List ℕ) (o : Option ℕ) → variable_named sc x ≡ o → AtName (Corresponds [] (Own sc ls)) false false (variable_named sc x) (variable_named sc x)
  itself sc ls x None h = subst (λ (o : Option ℕ). AtName (Corresponds [] (Own sc ls)) false false o o) (sym h) refl
  itself sc ls x (Some n) h = subst (λ (o : Option ℕ). AtName (Corresponds [] (Own sc ls)) false false o o) (sym h) (own_variable sc x n h)

  no_name : false ≡ true → ⊥
  no_name e = cc

  abbrev itself_stand : (sc : Variables) (ls : List Around) → Stand Same (Own sc ls) [] []
  itself_stand sc ls = record {
    sc = sc;
    sc' = sc;
    ls = ls;
    ls' = ls;
    scopes = record { callees = λ x z. itself sc ls x (variable_named sc x) refl; variables = λ x z. absurd (no_name z); outer = λ x z. tt };
    led = λ l n h. (n, h, own_target ls l n h);
    round = tt;
  }

  pub text_alone : (sc : Variables) (ls : List Around) (at : List ℕ) (i : ℕ) (ss : Statements) (t : ItemNames) (r : Scoped) → in_statements here sc ls at i ss t ≡ Ok r → Text t r ss
  unfolding total
  text_alone sc ls at i ss t r e =
      let A = statements_alike Same itself_special (Own sc ls) [] [] (itself_stand sc ls) at at i i ss (statements_within [] [] ss) t r t e (record { vars = tt; loops = tt; passages = refl }) in
      let N = A.numbers total (total_serves A.made A.reached.passages) in record {
        added = A.added;
        grown = A.grown;
        numbers = record {
          holds = λ c rest q f.
              let x = N.holds c (record c { names = A.added' ++ rest }) rest rest (record { declared = q.0; declared' = q.0; loops = q.1; loops' = q.1 }) f refl in
              record { like = tt; stands = (x.cursors.declared, x.cursors.loops); left = x.left };
        };
      }

  -- a tail
  pub tail_alone : (sc : Variables) (ls : List Around) (at : List ℕ) (o : OptionalExpression) (t t' : ItemNames) → in_optional here sc ls at o t ≡ Ok t' → TextTail t t' o
  unfolding total
  tail_alone sc ls at o t t' e =
      let A = optional_alike Same itself_special (Own sc ls) [] [] (itself_stand sc ls) at at o (optional_within [] [] o) t t' t e (record { vars = tt; loops = tt; passages = refl }) in
      let N = A.numbers total (total_serves A.made A.reached.passages) in record {
        added = A.added;
        grown = A.grown;
        numbers = λ k. record {
          holds = λ c rest q f.
              let x = (N k k).holds c (record c { names = A.added' ++ rest }) rest rest (record { declared = q.0; declared' = q.0; loops = q.1; loops' = q.1 }) f refl in
              record { like = tt; stands = (x.cursors.declared, x.cursors.loops); left = x.left };
        };
      }
