-- The arms of the match on an enum of exits resolve: their patterns bind fresh names, behind which outs mean what they did; their jumps lead
-- to loops that correspond.
use Rattle.std.proofs.Common.{◌≡◌, ℕ, zero, suc, ◌+◌, ◌≤◌, ◌<◌, ◌^◌, Bool, true, false, ◌||◌, List, [], ◌∷◌, ◌++◌, length, map, Option, Ok, refl, sym, ap, ◌∙◌, subst, arith, codes, bytes_eq}
use Rattle.rx_core.specs.declared.types.Span.{Span}
use Rattle.rx_tree.specs.declared.tree.Ident.{Ident}
use Rattle.rx_tree.specs.Lists.{Every}
use Rattle.rx_tree.specs.Plain as plain
use Rattle.rx_tree.specs.Plain.{Expression, OptionalExpression, PatternTree, Arms, Statement, Statements}
use Rattle.rx_resolve_names.specs.Scopes.{Variables, entered}
use Rattle.rx_resolve_names.specs.declared.resolved.ItemNames.{ItemNames}
use Rattle.rx_resolve_names.specs.Meant.{Around, Target, target}
use Rattle.rx_resolve_names.specs.Steps.{Inside, one, led, child, next, names}
use Rattle.rx_resolve_names.specs.Names.{in_expression, in_statements}
use Rattle.rx_typed.specs.declared.nodes.Node.{Node}
use Rattle.rx_typed.specs.declared.nodes.Site.{Site}
use Rattle.rx_typed.specs.Named as named
use Rattle.rx_typed.specs.Named.{Exp, Else}
use Rattle.rx_typed.specs.Naming.{an_entry, first, passed_on}
use Rattle.rx_hoist_extraction.specs.Names.{Names, is_among, Distinct}
use Rattle.rx_hoist_extraction.specs.Run.{as_statements}
use Rattle.rx_hoist_extraction.specs.Plan.{Exit, to_next, to_break, to_continue, to_return, Variable, Plan, names_of}
use Rattle.rx_hoist_extraction.specs.Values.{variables_held, values_at}
use Rattle.rx_hoist_extraction.specs.Fresh.{fresh_variable}
use Rattle.rx_hoist_extraction.specs.Made.{binding, done}
use Rattle.rx_hoist_extraction.specs.Call.{jump_label, assigned, jump_behind, fresh_from, arm_value}
use Rattle.rx_hoist_extraction.proofs.FreshNames.{unlike, fresh_is_free, fresh_differ}
use Rattle.rx_engine_names.specs.Renaming.{Renaming, Made}
use Rattle.rx_engine_names.specs.Moves.{labels_of}
use Rattle.rx_engine_names.specs.HandedOut.{Handing, IsMade, AreMade, AreJoined, one_joined, more_joined, IsDone, IsAssigned, AreAssigned, all_assigned, more_assigned, OneDone, one_done, IsJump, jumps_out, jumps_on, IsArm, next_alone, next_with, jump_alone, jump_with, returns, not_mutable}
use Rattle.rx_engine_names.specs.HandsOver.{NameMeant, OutMeant, LoopMeant, ExitMeant, declared_from}
use Rattle.rx_engine_names.proofs.SideBySide.{and_ok}
use Rattle.rx_engine_names.proofs.Standing.{keeps_leads}
use Rattle.rx_engine_names.proofs.Alone.{Alone, weaker, alone_give, alone_map, alone_node, alone_keeps, Makes, makes_nothing, makes_map, makes_entry}
use Rattle.rx_engine_names.proofs.MadeCalls.{ExpAlone}
use Rattle.rx_engine_names.proofs.MadeBindings.{MeantFrom, not_hidden, meant_from, bindings_of, bound_names, bound_mutable}
use Rattle.rx_engine_names.proofs.MadeUses.{alone_last, StatementsAlone, goes_to, made_use, made_uses, made_joined, made_done, made_more, made_assigned}

-- ---- fresh names

fresh_unlike : (pl : Plan) (i j k : ℕ) → i < j → length pl.identifiers + (j + k) ≤ 2 ^ 64 → is_among (fresh_variable pl.identifiers i) (fresh_from pl j k) ≡ false
fresh_unlike pl i j zero l b = refl
fresh_unlike pl i j (suc k) l b =
    ap (λ (z : Bool). z || is_among (fresh_variable pl.identifiers i) (fresh_from pl (suc j) k))
    (unlike (fresh_variable pl.identifiers i) (fresh_variable pl.identifiers j) (fresh_differ (codes "out_") pl.identifiers i j l (omega (arith, b))))
    ∙ fresh_unlike pl i (suc j) k (omega (arith, l)) (omega (arith, b))

pub fresh_distinct : (pl : Plan) (i k : ℕ) → length pl.identifiers + (i + k) ≤ 2 ^ 64 → Distinct (fresh_from pl i k)
fresh_distinct pl i zero b = tt
fresh_distinct pl i (suc k) b = (fresh_unlike pl i (suc i) k (omega arith) (omega (arith, b)), fresh_distinct pl (suc i) k (omega (arith, b)))

-- a word of the text is none of them
pub word_unlike : (pl : Plan) (x : List ℕ) (i : ℕ) → is_among x pl.identifiers ≡ true → length pl.identifiers + suc i ≤ 2 ^ 64 → bytes_eq x (fresh_variable pl.identifiers i) ≡ false
word_unlike pl x i h b = unlike x (fresh_variable pl.identifiers i) (λ e. clash (sym h ∙ ap (λ (y : List ℕ). is_among y pl.identifiers) e ∙ fresh_is_free (codes "out_") pl.identifiers i b))
  where
    clash : true ≡ false → ⊥
    clash e = cc

pub word_not_fresh : (pl : Plan) (x : List ℕ) (i k : ℕ) → is_among x pl.identifiers ≡ true → length pl.identifiers + (i + k) ≤ 2 ^ 64 → is_among x (fresh_from pl i k) ≡ false
word_not_fresh pl x i zero h b = refl
word_not_fresh pl x i (suc k) h b =
    ap (λ (z : Bool). z || is_among x (fresh_from pl (suc i) k)) (word_unlike pl x i h (omega (arith, b))) ∙ word_not_fresh pl x (suc i) k h (omega (arith, b))

-- fresh names that are bound
abbrev pub plainly : Names → List (List ℕ × Bool)
plainly [] = []
plainly (x ∷ xs) = (x, false) ∷ plainly xs

pub plainly_bound : (s : Span) (xs : Names) → map (λ (x : List ℕ). binding s x false) xs ≡ bindings_of s (plainly xs)
plainly_bound s [] = refl
plainly_bound s (x ∷ xs) = ap (λ (l : List PatternTree). binding s x false ∷ l) (plainly_bound s xs)

pub plainly_named : (xs : Names) → bound_names (plainly xs) ≡ xs
plainly_named [] = refl
plainly_named (x ∷ xs) = ap (λ (l : Names). x ∷ l) (plainly_named xs)

pub plainly_mutable : (xs : Names) (k : ℕ) → length xs ≡ k → bound_mutable (plainly xs) ≡ not_mutable k
plainly_mutable [] zero e = refl
plainly_mutable (x ∷ xs) (suc k) e = ap (λ (l : List Bool). false ∷ l) (plainly_mutable xs k (omega (arith, e)))
plainly_mutable [] (suc k) e = absurd (omega (arith, e))
plainly_mutable (x ∷ xs) zero e = absurd (omega (arith, e))

pub fresh_count : (pl : Plan) (i k : ℕ) → length (fresh_from pl i k) ≡ k
fresh_count pl i zero = refl
fresh_count pl i (suc k) = ap suc (fresh_count pl (suc i) k)

-- ---- jumps

module _ (items : ℕ → ℕ) (G : Handing) (I' : Inside) (ls : List Around) (M : Made) where
  abbrev s : Span
  s = G.call.place

  abbrev labels : List (Option Ident)
  labels = labels_of G.loops

  jump_entry : (at' : List ℕ) (k : ℕ) (h : LoopMeant G M ls k) (u : ItemNames) → Makes items M u (λ v. names I' at' (one (led s (jump_label s labels k) (target (jump_label s labels k) ls))) u ≡ Ok v) (λ R u' es. Alone (λ a. a ≡ (h.1 ∷ [], false)) u u' es an_entry)
  jump_entry at' k h u = makes_entry {items = items} {M = M} I' at' u h.1 [] (one (led s (jump_label s labels k) (target (jump_label s labels k) ls))) (ap (λ (t : Target). one (led s (jump_label s labels k) t)) h.3)

  made_break : (sc : Variables) (at' : List ℕ) (k : ℕ) → LoopMeant G M ls k → (u : ItemNames)
      → Makes items M u (λ v. in_expression I' sc ls at' (plain.break s (jump_label s labels k)) u ≡ Ok v) (ExpAlone (λ R e. IsJump G R (to_break k) e) u (plain.break s (jump_label s labels k)))
  made_break sc at' k h u = makes_map (jump_entry at' k h u) (λ a. a) (λ R sv N m t. alone_node s t (λ n g. alone_last N (λ a e. alone_keeps (keeps_leads (first a.0)) (λ z. alone_give (named.break n (first a.0))
      (subst (λ (a : List ℕ × Bool). IsJump G R (to_break k) (named.break n (first a.0))) (sym e) (jumps_out g h.2 (sv.loops h.0 h.1 h.4)))))))

  made_continue : (sc : Variables) (at' : List ℕ) (k : ℕ) → LoopMeant G M ls k → (u : ItemNames)
      → Makes items M u (λ v. in_expression I' sc ls at' (plain.continue s (jump_label s labels k)) u ≡ Ok v) (ExpAlone (λ R e. IsJump G R (to_continue k) e) u (plain.continue s (jump_label s labels k)))
  made_continue sc at' k h u = makes_map (jump_entry at' k h u) (λ a. a) (λ R sv N m t. alone_node s t (λ n g. alone_map (λ (a : List ℕ × Bool). named.continue n (first a.0)) N (λ a e.
      subst (λ (a : List ℕ × Bool). IsJump G R (to_continue k) (named.continue n (first a.0))) (sym e) (jumps_on g h.2 (sv.loops h.0 h.1 h.4)))))

  -- ---- assignments in front of a jump

  -- behind fresh bindings an out means what it did
  pub still_meant : (sc : Variables) (d k : ℕ) (v : Variable) → length G.call.plan.identifiers + k ≤ 2 ^ 64 → OutMeant G M sc v → NameMeant G M (entered sc (declared_from s d (fresh_from G.call.plan 0 k))) v.name
  still_meant sc d k v b h =
      (h.0.0, h.0.1, h.0.2, not_hidden s d (fresh_from G.call.plan 0 k) sc v.name (word_not_fresh G.call.plan v.name 0 k h.1 (omega (arith, b))) ∙ h.0.3, h.0.4)

  abbrev JumpsTo : Exit → Renaming → Exp → Type 0
  JumpsTo x R e = IsJump G R x e

  made_assigns : (sc : Variables) (at' : List ℕ) (x : Exit) (jumping : Expression) → ((at' : List ℕ) (u : ItemNames) → Makes items M u (λ v. in_expression I' sc ls at' jumping u ≡ Ok v) (ExpAlone (JumpsTo x) u jumping))
      → (vs : List Variable) (i d j : ℕ) → MeantFrom sc d (fresh_from G.call.plan i (length (variables_held vs))) → Every (λ (v : Variable). NameMeant G M sc v.name) vs → (u : ItemNames)
      → Makes items M u (λ v. in_statements I' sc ls at' j (as_statements (assigned s vs (fresh_from G.call.plan i (length (variables_held vs))) ++ done s jumping ∷ [])) u ≡ Ok (goes_to sc v))
      (StatementsAlone (λ R ss. AreAssigned G.call R (OneDone s (JumpsTo x R)) d (names_of vs) ss) u (as_statements (assigned s vs (fresh_from G.call.plan i (length (variables_held vs))) ++ done s jumping ∷ [])))
  made_assigns sc at' x jumping J [] i d j h m u =
      let A = made_done items M I' s sc ls (child at' j) jumping (JumpsTo x) u (J (child (child at' j) 0) u) in
      made_more items M I' s sc ls at' j (done s jumping) plain.no_statement sc sc (λ R a. IsDone s (JumpsTo x R) a) (λ R ss. ss ≡ named.no_statement) (λ R ss. AreAssigned G.call R (OneDone s (JumpsTo x R)) d [] ss) u A
      (makes_nothing A.table (λ v. Ok (goes_to sc A.table) ≡ Ok (goes_to sc v)) (StatementsAlone (λ R ss. ss ≡ named.no_statement) A.table plain.no_statement) refl (λ R. alone_give named.no_statement refl))
      (λ R a ss p q. all_assigned (subst (λ (z : named.Statements). OneDone s (JumpsTo x R) (named.statement_and a z)) (sym q) (one_done p)))
  made_assigns sc at' x jumping J (v ∷ vs) i d j h m u =
      let y = fresh_variable G.call.plan.identifiers i in
      let e = plain.assign s (plain.var s v.name) (plain.var s y) in
      let rest = as_statements (assigned s vs (fresh_from G.call.plan (suc i) (length (variables_held vs))) ++ done s jumping ∷ []) in
      let A = made_done items M I' s sc ls (child at' j) e (λ R b. IsAssigned G.call R v.name (IsMade s d) b) u
      (made_assigned items G.call I' sc ls M (child (child at' j) 0) v.name (plain.var s y) (λ R b. IsMade s d b) m.0 (λ u. made_use items M I' s sc ls (child (child (child at' j) 0) 1) y d h.0 u) u) in
      made_more items M I' s sc ls at' j (done s e) rest sc sc (λ R a. IsDone s (IsAssigned G.call R v.name (IsMade s d)) a) (λ R ss. AreAssigned G.call R (OneDone s (JumpsTo x R)) (suc d) (names_of vs) ss)
      (λ R ss. AreAssigned G.call R (OneDone s (JumpsTo x R)) d (v.name ∷ names_of vs) ss) u A (made_assigns sc at' x jumping J vs (suc i) (suc d) (next j) h.1 m.1 A.table) (λ R a ss p q. more_assigned p q)

  -- ---- what an arm does

  abbrev ArmMade : Variables → List ℕ → Exit → List Variable → ℕ → ℕ → ItemNames → Type 0
  ArmMade sc at' x vs k d u = Makes items M u (λ v. in_expression I' sc ls at' (arm_value s labels x vs (fresh_from G.call.plan 0 k)) u ≡ Ok v)
      (ExpAlone (λ R e. IsArm G R d k x (names_of vs) e) u (arm_value s labels x vs (fresh_from G.call.plan 0 k)))

  made_jump : (sc : Variables) (at' : List ℕ) (x : Exit) (jumping : Expression) → ((at' : List ℕ) (u : ItemNames) → Makes items M u (λ v. in_expression I' sc ls at' jumping u ≡ Ok v) (ExpAlone (JumpsTo x) u jumping))
      → (vs : List Variable) (k d : ℕ) → k ≡ length (variables_held vs) → MeantFrom sc d (fresh_from G.call.plan 0 k) → Every (λ (v : Variable). NameMeant G M sc v.name) vs → (u : ItemNames)
      → Makes items M u (λ v. in_expression I' sc ls at' (jump_behind s (assigned s vs (fresh_from G.call.plan 0 k)) jumping) u ≡ Ok v) (ExpAlone (λ R e. IsArm G R d k x (names_of vs) e) u (jump_behind s (assigned s vs (fresh_from G.call.plan 0 k)) jumping))
  made_jump sc at' x jumping J [] k d e h m u = makes_map (J at' u) (λ a. a) (λ R sv N m t. weaker (N m t) (λ b p. jump_alone p))
  made_jump sc at' x jumping J (v ∷ vs) zero d e h m u = absurd (omega (arith, e))
  made_jump sc at' x jumping J (v ∷ vs) (suc k) d e h m u = subst (λ (k : ℕ). Makes items M u (λ w. in_expression I' sc ls at' (jump_behind s (assigned s (v ∷ vs) (fresh_from G.call.plan 0 (suc k))) jumping) u ≡ Ok w)
      (ExpAlone (λ R e. IsArm G R d (suc k) x (names_of (v ∷ vs)) e) u (jump_behind s (assigned s (v ∷ vs) (fresh_from G.call.plan 0 (suc k))) jumping)))
      (sym same) (by (subst (λ (k : ℕ). MeantFrom sc d (fresh_from G.call.plan 0 (suc k))) same h))
    where
      same : k ≡ length (variables_held vs)
      same = omega (arith, e)

      by : MeantFrom sc d (fresh_from G.call.plan 0 (suc (length (variables_held vs)))) → Makes items M u (λ w. in_expression I' sc ls at' (jump_behind s (assigned s (v ∷ vs) (fresh_from G.call.plan 0 (suc (length (variables_held vs))))) jumping) u ≡ Ok w)
          (ExpAlone (λ R e. IsArm G R d (suc (length (variables_held vs))) x (names_of (v ∷ vs)) e) u (jump_behind s (assigned s (v ∷ vs) (fresh_from G.call.plan 0 (suc (length (variables_held vs))))) jumping))
      by h =
          let ss = as_statements (assigned s (v ∷ vs) (fresh_from G.call.plan 0 (suc (length (variables_held vs)))) ++ done s jumping ∷ []) in
          let A = made_assigns sc (child at' 0) x jumping J (v ∷ vs) 0 d 0 h m u in
          makes_map A (λ y. and_ok (in_statements I' sc ls (child at' 0) 0 ss u) (goes_to sc A.table) (λ r. Ok r.tables) (Ok A.table) y refl)
          (λ R sv N b t. alone_node s t (λ n g. alone_map {S = λ b. (m : Node) × (z : named.Statements) × (b ≡ named.body m z named.absent) × (m.span ≡ s) × AreAssigned G.call R (OneDone s (JumpsTo x R)) d (names_of (v ∷ vs)) z} (named.block n)
          (alone_node s (passed_on t) (λ m f. alone_map (λ z. named.body m z named.absent) N (λ z p. (m, z, refl, f, p))))
          (λ b p. subst (λ (b : named.Body). IsArm G R d (suc (length (variables_held vs))) x (names_of (v ∷ vs)) (named.block n b)) (sym p.2) (jump_with g p.3 p.4))))

  every_meant : (sc : Variables) (d k : ℕ) (vs : List Variable) → length G.call.plan.identifiers + k ≤ 2 ^ 64 → Every (OutMeant G M sc) vs → Every (λ (v : Variable). NameMeant G M (entered sc (declared_from s d (fresh_from G.call.plan 0 k))) v.name) vs
  every_meant sc d k [] b h = tt
  every_meant sc d k (v ∷ vs) b h = (still_meant sc d k v b h.0, every_meant sc d k vs b h.1)

  next_made : (sc : Variables) (at' : List ℕ) (vs : List Variable) (k d : ℕ) → MeantFrom sc d (fresh_from G.call.plan 0 k) → (u : ItemNames) → ArmMade sc at' to_next vs k d u
  next_made sc at' vs zero d h u =
      makes_nothing u (λ v. Ok u ≡ Ok v) (ExpAlone (λ R e. IsArm G R d zero to_next (names_of vs) e) u (plain.block s (plain.body s plain.no_statement plain.absent))) refl
      (λ R m t. alone_node s t (λ n g. alone_node s (passed_on t) (λ m f. alone_give (named.block n (named.body m named.no_statement named.absent)) (next_alone g f))))
  next_made sc at' vs (suc zero) d h u =
      makes_map (made_use items M I' s sc ls at' (fresh_variable G.call.plan.identifiers 0) d h.0 u) (λ a. a) (λ R sv N m t. weaker (N m t) (λ e p. next_with (one_joined p)))
  next_made sc at' vs (suc (suc k)) d h u =
      makes_map (made_uses items M I' s sc ls at' 0 d (fresh_from G.call.plan 0 (suc (suc k))) h u) (λ a. a)
      (λ R sv N m t. alone_node s t (λ n g. alone_map (named.tuple n) (N Site.Value) (λ es p. next_with (more_joined g (subst (λ (j : ℕ). AreMade s d j es) (fresh_count G.call.plan 0 (suc (suc k))) p)))))

  return_made : (sc : Variables) (at' : List ℕ) (vs : List Variable) (k d : ℕ) → MeantFrom sc d (fresh_from G.call.plan 0 k) → (u : ItemNames) → ArmMade sc at' to_return vs k d u
  return_made sc at' vs k d h u =
      makes_map (made_joined items M I' s sc ls (child at' 0) d (fresh_from G.call.plan 0 k) h u) (λ a. a)
      (λ R sv N m t. alone_node s t (λ n g. alone_map (named.return n) (N Site.Expects) (λ o p. returns g (subst (λ (j : ℕ). AreJoined s d j o) (fresh_count G.call.plan 0 k) p))))

  -- behind the pattern of its arm
  pub made_arm : (sc : Variables) (at' : List ℕ) (x : Exit) (vs : List Variable) (d : ℕ) → length G.call.plan.identifiers + length (values_at G.call.plan x vs) ≤ 2 ^ 64 → ExitMeant G M sc ls x vs → (u : ItemNames)
      → ArmMade (entered sc (declared_from s d (fresh_from G.call.plan 0 (length (values_at G.call.plan x vs))))) at' x vs (length (values_at G.call.plan x vs)) d u
  made_arm sc at' to_next vs d b h u =
      let k = length (values_at G.call.plan to_next vs) in let ys = fresh_from G.call.plan 0 k in
      next_made (entered sc (declared_from s d ys)) at' vs k d (meant_from s d ys sc (fresh_distinct G.call.plan 0 k (omega (arith, b)))) u
  made_arm sc at' (to_break j) vs d b h u =
      let k = length (variables_held vs) in let ys = fresh_from G.call.plan 0 k in let sc1 = entered sc (declared_from s d ys) in
      made_jump sc1 at' (to_break j) (plain.break s (jump_label s labels j)) (λ at1 u1. made_break sc1 at1 j h.0 u1) vs k d refl (meant_from s d ys sc (fresh_distinct G.call.plan 0 k (omega (arith, b)))) (every_meant sc d k vs b h.1) u
  made_arm sc at' (to_continue j) vs d b h u =
      let k = length (variables_held vs) in let ys = fresh_from G.call.plan 0 k in let sc1 = entered sc (declared_from s d ys) in
      made_jump sc1 at' (to_continue j) (plain.continue s (jump_label s labels j)) (λ at1 u1. made_continue sc1 at1 j h.0 u1) vs k d refl (meant_from s d ys sc (fresh_distinct G.call.plan 0 k (omega (arith, b)))) (every_meant sc d k vs b h.1) u
  made_arm sc at' to_return vs d b h u =
      let k = length (values_at G.call.plan to_return vs) in let ys = fresh_from G.call.plan 0 k in
      return_made (entered sc (declared_from s d ys)) at' vs k d (meant_from s d ys sc (fresh_distinct G.call.plan 0 k (omega (arith, b)))) u
