-- A jump out of the new function does what the text's does, told by a variant.
use Rattle.std.proofs.Common.{◌≡◌, ℕ, Bool, true, false, List, [], ◌∷◌, refl, sym, ap, ◌∙◌, subst, arith, ⊎_elim, le_refl, ◌≤◌}
use Rattle.rx_typed.specs.Tree as tree
use Rattle.rx_typed.specs.Tree.{Mark, Exp, Temporary, temporary_of, mark_of}
use Rattle.rx_lower_walks.specs.Actions.{Give, Action, at_mark, Build}
use Rattle.rx_lower_walks.specs.Orders.{exit, returns, order}
use Rattle.rx_lower_walks.specs.Walks as walk
use Rattle.rx_exits_plan.specs.Points.{Point}
use Rattle.rx_exits_plan.specs.Marked.{mark_then, shown}
use Rattle.rx_meaning.specs.Values.{Value, tagged, unit_value, no_value, State, value_and, are_set}
use Rattle.rx_meaning.specs.Results.{on, jumps, after, bind, result_of}
use Rattle.rx_meaning.specs.Acting.{plainly, performed}
use Rattle.rx_meaning.specs.Expressions.{Functions, Meaning, value, body, below_level}
use Rattle.rx_meaning.proofs.Sequences.{after_nothing, bind_bind, bind_same}
use Rattle.rx_engine_simulation.specs.Arrivals.{Aim, Arrives, arrives_part, arrives_then, AreReady}
use Rattle.rx_engine_simulation.specs.Packing.{as_variant, Gives}
use Rattle.rx_engine_simulation.specs.Units.{UnitFunctions}
use Rattle.rx_engine_simulation.specs.Variants.{Leaves, leaves_loop, leaves_marked, leaves_function, leaves_value, leaves_unit, leaves_passed, leaving, DeadAt}
use Rattle.rx_engine_simulation.proofs.Told.{Told, did, said, noted, followed, onto}
use Rattle.rx_engine_simulation.proofs.Values.{Pair, Given}
use Rattle.rx_engine_simulation.proofs.States.{Direction, Facts, Renaming, Frozen, grown_refl, weaken}
use Rattle.rx_engine_simulation.proofs.Keeping.{states_step}
use Rattle.rx_engine_simulation.proofs.Results.{Jumping, Pack, AllDead, Outs, LikeExit, packs_break, packs_continue, packs_unit, both_jump, DoAlike, packs_value, alike_bind_at, alike_bind_is}
use Rattle.rx_engine_simulation.proofs.Parts.{Ready, less}
use Rattle.rx_engine_simulation.proofs.Congruence.{OpensAlike}
use Rattle.rx_engine_simulation.proofs.Marks.{block_goes, ready_marked}
use Rattle.rx_engine_simulation.proofs.Passed.{passes_alike}
use Rattle.rx_engine_simulation.proofs.Entry.{with_value}
use Rattle.rx_engine_simulation.proofs.Locals.{give_is}
use Rattle.rx_engine_simulation.proofs.Packing.{listed, holds_none, gives_is, let_body_is}
use Rattle.rx_engine_simulation.proofs.Handing.{ready_values, outs_of, outs_set, states_beside, given_grown}
use Rattle.rx_engine_simulation.proofs.Units.{unit_given}
use Rattle.rx_engine_simulation.proofs.Positions.{first_at, next_at, value_walk}

-- ---- what is computed

jump_in_text : (P : Functions) (low : Meaning (Told ℕ)) (m : Mark) (l : ℕ) (again : Bool) (t : Temporary) (s : State) → value followed P low (tree.jump m l again) t s ≡ jumps [] (exit m.node l again) unit_value s
unfolding value
jump_in_text P low m l again t s = refl

abbrev gives_unit : Mark → Mark → Action
gives_unit m mu = at_mark m (Give (temporary_of (tree.unit mu)))

give_in_text : (P : Functions) (low : Meaning (Told ℕ)) (m mu : Mark) (t : Temporary) (s : State) → value followed P low (tree.give m (tree.unit mu)) t s ≡ jumps (did (at_mark m (Give (temporary_of (tree.unit mu)))) ∷ []) (returns m.node) unit_value s
unfolding value bind after result_of noted
give_in_text P low m mu t s = refl

give_told : (m : Mark) (t : Temporary) (v : Value) (s : State) → bind {B = Value} (performed followed (at_mark m (Give t)) (v ∷ []) s) (λ w s2. jumps [] (returns m.node) w s2) ≡ jumps (did (at_mark m (Give t)) ∷ []) (returns m.node) v s
unfolding bind after result_of noted
give_told m t v s = refl

pub value_in_text : (P : Functions) (low : Meaning (Told ℕ)) (m : Mark) (e : Exp) (t : Temporary) (s : State) → value followed P low (tree.give m e) t s
    ≡ bind (value followed P low e (temporary_of e) s) (λ v s1. jumps (did (at_mark m (Give (temporary_of e))) ∷ []) (returns m.node) v s1)
unfolding value
value_in_text P low m e t s = bind_same (value followed P low e (temporary_of e) s) _ _ _ refl (λ v s1. give_told m (temporary_of e) v s1)

packed_value : (m w : Mark) (i v : ℕ) (t t2 : Temporary) (x : Value) (s : State) → bind {B = Value} (bind (bind (on [] [] s) (λ vs s2. on [] (x ∷ vs) s2)) (λ vs s1. performed plainly (at_mark w (Build (tree.variant_of i v) (0 ∷ []) (t ∷ []) t2)) vs s1)) (λ x s1. bind (performed plainly (at_mark m (Give t2)) (x ∷ []) s1) (λ y s2. jumps [] (returns m.node) y s2))
    ≡ jumps [] (returns m.node) (tagged v (value_and x no_value)) s
unfolding bind after result_of
packed_value m w i v t t2 x s = refl

value_in_answer : (Q : Functions) (low : Meaning ℕ) (m w : Mark) (i v : ℕ) (e : Exp) (t : Temporary) (s : State) → value plainly Q low (tree.give m (tree.build w (tree.variant_of i v) (tree.operand_and 0 e tree.no_operand))) t s
    ≡ bind (value plainly Q low e (temporary_of e) s) (λ x s1. jumps [] (returns m.node) (tagged v (value_and x no_value)) s1)
unfolding value
value_in_answer Q low m w i v e t s =
    ap (λ r. bind r (λ x s1. bind (performed plainly (at_mark m (Give (temporary_of (tree.build w (tree.variant_of i v) (tree.operand_and 0 e tree.no_operand))))) (x ∷ []) s1) (λ y s2. jumps [] (returns m.node) y s2))) (bind_bind (value plainly Q low e (temporary_of e) s) _ _)
    ∙ bind_bind (value plainly Q low e (temporary_of e) s) _ _
    ∙ bind_same (value plainly Q low e (temporary_of e) s) _ _ _ refl (λ x s1. packed_value m w i v (temporary_of e) (temporary_of (tree.build w (tree.variant_of i v) (tree.operand_and 0 e tree.no_operand))) x s1)

given_step : (m : Mark) (t : Temporary) (v : Value) (s : State) → bind {B = Value} (on [] v s) (λ v s1. bind (performed plainly (at_mark m (Give t)) (v ∷ []) s1) (λ w s2. jumps [] (returns m.node) w s2)) ≡ jumps [] (returns m.node) v s
unfolding bind result_of
given_step m t v s = after_nothing _ ∙ after_nothing _

end_is : (Q : Functions) (low : Meaning ℕ) (g : Exp) (i : ℕ) (t : Temporary) (s : State) → body plainly Q low (tree.ends g) i t s ≡ value plainly Q low g t s
unfolding value
end_is Q low g i t s = refl

unit_in_answer : (Q : Functions) (low : Meaning ℕ) (m mb : Mark) (n k o v : ℕ) (mutable : Bool) (e g : Exp) → Gives (as_variant v) [] g → (t : Temporary) (s : State) → value plainly Q low (tree.give m (tree.block mb (tree.lets n (tree.bind k o (tree.by_value mutable)) (tree.of_value e) (tree.ends g)))) t s
    ≡ bind (value plainly Q low e (temporary_of e) s) (λ x s1. jumps [] (returns m.node) (tagged v no_value) (with_value o x s1))
unfolding value
unit_in_answer Q low m mb n k o v mutable e g gives t s =
    let b = tree.block mb (tree.lets n (tree.bind k o (tree.by_value mutable)) (tree.of_value e) (tree.ends g)) in
    ap (λ r. bind r (λ x s1. bind (performed plainly (at_mark m (Give (temporary_of b))) (x ∷ []) s1) (λ y s2. jumps [] (returns m.node) y s2))) (let_body_is Q low n k o mutable e (tree.ends g) mb.node (temporary_of b) s)
    ∙ bind_bind (value plainly Q low e (temporary_of e) s) _ _
    ∙ bind_same (value plainly Q low e (temporary_of e) s) _ _ _ refl (λ x s1.
    ap (λ r. bind r (λ x s1. bind (performed plainly (at_mark m (Give (temporary_of b))) (x ∷ []) s1) (λ y s2. jumps [] (returns m.node) y s2))) (end_is Q low g mb.node (temporary_of b) (with_value o x s1) ∙ gives_is Q low gives holds_none (temporary_of b))
    ∙ given_step m (temporary_of b) (tagged v no_value) (with_value o x s1))

-- ---- in the new function

module _ (items : ℕ → ℕ) (P Q : Functions) (d : Direction) (U : List ℕ) (units : UnitFunctions P U) where
  -- of a jump that tells this first, and jumps from there
  leaves_by : {V : Facts} {J : Jumping} {R : Renaming} {g : Exp} {zs : List ℕ} {a : Aim} (x : Exp) (m m' : Mark) (l : ℕ) (again : Bool) (p : Pack) (o : List (Told ℕ)) → said o ≡ [] → AreReady V R a p.outs zs → Gives (as_variant p.variant) zs g → DeadAt V J p.outs a → (Z Z' : Frozen) (mm n c : ℕ) (t t' : Temporary)
      (h : List Action) (j : List Pair) (s s' : State) → value followed P (below_level followed P mm) x t s ≡ jumps o (exit m.node l again) unit_value s → Ready V d R Z Z' c mm n (onto o h) j s s' → Arrives V a (onto o h)
      → ((k : ℕ) (ws : List Value) → Outs j s p.outs (listed ws) → are_set (listed ws) ≡ true → AllDead V J p.outs (onto o h) → LikeExit V J (onto o h) j s (exit m.node l again) unit_value (returns k) (tagged p.variant (listed ws)))
      → DoAlike V d R Z Z' J Given c h j s s' (value followed P (below_level followed P mm) x t s) (value plainly Q (below_level plainly Q n) (tree.give m' g) t' s')
  leaves_by {V} {J} {R} {g} {zs} x m m' l again p o silent ready gives dead Z Z' mm n c t t' h j s s' is r arrived like =
      let a = ready_values V R Z Z' (onto o h) j s s' r.inv ready arrived in
      subst (λ q. DoAlike V d R Z Z' J Given c h j s s' q (value plainly Q (below_level plainly Q n) (tree.give m' g) t' s')) (sym is)
      (subst (λ q. DoAlike V d R Z Z' J Given c h j s s' (jumps o (exit m.node l again) unit_value s) q)
      (sym (give_is Q (below_level plainly Q n) m' g t' (tagged p.variant (listed a.ws)) s' (gives_is Q (below_level plainly Q n) gives a.holding (temporary_of g))))
      (λ good. both_jump j silent (like m'.node a.ws (outs_of V Z (onto o h) j s a.fits) (outs_set V Z (onto o h) j s a.fits) (dead (onto o h) arrived)) (record { inv = r.inv; grown = grown_refl j s s'; turns = r.turns })))

  marked_jump_is : (q : Point) (m : Mark) (l : ℕ) (again : Bool) (low : Meaning (Told ℕ)) (t : Temporary) (s : State) → value followed P low (mark_then q (tree.jump m l again)) t s ≡ jumps (did (shown q) ∷ []) (exit m.node l again) unit_value s
  unfolding after
  marked_jump_is q m l again low t s = block_goes P low q (tree.jump m l again) t s ∙ ap (λ r. after (did (shown q) ∷ []) r) (jump_in_text P low m l again t s)

  leave_alike : {V : Facts} {a : ℕ} {J : Jumping} {R : Renaming} {x : Exp} {f f' : Exp → Exp} → Leaves U V a J R x f f' → (Z Z' : Frozen) (m n b c : ℕ) → c ≤ b → (x' : Exp) (t t' : Temporary) (h : List Action) (j : List Pair) (s s' : State) → ((t t' : Temporary) (h : List Action) (j : List Pair) (s s' : State) → Ready V d R Z Z' b m n h j s s' → V.Comes (order x t) h → DoAlike V d R Z Z' J Given c h j s s' (value followed P (below_level followed P m) x t s) (value plainly Q (below_level plainly Q n) x' t' s'))
      → Ready V d R Z Z' b m n h j s s' → V.Comes (order (f x) t) h
      → DoAlike V d R Z Z' J Given c h j s s' (value followed P (below_level followed P m) (f x) t s) (value plainly Q (below_level plainly Q n) (f' x') t' s')
  leave_alike {V} {a} {J} {R} (leaves_loop {m = m0} {m' = m'} {l = l} {again = true} p e ready gives dead) Z Z' m n b c le x' t t' h j s s' inner r at =
      leaves_by (tree.jump m0 l true) m0 m' l true p [] refl ready gives dead Z Z' m n c t t' h j s s' (jump_in_text P (below_level followed P m) m0 l true t s) (less V d R Z Z' c le r) (arrives_part t at) (λ k ws us set none. packs_continue p e us set none)
  leave_alike {V} {a} {J} {R} (leaves_marked {m = m0} {m' = m'} {l = l} {again = true} q p e ready gives dead) Z Z' m n b c le x' t t' h j s s' inner r at =
      leaves_by (mark_then q (tree.jump m0 l true)) m0 m' l true p (did (shown q) ∷ []) refl ready gives dead Z Z' m n c t t' h j s s' (marked_jump_is q m0 l true (below_level followed P m) t s) (ready_marked V d R Z Z' q (less V d R Z Z' c le r)) (arrives_then (arrives_part t at))
      (λ k ws us set none. packs_continue p e us set none)
  leave_alike {V} {a} {J} {R} (leaves_loop {m = m0} {m' = m'} {l = l} {again = false} p e ready gives dead) Z Z' m n b c le x' t t' h j s s' inner r at =
      leaves_by (tree.jump m0 l false) m0 m' l false p [] refl ready gives dead Z Z' m n c t t' h j s s' (jump_in_text P (below_level followed P m) m0 l false t s) (less V d R Z Z' c le r) (arrives_part t at) (λ k ws us set none. packs_break p e us set none)
  leave_alike {V} {a} {J} {R} (leaves_marked {m = m0} {m' = m'} {l = l} {again = false} q p e ready gives dead) Z Z' m n b c le x' t t' h j s s' inner r at =
      leaves_by (mark_then q (tree.jump m0 l false)) m0 m' l false p (did (shown q) ∷ []) refl ready gives dead Z Z' m n c t t' h j s s' (marked_jump_is q m0 l false (below_level followed P m) t s) (ready_marked V d R Z Z' q (less V d R Z Z' c le r)) (arrives_then (arrives_part t at))
      (λ k ws us set none. packs_break p e us set none)
  leave_alike {V} {a} {J} {R} (leaves_function {g = g} {m = m0} {mu = mu} {m' = m'} {v = v} e dead gives) Z Z' m n b c le x' t t' h j s s' inner r at =
      subst (λ q. DoAlike V d R Z Z' J Given c h j s s' q (value plainly Q (below_level plainly Q n) (tree.give m' g) t' s')) (sym (give_in_text P (below_level followed P m) m0 mu t s))
      (subst (λ q. DoAlike V d R Z Z' J Given c h j s s' (jumps (did (gives_unit m0 mu) ∷ []) (returns m0.node) unit_value s) q) (sym (give_is Q (below_level plainly Q n) m' g t' (tagged v no_value) s' (gives_is Q (below_level plainly Q n) gives holds_none (temporary_of g))))
      (λ good. both_jump j refl (packs_unit e refl (λ x i k l. dead mu.node h (next_at V at ([], refl, walk.nothing)) x i l)) (record { inv = states_step V R Z Z' (gives_unit m0 mu) h j s s' (λ y k. ⊎_elim (λ e. e) (λ e. e) k) r.inv; grown = grown_refl j s s'; turns = weaken d b c _ _ le r.turns })))
  leave_alike {V} {a} {J} {R} {x} (leaves_value {m = m0} {m' = m'} {w = w} {i = i} {v = v} e dead) Z Z' m n b c le x' t t' h j s s' inner r at =
      subst (λ q. DoAlike V d R Z Z' J Given c h j s s' q (value plainly Q (below_level plainly Q n) (tree.give m' (tree.build w (tree.variant_of i v) (tree.operand_and 0 x' tree.no_operand))) t' s')) (sym (value_in_text P (below_level followed P m) m0 x t s))
      (subst (λ q. DoAlike V d R Z Z' J Given c h j s s' (bind (value followed P (below_level followed P m) x (temporary_of x) s) (λ v s1. jumps (did (at_mark m0 (Give (temporary_of x))) ∷ []) (returns m0.node) v s1)) q) (sym (value_in_answer Q (below_level plainly Q n) m' w i v x' t' s'))
      (alike_bind_at V d R Z Z' J Given Given c c h j s s' _ _ _ _ (le_refl c) (order x (temporary_of x)) (value_walk P m x s) (inner (temporary_of x) (temporary_of x') h j s s' r (first_at V at)) (λ h1 j1 u u' s1 s1' k q z.
      λ good. both_jump j1 refl (packs_value e q (λ y i g l. dead (mark_of x).node h1 (next_at V at k) y i l))
      (record { inv = states_step V R Z Z' (at_mark m0 (Give (temporary_of x))) h1 j1 s1 s1' (λ y k. ⊎_elim (λ e. e) (λ e. e) k) z.inv; grown = grown_refl j1 s1 s1'; turns = z.turns }))))
  leave_alike {V} {a} {J} {R} {x} (leaves_unit {g = g} {m = m0} {m' = m'} {mb = mb} {v = v} {n = n0} {k = k0} {o = o} {mutable = mutable} e unit dead new gives) Z Z' m n b c le x' t t' h j s s' inner r at =
      subst (λ q. DoAlike V d R Z Z' J Given c h j s s' q (value plainly Q (below_level plainly Q n) (tree.give m' (tree.block mb (tree.lets n0 (tree.bind k0 o (tree.by_value mutable)) (tree.of_value x') (tree.ends g)))) t' s')) (sym (value_in_text P (below_level followed P m) m0 x t s))
      (subst (λ q. DoAlike V d R Z Z' J Given c h j s s' (bind (value followed P (below_level followed P m) x (temporary_of x) s) (λ v s1. jumps (did (at_mark m0 (Give (temporary_of x))) ∷ []) (returns m0.node) v s1)) q) (sym (unit_in_answer Q (below_level plainly Q n) m' mb n0 k0 o v mutable x' g gives t' s'))
      (alike_bind_is V d R Z Z' J Given Given c c h j s s' _ _ _ _ (le_refl c) (order x (temporary_of x)) (value_walk P m x s) (inner (temporary_of x) (temporary_of x') h j s s' r (first_at V at)) (λ w j1 u u' s1 s1' is k q z.
      λ good. both_jump j1 refl (packs_unit e (unit_given P U units m unit (temporary_of x) s w u s1 is) (λ y i g l. dead (mark_of x).node _ (next_at V at k) y i l))
      (record {
        inv = states_beside V R Z Z' _ j1 s1 s1' o u' new (states_step V R Z Z' (at_mark m0 (Give (temporary_of x))) _ j1 s1 s1' (λ y k. ⊎_elim (λ e. e) (λ e. e) k) z.inv);
        grown = given_grown j1 s1 s1' o u';
        turns = z.turns;
      }))))
  leave_alike {V} {a} {J} {R} {x} leaves_passed Z Z' m n b c le x' t t' h j s s' inner r at =
      passes_alike P V d R Z Z' J m c h j s s' x t (value plainly Q (below_level plainly Q n) x' t' s') (inner (temporary_of x) t' h j s s' r (first_at V (first_at V at)))

  pub leaving_alike : OpensAlike items P Q d (leaving U)
  leaving_alike = record {
    expression = λ n calls {V} {a} {J} {R} o Z Z' m b c le x' part t t' h j s s' r at. leave_alike o Z Z' m n b c le x' t t' h j s s' part (less V d R Z Z' b (omega arith) r) at;
    statements = λ n calls o. absurd o;
  }
