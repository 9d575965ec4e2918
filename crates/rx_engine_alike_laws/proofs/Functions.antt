-- Functions, items and programs: what is found to be alike is so by its form.
use Rattle.std.proofs.Common.{◌≡◌, ℕ, zero, suc, ◌≤◌, true, List, [], ◌∷◌, Option, Some, None, refl, sym, ◌∙◌, subst, arith}
use Rattle.rx_typed.specs.Tree as tree
use Rattle.rx_typed.specs.Tree.{Mark, Exp, Body, Function}
use Rattle.rx_exits_plan.specs.Changed.{changed}
use Rattle.rx_meaning.specs.Values.{element}
use Rattle.rx_meaning.specs.Expressions.{Functions}
use Rattle.rx_meaning.specs.Programs.{Program}
use Rattle.rx_engine_simulation.specs.Turns.{Allowance}
use Rattle.rx_engine_simulation.specs.Sights.{Renaming}
use Rattle.rx_engine_simulation.specs.Binders.{LikeParams}
use Rattle.rx_engine_simulation.specs.Jumps.{Jumping, as_return, with_value, with_unit}
use Rattle.rx_engine_simulation.specs.Openings.{Openings, no_openings}
use Rattle.rx_engine_simulation.specs.Like.{LikeExp, opens, units}
use Rattle.rx_engine_simulation.specs.Marking.{without_turns}
use Rattle.rx_engine_simulation.specs.Programs.{whole_jumps}
use Rattle.rx_engine_simulation.specs.Rereads.{Rereads, RereadsBody, RereadsEntry, in_function}
use Rattle.rx_engine_related.specs.Running.{passing}
use Rattle.rx_engine_related.specs.ByForm.{by_form, RelatedFunction, SameEntry, same_function, no_function, IsItself, is_itself, is_none, EachIsItself}
use Rattle.rx_engine_related.specs.Leaving.{Left, left_by_jump, left_by_return, left_with_value, left_with_unit}
use Rattle.rx_engine_related.proofs.Weaker.{weaker_exp}
use Rattle.rx_engine_alike.specs.Likeness.{Hole, Likeness, unlike, alike, alike_but, is_alike}
use Rattle.rx_engine_alike.specs.Forms.{Between, is_open}
use Rattle.rx_engine_alike.specs.Functions.{like_function, plainly, same_item, is_like_itself, each_is_like_itself}
use Rattle.rx_engine_alike_laws.proofs.Promised.{Says, says, silent, said, so, and_so}
use Rattle.rx_engine_alike_laws.proofs.Variables.{params_so}
use Rattle.rx_engine_alike_laws.proofs.Found.{Found, found, found_when, alike_found, but_found}
use Rattle.rx_engine_alike_laws.proofs.Unmarked.{unmarked_exp, unmarked_body}
use Rattle.rx_engine_alike_laws.proofs.Forms.{around, Whole, Filled, exp_so}

-- ---- where nothing leaves, nothing is opened for it

pub never_left : {U : List ℕ} (J : Jumping) (ls : List (ℕ × ℕ)) {a : ℕ} {R : Renaming} {e : Exp} {f f' : Exp → Exp} → Whole J → Left U a (around J ls) R e f f' → ⊥
never_left J ls w (left_by_jump {l = l} {again = again} p q h g) = none_some (sym (w.0 l again) ∙ q)
  where
    none_some : {A : Type 0} {a : A} → None ≡ Some a → ⊥
    none_some e = cc
never_left J ls w (left_by_return q g) = by (sym w.1 ∙ q)
  where
    by : {v : ℕ} → as_return ≡ with_unit v → ⊥
    by e = cc
never_left J ls w (left_with_value q) = by (sym w.1 ∙ q)
  where
    by : {v : ℕ} → as_return ≡ with_value v → ⊥
    by e = cc
never_left J ls w (left_with_unit q g u t) = by (sym w.1 ∙ q)
  where
    by : {v : ℕ} → as_return ≡ with_unit v → ⊥
    by e = cc

pub nothing_leaves : Whole whole_jumps
nothing_leaves = (λ l again. refl, refl)

-- ---- functions

-- the same params, and a body in which references are read
pub data RereadsFunction : Function → Function → Type 0 where
  rereads_function : {g z : Function} → g.params ≡ z.params → Rereads g.body z.body → RereadsFunction g z

pub entry_rereads : {g z : Function} → RereadsFunction g z → RereadsEntry (Some (Some g)) (Some (Some z))
entry_rereads (rereads_function p b) = in_function p b

module _ (C : Between) (O : Openings) (gain : Allowance) where
  -- how the open block of a function is filled
  abbrev pub BlockFilled : Hole → Type 0
  BlockFilled h = Filled C O gain (by_form C.ways.elsewhere) whole_jumps h

  -- by an opening around no part
  pub filled_by : C.outside ≡ [] → 1 ≤ gain.turns → (h : Hole) (b : Body) → RereadsBody h.answer b
      → ((m m' : Mark) → is_open C.left_open m.node ≡ true → (e : Exp) → O.expression (by_form C.ways.elsewhere) 1 (around whole_jumps h.loops) h.inside e (λ e. tree.block m h.text)
      (λ e. tree.block m' b)) → BlockFilled h
  filled_by out le h b r o = record {
    turns = le;
    made = b;
    rereads = r;
    is_like = λ m m' q. subst (λ t. LikeExp C.items O gain (by_form C.ways.elsewhere) 1 (around whole_jumps h.loops) h.inside (tree.block m t) (tree.block m' b)) (sym (unmarked_body h.text out))
        (opens {e = tree.unit m} {e' = tree.unit m'} {f = λ e. tree.block m h.text} {f' = λ e. tree.block m' b} 1 0 (omega arith) (o m m' q (tree.unit m)) units);
  }

  -- with so many further turns at its call
  abbrev pub RelatedBy : Function → ℕ → Function → Type 0
  RelatedBy g k z = k ≤ gain.turns → RelatedFunction C.items O gain C.ways.elsewhere g z

  related : {R : Renaming} (g : Function) {ps : List tree.Parameter} {k : ℕ} {z : Exp} → C.outside ≡ [] → LikeParams (by_form C.ways.elsewhere) [] g.params ps R
      → LikeExp C.items O gain (by_form C.ways.elsewhere) k whole_jumps R (changed (passing C.outside) g.body) z → RelatedBy g k (record { params = ps; body = z })
  related {R} g {k = k} {z = z} out p l le = record {
    inside = R;
    params = p;
    body = weaker_exp C.items O O gain gain (omega arith) (by_form C.ways.elsewhere) (by_form C.ways.elsewhere) (λ J. Unit {0})
        (record { special = λ x k. k; into = λ J l k u. tt; expression = λ a J R e f f' u o. o; statements = λ a J R S b f f' u o. o }) le tt
        (subst (λ e. LikeExp C.items O gain (by_form C.ways.elsewhere) k whole_jumps R e z) (unmarked_exp g.body out) l);
  }

  pub function_so : C.outside ≡ [] → (g g' : Function) → Found BlockFilled (Whole whole_jumps) RereadsFunction (RelatedBy g) g' (like_function C g g')
  function_so out g g' = found_when (params_so (by_form C.ways.elsewhere) C.ways (λ x i. i) [] g.params g'.params)
      (λ R p. found (λ z. record { params = g'.params; body = z }) (λ z r. rereads_function refl r) (λ k z l. related g out p l)
      (exp_so C O gain (by_form C.ways.elsewhere) whole_jumps (λ a ls R e f f' l. absurd (never_left whole_jumps ls nothing_leaves l)) (λ x i. i) [] R g.body g'.body))

  -- the function that was found alike but for its open block is related to the text's, with references read and that block filled
  pub function_if : C.outside ≡ [] → (g g' : Function) (h : Hole) → like_function C g g' ≡ alike_but h → BlockFilled h
      → (z : Function) × RereadsFunction g' z × RelatedFunction C.items O gain C.ways.elsewhere g z
  function_if out g g' h e i = by (but_found (like_function C g g') (function_so out g g') e i)
    where
      by : ((z : Function) × RereadsFunction g' z × RelatedBy g 1 z) → (z : Function) × RereadsFunction g' z × RelatedFunction C.items O gain C.ways.elsewhere g z
      by t = (t.0, t.1, t.2 i.turns)

-- ---- items

alike_so : (l : Likeness) → Says (l ≡ alike) (is_alike l)
alike_so alike = says refl
alike_so unlike = silent
alike_so (alike_but h) = silent

related_so : (items : ℕ → ℕ) (g g' : Function) → Says (RelatedFunction items no_openings without_turns [] g g') (is_alike (like_function (plainly items) g g'))
related_so items g g' = so (λ e. by (alike_found (like_function (plainly items) g g') (function_so (plainly items) no_openings without_turns refl g g') e))
    (alike_so (like_function (plainly items) g g'))
  where
    by : ((z : Function) × RereadsFunction g' z × (Whole whole_jumps → g' ≡ z) × ((k : ℕ) → RelatedBy (plainly items) no_openings without_turns g k z))
        → RelatedFunction items no_openings without_turns [] g g'
    by t = subst (λ z. RelatedFunction items no_openings without_turns [] g z) (sym (t.2 nothing_leaves)) (t.3 0 (omega arith))

same_item_so : (items : ℕ → ℕ) (o o' : Option (Option Function)) → Says (SameEntry items o o') (same_item items o o')
same_item_so items (Some (Some g)) (Some (Some g')) = so (λ r. same_function r) (related_so items g g')
same_item_so items (Some (Some g)) (Some None) = silent
same_item_so items (Some (Some g)) None = silent
same_item_so items (Some None) (Some (Some g')) = silent
same_item_so items None (Some (Some g')) = silent
same_item_so items (Some None) (Some None) = says (no_function tt tt)
same_item_so items (Some None) None = says (no_function tt tt)
same_item_so items None (Some None) = says (no_function tt tt)
same_item_so items None None = says (no_function tt tt)

itself_so : (o : Option Function) → Says (IsItself (Some o)) (is_like_itself o)
itself_so None = says (is_none tt)
itself_so (Some g) = so (λ r. is_itself r) (related_so (λ f. f) g g)

each_so : (P : Functions) → Says ((f : ℕ) → IsItself (element P f)) (each_is_like_itself P)
each_so [] = says (λ f. is_none tt)
each_so (o ∷ os) = and_so (itself_so o) (each_so os) (λ h t f. by h t f)
  where
    by : IsItself (Some o) → ((f : ℕ) → IsItself (element os f)) → (f : ℕ) → IsItself (element (o ∷ os) f)
    by h t zero = h
    by h t (suc f) = t f

pub same_if : (items : ℕ → ℕ) (o o' : Option (Option Function)) → same_item items o o' ≡ true → SameEntry items o o'
same_if items o o' e = said (same_item items o o') (same_item_so items o o') e

pub each_if : (P : Program) → each_is_like_itself P.functions ≡ true → EachIsItself P
each_if P e = said (each_is_like_itself P.functions) (each_so P.functions) e
