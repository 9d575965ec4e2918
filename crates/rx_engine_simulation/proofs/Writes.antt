-- A write of like values does alike: nothing else leads to the slots that are written, so all other slots stay as they are.
use Rattle.std.proofs.Common.{◌≡◌, ℕ, zero, suc, ◌<◌, Bool, true, false, nat_eq, List, [], ◌∷◌, length, Option, Some, refl, sym, ap, ◌∙◌, subst, arith, ◌⊎◌, inl, inr, ⊎_elim, eqb-true}
use Rattle.std.proofs.lemmas.Bool.{eqb-false}
use Rattle.rx_core.specs.declared.types.Step.{Step}
use Rattle.rx_core.specs.declared.types.Step.TheVariants as step
use Rattle.rx_typed.specs.Tree.{Temporary, Place}
use Rattle.rx_lower_walks.specs.Actions.{Write, Action, does}
use Rattle.rx_meaning.specs.Values.{Value, unit_value, is_set, and_then, get, put, element, with_element, slot_of, State, with_memory}
use Rattle.rx_meaning.specs.Results.{gives, or_ends}
use Rattle.rx_meaning.specs.Endings.{Cause}
use Rattle.rx_meaning.specs.Straying.{why_not_found, why_not_written}
use Rattle.rx_meaning.specs.Places.{Spot, in_slot, follow, pointed, spot, after_write}
use Rattle.rx_meaning.specs.Acting.{performed, plainly}
use Rattle.rx_engine_simulation.proofs.Told.{followed}
use Rattle.rx_engine_simulation.proofs.Memory.{put_same}
use Rattle.rx_engine_simulation.proofs.Values.{Hold, NotFixed, Pair, pair, In, LikeValue, numbers, truths, wholes, taggeds, pointers, lacks, no_values, LikeOption, nones, somes, like_then, part_like, put_like, get_set, put_set, Given, AllGiven, none_given, more_given}
use Rattle.rx_engine_simulation.proofs.States.{Direction, Turns, IsRoot, IsOwn, IsWhole, WritesWhole, Kills, Borrowed, Facts, now, How, plain, special, through, copied, viewed, absent, Sight, sight, Renaming, sight_of, Frozen, Thawed, IsPlain, IsThrough, IsSpecial, Binding, IsSetAt, StatesAlike}
use Rattle.rx_engine_simulation.proofs.Keeping.{states_write, grown_write}
use Rattle.rx_engine_simulation.proofs.Results.{Jumping, DoAlike}
use Rattle.rx_engine_simulation.proofs.Spots as spots
use Rattle.rx_engine_simulation.proofs.Spots.{LikeSteps, no_steps, fields, variants, derefs, LikeSpot, owned, lent, holds, writing, LikePlace, direct, behind, shared, of_temporary, at_variable, Specially, Owns, spot_like}
use Rattle.rx_engine_simulation.proofs.Acts.{LikeDone, both_gave, both_ended, act_alike, or_like}

some_same : {A : Type 0} {a b : A} → Some a ≡ Some b → a ≡ b
some_same e = cc

-- a value has no part behind a reference
refs : {j : List Pair} (m k : Bool) (ss ss' : List Step) (v v' : Value) → LikeValue j v v' → LikeOption (LikeValue j) (get (step.Deref m ∷ ss) v) (get (step.Deref k ∷ ss') v')
refs m k ss ss' v v' numbers = nones
refs m k ss ss' v v' truths = nones
refs m k ss ss' v v' (wholes l) = nones
refs m k ss ss' v v' (taggeds l) = nones
refs m k ss ss' v v' (pointers p i h) = nones
refs m k ss ss' v v' lacks = nones

pub get_likes : {j : List Pair} {ss ss' : List Step} → LikeSteps ss ss' → (v v' : Value) → LikeValue j v v' → LikeOption (LikeValue j) (get ss v) (get ss' v')
get_likes no_steps v v' l = somes l
get_likes (fields {i = i} s) v v' l = like_then (part_like l (step.Field i)) (λ x y m. get_likes s x y m)
get_likes (variants {i = i} s) v v' l = like_then (part_like l (step.Variant i)) (λ x y m. get_likes s x y m)
get_likes (derefs {m = m} {k = k} {ss = ss} {ss' = ss'} s) v v' l = refs m k ss ss' v v' l

module _ (V : Facts) (R : Renaming) (Z Z' : Frozen) (a : Action) (h : List Action) (j : List Pair) (s s' : State) (inv : StatesAlike V R Z Z' h j s s') where
  -- where one may write
  pub record Site (i k : ℕ) : Type 0 where
    pub left_one : (q : Pair) → In q j → q.left ≡ i → q.right ≡ k
    pub right_one : (q : Pair) → In q j → q.right ≡ k → q.left ≡ i
    pub thawed : Thawed Z i
    pub thawed' : Thawed Z' k
    pub aside : (x y : ℕ) → sight_of R x ≡ Some (sight y special) → (b : IsSpecial V Z Z' h j s.frame s'.frame s.memory s'.memory x y) → ((b.left ≡ i) × (b.right ≡ k)) ⊎ record { left : b.left ≡ i → ⊥; right : b.right ≡ k → ⊥; kept : Kills a.act x → ⊥ }

  pub site_paired : (i k : ℕ) (w : Hold) → In (pair i k w) j → NotFixed w → Thawed Z i → Thawed Z' k → ((x y : ℕ) → sight_of R x ≡ Some (sight y special) → Kills a.act x → ⊥) → Site i k
  site_paired i k w m n z z' none = record {
    left_one = λ q o e. sym (ap (λ (q : Pair). q.right) (inv.paired.once (pair i k w) q m o (sym e) n));
    right_one = λ q o e. sym (ap (λ (q : Pair). q.left) (inv.paired.once' (pair i k w) q m o (sym e) n));
    thawed = z;
    thawed' = z';
    aside = λ x y seen b. inr (record {
      left = λ e. subst NotFixed (b.touched (pair i k w) m (sym e)).0 n;
      right = λ e. subst NotFixed (b.touched (pair i k w) m (b.touched' (pair i k w) m (sym e))).0 n;
      kept = none x y seen;
    });
  }

  pub site_special : (i k : ℕ) (b : Specially V R Z Z' h j s s' i k) → (Borrowed h b.text → ⊥) → ((x : ℕ) → Kills a.act x → x ≡ b.text) → Site i k
  site_special i k b untouched kills = record {
    left_one = λ q o e. absurd (untouched (b.is_special.touched q o (e ∙ sym b.is_left)).1);
    right_one = λ q o e. absurd (untouched (b.is_special.touched q o (b.is_special.touched' q o (e ∙ sym b.is_right))).1);
    thawed = subst (λ n. Thawed Z n) b.is_left b.is_special.thawed;
    thawed' = subst (λ n. Thawed Z' n) b.is_right b.is_special.thawed';
    aside = λ x y seen c. by x y seen c (nat_eq x b.text) refl;
  }
    where
      by : (x y : ℕ) → sight_of R x ≡ Some (sight y special) → (c : IsSpecial V Z Z' h j s.frame s'.frame s.memory s'.memory x y) → (n : Bool) → nat_eq x b.text ≡ n → ((c.left ≡ i) × (c.right ≡ k)) ⊎ record { left : c.left ≡ i → ⊥; right : c.right ≡ k → ⊥; kept : Kills a.act x → ⊥ }
      by x y seen c true e =
          let same_x : x ≡ b.text = eqb-true x b.text e in
          let same_y : y ≡ b.answer = ap (λ (e : Sight). e.to) (some_same (sym seen ∙ ap (λ x. sight_of R x) same_x ∙ b.seen)) in
          inl (
            some_same (sym c.at_text ∙ ap (λ x. slot_of s.frame.slots x) same_x ∙ b.is_special.at_text) ∙ b.is_left,
            some_same (sym c.at_answer ∙ ap (λ x. slot_of s'.frame.slots x) same_y ∙ b.is_special.at_answer) ∙ b.is_right,
          )
      by x y seen c false e = inr (record {
        left = λ f. eqb-false x b.text e (inv.framed.apart x b.text i (c.at_text ∙ ap Some f) (b.is_special.at_text ∙ ap Some b.is_left));
        right = λ f. eqb-false x b.text e (inv.names x b.text (sight y special) (sight b.answer special) seen b.seen (inv.framed'.apart y b.answer k (c.at_answer ∙ ap Some f) (b.is_special.at_answer ∙ ap Some b.is_right)));
        kept = λ f. eqb-false x b.text e (kills x f);
      })

module _ (V : Facts) (d : Direction) (R : Renaming) (Z Z' : Frozen) (J : Jumping) (c : ℕ) (h : List Action) (j : List Pair) (s s' : State) (inv : StatesAlike V R Z Z' h j s s') (turns : Turns d c s.turns s'.turns) (n : ℕ) (p : Place) (t : Temporary) (way : List Step) where
  abbrev a : Action
  a = does n (Write p t way)

  abbrev Puts : Cause → Cause → Value → Value → Spot → Spot → Type 0
  Puts why why' u u' at at' = LikeDone V d R Z Z' Given c a h j s s' (or_ends why (after_write u s.memory at) (λ M. gives [] unit_value (with_memory s M))) (or_ends why' (after_write u' s'.memory at') (λ M. gives [] unit_value (with_memory s' M)))

  not_new : (x : ℕ) → ⊥ → ⊥
  not_new x e = e

  -- a write of like values
  put_done : (why why' : Cause) (i k : ℕ) (ss : List Step) (u u' old old' : Value) → element s.memory i ≡ Some old → element s'.memory k ≡ Some old' → LikeOption (LikeValue j) (put ss u old) (put ss u' old') → is_set u ≡ true
      → Site V R Z Z' a h j s s' inv i k → ((x m : ℕ) → WritesWhole a.act x → slot_of s.frame.slots x ≡ Some m → (m ≡ i) × IsWhole ss) → ((x : ℕ) → WritesWhole a.act x → (m : ℕ) × (slot_of s.frame.slots x ≡ Some m)) → Puts why why' u u' (in_slot i ss true) (in_slot k ss true)
  put_done why why' i k ss u u' old old' e e' l set site mine has =
      subst (λ o. LikeDone V d R Z Z' Given c a h j s s' (or_ends why (and_then o (λ w. and_then (put ss u w) (λ x. Some (with_element s.memory i x)))) (λ M. gives [] unit_value (with_memory s M))) (or_ends why' (and_then (element s'.memory k) (λ w. and_then (put ss u' w) (λ x. Some (with_element s'.memory k x)))) (λ M. gives [] unit_value (with_memory s' M)))) (sym e)
      (subst (λ o. LikeDone V d R Z Z' Given c a h j s s' (or_ends why (and_then (put ss u old) (λ x. Some (with_element s.memory i x))) (λ M. gives [] unit_value (with_memory s M))) (or_ends why' (and_then o (λ w. and_then (put ss u' w) (λ x. Some (with_element s'.memory k x)))) (λ M. gives [] unit_value (with_memory s' M)))) (sym e')
      (by (put ss u old) (put ss u' old') refl l))
    where
      whole_is : (ss : List Step) (v : Value) → IsWhole ss → put ss u old ≡ Some v → is_set v ≡ true
      whole_is [] v o f = ap is_set (sym (some_same f)) ∙ set
      whole_is (x ∷ ss) v o f = absurd o

      by : (o o' : Option Value) → put ss u old ≡ o → LikeOption (LikeValue j) o o' → LikeDone V d R Z Z' Given c a h j s s' (or_ends why (and_then o (λ x. Some (with_element s.memory i x))) (λ M. gives [] unit_value (with_memory s M))) (or_ends why' (and_then o' (λ x. Some (with_element s'.memory k x))) (λ M. gives [] unit_value (with_memory s' M)))
      by o o' f nones = both_ended refl
      by o o' f (somes {a = v} {b = v'} m) =
          let sets : is_set old ≡ true → is_set v ≡ true = λ g. put_set ss u old v set g f in
          let whole : (x m : ℕ) → WritesWhole a.act x → slot_of s.frame.slots x ≡ Some m → IsSetAt (with_element s.memory i v) m = λ x m w g. (v, subst (λ n. element (with_element s.memory i v) n ≡ Some v) (sym (mine x m w g).0) (put_same s.memory i old v e), whole_is ss v (mine x m w g).1 f) in
          both_gave j (wholes no_values, refl) (record {
            inv = states_write V R Z Z' h j s s' inv a i k old old' v v' e e' m sets site.left_one site.right_one site.thawed site.thawed' site.aside not_new whole has;
            grown = grown_write V R Z Z' h j s s' inv a i k old old' v v' e e' m sets site.left_one site.right_one site.thawed site.thawed' site.aside not_new whole has;
            turns = turns;
          })

  none_special : (x : ℕ) (y : ℕ) (w : How) → sight_of R x ≡ Some (sight y w) → (w ≡ special → ⊥) → (z v : ℕ) → z ≡ x → sight_of R z ≡ Some (sight v special) → ⊥
  none_special x y w e f z v g k = f (ap (λ (e : Sight). e.how) (some_same (sym e ∙ ap (λ x. sight_of R x) (sym g) ∙ k)))

  module _ (good : V.Good (a ∷ h)) where
    at_spot : (why why' : Cause) (u u' : Value) → LikeValue j u u' → is_set u ≡ true → (IsWhole p.steps → ⊥) → (at at' : Spot) → LikeSpot j s.memory s'.memory true (λ i k. Owns V R Z Z' h j s s' writing (λ x. IsRoot p.root x × IsOwn p.steps) i k) at at' → Puts why why' u u' at at'
    at_spot why why' u u' l set part at at' (lent {ss = ss} {w = true} q m f g) =
        let b = inv.paired.same q m in
        let free_one = f refl in
        subst (λ w. Puts why why' u u' (in_slot q.left ss true) (in_slot q.right ss w)) (g refl)
        (put_done why why' q.left q.right ss u u' b.text b.answer b.at_text b.at_answer (put_like ss l b.like) set
        (site_paired V R Z Z' a h j s s' inv q.left q.right q.hold m (subst NotFixed (sym free_one) tt) (inv.paired.thawed q m free_one) (inv.paired.thawed' q m free_one) (λ x y seen k. ⊎_elim (λ e. e) (λ e. part e.1) k))
        (λ x m w e. absurd (part w.1)) (λ x w. absurd (part w.1)))
    at_spot why why' u u' l set part at at' (lent {ss = ss} {w = false} q m f g) = subst (λ w. Puts why why' u u' (in_slot q.left ss false) (in_slot q.right ss w)) (g refl) (both_ended refl)
    at_spot why why' u u' l set part at at' (owned {i = i} {k = k} {ss = ss} (inl o) b f) =
        subst (λ w. Puts why why' u u' (in_slot i ss true) (in_slot k ss w)) (sym (f refl))
        (put_done why why' i k ss u u' b.text b.answer b.at_text b.at_answer (put_like ss l b.like) set
        (site_paired V R Z Z' a h j s s' inv i k o.0 o.1 o.2 o.3 o.4 (λ x y seen k. ⊎_elim (λ e. e) (λ e. part e.1) k))
        (λ x m w e. absurd (part w.1)) (λ x w. absurd (part w.1)))
    at_spot why why' u u' l set part at at' (owned {i = i} {k = k} {ss = ss} (inr o) b f) =
        subst (λ w. Puts why why' u u' (in_slot i ss true) (in_slot k ss w)) (sym (f refl))
        (put_done why why' i k ss u u' b.text b.answer b.at_text b.at_answer (put_like ss l b.like) set
        (site_special V R Z Z' a h j s s' inv i k o.0 (λ t. V.untouched a h o.0.text o.0.is_special.is_one good o.1 t) (λ x k. ⊎_elim (λ e. absurd e) (λ e. absurd (part e.1)) k))
        (λ x m w e. absurd (part w.1)) (λ x w. absurd (part w.1)))
    at_spot why why' u u' l set part at at' (holds m) = both_ended refl

    part_put : (p' : Place) → LikePlace R writing p p' → (IsWhole p.steps → ⊥) → (u u' : Value) → LikeValue j u u' → is_set u ≡ true → LikeDone V d R Z Z' Given c a h j s s' (or_ends (why_not_found p [] s) (spot p [] s) (λ at. or_ends (why_not_written s.memory at) (after_write u s.memory at) (λ M. gives [] unit_value (with_memory s M)))) (or_ends (why_not_found p' [] s') (spot p' [] s') (λ at. or_ends (why_not_written s'.memory at) (after_write u' s'.memory at) (λ M. gives [] unit_value (with_memory s' M))))
    part_put p' l part u u' m set = or_like V d R Z Z' J c h j s s' Given a _ _ _ _ _ _ (spot_like V R Z Z' h j s s' inv l (λ x r. now a good (r, part)) [] [] none_given) (λ at at' o. at_spot (why_not_written s.memory at) (why_not_written s'.memory at') u u' m set part at at' o)

pub spot_own : (x i : ℕ) (s : State) → slot_of s.frame.slots x ≡ Some i → spot (at_variable x []) [] s ≡ Some (in_slot i [] true)
spot_own x i s e = ap (λ o. and_then (and_then o (λ i. Some (in_slot i [] true))) (λ at. Some at)) e

pub exists_at : (M : List Value) (i : ℕ) → i < length M → (v : Value) × (element M i ≡ Some v)
exists_at [] i h = absurd (omega arith)
exists_at (v ∷ M) zero h = (v, refl)
exists_at (v ∷ M) (suc i) h = exists_at M i (omega arith)

module _ (V : Facts) (d : Direction) (R : Renaming) (Z Z' : Frozen) (J : Jumping) (c : ℕ) (h : List Action) (j : List Pair) (s s' : State) (inv : StatesAlike V R Z Z' h j s s') (turns : Turns d c s.turns s'.turns) (n : ℕ) (x : ℕ) (t : Temporary) (way : List Step) where
  abbrev q : Place
  q = at_variable x []

  abbrev b : Action
  b = does n (Write q t way)

  spot_behind : (y k i : ℕ) (m r : Bool) → slot_of s'.frame.slots y ≡ Some k → Z'.kept k (Value.pointer i [] m) → spot (at_variable y (step.Deref r ∷ [])) [] s' ≡ Some (in_slot i [] m)
  spot_behind y k i m r e z =
      ap (λ o. and_then (and_then o (λ i. Some (in_slot i [] true))) (λ at. follow s'.memory (step.Deref r ∷ []) at)) e
      ∙ ap (λ o. and_then (and_then o (λ v. get [] v)) (λ v. and_then (pointed true v) (λ to. Some to))) (inv.paired.frozen' k (Value.pointer i [] m) z)

  abbrev Whole : Cause → Cause → Value → Value → Option Spot → Option Spot → Type 0
  Whole why why' u u' o o' = LikeDone V d R Z Z' Given c b h j s s' (or_ends why o (λ at. or_ends (why_not_written s.memory at) (after_write u s.memory at) (λ M. gives [] unit_value (with_memory s M)))) (or_ends why' o' (λ at. or_ends (why_not_written s'.memory at) (after_write u' s'.memory at) (λ M. gives [] unit_value (with_memory s' M))))

  mine : (i : ℕ) → slot_of s.frame.slots x ≡ Some i → (z m : ℕ) → WritesWhole b.act z → slot_of s.frame.slots z ≡ Some m → (m ≡ i) × IsWhole []
  mine i e z m w f = (some_same (sym f ∙ ap (λ x. slot_of s.frame.slots x) w.0 ∙ e), tt)

  has_slot : (i : ℕ) → slot_of s.frame.slots x ≡ Some i → (z : ℕ) → WritesWhole b.act z → (m : ℕ) × (slot_of s.frame.slots z ≡ Some m)
  has_slot i e z w = (i, ap (λ x. slot_of s.frame.slots x) w.0 ∙ e)

  killed : (z : ℕ) → Kills b.act z → z ≡ x
  killed z k = ⊎_elim (λ e. absurd e) (λ e. e.0) k

  not_plain : (w : Hold) → plain w ≡ special → ⊥
  not_plain w e = cc

  not_through : (w : Hold) (m : Bool) → through w m ≡ special → ⊥
  not_through w m e = cc

  whole_plain : (why why' : Cause) → (y : ℕ) (w : Hold) → sight_of R x ≡ Some (sight y (plain w)) → IsPlain Z Z' j s.frame s'.frame x y w → (u u' : Value) → LikeValue j u u' → is_set u ≡ true → Whole why why' u u' (spot q [] s) (spot (at_variable y []) [] s')
  whole_plain why why' y w seen e u u' l set =
      let o = inv.paired.same _ e.is_in in
      subst (λ a. Whole why why' u u' a (spot (at_variable y []) [] s')) (sym (spot_own x e.left s e.at_text))
      (subst (λ a. Whole why why' u u' (Some (in_slot e.left [] true)) a) (sym (spot_own y e.right s' e.at_answer))
      (put_done V d R Z Z' J c h j s s' inv turns n q t way (why_not_written s.memory (in_slot e.left [] true)) (why_not_written s'.memory (in_slot e.right [] true)) e.left e.right [] u u' o.text o.answer o.at_text o.at_answer (somes l) set
      (site_paired V R Z Z' b h j s s' inv e.left e.right w e.is_in e.not_fixed e.thawed e.thawed' (λ z v f k. none_special V d R Z Z' J c h j s s' inv turns n q t way x y (plain w) seen (not_plain w) z v (killed z k) f))
      (mine e.left e.at_text) (has_slot e.left e.at_text)))

  whole_special : (why why' : Cause) → V.Good (b ∷ h) → (y : ℕ) → sight_of R x ≡ Some (sight y special) → IsSpecial V Z Z' h j s.frame s'.frame s.memory s'.memory x y → (u u' : Value) → LikeValue j u u' → is_set u ≡ true → Whole why why' u u' (spot q [] s) (spot (at_variable y []) [] s')
  whole_special why why' good y seen e u u' l set =
      let o = exists_at s.memory e.left (inv.framed.below x e.left e.at_text) in
      let o' = exists_at s'.memory e.right (inv.framed'.below y e.right e.at_answer) in
      subst (λ a. Whole why why' u u' a (spot (at_variable y []) [] s')) (sym (spot_own x e.left s e.at_text))
      (subst (λ a. Whole why why' u u' (Some (in_slot e.left [] true)) a) (sym (spot_own y e.right s' e.at_answer))
      (put_done V d R Z Z' J c h j s s' inv turns n q t way (why_not_written s.memory (in_slot e.left [] true)) (why_not_written s'.memory (in_slot e.right [] true)) e.left e.right [] u u' o.0 o'.0 o.1 o'.1 (somes l) set
      (site_special V R Z Z' b h j s s' inv e.left e.right (record { text = x; answer = y; seen = seen; is_special = e; is_left = refl; is_right = refl }) (λ f. V.untouched b h x e.is_one good (refl, tt) f) killed)
      (mine e.left e.at_text) (has_slot e.left e.at_text)))

  whole_behind : (why why' : Cause) → (y : ℕ) (r : Bool) (w : Hold) → sight_of R x ≡ Some (sight y (through w true)) → IsThrough Z Z' j s.frame s'.frame x y w true → (u u' : Value) → LikeValue j u u' → is_set u ≡ true → Whole why why' u u' (spot q [] s) (spot (at_variable y (step.Deref r ∷ [])) [] s')
  whole_behind why why' y r w seen e u u' l set =
      let o = inv.paired.same _ e.is_in in
      subst (λ a. Whole why why' u u' a (spot (at_variable y (step.Deref r ∷ [])) [] s')) (sym (spot_own x e.left s e.at_text))
      (subst (λ a. Whole why why' u u' (Some (in_slot e.left [] true)) a) (sym (spot_behind y e.by e.right true r e.at_answer e.reference))
      (put_done V d R Z Z' J c h j s s' inv turns n q t way (why_not_written s.memory (in_slot e.left [] true)) (why_not_written s'.memory (in_slot e.right [] true)) e.left e.right [] u u' o.text o.answer o.at_text o.at_answer (somes l) set
      (site_paired V R Z Z' b h j s s' inv e.left e.right w e.is_in e.not_fixed (e.thawed refl) (e.thawed' refl) (λ z v f k. none_special V d R Z Z' J c h j s s' inv turns n q t way x y (through w true) seen (not_through w true) z v (killed z k) f))
      (mine e.left e.at_text) (has_slot e.left e.at_text)))

module _ (V : Facts) (d : Direction) (R : Renaming) (Z Z' : Frozen) (J : Jumping) (c : ℕ) (h : List Action) (j : List Pair) (s s' : State) (inv : StatesAlike V R Z Z' h j s s') (turns : Turns d c s.turns s'.turns) (n n' : ℕ) (t t' : Temporary) (way way' : List Step) where
  abbrev Written : Place → Place → Value → Value → Type 0
  Written p p' u u' = LikeDone V d R Z Z' Given c (does n (Write p t way)) h j s s' (or_ends (why_not_found p [] s) (spot p [] s) (λ at. or_ends (why_not_written s.memory at) (after_write u s.memory at) (λ M. gives [] unit_value (with_memory s M)))) (or_ends (why_not_found p' [] s') (spot p' [] s') (λ at. or_ends (why_not_written s'.memory at) (after_write u' s'.memory at) (λ M. gives [] unit_value (with_memory s' M))))

  whole_direct : (x y : ℕ) (w : How) → V.Good (does n (Write (at_variable x []) t way) ∷ h) → sight_of R x ≡ Some (sight y w) → spots.IsDirect w → spots.Allowed writing w [] → Binding V Z Z' h j s.frame s'.frame s.memory s'.memory x y w → (u u' : Value) → LikeValue j u u' → is_set u ≡ true → Written (at_variable x []) (at_variable y []) u u'
  whole_direct x y (plain w) good e f al b u u' l set = whole_plain V d R Z Z' J c h j s s' inv turns n x t way (why_not_found (at_variable x []) [] s) (why_not_found (at_variable y []) [] s') y w e b u u' l set
  whole_direct x y special good e f al b u u' l set = whole_special V d R Z Z' J c h j s s' inv turns n x t way (why_not_found (at_variable x []) [] s) (why_not_found (at_variable y []) [] s') good y e b u u' l set
  whole_direct x y copied good e f al b u u' l set = absurd (al.0 tt)
  whole_direct x y (through w m) good e f al b u u' l set = absurd f
  whole_direct x y viewed good e f al b u u' l set = absurd f
  whole_direct x y absent good e f al b u u' l set = absurd f

  whole_through : (x y : ℕ) (r : Bool) (w : Hold) (m : Bool) → sight_of R x ≡ Some (sight y (through w m)) → spots.Allowed writing (through w m) [] → IsThrough Z Z' j s.frame s'.frame x y w m → (u u' : Value) → LikeValue j u u' → is_set u ≡ true → Written (at_variable x []) (at_variable y (step.Deref r ∷ [])) u u'
  whole_through x y r w true e al b u u' l set = whole_behind V d R Z Z' J c h j s s' inv turns n x t way (why_not_found (at_variable x []) [] s) (why_not_found (at_variable y (step.Deref r ∷ [])) [] s') y r w e b u u' l set
  whole_through x y r w false e al b u u' l set = absurd al.1

  part_of : {p p' : Place} → LikePlace R writing p p' → V.Good (does n (Write p t way) ∷ h) → (IsWhole p.steps → ⊥) → (u u' : Value) → LikeValue j u u' → is_set u ≡ true → Written p p' u u'
  part_of {p} {p'} l good part u u' m set = part_put V d R Z Z' J c h j s s' inv turns n p t way good p' l part u u' m set

  put_alike : {p p' : Place} → LikePlace R writing p p' → V.Good (does n (Write p t way) ∷ h) → (u u' : Value) → LikeValue j u u' → is_set u ≡ true → Written p p' u u'
  put_alike (direct {x = x} {y = y} w e f al no_steps) good u u' l set = whole_direct x y w good e f al (inv.binds x (sight y w) e) u u' l set
  put_alike (direct w e f al (fields m)) good u u' l set = part_of (direct w e f al (fields m)) good (λ z. z) u u' l set
  put_alike (direct w e f al (variants m)) good u u' l set = part_of (direct w e f al (variants m)) good (λ z. z) u u' l set
  put_alike (direct {x = x} {y = y} w e f al (derefs {m = a} {k = b} m)) good u u' l set = part_of (direct {x = x} {y = y} w e f al (derefs {m = a} {k = b} m)) good (λ z. z) u u' l set
  put_alike (behind {x = x} {y = y} {k = k} w m e al no_steps) good u u' l set = whole_through x y k w m e al (inv.binds x (sight y (through w m)) e) u u' l set
  put_alike (behind {x = x} {y = y} {k = r} w m e al (fields o)) good u u' l set = part_of (behind {x = x} {y = y} {k = r} w m e al (fields o)) good (λ z. z) u u' l set
  put_alike (behind {x = x} {y = y} {k = r} w m e al (variants o)) good u u' l set = part_of (behind {x = x} {y = y} {k = r} w m e al (variants o)) good (λ z. z) u u' l set
  put_alike (behind {x = x} {y = y} {k = r} w m e al (derefs {m = a} {k = b} o)) good u u' l set = part_of (behind {x = x} {y = y} {k = r} w m e al (derefs {m = a} {k = b} o)) good (λ z. z) u u' l set
  put_alike (shared e al o) good u u' l set = absurd al.1
  put_alike (of_temporary o) good u u' l set = both_ended refl

  got : (v v' : Value) → LikeSteps way way' → Given j v v' → LikeOption (Given j) (get way v) (get way' v')
  got v v' l g = by (get way v) (get way' v') refl (get_likes l v v' g.0)
    where
      by : (o o' : Option Value) → get way v ≡ o → LikeOption (LikeValue j) o o' → LikeOption (Given j) o o'
      by o o' e nones = nones
      by o o' e (somes m) = somes (m, get_set way v _ g.1 e)

  pub write_alike : (p p' : Place) → LikePlace R writing p p' → LikeSteps way way' → (v v' : Value) → Given j v v' → DoAlike V d R Z Z' J Given c h j s s' (performed followed (does n (Write p t way)) (v ∷ []) s) (performed plainly (does n' (Write p' t' way')) (v' ∷ []) s')
  write_alike p p' l m v v' g = act_alike V d R Z Z' J c h j s s' Given (does n (Write p t way)) (does n' (Write p' t' way')) (v ∷ []) (v' ∷ []) (λ good.
      or_like V d R Z Z' J c h j s s' Given (does n (Write p t way)) _ _ _ _ _ _ (got v v' m g) (λ u u' o. put_alike l good u u' o.0 o.1))

  pub write_all_alike : (p p' : Place) → LikePlace R writing p p' → LikeSteps way way' → (vs vs' : List Value) → AllGiven j vs vs' → DoAlike V d R Z Z' J Given c h j s s' (performed followed (does n (Write p t way)) vs s) (performed plainly (does n' (Write p' t' way')) vs' s')
  write_all_alike p p' l m vs vs' none_given = act_alike V d R Z Z' J c h j s s' Given (does n (Write p t way)) (does n' (Write p' t' way')) [] [] (λ good. both_ended refl)
  write_all_alike p p' l m vs vs' (more_given {v = v} {w = v'} g none_given) = write_alike p p' l m v v' g
  write_all_alike p p' l m vs vs' (more_given {v = a} {w = a'} g (more_given {v = b} {w = b'} {vs = r} {ws = r'} k gs)) = act_alike V d R Z Z' J c h j s s' Given (does n (Write p t way)) (does n' (Write p' t' way')) (a ∷ b ∷ r) (a' ∷ b' ∷ r') (λ good. both_ended refl)
