-- Where places that are alike lead: step by step, from the slots of a variable as it is seen, or from a value that is held.
use Rattle.std.proofs.Common.{◌≡◌, ℕ, Bool, true, false, ◌&&◌, List, [], ◌∷◌, Option, Some, refl, sym, ap, subst, ◌⊎◌, inl, inr}
use Rattle.rx_core.specs.declared.types.Step.{Step}
use Rattle.rx_core.specs.declared.types.Step.TheVariants as step
use Rattle.rx_typed.specs.Tree.{Temporary, Place}
use Rattle.rx_lower_walks.specs.Actions.{Action}
use Rattle.rx_meaning.specs.Values.{Value, and_then, get, element, slot_of, State}
use Rattle.rx_meaning.specs.Places.{Spot, in_slot, in_value, content, deeper, may_write, pointed, follow, spot}
use Rattle.rx_engine_simulation.proofs.Values.{Hold, fixed, shut, free, NotFixed, Pair, pair, In, LikeValue, numbers, truths, wholes, taggeds, pointers, lacks, LikeOption, nones, somes, like_then, part_like, get_like, AllGiven, none_given, more_given}
use Rattle.rx_engine_simulation.proofs.States.{IsRoot, IsOwn, Facts, Living, How, plain, special, through, copied, viewed, absent, sight, Renaming, sight_of, Frozen, Thawed, SameAt, IsPlain, IsThrough, IsCopied, IsViewed, IsSpecial, Binding, Paired, StatesAlike}
pub use Rattle.rx_engine_simulation.specs.Places.{LikeSteps, no_steps, fields, variants, derefs, Use, looking, sharing, changing, writing, NotCopied, IsFreed, IsMutable, Allowed, IsDirect, at_variable, at_temporary, LikePlace, direct, behind, shared, of_temporary}

pub data LikeSpot (j : List Pair) (M M' : List Value) (full : Bool) (O : ℕ → ℕ → Type 0) : Spot → Spot → Type 0 where
  -- in the storage of a variable
  owned : {i k : ℕ} {ss : List Step} {w : Bool} → O i k → SameAt j M M' i k → (full ≡ true → w ≡ true) → LikeSpot j M M' full O (in_slot i ss true) (in_slot k ss w)
  -- come to through a reference
  lent : {ss : List Step} {w w' : Bool} (p : Pair) → In p j → (w ≡ true → p.hold ≡ free) → (full ≡ true → w ≡ w') → LikeSpot j M M' full O (in_slot p.left ss w) (in_slot p.right ss w')
  holds : {v v' : Value} → LikeValue j v v' → LikeSpot j M M' full O (in_value v) (in_value v')

module _ (Z Z' : Frozen) (j : List Pair) (M M' : List Value) (paired : Paired Z Z' j M M') where
  content_at : (i k : ℕ) (ss : List Step) (w w' : Bool) → SameAt j M M' i k → LikeOption (LikeValue j) (content M (in_slot i ss w)) (content M' (in_slot k ss w'))
  content_at i k ss w w' a =
      subst (λ o. LikeOption (LikeValue j) (and_then o (λ v. get ss v)) (and_then (element M' k) (λ v. get ss v))) (sym a.at_text)
      (subst (λ o. LikeOption (LikeValue j) (get ss a.text) (and_then o (λ v. get ss v))) (sym a.at_answer) (get_like ss a.like))

  pub content_like : {full : Bool} {O : ℕ → ℕ → Type 0} {at at' : Spot} → LikeSpot j M M' full O at at' → LikeOption (LikeValue j) (content M at) (content M' at')
  content_like (owned {i = i} {k = k} {ss = ss} {w = w} o a f) = content_at i k ss true w a
  content_like (lent {ss = ss} {w = w} {w' = w'} p i f g) = content_at p.left p.right ss w w' (paired.same p i)
  content_like (holds l) = somes l

  pub deeper_like : {full : Bool} {O : ℕ → ℕ → Type 0} {at at' : Spot} (s : Step) → LikeSpot j M M' full O at at' → LikeOption (LikeSpot j M M' full O) (deeper s at) (deeper s at')
  deeper_like s (owned o a f) = somes (owned o a f)
  deeper_like s (lent p i f g) = somes (lent p i f g)
  deeper_like s (holds l) = like_then (part_like l s) (λ x y m. somes (holds m))

  and_true : (a b : Bool) → a && b ≡ true → (a ≡ true) × (b ≡ true)
  and_true true b e = (refl, e)
  and_true false b e = absurd (cc)

  -- through a reference, which is itself read from where the text's may be written so and the answer's so
  pub pointed_like : {full : Bool} {O : ℕ → ℕ → Type 0} {v v' : Value} (w w' : Bool) → (full ≡ true → w ≡ w') → LikeValue j v v' → LikeOption (LikeSpot j M M' full O) (pointed w v) (pointed w' v')
  pointed_like w w' f (pointers {m = m} p i g) = somes (lent p i (λ e. g (and_true w m e).1) (λ e. ap (λ b. b && m) (f e)))
  pointed_like w w' f numbers = nones
  pointed_like w w' f truths = nones
  pointed_like w w' f (wholes l) = nones
  pointed_like w w' f (taggeds l) = nones
  pointed_like w w' f lacks = nones

  flags : {full : Bool} {O : ℕ → ℕ → Type 0} {at at' : Spot} → LikeSpot j M M' full O at at' → full ≡ true → may_write at ≡ may_write at'
  flags (owned o a f) e = sym (f e)
  flags (lent p i f g) e = g e
  flags (holds l) e = refl

  -- no storage of a variable
  pub far : {full : Bool} {O P : ℕ → ℕ → Type 0} {at at' : Spot} → ((i k : ℕ) → O i k → P i k) → LikeSpot j M M' full O at at' → LikeSpot j M M' full P at at'
  far k (owned o a f) = owned (k _ _ o) a f
  far k (lent p i f g) = lent p i f g
  far k (holds l) = holds l

  option_far : {full : Bool} {O P : ℕ → ℕ → Type 0} {a b : Option Spot} → ((i k : ℕ) → O i k → P i k) → LikeOption (LikeSpot j M M' full O) a b → LikeOption (LikeSpot j M M' full P) a b
  option_far k nones = nones
  option_far k (somes l) = somes (far k l)

  abbrev Nowhere : ℕ → ℕ → Type 0
  Nowhere i k = ⊥

  pub follow_like : {full : Bool} {O : ℕ → ℕ → Type 0} {ss ss' : List Step} → LikeSteps ss ss' → {at at' : Spot} → LikeSpot j M M' full O at at' → LikeOption (LikeSpot j M M' full (λ i k. IsOwn ss × O i k)) (follow M ss at) (follow M' ss' at')
  follow_like no_steps l = somes (far (λ i k o. (tt, o)) l)
  follow_like (fields {i = i} s) l = like_then (deeper_like (step.Field i) l) (λ a b m. follow_like s m)
  follow_like (variants {i = i} s) l = like_then (deeper_like (step.Variant i) l) (λ a b m. follow_like s m)
  follow_like {O = O} (derefs s) {at} {at'} l =
      like_then (content_like l) (λ v v' m. like_then (pointed_like {O = Nowhere} (may_write at) (may_write at') (flags l) m) (λ a b n. option_far (λ i k o. absurd o.1) (follow_like s n)))

-- ---- what is done there

abbrev pub IsFull : Use → Bool
IsFull looking = false
IsFull sharing = false
IsFull changing = true
IsFull writing = true

module _ (V : Facts) (R : Renaming) (Z Z' : Frozen) (h : List Action) (j : List Pair) (s s' : State) where
  -- a special variable with these slots
  pub record Specially (i k : ℕ) : Type 0 where
    pub text : ℕ
    pub answer : ℕ
    pub seen : sight_of R text ≡ Some (sight answer special)
    pub is_special : IsSpecial V Z Z' h j s.frame s'.frame s.memory s'.memory text answer
    pub is_left : is_special.left ≡ i
    pub is_right : is_special.right ≡ k

  abbrev pub Owns : Use → (ℕ → Type 0) → ℕ → ℕ → Type 0
  Owns looking r i k = Unit {0}
  Owns sharing r i k = ((w : Hold) × In (pair i k w) j) ⊎ ((b : Specially i k) × r b.text)
  Owns changing r i k = In (pair i k free) j
  Owns writing r i k = ((w : Hold) × In (pair i k w) j × NotFixed w × Thawed Z i × Thawed Z' k) ⊎ ((b : Specially i k) × r b.text)

  module _ (inv : StatesAlike V R Z Z' h j s s') where
    owns_plain : (u : Use) (r : ℕ → Type 0) (x y : ℕ) (w : Hold) (ss : List Step) (b : IsPlain Z Z' j s.frame s'.frame x y w) → Allowed u (plain w) ss → IsOwn ss → Owns u r b.left b.right
    owns_plain looking r x y w ss b a o = tt
    owns_plain sharing r x y w ss b a o = inl (w, b.is_in)
    owns_plain changing r x y free ss b a o = b.is_in
    owns_plain changing r x y shut ss b a o = absurd (a.0 o)
    owns_plain changing r x y fixed ss b a o = absurd (a.0 o)
    owns_plain writing r x y w ss b a o = inl (w, b.is_in, b.not_fixed, b.thawed, b.thawed')

    owns_special : (u : Use) (r : ℕ → Type 0) (x y : ℕ) (ss : List Step) → sight_of R x ≡ Some (sight y special) → (IsOwn ss → r x) → (b : IsSpecial V Z Z' h j s.frame s'.frame s.memory s'.memory x y) → Allowed u special ss → IsOwn ss → Owns u r b.left b.right
    owns_special looking r x y ss e q b a o = tt
    owns_special sharing r x y ss e q b a o = inr (record { text = x; answer = y; seen = e; is_special = b; is_left = refl; is_right = refl }, q o)
    owns_special changing r x y ss e q b a o = absurd (a.0 o)
    owns_special writing r x y ss e q b a o = inr (record { text = x; answer = y; seen = e; is_special = b; is_left = refl; is_right = refl }, q o)

    owns_copied : (u : Use) (r : ℕ → Type 0) (i k : ℕ) (ss : List Step) → Allowed u copied ss → IsOwn ss → Owns u r i k
    owns_copied looking r i k ss a o = tt
    owns_copied sharing r i k ss a o = absurd (a o)
    owns_copied changing r i k ss a o = absurd (a.0 o)
    owns_copied writing r i k ss a o = absurd (a.0 o)

    owns_through : (u : Use) (r : ℕ → Type 0) (x y : ℕ) (w : Hold) (m : Bool) (ss : List Step) (b : IsThrough Z Z' j s.frame s'.frame x y w m) → Allowed u (through w m) ss → IsOwn ss → Owns u r b.left b.right
    owns_through looking r x y w m ss b a o = tt
    owns_through sharing r x y w m ss b a o = inl (w, b.is_in)
    owns_through changing r x y free m ss b a o = b.is_in
    owns_through changing r x y shut true ss b a o = absurd (a.0 o)
    owns_through changing r x y fixed true ss b a o = absurd (a.0 o)
    owns_through changing r x y shut false ss b a o = absurd a.1
    owns_through changing r x y fixed false ss b a o = absurd a.1
    owns_through writing r x y w true ss b a o = inl (w, b.is_in, b.not_fixed, b.thawed refl, b.thawed' refl)
    owns_through writing r x y w false ss b a o = absurd a.1

    full_through : (u : Use) (w : Hold) (m : Bool) (ss : List Step) → Allowed u (through w m) ss → IsFull u ≡ true → m ≡ true
    full_through looking w m ss a e = absurd (cc)
    full_through sharing w m ss a e = absurd (cc)
    full_through changing w true ss a e = refl
    full_through changing w false ss a e = absurd a.1
    full_through writing w true ss a e = refl
    full_through writing w false ss a e = absurd a.1

    full_viewed : (u : Use) (ss : List Step) (m w : Bool) → Allowed u viewed ss → IsFull u ≡ true → m ≡ w
    full_viewed looking ss m w a e = absurd (cc)
    full_viewed sharing ss m w a e = absurd (cc)
    full_viewed changing ss m w a e = absurd a.1
    full_viewed writing ss m w a e = absurd a.1

    abbrev Spots : Use → (ℕ → Type 0) → Option Spot → Option Spot → Type 0
    Spots u r a b = LikeOption (LikeSpot j s.memory s'.memory (IsFull u) (λ i k. Owns u r i k)) a b

    -- from variables' slots
    from_slots : (u : Use) (r : ℕ → Type 0) (x y i k : ℕ) (vs vs' : List Value) (ss ss' : List Step) → slot_of s.frame.slots x ≡ Some i → slot_of s'.frame.slots y ≡ Some k → Spots u r (follow s.memory ss (in_slot i [] true)) (follow s'.memory ss' (in_slot k [] true)) → Spots u r (spot (at_variable x ss) vs s) (spot (at_variable y ss') vs' s')
    from_slots u r x y i k vs vs' ss ss' e f l =
        subst (λ o. Spots u r (and_then (and_then o (λ i. Some (in_slot i [] true))) (λ at. follow s.memory ss at)) (and_then (and_then (slot_of s'.frame.slots y) (λ i. Some (in_slot i [] true))) (λ at. follow s'.memory ss' at))) (sym e)
        (subst (λ o. Spots u r (follow s.memory ss (in_slot i [] true)) (and_then (and_then o (λ i. Some (in_slot i [] true))) (λ at. follow s'.memory ss' at))) (sym f) l)

    owned_follow : (u : Use) (r : ℕ → Type 0) (i k : ℕ) (w : Bool) (ss ss' : List Step) → LikeSteps ss ss' → (IsOwn ss → Owns u r i k) → SameAt j s.memory s'.memory i k → (IsFull u ≡ true → w ≡ true) → Spots u r (follow s.memory ss (in_slot i [] true)) (follow s'.memory ss' (in_slot k [] w))
    owned_follow u r i k w ss ss' l o a f =
        option_far Z Z' j s.memory s'.memory inv.paired (λ m n q. q.1 q.0) (follow_like Z Z' j s.memory s'.memory inv.paired {O = λ m n. IsOwn ss → Owns u r m n} l (owned o a f))

    copied_same : (x y : ℕ) (b : IsCopied Z Z' j s.frame s'.frame x y) → SameAt j s.memory s'.memory b.left b.right
    copied_same x y b = record { text = b.text; answer = b.answer; at_text = inv.paired.frozen b.left b.text b.held; at_answer = inv.paired.frozen' b.right b.answer b.held'; like = b.like }

    direct_like : (u : Use) (r : ℕ → Type 0) (x y : ℕ) (vs vs' : List Value) (ss ss' : List Step) (w : How) → sight_of R x ≡ Some (sight y w) → (IsOwn ss → r x) → IsDirect w → Allowed u w ss → LikeSteps ss ss' → Living V x h → Binding V Z Z' h j s.frame s'.frame s.memory s'.memory x y w → Spots u r (spot (at_variable x ss) vs s) (spot (at_variable y ss') vs' s')
    direct_like u r x y vs vs' ss ss' (plain w) e q d a l v b = from_slots u r x y b.left b.right vs vs' ss ss' b.at_text b.at_answer (owned_follow u r b.left b.right true ss ss' l (owns_plain u r x y w ss b a) (inv.paired.same _ b.is_in) (λ f. refl))
    direct_like u r x y vs vs' ss ss' special e q d a l v b = from_slots u r x y b.left b.right vs vs' ss ss' b.at_text b.at_answer (owned_follow u r b.left b.right true ss ss' l (owns_special u r x y ss e q b a) (b.same v) (λ f. refl))
    direct_like u r x y vs vs' ss ss' copied e q d a l v b = from_slots u r x y b.left b.right vs vs' ss ss' b.at_text b.at_answer (owned_follow u r b.left b.right true ss ss' l (owns_copied u r b.left b.right ss a) (copied_same x y b) (λ f. refl))
    direct_like u r x y vs vs' ss ss' (through w m) e q d a l v b = absurd d
    direct_like u r x y vs vs' ss ss' viewed e q d a l v b = absurd d
    direct_like u r x y vs vs' ss ss' absent e q d a l v b = absurd d

    behind_like : (u : Use) (r : ℕ → Type 0) (x y : ℕ) (n : Bool) (vs vs' : List Value) (ss ss' : List Step) (w : Hold) (m : Bool) → Allowed u (through w m) ss → LikeSteps ss ss' → IsThrough Z Z' j s.frame s'.frame x y w m → Spots u r (spot (at_variable x ss) vs s) (spot (at_variable y (step.Deref n ∷ ss')) vs' s')
    behind_like u r x y n vs vs' ss ss' w m a l b =
        from_slots u r x y b.left b.by vs vs' ss (step.Deref n ∷ ss') b.at_text b.at_answer
        (subst (λ o. Spots u r (follow s.memory ss (in_slot b.left [] true)) (and_then (and_then o (λ v. get [] v)) (λ v. and_then (pointed true v) (λ to. follow s'.memory ss' to)))) (sym (inv.paired.frozen' b.by _ b.reference))
        (owned_follow u r b.left b.right m ss ss' l (owns_through u r x y w m ss b a) (inv.paired.same _ b.is_in) (full_through u w m ss a)))

    shared_like : (u : Use) (r : ℕ → Type 0) (x y : ℕ) (m n : Bool) (vs vs' : List Value) (ss ss' : List Step) → Allowed u viewed (step.Deref m ∷ ss) → LikeSteps ss ss' → IsViewed Z Z' j s.frame s'.frame x y → Spots u r (spot (at_variable x (step.Deref m ∷ ss)) vs s) (spot (at_variable y (step.Deref n ∷ ss')) vs' s')
    shared_like u r x y m n vs vs' ss ss' a l b =
        from_slots u r x y b.left b.right vs vs' (step.Deref m ∷ ss) (step.Deref n ∷ ss') b.at_text b.at_answer
        (subst (λ o. Spots u r (and_then (and_then o (λ v. get [] v)) (λ v. and_then (pointed true v) (λ to. follow s.memory ss to))) (and_then (and_then (element s'.memory b.right) (λ v. get [] v)) (λ v. and_then (pointed true v) (λ to. follow s'.memory ss' to)))) (sym (inv.paired.frozen b.left _ b.held))
        (subst (λ o. Spots u r (follow s.memory ss (in_slot b.target.left b.steps b.flag)) (and_then (and_then o (λ v. get [] v)) (λ v. and_then (pointed true v) (λ to. follow s'.memory ss' to)))) (sym (inv.paired.frozen' b.right _ b.held'))
        (option_far Z Z' j s.memory s'.memory inv.paired (λ i k q. absurd q.1) (follow_like Z Z' j s.memory s'.memory inv.paired {O = Nowhere Z Z' j s.memory s'.memory inv.paired} l (lent b.target b.is_in b.is_free (full_viewed u (step.Deref m ∷ ss) b.flag false a))))))

    held_like : (u : Use) (r : ℕ → Type 0) (t t' : Temporary) {vs vs' : List Value} (ss ss' : List Step) → LikeSteps ss ss' → AllGiven j vs vs' → Spots u r (spot (at_temporary t ss) vs s) (spot (at_temporary t' ss') vs' s')
    held_like u r t t' ss ss' l none_given = nones
    held_like u r t t' ss ss' l (more_given g gs) =
        option_far Z Z' j s.memory s'.memory inv.paired (λ i k q. absurd q.1) (follow_like Z Z' j s.memory s'.memory inv.paired {O = Nowhere Z Z' j s.memory s'.memory inv.paired} l (holds g.0))

    -- where the root is live
    pub spot_like : {u : Use} {p p' : Place} → LikePlace R u p p' → ((x : ℕ) → IsRoot p.root x → Living V x h) → (vs vs' : List Value) → AllGiven j vs vs' → Spots u (λ x. IsRoot p.root x × IsOwn p.steps) (spot p vs s) (spot p' vs' s')
    spot_like {u} (direct {x = x} {y = y} {ss = ss} {ss' = ss'} w e d a l) v vs vs' g = direct_like u (λ z. (z ≡ x) × IsOwn ss) x y vs vs' ss ss' w e (λ o. (refl, o)) d a l (v x refl) (inv.binds x (sight y w) e)
    spot_like {u} (behind {x = x} {y = y} {k = k} {ss = ss} {ss' = ss'} w m e a l) v vs vs' g = behind_like u (λ z. (z ≡ x) × IsOwn ss) x y k vs vs' ss ss' w m a l (inv.binds x (sight y (through w m)) e)
    spot_like {u} (shared {x = x} {y = y} {m = m} {k = k} {ss = ss} {ss' = ss'} e a l) v vs vs' g = shared_like u (λ z. (z ≡ x) × IsOwn (step.Deref m ∷ ss)) x y m k vs vs' ss ss' a l (inv.binds x (sight y viewed) e)
    spot_like {u} (of_temporary {t = t} {t' = t'} {ss = ss} {ss' = ss'} l) v vs vs' g = held_like u (λ z. ⊥ × IsOwn ss) t t' ss ss' l g
