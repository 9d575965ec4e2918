-- An action that goes behind no reference does not end a run for a lack, where what it looks at is set on the walk and what it
-- writes a part of is there as a whole: a lack on the way is lost on the walk, and held values have none.
use Rattle.std.proofs.Common.{◌≡◌, ℕ, Bool, true, false, ◌&&◌, nat_eq, List, [], ◌∷◌, ◌++◌, Option, Some, None, refl, sym, ap, subst, ◌∙◌, if◌then◌else◌, append-nil, append_assoc, true≢false}
use Rattle.std.proofs.lemmas.Bool.Decides.{Decides-eqb}
use Rattle.rx_core.specs.declared.types.Step.{Step}
use Rattle.rx_typed.specs.Tree.{Place, Root, Temporary, variable, temporary, own}
use Rattle.rx_lower_walks.specs.Actions.{Act, Read, Write, Borrow, Test, Build, Input, Print, Action, does}
use Rattle.rx_lower_walks.specs.Walks.{IsWalk}
use Rattle.rx_meaning.specs.Endings.{Cause, Ending, wrong, astray, mistyped}
use Rattle.rx_meaning.specs.Endings as ending
use Rattle.rx_meaning.specs.Straying.{unlike, where_some, why_no_part, why_no_content, why_not_followed, why_not_found, why_not_written, why_not_checked}
use Rattle.rx_meaning.specs.Values.{Lack, Value, Values, number, truth, whole, tagged, pointer, lacking, is_set, and_then, part, with_part, get, put, element, with_element, slot_of, unit_value, State, with_memory}
use Rattle.rx_meaning.specs.Results as results
use Rattle.rx_meaning.specs.Results.{Done, gives, or_ends}
use Rattle.rx_meaning.specs.Places.{Spot, in_slot, in_value, content, follow, start, spot, found, whole_value, reference_to, after_write}
use Rattle.rx_meaning.specs.Operators as operators
use Rattle.rx_meaning.specs.Operators.{Computed, make, shown}
use Rattle.rx_meaning.specs.Acting.{checked, computed, next_input, does_plainly}
use Rattle.rx_facts_tables.specs.Places.{Frame, is_part}
use Rattle.rx_facts_tables.specs.Setting.{is_behind, looked_at, AllSet}
use Rattle.rx_facts_tables.specs.Wholes as wholes
use Rattle.rx_facts_tables.specs.Wholes.{placed, stands, holds_in}
use Rattle.rx_facts_tables.specs.Initialised.{InOrder}
use Rattle.rx_meaning_keeping.specs.Pending.{Pending, holds}
use Rattle.rx_meaning_keeping.specs.RightOperands.{IsRightOf}
use Rattle.rx_meaning_keeping.specs.Using.{Does}
use Rattle.rx_meaning_keeping.specs.Using as using
use Rattle.rx_meaning_keeping.specs.Strict.{lacks_there, is_lack, lacks_on_the_way, looks_at_lack, then_marks, does_strictly}
use Rattle.rx_meaning_keeping.specs.Ready.{HasPart, Ready}
use Rattle.rx_meaning_keeping.specs.Lacking.{Lost, World, Marked}
use Rattle.rx_meaning_keeping.specs.Behind.{goes_behind}
use Rattle.rx_meaning_keeping.proofs.Parts.{Parted}
use Rattle.rx_meaning_keeping.proofs.Slots as slots
use Rattle.rx_meaning_keeping.proofs.Slots.{lacks, blocked, front_of, no_front, blocked_where, Near, below, above, lacks_where, set_not_lacking, part_set, way_is_plain, some_is}
use Rattle.rx_meaning_keeping.proofs.Lost.{follow_plain, spot_plain}

-- ---- where a lack is the cause, there is one on the way

abbrev pub IsLack : Cause → Type 0
IsLack c = c ≡ ending.lacks

why_lacks : (ss : List Step) (v : Value) → IsLack (why_no_part ss v) → lacks ss v ≡ true
why_lacks [] (lacking l) e = refl
why_lacks [] (number k z) e = cc
why_lacks [] (truth b) e = cc
why_lacks [] (whole vs) e = cc
why_lacks [] (tagged i vs) e = cc
why_lacks [] (pointer i p m) e = cc
why_lacks (s ∷ ss) (lacking l) e = refl
why_lacks (s ∷ ss) (number k z) e = cc
why_lacks (s ∷ ss) (truth b) e = cc
why_lacks (s ∷ ss) (pointer i p m) e = cc
why_lacks (s ∷ ss) (whole vs) e = by (part (whole vs) s) e (λ u. why_lacks ss u)
  where
    by : (o : Option Value) → IsLack (where_some o astray (λ u. why_no_part ss u)) → ((u : Value) → IsLack (why_no_part ss u) → lacks ss u ≡ true) → slots.holds_in o (λ u. lacks ss u) ≡ true
    by None e rec = cc
    by (Some u) e rec = rec u e
why_lacks (s ∷ ss) (tagged i vs) e = by (part (tagged i vs) s) e (λ u. why_lacks ss u)
  where
    by : (o : Option Value) → IsLack (where_some o astray (λ u. why_no_part ss u)) → ((u : Value) → IsLack (why_no_part ss u) → lacks ss u ≡ true) → slots.holds_in o (λ u. lacks ss u) ≡ true
    by None e rec = cc
    by (Some u) e rec = rec u e

get_lacks : (ss : List Step) (v u : Value) → get ss v ≡ Some u → is_set u ≡ false → lacks ss v ≡ true
get_lacks [] v u e h = rw (some_is e) (rw h refl)
get_lacks (s ∷ ss) (lacking l) u e h = refl
get_lacks (s ∷ ss) (number k z) u e h = cc
get_lacks (s ∷ ss) (truth b) u e h = cc
get_lacks (s ∷ ss) (pointer i p m) u e h = cc
get_lacks (s ∷ ss) (whole vs) u e h = by (part (whole vs) s) e (λ x g. get_lacks ss x u g h)
  where
    by : (o : Option Value) → and_then o (λ x. get ss x) ≡ Some u → ((x : Value) → get ss x ≡ Some u → lacks ss x ≡ true) → slots.holds_in o (λ x. lacks ss x) ≡ true
    by None e rec = cc
    by (Some x) e rec = rec x e
get_lacks (s ∷ ss) (tagged i vs) u e h = by (part (tagged i vs) s) e (λ x g. get_lacks ss x u g h)
  where
    by : (o : Option Value) → and_then o (λ x. get ss x) ≡ Some u → ((x : Value) → get ss x ≡ Some u → lacks ss x ≡ true) → slots.holds_in o (λ x. lacks ss x) ≡ true
    by None e rec = cc
    by (Some x) e rec = rec x e

-- a value that is set has none
set_lacks_none : (ss : List Step) (v : Value) → is_set v ≡ true → lacks ss v ≡ true → ⊥
set_lacks_none ss v h e = let r = lacks_where ss v e in set_not_lacking r.0 v r.1 h r.2

set_unlike : (c : Cause) (v : Value) → is_set v ≡ true → (IsLack c → ⊥) → IsLack (unlike c v) → ⊥
set_unlike c (lacking l) h n e = true≢false (sym h)
set_unlike c (number k z) h n e = n e
set_unlike c (truth b) h n e = n e
set_unlike c (whole vs) h n e = n e
set_unlike c (tagged i vs) h n e = n e
set_unlike c (pointer i p m) h n e = n e

no_astray : IsLack astray → ⊥
no_astray e = cc

no_mistyped : IsLack mistyped → ⊥
no_mistyped e = cc

-- nothing can be put there for a lack: it is above
pub put_in_whole : (s : Step) (ss : List Step) (w : Value) (vs : Values) (x : Value) → put (s ∷ ss) w (whole vs) ≡ Some x → (us : Values) × (x ≡ whole us)
put_in_whole (Step.Field i) ss w vs x e = by (part (whole vs) (Step.Field i)) e
  where
    inner : (o : Option Value) → and_then o (λ y. with_part (whole vs) (Step.Field i) y) ≡ Some x → (us : Values) × (x ≡ whole us)
    inner None e = cc
    inner (Some y) e = (_, sym (some_is e))

    by : (o : Option Value) → and_then o (λ u. and_then (put ss w u) (λ y. with_part (whole vs) (Step.Field i) y)) ≡ Some x → (us : Values) × (x ≡ whole us)
    by None e = cc
    by (Some u) e = inner (put ss w u) e
put_in_whole (Step.Variant i) ss w vs x e = cc
put_in_whole (Step.Deref i) ss w vs x e = cc

abbrev Blocks : List Step → Value → Value → Type 0
Blocks ss w v = put ss w v ≡ None → IsLack (why_no_part ss v) → blocked ss v ≡ true

put_blocked : (ss : List Step) (w v : Value) → Blocks ss w v
put_blocked [] w v e h = cc
put_blocked (s ∷ ss) w (lacking l) e h = refl
put_blocked (s ∷ ss) w (number k z) e h = cc
put_blocked (s ∷ ss) w (truth b) e h = cc
put_blocked (s ∷ ss) w (pointer i p m) e h = cc
put_blocked (Step.Field i ∷ ss) w (whole vs) e h = by (part (whole vs) (Step.Field i)) e h (λ u. put_blocked ss w u)
  where
    inner : (u : Value) → (o : Option Value) → put ss w u ≡ o → and_then o (λ x. with_part (whole vs) (Step.Field i) x) ≡ None → IsLack (why_no_part ss u) → Blocks ss w u → blocked ss u ≡ true
    inner u None q e h rec = rec q h
    inner u (Some x) q e h rec = cc

    by : (o : Option Value) → and_then o (λ u. and_then (put ss w u) (λ x. with_part (whole vs) (Step.Field i) x)) ≡ None → IsLack (where_some o astray (λ u. why_no_part ss u)) → ((u : Value) → Blocks ss w u) → slots.holds_in o (λ u. blocked ss u) ≡ true
    by None e h rec = cc
    by (Some u) e h rec = inner u (put ss w u) refl e h (rec u)
put_blocked (Step.Variant j ∷ ss) w (tagged i vs) e h = by (nat_eq i j) e h (put_blocked ss w (whole vs))
  where
    -- what was put in the parts is one of parts again, or the way ends there
    made : (rs : List Step) → (x : Value) → put rs w (whole vs) ≡ Some x → with_part (tagged i vs) (Step.Variant j) x ≡ None → IsLack (why_no_part rs (whole vs)) → blocked rs (whole vs) ≡ true
    made [] x q e h = cc
    made (r ∷ rs) x q e h = let u = put_in_whole r rs w vs x q in clash u.0 (subst (λ z. with_part (tagged i vs) (Step.Variant j) z ≡ None) u.1 e)
      where
        clash : (us : Values) → with_part (tagged i vs) (Step.Variant j) (whole us) ≡ None → blocked (r ∷ rs) (whole vs) ≡ true
        clash us e = cc

    inner : (o : Option Value) → put ss w (whole vs) ≡ o → and_then o (λ x. with_part (tagged i vs) (Step.Variant j) x) ≡ None → IsLack (why_no_part ss (whole vs)) → Blocks ss w (whole vs) → blocked ss (whole vs) ≡ true
    inner None q e h rec = rec q h
    inner (Some x) q e h rec = made ss x q e h

    by : (b : Bool) → and_then (if b then Some (whole vs) else None) (λ u. and_then (put ss w u) (λ x. with_part (tagged i vs) (Step.Variant j) x)) ≡ None → IsLack (where_some (if b then Some (whole vs) else None) astray (λ u. why_no_part ss u)) → Blocks ss w (whole vs)
        → slots.holds_in (if b then Some (whole vs) else None) (λ u. blocked ss u) ≡ true
    by false e h rec = cc
    by true e h rec = inner (put ss w (whole vs)) refl e h rec
put_blocked (Step.Field j ∷ ss) w (tagged i vs) e h = cc
put_blocked (Step.Deref j ∷ ss) w (tagged i vs) e h = cc
put_blocked (Step.Variant j ∷ ss) w (whole vs) e h = cc
put_blocked (Step.Deref j ∷ ss) w (whole vs) e h = cc

-- ---- what is found at a place that is behind no reference

abbrev pub paired : Spot → Option Value → Option (Spot × Value)
paired at o = and_then o (λ v. Some (at, v))

abbrev pub standing : List Value → Spot → Option (Spot × Value)
standing M at = paired at (content M at)

abbrev Whole : Place → List Value → State → Type 0
Whole p vs s = (found p vs s ≡ None → IsLack (why_not_found p vs s) → ⊥) × ((f : Spot × Value) → found p vs s ≡ Some f → is_set f.1 ≡ true)

why_plain : (M : List Value) (ss ps : List Step) (i : ℕ) (b : Bool) → is_behind ss ≡ false → why_not_followed M ss (in_slot i ps b) ≡ why_no_content M (in_slot i (ps ++ ss) b)
why_plain M [] ps i b h = rw (append-nil ps) refl
why_plain M (Step.Field j ∷ ss) ps i b h = why_plain M ss (ps ++ Step.Field j ∷ []) i b h ∙ rw (append_assoc ps (Step.Field j ∷ []) ss) refl
why_plain M (Step.Variant j ∷ ss) ps i b h = why_plain M ss (ps ++ Step.Variant j ∷ []) i b h ∙ rw (append_assoc ps (Step.Variant j ∷ []) ss) refl
why_plain M (Step.Deref j ∷ ss) ps i b h = absurd (true≢false h)

-- of a variable
whole_variable : (x : ℕ) (ss : List Step) (vs : List Value) (s : State) → is_behind ss ≡ false
    → ((j : ℕ) (v : Value) → slot_of s.frame.slots x ≡ Some j → element s.memory j ≡ Some v → lacks ss v ≡ true → ⊥) → Whole (placed x ss) vs s
whole_variable x ss vs s b no_lack = (λ e h. missing (slot_of s.frame.slots x) refl e h, λ f e. there (slot_of s.frame.slots x) refl f e)
  where
    M : List Value
    M = s.memory

    missing : (o : Option ℕ) → slot_of s.frame.slots x ≡ o → and_then (and_then (and_then o (λ i. Some (in_slot i [] true))) (λ at. follow M ss at)) (λ at. standing M at) ≡ None
        → IsLack (where_some (and_then o (λ i. Some (in_slot i [] true))) astray (λ at. why_not_followed M ss at)) → ⊥
    missing None a e h = no_astray h
    missing (Some j) a e h = in_cell (element M j) refl (subst (λ c. IsLack c) (why_plain M ss [] j true b) h)
      where
        in_cell : (o : Option Value) → element M j ≡ o → IsLack (where_some o astray (λ v. why_no_part ss v)) → ⊥
        in_cell None q g = no_astray g
        in_cell (Some v) q g = no_lack j v a q (why_lacks ss v g)

    there : (o : Option ℕ) → slot_of s.frame.slots x ≡ o → (f : Spot × Value) → and_then (and_then (and_then o (λ i. Some (in_slot i [] true))) (λ at. follow M ss at)) (λ at. standing M at) ≡ Some f → is_set f.1 ≡ true
    there None a f e = cc
    there (Some j) a f e = in_cell (element M j) refl (subst (λ o. and_then o (λ at. standing M at) ≡ Some f) (follow_plain M ss [] j true b) e)
      where
        at_value : (v : Value) → element M j ≡ Some v → (o : Option Value) → get ss v ≡ o → paired (in_slot j ss true) o ≡ Some f → is_set f.1 ≡ true
        at_value v q None g e = cc
        at_value v q (Some u) g e = by (is_set u) refl
          where
            by : (c : Bool) → is_set u ≡ c → is_set f.1 ≡ true
            by true d = subst (λ z. is_set z.1 ≡ true) (some_is e) d
            by false d = absurd (no_lack j v a q (get_lacks ss v u g d))

        in_cell : (o : Option Value) → element M j ≡ o → paired (in_slot j ss true) (and_then o (λ v. get ss v)) ≡ Some f → is_set f.1 ≡ true
        in_cell None q e = cc
        in_cell (Some v) q e = at_value v q (get ss v) refl e

-- of what is held in a temporary
whole_steps : (M : List Value) (ss : List Step) (v : Value) → is_behind ss ≡ false → is_set v ≡ true → (at : Spot) → follow M ss (in_value v) ≡ Some at → (u : Value) × (in_value u ≡ at) × (is_set u ≡ true)
whole_steps M [] v b h at e = (v, some_is e, h)
whole_steps M (Step.Field i ∷ ss) v b h at e = by (part v (Step.Field i)) refl e (λ u g q. whole_steps M ss u b g at q)
  where
    by : (o : Option Value) → part v (Step.Field i) ≡ o → and_then (and_then o (λ u. Some (in_value u))) (λ to. follow M ss to) ≡ Some at → ((u : Value) → is_set u ≡ true → follow M ss (in_value u) ≡ Some at → (x : Value) × (in_value x ≡ at) × (is_set x ≡ true))
        → (x : Value) × (in_value x ≡ at) × (is_set x ≡ true)
    by None q e rec = cc
    by (Some u) q e rec = rec u (part_set v (Step.Field i) u h q) e
whole_steps M (Step.Variant i ∷ ss) v b h at e = by (part v (Step.Variant i)) refl e (λ u g q. whole_steps M ss u b g at q)
  where
    by : (o : Option Value) → part v (Step.Variant i) ≡ o → and_then (and_then o (λ u. Some (in_value u))) (λ to. follow M ss to) ≡ Some at → ((u : Value) → is_set u ≡ true → follow M ss (in_value u) ≡ Some at → (x : Value) × (in_value x ≡ at) × (is_set x ≡ true))
        → (x : Value) × (in_value x ≡ at) × (is_set x ≡ true)
    by None q e rec = cc
    by (Some u) q e rec = rec u (part_set v (Step.Variant i) u h q) e
whole_steps M (Step.Deref i ∷ ss) v b h at e = absurd (true≢false b)

steps_lack_none : (M : List Value) (ss : List Step) (v : Value) → is_behind ss ≡ false → is_set v ≡ true → IsLack (why_not_followed M ss (in_value v)) → ⊥
steps_lack_none M [] v b h e = set_unlike astray v h no_astray e
steps_lack_none M (Step.Field i ∷ ss) v b h e = by (part v (Step.Field i)) refl e (λ u g q. steps_lack_none M ss u b g q)
  where
    by : (o : Option Value) → part v (Step.Field i) ≡ o → IsLack (where_some (and_then o (λ u. Some (in_value u))) (unlike astray v) (λ to. why_not_followed M ss to)) → ((u : Value) → is_set u ≡ true → IsLack (why_not_followed M ss (in_value u)) → ⊥) → ⊥
    by None q e rec = set_unlike astray v h no_astray e
    by (Some u) q e rec = rec u (part_set v (Step.Field i) u h q) e
steps_lack_none M (Step.Variant i ∷ ss) v b h e = by (part v (Step.Variant i)) refl e (λ u g q. steps_lack_none M ss u b g q)
  where
    by : (o : Option Value) → part v (Step.Variant i) ≡ o → IsLack (where_some (and_then o (λ u. Some (in_value u))) (unlike astray v) (λ to. why_not_followed M ss to)) → ((u : Value) → is_set u ≡ true → IsLack (why_not_followed M ss (in_value u)) → ⊥) → ⊥
    by None q e rec = set_unlike astray v h no_astray e
    by (Some u) q e rec = rec u (part_set v (Step.Variant i) u h q) e
steps_lack_none M (Step.Deref i ∷ ss) v b h e = absurd (true≢false b)

whole_held : (t : Temporary) (ss : List Step) (v : Value) (s : State) → is_behind ss ≡ false → is_set v ≡ true → Whole (record { root = temporary t; steps = ss }) (v ∷ []) s
whole_held t ss v s b h = (λ e g. steps_lack_none s.memory ss v b h g, λ f e. there (follow s.memory ss (in_value v)) refl f e)
  where
    there : (o : Option Spot) → follow s.memory ss (in_value v) ≡ o → (f : Spot × Value) → and_then o (λ at. standing s.memory at) ≡ Some f → is_set f.1 ≡ true
    there None q f e = cc
    there (Some at) q f e = let r = whole_steps s.memory ss v b h at q in at_value r.0 r.2 (subst (λ z. standing s.memory z ≡ Some f) (sym r.1) e)
      where
        at_value : (u : Value) → is_set u ≡ true → paired (in_value u) (Some u) ≡ Some f → is_set f.1 ≡ true
        at_value u g e = subst (λ z. is_set z.1 ≡ true) (some_is e) g

-- of a temporary that holds nothing
whole_empty : (t : Temporary) (ss : List Step) (s : State) → Whole (record { root = temporary t; steps = ss }) [] s
whole_empty t ss s = (λ e g. no_astray g, λ f e. cc)

-- ---- what an action does there

abbrev pub NoLack : Done ℕ → Type 0
NoLack (gives w v s) = Unit {0}
NoLack (results.ends w e) = e ≡ wrong ending.lacks → ⊥

wrong_is : {c d : Cause} → wrong c ≡ wrong d → c ≡ d
wrong_is e = cc

no_mark : (a : Act) (r : Done ℕ) → NoLack r → NoLack (then_marks a r)
no_mark a (gives w v s) h = tt
no_mark a (results.ends w e) h = h

or_no : {A : Type 0} (c : Cause) (o : Option A) (go : A → Done ℕ) → (o ≡ None → IsLack c → ⊥) → ((x : A) → o ≡ Some x → NoLack (go x)) → NoLack (or_ends c o go)
or_no c None go h k = λ e. h refl (wrong_is e)
or_no c (Some x) go h k = k x refl

whole_not_lacking : (p : Place) (vs : List Value) (s : State) → Whole p vs s → lacks_there (found p vs s) ≡ false
whole_not_lacking p vs s h = by (found p vs s) (h.1)
  where
    by : (o : Option (Spot × Value)) → ((f : Spot × Value) → o ≡ Some f → is_set f.1 ≡ true) → lacks_there o ≡ false
    by None k = refl
    by (Some f) k = rw (k f refl) refl

not_lack : (c : Cause) → (IsLack c → ⊥) → is_lack c ≡ false
not_lack ending.lacks g = absurd (g refl)
not_lack c g = refl

way_not_lacking : (p : Place) (vs : List Value) (s : State) → Whole p vs s → lacks_on_the_way (why_not_found p vs s) (found p vs s) ≡ false
way_not_lacking p vs s h = by (found p vs s) h.0 h.1
  where
    by : (o : Option (Spot × Value)) → (o ≡ None → IsLack (why_not_found p vs s) → ⊥) → ((f : Spot × Value) → o ≡ Some f → is_set f.1 ≡ true) → lacks_on_the_way (why_not_found p vs s) o ≡ false
    by None g k = not_lack (why_not_found p vs s) (g refl)
    by (Some f) g k = rw (k f refl) refl

unless_looks : (a : Act) (vs : List Value) (s : State) → looks_at_lack a vs s ≡ false → NoLack (does_plainly a vs s) → NoLack (does_strictly a vs s)
unless_looks a vs s e h = by (looks_at_lack a vs s) e
  where
    by : (b : Bool) → b ≡ false → NoLack (if b then results.ends [] (wrong ending.lacks) else then_marks a (does_plainly a vs s))
    by true e = absurd (true≢false e)
    by false e = no_mark a (does_plainly a vs s) h

read_whole : (m : Bool) (p : Place) (d : Temporary) (vs : List Value) (s : State) → Whole p vs s → NoLack (does_strictly (Read m p d) vs s)
read_whole m p d vs s h = unless_looks (Read m p d) vs s (whole_not_lacking p vs s h) (or_no (why_not_found p vs s) (found p vs s) _ h.0 (λ f e. or_no ending.lacks (whole_value f) _ (λ n g. is_there f (h.1 f e) n) (λ v q. tt)))
  where
    is_there : (f : Spot × Value) → is_set f.1 ≡ true → whole_value f ≡ None → ⊥
    is_there f g n = by (is_set f.1) g n
      where
        by : (b : Bool) → b ≡ true → (if b then Some f.1 else None) ≡ None → ⊥
        by true g n = cc
        by false g n = true≢false (sym g)

borrow_whole : (m : Bool) (p : Place) (d : Temporary) (vs : List Value) (s : State) → Whole p vs s → NoLack (does_strictly (Borrow m p d) vs s)
borrow_whole m p d vs s h = unless_looks (Borrow m p d) vs s (way_not_lacking p vs s h)
    (or_no (why_not_found p vs s) (spot p vs s) _ (λ e. h.0 (ap (λ o. and_then o (λ at. standing s.memory at)) e)) (λ at e. or_no astray (reference_to m at) _ (λ n g. no_astray g) (λ v q. tt)))

test_whole : (p : Place) (c : _) (vs : List Value) (s : State) → Whole p vs s → NoLack (does_strictly (Test p c) vs s)
test_whole p c vs s h = unless_looks (Test p c) vs s (whole_not_lacking p vs s h) (or_no (why_not_found p vs s) (found p vs s) _ h.0 (λ f e. or_no (why_not_checked f.1) (checked c f.1) _ (λ n g. set_unlike mistyped f.1 (h.1 f e) no_mistyped g) (λ v q. tt)))

-- a part of a variable is written, where nothing lacks above it
write_spot : (p : Place) (t : Temporary) (ss : List Step) (u : Value) (s : State) → is_behind p.steps ≡ false
    → ((x j : ℕ) (v : Value) → p.root ≡ variable x → slot_of s.frame.slots x ≡ Some j → element s.memory j ≡ Some v → blocked p.steps v ≡ true → ⊥)
    → NoLack (or_ends (why_not_found p [] s) (spot p [] s) (λ at. or_ends (why_not_written s.memory at) (after_write u s.memory at) (λ M. gives [] unit_value (with_memory s M))))
write_spot p t ss u s b clear = or_no (why_not_found p [] s) (spot p [] s) _ (λ e g. nowhere p.root e g) (λ at e. or_no (why_not_written s.memory at) (after_write u s.memory at) _ (λ n g. let q = spot_plain s.memory s.frame p.root p.steps at b e in
    at_slot q.0 q.1 q.2 q.3 (subst (λ z. after_write u s.memory z ≡ None) (sym q.4) n) (subst (λ z. IsLack (why_not_written s.memory z)) (sym q.4) g)) (λ M q. tt))
  where
    nowhere : (r : Root) → and_then (start r [] s.frame) (λ at. follow s.memory p.steps at) ≡ None → IsLack (where_some (start r [] s.frame) astray (λ at. why_not_followed s.memory p.steps at)) → ⊥
    nowhere (temporary t) e g = no_astray g
    nowhere (variable x) e g = by (slot_of s.frame.slots x) e g
      where
        by : (o : Option ℕ) → and_then (and_then o (λ i. Some (in_slot i [] true))) (λ at. follow s.memory p.steps at) ≡ None → IsLack (where_some (and_then o (λ i. Some (in_slot i [] true))) astray (λ at. why_not_followed s.memory p.steps at)) → ⊥
        by None e g = no_astray g
        by (Some i) e g = never (sym (follow_plain s.memory p.steps [] i true b) ∙ e)
          where
            never : {x : Spot} → Some x ≡ None → ⊥
            never q = cc

    at_slot : (x j : ℕ) → p.root ≡ variable x → slot_of s.frame.slots x ≡ Some j → after_write u s.memory (in_slot j p.steps true) ≡ None → IsLack (why_no_content s.memory (in_slot j p.steps true)) → ⊥
    at_slot x j r a n g = in_cell (element s.memory j) refl n g
      where
        at_value : (v : Value) → element s.memory j ≡ Some v → (o : Option Value) → put p.steps u v ≡ o → and_then o (λ y. Some (with_element s.memory j y)) ≡ None → IsLack (why_no_part p.steps v) → ⊥
        at_value v q None f n g = clear x j v r a q (put_blocked p.steps u v f g)
        at_value v q (Some y) f n g = cc

        in_cell : (o : Option Value) → element s.memory j ≡ o → and_then o (λ v. and_then (put p.steps u v) (λ y. Some (with_element s.memory j y))) ≡ None → IsLack (where_some o astray (λ v. why_no_part p.steps v)) → ⊥
        in_cell None q n g = no_astray g
        in_cell (Some v) q n g = at_value v q (put p.steps u v) refl n g

write_whole : (p : Place) (t : Temporary) (ss : List Step) (v : Value) (s : State) → is_set v ≡ true → is_behind p.steps ≡ false
    → ((x j : ℕ) (u : Value) → p.root ≡ variable x → slot_of s.frame.slots x ≡ Some j → element s.memory j ≡ Some u → blocked p.steps u ≡ true → ⊥) → NoLack (does_strictly (Write p t ss) (v ∷ []) s)
write_whole p t ss v s h b clear = unless_looks (Write p t ss) (v ∷ []) s (rw b refl) (or_no (why_no_part ss v) (get ss v) _ (λ e g. set_lacks_none ss v h (why_lacks ss v g)) (λ u e. write_spot p t ss u s b clear))

computed_no : (c : Computed) (s : State) → NoLack (computed c s)
computed_no (operators.gives v) s = tt
computed_no (operators.traps t) s = λ e. cc
computed_no operators.senseless s = λ e. cc

input_no : (zs : List _) (s : State) → NoLack (next_input zs s)
input_no [] s = tt
input_no (z ∷ zs) s = tt

-- ---- on a walk

entering : (qs ss : List Step) (r : Step) (rs : List Step) → ss ≡ qs ++ r ∷ rs → is_behind qs ≡ false → holds_in qs ss ≡ true
entering qs ss r rs e b = subst (λ z. holds_in qs z ≡ true) (sym e) (rw (front_of qs (r ∷ rs)) (rw (no_front qs r rs) (rw b refl)))

module _ (F : Frame) (parts : Parted F) (k : World) (w : List Action) (s : State) (K : Pending) (i : Marked F k w s K) where
  -- what is set on the walk has a value
  set_is_there : (x : ℕ) (ss : List Step) → AllSet F w (placed x ss) → HasPart F x ss → (j : ℕ) (v : Value) → slot_of s.frame.slots x ≡ Some j → element s.memory j ≡ Some v → lacks ss v ≡ true → ⊥
  set_is_there x ss h p j v a e l = by (lacks_where ss v l).3
    where
      r : (qs : List Step) × (m : Lack) × (get qs v ≡ Some (lacking m)) × Near qs ss
      r = lacks_where ss v l

      gone : Lost F w x r.0
      gone = i.lost x j v r.0 r.1 a e r.2

      by : Near r.0 ss → ⊥
      by (below rs q) = let n = gone.has in let z = parts.within x ss rs n.0 (subst (λ o. is_part F (placed x o) n.0 ≡ true) q n.1) in
          true≢false (sym (h n.0 z) ∙ gone.unset n.0 n.1)
      by (above rs q) = let z = parts.within x r.0 rs p.0 (subst (λ o. is_part F (placed x o) p.0 ≡ true) q p.1) in
          true≢false (sym (h p.0 p.1) ∙ gone.unset p.0 z)

  -- and what is there as a whole is not below a lack
  whole_is_clear : (p : Place) → ((x : ℕ) (qs : List Step) → wholes.is_variable p.root x && holds_in qs p.steps ≡ true → stands w x qs ≡ true)
      → (x j : ℕ) (v : Value) → p.root ≡ variable x → slot_of s.frame.slots x ≡ Some j → element s.memory j ≡ Some v → blocked p.steps v ≡ true → ⊥
  whole_is_clear p h x j v r a e l = let q = blocked_where p.steps v l in let gone = i.lost x j v q.0 q.3 a e q.4 in
      true≢false (sym (h x q.0 (subst (λ z. wholes.is_variable z x && holds_in q.0 p.steps ≡ true) (sym r) (rw ((Decides-eqb x x).1 refl) (entering q.0 p.steps q.1 q.2 q.5 (way_is_plain q.0 v (lacking q.3) q.4))))) ∙ gone.gone)

  whole_place : (p : Place) → is_behind p.steps ≡ false → AllSet F w p → ((x : ℕ) → p.root ≡ variable x → HasPart F x p.steps) → Whole p [] s
  whole_place p b h has = by p.root refl
    where
      by : (r : Root) → p.root ≡ r → Whole (record { root = r; steps = p.steps }) [] s
      by (temporary t) e = whole_empty t p.steps s
      by (variable x) e = whole_variable x p.steps [] s b (λ j v a q l. set_is_there x p.steps (subst (λ z. AllSet F w (record { root = z; steps = p.steps })) e h) (has x e) j v a q l)

module _ (F : Frame) (parts : Parted F) (k : World) (f : _) (ready : Ready F f) where
  place_has : (w : List Action) (n : ℕ) (a : Act) (p : Place) → IsWalk f (w ++ does n a ∷ []) → looked_at a ≡ Some p → is_behind p.steps ≡ false → (x : ℕ) → p.root ≡ variable x → HasPart F x p.steps
  place_has w n a p is e b x r = ready.places w (does n a) x p.steps is (e ∙ ap (λ z. Some (record { root = z; steps = p.steps })) r) b

  pub direct_lacks_not : (muts : _) (w : List Action) (n : ℕ) (a : Act) (vs : List Value) (s : State) (K : Pending) (K1 : Value → Pending) → Does (IsRightOf f) a vs K K1 → IsWalk f (w ++ does n a ∷ []) → InOrder F muts w (does n a) → Marked F k w s K
      → goes_behind a ≡ false → NoLack (does_strictly a vs s)
  direct_lacks_not muts w n _ _ s K _ (using.declares {x = x}) is o i b = tt
  direct_lacks_not muts w n _ _ s K _ (using.dies {x = x}) is o i b = tt
  direct_lacks_not muts w n _ _ s K _ (using.reads {m = m} {p = p} {d = d} u) is o i b = read_whole m p d [] s (whole_place F parts k w s K i p b (o.looks p refl) (place_has w n (Read m p d) p is refl b))
  direct_lacks_not muts w n _ _ s K _ (using.borrows {m = m} {p = p} {d = d} u) is o i b = borrow_whole m p d [] s (whole_place F parts k w s K i p b (o.looks p refl) (place_has w n (Borrow m p d) p is refl b))
  direct_lacks_not muts w n _ _ s _ _ (using.borrows_held {m = m} {t = t} {d = d} {ss = ss} {v = v} {K = K} u) is o i b = borrow_whole m (record { root = temporary t; steps = ss }) d (v ∷ []) s (whole_held t ss v s b i.here.0)
  direct_lacks_not muts w n _ _ s K _ (using.tests {p = p} {c = c}) is o i b = test_whole p c [] s (whole_place F parts k w s K i p b (o.looks p refl) (place_has w n (Test p c) p is refl b))
  direct_lacks_not muts w n _ _ s _ _ (using.tests_held {t = t} {ss = ss} {c = c} {v = v} {K = K}) is o i b = test_whole (record { root = temporary t; steps = ss }) c (v ∷ []) s (whole_held t ss v s b i.here.0)
  direct_lacks_not muts w n _ _ s _ _ (using.writes {p = p} {t = t} {v = v} {K = K}) is o i b = write_whole p t [] v s i.here.0 b (whole_is_clear F parts k w s (holds t v K) i p (λ x qs e. o.enters x qs e))
  direct_lacks_not muts w n _ _ s _ _ (using.writes_part {x = x} {t = t} {ss = ss} {v = v} {K = K}) is o i b = write_whole (own x) t ss v s i.here.0 b (whole_is_clear F parts k w s (holds t v K) i (own x) (λ y qs e. o.enters y qs e))
  direct_lacks_not muts w n _ _ s _ _ (using.builds {w = m} {js = js} {ts = ts} {vs = vs} {d = d} K pr lz u) is o i b = unless_looks (Build m js ts d) vs s refl (computed_no (make m js vs) s)
  direct_lacks_not muts w n _ _ s _ _ (using.joins {t = t} {u = u} {x = x} {v = v} {d = d} {K = K} am un) is o i b = tt
  direct_lacks_not muts w n _ _ s K _ (using.inputs {d = d} u) is o i b = unless_looks (Input d) [] s refl (input_no s.input s)
  direct_lacks_not muts w n _ _ s _ _ (using.prints {t = t} {v = v} {K = K}) is o i b = unless_looks (Print t) (v ∷ []) s refl (or_no (why_not_checked v) (shown v) _ (λ e g. set_unlike mistyped v i.here.0 no_mistyped g) (λ x e. tt))
  direct_lacks_not muts w n _ _ s _ _ (using.gives_up {t = t} {v = v} {K = K}) is o i b = tt
  direct_lacks_not muts w n _ _ s _ _ (using.calls {f = g} {ts = ts} {vs = vs} {d = d} K pr u) is o i b = tt
