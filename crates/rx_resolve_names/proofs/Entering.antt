-- The table of variables keeps what the scope says: one more entry at the end is one more variable in front.
use Rattle.std.proofs.Common.{◌≡◌, ℕ, ◌+◌, Bool, true, false, cond, List, [], ◌∷◌, ◌++◌, length, Option, Some, None, refl, sym, ap, ◌∙◌, subst, true≢false, arith, is_none}
use Rattle.std.specs.Str.{bytes_eq}
use Rattle.std.specs.Cmp.Lexicographic.{bytes_decides}
use Rattle.std.specs.Map.{lookup}
use Rattle.indexmap.specs.IndexMap.{insert_entry}
use Rattle.rx_resolve_names.specs.declared.scope.Entered.{Entered}
use Rattle.rx_resolve_names.specs.Scopes.{Variables, variable_named}
use Rattle.rx_resolve_names.specs.Tables.{variable_of, variables_of, joined, Hide, Stands}

pub variables_push : (vs : Variables) (es : List Entered) (e : Entered) → variables_of vs (es ++ e ∷ []) ≡ variable_of e ∷ variables_of vs es
variables_push vs [] e = refl
variables_push vs (f ∷ es) e = variables_push (variable_of f ∷ vs) es e

hide_push : (vs : Variables) (es : List Entered) (e : Entered) → Hide vs es → e.hidden ≡ variable_named (variables_of vs es) e.name.now → Hide vs (es ++ e ∷ [])
hide_push vs [] e h is = (is, tt)
hide_push vs (f ∷ es) e h is = (h.0, hide_push (variable_of f ∷ vs) es e h.1 is)

hide_pop : (vs : Variables) (es : List Entered) (e : Entered) → Hide vs (es ++ e ∷ []) → Hide vs es × (e.hidden ≡ variable_named (variables_of vs es) e.name.now)
hide_pop vs [] e h = (tt, h.0)
hide_pop vs (f ∷ es) e h = let r = hide_pop (variable_of f ∷ vs) es e h.1 in ((h.0, r.0), r.1)

pub length_variables : (vs : Variables) (es : List Entered) → length (variables_of vs es) ≡ length es + length vs
length_variables vs [] = omega arith
length_variables vs (e ∷ es) = length_variables (variable_of e ∷ vs) es ∙ omega arith

module _ {R A : Type 0} (name : R → List ℕ) where
  abbrev twice : Bool → A → A → Option A → Type 0
  twice b v w l = cond b (Some v) l ≡ cond b (Some v) (cond b (Some w) l)

  said_twice : (b : Bool) (v w : A) (l : Option A) → twice b v w l
  said_twice true v w l = refl
  said_twice false v w l = refl

  apart : (b c : Bool) (v w : A) (l : Option A) → (b ≡ true → c ≡ true → ⊥) → cond b (Some w) (cond c (Some v) l) ≡ cond c (Some v) (cond b (Some w) l)
  apart true true v w l never = absurd (never refl refl)
  apart true false v w l never = refl
  apart false true v w l never = refl
  apart false false v w l never = refl

  -- what is found behind an insertion
  pub lookup_insert : (x : List ℕ) (es : List (R × A)) (k : R) (v : A) → lookup (λ r. bytes_eq x (name r)) (insert_entry (λ a b. bytes_eq (name a) (name b)) es k v) ≡ cond (bytes_eq x (name k)) (Some v) (lookup (λ r. bytes_eq x (name r)) es)
  lookup_insert x [] k v = refl
  lookup_insert x (e ∷ es) k v = by (bytes_eq (name k) (name e.0)) refl (lookup_insert x es k v)
    where
      by : (b : Bool) → bytes_eq (name k) (name e.0) ≡ b
          → lookup (λ r. bytes_eq x (name r)) (insert_entry (λ a b. bytes_eq (name a) (name b)) es k v) ≡ cond (bytes_eq x (name k)) (Some v) (lookup (λ r. bytes_eq x (name r)) es)
          → lookup (λ r. bytes_eq x (name r)) (cond b ((e.0, v) ∷ es) (e ∷ insert_entry (λ a b. bytes_eq (name a) (name b)) es k v)) ≡ cond (bytes_eq x (name k)) (Some v) (cond (bytes_eq x (name e.0)) (Some e.1) (lookup (λ r. bytes_eq x (name r)) es))
      by true is rest = subst (λ n. cond (bytes_eq x n) (Some v) (lookup (λ r. bytes_eq x (name r)) es) ≡ cond (bytes_eq x (name k)) (Some v) (cond (bytes_eq x n) (Some e.1) (lookup (λ r. bytes_eq x (name r)) es)))
          ((bytes_decides (name k) (name e.0)).0 is) (said_twice (bytes_eq x (name k)) v e.1 (lookup (λ r. bytes_eq x (name r)) es))
      by false is rest = ap (cond (bytes_eq x (name e.0)) (Some e.1)) rest ∙ apart (bytes_eq x (name e.0)) (bytes_eq x (name k)) v e.1 (lookup (λ r. bytes_eq x (name r)) es)
          (λ p q. true≢false (sym ((bytes_decides (name k) (name e.0)).1 (sym ((bytes_decides x (name k)).0 q) ∙ (bytes_decides x (name e.0)).0 p)) ∙ is))

joined_cond : {A : Type 0} (b : Bool) (o : Option A) (l : Option (Option A)) → joined (cond b (Some o) l) ≡ cond b o (joined l)
joined_cond true o l = refl
joined_cond false o l = refl

module _ {R : Type 0} (name : R → List ℕ) where
  -- a variable enters
  pub enters : (newest : List (R × Option ℕ)) (es : List Entered) (k : R) (e : Entered) → Stands name newest es → name k ≡ e.name.now
      → e.hidden ≡ variable_named (variables_of [] es) e.name.now
      → Stands name (insert_entry (λ a b. bytes_eq (name a) (name b)) newest k (Some e.number)) (es ++ e ∷ [])
  enters newest es k e s is hidden = record {
    found = λ x. ap joined (lookup_insert name x newest k (Some e.number)) ∙ joined_cond (bytes_eq x (name k)) (Some e.number) (lookup (λ r. bytes_eq x (name r)) newest)
        ∙ (λ i. cond (bytes_eq x (is i)) (Some e.number) (s.found x i)) ∙ ap (λ vs. variable_named vs x) (sym (variables_push [] es e));
    hide = hide_push [] es e s.hide hidden;
  }

  outer : (vs : Variables) (e : Entered) (x : List ℕ) (l : Option ℕ) → l ≡ variable_named (variable_of e ∷ vs) x → e.hidden ≡ variable_named vs e.name.now
      → cond (bytes_eq x e.name.now) e.hidden l ≡ variable_named vs x
  outer vs e x l is hidden = by (bytes_eq x e.name.now) refl is
    where
      by : (b : Bool) → bytes_eq x e.name.now ≡ b → l ≡ cond b (Some e.number) (variable_named vs x) → cond b e.hidden l ≡ variable_named vs x
      by true equal is = hidden ∙ ap (variable_named vs) (sym ((bytes_decides x e.name.now).0 equal))
      by false equal is = is

  -- the newest leaves
  pub leaves : (newest : List (R × Option ℕ)) (es : List Entered) (k : R) (e : Entered) → Stands name newest (es ++ e ∷ []) → name k ≡ e.name.now
      → Stands name (insert_entry (λ a b. bytes_eq (name a) (name b)) newest k e.hidden) es
  leaves newest es k e s is = let h = hide_pop [] es e s.hide in record {
    found = λ x. ap joined (lookup_insert name x newest k e.hidden) ∙ joined_cond (bytes_eq x (name k)) e.hidden (lookup (λ r. bytes_eq x (name r)) newest)
        ∙ ap (λ n. cond (bytes_eq x n) e.hidden (joined (lookup (λ r. bytes_eq x (name r)) newest))) is
        ∙ outer (variables_of [] es) e x _ (s.found x ∙ ap (λ vs. variable_named vs x) (variables_push [] es e)) h.1;
    hide = h.0;
  }

  -- the newest one's name is in the table
  pub newest_there : (newest : List (R × Option ℕ)) (es : List Entered) (e : Entered) → Stands name newest (es ++ e ∷ []) → lookup (λ r. bytes_eq e.name.now (name r)) newest ≡ None → ⊥
  newest_there newest es e s none = impossible (sym (ap joined none) ∙ s.found e.name.now ∙ ap (λ vs. variable_named vs e.name.now) (variables_push [] es e)
      ∙ ap (λ b. cond b (Some e.number) (variable_named (variables_of [] es) e.name.now)) ((bytes_decides e.name.now e.name.now).1 refl))
    where
      impossible : None ≡ Some e.number → ⊥
      impossible p = true≢false (ap is_none p)
