-- Each action of either way keeps the types of values: a mark is a part without a value, which is of any type.
use Rattle.std.proofs.Common.{◌≡◌, ℕ, Bool, true, false, List, [], ◌∷◌, Option, Some, None, refl, subst, if◌then◌else◌}
use Rattle.rx_core.specs.declared.types.Step.{Step}
use Rattle.rx_typed.specs.Types.{Typ}
use Rattle.rx_typed.specs.Tree.{Root, variable, temporary}
use Rattle.rx_lower_walks.specs.Actions.{Act, Declare, Dead, Read, Write, Borrow, Test, Call, Build, Input, Print, Give, Action, does}
use Rattle.rx_meaning.specs.Endings.{wrong, lacks}
use Rattle.rx_meaning.specs.Values.{Lack, moved, ended, Value, lacking, and_then, put, slot_of, element, with_element, State}
use Rattle.rx_meaning.specs.Results as results
use Rattle.rx_meaning.specs.Results.{Done, gives}
use Rattle.rx_meaning.specs.Acting.{does_plainly, plainly}
use Rattle.rx_facts_tables.specs.Setting.{is_behind}
use Rattle.rx_meaning_keeping.specs.Pending.{Pending}
use Rattle.rx_meaning_keeping.specs.Using.{Does, Gives}
use Rattle.rx_meaning_keeping.specs.Keeping.{Kept}
use Rattle.rx_meaning_keeping.specs.Strict.{looks_at_lack, with_slot, marked_in, marked_slot, marked_at, marked, then_marks, does_strictly, strictly}
use Rattle.rx_meaning_typed.specs.TypedActs.{Typing, typ_along, root_typ, ActTyped}
use Rattle.rx_meaning_typed.specs.ValueTypes.{Store, HasType, of_lack, MemoryTyped}
use Rattle.rx_meaning_typed.specs.TypedStates.{TypedBehind, IsSensible}
use Rattle.rx_meaning_typed.proofs.Parts.{put_typed}
use Rattle.rx_meaning_typed.proofs.Stores.{all_element, all_with}
use Rattle.rx_meaning_typed.proofs.Acting.{plainly_typed}
use Rattle.rx_meaning_typed.proofs.Typing.{KeepsTypes}

pub plainly_keeps : KeepsTypes plainly
plainly_keeps L T k w n a vs s K K1 d g l m i = plainly_typed L T k w n a vs s K K1 d g l m i

module _ (L : Bool) (T : Typing) (k : Store) (w : List Action) (n : ℕ) where
  -- a slot with a mark in a part of its type
  marks_slot : (S : Store) (M : List Value) (i : ℕ) (t U : Typ) (ss : List Step) (l : Lack) → MemoryTyped L T.declared S M → element S i ≡ Some t → typ_along T.declared t ss ≡ Some U → MemoryTyped L T.declared S (marked_in M i ss l)
  marks_slot S M i t U ss l m e g = at (element M i) refl
    where
      put_in : (v : Value) → element M i ≡ Some v → (q : Option Value) → put ss (lacking l) v ≡ q → MemoryTyped L T.declared S (with_slot M i q)
      put_in v p None f = m
      put_in v p (Some x) f = all_with m i x t e (put_typed L T.declared S ss (lacking l) v t U x (all_element m i v t p e) g of_lack f)

      at : (o : Option Value) → element M i ≡ o → MemoryTyped L T.declared S (with_slot M i (and_then o (λ v. put ss (lacking l) v)))
      at None p = m
      at (Some v) p = put_in v p (put ss (lacking l) v) refl

  marks_variable : (x : ℕ) (U : Typ) (ss : List Step) (l : Lack) (s : State) (K : Pending) → typ_along T.declared (T.variables x) ss ≡ Some U → TypedBehind L T k w s K → TypedBehind L T k w (marked_slot (slot_of s.frame.slots x) ss l s) K
  marks_variable x U ss l s K g i = at (slot_of s.frame.slots x) refl
    where
      at : (o : Option ℕ) → slot_of s.frame.slots x ≡ o → TypedBehind L T k w (marked_slot o ss l s) K
      at None e = i
      at (Some j) e = (i.0, i.1, record { memory = marks_slot i.0 s.memory j (T.variables x) U ss l i.2.memory (i.2.variables x j e) g; variables = i.2.variables; pending = i.2.pending })

  marks_place : (r : Root) (U : Typ) (ss : List Step) (l : Lack) (s : State) (K : Pending) → typ_along T.declared (root_typ T r) ss ≡ Some U → TypedBehind L T k w s K → TypedBehind L T k w (marked_at r ss l s) K
  marks_place (temporary t) U ss l s K g i = i
  marks_place (variable x) U ss l s K g i = by (is_behind ss)
    where
      by : (b : Bool) → TypedBehind L T k w (if b then s else marked_slot (slot_of s.frame.slots x) ss l s) K
      by true = i
      by false = marks_variable x U ss l s K g i

  marks_typed : (a : Act) (s : State) (K : Pending) → ActTyped T a → TypedBehind L T k w s K → TypedBehind L T k w (marked a s) K
  marks_typed (Read true p d) s K g i = marks_place p.root (T.temporaries d) p.steps moved s K g i
  marks_typed (Read false p d) s K g i = i
  marks_typed (Dead x) s K g i = marks_variable x (T.variables x) [] ended s K refl i
  marks_typed (Declare x) s K g i = i
  marks_typed (Write p t ss) s K g i = i
  marks_typed (Borrow b p d) s K g i = i
  marks_typed (Test p c) s K g i = i
  marks_typed (Call f ts d) s K g i = i
  marks_typed (Build m js ts d) s K g i = i
  marks_typed (Input d) s K g i = i
  marks_typed (Print t) s K g i = i
  marks_typed (Give t) s K g i = i

  gives_marked : (a : Act) (s : State) (v : Value) (s1 : State) → Gives a s v s1 → Gives a s v (marked a s1)
  gives_marked (Test p c) s v s1 h = h
  gives_marked (Write p t ss) s v s1 h = h
  gives_marked (Print t) s v s1 h = h
  gives_marked (Read b p d) s v s1 h = tt
  gives_marked (Dead x) s v s1 h = tt
  gives_marked (Declare x) s v s1 h = tt
  gives_marked (Borrow b p d) s v s1 h = tt
  gives_marked (Call f ts d) s v s1 h = tt
  gives_marked (Build m js ts d) s v s1 h = tt
  gives_marked (Input d) s v s1 h = tt
  gives_marked (Give t) s v s1 h = tt

  then_typed : (a : Act) (s : State) (K1 : Value → Pending) (r : Done ℕ) → ActTyped T a → Kept (IsSensible L) (TypedBehind L T k) w (does n a) s K1 r → Kept (IsSensible L) (TypedBehind L T k) w (does n a) s K1 (then_marks a r)
  then_typed a s K1 (gives t v s1) g h = (gives_marked a s v s1 h.0, marks_typed a s1 (K1 v) g h.1)
  then_typed a s K1 (results.ends t e) g h = h

  unless_lacks : (a : Act) (s : State) (K1 : Value → Pending) (b : Bool) (r : Done ℕ) → Kept (IsSensible L) (TypedBehind L T k) w (does n a) s K1 r → Kept (IsSensible L) (TypedBehind L T k) w (does n a) s K1 (if b then results.ends [] (wrong lacks) else r)
  unless_lacks a s K1 true r h = tt
  unless_lacks a s K1 false r h = h

pub strictly_keeps : KeepsTypes strictly
strictly_keeps L T k w n a vs s K K1 d g l m i = unless_lacks L T k w n a s K1 (looks_at_lack a vs s) (then_marks a (does_plainly a vs s)) (then_typed L T k w n a s K1 (does_plainly a vs s) g (plainly_typed L T k w n a vs s K K1 d g l m i))
