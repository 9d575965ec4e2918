-- What is carried from a valid assignment is valid.
use Rattle.std.proofs.Common.{◌≡◌, ℕ, sym, ap, ◌∙◌, inl, inr, ◌⊎◌, ⊎_elim}
use Rattle.rx_core.specs.declared.types.Kind.{Kind}
use Rattle.rx_typed.specs.Types.{integer, peeled}
use Rattle.rx_typeck_solver.specs.declared.facts.Subject.TheVariants as subject
use Rattle.rx_typeck_solver.specs.Facts.{Assignment, KnownItems}
use Rattle.rx_typeck_solver.specs.Valid.{Task, Typed, HasKind, IsIn, Open, PrefersI32, Agree, Valid}
use Rattle.rx_typeck_solver.specs.Ordered.{Orderly}
use Rattle.rx_engine_blocks.specs.Carried.{Accepted, Near, Carried, Whole}
use Rattle.rx_engine_blocks.proofs.Combining.{asks_met, kind_same, Joined, joined}

module _ (D D' : KnownItems) (task task' : Task) (A A' : Assignment) (o : Orderly task') (v : Valid D task A) (c : Carried D D' task task' A A') where
  kind : (B : Assignment) → Typed D' task' B → (n : ℕ) → IsIn n task'.literals → (k : Kind) × HasKind D' task' B n k
  kind B t n i = asks_met D' B n task'.demands (o.literals n i) t

  -- a literal has the kind that the text gives it, or another one
  same_or : (B : Assignment) → Typed D' task' B → (n : ℕ) → IsIn n task'.literals → (peeled (A' (subject.Node n)) ≡ peeled (B (subject.Node n))) ⊎ (peeled (A' (subject.Node n)) ≡ peeled (B (subject.Node n)) → ⊥)
  same_or B t n i =
      let k = kind A' c.typed n i in
      let l = kind B t n i in
      ⊎_elim (λ e. inl (k.1 ∙ ap integer e ∙ sym l.1)) (λ d. inr (λ e. let f : integer k.0 ≡ integer l.0 = sym k.1 ∙ e ∙ l.1 in d (cc))) (kind_same k.0 l.0)

  -- ---- what is open here is open in the text, or has i32

  abbrev first : (B : Assignment) → Typed D' task' B → Joined D' task' o A' B
  first B t = joined D' task' o A' B c.typed t

  near : (B : Assignment) (t : Typed D' task' B) → Near D D' task task' A A' (first B t).join
  near B t n i h = (first B t).first n i h

  prefers : (n : ℕ) → Open D' task' n → HasKind D' task' A' n Kind.I32
  prefers n w =
      let j = first w.one w.typed_one in
      let k = first w.other w.typed_other in
      let m = c.literal n w.literal in
      let in_text : Open D task m.0 → HasKind D' task' A' n Kind.I32 = λ p. sym m.2.0 ∙ v.prefers.prefers m.0 p in
      ⊎_elim (λ h. h)
      (λ e. ⊎_elim (λ h. h)
      (λ f. in_text (record {
        literal = m.1;
        one = c.back j.join j.typed (near w.one w.typed_one);
        other = c.back k.join k.typed (near w.other w.typed_other);
        typed_one = c.back_typed j.join j.typed (near w.one w.typed_one);
        typed_other = c.back_typed k.join k.typed (near w.other w.typed_other);
        differ = λ q. w.differ (sym e ∙ sym (m.2.1 j.join j.typed (near w.one w.typed_one)) ∙ q ∙ m.2.1 k.join k.typed (near w.other w.typed_other) ∙ f);
      }))
      (k.second n w.literal))
      (j.second n w.literal)

  -- ---- where the task is accepted, its valid assignment is this one

  carried_prefers : PrefersI32 D' task' A'
  carried_prefers = record { typed = c.typed; prefers = prefers }

  pub accepted_valid : Accepted D' task' → Valid D' task' A'
  accepted_valid w = record {
    prefers = carried_prefers;
    only_one = λ B p x t. sym (w.1.only_one A' carried_prefers x t) ∙ w.1.only_one B p x t;
  }

  -- ---- and no other assignment is like that

  module _ (h : Whole D D' task task' A A' c) (B : Assignment) (p : PrefersI32 D' task' B) where
    -- an open literal has i32 in both
    literal_is : (n : ℕ) → IsIn n task'.literals → (peeled (A' (subject.Node n)) ≡ peeled (B (subject.Node n))) ⊎ HasKind D' task' B n Kind.I32
    literal_is n i = ⊎_elim (λ e. inl e)
        (λ d. inr (p.prefers n (record { literal = i; one = A'; other = B; typed_one = c.typed; typed_other = p.typed; differ = d })))
        (same_or B p.typed n i)

    is_near : Near D D' task task' A A' B
    is_near n i w = ⊎_elim (λ e. sym e ∙ w) (λ k. k) (literal_is n i)

    back_prefers : PrefersI32 D task (c.back B p.typed is_near)
    back_prefers = record {
      typed = c.back_typed B p.typed is_near;
      prefers = λ m w. ⊎_elim
          (λ q. ⊎_elim (λ e. q.2.1 B p.typed is_near ∙ sym e ∙ sym q.2.0 ∙ v.prefers.prefers m w) (λ k. q.2.1 B p.typed is_near ∙ k) (literal_is q.0 q.1))
          (λ q. q B p.typed is_near ∙ v.prefers.prefers m w)
          (h.other m w.literal);
    }

    only_this : Agree D' task' A' B
    only_this = h.agree B p.typed is_near (v.only_one (c.back B p.typed is_near) back_prefers)

  pub whole_valid : Whole D D' task task' A A' c → Valid D' task' A'
  whole_valid h = record { prefers = carried_prefers; only_one = λ B p. only_this h B p }
