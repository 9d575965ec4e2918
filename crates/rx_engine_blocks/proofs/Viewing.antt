-- A type that is seen as the text's is, or as a shared reference where the text's is mutable, gives back one of the text.
use Rattle.std.proofs.Common.{◌≡◌, Bool, true, false, refl, sym, ap, ◌∙◌}
use Rattle.rx_typed.specs.Types.{integer, boolean, tuple_of, reference, named, Typ, outline, peeled}
use Rattle.rx_typeck_solver.specs.Facts.{KnownItems}
use Rattle.rx_engine_blocks.specs.Renumbering.{Renumbering, shape_at}
use Rattle.rx_engine_blocks.specs.Knows.{Knows}
use Rattle.rx_engine_blocks.specs.Along.{shared}
use Rattle.rx_engine_blocks.proofs.Meets.{outline_at, undo, undone}
use Rattle.rx_engine_blocks.proofs.Normal.{redone_from}

abbrev pub led_to : Typ → Typ
led_to (reference m t) = t
led_to t = t

pub reference_so : (t u : Typ) (m : Bool) → outline t ≡ outline (reference m u) → (t ≡ reference m (led_to t)) × (outline (led_to t) ≡ outline u)
reference_so (reference w t) u m e = let f : w ≡ m = cc in let g : outline t ≡ outline u = cc in (ap (λ b. reference b t) f, g)
reference_so _ u m e = absurd (cc)

pub peeled_shared : (b : Bool) (t : Typ) → peeled (shared b t) ≡ peeled t
peeled_shared true (reference m t) = refl
peeled_shared true (integer k) = refl
peeled_shared true boolean = refl
peeled_shared true (tuple_of ts) = refl
peeled_shared true (named i) = refl
peeled_shared false t = refl

abbrev unshared : Bool → Typ → Typ
unshared true (reference m t) = reference true t
unshared _ t = t

-- a mutable reference, where this is asked
abbrev pub IsMutable : Bool → Typ → Type 0
IsMutable b a = b ≡ true → (t : Typ) × (a ≡ reference true t)

module _ (r : Renumbering) (D D' : KnownItems) (known : Knows r D D') where
  abbrev U : Typ → Typ
  U q = shape_at (undo r D D' known) q

  abbrev pub text_of : Bool → Typ → Typ
  text_of b q = unshared b (U q)

  outline_back : (q a : Typ) → outline q ≡ outline (shape_at r a) → outline a ≡ outline (U q)
  outline_back q a e = sym (outline_at (undo r D D' known) q ∙ ap (shape_at (undo r D D' known)) (e ∙ outline_at r a) ∙ undone r D D' known (outline a))

  -- of a reference to a type of the text
  viewed_again : (q t : Typ) → outline q ≡ outline (reference false (shape_at r t)) → q ≡ shared true (shape_at r (text_of true q))
  viewed_again q t e =
      let w = reference_so q (shape_at r t) false e in
      w.0 ∙ ap (reference false) (sym (redone_from r D D' known (led_to q) t w.1)) ∙ ap (λ p. shared true (shape_at r (text_of true p))) (sym w.0)

  viewed_outline : (q t : Typ) → outline q ≡ outline (reference false (shape_at r t)) → outline (reference true t) ≡ outline (text_of true q)
  viewed_outline q t e =
      let w = reference_so q (shape_at r t) false e in
      ap (reference true) (outline_back (led_to q) t w.1) ∙ ap (λ p. outline (text_of true p)) (sym w.0)

  pub seen_again : (b : Bool) (q a : Typ) → IsMutable b a → outline q ≡ outline (shared b (shape_at r a)) → q ≡ shared b (shape_at r (text_of b q))
  seen_again false q a h e = sym (redone_from r D D' known q a e)
  seen_again true q a h e = let m = h refl in viewed_again q m.0 (e ∙ ap (λ p. outline (shared true (shape_at r p))) m.1)

  pub seen_outline : (b : Bool) (q a : Typ) → IsMutable b a → outline q ≡ outline (shared b (shape_at r a)) → outline a ≡ outline (text_of b q)
  seen_outline false q a h e = outline_back q a e
  seen_outline true q a h e = let m = h refl in ap outline m.1 ∙ viewed_outline q m.0 (e ∙ ap (λ p. outline (shared true (shape_at r p))) m.1)

  pub seen_mutable : (b : Bool) (q a : Typ) → IsMutable b a → outline q ≡ outline (shared b (shape_at r a)) → IsMutable b (text_of b q)
  seen_mutable false q a h e i = absurd (cc)
  seen_mutable true q a h e i =
      let m = h refl in
      let w = reference_so q (shape_at r m.0) false (e ∙ ap (λ p. outline (shared true (shape_at r p))) m.1) in
      (U (led_to q), ap (text_of true) w.0)

  pub seen_settled : (b : Bool) (a : Typ) → IsMutable b a → text_of b (shared b (shape_at r a)) ≡ a
  seen_settled false a h = undone r D D' known a
  seen_settled true a h = let m = h refl in ap (λ p. text_of true (shared true (shape_at r p))) m.1 ∙ ap (reference true) (undone r D D' known m.0) ∙ sym m.1
