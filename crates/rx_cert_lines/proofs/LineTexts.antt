-- Lines and their bytes: a line's bytes tell it.
use Rattle.std.proofs.Common.{◌≡◌, ℕ, Bool, true, false, List, [], ◌∷◌, ◌++◌, refl, sym, ap, subst, ◌∙◌}
use Rattle.std.specs.Prelude.{codes, ◌==◌, ◌||◌}
use Rattle.std.proofs.lemmas.Bool.{false≢true, eqb-false}
use Rattle.rx_cert_lines.specs.declared.item.Item.{Item}
use Rattle.rx_cert_lines.specs.declared.line.Head.{Head}
use Rattle.rx_cert_lines.specs.declared.line.Head.TheVariants.{Function, Region, Loan, Text}
use Rattle.rx_cert_lines.specs.declared.line.Line.{Line}
use Rattle.rx_cert_lines.specs.Items.{items_text}
use Rattle.rx_cert_lines.specs.Lines.{is_form, is_empty, IsLine, NoLine, head_text, line_text}
use Rattle.rx_cert_lines.specs.Certificates.{Free}
use Rattle.rx_cert_lines.specs.Reading.{IsCut, AreItems, NoItems, NoHead}
use Rattle.rx_cert_lines.proofs.Marks.{two, free_append, split_same}
use Rattle.rx_cert_lines.proofs.ItemTexts.{items_ends, items_same, items_feedless}

-- ---- heads

-- whether a mark is among bytes
abbrev is_among : ℕ → List ℕ → Bool
is_among m [] = false
is_among m (c ∷ cs) = (c == m) || is_among m cs

free_by_test : (m : ℕ) (b : List ℕ) → is_among m b ≡ false → Free m b
free_by_test m [] e = tt
free_by_test m (c ∷ cs) e = go (c == m) refl e (free_by_test m cs) where
  go : (t : Bool) → (c == m) ≡ t → (t || is_among m cs) ≡ false → (is_among m cs ≡ false → Free m cs) → (c ≡ m → ⊥) × Free m cs
  go true p q r = absurd (false≢true (sym q))
  go false p q r = (eqb-false c m p, r q)

head_spaceless : (h : Head) → Free 32 (head_text h)
head_spaceless Function = free_by_test 32 (codes "function") refl
head_spaceless Region = free_by_test 32 (codes "r") refl
head_spaceless Loan = free_by_test 32 (codes "l") refl
head_spaceless Text = free_by_test 32 (codes "text") refl

head_feedless : (h : Head) → Free 10 (head_text h)
head_feedless Function = free_by_test 10 (codes "function") refl
head_feedless Region = free_by_test 10 (codes "r") refl
head_feedless Loan = free_by_test 10 (codes "l") refl
head_feedless Text = free_by_test 10 (codes "text") refl

-- a head's bytes differ from another's in the first
abbrev first : List ℕ → ℕ
first [] = 0
first (c ∷ cs) = c

by_first : (a b : List ℕ) → (first a == first b) ≡ false → a ≡ b → ⊥
by_first a b d e = eqb-false (first a) (first b) d (ap first e)

head_same : (h k : Head) → head_text h ≡ head_text k → h ≡ k
head_same Function Function e = refl
head_same Function Region e = absurd (by_first (codes "function") (codes "r") refl e)
head_same Function Loan e = absurd (by_first (codes "function") (codes "l") refl e)
head_same Function Text e = absurd (by_first (codes "function") (codes "text") refl e)
head_same Region Function e = absurd (by_first (codes "r") (codes "function") refl e)
head_same Region Region e = refl
head_same Region Loan e = absurd (by_first (codes "r") (codes "l") refl e)
head_same Region Text e = absurd (by_first (codes "r") (codes "text") refl e)
head_same Loan Function e = absurd (by_first (codes "l") (codes "function") refl e)
head_same Loan Region e = absurd (by_first (codes "l") (codes "r") refl e)
head_same Loan Loan e = refl
head_same Loan Text e = absurd (by_first (codes "l") (codes "text") refl e)
head_same Text Function e = absurd (by_first (codes "text") (codes "function") refl e)
head_same Text Region e = absurd (by_first (codes "text") (codes "r") refl e)
head_same Text Loan e = absurd (by_first (codes "text") (codes "l") refl e)
head_same Text Text e = refl

-- ---- lines

-- bytes are cut where a line's head ends
module _ (bytes front rest : List ℕ) (c : IsCut 32 bytes front rest) where
  at_head : (l : Line) → line_text l ≡ bytes → (head_text l.head ≡ front) × (items_text l.items ≡ rest)
  at_head l e = split_same 32 (head_text l.head) (items_text l.items) front rest (head_spaceless l.head) c.free (items_ends l.items) c.ends (e ∙ sym c.whole)

  pub no_line_by_head : NoHead front → NoLine bytes
  no_line_by_head never l h e = never l.head (at_head l e).0

  pub no_line_by_items : NoItems rest → NoLine bytes
  no_line_by_items never l h e = never l.items (record { fit = h.fit; text = (at_head l e).1 })

  pub no_line_by_form : (h : Head) (is : List Item) → head_text h ≡ front → AreItems is rest → is_form h is ≡ false → NoLine bytes
  no_line_by_form h is a b never l k e =
      let t = at_head l e in
      let p : l.head ≡ h = head_same l.head h (t.0 ∙ sym a) in
      let q : l.items ≡ is = items_same l.items is k.fit b.fit (t.1 ∙ sym b.text) in
      false≢true (sym never ∙ sym (two is_form p q) ∙ k.form)

  pub line_is_read : (h : Head) (is : List Item) → head_text h ≡ front → AreItems is rest → is_form h is ≡ true
      → IsLine (record { head = h; items = is }) × (line_text (record { head = h; items = is }) ≡ bytes)
  line_is_read h is a b f = (record { form = f; fit = b.fit }, two (λ x y. x ++ y) a b.text ∙ c.whole)

abbrev made : Head → List Item → Line
made h is = record { head = h; items = is }

pub line_same : (l m : Line) → IsLine l → IsLine m → line_text l ≡ line_text m → l ≡ m
line_same l m h k e =
    let c = split_same 32 (head_text l.head) (items_text l.items) (head_text m.head) (items_text m.items) (head_spaceless l.head) (head_spaceless m.head)
    (items_ends l.items) (items_ends m.items) e in
    two made (head_same l.head m.head c.0) (items_same l.items m.items h.fit k.fit c.1)

pub line_feedless : (l : Line) → IsLine l → Free 10 (line_text l)
line_feedless l h = free_append 10 (head_text l.head) (items_text l.items) (head_feedless l.head) (items_feedless l.items h.fit)

-- ---- the line `text`

abbrev pub text_line : Line
text_line = record { head = Text; items = [] }

pub text_is_line : IsLine text_line
text_is_line = record { form = refl; fit = tt }

pub text_line_text : (l : Line) → IsLine l → l.head ≡ Text → line_text l ≡ codes "text"
text_line_text l h e = two (λ x y. head_text x ++ items_text y) e (empty l.items (subst (λ x. is_form x l.items ≡ true) e h.form)) where
  empty : (is : List Item) → is_empty is ≡ true → is ≡ []
  empty [] e = refl
  empty (i ∷ is) e = absurd (false≢true e)
