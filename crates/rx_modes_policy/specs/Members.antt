-- The first and the last of the modes that uses allow are among them: each row has a mode in both fields, or in neither.
use Rattle.std.proofs.Common.{◌≡◌, ◌⊎◌, inl, inr, Bool, true, false, if◌then◌else◌, List, [], ◌∷◌, Option, Some, None, refl, sym, ap, ◌∙◌, true≢false}
use Rattle.rx_modes_policy.specs.declared.uses.Mode.{Mode}
use Rattle.rx_modes_policy.specs.declared.uses.Mode.TheVariants as mode
use Rattle.rx_modes_policy.specs.declared.uses.Uses.{Uses}
use Rattle.rx_modes_policy.specs.declared.choices.ModeChoice.{ModeChoice}
use Rattle.rx_modes_policy.specs.Allowed.{IsMember, HasMember, first_of, last_of, or_shared, one, two, none, Row, row, first_row, table, allowed_by}

-- both fields have a mode, or neither has
abbrev Alike : ModeChoice → Type 0
Alike c = ((m : Mode) × (n : Mode) × (c.first ≡ Some m) × (c.last ≡ Some n)) ⊎ ((c.first ≡ None) × (c.last ≡ None))

abbrev AllAlike : List Row → Type 0
AllAlike [] = Unit {0}
AllAlike (r ∷ rs) = Alike r.modes × AllAlike rs

ones : (m : Mode) → Alike (one m)
ones m = inl (m, m, refl, refl)

twos : (m n : Mode) → Alike (two m n)
twos m n = inl (m, n, refl, refl)

nones : Alike none
nones = inr (refl, refl)

rows : (u : Uses) → AllAlike (table u)
rows u =
    (nones, (ones mode.Value, (nones, (ones mode.Mut, (ones mode.Reborrow, (twos mode.Reborrow mode.Mut, (ones mode.Mut, (ones mode.Mut, (ones mode.Value, (nones, (ones mode.Shared, (twos mode.View mode.Shared, (ones mode.Shared, (twos mode.Value mode.Shared, (ones mode.Shared, tt)))))))))))))))

picked : (b : Bool) (c d : ModeChoice) → Alike c → Alike d → Alike (if b then c else d)
picked true c d h k = h
picked false c d h k = k

row_alike : (rs : List Row) → AllAlike rs → Alike (first_row rs)
row_alike [] h = nones
row_alike (r ∷ rs) h = picked r.when r.modes (first_row rs) h.0 (row_alike rs h.1)

is_some : Option Mode → Bool
is_some (Some m) = true
is_some None = false

some_is_some : (o : Option Mode) (m : Mode) → o ≡ Some m → is_some o ≡ true
unfolding is_some
some_is_some o m e = ap is_some e

none_is_none : (o : Option Mode) → o ≡ None → is_some o ≡ false
unfolding is_some
none_is_none o e = ap is_some e

both : (o : Option Mode) (m : Mode) → o ≡ Some m → o ≡ None → ⊥
both o m e n = true≢false (sym (some_is_some o m e) ∙ none_is_none o n)

no_member : (c : ModeChoice) → c.first ≡ None → c.last ≡ None → HasMember c → ⊥
no_member c f l h = by h.1
  where
    by : IsMember h.0 c → ⊥
    by (inl e) = both c.first h.0 e f
    by (inr e) = both c.last h.0 e l

first_of_alike : (c : ModeChoice) → Alike c → HasMember c → IsMember (first_of c) c
first_of_alike c (inl s) h = inl (s.2 ∙ sym (ap (λ o. Some (or_shared o)) s.2))
first_of_alike c (inr n) h = absurd (no_member c n.0 n.1 h)

last_of_alike : (c : ModeChoice) → Alike c → HasMember c → IsMember (last_of c) c
last_of_alike c (inl s) h = inr (s.3 ∙ sym (ap (λ o. Some (or_shared o)) s.3))
last_of_alike c (inr n) h = absurd (no_member c n.0 n.1 h)

pub first_is_member : (u : Uses) → HasMember (allowed_by u) → IsMember (first_of (allowed_by u)) (allowed_by u)
first_is_member u h = first_of_alike (allowed_by u) (row_alike (table u) (rows u)) h

pub last_is_member : (u : Uses) → HasMember (allowed_by u) → IsMember (last_of (allowed_by u)) (allowed_by u)
last_is_member u h = last_of_alike (allowed_by u) (row_alike (table u) (rows u)) h
