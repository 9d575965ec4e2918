-- What the table of modes says: there is a mode or none, told by its two fields; and what is moved has the mode Value alone, by the truth
-- values that the first rows ask for.
use Rattle.std.proofs.Common.{◌≡◌, refl, sym, ◌∙◌, ap, ◌⊎◌, inl, inr, Bool, true, false, true≢false, not, ◌&&◌, if◌then◌else◌, Option, Some, None, ◌++◌, subst}
use Rattle.rx_modes_policy.specs.declared.uses.Mode.{Mode}
use Rattle.rx_modes_policy.specs.declared.uses.Mode.TheVariants as mode
use Rattle.rx_modes_policy.specs.declared.uses.Uses.{Uses}
use Rattle.rx_modes_policy.specs.declared.choices.ModeChoice.{ModeChoice}
use Rattle.rx_modes_policy.specs.Allowed.{IsMember, HasMember, allowed_by, or_shared, none, one, first_row, rows_written, rows_through, rows_read}

is_some : Option Mode → Bool
is_some (Some m) = true
is_some None = false

some_or_none : (o : Option Mode) → ((m : Mode) × (o ≡ Some m)) ⊎ (o ≡ None)
some_or_none None = inr refl
some_or_none (Some m) = inl (m, refl)

apart : (o : Option Mode) (m : Mode) → o ≡ Some m → o ≡ None → ⊥
unfolding is_some
apart o m e n = true≢false (sym (ap is_some e) ∙ ap is_some n)

member_or_none : (c : ModeChoice) → HasMember c ⊎ ¬ (HasMember c)
member_or_none c = by (some_or_none c.first) (some_or_none c.last)
  where
    by : ((m : Mode) × (c.first ≡ Some m)) ⊎ (c.first ≡ None) → ((m : Mode) × (c.last ≡ Some m)) ⊎ (c.last ≡ None) → HasMember c ⊎ ¬ (HasMember c)
    by (inl m) l = inl (m.0, inl m.1)
    by (inr f) (inl m) = inl (m.0, inr m.1)
    by (inr f) (inr l) = inr (λ h. not_any h.0 h.1)
      where
        not_any : (m : Mode) → IsMember m c → ⊥
        not_any m (inl e) = apart c.first m e f
        not_any m (inr e) = apart c.last m e l

pub has_member_or_none : (u : Uses) → HasMember (allowed_by u) ⊎ ¬ (HasMember (allowed_by u))
has_member_or_none u = member_or_none (allowed_by u)

-- ---- what is moved

-- what the table says of it: none, or Value
abbrev of_moved : Bool → Bool → Bool → ModeChoice → ModeChoice
of_moved m l d c = if m && l && not d then none else (if m then one mode.Value else c)

value_if_any : (m : Mode) (l d : Bool) (c : ModeChoice) → IsMember m (of_moved true l d c) → m ≡ mode.Value
value_if_any m true false c (inl e) = absurd (apart None m e refl)
value_if_any m true false c (inr e) = absurd (apart None m e refl)
value_if_any m true true c (inl e) = sym (ap or_shared e)
value_if_any m true true c (inr e) = sym (ap or_shared e)
value_if_any m false d c (inl e) = sym (ap or_shared e)
value_if_any m false d c (inr e) = sym (ap or_shared e)

pub moved_is_value : (u : Uses) (m : Mode) → u.moved ≡ true → IsMember m (allowed_by u) → m ≡ mode.Value
moved_is_value u m t h = value_if_any m u.live_out u.declared_mut rest (subst (λ b. IsMember m (of_moved b u.live_out u.declared_mut rest)) t h)
  where
    rest : ModeChoice
    rest = first_row (rows_written u ++ (rows_through u ++ rows_read u))

-- ---- what has no mode, and what has one alone

pub none_has_none : ¬ (HasMember none)
none_has_none h = by h.0 h.1
  where
    by : (m : Mode) → IsMember m none → ⊥
    by m (inl e) = apart None m e refl
    by m (inr e) = apart None m e refl

abbrev is_value : Option Mode → Bool
is_value (Some mode.Value) = true
is_value _ = false

pub value_is_not_shared : ¬ (IsMember mode.Value (one mode.Shared))
value_is_not_shared (inl e) = true≢false (sym (ap is_value e))
value_is_not_shared (inr e) = true≢false (sym (ap is_value e))
