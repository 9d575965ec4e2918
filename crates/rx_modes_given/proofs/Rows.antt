-- The rows of the table of modes for what is given away: it has no mode, or Value alone; and unless it is moved it has none where it is needed
-- behind the run.
use Rattle.std.proofs.Common.{◌≡◌, refl, sym, ◌∙◌, ap, subst, ◌⊎◌, inl, inr, Bool, true, false, not, ◌&&◌, ◌||◌, true≢false, if◌then◌else◌}
use Rattle.rx_modes_policy.specs.declared.uses.Mode.{Mode}
use Rattle.rx_modes_policy.specs.declared.uses.Mode.TheVariants as mode
use Rattle.rx_modes_policy.specs.declared.uses.Uses.{Uses}
use Rattle.rx_modes_policy.specs.declared.choices.ModeChoice.{ModeChoice}
use Rattle.rx_modes_policy.specs.Allowed.{IsMember, HasMember, allowed_by, first_row, rows_read, one, two, none, or_shared}
use Rattle.rx_modes_uses.proofs.Table.{moved_is_value, none_has_none}
use Rattle.rx_modes_given.proofs.Telling.{by_uses}

never : {P : Type 0} → false ≡ true → P
never e = absurd (true≢false (sym e))

only : (m n : Mode) → IsMember m (one n) → m ≡ n
only m n (inl e) = sym (ap or_shared e)
only m n (inr e) = sym (ap or_shared e)

no_mode : {P : Type 0} (m : Mode) → IsMember m none → P
no_mode m h = absurd (none_has_none (m, h))

-- ---- the table of what is not moved: behind a row for what is written, those for what is changed behind a reference, and others

abbrev of_unmoved : (written ref through mut lent out live : Bool) → ModeChoice → ModeChoice
of_unmoved w r t d l o n c =
    if w && not d then none else if w then one mode.Mut
    else if r && t && not d then one mode.Reborrow else if r && t && d && not l && not o then two mode.Reborrow mode.Mut else if r && t then one mode.Mut
    else if t && d then one mode.Mut else if t && not n then one mode.Value else if t then none else c

-- what is told by the uses, with the table's choice for these
abbrev whole_table : Bool → (written ref through mut lent out live : Bool) → ModeChoice → ModeChoice
whole_table v w r t d l o n c = if v && n && not d then none else if v then one mode.Value else of_unmoved w r t d l o n c

unmoved_value : (m : Mode) (w r t d l o n : Bool) (c : ModeChoice) → (t && not (r || d)) ≡ true → IsMember m (of_unmoved w r t d l o n c) → (m ≡ mode.Value) × (n ≡ false)
unmoved_value m w r false d l o n c g h = never g
unmoved_value m w true true d l o n c g h = never g
unmoved_value m w false true true l o n c g h = never g
unmoved_value m true false true false l o n c g h = no_mode m h
unmoved_value m false false true false l o true c g h = no_mode m h
unmoved_value m false false true false l o false c g h = (only m mode.Value h, refl)

given_so : (m : Mode) (v w r t d l o n : Bool) (c : ModeChoice) → (v || (t && not (r || d))) ≡ true → v ≡ false → IsMember m (whole_table v w r t d l o n c) → (m ≡ mode.Value) × (n ≡ false)
given_so m true w r t d l o n c g f h = never (sym f)
given_so m false w r t d l o n c g f h = unmoved_value m w r t d l o n c g h

pub unmoved_given : (u : Uses) (m : Mode) → by_uses u ≡ true → u.moved ≡ false → IsMember m (allowed_by u) → (m ≡ mode.Value) × (u.live_out ≡ false)
unmoved_given u m g f h = given_so m u.moved u.written u.mut_ref u.through u.declared_mut u.lent u.mut_out u.live_out (first_row (rows_read u)) g f h

pub given_value : (u : Uses) (m : Mode) → by_uses u ≡ true → IsMember m (allowed_by u) → m ≡ mode.Value
given_value u m g h = by u.moved refl
  where
    by : (b : Bool) → u.moved ≡ b → m ≡ mode.Value
    by true e = moved_is_value u m e h
    by false e = (unmoved_given u m g e h).0

-- ---- what else may be passed by value

abbrev of_read : (ref lent out copy : Bool) → ModeChoice
of_read r l o c =
    if r && (l || o) then one mode.Shared else if r then two mode.View mode.Shared else if c && (l || o) then one mode.Shared
    else if c then two mode.Value mode.Shared else if true then one mode.Shared else none

abbrev is_value : Mode → Bool
is_value mode.Value = true
is_value _ = false

not_one : {P : Type 0} (n : Mode) → is_value n ≡ false → IsMember mode.Value (one n) → P
not_one n e h = absurd (true≢false (ap is_value (only mode.Value n h) ∙ e))

not_two : {P : Type 0} (m n : Mode) → is_value m ≡ false → is_value n ≡ false → IsMember mode.Value (two m n) → P
not_two m n e f (inl h) = absurd (true≢false (sym (ap is_value (ap or_shared h)) ∙ e))
not_two m n e f (inr h) = absurd (true≢false (sym (ap is_value (ap or_shared h)) ∙ f))

read_value : (r l o c : Bool) → IsMember mode.Value (of_read r l o c) → c ≡ true
read_value r l o true h = refl
read_value true true o false h = not_one mode.Shared refl h
read_value true false true false h = not_one mode.Shared refl h
read_value true false false false h = not_two mode.View mode.Shared refl refl h
read_value false l o false h = not_one mode.Shared refl h

unmoved_or_copy : (w r t d l o n c : Bool) → IsMember mode.Value (of_unmoved w r t d l o n (of_read r l o c)) → ((t && not (r || d)) ≡ true) ⊎ (c ≡ true)
unmoved_or_copy w r false d l o n true h = inr refl
unmoved_or_copy w r true d l o n true h = inr refl
unmoved_or_copy true r t false l o n false h = no_mode mode.Value h
unmoved_or_copy true r t true l o n false h = not_one mode.Mut refl h
unmoved_or_copy false true true false l o n false h = not_one mode.Reborrow refl h
unmoved_or_copy false true true true true o n false h = not_one mode.Mut refl h
unmoved_or_copy false true true true false true n false h = not_one mode.Mut refl h
unmoved_or_copy false true true true false false n false h = not_two mode.Reborrow mode.Mut refl refl h
unmoved_or_copy false false true true l o n false h = not_one mode.Mut refl h
unmoved_or_copy false false true false l o n false h = inl refl
unmoved_or_copy false true false d l o n false h = inr (read_value true l o false h)
unmoved_or_copy false false false d l o n false h = inr (read_value false l o false h)

whole_or_copy : (v w r t d l o n c : Bool) → IsMember mode.Value (whole_table v w r t d l o n (of_read r l o c)) → ((v || (t && not (r || d))) ≡ true) ⊎ (c ≡ true)
whole_or_copy true w r t d l o n c h = inl refl
whole_or_copy false w r t d l o n c h = unmoved_or_copy w r t d l o n c h

pub given_or_copy : (u : Uses) → IsMember mode.Value (allowed_by u) → (by_uses u ≡ true) ⊎ (u.copy ≡ true)
given_or_copy u h = whole_or_copy u.moved u.written u.mut_ref u.through u.declared_mut u.lent u.mut_out u.live_out u.copy h
