-- 6 is given for an ill formed line and for no other; and no line is refused with 3.
-- Assumes nothing.
use mathlib.Core.Path.{◌≡◌, refl}
use mathlib.Core.Bool.{Bool, false}
use mathlib.Core.List.{List}
use mathlib.Core.Logic.{◌⊎◌, inl, inr}
use Prim.Native.Nat.{ℕ}
use lib.Dec.{eqb}
use Rattle.text.proofs.ChoiceLaws.{picks}
use Rattle.text.proofs.RowsLaws.{not_given}
use Rattle.ranges.specs.declared.RangeSet.{RangeSet}
use Rattle.state.specs.Refusals.{none, line_form, has_byte}
use Rattle.state.specs.Stashes.{Stash}
use Rattle.command.specs.declared.Command.{Command}
use Rattle.command.specs.declared.Command.TheVariants as command
use Rattle.command.specs.declared.source.Source.{Source}
use Rattle.command.specs.Faults.{fault_of}
use Rattle.command.specs.Patching.{patching_of}
use Rattle.rules.specs.Move.{sourced_rows, sourced_refusal, move_refusal, target_differs, over_result, patch_past, patch_refusal, bsdiff_refusal}
use Rattle.rules.specs.Rules.{target_rows, stash_rows, stash_refusal, free_rows, free_refusal, refusal_for}
use Rattle.rules.specs.declared.Terms.{Terms}
use Rattle.std.specs.Prelude.{Option, None}

-- a command without a fault, and a number that reports no byte
pub record NoForm (f : Option ℕ) (n : ℕ) : Type 0 where
  pub none : f ≡ None
  pub number : has_byte n ≡ false

module _ (l : List ℕ) (terms : Terms) (held : List Stash) where
  sourced-none : (over differs : Bool) (target : RangeSet) (n : ℕ) (source : Source) →
      has_byte (sourced_refusal l terms held over differs target n source) ≡ false
  unfolding sourced_refusal
  sourced-none over differs target n source = not_given has_byte (sourced_rows l terms held over differs target n source) none refl refl

  bsdiff_none : (target : RangeSet) (n : ℕ) (source : Source) → has_byte (bsdiff_refusal l terms held target n source) ≡ false
  unfolding bsdiff_refusal
  bsdiff_none target n source =
      let r = sourced_refusal l terms held (over_result terms target) false target n source in
      picks (λ (m : ℕ). has_byte m ≡ false) (eqb r none) (patch_refusal terms (patching_of l)) r
      (λ e. picks (λ (m : ℕ). has_byte m ≡ false) (patch_past terms (patching_of l)) _ none (λ t. refl) (λ t. refl))
      (λ e. sourced-none (over_result terms target) false target n source)

  pub form-is : (hash : List ℕ) {c : Command} {p : ℕ} → c ≡ command.Bad p → refusal_for l terms held hash c ≡ line_form
  unfolding refusal_for
  form-is hash e = rw e

  -- an ill formed line, or one whose refusal, if any, reports no byte
  pub form_or_none : (hash : List ℕ) (c : Command) → ((p : ℕ) × (c ≡ command.Bad p)) ⊎ NoForm (fault_of c) (refusal_for l terms held hash c)
  unfolding refusal_for move_refusal stash_refusal free_refusal fault_of
  form_or_none hash (command.Zero set) = inr (record { none = refl; number = not_given has_byte (target_rows terms set) none refl refl })
  form_or_none hash (command.Erase set) = inr (record { none = refl; number = not_given has_byte (target_rows terms set) none refl refl })
  form_or_none hash (command.New set) = inr (record { none = refl; number = not_given has_byte (target_rows terms set) none refl refl })
  form_or_none hash (command.Move target n source) = inr (record { none = refl; number = sourced-none false (target_differs target n) target n source })
  form_or_none hash (command.Bsdiff target n source) = inr (record { none = refl; number = bsdiff_none target n source })
  form_or_none hash (command.Stash set) = inr (record { none = refl; number = not_given has_byte (stash_rows terms held hash set) none refl refl })
  form_or_none hash command.Free = inr (record { none = refl; number = not_given has_byte (free_rows held hash) none refl refl })
  form_or_none hash command.Unsupported = inr (record { none = refl; number = refl })
  form_or_none hash (command.Bad p) = inl (p, refl)
