-- Two accepted images that hold the same open the same session for each name. Assumes nothing.
use Prim.Native.Nat.{ℕ, ◌<◌}
use mathlib.Core.Path.{◌≡◌, refl, ap, ap₂, ◌∙◌}
use mathlib.Core.Bool.{Bool, true, false, cond, not}
use mathlib.Core.List.{List}
use native.Mathlib.Omega.{arith}
use borrow.Author.Tests.{ltb-true}
use lib.Dec.{ltb}
use Rattle.fields.specs.Names.{name_in, same_bytes}
use Rattle.fields.specs.Scan.{first_bad}
use Rattle.fields.proofs.Scan.{bad-same-on}
use Rattle.header.specs.Layout.{users, user_record}
use Rattle.records.specs.Fields.{user_name}
use Rattle.image.specs.Check.{IsAccepted}
use Rattle.image.specs.Lookup.{user_of_name}
use Rattle.refusals.specs.declared.Refusal.TheVariants.{NoUser}
use Rattle.sessions.specs.Opening.{session, refused, default_label, default_row_label, default_session, open_accepted, open_of}
use Rattle.moves.proofs.HoldsSame.{HoldsTheSame}

module _ {change : ℕ → ℕ} (im new : List ℕ) (same : HoldsTheSame change im new) where
  -- a name is that of the same user
  pub name-alike : (name : List ℕ) → user_of_name new name ≡ user_of_name im name
  unfolding user_of_name
  name-alike name =
      ap (λ (n : ℕ). first_bad (λ u. not (same_bytes (user_name (user_record new u)) name)) n 0) same.same_users
      ∙ bad-same-on (λ u. not (same_bytes (user_name (user_record new u)) name)) (λ u. not (same_bytes (user_name (user_record im u)) name)) (users im) 0
      (λ u low high. ap (λ (field : List ℕ). not (same_bytes (name_in field) name)) (same.user u (omega arith)).name)

  -- the user's default label and default row label are the same
  pub default_alike : (u : ℕ) → u < users im → default_session new u ≡ default_session im u
  unfolding default_session default_label default_row_label
  default_alike u h =
      let k = same.user u h in
      rw (k.level_default, k.compartments_default, k.groups_default, k.level_row, k.compartments_row, k.groups_row)

  opened-alike : (name : List ℕ) → open_accepted new name ≡ open_accepted im name
  unfolding open_accepted
  opened-alike name =
      ap₂ (λ (u n : ℕ). cond (ltb u n) (session (default_session new u)) (refused NoUser)) (name-alike name) same.same_users
      ∙ at (ltb (user_of_name im name) (users im)) refl
    where
      at : (t : Bool) → ltb (user_of_name im name) (users im) ≡ t
          → cond t (session (default_session new (user_of_name im name))) (refused NoUser)
          ≡ cond t (session (default_session im (user_of_name im name))) (refused NoUser)
      at true e = ap session (default_alike (user_of_name im name) (ltb-true _ _ e))
      at false e = refl

  -- so what opens for a name is the same
  pub open-alike : IsAccepted im → IsAccepted new → (name : List ℕ) → open_of new name ≡ open_of im name
  unfolding open_of
  open-alike acc acc-new name = rw (acc, acc-new) (opened-alike name)
