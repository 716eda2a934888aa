-- What the judgement of a lent map means. Assumes nothing.
use Rattle.std.proofs.Common.{Ok, Err}
use Prim.Native.Nat.{ℕ}
use mathlib.Core.Path.{◌≡◌, refl}
use mathlib.Core.Bool.{Bool, true, false}
use mathlib.Core.List.{List}
use Rattle.refusals.specs.declared.Refusal.TheVariants.{WrongMap}
use Rattle.refusals.specs.Answers.{on_checked, or_refuse, Checked}
use Rattle.image.proofs.Accepted.{refused-not}
use Rattle.sessions.specs.Session.{SessionMarks, lent_answer, session_rights}
use Rattle.maps.specs.Map.{map_of, map_rule}
use Rattle.maps.specs.Calls.{judge_map_of}
use Rattle.maps.proofs.Bits.{rule-holds}

module _ (im : List ℕ) (s : SessionMarks) (bits : List ℕ) where
  both : judge_map_of im s bits ≡ (Ok tt) → (lent_answer im s ≡ Ok tt) × (map_rule im (session_rights im s) bits ≡ true)
  unfolding judge_map_of
  both = at (lent_answer im s) (map_rule im (session_rights im s) bits)
    where
      at : (c : Checked) (t : Bool) → on_checked c Err (or_refuse t WrongMap (Ok tt)) ≡ (Ok tt) → (c ≡ Ok tt) × (t ≡ true)
      at (Ok tt) true e = (refl, refl)
      at (Ok tt) false e = absurd (refused-not WrongMap e)
      at (Err r) t e = absurd (refused-not r e)

  -- of an accepted one
  pub judged-lent : judge_map_of im s bits ≡ (Ok tt) → lent_answer im s ≡ Ok tt
  judged-lent e = (both e).0

  pub judged-right : judge_map_of im s bits ≡ (Ok tt) → map_rule im (session_rights im s) bits ≡ true
  judged-right e = (both e).1

  -- the map is accepted
  pub judged-map : lent_answer im s ≡ (Ok tt) → bits ≡ map_of im (session_rights im s) → judge_map_of im s bits ≡ Ok tt
  unfolding judge_map_of
  judged-map a is = rw (a, is, rule-holds im (session_rights im s))
