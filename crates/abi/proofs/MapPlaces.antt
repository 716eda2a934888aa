-- The place that a refusal tells fits its 32 bits, for the calls on maps. Assumes nothing.
use Rattle.std.proofs.Common.{Ok, Err}
use Prim.Native.Nat.{ℕ}
use mathlib.Core.Path.{◌≡◌, refl}
use mathlib.Core.Bool.{Bool, true, false}
use mathlib.Core.List.{List}
use native.Mathlib.Omega.{arith}
use Rattle.refusals.specs.declared.Refusal.TheVariants.{WrongMap}
use Rattle.refusals.specs.Answers.{on_checked, or_refuse, checked_given, PlaceFits, Amount, Checked, amount_given}
use Rattle.buffers.specs.Filling.{unfilled, written_to}
use Rattle.sessions.specs.Session.{SessionMarks, lent_answer, session_rights}
use Rattle.maps.specs.Map.{map_of, map_rule}
use Rattle.maps.specs.Calls.{make_map_of, judge_map_of}
use Rattle.abi.proofs.Places.{lent_fits, written-fits}

module _ (im : List ℕ) (s : SessionMarks) where
  pub map-fits : (buffer : List ℕ) → PlaceFits (amount_given (make_map_of im s buffer).0)
  unfolding make_map_of
  map-fits buffer = at (lent_answer im s) refl
    where
      bits : List ℕ
      bits = map_of im (session_rights im s)

      at : (c : Checked) → lent_answer im s ≡ c
          → PlaceFits (amount_given (on_checked {A = Amount × List ℕ} c (unfilled buffer) (written_to buffer bits)).0)
      at (Ok tt) d = written-fits buffer bits
      at (Err q) d = lent_fits im s q d

  pub judge-fits : (bits : List ℕ) → PlaceFits (checked_given (judge_map_of im s bits))
  unfolding judge_map_of
  judge-fits bits = at (lent_answer im s) refl (map_rule im (session_rights im s) bits)
    where
      at : (c : Checked) → lent_answer im s ≡ c → (t : Bool) → PlaceFits (checked_given (on_checked c Err (or_refuse t WrongMap (Ok tt))))
      at (Ok tt) d true = omega arith
      at (Ok tt) d false = omega arith
      at (Err q) d t = lent_fits im s q d
