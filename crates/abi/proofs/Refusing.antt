-- Every call on a session refuses as soon as the session is refused. Assumes nothing.
use Rattle.std.proofs.Common.{Err}
use Prim.Native.Nat.{ℕ}
use mathlib.Core.Path.{◌≡◌}
use mathlib.Core.List.{List}
use Rattle.refusals.specs.declared.Refusal.{Refusal}
use Rattle.sessions.specs.Session.{SessionMarks, lent_answer}
use Rattle.sessions.specs.Changes.{set_label_of, set_row_label_of}
use Rattle.sessions.specs.Asking.{may_read_of, may_write_of}
use Rattle.buffers.specs.Filling.{unfilled}
use Rattle.maps.specs.Calls.{make_map_of, judge_map_of}
use Rattle.rows.specs.Table.{table_answer}
use Rattle.rows.specs.Reading.{read_rows_of}
use Rattle.rows.specs.Updating.{update_row_of}
use Rattle.rows.specs.Masked.{masked_verdict_of}
use Rattle.rows.specs.Mapped.{read_mapped_of}

-- ---- every call on a session refuses as soon as the session is refused
module _ (im : List ℕ) (s : SessionMarks) (r : Refusal) (e : lent_answer im s ≡ Err r) where
  pub set-label-refused : (text : List ℕ) → set_label_of im s text ≡ (s, Err r)
  unfolding set_label_of
  set-label-refused text = rw e

  pub set-row-label-refused : (text : List ℕ) → set_row_label_of im s text ≡ (s, Err r)
  unfolding set_row_label_of
  set-row-label-refused text = rw e

  pub may-read-refused : (tag : ℕ) → may_read_of im s tag ≡ Err r
  unfolding may_read_of
  may-read-refused tag = rw e

  pub may-write-refused : (tag : ℕ) → may_write_of im s tag ≡ Err r
  unfolding may_write_of
  may-write-refused tag = rw e

  pub read-refused : (table : List ℕ) (w : ℕ) (buffer : List ℕ) → read_rows_of im s table w buffer ≡ (Err r, buffer)
  unfolding read_rows_of table_answer
  read-refused table w buffer = rw e

  pub update-refused : (table : List ℕ) (w n : ℕ) (payload : List ℕ) → update_row_of im s table w n payload ≡ (Err r, table)
  unfolding update_row_of table_answer
  update-refused table w n payload = rw e

  pub masked-refused : (table : List ℕ) (w place : ℕ) → masked_verdict_of im s table w place ≡ Err r
  unfolding masked_verdict_of table_answer
  masked-refused table w place = rw e

  pub make-map-refused : (buffer : List ℕ) → make_map_of im s buffer ≡ unfilled buffer r
  unfolding make_map_of
  make-map-refused buffer = rw e

  pub judge-map-refused : (bits : List ℕ) → judge_map_of im s bits ≡ Err r
  unfolding judge_map_of
  judge-map-refused bits = rw e

  pub read-mapped-refused : (table : List ℕ) (w : ℕ) (bits buffer : List ℕ) → read_mapped_of im s table w bits buffer ≡ (Err r, buffer)
  unfolding read_mapped_of table_answer
  read-mapped-refused table w bits buffer = rw e
