-- A read by a map that is judged right is the plain read. Assumes nothing.
use Rattle.std.proofs.Common.{Ok, Err}
use Prim.Native.Nat.{ℕ}
use mathlib.Core.Path.{◌≡◌, refl, ap, ◌∙◌}
use mathlib.Core.Bool.{Bool, true, false, cond}
use mathlib.Core.List.{List, [], ◌∷◌}
use Rattle.refusals.specs.declared.Refusal.{Refusal}
use Rattle.refusals.specs.declared.Refusal.TheVariants.{WrongMap}
use Rattle.refusals.specs.Answers.{on_checked, or_refuse, Amount}
use Rattle.image.specs.Lookup.{label_of_tag}
use Rattle.access.specs.Rights.{Rights}
use Rattle.access.specs.Verdicts.{known_tag, unknown_read, may_read}
use Rattle.sessions.specs.Session.{SessionMarks, session_rights}
use Rattle.maps.specs.Map.{bit_of, reads_record, map_rule}
use Rattle.maps.specs.Calls.{map_answer, judge_map_of}
use Rattle.maps.proofs.Bits.{bit_is, rule-means}
use Rattle.maps.proofs.Judged.{judged-right}
use Rattle.rows.specs.Run.{kept}
use Rattle.rows.specs.Table.{rows_of, row_tag, row_readable, readable_rows, table_answer}
use Rattle.rows.specs.Reading.{handed_out, read_rows_of}
use Rattle.rows.specs.Mapped.{tag_mapped, row_mapped, mapped_rows, read_mapped_of}

-- two tests that agree keep the same rows
pub kept_same : (test other : List ℕ → Bool) → ((row : List ℕ) → test row ≡ other row) → (rows : List (List ℕ)) → kept test rows ≡ kept other rows
kept_same test other same [] = refl
kept_same test other same (row ∷ rows) = rw (same row, kept_same test other same rows)

-- a test that all rows pass keeps all
pub kept-all : (test : List ℕ → Bool) → ((row : List ℕ) → test row ≡ true) → (rows : List (List ℕ)) → kept test rows ≡ rows
kept-all test all [] = refl
kept-all test all (row ∷ rows) = rw (all row, kept-all test all rows)

-- a tag that no label carries
pub unknown-verdict : (im : List ℕ) (rights : Rights) (tag : ℕ) → known_tag im tag ≡ false → unknown_read im rights ≡ may_read im rights tag
unfolding may_read
unknown-verdict im rights tag e = rw e

-- ---- bytes that are judged right
module _ (im : List ℕ) (rights : Rights) (bits : List ℕ) (right : map_rule im rights bits ≡ true) where
  -- the bit of a known tag's record is the verdict on the tag
  pub known-bit : (tag : ℕ) → known_tag im tag ≡ true → bit_of bits (label_of_tag im tag) ≡ may_read im rights tag
  unfolding known_tag may_read reads_record
  known-bit tag e =
      ap (λ (b : List ℕ). bit_of b (label_of_tag im tag)) (rule-means im rights bits right)
      ∙ bit_is im rights (label_of_tag im tag) ∙ rw e

  -- with the bool for unknown tags, bits give the verdict on every tag
  pub tag-mapped : (tag : ℕ) → tag_mapped im bits (unknown_read im rights) tag ≡ may_read im rights tag
  unfolding tag_mapped
  tag-mapped tag = at (known_tag im tag) refl
    where
      at : (t : Bool) → known_tag im tag ≡ t → cond t (bit_of bits (label_of_tag im tag)) (unknown_read im rights) ≡ may_read im rights tag
      at true e = known-bit tag e
      at false e = unknown-verdict im rights tag e

  -- so the same rows are handed out
  pub rows-mapped : (table : List ℕ) (w : ℕ) → mapped_rows im bits (unknown_read im rights) table w ≡ readable_rows im rights table w
  unfolding mapped_rows readable_rows
  rows-mapped table w =
      kept_same (row_mapped im bits (unknown_read im rights)) (row_readable im rights) (λ row. tag-mapped (row_tag row)) (rows_of table w)

-- ---- the call
module _ (im : List ℕ) (s : SessionMarks) (table : List ℕ) (w : ℕ) (bits buffer : List ℕ) where
  abbrev refuse : Refusal → Amount × List ℕ
  refuse r = (Err r, buffer)

  -- whatever the bytes, it is the plain read after the judgement
  pub mapped-plain : read_mapped_of im s table w bits buffer
      ≡ on_checked (table_answer im s table w) refuse
      (on_checked (map_answer im (session_rights im s) bits) refuse (handed_out (readable_rows im (session_rights im s) table w) buffer))
  unfolding read_mapped_of
  mapped-plain = ap (λ (x : Amount × List ℕ). on_checked (table_answer im s table w) refuse x) (at (map_rule im (session_rights im s) bits) refl)
    where
      at : (t : Bool) → map_rule im (session_rights im s) bits ≡ t
          → on_checked (or_refuse t WrongMap (Ok tt)) refuse (handed_out (mapped_rows im bits (unknown_read im (session_rights im s)) table w) buffer)
          ≡ on_checked (or_refuse t WrongMap (Ok tt)) refuse (handed_out (readable_rows im (session_rights im s) table w) buffer)
      at true e = ap (λ (rows : List (List ℕ)). handed_out rows buffer) (rows-mapped im (session_rights im s) bits e table w)
      at false e = refl

  -- where the bytes are judged right, the plain read
  pub mapped-right : judge_map_of im s bits ≡ (Ok tt) → read_mapped_of im s table w bits buffer ≡ read_rows_of im s table w buffer
  unfolding read_rows_of
  mapped-right e = mapped-plain ∙ rw (judged-right im s bits e)

  -- where they are wrong and nothing before is, 20, whatever rows there are
  pub mapped-wrong : table_answer im s table w ≡ (Ok tt) → map_rule im (session_rights im s) bits ≡ false
      → read_mapped_of im s table w bits buffer ≡ refuse WrongMap
  mapped-wrong a e = mapped-plain ∙ rw (a, e)
