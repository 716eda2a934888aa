-- The image that a move writes: it can be laid out, its edition is the move's, its counts are the old ones, and its records are the old ones, moved.
-- Assumes nothing.
use Prim.Native.Nat.{ℕ, zero, suc, ◌≤◌, ◌<◌}
use mathlib.Core.Path.{◌≡◌, refl, ap, ◌∙◌, subst}
use mathlib.Core.Bool.{Bool, true, ◌&&◌}
use mathlib.Core.List.{List, [], ◌∷◌, map}
use native.Mathlib.Omega.{arith}
use borrow.Author.Tests.{leb-true}
use lib.Dec.{eqb}
use lib.ListN.{length, get_or, length-map}
use Rattle.fields.proofs.Both.{parts}
use Rattle.header.specs.declared.edition.Edition.{Edition}
use Rattle.header.specs.declared.edition.Edition.TheVariants.{One, Two}
use Rattle.header.specs.declared.layout.Kind.{Kind}
use Rattle.header.specs.declared.layout.Kind.TheVariants.{Component, Label, User}
use Rattle.header.specs.Layout.{edition_of, groups, users, labels, components, counts_of}
use Rattle.header.specs.Layout.{record_size, count_of, record_at, records_of, Fitted}
use Rattle.header.specs.declared.limits.Limits.{Limits}
use Rattle.header.specs.Limits.{limits_in, limits_of}
use Rattle.header.proofs.Inside.{record-length, records-count, record_of}
use Rattle.records.proofs.MeaningHeader.{HeaderKept}
use Rattle.writing.specs.Laid.{Fits, Limited}
use Rattle.writing.proofs.Counted.{edition-is, counts-are, count-is}
use Rattle.writing.proofs.ReadBack.{record_is, records-are}
use Rattle.moves.specs.declared.target.Move.{Move}
use Rattle.moves.specs.declared.target.Move.TheVariants.{Up, Clear}
use Rattle.moves.specs.Moved.{edition_after, new_record, new_records, new_counts, new_image}
use Rattle.moves.specs.Holders.{holders}
use Rattle.moves.specs.Moving.{move_limits_rule}
use Rattle.moves.proofs.Alike.{new-length}

-- what is read at a place of a list under f
pub map_at : (f : List ℕ → List ℕ) (l : List (List ℕ)) (i : ℕ) → i < length l → get_or (map f l) i [] ≡ f (get_or l i [])
map_at f [] i h = absurd (omega arith)
map_at f (x ∷ xs) zero h = refl
map_at f (x ∷ xs) (suc i) h = map_at f xs i (omega arith)

-- edition 1 has at most 64 groups
pub old-groups : (im : List ℕ) → edition_of im ≡ One → groups im ≤ (limits_of im).groups → groups im ≤ 64
old-groups im old h = subst (λ (e : Edition). groups im ≤ (limits_in e).groups) old h

module _ (which : Move) (im : List ℕ) where
  pub new-count : (kind : Kind) → length (new_records which im kind) ≡ count_of im kind
  new-count kind = length-map (records_of im kind) (new_record which kind) ∙ records-count im kind

  pub new-record : (kind : Kind) (i : ℕ) → i < count_of im kind → get_or (new_records which im kind) i [] ≡ new_record which kind (record_at im kind i)
  new-record kind i h =
      map_at (new_record which kind) (records_of im kind) i (omega (arith, records-count im kind)) ∙ ap (new_record which kind) (record_of im kind i h)

-- what a move asks of an accepted image of edition 1, beside room in the buffer: the move up, that edition 2 has room for the labels and the users and that
-- nobody holds COMPACCESS
abbrev pub taken_rule : Move → List ℕ → Bool
taken_rule Up im = move_limits_rule im && eqb (length (holders im)) 0
taken_rule Clear im = true

-- the new edition has room for the counts
module _ (im : List ℕ) (k : HeaderKept im) (old : edition_of im ≡ One) where
  in_one : (count : Limits → ℕ) (n : ℕ) → n ≤ count (limits_of im) → n ≤ count (limits_in One)
  in_one count n h = subst (λ (e : Edition). n ≤ count (limits_in e)) old h

  pub new-limited : (which : Move) → taken_rule which im ≡ true
      → Limited (new_counts which im) (length (new_records which im User)) (length (new_records which im Label))
  unfolding move_limits_rule
  new-limited Up taken =
      record {
        levels_some = k.levels_some;
        levels_limit = k.levels_limit;
        compartments_limit = k.compartments_limit;
        groups_limit = let few : groups im ≤ (limits_in Two).groups = omega (arith, old-groups im old k.groups_limit) in few;
        users_limit = rw (new-count Up im User) (leb-true _ _ (parts _ _ (parts _ _ taken).0).1);
        labels_limit = rw (new-count Up im Label) (leb-true _ _ (parts _ _ (parts _ _ taken).0).0);
      }
  new-limited Clear taken =
      record {
        levels_some = k.levels_some;
        levels_limit = k.levels_limit;
        compartments_limit = k.compartments_limit;
        groups_limit = in_one (λ l. l.groups) (groups im) k.groups_limit;
        users_limit = rw (new-count Clear im User) (in_one (λ l. l.users) (users im) k.users_limit);
        labels_limit = rw (new-count Clear im Label) (in_one (λ l. l.labels) (labels im) k.labels_limit);
      }

-- a record of the old image has the size that edition 1 gives it
pub old-length : (im : List ℕ) → Fitted im → edition_of im ≡ One → (kind : Kind) (i : ℕ) → i < count_of im kind
    → length (record_at im kind i) ≡ record_size One kind
old-length im fit old kind i h = record-length im fit kind i h ∙ ap (λ (e : Edition). record_size e kind) old

module _ (which : Move) (im : List ℕ) (fit : Fitted im) (old : edition_of im ≡ One) where
  -- so the new records can be laid out
  pub new-fits : Fits (new_counts which im) (new_records which im)
  unfolding components
  new-fits =
      record {
        sizes = λ kind i h.
            let here : i < count_of im kind = omega (arith, new-count which im kind) in
            ap length (new-record which im kind i here) ∙ new-length which kind (record_at im kind i) (old-length im fit old kind i here);
        components = new-count which im Component;
      }

  -- ---- what the new image tells of itself
  pub moved-edition : edition_of (new_image which im) ≡ edition_after which
  unfolding new_image
  moved-edition = edition-is (new_counts which im) (new_records which im) new-fits

  pub moved-counts : counts_of (new_image which im) ≡ new_counts which im
  unfolding new_image
  moved-counts = counts-are (new_counts which im) (new_records which im) new-fits

  pub moved-count : (kind : Kind) → count_of (new_image which im) kind ≡ count_of im kind
  unfolding new_image
  moved-count kind = count-is (new_counts which im) (new_records which im) new-fits kind ∙ new-count which im kind

  pub moved-records : (kind : Kind) → records_of (new_image which im) kind ≡ new_records which im kind
  unfolding new_image
  moved-records kind = records-are (new_counts which im) (new_records which im) new-fits kind

  pub moved-record : (kind : Kind) (i : ℕ) → i < count_of im kind → record_at (new_image which im) kind i ≡ new_record which kind (record_at im kind i)
  unfolding new_image
  moved-record kind i h =
      record_is (new_counts which im) (new_records which im) new-fits kind i (omega (arith, new-count which im kind)) ∙ new-record which im kind i h
